use Rattle.dist_model.proofs.laws.agreement.Goals as goal
use Rattle.dist_model.proofs.Run.{always}
use Rattle.dist_model.proofs.Safety.{agreement, agreement_in_quiet, agreement_within, good_opening}
use Rattle.dist_model.specs.Claims.{Agreement, AgreementInQuiet, AgreementWithin}

pub returns-clause-connected : goal.returns-clause-connected
returns-clause-connected c = always Agreement good_opening agreement

pub returns-clause-within : goal.returns-clause-within
returns-clause-within c = always AgreementWithin good_opening agreement_within

pub returns-clause-quiet : goal.returns-clause-quiet
returns-clause-quiet c = always AgreementInQuiet good_opening agreement_in_quiet
