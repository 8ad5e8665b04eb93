use Rattle.erl_control.proofs.laws.fits_test.Goals as goal
use Rattle.erl_control.proofs.FitsTest.{fits_test}

pub returns : goal.returns
returns c = record { test = fits_test }
