use Rattle.dist_model.proofs.laws.travelling_signals_fit.Goals as goal
use Rattle.dist_model.proofs.Sendable.{every_signal_fits, every_signal_fits_within}

pub returns-clause-travelling : goal.returns-clause-travelling
returns-clause-travelling c = every_signal_fits

pub returns-clause-within : goal.returns-clause-within
returns-clause-within c = every_signal_fits_within
