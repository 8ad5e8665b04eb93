use Rattle.conn_core.proofs.DialerKept.{dialer_up}
use Rattle.conn_core.proofs.AcceptorKept.{acceptor_up}
use Rattle.conn_core.proofs.laws.up_only_by_digest.Goals as goal

pub returns-clause-dialer : goal.returns-clause-dialer
returns-clause-dialer c = dialer_up

pub returns-clause-acceptor : goal.returns-clause-acceptor
returns-clause-acceptor c = acceptor_up
