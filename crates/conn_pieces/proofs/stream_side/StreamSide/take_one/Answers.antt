use Rattle.conn_pieces.proofs.Taking.{rest_of}
use Rattle.conn_pieces.proofs.stream_side.StreamSide.take_one.Goals as goal

pub returns-in_default-clause-none : goal.returns-in_default-clause-none
returns-in_default-clause-none c = λ _. rest_of _ _ _ _ _ _ _ c.in_default.is c.in_ok-arrival.ensures.due c.in_ok-arrival.ensures.stands c.in_ok-arrival.ensures.left
