use Rattle.conn_pieces.proofs.Taken.{given, taken}
use Rattle.conn_pieces.proofs.laws.pieces_are_the_stream.Goals as goal

pub returns-clause-given : goal.returns-clause-given
returns-clause-given c = λ own front more rest takings h. given own more front rest takings h

pub returns-clause-taken : goal.returns-clause-taken
returns-clause-taken c = λ own front more rest takings w h. taken own more front rest takings w h
