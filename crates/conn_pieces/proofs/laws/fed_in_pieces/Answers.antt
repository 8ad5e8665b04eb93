use Rattle.conn_pieces.proofs.Cut.{once, whole}
use Rattle.conn_pieces.proofs.laws.fed_in_pieces.Goals as goal

pub returns-clause-whole : goal.returns-clause-whole
returns-clause-whole c = λ own word side kept pieces arrivals end rest h. whole own word side kept pieces arrivals end rest h

pub returns-clause-once : goal.returns-clause-once
returns-clause-once c = λ own word side stream arrivals others end last rest left b g h.
    once c.one_arrival.ensures own word side stream arrivals others end last rest left b g h
