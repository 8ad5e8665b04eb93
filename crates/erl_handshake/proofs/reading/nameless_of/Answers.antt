use Rattle.erl_handshake.proofs.reading.nameless_of.Goals as goal

pub returns-in-114 : goal.returns-in-114
returns-in-114 c = rw c.in-114.is c.challenge_reply_of.ensures

pub returns-in-97 : goal.returns-in-97
returns-in-97 c = rw c.in-97.is c.challenge_ack_of.ensures
