use Rattle.c_library.proofs.messages.nameless_at.Goals as goal

pub returns-in-115 : goal.returns-in-115
returns-in-115 c = rw c.in-115.is c.status_at.ensures

pub returns-in-114 : goal.returns-in-114
returns-in-114 c = rw c.in-114.is c.reply_at.ensures

pub returns-in-97 : goal.returns-in-97
returns-in-97 c = rw c.in-97.is c.ack_at.ensures
