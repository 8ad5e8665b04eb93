use Rattle.erl_handshake.proofs.FlagBits.{place, covers, has_all, all_offered, offered_all}
use Rattle.erl_handshake.proofs.laws.flags_by_bits.Goals as goal

pub returns-clause-one_bit : goal.returns-clause-one_bit
returns-clause-one_bit c = place

pub returns-clause-all : goal.returns-clause-all
returns-clause-all c = λ word required. (covers word required, has_all word required)

pub returns-clause-mandatory : goal.returns-clause-mandatory
returns-clause-mandatory c = λ word. (offered_all word, all_offered word)
