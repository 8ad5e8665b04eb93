use Rattle.c_library.proofs.Said.{name_utf8}
use Rattle.c_library.proofs.saying.is_name.Goals as goal

pub returns-in-Err : goal.returns-in-Err
returns-in-Err c = (λ t. absurd cc, λ n. absurd (name_utf8 c.args.text.now c.in-Err.ensures.cases.0 n))
