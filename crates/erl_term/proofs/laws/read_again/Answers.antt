use Rattle.std.proofs.Common.{ℕ, List, ◌++◌, length, sym, refl, subst, arith}
use Rattle.std.proofs.lemmas.List.{take_at, length-append}
use Rattle.erl_term.specs.Spelling.{IsSpelling}
use Rattle.erl_term.specs.Data.{Data}
use Rattle.erl_term.specs.Faults.{IsAtFront}
use Rattle.erl_term.specs.Canonical.{canonical, IsWritable}
use Rattle.erl_term.proofs.Canonical.{canon_is}
use Rattle.erl_term.proofs.laws.read_again.Goals as goal

stands : (t : Data) (rest : List ℕ) → IsWritable t → IsAtFront (canonical t ++ rest) t (length (canonical t))
stands t rest w = record {
  within = omega (arith, length-append (canonical t) rest);
  is_text = subst (IsSpelling 64 t) (sym (take_at (canonical t) rest (length (canonical t)) refl)) (canon_is t 64 w.0 w.1);
}

pub returns : goal.returns
returns c = λ t rest w. (stands t rest w, w.2)
