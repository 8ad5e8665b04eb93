-- The processes and references that a script's names name.
use Rattle.std.specs.Prelude.{◌≡◌, ℕ, List, Option, Some, if◌then◌else◌}
use Rattle.std.specs.Str.{bytes_eq}
use Rattle.indexmap.specs.IndexMap.{get_by_text, spare}
use Rattle.erl_term.specs.Data.{Data, pid, reference}
use Rattle.script_terms.specs.declared.names.Named.{Named}
use Rattle.script_terms.specs.declared.names.Named.TheVariants.{Process, Monitor}
use Rattle.script_terms.specs.declared.names.Names.{Names}

-- the process or the reference of each name that is bound
abbrev pub Look : Type 0
Look = List ℕ → Option Named

-- the names are bound to just that
pub record Knows (names : Names) (look : Look) : Type 0 where
  pub bound : (name : List ℕ) → get_by_text names.bound name ≡ look name

-- one more name is bound, or the same name anew
abbrev pub with_name : Look → List ℕ → Named → Look
with_name look word named = λ name. if bytes_eq word name then Some named else look name

-- as many more names can be bound without asking for memory
abbrev pub room : Names → ℕ
room names = spare names.bound

-- the term that it is
abbrev pub named_data : Named → Data
named_data (Process p) = pid p
named_data (Monitor r) = reference r
