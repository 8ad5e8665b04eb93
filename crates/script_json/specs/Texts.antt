-- Texts in JSON.
-- (RFC 8259, The JavaScript Object Notation.)
use Rattle.std.specs.Prelude.{ℕ, List, Option, None, Some}
use Rattle.erl_names.specs.declared.trunk.TrunkId.{TrunkId}
use Rattle.erl_term.specs.Data as terms
use Rattle.erl_term.specs.declared.term.Pid.{Pid}
use Rattle.erl_term.specs.declared.term.Reference.{Reference}
use Rattle.script_terms.specs.Printing.{atom_text, pid_text, reference_text, term_text}
use Rattle.script_texts.specs.Texts.{trunk_text}
use Rattle.serde_json.specs.Data.{Data, null, string}

-- as scripts print them
abbrev pub process : Pid → Data
process p = string (pid_text p)

abbrev pub monitor : Reference → Data
monitor r = string (reference_text r)

abbrev pub atom : List ℕ → Data
atom name = string (atom_text name)

abbrev pub payload : terms.Data → Data
payload t = string (term_text t)

abbrev pub connection : TrunkId → Data
connection trunk = string (trunk_text trunk)

abbrev pub connection_if : Option TrunkId → Data
connection_if None = null
connection_if (Some trunk) = connection trunk
