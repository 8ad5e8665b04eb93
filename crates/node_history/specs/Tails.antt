-- What stands behind the items of a list.
use Rattle.std.specs.Prelude.{Option, None, Some, Box}
use Rattle.std.specs.declared.alloc.Global.{Global}
use Rattle.erl_term.specs.Data.{Data}
use Rattle.erl_term.specs.View.{view}
use Rattle.erl_term.specs.declared.term.Term.{Term}

abbrev pub tail_of : Option (Box Term Global) → Option Data
tail_of None = None
tail_of (Some term) = Some (view term.value)
