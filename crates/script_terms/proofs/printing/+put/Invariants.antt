use Rattle.std.proofs.Common.{◌≡◌, ◌++◌, take, string_bytes}
use Rattle.erl_term.specs.View.{items_view}
use Rattle.script_terms.specs.Printing.{items_text}
use Rattle.script_terms.proofs.printing.+put.Given as goal

abbrev pub invariant-put_items-loop-i : goal.invariant-put_items-loop-i
invariant-put_items-loop-i l = string_bytes l.out ≡ string_bytes l.fn.out ++ items_text (items_view (take l.i l.items))
