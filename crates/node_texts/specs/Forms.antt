-- A monitor in each form.
use Rattle.std.specs.Prelude.{ℕ, List}
use Rattle.erl_term.specs.declared.term.Reference.{Reference}
use Rattle.monitor_core.specs.declared.monitor.Registration.{Registration}
use Rattle.monitor_core.specs.declared.monitor.Watch.{Watch}
use Rattle.node_texts.specs.Monitors.{other_text, own_text}
use Rattle.node_texts.specs.Whole.{other_line, own_line}
use Rattle.node_texts.specs.declared.form.Form.{Form}
use Rattle.node_texts.specs.declared.form.Form.TheVariants.{Line, Part}

abbrev pub own_in : Form → Reference × Watch → List ℕ
own_in Part = own_text
own_in Line = own_line

abbrev pub other_in : Form → Reference × Registration → List ℕ
other_in Part = other_text
other_in Line = other_line
