use Rattle.std.proofs.Common.{◌≡◌, get_or, rules, refl}
use Rattle.std.proofs.lemmas.Result.{IfOk-weaker}
use Rattle.erl_control.proofs.Sequence.{front_is}
use Rattle.control_beginnings.proofs.Wrapping.{nil_of}
use Rattle.control_beginnings.proofs.Signals.{table_tags, table_tells, nothing_begins}
use Rattle.control_beginnings.proofs.rows.signal_begins.Goals as goal

pub returns-in-empty : goal.returns-in-empty
returns-in-empty c = (λ t. nothing_begins c.args.text.now (nil_of c.args.text.now c.in-empty.len_below), λ s. refl)

pub any_row_begins-requires : goal.any_row_begins-requires
any_row_begins-requires c = table_tags

pub returns-in-131 : goal.returns-in-131
returns-in-131 c =
    let first : get_or c.args.text.now 0 0 ≡ 131 = search rules in
    IfOk-weaker c.any_row_begins.result _ _
    (λ begins h. table_tells c.args.text.now _ begins (front_is c.args.text.now 131 c.in-131.len_at_least first) h)
    c.any_row_begins.ensures
