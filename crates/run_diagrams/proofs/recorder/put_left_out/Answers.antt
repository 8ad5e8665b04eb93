use Rattle.std.proofs.Common.{◌≡◌, sym, subst}
use Rattle.std.proofs.lemmas.Bool.{lt-ltb}
use Rattle.run_diagrams.specs.Recording.{IsShown}
use Rattle.run_diagrams.proofs.recorder.put_left_out.Goals as goal

pub returns-in_ok-push-2 : goal.returns-in_ok-push-2
returns-in_ok-push-2 c =
    subst (λ b. IsShown b c.args.rows.now.items c.push-then-left_out-gt0.new.self.items)
    (sym (lt-ltb 0 c.args.left_out c.if-left_out-gt0.true))
    (record { row = c.empty_row.result; behind = c.in_ok-push-2.ensures.items; marks = c.empty_row.ensures.marks; took = c.empty_row.ensures.took })
