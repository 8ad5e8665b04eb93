use Rattle.std.proofs.Common.{cond, ap, sym, ◌∙◌, slice_get}
use Rattle.node_core.specs.Model.{model_of}
use Rattle.node_lock.proofs.ResultsTold.{came, came_not, reads_here}
use Rattle.node_lock.specs.Answers.{is_accepted}
use Rattle.node_lock.specs.Applying.{without_next}
use Rattle.node_lock.specs.declared.outlet.Outlet.{Outlet}
use Rattle.node_history.specs.Kinds.{comes_here}
use Rattle.node_lock.proofs.arriving.take.Goals as goal

pub returns-in-Err-clause-err : goal.returns-in-Err-clause-err
returns-in-Err-clause-err c =
    came_not c.args.history.now c.arrive.new.self c.args.outlet.now c.args.trunk c.args.word c.in-Some.parcel.now
    c.arrive.result c.as_slice-bytes.ensures.item c.in-Some.ensures
    (reads_here c.is_read.result c.if-not-is_read.false (c.is_read.ensures
    ∙ ap (λ m. comes_here m c.args.trunk c.as_slice.result.now) c.node.ensures
    ∙ ap (λ bs. comes_here (model_of c.args.history.now.node) c.args.trunk bs) c.as_slice.ensures.bytes))
    (λ names item b can. c.arrive.ensures names item (c.as_slice-bytes.ensures.bytes ∙ b) can)
    c.in-Err.e c.in-Err.is

pub returns-then-is_accepted-clause-ok : goal.returns-then-is_accepted-clause-ok
returns-then-is_accepted-clause-ok c =
    let o : Outlet = c.args.outlet.now in
    came c.args.history.now c.arrive.new.self c.args.outlet.now c.args.trunk c.args.word c.in-Some.parcel.now c.arrive.result
    c.as_slice-bytes.ensures.item c.in-Some.ensures
    (reads_here c.is_read.result c.if-not-is_read.false (c.is_read.ensures
    ∙ ap (λ m. comes_here m c.args.trunk c.as_slice.result.now) c.node.ensures
    ∙ ap (λ bs. comes_here (model_of c.args.history.now.node) c.args.trunk bs) c.as_slice.ensures.bytes))
    (λ names item b can. c.arrive.ensures names item (c.as_slice-bytes.ensures.bytes ∙ b) can)
    c.in-Ok.place (record o { port = c.drop_first.new.self }) c.in-Ok.is
    (ap (λ p. record o { port = p }) c.drop_first.ensures ∙ ap (λ b. cond b (without_next o) o) (sym (ap is_accepted
    (ap (λ es. slice_get es c.in-Ok.place) (sym c.entries.ensures) ∙ sym c.entry_at.ensures) ∙ sym c.is_accepted.ensures
    ∙ c.if-is_accepted.true)))

pub returns-else-is_accepted-clause-ok : goal.returns-else-is_accepted-clause-ok
returns-else-is_accepted-clause-ok c =
    let o : Outlet = c.args.outlet.now in
    came c.args.history.now c.arrive.new.self c.args.outlet.now c.args.trunk c.args.word c.in-Some.parcel.now c.arrive.result
    c.as_slice-bytes.ensures.item c.in-Some.ensures
    (reads_here c.is_read.result c.if-not-is_read.false (c.is_read.ensures
    ∙ ap (λ m. comes_here m c.args.trunk c.as_slice.result.now) c.node.ensures
    ∙ ap (λ bs. comes_here (model_of c.args.history.now.node) c.args.trunk bs) c.as_slice.ensures.bytes))
    (λ names item b can. c.arrive.ensures names item (c.as_slice-bytes.ensures.bytes ∙ b) can)
    c.in-Ok.place o c.in-Ok.is
    (ap (λ b. cond b (without_next o) o) (sym (ap is_accepted
    (ap (λ es. slice_get es c.in-Ok.place) (sym c.entries.ensures) ∙ sym c.entry_at.ensures) ∙ sym c.is_accepted.ensures
    ∙ c.if-is_accepted.false)))
