use Rattle.std.proofs.Common.{subst, ◌+◌, string_bytes}
use Rattle.item_decoder.specs.All.{MayStep}
use Rattle.item_decoder.specs.Stages.{reader_of}
use Rattle.item_decoder.specs.Told.{IsTold, Moves}
use Rattle.item_decoder.proofs.Joined.{none_so_far, progress_at_end, progress_before, step_so_far}
use Rattle.item_decoder.proofs.all.put_all.Goals as goal

pub loop-taken-init : goal.loop-taken-init
loop-taken-init c = none_so_far _ _ _ _ _

pub loop-taken-preserved : goal.loop-taken-preserved
loop-taken-preserved c =
    let one = c.in_ok-step.ensures in
    let is = subst (λ left. IsTold (reader_of c.loop-taken.next left) left one.0) c.behind.ensures one.1 in
    let moves = subst (λ left. Moves left one.0.len) c.behind.ensures one.2 in
    let may = subst (λ step. MayStep c.args.style c.loop-taken.next (c.args.from + c.loop-taken.taken) one.0 c.args.ends (string_bytes c.loop-taken.out) (string_bytes c.put_one.new.out) step)
    c.in-Some.is one.3 in
    step_so_far _ _ _ _ _ _ c.loop-taken.all_read _ _ _ one.0 c.in-Some.step c.args.ends c.loop-taken.invariant is moves may

pub returns-after-loop-taken : goal.returns-after-loop-taken
returns-after-loop-taken c = progress_at_end _ _ _ _ _ _ _ _ _ _ c.loop-taken.invariant c.loop-taken-test.false

pub returns-in_default : goal.returns-in_default
returns-in_default c =
    let one = c.in_ok-step.ensures in
    let is = subst (λ left. IsTold (reader_of c.loop-taken.next left) left one.0) c.behind.ensures one.1 in
    let may = subst (λ step. MayStep c.args.style c.loop-taken.next (c.args.from + c.loop-taken.taken) one.0 c.args.ends (string_bytes c.loop-taken.out) (string_bytes c.put_one.new.out) step)
    c.in_default.is one.3 in
    progress_before _ _ _ _ _ _ _ _ _ _ one.0 _ c.loop-taken.invariant is may
