use Rattle.std.proofs.Common.{◌≡◌, ◌+◌, ℕ, length, Option, Err, refl}
use Rattle.std.specs.Prelude.{IsErrOf}
use Rattle.erl_control.specs.declared.error.FrameError.{FrameError}
use Rattle.erl_control.specs.declared.error.FrameError.TheVariants.{OutOfMemory}
use Rattle.erl_control.specs.declared.signal.Item.{Item}
use Rattle.std.proofs.lemmas.Result.{err_from_is_err_and}
use Rattle.erl_control.specs.declared.signal.Item.TheVariants.{Signal}
use Rattle.erl_control.proofs.Frames.{item_due}
use Rattle.erl_control.proofs.unframing.answer_of.Goals as goal

no_memory : (e : FrameError) → IsErrOf {T = Option (Item × ℕ)} (Err e) OutOfMemory → IsErrOf {T = Item} (Err e) OutOfMemory
no_memory e q = let same : e ≡ OutOfMemory = cc in rw same refl

pub returns-in_err-made-clause-memory : goal.returns-in_err-made-clause-memory
returns-in_err-made-clause-memory c = λ q.
    let p = err_from_is_err_and c.from_residual-in_err-made.result c.from_residual-in_err-made.ensures.1 in
    let m = c.in_err-made.ensures.memory (no_memory c.in_err-made.field-0.0 (rw (p.1, p.2) at q)) in (
      m.0,
      length c.in-Some.body.now + 4,
      item_due c.args.bytes.now c.in-Some.body.now (Signal m.0) (rw c.in-Some.is at c.in_ok-body.ensures.some) m.1,
    )

pub returns-clause-ok : goal.returns-clause-ok
returns-clause-ok c =
    item_due c.args.bytes.now c.in-Some.body.now c.in_ok-made.made (rw c.in-Some.is at c.in_ok-body.ensures.some) c.in_ok-made.ensures.ok
