use Rattle.std.proofs.Common.{Result, Ok, Err, ap}
use Rattle.std.specs.Prelude.{OnErr}
use Rattle.erl_control.specs.Parts.{signal_in, item_in}
use Rattle.erl_control.proofs.signal_ref.ItemRef.to_item.Goals as goal

on_err : {T E P : Type 0} (r : Result T E) → P → OnErr r P
on_err (Ok x) p = tt
on_err (Err e) p = p

pub returns-in_err-to_signal-in-Signal-clause-memory : goal.returns-in_err-to_signal-in-Signal-clause-memory
returns-in_err-to_signal-in-Signal-clause-memory c = on_err c.from_residual.result (signal_in c.in-Signal.signal, ap item_in c.in-Signal.is)
