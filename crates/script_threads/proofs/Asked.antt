-- The requests of a seat, and their printed answers.
use Rattle.std.proofs.Common.{◌≡◌, ◌-◌, ◌+◌, ℕ, List, [], ◌∷◌, ◌++◌, Some, length, slice_get, inl, ap, ◌∙◌, arith}
use Rattle.std.proofs.lemmas.List.{length-append}
use Rattle.std.specs.Prelude.{IfOk, OnOk, Ok, Err, Result}
use Rattle.node_lock.proofs.KeptByEvents.{slice_last}
use Rattle.dist_model.specs.Names.{Name}
use Rattle.node_lock.specs.Calling as lock
use Rattle.node_lock.specs.Seats.{last_of}
use Rattle.node_lock.specs.declared.act.Act.{Act}
use Rattle.node_lock.specs.declared.seat.Asked.{Asked}
use Rattle.node_lock.specs.declared.seat.Seat.{Seat}
use Rattle.script_session.specs.declared.made.Made.{Made}
use Rattle.script_threads.specs.Asking.{Asks, answered_text, made_by}

last_pushed : (xs : List Asked) (x : Asked) → last_of (xs ++ x ∷ []) ≡ Some x
last_pushed xs x =
    let longer : length (xs ++ x ∷ []) ≡ length xs + 1 = length-append xs (x ∷ []) in
    let at : length (xs ++ x ∷ []) - 1 ≡ length xs = omega arith in
    ap (λ (k : ℕ). slice_get (xs ++ x ∷ []) k) at ∙ slice_last xs x

pub last_asked : (act : Act) (seat after : Seat) (place : ℕ) (a : lock.Asks act seat after place)
    → last_of after.receipts.items ≡ Some a.asked
last_asked act seat after place a = ap last_of a.adds.receipts ∙ last_pushed seat.receipts.items a.asked

pub entered : {E : Type 0} (act : Act) (name : Name) (seat after : Seat) (place : ℕ) (old_text new_text : List ℕ)
    (r : Result Made E) (a : lock.Asks act seat after place)
    → OnOk r (new_text ≡ old_text ++ answered_text name a.asked.receipt.answer) → IfOk r (λ made. made ≡ made_by a.asked.receipt.answer)
    → IfOk r (λ made. Asks act name seat after old_text new_text made)
entered act name seat after place old_text new_text (Ok made) a text is =
    inl (record { asked = a.asked; event = a.event; adds = a.adds; text = text; makes = is })
entered act name seat after place old_text new_text (Err e) a text is = tt
