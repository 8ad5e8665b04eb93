-- A call of a book, as its caller knows it.
use Rattle.std.proofs.Common.{◌≡◌, ◌⊎◌, ℕ, inl, inr, Option, Ok, Err, Result}
use Rattle.std.specs.Prelude.{IfErr, IfOk}
use Rattle.dist_model.specs.Items.{Item}
use Rattle.erl_term.specs.declared.refusal.Refusal.{Refusal}
use Rattle.node_history.specs.Entering.{IsWanting}
use Rattle.node_lock.specs.Acts.{event_of}
use Rattle.node_lock.specs.Applying.{IsComing}
use Rattle.node_lock.specs.Books.{IsUnapplied, IsUnready}
use Rattle.node_lock.specs.Calling.{Asks, Calls, IsAtHome, IsCallRefusal, IsSameSeat, IsUncalled}
use Rattle.node_lock.specs.Seen.{BookSeen}
use Rattle.node_lock.specs.declared.act.Act.{Act}
use Rattle.node_lock.specs.declared.act.Act.TheVariants as asking
use Rattle.node_lock.specs.declared.seat.Seat.{Seat}

-- an act never waits for a peer
never_unready : (act : Act) (book : BookSeen) → IsUnready (event_of act) book → ⊥
never_unready (asking.Run command) book h = h
never_unready (asking.Dial peer word) book h = h
never_unready (asking.Lose trunk) book h = h
never_unready asking.Stop book h = h
never_unready asking.Start book h = h

wanting : (last above : ℕ) (e : Refusal) → IsWanting last above e → IsCallRefusal e
wanting last above e (inl h) = inr (inl h.0)
wanting last above e (inr h) = inr (inr h.0)

module _ (act : Act) (book next : BookSeen) (seat after : Seat) where
  unapplied : (e : Refusal) → ((e ≡ Refusal.NothingThere) × IsUnready (event_of act) book)
      ⊎ ((first : Option Item) × (sent : ℕ) × IsComing (event_of act) seat.above book.outlets first sent × IsWanting book.history.last sent e)
      → IsCallRefusal e
  unapplied e (inl h) = absurd (never_unready act book h.1)
  unapplied e (inr h) = wanting book.history.last h.1 e h.3

  uncalled : (e : Refusal) → ((e ≡ Refusal.StrangeSeat) × (IsAtHome book seat → ⊥))
      ⊎ (IsAtHome book seat × IsUnapplied (event_of act) seat.above book next e) → IsCallRefusal e
  uncalled e (inl h) = inl h.0
  uncalled e (inr h) = unapplied e h.1.why

  pub asked_so : (r : Result ℕ Refusal) → IfOk r (Calls act book next seat after) → IfOk r (Asks act seat after)
  asked_so (Ok place) h = h.asks
  asked_so (Err e) h = tt

  pub same_so : (r : Result ℕ Refusal) → IfErr r (IsUncalled act book next seat after) → IfErr r (λ e. IsSameSeat seat after)
  same_so (Ok place) h = tt
  same_so (Err e) h = h.stays

  pub refused_so : (r : Result ℕ Refusal) → IfErr r (IsUncalled act book next seat after) → IfErr r IsCallRefusal
  refused_so (Ok place) h = tt
  refused_so (Err e) h = uncalled e h.why
