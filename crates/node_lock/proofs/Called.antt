-- The additions of a call, or that it changes nothing.
use Rattle.std.proofs.Common.{◌≡◌, ℕ, ◌<◌, ◌≤◌, ◌^◌, ◌+◌, max, ◌++◌, ◌∷◌, Bool, true, false, Option, Some, None, List, [], inl, inr, length, slice_get, refl, sym, ap, subst, ◌∙◌, arith}
use Rattle.std.proofs.lemmas.Option.{slice_get_within}
use Rattle.std.specs.Prelude.{IsTrue, ◌↔◌}
use Rattle.dist_model.specs.Items.{Item}
use Rattle.erl_term.specs.declared.refusal.Refusal.{Refusal}
use Rattle.node_lock.specs.Applying.{IsComing}
use Rattle.node_lock.specs.Books.{Applies, IsUnapplied}
use Rattle.node_lock.specs.Seen.{BookSeen}
use Rattle.node_lock.proofs.KeptByEvents.{slice_last}
use Rattle.node_lock.specs.declared.outlet.Outlet.{Outlet}
use Rattle.node_history.specs.Acts.{is_act}
use Rattle.node_history.specs.Entering.{IsWanting}
use Rattle.node_history.specs.Telling.{Answers, IsTold}
use Rattle.node_history.specs.declared.entry.Told.{Told}
use Rattle.node_history.specs.declared.entry.Entry.{Entry}
use Rattle.node_lock.specs.Acts.{event_of}
use Rattle.node_lock.specs.Calling.{Calls, IsAtHome, IsUncalled, stamp_at, stamp_in}
use Rattle.node_lock.specs.Seats.{IsBehind, IsEnteredAs, LastIsEntered, last_of}
use Rattle.node_lock.specs.declared.act.Act.{Act}
use Rattle.node_lock.specs.declared.act.Act.TheVariants as asking
use Rattle.node_lock.specs.declared.seat.Asked.{Asked}
use Rattle.node_lock.specs.declared.seat.Seat.{Seat}
use Rattle.node_history.specs.Said.{said}
use Rattle.node_core.specs.declared.node_event.NodeEvent.{NodeEvent}

-- the entry that was added
there : (what : NodeEvent) (above : ℕ) (book next : BookSeen) (place : ℕ) (a : Applies what above book next place)
    → slice_get next.history.entries.items place ≡ Some (record { stamp = next.history.last; event = what; answer = a.enters.answer })
there what above book next place a =
    ap (λ k. slice_get next.history.entries.items k) a.place_is
    ∙ ap (λ es. slice_get es (length book.history.entries.items)) a.enters.entries
    ∙ slice_last book.history.entries.items (record { stamp = next.history.last; event = what; answer = a.enters.answer })

-- whether it is at home
pub at_home : (b : Bool) {H : Type 0} → (IsTrue b ↔ H) → b ≡ true → H
at_home b h is = h.0 is

pub away : (b : Bool) {H : Type 0} → (IsTrue b ↔ H) → b ≡ false → H → ⊥
away b h is home = let no : false ≡ true = sym is ∙ h.1 home in cc

-- nothing comes from a peer where a caller acts
idle : (act : Act) (above : ℕ) (outlets : List Outlet) → IsComing (event_of act) above outlets None above
idle (asking.Run command) above outlets = (refl, refl)
idle (asking.Dial peer word) above outlets = (refl, refl)
idle (asking.Lose trunk) above outlets = (refl, refl)
idle asking.Stop above outlets = (refl, refl)
idle asking.Start above outlets = (refl, refl)

-- the stamp behind which the entry of an act comes
behind_above : (act : Act) (what : NodeEvent) (above : ℕ) (outlets : List Outlet) (first : Option Item) (sent : ℕ) → what ≡ event_of act
    → IsComing what above outlets first sent → sent ≡ above
behind_above act what above outlets first sent is h = go act (subst (λ w. IsComing w above outlets first sent) is h)
  where
    go : (act : Act) → IsComing (event_of act) above outlets first sent → sent ≡ above
    go (asking.Run command) h = h.1
    go (asking.Dial peer word) h = h.1
    go (asking.Lose trunk) h = h.1
    go asking.Stop h = h.1
    go asking.Start h = h.1

-- the new entry is behind that of the last receipt, which stands in the book
module _ (entries : List Entry) (last stamp : ℕ) (rise : (k : ℕ) (entry : Entry) → slice_get entries k ≡ Some entry → entry.stamp ≤ last)
    (above : last < stamp) (asked : Asked) (position : asked.receipt.position ≡ length entries) (is : asked.receipt.stamp ≡ stamp) where
  pub is_behind : (before : Option Asked) → LastIsEntered before entries → IsBehind before asked
  is_behind None h = tt
  is_behind (Some before) h = go (slice_get entries before.receipt.position) refl h
    where
      go : (o : Option Entry) → slice_get entries before.receipt.position ≡ o → IsEnteredAs before o → IsBehind (Some before) asked
      go None e h = absurd h
      go (Some entry) e h =
          let within = slice_get_within entries before.receipt.position entry e in
          let up = rise before.receipt.position entry e in
          let same = h.0 in
          (omega (arith, within, position), omega (arith, up, same, above, is))

module _ (act : Act) (book : BookSeen) (seat : Seat) where
  module _ (next : BookSeen) (after : Seat) (asked : Asked) (told : Told) (what : NodeEvent) (mid : List Asked) (place : ℕ)
      (home : IsAtHome book seat) (is : what ≡ event_of act)
      (applies : Applies what seat.above book next told.place) where
    stamp : asked.receipt.stamp ≡ stamp_at next.history.entries.items told.place → asked.receipt.stamp ≡ next.history.last
    stamp h = h ∙ ap stamp_in (there what seat.above book next told.place applies)

    pub behind : ((k : ℕ) (entry : Entry) → slice_get book.history.entries.items k ≡ Some entry → entry.stamp ≤ book.history.last)
        → asked.receipt.position ≡ told.place → asked.receipt.stamp ≡ stamp_at next.history.entries.items told.place
        → mid ≡ seat.receipts.items → IsBehind (last_of mid) asked
    behind rise p s m =
        let last = is_behind book.history.entries.items book.history.last next.history.last rise
        (let grown = applies.enters.stamp in omega (arith, grown)) asked (p ∙ applies.place_is) (stamp s)
        (last_of seat.receipts.items) home.1 in
        subst (λ (l : List Asked). IsBehind (last_of l) asked) (sym m) last

    stands : IsTold next.history.entries.items told → is_act what ≡ true → asked.event ≡ what
        → asked.receipt.stamp ≡ next.history.last → asked.receipt.answer ≡ told.answer
        → IsEnteredAs asked (slice_get next.history.entries.items told.place)
    stands t acts e s a =
        let same : said told.answer ≡ said applies.enters.answer =
        subst (Answers told.answer) (there what seat.above book next told.place applies) t in
        subst (IsEnteredAs asked) (sym (there what seat.above book next told.place applies)) (sym s, acts, sym e, sym same ∙ ap said (sym a))

    pub called : ((k : ℕ) (entry : Entry) → slice_get book.history.entries.items k ≡ Some entry → entry.stamp ≤ book.history.last)
        → IsTold next.history.entries.items told → is_act what ≡ true → asked.event ≡ what → asked.receipt.position ≡ told.place
        → asked.receipt.stamp ≡ stamp_at next.history.entries.items told.place → asked.receipt.node ≡ next.place
        → asked.receipt.answer ≡ told.answer → after.node ≡ seat.node → after.above ≡ seat.above
        → mid ≡ seat.receipts.items → after.receipts.items ≡ mid ++ asked ∷ [] → place ≡ length mid → Calls act book next seat after place
    called rise t acts e p s n a same up m receipts at = record {
      home = home;
      asks = record {
        asked = asked;
        event = e ∙ is;
        node = n ∙ applies.same.place ∙ sym home.0;
        behind = is_behind book.history.entries.items book.history.last next.history.last rise
            (let grown = applies.enters.stamp in omega (arith, grown)) asked (p ∙ applies.place_is) (stamp s)
            (last_of seat.receipts.items) home.1;
        above = (let grown = applies.enters.stamp in let is_last = stamp s in let from = behind_above act what seat.above book.outlets applies.first applies.sent is applies.comes in omega (arith, grown, is_last, from));
        adds = record { node = same; receipts = receipts ∙ ap (λ l. l ++ asked ∷ []) m; above = up };
        place_is = at ∙ ap (λ (l : List Asked). length l) m;
      };
      applies = subst (λ k. Applies (event_of act) seat.above book next k) (sym p) (subst (λ w. Applies w seat.above book next told.place) is applies);
      stamp = stamp s;
      stands = subst (λ k. IsEnteredAs asked (slice_get next.history.entries.items k)) (sym p) (stands t acts e (stamp s) a);
    }

  pub strange : (IsAtHome book seat → ⊥) → IsUncalled act book book seat seat Refusal.StrangeSeat
  strange away = record {
    stays = record { node = refl; receipts = refl; above = refl };
    same = record { names = refl; place = refl; setup = refl; greatest = refl };
    history = record { node = refl; last = refl; entries = refl };
    outlets = refl;
    why = inl (refl, away);
  }

  -- there is no memory, or no stamp is left
  wanting : (e : Refusal) → IsWanting book.history.last seat.above e → IsUnapplied (event_of act) seat.above book book e
  wanting e h = record {
    same = record { names = refl; place = refl; setup = refl; greatest = refl };
    history = record { node = refl; last = refl; entries = refl };
    outlets = refl;
    why = inr (None, seat.above, idle act seat.above book.outlets, h);
  }

  not_called : (e : Refusal) → IsWanting book.history.last seat.above e → (after : Seat) → IsAtHome book seat → after.node ≡ seat.node
      → after.receipts.items ≡ seat.receipts.items → after.above ≡ seat.above → IsUncalled act book book seat after e
  not_called e h after home n r up = record {
    stays = record { node = n; receipts = r; above = up };
    same = record { names = refl; place = refl; setup = refl; greatest = refl };
    history = record { node = refl; last = refl; entries = refl };
    outlets = refl;
    why = inr (home, wanting e h);
  }

  pub no_room : (after : Seat) → IsAtHome book seat → max book.history.last seat.above + 1 < 2 ^ 64 → after.node ≡ seat.node
      → after.receipts.items ≡ seat.receipts.items → after.above ≡ seat.above → IsUncalled act book book seat after Refusal.OutOfMemory
  no_room after home h n r up = not_called Refusal.OutOfMemory (inr (refl, h)) after home n r up

  pub unapplied : (next : BookSeen) (after : Seat) (what : NodeEvent) (e : Refusal) → IsAtHome book seat → what ≡ event_of act
      → IsUnapplied what seat.above book next e
      → after.node ≡ seat.node → after.receipts.items ≡ seat.receipts.items → after.above ≡ seat.above
      → IsUncalled act book next seat after e
  unapplied next after what e home is h n r up =
      let u = subst (λ w. IsUnapplied w seat.above book next e) is h in
      record { stays = record { node = n; receipts = r; above = up }; same = u.same; history = u.history; outlets = u.outlets; why = inr (home, u) }
