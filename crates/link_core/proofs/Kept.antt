-- What each event keeps of two processes. It is stated of what an end becomes once all has come: then
-- a delivery changes nothing at the side that takes it, and only what the answer adds is left to show.
use Rattle.std.proofs.Common.{◌≡◌, ◌≢◌, ℕ, ◌+◌, ◌<◌, ◌≤◌, Bool, true, false, cond, List, [], ◌∷◌, ◌++◌, Option}
use Rattle.std.proofs.Common.{Some, Contains, refl, sym, ap, ◌∙◌, subst, arith, ◌⊎◌, inl, inr, ◌==◌, append-nil}
use Rattle.std.specs.Option.{option_or}
use Rattle.std.proofs.Math.Logic.{⊎_map}
use Rattle.std.proofs.lemmas.Bool.{both_ways, eqb-false, eqb-true, ne_eqb, or_from, or_left, or_parts, or_right}
use Rattle.std.proofs.lemmas.List.Elements.{Contains-push, Contains-append_left}
use Rattle.erl_term.specs.Data.{Data}
use Rattle.link_core.specs.declared.end.End.{End}
use Rattle.link_core.specs.declared.end.LinkSignal.{LinkSignal}
use Rattle.link_core.specs.declared.end.LinkSignal.TheVariants.{Link, Unlink, Ack}
use Rattle.link_core.specs.News.{Exited, LinkNews, Signals, drained, heard, last_said, noproc, reply}
use Rattle.link_core.specs.Pair.{Side, farewell, ended}
use Rattle.link_core.specs.Claims.{Agree, PendingTravels}
use Rattle.link_core.proofs.Drained.{acks_in, acks_of, acks_in-push, active_wins_any, by_a_link_any, drained-push}
use Rattle.link_core.proofs.Drained.{drained_by_word, first_or_later, has_exit, has_exit-push, has_link, has_link-push, is_exit}
use Rattle.link_core.proofs.Drained.{last_said-push, one_if_same, stays_pending, unlinks_in, unlinks_in-push, unlinks_of}
use Rattle.link_core.proofs.Heard.{counted, exit_not_active, heard_ack_active, heard_other_ack, heard_pending}
use Rattle.link_core.proofs.Heard.{heard_unlink_active, link_agrees, outcome_not_pending, past_link, past_unlink}

abbrev pub settled : Side → Side → End
settled a b = drained a.end b.sent

-- how often the id i of a travels: as a's UNLINK_ID or as b's ACK
abbrev pub travels : ℕ → Side → Side → ℕ
travels i a b = unlinks_in i a.sent + acks_in i b.sent

-- what one of the two keeps
pub record Half (a b : Side) : Type 0 where
  -- where both live, its end waits once all has come exactly where its UNLINK_ID is the last word
  pub pending_says : a.gone ≡ false → b.gone ≡ false → (i : ℕ) → settled a b ≡ End.Pending i → last_said a.sent ≡ Some (Unlink i)
  pub says_pending : a.gone ≡ false → b.gone ≡ false → (i : ℕ) → last_said a.sent ≡ Some (Unlink i) → settled a b ≡ End.Pending i
  -- an id travels once at most, and none above those drawn
  pub once : (i : ℕ) → travels i a b ≤ 1
  pub above : (i : ℕ) → a.drawn < i → travels i a b ≡ 0
  -- who lives sends no EXIT; who has ended has no link, and the partner's has a LINK on its way
  pub no_exit : a.gone ≡ false → has_exit a.sent ≡ false
  pub orphan : a.gone ≡ false → b.gone ≡ true → settled a b ≡ End.Active → has_link a.sent ≡ true
  pub idle : a.gone ≡ true → a.end ≡ End.None
  pub waits : PendingTravels a b

pub record Kept (a b : Side) : Type 0 where
  pub one : Half a b
  pub other : Half b a
  pub agree : Agree a b

pub kept_swap : (a b : Side) → Kept a b → Kept b a
kept_swap a b k = record { one = k.other; other = k.one; agree = λ x y. ((k.agree y x).1, (k.agree y x).0) }

pub side_path : (a b : Side) → a.end ≡ b.end → a.gone ≡ b.gone → a.drawn ≡ b.drawn → a.sent ≡ b.sent → a ≡ b
side_path a b e g d s = λ i. record { end = e i; gone = g i; drawn = d i; sent = s i }

-- of one that has ended little is left to keep
pub ended_half : (a b : Side) → a.gone ≡ true → a.end ≡ End.None → ((i : ℕ) → travels i a b ≤ 1)
    → ((i : ℕ) → a.drawn < i → travels i a b ≡ 0) → Half a b
ended_half a b g e once above = record {
  pending_says = λ x y i h. absurd (both_ways a.gone x g);
  says_pending = λ x y i h. absurd (both_ways a.gone x g);
  once = once;
  above = above;
  no_exit = λ x. absurd (both_ways a.gone x g);
  orphan = λ x y h. absurd (both_ways a.gone x g);
  idle = λ x. e;
  waits = λ i h. absurd (let n : End.None ≡ End.Pending i = sym e ∙ h in cc);
}

-- where an end waits under i, with M on its way and L on the way back
abbrev Waits : List LinkNews → List LinkNews → ℕ → Type 0
Waits M L i = (last_said M ≡ Some (Unlink i)) ⊎ Contains L (Signals (Ack i))

waits_more : (M L R : List LinkNews) (i : ℕ) → Waits M L i → Waits M (L ++ R) i
waits_more M L R i = ⊎_map (λ e. e) (Contains-append_left L R (Signals (Ack i)))

waits_on : (M N L : List LinkNews) (s : LinkNews) (i : ℕ) → last_said N ≡ last_said M → s ≢ Signals (Ack i)
    → Waits M (s ∷ L) i → Waits N L i
waits_on M N L s i same n = ⊎_map (λ e. same ∙ e) (λ c. go (first_or_later s L (Signals (Ack i)) c))
  where
    go : (s ≡ Signals (Ack i)) ⊎ Contains L (Signals (Ack i)) → Contains L (Signals (Ack i))
    go (inl e) = absurd (n e)
    go (inr c) = c

-- ---- two that aren't linked, with nothing between them

blank_half : (g h : Bool) (n m : ℕ)
    → Half (record { end = End.None; gone = g; drawn = n; sent = [] }) (record { end = End.None; gone = h; drawn = m; sent = [] })
blank_half g h n m = record {
  pending_says = λ x y i e. cc;
  says_pending = λ x y i e. cc;
  once = λ i. omega arith;
  above = λ i l. omega arith;
  no_exit = λ x. refl;
  orphan = λ x y e. cc;
  idle = λ x. refl;
  waits = λ i e. cc;
}

pub blank : (a b : Side) → a.end ≡ End.None → b.end ≡ End.None → a.sent ≡ [] → b.sent ≡ [] → Kept a b
blank a b ea eb sa sb =
    let c : Side = record a { end = End.None; sent = [] } in
    let d : Side = record b { end = End.None; sent = [] } in
    subst (λ v. Kept v b) (side_path c a (sym ea) refl refl (sym sa))
    (subst (λ v. Kept c v) (side_path d b (sym eb) refl refl (sym sb))
    (record {
      one = blank_half a.gone b.gone a.drawn b.drawn;
      other = blank_half b.gone a.gone b.drawn a.drawn;
      agree = λ x y. (λ h. h, λ h. h);
    }))

-- ---- what its partner keeps where a living process sends a signal that is no acknowledgement

told_half : (a b : Side) (e : End) (n : ℕ) (s : LinkNews) → a.gone ≡ false → ((i : ℕ) → acks_of i s ≡ 0)
    → ((i : ℕ) → heard (End.Pending i) s ≡ End.Pending i) → Half b a → Half b (record a { end = e; drawn = n; sent = a.sent ++ s ∷ [] })
told_half a b e n s g none still h = record {
  pending_says = λ x y i p. h.pending_says x y i (heard_pending _ s i (sym (drained-push b.end a.sent s) ∙ p)).0;
  says_pending = λ x y i p. drained-push b.end a.sent s ∙ ap (λ v. heard v s) (h.says_pending x y i p) ∙ still i;
  once = λ i. omega (arith, h.once i, acks_in-push i a.sent s, none i);
  above = λ i l. omega (arith, h.above i l, acks_in-push i a.sent s, none i);
  no_exit = h.no_exit;
  orphan = λ x y p. absurd (both_ways a.gone g y);
  idle = h.idle;
  waits = λ i p. waits_more b.sent a.sent (s ∷ []) i (h.waits i p);
}

-- ---- a process links where it isn't linked

linked≢unlinked : (i : ℕ) → Some Link ≡ Some (Unlink i) → ⊥
linked≢unlinked i h = cc

pub activates : (a b : Side) → a.gone ≡ false → Kept a b → Kept (record a { end = End.Active; sent = a.sent ++ Signals Link ∷ [] }) b
activates a b g k = record {
  one = record {
    pending_says = λ x y i h. absurd (outcome_not_pending (last_said b.sent) i (sym (drained_by_word b.sent (k.other.no_exit y)).0 ∙ h));
    says_pending = λ x y i h. absurd (linked≢unlinked i (sym (last_said-push a.sent (Signals Link)) ∙ h));
    once = λ i. omega (arith, k.one.once i, unlinks_in-push i a.sent (Signals Link));
    above = λ i l. omega (arith, k.one.above i l, unlinks_in-push i a.sent (Signals Link));
    no_exit = λ x. has_exit-push a.sent (Signals Link) ∙ or_from _ _ (k.one.no_exit x) refl;
    orphan = λ x y h. has_link-push a.sent (Signals Link) ∙ or_right _ _ refl;
    idle = λ x. absurd (both_ways a.gone g x);
    waits = λ i h. cc;
  };
  other = told_half a b End.Active a.drawn (Signals Link) g (λ i. refl) (λ i. refl) k.other;
  agree = λ x y.
      let l = link_agrees (drained b.end a.sent) (last_said b.sent) (k.other.pending_says y x) (k.other.says_pending y x) in
      let d = (drained_by_word b.sent (k.other.no_exit y)).0 in
      let p = drained-push b.end a.sent (Signals Link) in
      (λ h. p ∙ l.0 (sym d ∙ h), λ h. d ∙ l.1 (sym p ∙ h));
}

-- ---- a process unlinks under an id above all that it drew

once_more : (b : Bool) (i j : ℕ) → (i == j) ≡ b → (u t : ℕ) → u + t ≤ 1 → (i ≡ j → u + t ≡ 0) → u + cond b 1 0 + t ≤ 1
once_more true i j e u t le none = omega (arith, none (eqb-true i j e))
once_more false i j e u t le none = omega arith

not_above : (i j : ℕ) → j < i → ◌≡◌ {A = ℕ} (cond (i == j) 1 0) 0
not_above i j l = ap (λ b. cond b 1 0) (ne_eqb i j (λ e. omega arith))

same_pending : (x : End) (i j : ℕ) → x ≡ End.Pending j → x ≡ End.Pending i → Some (Unlink j) ≡ Some (Unlink i)
same_pending x i j p q = cc

same_unlinked : (w : Option LinkSignal) (x : End) (i j : ℕ) → w ≡ Some (Unlink j) → w ≡ Some (Unlink i)
    → x ≡ End.Pending j → x ≡ End.Pending i
same_unlinked w x i j p q r = cc

pub deactivates : (a b : Side) (j : ℕ) → a.gone ≡ false → a.end ≡ End.Active → a.drawn < j → Kept a b
    → Kept (record a { end = End.Pending j; drawn = j; sent = a.sent ++ Signals (Unlink j) ∷ [] }) b
deactivates a b j g active lt k =
    let none : unlinks_in j a.sent + acks_in j b.sent ≡ 0 = k.one.above j lt in
    let waits : b.gone ≡ false → drained (End.Pending j) b.sent ≡ End.Pending j =
    λ y. stays_pending j b.sent (omega arith) (k.other.no_exit y) in
    let says = last_said-push a.sent (Signals (Unlink j)) in
    let hears = drained-push b.end a.sent (Signals (Unlink j)) in
    record {
      one = record {
        pending_says = λ x y i h. says ∙ same_pending _ i j (waits y) h;
        says_pending = λ x y i h. same_unlinked _ _ i j says h (waits y);
        once = λ i.
            let fresh : i ≡ j → travels i a b ≡ 0 = λ l. k.one.above i (omega arith) in
            let c = once_more (i == j) i j refl (unlinks_in i a.sent) (acks_in i b.sent) (k.one.once i) fresh in
            omega (arith, c, unlinks_in-push i a.sent (Signals (Unlink j)));
        above = λ i l. omega (arith, k.one.above i (omega arith), unlinks_in-push i a.sent (Signals (Unlink j)), not_above i j l);
        no_exit = λ x. has_exit-push a.sent (Signals (Unlink j)) ∙ or_from _ _ (k.one.no_exit x) refl;
        orphan = λ x y h. has_link-push a.sent (Signals (Unlink j))
            ∙ or_left _ _ (k.one.orphan x y (ap (λ e. drained e b.sent) active ∙ active_wins_any (End.Pending j) b.sent h));
        idle = λ x. absurd (both_ways a.gone g x);
        waits = λ i h. inl (says ∙ same_pending _ i j refl h);
      };
      other = told_half a b (End.Pending j) j (Signals (Unlink j)) g (λ i. refl) (λ i. refl) k.other;
      agree = λ x y. (λ h. let p = waits y in cc, λ h. absurd (heard_unlink_active _ j (sym hears ∙ h)));
    }

-- ---- a process ends

nil_end : (P : List LinkNews → Type 0) (M : List LinkNews) → P M → P (M ++ [])
nil_end P M h = subst P (sym (append-nil M)) h

-- with no EXIT for the partner
ended_silently : (a b : Side) → a.gone ≡ false → a.end ≢ End.Active → Kept a b → Kept (record a { end = End.None; gone = true }) b
ended_silently a b g ne k = record {
  one = ended_half _ _ refl refl k.one.once k.one.above;
  other = record {
    pending_says = λ x y i h. cc;
    says_pending = λ x y i h. cc;
    once = k.other.once;
    above = k.other.above;
    no_exit = k.other.no_exit;
    orphan = λ x y h. by_a_link_any a.end b.sent ne ((k.agree g x).1 h);
    idle = k.other.idle;
    waits = k.other.waits;
  };
  agree = λ x y. cc;
}

ended_telling : (r : Data) (a b : Side) → Kept a b → Kept (record a { end = End.None; gone = true; sent = a.sent ++ Exited r ∷ [] }) b
ended_telling r a b k = record {
  one = ended_half _ _ refl refl (λ i. omega (arith, k.one.once i, unlinks_in-push i a.sent (Exited r)))
      (λ i l. omega (arith, k.one.above i l, unlinks_in-push i a.sent (Exited r)));
  other = record {
    pending_says = λ x y i h. cc;
    says_pending = λ x y i h. cc;
    once = λ i. omega (arith, k.other.once i, acks_in-push i a.sent (Exited r));
    above = λ i l. omega (arith, k.other.above i l, acks_in-push i a.sent (Exited r));
    no_exit = k.other.no_exit;
    orphan = λ x y h. absurd (exit_not_active b.end a.sent r h);
    idle = k.other.idle;
    waits = λ i h. waits_more b.sent a.sent (Exited r ∷ []) i (k.other.waits i h);
  };
  agree = λ x y. cc;
}

pub keeps_ended : (r : Data) (a b : Side) → a.gone ≡ false → Kept a b → Kept (ended r a) b
keeps_ended r a b g k = go a.end refl
  where
    silently : (e : End) → a.end ≡ e → e ≢ End.Active → Kept (record a { end = End.None; gone = true; sent = a.sent ++ [] }) b
    silently e h ne = nil_end (λ l. Kept (record a { end = End.None; gone = true; sent = l }) b) a.sent
        (ended_silently a b g (λ c. ne (sym h ∙ c)) k)

    go : (e : End) → a.end ≡ e → Kept (record a { end = End.None; gone = true; sent = a.sent ++ farewell e r }) b
    go End.None h = silently End.None h (λ c. cc)
    go End.Active h = ended_telling r a b k
    go (End.Pending i) h = silently (End.Pending i) h (λ c. cc)

-- ---- a process takes the first news on its way

-- it lives, and has nothing to answer
takes_quietly : (a b : Side) (s : LinkNews) (L : List LinkNews) → a.gone ≡ false
    → ((i : ℕ) → last_said (s ∷ L) ≡ Some (Unlink i) → last_said L ≡ Some (Unlink i))
    → ((i : ℕ) → last_said L ≡ Some (Unlink i) → last_said (s ∷ L) ≡ Some (Unlink i))
    → Kept a (record b { sent = s ∷ L }) → Kept (record a { end = heard a.end s; sent = a.sent ++ [] }) (record b { sent = L })
takes_quietly a b s L g out back k =
    nil_end (λ l. Kept (record a { end = heard a.end s; sent = l }) (record b { sent = L })) a.sent (record {
      one = record {
        pending_says = k.one.pending_says;
        says_pending = k.one.says_pending;
        once = λ i. omega (arith, k.one.once i);
        above = λ i l. omega (arith, k.one.above i l);
        no_exit = k.one.no_exit;
        orphan = k.one.orphan;
        idle = λ x. absurd (both_ways a.gone g x);
        waits = λ i h. let p = heard_pending a.end s i h in waits_on a.sent a.sent L s i refl p.1 (k.one.waits i p.0);
      };
      other = record {
        pending_says = λ x y i h. out i (k.other.pending_says x y i h);
        says_pending = λ x y i h. k.other.says_pending x y i (back i h);
        once = λ i. omega (arith, k.other.once i);
        above = λ i l. omega (arith, k.other.above i l);
        no_exit = λ x. (or_parts (is_exit s) (has_exit L) (k.other.no_exit x)).1;
        orphan = λ x y h. absurd (both_ways a.gone g y);
        idle = k.other.idle;
        waits = λ i h. ⊎_map (out i) (λ c. c) (k.other.waits i h);
      };
      agree = k.agree;
    })

-- the acknowledgement goes on its way in place of UNLINK_ID
waits_answered : (M L : List LinkNews) (i j : ℕ) → Waits (Signals (Unlink j) ∷ L) M i → Waits L (M ++ Signals (Ack j) ∷ []) i
waits_answered M L i j (inl e) = go (i == j) refl
  where
    go : (b : Bool) → (i == j) ≡ b → Waits L (M ++ Signals (Ack j) ∷ []) i
    go true h =
        inr (subst (λ n. Contains (M ++ Signals (Ack j) ∷ []) (Signals (Ack n))) (sym (eqb-true i j h)) (Contains-push M (Signals (Ack j))))
    go false h = inl (past_unlink (last_said L) i j (eqb-false i j h) e)
waits_answered M L i j (inr c) = inr (Contains-append_left M (Signals (Ack j) ∷ []) (Signals (Ack i)) c)

-- it lives, and acknowledges UNLINK_ID
takes_unlink : (a b : Side) (j : ℕ) (L : List LinkNews) → a.gone ≡ false → Kept a (record b { sent = Signals (Unlink j) ∷ L })
    → Kept (record a { end = heard a.end (Signals (Unlink j)); sent = a.sent ++ Signals (Ack j) ∷ [] }) (record b { sent = L })
takes_unlink a b j L g k =
    let ack : LinkNews = Signals (Ack j) in
    let hears : drained b.end (a.sent ++ ack ∷ []) ≡ heard (drained b.end a.sent) ack = drained-push b.end a.sent ack in
    record {
      one = record {
        pending_says = λ x y i h. last_said-push a.sent ack ∙ k.one.pending_says x y i h;
        says_pending = λ x y i h. k.one.says_pending x y i (sym (last_said-push a.sent ack) ∙ h);
        once = λ i. omega (arith, k.one.once i, unlinks_in-push i a.sent ack);
        above = λ i l. omega (arith, k.one.above i l, unlinks_in-push i a.sent ack);
        no_exit = λ x. has_exit-push a.sent ack ∙ or_from _ _ (k.one.no_exit x) refl;
        orphan = λ x y h. has_link-push a.sent ack ∙ or_left _ _ (k.one.orphan x y h);
        idle = λ x. absurd (both_ways a.gone g x);
        waits = λ i h.
            let p = heard_pending a.end (Signals (Unlink j)) i h in
            waits_on a.sent (a.sent ++ ack ∷ []) L (Signals (Unlink j)) i (last_said-push a.sent ack) p.1 (k.one.waits i p.0);
      };
      other = record {
        pending_says = λ x y i h.
            let p = heard_pending _ ack i (sym hears ∙ h) in
            past_unlink (last_said L) i j (λ e. p.1 (ap (λ n. Signals (Ack n)) (sym e))) (k.other.pending_says x y i p.0);
        says_pending = λ x y i h.
            let p = k.other.says_pending x y i (ap (λ w. option_or w (Some (Unlink j))) h) in
            hears ∙ heard_other_ack _ i j p (λ l. omega (arith, k.other.once i, counted L i h, one_if_same i j l));
        once = λ i. omega (arith, k.other.once i, acks_in-push i a.sent ack);
        above = λ i l. omega (arith, k.other.above i l, acks_in-push i a.sent ack);
        no_exit = k.other.no_exit;
        orphan = λ x y h. absurd (both_ways a.gone g y);
        idle = k.other.idle;
        waits = λ i h. waits_answered a.sent L i j (k.other.waits i h);
      };
      agree = λ x y.
          (λ h. hears ∙ ap (λ v. heard v ack) ((k.agree x y).0 h), λ h. (k.agree x y).1 (heard_ack_active _ j (sym hears ∙ h)));
    }

-- it has ended, and answers by R
takes_gone : (a b : Side) (s : LinkNews) (L R : List LinkNews) → a.gone ≡ true
    → ((i : ℕ) → unlinks_in i (a.sent ++ R) ≡ unlinks_in i a.sent) → ((i : ℕ) → acks_in i (a.sent ++ R) ≡ acks_in i a.sent + unlinks_of i s)
    → (drained b.end (a.sent ++ R) ≡ End.Active → (drained b.end a.sent ≡ End.Active) × (has_link (s ∷ L) ≡ true → has_link L ≡ true))
    → ((i : ℕ) → Waits (s ∷ L) a.sent i → Waits L (a.sent ++ R) i)
    → Kept a (record b { sent = s ∷ L }) → Kept (record a { sent = a.sent ++ R }) (record b { sent = L })
takes_gone a b s L R g us ac back wait k = record {
  one = ended_half _ _ g (k.one.idle g) (λ i. omega (arith, k.one.once i, us i)) (λ i l. omega (arith, k.one.above i l, us i));
  other = record {
    pending_says = λ x y i h. absurd (both_ways a.gone y g);
    says_pending = λ x y i h. absurd (both_ways a.gone y g);
    once = λ i. omega (arith, k.other.once i, ac i);
    above = λ i l. omega (arith, k.other.above i l, ac i);
    no_exit = λ x. (or_parts (is_exit s) (has_exit L) (k.other.no_exit x)).1;
    orphan = λ x y h. let p = back h in p.1 (k.other.orphan x y p.0);
    idle = k.other.idle;
    waits = λ i h. wait i (k.other.waits i h);
  };
  agree = λ x y. absurd (both_ways a.gone x g);
}

takes_gone_quietly : (a b : Side) (s : LinkNews) (L : List LinkNews) → a.gone ≡ true → ((i : ℕ) → unlinks_of i s ≡ 0)
    → (has_link (s ∷ L) ≡ true → has_link L ≡ true) → ((i : ℕ) → last_said (s ∷ L) ≡ Some (Unlink i) → last_said L ≡ Some (Unlink i))
    → Kept a (record b { sent = s ∷ L }) → Kept (record a { sent = a.sent ++ [] }) (record b { sent = L })
takes_gone_quietly a b s L g none same out k =
    let nil = append-nil a.sent in
    takes_gone a b s L [] g (λ i. ap (unlinks_in i) nil) (λ i. omega (arith, ap (acks_in i) nil, none i))
    (λ h. (sym (ap (drained b.end) nil) ∙ h, same)) (λ i w. waits_more L a.sent [] i (⊎_map (out i) (λ c. c) w)) k

-- whether it has ended or not
pub takes_at : (g : Bool) (a b : Side) (s : LinkNews) (L : List LinkNews) → a.gone ≡ g → Kept a (record b { sent = s ∷ L })
    → Kept (record a { end = cond g a.end (heard a.end s); sent = a.sent ++ reply g s }) (record b { sent = L })
takes_at false a b (Signals Link) L g k =
    takes_quietly a b (Signals Link) L g (past_link (last_said L)) (λ i h. ap (λ w. option_or w (Some Link)) h) k
takes_at false a b (Signals (Unlink j)) L g k = takes_unlink a b j L g k
takes_at false a b (Signals (Ack j)) L g k = takes_quietly a b (Signals (Ack j)) L g (λ i h. h) (λ i h. h) k
takes_at false a b (Exited r) L g k = takes_quietly a b (Exited r) L g (λ i h. h) (λ i h. h) k
takes_at true a b (Signals Link) L g k = takes_gone a b (Signals Link) L (Exited noproc ∷ []) g
    (λ i. omega (arith, unlinks_in-push i a.sent (Exited noproc))) (λ i. omega (arith, acks_in-push i a.sent (Exited noproc)))
    (λ h. absurd (exit_not_active b.end a.sent noproc h))
    (λ i w. waits_more L a.sent (Exited noproc ∷ []) i (⊎_map (past_link (last_said L) i) (λ c. c) w)) k
takes_at true a b (Signals (Unlink j)) L g k = takes_gone a b (Signals (Unlink j)) L (Signals (Ack j) ∷ []) g
    (λ i. omega (arith, unlinks_in-push i a.sent (Signals (Ack j)))) (λ i. omega (arith, acks_in-push i a.sent (Signals (Ack j))))
    (λ h. (heard_ack_active _ j (sym (drained-push b.end a.sent (Signals (Ack j))) ∙ h), λ l. l)) (λ i w. waits_answered a.sent L i j w) k
takes_at true a b (Signals (Ack j)) L g k = takes_gone_quietly a b (Signals (Ack j)) L g (λ i. refl) (λ l. l) (λ i h. h) k
takes_at true a b (Exited r) L g k = takes_gone_quietly a b (Exited r) L g (λ i. refl) (λ l. l) (λ i h. h) k
