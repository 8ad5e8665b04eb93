-- What the news on its way makes of an end, and what one piece more changes.
use Rattle.std.proofs.Common.{◌≡◌, ◌≢◌, ℕ, ◌+◌, Bool, true, false, cond, List, [], ◌∷◌, ◌++◌, Contains}
use Rattle.std.proofs.Common.{Option, None, Some, refl, ap, ◌∙◌, subst, arith, ◌==◌, ◌||◌, ◌⊎◌, inl, inr}
use Rattle.std.specs.List.{list_any}
use Rattle.std.specs.Option.{option_or}
use Rattle.std.proofs.lemmas.Bool.{cond_both, eq-eqb, eqb-true}
use Rattle.std.proofs.lemmas.List.Elements.{Contains-push_cases, Contains-append_cases}
use Rattle.std.proofs.lemmas.List.Folds.{Any-from_list_any, list_any_at}
use Rattle.std.proofs.lemmas.List.Recursion.{or_push}
use Rattle.erl_term.specs.Data.{Data}
use Rattle.link_core.specs.declared.end.End.{End}
use Rattle.link_core.specs.declared.end.LinkSignal.{LinkSignal}
use Rattle.link_core.specs.declared.end.LinkSignal.TheVariants.{Link, Unlink, Ack}
use Rattle.link_core.specs.News.{Exited, LinkNews, Signals, drained, heard, last_said}

abbrev pub is_link : LinkNews → Bool
is_link (Signals Link) = true
is_link (Signals (Unlink j)) = false
is_link (Signals (Ack j)) = false
is_link (Exited r) = false

abbrev pub is_exit : LinkNews → Bool
is_exit (Signals s) = false
is_exit (Exited r) = true

abbrev pub has_link : List LinkNews → Bool
has_link = list_any is_link

abbrev pub has_exit : List LinkNews → Bool
has_exit = list_any is_exit

-- how many UNLINK_ID i, how many ACK i a list holds
abbrev pub unlinks_of : ℕ → LinkNews → ℕ
unlinks_of i (Signals Link) = 0
unlinks_of i (Signals (Unlink j)) = cond (i == j) 1 0
unlinks_of i (Signals (Ack j)) = 0
unlinks_of i (Exited r) = 0

abbrev pub acks_of : ℕ → LinkNews → ℕ
acks_of i (Signals Link) = 0
acks_of i (Signals (Unlink j)) = 0
acks_of i (Signals (Ack j)) = cond (i == j) 1 0
acks_of i (Exited r) = 0

abbrev pub unlinks_in : ℕ → List LinkNews → ℕ
unlinks_in i [] = 0
unlinks_in i (s ∷ L) = unlinks_of i s + unlinks_in i L

abbrev pub acks_in : ℕ → List LinkNews → ℕ
acks_in i [] = 0
acks_in i (s ∷ L) = acks_of i s + acks_in i L

-- the last word after one piece more
abbrev pub said : Option LinkSignal → LinkNews → Option LinkSignal
said w (Signals Link) = Some Link
said w (Signals (Unlink j)) = Some (Unlink j)
said w (Signals (Ack j)) = w
said w (Exited r) = w

-- ---- one piece more

pub drained-push : (e : End) (L : List LinkNews) (s : LinkNews) → drained e (L ++ s ∷ []) ≡ heard (drained e L) s
drained-push e [] s = refl
drained-push e (x ∷ L) s = drained-push (heard e x) L s

option_or-said : (w v : Option LinkSignal) (s : LinkNews) → option_or (said w s) v ≡ said (option_or w v) s
option_or-said w v (Signals Link) = refl
option_or-said w v (Signals (Unlink j)) = refl
option_or-said w v (Signals (Ack j)) = refl
option_or-said w v (Exited r) = refl

pub last_said-push : (L : List LinkNews) (s : LinkNews) → last_said (L ++ s ∷ []) ≡ said (last_said L) s
last_said-push [] (Signals Link) = refl
last_said-push [] (Signals (Unlink j)) = refl
last_said-push [] (Signals (Ack j)) = refl
last_said-push [] (Exited r) = refl
last_said-push (Signals Link ∷ L) s = ap (λ w. option_or w (Some Link)) (last_said-push L s) ∙ option_or-said (last_said L) (Some Link) s
last_said-push (Signals (Unlink i) ∷ L) s =
    ap (λ w. option_or w (Some (Unlink i))) (last_said-push L s) ∙ option_or-said (last_said L) (Some (Unlink i)) s
last_said-push (Signals (Ack i) ∷ L) s = last_said-push L s
last_said-push (Exited r ∷ L) s = last_said-push L s

pub unlinks_in-push : (i : ℕ) (L : List LinkNews) (s : LinkNews) → unlinks_in i (L ++ s ∷ []) ≡ unlinks_in i L + unlinks_of i s
unlinks_in-push i [] s = omega arith
unlinks_in-push i (x ∷ L) s = omega (arith, unlinks_in-push i L s)

pub acks_in-push : (i : ℕ) (L : List LinkNews) (s : LinkNews) → acks_in i (L ++ s ∷ []) ≡ acks_in i L + acks_of i s
acks_in-push i [] s = omega arith
acks_in-push i (x ∷ L) s = omega (arith, acks_in-push i L s)

pub has_link-push : (L : List LinkNews) (s : LinkNews) → has_link (L ++ s ∷ []) ≡ (has_link L || is_link s)
has_link-push = or_push has_link is_link refl (λ s L. refl)

pub has_exit-push : (L : List LinkNews) (s : LinkNews) → has_exit (L ++ s ∷ []) ≡ (has_exit L || is_exit s)
has_exit-push = or_push has_exit is_exit refl (λ s L. refl)

-- ---- what is counted or tested is there

pub one_if_same : (i j : ℕ) → i ≡ j → ◌≡◌ {A = ℕ} (cond (i == j) 1 0) 1
one_if_same i j e = ap (λ b. cond b 1 0) (eq-eqb i j e)

only_link : (s : LinkNews) → is_link s ≡ true → s ≡ Signals Link
only_link (Signals Link) h = refl
only_link (Signals (Unlink j)) h = cc
only_link (Signals (Ack j)) h = cc
only_link (Exited r) h = cc

pub link_there : (L : List LinkNews) → has_link L ≡ true → Contains L (Signals Link)
link_there L h = let a = Any-from_list_any is_link L h in subst (Contains L) (only_link a.1 a.4) (a.0, a.2, a.3)

pub exit_tested : (L : List LinkNews) (r : Data) → Contains L (Exited r) → has_exit L ≡ true
exit_tested L r h = list_any_at is_exit L h.0 (Exited r) h.1 (ap is_exit h.2)

pub first_or_later : (s : LinkNews) (L : List LinkNews) (t : LinkNews) → Contains (s ∷ L) t → (s ≡ t) ⊎ Contains L t
first_or_later s L t h = go (Contains-append_cases (s ∷ []) L t h)
  where
    first : Contains {X = LinkNews} [] t ⊎ (◌≡◌ {A = LinkNews} s t) → s ≡ t
    first (inl h) = let l = h.1 in absurd (omega arith)
    first (inr e) = e

    go : Contains {X = LinkNews} (s ∷ []) t ⊎ Contains L t → (s ≡ t) ⊎ Contains L t
    go (inl h) = inl (first (Contains-push_cases [] s t h))
    go (inr h) = inr h

-- ---- what becomes of an end

-- a pending end stays so where neither its ACK nor an EXIT comes
pub stays_pending : (i : ℕ) (L : List LinkNews) → acks_in i L ≡ 0 → has_exit L ≡ false → drained (End.Pending i) L ≡ End.Pending i
stays_pending i [] none quiet = refl
stays_pending i (Signals Link ∷ L) none quiet = stays_pending i L (omega arith) quiet
stays_pending i (Signals (Unlink j) ∷ L) none quiet = stays_pending i L (omega arith) quiet
stays_pending i (Signals (Ack j) ∷ L) none quiet = cond_both (i == j) End.None (End.Pending i) (λ v. drained v L ≡ End.Pending i)
    (λ e. absurd (omega (arith, none, one_if_same i j (eqb-true i j e)))) (λ e. stays_pending i L (omega (arith, none)) quiet)
stays_pending i (Exited r ∷ L) none quiet = cc

-- what becomes of one that isn't pending, by the last word
abbrev pub outcome : End → Option LinkSignal → End
outcome e None = e
outcome e (Some Link) = End.Active
outcome e (Some (Unlink j)) = End.None
outcome e (Some (Ack j)) = End.Active

outcome-link : (e : End) (w : Option LinkSignal) → outcome End.Active w ≡ outcome e (option_or w (Some Link))
outcome-link e None = refl
outcome-link e (Some Link) = refl
outcome-link e (Some (Unlink j)) = refl
outcome-link e (Some (Ack j)) = refl

outcome-unlink : (e : End) (i : ℕ) (w : Option LinkSignal) → outcome End.None w ≡ outcome e (option_or w (Some (Unlink i)))
outcome-unlink e i None = refl
outcome-unlink e i (Some Link) = refl
outcome-unlink e i (Some (Unlink j)) = refl
outcome-unlink e i (Some (Ack j)) = refl

-- so it is of one that is active, and of one that isn't there, where no EXIT comes
abbrev pub IsOutcome : List LinkNews → Type 0
IsOutcome L = (drained End.Active L ≡ outcome End.Active (last_said L)) × (drained End.None L ≡ outcome End.None (last_said L))

pub drained_by_word : (L : List LinkNews) → has_exit L ≡ false → IsOutcome L
drained_by_word [] quiet = (refl, refl)
drained_by_word (Signals Link ∷ L) quiet =
    let h = drained_by_word L quiet in (h.0 ∙ outcome-link End.Active (last_said L), h.0 ∙ outcome-link End.None (last_said L))
drained_by_word (Signals (Unlink j) ∷ L) quiet =
    let h = drained_by_word L quiet in (h.1 ∙ outcome-unlink End.Active j (last_said L), h.1 ∙ outcome-unlink End.None j (last_said L))
drained_by_word (Signals (Ack j) ∷ L) quiet = drained_by_word L quiet
drained_by_word (Exited r ∷ L) quiet = cc

-- an active end stays or becomes active wherever another one does
active_wins : (i : ℕ) (L : List LinkNews)
    → (drained End.None L ≡ End.Active → drained End.Active L ≡ End.Active)
    × (drained (End.Pending i) L ≡ End.Active → drained End.None L ≡ End.Active)
active_wins i [] = (λ h. refl, λ h. cc)
active_wins i (Signals Link ∷ L) = let h = active_wins i L in (λ k. k, λ k. h.0 (h.1 k))
active_wins i (Signals (Unlink j) ∷ L) = let h = active_wins i L in (λ k. k, λ k. h.1 k)
active_wins i (Signals (Ack j) ∷ L) =
    let h = active_wins i L in
    let P : End → Type 0 = λ e. drained e L ≡ End.Active → drained End.None L ≡ End.Active in
    (h.0, cond_both (i == j) End.None (End.Pending i) P (λ e k. k) (λ e. h.1))
active_wins i (Exited r ∷ L) = (λ k. k, λ k. k)

pub active_wins_any : (e : End) (L : List LinkNews) → drained e L ≡ End.Active → drained End.Active L ≡ End.Active
active_wins_any End.None L h = (active_wins 0 L).0 h
active_wins_any End.Active L h = h
active_wins_any (End.Pending i) L h = (active_wins i L).0 ((active_wins i L).1 h)

-- only a LINK makes an absent end active
by_a_link : (L : List LinkNews) → drained End.None L ≡ End.Active → has_link L ≡ true
by_a_link [] h = cc
by_a_link (Signals Link ∷ L) h = refl
by_a_link (Signals (Unlink j) ∷ L) h = by_a_link L h
by_a_link (Signals (Ack j) ∷ L) h = by_a_link L h
by_a_link (Exited r ∷ L) h = by_a_link L h

pub by_a_link_any : (e : End) (L : List LinkNews) → e ≢ End.Active → drained e L ≡ End.Active → has_link L ≡ true
by_a_link_any End.None L n h = by_a_link L h
by_a_link_any End.Active L n h = absurd (n refl)
by_a_link_any (End.Pending i) L n h = by_a_link L ((active_wins i L).1 h)
