-- What an end becomes by one piece of news, and what the word behind it says.
use Rattle.std.proofs.Common.{◌≡◌, ◌≢◌, ℕ, ◌+◌, ◌≤◌, Bool, true, false, cond, List, [], ◌∷◌}
use Rattle.std.proofs.Common.{◌++◌, Option, None, Some, refl, sym, ap, ◌∙◌, arith, ◌↔◌, ◌==◌}
use Rattle.std.specs.Option.{option_or}
use Rattle.std.proofs.lemmas.Bool.{cond_both, eqb-false, ne_eqb}
use Rattle.erl_term.specs.Data.{Data}
use Rattle.link_core.specs.declared.end.End.{End}
use Rattle.link_core.specs.declared.end.LinkSignal.{LinkSignal}
use Rattle.link_core.specs.declared.end.LinkSignal.TheVariants.{Link, Unlink, Ack}
use Rattle.link_core.specs.News.{Exited, LinkNews, Signals, drained, heard, last_said}
use Rattle.link_core.proofs.Drained.{drained-push, outcome, unlinks_in}

-- an end that waits has waited, and its acknowledgement hasn't come
pub heard_pending : (x : End) (s : LinkNews) (i : ℕ) → heard x s ≡ End.Pending i → (x ≡ End.Pending i) × (s ≢ Signals (Ack i))
heard_pending End.None (Signals Link) i h = cc
heard_pending End.None (Signals (Unlink j)) i h = cc
heard_pending End.None (Signals (Ack j)) i h = cc
heard_pending End.Active (Signals Link) i h = cc
heard_pending End.Active (Signals (Unlink j)) i h = cc
heard_pending End.Active (Signals (Ack j)) i h = cc
heard_pending (End.Pending k) (Signals Link) i h = (h, λ e. cc)
heard_pending (End.Pending k) (Signals (Unlink j)) i h = (h, λ e. cc)
heard_pending (End.Pending k) (Signals (Ack j)) i h = go (k == j) refl h
  where
    go : (b : Bool) → (k == j) ≡ b → cond b End.None (End.Pending k) ≡ End.Pending i
        → (End.Pending k ≡ End.Pending i) × (Signals (Ack j) ≢ Signals (Ack i))
    go true e h = cc
    go false e h = (h, λ f. eqb-false k j e (let p : k ≡ i = cc in let q : j ≡ i = cc in p ∙ sym q))
heard_pending x (Exited r) i h = cc

pub heard_link_active : (e : End) → ((i : ℕ) → e ≡ End.Pending i → ⊥) → heard e (Signals Link) ≡ End.Active
heard_link_active End.None n = refl
heard_link_active End.Active n = refl
heard_link_active (End.Pending i) n = absurd (n i refl)

pub heard_unlink_active : (e : End) (j : ℕ) → heard e (Signals (Unlink j)) ≡ End.Active → ⊥
heard_unlink_active End.None j h = cc
heard_unlink_active End.Active j h = cc
heard_unlink_active (End.Pending k) j h = cc

pub heard_other_ack : (x : End) (i j : ℕ) → x ≡ End.Pending i → (i ≡ j → ⊥) → heard x (Signals (Ack j)) ≡ End.Pending i
heard_other_ack x i j e n = ap (λ v. heard v (Signals (Ack j))) e ∙ ap (λ b. cond b End.None (End.Pending i)) (ne_eqb i j n)

pub heard_ack_active : (x : End) (j : ℕ) → heard x (Signals (Ack j)) ≡ End.Active → x ≡ End.Active
heard_ack_active End.None j h = cc
heard_ack_active End.Active j h = refl
heard_ack_active (End.Pending k) j h = go (k == j) h
  where
    go : (b : Bool) → cond b End.None (End.Pending k) ≡ End.Active → End.Pending k ≡ End.Active
    go true h = cc
    go false h = h

pub exit_not_active : (e : End) (M : List LinkNews) (r : Data) → drained e (M ++ Exited r ∷ []) ≡ End.Active → ⊥
exit_not_active e M r h = let n : End.None ≡ End.Active = sym (drained-push e M (Exited r)) ∙ h in cc

pub outcome_not_pending : (w : Option LinkSignal) (i : ℕ) → outcome End.Active w ≡ End.Pending i → ⊥
outcome_not_pending None i h = cc
outcome_not_pending (Some Link) i h = cc
outcome_not_pending (Some (Unlink j)) i h = cc
outcome_not_pending (Some (Ack j)) i h = cc

-- the other ends up active exactly where this one does
pub link_agrees : (x : End) (w : Option LinkSignal) → ((i : ℕ) → x ≡ End.Pending i → w ≡ Some (Unlink i))
    → ((i : ℕ) → w ≡ Some (Unlink i) → x ≡ End.Pending i) → (outcome End.Active w ≡ End.Active) ↔ (heard x (Signals Link) ≡ End.Active)
link_agrees x None f g = (λ h. heard_link_active x (λ i e. let n : None ≡ Some (Unlink i) = f i e in cc), λ h. refl)
link_agrees x (Some Link) f g = (λ h. heard_link_active x (λ i e. let n : Some Link ≡ Some (Unlink i) = f i e in cc), λ h. refl)
link_agrees x (Some (Unlink i)) f g =
    (λ h. cc, λ h. let e : x ≡ End.Pending i = g i refl in let k : End.Pending i ≡ End.Active = rw e at h in cc)
link_agrees x (Some (Ack j)) f g = (λ h. heard_link_active x (λ i e. let n : Some (Ack j) ≡ Some (Unlink i) = f i e in cc), λ h. refl)

-- ---- the last word behind a piece of news

pub past_link : (w : Option LinkSignal) (i : ℕ) → option_or w (Some Link) ≡ Some (Unlink i) → w ≡ Some (Unlink i)
past_link None i h = cc
past_link (Some s) i h = h

pub past_unlink : (w : Option LinkSignal) (i j : ℕ) → (i ≡ j → ⊥) → option_or w (Some (Unlink j)) ≡ Some (Unlink i) → w ≡ Some (Unlink i)
past_unlink None i j n h = let e : j ≡ i = cc in absurd (n (sym e))
past_unlink (Some s) i j n h = h

-- the id of the last word is on its way
pub counted : (L : List LinkNews) (i : ℕ) → last_said L ≡ Some (Unlink i) → 1 ≤ unlinks_in i L
counted [] i h = cc
counted (Signals Link ∷ L) i h = omega (arith, counted L i (past_link _ i h))
counted (Signals (Unlink j) ∷ L) i h = cond_both (i == j) 1 0 (λ n. 1 ≤ n + unlinks_in i L) (λ e. omega arith)
    (λ e. omega (arith, counted L i (past_unlink (last_said L) i j (eqb-false i j e) h)))
counted (Signals (Ack j) ∷ L) i h = omega (arith, counted L i h)
counted (Exited r ∷ L) i h = omega (arith, counted L i h)
