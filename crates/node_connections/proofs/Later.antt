-- Whether a link is left once the first towards a peer is gone: those behind it.
use Rattle.std.proofs.Common.{◌≡◌, ℕ, ◌<◌, Bool, true, false, cond, not, ◌&&◌, List, None}
use Rattle.std.proofs.Common.{Some, ◌⊎◌, inl, inr, refl, sym, ap, subst, ◌∙◌, arith}
use Rattle.std.proofs.lemmas.Bool.{both_ways, cases_order, false_from_ne_true}
use Rattle.std.specs.Cmp.{tied_itself}
use Rattle.std.specs.FinMap as fm
use Rattle.std.specs.FinMap.{FinMap}
use Rattle.std.specs.Option.{is_some}
use Rattle.std.specs.Ordering.{is_lt, ordering_reverse, ordering_then}
use Rattle.std.specs.declared.cmp.Ordering.{Ordering}
use Rattle.std.specs.declared.cmp.Ordering.TheVariants.{Less, Equal, Greater}
use Rattle.dist_model.proofs.Keys.{pair_exact, pair_total, pid_exact, pid_total, same_pair, same_pid_is, same_pid_refl, same_pid_true}
use Rattle.dist_model.specs.Losses.{link_to}
use Rattle.dist_model.specs.Names.{Name, pair_cmp, same_name, same_pid}
use Rattle.erl_names.specs.Ids.{pid_of}
use Rattle.erl_names.specs.Minted.{Minted}
use Rattle.erl_term.specs.Order.{pid_cmp}
use Rattle.erl_term.specs.declared.term.Pid.{Pid}
use Rattle.link_core.specs.declared.end.End.{End}
use Rattle.node_connections.proofs.Firsts.{Found, found, is_there, none_is}
use Rattle.node_connections.proofs.Owned.{is_of, owner}
use Rattle.node_connections.specs.Records.{has_link, parted, unlinked}
use Rattle.node_tables.specs.Lives.{ends_in}
use Rattle.node_tables.specs.declared.life.Life.{Life}
use Rattle.node_tables.proofs.Lookups.{less_id, lt_pair}

-- ---- pids of one incarnation are in the order of their ids

other_id : (m : Minted) (n k : ℕ) → n < k → same_pid (pid_of m k) (pid_of m n) ≡ false
other_id m n k l =
    false_from_ne_true (same_pid (pid_of m k) (pid_of m n))
    (λ h. let same : k ≡ n = ap (λ (p : Pid). p.id) (same_pid_true (pid_of m k) (pid_of m n) h) in omega arith)

partner_order : (P x y : Pid) → pair_cmp (P, x) (P, y) ≡ pid_cmp x y
partner_order P x y = ap (λ o. ordering_then o (pid_cmp x y)) (tied_itself pid_total P)

abbrev towards : Name → Pid × Pid → End → Bool
towards peer pair end = same_name pair.1.node peer

module _ (m : Minted) (lives : List Life) (peer : Name) (id : ℕ) (q : Pid) (e : End)
    (first : link_to peer (fm.entries (ends_in m lives)) ≡ Some ((pid_of m id, q), e)) where
  abbrev p : Pid
  p = pid_of m id

  abbrev all : FinMap pair_cmp End
  all = ends_in m lives

  is_found : Found pair_total pair_exact (towards peer) all (pid_of m id, q) e
  is_found = found pair_total pair_exact (towards peer) all ((pid_of m id, q), e) first

  -- each other that is towards the peer is of the same process, or of one behind it
  pub behind : (x y : Pid) (f : End) → fm.get all (x, y) ≡ Some f → same_name y.node peer ≡ true → (id < x.id) ⊎ (x ≡ p)
  behind x y f h t = go (cases_order id x.id)
    where
      is : pid_of m x.id ≡ x
      is = is_of m lives x (owner m lives x y f h)

      least : is_lt (pair_cmp (x, y) (p, q)) ≡ false
      least = is_found.least (x, y) f h t

      go : (id ≡ x.id) ⊎ ((id < x.id) ⊎ (x.id < id)) → (id < x.id) ⊎ (x ≡ p)
      go (inr (inr l)) =
          absurd (both_ways (is_lt (pair_cmp (x, y) (p, q))) least
          (subst (λ z. is_lt (pair_cmp (z, y) (p, q)) ≡ true) is (lt_pair (pid_of m x.id) p y q (less_id m x.id id l))))
      go (inl s) = inr (sym is ∙ ap (pid_of m) (sym s))
      go (inr (inl l)) = inl l

  -- ---- the ends that are left

  get_unlinked : (x y : Pid) → fm.get (unlinked p q all) (x, y) ≡ cond (same_pid x p && same_pid y q) None (fm.get all (x, y))
  get_unlinked x y = fm.get-remove pair_total all (p, q) (x, y) ∙ ap (λ b. cond b None (fm.get all (x, y))) (same_pair x y p q)

  get_parted : (x y : Pid) → fm.get (parted p q all) (x, y) ≡ cond (not (same_pid x p)) (fm.get (unlinked p q all) (x, y)) None
  get_parted x y =
      fm.get-retain_keys (unlinked p q all) (λ pair. not (same_pid pair.0 p)) (x, y)
      (λ z t. ap (λ (k : Pid × Pid). not (same_pid k.0 p)) (sym (pair_exact (x, y) z t)))

  kept_unlinked : (x y : Pid) (f : End) → fm.get (unlinked p q all) (x, y) ≡ Some f → ((same_pid x p && same_pid y q) ≡ false)
      × (fm.get all (x, y) ≡ Some f)
  kept_unlinked x y f h = go (same_pid x p && same_pid y q) refl (sym (get_unlinked x y) ∙ h)
    where
      go : (b : Bool) → (same_pid x p && same_pid y q) ≡ b → cond b None (fm.get all (x, y)) ≡ Some f
          → ((same_pid x p && same_pid y q) ≡ false) × (fm.get all (x, y) ≡ Some f)
      go true t h = cc
      go false t h = (t, h)

  kept_parted : (x y : Pid) (f : End) → fm.get (parted p q all) (x, y) ≡ Some f → (same_pid x p ≡ false) × (fm.get all (x, y) ≡ Some f)
  kept_parted x y f h = go (same_pid x p) refl (sym (get_parted x y) ∙ h)
    where
      go : (b : Bool) → same_pid x p ≡ b → cond (not b) (fm.get (unlinked p q all) (x, y)) None ≡ Some f
          → (same_pid x p ≡ false) × (fm.get all (x, y) ≡ Some f)
      go true t h = cc
      go false t h = (t, (kept_unlinked x y f h).1)

  abbrev pub NoneBehind : Type 0
  NoneBehind = (x y : Pid) (f : End) → fm.get all (x, y) ≡ Some f → id < x.id → same_name y.node peer ≡ false

  abbrev pub NoneBeside : Type 0
  NoneBeside = (y : Pid) (f : End) → fm.get all (p, y) ≡ Some f → is_lt (pid_cmp q y) ≡ true → same_name y.node peer ≡ false

  -- ---- where its process ends

  pub parted_some : (n : ℕ) (y : Pid) (f : End) → id < n → fm.get all (pid_of m n, y) ≡ Some f → same_name y.node peer ≡ true
      → has_link peer (parted p q all) ≡ true
  parted_some n y f l h t =
      let other : same_pid (pid_of m n) p ≡ false = other_id m id n l in
      is_there pair_total pair_exact (towards peer) (parted p q all) (pid_of m n, y) f
      (get_parted (pid_of m n) y ∙ ap (λ b. cond (not b) (fm.get (unlinked p q all) (pid_of m n, y)) None) other
      ∙ get_unlinked (pid_of m n) y ∙ ap (λ b. cond (b && same_pid y q) None (fm.get all (pid_of m n, y))) other ∙ h) t

  pub parted_none : NoneBehind → has_link peer (parted p q all) ≡ false
  parted_none n =
      ap is_some
      (none_is pair_total pair_exact (towards peer) (parted p q all) (λ pair f h. none pair.0 pair.1 f h (same_name pair.1.node peer) refl))
    where
      none : (x y : Pid) (f : End) → fm.get (parted p q all) (x, y) ≡ Some f → (b : Bool) → same_name y.node peer ≡ b → b ≡ false
      none x y f h false t = refl
      none x y f h true t =
          let k = kept_parted x y f h in
          elim (behind x y f k.1 t) [
            | inl l ↦ absurd (both_ways (same_name y.node peer) (n x y f k.1 l) t)
            | inr s ↦ absurd (both_ways (same_pid x p) k.0 (same_pid_is x p s))
          ]

  -- ---- where it goes on

  pub unlinked_behind : (n : ℕ) (y : Pid) (f : End) → id < n → fm.get all (pid_of m n, y) ≡ Some f
      → same_name y.node peer ≡ true → has_link peer (unlinked p q all) ≡ true
  unlinked_behind n y f l h t =
      is_there pair_total pair_exact (towards peer) (unlinked p q all) (pid_of m n, y) f
      (get_unlinked (pid_of m n) y ∙ ap (λ b. cond (b && same_pid y q) None (fm.get all (pid_of m n, y))) (other_id m id n l) ∙ h) t

  pub unlinked_beside : (y : Pid) (f : End) → fm.get all (p, y) ≡ Some f → same_name y.node peer ≡ true
      → is_lt (pid_cmp q y) ≡ true → has_link peer (unlinked p q all) ≡ true
  unlinked_beside y f h t l =
      is_there pair_total pair_exact (towards peer) (unlinked p q all) (p, y) f
      (get_unlinked p y
      ∙ ap (λ b. cond b None (fm.get all (p, y))) (ap (λ b. b && same_pid y q) (same_pid_refl p) ∙ other (same_pid y q) refl)
      ∙ h) t
    where
      other : (b : Bool) → same_pid y q ≡ b → b ≡ false
      other true s =
          absurd
          (both_ways (is_lt (pid_cmp q y)) (ap (λ z. is_lt (pid_cmp q z)) (same_pid_true y q s) ∙ ap is_lt (tied_itself pid_total q)) l)
      other false s = refl

  pub unlinked_none : NoneBehind → NoneBeside → has_link peer (unlinked p q all) ≡ false
  unlinked_none n s =
      ap is_some (none_is pair_total pair_exact (towards peer) (unlinked p q all)
      (λ pair f h. none pair.0 pair.1 f h (same_name pair.1.node peer) refl))
    where
      ordered : (y : Pid) → is_lt (pid_cmp y q) ≡ false → same_pid y q ≡ false → is_lt (pid_cmp q y) ≡ true
      ordered y a b = go (pid_cmp y q) refl
        where
          go : (o : Ordering) → pid_cmp y q ≡ o → is_lt (pid_cmp q y) ≡ true
          go Less k = absurd (both_ways (is_lt (pid_cmp y q)) a (ap is_lt k))
          go Equal k = absurd (both_ways (same_pid y q) b (same_pid_is y q (pid_exact y q k)))
          go Greater k = ap is_lt (pid_total.antisymm q y ∙ ap ordering_reverse k)

      beside : (x y : Pid) (f : End) → x ≡ p → fm.get all (x, y) ≡ Some f → (same_pid x p && same_pid y q) ≡ false
          → same_name y.node peer ≡ true → same_name y.node peer ≡ false
      beside x y f is h d t =
          let here : fm.get all (p, y) ≡ Some f = ap (λ z. fm.get all (z, y)) (sym is) ∙ h in
          let least : is_lt (pid_cmp y q) ≡ false = ap is_lt (sym (partner_order p y q)) ∙ is_found.least (p, y) f here t in
          let other : same_pid y q ≡ false = ap (λ b. b && same_pid y q) (sym (same_pid_is x p is)) ∙ d in
          s y f here (ordered y least other)

      none : (x y : Pid) (f : End) → fm.get (unlinked p q all) (x, y) ≡ Some f → (b : Bool) → same_name y.node peer ≡ b → b ≡ false
      none x y f h false t = refl
      none x y f h true t =
          let k = kept_unlinked x y f h in
          elim (behind x y f k.1 t) [
            | inl l ↦ absurd (both_ways (same_name y.node peer) (n x y f k.1 l) t)
            | inr is ↦ absurd (both_ways (same_name y.node peer) (beside x y f is k.1 k.0 t) t)
          ]
