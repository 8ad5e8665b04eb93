-- One process that changes, and what that makes of the maps.
use Rattle.std.proofs.Common.{◌≡◌, ℕ, zero, suc, Bool, true, false, cond, not, ◌&&◌, List, [], ◌∷◌, ◌++◌}
use Rattle.std.proofs.Common.{length, Option, None, Some, refl, sym, ap, ◌∙◌, ◌+◌, arith, ◌<◌, set}
use Rattle.std.proofs.lemmas.Bool.{eq-eqb}
use Rattle.std.specs.List.{slice_get}
use Rattle.std.specs.Option.{option_map, option_and_then}
use Rattle.erl_names.specs.Draw.{Draw}
use Rattle.erl_names.specs.Draw as draw
use Rattle.std.specs.FinMap as fm
use Rattle.std.specs.FinMap.{FinMap}
use Rattle.dist_model.proofs.Keys.{pid_exact, pid_total, pair_exact, pair_total, same_pair, same_name_refl, same_pid_true}
use Rattle.dist_model.specs.Names.{pair_cmp, same_pid}
use Rattle.dist_model.specs.Node.{Life as ModelLife}
use Rattle.dist_model.specs.Node as model
use Rattle.dist_model.specs.Work.{set_in, set_life}
use Rattle.erl_names.specs.Ids.{pid_of}
use Rattle.erl_names.specs.Minted.{Minted, drawn}
use Rattle.erl_term.specs.Order.{pid_cmp}
use Rattle.erl_term.specs.declared.term.Pid.{Pid}
use Rattle.link_core.specs.Ends.{with_end}
use Rattle.link_core.specs.declared.end.End.{End}
use Rattle.std.specs.Prelude.{unwrap_or}
use Rattle.std.specs.Cmp.Derive.{both_true}
use Rattle.node_tables.specs.Becomes.{becomes, end_changed}
use Rattle.node_tables.specs.declared.end_change.EndChange.{EndChange}
use Rattle.node_tables.specs.Lives.{by_id, changed, end_at, ends_in, life_in, is_own, life_of, links_of, lives_in, without_ends, pid_at}
use Rattle.node_tables.specs.declared.life.Life.{Life}
use Rattle.node_tables.proofs.Edited.{Puts, end_put, lives_put, none_past, push_puts, set_puts}
use Rattle.node_tables.proofs.Lookups.{get_end, get_life}

held : {A : Type 0} (b : Bool) (y z : A) → (b ≡ true → z ≡ y) → cond b y z ≡ z
held true y z h = sym (h refl)
held false y z h = refl

life_again : (lives : FinMap pid_cmp ModelLife) (p : Pid) (x : ModelLife) → fm.get lives p ≡ Some x → fm.insert lives p x ≡ lives
life_again lives p x h = fm.same_map pid_total pid_exact _ _ (λ q.
    fm.get-insert pid_total lives p x q ∙ held (same_pid q p) (Some x) (fm.get lives q) (λ t. ap (fm.get lives) (same_pid_true q p t) ∙ h))

-- ---- ends

split : {A : Type 0} (b c : Bool) (x y z : A) → cond b (cond c x y) z ≡ cond (b && c) x (cond b y z)
split true c x y z = refl
split false c x y z = refl

module _ (m : Minted) (es fs : List Life) (n : ℕ) (e f : Life) (h : Puts m es fs n f) (was : life_in m es (pid_of m n) ≡ Some e) where
  P : Pid
  P = pid_of m n

  before : (p q : Pid) → same_pid p (pid_of m n) ≡ true → fm.get (ends_in m es) (p, q) ≡ fm.get (links_of e) q
  before p q t =
      ap (λ x. fm.get (ends_in m es) (x, q)) (same_pid_true p (pid_of m n) t) ∙ get_end m es (pid_of m n) q
      ∙ ap (Rattle.std.specs.Option.option_and_then (Rattle.node_tables.specs.Lives.end_at q)) was

  pub ends_stay : links_of f ≡ links_of e → ends_in m fs ≡ ends_in m es
  ends_stay s = fm.same_map pair_total pair_exact _ _ (λ pair.
      end_put m es fs n f h pair.0 pair.1 ∙ held (same_pid pair.0 (pid_of m n)) (fm.get (links_of f) pair.1)
      (fm.get (ends_in m es) pair) (λ t. before pair.0 pair.1 t ∙ ap (λ l. fm.get l pair.1) (sym s)))

  pub end_set : (q : Pid) (x : End) → links_of f ≡ with_end (links_of e) q x → ends_in m fs ≡ set_in (ends_in m es) (pid_of m n, q) x
  end_set q x s = fm.same_map pair_total pair_exact _ _ (λ pair. look pair.0 pair.1 x s)
    where
      put_one : (a b : Pid) (x : End) → links_of f ≡ fm.insert (links_of e) q x
          → fm.get (ends_in m fs) (a, b) ≡ fm.get (fm.insert (ends_in m es) (pid_of m n, q) x) (a, b)
      put_one a b x s =
          end_put m es fs n f h a b
          ∙ ap (λ o. cond (same_pid a (pid_of m n)) o (fm.get (ends_in m es) (a, b)))
          (ap (λ l. fm.get l b) s ∙ fm.get-insert pid_total (links_of e) q x b)
          ∙ split (same_pid a (pid_of m n)) (same_pid b q) (Some x) (fm.get (links_of e) b) (fm.get (ends_in m es) (a, b))
          ∙ ap (cond (same_pid a (pid_of m n) && same_pid b q) (Some x))
          (held (same_pid a (pid_of m n)) (fm.get (links_of e) b) (fm.get (ends_in m es) (a, b)) (before a b))
          ∙ sym (fm.get-insert pair_total (ends_in m es) (pid_of m n, q) x (a, b)
          ∙ ap (λ t. cond t (Some x) (fm.get (ends_in m es) (a, b))) (same_pair a b (pid_of m n) q))

      look : (a b : Pid) (x : End) → links_of f ≡ with_end (links_of e) q x
          → fm.get (ends_in m fs) (a, b) ≡ fm.get (set_in (ends_in m es) (pid_of m n, q) x) (a, b)
      look a b End.Active s = put_one a b End.Active s
      look a b (End.Pending i) s = put_one a b (End.Pending i) s
      look a b End.None s =
          end_put m es fs n f h a b
          ∙ ap (λ o. cond (same_pid a (pid_of m n)) o (fm.get (ends_in m es) (a, b)))
          (ap (λ l. fm.get l b) s ∙ fm.get-remove pid_total (links_of e) q b)
          ∙ split (same_pid a (pid_of m n)) (same_pid b q) None (fm.get (links_of e) b) (fm.get (ends_in m es) (a, b))
          ∙ ap (cond (same_pid a (pid_of m n) && same_pid b q) None)
          (held (same_pid a (pid_of m n)) (fm.get (links_of e) b) (fm.get (ends_in m es) (a, b)) (before a b))
          ∙ sym (fm.get-remove pair_total (ends_in m es) (pid_of m n, q) (a, b)
          ∙ ap (λ t. cond t None (fm.get (ends_in m es) (a, b))) (same_pair a b (pid_of m n) q))

  -- another process's ends stay
  set_aside : (ends : FinMap pair_cmp End) (p q a b : Pid) (x : End) → same_pid a p ≡ false
      → fm.get (set_in ends (p, q) x) (a, b) ≡ fm.get ends (a, b)
  set_aside ends p q a b End.None t =
      fm.get-remove pair_total ends (p, q) (a, b)
      ∙ ap (λ c. cond c None (fm.get ends (a, b))) (same_pair a b p q ∙ ap (λ c. c && same_pid b q) t)
  set_aside ends p q a b End.Active t =
      fm.get-insert pair_total ends (p, q) End.Active (a, b)
      ∙ ap (λ c. cond c (Some End.Active) (fm.get ends (a, b))) (same_pair a b p q ∙ ap (λ c. c && same_pid b q) t)
  set_aside ends p q a b (End.Pending i) t =
      fm.get-insert pair_total ends (p, q) (End.Pending i) (a, b)
      ∙ ap (λ c. cond c (Some (End.Pending i)) (fm.get ends (a, b))) (same_pair a b p q ∙ ap (λ c. c && same_pid b q) t)

  pub ends_go : links_of f ≡ fm.empty → ends_in m fs ≡ fm.retain_keys (ends_in m es) (λ pair. not (same_pid pair.0 (pid_of m n)))
  ends_go s = fm.same_map pair_total pair_exact _ _ (λ pair.
      end_put m es fs n f h pair.0 pair.1
      ∙ ap (λ o. cond (same_pid pair.0 (pid_of m n)) o (fm.get (ends_in m es) pair))
      (ap (λ l. fm.get l pair.1) s ∙ fm.get-empty pid_cmp pair.1)
      ∙ go (same_pid pair.0 (pid_of m n)) (fm.get (ends_in m es) pair)
      ∙ sym (fm.get-retain_keys (ends_in m es) (λ k. not (same_pid k.0 (pid_of m n))) pair
      (λ k t. ap (λ (j : Pid × Pid). not (same_pid j.0 (pid_of m n))) (sym (pair_exact pair k t)))))
    where
      go : (t : Bool) (o : Option End) → cond t None o ≡ cond (not t) o None
      go true o = refl
      go false o = refl

  pub lives_now : (x : Option ModelLife) → Some (life_of f) ≡ x → lives_in m fs ≡ set_life (lives_in m es) (pid_of m n) x
  lives_now x s = lives_put m es fs n f h ∙ ap (set_life (lives_in m es) (pid_of m n)) s

  pub life_was : fm.get (lives_in m es) (pid_of m n) ≡ Some (life_of e)
  life_was = get_life m es (pid_of m n) ∙ ap (Rattle.std.specs.Option.option_map life_of) was

-- one is spawned
pub lives_spawned : (m : Minted) (es : List Life) (e : Life) → life_of e ≡ model.Living false [] → length es ≡ m.pids
    → lives_in m (es ++ e ∷ []) ≡ fm.insert (lives_in m es) (pid_of m (m.pids + 1)) (model.Living false [])
lives_spawned m es e s k =
    let same : suc (length es) ≡ m.pids + 1 = omega arith in
    lives_put m es (es ++ e ∷ []) (suc (length es)) e (push_puts m es e)
    ∙ ap (λ (n : ℕ). fm.insert (lives_in m es) (pid_of m n) (life_of e)) same
    ∙ ap (fm.insert (lives_in m es) (pid_of m (m.pids + 1))) s

pub ends_spawned : (m : Minted) (es : List Life) (e : Life) → links_of e ≡ fm.empty → ends_in m (es ++ e ∷ []) ≡ ends_in m es
ends_spawned m es e s = fm.same_map pair_total pair_exact _ _ (λ pair.
    end_put m es (es ++ e ∷ []) (suc (length es)) e (push_puts m es e) pair.0 pair.1
    ∙ held (same_pid pair.0 (pid_of m (suc (length es)))) (fm.get (links_of e) pair.1) (fm.get (ends_in m es) pair) (λ t.
    ap (λ x. fm.get (ends_in m es) (x, pair.1)) (same_pid_true pair.0 (pid_of m (suc (length es))) t)
    ∙ get_end m es (pid_of m (suc (length es))) pair.1
    ∙ ap (Rattle.std.specs.Option.option_and_then (Rattle.node_tables.specs.Lives.end_at pair.1)) (none_past m es)
    ∙ sym (ap (λ l. fm.get l pair.1) s ∙ fm.get-empty pid_cmp pair.1)))

pub own_pid : (m : Minted) (n : ℕ) → is_own m (pid_of m n) ≡ true
own_pid m n = both_true (same_name_refl m.name) (both_true (eq-eqb m.creation m.creation refl) (eq-eqb 0 0 refl))

pub placed : (m : Minted) (es : List Life) (i : ℕ) (e : Life) → slice_get es i ≡ Some e → life_in m es (pid_of m (suc i)) ≡ Some e
placed m es i e h = ap (λ b. cond b (slice_get es i) None) (own_pid m (suc i)) ∙ h

pub there : (m : Minted) (es : List Life) (p : Pid) (place : ℕ) → pid_at m place ≡ p → life_in m es p ≡ slice_get es place
there m es p place h = ap (life_in m es) (sym h) ∙ ap (λ b. cond b (slice_get es place) None) (own_pid m (suc place))

-- what is drawn changes no pid
pub lives_drawn : (m : Minted) (k : Draw) (es : List Life) → lives_in (drawn m k) es ≡ lives_in m es
lives_drawn m k es =
    fm.same_map pid_total pid_exact _ _ (λ q. get_life (drawn m k) es q ∙ ap (option_map life_of) (same k q) ∙ sym (get_life m es q))
  where
    same : (k : Draw) (q : Pid) → life_in (drawn m k) es q ≡ life_in m es q
    same draw.Pid q = refl
    same _ q = refl

pub ends_drawn : (m : Minted) (k : Draw) (es : List Life) → ends_in (drawn m k) es ≡ ends_in m es
ends_drawn m k es =
    fm.same_map pair_total pair_exact _ _
    (λ pair. get_end (drawn m k) es pair.0 pair.1 ∙ ap (option_and_then (end_at pair.1)) (same k pair.0) ∙ sym (get_end m es pair.0 pair.1))
  where
    same : (k : Draw) (q : Pid) → life_in (drawn m k) es q ≡ life_in m es q
    same draw.Pid q = refl
    same _ q = refl

-- there is none yet
pub no_lives : (m : Minted) → lives_in m [] ≡ fm.empty
no_lives m = fm.same_map pid_total pid_exact _ _ (λ q. get_life m [] q ∙ none (is_own m q) q.id ∙ sym (fm.get-empty pid_cmp q))
  where
    none : (b : Bool) (id : ℕ) → option_map life_of (cond b (by_id [] id) None) ≡ None
    none true zero = refl
    none _ _ = refl

pub no_ends : (m : Minted) → ends_in m [] ≡ fm.empty
no_ends m =
    fm.same_map pair_total pair_exact _ _
    (λ pair. get_end m [] pair.0 pair.1 ∙ none (is_own m pair.0) pair.0.id pair.1 ∙ sym (fm.get-empty pair_cmp pair))
  where
    none : (b : Bool) (id : ℕ) (q : Pid) → option_and_then (end_at q) (cond b (by_id [] id) None) ≡ None
    none true zero q = refl
    none _ _ q = refl

module _ (m : Minted) (es fs : List Life) (n : ℕ) (e f : Life) (h : Puts m es fs n f) (was : life_in m es (pid_of m n) ≡ Some e) where
  pub lives_changed : (become : Option ModelLife → Option ModelLife) → Some (life_of f) ≡ become (Some (life_of e))
      → lives_in m fs ≡ changed (lives_in m es) (pid_of m n) become
  lives_changed become s =
      lives_now m es fs n e f h was (become (Some (life_of e))) s
      ∙ ap (λ o. set_life (lives_in m es) (pid_of m n) (become o)) (sym (life_was m es fs n e f h was))

-- where there is none, none changes
pub none_lives : (m : Minted) (es : List Life) (p : Pid) → life_in m es p ≡ None → fm.get (lives_in m es) p ≡ None
none_lives m es p h = get_life m es p ∙ ap (option_map life_of) h

pub none_changes : (m : Minted) (es : List Life) (p : Pid) (become : Option ModelLife → Option ModelLife)
    → life_in m es p ≡ None → become None ≡ None → changed (lives_in m es) p become ≡ lives_in m es
none_changes m es p become h k = ap (λ o. set_life (lives_in m es) p (become o)) (none_lives m es p h) ∙ ap (set_life (lives_in m es) p) k

module _ (m : Minted) (es fs : List Life) (n : ℕ) (e f : Life) (h : Puts m es fs n f) (was : life_in m es (pid_of m n) ≡ Some e) where
  pub end_becomes : (q : Pid) (change : EndChange)
      → links_of f ≡ with_end (links_of e) q (becomes change (unwrap_or (fm.get (links_of e) q) End.None))
      → ends_in m fs ≡ end_changed (ends_in m es) (pid_of m n, q) change
  end_becomes q change s =
      end_set m es fs n e f h was q (becomes change (unwrap_or (fm.get (links_of e) q) End.None)) s
      ∙ ap (λ o. set_in (ends_in m es) (pid_of m n, q) (becomes change (unwrap_or o End.None)))
      (sym (get_end m es (pid_of m n) q ∙ ap (option_and_then (end_at q)) was))

  pub lives_put_again : life_of f ≡ life_of e → lives_in m fs ≡ lives_in m es
  lives_put_again s =
      lives_put m es fs n f h ∙ ap (fm.insert (lives_in m es) (pid_of m n)) s
      ∙ life_again (lives_in m es) (pid_of m n) (life_of e) (life_was m es fs n e f h was)

pub no_ends_go : (m : Minted) (es : List Life) (p : Pid) → life_in m es p ≡ None → without_ends (ends_in m es) p ≡ ends_in m es
no_ends_go m es p h = fm.same_map pair_total pair_exact _ _ (λ pair.
    fm.get-retain_keys (ends_in m es) (λ k. not (same_pid k.0 p)) pair
    (λ k t. ap (λ (j : Pid × Pid). not (same_pid j.0 p)) (sym (pair_exact pair k t)))
    ∙ go pair.0 pair.1 (same_pid pair.0 p) refl)
  where
    go : (a b : Pid) (t : Bool) → same_pid a p ≡ t → cond (not t) (fm.get (ends_in m es) (a, b)) None ≡ fm.get (ends_in m es) (a, b)
    go a b false t = refl
    go a b true t =
        sym (ap (λ x. fm.get (ends_in m es) (x, b)) (same_pid_true a p t) ∙ get_end m es p b ∙ ap (option_and_then (end_at b)) h)

-- ---- one process at its place is another

pub life_at : (m : Minted) (es : List Life) (i : ℕ) (old : Life) → slice_get es i ≡ Some old
    → fm.get (lives_in m es) (pid_of m (suc i)) ≡ Some (life_of old)
life_at m es i old at = get_life m es (pid_of m (suc i)) ∙ ap (option_map life_of) (placed m es i old at)

module _ (m : Minted) (es : List Life) (i : ℕ) (old new : Life) (within : i < length es) (at : slice_get es i ≡ Some old) where
  pub lives_at : (become : Option ModelLife → Option ModelLife) → Some (life_of new) ≡ become (Some (life_of old))
      → lives_in m (set es i new) ≡ changed (lives_in m es) (pid_of m (suc i)) become
  lives_at = lives_changed m es (set es i new) (suc i) old new (set_puts m es i new within) (placed m es i old at)

  pub same_lives_at : life_of new ≡ life_of old → lives_in m (set es i new) ≡ lives_in m es
  same_lives_at = lives_put_again m es (set es i new) (suc i) old new (set_puts m es i new within) (placed m es i old at)

  pub same_ends_at : links_of new ≡ links_of old → ends_in m (set es i new) ≡ ends_in m es
  same_ends_at = ends_stay m es (set es i new) (suc i) old new (set_puts m es i new within) (placed m es i old at)
