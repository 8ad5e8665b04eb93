-- An edit at one place, and what it makes of the maps.
use Rattle.std.proofs.Common.{◌≡◌, ◌≢◌, ℕ, zero, suc, ◌<◌, Bool, true, false, cond, nat_eq, ◌&&◌, List}
use Rattle.std.proofs.Common.{[], ◌∷◌, ◌++◌, length, set, Option, None, Some, refl, sym, ap, ◌∙◌, arith}
use Rattle.std.proofs.lemmas.Bool.{eqb-false, eqb-true, ne_eqb}
use Rattle.std.proofs.lemmas.Option.{slice_get-get_or, slice_get_past}
use Rattle.std.proofs.lemmas.List.{get_or-set_same, length-set}
use Rattle.std.specs.Option.{option_map, option_and_then}
use Rattle.std.specs.List.{slice_get}
use Rattle.std.specs.FinMap as fm
use Rattle.dist_model.proofs.Keys.{pid_exact, pid_total}
use Rattle.dist_model.specs.Names.{same_pid}
use Rattle.erl_names.specs.Ids.{pid_of}
use Rattle.erl_names.specs.Minted.{Minted}
use Rattle.erl_term.specs.declared.term.Pid.{Pid}
use Rattle.node_tables.specs.declared.life.Life.{Life}
use Rattle.node_tables.specs.Lives.{by_id, end_at, ends_in, life_in, is_own, life_of, links_of, lives_in}
use Rattle.node_tables.proofs.Lookups.{at_id, get_end, get_life}

-- ---- the entries by their pids

pub set_same : (es : List Life) (i : ℕ) (e : Life) → i < length es → slice_get (set es i e) i ≡ Some e
set_same es i e l = slice_get-get_or (set es i e) i e (omega (arith, l, length-set es i e)) ∙ ap Some (get_or-set_same es i e e l)

set_other : (es : List Life) (i k : ℕ) (e : Life) → k ≢ i → slice_get (set es i e) k ≡ slice_get es k
set_other (x ∷ es) zero zero e n = absurd (n refl)
set_other (x ∷ es) (suc i) (suc k) e n = set_other es i k e (λ h. n (ap suc h))
set_other _ _ _ e n = refl

by_id_set : (es : List Life) (i id : ℕ) (e : Life) → i < length es → by_id (set es i e) id ≡ cond (nat_eq id (suc i)) (Some e) (by_id es id)
by_id_set es i zero e l = ap (λ b. cond b (Some e) None) (sym (ne_eqb 0 (suc i) (omega arith)))
by_id_set es i (suc k) e l = go (nat_eq (suc k) (suc i)) refl
  where
    go : (b : Bool) → nat_eq (suc k) (suc i) ≡ b → slice_get (set es i e) k ≡ cond b (Some e) (slice_get es k)
    go true h =
        let same : k ≡ i = (let s = eqb-true (suc k) (suc i) h in omega arith) in ap (slice_get (set es i e)) same ∙ set_same es i e l
    go false h = set_other es i k e (λ s. eqb-false (suc k) (suc i) h (ap suc s))

push_same : (es : List Life) (e : Life) → slice_get (es ++ e ∷ []) (length es) ≡ Some e
push_same [] e = refl
push_same (x ∷ es) e = push_same es e

push_other : (es : List Life) (k : ℕ) (e : Life) → k ≢ length es → slice_get (es ++ e ∷ []) k ≡ slice_get es k
push_other [] zero e n = absurd (n refl)
push_other [] (suc k) e n = refl
push_other (x ∷ es) zero e n = refl
push_other (x ∷ es) (suc k) e n = push_other es k e (λ h. n (ap suc h))

by_id_push : (es : List Life) (id : ℕ) (e : Life) → by_id (es ++ e ∷ []) id ≡ cond (nat_eq id (suc (length es))) (Some e) (by_id es id)
by_id_push es zero e = ap (λ b. cond b (Some e) None) (sym (ne_eqb 0 (suc (length es)) (omega arith)))
by_id_push es (suc k) e = go (nat_eq (suc k) (suc (length es))) refl
  where
    go : (b : Bool) → nat_eq (suc k) (suc (length es)) ≡ b → slice_get (es ++ e ∷ []) k ≡ cond b (Some e) (slice_get es k)
    go true h =
        let same : k ≡ length es = (let s = eqb-true (suc k) (suc (length es)) h in omega arith) in
        ap (slice_get (es ++ e ∷ [])) same ∙ push_same es e
    go false h = push_other es k e (λ s. eqb-false (suc k) (suc (length es)) h (ap suc s))

-- the entries with one at the id n, new or changed
pub record Puts (m : Minted) (es fs : List Life) (n : ℕ) (e : Life) : Type 0 where
  pub at : (q : Pid) → life_in m fs q ≡ cond (same_pid q (pid_of m n)) (Some e) (life_in m es q)

put_by : (m : Minted) (es fs : List Life) (n : ℕ) (e : Life)
    → ((id : ℕ) → by_id fs id ≡ cond (nat_eq id n) (Some e) (by_id es id)) → Puts m es fs n e
put_by m es fs n e h = record {
  at = λ q. ap (λ o. cond (is_own m q) o None) (h q.id) ∙ go (is_own m q) (nat_eq q.id n) (by_id es q.id)
      ∙ ap (λ b. cond b (Some e) (life_in m es q)) (sym (at_id m n q));
}
  where
    go : (o b : Bool) (x : Option Life) → cond o (cond b (Some e) x) None ≡ cond (o && b) (Some e) (cond o x None)
    go true b x = refl
    go false b x = refl

pub set_puts : (m : Minted) (es : List Life) (i : ℕ) (e : Life) → i < length es → Puts m es (set es i e) (suc i) e
set_puts m es i e l = put_by m es (set es i e) (suc i) e (λ id. by_id_set es i id e l)

pub push_puts : (m : Minted) (es : List Life) (e : Life) → Puts m es (es ++ e ∷ []) (suc (length es)) e
push_puts m es e = put_by m es (es ++ e ∷ []) (suc (length es)) e (λ id. by_id_push es id e)

-- no entry has a later id

pub none_past : (m : Minted) (es : List Life) → life_in m es (pid_of m (suc (length es))) ≡ None
none_past m es =
    ap (λ o. cond (is_own m (pid_of m (suc (length es)))) o None) (slice_get_past es (length es) (omega arith))
    ∙ go (is_own m (pid_of m (suc (length es))))
  where
    go : (b : Bool) → ◌≡◌ {A = Option Life} (cond b None None) None
    go true = refl
    go false = refl

-- ---- the maps

module _ (m : Minted) (es fs : List Life) (n : ℕ) (e : Life) (h : Puts m es fs n e) where
  life_put : (q : Pid) → fm.get (lives_in m fs) q ≡ cond (same_pid q (pid_of m n)) (Some (life_of e)) (fm.get (lives_in m es) q)
  life_put q =
      get_life m fs q ∙ ap (option_map life_of) (h.at q) ∙ go (same_pid q (pid_of m n))
      ∙ ap (cond (same_pid q (pid_of m n)) (Some (life_of e))) (sym (get_life m es q))
    where
      go : (b : Bool)
          → option_map life_of (cond b (Some e) (life_in m es q)) ≡ cond b (Some (life_of e)) (option_map life_of (life_in m es q))
      go true = refl
      go false = refl

  pub lives_put : lives_in m fs ≡ fm.insert (lives_in m es) (pid_of m n) (life_of e)
  lives_put =
      fm.same_map pid_total pid_exact _ _ (λ q. life_put q ∙ sym (fm.get-insert pid_total (lives_in m es) (pid_of m n) (life_of e) q))

  pub end_put : (p q : Pid)
      → fm.get (ends_in m fs) (p, q) ≡ cond (same_pid p (pid_of m n)) (fm.get (links_of e) q) (fm.get (ends_in m es) (p, q))
  end_put p q =
      get_end m fs p q ∙ ap (option_and_then (end_at q)) (h.at p) ∙ go (same_pid p (pid_of m n))
      ∙ ap (cond (same_pid p (pid_of m n)) (fm.get (links_of e) q)) (sym (get_end m es p q))
    where
      go : (b : Bool) → option_and_then (end_at q) (cond b (Some e) (life_in m es p))
          ≡ cond b (fm.get (links_of e) q) (option_and_then (end_at q) (life_in m es p))
      go true = refl
      go false = refl
