-- What maps of known entries hold. Finite maps don't compute by themselves, so where a run is computed
-- each world is written out, and each step is shown by this.
use Rattle.std.proofs.Common.{◌≡◌, ℕ, Bool, true, false, cond, List, [], ◌∷◌, refl, sym, ap, ◌∙◌, arith, ◌&&◌, Some, None}
use Rattle.std.specs.Prelude.{length, nat_eq}
use Rattle.std.specs.Cmp.Lexicographic.{pointwise}
use Rattle.std.specs.FinMap as fm
use Rattle.std.specs.FinMap.{FinMap}
use Rattle.std.specs.FinMap.Entries.{put}
use Rattle.std.specs.declared.cmp.Ordering.{Ordering}
use Rattle.std.specs.Ordering.{eq_by_cmp}
use Rattle.erl_term.specs.declared.term.Pid.{Pid}
use Rattle.erl_term.specs.Order.{pid_cmp, reference_cmp}
use Rattle.erl_names.specs.declared.trunk.TrunkId.{TrunkId}
use Rattle.erl_names.specs.Order.{trunk_cmp}
use Rattle.link_core.specs.declared.end.End.{End}
use Rattle.dist_model.specs.Names.{Name, pair_cmp, place_cmp}
use Rattle.dist_model.specs.Items.{Item}
use Rattle.dist_model.specs.Sides.{TrunkSide}
use Rattle.dist_model.specs.Node.{Life}
use Rattle.dist_model.proofs.Keys.{pid_total, pair_total, pair_exact, trunk_total, place_total}

-- what a map of known entries holds
no_entries : {A : Type 0} (es : List A) → length es ≡ 0 → es ≡ []
no_entries [] h = refl
no_entries (e ∷ es) h = absurd (omega arith)

pub entries-empty : {K X : Type 0} (R : K → K → Ordering) → fm.entries (fm.empty {X = X} {R = R}) ≡ []
entries-empty {X = X} R = no_entries _ (sym (fm.len-entries (fm.empty {X = X} {R = R})) ∙ fm.len-empty R X)

pub get_life : (m : FinMap pid_cmp (Life)) (k : Pid) (v : Life) (q : Pid)
    → fm.get (fm.insert m k v) q ≡ cond (eq_by_cmp pid_cmp q k) (Some v) (fm.get m q)
get_life m k v q = fm.get-insert pid_total m k v q

pub no_life : (q : Pid) → fm.get (fm.empty {X = Life} {R = pid_cmp}) q ≡ None
no_life q = fm.get-empty pid_cmp q

pub entries_life : (m : FinMap pid_cmp (Life)) (k : Pid) (v : Life) → fm.entries (fm.insert m k v) ≡ put pid_cmp k v (fm.entries m)
entries_life m k v = fm.entries-insert pid_total m k v

pub none_life : fm.entries (fm.empty {X = Life} {R = pid_cmp}) ≡ []
none_life = entries-empty pid_cmp

pub get_end : (m : FinMap pair_cmp (End)) (k : Pid × Pid) (v : End) (q : Pid × Pid)
    → fm.get (fm.insert m k v) q ≡ cond (eq_by_cmp pair_cmp q k) (Some v) (fm.get m q)
get_end m k v q = fm.get-insert pair_total m k v q

pub no_end : (q : Pid × Pid) → fm.get (fm.empty {X = End} {R = pair_cmp}) q ≡ None
no_end q = fm.get-empty pair_cmp q

pub entries_end : (m : FinMap pair_cmp (End)) (k : Pid × Pid) (v : End) → fm.entries (fm.insert m k v) ≡ put pair_cmp k v (fm.entries m)
entries_end m k v = fm.entries-insert pair_total m k v

pub none_end : fm.entries (fm.empty {X = End} {R = pair_cmp}) ≡ []
none_end = entries-empty pair_cmp

pub get_side : (m : FinMap trunk_cmp (TrunkSide)) (k : TrunkId) (v : TrunkSide) (q : TrunkId)
    → fm.get (fm.insert m k v) q ≡ cond (eq_by_cmp trunk_cmp q k) (Some v) (fm.get m q)
get_side m k v q = fm.get-insert trunk_total m k v q

pub no_side : (q : TrunkId) → fm.get (fm.empty {X = TrunkSide} {R = trunk_cmp}) q ≡ None
no_side q = fm.get-empty trunk_cmp q

pub entries_side : (m : FinMap trunk_cmp (TrunkSide)) (k : TrunkId) (v : TrunkSide)
    → fm.entries (fm.insert m k v) ≡ put trunk_cmp k v (fm.entries m)
entries_side m k v = fm.entries-insert trunk_total m k v

pub none_side : fm.entries (fm.empty {X = TrunkSide} {R = trunk_cmp}) ≡ []
none_side = entries-empty trunk_cmp

pub get_list : (m : FinMap place_cmp (List Item)) (k : TrunkId × Name) (v : List Item) (q : TrunkId × Name)
    → fm.get (fm.insert m k v) q ≡ cond (eq_by_cmp place_cmp q k) (Some v) (fm.get m q)
get_list m k v q = fm.get-insert place_total m k v q

pub no_list : (q : TrunkId × Name) → fm.get (fm.empty {X = List Item} {R = place_cmp}) q ≡ None
no_list q = fm.get-empty place_cmp q

pub entries_list : (m : FinMap place_cmp (List Item)) (k : TrunkId × Name) (v : List Item)
    → fm.entries (fm.insert m k v) ≡ put place_cmp k v (fm.entries m)
entries_list m k v = fm.entries-insert place_total m k v

pub none_list : fm.entries (fm.empty {X = List Item} {R = place_cmp}) ≡ []
none_list = entries-empty place_cmp

pub gone_end : (m : FinMap pair_cmp End) (k q : Pid × Pid) → fm.get (fm.remove m k) q ≡ cond (eq_by_cmp pair_cmp q k) None (fm.get m q)
gone_end m k q = fm.get-remove pair_total m k q

pub alone : (k : Pid × Pid) (e : End) → fm.remove (fm.insert (fm.empty {X = End} {R = pair_cmp}) k e) k ≡ fm.empty
alone k e =
    fm.same_map pair_total pair_exact _ _ (λ q. fm.get-remove pair_total _ k q
    ∙ ap (λ o. cond (eq_by_cmp pair_cmp q k) None o) (fm.get-insert pair_total fm.empty k e q)
    ∙ twice (eq_by_cmp pair_cmp q k) q)
  where
    twice : (b : Bool) (q : Pid × Pid)
        → cond b None (cond b (Some e) (fm.get (fm.empty {X = End} {R = pair_cmp}) q)) ≡ fm.get (fm.empty {X = End} {R = pair_cmp}) q
    twice true q = sym (fm.get-empty pair_cmp q)
    twice false q = refl

pub no_monitors : {M : Type 0} → fm.entries (fm.empty {X = M} {R = reference_cmp}) ≡ []
no_monitors = entries-empty reference_cmp

-- a node knows its own digest
pub knows : (d : List ℕ) → pointwise nat_eq d d ≡ true
knows [] = refl
knows (n ∷ d) = go (nat_eq n n) (itself n) (knows d)
  where
    itself : (m : ℕ) → nat_eq m m ≡ true
    itself m = grind arith

    go : (b : Bool) → b ≡ true → pointwise nat_eq d d ≡ true → (b && pointwise nat_eq d d) ≡ true
    go true h k = k
    go false h k = cc

pub ruleset of_maps = (
  alone,
  gone_end,
  no_monitors,
  get_life,
  no_life,
  entries_life,
  none_life,
  get_end,
  no_end,
  entries_end,
  none_end,
  get_side,
  no_side,
  entries_side,
  none_side,
  get_list,
  no_list,
  entries_list,
  none_list,
)
