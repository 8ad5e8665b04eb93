-- The map of all sides: of those that lie in memory, and of those that the runs stand for.
use Rattle.std.proofs.Common.{◌≡◌, Bool, true, false, cond, not, List, [], ◌∷◌, ◌++◌, Option, None, Some, is_some, refl, sym, ap, ◌∙◌, subst}
use Rattle.std.specs.List.{filter}
use Rattle.std.specs.Ordering.{eq_by_cmp}
use Rattle.std.specs.Cmp.{eq_by_cmp_equiv}
use Rattle.std.specs.Option.{option_map, option_or}
use Rattle.std.specs.FinMap as fm
use Rattle.std.specs.FinMap.{FinMap, find, put}
use Rattle.std.specs.FinMap.Entries.{find-put, find-where_key}
use Rattle.std.proofs.lemmas.Bool.{true≢false}
use Rattle.conn_core.specs.declared.side.Side.{Side}
use Rattle.conn_core.specs.declared.standing.Standing.{Standing}
use Rattle.dist_model.proofs.Calls.{by_test}
use Rattle.dist_model.proofs.Keys.{same_trunk, same_trunk_true, trunk_exact, trunk_total}
use Rattle.dist_model.specs.Incarnations.{all_gone}
use Rattle.dist_model.specs.Sides.{Gone, TrunkSide, in_state, is_gone}
use Rattle.erl_names.specs.Order.{trunk_cmp}
use Rattle.erl_names.specs.declared.trunk.TrunkId.{TrunkId}
use Rattle.sorted_map.specs.Entries.{first_where, without}
use Rattle.sorted_map.specs.Maps.{map_kept, sorted_kept}
use Rattle.node_tables.proofs.Buried.{find_both, gone_is, spelled_find}
use Rattle.node_tables.proofs.Placed.{Entry, IsSorted, gone_settled, holds, open_find, stood_none, stood_there}
use Rattle.node_tables.specs.Apart.{AreApart, AreBuried}
use Rattle.node_tables.specs.Changes.{StaysGone, stood}
use Rattle.node_tables.specs.Runs.{IsBuried, gone_at, spelled}
use Rattle.node_tables.specs.Sides.{sides_in}
use Rattle.node_tables.specs.Standings.{all_open, entries_of, is_settled, side_of, standing_side, state_of}
use Rattle.node_tables.specs.declared.run.Run.{Run}

-- ---- the side of a connection

pub get_sides : (held : List Side) (gone : List Run) (q : TrunkId)
    → fm.get (sides_in held gone) q ≡ option_or (find trunk_cmp q (entries_of held)) (gone_at gone q)
unfolding sides_in
get_sides held gone q =
    fm.get-from_entries trunk_total (entries_of (held ++ spelled gone)) q ∙ find_both q held (spelled gone)
    ∙ ap (option_or (find trunk_cmp q (entries_of held))) (spelled_find gone q)

pub get_held : (held : List Side) (gone : List Run) (q : TrunkId) (s : TrunkSide) → find trunk_cmp q (entries_of held) ≡ Some s
    → fm.get (sides_in held gone) q ≡ Some s
get_held held gone q s h = get_sides held gone q ∙ ap (λ o. option_or o (gone_at gone q)) h

pub get_gone : (held : List Side) (gone : List Run) (q : TrunkId) → find trunk_cmp q (entries_of held) ≡ None
    → fm.get (sides_in held gone) q ≡ gone_at gone q
get_gone held gone q h = get_sides held gone q ∙ ap (λ o. option_or o (gone_at gone q)) h

-- neither is there
pub neither : (held : List Side) (gone : List Run) (q : TrunkId) → fm.get (sides_in held gone) q ≡ None
    → (find trunk_cmp q (entries_of held) ≡ None) × (gone_at gone q ≡ None)
neither held gone q h = go (find trunk_cmp q (entries_of held)) (sym (get_sides held gone q) ∙ h)
  where
    go : (o : Option TrunkSide) → option_or o (gone_at gone q) ≡ None → (o ≡ None) × (gone_at gone q ≡ None)
    go None k = (refl, k)
    go (Some s) k = cc

pub no_sides : (held : List Side) (gone : List Run) → held ≡ [] → gone ≡ [] → sides_in held gone ≡ fm.empty
no_sides held gone h g = (λ i. sides_in (h i) (g i)) ∙ fm.same_map trunk_total trunk_exact _ _ (λ q.
    get_sides [] [] q ∙ sym (fm.get-empty trunk_cmp q))

pub gone_state : (gone : List Run) (q : TrunkId) (s : TrunkSide) → gone_at gone q ≡ Some s → is_gone s.state ≡ true
gone_state gone q s h = ap (λ (v : TrunkSide). is_gone v.state) (gone_is gone q s h)

-- ---- a side comes or stands otherwise, where it lies in memory

module _ (held fs : List Side) (gone : List Run) (q : TrunkId) (v : TrunkSide) (e : entries_of fs ≡ put trunk_cmp q v (entries_of held)) where
  put_find : (t : TrunkId) → find trunk_cmp t (entries_of fs) ≡ cond (same_trunk t q) (Some v) (find trunk_cmp t (entries_of held))
  put_find t = ap (find trunk_cmp t) e ∙ find-put trunk_cmp trunk_total t q v (entries_of held)

  pub put_sides : sides_in fs gone ≡ fm.insert (sides_in held gone) q v
  put_sides = fm.same_map trunk_total trunk_exact _ _ (λ t.
      get_sides fs gone t ∙ ap (λ o. option_or o (gone_at gone t)) (put_find t)
      ∙ go (same_trunk t q) (find trunk_cmp t (entries_of held)) (gone_at gone t)
      ∙ sym (fm.get-insert trunk_total (sides_in held gone) q v t ∙ ap (cond (same_trunk t q) (Some v)) (get_sides held gone t)))
    where
      go : (b : Bool) (x g : Option TrunkSide) → option_or (cond b (Some v) x) g ≡ cond b (Some v) (option_or x g)
      go true x g = refl
      go false x g = refl

  pub put_apart : AreApart held gone → gone_at gone q ≡ None → AreApart fs gone
  put_apart a n t h = by_test _ (same_trunk t q)
      (λ b. ap (gone_at gone) (same_trunk_true t q b) ∙ n)
      (λ b. a t (sym (ap (λ c. is_some (cond c (Some v) (find trunk_cmp t (entries_of held)))) b) ∙ sym (ap is_some (put_find t)) ∙ h))

-- ---- a side is gone

module _ (held : List Side) (gone more : List Run) (side : Side) (b : IsBuried side gone more)
    (n : find trunk_cmp side.trunk (entries_of held) ≡ None) where
  none_here : (t : TrunkId) → same_trunk t side.trunk ≡ true → find trunk_cmp t (entries_of held) ≡ None
  none_here t k = ap (λ u. find trunk_cmp u (entries_of held)) (same_trunk_true t side.trunk k) ∙ n

  pub bury_sides : sides_in held more ≡ fm.insert (sides_in held gone) side.trunk (side_of side)
  bury_sides = fm.same_map trunk_total trunk_exact _ _ (λ t.
      get_sides held more t ∙ ap (option_or (find trunk_cmp t (entries_of held))) (b t) ∙ go t (same_trunk t side.trunk) refl
      ∙ sym (fm.get-insert trunk_total (sides_in held gone) side.trunk (side_of side) t
      ∙ ap (cond (same_trunk t side.trunk) (Some (side_of side))) (get_sides held gone t)))
    where
      go : (t : TrunkId) (c : Bool) → same_trunk t side.trunk ≡ c
          → option_or (find trunk_cmp t (entries_of held)) (cond c (Some (side_of side)) (gone_at gone t))
          ≡ cond c (Some (side_of side)) (option_or (find trunk_cmp t (entries_of held)) (gone_at gone t))
      go t true k = ap (λ o. option_or o (Some (side_of side))) (none_here t k)
      go t false k = refl

  pub bury_apart : AreApart held gone → AreApart held more
  bury_apart a t h = b t ∙ by_test _ (same_trunk t side.trunk)
      (λ k. absurd (true≢false (sym h ∙ ap is_some (none_here t k))))
      (λ k. ap (λ c. cond c (Some (side_of side)) (gone_at gone t)) k ∙ a t h)

turned : {A : Type 0} (b : Bool) (x y : A) → cond (not b) x y ≡ cond b y x
turned true x y = refl
turned false x y = refl

pub without_find : (es : List Entry) (q t : TrunkId)
    → find trunk_cmp t (without trunk_cmp q es) ≡ cond (same_trunk t q) None (find trunk_cmp t es)
without_find es q t =
    find-where_key trunk_cmp (λ k. not (eq_by_cmp trunk_cmp q k)) t
    (λ y e. ap (λ k. not (eq_by_cmp trunk_cmp q k)) (sym (trunk_exact t y e))) es
    ∙ turned (same_trunk q t) (find trunk_cmp t es) None
    ∙ ap (λ b. cond b None (find trunk_cmp t es)) ((eq_by_cmp_equiv trunk_total).symm q t)

-- and lay in memory
module _ (held fs : List Side) (gone more : List Run) (side : Side) (b : IsBuried side gone more)
    (e : entries_of fs ≡ without trunk_cmp side.trunk (entries_of held)) where
  left_find : (t : TrunkId) → find trunk_cmp t (entries_of fs) ≡ cond (same_trunk t side.trunk) None (find trunk_cmp t (entries_of held))
  left_find t = ap (find trunk_cmp t) e ∙ without_find (entries_of held) side.trunk t

  pub move_sides : sides_in fs more ≡ fm.insert (sides_in held gone) side.trunk (side_of side)
  move_sides = fm.same_map trunk_total trunk_exact _ _ (λ t.
      get_sides fs more t ∙ (λ i. option_or (left_find t i) (b t i))
      ∙ go (same_trunk t side.trunk) (find trunk_cmp t (entries_of held)) (gone_at gone t)
      ∙ sym (fm.get-insert trunk_total (sides_in held gone) side.trunk (side_of side) t
      ∙ ap (cond (same_trunk t side.trunk) (Some (side_of side))) (get_sides held gone t)))
    where
      go : (c : Bool) (x g : Option TrunkSide)
          → option_or (cond c None x) (cond c (Some (side_of side)) g) ≡ cond c (Some (side_of side)) (option_or x g)
      go true x g = refl
      go false x g = refl

  pub move_apart : AreApart held gone → AreApart fs more
  move_apart a t h = b t ∙ go (same_trunk t side.trunk) refl
    where
      go : (c : Bool) → same_trunk t side.trunk ≡ c → cond c (Some (side_of side)) (gone_at gone t) ≡ None
      go true k = absurd (true≢false (sym h ∙ ap is_some (left_find t) ∙ ap (λ c. is_some (cond c None (find trunk_cmp t (entries_of held)))) k))
      go false k =
          a t (sym (ap is_some (left_find t) ∙ ap (λ c. is_some (cond c None (find trunk_cmp t (entries_of held)))) k) ∙ h)

-- ---- a side that doesn't lie in memory stands so: it is gone, and stays so, or there is none

same_again : (m : FinMap trunk_cmp TrunkSide) (q : TrunkId) (s : TrunkSide) → fm.get m q ≡ Some s → fm.insert m q s ≡ m
same_again m q s h = fm.same_map trunk_total trunk_exact _ _ (λ t. fm.get-insert trunk_total m q s t ∙ by_test _ (same_trunk t q)
    (λ b. ap (λ c. cond c (Some s) (fm.get m t)) b ∙ sym (ap (fm.get m) (same_trunk_true t q b) ∙ h))
    (λ b. ap (λ c. cond c (Some s) (fm.get m t)) b))

pub stood_else : (held : List Side) (gone : List Run) (q : TrunkId) (st : Standing) → find trunk_cmp q (entries_of held) ≡ None
    → is_settled st ≡ true → StaysGone st (fm.get (sides_in held gone) q) → sides_in held gone ≡ stood (sides_in held gone) q st
stood_else held gone q st n k stays = go (gone_at gone q) refl
  where
    go : (o : Option TrunkSide) → gone_at gone q ≡ o → sides_in held gone ≡ stood (sides_in held gone) q st
    go None h = sym (stood_none (sides_in held gone) q st (get_gone held gone q n ∙ h))
    go (Some s) h =
        let there : fm.get (sides_in held gone) q ≡ Some s = get_gone held gone q n ∙ h in
        let shut : is_gone (state_of st) ≡ true = subst (StaysGone st) there stays (gone_state gone q s h) in
        let same : standing_side s.peer st ≡ s = ap (standing_side s.peer) (gone_settled st k shut) ∙ sym (gone_is gone q s h) in
        sym (stood_there (sides_in held gone) q st s there ∙ ap (fm.insert (sides_in held gone) q) same
        ∙ same_again (sides_in held gone) q s there)

-- ---- the first that is sought

module _ (held : List Side) (gone : List Run) (s : IsSorted held) (o : all_open held ≡ true) where
  abbrev all : FinMap trunk_cmp TrunkSide
  all = sides_in held gone

  abbrev goes : TrunkSide → Bool
  goes v = is_gone v.state

  abbrev stays : Entry → Bool
  stays e = not (goes e.1)

  abbrev has_one : Option TrunkSide → Bool
  has_one None = false
  has_one (Some v) = goes v

  left_in : (q : TrunkId) → cond (not (has_one (fm.get all q))) (fm.get all q) None ≡ find trunk_cmp q (entries_of held)
  left_in q =
      ap (λ x. cond (not (has_one x)) x None) (get_sides held gone q) ∙ go (find trunk_cmp q (entries_of held)) refl (gone_at gone q) refl
    where
      go : (x : Option TrunkSide) → find trunk_cmp q (entries_of held) ≡ x → (g : Option TrunkSide) → gone_at gone q ≡ g
          → cond (not (has_one (option_or x g))) (option_or x g) None ≡ x
      go (Some v) h g k = ap (λ b. cond (not b) (Some v) None) (open_find held q v o h)
      go None h (Some v) k = ap (λ b. cond (not b) (Some v) None) (gone_state gone q v k)
      go None h None k = refl

  open_part : filter stays (fm.entries all) ≡ entries_of held
  open_part =
      let sorted = fm.entries_sorted all in
      let again : FinMap trunk_cmp TrunkSide = fm.from_sorted (fm.entries all) in
      sym (fm.entries-from_sorted trunk_cmp (filter stays (fm.entries all)) (sorted_kept trunk_total trunk_exact goes (fm.entries all) sorted))
      ∙ ap fm.entries (fm.same_map trunk_total trunk_exact (fm.from_sorted (filter stays (fm.entries all))) (fm.from_sorted (entries_of held))
      (λ q. ap (λ m. fm.get m q) (map_kept trunk_total trunk_exact goes has_one refl (λ v. refl) (fm.entries all) sorted)
      ∙ fm.get-retain_keys again (λ k. not (has_one (fm.get again k))) q
      (λ x t. ap (λ k. not (has_one (fm.get again k))) (sym (trunk_exact q x t)))
      ∙ ap (λ x. cond (not (has_one x)) x None)
      (fm.get-from_sorted trunk_cmp (fm.entries all) q sorted ∙ sym (fm.get-entries all q)) ∙ left_in q
      ∙ sym (fm.get-from_sorted trunk_cmp (entries_of held) q (holds _ s))))
      ∙ fm.entries-from_sorted trunk_cmp (entries_of held) (holds _ s)

  module _ (test : TrunkId → TrunkSide → Bool) (h : (t : TrunkId) (v : TrunkSide) → test t v ≡ true → is_gone v.state ≡ false) where
    where_kept : (es : List Entry) → first_where test es ≡ first_where test (filter stays es)
    where_kept [] = refl
    where_kept (e ∷ es) = go (test e.0 e.1) refl (goes e.1) refl (where_kept es)
      where
        go : (b : Bool) → test e.0 e.1 ≡ b → (g : Bool) → goes e.1 ≡ g → first_where test es ≡ first_where test (filter stays es)
            → cond b (Some e) (first_where test es) ≡ first_where test (cond (not g) (e ∷ filter stays es) (filter stays es))
        go true k true i more = absurd (true≢false (sym i ∙ h e.0 e.1 k))
        go true k false i more = sym (ap (λ b. cond b (Some e) (first_where test (filter stays es))) k)
        go false k true i more = more
        go false k false i more = more ∙ sym (ap (λ b. cond b (Some e) (first_where test (filter stays es))) k)

    pub where_held : first_where test (fm.entries all) ≡ first_where test (entries_of held)
    where_held = where_kept (fm.entries all) ∙ ap (first_where test) open_part

-- ---- all are gone

all_find : (q : TrunkId) (es : List Entry) → find trunk_cmp q (all_gone es) ≡ option_map (in_state Gone) (find trunk_cmp q es)
all_find q [] = refl
all_find q (e ∷ es) = go (same_trunk q e.0) (all_find q es)
  where
    go : (b : Bool) → find trunk_cmp q (all_gone es) ≡ option_map (in_state Gone) (find trunk_cmp q es)
        → cond b (Some (in_state Gone e.1)) (find trunk_cmp q (all_gone es))
        ≡ option_map (in_state Gone) (cond b (Some e.1) (find trunk_cmp q es))
    go true h = refl
    go false h = h

still_gone : (gone : List Run) (q : TrunkId) → option_map (in_state Gone) (gone_at gone q) ≡ gone_at gone q
still_gone gone q = ap (option_map (in_state Gone)) refl ∙ go (gone_at gone q) refl
  where
    go : (o : Option TrunkSide) → gone_at gone q ≡ o → option_map (in_state Gone) o ≡ o
    go None h = refl
    go (Some s) h = let e = gone_is gone q s h in ap (λ v. Some (in_state Gone v)) e ∙ sym (ap Some e)

pub gone_sides : (held left : List Side) (gone more : List Run) → left ≡ [] → AreBuried held gone [] more
    → sides_in left more ≡ fm.from_entries (all_gone (fm.entries (sides_in held gone)))
gone_sides held left gone more e b = ap (λ l. sides_in l more) e ∙ fm.same_map trunk_total trunk_exact _ _ (λ q.
    get_sides [] more q ∙ sym (still_gone more q) ∙ b q
    ∙ sym (fm.get-from_entries trunk_total (all_gone (fm.entries (sides_in held gone))) q ∙ all_find q (fm.entries (sides_in held gone))
    ∙ ap (option_map (in_state Gone)) (sym (fm.get-entries (sides_in held gone) q) ∙ get_sides held gone q)))
