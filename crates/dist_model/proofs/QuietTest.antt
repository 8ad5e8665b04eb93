-- Quiet, and its test.
use Rattle.std.proofs.Common.{◌≡◌, Bool, true, false, cond, not, List, [], ◌∷◌, refl, sym, ap, ◌∙◌, ◌&&◌, ◌||◌, Option, Some, None, ◌↔◌, T}
use Rattle.std.proofs.lemmas.Bool.{and_parts, or_right}
use Rattle.std.proofs.lemmas.Option.{same_Some, none-some}
use Rattle.std.specs.Option.{is_some}
use Rattle.std.specs.Ordering.{is_eq}
use Rattle.std.specs.Cmp.{tied_itself}
use Rattle.std.specs.FinMap as fm
use Rattle.std.specs.FinMap.Entries.{find, is_sorted, below_all}
use Rattle.sorted_map.specs.Facts.{both_pass}
use Rattle.dist_model.proofs.Calls.{by_test}
use Rattle.dist_model.proofs.Keys.{same_name_is, same_name_true, same_trunk, same_trunk_true, trunk_total, below_key, trunk_exact}
use Rattle.dist_model.proofs.Seen.{side_in, sides_at}
use Rattle.dist_model.proofs.Truths.{either}
use Rattle.dist_model.specs.Names.{Name, same_name}
use Rattle.dist_model.specs.Node.{Node, first_where}
use Rattle.dist_model.specs.Quiet.{Over, Quiet, Unconnected, Within, is_quiet, is_quiet_on, nothing_between, is_up_to}
use Rattle.dist_model.specs.Seen.{HasSide, is_connected, local_list}
use Rattle.dist_model.specs.Sides.{TrunkSide, is_up}
use Rattle.dist_model.specs.World.{World, list_to, node_of}
use Rattle.erl_names.specs.Order.{trunk_cmp}
use Rattle.erl_names.specs.declared.trunk.TrunkId.{TrunkId}
use Rattle.erl_term.specs.declared.term.Pid.{Pid}

all_four : (a b c d : Bool) → (((a && b) && c) && d) ≡ true → (a ≡ true) × (b ≡ true) × (c ≡ true) × (d ≡ true)
all_four true true true true h = (refl, refl, refl, refl)
all_four _ _ _ _ h = cc

four_all : (a b c d : Bool) → a ≡ true → b ≡ true → c ≡ true → d ≡ true → (((a && b) && c) && d) ≡ true
four_all true b c d ha hb hc hd = ap (λ v. (v && c) && d) hb ∙ ap (λ v. v && d) hc ∙ hd
four_all false b c d ha hb hc hd = cc

-- an entry that passes
pub record Passing (test : TrunkId → TrunkSide → Bool) (es : List (TrunkId × TrunkSide)) : Type 0 where
  pub trunk : TrunkId
  pub side : TrunkSide
  pub found : find trunk_cmp trunk es ≡ Some side
  pub passes : test trunk side ≡ true

pub passing : (test : TrunkId → TrunkSide → Bool) (es : List (TrunkId × TrunkSide)) → T (is_sorted trunk_cmp es)
    → is_some (first_where test es) ≡ true → Passing test es
passing test [] s h = cc
passing test (e ∷ es) s h = by_test (Passing test (e ∷ es)) (test e.0 e.1)
    (λ i. record {
      trunk = e.0;
      side = e.1;
      found = ap (λ c. cond (is_eq c) (Some e.1) (find trunk_cmp e.0 es)) (tied_itself trunk_total e.0);
      passes = i;
    })
    (λ i.
    let t = both_pass (below_all trunk_cmp e.0 es) (is_sorted trunk_cmp es) s in
    let r = passing test es t.1 (sym (ap (λ b. is_some (cond b (Some e) (first_where test es))) i) ∙ h) in
    record {
      trunk = r.trunk;
      side = r.side;
      found = ap (λ b. cond b (Some e.1) (find trunk_cmp r.trunk es)) (below_key trunk_cmp trunk_exact r.trunk e.0 r.side es t.0 r.found)
          ∙ r.found;
      passes = r.passes;
    })

pub passed : (test : TrunkId → TrunkSide → Bool) (es : List (TrunkId × TrunkSide)) (t : TrunkId) (s : TrunkSide)
    → find trunk_cmp t es ≡ Some s → test t s ≡ true → is_some (first_where test es) ≡ true
passed test [] t s f h = absurd (none-some s f)
passed test (e ∷ es) t s f h = by_test _ (test e.0 e.1)
    (λ i. ap (λ b. is_some (cond b (Some e) (first_where test es))) i)
    (λ i. ap (λ b. is_some (cond b (Some e) (first_where test es))) i ∙ passed test es t s (later i) h)
  where
    later : test e.0 e.1 ≡ false → find trunk_cmp t es ≡ Some s
    later i = by_test _ (same_trunk t e.0)
        (λ j.
        let te : t ≡ e.0 = same_trunk_true t e.0 j in
        let se : e.1 ≡ s = same_Some e.1 s (sym (ap (λ b. cond b (Some e.1) (find trunk_cmp t es)) j) ∙ f) in
        let c : true ≡ false = sym h ∙ (λ k. test (te k) (sym se k)) ∙ i in cc)
        (λ j. sym (ap (λ b. cond b (Some e.1) (find trunk_cmp t es)) j) ∙ f)

up_to : (y : Name) (o : Option TrunkSide) → is_up_to y o ≡ true → (s : TrunkSide) × (o ≡ Some s) × (s.peer ≡ y) × (is_up s.state ≡ true)
up_to y None h = cc
up_to y (Some s) h = let v = and_parts (same_name s.peer y) (is_up s.state) h in (s, refl, same_name_true s.peer y v.0, v.1)

is_up_there : (w : World) (x : Name) (t : TrunkId) (y : Name) → HasSide w x t y is_up → is_up_to y (side_in (node_of w.nodes x) t) ≡ true
is_up_there w x t y s = ap (is_up_to y) s.there ∙ ap (λ b. b && is_up s.side.state) (same_name_is s.side.peer y s.peer) ∙ s.state

up_there : (w : World) (x : Name) (t : TrunkId) (y : Name) → is_up_to y (side_in (node_of w.nodes x) t) ≡ true → HasSide w x t y is_up
up_there w x t y h = let v = up_to y (side_in (node_of w.nodes x) t) h in record { side = v.0; there = v.1; peer = v.2; state = v.3 }

module _ (w : World) (p q : Pid) where
  abbrev apart : Bool
  apart = is_some (first_where (is_quiet_on w p q) (sides_at (node_of w.nodes p.node)))
      || (not (is_connected w p.node q.node) && not (is_connected w q.node p.node))

  -- on a trunk
  over : same_name p.node q.node ≡ false → (o : Option Node) → node_of w.nodes p.node ≡ o
      → is_some (first_where (is_quiet_on w p q) (sides_at o)) ≡ true → Quiet w p q
  over d None e h = cc
  over d (Some n) e h =
      let r = passing (is_quiet_on w p q) (fm.entries n.sides) (fm.entries_sorted n.sides) h in
      let v =
      all_four (is_up_to q.node (Some r.side)) (is_up_to p.node (side_in (node_of w.nodes q.node) r.trunk))
      (nothing_between p q (list_to w.lists r.trunk p.node))
      (nothing_between p q (list_to w.lists r.trunk q.node)) r.passes in
      let at : side_in (node_of w.nodes p.node) r.trunk ≡ Some r.side =
      ap (λ u. side_in u r.trunk) e ∙ fm.get-entries n.sides r.trunk ∙ r.found in
      Over d r.trunk (up_there w p.node r.trunk q.node (ap (is_up_to q.node) at ∙ v.0), up_there w q.node r.trunk p.node v.1) v.2 v.3

  none_there : (a b : Bool) → (not a && not b) ≡ true → (a ≡ false) × (b ≡ false)
  none_there false false h = (refl, refl)
  none_there _ _ h = cc

  pub quiet_by_test : is_quiet w p q ≡ true → Quiet w p q
  quiet_by_test h = by_test (Quiet w p q) (same_name p.node q.node)
      (λ e. Within (same_name_true p.node q.node e) (sym (ap (λ b. cond b (nothing_between p q (local_list w p.node)) apart) e) ∙ h))
      (λ e. either (is_some (first_where (is_quiet_on w p q) (sides_at (node_of w.nodes p.node))))
      (not (is_connected w p.node q.node) && not (is_connected w q.node p.node)) (Quiet w p q)
      (sym (ap (λ b. cond b (nothing_between p q (local_list w p.node)) apart) e) ∙ h)
      (λ i. over e (node_of w.nodes p.node) refl i)
      (λ i. let v = none_there (is_connected w p.node q.node) (is_connected w q.node p.node) i in Unconnected e v.0 v.1))

  some_there : (t : TrunkId) (o : Option Node) → node_of w.nodes p.node ≡ o → (s : HasSide w p.node t q.node is_up)
      → is_quiet_on w p q t s.side ≡ true → is_some (first_where (is_quiet_on w p q) (sides_at o)) ≡ true
  some_there t None e s h = absurd (none-some s.side (sym (ap (λ u. side_in u t) e) ∙ s.there))
  some_there t (Some n) e s h =
      passed (is_quiet_on w p q) (fm.entries n.sides) t s.side (sym (fm.get-entries n.sides t) ∙ sym (ap (λ u. side_in u t) e) ∙ s.there) h

  pub test_of_quiet : Quiet w p q → is_quiet w p q ≡ true
  test_of_quiet (Within e s) = ap (λ b. cond b (nothing_between p q (local_list w p.node)) apart) (same_name_is p.node q.node e) ∙ s
  test_of_quiet (Over d t c s r) =
      ap (λ b. cond b (nothing_between p q (local_list w p.node)) apart) d
      ∙ ap (λ b. b || (not (is_connected w p.node q.node) && not (is_connected w q.node p.node)))
      (some_there t (node_of w.nodes p.node) refl c.0
      (four_all (is_up_to q.node (Some c.0.side)) (is_up_to p.node (side_in (node_of w.nodes q.node) t))
      (nothing_between p q (list_to w.lists t p.node)) (nothing_between p q (list_to w.lists t q.node))
      (sym (ap (is_up_to q.node) c.0.there) ∙ is_up_there w p.node t q.node c.0) (is_up_there w q.node t p.node c.1) s r))
  test_of_quiet (Unconnected d a b) =
      ap (λ c. cond c (nothing_between p q (local_list w p.node)) apart) d
      ∙ ap (λ c. is_some (first_where (is_quiet_on w p q) (sides_at (node_of w.nodes p.node))) || c)
      (ap (λ c. not c && not (is_connected w q.node p.node)) a ∙ ap not b)
      ∙ or_right (is_some (first_where (is_quiet_on w p q) (sides_at (node_of w.nodes p.node)))) true refl

  pub quiet_test : (is_quiet w p q ≡ true) ↔ Quiet w p q
  quiet_test = (quiet_by_test, test_of_quiet)
