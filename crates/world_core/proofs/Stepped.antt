-- What an event of a node comes to is the model's step of the world.
use Rattle.std.proofs.Common.{◌≡◌, ◌<◌, ◌≤◌, ◌&&◌, ℕ, Bool, true, false, cond, not, List, [], ◌∷◌, ◌++◌, map, length}
use Rattle.std.proofs.Common.{Option, None, Some, Ok, Err, refl, sym, ap, subst, ◌∙◌, slice_set, slice_index_or, inl, inr}
use Rattle.std.specs.FinMap as fm
use Rattle.std.specs.FinMap.{FinMap}
use Rattle.std.specs.Ordering.{eq_by_cmp}
use Rattle.std.proofs.lemmas.List.{map-append}
use Rattle.std.proofs.lemmas.Bool.{and_parts, both_ways, not-false, not-true}
use Rattle.dist_model.proofs.Envelopes.{sent_in}
use Rattle.dist_model.proofs.Calls.{by_test}
use Rattle.dist_model.proofs.KeepBearings.{bearings_kept, if_accepted}
use Rattle.dist_model.proofs.Keys.{same_name_is, same_name_true, same_place, same_trunk, same_trunk_true}
use Rattle.dist_model.proofs.Routes.{at_place, list_to_carried, list_to_insert, node_of_set_other, node_of_set_same}
use Rattle.dist_model.specs.Arrivals.{arrive, arrive_first}
use Rattle.dist_model.specs.Commands.{Accepts, Outcome, Refuses}
use Rattle.dist_model.specs.Dialing.{has_name}
use Rattle.dist_model.specs.Items.{Item}
use Rattle.dist_model.specs.Keeping.{Bearings, CountsOwn}
use Rattle.dist_model.specs.Names.{Name, place_cmp, same_name}
use Rattle.dist_model.specs.Node.{Node as TheNode}
use Rattle.dist_model.specs.NodeEvents.{at_node}
use Rattle.dist_model.specs.NodeEvents as model
use Rattle.dist_model.specs.Runs.{Goes, IsReported}
use Rattle.dist_model.specs.Seen.{seen, side_of_trunk}
use Rattle.dist_model.specs.Sides as state
use Rattle.dist_model.specs.Sides.{State, TrunkSide, is_over}
use Rattle.dist_model.specs.Work.{Work, at_work}
use Rattle.dist_model.specs.World.{Refused, Reported, Stepped, came_of, carried, first_of, list_to}
use Rattle.dist_model.specs.World.{node_of, refused, rest_of, set_node, step, step_at}
use Rattle.dist_model.specs.World as world
use Rattle.dist_model.specs.declared.report.Answer.{Answer}
use Rattle.dist_model.specs.declared.report.Effect.{Effect}
use Rattle.dist_model.specs.declared.report.Report.{Report}
use Rattle.erl_names.specs.declared.trunk.TrunkId.{TrunkId}
use Rattle.erl_term.specs.declared.refusal.Refusal.{Refusal}
use Rattle.node_core.specs.Model.{model_of}
use Rattle.node_core.specs.declared.node.Node.{Node}
use Rattle.node_core.specs.Arrived.{is_undialed}
use Rattle.node_frames.specs.Frames.{AllSpelled, Framed, IsSpelled, framed, shown}
use Rattle.node_plan.specs.Planned.{IsRefused}
use Rattle.world_core.specs.Names.{are_distinct, name_at, name_of, names_of}
use Rattle.world_core.specs.Ran.{Came}
use Rattle.node_core.specs.Told.{Answered}
use Rattle.node_core.specs.NodeEvents.{event_at, met}
use Rattle.world_core.specs.Coming.{is_taken, takes}
use Rattle.world_core.specs.Stands.{AreFramesOf, AreSpelled, StandsFor}
use Rattle.world_core.specs.declared.world.World.{World}
use Rattle.world_core.proofs.Carried.{dropped, kept_all, more_frames, same_frames, spelled_behind}
use Rattle.world_core.proofs.Named.{name_is, names_set, node_at, node_set, nobody_at, nobody_is, same_models}
use Rattle.world_core.proofs.Reached.{can_come, reached_good, reached_next}
use Rattle.world_core.proofs.StaysOver.{IsOver, stays_over}
use Rattle.world_core.proofs.Planned.{name_kept}
use Rattle.node_core.proofs.Fronted.{refused_or}
use Rattle.node_core.specs.ComingToANode.{CanCome, IsNext, reads, reads_at}
use Rattle.world_core.specs.Events.{ComesTo, Meets, taken_at}
use Rattle.node_core.specs.declared.node_event.NodeEvent.{NodeEvent}
use Rattle.node_core.specs.declared.node_event.NodeEvent.TheVariants as event
use Rattle.world_core.specs.Lists.{at, behind_first}
use Rattle.node_core.specs.SentAt.{sent_at}

-- ---- what is sent

sent_framed : (t : TrunkId) (x : Name) (effects : List (Effect Item))
    → sent_at t x (map shown effects) ≡ map framed (at_place t x (sent_in effects))
sent_framed t x [] = refl
sent_framed t x (Effect.Sent (Some u) y item ∷ rest) =
    ap (λ b. cond b (framed item ∷ []) [] ++ sent_at t x (map shown rest)) (same_place t u x y)
    ∙ go (same_trunk t u && same_name x y) (sent_framed t x rest)
  where
    go : (b : Bool) → sent_at t x (map shown rest) ≡ map framed (at_place t x (sent_in rest))
        → cond b (framed item ∷ []) [] ++ sent_at t x (map shown rest) ≡ map framed (cond b (item ∷ []) [] ++ at_place t x (sent_in rest))
    go true h = ap (λ q. framed item ∷ q) h
    go false h = h
sent_framed t x (effect ∷ rest) = sent_framed t x rest

spelled_both : (xs ys : List Item) → AreSpelled xs → AreSpelled ys → AreSpelled (xs ++ ys)
spelled_both [] ys h k = k
spelled_both (x ∷ xs) ys h k = (h.0, spelled_both xs ys h.1 k)

spelled_sent : (t : TrunkId) (x : Name) (effects : List (Effect Item)) → AllSpelled effects → AreSpelled (at_place t x (sent_in effects))
spelled_sent t x [] h = tt
spelled_sent t x (Effect.Sent (Some u) y item ∷ rest) h = go (same_trunk t u && same_name x y) (spelled_sent t x rest h.1)
  where
    go : (b : Bool) → AreSpelled (at_place t x (sent_in rest)) → AreSpelled (cond b (item ∷ []) [] ++ at_place t x (sent_in rest))
    go true k = (h.0, k)
    go false k = k
spelled_sent t x (effect ∷ rest) h = spelled_sent t x rest h.1

spelled_rest : (xs : List Item) → AreSpelled xs → AreSpelled (rest_of xs)
spelled_rest [] h = tt
spelled_rest (x ∷ xs) h = h.1

module _ (m : world.World) (name : Name) where
  abbrev pub first_for : NodeEvent → Option Item
  first_for (event.Arrive t word) = first_of (list_to m.lists t name)
  first_for _ = None

  abbrev pub lists_left : NodeEvent → FinMap place_cmp (List Item)
  lists_left (event.Arrive t word) = fm.insert m.lists (t, name) (rest_of (list_to m.lists t name))
  lists_left _ = m.lists

  by_node : (e : NodeEvent) (o : Option TheNode) → node_of m.nodes name ≡ o → step m (event_at name e) ≡ step_at m o (event_at name e)
  by_node (event.Call command) o h = ap (λ n. step_at m n (event_at name (event.Call command))) h
  by_node e o h = ap (λ n. step_at m n (event_at name e)) h

  at_it : (e : NodeEvent) (node : TheNode)
      → step_at m (Some node) (event_at name e) ≡ came_of m name (lists_left e) (at_node m.names node (met e (first_for e)))
  at_it (event.Call command) node = refl
  at_it e node = refl

  step_is : (e : NodeEvent) (node : TheNode) → node_of m.nodes name ≡ Some node
      → step m (event_at name e) ≡ came_of m name (lists_left e) (at_node m.names node (met e (first_for e)))
  step_is e node h = by_node e (Some node) h ∙ at_it e node

-- ---- the lists after an event: what an accepted arrival takes was there

nothing_taken : (node : TheNode) (t : TrunkId) (o : Option TrunkSide) (word : ℕ) (answer : Answer) (work : Work) {A : Type 0}
    → arrive node t o None word ≡ Accepts answer work → A
nothing_taken node t None word answer work h = refused_or Refusal.NotLive answer work h
nothing_taken node t (Some side) word answer work {A} h = go (is_over side.state) h
  where
    go : (b : Bool) → cond b (Refuses Refusal.NotLive) (Refuses Refusal.NothingThere) ≡ Accepts answer work → A
    go true k = refused_or Refusal.NotLive answer work k
    go false k = refused_or Refusal.NothingThere answer work k

none_taken : (names : List Name) (node : TheNode) (t : TrunkId) (word : ℕ) (answer : Answer) (work : Work) {A : Type 0}
    → at_node names node (model.Arrive t None word) ≡ Accepts answer work → A
none_taken names node t word answer work {A} h = go node.up h
  where
    go : (b : Bool) → cond b (arrive node t (fm.get node.sides t) None word) (Refuses Refusal.NodeDown) ≡ Accepts answer work → A
    go true k = nothing_taken node t (fm.get node.sides t) word answer work k
    go false k = refused_or Refusal.NodeDown answer work k

-- and by a side that takes it
arrival_taken : (node : TheNode) (t : TrunkId) (o : Option TrunkSide) (first : Option Item) (word : ℕ) (answer : Answer) (work : Work)
    → arrive node t o first word ≡ Accepts answer work → takes o ≡ true
arrival_taken node t None first word answer work h = refl
arrival_taken node t (Some side) first word answer work h = go (is_over side.state) h
  where
    go : (b : Bool) → cond b (Refuses Refusal.NotLive) (arrive_first first t side (at_work node)) ≡ Accepts answer work → not b ≡ true
    go true k = refused_or Refusal.NotLive answer work k
    go false k = refl

event_taken : (names : List Name) (node : TheNode) (t : TrunkId) (first : Option Item) (word : ℕ) (answer : Answer) (work : Work)
    → at_node names node (model.Arrive t first word) ≡ Accepts answer work → takes (fm.get node.sides t) ≡ true
event_taken names node t first word answer work h = go node.up h
  where
    go : (b : Bool) → cond b (arrive node t (fm.get node.sides t) first word) (Refuses Refusal.NodeDown) ≡ Accepts answer work
        → takes (fm.get node.sides t) ≡ true
    go true k = arrival_taken node t (fm.get node.sides t) first word answer work k
    go false k = refused_or Refusal.NodeDown answer work k

-- what isn't taken is refused alike, whatever it is
arrive_alike : (node : TheNode) (t : TrunkId) (o : Option TrunkSide) (first other : Option Item) (word : ℕ) → takes o ≡ false
    → arrive node t o first word ≡ arrive node t o other word
arrive_alike node t None first other word h = cc
arrive_alike node t (Some side) first other word h =
    over first ∙ sym (over other)
  where
    is : is_over side.state ≡ true
    is = not-false (is_over side.state) h

    over : (item : Option Item) → arrive node t (Some side) item word ≡ Refuses Refusal.NotLive
    over item = ap (λ b. cond b (Refuses Refusal.NotLive) (arrive_first item t side (at_work node))) is

alike : (names : List Name) (node : TheNode) (t : TrunkId) (first other : Option Item) (word : ℕ) → takes (fm.get node.sides t) ≡ false
    → at_node names node (model.Arrive t first word) ≡ at_node names node (model.Arrive t other word)
alike names node t first other word h =
    ap (λ o. cond node.up o (Refuses Refusal.NodeDown)) (arrive_alike node t (fm.get node.sides t) first other word h)

-- what isn't taken can be read
reads_over : (st : State) (item : Item) → is_over st ≡ true → reads st item ≡ true
reads_over state.Losing item h = refl
reads_over state.Gone item h = refl
reads_over _ item h = cc

over_can_come : (node : TheNode) (t : TrunkId) (item : Item) → IsSpelled item → takes (fm.get node.sides t) ≡ false → CanCome node t item
over_can_come node t item s h = go (fm.get node.sides t) refl h
  where
    go : (o : Option TrunkSide) → fm.get node.sides t ≡ o → takes o ≡ false → CanCome node t item
    go None e k = let no : true ≡ false = k in cc
    go (Some side) e k = record {
      spelled = s;
      read = ap (λ o. reads_at o item) e ∙ reads_over side.state item (not-false (is_over side.state) k);
      theirs = ap (is_undialed node t) e;
    }

module _ (m : world.World) (name : Name) (node : TheNode) (there : node_of m.nodes name ≡ Some node) (names : List Name) (answer : Answer)
    (work : Work) where
  side_here : (t : TrunkId) → side_of_trunk m name t ≡ fm.get node.sides t
  side_here t = ap (λ o. seen o None (λ (n : TheNode). fm.get n.sides t)) there

  -- what is left of a list, and what was sent on it
  moved : (e : NodeEvent) → at_node names node (met e (first_for m name e)) ≡ Accepts answer work
      → (t : TrunkId) (x : Name) (frames : List Framed) (sent : List Item) (taken : Bool) → (taken ≡ true → is_taken m t x ≡ true)
      → (c : AreFramesOf (is_taken m t x) frames (list_to m.lists t x))
      → AreFramesOf taken (taken_at e name t x (map framed c.kept ++ map framed sent)) (list_to (lists_left m name e) t x ++ sent)
  moved (event.Arrive u word) h t x frames sent taken k c =
      go (same_trunk t u && same_name x name) refl
      (ap (λ b. cond b (behind_first (map framed c.kept ++ map framed sent)) (map framed c.kept ++ map framed sent)) (same_place t u x name))
      (list_to_insert m.lists u name (rest_of (list_to m.lists u name)) t x)
    where
      taken_there : is_taken m u name ≡ true
      taken_there = ap takes (side_here u) ∙ event_taken names node u (first_of (list_to m.lists u name)) word answer work h

      first : (l : List Item) → list_to m.lists u name ≡ l → behind_first (map framed l ++ map framed sent) ≡ map framed (rest_of l ++ sent)
      first [] e = none_taken names node u word answer work (ap (λ l. at_node names node (model.Arrive u (first_of l) word)) (sym e) ∙ h)
      first (i ∷ is) e = sym (map-append framed is sent)

      go : (b : Bool) → (same_trunk t u && same_name x name) ≡ b
          → taken_at (event.Arrive u word) name t x (map framed c.kept ++ map framed sent)
          ≡ cond (same_trunk t u && same_name x name) (behind_first (map framed c.kept ++ map framed sent))
          (map framed c.kept ++ map framed sent)
          → list_to (lists_left m name (event.Arrive u word)) t x
          ≡ cond (same_trunk t u && same_name x name) (rest_of (list_to m.lists u name)) (list_to m.lists t x)
          → AreFramesOf taken (taken_at (event.Arrive u word) name t x (map framed c.kept ++ map framed sent))
          (list_to (lists_left m name (event.Arrive u word)) t x ++ sent)
      go true e f l =
          let v = and_parts (same_trunk t u) (same_name x name) e in
          let a : t ≡ u = same_trunk_true t u v.0 in
          let d : x ≡ name = same_name_true x name v.1 in
          let all : c.kept ≡ list_to m.lists u name =
          kept_all (is_taken m t x) frames (list_to m.lists t x) c ((λ i. is_taken m (a i) (d i)) ∙ taken_there)
          ∙ (λ i. list_to m.lists (a i) (d i)) in
          record {
            left_out = [];
            kept = rest_of (list_to m.lists u name) ++ sent;
            parts = ap (λ q. q ++ sent) (l ∙ ap (λ b. cond b (rest_of (list_to m.lists u name)) (list_to m.lists t x)) e);
            are = f ∙ ap (λ b. cond b (behind_first (map framed c.kept ++ map framed sent)) (map framed c.kept ++ map framed sent)) e
                ∙ ap (λ l. behind_first (map framed l ++ map framed sent)) all ∙ first (list_to m.lists u name) refl;
            whole = λ i. refl;
          }
      go false e f l =
          subst (λ q. AreFramesOf taken (taken_at (event.Arrive u word) name t x (map framed c.kept ++ map framed sent)) (q ++ sent))
          (sym (l ∙ ap (λ b. cond b (rest_of (list_to m.lists u name)) (list_to m.lists t x)) e))
          (more_frames (is_taken m t x) taken frames (taken_at (event.Arrive u word) name t x (map framed c.kept ++ map framed sent))
          (list_to m.lists t x) sent k c
          (f ∙ ap (λ b. cond b (behind_first (map framed c.kept ++ map framed sent)) (map framed c.kept ++ map framed sent)) e))
  moved e h t x frames sent taken k c =
      more_frames (is_taken m t x) taken frames (map framed c.kept ++ map framed sent) (list_to m.lists t x) sent k c refl

  left_spelled : (e : NodeEvent) → ((t : TrunkId) (x : Name) → AreSpelled (list_to m.lists t x)) → (t : TrunkId) (x : Name)
      → AreSpelled (list_to (lists_left m name e) t x)
  left_spelled (event.Arrive u word) h t x =
      subst AreSpelled (sym (list_to_insert m.lists u name (rest_of (list_to m.lists u name)) t x))
      (go (same_trunk t u && same_name x name))
    where
      go : (b : Bool) → AreSpelled (cond b (rest_of (list_to m.lists u name)) (list_to m.lists t x))
      go true = spelled_rest (list_to m.lists u name) (h u name)
      go false = h t x
  left_spelled e h t x = h t x

-- ---- a side that takes nothing is over

over_of : (t : TrunkId) (node : TheNode) → takes (fm.get node.sides t) ≡ false → IsOver node.sides t
over_of t node h = go (fm.get node.sides t) refl h
  where
    go : (o : Option TrunkSide) → fm.get node.sides t ≡ o → takes o ≡ false → IsOver node.sides t
    go None e k = let no : true ≡ false = k in cc
    go (Some side) e k = record { side = side; there = e; over = not-false (is_over side.state) k }

not_taken : (t : TrunkId) (node : TheNode) → IsOver node.sides t → takes (fm.get node.sides t) ≡ false
not_taken t node h = ap takes h.there ∙ ap not h.over

-- ---- an event at a place of a world of code

module _ (w : World) (m : world.World) (stands : StandsFor w m) where
  named : are_distinct ([] ∷ names_of w.nodes.items) ≡ true
  named = ap (λ ns. are_distinct ([] ∷ ns)) (sym stands.names) ∙ stands.distinct

  distinct : are_distinct (names_of w.nodes.items) ≡ true
  distinct = (and_parts (not (has_name [] (names_of w.nodes.items))) (are_distinct (names_of w.nodes.items)) named).1

  nobody : has_name [] (names_of w.nodes.items) ≡ false
  nobody = not-true _ (and_parts (not (has_name [] (names_of w.nodes.items))) (are_distinct (names_of w.nodes.items)) named).0

  -- there is no node of that name
  pub no_node : (new : World) (name : Name) (e : NodeEvent) → node_of m.nodes name ≡ None → StandsFor new m
      → Came new m (event_at name e) (Err Refusal.NothingThere)
  no_node new name e none s =
      let is : step m (event_at name e) ≡ refused m Refusal.NothingThere = by_node m name e None none in
      record {
        report = Refused Refusal.NothingThere;
        next = m;
        goes = inl (sym (ap (λ (s : Stepped). s.report) is), sym (ap (λ (s : Stepped). s.world) is));
        tells = refl;
        stands = s;
      }

  -- there is no such place
  pub no_place : (new : World) (place : ℕ) (e : NodeEvent) → length (names_of w.nodes.items) ≤ place → StandsFor new m
      → Came new m (event_at (name_at m.names place) e) (Err Refusal.NothingThere)
  no_place new place e l s =
      let name : name_at m.names place ≡ [] = ap (λ ns. name_at ns place) stands.names ∙ nobody_at (names_of w.nodes.items) place l in
      no_node new (name_at m.names place) e
      (ap (node_of m.nodes) name ∙ ap (λ ns. node_of ns []) stands.nodes ∙ nobody_is w.nodes.items nobody) s

  module _ (place : ℕ) (node new : Node) (l : place < length w.nodes.items) (is : slice_index_or w.nodes.items place node ≡ node) where
    abbrev pub name : Name
    name = name_at m.names place

    abbrev pub old : TheNode
    old = model_of node

    name_here : name ≡ old.mint.name
    name_here = ap (λ ns. name_at ns place) stands.names ∙ name_is node w.nodes.items place l ∙ ap name_of is

    node_there : node_of m.nodes name ≡ Some old
    node_there =
        (λ i. node_of (stands.nodes i) (name_at (stands.names i) place)) ∙ node_at node w.nodes.items place l distinct
        ∙ ap (λ n. Some (model_of n)) is

    taken_here : (t : TrunkId) → is_taken m t name ≡ takes (fm.get old.sides t)
    taken_here t = ap (λ o. takes (seen o None (λ (n : TheNode). fm.get n.sides t))) node_there

    -- what the node doesn't take any more is dropped
    pub refused_dropped : (after : World) → after.nodes.items ≡ w.nodes.items → (u : TrunkId) → ((t : TrunkId) (x : Name)
        → at after.lists t x
        ≡ cond (not (takes (fm.get old.sides u)) && eq_by_cmp place_cmp (t, x) (u, old.mint.name)) [] (at w.lists t x))
        → StandsFor after m
    refused_dropped after nodes u lists = dropped w after m stands nodes u name (λ t x.
        lists t x ∙ (λ i. cond (not (sym (taken_here u) i) && eq_by_cmp place_cmp (t, x) (u, sym name_here i)) [] (at w.lists t x)))

    -- the frames that are on their way to the node on a connection
    abbrev here : (t : TrunkId) → AreFramesOf (is_taken m t name) (at w.lists t name) (list_to m.lists t name)
    here t = stands.lists t name

    here_is : (t : TrunkId) → takes (fm.get old.sides t) ≡ true → (here t).kept ≡ list_to m.lists t name
    here_is t k = kept_all (is_taken m t name) (at w.lists t name) (list_to m.lists t name) (here t) (taken_here t ∙ k)

    spelled_here : (t : TrunkId) → AreSpelled (here t).kept
    spelled_here t = spelled_behind (here t).left_out (here t).kept (subst AreSpelled (here t).parts (stands.spelled t name))

    next_is : (t : TrunkId) (items : List Item) → (here t).kept ≡ items → IsNext old t (map framed items) (first_of items)
    next_is t [] e = refl
    next_is t (item ∷ rest) e = (map framed rest, refl, go (takes (fm.get old.sides t)) refl)
      where
        spelled : AreSpelled (item ∷ rest)
        spelled = subst AreSpelled e (spelled_here t)

        go : (b : Bool) → takes (fm.get old.sides t) ≡ b → CanCome old t item
        go true k = can_come m stands.reached name old t item rest node_there (sym (here_is t k) ∙ e) spelled
        go false k = over_can_come old t item spelled.0 k

    -- what comes next of the frames. Where it is taken, it is what comes next in the model
    abbrev pub next_for : NodeEvent → Option Item
    next_for (event.Arrive t word) = first_of (here t).kept
    next_for _ = None

    next_alike : (e : NodeEvent) → at_node m.names old (met e (next_for e)) ≡ at_node m.names old (met e (first_for m name e))
    next_alike (event.Arrive t word) = go (takes (fm.get old.sides t)) refl
      where
        go : (b : Bool) → takes (fm.get old.sides t) ≡ b
            → at_node m.names old (model.Arrive t (first_of (here t).kept) word)
            ≡ at_node m.names old (model.Arrive t (first_of (list_to m.lists t name)) word)
        go true k = ap (λ l. at_node m.names old (model.Arrive t (first_of l) word)) (here_is t k)
        go false k = alike m.names old t (first_of (here t).kept) (first_of (list_to m.lists t name)) word k
    next_alike e = refl

    -- what the node is told of the world is so
    pub meets : (e : NodeEvent) (is_known : Bool)
        → ((peer : Name) (word : ℕ) → e ≡ event.Dial peer word → has_name peer (names_of w.nodes.items) ≡ is_known)
        → Meets e m.names old w.lists is_known (next_for e)
    meets (event.Arrive t word) is_known k =
        subst (λ frames. IsNext old t frames (first_of (here t).kept))
        (sym (here t).are ∙ ap (at w.lists t) name_here)
        (next_is t (here t).kept refl)
    meets (event.Dial peer word) is_known k = ap (has_name peer) stands.names ∙ k peer word refl
    meets e is_known k = tt

    -- what is taken afterwards was taken before
    still_taken : (d : model.NodeEvent) (answer : Answer) (work : Work) → at_node m.names old d ≡ Accepts answer work
        → (lists : FinMap place_cmp (List Item)) (t : TrunkId) (x : Name)
        → is_taken (record { names = m.names; nodes = set_node m.nodes name work.node; lists = lists }) t x ≡ true
        → is_taken m t x ≡ true
    still_taken d answer work h lists t x k = by_test _ (same_name name x) own other
      where
        kept_name : work.node.mint.name ≡ name
        kept_name = (if_accepted (Bearings old d) (at_node m.names old d) answer work h (bearings_kept m.names old d)).name ∙ sym name_here

        counts : CountsOwn old
        counts = ((reached_good m stands.reached).home name old node_there).counts

        own_side : takes (fm.get work.node.sides t) ≡ true → (b : Bool) → takes (fm.get old.sides t) ≡ b → takes (fm.get old.sides t) ≡ true
        own_side j true e = e
        own_side j false e =
            let over = stays_over m.names old d answer work counts h t (over_of t old e) in
            absurd (both_ways (takes (fm.get work.node.sides t)) (not_taken t work.node over) j)

        own : same_name name x ≡ true → is_taken m t x ≡ true
        own e =
            let is : name ≡ x = same_name_true name x e in
            let new : node_of (set_node m.nodes name work.node) x ≡ Some work.node =
            ap (node_of (set_node m.nodes name work.node)) (sym is) ∙ node_of_set_same m.nodes name old work.node node_there kept_name in
            let j : takes (fm.get work.node.sides t) ≡ true =
            ap (λ o. takes (seen o None (λ (n : TheNode). fm.get n.sides t))) (sym new) ∙ k in
            ap (is_taken m t) (sym is) ∙ taken_here t ∙ own_side j (takes (fm.get old.sides t)) refl

        other : same_name name x ≡ false → is_taken m t x ≡ true
        other e =
            ap (λ o. takes (seen o None (λ (n : TheNode). fm.get n.sides t)))
            (sym (node_of_set_other m.nodes name x work.node kept_name (λ is. both_ways (same_name name x) e (same_name_is name x is))))
            ∙ k

    abbrev pub due : NodeEvent → Outcome
    due e = at_node m.names old (met e (first_for m name e))

    module _ (after : World) (nodes : after.nodes.items ≡ slice_set w.nodes.items place new) where
      accepted : (e : NodeEvent) (report : Report Framed)
          → ComesTo e (due e) old (model_of new) w.lists after.lists (Ok report) → Came after m (event_at name e) (Ok report)
      accepted e report h =
          let did = h.0 in
          let is : step m (event_at name e) ≡ came_of m name (lists_left m name e) (Accepts did.answer did.work) =
          step_is m name e old node_there ∙ ap (came_of m name (lists_left m name e)) did.accepts in
          let kept : name_of new ≡ name_of (slice_index_or w.nodes.items place node) =
          name_kept m.names old (model_of new) (met e (first_for m name e)) report did ∙ ap name_of (sym is_node) in
          let next : world.World = record {
            names = m.names;
            nodes = set_node m.nodes name did.work.node;
            lists = carried (lists_left m name e) did.work.effects;
          } in
          let goes : Goes m (event_at name e) (Reported did.answer did.work.effects) next =
          inl (sym (ap (λ (s : Stepped). s.report) is), sym (ap (λ (s : Stepped). s.world) is)) in
          record {
            report = Reported did.answer did.work.effects;
            next = next;
            goes = goes;
            tells = (did.told, did.effects);
            stands = record {
              names = stands.names ∙ sym (names_set w.nodes.items place new node l kept) ∙ ap names_of (sym nodes);
              distinct = stands.distinct;
              nodes = (λ i. set_node (stands.nodes i) (name_at (stands.names i) place) (sym did.node i))
                  ∙ node_set w.nodes.items place new l distinct ∙ ap (map model_of) (sym nodes);
              lists = λ t x.
                  let c = stands.lists t x in
                  let sent = at_place t x (sent_in did.work.effects) in
                  let frames : at after.lists t x ≡ taken_at e name t x (map framed c.kept ++ map framed sent) =
                  h.1 t x ∙ (λ i. taken_at e (sym name_here i) t x (c.are i ++ sent_at t x (did.effects i)))
                  ∙ ap (λ q. taken_at e name t x (map framed c.kept ++ q)) (sent_framed t x did.work.effects) in
                  subst (AreFramesOf (is_taken next t x) (at after.lists t x))
                  (sym (list_to_carried (lists_left m name e) did.work.effects t x))
                  (same_frames (is_taken next t x) (taken_at e name t x (map framed c.kept ++ map framed sent)) (at after.lists t x)
                  (list_to (lists_left m name e) t x ++ sent) frames
                  (moved m name old node_there m.names did.answer did.work e did.accepts t x (at w.lists t x) sent (is_taken next t x)
                  (still_taken (met e (first_for m name e)) did.answer did.work did.accepts
                  (carried (lists_left m name e) did.work.effects) t x) c));
              spelled = λ t x.
                  subst AreSpelled (sym (list_to_carried (lists_left m name e) did.work.effects t x))
                  (spelled_both (list_to (lists_left m name e) t x) (at_place t x (sent_in did.work.effects))
                  (left_spelled m name old node_there m.names did.answer did.work e stands.spelled t x)
                  (spelled_sent t x did.work.effects did.spelled));
              reached = reached_next m next (event_at name e) (Reported did.answer did.work.effects) stands.reached goes;
            };
          }
        where
          is_node : slice_index_or w.nodes.items place node ≡ node
          is_node = is

      unchanged : model_of new ≡ old → ((t : TrunkId) (x : Name) → at after.lists t x ≡ at w.lists t x) → StandsFor after m
      unchanged n s =
          let same : model_of new ≡ model_of (slice_index_or w.nodes.items place node) = n ∙ ap model_of (sym is) in
          record {
            names = stands.names ∙ sym (names_set w.nodes.items place new node l (ap (λ (k : TheNode). k.mint.name) same))
                ∙ ap names_of (sym nodes);
            distinct = stands.distinct;
            nodes = stands.nodes ∙ sym (same_models w.nodes.items place new node l same) ∙ ap (map model_of) (sym nodes);
            lists = λ t x.
                same_frames (is_taken m t x) (at w.lists t x) (at after.lists t x) (list_to m.lists t x) (s t x) (stands.lists t x);
            spelled = stands.spelled;
            reached = stands.reached;
          }

      not_accepted : (e : NodeEvent) (why : Refusal) → StandsFor after m → IsRefused (due e) why → Came after m (event_at name e) (Err why)
      not_accepted e why s (inl r) =
          let is : step m (event_at name e) ≡ refused m why =
          step_is m name e old node_there ∙ ap (came_of m name (lists_left m name e)) r in
          record {
            report = Refused why;
            next = m;
            goes = inl (sym (ap (λ (s : Stepped). s.report) is), sym (ap (λ (s : Stepped). s.world) is));
            tells = refl;
            stands = s;
          }
      not_accepted e why s (inr r) =
          let is : step m (event_at name e) ≡ came_of m name (lists_left m name e) (Accepts r.answer r.work) =
          step_is m name e old node_there ∙ ap (came_of m name (lists_left m name e)) r.accepts in
          record {
            report = Refused why;
            next = m;
            goes = inr (ap Refused r.is, refl, subst (λ (s : Stepped). IsReported s.report) (sym is) tt);
            tells = refl;
            stands = s;
          }

      came_of_due : (e : NodeEvent) (answer : Answered) → ComesTo e (due e) old (model_of new) w.lists after.lists answer
          → Came after m (event_at name e) answer
      came_of_due e (Ok report) h = accepted e report h
      came_of_due e (Err why) h = not_accepted e why (unchanged h.1 h.2) h.0

      pub came : (e : NodeEvent) (answer : Answered)
          → ComesTo e (at_node m.names old (met e (next_for e))) old (model_of new) w.lists after.lists answer
          → Came after m (event_at name e) answer
      came e answer h =
          came_of_due e answer (subst (λ d. ComesTo e d old (model_of new) w.lists after.lists answer) (next_alike e) h)
