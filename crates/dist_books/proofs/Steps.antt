-- What moves nodes with their lists moves the world.
use Rattle.std.proofs.Common.{◌≡◌, ℕ, ◌<◌, Bool, true, false, cond, Option, None, Some, List, [], ◌∷◌}
use Rattle.std.proofs.Common.{◌++◌, inl, inr, if◌then◌else◌, length, refl, sym, ap, ◌∙◌, subst, append-nil}
use Rattle.std.specs.FinMap as fm
use Rattle.std.specs.FinMap.{FinMap}
use Rattle.std.specs.Option.{unwrap_or}
use Rattle.std.proofs.lemmas.Bool.Decides.{eqb_tells}
use Rattle.std.proofs.lemmas.Bool.{and_parts}
use Rattle.dist_books.proofs.Numbers.{opened_there}
use Rattle.dist_books.specs.Acting.{AcceptsWhatComes, Acts, Nodes, RefusesWhateverComes, Way}
use Rattle.dist_books.specs.Acting.{meets, name_at, names_of, on_ways, opened_at, same_way, takes}
use Rattle.dist_books.specs.Books.{AreDistinct}
use Rattle.dist_books.specs.Merged.{Placed, events_of, reports_of}
use Rattle.dist_model.proofs.Envelopes as envelopes
use Rattle.dist_model.proofs.Keys.{same_name_refl, same_name_true, same_place, same_trunk, same_trunk_refl, same_trunk_true}
use Rattle.dist_model.proofs.Routes.{at_place, list_to_carried, list_to_insert, node_of_name}
use Rattle.dist_model.specs.Arrivals.{arrive, arrive_first}
use Rattle.dist_model.specs.Claims.{EventIsLocal}
use Rattle.dist_model.specs.Commands.{Accepts, Refuses}
use Rattle.dist_model.specs.Items.{Item}
use Rattle.dist_model.specs.Keeping.{Bearings}
use Rattle.dist_model.specs.Names.{Name, place_cmp, same_name}
use Rattle.dist_model.specs.Node.{Node}
use Rattle.dist_model.specs.NodeEvents as event
use Rattle.dist_model.specs.NodeEvents.{NodeEvent, at_node}
use Rattle.dist_model.specs.Runs.{Goes, Runs, opening}
use Rattle.dist_model.specs.Sides.{TrunkSide, is_over}
use Rattle.dist_model.specs.Work.{Work, at_work}
use Rattle.dist_model.specs.World as model
use Rattle.dist_model.specs.World.{Arrive, Event, Report, World, came_of, first_of, list_to}
use Rattle.dist_model.specs.World.{met, node_name, node_of, refused, rest_of, step, step_at}
use Rattle.dist_model.specs.declared.report.Answer.{Answer}
use Rattle.dist_model.specs.declared.report.Effect.{Effect}
use Rattle.erl_names.specs.declared.trunk.TrunkId.{TrunkId}
use Rattle.erl_term.specs.declared.refusal.Refusal.{Refusal}
use Rattle.dist_books.specs.Logs.{off, on}
use Rattle.dist_books.specs.Runs as merging
use Rattle.dist_books.specs.Runs.{Moves}

-- what the laws of the model say of one event
abbrev pub IsLocal : Type 0
IsLocal = (world : World) → EventIsLocal world

abbrev pub KeepsBearings : Type 0
KeepsBearings = (names : List Name) (node : Node) (now : NodeEvent) (answer : Answer) (work : Work)
    → at_node names node now ≡ Accepts answer work → Bearings node now work

-- ---- ways

pub same_way_self : (c : Way) → same_way c c ≡ true
same_way_self c = same_place c.0 c.0 c.1 c.1 ∙ rw (same_trunk_refl c.0) (same_name_refl c.1)

pub same_way_is : (c d : Way) → same_way c d ≡ true → c ≡ d
same_way_is c d h =
    let both = and_parts (same_trunk c.0 d.0) (same_name c.1 d.1) (sym (same_place c.0 d.0 c.1 d.1) ∙ h) in
    let a : c.0 ≡ d.0 = same_trunk_true c.0 d.0 both.0 in
    let b : c.1 ≡ d.1 = same_name_true c.1 d.1 both.1 in
    λ i. (a i, b i)

-- what was sent, as the model's lists get it
sent_is : (c : Way) (effects : List (Effect Item)) → at_place c.0 c.1 (envelopes.sent_in effects) ≡ on same_way c (on_ways effects)
sent_is c [] = refl
sent_is c (Effect.Sent (Some trunk) peer item ∷ rest) =
    ap (λ b. cond b (item ∷ []) [] ++ at_place c.0 c.1 (envelopes.sent_in rest)) (sym (same_place c.0 trunk c.1 peer))
    ∙ ap (λ l. (if same_way c (trunk, peer) then item ∷ [] else []) ++ l) (sent_is c rest)
sent_is c (effect ∷ rest) = sent_is c rest

-- an arrival with nothing is refused
nothing_refused : (names : List Name) (node : Node) (trunk : TrunkId) (word : ℕ) (said : Answer) (work : Work)
    → at_node names node (event.Arrive trunk None word) ≡ Accepts said work → ⊥
nothing_refused names node trunk word said work is = by_up node.up is
  where
    over : (b : Bool) (side : TrunkSide)
        → cond b (Refuses Refusal.NotLive) (arrive_first None trunk side (at_work node)) ≡ Accepts said work → ⊥
    over true side h = absurd (cc)
    over false side h = absurd (cc)

    by_side : (o : Option TrunkSide) → arrive node trunk o None word ≡ Accepts said work → ⊥
    by_side None h = absurd (cc)
    by_side (Some side) h = over (is_over side.state) side h

    by_up : (b : Bool) → cond b (arrive node trunk (fm.get node.sides trunk) None word) (Refuses Refusal.NodeDown) ≡ Accepts said work → ⊥
    by_up true h = by_side (fm.get node.sides trunk) h
    by_up false h = absurd (cc)

-- ---- what is taken goes off its list

module _ (w : World) (left : Way → List Item) where
  abbrev AreLeft : FinMap place_cmp (List Item) → Type 0
  AreLeft lists = (c : Way) → list_to lists c.0 c.1 ≡ left c

  abbrev Begin : Option (Way × List Item) → Type 0
  Begin took = (c : Way) → list_to w.lists c.0 c.1 ≡ off same_way c took ++ left c

  abbrev IsTaken : Event → Option Item → Type 0
  IsTaken e first = (met w e ≡ meets e first) × AreLeft (model.left w e)

  first_taken : (trunk : TrunkId) (name : Name) (word : ℕ) (item : Item) → Begin (Some ((trunk, name), item ∷ []))
      → IsTaken (Arrive trunk name word) (Some item)
  first_taken trunk name word item begin =
      let way : Way = (trunk, name) in
      let list : list_to w.lists trunk name ≡ item ∷ left way = begin way
      ∙ ap (λ b. (if b then item ∷ [] else []) ++ left way) (same_way_self way) in (
        ap (λ l. event.Arrive trunk (first_of l) word) list,
        λ c. list_to_insert w.lists trunk name (rest_of (list_to w.lists trunk name)) c.0 c.1
            ∙ ap (λ b. cond b (rest_of (list_to w.lists trunk name)) (list_to w.lists c.0 c.1)) (sym (same_place c.0 trunk c.1 name))
            ∙ elsewhere c (same_way c way) refl (ap (λ l. rest_of l) list),
      )
    where
      elsewhere : (c : Way) (b : Bool) → same_way c (trunk, name) ≡ b → rest_of (list_to w.lists trunk name) ≡ left (trunk, name)
          → cond b (rest_of (list_to w.lists trunk name)) (list_to w.lists c.0 c.1) ≡ left c
      elsewhere c true is rest = rest ∙ ap left (sym (same_way_is c (trunk, name) is))
      elsewhere c false is rest = begin c ∙ ap (λ b. (if b then item ∷ [] else []) ++ left c) is

  is_taken : (names : List Name) (node : Node) (e : Event) (first : Option Item) (said : Answer) (work : Work)
      → at_node names node (meets e first) ≡ Accepts said work → Begin (takes e first) → IsTaken e first
  is_taken names node (Arrive trunk name word) None said work accepted begin =
      absurd (nothing_refused names node trunk word said work accepted)
  is_taken names node (Arrive trunk name word) (Some item) said work accepted begin = first_taken trunk name word item begin
  is_taken names node e first said work accepted begin = (refl, begin)

-- whatever comes first
met_some : (w : World) (e : Event) → (first : Option Item) × (met w e ≡ meets e first)
met_some w (Arrive trunk name word) = (first_of (list_to w.lists trunk name), refl)
met_some w e = (None, refl)

-- ---- one step, and all

module _ (local : IsLocal) (bearings : KeepsBearings) (nodes : Nodes) (distinct : AreDistinct nodes) where
  abbrev NodesWorld : Type 0
  NodesWorld = merging.World Node Way Item

  -- the world has these nodes and lists
  pub record At (w : World) (v : NodesWorld) : Type 0 where
    pub names_are : w.names ≡ names_of nodes
    pub nodes_are : (k : ℕ) → k < length nodes → node_of w.nodes (name_at nodes k) ≡ Some (v.nodes k)
    pub lists_are : (c : Way) → list_to w.lists c.0 c.1 ≡ v.lists c

  module _ (w : World) (v new : NodesWorld) (k : ℕ) (e : Event) (answer : Report) (at : At w v)
      (m : Moves same_way (Acts nodes) v k e answer new) where
    abbrev Moved : Type 0
    Moved = (next : World) × Goes w e answer next × At next new

    here : node_of w.nodes (node_name e) ≡ Some (v.nodes k)
    here = ap (λ x. node_of w.nodes x) m.acted.1 ∙ at.nodes_are k m.acted.0

    refusing : RefusesWhateverComes (names_of nodes) (v.nodes k) e m.took answer (new.nodes k) m.sent → Moved
    refusing r =
        let some = met_some w e in
        let said : at_node w.names (v.nodes k) (met w e) ≡ Refuses r.why =
        ap (λ names. at_node names (v.nodes k) (met w e)) at.names_are ∙ ap (λ now. at_node (names_of nodes) (v.nodes k) now) some.1
        ∙ r.refused some.0 in
        let stepped : step w e ≡ refused w r.why = (local w e).refuses (v.nodes k) r.why here said in (
          w,
          inl (r.answered ∙ ap (λ s. s.report) (sym stepped), ap (λ s. s.world) (sym stepped)),
          record {
            names_are = at.names_are;
            nodes_are = λ j within. at.nodes_are j within ∙ ap (λ n. Some n) (sym (unchanged j));
            lists_are = λ c. at.lists_are c ∙ m.first c ∙ ap (λ took. off same_way c took ++ m.left c) r.nothing_taken
                ∙ sym (append-nil (m.left c)) ∙ ap (λ sent. m.left c ++ on same_way c sent) (sym r.nothing_sent) ∙ sym (m.behind c);
          },
        )
      where
        unchanged : (j : ℕ) → new.nodes j ≡ v.nodes j
        unchanged j = elim (eqb_tells j k) [ inl h ↦ ap new.nodes h.1 ∙ r.unchanged ∙ ap v.nodes (sym h.1) | inr h ↦ m.others j h.1 ]

    accepting : AcceptsWhatComes (names_of nodes) (v.nodes k) e m.took answer (new.nodes k) m.sent → Moved
    accepting a =
        let taken = is_taken w m.left (names_of nodes) (v.nodes k) e a.first a.said a.work a.accepted
        (λ c. at.lists_are c ∙ m.first c ∙ ap (λ took. off same_way c took ++ m.left c) a.taken) in
        let said : at_node w.names (v.nodes k) (met w e) ≡ Accepts a.said a.work =
        ap (λ names. at_node names (v.nodes k) (met w e)) at.names_are ∙ ap (λ now. at_node (names_of nodes) (v.nodes k) now) taken.0
        ∙ a.accepted in
        let is = local w e in
        let accepts = is.accepts (v.nodes k) a.said a.work here said in
        let stepped : step w e ≡ came_of w (node_name e) (model.left w e) (Accepts a.said a.work) =
        ap (λ o. step_at w o e) here ∙ ap (λ o. came_of w (node_name e) (model.left w e) o) said in (
          (step w e).world,
          inl (a.answered ∙ sym accepts.0, refl),
          record {
            names_are = is.names ∙ at.names_are;
            nodes_are = nodes_now accepts.1 is.others;
            lists_are = λ c.
                ap (λ s. list_to s.world.lists c.0 c.1) stepped ∙ list_to_carried (model.left w e) a.work.effects c.0 c.1
                ∙ ap (λ l. l ++ at_place c.0 c.1 (envelopes.sent_in a.work.effects)) (taken.1 c)
                ∙ ap (λ l. m.left c ++ l) (sent_is c a.work.effects)
                ∙ ap (λ sent. m.left c ++ on same_way c sent) (sym a.sends) ∙ sym (m.behind c);
          },
        )
      where
        named : a.work.node.mint.name ≡ name_at nodes k
        named = (bearings (names_of nodes) (v.nodes k) (meets e a.first) a.said a.work a.accepted).name
            ∙ node_of_name w.nodes (name_at nodes k) (v.nodes k) (at.nodes_are k m.acted.0)

        nodes_now : node_of (step w e).world.nodes a.work.node.mint.name ≡ Some a.work.node
            → ((x : Name) → (x ≡ node_name e → ⊥) → node_of (step w e).world.nodes x ≡ node_of w.nodes x)
            → (j : ℕ) → j < length nodes → node_of (step w e).world.nodes (name_at nodes j) ≡ Some (new.nodes j)
        nodes_now own others j within = elim (eqb_tells j k) [
          | inl h ↦ ap (λ i. node_of (step w e).world.nodes (name_at nodes i)) h.1
              ∙ ap (λ x. node_of (step w e).world.nodes x) (sym named) ∙ own
              ∙ ap (λ n. Some n) (sym a.becomes ∙ ap new.nodes (sym h.1))
          | inr h ↦ others (name_at nodes j) (λ same. h.1 (distinct j k within m.acted.0 (same ∙ m.acted.1)))
              ∙ at.nodes_are j within ∙ ap (λ n. Some n) (sym (m.others j h.1))
        ]

    moved : Moved
    moved = elim (m.acted.2) [ inl r ↦ refusing r | inr a ↦ accepting a ]

  pub runs : (merged : List Placed) (w : World) (v new : NodesWorld) → At w v → merging.Runs same_way (Acts nodes) v merged new
      → (next : World) × Runs w (events_of merged) (reports_of merged) next × At next new
  runs [] w v new at is = (w, refl, subst (λ u. At w u) (sym is) at)
  runs (x ∷ merged) w v new at go =
      let one = moved w v go.0 x.0 x.1.event x.1.answer at go.1 in
      let rest = runs merged one.0 go.0 new one.2 go.2 in
      (rest.0, (one.0, one.1, rest.1), rest.2)

  pub opened : At (opening nodes) (merging.opening Way Item (opened_at nodes))
  opened = record {
    names_are = refl;
    nodes_are = λ k below. opened_there nodes distinct k below;
    lists_are = λ c. ap (λ o. unwrap_or o []) (fm.get-empty place_cmp c);
  }
