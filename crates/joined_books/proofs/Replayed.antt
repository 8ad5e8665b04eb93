-- The entries of a run, gone through once more.
use Rattle.std.proofs.Common.{◌≡◌, ◌≢◌, ◌⊎◌, ℕ, zero, suc, ◌+◌, ◌<◌, ◌≤◌, Bool, true, false, not, ◌&&◌, Option, None, Some}
use Rattle.std.proofs.Common.{Ok, Err, List, [], ◌∷◌, drop, get_or, inl, inr, length, refl, sym, ap, ◌∙◌, subst, arith}
use Rattle.std.specs.List.{AllZip, slice_get}
use Rattle.std.proofs.lemmas.List.{drop_all, drop_more}
use Rattle.std.proofs.lemmas.Bool.{not-false, or_cases}
use Rattle.std.proofs.lemmas.Option.{same_Some}
use Rattle.dist_books.specs.Acting.{Nodes, names_of}
use Rattle.dist_books.specs.Acting as books
use Rattle.dist_books.specs.Books.{AreDistinct}
use Rattle.dist_books.specs.Merged as run
use Rattle.dist_model.proofs.Keys.{same_name_true}
use Rattle.dist_model.specs.Commands.{Accepts, Outcome, Refuses}
use Rattle.dist_model.specs.Dialing.{has_name}
use Rattle.dist_model.specs.Names.{Name, same_name}
use Rattle.dist_model.specs.Node.{Node}
use Rattle.dist_model.specs.NodeEvents.{at_node}
use Rattle.dist_model.specs.Runs.{Goes, Runs, opening}
use Rattle.dist_model.specs.World as model
use Rattle.dist_model.specs.World.{Refused, Reported, came_of, left, met, node_name, node_of, step, step_at}
use Rattle.erl_term.specs.declared.refusal.Refusal.{Refusal}
use Rattle.joined_books.specs.Joined.{AreARun, Shows}
use Rattle.joined_books.specs.Parts.{entries_at}
use Rattle.joined_books.specs.Replayed.{HappensAgain}
use Rattle.joined_books.specs.declared.trace.Placed.{Placed}
use Rattle.node_lock.specs.Seen.{BookSeen}
use Rattle.node_history.specs.declared.entry.Entry.{Entry}
use Rattle.world_core.proofs.Happened.{goes_names}
use Rattle.world_core.specs.Names.{are_distinct, name_at}
use Rattle.node_core.specs.Told.{Answered, Tells}
use Rattle.node_core.specs.NodeEvents.{event_at}
use Rattle.world_core.specs.Stands.{StandsFor}
use Rattle.world_core.specs.declared.world.World.{World}

-- ---- a step

-- where a step is refused the world is as it was
came_refused : (m : model.World) (x : Name) (l : _) (o : Outcome) (why : Refusal) → (came_of m x l o).report ≡ Refused why
    → (came_of m x l o).world ≡ m
came_refused m x l (Refuses e) why h = refl
came_refused m x l (Accepts answer work) why h = absurd (cc)

step_refused : (m : model.World) (e : model.Event) (o : Option Node) (why : Refusal) → (step_at m o e).report ≡ Refused why
    → (step_at m o e).world ≡ m
step_refused m e None why h = refl
step_refused m e (Some node) why h = came_refused m (node_name e) (left m e) (at_node m.names node (met m e)) why h

-- what has come of an event, where memory was wanting and where it wasn't
goes_wanting : (m : model.World) (e : model.Event) (r : model.Report) (next : model.World) → Goes m e r next
    → r ≡ Refused Refusal.OutOfMemory → next ≡ m
goes_wanting m e r next (inl h) is = h.1 ∙ step_refused m e (node_of m.nodes (node_name e)) Refusal.OutOfMemory (sym h.0 ∙ is)
goes_wanting m e r next (inr h) is = h.1

pub goes_on : (m : model.World) (e : model.Event) (r : model.Report) (next : model.World) → Goes m e r next
    → r ≢ Refused Refusal.OutOfMemory → next ≡ (step m e).world
goes_on m e r next (inl h) other = h.1
goes_on m e r next (inr h) other = absurd (other h.0)

-- ---- what is told

tells_wanting : (answer : Answered) (r : model.Report) → Tells answer r → answer ≡ Err Refusal.OutOfMemory → r ≡ Refused Refusal.OutOfMemory
tells_wanting (Ok report) r h is = absurd (cc)
tells_wanting (Err e) (Reported answer effects) h is = absurd h
tells_wanting (Err e) (Refused why) h is = ap (λ x. Refused x) (sym h ∙ same e Refusal.OutOfMemory is)
  where
    same : (a b : Refusal) → ◌≡◌ {A = Answered} (Err a) (Err b) → a ≡ b
    same a b e = cc

pub tells_other : (answer : Answered) (r : model.Report) → Tells answer r → answer ≢ Err Refusal.OutOfMemory
    → r ≢ Refused Refusal.OutOfMemory
tells_other (Ok report) (Reported answer effects) h other is = absurd (cc)
tells_other (Ok report) (Refused why) h other is = h
tells_other (Err e) (Reported answer effects) h other is = h
tells_other (Err e) (Refused why) h other is = other (ap (λ (x : Refusal). Err x) (h ∙ same why Refusal.OutOfMemory is))
  where
    same : (a b : Refusal) → ◌≡◌ {A = model.Report} (Refused a) (Refused b) → a ≡ b
    same a b e = cc

same_place : (nodes : Nodes) (k : ℕ) → name_at (names_of nodes) k ≡ books.name_at nodes k
same_place [] k = refl
same_place (node ∷ nodes) zero = refl
same_place (node ∷ nodes) (suc k) = same_place nodes k

-- ---- the rest of a run

module _ (nodes : Nodes) (all : List BookSeen) where
  -- a world, from which the rest of the entries leads to the end
  pub record Going (rest : List Placed) (end : model.World) (world : World) : Type 0 where
    pub m : model.World
    pub names : m.names ≡ names_of nodes
    pub stands : StandsFor world m
    pub merged : List run.Placed
    pub shown : AllZip (Shows all nodes) rest merged
    pub runs : Runs m (run.events_of merged) (run.reports_of merged) end

  pub begins : (entries : List Placed) (r : AreARun nodes all entries) (world : World) → StandsFor world (opening nodes)
      → Going entries r.run.world world
  begins entries r world stands =
      record { m = opening nodes; names = refl; stands = stands; merged = r.merged; shown = r.shown; runs = r.run.runs }

  ends : (end : model.World) (world : World) → Going [] end world → StandsFor world end
  ends end world g = over g.merged g.shown g.runs
    where
      over : (merged : List run.Placed) → AllZip (Shows all nodes) [] merged → Runs g.m (run.events_of merged) (run.reports_of merged) end
          → StandsFor world end
      over [] h runs = subst (StandsFor world) (sym runs) g.stands
      over (x ∷ xs) h runs = absurd h

  -- the first of the rest is an entry of the books
  there : (placed : Placed) (rest : List Placed) (end : model.World) (world : World) → Going (placed ∷ rest) end world
      → slice_get (entries_at all placed.node) placed.position ≢ None
  there placed rest end world g none = over g.merged g.shown
    where
      over : (merged : List run.Placed) → AllZip (Shows all nodes) (placed ∷ rest) merged → ⊥
      over [] h = h
      over (x ∷ xs) h = let no : ◌≡◌ {A = Option Entry} None (Some h.0.entry) = sym none ∙ h.0.there in cc

  goes : (placed : Placed) (rest : List Placed) (end : model.World) (world new : World) (entry : Entry)
      → slice_get (entries_at all placed.node) placed.position ≡ Some entry → Going (placed ∷ rest) end world
      → ((m : model.World) → StandsFor world m → HappensAgain m placed.node entry new) → Going rest end new
  goes placed rest end world new entry is g again = over g.merged g.shown g.runs
    where
      over : (merged : List run.Placed) → AllZip (Shows all nodes) (placed ∷ rest) merged
          → Runs g.m (run.events_of merged) (run.reports_of merged) end → Going rest end new
      over [] h runs = absurd h
      over (x ∷ xs) h runs =
          let same : h.0.entry ≡ entry = same_Some h.0.entry entry (sym h.0.there ∙ is) in
          let next = runs.0 in
          record {
            m = next;
            names = goes_names g.m x.1.event x.1.answer next runs.1 ∙ g.names;
            stands = elim (again g.m g.stands) [
              | inl w ↦ (
                  let r =
                  tells_wanting entry.answer x.1.answer (subst (λ (e : Entry). Tells e.answer x.1.answer) same h.0.tells.answer) w.0 in
                  subst (StandsFor new) (sym (goes_wanting g.m x.1.event x.1.answer next runs.1 r)) w.1)
              | inr w ↦ (
                  let r =
                  tells_other entry.answer x.1.answer (subst (λ (e : Entry). Tells e.answer x.1.answer) same h.0.tells.answer) w.0 in
                  let event : x.1.event ≡ event_at (name_at g.m.names placed.node) entry.event =
                  h.0.tells.event ∙ ap (λ (e : Entry). event_at (books.name_at nodes placed.node) e.event) same
                  ∙ ap (λ n. event_at n entry.event)
                  (sym (ap (λ (l : List Name). name_at l placed.node) g.names ∙ same_place nodes placed.node)) in
                  subst (StandsFor new)
                  (ap (λ e. (step g.m e).world) (sym event) ∙ sym (goes_on g.m x.1.event x.1.answer next runs.1 r)) w.1)
            ];
            merged = xs;
            shown = h.1;
            runs = runs.2;
          }

  -- the entries from a place on, as they were read
  module _ (entries read : List Placed) (same : read ≡ entries) (i : ℕ) (d : Placed) (end : model.World) (world : World)
      (within : i < length read) where
    abbrev placed : Placed
    placed = get_or read i d

    from_place : Going (drop i entries) end world → Going (placed ∷ drop (i + 1) read) end world
    from_place g = subst (λ l. Going l end world) (drop_more read i d within) (subst (λ l. Going (drop i l) end world) (sym same) g)

    pub there_at : Going (drop i entries) end world → slice_get (entries_at all placed.node) placed.position ≢ None
    there_at g = there placed (drop (i + 1) read) end world (from_place g)

    pub goes_at : (new : World) (entry : Entry) → slice_get (entries_at all placed.node) placed.position ≡ Some entry
        → Going (drop i entries) end world
        → ((m : model.World) → StandsFor world m → HappensAgain m placed.node entry new) → Going (drop (i + 1) entries) end new
    goes_at new entry is g again =
        subst (λ l. Going (drop (i + 1) l) end new) same
        (goes placed (drop (i + 1) read) end world new entry is (from_place g) again)

  pub ends_at : (entries read : List Placed) → read ≡ entries → (i : ℕ) → length read ≤ i → (end : model.World) (world : World)
      → Going (drop i entries) end world → StandsFor world end
  ends_at entries read same i past end world g =
      ends end world (subst (λ l. Going l end world) (drop_all i entries (subst (λ l. length l ≤ i) same past)) g)

-- ---- names that are distinct

one_false : (a b : Bool) → (a && b) ≡ false → (a ≡ false) ⊎ (b ≡ false)
one_false true b h = inr h
one_false false b h = inl refl

record IsAt (nodes : Nodes) (name : Name) : Type 0 where
  place : ℕ
  within : place < length nodes
  is : books.name_at nodes place ≡ name

found : (nodes : Nodes) (name : Name) → has_name name (names_of nodes) ≡ true → IsAt nodes name
found [] name h = cc
found (node ∷ nodes) name h = elim (or_cases (same_name name node.0) (has_name name (names_of nodes)) h) [
  | inl e ↦ record { place = 0; within = omega arith; is = sym (same_name_true name node.0 e) }
  | inr e ↦ (
      let at = found nodes name e in
      record { place = suc at.place; within = (let w = at.within in omega arith); is = at.is })
]

-- names that aren't are told so
pub repeated : (nodes : Nodes) → AreDistinct nodes → are_distinct (names_of nodes) ≡ false → ⊥
repeated [] d h = cc
repeated (node ∷ nodes) d h = elim (one_false (not (has_name node.0 (names_of nodes))) (are_distinct (names_of nodes)) h) [
  | inl e ↦ (
      let at = found nodes node.0 (not-false (has_name node.0 (names_of nodes)) e) in
      let same : 0 ≡ suc at.place = d 0 (suc at.place) (omega arith) (let w = at.within in omega arith) (sym at.is) in omega (arith, same))
  | inr e ↦ repeated nodes (λ j k below also is. (let s = d (suc j) (suc k) (omega arith) (omega arith) is in omega (arith, s))) e
]
