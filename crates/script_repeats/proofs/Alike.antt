-- A script that repeats a run ends in the world of the run.
use Rattle.std.proofs.Common.{◌≡◌, ℕ, zero, suc, Bool, true, false, cond, not, List, [], ◌∷◌, ◌++◌, None, Some, Option, Ok, Err, ap, inl, inr, is_some, map, refl, slice_get, slice_index_or, sym, ◌∙◌}
use Rattle.std.proofs.lemmas.Option.{get_or_from_slice_get}
use Rattle.std.specs.FinMap as fm
use Rattle.std.specs.List.{AllZip}
use Rattle.dist_books.specs.Acting.{Nodes, name_at, nowhere}
use Rattle.dist_books.specs.Merged as merged
use Rattle.dist_model.specs.Arrivals.{arrive}
use Rattle.dist_model.specs.Items.{Item}
use Rattle.dist_model.specs.Commands.{Outcome}
use Rattle.dist_model.specs.Names.{Name}
use Rattle.dist_model.specs.Node.{Node}
use Rattle.dist_model.specs.NodeEvents.{if_up}
use Rattle.dist_model.specs.Runs.{Goes, Runs, opening, reports_of, run}
use Rattle.dist_model.specs.Seen.{seen}
use Rattle.dist_model.specs.Sides.{TrunkSide}
use Rattle.dist_model.specs.World.{Arrive, Event, Refused, Report, Reported, World}
use Rattle.dist_model.specs.World.{Stepped, came_of, first_of, left, list_to, node_of, step, step_at}
use Rattle.erl_handshake.specs.declared.setup.Setup.{Setup}
use Rattle.erl_names.specs.declared.trunk.TrunkId.{TrunkId}
use Rattle.erl_term.specs.declared.refusal.Refusal.{Refusal}
use Rattle.joined_books.specs.Joined.{AreARun, Shows}
use Rattle.joined_books.specs.declared.trace.Placed.{Placed}
use Rattle.node_core.specs.NodeEvents.{event_at}
use Rattle.node_core.specs.Told.{Answered, Tells}
use Rattle.node_history.specs.declared.entry.Entry.{Entry}
use Rattle.node_lock.specs.Seen.{BookSeen}
use Rattle.script_lines.specs.Said.{Said}
use Rattle.script_repeats.specs.Ends.{EndsAlike}
use Rattle.script_repeats.specs.Repeats.{Brings, BringsOnly, IsEventAt, IsEventIn, Repeats}
use Rattle.script_session.specs.Events.{IsEventOf, normal}
use Rattle.script_session.specs.Session.{State, does}
use Rattle.script_session.specs.Stage.{Scene, takes_word}

-- ---- an arrival on a connection that its node knows doesn't use its challenge

known_side : (node : Node) (trunk : TrunkId) (side : Option TrunkSide) (first : Option Item) (word : ℕ) → not (is_some side) ≡ false
    → arrive node trunk side first 0 ≡ arrive node trunk side first word
known_side node trunk None first word known = absurd cc
known_side node trunk (Some side) first word known = refl

abbrev side_at : Option Node → TrunkId → Option TrunkSide
side_at node trunk = seen node None (λ (it : Node). fm.get it.sides trunk)

known_arrival : (world : World) (node : Option Node) (trunk : TrunkId) (name : Name) (word : ℕ) → not (is_some (side_at node trunk)) ≡ false
    → step_at world node (Arrive trunk name 0) ≡ step_at world node (Arrive trunk name word)
known_arrival world None trunk name word known = absurd cc
known_arrival world (Some node) trunk name word known =
    ap (λ (out : Outcome). came_of world name (left world (Arrive trunk name word)) (if_up node out))
    (known_side node trunk (fm.get node.sides trunk) (first_of (list_to world.lists trunk name)) word known)

same_arrival : (world : World) (at : Option Node) (trunk : TrunkId) (name : Name) (word : ℕ) (takes : Bool)
    → not (is_some (side_at at trunk)) ≡ takes
    → step_at world at (Arrive trunk name (cond takes word 0)) ≡ step_at world at (Arrive trunk name word)
same_arrival world at trunk name word true is = refl
same_arrival world at trunk name word false is = known_arrival world at trunk name word is

normal_step : (world : World) (event : Event) → step world (normal world event) ≡ step world event
normal_step world (Arrive trunk name word) =
    same_arrival world (node_of world.nodes name) trunk name word (takes_word world (Arrive trunk name word)) refl
normal_step world _ = refl

-- ---- the lines lead to the world to which their events lead

event_leads : (state : State) (said : Said) (event : Event) → IsEventOf state said event
    → (does said state).state.stage.world ≡ (step state.stage.world event).world
event_leads state said event is =
    ap (λ (scene : Scene). scene.stage.world) is.just.happens
    ∙ ap (λ (it : Stepped). it.world) (sym (normal_step state.stage.world is.just.own) ∙ ap (step state.stage.world) (sym is.just.is))

line_leads : (state : State) (said : Said) (events : List Event) → BringsOnly state said events
    → (does said state).state.stage.world ≡ run events state.stage.world
line_leads state said [] only = ap (λ (it : Said). (does it state).state.stage.world) only.1
line_leads state said (event ∷ []) only = event_leads state said event only
line_leads state said (event ∷ other ∷ more) only = absurd only

run_more : (first rest : List Event) (world : World) → run (first ++ rest) world ≡ run rest (run first world)
run_more [] rest world = refl
run_more (event ∷ first) rest world = run_more first rest ((step world event).world)

lines_lead : (state : State) (lines : List (List ℕ)) (events : List Event) (last : State) → Brings state lines events last
    → last.stage.world ≡ run events state.stage.world
lines_lead state [] events last b = ap (λ (it : State). it.stage.world) b.1 ∙ ap (λ (e : List Event). run e state.stage.world) (sym b.0)
lines_lead state (line ∷ lines) events last b =
    lines_lead b.2 lines b.1 last b.5
    ∙ ap (run b.1) (ap (λ (it : State). it.stage.world) b.4.next_is ∙ line_leads state b.4.said b.0 b.4.only)
    ∙ sym (run_more b.0 b.1 state.stage.world)
    ∙ ap (λ (e : List Event). run e state.stage.world) (sym b.3)

-- ---- the events of the lines are those of the run, and memory wasn't wanting for them

abbrev NoneWanting : List Report → Type 0
NoneWanting [] = Unit {0}
NoneWanting (report ∷ reports) = (report ≡ Refused Refusal.OutOfMemory → ⊥) × NoneWanting reports

abbrev some_in : {X : Type 0} → X → Option X → X
some_in x None = x
some_in x (Some y) = y

abbrev refusal_in : Refusal → Report → Refusal
refusal_in why (Refused it) = it
refusal_in why (Reported answer effects) = why

told_refused : (answer : Answered) (report : Report) (why : Refusal) → Tells answer report → report ≡ Refused why → answer ≡ Err why
told_refused (Ok it) (Refused other) why tells is = absurd tells
told_refused (Ok it) (Reported answer effects) why tells is = absurd cc
told_refused (Err e) (Refused other) why tells is = ap (λ (it : Refusal). Err it) (tells ∙ ap (refusal_in why) is)
told_refused (Err e) (Reported answer effects) why tells is = absurd cc

part_there : {X Y : Type 0} (f : X → Y) (xs : List X) (k : ℕ) (x : X) (d : Y) → slice_get xs k ≡ Some x → slice_index_or (map f xs) k d ≡ f x
part_there f [] k x d is = absurd cc
part_there f (y ∷ xs) zero x d is = ap f (ap (some_in y) is)
part_there f (y ∷ xs) (suc k) x d is = part_there f xs k x d is

abbrev IsSame : merged.Placed → Event → Type 0
IsSame of event = (of.1.event ≡ event) × (of.1.answer ≡ Refused Refusal.OutOfMemory → ⊥)

module _ (nodes : Nodes) (books : List BookSeen) (placed : Placed) (of : merged.Placed) (event : Event) (shows : Shows books nodes placed of) where
  same_in : (node : Option (Name × Setup)) (book : Option BookSeen) → slice_get nodes placed.node ≡ node → slice_get books placed.node ≡ book
      → IsEventIn node book placed.position event → IsSame of event
  same_in None book n b is = absurd is
  same_in (Some node) None n b is = absurd is
  same_in (Some node) (Some book) n b is =
      let entries = part_there (λ (it : BookSeen). it.history.entries.items) books placed.node book [] b in
      let entry : shows.entry ≡ is.0 =
      ap (some_in is.0) (sym shows.there ∙ ap (λ (l : List Entry). slice_get l placed.position) entries ∙ is.1) in
      let name : name_at nodes placed.node ≡ node.0 =
      ap (λ (it : Name × Setup). it.0) (get_or_from_slice_get nodes placed.node node nowhere n) in (
        shows.tells.event
            ∙ ap (λ (it : Entry). event_at (name_at nodes placed.node) it.event) entry
            ∙ ap (λ (it : Name). event_at it is.0.event) name
            ∙ sym is.2.is,
        λ wanting. is.2.kept (ap (λ (it : Entry). it.answer) (sym entry) ∙ told_refused shows.entry.answer of.1.answer Refusal.OutOfMemory shows.tells.answer wanting),
      )

  same : IsEventAt nodes books placed event → IsSame of event
  same is = same_in (slice_get nodes placed.node) (slice_get books placed.node) refl refl is

all_same : (nodes : Nodes) (books : List BookSeen) (entries : List Placed) (all : List merged.Placed) (events : List Event)
    → AllZip (Shows books nodes) entries all → AllZip (IsEventAt nodes books) entries events
    → (merged.events_of all ≡ events) × NoneWanting (merged.reports_of all)
all_same nodes books [] [] [] shown are = (refl, tt)
all_same nodes books [] [] (event ∷ events) shown are = absurd are
all_same nodes books [] (of ∷ all) events shown are = absurd shown
all_same nodes books (placed ∷ entries) [] events shown are = absurd shown
all_same nodes books (placed ∷ entries) (of ∷ all) [] shown are = absurd are
all_same nodes books (placed ∷ entries) (of ∷ all) (event ∷ events) shown are =
    let one = same nodes books placed of event shown.0 are.0 in
    let more = all_same nodes books entries all events shown.1 are.1 in (
      ap (λ (it : Event). it ∷ merged.events_of all) one.0 ∙ ap (λ (l : List Event). event ∷ l) more.0,
      (one.1, more.1),
    )

-- ---- with ample memory events have one outcome

goes_so : (world : World) (event : Event) (report : Report) (next : World) → Goes world event report next
    → (report ≡ Refused Refusal.OutOfMemory → ⊥) → (report ≡ (step world event).report) × (next ≡ (step world event).world)
goes_so world event report next (inl so) ample = so
goes_so world event report next (inr wanting) ample = absurd (ample wanting.0)

runs_so : (world : World) (events : List Event) (reports : List Report) (last : World) → Runs world events reports last → NoneWanting reports
    → (last ≡ run events world) × (reports_of events world ≡ reports)
runs_so world [] [] last runs ample = (runs, refl)
runs_so world [] (report ∷ reports) last runs ample = absurd runs
runs_so world (event ∷ events) [] last runs ample = absurd runs
runs_so world (event ∷ events) (report ∷ reports) last runs ample =
    let so = goes_so world event report runs.0 runs.1 ample.0 in
    let more = runs_so runs.0 events reports last runs.2 ample.1 in (
      more.0 ∙ ap (run events) so.1,
      ap (λ (it : Report). it ∷ reports_of events ((step world event).world)) (sym so.0)
          ∙ ap (λ (l : List Report). report ∷ l) (ap (reports_of events) (sym so.1) ∙ more.1),
    )

-- ---- the law

pub ends_alike : (seed : ℕ) (nodes : Nodes) (books : List BookSeen) (entries : List Placed) (text : List ℕ) (a : AreARun nodes books entries)
    (script : Repeats seed nodes books entries text) → EndsAlike a script
ends_alike seed nodes books entries text a script =
    let all = all_same nodes books entries a.merged script.events a.shown script.are in
    let so = runs_so (opening nodes) (merged.events_of a.merged) (merged.reports_of a.merged) a.run.world a.run.runs all.1 in
    record {
      world =
          lines_lead script.at script.behind script.events script.last script.brings
          ∙ ap (run script.events) script.opens.world
          ∙ ap (λ (e : List Event). run e (opening nodes)) (sym all.0)
          ∙ sym so.0;
      reports = ap (λ (e : List Event). reports_of e (opening nodes)) (sym all.0) ∙ so.1;
    }
