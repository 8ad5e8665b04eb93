-- Some events of a list have happened.
use Rattle.std.proofs.Common.{◌≡◌, suc, length, List, [], ◌∷◌, ◌++◌, Option, None, Some, refl, sym, ap, subst, ◌∙◌, inl, inr, append-nil, append_assoc}
use Rattle.std.proofs.lemmas.List.{map-append}
use Rattle.dist_model.proofs.Run.{moments}
use Rattle.dist_model.specs.Commands.{Accepts, Outcome, Refuses}
use Rattle.dist_model.specs.Fates.{DownsRightly, ReactsRightly}
use Rattle.dist_model.specs.Histories.{told}
use Rattle.dist_model.specs.Names.{Name}
use Rattle.dist_model.specs.Node.{Node}
use Rattle.dist_model.specs.NodeEvents.{at_node}
use Rattle.dist_model.specs.Runs.{Goes, Runs, opening}
use Rattle.dist_model.specs.Safety.{Safe}
use Rattle.dist_model.specs.Traces.{ThroughoutTraced, traced}
use Rattle.dist_model.specs.World as model
use Rattle.dist_model.specs.World.{came_of, left, met, node_name, node_of, step_at}
use Rattle.world_core.specs.Ran.{Came, Ran, RanSafely, TellAll, WasRight, WasSafe, event_in, events_in}
use Rattle.node_core.specs.Told.{Answered, Tells}
use Rattle.world_core.specs.Stands.{StandsFor}
use Rattle.world_core.specs.declared.event.Event.{Event}
use Rattle.world_core.specs.declared.world.World.{World}
use Rattle.world_core.proofs.Reached.{runs_then}
use Rattle.erl_handshake.specs.declared.setup.Setup.{Setup}

-- those that are left come behind those that were answered
pub record Going (w : World) (m : model.World) (all rest : List Event) (answers : List Answered) : Type 0 where
  pub done : List Event
  pub parts : all ≡ done ++ rest
  pub ran : Ran w m (events_in m.names done) answers

pub none_yet : (w : World) (m : model.World) (all : List Event) → StandsFor w m → Going w m all all []
none_yet w m all h = record { done = []; parts = refl; ran = record { reports = []; next = m; runs = refl; tells = tt; stands = h } }

pub all_done : (w : World) (m : model.World) (all : List Event) (answers : List Answered) → Going w m all [] answers
    → Ran w m (events_in m.names all) answers
all_done w m all answers h = subst (λ es. Ran w m (events_in m.names es) answers) (sym (h.parts ∙ append-nil h.done)) h.ran

-- ---- the names of a world stay

came_names : (m : model.World) (x : Name) (l : _) (o : Outcome) → (came_of m x l o).world.names ≡ m.names
came_names m x l (Refuses why) = refl
came_names m x l (Accepts answer work) = refl

pub step_names_at : (m : model.World) (e : model.Event) (o : Option Node) → (step_at m o e).world.names ≡ m.names
step_names_at m e None = refl
step_names_at m e (Some node) = came_names m (node_name e) (left m e) (at_node m.names node (met m e))

pub goes_names : (m : model.World) (e : model.Event) (r : model.Report) (next : model.World) → Goes m e r next → next.names ≡ m.names
goes_names m e r next (inl h) = ap (λ (w : model.World). w.names) h.1 ∙ step_names_at m e (node_of m.nodes (node_name e))
goes_names m e r next (inr h) = ap (λ (w : model.World). w.names) h.1

runs_names : (m : model.World) (es : List model.Event) (rs : List model.Report) (next : model.World) → Runs m es rs next
    → next.names ≡ m.names
runs_names m [] [] next h = ap (λ (w : model.World). w.names) h
runs_names m [] (r ∷ rs) next h = absurd h
runs_names m (e ∷ es) [] next h = absurd h
runs_names m (e ∷ es) (r ∷ rs) next h = runs_names h.0 es rs next h.2 ∙ goes_names m e r h.0 h.1

tell_more : (answers : List Answered) (reports : List model.Report) (answer : Answered) (report : model.Report)
    → TellAll answers reports → Tells answer report
    → TellAll (answers ++ answer ∷ []) (reports ++ report ∷ [])
tell_more [] [] answer report h k = (k, tt)
tell_more [] (r ∷ rs) answer report h k = absurd h
tell_more (a ∷ answers) [] answer report h k = absurd h
tell_more (a ∷ answers) (r ∷ rs) answer report h k = (h.0, tell_more answers rs answer report h.1 k)

-- ---- one more

pub one_more : (w new : World) (m : model.World) (all rest : List Event) (e : Event) (answers after : List Answered) (answer : Answered)
    → Going w m all (e ∷ rest) answers → ((next : model.World) → StandsFor w next → Came new next (event_in next.names e) answer)
    → after ≡ answers ++ answer ∷ []
    → Going new m all rest after
one_more w new m all rest e answers after answer h f k =
    let ran = h.ran in
    let came = f ran.next ran.stands in
    let names = runs_names m (events_in m.names h.done) ran.reports ran.next ran.runs in
    let goes : Goes ran.next (event_in m.names e) came.report came.next =
    subst (λ ns. Goes ran.next (event_in ns e) came.report came.next) names came.goes in
    let more : events_in m.names (h.done ++ e ∷ []) ≡ events_in m.names h.done ++ event_in m.names e ∷ [] =
    map-append (event_in m.names) h.done (e ∷ []) in
    let P : List model.Event → Type 0 = (λ es. Runs m es (ran.reports ++ came.report ∷ []) came.next) in
    record {
      done = h.done ++ e ∷ [];
      parts = h.parts ∙ sym (append_assoc h.done (e ∷ []) rest);
      ran = record {
        reports = ran.reports ++ came.report ∷ [];
        next = came.next;
        runs = subst P (sym more)
            (runs_then m (events_in m.names h.done) ran.reports ran.next (event_in m.names e) came.report came.next ran.runs goes);
        tells = subst (λ xs. TellAll xs (ran.reports ++ came.report ∷ [])) (sym k)
            (tell_more answers ran.reports answer came.report ran.tells came.tells);
        stands = came.stands;
      };
    }

-- ---- and all is safe

-- a run of the model has a report for each event
as_long : (m : model.World) (es : List model.Event) (rs : List model.Report) (next : model.World) → Runs m es rs next
    → length es ≡ length rs
as_long m [] [] next h = refl
as_long m [] (r ∷ rs) next h = absurd h
as_long m (e ∷ es) [] next h = absurd h
as_long m (e ∷ es) (r ∷ rs) next h = ap suc (as_long h.0 es rs next h.2)

-- each report of a run is told rightly
abbrev pub TellsRightly : Type 0
TellsRightly = (nodes : List (Name × Setup)) (before behind : List model.Event) (event : model.Event)
    (earlier later : List model.Report) (report : model.Report) (world : model.World)
    → length before ≡ length earlier → Runs (opening nodes) (before ++ event ∷ behind) (earlier ++ report ∷ later) world
    → (now : model.World) × Runs (opening nodes) before earlier now × ReactsRightly (told before earlier []) now event report
    × DownsRightly (traced (opening nodes) before earlier []) now event report

was_right : TellsRightly → (nodes : _) (before behind : List model.Event) (event : model.Event) (reports : List model.Report)
    (next : model.World) → Runs (opening nodes) (before ++ event ∷ behind) reports next → WasRight (opening nodes) before event reports
was_right rightly nodes before behind event reports next h =
    let k = moments before (event ∷ behind) reports (opening nodes) next h in
    go k.0 k.1 k.2 k.3 k.4 k.5
  where
    go : (earlier later : List model.Report) (now : model.World) → reports ≡ earlier ++ later → Runs (opening nodes) before earlier now
        → Runs now (event ∷ behind) later next → WasRight (opening nodes) before event reports
    go earlier [] now parts first rest = absurd rest
    go earlier (report ∷ later) now parts first rest =
        let whole = subst (λ rs. Runs (opening nodes) (before ++ event ∷ behind) rs next) parts h in
        let right = rightly nodes before behind event earlier later report next (as_long (opening nodes) before earlier now first) whole in
        record {
          earlier = earlier;
          report = report;
          later = later;
          parts = parts;
          now = right.0;
          runs = right.1;
          reacts = right.2;
          downs = right.3;
        }

module _ (safe : ThroughoutTraced Safe) (rightly : TellsRightly) where
  was_safe : (nodes : _) (before behind : List model.Event) (reports : List model.Report) (next : model.World)
      → Runs (opening nodes) (before ++ behind) reports next
      → WasSafe (opening nodes) before reports
  was_safe nodes before behind reports next h =
      let k = moments before behind reports (opening nodes) next h in
      record { earlier = k.0; later = k.1; parts = k.3; now = k.2; runs = k.4; safe = safe nodes before k.0 k.2 k.4 }

  pub ran_safely : (new : World) (nodes : _) (events : List model.Event) (answers : List Answered) → Ran new (opening nodes) events answers
      → RanSafely new (opening nodes) events answers
  ran_safely new nodes events answers h = record {
    ran = h;
    at_the_end = safe nodes events h.reports h.next h.runs;
    before_each =
        λ before behind e. was_safe nodes before behind h.reports h.next (subst (λ es. Runs (opening nodes) es h.reports h.next) e h.runs);
    each_report = λ before behind event e.
        was_right rightly nodes before behind event h.reports h.next (subst (λ es. Runs (opening nodes) es h.reports h.next) e h.runs);
  }
