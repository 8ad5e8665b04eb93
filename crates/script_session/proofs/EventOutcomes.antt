-- The outcome of an event in a world, unless memory was wanting.
use Rattle.std.proofs.Common.{◌≡◌, ℕ, List, ◌++◌, Option, Ok, Err, sym, ap, subst, ◌∙◌, inl, inr}
use Rattle.dist_model.specs.Names.{Name}
use Rattle.dist_model.specs.Runs.{Goes}
use Rattle.dist_model.specs.World.{Event, Refused, Report, Reported, World, step}
use Rattle.erl_term.specs.declared.refusal.Refusal.{Refusal}
use Rattle.node_core.proofs.EventNamed.{event_named}
use Rattle.node_core.specs.NodeEvents.{event_at}
use Rattle.node_core.specs.Told.{Answered, Tells}
use Rattle.node_core.specs.declared.node_event.NodeEvent.{NodeEvent}
use Rattle.run_traces.proofs.Spelled.{sent_spelled}
use Rattle.run_traces.specs.Breaks.{breaks_with, broken_by, source}
use Rattle.run_traces.specs.Traces.{AreSentSpelled, effects_of, trace_text}
use Rattle.script_session.specs.Stage.{Stage as TheStage}
use Rattle.script_session.specs.Stands.{Applied, IsKept, Moved}
use Rattle.script_session.specs.declared.stage.Stage.{Stage}
use Rattle.world_core.specs.Ran.{Came}
use Rattle.world_core.specs.Stands.{StandsFor}
use Rattle.world_core.specs.declared.world.World.{World as Code}

-- the world stands for the model's, and the answer tells its report
pub record Stepped (new : Code) (m : World) (e : Event) (answer : Answered) : Type 0 where
  pub stands : StandsFor new (step m e).world
  pub tells : Tells answer (step m e).report

wanting : (answer : Answered) (report : Report) → Tells answer report → report ≡ Refused Refusal.OutOfMemory
    → answer ≡ Err Refusal.OutOfMemory
wanting (Ok told) (Refused why) t e = absurd t
wanting (Ok told) (Reported a effects) t e = cc
wanting (Err why) (Refused other) t e = ap (λ w. Err w) (t ∙ refused_same other Refusal.OutOfMemory e)
  where
    refused_same : (a b : Refusal) → Refused a ≡ Refused b → a ≡ b
    refused_same a b h = cc
wanting (Err why) (Reported a effects) t e = absurd t

pub stepped : (new : Code) (m : World) (e : Event) (answer : Answered) → Came new m e answer
    → (answer ≡ Err Refusal.OutOfMemory → ⊥) → Stepped new m e answer
stepped new m e answer c some = go c.goes
  where
    go : Goes m e c.report c.next → Stepped new m e answer
    go (inl h) = record { stands = subst (StandsFor new) h.1 c.stands; tells = subst (Tells answer) h.0 c.tells }
    go (inr h) = absurd (some (wanting answer c.report c.tells h.0))

-- an event has happened, and memory was enough
pub applied : (it : TheStage) (new : Stage) (e : Event) (came answer : Answered) → Came new.world it.world e came → IsKept came answer
    → new.word ≡ it.word → new.trace ≡ it.trace → broken_by new.breaks ≡ it.breaks → Applied e it new answer
applied it new e came answer c kept word trace breaks =
    let s = stepped new.world it.world e came c (λ h. kept.1 (kept.0 ∙ h)) in
    record {
      world = s.stands;
      word = word;
      trace = trace;
      breaks = breaks;
      tells = subst (λ a. Tells a (step it.world e).report) (sym kept.0) s.tells;
    }

-- its trace is printed, and its break noted
pub moved : (it : TheStage) (old new : Stage) (name : Name) (e : NodeEvent) (came : Answered) (source_is : Option Name) (before out : List ℕ)
    → (a : Applied (event_at name e) it old came) → source_is ≡ source it.world (event_at name e)
    → new.world ≡ old.world → new.word ≡ old.word → new.trace ≡ old.trace
    → out ≡ before ++ trace_text old.trace name source_is (step it.world (event_at name e)).report
    → broken_by new.breaks ≡ breaks_with name source_is (step it.world (event_at name e)).report (broken_by old.breaks)
    → Moved (event_at name e) it new before out came
moved it old new name e came source_is before out a from world word trace text breaks =
    let event = event_at name e in
    let report = (step it.world event).report in
    let named = sym (event_named name e) in
    record {
      world = subst (λ w. StandsFor w (step it.world event).world) (sym world) a.world;
      word = word ∙ a.word;
      trace = trace ∙ a.trace;
      breaks = breaks ∙ (λ i. breaks_with (named i) (from i) report (a.breaks i));
      text = text ∙ (λ i. before ++ trace_text (a.trace i) (named i) (from i) report);
      tells = a.tells;
    }

-- each item that it sends has a spelling
pub told_spelled : (it : TheStage) (now : Stage) (e : Event) (came : Answered) → Applied e it now came
    → AreSentSpelled (effects_of (step it.world e).report)
told_spelled it now e came a = sent_spelled now.world it.world e a.world
