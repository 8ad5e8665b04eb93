-- Lines that bring about events, one after the other.
use Rattle.std.proofs.Common.{◌≡◌, ◌+◌, ℕ, Global, List, OnOk, Vec, [], ◌∷◌, ◌++◌, Ok, Err, Result, Some, ap, append_assoc, append-nil, arith, length, refl, subst, sym, ◌∙◌}
use Rattle.std.proofs.lemmas.List.Concat.{flat_map-append}
use Rattle.std.proofs.lemmas.List.{length-append}
use Rattle.std.specs.List.{flat_map}
use Rattle.dist_model.specs.Names.{Name}
use Rattle.dist_model.specs.World.{Event}
use Rattle.node_core.specs.NodeEvents.{event_at}
use Rattle.node_core.specs.declared.node_event.NodeEvent.{NodeEvent}
use Rattle.script_lines.specs.Said.{Said}
use Rattle.script_lines.specs.declared.reason.Reason.{Reason}
use Rattle.script_repeats.specs.Repeats.{Brings, BringsOnly, line_text}
use Rattle.script_repeats.specs.Steps.{Adds, IsLineOf, Ran, Says}
use Rattle.script_repeats.specs.declared.script.Repeating.{Repeating}
use Rattle.script_session.specs.Events.{IsEventOf}
use Rattle.script_session.specs.Session.{State, Step, does, line_does, says_does}
use Rattle.script_session.specs.Stands.{IsSession}

-- some lines, and then some more
pub brings_then : (from : State) (lines : List (List ℕ)) (events : List Event) (mid : State) (more : List (List ℕ)) (others : List Event) (last : State)
    → Brings from lines events mid → Brings mid more others last → Brings from (lines ++ more) (events ++ others) last
brings_then from [] events mid more others last first next =
    subst (λ (state : State). Brings state more (events ++ others) last) first.1
    (subst (λ (e : List Event). Brings mid more (e ++ others) last) (sym first.0) next)
brings_then from (line ∷ lines) events mid more others last first next = (
  first.0,
  first.1 ++ others,
  first.2,
  ap (λ (e : List Event). e ++ others) first.3 ∙ append_assoc first.0 first.1 others,
  first.4,
  brings_then first.2 lines first.1 mid more others last first.5 next,
)

-- the step of a line that was run
abbrev pub step_in : Step → Result Step Reason → Step
step_in step (Ok it) = it
step_in step (Err e) = step

pub step_of : (state : State) (line : List ℕ) (said : Said) (step : Step) → Says state line said
    → says_does state (Ok (Some said)) ≡ Ok (does said state) → line_does state line ≡ Ok step → step ≡ does said state
step_of state line said step says runs done = ap (step_in step) (sym done ∙ ap (says_does state) says ∙ runs)

-- one line
pub line_adds : (state : State) (line : List ℕ) (said : Said) (events : List Event) (old new : Repeating) → Says state line said
    → says_does state (Ok (Some said)) ≡ Ok (does said state) → BringsOnly state said events → Ran state line old new → Adds state events old new
line_adds state line said events old new says runs only ran = record {
  lines = line ∷ [];
  next = ran.step.state;
  brings = (
    events,
    [],
    ran.step.state,
    sym (append-nil events),
    record { said = said; says = says; only = only; next_is = ap (λ (step : Step). step.state) (step_of state line said ran.step says runs ran.does) },
    (refl, refl),
  );
  session = ran.session;
  text = ran.text ∙ ap (λ (t : List ℕ). old.text.items ++ t) (sym (append-nil (line_text line)));
  count = ran.count;
}

-- no line
pub none_added : (state : State) (it : Repeating) → IsSession it.session state → Adds state [] it it
none_added state it is = record { lines = []; next = state; brings = (refl, refl); session = is; text = sym (append-nil it.text.items); count = omega arith }

-- some lines, and then some more
pub adds_then : (state : State) (events others : List Event) (old mid new : Repeating) (first : Adds state events old mid)
    → Adds first.next others mid new → Adds state (events ++ others) old new
adds_then state events others old mid new first next = record {
  lines = first.lines ++ next.lines;
  next = next.next;
  brings = brings_then state first.lines events first.next next.lines others next.next first.brings next.brings;
  session = next.session;
  text =
      next.text
      ∙ ap (λ (t : List ℕ). t ++ flat_map line_text next.lines) first.text
      ∙ append_assoc old.text.items (flat_map line_text first.lines) (flat_map line_text next.lines)
      ∙ ap (λ (t : List ℕ). old.text.items ++ t) (sym (flat_map-append line_text first.lines next.lines));
  count = omega (arith, first.count, next.count, length-append first.lines next.lines);
}

-- from a script with the same lines
pub adds_from : (state : State) (events : List Event) (old mid new : Repeating) → mid.text ≡ old.text → mid.lines ≡ old.lines
    → Adds state events mid new → Adds state events old new
adds_from state events old mid new text lines adds = record {
  lines = adds.lines;
  next = adds.next;
  brings = adds.brings;
  session = adds.session;
  text = adds.text ∙ ap (λ (t : Vec ℕ Global). t.items ++ flat_map line_text adds.lines) text;
  count = adds.count ∙ ap (λ (n : ℕ). n + length adds.lines) lines;
}

-- a line whose event was compared
pub line_is : (state : State) (line : List ℕ) (said : Said) (own : Name × NodeEvent) (name : Name) (event : NodeEvent) → Says state line said
    → IsEventOf state said (event_at own.0 own.1) → own ≡ (name, event) → IsLineOf state line (event_at name event)
line_is state line said own name event says is same = record {
  said = said;
  says = says;
  is = subst (λ (it : Name × NodeEvent). IsEventOf state said (event_at it.0 it.1)) same is;
}

pub on_ok : {X E P Q : Type 0} (r : Result X E) → (P → Q) → OnOk r P → OnOk r Q
on_ok (Ok x) f h = f h
on_ok (Err e) f h = tt
