-- What a caller asks for is answered twice, and written down once.
use Rattle.std.proofs.Common.{◌≡◌, ℕ, ◌+◌, ◌^◌, Bool, true, false, ◌||◌, nat_lt, if◌then◌else◌, OnOk, None, Some, List, [], ◌∷◌}
use Rattle.std.proofs.Common.{◌++◌, length, slice_get, map, Result, Ok, Err, IfOk, inl, inr, refl, sym, ap, ◌∙◌, subst}
use Rattle.std.specs.Result.{IsErrAnd}
use Rattle.std.specs.declared.alloc.AllocError.{AllocError}
use Rattle.std.specs.Global.{Vec}
use Rattle.dist_model.proofs.Keys.{same_name_refl}
use Rattle.dist_model.specs.Commands.{Accepts, Outcome, Refuses}
use Rattle.dist_model.specs.Names.{Name}
use Rattle.dist_model.specs.Node as model
use Rattle.dist_model.specs.NodeEvents as events
use Rattle.dist_model.specs.NodeEvents.{at_node}
use Rattle.dist_model.specs.Work.{Work}
use Rattle.dist_model.specs.declared.command.Command.TheVariants as command
use Rattle.dist_model.specs.declared.report.Answer.{Answer as Said}
use Rattle.dist_model.specs.declared.report.Effect.{Effect}
use Rattle.dist_model.specs.declared.report.Report.{Report}
use Rattle.erl_term.specs.declared.refusal.Refusal.{Refusal}
use Rattle.node_core.proofs.PlanDone.{done}
use Rattle.node_core.specs.Done.{Did, Does}
use Rattle.node_core.specs.Model.{model_of}
use Rattle.node_history.specs.Acts.{Knows}
use Rattle.erl_term.specs.declared.term.Pid.{Pid}
use Rattle.link_core.specs.declared.end.End.{End}
use Rattle.node_history.proofs.ThereBefore.{looks_not}
use Rattle.node_history.specs.Entering.{Answer, IsWanting, Tries, Writes}
use Rattle.node_history.specs.Spares.{AreLinksOf, Fills, filled}
use Rattle.node_history.specs.Telling.{Answers, IsPlainCopy, IsTold, IsTwice, placed}
use Rattle.node_history.specs.declared.acts.Twice.{Twice}
use Rattle.node_history.specs.declared.entry.Entry.{Entry}
use Rattle.node_history.specs.declared.entry.Told.{Told}
use Rattle.node_history.specs.declared.history.History.{History}
use Rattle.node_history.specs.declared.spare.Spare.{Spare}
use Rattle.node_frames.specs.Frames.{Framed, shown}
use Rattle.node_plan.specs.Planned.{IsPlanned, IsRefused, Plans}
use Rattle.node_plan.specs.Plans.{committed, told}
use Rattle.node_plan.specs.declared.plan.Plan.{Plan}
use Rattle.node_history.specs.Said.{said}
use Rattle.node_core.specs.NodeEvents.{met}
use Rattle.node_core.specs.declared.node_event.NodeEvent.{NodeEvent}
use Rattle.node_core.specs.declared.node_event.NodeEvent.TheVariants as event

-- ---- what was planned is carried out

accepted : (spare : Spare) (due : Outcome) (a : Said) (w : Work) → Fills spare due → due ≡ Accepts a w → filled spare a ≡ a
accepted spare due a w h is = subst (Fills spare) is h

both_said : (a b : Said) (xs ys : List (Effect Framed)) → a ≡ b → xs ≡ ys
    → ◌≡◌ {A = Result (Said × List (Effect Framed)) Refusal} (Ok (a, xs)) (Ok (b, ys))
both_said a b xs ys h k = λ i. Ok (h i, k i)

pub carried : (m new : model.Node) (due : Outcome) (spare : Spare) (plan : Plan) (report : Report Framed) (answer : Said)
    (effects : Vec (Effect Framed)) → IsPlanned m due plan
    → new ≡ committed plan m → report.answer ≡ told plan m → report.effects ≡ plan.effects → answer ≡ filled spare report.answer
    → effects.items ≡ plan.effects.items → Fills spare due
    → IsTwice due m new (record { answer = Ok report; copy = Ok (record { answer = answer; effects = effects }) })
carried m new due spare plan report answer effects p n t e a es fills = record {
  does = done m new due plan report p n t e;
  same = both_said answer report.answer effects.items report.effects.items
      (a ∙ ap (filled spare) (t ∙ p.told) ∙ accepted spare due p.answer p.work fills p.accepts ∙ sym (t ∙ p.told))
      (es ∙ sym (ap (λ (xs : Vec (Effect Framed)). xs.items) e));
}

-- an event that brings nothing about
abbrev NoEffects : Outcome → Type 0
NoEffects (Refuses e) = Unit {0}
NoEffects (Accepts a w) = w.effects ≡ []

none_if : (b : Bool) (e : Refusal) (o : Outcome) → NoEffects o → NoEffects (if b then o else Refuses e)
none_if true e o h = h
none_if false e o h = tt

none_unless : (b : Bool) (e : Refusal) (o : Outcome) → NoEffects o → NoEffects (if b then Refuses e else o)
none_unless true e o h = tt
none_unless false e o h = h

pub stops_quietly : (names : List Name) (m : model.Node) → NoEffects (at_node names m (met event.Stop None))
stops_quietly names m = none_if m.up Refusal.NodeDown _ refl

pub starts_quietly : (names : List Name) (m : model.Node) → NoEffects (at_node names m (met event.Start None))
starts_quietly names m = none_unless m.up Refusal.NodeUp _ (none_if (nat_lt (m.mint.creation + 1) (2 ^ 32)) Refusal.IdsUsedUp _ refl)

-- the node of the plan is the one that there was
module _ (what : NodeEvent) (names : List Name) (spare : Spare) (m0 m1 m2 new : model.Node) (first : m1 ≡ m0) where
  abbrev due_at : model.Node → Outcome
  due_at m = at_node names m (met what None)

  pub twice_at : (plan : Plan) (made : Result (Unit {0}) Refusal) (r : Result Twice AllocError) → m2 ≡ m1 → Fills spare (due_at m0)
      → Plans m1 (due_at m1) plan made
      → ((due : Outcome) → Fills spare due → Plans m2 due plan made → IfOk r (IsTwice due m2 new))
      → IfOk r (IsTwice (due_at m0) m0 new)
  twice_at plan made r second fills planned carry =
      let there : Plans m2 (due_at m0) plan made =
      subst (λ m. Plans m (due_at m0) plan made) (sym second) (subst (λ o. Plans m1 o plan made) (ap due_at first) planned) in
      subst (λ m. IfOk r (IsTwice (due_at m0) m new)) (second ∙ first) (carry (due_at m0) fills there)

  pub plain_twice : (answer copy : Answer) → Fills spare (due_at m0) → ((m : model.Node) → NoEffects (due_at m))
      → Does (due_at m1) m1 new answer → IsPlainCopy spare answer copy
      → IsTwice (due_at m0) m0 new (record { answer = answer; copy = copy })
  plain_twice (Ok report) copy fills none does plain =
      let d : Did (due_at m0) new report = subst (λ m. Did (due_at m) new report) first does in
      let no_effects : d.work.effects ≡ [] = subst NoEffects d.accepts (none m0) in
      record {
        does = d;
        same = plain ∙ both_said (filled spare report.answer) report.answer [] report.effects.items
            (ap (filled spare) d.told ∙ accepted spare (due_at m0) d.answer d.work fills d.accepts ∙ sym d.told)
            (sym (d.effects ∙ ap (map shown) no_effects));
      }
  plain_twice (Err e) copy fills none does plain = record {
    does = subst (λ m. IsRefused (due_at m) e × (new ≡ m)) first does;
    same = ap said plain;
  }

-- the same of the event as it is told
pub twice_as : (what given : NodeEvent) (names : List Name) (spare : Spare) (m0 m1 m2 new : model.Node)
    (plan : Plan) (made : Result (Unit {0}) Refusal) (r : Result Twice AllocError) → what ≡ given
    → m1 ≡ m0 → m2 ≡ m1 → Fills spare (at_node names m0 (met given None))
    → Plans m1 (at_node names m1 (met what None)) plan made
    → ((due : Outcome) → Fills spare due → Plans m2 due plan made → IfOk r (IsTwice due m2 new))
    → IfOk r (IsTwice (at_node names m0 (met given None)) m0 new)
twice_as what given names spare m0 m1 m2 new plan made r is first second fills planned carry =
    subst (λ w. IfOk r (IsTwice (at_node names m0 (met w None)) m0 new)) is
    (twice_at what names spare m0 m1 m2 new first plan made r second
    (subst (λ w. Fills spare (at_node names m0 (met w None))) (sym is) fills) planned carry)

pub plain_as : (what here : NodeEvent) (names : List Name) (spare : Spare) (m0 m1 new : model.Node) (given answer copy : Answer)
    → what ≡ here → m1 ≡ m0 → answer ≡ given
    → Fills spare (at_node names m0 (met here None)) → ((m : model.Node) → NoEffects (at_node names m (met what None)))
    → Does (at_node names m1 (met what None)) m1 new given → IsPlainCopy spare given copy
    → IsTwice (at_node names m0 (met here None)) m0 new (record { answer = answer; copy = copy })
plain_as what here names spare m0 m1 new given answer copy is first same fills none does plain =
    subst (λ w. IsTwice (at_node names m0 (met w None)) m0 new (record { answer = answer; copy = copy })) is
    (subst (λ a. IsTwice (at_node names m0 (met what None)) m0 new (record { answer = a; copy = copy })) (sym same)
    (plain_twice what names spare m0 m1 m1 new first given copy
    (subst (λ w. Fills spare (at_node names m0 (met w None))) (sym is) fills) none does plain))

-- there are names of which what is told is so
pub knowing : (what : NodeEvent) (is_known : Bool) → (names : List Name) × Knows names what is_known
knowing (event.Dial peer word) true = (peer ∷ [], ap (λ b. b || false) (same_name_refl peer))
knowing (event.Dial peer word) false = ([], refl)
knowing _ k = ([], tt)

-- ---- a look that is refused

pub not_looked : (r : Result (List (Pid × End)) Refusal) (m : model.Node) (p q : Pid) (e : Refusal) → p ≡ q
    → IsRefused (at_node [] m (events.Call (command.LinksOf p))) e → OnOk r (e ≡ Refusal.OutOfMemory → ⊥)
    → IfOk r (λ links. AreLinksOf links m (command.LinksOf q))
not_looked (Err x) m p q e same h n = tt
not_looked (Ok links) m p q e same (inl h) n = subst (λ z. AreLinksOf links m (command.LinksOf z)) same (looks_not [] m p e h links)
not_looked (Ok links) m p q e same (inr h) n = absurd (n h.is)

-- ---- no stamp is left, or no memory

pub err_is : (r : Result Told Refusal) (e : Refusal) → IsErrAnd r (λ x. x ≡ e) → r ≡ Err e
err_is (Ok x) e h = absurd h
err_is (Err x) e h = ap (λ y. Err y) h

pub not_entered : (due : Outcome) (event : NodeEvent) (above : ℕ) (old new : History) (r : Result Told Refusal) (e : Refusal) → r ≡ Err e
    → new.node ≡ old.node → new.last ≡ old.last
    → new.entries.items ≡ old.entries.items → IsWanting old.last above e → Tries due event above old new (placed r)
not_entered due event above old new r e is n l es w =
    subst (λ x. Tries due event above old new (placed x)) (sym is) (record { node = ap model_of n; last = l; entries = es }, w)

-- ---- what is told of the entry

slice_last : (es : List Entry) (e : Entry) → slice_get (es ++ e ∷ []) (length es) ≡ Some e
slice_last [] e = refl
slice_last (x ∷ es) e = slice_last es e

pub told_of : (stamp : ℕ) (event : NodeEvent) (answer copy : Answer) (old new : History) (place : ℕ)
    → Writes stamp event answer old new (Ok place) → said copy ≡ said answer
    → IsTold new.entries.items (record { place = place; answer = copy })
told_of stamp event answer copy old new place w same =
    let there : slice_get new.entries.items place ≡ Some (record { stamp = stamp; event = event; answer = answer }) =
    ap (λ k. slice_get new.entries.items k) w.3 ∙ ap (λ es. slice_get es (length old.entries.items)) w.4 ∙ slice_last old.entries.items _ in
    subst (Answers copy) (sym there) same
