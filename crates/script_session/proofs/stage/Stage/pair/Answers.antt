use Rattle.std.proofs.Common.{ℕ, List, [], ◌∷◌, ◌∙◌, ap, subst}
use Rattle.dist_model.specs.Names.{Name}
use Rattle.dist_model.specs.Runs.{opening}
use Rattle.dist_model.specs.World.{Arrive, Call, Dial, Event}
use Rattle.dist_model.specs.declared.command.Command.{Command}
use Rattle.script_session.specs.Pairs.{first, pair_nodes, pair_plays, second, trunk}
use Rattle.run_traces.specs.Traces.{louder}
use Rattle.script_session.specs.Stage.{Stage as TheStage, after}
use Rattle.script_session.specs.Stands.{IsStage}
use Rattle.script_session.proofs.PairStages.{begins, ends, goes_on}
use Rattle.script_session.proofs.stage.Stage.pair.Goals as goal

pub returns : goal.returns
returns c = λ it h.
    let from : TheStage = record it { world = opening pair_nodes; trace = louder it.trace } in
    let a = c.in_ok-first.ensures in
    let b = c.in_ok-second.ensures in
    let spawned : Name → ℕ → Event = (λ node word. Call node Command.Spawn) in
    let s5 : List (ℕ → Event) = Arrive trunk first ∷ [] in
    let s4 : List (ℕ → Event) = Arrive trunk second ∷ s5 in
    let s3 : List (ℕ → Event) = Arrive trunk first ∷ s4 in
    let s2 : List (ℕ → Event) = Arrive trunk first ∷ s3 in
    let s1 : List (ℕ → Event) = Arrive trunk second ∷ s2 in
    let d : List (ℕ → Event) = Dial first second ∷ s1 in
    let p0 = begins pair_plays from _ (record { world = c.in_ok-self.ensures; word = h.word; trace = c.louder-self.ensures ∙ ap louder h.trace; breaks = h.breaks }) in
    let p1 =
    goes_on pair_plays from (spawned first) (spawned second ∷ d) _ c.spawn.new.self p0
    (λ now k. subst (λ x. IsStage c.spawn.new.self (after now (Call x Command.Spawn))) a (c.in_ok-spawn.ensures now k)) in
    let p2 =
    goes_on pair_plays from (spawned second) d c.spawn.new.self c.spawn-2.new.self p1
    (λ now k. subst (λ x. IsStage c.spawn-2.new.self (after now (Call x Command.Spawn))) b (c.in_ok-spawn-2.ensures now k)) in
    let p3 = goes_on pair_plays from (Dial first second) s1 c.spawn-2.new.self c.dial.new.self p2 (λ now k.
    subst (λ y. IsStage c.dial.new.self (after now (Dial first y now.word))) c.in_ok-peer.ensures
    (subst (λ x. IsStage c.dial.new.self (after now (Dial x c.in_ok-peer.peer now.word))) a (c.in_ok-dial.ensures now k))) in
    let p4 =
    goes_on pair_plays from (Arrive trunk second) s2 c.dial.new.self c.shake.new.self p3
    (λ now k. subst (λ x. IsStage c.shake.new.self (after now (Arrive trunk x now.word))) b (c.in_ok-shake.ensures now k)) in
    let p5 =
    goes_on pair_plays from (Arrive trunk first) s3 c.shake.new.self c.shake-2.new.self p4
    (λ now k. subst (λ x. IsStage c.shake-2.new.self (after now (Arrive trunk x now.word))) a (c.in_ok-shake-2.ensures now k)) in
    let p6 =
    goes_on pair_plays from (Arrive trunk first) s4 c.shake-2.new.self c.shake-3.new.self p5
    (λ now k. subst (λ x. IsStage c.shake-3.new.self (after now (Arrive trunk x now.word))) a (c.in_ok-shake-3.ensures now k)) in
    let p7 =
    goes_on pair_plays from (Arrive trunk second) s5 c.shake-3.new.self c.shake-4.new.self p6
    (λ now k. subst (λ x. IsStage c.shake-4.new.self (after now (Arrive trunk x now.word))) b (c.in_ok-shake-4.ensures now k)) in
    let p8 =
    goes_on pair_plays from (Arrive trunk first) [] c.shake-4.new.self c.shake-5.new.self p7
    (λ now k. subst (λ x. IsStage c.shake-5.new.self (after now (Arrive trunk x now.word))) a (c.in_ok-shake-5.ensures now k)) in
    ends pair_plays from c.shake-5.new.self p8
