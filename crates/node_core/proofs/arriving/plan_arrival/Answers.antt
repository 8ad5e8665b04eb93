use Rattle.std.proofs.Common.{◌≡◌, OnOk, Result, Err, sym, ap, subst, ◌∙◌}
use Rattle.erl_term.specs.declared.refusal.Refusal.{Refusal}
use Rattle.node_core.proofs.Fronted.{by_up, came_as, with_len}
use Rattle.node_core.specs.Arrived.{without_len}
use Rattle.node_core.specs.Staying.{Stays}
use Rattle.node_plan.specs.Seen.{seen}
use Rattle.node_core.proofs.arriving.plan_arrival.Goals as goal

same_refusal : (e f : Refusal) → ◌≡◌ {A = Result (Unit {0}) Refusal} (Err e) (Err f) → e ≡ f
same_refusal e f h = cc

pub arrive_if_up-taken-requires-clause-carries : goal.arrive_if_up-taken-requires-clause-carries
arrive_if_up-taken-requires-clause-carries c = c.requires.carries (seen c.args.node.now)

pub settle-requires-clause-stays : goal.settle-requires-clause-stays
settle-requires-clause-stays c =
    let node = c.args.node.now in
    let P : Result (Unit {0}) Refusal → Type 0 = (λ r. OnOk r (Stays c.arrive_if_up-taken.new.plan (seen node))) in
    subst P (sym c.without_len.ensures) (by_up (seen node) c.args.trunk.now c.args.bytes.now c.args.word
    c.arrive_if_up-taken.new.plan c.arrive_if_up-taken.result node.steady node.counted
    c.arrive_if_up-taken.ensures.down c.arrive_if_up-taken.ensures.undialed c.arrive_if_up-taken.ensures.came)

pub returns-in-Err-clause-down : goal.returns-in-Err-clause-down
returns-in-Err-clause-down c =
    λ down. ap Err (same_refusal c.in-Err.e Refusal.NodeDown (sym c.in-Err.is
    ∙ c.settle.ensures.refused Refusal.NodeDown (c.without_len.ensures ∙ ap without_len (c.arrive_if_up-taken.ensures.down down))))

pub returns-in-Err-clause-undialed : goal.returns-in-Err-clause-undialed
returns-in-Err-clause-undialed c =
    λ up own. ap Err (same_refusal c.in-Err.e Refusal.NotLive (sym c.in-Err.is
    ∙ c.settle.ensures.refused Refusal.NotLive (c.without_len.ensures ∙ ap without_len (c.arrive_if_up-taken.ensures.undialed up own))))

pub returns-in-Ok-clause-came : goal.returns-in-Ok-clause-came
returns-in-Ok-clause-came c = λ up dialed.
    let taken = c.arrive_if_up-taken.result in
    came_as (seen c.args.node.now) c.args.trunk.now c.args.bytes.now c.args.word c.arrive_if_up-taken.new.plan up
    taken c.without_len.result c.settle.result taken c.without_len.ensures (c.arrive_if_up-taken.ensures.came up dialed)
    c.settle.ensures.plan c.settle.ensures.refused (ap (λ r. with_len r taken) c.in-Ok.is)

pub returns-in-Err-clause-came : goal.returns-in-Err-clause-came
returns-in-Err-clause-came c = λ up dialed.
    let taken = c.arrive_if_up-taken.result in
    came_as (seen c.args.node.now) c.args.trunk.now c.args.bytes.now c.args.word c.arrive_if_up-taken.new.plan up
    taken c.without_len.result c.settle.result (Err c.in-Err.e) c.without_len.ensures (c.arrive_if_up-taken.ensures.came up dialed)
    c.settle.ensures.plan c.settle.ensures.refused (ap (λ r. with_len r taken) c.in-Err.is)
