use Rattle.std.proofs.Common.{◌≡◌, false, List, [], ◌∷◌, Option, Some, None, ap, ◌∙◌, subst, rules}
use Rattle.dist_model.specs.Arrivals.{take_local}
use Rattle.dist_model.specs.Items.{Item, Signalled, kind_of}
use Rattle.dist_model.specs.Names.{Name}
use Rattle.dist_model.specs.Node.{Node}
use Rattle.dist_model.specs.Taking.{take}
use Rattle.dist_model.specs.Work.{at_work}
use Rattle.dist_model.specs.World.{first_of, rest_of}
use Rattle.dist_model.specs.declared.report.Answer.{Answer}
use Rattle.node_plan.specs.Carried.{Carries}
use Rattle.node_plan.specs.Seen.{seen}
use Rattle.node_plan.proofs.Outcomes.{planned_by}
use Rattle.node_processes.proofs.taking_signals.take_first.Goals as goal

parted : (items : List Item) (first : Item) → first_of items ≡ Some first → items ≡ first ∷ rest_of items
parted [] first h = cc
parted (item ∷ rest) first h = ap (λ x. x ∷ rest) (inside h)
  where
    inside : ◌≡◌ {A = Option Item} (Some item) (Some first) → item ≡ first
    inside h = ap (λ o. in_some o) h
      where
        in_some : Option Item → Item
        in_some None = first
        in_some (Some x) = x

pub returns : goal.returns
returns c =
    let m = seen c.args.node.now in
    let signal = c.in-Some.signal.now in
    let rest = rest_of m.local in
    let first : first_of m.local ≡ Some (Signalled signal false) = search rules in
    let there = parted m.local (Signalled signal false) first in
    let answer = Answer.Took (kind_of (Signalled signal false)) in
    let before : Node = record m { local = rest } in
    let work = take m.mint.name signal (at_work before) in
    rw c.or_refuse.ensures (planned_by m _ answer work c.take.new.plan c.take.result (ap (take_local m) there)
    (c.take.ensures.told m ∙ c.answers.ensures.told m ∙ ap Answer.Took c.kind.ensures)
    (subst (λ (source : Name). Carries m (take source signal (at_work before)) c.take.new.plan c.take.result) (c.atom.ensures ∙ c.name.ensures)
    (c.take.ensures.carries (at_work before)
    (c.answers.ensures.carries m (at_work before) (c.requires.taken (Signalled signal false) rest there)))))
