-- A plan in which no side changes makes what it carries out.
use Rattle.std.proofs.Common.{List, sym, subst}
use Rattle.std.proofs.lemmas.Bool.{both_ways}
use Rattle.dist_model.specs.Node.{Node}
use Rattle.dist_model.specs.Work.{Work}
use Rattle.node_plan.specs.Carried.{CarriesOut, Makes}
use Rattle.node_plan.specs.Suits.{LetsAll}
use Rattle.node_plan.specs.declared.plan.Plan.{Plan}
use Rattle.node_tables.specs.declared.change.SideChange.{SideChange}

pub makes_it : (plan : Plan) (m : Node) (work : Work) → CarriesOut plan m work → Makes plan m work
makes_it plan m work h = record {
  sound = h.sound;
  sides = (let P : List SideChange → Type 0 = (λ xs. LetsAll xs m.sides) in subst P (sym h.still) tt);
  dials = (λ e. absurd (both_ways plan.dials h.calm e));
  node = h.node;
  effects = h.effects;
  spelled = h.spelled;
}
