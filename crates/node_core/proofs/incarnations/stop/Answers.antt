use Rattle.std.proofs.Common.{◌≡◌, true, cond, refl, ap, rules}
use Rattle.dist_model.specs.Commands.{Accepts, Refuses}
use Rattle.dist_model.specs.Incarnations.{stopped}
use Rattle.dist_model.specs.Work.{at_work}
use Rattle.dist_model.specs.declared.report.Answer.{Answer}
use Rattle.erl_term.specs.declared.refusal.Refusal.{Refusal}
use Rattle.node_plan.specs.Seen.{seen}
use Rattle.node_core.proofs.incarnations.stop.Goals as goal

pub returns : goal.returns
returns c = λ names.
    let m = seen c.args.node.now in
    let up : m.up ≡ true = search rules in
    record {
      answer = Answer.Stopped;
      work = at_work (stopped m);
      accepts = ap (λ b. cond b (Accepts Answer.Stopped (at_work (stopped m))) (Refuses Refusal.NodeDown)) up;
      told = refl;
      node = c.stop.ensures;
      effects = c.new.ensures.items;
      spelled = tt;
    }
