use Rattle.std.proofs.Common.{◌∙◌}
use Rattle.node_core.specs.Model.{model_of}
use Rattle.node_history.proofs.ThereBefore.{fills}
use Rattle.node_history.proofs.spare.Spare.of.Goals as goal

pub returns-clause-fills : goal.returns-clause-fills
returns-clause-fills c = λ names.
    fills
    (record {
      atom = c.in_ok-atom.atom;
      name = c.in_ok-name.name;
      message = c.in_ok-message.message;
      links = c.in_ok-links.links;
      holder = c.in_ok-holder.holder;
    })
    (model_of c.args.node.now)
    (c.in_ok-atom.ensures.cases ∙ c.atom.ensures ∙ c.name.ensures) (c.in_ok-name.ensures.cases ∙ c.name-2.ensures)
    names c.args.event.now c.requires c.in_ok-message.ensures c.in_ok-holder.ensures c.in_ok-links.ensures.links
