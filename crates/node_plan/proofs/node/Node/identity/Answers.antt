use Rattle.node_plan.proofs.node.Node.identity.Goals as goal

pub returns : goal.returns
returns c =
    let own = c.args.self.now.own in
    let it = c.args.self.now.introduces in
    λ i. record { name = it.name i; creation = it.creation i; flags = own.flags; cookie = own.cookie }
