use Rattle.std.proofs.Common.{◌≡◌, false, None, Some, sym, ap, subst, ◌∙◌}
use Rattle.std.proofs.lemmas.Option.{same_Some}
use Rattle.dist_model.specs.Names.{Name}
use Rattle.node_plan.specs.Adding.{adds_towards}
use Rattle.node_connections.proofs.Heeded.{still_behind}
use Rattle.node_connections.proofs.sweeping.Sweeping.gets_more.Goals as goal

no_peer : (peer : Name) → None ≡ Some peer → ⊥
no_peer peer h = cc

pub returns-in-Some : goal.returns-in-Some
returns-in-Some c = λ t m h.
    let s = c.args.self.now in
    let none = sym (ap (λ n. adds_towards n c.args.plan.now) c.atom.ensures) ∙ sym c.adds_towards.ensures ∙ t in
    λ peer is.
    let same = same_Some c.in-Some.peer peer (sym c.in-Some.is ∙ is) in
    let P : Name → Type 0 = (λ n. adds_towards n c.args.plan.now ≡ false) in
    still_behind peer s.id c.args.plan.now m (subst P same none) (h peer is)

pub returns-in-None : goal.returns-in-None
returns-in-None c = λ t m h.
    λ peer is. absurd (no_peer peer (sym c.in-None.is ∙ is))
