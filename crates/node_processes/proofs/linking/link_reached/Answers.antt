use Rattle.std.proofs.Common.{◌≡◌, refl, subst}
use Rattle.dist_model.specs.Linking.{told_to}
use Rattle.dist_model.specs.Node.{end_of}
use Rattle.dist_model.specs.Work.{post, set_end}
use Rattle.link_core.specs.News.{Signals}
use Rattle.link_core.specs.Table.{linked}
use Rattle.link_core.specs.declared.end.End.{End}
use Rattle.link_core.specs.declared.end.LinkSignal.{LinkSignal}
use Rattle.node_plan.specs.Carried.{Carries}
use Rattle.node_plan.specs.Seen.{seen}
use Rattle.node_processes.proofs.linking.link_reached.Goals as goal

is_linked : (end : End) → linked end ≡ End.Active
is_linked End.None = refl
is_linked _ = refl

pub returns-clause-carries : goal.returns-clause-carries
returns-clause-carries c = λ w h.
    let m = seen c.args.node.now in
    let p = c.args.process.now in
    let q = c.args.partner.now in
    let r = c.tell.ensures.carries _ (c.in_ok-change_end.ensures.carries m w c.requires.living h) in
    let P : End → Type 0 =
    λ end. Carries m (post (told_to p q (Signals LinkSignal.Link)) (set_end p q end w)) c.tell.new.self c.tell.result in
    subst P (is_linked (end_of m p q)) r
