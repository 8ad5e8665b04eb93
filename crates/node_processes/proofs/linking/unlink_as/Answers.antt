use Rattle.std.proofs.Common.{◌≡◌, true, subst}
use Rattle.dist_model.specs.Linking.{told_to}
use Rattle.dist_model.specs.Node.{end_of}
use Rattle.dist_model.specs.Work.{draw, post, set_end}
use Rattle.erl_names.specs.Draw as kind
use Rattle.link_core.specs.News.{Signals}
use Rattle.link_core.specs.Table.{is_active, unlinked}
use Rattle.link_core.specs.declared.end.End.{End}
use Rattle.link_core.specs.declared.end.LinkSignal.{LinkSignal}
use Rattle.node_plan.specs.Carried.{Carries}
use Rattle.node_plan.specs.Seen.{seen}
use Rattle.node_processes.proofs.linking.unlink_as.Goals as goal

becomes_pending : (end : End) (id : Rattle.std.proofs.Common.ℕ) → is_active end ≡ true → unlinked end id ≡ End.Pending id
becomes_pending End.Active id h = Rattle.std.proofs.Common.refl
becomes_pending End.None id h = cc
becomes_pending (End.Pending i) id h = cc

pub returns-clause-carries : goal.returns-clause-carries
returns-clause-carries c = λ w h.
    let m = seen c.args.node.now in
    let p = c.args.process.now in
    let q = c.args.partner.now in
    let id = c.args.id in
    let r = c.tell.ensures.carries _ (c.in_ok-change_end.ensures.carries m _ c.requires.living (c.draw_unlink_id.ensures.carries m w h)) in
    let P : End → Type 0 =
    λ end. Carries m
    (post (told_to p q (Signals (LinkSignal.Unlink id))) (set_end p q end (draw kind.UnlinkId w))) c.tell.new.self c.tell.result in
    subst P (becomes_pending (end_of m p q) id c.requires.active) r
