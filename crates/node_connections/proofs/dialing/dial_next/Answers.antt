use Rattle.std.proofs.Common.{◌≡◌, ◌+◌, rules, refl, sym, ap, subst, ◌∙◌}
use Rattle.conn_core.specs.Happenings.{dialed}
use Rattle.conn_core.specs.declared.side.Side.{Side}
use Rattle.dist_model.specs.Dialing.{draw_trunk, next_trunk}
use Rattle.dist_model.specs.Handshake.{identity, write}
use Rattle.dist_model.specs.Work.{Work, at_work}
use Rattle.erl_handshake.specs.Roles.{send_name}
use Rattle.erl_handshake.specs.declared.message.ShakeMsg.{ShakeMsg}
use Rattle.erl_names.specs.declared.trunk.TrunkId.{TrunkId}
use Rattle.dist_model.specs.declared.report.Answer.{Answer}
use Rattle.node_connections.proofs.Dialed.{next_is_new}
use Rattle.node_connections.proofs.Ended.{on_ok}
use Rattle.node_plan.specs.Suits.{Lets}
use Rattle.node_plan.specs.Carried.{Makes, MakesOr, sided}
use Rattle.node_plan.specs.Seen.{seen}
use Rattle.node_tables.specs.declared.change.SideChange.TheVariants as change
use Rattle.node_connections.proofs.dialing.dial_next.Goals as goal

pub returns-clause-makes : goal.returns-clause-makes
returns-clause-makes c =
    let m = seen c.args.node.now in
    let y = c.args.peer.now in
    let t : TrunkId = record { dialer = c.in_ok-clone.field-0; count = c.dialed.result + 1 } in
    let is : t ≡ next_trunk m = search rules in
    let new : c.dial-side.result ≡ dialed (next_trunk m) y c.args.word = search rules in
    let said : c.in_ok-send_name.field-0 ≡ send_name (identity m) = search rules in
    let drawn : Work = record { node = draw_trunk m; effects = Rattle.std.proofs.Common.[] } in
    let dials : Makes c.dial.new.self m drawn =
    c.dial.ensures.makes m (at_work m) c.requires.below (c.answers.ensures.makes m (at_work m) c.requires.makes) in
    let L : Side → Type 0 = λ s. Lets (change.Adds s) m.sides in
    let lets : L c.dial-side.result = subst L (sym new) (next_is_new m c.args.node.now.counted, (refl, refl)) in
    let adds = c.in_ok-change_side.ensures.makes m drawn lets dials in
    let P : TrunkId → ShakeMsg → Side → Type 0 =
    λ u message s. MakesOr m (write u y message (sided (change.Adds s) drawn)) c.write.new.self c.write.result in
    subst (λ u. P u (send_name (identity m)) (dialed (next_trunk m) y c.args.word)) is
    (subst (λ message. P t message (dialed (next_trunk m) y c.args.word)) said
    (subst (P t c.in_ok-send_name.field-0) new (c.write.ensures.makes m (sided (change.Adds c.dial-side.result) drawn) adds)))

pub returns-clause-told : goal.returns-clause-told
returns-clause-told c =
    let m = seen c.args.node.now in
    let is : c.in_ok-clone-4.field-0 ≡ next_trunk m = search rules in
    on_ok c.write.result (c.write.ensures.told m ∙ c.in_ok-change_side.ensures.told m ∙ c.dial.ensures.told m
    ∙ c.answers.ensures.told m ∙ ap Answer.Trunk is)
