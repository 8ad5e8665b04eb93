use Rattle.std.proofs.Common.{refl, ap, subst}
use Rattle.dist_model.specs.Admission.{give_up_if, stands_after}
use Rattle.dist_model.specs.Handshake.{write}
use Rattle.dist_model.specs.Names.{Name}
use Rattle.dist_model.specs.Sides.{is_dialing, is_waiting}
use Rattle.dist_model.specs.Work.{Work, at_work}
use Rattle.erl_handshake.specs.declared.message.ShakeMsg.{ShakeMsg}
use Rattle.node_connections.proofs.Named.{none_kept}
use Rattle.node_connections.specs.Admitted.{named_side}
use Rattle.node_plan.specs.Carried.{Makes, MakesOr}
use Rattle.node_plan.specs.Seen.{seen}
use Rattle.node_connections.proofs.admitting.carry_out.Goals as goal

pub returns-clause-makes : goal.returns-clause-makes
returns-clause-makes c = λ one none h.
    let m = seen c.args.node.now in
    let side = c.args.side.now in
    let t = side.trunk in
    let due = c.args.due in
    let s = named_side side c.args.introduction in
    let y = c.atom-dialer.result.now in
    let first : Work = give_up_if due.ends_waiting is_waiting y (at_work m) in
    let second : Work = give_up_if due.ends_dialing is_dialing y first in
    let a : Makes c.give_up_if.new.plan m first = c.in_ok-give_up_if.ensures.makes (at_work m) (λ e. refl) h in
    let b : Makes c.give_up_if-2.new.plan m second =
    c.in_ok-give_up_if-2.ensures.makes first (λ e. ap (λ b. (give_up_if b is_waiting y (at_work m)).node.sides) (one e)) a in
    let told : Work = write t side.peer (ShakeMsg.Status due.status) second in
    let d : Makes c.write.new.self m told = c.in_ok-write.ensures.makes m second b in
    let P : Name → Type 0 = λ z. MakesOr m (stands_after due.status t s c.args.challenge (write t side.peer (ShakeMsg.Status due.status)
    (give_up_if due.ends_dialing is_dialing z (give_up_if due.ends_waiting is_waiting z (at_work m))))) c.settle.new.plan c.settle.result in
    subst P c.atom-dialer.ensures
    (c.settle.ensures.makes told
    (none_kept due.ends_dialing is_dialing y t first (none_kept due.ends_waiting is_waiting y t (at_work m) none)) d)
