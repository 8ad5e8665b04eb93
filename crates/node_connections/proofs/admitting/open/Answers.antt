use Rattle.std.proofs.Common.{◌≡◌, Some, None, refl, rules, sym, ap, subst, ◌∙◌}
use Rattle.conn_core.specs.Side.{on_message}
use Rattle.conn_core.specs.declared.arrival.Arrival.{Arrival}
use Rattle.conn_core.specs.declared.arrival.Fault.{Fault}
use Rattle.conn_core.specs.declared.arrival.Taken.TheVariants as taken
use Rattle.conn_core.specs.declared.side.Side.{Side}
use Rattle.conn_core.specs.declared.standing.Standing.TheVariants as standing
use Rattle.dist_model.specs.Admission.{named_introduction}
use Rattle.dist_model.specs.Commands.{Accepts}
use Rattle.dist_model.specs.Handshake.{identity, with_side}
use Rattle.dist_model.specs.Names.{Name}
use Rattle.dist_model.specs.Work.{at_work}
use Rattle.dist_model.specs.declared.report.Answer.{Answer}
use Rattle.erl_handshake.specs.declared.acceptor.AcceptorState.TheVariants as acceptor
use Rattle.erl_handshake.specs.declared.fault.ShakeFault.{ShakeFault}
use Rattle.node_connections.proofs.Heard.{broken_same}
use Rattle.node_connections.proofs.Named.{name_breaks, name_stands}
use Rattle.node_connections.specs.Waiting.{named_in}
use Rattle.node_plan.proofs.Outcomes.{made_by}
use Rattle.node_plan.specs.Carried.{MakesOr}
use Rattle.node_plan.specs.Seen.{seen}
use Rattle.node_tables.specs.Standings.{standing_side}
use Rattle.node_connections.proofs.admitting.open.Goals as goal

pub returns-in-Broken-clause-message : goal.returns-in-Broken-clause-message
returns-in-Broken-clause-message c = λ message word len e.
    let m = seen c.args.node.now in
    let side = c.args.side.now in
    let t = side.trunk in
    let why = c.in-Broken.why in
    let peer : side.peer ≡ t.dialer = ap (λ (s : Side). s.peer) c.requires.fresh in
    let waits : side.standing ≡ standing.Accepting acceptor.AwaitsName = ap (λ (s : Side). s.standing) c.requires.fresh in
    let was : (on_message (identity m) t.dialer (standing.Accepting acceptor.AwaitsName) message word len).was ≡ taken.Broken why =
    sym (λ i. (on_message (identity m) (peer i) (waits i) message word len).was) ∙ ap (λ (a : Arrival). a.was) (sym e) ∙ c.in-Broken.is in
    let P : Name → Type 0 = λ y. MakesOr m (with_side t (standing_side y standing.Gone) (at_work m)) c.add.new.plan c.add.result in
    rw c.or_refuse.ensures
    (made_by m _ (Answer.Broken why) (with_side t (standing_side t.dialer standing.Gone) (at_work m)) c.add.new.plan c.add.result
    (name_breaks t message word len (at_work m) why was) (c.add.ensures.told m ∙ c.answers.ensures.told m)
    (subst P peer
    (c.add.ensures.makes m (at_work m) c.requires.none (refl, refl) (c.answers.ensures.makes m (at_work m) c.requires.makes))))

pub returns-in-Broken-clause-broken : goal.returns-in-Broken-clause-broken
returns-in-Broken-clause-broken c = λ word e.
    let m = seen c.args.node.now in
    let side = c.args.side.now in
    let t = side.trunk in
    let why = c.in-Broken.why in
    let bad : Fault = Fault.Shake ShakeFault.BadMessage in
    let same : why ≡ bad = broken_same why bad (sym c.in-Broken.is ∙ ap (λ (a : Arrival). a.was) e) in
    let peer : side.peer ≡ t.dialer = ap (λ (s : Side). s.peer) c.requires.fresh in
    let P : Name → Type 0 = λ y. MakesOr m (with_side t (standing_side y standing.Gone) (at_work m)) c.add.new.plan c.add.result in
    rw c.or_refuse.ensures
    (made_by m _ (Answer.Broken why) (with_side t (standing_side t.dialer standing.Gone) (at_work m)) c.add.new.plan c.add.result
    (ap (λ f. Accepts (Answer.Broken f) (with_side t (standing_side t.dialer standing.Gone) (at_work m))) (sym same))
    (c.add.ensures.told m ∙ c.answers.ensures.told m)
    (subst P peer
    (c.add.ensures.makes m (at_work m) c.requires.none (refl, refl) (c.answers.ensures.makes m (at_work m) c.requires.makes))))

pub returns-in-None-clause-message : goal.returns-in-None-clause-message
returns-in-None-clause-message c = λ message word len e.
    let m = seen c.args.node.now in
    let side = c.args.side.now in
    let t = side.trunk in
    let peer : side.peer ≡ t.dialer = ap (λ (s : Side). s.peer) c.requires.fresh in
    let waits : side.standing ≡ standing.Accepting acceptor.AwaitsName = ap (λ (s : Side). s.standing) c.requires.fresh in
    let same : on_message (identity m) side.peer side.standing message word len ≡ on_message (identity m) t.dialer
    (standing.Accepting acceptor.AwaitsName) message word len = (λ i. on_message (identity m) (peer i) (waits i) message word len) in
    let came : c.args.arrival.now ≡ on_message (identity m) t.dialer (standing.Accepting acceptor.AwaitsName) message word len = e ∙ same in
    let stands =
    ap (λ (a : Arrival). a.standing) came ∙ name_stands
    (identity m) t.dialer message c.in-Message.message c.in-Message.send word len
    (ap (λ (a : Arrival). a.was) (sym came) ∙ c.in-Message.is) in
    let none : named_in c.args.arrival.now.standing ≡ None = search rules in
    let some : named_in c.args.arrival.now.standing ≡ Some (word, named_introduction message) = ap named_in stands in
    absurd (cc (sym none ∙ some))
