use Rattle.std.proofs.Common.{◌≡◌, ◌-◌, ◌∙◌, suc, Some, None, ap, arith, string_bytes, sym}
use Rattle.std.specs.Option.{option_map}
use Rattle.script_session.specs.Turns.{event_of, turn}
use Rattle.script_session.proofs.Turns.{begins, goes_on, on_ok, settled, used_up}
use Rattle.script_session.proofs.stage.Stage.settle.Goals as goal
use Rattle.node_core.specs.NodeEvents.{event_at}

pub loop-left-init : goal.loop-left-init
loop-left-init c = record {
  within = omega arith;
  going = λ it h. begins 1000000 it c.args.self.now (string_bytes c.args.out.now) h;
}

pub loop-left-preserved : goal.loop-left-preserved
loop-left-preserved c = record {
  within = c.in_ok-idle-in-Some.ensures.within;
  going = λ it h.
      let g = c.loop-left.invariant.going it h in
      let left = c.loop-left.left in
      let test = c.loop-left-test.true in
      let one : left ≡ suc (left - 1) = omega arith in
      let event = event_at c.in-Some.node c.event-event.result in
      let next : turn g.now ≡ Some event =
      sym (c.in_ok-node.ensures g.now g.stage g.rests)
      ∙ ap (option_map (λ next. event_at next.0 (event_of g.now.word next.1))) c.in-Some.is
      ∙ ap (λ word. Some (event_at c.in-Some.node (event_of word c.in-Some.next))) (sym g.stage.word)
      ∙ ap (λ event. Some (event_at c.in-Some.node event)) (sym c.event-event.ensures) in
      goes_on 1000000 it left (left - 1) c.loop-left.idle c.in_ok-idle-in-Some.idle c.loop-left.self c.take_turn.new.self
      (string_bytes c.args.out.now) (string_bytes c.loop-left.out) (string_bytes c.take_turn.new.out) event g one next
      (c.in_ok-idle-in-Some.ensures.turned g.now g.stage next);
}

pub returns-in-None : goal.returns-in-None
returns-in-None c = λ it h.
    let g = c.loop-left.invariant.going it h in
    let left = c.loop-left.left in
    let test = c.loop-left-test.true in
    let one : left ≡ suc (left - 1) = omega arith in
    let none : turn g.now ≡ None =
    sym (c.in_ok-node.ensures g.now g.stage g.rests) ∙ ap (option_map (λ next. event_at next.0 (event_of g.now.word next.1))) c.in-None.is in
    on_ok c.put_settled.result (settled 1000000 it left (left - 1) c.loop-left.idle c.loop-left.self (string_bytes c.args.out.now)
    (string_bytes c.loop-left.out) (string_bytes c.put_settled.new.out) g one none) c.put_settled.ensures

pub returns : goal.returns
returns c = λ it h.
    let g = c.loop-left.invariant.going it h in
    let left = c.loop-left.left in
    let test = c.loop-left-test.false in
    let none : left ≡ 0 = omega arith in
    on_ok c.put_settled-2.result
    (used_up 1000000 it left c.loop-left.idle c.loop-left.self (string_bytes c.args.out.now) (string_bytes c.loop-left.out)
    (string_bytes c.put_settled-2.new.out) c.in_ok-is_settled.is_settled g none
    (c.in_ok-is_settled.ensures g.now g.stage g.rests))
    c.put_settled-2.ensures
