use Rattle.std.proofs.Common.{◌∷◌, [], refl, subst, sym, true≢false, ◌∙◌}
use Rattle.node_core.specs.NodeEvents.{event_at}
use Rattle.script_repeats.proofs.Brought.{adds_from, adds_then, on_ok}
use Rattle.script_session.specs.Stands.{IsSession}
use Rattle.script_session.specs.declared.session.Session.{Session}
use Rattle.script_repeats.proofs.script.Repeating.enter.Goals as goal

pub returns : goal.returns
returns c = λ state is.
    let event = event_at c.args.node.now c.args.entry.now.event in
    let begun = c.own_line-own.new.self in
    let mid = c.in_ok-prepare.ensures state (subst (λ (it : Session). IsSession it state) (sym c.own_line-own.ensures.session) is) in
    on_ok c.bring_own.result
    (λ next. (
      event,
      record { is = refl; kept = λ wanting. absurd (true≢false (sym (c.was_wanting.ensures wanting) ∙ c.if-was_wanting.false)) },
      adds_from state (event ∷ []) c.args.self.now begun c.bring_own.new.self c.own_line-own.ensures.text c.own_line-own.ensures.lines
          (adds_then state [] (event ∷ []) begun c.prepare.new.self c.bring_own.new.self mid next),
    ))
    (c.bring_own.ensures mid.next mid.session)
