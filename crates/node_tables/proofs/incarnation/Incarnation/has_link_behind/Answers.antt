use Rattle.std.proofs.Common.{List, sym, ap, ◌∙◌}
use Rattle.std.specs.Option.{option_and_then}
use Rattle.std.proofs.lemmas.Option.{none-some}
use Rattle.node_tables.proofs.Lookups.{get_end}
use Rattle.node_tables.proofs.Behind.{none_behind, one_behind}
use Rattle.node_tables.specs.Lives.{end_at, life_in}
use Rattle.node_tables.specs.declared.life.Life.{Life}
use Rattle.node_tables.proofs.incarnation.Incarnation.has_link_behind.Goals as goal

pub returns-in-Some-clause-has : goal.returns-in-Some-clause-has
returns-in-Some-clause-has c = λ t.
    let m = c.args.self.now.mint in
    let es = c.args.self.now.held.items in
    let p = c.args.process.now in
    let found = c.in-Some.ensures ∙ ap (λ (xs : List Life). life_in m xs p) c.deref.ensures.value in
    let h = one_behind c.args.partner.now c.args.node.now c.in-Some.life.now c.next_towards.result c.next_towards.ensures (sym c.is_some.ensures ∙ t) in
    (h.0, h.1, get_end m es p h.0 ∙ sym (ap (option_and_then (end_at h.0)) found) ∙ h.2, h.3, h.4)

pub returns-in-Some-clause-none : goal.returns-in-Some-clause-none
returns-in-Some-clause-none c = λ t q e f.
    let m = c.args.self.now.mint in
    let es = c.args.self.now.held.items in
    let p = c.args.process.now in
    let found = c.in-Some.ensures ∙ ap (λ (xs : List Life). life_in m xs p) c.deref.ensures.value in
    none_behind c.args.partner.now c.args.node.now c.in-Some.life.now c.next_towards.result c.next_towards.ensures (sym c.is_some.ensures ∙ t) q e
    (ap (option_and_then (end_at q)) found ∙ sym (get_end m es p q) ∙ f)

pub returns-in-None-clause-none : goal.returns-in-None-clause-none
returns-in-None-clause-none c = λ t q e f l.
    let m = c.args.self.now.mint in
    let es = c.args.self.now.held.items in
    let p = c.args.process.now in
    let found = c.in-None.ensures ∙ ap (λ (xs : List Life). life_in m xs p) c.deref.ensures.value in
    absurd (none-some e (ap (option_and_then (end_at q)) found ∙ sym (get_end m es p q) ∙ f))
