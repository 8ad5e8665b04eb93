use Rattle.std.proofs.Common.{T, List, sym, ap, subst, ◌∙◌}
use Rattle.std.specs.FinMap as fm
use Rattle.std.specs.Option.{option_copied}
use Rattle.sorted_map.specs.Entries.{next}
use Rattle.erl_term.specs.Order.{pid_cmp}
use Rattle.node_tables.specs.Lives.{life_in}
use Rattle.node_tables.specs.declared.life.Life.{Life}
use Rattle.node_tables.proofs.Behind.{links_sorted}
use Rattle.node_tables.proofs.Lookups.{get_links, links_held}
use Rattle.node_tables.proofs.incarnation.Incarnation.next_link.Goals as goal

pub returns-in-Some-clause-link : goal.returns-in-Some-clause-link
returns-in-Some-clause-link c =
    let m = c.args.self.now.mint in
    let es = c.args.self.now.held.items in
    let p = c.args.process.now in
    let found = c.in-Some.ensures ∙ ap (λ (xs : List Life). life_in m xs p) c.deref.ensures.value in
    c.next_link.ensures ∙ ap (next pid_cmp (option_copied c.args.behind)) (sym (get_links m es p ∙ ap links_held (sym found)))

pub returns-in-Some-clause-sorted : goal.returns-in-Some-clause-sorted
returns-in-Some-clause-sorted c =
    let m = c.args.self.now.mint in
    let es = c.args.self.now.held.items in
    let p = c.args.process.now in
    subst T (sym (ap (fm.is_sorted pid_cmp) (get_links m es p) ∙ links_sorted (life_in m es p))) tt

pub returns-in-None-clause-link : goal.returns-in-None-clause-link
returns-in-None-clause-link c =
    let m = c.args.self.now.mint in
    let es = c.args.self.now.held.items in
    let p = c.args.process.now in
    let found = c.in-None.ensures ∙ ap (λ (xs : List Life). life_in m xs p) c.deref.ensures.value in
    ap (next pid_cmp (option_copied c.args.behind)) (sym (get_links m es p ∙ ap links_held (sym found)))

pub returns-in-None-clause-sorted : goal.returns-in-None-clause-sorted
returns-in-None-clause-sorted c =
    let m = c.args.self.now.mint in
    let es = c.args.self.now.held.items in
    let p = c.args.process.now in
    subst T (sym (ap (fm.is_sorted pid_cmp) (get_links m es p) ∙ links_sorted (life_in m es p))) tt
