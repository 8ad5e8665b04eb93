use Rattle.std.proofs.Common.{◌≡◌, refl, sym, ap, ◌∙◌, subst, arith, List, Option, None, Some, false, set, is_some}
use Rattle.conn_core.specs.declared.side.Side.{Side}
use Rattle.std.proofs.lemmas.Bool.{true≢false}
use Rattle.std.proofs.lemmas.Option.{same_Some}
use Rattle.std.specs.FinMap.{put}
use Rattle.std.specs.Option.{option_map}
use Rattle.conn_core.specs.declared.standing.Standing.TheVariants as standing
use Rattle.dist_model.specs.Names.{Name}
use Rattle.dist_model.specs.Sides.{TrunkSide}
use Rattle.erl_names.specs.Order.{name_cmp, trunk_cmp}
use Rattle.sorted_map.specs.Entries.{IsFoundAt, IsGapAt}
use Rattle.node_tables.proofs.Placed.{done, no_some, none_found, open_set, place_found, put_sorted, set_puts, stood_there, there_found}
use Rattle.node_tables.proofs.RoutesKept.{up_routed}
use Rattle.node_tables.proofs.Whole.{get_gone, get_held, gone_state, put_apart, put_sides}
use Rattle.node_tables.specs.Changes.{IsTowards, is_gone_in}
use Rattle.node_tables.specs.Runs.{gone_at}
use Rattle.node_tables.specs.Sides.{sides_in}
use Rattle.node_tables.specs.Standings.{entries_of, lost_place, side_of}
use Rattle.node_tables.specs.declared.run.Run.{Run}
use Rattle.erl_names.specs.declared.trunk.TrunkId.{TrunkId}
use Rattle.node_tables.proofs.sides.Sides.come_up.Goals as goal

pub index_mut-requires : goal.index_mut-requires
index_mut-requires c = omega (arith, place_found _ _ _ c.in-Ok.ensures.found, c.deref.ensures.len)

-- no side that is gone is towards a peer and isn't gone
not_gone : (gone : List Run) (q : TrunkId) (peer : Name) (o : Option TrunkSide) → gone_at gone q ≡ o → IsTowards peer o
    → is_gone_in o ≡ false → ⊥
not_gone gone q peer None h t g = no_some peer (sym t)
not_gone gone q peer (Some s) h t g = true≢false (sym (gone_state gone q s h) ∙ g)

pub unreachable-requires : goal.unreachable-requires
unreachable-requires c =
    let it = c.args.self.now in
    let q = c.args.trunk in
    let gap = subst (λ (l : List Side). IsGapAt trunk_cmp (entries_of l) q c.in-Err.field-0) c.deref.ensures.value c.in-Err.ensures.gap in
    let there = get_gone it.held.items it.gone.items q (none_found it.held.items q c.in-Err.field-0 it.sorted gap) in
    not_gone it.gone.items q c.args.peer (gone_at it.gone.items q) refl (subst (IsTowards c.args.peer) there c.requires.towards)
    (sym (ap is_gone_in there) ∙ c.requires.there)

pub invariant_of-self-clause-sorted : goal.invariant_of-self-clause-sorted
invariant_of-self-clause-sorted c =
    let it = c.args.self.now in
    let held = it.held.items in
    let q = c.args.trunk in
    let at = c.in-Ok.at in
    let x = c.index_mut.result.now in
    let y : Side = record x { standing = standing.Up c.args.introduction } in
    let found = subst (λ (l : List Side). IsFoundAt trunk_cmp (entries_of l) q at) c.deref.ensures.value c.in-Ok.ensures.found in
    put_sorted held (set held at y) q (side_of y) it.sorted (set_puts held q at x c.index_mut.ensures.value found y refl)

pub invariant_of-self-clause-none_gone : goal.invariant_of-self-clause-none_gone
invariant_of-self-clause-none_gone c =
    let x = c.index_mut.result.now in
    open_set c.args.self.now.held.items c.in-Ok.at (record x { standing = standing.Up c.args.introduction }) refl c.args.self.now.none_gone

pub invariant_of-self-clause-routed : goal.invariant_of-self-clause-routed
invariant_of-self-clause-routed c =
    let it = c.args.self.now in
    let held = it.held.items in
    let q = c.args.trunk in
    let at = c.in-Ok.at in
    let x = c.index_mut.result.now in
    let y : Side = record x { standing = standing.Up c.args.introduction } in
    let found = subst (λ (l : List Side). IsFoundAt trunk_cmp (entries_of l) q at) c.deref.ensures.value c.in-Ok.ensures.found in
    let puts = set_puts held q at x c.index_mut.ensures.value found y refl in
    let was = there_found held q at x c.index_mut.ensures.value found in
    let peer : x.peer ≡ c.args.peer =
    same_Some x.peer c.args.peer
    (sym (ap (option_map (λ (s : TrunkSide). s.peer)) (get_held held it.gone.items q (side_of x) was)) ∙ c.requires.towards) in
    let routes =
    done c.insert.result (c.insert.new.self.entries ≡ put name_cmp c.args.peer q it.routes.entries)
    (c.insert.ensures.succeeds c.requires.room) c.insert.ensures.entries in
    up_routed it.routes.entries c.insert.new.self.entries held (set held at y) q (side_of x) (side_of y) it.routed was puts refl refl
    (routes ∙ ap (λ (n : Name). put name_cmp n q it.routes.entries) (sym peer))
    (λ t s h p u. c.requires.alone t s (get_held held it.gone.items t s h) (p ∙ peer) u)

pub invariant_of-self-clause-apart : goal.invariant_of-self-clause-apart
invariant_of-self-clause-apart c =
    let it = c.args.self.now in
    let held = it.held.items in
    let q = c.args.trunk in
    let at = c.in-Ok.at in
    let x = c.index_mut.result.now in
    let y : Side = record x { standing = standing.Up c.args.introduction } in
    let found = subst (λ (l : List Side). IsFoundAt trunk_cmp (entries_of l) q at) c.deref.ensures.value c.in-Ok.ensures.found in
    put_apart held (set held at y) it.gone.items q (side_of y) (set_puts held q at x c.index_mut.ensures.value found y refl) it.apart
    (it.apart q (ap is_some (there_found held q at x c.index_mut.ensures.value found)))

pub invariant_of-self-clause-first_lost : goal.invariant_of-self-clause-first_lost
invariant_of-self-clause-first_lost c = c.first_lost-self.ensures ∙ ap lost_place c.deref-2.ensures.value

pub returns-clause-sides : goal.returns-clause-sides
returns-clause-sides c =
    let it = c.args.self.now in
    let held = it.held.items in
    let gone = it.gone.items in
    let q = c.args.trunk in
    let at = c.in-Ok.at in
    let x = c.index_mut.result.now in
    let y : Side = record x { standing = standing.Up c.args.introduction } in
    let found = subst (λ (l : List Side). IsFoundAt trunk_cmp (entries_of l) q at) c.deref.ensures.value c.in-Ok.ensures.found in
    let was = there_found held q at x c.index_mut.ensures.value found in
    put_sides held (set held at y) gone q (side_of y) (set_puts held q at x c.index_mut.ensures.value found y refl)
    ∙ sym (stood_there (sides_in held gone) q (standing.Up c.args.introduction) (side_of x) (get_held held gone q (side_of x) was))
