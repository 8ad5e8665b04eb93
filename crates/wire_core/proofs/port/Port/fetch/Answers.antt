use Rattle.std.proofs.Common.{◌≤◌, ◌++◌, ◌∙◌, List, length, true≢false, sym, inr, subst, drop}
use Rattle.wire_core.specs.Fetching.{IsWhole}
use Rattle.wire_core.proofs.StreamsKept.{handled_more, part_taken, spells, whole_taken}
use Rattle.wire_core.specs.Spellings.{SpellsItem}
use Rattle.wire_core.specs.declared.parcel.Parcel.{Parcel}
use Rattle.wire_core.proofs.port.Port.fetch.Goals as goal

pub new-requires : goal.new-requires
new-requires g c =
    let p = c.self.inside in
    let laws = c.pieces_are_gathered.ensures in
    let gathered_are = c.in_ok-extend_from_slice.ensures.items ∙ (λ i. c.reserve-2.ensures.items i ++ c.as_slice.ensures.bytes i) in
    let front = subst IsWhole c.as_slice-2.ensures.value (c.is_whole.ensures.0 c.if-is_whole.true) in
    subst SpellsItem (sym c.take_all-bytes.ensures.bytes)
    (spells c.front_is_told.ensures.told laws.behind laws.whole p.into.pieces c.take.new.self.pieces p.taken.items
    c.reserve.new.self.items p.gathered.items c.extend_from_slice.new.self.items
    c.in-Some.piece c.self.invariant.1 c.as_slice.ensures.length c.in-Some.ensures.taken c.in-Some.ensures.cut
    c.reserve.ensures.items gathered_are front)

pub invariant_of-self-then-is_whole : goal.invariant_of-self-then-is_whole
invariant_of-self-then-is_whole g c =
    let p = c.self.inside in
    let laws = c.pieces_are_gathered.ensures in
    let gathered_are = c.in_ok-extend_from_slice.ensures.items ∙ (λ i. c.reserve-2.ensures.items i ++ c.as_slice.ensures.bytes i) in
    let front = subst IsWhole c.as_slice-2.ensures.value (c.is_whole.ensures.0 c.if-is_whole.true) in
    let all = c.push_reserved.ensures.items in
    let bytes = c.new.ensures ∙ c.take_all-bytes.ensures.bytes in
    let none = c.take_all-bytes.ensures.none in (
      c.self.invariant.0,
      whole_taken c.front_is_told.ensures.told laws.behind laws.whole p.into.pieces c.take.new.self.pieces p.taken.items
          c.reserve.new.self.items p.gathered.items c.extend_from_slice.new.self.items
          c.in-Some.piece c.self.invariant.1 c.as_slice.ensures.length c.in-Some.ensures.taken c.in-Some.ensures.cut
          c.reserve.ensures.items gathered_are front
          _ c.stamp.ensures bytes c.push_reserved.new.self.items all c.take_all-bytes.new.gathered.items none,
      subst (λ (l : List Parcel). p.handled ≤ length l) (sym all) (handled_more p.handled c.reserve.new.self.items _
          (subst (λ (l : List Parcel). p.handled ≤ length l) (sym c.reserve.ensures.items) c.self.invariant.2)),
      c.self.invariant.3,
    )

pub invariant_of-self-else-is_whole : goal.invariant_of-self-else-is_whole
invariant_of-self-else-is_whole g c =
    let p = c.self.inside in
    let laws = c.pieces_are_gathered.ensures in
    let gathered_are = c.in_ok-extend_from_slice.ensures.items ∙ (λ i. c.reserve-2.ensures.items i ++ c.as_slice.ensures.bytes i) in (
      c.self.invariant.0,
      part_taken c.front_is_told.ensures.told laws.behind laws.whole p.into.pieces c.take.new.self.pieces p.taken.items
          c.reserve.new.self.items p.gathered.items c.extend_from_slice.new.self.items
          c.in-Some.piece c.self.invariant.1 c.as_slice.ensures.length c.in-Some.ensures.taken c.in-Some.ensures.cut
          c.reserve.ensures.items gathered_are,
      subst (λ (l : List Parcel). p.handled ≤ length l) (sym c.reserve.ensures.items) c.self.invariant.2,
      c.self.invariant.3,
    )

pub returns-else-is_whole-clause-taken : goal.returns-else-is_whole-clause-taken
returns-else-is_whole-clause-taken g c = λ _.
    let p = c.self.inside in
    let gathered_are = c.in_ok-extend_from_slice.ensures.items ∙ (λ i. c.reserve-2.ensures.items i ++ c.as_slice.ensures.bytes i) in
    let part : IsWhole c.extend_from_slice.new.self.items → ⊥ =
    λ front. true≢false (sym (c.is_whole.ensures.1 (subst IsWhole (sym c.as_slice-2.ensures.value) front)) ∙ c.if-is_whole.false) in
    rw (← c.self.view_is) (record {
      piece = c.in-Some.piece;
      is_short = c.as_slice.ensures.length;
      comes = inr (record {
        is_part = λ front. part (subst IsWhole (sym gathered_are) front);
        becomes = λ i. record {
          trunk = p.trunk;
          peer = p.peer;
          put = p.put.items;
          outbox = p.outbox.items;
          taken = c.reserve.ensures.items i;
          slot = drop p.handled (c.reserve.ensures.items i);
          pieces = p.out.pieces;
          begun = p.begun;
          gathered = gathered_are i;
          greatest = p.greatest;
        };
      });
    })
