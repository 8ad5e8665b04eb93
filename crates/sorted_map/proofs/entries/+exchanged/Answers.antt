use Rattle.std.proofs.Common.{sym, ap, ◌∙◌, arith}
use Rattle.sorted_map.specs.Sides.{items_of}
use Rattle.sorted_map.proofs.Exchanged.{shorter_left, shorter_right, never_none, left_entries, right_entries, changed_here, changed_left, changed_right}
use Rattle.sorted_map.proofs.entries.+exchanged.Goals as goal

pub returns-in_default-item-clause-entries : goal.returns-in_default-item-clause-entries
returns-in_default-item-clause-entries g t c =
    let whole = c.right.view_is ∙ c.deref_mut.ensures.value ∙ sym (ap items_of c.in-Some.is) in
    absurd (never_none _ _ _ _ whole c.requires.0 c.in_default-item.is)

pub returns-in_default-item-clause-before : goal.returns-in_default-item-clause-before
returns-in_default-item-clause-before g t c =
    let whole = c.right.view_is ∙ c.deref_mut.ensures.value ∙ sym (ap items_of c.in-Some.is) in
    absurd (never_none _ _ _ _ whole c.requires.0 c.in_default-item.is)

pub exchanged-requires : goal.exchanged-requires
exchanged-requires g t c κs within =
    let whole = c.right.view_is ∙ c.deref_mut.ensures.value ∙ sym (ap items_of c.in-Some.is) in
    let entries = right_entries g.met.K.Ord.total c.args.key.now c.args.value _ _ _ _ _ whole c.in-Some-item.is c.requires in
    (omega (arith, shorter_right _ _ _ _ whole), (within.0, (within.1, entries)))

pub exchanged-requires-in-Greater : goal.exchanged-requires-in-Greater
exchanged-requires-in-Greater g t c κs within =
    let whole = c.right.view_is ∙ c.deref_mut.ensures.value ∙ sym (ap items_of c.in-Some.is) in
    let entries = left_entries g.met.K.Ord.total c.args.key.now c.args.value _ _ _ _ _ whole c.in-Some-item.is c.requires in
    (omega (arith, shorter_left _ _ _ _ whole), (within.0, (within.1, entries)))

pub returns-in-Less-clause-all : goal.returns-in-Less-clause-all
returns-in-Less-clause-all g t c =
    let whole = c.right.view_is ∙ c.deref_mut.ensures.value ∙ sym (ap items_of c.in-Some.is) in
    (changed_right g.met.K.Ord.total c.args.key.now c.args.value _ _ _ _ _ whole c.in-Some-item.is c.requires
    (sym c.cmp.ensures ∙ c.in-Less.is) (items_of c.exchanged.new.side) c.exchanged.ensures.all c.exchanged.ensures.entries).0

pub returns-in-Less-clause-entries : goal.returns-in-Less-clause-entries
returns-in-Less-clause-entries g t c =
    let whole = c.right.view_is ∙ c.deref_mut.ensures.value ∙ sym (ap items_of c.in-Some.is) in
    (changed_right g.met.K.Ord.total c.args.key.now c.args.value _ _ _ _ _ whole c.in-Some-item.is c.requires
    (sym c.cmp.ensures ∙ c.in-Less.is) (items_of c.exchanged.new.side) c.exchanged.ensures.all c.exchanged.ensures.entries).1.0

pub returns-in-Less-clause-before : goal.returns-in-Less-clause-before
returns-in-Less-clause-before g t c =
    let whole = c.right.view_is ∙ c.deref_mut.ensures.value ∙ sym (ap items_of c.in-Some.is) in
    c.exchanged.ensures.before
    ∙ (changed_right g.met.K.Ord.total c.args.key.now c.args.value _ _ _ _ _ whole c.in-Some-item.is c.requires
    (sym c.cmp.ensures ∙ c.in-Less.is) (items_of c.exchanged.new.side) c.exchanged.ensures.all c.exchanged.ensures.entries).1.1

pub returns-in-Equal-clause-all : goal.returns-in-Equal-clause-all
returns-in-Equal-clause-all g t c =
    let whole = c.right.view_is ∙ c.deref_mut.ensures.value ∙ sym (ap items_of c.in-Some.is) in
    rw c.replace.ensures.after (changed_here g.met.K.Ord.total c.args.key.now c.args.value _ _ _ _ _ whole c.in-Some-item.is c.requires
    (sym c.cmp.ensures ∙ c.in-Equal.is)).0

pub returns-in-Equal-clause-entries : goal.returns-in-Equal-clause-entries
returns-in-Equal-clause-entries g t c =
    let whole = c.right.view_is ∙ c.deref_mut.ensures.value ∙ sym (ap items_of c.in-Some.is) in
    rw c.replace.ensures.after (changed_here g.met.K.Ord.total c.args.key.now c.args.value _ _ _ _ _ whole c.in-Some-item.is c.requires
    (sym c.cmp.ensures ∙ c.in-Equal.is)).1.0

pub returns-in-Equal-clause-before : goal.returns-in-Equal-clause-before
returns-in-Equal-clause-before g t c =
    let whole = c.right.view_is ∙ c.deref_mut.ensures.value ∙ sym (ap items_of c.in-Some.is) in
    rw c.replace.ensures.value (changed_here g.met.K.Ord.total c.args.key.now c.args.value _ _ _ _ _ whole c.in-Some-item.is c.requires
    (sym c.cmp.ensures ∙ c.in-Equal.is)).1.1

pub returns-in-Greater-clause-all : goal.returns-in-Greater-clause-all
returns-in-Greater-clause-all g t c =
    let whole = c.right.view_is ∙ c.deref_mut.ensures.value ∙ sym (ap items_of c.in-Some.is) in
    (changed_left g.met.K.Ord.total c.args.key.now c.args.value _ _ _ _ _ whole c.in-Some-item.is c.requires
    (sym c.cmp.ensures ∙ c.in-Greater.is) (items_of c.exchanged-in-Greater.new.side) c.exchanged-in-Greater.ensures.all c.exchanged-in-Greater.ensures.entries).0

pub returns-in-Greater-clause-entries : goal.returns-in-Greater-clause-entries
returns-in-Greater-clause-entries g t c =
    let whole = c.right.view_is ∙ c.deref_mut.ensures.value ∙ sym (ap items_of c.in-Some.is) in
    (changed_left g.met.K.Ord.total c.args.key.now c.args.value _ _ _ _ _ whole c.in-Some-item.is c.requires
    (sym c.cmp.ensures ∙ c.in-Greater.is) (items_of c.exchanged-in-Greater.new.side) c.exchanged-in-Greater.ensures.all c.exchanged-in-Greater.ensures.entries).1.0

pub returns-in-Greater-clause-before : goal.returns-in-Greater-clause-before
returns-in-Greater-clause-before g t c =
    let whole = c.right.view_is ∙ c.deref_mut.ensures.value ∙ sym (ap items_of c.in-Some.is) in
    c.exchanged-in-Greater.ensures.before
    ∙ (changed_left g.met.K.Ord.total c.args.key.now c.args.value _ _ _ _ _ whole c.in-Some-item.is c.requires
    (sym c.cmp.ensures ∙ c.in-Greater.is) (items_of c.exchanged-in-Greater.new.side) c.exchanged-in-Greater.ensures.all c.exchanged-in-Greater.ensures.entries).1.1
