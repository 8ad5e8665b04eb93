use Rattle.std.proofs.Common.{List, arith, get_or, subst, sym, take, take_all}
use Rattle.std.proofs.lemmas.List.{take_more}
use Rattle.joined_books.specs.declared.trace.Placed.{Placed}
use Rattle.script_repeats.proofs.Opening.{repeated_more}
use Rattle.script_repeats.specs.Steps.{HasRepeated}
use Rattle.script_repeats.proofs.script.Repeating.enter_all.Goals as goal

pub loop-placed-init : goal.loop-placed-init
loop-placed-init c = λ seed is. is

pub loop-placed-preserved : goal.loop-placed-preserved
loop-placed-preserved c = λ seed is.
    let was = c.loop-placed.invariant seed is in
    let nodes = c.args.nodes.now in
    let books = c.args.books.now in
    let entries = c.args.entries.now in
    let none : Placed = record { stamp = 0; node = 0; position = 0 } in
    let index = c.loop-placed.placed-index in
    let new = c.enter_at.new.self in
    let at = c.in_ok-enter_at.ensures was.is.last was.session in
    subst (λ (l : List Placed). HasRepeated seed nodes books l new) (sym (take_more entries index none c.loop-placed-test.true))
    (repeated_more seed nodes books (take index entries) (get_or entries index none) at.0 c.loop-placed.self new was at.1 at.2)

pub returns : goal.returns
returns c = λ seed is.
    let entries = c.args.entries.now in
    subst (λ (l : List Placed). HasRepeated seed c.args.nodes.now c.args.books.now l c.loop-placed.self)
    (take_all c.loop-placed.placed-index entries (omega arith)) (c.loop-placed.invariant seed is)
