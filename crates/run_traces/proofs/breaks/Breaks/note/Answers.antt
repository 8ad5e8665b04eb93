use Rattle.std.proofs.Common.{◌≡◌, ◌∷◌, [], ◌++◌, List, None, Some, ap, get_or, position, rules, slice_set, ◌∙◌}
use Rattle.run_traces.proofs.Noted.{add_place, put_all, set_place}
use Rattle.run_traces.specs.Breaks.{broken_in, is_of}
use Rattle.run_traces.specs.declared.breaks.Break.{Break}
use Rattle.run_traces.proofs.breaks.Breaks.note.Goals as goal

pub returns-in-Some : goal.returns-in-Some
returns-in-Some c =
    let node = c.args.node.now in
    let peer = c.args.peer.now in
    let fault = c.args.fault in
    let list : List Break = c.args.self.now.list.items in
    let place = c.in-Some.place in
    let held = c.index_mut.result.now in
    let value : held ≡ get_or list place held = search rules in
    let found : position (is_of node peer) list ≡ Some place = search rules in
    ap broken_in (ap (λ (it : Break). slice_set list place (record it { fault = fault })) value
    ∙ set_place node peer fault list held place found)
    ∙ put_all node peer fault list

pub returns-in_ok-push-in-None : goal.returns-in_ok-push-in-None
returns-in_ok-push-in-None c =
    let node = c.args.node.now in
    let peer = c.args.peer.now in
    let fault = c.args.fault in
    let list : List Break = c.args.self.now.list.items in
    let none : position (is_of node peer) list ≡ None = search rules in
    let added : c.push.new.self.items ≡ list ++ record { node = node; peer = peer; fault = fault } ∷ [] = search rules in
    ap broken_in (added ∙ add_place node peer fault list none) ∙ put_all node peer fault list
