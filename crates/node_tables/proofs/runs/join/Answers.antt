use Rattle.std.proofs.Common.{◌≡◌, ◌<◌, ◌+◌, true, length, refl, rules}
use Rattle.node_tables.specs.Runs.{is_followed}
use Rattle.node_tables.proofs.Buried.{joined_gone, joined_rising}
use Rattle.node_tables.proofs.runs.join.Goals as goal

pub returns-clause-rising : goal.returns-clause-rising
returns-clause-rising c =
    let runs = c.args.runs.now.items in
    let at = c.args.at in
    let a = c.index.result.now in
    let b = c.index-else-at-len-2.result.now in
    let h : is_followed a b ≡ true = search rules in
    let l : at + 1 < length runs = search rules in
    joined_rising runs c.remove-last.new.self.items at a b c.remove-last.result c.index-2.result.now _ l c.index.ensures
    c.index-else-at-len-2.ensures c.remove-last.ensures.value c.remove-last.ensures.items c.index-2.ensures h refl refl c.requires.rising

pub returns-clause-same : goal.returns-clause-same
returns-clause-same c = λ q.
    let runs = c.args.runs.now.items in
    let at = c.args.at in
    let a = c.index.result.now in
    let b = c.index-else-at-len-2.result.now in
    let h : is_followed a b ≡ true = search rules in
    let l : at + 1 < length runs = search rules in
    joined_gone runs c.remove-last.new.self.items at a b c.remove-last.result c.index-2.result.now _ l c.index.ensures
    c.index-else-at-len-2.ensures c.remove-last.ensures.value c.remove-last.ensures.items c.index-2.ensures h refl refl q
