use Rattle.std.proofs.Common.{rules}
use Rattle.std.proofs.lemmas.Fn.{always_returns_same}
use Rattle.sorted_map.proofs.Places.{searched}
use Rattle.sorted_map.proofs.map.place.Goals as goal

-- the closure compares an entry's key with the one that is sought
pub returns : goal.returns
returns g c =
    let facts = c.binary_search_by.ensures in
    let by_key =
    facts.position (λ entry. g.K.Ord.cmp entry.0 c.args.key.now)
    (always_returns_same _ _ _ (λ a r f' called. (search rules, search rules))) in
    searched g.met.K.Ord.total c.args.entries.now c.args.key.now _ c.requires facts.bound by_key
