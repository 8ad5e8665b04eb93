-- The link that a sweep takes next.
use Rattle.std.specs.Prelude.{◌≡◌, Some, true}
use Rattle.std.specs.FinMap as fm
use Rattle.dist_model.specs.Losses.{link_to}
use Rattle.dist_model.specs.Names.{Name}
use Rattle.dist_model.specs.Node.{Node}
use Rattle.node_tables.specs.declared.seeking.FoundLink.{FoundLink}
use Rattle.node_connections.specs.Records.{link_entry}

-- the first link towards the peer
pub record IsNextLink (peer : Name) (link : FoundLink) (m : Node) : Type 0 where
  pub up : m.up ≡ true
  pub first : link_to peer (fm.entries m.ends) ≡ Some (link_entry m.mint link)
