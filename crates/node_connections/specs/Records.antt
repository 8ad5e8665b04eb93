-- The records towards a peer, as the model has them.
use Rattle.std.specs.Prelude.{Bool, not, ◌||◌, is_some}
use Rattle.std.specs.FinMap as fm
use Rattle.std.specs.FinMap.{FinMap}
use Rattle.dist_model.specs.Losses as model
use Rattle.dist_model.specs.Losses.{link_to, registered_by, watch_to}
use Rattle.dist_model.specs.Names.{Name, pair_cmp, same_pid}
use Rattle.dist_model.specs.Node.{Node}
use Rattle.erl_names.specs.Ids.{pid_of}
use Rattle.erl_names.specs.Minted.{Minted}
use Rattle.erl_term.specs.declared.term.Pid.{Pid}
use Rattle.link_core.specs.declared.end.End.{End}
use Rattle.monitor_core.specs.Left.{without_held, without_owner}
use Rattle.monitor_core.specs.Monitors.{RegistrationMap, WatchMap}
use Rattle.node_tables.specs.declared.seeking.FoundLink.{FoundLink}
use Rattle.node_connections.specs.declared.records.Record.{Record}
use Rattle.node_connections.specs.declared.records.Record.TheVariants.{Link, Watch, Registration}

abbrev pub link_entry : Minted → FoundLink → (Pid × Pid) × End
link_entry m link = ((pid_of m link.id, link.partner.now), link.end)

abbrev pub record_of : Minted → Record → model.Record
record_of m (Link link) = model.OfLink (pid_of m link.id) link.partner.now link.end
record_of m (Watch entry) = model.OfWatch entry.now.0 entry.now.1
record_of m (Registration entry) = model.OfRegistration entry.now.0

-- ---- true if there is a record of a kind

abbrev pub has_link : Name → FinMap pair_cmp End → Bool
has_link peer ends = is_some (link_to peer (fm.entries ends))

abbrev pub has_watch : Name → WatchMap → Bool
has_watch peer monitors = is_some (watch_to peer (fm.entries monitors))

abbrev pub has_registration : Name → RegistrationMap → Bool
has_registration peer monitors = is_some (registered_by peer (fm.entries monitors))

-- ---- the ends once a link is swept: a process that ends by it has none any more

abbrev pub unlinked : Pid → Pid → FinMap pair_cmp End → FinMap pair_cmp End
unlinked p q ends = fm.remove ends (p, q)

abbrev pub parted : Pid → Pid → FinMap pair_cmp End → FinMap pair_cmp End
parted p q ends = fm.retain_keys (fm.remove ends (p, q)) (λ pair. not (same_pid pair.0 p))

-- ---- true if a record is left

abbrev pub has_records : Name → Node → Bool
has_records peer node = has_link peer node.ends || (has_watch peer node.watches || has_registration peer node.registered)

-- once a link is swept, and its process ends by it
abbrev pub left_by_end : Pid → Pid → Node → Node
left_by_end p q node = record node {
  ends = parted p q node.ends;
  watches = without_owner node.watches p;
  registered = without_held node.registered p;
}

-- or goes on
abbrev pub left_by_loss : Pid → Pid → Node → Node
left_by_loss p q node = record node { ends = unlinked p q node.ends }
