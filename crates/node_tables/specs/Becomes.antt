-- What an end becomes, by the rules of the New Link Protocol.
-- (ERTS User's Guide, Distribution Protocol, New Link Protocol.)
use Rattle.std.specs.Prelude.{unwrap_or}
use Rattle.std.specs.FinMap as fm
use Rattle.std.specs.FinMap.{FinMap}
use Rattle.dist_model.specs.Names.{pair_cmp}
use Rattle.dist_model.specs.Work.{set_in}
use Rattle.erl_term.specs.declared.term.Pid.{Pid}
use Rattle.link_core.specs.Table.{exited, linked, received, unlinked}
use Rattle.link_core.specs.declared.end.End.{End}
use Rattle.node_tables.specs.declared.end_change.EndChange.{EndChange}
use Rattle.node_tables.specs.declared.end_change.EndChange.TheVariants.{Links, Unlinks, Receives, Exits}

abbrev pub becomes : EndChange → End → End
becomes Links end = linked end
becomes (Unlinks id) end = unlinked end id
becomes (Receives signal) end = received end signal
becomes Exits end = exited end

-- the end that a process has towards its partner changes
abbrev pub end_changed : FinMap pair_cmp End → Pid × Pid → EndChange → FinMap pair_cmp End
end_changed ends pair change = set_in ends pair (becomes change (unwrap_or (fm.get ends pair) End.None))
