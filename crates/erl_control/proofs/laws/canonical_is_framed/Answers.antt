use Rattle.erl_control.proofs.Canonical.{canonical_framed}
use Rattle.erl_control.proofs.laws.canonical_is_framed.Goals as goal

pub returns : goal.returns
returns c =
    canonical_framed c.canonical_is_spelling.ensures c.short_parts.ensures.integer c.short_parts.ensures.pid c.short_parts.ensures.reference
