use Rattle.std.proofs.Common.{sym, ap, subst, ◌∙◌}
use Rattle.std.specs.Str.{IsCharBoundary}
use Rattle.script_terms.specs.Spaces.{count_before}
use Rattle.script_terms.specs.declared.unbound.Place.TheVariants.{Outside}
use Rattle.script_terms.proofs.SpaceLemmas.{may_be_cut}
use Rattle.script_terms.proofs.spaces.split_at_space.Goals as goal

pub split_at-requires : goal.split_at-requires
split_at-requires c =
    subst (IsCharBoundary c.args.text.now) (sym (c.count_before.ensures ∙ ap (count_before Outside) c.as_bytes.ensures.value))
    (may_be_cut c.args.text.now)
