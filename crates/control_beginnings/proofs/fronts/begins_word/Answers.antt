use Rattle.std.proofs.Common.{sym, length, drop}
use Rattle.std.proofs.lemmas.Bool.Decides.{Decides-eqb}
use Rattle.std.proofs.lemmas.Slice.Eq.{starts_is}
use Rattle.control_beginnings.proofs.fronts.begins_word.Goals as goal

pub returns : goal.returns
returns c =
    let is = starts_is Decides-eqb c.args.word.now c.args.bytes.now c.starts_with.result c.starts_with.ensures.value in
    (λ t. (drop (length c.args.bytes.now) c.args.word.now, sym (is.0 t)), λ s. is.1 s.0 (sym s.1))
