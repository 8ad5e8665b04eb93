use Rattle.std.proofs.Common.{sym, ap, ◌∙◌, List}
use Rattle.std.specs.Option.{option_map, option_and_then}
use Rattle.node_tables.specs.Lives.{end_at, life_in, life_of}
use Rattle.node_tables.specs.declared.life.Life.{Life}
use Rattle.node_tables.proofs.Lookups.{get_life, get_end}
use Rattle.node_tables.proofs.incarnation.Incarnation.life.Goals as goal

pub returns : goal.returns
returns c =
    let m = c.args.self.now.mint in
    let es = c.args.self.now.held.items in
    let p = c.args.process.now in
    let found = c.life_in.ensures ∙ ap (λ (xs : List Life). life_in m xs p) c.deref.ensures.value in
    record {
      life = get_life m es p ∙ ap (option_map life_of) (sym found);
      ends = λ q. get_end m es p q ∙ ap (option_and_then (end_at q)) (sym found);
    }
