use Rattle.std.proofs.Common.{Some, string_bytes, bytes_eq, cond, ap, ◌∙◌, rules}
use Rattle.std.specs.Prelude.{Option}
use Rattle.std.proofs.lemmas.Map.Text.{hash_map_updates_text}
use Rattle.script_terms.specs.declared.names.Named.{Named}
use Rattle.script_terms.proofs.names.Names.put.Goals as goal

pub returns : goal.returns
returns c = λ look was. record {
  bound = λ name.
      hash_map_updates_text (string_bytes c.args.name) c.args.self.now.bound c.insert.new.self (Some c.args.named) (search rules) name
      ∙ ap (λ (old : Option Named). cond (bytes_eq (string_bytes c.args.name) name) (Some c.args.named) old) (was.bound name);
}
