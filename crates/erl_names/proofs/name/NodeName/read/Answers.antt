use Rattle.std.proofs.Common.{rules}
use Rattle.erl_names.specs.Name.{IsNodeName}
use Rattle.erl_names.proofs.Names.{chars_in_name}
use Rattle.erl_names.proofs.name.NodeName.read.Goals as goal

pub new-requires : goal.new-requires
new-requires c =
    let form : IsNodeName c.args.text.now = search rules in
    chars_in_name c.args.text.now _ c.in_ok-from_str.ensures.ok c.utf8.text form
