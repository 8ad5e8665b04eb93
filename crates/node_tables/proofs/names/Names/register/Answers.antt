use Rattle.std.proofs.Common.{◌≡◌, ap, ◌∙◌}
use Rattle.std.specs.FinMap as fm
use Rattle.std.specs.FinMap.{put}
use Rattle.erl_names.specs.Order.{name_cmp}
use Rattle.erl_term.specs.Order.{pid_cmp}
use Rattle.node_tables.proofs.Placed.{done}
use Rattle.node_tables.proofs.Registered.{registered, registered_names, still_inverse}
use Rattle.node_tables.proofs.names.Names.register.Goals as goal

pub invariant_of-self : goal.invariant_of-self
invariant_of-self c =
    let it = c.args.self.now in
    let x = c.args.naming in
    let named : c.insert.new.self.entries ≡ put name_cmp x.name x.process it.by_name.entries =
    done c.insert.result _ (c.insert.ensures.succeeds c.requires.room.0) c.insert.ensures.entries in
    let held : c.insert-2.new.self.entries ≡ put pid_cmp x.process_again x.name_again it.by_holder.entries =
    done c.insert-2.result _ (c.insert-2.ensures.succeeds c.requires.room.1) c.insert-2.ensures.entries in
    record {
      inverse = still_inverse _ c.insert.new.self.entries _ c.insert-2.new.self.entries named
          (held ∙ (λ i. put pid_cmp (x.same_process i) (x.same_name i) it.by_holder.entries))
          (registered it.by_name.entries it.by_holder.entries it.inverse x.name x.process c.requires.free c.requires.nameless);
    }

pub returns : goal.returns
returns c =
    let it = c.args.self.now in
    let x = c.args.naming in
    let named : c.insert.new.self.entries ≡ put name_cmp x.name x.process it.by_name.entries =
    done c.insert.result _ (c.insert.ensures.succeeds c.requires.room.0) c.insert.ensures.entries in
    ap (fm.from_sorted {R = name_cmp}) named
    ∙ registered_names it.by_name.entries it.by_holder.entries it.inverse x.name x.process c.requires.free c.requires.nameless
