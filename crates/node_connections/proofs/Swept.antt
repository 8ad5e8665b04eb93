-- What a sweep of one record leaves.
use Rattle.std.proofs.Common.{◌≡◌, Bool, true, false, cond, ◌||◌, ◌++◌, Option, None, Some, refl, ap, ◌∙◌}
use Rattle.std.specs.FinMap as fm
use Rattle.std.specs.Option.{is_some, option_map, option_or}
use Rattle.dist_model.proofs.Views.{post_all_keeps}
use Rattle.dist_model.specs.Exits.{buried, carry_out, demonitors, end_process, exits, linked_exit, monitor_exits}
use Rattle.dist_model.specs.Losses.{OfLink, OfRegistration, OfWatch, least_record, link_to, registered_by, sweep_end, watch_to}
use Rattle.dist_model.specs.Names.{Name}
use Rattle.dist_model.specs.Node.{Node, ends_of, traps}
use Rattle.dist_model.specs.Work.{Addressed, Work, at_work, post_all, report, set_end}
use Rattle.dist_model.specs.declared.report.Effect.{Effect}
use Rattle.erl_term.specs.Data.{Data}
use Rattle.erl_term.specs.declared.term.Pid.{Pid}
use Rattle.erl_term.specs.declared.term.Reference.{Reference}
use Rattle.exit_core.specs.Reaction.{reaction}
use Rattle.exit_core.specs.declared.reaction.Reaction.{Reaction}
use Rattle.link_core.specs.News.{noconnection}
use Rattle.link_core.specs.Table.{is_active}
use Rattle.link_core.specs.declared.end.End.{End}
use Rattle.monitor_core.specs.declared.monitor.Registration.{Registration}
use Rattle.monitor_core.specs.declared.monitor.Watch.{Watch}
use Rattle.node_connections.specs.Records.{has_records, left_by_end}
use Rattle.std.specs.Prelude.{List}

-- ---- whether there is a least record, is whether there is one of a kind

pub records_are : (peer : Name) (m : Node) → is_some (least_record peer m) ≡ has_records peer m
records_are peer m =
    go (link_to peer (fm.entries m.ends)) (watch_to peer (fm.entries m.watches)) (registered_by peer (fm.entries m.registered))
  where
    go : (l : Option ((Pid × Pid) × End)) (w : Option (Reference × Watch)) (k : Option (Reference × Registration))
        → is_some (option_or (option_map (λ (e : (Pid × Pid) × End). OfLink e.0.0 e.0.1 e.1) l) (option_or
        (option_map (λ (e : Reference × Watch). OfWatch e.0 e.1) w)
        (option_map (λ (e : Reference × Registration). OfRegistration e.0) k)))
        ≡ (is_some l || (is_some w || is_some k))
    go None None (Some k) = refl
    go _ _ _ = refl

-- ---- a process that ends leaves no record

posts : Pid → Data → Work → List Addressed
posts p r w = exits p r (ends_of w.node p) ++ monitor_exits p r (fm.entries w.node.registered) ++ demonitors p (fm.entries w.node.watches)

module _ (peer : Name) (p q : Pid) (m : Node) where
  linkless : Work
  linkless = report (Effect.LinkExit p q noconnection) (set_end p q End.None (at_work m))

  ends_it : has_records peer
      (end_process p noconnection (report (Effect.LinkExit p q noconnection) (set_end p q End.None (at_work m)))).node
      ≡ has_records peer (left_by_end p q m)
  unfolding linkless posts
  ends_it =
      let w = linkless in
      let es = posts p noconnection w in
      let v = post_all es w in
      let ends = post_all_keeps (λ n. n.ends) (λ n l. refl) es w in
      let watches = post_all_keeps (λ n. n.watches) (λ n l. refl) es w in
      let registered = post_all_keeps (λ n. n.registered) (λ n l. refl) es w in
      λ i. has_records peer (buried p noconnection
      (record v { node = record (v.node) { ends = ends i; watches = watches i; registered = registered i } })).node

  pub ended_leaves : (end : End) → is_active end ≡ true → traps m p ≡ false
      → has_records peer (sweep_end end p q (at_work m)).node ≡ has_records peer (left_by_end p q m)
  ended_leaves end active goes =
      ap (λ b. has_records peer (cond b (carry_out (reaction (traps m p) (linked_exit p q noconnection)) p
      (report (Effect.LinkExit p q noconnection) (set_end p q End.None (at_work m)))) (set_end p q End.None
      (at_work m))).node) active
      ∙ ap (λ b. has_records peer (carry_out (reaction b (linked_exit p q noconnection)) p
      (report (Effect.LinkExit p q noconnection) (set_end p q End.None (at_work m)))).node) goes
      ∙ ends_it

-- ---- no side changes

carried_sides : (r : Reaction) (p : Pid) (w : Work) → (carry_out r p w).node.sides ≡ w.node.sides
unfolding posts
carried_sides Reaction.Ignore p w = refl
carried_sides (Reaction.Put message) p w = refl
carried_sides (Reaction.End reason) p w = post_all_keeps (λ n. n.sides) (λ n l. refl) (posts p reason w) w

pub end_sides : (end : End) (p q : Pid) (m : Node) → (sweep_end end p q (at_work m)).node.sides ≡ m.sides
end_sides end p q m = go (is_active end)
  where
    go : (b : Bool) → (cond b (carry_out (reaction (traps m p) (linked_exit p q noconnection)) p
        (report (Effect.LinkExit p q noconnection) (set_end p q End.None (at_work m)))) (set_end p q End.None
        (at_work m))).node.sides ≡ m.sides
    go true =
        carried_sides (reaction (traps m p) (linked_exit p q noconnection)) p
        (report (Effect.LinkExit p q noconnection) (set_end p q End.None (at_work m)))
    go false = refl
