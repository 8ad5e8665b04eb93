-- The least record of a lost connection, one kind after the other: the form that the proofs go by.
use Rattle.std.proofs.Common.{◌≡◌, Bool, false, refl, Option, Some, None}
use Rattle.std.specs.Option.{is_some, option_map, option_or}
use Rattle.std.specs.FinMap as fm
use Rattle.dist_model.specs.Losses.{OfLink, OfRegistration, OfWatch, Record, least_record}
use Rattle.dist_model.specs.Losses.{link_to, registered_by, sweep_end, sweep_record, watch_to}
use Rattle.dist_model.specs.Monitoring.{unregister, unwatch}
use Rattle.dist_model.specs.Names.{Name}
use Rattle.dist_model.specs.Node.{Node}
use Rattle.dist_model.specs.Work.{Work, put}
use Rattle.erl_term.specs.declared.term.Pid.{Pid}
use Rattle.erl_term.specs.declared.term.Reference.{Reference}
use Rattle.exit_core.specs.Messages.{down_term}
use Rattle.link_core.specs.News.{noconnection}
use Rattle.link_core.specs.declared.end.End.{End}
use Rattle.monitor_core.specs.declared.monitor.Registration.{Registration}
use Rattle.monitor_core.specs.declared.monitor.Watch.{Watch}
use Rattle.dist_model.specs.Telling.{object}

abbrev pub sweep_registered : Option (Reference × Registration) → Work → Work
sweep_registered None o = o
sweep_registered (Some e) o = unregister e.0 o

abbrev pub sweep_watch : Option (Reference × Watch) → Name → Work → Work
sweep_watch None y o = sweep_registered (registered_by y (fm.entries o.node.registered)) o
sweep_watch (Some e) y o = put e.1.owner (down_term e.0 (object e.1.target) noconnection) (unwatch e.0 o)

abbrev pub sweep_link : Option ((Pid × Pid) × End) → Name → Work → Work
sweep_link None y o = sweep_watch (watch_to y (fm.entries o.node.watches)) y o
sweep_link (Some e) y o = sweep_end e.1 e.0.0 e.0.1 o

-- the least of three
abbrev least_of : Option ((Pid × Pid) × End) → (m : Option (Reference × Watch)) → (k : Option (Reference × Registration)) → Option Record
least_of l m k =
    option_or (option_map (λ (e : (Pid × Pid) × End). OfLink e.0.0 e.0.1 e.1) l)
    (option_or (option_map (λ (e : Reference × Watch). OfWatch e.0 e.1) m)
    (option_map (λ (e : Reference × Registration). OfRegistration e.0) k))

pub least_as : (y : Name) (o : Work) → sweep_record (least_record y o.node) o ≡ sweep_link (link_to y (fm.entries o.node.ends)) y o
least_as y o = linked (link_to y (fm.entries o.node.ends))
  where
    registered : (k : Option (Reference × Registration)) → sweep_record (least_of None None k) o ≡ sweep_registered k o
    registered None = refl
    registered (Some e) = refl

    watched : (m : Option (Reference × Watch))
        → sweep_record (least_of None m (registered_by y (fm.entries o.node.registered))) o ≡ sweep_watch m y o
    watched None = registered (registered_by y (fm.entries o.node.registered))
    watched (Some e) = refl

    linked : (l : Option ((Pid × Pid) × End))
        → sweep_record (least_of l (watch_to y (fm.entries o.node.watches)) (registered_by y (fm.entries o.node.registered))) o
        ≡ sweep_link l y o
    linked None = watched (watch_to y (fm.entries o.node.watches))
    linked (Some e) = refl

abbrev pub has_records : Name → Node → Bool
has_records y n = is_some (least_record y n)

-- no link, and no monitor
pub no_records : (y : Name) (n : Node) → has_records y n ≡ false → (link_to y (fm.entries n.ends) ≡ None)
    × (is_some (watch_to y (fm.entries n.watches)) ≡ false)
no_records y n h = go (link_to y (fm.entries n.ends)) (watch_to y (fm.entries n.watches)) h
  where
    go : (l : Option ((Pid × Pid) × End)) (m : Option (Reference × Watch))
        → is_some (least_of l m (registered_by y (fm.entries n.registered))) ≡ false → (l ≡ None) × (is_some m ≡ false)
    go None None h = (refl, refl)
    go _ _ h = cc
