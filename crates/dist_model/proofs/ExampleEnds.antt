-- Runs of two nodes, step by step: the end of a process comes to its monitor, and to its link.
use Rattle.std.proofs.Common.{◌≡◌, ℕ, true, not, List, [], ◌∷◌, ◌++◌, refl, sym, ap, ◌∙◌, arith, subst, false}
use Rattle.std.specs.FinMap as fm
use Rattle.std.specs.FinMap.{FinMap}
use Rattle.dist_model.proofs.ExampleLinks.{connected_is, ends_of_first_0, ends_of_second_0, linked_is, lists11, lists9}
use Rattle.dist_model.proofs.ExampleLinks.{lives_of_first_1, lives_of_second_1, sides_of_first_3, sides_of_second_1}
use Rattle.dist_model.proofs.RunMoments.{passed, run_on}
use Rattle.dist_model.specs.declared.report.Kind.{Kind}
use Rattle.dist_model.specs.Causes.{Reacts}
use Rattle.dist_model.specs.declared.report.Answer.{Answer}
use Rattle.dist_model.specs.declared.command.Command.{Command}
use Rattle.dist_model.specs.Downs.{downs, downs_by}
use Rattle.dist_model.specs.Exits.{without_held, without_owner}
use Rattle.erl_control.specs.Fits.{fits}
use Rattle.dist_model.specs.Histories.{history}
use Rattle.dist_model.specs.Items.{Item, Signalled}
use Rattle.dist_model.specs.Names.{place_cmp, same_pid}
use Rattle.dist_model.specs.Node.{Ended, Life}
use Rattle.dist_model.specs.Runs.{run}
use Rattle.dist_model.specs.Schedules.{plain, connected_over_a_trunk, first, here, linked_over_a_trunk, linked_to_the_end}
use Rattle.dist_model.specs.Schedules.{monitored_to_the_end, monitoring, reference, second, there, trunk, two_nodes}
use Rattle.dist_model.specs.declared.report.Effect.{Effect}
use Rattle.dist_model.specs.World.{Arrive, Call, Reported, World, step}
use Rattle.erl_control.specs.declared.signal.Signal.{Signal}
use Rattle.erl_term.specs.Data.{Data}
use Rattle.erl_term.specs.Order.{pid_cmp}
use Rattle.exit_core.specs.Messages.{exit_term}
use Rattle.dist_model.specs.Monitoring.{registration_of}
use Rattle.monitor_core.specs.Monitors.{RegistrationMap, WatchMap, watch_of}
use Rattle.monitor_core.specs.declared.monitor.Target.{Target}
use Rattle.dist_model.proofs.ExampleWorlds.{nameless, node, of_worlds, told_once, world}

module _ (cookie : List ℕ) (own other : ℕ) where
  -- ---- a process is monitored and ends, or is linked and ends

  module _ (reason : Data) (fitting : fits reason ≡ true) where
    abbrev monitor_world_0 : World
    monitor_world_0 = world
        (node cookie first 1 true 1 0 0 1 (lives_of_first_1 cookie own other) fm.empty fm.empty fm.empty
        (sides_of_first_3 cookie own other) [])
        (node cookie second 1 true 1 0 0 0 (lives_of_second_1 cookie own other) fm.empty fm.empty fm.empty
        (sides_of_second_1 cookie own other) [])
        (lists9 cookie own other)

    abbrev monitor_watches_of_first_1 : WatchMap
    monitor_watches_of_first_1 = fm.insert fm.empty reference (watch_of here (Target.Pid there))

    abbrev monitor_lists_1 : FinMap place_cmp (List Item)
    monitor_lists_1 = fm.insert (lists9 cookie own other) (trunk 1, second) (Signalled (Signal.Monitor here there reference) false ∷ [])

    abbrev monitor_world_1 : World
    monitor_world_1 = world
        (node cookie first 1 true 1 1 0 1 (lives_of_first_1 cookie own other) fm.empty monitor_watches_of_first_1 fm.empty
        (sides_of_first_3 cookie own other) [])
        (node cookie second 1 true 1 0 0 0 (lives_of_second_1 cookie own other) fm.empty fm.empty fm.empty
        (sides_of_second_1 cookie own other) [])
        monitor_lists_1

    monitor_step_0 : (step monitor_world_0 (Call first (Command.Monitor here there))).world ≡ monitor_world_1
    monitor_step_0 = simp of_worlds refl

    abbrev monitor_lists_2 : FinMap place_cmp (List Item)
    monitor_lists_2 = fm.insert monitor_lists_1 (trunk 1, second) []

    abbrev monitor_registered_of_second_1 : RegistrationMap
    monitor_registered_of_second_1 = fm.insert fm.empty reference (registration_of here there)

    abbrev monitor_world_2 : World
    monitor_world_2 = world
        (node cookie first 1 true 1 1 0 1 (lives_of_first_1 cookie own other) fm.empty monitor_watches_of_first_1 fm.empty
        (sides_of_first_3 cookie own other) [])
        (node cookie second 1 true 1 0 0 0 (lives_of_second_1 cookie own other) fm.empty fm.empty monitor_registered_of_second_1
        (sides_of_second_1 cookie own other) [])
        monitor_lists_2

    monitor_step_1 : (step monitor_world_1 (Arrive (trunk 1) second 0)).world ≡ monitor_world_2
    monitor_step_1 = simp of_worlds refl

    abbrev monitor_lives_of_second_1 : FinMap pid_cmp Life
    monitor_lives_of_second_1 = fm.insert (lives_of_second_1 cookie own other) there (Ended reason)

    abbrev monitor_lists_3 : FinMap place_cmp (List Item)
    monitor_lists_3 = fm.insert monitor_lists_2 (trunk 1, first) (Signalled (Signal.MonitorExit there here reference reason) false ∷ [])

    abbrev monitor_world_3 : World
    monitor_world_3 = world
        (node cookie first 1 true 1 1 0 1 (lives_of_first_1 cookie own other) fm.empty monitor_watches_of_first_1 fm.empty
        (sides_of_first_3 cookie own other) [])
        (nameless there (node cookie second 1 true 1 0 0 0 monitor_lives_of_second_1 (fm.retain_keys fm.empty (λ pair. not (same_pid pair.0 there)))
        (without_owner fm.empty there) (without_held monitor_registered_of_second_1 there) (sides_of_second_1 cookie own other) []))
        monitor_lists_3

    monitor_step_2 : (step monitor_world_2 (Call second (Command.ExitSelf there reason))).world ≡ monitor_world_3
    monitor_step_2 = simp (of_worlds, fitting) refl

    monitor_is : run (connected_over_a_trunk own other ++ monitoring reason) (two_nodes cookie) ≡ monitor_world_3
    monitor_is = run_on (connected_over_a_trunk own other) (monitoring reason) (two_nodes cookie)
        ∙ ap (run (monitoring reason)) (connected_is cookie own other)
        ∙ passed monitor_world_0 (monitoring reason) (monitor_world_1 ∷ monitor_world_2 ∷ monitor_world_3 ∷ [])
        (monitor_step_0, (monitor_step_1, (monitor_step_2, tt)))

    monitor_down : downs_by reference (Arrive (trunk 1) first 0)
        ((step (run (connected_over_a_trunk own other ++ monitoring reason) (two_nodes cookie)) (Arrive (trunk 1) first 0)).report) ≡
        (record { owner = here; target = Target.Pid there; info = reason }) ∷ []
    monitor_down = ap (λ w. downs_by reference (Arrive (trunk 1) first 0) ((step w (Arrive (trunk 1) first 0)).report)) monitor_is
        ∙ simp of_worlds refl

    pub monitor_tells : downs reference (history (monitored_to_the_end own other reason) (two_nodes cookie)) ≡
        (record { owner = here; target = Target.Pid there; info = reason }) ∷ []
    monitor_tells = told_once ((first, plain cookie) ∷ (second, plain cookie) ∷ []) (connected_over_a_trunk own other ++ monitoring reason)
        (Arrive (trunk 1) first 0) reference _ monitor_down

    abbrev exit_world_0 : World
    exit_world_0 = world
        (node cookie first 1 true 1 0 0 1 (lives_of_first_1 cookie own other) (ends_of_first_0 cookie own other) fm.empty fm.empty
        (sides_of_first_3 cookie own other) [])
        (node cookie second 1 true 1 0 0 0 (lives_of_second_1 cookie own other) (ends_of_second_0 cookie own other) fm.empty fm.empty
        (sides_of_second_1 cookie own other) [])
        (lists11 cookie own other)

    abbrev exit_lives_of_second_1 : FinMap pid_cmp Life
    exit_lives_of_second_1 = fm.insert (lives_of_second_1 cookie own other) there (Ended reason)

    abbrev exit_lists_1 : FinMap place_cmp (List Item)
    exit_lists_1 = fm.insert (lists11 cookie own other) (trunk 1, first) (Signalled (Signal.Exit there here reason) false ∷ [])

    abbrev exit_world_1 : World
    exit_world_1 = world
        (node cookie first 1 true 1 0 0 1 (lives_of_first_1 cookie own other) (ends_of_first_0 cookie own other) fm.empty fm.empty
        (sides_of_first_3 cookie own other) [])
        (nameless there (node cookie second 1 true 1 0 0 0 exit_lives_of_second_1
        (fm.retain_keys (ends_of_second_0 cookie own other) (λ pair. not (same_pid pair.0 there))) (without_owner fm.empty there)
        (without_held fm.empty there) (sides_of_second_1 cookie own other) []))
        exit_lists_1

    exit_step_0 : (step exit_world_0 (Call second (Command.ExitSelf there reason))).world ≡ exit_world_1
    exit_step_0 = simp (of_worlds, fitting) refl

    exit_is : run (linked_to_the_end own other reason) (two_nodes cookie) ≡ exit_world_1
    exit_is = run_on (linked_over_a_trunk own other) (Call second (Command.ExitSelf there reason) ∷ []) (two_nodes cookie)
        ∙ ap (run (Call second (Command.ExitSelf there reason) ∷ [])) (linked_is cookie own other)
        ∙ passed exit_world_0 (Call second (Command.ExitSelf there reason) ∷ []) (exit_world_1 ∷ []) (exit_step_0, tt)

    exit_reported : (step exit_world_1 (Arrive (trunk 1) first 0)).report ≡ Reported (Answer.Took Kind.Exit)
        (Effect.LinkExit here there reason ∷ Effect.Put here (exit_term there reason) ∷ [])
    exit_reported = simp of_worlds refl

    pub exit_comes : Reacts here there reason
        ((step (run (linked_to_the_end own other reason) (two_nodes cookie)) (Arrive (trunk 1) first 0)).report)
    exit_comes = subst (λ r. Reacts here there reason r)
        (sym (ap (λ w. (step w (Arrive (trunk 1) first 0)).report) exit_is ∙ exit_reported)) (0, omega arith, refl)
