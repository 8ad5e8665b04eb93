-- Runs of two processes of one node, step by step: an exit and a DOWN come too late, and a link is made to a process that has ended.
use Rattle.std.proofs.Common.{◌≡◌, ℕ, true, false, not, List, [], ◌∷◌, refl, sym, ap, ◌∙◌, arith, subst}
use Rattle.std.specs.FinMap as fm
use Rattle.std.specs.FinMap.{FinMap}
use Rattle.dist_model.proofs.RunMoments.{passed}
use Rattle.dist_model.specs.declared.report.Kind.{Kind}
use Rattle.dist_model.specs.Causes.{Reacts}
use Rattle.dist_model.specs.declared.report.Answer.{Answer}
use Rattle.dist_model.specs.declared.command.Command.{Command}
use Rattle.dist_model.specs.Exits.{without_held, without_owner}
use Rattle.erl_control.specs.Fits.{fits}
use Rattle.dist_model.specs.Items.{Signalled}
use Rattle.dist_model.specs.Names.{pair_cmp, same_pid}
use Rattle.dist_model.specs.Node.{Ended, Life, Living}
use Rattle.dist_model.specs.Runs.{run}
use Rattle.dist_model.specs.Schedules.{beside, demonitored_after_the_end, first, here, linked_to_the_dead}
use Rattle.dist_model.specs.Schedules.{reference, second, two_nodes, unlinked_before_the_end}
use Rattle.dist_model.specs.Seen.{end_between}
use Rattle.dist_model.specs.declared.report.Effect.{Effect}
use Rattle.dist_model.specs.World.{Call, Local, Reported, World, step}
use Rattle.erl_control.specs.declared.signal.Signal.{Signal}
use Rattle.erl_term.specs.Data.{Data}
use Rattle.erl_term.specs.Order.{pid_cmp}
use Rattle.exit_core.specs.Messages.{exit_term}
use Rattle.link_core.specs.News.{noproc}
use Rattle.link_core.specs.declared.end.End.{End}
use Rattle.dist_model.specs.Monitoring.{registration_of}
use Rattle.monitor_core.specs.Monitors.{RegistrationMap, WatchMap, watch_of}
use Rattle.monitor_core.specs.declared.monitor.Target.{Target}
use Rattle.dist_model.proofs.ExampleWorlds.{nameless, node, of_worlds, world}

module _ (cookie : List ℕ) where
  module _ (reason : Data) (fitting : fits reason ≡ true) where
    abbrev late_exit_world_0 : World
    late_exit_world_0 = world
        (node cookie first 1 true 0 0 0 0 fm.empty fm.empty fm.empty fm.empty fm.empty [])
        (node cookie second 1 true 0 0 0 0 fm.empty fm.empty fm.empty fm.empty fm.empty [])
        fm.empty

    abbrev late_exit_lives_of_first_1 : FinMap pid_cmp Life
    late_exit_lives_of_first_1 = fm.insert fm.empty here (Living false [])

    abbrev late_exit_world_1 : World
    late_exit_world_1 = world
        (node cookie first 1 true 1 0 0 0 late_exit_lives_of_first_1 fm.empty fm.empty fm.empty fm.empty [])
        (node cookie second 1 true 0 0 0 0 fm.empty fm.empty fm.empty fm.empty fm.empty [])
        fm.empty

    late_exit_step_0 : (step late_exit_world_0 (Call first Command.Spawn)).world ≡ late_exit_world_1
    late_exit_step_0 = refl

    abbrev late_exit_lives_of_first_2 : FinMap pid_cmp Life
    late_exit_lives_of_first_2 = fm.insert late_exit_lives_of_first_1 beside (Living false [])

    abbrev late_exit_world_2 : World
    late_exit_world_2 = world
        (node cookie first 1 true 2 0 0 0 late_exit_lives_of_first_2 fm.empty fm.empty fm.empty fm.empty [])
        (node cookie second 1 true 0 0 0 0 fm.empty fm.empty fm.empty fm.empty fm.empty [])
        fm.empty

    late_exit_step_1 : (step late_exit_world_1 (Call first Command.Spawn)).world ≡ late_exit_world_2
    late_exit_step_1 = refl

    abbrev late_exit_ends_of_first_1 : FinMap pair_cmp End
    late_exit_ends_of_first_1 = fm.insert fm.empty (here, beside) End.Active

    abbrev late_exit_world_3 : World
    late_exit_world_3 = world
        (node cookie first 1 true 2 0 0 0 late_exit_lives_of_first_2 late_exit_ends_of_first_1 fm.empty fm.empty fm.empty
        (Signalled (Signal.Link here beside) false ∷ []))
        (node cookie second 1 true 0 0 0 0 fm.empty fm.empty fm.empty fm.empty fm.empty [])
        fm.empty

    late_exit_step_2 : (step late_exit_world_2 (Call first (Command.Link here beside))).world ≡ late_exit_world_3
    late_exit_step_2 = simp of_worlds refl

    abbrev late_exit_ends_of_first_2 : FinMap pair_cmp End
    late_exit_ends_of_first_2 = fm.insert late_exit_ends_of_first_1 (beside, here) End.Active

    abbrev late_exit_world_4 : World
    late_exit_world_4 = world
        (node cookie first 1 true 2 0 0 0 late_exit_lives_of_first_2 late_exit_ends_of_first_2 fm.empty fm.empty fm.empty [])
        (node cookie second 1 true 0 0 0 0 fm.empty fm.empty fm.empty fm.empty fm.empty [])
        fm.empty

    late_exit_step_3 : (step late_exit_world_3 (Local first)).world ≡ late_exit_world_4
    late_exit_step_3 = simp of_worlds refl

    abbrev late_exit_ends_of_first_3 : FinMap pair_cmp End
    late_exit_ends_of_first_3 = fm.insert late_exit_ends_of_first_2 (here, beside) (End.Pending 1)

    abbrev late_exit_world_5 : World
    late_exit_world_5 = world
        (node cookie first 1 true 2 0 1 0 late_exit_lives_of_first_2 late_exit_ends_of_first_3 fm.empty fm.empty fm.empty
        (Signalled (Signal.UnlinkId 1 here beside) false ∷ []))
        (node cookie second 1 true 0 0 0 0 fm.empty fm.empty fm.empty fm.empty fm.empty [])
        fm.empty

    late_exit_step_4 : (step late_exit_world_4 (Call first (Command.Unlink here beside))).world ≡ late_exit_world_5
    late_exit_step_4 = simp of_worlds refl

    abbrev late_exit_lives_of_first_3 : FinMap pid_cmp Life
    late_exit_lives_of_first_3 = fm.insert late_exit_lives_of_first_2 beside (Ended reason)

    abbrev late_exit_ends_of_first_4 : FinMap pair_cmp End
    late_exit_ends_of_first_4 = fm.retain_keys late_exit_ends_of_first_3 (λ pair. not (same_pid pair.0 beside))

    abbrev late_exit_watches_of_first_1 : WatchMap
    late_exit_watches_of_first_1 = without_owner fm.empty beside

    abbrev late_exit_registered_of_first_1 : RegistrationMap
    late_exit_registered_of_first_1 = without_held fm.empty beside

    abbrev late_exit_world_6 : World
    late_exit_world_6 = world
        (nameless beside (node cookie first 1 true 2 0 1 0 late_exit_lives_of_first_3 late_exit_ends_of_first_4 late_exit_watches_of_first_1
        late_exit_registered_of_first_1 fm.empty
        (Signalled (Signal.UnlinkId 1 here beside) false ∷ Signalled (Signal.Exit beside here reason) false ∷ [])))
        (node cookie second 1 true 0 0 0 0 fm.empty fm.empty fm.empty fm.empty fm.empty [])
        fm.empty

    late_exit_step_5 : (step late_exit_world_5 (Call first (Command.ExitSelf beside reason))).world ≡ late_exit_world_6
    late_exit_step_5 = simp (of_worlds, fitting) refl

    abbrev late_exit_world_7 : World
    late_exit_world_7 = world
        (nameless beside (node cookie first 1 true 2 0 1 0 late_exit_lives_of_first_3 late_exit_ends_of_first_4 late_exit_watches_of_first_1
        late_exit_registered_of_first_1 fm.empty
        (Signalled (Signal.Exit beside here reason) false ∷ Signalled (Signal.UnlinkIdAck 1 beside here) false ∷ [])))
        (node cookie second 1 true 0 0 0 0 fm.empty fm.empty fm.empty fm.empty fm.empty [])
        fm.empty

    late_exit_step_6 : (step late_exit_world_6 (Local first)).world ≡ late_exit_world_7
    late_exit_step_6 = simp of_worlds refl

    late_exit_is : run (unlinked_before_the_end reason) (two_nodes cookie) ≡ late_exit_world_7
    late_exit_is = passed late_exit_world_0 (unlinked_before_the_end reason)
        (late_exit_world_1 ∷ late_exit_world_2 ∷ late_exit_world_3 ∷ late_exit_world_4 ∷ late_exit_world_5 ∷ late_exit_world_6
        ∷ late_exit_world_7 ∷ []) (
          late_exit_step_0,
          (
            late_exit_step_1,
            (late_exit_step_2, (late_exit_step_3, (late_exit_step_4, (late_exit_step_5, (late_exit_step_6, tt))))),
          ),
        )

    pub late_exit_reported : (step (run (unlinked_before_the_end reason) (two_nodes cookie)) (Local first)).report ≡ Reported
        (Answer.Took Kind.Exit) []
    late_exit_reported = ap (λ w. (step w (Local first)).report) late_exit_is ∙ simp of_worlds refl

    pub late_exit_waits : end_between (run (unlinked_before_the_end reason) (two_nodes cookie)) here beside ≡ End.Pending 1
    late_exit_waits = ap (λ w. end_between w here beside) late_exit_is ∙ simp of_worlds refl

    abbrev dead_partner_world_0 : World
    dead_partner_world_0 = world
        (node cookie first 1 true 0 0 0 0 fm.empty fm.empty fm.empty fm.empty fm.empty [])
        (node cookie second 1 true 0 0 0 0 fm.empty fm.empty fm.empty fm.empty fm.empty [])
        fm.empty

    abbrev dead_partner_lives_of_first_1 : FinMap pid_cmp Life
    dead_partner_lives_of_first_1 = fm.insert fm.empty here (Living false [])

    abbrev dead_partner_world_1 : World
    dead_partner_world_1 = world
        (node cookie first 1 true 1 0 0 0 dead_partner_lives_of_first_1 fm.empty fm.empty fm.empty fm.empty [])
        (node cookie second 1 true 0 0 0 0 fm.empty fm.empty fm.empty fm.empty fm.empty [])
        fm.empty

    dead_partner_step_0 : (step dead_partner_world_0 (Call first Command.Spawn)).world ≡ dead_partner_world_1
    dead_partner_step_0 = refl

    abbrev dead_partner_lives_of_first_2 : FinMap pid_cmp Life
    dead_partner_lives_of_first_2 = fm.insert dead_partner_lives_of_first_1 beside (Living false [])

    abbrev dead_partner_world_2 : World
    dead_partner_world_2 = world
        (node cookie first 1 true 2 0 0 0 dead_partner_lives_of_first_2 fm.empty fm.empty fm.empty fm.empty [])
        (node cookie second 1 true 0 0 0 0 fm.empty fm.empty fm.empty fm.empty fm.empty [])
        fm.empty

    dead_partner_step_1 : (step dead_partner_world_1 (Call first Command.Spawn)).world ≡ dead_partner_world_2
    dead_partner_step_1 = refl

    abbrev dead_partner_lives_of_first_3 : FinMap pid_cmp Life
    dead_partner_lives_of_first_3 = fm.insert dead_partner_lives_of_first_2 here (Living true [])

    abbrev dead_partner_world_3 : World
    dead_partner_world_3 = world
        (node cookie first 1 true 2 0 0 0 dead_partner_lives_of_first_3 fm.empty fm.empty fm.empty fm.empty [])
        (node cookie second 1 true 0 0 0 0 fm.empty fm.empty fm.empty fm.empty fm.empty [])
        fm.empty

    dead_partner_step_2 : (step dead_partner_world_2 (Call first (Command.Trap here true))).world ≡ dead_partner_world_3
    dead_partner_step_2 = simp of_worlds refl

    abbrev dead_partner_lives_of_first_4 : FinMap pid_cmp Life
    dead_partner_lives_of_first_4 = fm.insert dead_partner_lives_of_first_3 beside (Ended reason)

    abbrev dead_partner_ends_of_first_1 : FinMap pair_cmp End
    dead_partner_ends_of_first_1 = fm.retain_keys fm.empty (λ pair. not (same_pid pair.0 beside))

    abbrev dead_partner_watches_of_first_1 : WatchMap
    dead_partner_watches_of_first_1 = without_owner fm.empty beside

    abbrev dead_partner_registered_of_first_1 : RegistrationMap
    dead_partner_registered_of_first_1 = without_held fm.empty beside

    abbrev dead_partner_world_4 : World
    dead_partner_world_4 = world
        (nameless beside (node cookie first 1 true 2 0 0 0 dead_partner_lives_of_first_4 dead_partner_ends_of_first_1 dead_partner_watches_of_first_1
        dead_partner_registered_of_first_1 fm.empty []))
        (node cookie second 1 true 0 0 0 0 fm.empty fm.empty fm.empty fm.empty fm.empty [])
        fm.empty

    dead_partner_step_3 : (step dead_partner_world_3 (Call first (Command.ExitSelf beside reason))).world ≡ dead_partner_world_4
    dead_partner_step_3 = simp (of_worlds, fitting) refl

    abbrev dead_partner_ends_of_first_2 : FinMap pair_cmp End
    dead_partner_ends_of_first_2 = fm.insert dead_partner_ends_of_first_1 (here, beside) End.Active

    abbrev dead_partner_world_5 : World
    dead_partner_world_5 = world
        (nameless beside (node cookie first 1 true 2 0 0 0 dead_partner_lives_of_first_4 dead_partner_ends_of_first_2 dead_partner_watches_of_first_1
        dead_partner_registered_of_first_1 fm.empty (Signalled (Signal.Link here beside) false ∷ [])))
        (node cookie second 1 true 0 0 0 0 fm.empty fm.empty fm.empty fm.empty fm.empty [])
        fm.empty

    dead_partner_step_4 : (step dead_partner_world_4 (Call first (Command.Link here beside))).world ≡ dead_partner_world_5
    dead_partner_step_4 = simp of_worlds refl

    abbrev dead_partner_world_6 : World
    dead_partner_world_6 = world
        (nameless beside (node cookie first 1 true 2 0 0 0 dead_partner_lives_of_first_4 dead_partner_ends_of_first_2 dead_partner_watches_of_first_1
        dead_partner_registered_of_first_1 fm.empty (Signalled (Signal.Exit beside here noproc) false ∷ [])))
        (node cookie second 1 true 0 0 0 0 fm.empty fm.empty fm.empty fm.empty fm.empty [])
        fm.empty

    dead_partner_step_5 : (step dead_partner_world_5 (Local first)).world ≡ dead_partner_world_6
    dead_partner_step_5 = simp of_worlds refl

    dead_partner_is : run (linked_to_the_dead reason) (two_nodes cookie) ≡ dead_partner_world_6
    dead_partner_is = passed dead_partner_world_0 (linked_to_the_dead reason)
        (dead_partner_world_1 ∷ dead_partner_world_2 ∷ dead_partner_world_3 ∷ dead_partner_world_4 ∷ dead_partner_world_5
        ∷ dead_partner_world_6 ∷ []) (
          dead_partner_step_0,
          (dead_partner_step_1, (dead_partner_step_2, (dead_partner_step_3, (dead_partner_step_4, (dead_partner_step_5, tt))))),
        )

    dead_partner_reported : (step (run (linked_to_the_dead reason) (two_nodes cookie)) (Local first)).report ≡ Reported
        (Answer.Took Kind.Exit) (Effect.LinkExit here beside noproc ∷ Effect.Put here (exit_term beside noproc) ∷ [])
    dead_partner_reported = ap (λ w. (step w (Local first)).report) dead_partner_is ∙ simp of_worlds refl

    pub dead_partner_tells : Reacts here beside noproc ((step (run (linked_to_the_dead reason) (two_nodes cookie)) (Local first)).report)
    dead_partner_tells = subst (λ r. Reacts here beside noproc r) (sym dead_partner_reported) (0, omega arith, refl)

    abbrev late_down_world_0 : World
    late_down_world_0 = world
        (node cookie first 1 true 0 0 0 0 fm.empty fm.empty fm.empty fm.empty fm.empty [])
        (node cookie second 1 true 0 0 0 0 fm.empty fm.empty fm.empty fm.empty fm.empty [])
        fm.empty

    abbrev late_down_lives_of_first_1 : FinMap pid_cmp Life
    late_down_lives_of_first_1 = fm.insert fm.empty here (Living false [])

    abbrev late_down_world_1 : World
    late_down_world_1 = world
        (node cookie first 1 true 1 0 0 0 late_down_lives_of_first_1 fm.empty fm.empty fm.empty fm.empty [])
        (node cookie second 1 true 0 0 0 0 fm.empty fm.empty fm.empty fm.empty fm.empty [])
        fm.empty

    late_down_step_0 : (step late_down_world_0 (Call first Command.Spawn)).world ≡ late_down_world_1
    late_down_step_0 = refl

    abbrev late_down_lives_of_first_2 : FinMap pid_cmp Life
    late_down_lives_of_first_2 = fm.insert late_down_lives_of_first_1 beside (Living false [])

    abbrev late_down_world_2 : World
    late_down_world_2 = world
        (node cookie first 1 true 2 0 0 0 late_down_lives_of_first_2 fm.empty fm.empty fm.empty fm.empty [])
        (node cookie second 1 true 0 0 0 0 fm.empty fm.empty fm.empty fm.empty fm.empty [])
        fm.empty

    late_down_step_1 : (step late_down_world_1 (Call first Command.Spawn)).world ≡ late_down_world_2
    late_down_step_1 = refl

    abbrev late_down_watches_of_first_1 : WatchMap
    late_down_watches_of_first_1 = fm.insert fm.empty reference (watch_of here (Target.Pid beside))

    abbrev late_down_world_3 : World
    late_down_world_3 = world
        (node cookie first 1 true 2 1 0 0 late_down_lives_of_first_2 fm.empty late_down_watches_of_first_1 fm.empty fm.empty
        (Signalled (Signal.Monitor here beside reference) false ∷ []))
        (node cookie second 1 true 0 0 0 0 fm.empty fm.empty fm.empty fm.empty fm.empty [])
        fm.empty

    late_down_step_2 : (step late_down_world_2 (Call first (Command.Monitor here beside))).world ≡ late_down_world_3
    late_down_step_2 = simp of_worlds refl

    abbrev late_down_registered_of_first_1 : RegistrationMap
    late_down_registered_of_first_1 = fm.insert fm.empty reference (registration_of here beside)

    abbrev late_down_world_4 : World
    late_down_world_4 = world
        (node cookie first 1 true 2 1 0 0 late_down_lives_of_first_2 fm.empty late_down_watches_of_first_1 late_down_registered_of_first_1
        fm.empty [])
        (node cookie second 1 true 0 0 0 0 fm.empty fm.empty fm.empty fm.empty fm.empty [])
        fm.empty

    late_down_step_3 : (step late_down_world_3 (Local first)).world ≡ late_down_world_4
    late_down_step_3 = simp of_worlds refl

    abbrev late_down_lives_of_first_3 : FinMap pid_cmp Life
    late_down_lives_of_first_3 = fm.insert late_down_lives_of_first_2 beside (Ended reason)

    abbrev late_down_ends_of_first_1 : FinMap pair_cmp End
    late_down_ends_of_first_1 = fm.retain_keys fm.empty (λ pair. not (same_pid pair.0 beside))

    abbrev late_down_watches_of_first_2 : WatchMap
    late_down_watches_of_first_2 = without_owner late_down_watches_of_first_1 beside

    abbrev late_down_registered_of_first_2 : RegistrationMap
    late_down_registered_of_first_2 = without_held late_down_registered_of_first_1 beside

    abbrev late_down_world_5 : World
    late_down_world_5 = world
        (nameless beside (node cookie first 1 true 2 1 0 0 late_down_lives_of_first_3 late_down_ends_of_first_1 late_down_watches_of_first_2
        late_down_registered_of_first_2 fm.empty (Signalled (Signal.MonitorExit beside here reference reason) false ∷ [])))
        (node cookie second 1 true 0 0 0 0 fm.empty fm.empty fm.empty fm.empty fm.empty [])
        fm.empty

    late_down_step_4 : (step late_down_world_4 (Call first (Command.ExitSelf beside reason))).world ≡ late_down_world_5
    late_down_step_4 = simp (of_worlds, fitting) refl

    abbrev late_down_watches_of_first_3 : WatchMap
    late_down_watches_of_first_3 = fm.remove late_down_watches_of_first_2 reference

    abbrev late_down_world_6 : World
    late_down_world_6 = world
        (nameless beside (node cookie first 1 true 2 1 0 0 late_down_lives_of_first_3 late_down_ends_of_first_1 late_down_watches_of_first_3
        late_down_registered_of_first_2 fm.empty
        (Signalled (Signal.MonitorExit beside here reference reason) false ∷ Signalled (Signal.Demonitor here beside reference) false ∷ [])))
        (node cookie second 1 true 0 0 0 0 fm.empty fm.empty fm.empty fm.empty fm.empty [])
        fm.empty

    late_down_step_5 : (step late_down_world_5 (Call first (Command.Demonitor here reference))).world ≡ late_down_world_6
    late_down_step_5 = simp of_worlds refl

    late_down_is : run (demonitored_after_the_end reason) (two_nodes cookie) ≡ late_down_world_6
    late_down_is = passed late_down_world_0 (demonitored_after_the_end reason)
        (late_down_world_1 ∷ late_down_world_2 ∷ late_down_world_3 ∷ late_down_world_4 ∷ late_down_world_5 ∷ late_down_world_6 ∷ [])
        (late_down_step_0, (late_down_step_1, (late_down_step_2, (late_down_step_3, (late_down_step_4, (late_down_step_5, tt))))))

    pub late_down_reported : (step (run (demonitored_after_the_end reason) (two_nodes cookie)) (Local first)).report ≡ Reported
        (Answer.Took Kind.MonitorExit) []
    late_down_reported = ap (λ w. (step w (Local first)).report) late_down_is ∙ simp of_worlds refl
