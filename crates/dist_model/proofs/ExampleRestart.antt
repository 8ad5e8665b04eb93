-- A run of two nodes, step by step: a process of an incarnation that is over is monitored.
use Rattle.link_core.specs.News.{noproc}
use Rattle.std.proofs.Common.{◌≡◌, ℕ, true, false, List, [], ◌∷◌, ◌++◌, refl, ap, ◌∙◌}
use Rattle.std.specs.FinMap as fm
use Rattle.std.specs.FinMap.{FinMap}
use Rattle.dist_model.proofs.ExampleLinks.{connected_is, lists9, lives_of_first_1, lives_of_second_1, sides_of_first_3, sides_of_second_1}
use Rattle.dist_model.proofs.ExampleMaps.{knows}
use Rattle.dist_model.proofs.RunMoments.{passed, run_on}
use Rattle.dist_model.specs.declared.command.Command.{Command}
use Rattle.dist_model.specs.Downs.{downs, downs_by}
use Rattle.dist_model.specs.Histories.{history}
use Rattle.dist_model.specs.Items.{Handshake, Item, Signalled}
use Rattle.dist_model.specs.Names.{place_cmp}
use Rattle.dist_model.specs.Node.{Life, Living}
use Rattle.dist_model.specs.Runs.{run}
use Rattle.dist_model.specs.Schedules.{plain, connected_over_a_trunk, first, here, monitored_after_a_restart}
use Rattle.dist_model.specs.Schedules.{monitoring_the_former, reference, second, there, trunk, two_nodes}
use Rattle.dist_model.specs.Sides.{Accepting, AwaitsAck, AwaitsChallenge, AwaitsStatus, Gone, Losing, TrunkSide, Up}
use Rattle.dist_model.specs.World.{Arrive, Call, Dial, Lose, Start, Stop, Sweep, World, step}
use Rattle.erl_control.specs.declared.signal.Signal.{Signal}
use Rattle.erl_handshake.specs.Digest.{digest_of}
use Rattle.erl_handshake.specs.Flags.{mandatory}
use Rattle.erl_handshake.specs.declared.message.ShakeMsg.{ShakeMsg}
use Rattle.erl_handshake.specs.declared.status.Status.{Status}
use Rattle.erl_names.specs.Order.{trunk_cmp}
use Rattle.erl_term.specs.Order.{pid_cmp}
use Rattle.monitor_core.specs.Monitors.{WatchMap, watch_of}
use Rattle.monitor_core.specs.declared.monitor.Target.{Target}
use Rattle.dist_model.proofs.ExampleWorlds.{node, of_worlds, told_once, world}
use Rattle.dist_model.proofs.ExampleLinks.{plainly}
use Rattle.dist_model.specs.Sides.{untold}

module _ (cookie : List ℕ) (own other : ℕ) where
  -- ---- a process of an incarnation that is over is monitored

  abbrev restart_world_0 : World
  restart_world_0 = world
      (node cookie first 1 true 1 0 0 1 (lives_of_first_1 cookie own other) fm.empty fm.empty fm.empty
      (sides_of_first_3 cookie own other) [])
      (node cookie second 1 true 1 0 0 0 (lives_of_second_1 cookie own other) fm.empty fm.empty fm.empty
      (sides_of_second_1 cookie own other) [])
      (lists9 cookie own other)

  abbrev restart_sides_of_second_1 : FinMap trunk_cmp TrunkSide
  restart_sides_of_second_1 = fm.insert fm.empty (trunk 1) (record { peer = first; introduction = untold; state = Gone })

  abbrev restart_world_1 : World
  restart_world_1 = world
      (node cookie first 1 true 1 0 0 1 (lives_of_first_1 cookie own other) fm.empty fm.empty fm.empty
      (sides_of_first_3 cookie own other) [])
      (node cookie second 1 false 1 0 0 0 fm.empty fm.empty fm.empty fm.empty restart_sides_of_second_1 [])
      (lists9 cookie own other)

  restart_step_0 : (step restart_world_0 (Stop second)).world ≡ restart_world_1
  restart_step_0 = simp of_worlds refl

  abbrev restart_world_2 : World
  restart_world_2 = world
      (node cookie first 1 true 1 0 0 1 (lives_of_first_1 cookie own other) fm.empty fm.empty fm.empty
      (sides_of_first_3 cookie own other) [])
      (node cookie second 2 true 0 0 0 0 fm.empty fm.empty fm.empty fm.empty restart_sides_of_second_1 [])
      (lists9 cookie own other)

  restart_step_1 : (step restart_world_1 (Start second)).world ≡ restart_world_2
  restart_step_1 = simp of_worlds refl

  abbrev restart_lives_of_second_1 : FinMap pid_cmp Life
  restart_lives_of_second_1 = fm.insert fm.empty (record { node = second; creation = 2; id = 1; serial = 0 }) (Living false [])

  abbrev restart_world_3 : World
  restart_world_3 = world
      (node cookie first 1 true 1 0 0 1 (lives_of_first_1 cookie own other) fm.empty fm.empty fm.empty
      (sides_of_first_3 cookie own other) [])
      (node cookie second 2 true 1 0 0 0 restart_lives_of_second_1 fm.empty fm.empty fm.empty restart_sides_of_second_1 [])
      (lists9 cookie own other)

  restart_step_2 : (step restart_world_2 (Call second Command.Spawn)).world ≡ restart_world_3
  restart_step_2 = refl

  abbrev restart_sides_of_first_1 : FinMap trunk_cmp TrunkSide
  restart_sides_of_first_1 = fm.insert (sides_of_first_3 cookie own other) (trunk 1)
      (record { peer = second; introduction = plainly 1; state = Losing })

  abbrev restart_world_4 : World
  restart_world_4 = world
      (node cookie first 1 true 1 0 0 1 (lives_of_first_1 cookie own other) fm.empty fm.empty fm.empty restart_sides_of_first_1 [])
      (node cookie second 2 true 1 0 0 0 restart_lives_of_second_1 fm.empty fm.empty fm.empty restart_sides_of_second_1 [])
      (lists9 cookie own other)

  restart_step_3 : (step restart_world_3 (Lose (trunk 1) first)).world ≡ restart_world_4
  restart_step_3 = simp of_worlds refl

  abbrev restart_sides_of_first_2 : FinMap trunk_cmp TrunkSide
  restart_sides_of_first_2 = fm.insert restart_sides_of_first_1 (trunk 1) (record { peer = second; introduction = untold; state = Gone })

  abbrev restart_world_5 : World
  restart_world_5 = world
      (node cookie first 1 true 1 0 0 1 (lives_of_first_1 cookie own other) fm.empty fm.empty fm.empty restart_sides_of_first_2 [])
      (node cookie second 2 true 1 0 0 0 restart_lives_of_second_1 fm.empty fm.empty fm.empty restart_sides_of_second_1 [])
      (lists9 cookie own other)

  restart_step_4 : (step restart_world_4 (Sweep first)).world ≡ restart_world_5
  restart_step_4 = simp of_worlds refl

  abbrev restart_sides_of_first_3 : FinMap trunk_cmp TrunkSide
  restart_sides_of_first_3 = fm.insert restart_sides_of_first_2 (trunk 2)
      (record { peer = second; introduction = untold; state = AwaitsStatus own })

  abbrev restart_lists_1 : FinMap place_cmp (List Item)
  restart_lists_1 = fm.insert (lists9 cookie own other) (trunk 2, second) (Handshake (ShakeMsg.SendName mandatory 1 first) ∷ [])

  abbrev restart_world_6 : World
  restart_world_6 = world
      (node cookie first 1 true 1 0 0 2 (lives_of_first_1 cookie own other) fm.empty fm.empty fm.empty restart_sides_of_first_3 [])
      (node cookie second 2 true 1 0 0 0 restart_lives_of_second_1 fm.empty fm.empty fm.empty restart_sides_of_second_1 [])
      restart_lists_1

  restart_step_5 : (step restart_world_5 (Dial first second own)).world ≡ restart_world_6
  restart_step_5 = simp of_worlds refl

  abbrev restart_lists_2 : FinMap place_cmp (List Item)
  restart_lists_2 = fm.insert restart_lists_1 (trunk 2, second) []

  abbrev restart_sides_of_second_2 : FinMap trunk_cmp TrunkSide
  restart_sides_of_second_2 = fm.insert restart_sides_of_second_1 (trunk 2)
      (record { peer = first; introduction = plainly 1; state = Accepting other })

  abbrev restart_lists_3 : FinMap place_cmp (List Item)
  restart_lists_3 = fm.insert restart_lists_2 (trunk 2, first) (Handshake (ShakeMsg.Status Status.Ok) ∷ [])

  abbrev restart_lists_4 : FinMap place_cmp (List Item)
  restart_lists_4 = fm.insert restart_lists_3 (trunk 2, first)
      (Handshake (ShakeMsg.Status Status.Ok) ∷ Handshake (ShakeMsg.Challenge mandatory other 2 second) ∷ [])

  abbrev restart_world_7 : World
  restart_world_7 = world
      (node cookie first 1 true 1 0 0 2 (lives_of_first_1 cookie own other) fm.empty fm.empty fm.empty restart_sides_of_first_3 [])
      (node cookie second 2 true 1 0 0 0 restart_lives_of_second_1 fm.empty fm.empty fm.empty restart_sides_of_second_2 [])
      restart_lists_4

  restart_step_6 : (step restart_world_6 (Arrive (trunk 2) second other)).world ≡ restart_world_7
  restart_step_6 = simp of_worlds refl

  abbrev restart_lists_5 : FinMap place_cmp (List Item)
  restart_lists_5 = fm.insert restart_lists_4 (trunk 2, first) (Handshake (ShakeMsg.Challenge mandatory other 2 second) ∷ [])

  abbrev restart_sides_of_first_4 : FinMap trunk_cmp TrunkSide
  restart_sides_of_first_4 = fm.insert restart_sides_of_first_3 (trunk 2)
      (record { peer = second; introduction = untold; state = AwaitsChallenge own })

  abbrev restart_world_8 : World
  restart_world_8 = world
      (node cookie first 1 true 1 0 0 2 (lives_of_first_1 cookie own other) fm.empty fm.empty fm.empty restart_sides_of_first_4 [])
      (node cookie second 2 true 1 0 0 0 restart_lives_of_second_1 fm.empty fm.empty fm.empty restart_sides_of_second_2 [])
      restart_lists_5

  restart_step_7 : (step restart_world_7 (Arrive (trunk 2) first 0)).world ≡ restart_world_8
  restart_step_7 = simp of_worlds refl

  abbrev restart_lists_6 : FinMap place_cmp (List Item)
  restart_lists_6 = fm.insert restart_lists_5 (trunk 2, first) []

  abbrev restart_sides_of_first_5 : FinMap trunk_cmp TrunkSide
  restart_sides_of_first_5 = fm.insert restart_sides_of_first_4 (trunk 2)
      (record { peer = second; introduction = plainly 2; state = AwaitsAck own })

  abbrev restart_lists_7 : FinMap place_cmp (List Item)
  restart_lists_7 = fm.insert restart_lists_6 (trunk 2, second) (Handshake (ShakeMsg.ChallengeReply own (digest_of cookie other)) ∷ [])

  abbrev restart_world_9 : World
  restart_world_9 = world
      (node cookie first 1 true 1 0 0 2 (lives_of_first_1 cookie own other) fm.empty fm.empty fm.empty restart_sides_of_first_5 [])
      (node cookie second 2 true 1 0 0 0 restart_lives_of_second_1 fm.empty fm.empty fm.empty restart_sides_of_second_2 [])
      restart_lists_7

  restart_step_8 : (step restart_world_8 (Arrive (trunk 2) first 0)).world ≡ restart_world_9
  restart_step_8 = simp of_worlds refl

  abbrev restart_lists_8 : FinMap place_cmp (List Item)
  restart_lists_8 = fm.insert restart_lists_7 (trunk 2, second) []

  abbrev restart_sides_of_second_3 : FinMap trunk_cmp TrunkSide
  restart_sides_of_second_3 = fm.insert restart_sides_of_second_2 (trunk 2) (record { peer = first; introduction = plainly 1; state = Up })

  abbrev restart_lists_9 : FinMap place_cmp (List Item)
  restart_lists_9 = fm.insert restart_lists_8 (trunk 2, first) (Handshake (ShakeMsg.ChallengeAck (digest_of cookie own)) ∷ [])

  abbrev restart_world_10 : World
  restart_world_10 = world
      (node cookie first 1 true 1 0 0 2 (lives_of_first_1 cookie own other) fm.empty fm.empty fm.empty restart_sides_of_first_5 [])
      (node cookie second 2 true 1 0 0 0 restart_lives_of_second_1 fm.empty fm.empty fm.empty restart_sides_of_second_3 [])
      restart_lists_9

  restart_step_9 : (step restart_world_9 (Arrive (trunk 2) second 0)).world ≡ restart_world_10
  restart_step_9 = simp (of_worlds, knows) refl

  abbrev restart_lists_10 : FinMap place_cmp (List Item)
  restart_lists_10 = fm.insert restart_lists_9 (trunk 2, first) []

  abbrev restart_sides_of_first_6 : FinMap trunk_cmp TrunkSide
  restart_sides_of_first_6 = fm.insert restart_sides_of_first_5 (trunk 2) (record { peer = second; introduction = plainly 2; state = Up })

  abbrev restart_world_11 : World
  restart_world_11 = world
      (node cookie first 1 true 1 0 0 2 (lives_of_first_1 cookie own other) fm.empty fm.empty fm.empty restart_sides_of_first_6 [])
      (node cookie second 2 true 1 0 0 0 restart_lives_of_second_1 fm.empty fm.empty fm.empty restart_sides_of_second_3 [])
      restart_lists_10

  restart_step_10 : (step restart_world_10 (Arrive (trunk 2) first 0)).world ≡ restart_world_11
  restart_step_10 = simp (of_worlds, knows) refl

  abbrev restart_watches_of_first_1 : WatchMap
  restart_watches_of_first_1 = fm.insert fm.empty reference (watch_of here (Target.Pid there))

  abbrev restart_lists_11 : FinMap place_cmp (List Item)
  restart_lists_11 = fm.insert restart_lists_10 (trunk 2, second) (Signalled (Signal.Monitor here there reference) false ∷ [])

  abbrev restart_world_12 : World
  restart_world_12 = world
      (node cookie first 1 true 1 1 0 2
      (lives_of_first_1 cookie own other) fm.empty restart_watches_of_first_1 fm.empty restart_sides_of_first_6 [])
      (node cookie second 2 true 1 0 0 0 restart_lives_of_second_1 fm.empty fm.empty fm.empty restart_sides_of_second_3 [])
      restart_lists_11

  restart_step_11 : (step restart_world_11 (Call first (Command.Monitor here there))).world ≡ restart_world_12
  restart_step_11 = simp of_worlds refl

  abbrev restart_lists_12 : FinMap place_cmp (List Item)
  restart_lists_12 = fm.insert restart_lists_11 (trunk 2, second) []

  abbrev restart_lists_13 : FinMap place_cmp (List Item)
  restart_lists_13 = fm.insert restart_lists_12 (trunk 2, first) (Signalled (Signal.MonitorExit there here reference noproc) false ∷ [])

  abbrev restart_world_13 : World
  restart_world_13 = world
      (node cookie first 1 true 1 1 0 2
      (lives_of_first_1 cookie own other) fm.empty restart_watches_of_first_1 fm.empty restart_sides_of_first_6 [])
      (node cookie second 2 true 1 0 0 0 restart_lives_of_second_1 fm.empty fm.empty fm.empty restart_sides_of_second_3 [])
      restart_lists_13

  restart_step_12 : (step restart_world_12 (Arrive (trunk 2) second 0)).world ≡ restart_world_13
  restart_step_12 = simp of_worlds refl

  restart_is : run (connected_over_a_trunk own other ++ monitoring_the_former own other) (two_nodes cookie) ≡ restart_world_13
  restart_is = run_on (connected_over_a_trunk own other) (monitoring_the_former own other) (two_nodes cookie)
      ∙ ap (run (monitoring_the_former own other)) (connected_is cookie own other)
      ∙ passed restart_world_0 (monitoring_the_former own other)
      (restart_world_1 ∷ restart_world_2 ∷ restart_world_3 ∷ restart_world_4 ∷ restart_world_5 ∷ restart_world_6 ∷ restart_world_7
      ∷ restart_world_8 ∷ restart_world_9 ∷ restart_world_10 ∷ restart_world_11 ∷ restart_world_12 ∷ restart_world_13 ∷ []) (
        restart_step_0,
        (
          restart_step_1,
          (
            restart_step_2,
            (
              restart_step_3,
              (
                restart_step_4,
                (
                  restart_step_5,
                  (
                    restart_step_6,
                    (
                      restart_step_7,
                      (restart_step_8, (restart_step_9, (restart_step_10, (restart_step_11, (restart_step_12, tt))))),
                    ),
                  ),
                ),
              ),
            ),
          ),
        ),
      )

  restart_down : downs_by reference (Arrive (trunk 2) first 0)
      ((step (run (connected_over_a_trunk own other ++ monitoring_the_former own other) (two_nodes cookie))
      (Arrive (trunk 2) first 0)).report) ≡ (record { owner = here; target = Target.Pid there; info = noproc }) ∷ []
  restart_down = ap (λ w. downs_by reference (Arrive (trunk 2) first 0) ((step w (Arrive (trunk 2) first 0)).report)) restart_is
      ∙ simp of_worlds refl

  pub restart_tells : downs reference (history (monitored_after_a_restart own other) (two_nodes cookie)) ≡
      (record { owner = here; target = Target.Pid there; info = noproc }) ∷ []
  restart_tells = told_once ((first, plain cookie) ∷ (second, plain cookie) ∷ []) (connected_over_a_trunk own other ++ monitoring_the_former own other)
      (Arrive (trunk 2) first 0) reference _ restart_down
