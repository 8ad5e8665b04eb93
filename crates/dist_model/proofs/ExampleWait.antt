-- A run of two nodes, step by step: a dial waits for the sweep of an older connection, and goes on.
use Rattle.dist_model.proofs.Seen.{side_in}
use Rattle.std.proofs.Common.{◌≡◌, ℕ, true, List, [], ◌∷◌, refl, ap, ◌∙◌}
use Rattle.std.specs.FinMap as fm
use Rattle.std.specs.FinMap.{FinMap}
use Rattle.dist_model.proofs.ExampleLinks.{ends_of_first_0, ends_of_second_0, linked_is, lists11, lives_of_first_1}
use Rattle.dist_model.proofs.ExampleLinks.{lives_of_second_1, sides_of_first_3, sides_of_second_1}
use Rattle.dist_model.proofs.ExampleMaps.{knows}
use Rattle.dist_model.proofs.RunMoments.{passed, run_on}
use Rattle.dist_model.specs.Items.{Handshake, Item}
use Rattle.dist_model.specs.Names.{place_cmp}
use Rattle.dist_model.specs.Node.{Life, Living}
use Rattle.dist_model.specs.Runs.{run}
use Rattle.dist_model.specs.Schedules.{dialing_again, first, going_on, gone_on_over_a_trunk, here}
use Rattle.dist_model.specs.Schedules.{linked_over_a_trunk, second, there, trunk, two_nodes, waiting_over_a_trunk}
use Rattle.dist_model.specs.Seen.{HasSide, end_between}
use Rattle.dist_model.specs.Sides.{Accepting, Asked, AwaitsAck, AwaitsChallenge, AwaitsStatus}
use Rattle.dist_model.specs.Sides.{Gone, Losing, Parked, TrunkSide, Up, is_parked, is_up}
use Rattle.dist_model.specs.World.{Arrive, Dial, Lose, Sweep, World, node_of, step}
use Rattle.erl_handshake.specs.Digest.{digest_of}
use Rattle.erl_handshake.specs.Flags.{mandatory}
use Rattle.erl_handshake.specs.declared.message.ShakeMsg.{ShakeMsg}
use Rattle.erl_handshake.specs.declared.status.Status.{Status}
use Rattle.erl_names.specs.Order.{trunk_cmp}
use Rattle.erl_term.specs.Order.{pid_cmp}
use Rattle.exit_core.specs.Messages.{exit_term}
use Rattle.link_core.specs.declared.end.End.{End}
use Rattle.link_core.specs.News.{noconnection}
use Rattle.dist_model.proofs.ExampleWorlds.{node, of_worlds, world}
use Rattle.dist_model.proofs.ExampleLinks.{plainly}
use Rattle.dist_model.specs.Sides.{untold}

module _ (cookie : List ℕ) (own other : ℕ) where
  -- ---- a dial waits for the sweep of an older connection

  abbrev waiting_world_0 : World
  waiting_world_0 = world
      (node cookie first 1 true 1 0 0 1 (lives_of_first_1 cookie own other) (ends_of_first_0 cookie own other) fm.empty fm.empty
      (sides_of_first_3 cookie own other) [])
      (node cookie second 1 true 1 0 0 0 (lives_of_second_1 cookie own other) (ends_of_second_0 cookie own other) fm.empty fm.empty
      (sides_of_second_1 cookie own other) [])
      (lists11 cookie own other)

  abbrev waiting_sides_of_first_1 : FinMap trunk_cmp TrunkSide
  waiting_sides_of_first_1 = fm.insert (sides_of_first_3 cookie own other) (trunk 1)
      (record { peer = second; introduction = plainly 1; state = Losing })

  abbrev waiting_world_1 : World
  waiting_world_1 = world
      (node cookie first 1 true 1 0 0 1 (lives_of_first_1 cookie own other)
      (ends_of_first_0 cookie own other) fm.empty fm.empty waiting_sides_of_first_1 [])
      (node cookie second 1 true 1 0 0 0 (lives_of_second_1 cookie own other) (ends_of_second_0 cookie own other) fm.empty fm.empty
      (sides_of_second_1 cookie own other) [])
      (lists11 cookie own other)

  waiting_step_0 : (step waiting_world_0 (Lose (trunk 1) first)).world ≡ waiting_world_1
  waiting_step_0 = simp of_worlds refl

  abbrev waiting_lives_of_first_1 : FinMap pid_cmp Life
  waiting_lives_of_first_1 = fm.insert (lives_of_first_1 cookie own other) here (Living true (exit_term there noconnection ∷ []))

  abbrev waiting_sides_of_first_2 : FinMap trunk_cmp TrunkSide
  waiting_sides_of_first_2 = fm.insert waiting_sides_of_first_1 (trunk 1) (record { peer = second; introduction = untold; state = Gone })

  abbrev waiting_world_2 : World
  waiting_world_2 = world
      (node cookie first 1 true 1 0 0 1 waiting_lives_of_first_1 fm.empty fm.empty fm.empty waiting_sides_of_first_2 [])
      (node cookie second 1 true 1 0 0 0 (lives_of_second_1 cookie own other) (ends_of_second_0 cookie own other) fm.empty fm.empty
      (sides_of_second_1 cookie own other) [])
      (lists11 cookie own other)

  waiting_step_1 : (step waiting_world_1 (Sweep first)).world ≡ waiting_world_2
  waiting_step_1 = simp of_worlds refl

  abbrev waiting_sides_of_first_3 : FinMap trunk_cmp TrunkSide
  waiting_sides_of_first_3 = fm.insert waiting_sides_of_first_2 (trunk 2)
      (record { peer = second; introduction = untold; state = AwaitsStatus own })

  abbrev waiting_lists_1 : FinMap place_cmp (List Item)
  waiting_lists_1 = fm.insert (lists11 cookie own other) (trunk 2, second) (Handshake (ShakeMsg.SendName mandatory 1 first) ∷ [])

  abbrev waiting_world_3 : World
  waiting_world_3 = world
      (node cookie first 1 true 1 0 0 2 waiting_lives_of_first_1 fm.empty fm.empty fm.empty waiting_sides_of_first_3 [])
      (node cookie second 1 true 1 0 0 0 (lives_of_second_1 cookie own other) (ends_of_second_0 cookie own other) fm.empty fm.empty
      (sides_of_second_1 cookie own other) [])
      waiting_lists_1

  waiting_step_2 : (step waiting_world_2 (Dial first second own)).world ≡ waiting_world_3
  waiting_step_2 = simp of_worlds refl

  abbrev waiting_lists_2 : FinMap place_cmp (List Item)
  waiting_lists_2 = fm.insert waiting_lists_1 (trunk 2, second) []

  abbrev waiting_sides_of_second_1 : FinMap trunk_cmp TrunkSide
  waiting_sides_of_second_1 = fm.insert (sides_of_second_1 cookie own other) (trunk 2)
      (record { peer = first; introduction = plainly 1; state = Asked other })

  abbrev waiting_lists_3 : FinMap place_cmp (List Item)
  waiting_lists_3 = fm.insert waiting_lists_2 (trunk 2, first) (Handshake (ShakeMsg.Status Status.Alive) ∷ [])

  abbrev waiting_world_4 : World
  waiting_world_4 = world
      (node cookie first 1 true 1 0 0 2 waiting_lives_of_first_1 fm.empty fm.empty fm.empty waiting_sides_of_first_3 [])
      (node cookie second 1 true 1 0 0 0 (lives_of_second_1 cookie own other)
      (ends_of_second_0 cookie own other) fm.empty fm.empty waiting_sides_of_second_1 [])
      waiting_lists_3

  waiting_step_3 : (step waiting_world_3 (Arrive (trunk 2) second other)).world ≡ waiting_world_4
  waiting_step_3 = simp of_worlds refl

  abbrev waiting_lists_4 : FinMap place_cmp (List Item)
  waiting_lists_4 = fm.insert waiting_lists_3 (trunk 2, first) []

  abbrev waiting_sides_of_first_4 : FinMap trunk_cmp TrunkSide
  waiting_sides_of_first_4 = fm.insert waiting_sides_of_first_3 (trunk 2)
      (record { peer = second; introduction = untold; state = AwaitsChallenge own })

  abbrev waiting_lists_5 : FinMap place_cmp (List Item)
  waiting_lists_5 = fm.insert waiting_lists_4 (trunk 2, second) (Handshake (ShakeMsg.Status Status.True) ∷ [])

  abbrev waiting_world_5 : World
  waiting_world_5 = world
      (node cookie first 1 true 1 0 0 2 waiting_lives_of_first_1 fm.empty fm.empty fm.empty waiting_sides_of_first_4 [])
      (node cookie second 1 true 1 0 0 0 (lives_of_second_1 cookie own other)
      (ends_of_second_0 cookie own other) fm.empty fm.empty waiting_sides_of_second_1 [])
      waiting_lists_5

  waiting_step_4 : (step waiting_world_4 (Arrive (trunk 2) first 0)).world ≡ waiting_world_5
  waiting_step_4 = simp of_worlds refl

  abbrev waiting_lists_6 : FinMap place_cmp (List Item)
  waiting_lists_6 = fm.insert waiting_lists_5 (trunk 2, second) []

  abbrev waiting_sides_of_second_2 : FinMap trunk_cmp TrunkSide
  waiting_sides_of_second_2 = fm.insert waiting_sides_of_second_1 (trunk 1) (record { peer = first; introduction = plainly 1; state = Losing })

  abbrev waiting_sides_of_second_3 : FinMap trunk_cmp TrunkSide
  waiting_sides_of_second_3 = fm.insert waiting_sides_of_second_2 (trunk 2)
      (record { peer = first; introduction = plainly 1; state = Parked other })

  abbrev waiting_world_6 : World
  waiting_world_6 = world
      (node cookie first 1 true 1 0 0 2 waiting_lives_of_first_1 fm.empty fm.empty fm.empty waiting_sides_of_first_4 [])
      (node cookie second 1 true 1 0 0 0 (lives_of_second_1 cookie own other)
      (ends_of_second_0 cookie own other) fm.empty fm.empty waiting_sides_of_second_3 [])
      waiting_lists_6

  waiting_step_5 : (step waiting_world_5 (Arrive (trunk 2) second 0)).world ≡ waiting_world_6
  waiting_step_5 = simp of_worlds refl

  abbrev waiting_lives_of_second_1 : FinMap pid_cmp Life
  waiting_lives_of_second_1 = fm.insert (lives_of_second_1 cookie own other) there (Living true (exit_term here noconnection ∷ []))

  abbrev waiting_sides_of_second_4 : FinMap trunk_cmp TrunkSide
  waiting_sides_of_second_4 = fm.insert waiting_sides_of_second_3 (trunk 1) (record { peer = first; introduction = untold; state = Gone })

  abbrev waiting_sides_of_second_5 : FinMap trunk_cmp TrunkSide
  waiting_sides_of_second_5 = fm.insert waiting_sides_of_second_4 (trunk 2)
      (record { peer = first; introduction = plainly 1; state = Accepting other })

  abbrev waiting_lists_7 : FinMap place_cmp (List Item)
  waiting_lists_7 = fm.insert waiting_lists_6 (trunk 2, first) (Handshake (ShakeMsg.Challenge mandatory other 1 second) ∷ [])

  abbrev waiting_world_7 : World
  waiting_world_7 = world
      (node cookie first 1 true 1 0 0 2 waiting_lives_of_first_1 fm.empty fm.empty fm.empty waiting_sides_of_first_4 [])
      (node cookie second 1 true 1 0 0 0 waiting_lives_of_second_1 fm.empty fm.empty fm.empty waiting_sides_of_second_5 [])
      waiting_lists_7

  waiting_step_6 : (step waiting_world_6 (Sweep second)).world ≡ waiting_world_7
  waiting_step_6 = simp of_worlds refl

  abbrev waiting_lists_8 : FinMap place_cmp (List Item)
  waiting_lists_8 = fm.insert waiting_lists_7 (trunk 2, first) []

  abbrev waiting_sides_of_first_5 : FinMap trunk_cmp TrunkSide
  waiting_sides_of_first_5 = fm.insert waiting_sides_of_first_4 (trunk 2)
      (record { peer = second; introduction = plainly 1; state = AwaitsAck own })

  abbrev waiting_lists_9 : FinMap place_cmp (List Item)
  waiting_lists_9 = fm.insert waiting_lists_8 (trunk 2, second) (Handshake (ShakeMsg.ChallengeReply own (digest_of cookie other)) ∷ [])

  abbrev waiting_world_8 : World
  waiting_world_8 = world
      (node cookie first 1 true 1 0 0 2 waiting_lives_of_first_1 fm.empty fm.empty fm.empty waiting_sides_of_first_5 [])
      (node cookie second 1 true 1 0 0 0 waiting_lives_of_second_1 fm.empty fm.empty fm.empty waiting_sides_of_second_5 [])
      waiting_lists_9

  waiting_step_7 : (step waiting_world_7 (Arrive (trunk 2) first 0)).world ≡ waiting_world_8
  waiting_step_7 = simp of_worlds refl

  abbrev waiting_lists_10 : FinMap place_cmp (List Item)
  waiting_lists_10 = fm.insert waiting_lists_9 (trunk 2, second) []

  abbrev waiting_sides_of_second_6 : FinMap trunk_cmp TrunkSide
  waiting_sides_of_second_6 = fm.insert waiting_sides_of_second_5 (trunk 2) (record { peer = first; introduction = plainly 1; state = Up })

  abbrev waiting_lists_11 : FinMap place_cmp (List Item)
  waiting_lists_11 = fm.insert waiting_lists_10 (trunk 2, first) (Handshake (ShakeMsg.ChallengeAck (digest_of cookie own)) ∷ [])

  abbrev waiting_world_9 : World
  waiting_world_9 = world
      (node cookie first 1 true 1 0 0 2 waiting_lives_of_first_1 fm.empty fm.empty fm.empty waiting_sides_of_first_5 [])
      (node cookie second 1 true 1 0 0 0 waiting_lives_of_second_1 fm.empty fm.empty fm.empty waiting_sides_of_second_6 [])
      waiting_lists_11

  waiting_step_8 : (step waiting_world_8 (Arrive (trunk 2) second 0)).world ≡ waiting_world_9
  waiting_step_8 = simp (of_worlds, knows) refl

  abbrev waiting_lists_12 : FinMap place_cmp (List Item)
  waiting_lists_12 = fm.insert waiting_lists_11 (trunk 2, first) []

  abbrev waiting_sides_of_first_6 : FinMap trunk_cmp TrunkSide
  waiting_sides_of_first_6 = fm.insert waiting_sides_of_first_5 (trunk 2) (record { peer = second; introduction = plainly 1; state = Up })

  abbrev waiting_world_10 : World
  waiting_world_10 = world
      (node cookie first 1 true 1 0 0 2 waiting_lives_of_first_1 fm.empty fm.empty fm.empty waiting_sides_of_first_6 [])
      (node cookie second 1 true 1 0 0 0 waiting_lives_of_second_1 fm.empty fm.empty fm.empty waiting_sides_of_second_6 [])
      waiting_lists_12

  waiting_step_9 : (step waiting_world_9 (Arrive (trunk 2) first 0)).world ≡ waiting_world_10
  waiting_step_9 = simp (of_worlds, knows) refl

  waiting_is : run (waiting_over_a_trunk own other) (two_nodes cookie) ≡ waiting_world_6
  waiting_is = run_on (linked_over_a_trunk own other) (dialing_again own other) (two_nodes cookie)
      ∙ ap (run (dialing_again own other)) (linked_is cookie own other)
      ∙ passed waiting_world_0 (dialing_again own other)
      (waiting_world_1 ∷ waiting_world_2 ∷ waiting_world_3 ∷ waiting_world_4 ∷ waiting_world_5 ∷ waiting_world_6 ∷ [])
      (waiting_step_0, (waiting_step_1, (waiting_step_2, (waiting_step_3, (waiting_step_4, (waiting_step_5, tt))))))

  gone_on_is : run (gone_on_over_a_trunk own other) (two_nodes cookie) ≡ waiting_world_10
  gone_on_is = run_on (waiting_over_a_trunk own other) going_on (two_nodes cookie) ∙ ap (run going_on) waiting_is
      ∙ passed waiting_world_6 going_on (waiting_world_7 ∷ waiting_world_8 ∷ waiting_world_9 ∷ waiting_world_10 ∷ [])
      (waiting_step_6, (waiting_step_7, (waiting_step_8, (waiting_step_9, tt))))

  pub parked_there : HasSide (run (waiting_over_a_trunk own other) (two_nodes cookie)) second (trunk 2) first is_parked
  parked_there = record {
    side = record { peer = first; introduction = plainly 1; state = Parked other };
    there = ap
        (λ w. side_in (node_of w.nodes second) (trunk 2)) waiting_is ∙ simp of_worlds refl;
    peer = refl;
    state = refl;
  }

  pub kept_there : end_between (run (waiting_over_a_trunk own other) (two_nodes cookie)) there here ≡ End.Active
  kept_there = ap (λ w. end_between w there here) waiting_is ∙ simp of_worlds refl

  pub up_here : HasSide (run (gone_on_over_a_trunk own other) (two_nodes cookie)) first (trunk 2) second is_up
  up_here = record {
    side = record { peer = second; introduction = plainly 1; state = Up };
    there = ap
        (λ w. side_in (node_of w.nodes first) (trunk 2)) gone_on_is ∙ simp of_worlds refl;
    peer = refl;
    state = refl;
  }

  pub up_there : HasSide (run (gone_on_over_a_trunk own other) (two_nodes cookie)) second (trunk 2) first is_up
  up_there = record {
    side = record { peer = first; introduction = plainly 1; state = Up };
    there = ap
        (λ w. side_in (node_of w.nodes second) (trunk 2)) gone_on_is ∙ simp of_worlds refl;
    peer = refl;
    state = refl;
  }
