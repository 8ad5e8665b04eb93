-- A run of two nodes, step by step: each dials the other before it hears of it, and one connection is left.
use Rattle.dist_model.proofs.Seen.{side_in}
use Rattle.std.proofs.Common.{◌≡◌, ℕ, true, List, [], ◌∷◌, refl, ap, ◌∙◌}
use Rattle.std.specs.FinMap as fm
use Rattle.std.specs.FinMap.{FinMap}
use Rattle.dist_model.proofs.ExampleMaps.{knows}
use Rattle.dist_model.proofs.RunMoments.{passed}
use Rattle.dist_model.specs.Items.{Handshake, Item}
use Rattle.dist_model.specs.Names.{place_cmp}
use Rattle.dist_model.specs.Runs.{run}
use Rattle.dist_model.specs.Schedules.{crossing, first, other_trunk, second, trunk, two_nodes}
use Rattle.dist_model.specs.Seen.{HasSide}
use Rattle.dist_model.specs.Sides.{Accepting, AwaitsAck, AwaitsChallenge, AwaitsStatus, Gone, TrunkSide, Up, is_gone, is_up}
use Rattle.dist_model.specs.World.{Arrive, Dial, World, node_of, step}
use Rattle.erl_handshake.specs.Digest.{digest_of}
use Rattle.erl_handshake.specs.Flags.{mandatory}
use Rattle.erl_handshake.specs.declared.message.ShakeMsg.{ShakeMsg}
use Rattle.erl_handshake.specs.declared.status.Status.{Status}
use Rattle.erl_names.specs.Order.{trunk_cmp}
use Rattle.dist_model.proofs.ExampleWorlds.{node, of_worlds, world}
use Rattle.dist_model.proofs.ExampleLinks.{plainly}
use Rattle.dist_model.specs.Sides.{untold}

module _ (cookie : List ℕ) (own other : ℕ) where
  -- ---- two dials meet

  module _ (word : ℕ) where
    abbrev crossing_world_0 : World
    crossing_world_0 = world
        (node cookie first 1 true 0 0 0 0 fm.empty fm.empty fm.empty fm.empty fm.empty [])
        (node cookie second 1 true 0 0 0 0 fm.empty fm.empty fm.empty fm.empty fm.empty [])
        fm.empty

    abbrev crossing_sides_of_first_1 : FinMap trunk_cmp TrunkSide
    crossing_sides_of_first_1 = fm.insert fm.empty (trunk 1) (record { peer = second; introduction = untold; state = AwaitsStatus own })

    abbrev crossing_lists_1 : FinMap place_cmp (List Item)
    crossing_lists_1 = fm.insert fm.empty (trunk 1, second) (Handshake (ShakeMsg.SendName mandatory 1 first) ∷ [])

    abbrev crossing_world_1 : World
    crossing_world_1 = world
        (node cookie first 1 true 0 0 0 1 fm.empty fm.empty fm.empty fm.empty crossing_sides_of_first_1 [])
        (node cookie second 1 true 0 0 0 0 fm.empty fm.empty fm.empty fm.empty fm.empty [])
        crossing_lists_1

    crossing_step_0 : (step crossing_world_0 (Dial first second own)).world ≡ crossing_world_1
    crossing_step_0 = simp of_worlds refl

    abbrev crossing_sides_of_second_1 : FinMap trunk_cmp TrunkSide
    crossing_sides_of_second_1 = fm.insert fm.empty (other_trunk 1) (record { peer = first; introduction = untold; state = AwaitsStatus other })

    abbrev crossing_lists_2 : FinMap place_cmp (List Item)
    crossing_lists_2 = fm.insert crossing_lists_1 (other_trunk 1, first) (Handshake (ShakeMsg.SendName mandatory 1 second) ∷ [])

    abbrev crossing_world_2 : World
    crossing_world_2 = world
        (node cookie first 1 true 0 0 0 1 fm.empty fm.empty fm.empty fm.empty crossing_sides_of_first_1 [])
        (node cookie second 1 true 0 0 0 1 fm.empty fm.empty fm.empty fm.empty crossing_sides_of_second_1 [])
        crossing_lists_2

    crossing_step_1 : (step crossing_world_1 (Dial second first other)).world ≡ crossing_world_2
    crossing_step_1 = simp of_worlds refl

    abbrev crossing_lists_3 : FinMap place_cmp (List Item)
    crossing_lists_3 = fm.insert crossing_lists_2 (trunk 1, second) []

    abbrev crossing_sides_of_second_2 : FinMap trunk_cmp TrunkSide
    crossing_sides_of_second_2 = fm.insert crossing_sides_of_second_1 (trunk 1) (record { peer = first; introduction = untold; state = Gone })

    abbrev crossing_lists_4 : FinMap place_cmp (List Item)
    crossing_lists_4 = fm.insert crossing_lists_3 (trunk 1, first) (Handshake (ShakeMsg.Status Status.Nok) ∷ [])

    abbrev crossing_world_3 : World
    crossing_world_3 = world
        (node cookie first 1 true 0 0 0 1 fm.empty fm.empty fm.empty fm.empty crossing_sides_of_first_1 [])
        (node cookie second 1 true 0 0 0 1 fm.empty fm.empty fm.empty fm.empty crossing_sides_of_second_2 [])
        crossing_lists_4

    crossing_step_2 : (step crossing_world_2 (Arrive (trunk 1) second 0)).world ≡ crossing_world_3
    crossing_step_2 = simp of_worlds refl

    abbrev crossing_lists_5 : FinMap place_cmp (List Item)
    crossing_lists_5 = fm.insert crossing_lists_4 (other_trunk 1, first) []

    abbrev crossing_sides_of_first_2 : FinMap trunk_cmp TrunkSide
    crossing_sides_of_first_2 = fm.insert crossing_sides_of_first_1 (trunk 1) (record { peer = second; introduction = untold; state = Gone })

    abbrev crossing_sides_of_first_3 : FinMap trunk_cmp TrunkSide
    crossing_sides_of_first_3 = fm.insert crossing_sides_of_first_2 (other_trunk 1)
        (record { peer = second; introduction = plainly 1; state = Accepting word })

    abbrev crossing_lists_6 : FinMap place_cmp (List Item)
    crossing_lists_6 = fm.insert crossing_lists_5 (other_trunk 1, second) (Handshake (ShakeMsg.Status Status.OkSimultaneous) ∷ [])

    abbrev crossing_lists_7 : FinMap place_cmp (List Item)
    crossing_lists_7 = fm.insert crossing_lists_6 (other_trunk 1, second)
        (Handshake (ShakeMsg.Status Status.OkSimultaneous) ∷ Handshake (ShakeMsg.Challenge mandatory word 1 first) ∷ [])

    abbrev crossing_world_4 : World
    crossing_world_4 = world
        (node cookie first 1 true 0 0 0 1 fm.empty fm.empty fm.empty fm.empty crossing_sides_of_first_3 [])
        (node cookie second 1 true 0 0 0 1 fm.empty fm.empty fm.empty fm.empty crossing_sides_of_second_2 [])
        crossing_lists_7

    crossing_step_3 : (step crossing_world_3 (Arrive (other_trunk 1) first word)).world ≡ crossing_world_4
    crossing_step_3 = simp of_worlds refl

    abbrev crossing_lists_8 : FinMap place_cmp (List Item)
    crossing_lists_8 = fm.insert crossing_lists_7 (other_trunk 1, second) (Handshake (ShakeMsg.Challenge mandatory word 1 first) ∷ [])

    abbrev crossing_sides_of_second_3 : FinMap trunk_cmp TrunkSide
    crossing_sides_of_second_3 = fm.insert crossing_sides_of_second_2 (other_trunk 1)
        (record { peer = first; introduction = untold; state = AwaitsChallenge other })

    abbrev crossing_world_5 : World
    crossing_world_5 = world
        (node cookie first 1 true 0 0 0 1 fm.empty fm.empty fm.empty fm.empty crossing_sides_of_first_3 [])
        (node cookie second 1 true 0 0 0 1 fm.empty fm.empty fm.empty fm.empty crossing_sides_of_second_3 [])
        crossing_lists_8

    crossing_step_4 : (step crossing_world_4 (Arrive (other_trunk 1) second 0)).world ≡ crossing_world_5
    crossing_step_4 = simp of_worlds refl

    abbrev crossing_lists_9 : FinMap place_cmp (List Item)
    crossing_lists_9 = fm.insert crossing_lists_8 (other_trunk 1, second) []

    abbrev crossing_sides_of_second_4 : FinMap trunk_cmp TrunkSide
    crossing_sides_of_second_4 = fm.insert crossing_sides_of_second_3 (other_trunk 1)
        (record { peer = first; introduction = plainly 1; state = AwaitsAck other })

    abbrev crossing_lists_10 : FinMap place_cmp (List Item)
    crossing_lists_10 = fm.insert crossing_lists_9 (other_trunk 1, first)
        (Handshake (ShakeMsg.ChallengeReply other (digest_of cookie word)) ∷ [])

    abbrev crossing_world_6 : World
    crossing_world_6 = world
        (node cookie first 1 true 0 0 0 1 fm.empty fm.empty fm.empty fm.empty crossing_sides_of_first_3 [])
        (node cookie second 1 true 0 0 0 1 fm.empty fm.empty fm.empty fm.empty crossing_sides_of_second_4 [])
        crossing_lists_10

    crossing_step_5 : (step crossing_world_5 (Arrive (other_trunk 1) second 0)).world ≡ crossing_world_6
    crossing_step_5 = simp of_worlds refl

    abbrev crossing_lists_11 : FinMap place_cmp (List Item)
    crossing_lists_11 = fm.insert crossing_lists_10 (other_trunk 1, first) []

    abbrev crossing_sides_of_first_4 : FinMap trunk_cmp TrunkSide
    crossing_sides_of_first_4 = fm.insert crossing_sides_of_first_3 (other_trunk 1)
        (record { peer = second; introduction = plainly 1; state = Up })

    abbrev crossing_lists_12 : FinMap place_cmp (List Item)
    crossing_lists_12 = fm.insert crossing_lists_11 (other_trunk 1, second)
        (Handshake (ShakeMsg.ChallengeAck (digest_of cookie other)) ∷ [])

    abbrev crossing_world_7 : World
    crossing_world_7 = world
        (node cookie first 1 true 0 0 0 1 fm.empty fm.empty fm.empty fm.empty crossing_sides_of_first_4 [])
        (node cookie second 1 true 0 0 0 1 fm.empty fm.empty fm.empty fm.empty crossing_sides_of_second_4 [])
        crossing_lists_12

    crossing_step_6 : (step crossing_world_6 (Arrive (other_trunk 1) first 0)).world ≡ crossing_world_7
    crossing_step_6 = simp (of_worlds, knows) refl

    abbrev crossing_lists_13 : FinMap place_cmp (List Item)
    crossing_lists_13 = fm.insert crossing_lists_12 (other_trunk 1, second) []

    abbrev crossing_sides_of_second_5 : FinMap trunk_cmp TrunkSide
    crossing_sides_of_second_5 = fm.insert crossing_sides_of_second_4 (other_trunk 1)
        (record { peer = first; introduction = plainly 1; state = Up })

    abbrev crossing_world_8 : World
    crossing_world_8 = world
        (node cookie first 1 true 0 0 0 1 fm.empty fm.empty fm.empty fm.empty crossing_sides_of_first_4 [])
        (node cookie second 1 true 0 0 0 1 fm.empty fm.empty fm.empty fm.empty crossing_sides_of_second_5 [])
        crossing_lists_13

    crossing_step_7 : (step crossing_world_7 (Arrive (other_trunk 1) second 0)).world ≡ crossing_world_8
    crossing_step_7 = simp (of_worlds, knows) refl

    crossing_is : run (crossing own other word) (two_nodes cookie) ≡ crossing_world_8
    crossing_is = passed crossing_world_0 (crossing own other word)
        (crossing_world_1 ∷ crossing_world_2 ∷ crossing_world_3 ∷ crossing_world_4 ∷ crossing_world_5 ∷ crossing_world_6 ∷ crossing_world_7
        ∷ crossing_world_8 ∷ []) (
          crossing_step_0,
          (
            crossing_step_1,
            (crossing_step_2, (crossing_step_3, (crossing_step_4, (crossing_step_5, (crossing_step_6, (crossing_step_7, tt)))))),
          ),
        )

    pub stays_here : HasSide (run (crossing own other word) (two_nodes cookie)) first (other_trunk 1) second is_up
    stays_here = record {
      side = record { peer = second; introduction = plainly 1; state = Up };
      there = ap
          (λ w. side_in (node_of w.nodes first) (other_trunk 1)) crossing_is ∙ simp of_worlds refl;
      peer = refl;
      state = refl;
    }

    pub stays_there : HasSide (run (crossing own other word) (two_nodes cookie)) second (other_trunk 1) first is_up
    stays_there = record {
      side = record { peer = first; introduction = plainly 1; state = Up };
      there = ap
          (λ w. side_in (node_of w.nodes second) (other_trunk 1)) crossing_is ∙ simp of_worlds refl;
      peer = refl;
      state = refl;
    }

    pub gone_here : HasSide (run (crossing own other word) (two_nodes cookie)) first (trunk 1) second is_gone
    gone_here = record {
      side = record { peer = second; introduction = untold; state = Gone };
      there = ap
          (λ w. side_in (node_of w.nodes first) (trunk 1)) crossing_is ∙ simp of_worlds refl;
      peer = refl;
      state = refl;
    }

    pub gone_there : HasSide (run (crossing own other word) (two_nodes cookie)) second (trunk 1) first is_gone
    gone_there = record {
      side = record { peer = first; introduction = untold; state = Gone };
      there = ap
          (λ w. side_in (node_of w.nodes second) (trunk 1)) crossing_is ∙ simp of_worlds refl;
      peer = refl;
      state = refl;
    }
