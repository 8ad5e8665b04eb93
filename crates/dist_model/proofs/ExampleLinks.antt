-- Runs of two nodes, step by step: a link comes about and is taken back, and a connection is lost and comes again.
use Rattle.dist_model.proofs.Seen.{side_in}
use Rattle.std.proofs.Common.{◌≡◌, ℕ, true, false, List, [], ◌∷◌, ◌++◌, refl, sym, ap, ◌∙◌, subst}
use Rattle.std.specs.FinMap as fm
use Rattle.std.specs.FinMap.{FinMap}
use Rattle.erl_term.specs.Order.{pid_cmp}
use Rattle.erl_names.specs.declared.trunk.TrunkId.{TrunkId}
use Rattle.erl_names.specs.Order.{trunk_cmp}
use Rattle.erl_control.specs.declared.signal.Signal.{Signal}
use Rattle.erl_handshake.specs.declared.message.ShakeMsg.{ShakeMsg}
use Rattle.erl_handshake.specs.declared.status.Status.{Status}
use Rattle.erl_handshake.specs.Flags.{mandatory}
use Rattle.erl_handshake.specs.Digest.{digest_of}
use Rattle.exit_core.specs.Messages.{exit_term}
use Rattle.link_core.specs.News.{noconnection}
use Rattle.link_core.specs.declared.end.End.{End}
use Rattle.dist_model.specs.Names.{Name, pair_cmp, place_cmp}
use Rattle.dist_model.specs.Items.{Item, Signalled, Handshake}
use Rattle.dist_model.specs.Sides.{TrunkSide, AwaitsStatus, AwaitsChallenge, AwaitsAck, Accepting, Up, Losing, Gone, is_up}
use Rattle.dist_model.specs.Node.{Node, Life, Living}
use Rattle.dist_model.specs.declared.command.Command.{Command}
use Rattle.dist_model.specs.World.{World, Call, Arrive, Lose, Sweep, Dial, step, node_of, list_to}
use Rattle.dist_model.specs.Quiet.{Over, Quiet, nothing_between}
use Rattle.dist_model.specs.Runs.{run}
use Rattle.dist_model.specs.Seen.{HasSide, end_between}
use Rattle.dist_model.specs.Schedules.{connected_over_a_trunk, first, second, here, there, trunk, two_nodes, unlinking}
use Rattle.dist_model.specs.Schedules.{losing, connecting, linked_over_a_trunk, unlinked_over_a_trunk, connected_again}
use Rattle.dist_model.proofs.RunMoments.{passed, run_on}
use Rattle.dist_model.proofs.ExampleMaps.{knows, of_maps}
use Rattle.erl_handshake.specs.declared.introduction.Introduction.{Introduction}
use Rattle.erl_handshake.specs.Roles.{introduction_by}
use Rattle.dist_model.specs.Sides.{untold}

-- the introduction of a node that offers the mandatory flags alone
abbrev pub plainly : ℕ → Introduction
plainly creation = introduction_by creation mandatory

module _ (cookie : List ℕ) (own other : ℕ) where
  abbrev node : Name → (pids unlinks dialed : ℕ) → FinMap pid_cmp Life → FinMap pair_cmp End → FinMap trunk_cmp TrunkSide → Node
  node name pids unlinks dialed lives ends sides = record {
    mint = record { name = name; creation = 1; pids = pids; references = 0; unlink_ids = unlinks };
    cookie = cookie;
    flags = mandatory;
    up = true;
    dialed = dialed;
    lives = lives;
    names = fm.empty;
    ends = ends;
    watches = fm.empty;
    registered = fm.empty;
    sides = sides;
    local = [];
  }

  abbrev world : Node → Node → FinMap place_cmp (List Item) → World
  world a b lists = record { names = first ∷ second ∷ []; nodes = a ∷ b ∷ []; lists = lists }

  abbrev hello : Item
  hello = Handshake (ShakeMsg.SendName mandatory 1 first)

  abbrev accepted : Item
  accepted = Handshake (ShakeMsg.Status Status.Ok)

  abbrev challenged : ℕ → Item
  challenged word = Handshake (ShakeMsg.Challenge mandatory word 1 second)

  abbrev replied : ℕ → ℕ → Item
  replied word asked = Handshake (ShakeMsg.ChallengeReply word (digest_of cookie asked))

  abbrev acknowledged : ℕ → Item
  acknowledged asked = Handshake (ShakeMsg.ChallengeAck (digest_of cookie asked))

  abbrev lives_of_first_0 : FinMap pid_cmp Life
  lives_of_first_0 = fm.insert fm.empty here (Living false [])

  abbrev lives_of_second_0 : FinMap pid_cmp Life
  lives_of_second_0 = fm.insert fm.empty there (Living false [])

  abbrev pub lives_of_first_1 : FinMap pid_cmp Life
  lives_of_first_1 = fm.insert lives_of_first_0 here (Living true [])

  abbrev pub lives_of_second_1 : FinMap pid_cmp Life
  lives_of_second_1 = fm.insert lives_of_second_0 there (Living true [])

  abbrev sides_of_first_0 : FinMap trunk_cmp TrunkSide
  sides_of_first_0 = fm.insert fm.empty (trunk 1) (record { peer = second; introduction = untold; state = AwaitsStatus own })

  abbrev lists0 : FinMap place_cmp (List Item)
  lists0 = fm.insert fm.empty (trunk 1, second) (hello ∷ [])

  abbrev lists1 : FinMap place_cmp (List Item)
  lists1 = fm.insert lists0 (trunk 1, second) ([])

  abbrev sides_of_second_0 : FinMap trunk_cmp TrunkSide
  sides_of_second_0 = fm.insert fm.empty (trunk 1) (record { peer = first; introduction = plainly 1; state = Accepting other })

  abbrev lists2 : FinMap place_cmp (List Item)
  lists2 = fm.insert lists1 (trunk 1, first) (accepted ∷ [])

  abbrev lists3 : FinMap place_cmp (List Item)
  lists3 = fm.insert lists2 (trunk 1, first) (accepted ∷ challenged other ∷ [])

  abbrev lists4 : FinMap place_cmp (List Item)
  lists4 = fm.insert lists3 (trunk 1, first) (challenged other ∷ [])

  abbrev sides_of_first_1 : FinMap trunk_cmp TrunkSide
  sides_of_first_1 = fm.insert sides_of_first_0 (trunk 1) (record { peer = second; introduction = untold; state = AwaitsChallenge own })

  abbrev lists5 : FinMap place_cmp (List Item)
  lists5 = fm.insert lists4 (trunk 1, first) ([])

  abbrev sides_of_first_2 : FinMap trunk_cmp TrunkSide
  sides_of_first_2 = fm.insert sides_of_first_1 (trunk 1) (record { peer = second; introduction = plainly 1; state = AwaitsAck own })

  abbrev lists6 : FinMap place_cmp (List Item)
  lists6 = fm.insert lists5 (trunk 1, second) (replied own other ∷ [])

  abbrev lists7 : FinMap place_cmp (List Item)
  lists7 = fm.insert lists6 (trunk 1, second) ([])

  abbrev pub sides_of_second_1 : FinMap trunk_cmp TrunkSide
  sides_of_second_1 = fm.insert sides_of_second_0 (trunk 1) (record { peer = first; introduction = plainly 1; state = Up })

  abbrev lists8 : FinMap place_cmp (List Item)
  lists8 = fm.insert lists7 (trunk 1, first) (acknowledged own ∷ [])

  abbrev pub lists9 : FinMap place_cmp (List Item)
  lists9 = fm.insert lists8 (trunk 1, first) ([])

  abbrev pub sides_of_first_3 : FinMap trunk_cmp TrunkSide
  sides_of_first_3 = fm.insert sides_of_first_2 (trunk 1) (record { peer = second; introduction = plainly 1; state = Up })

  abbrev pub ends_of_first_0 : FinMap pair_cmp End
  ends_of_first_0 = fm.insert fm.empty (here, there) (End.Active)

  abbrev lists10 : FinMap place_cmp (List Item)
  lists10 = fm.insert lists9 (trunk 1, second) (Signalled (Signal.Link here there) false ∷ [])

  abbrev pub lists11 : FinMap place_cmp (List Item)
  lists11 = fm.insert lists10 (trunk 1, second) ([])

  abbrev pub ends_of_second_0 : FinMap pair_cmp End
  ends_of_second_0 = fm.insert fm.empty (there, here) (End.Active)

  abbrev ends_of_first_1 : FinMap pair_cmp End
  ends_of_first_1 = fm.insert ends_of_first_0 (here, there) (End.Pending 1)

  abbrev lists12 : FinMap place_cmp (List Item)
  lists12 = fm.insert lists11 (trunk 1, second) (Signalled (Signal.UnlinkId 1 here there) false ∷ [])

  abbrev lists13 : FinMap place_cmp (List Item)
  lists13 = fm.insert lists12 (trunk 1, second) ([])

  abbrev ends_of_second_1 : FinMap pair_cmp End
  ends_of_second_1 = fm.remove ends_of_second_0 (there, here)

  abbrev lists14 : FinMap place_cmp (List Item)
  lists14 = fm.insert lists13 (trunk 1, first) (Signalled (Signal.UnlinkIdAck 1 there here) false ∷ [])

  abbrev lists15 : FinMap place_cmp (List Item)
  lists15 = fm.insert lists14 (trunk 1, first) ([])

  abbrev ends_of_first_2 : FinMap pair_cmp End
  ends_of_first_2 = fm.remove ends_of_first_1 (here, there)

  abbrev sides_of_first_4 : FinMap trunk_cmp TrunkSide
  sides_of_first_4 = fm.insert sides_of_first_3 (trunk 1) (record { peer = second; introduction = plainly 1; state = Losing })

  abbrev sides_of_second_2 : FinMap trunk_cmp TrunkSide
  sides_of_second_2 = fm.insert sides_of_second_1 (trunk 1) (record { peer = first; introduction = plainly 1; state = Losing })

  abbrev lives_of_first_2 : FinMap pid_cmp Life
  lives_of_first_2 = fm.insert lives_of_first_1 here (Living true (exit_term there noconnection ∷ []))

  abbrev sides_of_first_5 : FinMap trunk_cmp TrunkSide
  sides_of_first_5 = fm.insert sides_of_first_4 (trunk 1) (record { peer = second; introduction = untold; state = Gone })

  abbrev lives_of_second_2 : FinMap pid_cmp Life
  lives_of_second_2 = fm.insert lives_of_second_1 there (Living true (exit_term here noconnection ∷ []))

  abbrev sides_of_second_3 : FinMap trunk_cmp TrunkSide
  sides_of_second_3 = fm.insert sides_of_second_2 (trunk 1) (record { peer = first; introduction = untold; state = Gone })

  abbrev sides_of_first_6 : FinMap trunk_cmp TrunkSide
  sides_of_first_6 = fm.insert sides_of_first_5 (trunk 2) (record { peer = second; introduction = untold; state = AwaitsStatus own })

  abbrev lists16 : FinMap place_cmp (List Item)
  lists16 = fm.insert lists11 (trunk 2, second) (hello ∷ [])

  abbrev lists17 : FinMap place_cmp (List Item)
  lists17 = fm.insert lists16 (trunk 2, second) ([])

  abbrev sides_of_second_4 : FinMap trunk_cmp TrunkSide
  sides_of_second_4 = fm.insert sides_of_second_3 (trunk 2) (record { peer = first; introduction = plainly 1; state = Accepting other })

  abbrev lists18 : FinMap place_cmp (List Item)
  lists18 = fm.insert lists17 (trunk 2, first) (accepted ∷ [])

  abbrev lists19 : FinMap place_cmp (List Item)
  lists19 = fm.insert lists18 (trunk 2, first) (accepted ∷ challenged other ∷ [])

  abbrev lists20 : FinMap place_cmp (List Item)
  lists20 = fm.insert lists19 (trunk 2, first) (challenged other ∷ [])

  abbrev sides_of_first_7 : FinMap trunk_cmp TrunkSide
  sides_of_first_7 = fm.insert sides_of_first_6 (trunk 2) (record { peer = second; introduction = untold; state = AwaitsChallenge own })

  abbrev lists21 : FinMap place_cmp (List Item)
  lists21 = fm.insert lists20 (trunk 2, first) ([])

  abbrev sides_of_first_8 : FinMap trunk_cmp TrunkSide
  sides_of_first_8 = fm.insert sides_of_first_7 (trunk 2) (record { peer = second; introduction = plainly 1; state = AwaitsAck own })

  abbrev lists22 : FinMap place_cmp (List Item)
  lists22 = fm.insert lists21 (trunk 2, second) (replied own other ∷ [])

  abbrev lists23 : FinMap place_cmp (List Item)
  lists23 = fm.insert lists22 (trunk 2, second) ([])

  abbrev sides_of_second_5 : FinMap trunk_cmp TrunkSide
  sides_of_second_5 = fm.insert sides_of_second_4 (trunk 2) (record { peer = first; introduction = plainly 1; state = Up })

  abbrev lists24 : FinMap place_cmp (List Item)
  lists24 = fm.insert lists23 (trunk 2, first) (acknowledged own ∷ [])

  abbrev pub lists25 : FinMap place_cmp (List Item)
  lists25 = fm.insert lists24 (trunk 2, first) ([])

  abbrev sides_of_first_9 : FinMap trunk_cmp TrunkSide
  sides_of_first_9 = fm.insert sides_of_first_8 (trunk 2) (record { peer = second; introduction = plainly 1; state = Up })

  abbrev pub w0 : World
  w0 = world (node first 0 0 0 (fm.empty) (fm.empty) (fm.empty)) (node second 0 0 0 (fm.empty) (fm.empty) (fm.empty)) fm.empty

  abbrev w1 : World
  w1 = world (node first 1 0 0 (lives_of_first_0) (fm.empty) (fm.empty)) (node second 0 0 0 (fm.empty) (fm.empty) (fm.empty)) fm.empty

  abbrev w2 : World
  w2 = world (node first 1 0 0 (lives_of_first_0) (fm.empty) (fm.empty))
      (node second 1 0 0 (lives_of_second_0) (fm.empty) (fm.empty)) fm.empty

  abbrev w3 : World
  w3 = world (node first 1 0 0 (lives_of_first_1) (fm.empty) (fm.empty))
      (node second 1 0 0 (lives_of_second_0) (fm.empty) (fm.empty)) fm.empty

  abbrev w4 : World
  w4 = world (node first 1 0 0 (lives_of_first_1) (fm.empty) (fm.empty))
      (node second 1 0 0 (lives_of_second_1) (fm.empty) (fm.empty)) fm.empty

  abbrev w5 : World
  w5 = world (node first 1 0 1 (lives_of_first_1) (fm.empty) (sides_of_first_0))
      (node second 1 0 0 (lives_of_second_1) (fm.empty) (fm.empty)) lists0

  abbrev w6 : World
  w6 = world (node first 1 0 1 (lives_of_first_1) (fm.empty) (sides_of_first_0))
      (node second 1 0 0 (lives_of_second_1) (fm.empty) (sides_of_second_0)) lists3

  abbrev w7 : World
  w7 = world (node first 1 0 1 (lives_of_first_1) (fm.empty) (sides_of_first_1))
      (node second 1 0 0 (lives_of_second_1) (fm.empty) (sides_of_second_0)) lists4

  abbrev w8 : World
  w8 = world (node first 1 0 1 (lives_of_first_1) (fm.empty) (sides_of_first_2))
      (node second 1 0 0 (lives_of_second_1) (fm.empty) (sides_of_second_0)) lists6

  abbrev w9 : World
  w9 = world (node first 1 0 1 (lives_of_first_1) (fm.empty) (sides_of_first_2))
      (node second 1 0 0 (lives_of_second_1) (fm.empty) (sides_of_second_1)) lists8

  abbrev pub w10 : World
  w10 = world (node first 1 0 1 (lives_of_first_1) (fm.empty) (sides_of_first_3))
      (node second 1 0 0 (lives_of_second_1) (fm.empty) (sides_of_second_1)) lists9

  abbrev w11 : World
  w11 = world (node first 1 0 1 (lives_of_first_1) (ends_of_first_0) (sides_of_first_3))
      (node second 1 0 0 (lives_of_second_1) (fm.empty) (sides_of_second_1)) lists10

  abbrev pub w12 : World
  w12 = world (node first 1 0 1 (lives_of_first_1) (ends_of_first_0) (sides_of_first_3))
      (node second 1 0 0 (lives_of_second_1) (ends_of_second_0) (sides_of_second_1)) lists11

  wstep0 : (step w0 (Call first Command.Spawn)).world ≡ w1
  wstep0 = refl

  wstep1 : (step w1 (Call second Command.Spawn)).world ≡ w2
  wstep1 = refl

  wstep2 : (step w2 (Call first (Command.Trap here true))).world ≡ w3
  wstep2 = simp (of_maps, knows) refl

  wstep3 : (step w3 (Call second (Command.Trap there true))).world ≡ w4
  wstep3 = simp (of_maps, knows) refl

  wstep4 : (step w4 (Dial first second own)).world ≡ w5
  wstep4 = simp (of_maps, knows) refl

  wstep5 : (step w5 (Arrive (trunk 1) second other)).world ≡ w6
  wstep5 = simp (of_maps, knows) refl

  wstep6 : (step w6 (Arrive (trunk 1) first 0)).world ≡ w7
  wstep6 = simp (of_maps, knows) refl

  wstep7 : (step w7 (Arrive (trunk 1) first 0)).world ≡ w8
  wstep7 = simp (of_maps, knows) refl

  wstep8 : (step w8 (Arrive (trunk 1) second 0)).world ≡ w9
  wstep8 = simp (of_maps, knows) refl

  wstep9 : (step w9 (Arrive (trunk 1) first 0)).world ≡ w10
  wstep9 = simp (of_maps, knows) refl

  wstep10 : (step w10 (Call first (Command.Link here there))).world ≡ w11
  wstep10 = simp (of_maps, knows) refl

  wstep11 : (step w11 (Arrive (trunk 1) second 0)).world ≡ w12
  wstep11 = simp (of_maps, knows) refl

  wrun : run (Call first Command.Spawn ∷ Call second Command.Spawn ∷ Call first (Command.Trap here true)
      ∷ Call second (Command.Trap there true) ∷ Dial first second own ∷ Arrive (trunk 1) second other
      ∷ Arrive (trunk 1) first 0 ∷ Arrive (trunk 1) first 0 ∷ Arrive (trunk 1) second 0 ∷ Arrive (trunk 1) first 0
      ∷ Call first (Command.Link here there) ∷ Arrive (trunk 1) second 0 ∷ []) w0 ≡ w12
  wrun = passed w0 (Call first Command.Spawn ∷ Call second Command.Spawn ∷ Call first (Command.Trap here true)
      ∷ Call second (Command.Trap there true) ∷ Dial first second own ∷ Arrive (trunk 1) second other
      ∷ Arrive (trunk 1) first 0 ∷ Arrive (trunk 1) first 0 ∷ Arrive (trunk 1) second 0 ∷ Arrive (trunk 1) first 0
      ∷ Call first (Command.Link here there) ∷ Arrive (trunk 1) second 0 ∷ [])
      (w1 ∷ w2 ∷ w3 ∷ w4 ∷ w5 ∷ w6 ∷ w7 ∷ w8 ∷ w9 ∷ w10 ∷ w11 ∷ w12 ∷ [])
      (wstep0, (wstep1, (wstep2, (wstep3, (wstep4, (wstep5, (wstep6, (wstep7, (wstep8, (wstep9, (wstep10, (wstep11, tt))))))))))))

  pub connected_is : run (connected_over_a_trunk own other) (two_nodes cookie) ≡ w10
  connected_is = passed w0 (connected_over_a_trunk own other) (w1 ∷ w2 ∷ w3 ∷ w4 ∷ w5 ∷ w6 ∷ w7 ∷ w8 ∷ w9 ∷ w10 ∷ [])
      (wstep0, (wstep1, (wstep2, (wstep3, (wstep4, (wstep5, (wstep6, (wstep7, (wstep8, (wstep9, tt))))))))))

  abbrev u1 : World
  u1 = world (node first 1 1 1 (lives_of_first_1) (ends_of_first_1) (sides_of_first_3))
      (node second 1 0 0 (lives_of_second_1) (ends_of_second_0) (sides_of_second_1)) lists12

  abbrev u2 : World
  u2 = world (node first 1 1 1 (lives_of_first_1) (ends_of_first_1) (sides_of_first_3))
      (node second 1 0 0 (lives_of_second_1) (ends_of_second_1) (sides_of_second_1)) lists14

  abbrev u3 : World
  u3 = world (node first 1 1 1 (lives_of_first_1) (ends_of_first_2) (sides_of_first_3))
      (node second 1 0 0 (lives_of_second_1) (ends_of_second_1) (sides_of_second_1)) lists15

  ustep0 : (step w12 (Call first (Command.Unlink here there))).world ≡ u1
  ustep0 = simp (of_maps, knows) refl

  ustep1 : (step u1 (Arrive (trunk 1) second 0)).world ≡ u2
  ustep1 = simp (of_maps, knows) refl

  ustep2 : (step u2 (Arrive (trunk 1) first 0)).world ≡ u3
  ustep2 = simp (of_maps, knows) refl

  urun : run (Call first (Command.Unlink here there) ∷ Arrive (trunk 1) second 0 ∷ Arrive (trunk 1) first 0 ∷ []) w12 ≡ u3
  urun = passed w12 (Call first (Command.Unlink here there) ∷ Arrive (trunk 1) second 0 ∷ Arrive (trunk 1) first 0 ∷ [])
      (u1 ∷ u2 ∷ u3 ∷ [])
      (ustep0, (ustep1, (ustep2, tt)))

  abbrev l1 : World
  l1 = world (node first 1 0 1 (lives_of_first_1) (ends_of_first_0) (sides_of_first_4))
      (node second 1 0 0 (lives_of_second_1) (ends_of_second_0) (sides_of_second_1)) lists11

  abbrev l2 : World
  l2 = world (node first 1 0 1 (lives_of_first_1) (ends_of_first_0) (sides_of_first_4))
      (node second 1 0 0 (lives_of_second_1) (ends_of_second_0) (sides_of_second_2)) lists11

  abbrev l3 : World
  l3 = world (node first 1 0 1 (lives_of_first_2) (fm.empty) (sides_of_first_5))
      (node second 1 0 0 (lives_of_second_1) (ends_of_second_0) (sides_of_second_2)) lists11

  abbrev l4 : World
  l4 = world (node first 1 0 1 (lives_of_first_2) (fm.empty) (sides_of_first_5))
      (node second 1 0 0 (lives_of_second_2) (fm.empty) (sides_of_second_3)) lists11

  abbrev l5 : World
  l5 = world (node first 1 0 2 (lives_of_first_2) (fm.empty) (sides_of_first_6))
      (node second 1 0 0 (lives_of_second_2) (fm.empty) (sides_of_second_3)) lists16

  abbrev l6 : World
  l6 = world (node first 1 0 2 (lives_of_first_2) (fm.empty) (sides_of_first_6))
      (node second 1 0 0 (lives_of_second_2) (fm.empty) (sides_of_second_4)) lists19

  abbrev l7 : World
  l7 = world (node first 1 0 2 (lives_of_first_2) (fm.empty) (sides_of_first_7))
      (node second 1 0 0 (lives_of_second_2) (fm.empty) (sides_of_second_4)) lists20

  abbrev l8 : World
  l8 = world (node first 1 0 2 (lives_of_first_2) (fm.empty) (sides_of_first_8))
      (node second 1 0 0 (lives_of_second_2) (fm.empty) (sides_of_second_4)) lists22

  abbrev l9 : World
  l9 = world (node first 1 0 2 (lives_of_first_2) (fm.empty) (sides_of_first_8))
      (node second 1 0 0 (lives_of_second_2) (fm.empty) (sides_of_second_5)) lists24

  abbrev pub l10 : World
  l10 = world (node first 1 0 2 (lives_of_first_2) (fm.empty) (sides_of_first_9))
      (node second 1 0 0 (lives_of_second_2) (fm.empty) (sides_of_second_5)) lists25

  lstep0 : (step w12 (Lose (trunk 1) first)).world ≡ l1
  lstep0 = simp (of_maps, knows) refl

  lstep1 : (step l1 (Lose (trunk 1) second)).world ≡ l2
  lstep1 = simp (of_maps, knows) refl

  lstep2 : (step l2 (Sweep first)).world ≡ l3
  lstep2 = simp (of_maps, knows) refl

  lstep3 : (step l3 (Sweep second)).world ≡ l4
  lstep3 = simp (of_maps, knows) refl

  lstep4 : (step l4 (Dial first second own)).world ≡ l5
  lstep4 = simp (of_maps, knows) refl

  lstep5 : (step l5 (Arrive (trunk 2) second other)).world ≡ l6
  lstep5 = simp (of_maps, knows) refl

  lstep6 : (step l6 (Arrive (trunk 2) first 0)).world ≡ l7
  lstep6 = simp (of_maps, knows) refl

  lstep7 : (step l7 (Arrive (trunk 2) first 0)).world ≡ l8
  lstep7 = simp (of_maps, knows) refl

  lstep8 : (step l8 (Arrive (trunk 2) second 0)).world ≡ l9
  lstep8 = simp (of_maps, knows) refl

  lstep9 : (step l9 (Arrive (trunk 2) first 0)).world ≡ l10
  lstep9 = simp (of_maps, knows) refl

  lrun : run (Lose (trunk 1) first ∷ Lose (trunk 1) second ∷ Sweep first ∷ Sweep second ∷ Dial first second own
      ∷ Arrive (trunk 2) second other ∷ Arrive (trunk 2) first 0 ∷ Arrive (trunk 2) first 0 ∷ Arrive (trunk 2) second 0
      ∷ Arrive (trunk 2) first 0 ∷ []) w12 ≡ l10
  lrun = passed w12
      (Lose (trunk 1) first ∷ Lose (trunk 1) second ∷ Sweep first ∷ Sweep second ∷ Dial first second own ∷ Arrive (trunk 2) second other
      ∷ Arrive (trunk 2) first 0 ∷ Arrive (trunk 2) first 0 ∷ Arrive (trunk 2) second 0 ∷ Arrive (trunk 2) first 0 ∷ [])
      (l1 ∷ l2 ∷ l3 ∷ l4 ∷ l5 ∷ l6 ∷ l7 ∷ l8 ∷ l9 ∷ l10 ∷ [])
      (lstep0, (lstep1, (lstep2, (lstep3, (lstep4, (lstep5, (lstep6, (lstep7, (lstep8, (lstep9, tt))))))))))

  pub linked_is : run (linked_over_a_trunk own other) (two_nodes cookie) ≡ w12
  linked_is = wrun

  unlinked_is : run (unlinked_over_a_trunk own other) (two_nodes cookie) ≡ u3
  unlinked_is = run_on (linked_over_a_trunk own other) unlinking (two_nodes cookie) ∙ ap (run unlinking) linked_is ∙ urun

  pub again_is : run (connected_again own other) (two_nodes cookie) ≡ l10
  again_is = run_on (linked_over_a_trunk own other) (losing ++ connecting 2 own other) (two_nodes cookie)
      ∙ ap (run (losing ++ connecting 2 own other)) linked_is ∙ lrun

  pub linked_here : end_between (run (linked_over_a_trunk own other) (two_nodes cookie)) here there ≡ End.Active
  linked_here = ap (λ w. end_between w here there) linked_is ∙ simp of_maps refl

  pub linked_there : end_between (run (linked_over_a_trunk own other) (two_nodes cookie)) there here ≡ End.Active
  linked_there = ap (λ w. end_between w there here) linked_is ∙ simp of_maps refl

  pub unlinked_here : end_between (run (unlinked_over_a_trunk own other) (two_nodes cookie)) here there ≡ End.None
  unlinked_here = ap (λ w. end_between w here there) unlinked_is ∙ simp of_maps refl

  pub unlinked_there : end_between (run (unlinked_over_a_trunk own other) (two_nodes cookie)) there here ≡ End.None
  unlinked_there = ap (λ w. end_between w there here) unlinked_is ∙ simp of_maps refl

  pub connected_here : HasSide (run (connected_again own other) (two_nodes cookie)) first (trunk 2) second is_up
  connected_here = record {
    side = record { peer = second; introduction = plainly 1; state = Up };
    there = ap (λ w. side_in (node_of w.nodes first) (trunk 2)) again_is ∙ simp of_maps refl;
    peer = refl;
    state = refl;
  }

  pub connected_there : HasSide (run (connected_again own other) (two_nodes cookie)) second (trunk 2) first is_up
  connected_there = record {
    side = record { peer = first; introduction = plainly 1; state = Up };
    there = ap (λ w. side_in (node_of w.nodes second) (trunk 2)) again_is ∙ simp of_maps refl;
    peer = refl;
    state = refl;
  }

  pub swept_here : end_between (run (connected_again own other) (two_nodes cookie)) here there ≡ End.None
  swept_here = ap (λ w. end_between w here there) again_is ∙ simp of_maps refl

  pub swept_there : end_between (run (connected_again own other) (two_nodes cookie)) there here ≡ End.None
  swept_there = ap (λ w. end_between w there here) again_is ∙ simp of_maps refl

  quiet_over : (w : World) (t : TrunkId) → HasSide w first t second is_up → HasSide w second t first is_up
      → nothing_between here there (list_to w.lists t first) ≡ true
      → nothing_between here there (list_to w.lists t second) ≡ true → Quiet w here there
  quiet_over w t a b c d = Over refl t (a, b) c d

  pub linked_quiet : Quiet (run (linked_over_a_trunk own other) (two_nodes cookie)) here there
  linked_quiet = subst (λ w. Quiet w here there) (sym linked_is) (quiet_over w12 (trunk 1)
      (record { side = record { peer = second; introduction = plainly 1; state = Up }; there = simp of_maps refl; peer = refl; state = refl })
      (record { side = record { peer = first; introduction = plainly 1; state = Up }; there = simp of_maps refl; peer = refl; state = refl })
      (simp of_maps refl) (simp of_maps refl))

  pub connected_quiet : Quiet (run (connected_again own other) (two_nodes cookie)) here there
  connected_quiet = subst (λ w. Quiet w here there) (sym again_is) (quiet_over l10 (trunk 2)
      (record { side = record { peer = second; introduction = plainly 1; state = Up }; there = simp of_maps refl; peer = refl; state = refl })
      (record { side = record { peer = first; introduction = plainly 1; state = Up }; there = simp of_maps refl; peer = refl; state = refl })
      (simp of_maps refl) (simp of_maps refl))
