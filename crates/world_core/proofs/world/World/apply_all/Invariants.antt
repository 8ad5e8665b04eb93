use Rattle.std.proofs.Common.{◌≤◌, ◌+◌, length}
use Rattle.std.specs.Vec.{vec_capacity, vec_len}
use Rattle.dist_model.specs.World.{World as TheWorld}
use Rattle.world_core.specs.Stands.{StandsFor}
use Rattle.world_core.proofs.Happened.{Going}
use Rattle.world_core.proofs.world.World.apply_all.Given as goal

-- the events so far are answered, and there is room for the answers to the others
abbrev pub invariant-loop-event : goal.invariant-loop-event
invariant-loop-event l = record {
  room : vec_len l.answers + length l.event-iterator.rest.items ≤ vec_capacity l.answers;
  going : (m : TheWorld) → StandsFor l.fn.self m → Going l.self m l.fn.events.items l.event-iterator.rest.items l.answers.items;
}
