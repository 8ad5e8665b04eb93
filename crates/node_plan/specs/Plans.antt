-- The effect of a plan on a node.
use Rattle.std.specs.Prelude.{ℕ, ◌+◌, Bool, if◌then◌else◌, ◌++◌, map}
use Rattle.dist_model.specs.Node.{Node}
use Rattle.dist_model.specs.declared.report.Answer.{Answer}
use Rattle.node_plan.specs.Changed.{drawn_by, ends_after, lives_after, names_after, popped, registered, sides_after}
use Rattle.node_plan.specs.Changed.{spawned_by, told_by, watched, watchers_left, watches_left}
use Rattle.node_plan.specs.OwnList.{own_item}
use Rattle.node_plan.specs.declared.plan.Plan.{Plan}

abbrev pub dialed_after : Bool → ℕ → ℕ
dialed_after dials dialed = if dials then dialed + 1 else dialed

-- ---- the node after the plan, and its answer

abbrev pub committed : Plan → Node → Node
committed plan m = record {
  mint = drawn_by plan.draws (spawned_by plan.change m.mint);
  cookie = m.cookie;
  flags = m.flags;
  up = m.up;
  dialed = dialed_after plan.dials m.dialed;
  lives = lives_after plan.change m.mint m.lives;
  names = names_after plan.change m.names;
  ends = ends_after plan.change m.ends;
  watches = watches_left plan.change (watched plan.watches m.watches);
  registered = watchers_left plan.change (registered plan.watchers m.registered);
  sides = sides_after plan.sides.items m.sides;
  local = popped plan.pops m.local ++ map own_item plan.local.items;
}

abbrev pub told : Plan → Node → Answer
told plan m = told_by plan.change m.lives plan.answer
