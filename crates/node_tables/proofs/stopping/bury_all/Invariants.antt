use Rattle.std.proofs.Common.{◌≡◌, ◌≤◌, ◌+◌, true}
use Rattle.std.specs.FinMap.{is_sorted}
use Rattle.std.specs.Vec.{vec_capacity, vec_len}
use Rattle.erl_names.specs.Order.{trunk_cmp}
use Rattle.node_tables.specs.Apart.{AreApart, AreBuried}
use Rattle.node_tables.specs.Runs.{is_rising}
use Rattle.node_tables.specs.Standings.{entries_of}
use Rattle.node_tables.proofs.stopping.bury_all.Given as goal

-- those that were passed are gone
abbrev pub invariant-loop : goal.invariant-loop
invariant-loop l = record {
  sorted : is_sorted trunk_cmp (entries_of l.held.items) ≡ true;
  rising : is_rising l.gone.items ≡ true;
  apart : AreApart l.held.items l.gone.items;
  buried : AreBuried l.fn.held.items l.fn.gone.items l.held.items l.gone.items;
  left : l.counter + vec_len l.held ≡ vec_len l.fn.held;
  last : l.end ≡ vec_len l.fn.held;
  len : vec_len l.gone + vec_len l.held ≤ vec_len l.fn.held + vec_len l.fn.gone;
  held_capacity : vec_capacity l.held ≡ vec_capacity l.fn.held;
  gone_capacity : vec_capacity l.gone ≡ vec_capacity l.fn.gone;
}
