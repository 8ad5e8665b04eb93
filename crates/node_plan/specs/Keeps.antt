-- Invariants of a node, besides those that dist_model states for any node.
use Rattle.std.specs.Prelude.{◌≡◌, ◌<◌, ℕ, None}
use Rattle.std.specs.FinMap as fm
use Rattle.erl_handshake.specs.declared.identity.Identity.{Identity}
use Rattle.erl_names.specs.Ids.{reference_of}
use Rattle.erl_names.specs.Minted.{Minted}
use Rattle.monitor_core.specs.Monitors.{WatchMap}

-- no monitor of its own has a reference that is still to be drawn
abbrev pub AreDrawn : WatchMap → Minted → Type 0
AreDrawn watches m = (count : ℕ) → m.references < count → fm.get watches (reference_of m count) ≡ None

-- it introduces itself as what it is
pub record Introduces (own : Identity) (m : Minted) : Type 0 where
  pub name : own.name ≡ m.name
  pub creation : own.creation ≡ m.creation
