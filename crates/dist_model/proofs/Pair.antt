-- What else a node does to two of its processes: it draws ids for others, and it stops.
use Rattle.std.proofs.Common.{ℕ, ◌≤◌, true, refl, arith}
use Rattle.link_core.proofs.Kept.{Kept, ended_half}
use Rattle.link_core.specs.Pair.{Side}
use Rattle.link_core.specs.declared.end.End.{End}

-- another process of a's node draws an id
pub keeps_draw : (a b : Side) (j : ℕ) → a.drawn ≤ j → Kept a b → Kept (record a { drawn = j }) b
keeps_draw a b j le k = record {
  one = record {
    pending_says = k.one.pending_says;
    says_pending = k.one.says_pending;
    once = k.one.once;
    above = λ i l. k.one.above i (omega arith);
    no_exit = k.one.no_exit;
    orphan = k.one.orphan;
    idle = k.one.idle;
    waits = k.one.waits;
  };
  other = record {
    pending_says = k.other.pending_says;
    says_pending = k.other.says_pending;
    once = k.other.once;
    above = k.other.above;
    no_exit = k.other.no_exit;
    orphan = k.other.orphan;
    idle = k.other.idle;
    waits = k.other.waits;
  };
  agree = k.agree;
}

abbrev stopped : Side → Side
stopped a = record a { end = End.None; gone = true }

-- both end, and nothing is sent
pub keeps_stop : (a b : Side) → Kept a b → Kept (stopped a) (stopped b)
keeps_stop a b k = record {
  one = ended_half (stopped a) (stopped b) refl refl k.one.once k.one.above;
  other = ended_half (stopped b) (stopped a) refl refl k.other.once k.other.above;
  agree = λ x y. cc;
}
