use Rattle.std.proofs.Common.{◌≡◌, ◌≤◌, ◌+◌, ℕ, [], length, map, take}
use Rattle.script_core.specs.Threaded.{LeadsTo, kept_lines}
use Rattle.script_threads.specs.Standing.{IsKnown, Known}
use Rattle.script_core.proofs.threads.run_lines.Given as goal

-- those so far were run, and nothing else has changed
abbrev pub invariant-loop-line : goal.invariant-loop-line
invariant-loop-line g l =
    (l.line-items ≡ l.fn.script.session.lines.items) × (l.script.session.lines.items ≡ []) × (l.script.number ≡ l.fn.script.number)
    × (l.script.pending.items ≡ l.fn.script.pending.items)
    × ((known : Known) (first : ℕ) → IsKnown l.fn.script.session.session known
    → l.fn.script.number ≡ first + length (kept_lines l.fn.script.session) → l.fn.script.number ≤ 1048577
    → (l.number ≡ first + l.line-index) × (mid : Known)
    × LeadsTo known (map (λ line. line.items) (take l.line-index l.line-items)) mid × IsKnown l.script.session.session mid)
