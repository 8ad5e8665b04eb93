-- The end of a script over threads whose merged run is written as a plain script.
use Rattle.std.specs.Prelude.{◌≡◌, ℕ, List, Option, IfSome}
use Rattle.std.specs.Io.KnownBytes.{Appends}
use Rattle.script_core.specs.Script.{lines_of}
use Rattle.script_core.specs.Threaded.{HasRun, IsBadLine, NotMerged, fresh_known}
use Rattle.script_core.specs.declared.script.Outcome.{Outcome}
use Rattle.script_core.specs.declared.script.Outcome.TheVariants as outcome
use Rattle.script_threads.specs.Merged.{AreUnmerged}
use Rattle.script_threads.specs.Scripts.{EndsAsScript}
use Rattle.script_threads.specs.declared.session.ThreadedSession.{ThreadedSession}

-- ---- a session that has run all lines

pub record Given (seed : ℕ) (session : ThreadedSession) (old new : Option (List ℕ)) : Type 0 where
  pub script : List ℕ
  pub ends : EndsAsScript seed session.threads.cast script
  pub appended : Appends old new script

-- the script was written, or nothing was
abbrev pub Gives : (seed : ℕ) → ThreadedSession → (old new : Option (List ℕ)) → Outcome → Type 0
Gives seed session old new outcome.Ran = Given seed session old new
Gives seed session old new outcome.Unmerged = AreUnmerged session.threads.cast × (new ≡ old)
Gives seed session old new (outcome.BadLine number reason) = ⊥
Gives seed session old new outcome.OutOfMemory = new ≡ old
Gives seed session old new outcome.Failed = Unit {0}

-- ---- the end

-- a session has run the whole script, and a plain script that repeats the merged run was written
pub record Repeated (seed : ℕ) (input old new : Option (List ℕ)) : Type 0 where
  pub session : ThreadedSession
  pub run : IfSome input (λ bytes. HasRun fresh_known bytes session)
  pub given : Given seed session old new

-- the outcomes are those of a script over threads, and only with this one is something written
abbrev pub EndsRepeated : (seed : ℕ) → (input old new : Option (List ℕ)) → Outcome → Type 0
EndsRepeated seed input old new outcome.Ran = Repeated seed input old new
EndsRepeated seed input old new outcome.Unmerged = IfSome input NotMerged × (new ≡ old)
EndsRepeated seed input old new (outcome.BadLine number reason) =
    IfSome input (λ bytes. IsBadLine fresh_known 1 (lines_of bytes) number reason) × (new ≡ old)
EndsRepeated seed input old new outcome.OutOfMemory = new ≡ old
EndsRepeated seed input old new outcome.Failed = Unit {0}
