-- The end of a script whose merged run is written as a plain script.
use Rattle.std.proofs.Common.{◌≡◌, ℕ, List, None, Option, Some, refl}
use Rattle.std.specs.Prelude.{IfSome}
use Rattle.script_core.proofs.ScriptLemmas.{for_known}
use Rattle.script_core.specs.Repeated.{EndsRepeated, Gives}
use Rattle.script_core.specs.Script.{lines_of}
use Rattle.script_core.specs.Threaded.{HasRun, IsBadLine, NotMerged, RunsScript, fresh_known}
use Rattle.script_core.specs.declared.script.Outcome.{Outcome}
use Rattle.script_core.specs.declared.script.Outcome.TheVariants as outcome
use Rattle.script_threads.specs.Merged.{AreUnmerged}
use Rattle.script_threads.specs.declared.session.ThreadedSession.{ThreadedSession}

not_merged : (input : Option (List ℕ)) (session : ThreadedSession) → IfSome input (λ bytes. HasRun fresh_known bytes session)
    → AreUnmerged session.threads.cast → IfSome input NotMerged
not_merged None session run u = tt
not_merged (Some bytes) session run u = record { session = session; run = run; unmerged = u }

-- a session that has given its script
pub ends_given : (seed : ℕ) (session : ThreadedSession) (input old new : Option (List ℕ)) (o : Outcome)
    → IfSome input (λ bytes. HasRun fresh_known bytes session) → Gives seed session old new o → EndsRepeated seed input old new o
ends_given seed session input old new outcome.Ran run gives = record { session = session; run = run; given = gives }
ends_given seed session input old new outcome.Unmerged run gives = (not_merged input session run gives.0, gives.1)
ends_given seed session input old new (outcome.BadLine number reason) run gives = absurd gives
ends_given seed session input old new outcome.OutOfMemory run gives = gives
ends_given seed session input old new outcome.Failed run gives = tt

-- one that hasn't run through
pub ends_before : (seed : ℕ) (session : ThreadedSession) (input old : Option (List ℕ)) (o : Outcome) → (o ≡ outcome.Ran → ⊥)
    → ((bytes : List ℕ) → input ≡ Some bytes → RunsScript fresh_known bytes session o) → EndsRepeated seed input old old o
ends_before seed session input old outcome.Ran n h = absurd (n refl)
ends_before seed session input old outcome.Unmerged n h = (for_known input NotMerged (λ bytes e. absurd (h bytes e)), refl)
ends_before seed session input old (outcome.BadLine number reason) n h =
    (for_known input (λ bytes. IsBadLine fresh_known 1 (lines_of bytes) number reason) h, refl)
ends_before seed session input old outcome.OutOfMemory n h = refl
ends_before seed session input old outcome.Failed n h = tt
