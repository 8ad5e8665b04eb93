-- The end of a script over threads, and the text that is written for it.
use Rattle.std.specs.Prelude.{◌≡◌, ◌≤◌, ◌+◌, ℕ, Bool, false, List, [], ◌∷◌, ◌++◌, length, map, Option, None, Some, IfSome, Result, Ok, Err}
use Rattle.std.specs.Io.KnownBytes.{Appends}
use Rattle.script_lines.specs.Breaks.{IsOneLine}
use Rattle.script_core.specs.Script.{lines_of}
use Rattle.script_core.specs.declared.script.Outcome.{Outcome}
use Rattle.script_core.specs.declared.script.Outcome.TheVariants as outcome
use Rattle.script_core.specs.declared.script.Script.{Script}
use Rattle.script_core.specs.declared.threads.InThreads.{InThreads}
use Rattle.script_lines.specs.Replies.{reply_after}
use Rattle.script_lines.specs.Said.{Said}
use Rattle.script_lines.specs.declared.reason.Reason.{Reason}
use Rattle.script_session.specs.Session.{binds, new_name, starts}
use Rattle.script_session.specs.declared.made.Made.{Made}
use Rattle.script_threads.specs.Merged.{AreUnmerged, Ends}
use Rattle.script_threads.specs.Standing.{IsKnown, Known, nodes_after, says_of}
use Rattle.script_threads.specs.declared.session.ThreadedSession.{ThreadedSession}

-- ---- lines that were run, one after the other

-- before the first line
abbrev pub fresh_known : Known
fresh_known = record { nodes = []; look = λ name. None; reply = []; started = false }

-- the name that the line gives is bound to whatever the nodes have made, and the last line of whatever was printed is the reply
abbrev pub Follows : Option Said → Known → Known → Type 0
Follows None known next = next ≡ known
Follows (Some said) known next = (made : Made) × (text : List ℕ) × (next ≡ record {
  nodes = nodes_after said known.nodes;
  look = binds (new_name said) made known.look;
  reply = reply_after text known.reply;
  started = starts said;
})

abbrev pub LeadsTo : Known → List (List ℕ) → Known → Type 0
LeadsTo known [] last = last ≡ known
LeadsTo known (line ∷ lines) last =
    (said : Option Said) × (next : Known) × (says_of known line ≡ Ok said) × Follows said known next × LeadsTo next lines last

-- the lines before it were run, and then it reads so. The first line has that number
pub record IsBadLine (known : Known) (first : ℕ) (lines : List (List ℕ)) (number : ℕ) (reason : Reason) : Type 0 where
  pub before : List (List ℕ)
  pub line : List ℕ
  pub after : List (List ℕ)
  pub parts : lines ≡ before ++ line ∷ after
  pub number_is : number ≡ first + length before
  pub within : number ≤ 1048576
  pub at : Known
  pub led : LeadsTo known before at
  pub says : says_of at line ≡ Err reason

-- ---- the lines of one read, which are run behind it

-- the lines that wait to be run
abbrev pub kept_lines : InThreads → List (List ℕ)
kept_lines it = map (λ line. line.items) it.lines.items

-- the knowledge of the session, and the lines that wait
abbrev pub IsKept : Known → InThreads → List (List ℕ) → Type 0
IsKept known it lines = IsKnown it.session known × (lines ≡ kept_lines it)

-- the line was run, or it is the bad one
abbrev pub RunsLine : Known → (line : List ℕ) (number : ℕ) → ThreadedSession → Result (Unit {0}) Outcome → Type 0
RunsLine known line number session (Ok x) =
    (said : Option Said) × (next : Known) × (says_of known line ≡ Ok said) × Follows said known next × IsKnown session next
RunsLine known line number session (Err (outcome.BadLine bad reason)) = (bad ≡ number) × (says_of known line ≡ Err reason)
RunsLine known line number session (Err outcome.Ran) = ⊥
RunsLine known line number session (Err outcome.Unmerged) = ⊥
RunsLine known line number session (Err _) = Unit {0}

-- all were run, and the script has come as far as before
pub record RanLines (known : Known) (lines : List (List ℕ)) (old new : Script InThreads) : Type 0 where
  pub last : Known
  pub led : LeadsTo known lines last
  pub is_known : IsKnown new.session.session last
  pub none : kept_lines new.session ≡ []
  pub number : new.number ≡ old.number
  pub pending : new.pending.items ≡ old.pending.items

abbrev pub RunsLines : Known → (first : ℕ) (lines : List (List ℕ)) (old new : Script InThreads) → Result (Unit {0}) Outcome → Type 0
RunsLines known first lines old new (Ok x) = RanLines known lines old new
RunsLines known first lines old new (Err (outcome.BadLine number reason)) = IsBadLine known first lines number reason
RunsLines known first lines old new (Err outcome.Ran) = ⊥
RunsLines known first lines old new (Err outcome.Unmerged) = ⊥
RunsLines known first lines old new (Err _) = Unit {0}

-- ---- the lines of a whole script

-- the whole lines of the bytes that have been read were run
pub record Along (from : Known) (input : List ℕ) (remaining : Option (List ℕ)) (script : Script InThreads) : Type 0 where
  pub bytes : List ℕ
  pub left : List ℕ
  pub parts : input ≡ bytes ++ left
  pub remains : remaining ≡ Some left
  pub done : List (List ℕ)
  pub known : Known
  pub led : LeadsTo from done known
  pub is_known : IsKnown script.session.session known
  pub none : kept_lines script.session ≡ []
  pub number : script.number ≡ 1 + length done
  pub within : script.number ≤ 1048577
  pub one_line : IsOneLine script.pending.items
  pub goes : (rest : List ℕ) → lines_of (bytes ++ rest) ≡ done ++ lines_of (script.pending.items ++ rest)

-- the session has run all lines
pub record HasRun (from : Known) (input : List ℕ) (session : ThreadedSession) : Type 0 where
  pub last : Known
  pub led : LeadsTo from (lines_of input) last
  pub is_known : IsKnown session last

abbrev pub RunsScript : Known → (input : List ℕ) → ThreadedSession → Outcome → Type 0
RunsScript from input session outcome.Ran = HasRun from input session
RunsScript from input session (outcome.BadLine number reason) = IsBadLine from 1 (lines_of input) number reason
RunsScript from input session outcome.Unmerged = ⊥
RunsScript from input session _ = Unit {0}

-- ---- the end

pub record Told (trace : Bool) (session : ThreadedSession) (old new : Option (List ℕ)) : Type 0 where
  pub text : List ℕ
  pub ends : Ends trace session.threads.cast [] text
  pub appended : Appends old new text

-- `Ran` only if the nodes have merged, and the text of that was appended; `Unmerged` only if they don't merge
abbrev pub Tells : (trace : Bool) → ThreadedSession → (old new : Option (List ℕ)) → Outcome → Type 0
Tells trace session old new outcome.Ran = Told trace session old new
Tells trace session old new outcome.Unmerged = AreUnmerged session.threads.cast
Tells trace session old new (outcome.BadLine number reason) = ⊥
Tells trace session old new _ = Unit {0}

-- a session has run the whole script, its nodes have merged, and the text of that was written last
pub record Merged (trace : Bool) (input new : Option (List ℕ)) : Type 0 where
  pub session : ThreadedSession
  pub run : IfSome input (λ bytes. HasRun fresh_known bytes session)
  pub before : Option (List ℕ)
  pub told : Told trace session before new

-- a session has run the whole script, and its nodes don't merge
pub record NotMerged (input : List ℕ) : Type 0 where
  pub session : ThreadedSession
  pub run : HasRun fresh_known input session
  pub unmerged : AreUnmerged session.threads.cast

-- the end of a whole script over threads. Memory, reading and writing may fail at any place
abbrev pub EndsThreaded : (trace : Bool) → (input new : Option (List ℕ)) → Outcome → Type 0
EndsThreaded trace input new outcome.Ran = Merged trace input new
EndsThreaded trace input new outcome.Unmerged = IfSome input NotMerged
EndsThreaded trace input new (outcome.BadLine number reason) = IfSome input (λ bytes. IsBadLine fresh_known 1 (lines_of bytes) number reason)
EndsThreaded trace input new _ = Unit {0}
