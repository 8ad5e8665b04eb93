-- The meaning of a line if nodes have threads. Seven commands are missing: threads take by themselves the items that come.
use Rattle.std.specs.Prelude.{Option, None, Some, ℕ, Bool, true, false, List, Result, Ok, Err, if◌then◌else◌}
use Rattle.dist_model.specs.Names.{Name}
use Rattle.script_lines.specs.Lines.{line_says, verb_in}
use Rattle.script_lines.specs.Replies.{expected, is_met}
use Rattle.script_lines.specs.Said.{Said}
use Rattle.script_lines.specs.declared.command.Verb.{Verb}
use Rattle.script_lines.specs.declared.command.Verb.TheVariants as verb
use Rattle.script_lines.specs.declared.reading.MayCome.{MayCome}
use Rattle.script_lines.specs.declared.reason.Reason.{Reason}
use Rattle.script_session.specs.Session.{is_taken}
use Rattle.script_terms.specs.Binding.{Look}

abbrev pub is_missing : Option Verb → Bool
is_missing (Some verb.Pair) = true
is_missing (Some verb.Deliver) = true
is_missing (Some verb.Local) = true
is_missing (Some verb.Travels) = true
is_missing (Some verb.Why) = true
is_missing (Some verb.Sweep) = true
is_missing (Some verb.Challenge) = true
is_missing _ = false

-- only a line that is too long, or no text, has another reason before this one
abbrev pub says : MayCome → Look → List ℕ → Result (Option Said) Reason
says may look line = if is_missing (verb_in line) then Err Reason.UnknownCommand else line_says may look line

-- a line for a node whose name is taken is a bad line too
abbrev pub unless_taken : List Name → Result (Option Said) Reason → Result (Option Said) Reason
unless_taken names (Ok (Some said)) = if is_taken said names then Err Reason.NameTaken else Ok (Some said)
unless_taken names due = due

-- words that are expected are the last reply, and then nothing is asked for, or their line is a bad one
abbrev pub unless_expected : Option (List ℕ) → Look → (reply : List ℕ) → Said → Result (Option Said) Reason
unless_expected None look reply said = Ok (Some said)
unless_expected (Some words) look reply said = if is_met look reply words then Ok None else Err Reason.Unmet

abbrev pub unless_unmet : Look → (reply : List ℕ) → Result (Option Said) Reason → Result (Option Said) Reason
unless_unmet look reply (Ok (Some said)) = unless_expected (expected said) look reply said
unless_unmet look reply due = due
