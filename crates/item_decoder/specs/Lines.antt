-- The lines about all items of some bytes.
use Rattle.std.specs.Prelude.{ℕ, ◌+◌, List, ◌++◌, codes, string_bytes}
use Rattle.std.specs.Fmt.{decimal}
use Rattle.erl_control.specs.Numbers.{frame_fault_number}
use Rattle.erl_control.specs.declared.error.FrameFault.{FrameFault}
use Rattle.erl_term.specs.ErrorNumbers.{error_name, error_number}
use Rattle.item_decoder.specs.Words.{found_text}
use Rattle.item_decoder.specs.declared.answers.Answer.{Answer}
use Rattle.item_decoder.specs.declared.answers.Why.{Why}
use Rattle.item_decoder.specs.declared.told.Told.{Told}

-- the number and the name of a fault
abbrev pub why_number : Why → ℕ
why_number (Why.Term error) = error_number error
why_number (Why.Frame fault) = frame_fault_number fault
why_number Why.Message = 10

abbrev pub why_name : Why → List ℕ
why_name (Why.Term error) = error_name error
why_name (Why.Frame FrameFault.NotPassThrough) = codes "NotPassThrough"
why_name (Why.Frame FrameFault.BadControl) = codes "BadControl"
why_name (Why.Frame FrameFault.TooLong) = codes "TooLong"
why_name (Why.Frame (FrameFault.Term error)) = codes "Term"
why_name Why.Message = codes "BadMessage"

-- the bytes end inside an item
abbrev pub cut_line : (place : ℕ) → (words : List ℕ) → List ℕ
cut_line place words = codes "cut " ++ decimal place ++ codes ": " ++ words ++ codes "\n"

-- a fault at this place
abbrev pub fault_line : (place : ℕ) → Why → (words : List ℕ) → List ℕ
fault_line place why words =
    codes "fault " ++ decimal place ++ codes " " ++ decimal (why_number why) ++ codes " " ++ why_name why ++ codes ": " ++ words ++ codes "\n"

-- all that is told of an item whose first byte is at this place
abbrev pub line_by : (at : ℕ) → Answer → (place : ℕ) → (words : List ℕ) → List ℕ
line_by at (Answer.Found found n) place words = found_text found ++ codes "\n"
line_by at Answer.Begun place words = cut_line (at + place) words
line_by at (Answer.Refused why) place words = fault_line (at + place) why words

abbrev pub told_line : (at : ℕ) → Told → List ℕ
told_line at told = line_by at told.answer told.place (string_bytes told.why)
