-- The outcomes of the tests of a line.
use Rattle.std.proofs.Common.{◌≡◌, ◌≤◌, ℕ, Bool, true, false, ◌&&◌, List, length, Result}
use Rattle.std.proofs.Common.{Err, Option, None, refl, sym, ap, subst, nat_lt, ◌∙◌}
use Rattle.std.proofs.lemmas.Bool.{le-ltb}
use Rattle.std.proofs.lemmas.Str.{IsUtf8-from_is_utf8, is_utf8-from_IsUtf8}
use Rattle.std.specs.List.{list_all}
use Rattle.std.specs.Str.{IsUtf8, is_utf8}
use Rattle.script_lines.specs.Commands.{verb_named}
use Rattle.script_lines.specs.Lines.{ReadsSome, line_says, verb_in, words_say}
use Rattle.script_lines.specs.Naming.{is_cookie, is_cookie_length, is_printable}
use Rattle.script_lines.specs.Said.{Said}
use Rattle.script_lines.specs.Words.{behind_word, word_of}
use Rattle.script_lines.specs.declared.line.Line.{Line}
use Rattle.script_lines.specs.declared.reading.MayCome.{MayCome}
use Rattle.script_lines.specs.declared.reason.Reason.{Reason}
use Rattle.script_lines.specs.declared.reason.Reason.TheVariants.{NotText}
use Rattle.script_terms.specs.Binding.{Look}

not_utf8 : (bytes : List ℕ) (b : Bool) → is_utf8 bytes ≡ b → (IsUtf8 bytes → ⊥) → b ≡ false
not_utf8 bytes true e h = absurd (h (IsUtf8-from_is_utf8 bytes e))
not_utf8 bytes false e h = refl

short : (line : List ℕ) → length line ≤ 65536 → nat_lt 65536 (length line) ≡ false
short line h = le-ltb _ _ h

pub says_no_text : (may : MayCome) (look : Look) (line : List ℕ) → length line ≤ 65536 → (IsUtf8 line → ⊥)
    → line_says may look line ≡ Err NotText
says_no_text may look line fits h = rw (short line fits, not_utf8 line (is_utf8 line) refl h) refl

says_words : (may : MayCome) (look : Look) (line : List ℕ) → length line ≤ 65536 → IsUtf8 line
    → line_says may look line ≡ words_say may look (word_of line) (behind_word line)
says_words may look line fits h = rw (short line fits, is_utf8-from_IsUtf8 line h) refl

pub reads_words : (may : MayCome) (look : Look) (line text : List ℕ) (result : Result (Option Line) Reason)
    → length line ≤ 65536 → IsUtf8 line → text ≡ line
    → ReadsSome (words_say may look (word_of text) (behind_word text)) result → ReadsSome (line_says may look line) result
reads_words may look line text result fits h same reads =
    subst (λ (says : Result (Option Said) Reason). ReadsSome says result)
    (ap (λ (t : List ℕ). words_say may look (word_of t) (behind_word t)) same ∙ sym (says_words may look line fits h)) reads

pub no_text_no_verb : (line : List ℕ) → length line ≤ 65536 → (IsUtf8 line → ⊥) → None ≡ verb_in line
no_text_no_verb line fits h = rw (short line fits, not_utf8 line (is_utf8 line) refl h) refl

pub verb_of_text : (line text : List ℕ) → length line ≤ 65536 → IsUtf8 line → text ≡ line → verb_named (word_of text) ≡ verb_in line
verb_of_text line text fits h same = rw (short line fits, is_utf8-from_IsUtf8 line h) (ap (λ (t : List ℕ). verb_named (word_of t)) same)

pub cookie_test : (word : List ℕ) (fits all : Bool) → fits ≡ true → fits ≡ is_cookie_length (length word)
    → all ≡ list_all is_printable word → all ≡ is_cookie word
cookie_test word fits all holds is e = by (is_cookie_length (length word)) (sym is ∙ holds)
  where
    by : (b : Bool) → b ≡ true → all ≡ (b && list_all is_printable word)
    by true t = e
    by false t = absurd cc
