-- The words of a line: what stands between spaces, byte 32. A text at the end of a line is what is left of
-- it, without the spaces around it.
use Rattle.std.specs.Prelude.{◌≡◌, ℕ, ◌==◌, Bool, List, [], ◌∷◌, Option, None, Some, Result, Ok, Err, MatchResult, if◌then◌else◌}
use Rattle.std.specs.List.{before_first, after_first}
use Rattle.erl_term.specs.Reading.{◌>>=◌}
use Rattle.script_lines.specs.declared.reason.Reason.{Reason}
use Rattle.script_lines.specs.declared.reason.Reason.TheVariants.{WrongWords}
use Rattle.script_terms.specs.Spaces.{before_space, from_space}

-- the result of a function, seen by view, is the result that is said
abbrev pub Answers : {X Y : Type 0} → (X → Y) → Result X Reason → Result Y Reason → Type 0
Answers view result said = MatchResult result (λ x. said ≡ Ok (view x)) (λ e. said ≡ Err e)

abbrev pub is_space : ℕ → Bool
is_space c = c == 32

abbrev pub from_word : List ℕ → List ℕ
from_word [] = []
from_word (c ∷ cs) = if is_space c then from_word cs else c ∷ cs

-- the first word, which is empty where there is none, and what stands behind it
abbrev pub word_of : List ℕ → List ℕ
word_of text = before_first is_space (from_word text)

abbrev pub behind_word : List ℕ → List ℕ
behind_word text = after_first is_space (from_word text)

-- a character before a text that ends with no space
abbrev pub before : ℕ → List ℕ → List ℕ
before c [] = if is_space c then [] else c ∷ []
before c (d ∷ ds) = c ∷ d ∷ ds

-- without the spaces at its end
abbrev pub trimmed : List ℕ → List ℕ
trimmed [] = []
trimmed (c ∷ cs) = before c (trimmed cs)

-- a word, or a text, has to be there
abbrev pub not_empty : {X : Type 0} → List ℕ → X → Result X Reason
not_empty [] x = Err WrongWords
not_empty (c ∷ cs) x = Ok x

abbrev pub word_at : List ℕ → Result (List ℕ × List ℕ) Reason
word_at text = not_empty (word_of text) (word_of text, behind_word text)

abbrev pub text_at : List ℕ → Result (List ℕ) Reason
text_at text = not_empty (trimmed (from_word text)) (trimmed (from_word text))

abbrev pub nothing : List ℕ → Result (Unit {0}) Reason
nothing [] = Ok tt
nothing (c ∷ cs) = Err WrongWords

-- a text of so many words, and no more
abbrev pub no_words : List ℕ → Result (Unit {0}) Reason
no_words text = nothing (from_word text)

abbrev pub one_word : List ℕ → Result (List ℕ) Reason
one_word text = word_at text >>= λ word. no_words word.1 >>= λ none. Ok word.0

abbrev pub two_words : List ℕ → Result (List ℕ × List ℕ) Reason
two_words text = word_at text >>= λ first. one_word first.1 >>= λ second. Ok (first.0, second)

abbrev pub three_words : List ℕ → Result (List ℕ × List ℕ × List ℕ) Reason
three_words text = word_at text >>= λ first. two_words first.1 >>= λ words. Ok (first.0, words.0, words.1)

-- a text of one word, or of none
abbrev pub only_word : (word rest : List ℕ) → Result (Option (List ℕ)) Reason
only_word [] rest = Ok None
only_word (c ∷ cs) rest = no_words rest >>= λ none. Ok (Some (c ∷ cs))

abbrev pub word_or_none : List ℕ → Result (Option (List ℕ)) Reason
word_or_none text = only_word (word_of text) (behind_word text)

abbrev pub two_words_or_three : List ℕ → Result (List ℕ × List ℕ × Option (List ℕ)) Reason
two_words_or_three text =
    word_at text >>= λ first. word_at first.1 >>= λ second. word_or_none second.1 >>= λ third. Ok (first.0, second.0, third)

-- words, and then a text
abbrev pub word_and_text : List ℕ → Result (List ℕ × List ℕ) Reason
word_and_text text = word_at text >>= λ word. text_at word.1 >>= λ rest. Ok (word.0, rest)

abbrev pub words_and_text : List ℕ → Result (List ℕ × List ℕ × List ℕ) Reason
words_and_text text = word_at text >>= λ first. word_and_text first.1 >>= λ words. Ok (first.0, words.0, words.1)

-- an atom, and then a text: no space between the atom's quotes parts them
abbrev pub atom_and_text : List ℕ → Result (List ℕ × List ℕ) Reason
atom_and_text text = text_at (from_space text) >>= λ rest. Ok (before_space text, rest)

-- an atom, and then one word
abbrev pub atom_and_word : List ℕ → Result (List ℕ × List ℕ) Reason
atom_and_word text = one_word (from_space text) >>= λ word. Ok (before_space text, word)
