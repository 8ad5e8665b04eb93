-- The name of a node. (Reference Manual, Distributed Erlang, Nodes.)
use Rattle.std.specs.Prelude.{◌≡◌, ◌<◌, ◌≤◌, ◌+◌, ◌==◌, ◌&&◌, ◌||◌, ℕ, Bool, false, List, [], ◌∷◌, ◌++◌}
use Rattle.std.specs.Prelude.{length, take, drop, position, nat_lt, Option, None, Some, if◌then◌else◌}
use Rattle.std.specs.List.{AllPass, list_all}
use Rattle.std.specs.Char.{is_ascii_alphanumeric}

-- an ASCII letter, a digit, `_` or `-`
abbrev pub is_name_byte : ℕ → Bool
is_name_byte b = is_ascii_alphanumeric b || (b == 95 || b == 45)

-- one of these or a dot
abbrev pub is_host_byte : ℕ → Bool
is_host_byte b = is_name_byte b || b == 46

-- one or more bytes that pass
abbrev pub IsWord : (ℕ → Bool) → List ℕ → Type 0
IsWord passes word = (0 < length word) × AllPass passes word

-- a word, `@` and a word, so at least 3 characters, and at most 64
pub record IsNodeName (text : List ℕ) : Type 0 where
  pub name : List ℕ
  pub host : List ℕ
  pub parts : text ≡ name ++ 64 ∷ host
  pub name_word : IsWord is_name_byte name
  pub host_word : IsWord is_host_byte host
  pub short : length text ≤ 64

-- the same as tests
abbrev pub is_word : (ℕ → Bool) → List ℕ → Bool
is_word passes [] = false
is_word passes word = list_all passes word

-- the words before and behind the first @
abbrev pub are_words : List ℕ → Option ℕ → Bool
are_words text None = false
are_words text (Some at) = is_word is_name_byte (take at text) && is_word is_host_byte (drop (at + 1) text)

abbrev pub is_node_name : List ℕ → Bool
is_node_name text = if nat_lt 64 (length text) then false else are_words text (position (λ b. b == 64) text)
