-- The words that stand in a term without quotes.
use Rattle.std.specs.Prelude.{ℕ, ◌==◌, ◌&&◌, ◌||◌, Bool, false, List, [], ◌∷◌, nat_le, nat_lt}
use Rattle.std.specs.List.{list_all}
use Rattle.script_terms.specs.declared.words.Kind.{Kind}
use Rattle.script_terms.specs.declared.words.Kind.TheVariants.{Digits, HexDigits, Name, Atom}

-- ASCII letters and digits
abbrev pub is_lower : ℕ → Bool
is_lower c = nat_le 97 c && nat_le c 122

abbrev pub is_upper : ℕ → Bool
is_upper c = nat_le 65 c && nat_le c 90

abbrev pub is_digit : ℕ → Bool
is_digit c = nat_le 48 c && nat_le c 57

-- lower-case hexadecimal
abbrev pub is_hex_digit : ℕ → Bool
is_hex_digit c = is_digit c || (nat_le 97 c && nat_le c 102)

-- a further byte of a name: a lower-case letter, a digit or _
abbrev pub is_name_byte : ℕ → Bool
is_name_byte c = is_lower c || (is_digit c || (c == 95))

-- a further byte of a bare atom: a letter, a digit, _ or @
abbrev pub is_atom_byte : ℕ → Bool
is_atom_byte c = is_lower c || (is_upper c || (is_digit c || ((c == 95) || (c == 64))))

abbrev pub is_of_kind : Kind → ℕ → Bool
is_of_kind Digits = is_digit
is_of_kind HexDigits = is_hex_digit
is_of_kind Name = is_name_byte
is_of_kind Atom = is_atom_byte

-- a lower-case letter, and then further bytes of a name
abbrev pub is_name : List ℕ → Bool
is_name [] = false
is_name (c ∷ cs) = is_lower c && list_all is_name_byte cs

-- an atom that is written without quotes: a lower-case letter, and then further bytes of a bare atom
abbrev pub is_bare : List ℕ → Bool
is_bare [] = false
is_bare (c ∷ cs) = is_lower c && list_all is_atom_byte cs

-- a Unicode scalar value: at most 0x10ffff, and no surrogate
abbrev pub is_scalar : ℕ → Bool
is_scalar c = nat_lt c 0xd800 || (nat_le 0xe000 c && nat_lt c 0x110000)
