-- Words, by their first byte and the rest.
use Rattle.std.proofs.lemmas.Bool.{and_parts}
use Rattle.std.proofs.lemmas.Bool.Decides.{nat_tests}
use Rattle.std.specs.Str.{IsAscii}
use Rattle.std.proofs.Common.{◌≡◌, ◌≤◌, ◌<◌, ◌-◌, ℕ, zero, suc, lit<, Bool, true, false, List, [], ◌∷◌}
use Rattle.std.proofs.Common.{length, ◌&&◌, get_or, take, drop, take_all, refl, sym, ap, ◌∙◌, arith}
use Rattle.std.specs.List.{list_all}
use Rattle.script_terms.specs.Words.{is_lower, is_name_byte, is_atom_byte, is_name, is_bare}

anded : (a b : Bool) → a ≡ true → (a && b) ≡ b
anded true b e = refl
anded false b e = absurd cc

pub name_of_parts : (xs : List ℕ) → 1 ≤ length xs → is_lower (get_or xs 0 0) ≡ true
    → is_name xs ≡ list_all is_name_byte (take (length xs - 1) (drop 1 xs))
name_of_parts [] h e = absurd (omega arith)
name_of_parts (x ∷ xs) h e =
    anded (is_lower x) (list_all is_name_byte xs) e ∙ sym (ap (list_all is_name_byte) (take_all _ xs (omega arith)))

pub bare_of_parts : (xs : List ℕ) → 1 ≤ length xs → is_lower (get_or xs 0 0) ≡ true
    → is_bare xs ≡ list_all is_atom_byte (take (length xs - 1) (drop 1 xs))
bare_of_parts [] h e = absurd (omega arith)
bare_of_parts (x ∷ xs) h e =
    anded (is_lower x) (list_all is_atom_byte xs) e ∙ sym (ap (list_all is_atom_byte) (take_all _ xs (omega arith)))

name_byte_ascii : (c : ℕ) → is_name_byte c ≡ true → c < 128
name_byte_ascii c e = grind (arith, nat_tests)

lower_ascii : (c : ℕ) → is_lower c ≡ true → c < 128
lower_ascii c e = grind (arith, nat_tests)

bytes_ascii : (cs : List ℕ) → list_all is_name_byte cs ≡ true → IsAscii cs
bytes_ascii [] e i = lit< tt
bytes_ascii (c ∷ cs) e zero = name_byte_ascii c (and_parts _ _ e).0
bytes_ascii (c ∷ cs) e (suc i) = bytes_ascii cs (and_parts _ _ e).1 i

pub name_ascii : (cs : List ℕ) → is_name cs ≡ true → IsAscii cs
name_ascii [] e i = lit< tt
name_ascii (c ∷ cs) e zero = lower_ascii c (and_parts _ _ e).0
name_ascii (c ∷ cs) e (suc i) = bytes_ascii cs (and_parts _ _ e).1 i
