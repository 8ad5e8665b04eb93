-- Terms as they are printed.
use Rattle.std.specs.Prelude.{ℕ, false, ◌==◌, ◌||◌, List, [], ◌∷◌, ◌++◌, codes, encode_utf8, nat_lt, if◌then◌else◌}
use Rattle.std.specs.List.{flat_map}
use Rattle.std.specs.Str.{chars}
use Rattle.std.specs.Fmt.{decimal, signed_decimal, digits}
use Rattle.erl_term.specs.declared.term.Pid.{Pid}
use Rattle.erl_term.specs.declared.term.Reference.{Reference}
use Rattle.erl_term.specs.Data.{Data, int, atom, tuple, list, improper, binary, pid, reference, Items, no_items, item}
use Rattle.script_terms.specs.Words.{is_bare}

-- a character between quotes: ' and \ behind a \, control characters by their numbers, and all else as it is
abbrev pub escaped : ℕ → List ℕ
escaped c =
    if (c == 39) || (c == 92) then 92 ∷ c ∷ []
    else if nat_lt c 32 || (c == 127) then codes "\\x{" ++ digits 16 false c ++ codes "}"
    else encode_utf8 c

-- bare exactly where it can be
unfoldable pub atom_text : List ℕ → List ℕ
atom_text a = if is_bare a then a else codes "'" ++ flat_map escaped (chars a) ++ codes "'"

-- the numbers, each behind a mark
abbrev pub numbers_text : ℕ → List ℕ → List ℕ
numbers_text mark ns = flat_map (λ n. mark ∷ decimal n) ns

abbrev pub commas_text : List ℕ → List ℕ
commas_text [] = []
commas_text (n ∷ ns) = decimal n ++ numbers_text 44 ns

unfoldable pub binary_text : List ℕ → List ℕ
binary_text bytes = codes "<<" ++ commas_text bytes ++ codes ">>"

-- the name of the node stands without quotes
unfoldable pub pid_text : Pid → List ℕ
pid_text p =
    codes "<" ++ p.node ++ codes "." ++ decimal p.id ++ codes "." ++ decimal p.serial ++ codes "." ++ decimal p.creation ++ codes ">"

unfoldable pub reference_text : Reference → List ℕ
reference_text r = codes "#Ref<" ++ r.node ++ codes "." ++ decimal r.creation ++ numbers_text 46 r.words ++ codes ">"

-- the text before an item of this index
abbrev pub comma_before : ℕ → List ℕ
comma_before i = if i == 0 then [] else codes ","

abbrev mutual
  pub term_text : Data → List ℕ
  term_text (int z) = signed_decimal z
  term_text (atom a) = atom_text a
  term_text (tuple ts) = codes "{" ++ (items_text ts ++ codes "}")
  term_text (list ts) = codes "[" ++ (items_text ts ++ codes "]")
  term_text (improper ts t) = codes "[" ++ (items_text ts ++ (codes "|" ++ (term_text t ++ codes "]")))
  term_text (binary a) = binary_text a
  term_text (pid p) = pid_text p
  term_text (reference r) = reference_text r

  -- with commas between them
  pub items_text : Items → List ℕ
  items_text no_items = []
  items_text (item t ts) = term_text t ++ more_text ts

  pub more_text : Items → List ℕ
  more_text no_items = []
  more_text (item t ts) = codes "," ++ (term_text t ++ more_text ts)
