-- Which terms a signal can carry, as its message or its reason: `Fits` of Control, as a test.
use Rattle.erl_term.specs.Data.{Data, int, atom, tuple, list, improper, binary, pid, reference, Items, no_items, item, count}
use Rattle.std.specs.Prelude.{ℕ, ℤ, pos, negsuc, ◌^◌, Bool, true, not, ◌&&◌, nat_lt, nat_le, List, [], ◌∷◌, length}
use Rattle.erl_control.specs.declared.fit.TheConstants.{MOST_PAYLOAD_LEVELS, MOST_PAYLOAD_BYTES}
use Rattle.erl_term.specs.Text.{is_atom_text}
use Rattle.erl_term.specs.Canonical.{canonical, levels_of, is_list}
use Rattle.erl_term.specs.declared.term.Pid.{Pid}
use Rattle.erl_term.specs.declared.term.Reference.{Reference}

-- 128 bits with a sign
abbrev pub is_machine_int : ℤ → Bool
is_machine_int (pos n) = nat_lt n (2 ^ 127)
is_machine_int (negsuc n) = nat_lt n (2 ^ 127)

abbrev pub are_below : ℕ → List ℕ → Bool
are_below bound [] = true
are_below bound (n ∷ rest) = nat_lt n bound && are_below bound rest

abbrev pub is_pid_in_range : Pid → Bool
is_pid_in_range p = is_atom_text p.node && are_below (2 ^ 32) (p.id ∷ p.serial ∷ p.creation ∷ [])

abbrev pub is_reference_in_range : Reference → Bool
is_reference_in_range r =
    is_atom_text r.node && (are_below (2 ^ 32) (r.creation ∷ r.words) && (nat_le 1 (length r.words) && nat_le (length r.words) 5))

-- a value of the profile
abbrev mutual
  pub is_in_range : Data → Bool
  is_in_range (int z) = is_machine_int z
  is_in_range (atom text) = is_atom_text text
  is_in_range (tuple ts) = nat_lt (count ts) (2 ^ 32) && are_in_range ts
  is_in_range (list ts) = nat_lt (count ts) (2 ^ 32) && are_in_range ts
  is_in_range (improper ts t) =
      nat_lt 0 (count ts) && (nat_lt (count ts) (2 ^ 32) && (not (is_list t) && (are_in_range ts && is_in_range t)))
  is_in_range (binary bytes) = are_below 256 bytes && nat_lt (length bytes) (2 ^ 32)
  is_in_range (pid p) = is_pid_in_range p
  is_in_range (reference r) = is_reference_in_range r

  pub are_in_range : Items → Bool
  are_in_range no_items = true
  are_in_range (item t ts) = is_in_range t && are_in_range ts

unfoldable pub fits : Data → Bool
fits t = is_in_range t && (nat_le (levels_of t) MOST_PAYLOAD_LEVELS && nat_le (length (canonical t)) MOST_PAYLOAD_BYTES)
