-- The values that the terms of a script have.
use Rattle.std.specs.Prelude.{◌≡◌, ◌<◌, ◌&&◌, Bool, true, false, FitsSigned}
use Rattle.std.specs.Int.{w128}
use Rattle.erl_term.specs.Data.{Data, int, atom, tuple, list, improper, binary, pid, reference, Items, no_items, item, count}
use Rattle.erl_term.specs.Numbers.{AreBytes}
use Rattle.erl_term.specs.Text.{IsAtomText}
use Rattle.erl_term.specs.Canonical.{is_list}

-- -2 ^ 127 to 2 ^ 127 - 1, texts of at most 255 characters, bytes, and a tail only behind some items and of no list
abbrev mutual
  pub IsValue : Data → Type 0
  IsValue (int z) = FitsSigned w128 z
  IsValue (atom a) = IsAtomText a
  IsValue (tuple ts) = AreValues ts
  IsValue (list ts) = AreValues ts
  IsValue (improper ts t) = (0 < count ts) × (is_list t ≡ false) × AreValues ts × IsValue t
  IsValue (binary a) = AreBytes a
  IsValue (pid p) = Unit {0}
  IsValue (reference r) = Unit {0}

  pub AreValues : Items → Type 0
  AreValues no_items = Unit {0}
  AreValues (item t ts) = IsValue t × AreValues ts

-- no pid and no reference stands in it, so that it can be written without a name
abbrev mutual
  pub is_literal : Data → Bool
  is_literal (int z) = true
  is_literal (atom a) = true
  is_literal (tuple ts) = are_literals ts
  is_literal (list ts) = are_literals ts
  is_literal (improper ts t) = are_literals ts && is_literal t
  is_literal (binary a) = true
  is_literal (pid p) = false
  is_literal (reference r) = false

  pub are_literals : Items → Bool
  are_literals no_items = true
  are_literals (item t ts) = is_literal t && are_literals ts
