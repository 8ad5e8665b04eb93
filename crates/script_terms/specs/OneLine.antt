-- Text that stands on one line.
use Rattle.std.specs.Prelude.{◌≡◌, ℕ, List, Bool, true, not, ◌&&◌, ◌==◌, nat_le, IfSome}
use Rattle.std.specs.List.{list_all}
use Rattle.std.specs.Str.{IsUtf8}
use Rattle.erl_term.specs.Data.{Data, int, atom, tuple, list, improper, binary, pid, reference, Items, no_items, item}
use Rattle.script_terms.specs.Binding.{Look, named_data}

-- no control character of ASCII, which are those below 32, the ends of lines among them, and 127
abbrev pub is_shown : ℕ → Bool
is_shown b = nat_le 32 b && not (b == 127)

pub record IsOneLine (text : List ℕ) : Type 0 where
  pub utf8 : IsUtf8 text
  pub shown : list_all is_shown text ≡ true

-- its atoms are text, and each node that made one of its pids and references has a name of one line
abbrev mutual
  pub IsPrintable : Data → Type 0
  IsPrintable (int z) = Unit {0}
  IsPrintable (atom a) = IsUtf8 a
  IsPrintable (tuple ts) = ArePrintable ts
  IsPrintable (list ts) = ArePrintable ts
  IsPrintable (improper ts t) = ArePrintable ts × IsPrintable t
  IsPrintable (binary a) = Unit {0}
  IsPrintable (pid p) = IsOneLine p.node
  IsPrintable (reference r) = IsOneLine r.node

  pub ArePrintable : Items → Type 0
  ArePrintable no_items = Unit {0}
  ArePrintable (item t ts) = IsPrintable t × ArePrintable ts

-- and so has what each name of a script stands for
abbrev pub NamesArePrintable : Look → Type 0
NamesArePrintable look = (name : List ℕ) → IfSome (look name) (λ named. IsPrintable (named_data named))
