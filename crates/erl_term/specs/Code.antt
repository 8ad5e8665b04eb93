-- How a proof stores the data of a term, to tell it from others: as a tree of numbers that gives it back.
use Rattle.std.specs.Prelude.{◌≡◌, ℕ, ℤ, pos, negsuc, List, [], ◌∷◌, ◌==◌, if◌then◌else◌, refl}
use Rattle.std.specs.Coded.{Coded}
use base.Stored.{Gv, gnil, gnum, gcons, num}
use mathlib.Core.Path.{ap, sym, ◌∙◌}
use Rattle.erl_term.specs.Data.{Data, int, atom, tuple, list, improper, binary, pid, reference, Items, no_items, item}

abbrev pub of_numbers : List ℕ → Gv
of_numbers [] = gnil
of_numbers (n ∷ ns) = gcons (gnum n) (of_numbers ns)

abbrev pub numbers : Gv → List ℕ
numbers gnil = []
numbers (gnum n) = []
numbers (gcons n ns) = num n ∷ numbers ns

pub numbers_back : (ns : List ℕ) → numbers (of_numbers ns) ≡ ns
numbers_back [] = refl
numbers_back (n ∷ ns) = ap (λ ms. n ∷ ms) (numbers_back ns)

abbrev pub first : List ℕ → ℕ
first [] = 0
first (n ∷ ns) = n

abbrev pub others : List ℕ → List ℕ
others [] = []
others (n ∷ ns) = ns

abbrev pub kind : ℕ → Gv → Gv → Gv
kind k a b = gcons (gnum k) (gcons a b)

abbrev mutual
  pub of_data : Data → Gv
  of_data (int (pos n)) = kind 0 (gnum 0) (gnum n)
  of_data (int (negsuc n)) = kind 0 (gnum 1) (gnum n)
  of_data (atom a) = kind 1 gnil (of_numbers a)
  of_data (tuple ts) = kind 2 gnil (of_items ts)
  of_data (list ts) = kind 3 gnil (of_items ts)
  of_data (improper ts t) = kind 4 (of_items ts) (of_data t)
  of_data (binary a) = kind 5 gnil (of_numbers a)
  of_data (pid p) = kind 6 (of_numbers p.node) (of_numbers (p.creation ∷ p.id ∷ p.serial ∷ []))
  of_data (reference r) = kind 7 (of_numbers r.node) (of_numbers (r.creation ∷ r.words))

  pub of_items : Items → Gv
  of_items no_items = gnil
  of_items (item t ts) = gcons (of_data t) (of_items ts)

abbrev pub integer : ℕ → ℕ → ℤ
integer sign n = if sign == 0 then pos n else negsuc n

abbrev pub pid_of : List ℕ → List ℕ → Data
pid_of node ns = pid (record { node = node; creation = first ns; id = first (others ns); serial = first (others (others ns)) })

abbrev pub reference_of : List ℕ → List ℕ → Data
reference_of node ns = reference (record { node = node; creation = first ns; words = others ns })

abbrev mutual
  pub data_of : Gv → Data
  data_of gnil = int (pos 0)
  data_of (gnum n) = int (pos 0)
  data_of (gcons k gnil) = int (pos 0)
  data_of (gcons k (gnum n)) = int (pos 0)
  data_of (gcons k (gcons a b)) =
      if num k == 0 then int (integer (num a) (num b)) else
      (if num k == 1 then atom (numbers b) else
      (if num k == 2 then tuple (items_of b) else
      (if num k == 3 then list (items_of b) else
      (if num k == 4 then improper (items_of a) (data_of b) else
      (if num k == 5 then binary (numbers b) else
      (if num k == 6 then pid_of (numbers a) (numbers b) else
      reference_of (numbers a) (numbers b)))))))

  pub items_of : Gv → Items
  items_of gnil = no_items
  items_of (gnum n) = no_items
  items_of (gcons t ts) = item (data_of t) (items_of ts)

mutual
  pub data_back : (t : Data) → data_of (of_data t) ≡ t
  data_back (int (pos n)) = refl
  data_back (int (negsuc n)) = refl
  data_back (atom a) = ap atom (numbers_back a)
  data_back (tuple ts) = ap tuple (items_back ts)
  data_back (list ts) = ap list (items_back ts)
  data_back (improper ts t) = ap (λ us. improper us (data_of (of_data t))) (items_back ts) ∙ ap (improper ts) (data_back t)
  data_back (binary a) = ap binary (numbers_back a)
  data_back (pid p) = ap (λ node. pid_of node (p.creation ∷ p.id ∷ p.serial ∷ [])) (numbers_back p.node)
  data_back (reference r) =
      ap (λ node. reference_of node (r.creation ∷ numbers (of_numbers r.words))) (numbers_back r.node) ∙
      ap (λ ws. reference_of r.node (r.creation ∷ ws)) (numbers_back r.words)

  pub items_back : (ts : Items) → items_of (of_items ts) ≡ ts
  items_back no_items = refl
  items_back (item t ts) = ap (λ u. item u (items_of (of_items ts))) (data_back t) ∙ ap (item t) (items_back ts)

abbrev pub data_code : Coded Data
data_code = record { code = of_data; inj = λ x y p. sym (data_back x) ∙ ap data_of p ∙ data_back y }
