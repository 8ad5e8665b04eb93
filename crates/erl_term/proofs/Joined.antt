-- Lists that are made of items and a tail, and of bytes.
use Rattle.std.proofs.Common.{◌≡◌, ℕ, ◌<◌, ◌≤◌, false, List, [], ◌∷◌, ◌++◌, length, take, map, refl, sym, ap, ◌∙◌, arith}
use Rattle.std.specs.Prelude.{pos, Option, Some, None, Box}
use Rattle.std.specs.Global.{Vec}
use Rattle.std.specs.declared.alloc.Global.{Global}
use Rattle.std.proofs.lemmas.List.{take_all}
use Rattle.erl_term.specs.declared.term.Term.{Term}
use Rattle.erl_term.specs.declared.term.Term.TheVariants as term
use Rattle.erl_term.specs.Data.{Data, int, list, improper, Items, item, append_items, joined}
use Rattle.erl_term.specs.Spelling.{byte_items}
use Rattle.erl_term.specs.Canonical.{is_list}
use Rattle.erl_term.specs.View.{view, items_of, items_view}
use Rattle.erl_term.proofs.Canonical.{joined_improper}
use Rattle.erl_term.proofs.Terms.{view-list, view-improper, count-view}

items_view-append : (ts us : List Term) → items_view (ts ++ us) ≡ append_items (items_view ts) (items_view us)
items_view-append [] us = refl
items_view-append (t ∷ ts) us = ap (item (view t)) (items_view-append ts us)

-- a list in the tail goes on with its own items
pub joined_list : (ts : List Term) (v more : Vec Term) (o : Option (Box Term Global)) (tail t : Term)
    → tail ≡ term.List more o → v.items ≡ ts ++ more.items → t ≡ term.List v o → view t ≡ joined (items_view ts) (view tail)
joined_list ts v more None tail t e all is =
    view-list t v None is refl ∙ ap (λ (us : List Term). list (items_view us)) all ∙ ap list (items_view-append ts more.items)
    ∙ ap (joined (items_view ts)) (sym (view-list tail more None e refl))
joined_list ts v more (Some b) tail t e all is =
    view-improper t v (Some b) b is refl ∙ ap (λ (us : List Term). improper (items_view us) (view b.value)) all
    ∙ ap (λ (us : Items). improper us (view b.value)) (items_view-append ts more.items)
    ∙ ap (joined (items_view ts)) (sym (view-improper tail more (Some b) b e refl))

-- any other tail stands behind the items
pub joined_other : (v : Vec Term) (b : Box Term Global) (tail t : Term) → 0 < length v.items → is_list (view tail) ≡ false
    → b.value ≡ tail → t ≡ term.List v (Some b) → view t ≡ joined (items_view v.items) (view tail)
joined_other v b tail t some e same is =
    let n = count-view v.items in
    view-improper t v (Some b) b is refl ∙ ap (λ (u : Term). improper (items_view v.items) (view u)) same
    ∙ sym (joined_improper (items_view v.items) (view tail) (omega arith) e)

-- ---- the integers of bytes

abbrev pub byte_data : ℕ → Data
byte_data n = int (pos n)

byte_items-of : (bytes : List ℕ) → items_of (map byte_data bytes) ≡ byte_items bytes
byte_items-of [] = refl
byte_items-of (b ∷ bytes) = ap (item (byte_data b)) (byte_items-of bytes)

pub byte_done : (bytes : List ℕ) (i : ℕ) (ts : List Term) → length bytes ≤ i → map view ts ≡ map byte_data (take i bytes)
    → items_view ts ≡ byte_items bytes
byte_done bytes i ts le e = ap items_of (e ∙ ap (map byte_data) (take_all i bytes le)) ∙ byte_items-of bytes
