-- Terms that are kept, one after the other.
use Rattle.std.proofs.Common.{◌≡◌, List, [], ◌∷◌, ◌++◌, map, Result, Err, refl, sym, ap, ◌∙◌, arith, false}
use Rattle.std.proofs.lemmas.List.{map_push}
use Rattle.erl_term.specs.declared.term.Term.{Term}
use Rattle.erl_term.specs.Data.{Data, Items, item, improper, joined}
use Rattle.erl_term.specs.Canonical.{is_list}
use Rattle.erl_term.specs.View.{view, items_view}
use Rattle.script_terms.specs.declared.fault.TermFault.{TermFault}
use Rattle.script_terms.specs.declared.fault.ReadError.{ReadError}
use Rattle.script_terms.specs.declared.fault.ReadError.TheVariants.{Fault, OutOfMemory}
use Rattle.script_terms.specs.Checking.{Fails}
use Rattle.script_terms.proofs.Cells.{and_one}
use Rattle.erl_term.proofs.Canonical.{joined_improper}
use Rattle.script_terms.proofs.Shapes.{count_and_one}

pub items_push : (ts new : List Term) (t : Term) → new ≡ ts ++ t ∷ [] → items_view new ≡ and_one (items_view ts) (view t)
items_push ts new t e = ap items_view e ∙ by ts
  where
    by : (us : List Term) → items_view (us ++ t ∷ []) ≡ and_one (items_view us) (view t)
    by [] = refl
    by (u ∷ us) = ap (item (view u)) (by us)

pub views_push : (ts new : List Term) (t : Term) → new ≡ ts ++ t ∷ [] → map view new ≡ map view ts ++ view t ∷ []
views_push ts new t e = ap (map view) e ∙ map_push view ts t

-- a fault passes through, and so does want of memory
pub fails_by : {A B : Type 0} (e : ReadError) (r : Result A TermFault) (total : Result B TermFault) → Fails e r
    → ((f : TermFault) → r ≡ Err f → total ≡ Err f) → Fails e total
fails_by (Fault f) r total h k = k f h
fails_by OutOfMemory r total h k = tt

pub improper_is : (ts new : List Term) (t : Term) (u : Data) → new ≡ ts ++ t ∷ [] → is_list u ≡ false
    → joined (and_one (items_view ts) (view t)) u ≡ improper (items_view new) u
improper_is ts new t u e other =
    let k = count_and_one (items_view ts) (view t) in
    joined_improper (and_one (items_view ts) (view t)) u (omega arith) other
    ∙ ap (λ (us : Items). improper us u) (sym (items_push ts new t e))
