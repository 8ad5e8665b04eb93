-- What is read as a DOWN is one.
use Rattle.std.proofs.Common.{◌≡◌, ℕ, Bool, true, false, cond, List, [], ◌∷◌, refl, sym, ap, ◌&&◌, arith, Option, None, Some}
use Rattle.std.proofs.lemmas.Bool.{and_parts}
use Rattle.std.specs.Prelude.{codes, nat_eq}
use Rattle.std.specs.Cmp.Lexicographic.{pointwise}
use Rattle.dist_model.proofs.Entries.{same_reference_true}
use Rattle.dist_model.specs.Downs.{Down, down_in, down_of, same_reference, target_in}
use Rattle.dist_model.specs.Telling.{object}
use Rattle.monitor_core.specs.declared.monitor.Target.{Target}
use Rattle.std.proofs.lemmas.Option.{same_Some}
use Rattle.erl_term.specs.Data.{Data, atom, item, no_items, pid, reference, tuple}
use Rattle.erl_term.specs.declared.term.Pid.{Pid}
use Rattle.erl_term.specs.declared.term.Reference.{Reference}
use Rattle.exit_core.specs.Messages.{down_term}

-- texts that compare alike are one
pub same_text : (a b : List ℕ) → pointwise nat_eq a b ≡ true → a ≡ b
same_text [] [] h = refl
same_text (x ∷ a) (y ∷ b) h =
    let v = and_parts (nat_eq x y) (pointwise nat_eq a b) h in
    let e : x ≡ y = grind (arith, v.0) in
    let f : a ≡ b = same_text a b v.1 in
    λ i. e i ∷ f i
same_text _ _ h = cc

nothing : (P : Type 0) (d : Down) (ds : List Down) → ◌≡◌ {A = List Down} [] (d ∷ ds) → P
nothing P d ds h = cc

-- the object of a DOWN is that of its target
is_object : (object_in : Data) (t : Target) → target_in object_in ≡ Some t → object_in ≡ object t
is_object (pid p) t h = λ i. object (same_Some (Target.Pid p) t h i)
is_object (tuple (item (atom name) (item (atom node) no_items))) t h = λ i. object (same_Some (Target.Name name node) t h i)
is_object _ t h = cc

of_target : (owner : Pid) (found : Option Target) (info : Data) (d : Down) (ds : List Down) → down_of owner found info ≡ d ∷ ds
    → (d.owner ≡ owner) × (found ≡ Some d.target) × (d.info ≡ info)
of_target owner None info d ds h = nothing _ d ds h
of_target owner (Some target) info d ds h =
    let s : d ≡ record { owner = owner; target = target; info = info } = cc in
    (ap (λ (z : Down). z.owner) s, ap (λ (z : Down). Some z.target) (sym s), ap (λ (z : Down). z.info) s)

pub is_down : (r : Reference) (owner : Pid) (m : Data) (d : Down) (ds : List Down) → down_in r owner m ≡ d ∷ ds
    → (d.owner ≡ owner) × (m ≡ down_term r (object d.target) d.info)
is_down r owner (tuple (item (atom name) (item (reference of) (item (atom kind) (item body (item info no_items)))))) d ds h =
    go (pointwise nat_eq name (codes "DOWN") && same_reference r of && pointwise nat_eq kind (codes "process")) refl h
  where
    go : (b : Bool)
        → (pointwise nat_eq name (codes "DOWN") && same_reference r of && pointwise nat_eq kind (codes "process")) ≡ b
        → cond b (down_of owner (target_in body) info) [] ≡ d ∷ ds
        → (d.owner ≡ owner) × (tuple (item (atom name) (item (reference of) (item (atom kind) (item body (item info no_items)))))
        ≡ down_term r (object d.target) d.info)
    go false e h = nothing _ d ds h
    go true e h =
        let v = and_parts (pointwise nat_eq name (codes "DOWN") && same_reference r of) (pointwise nat_eq kind (codes "process")) e in
        let u = and_parts (pointwise nat_eq name (codes "DOWN")) (same_reference r of) v.0 in
        let n : name ≡ codes "DOWN" = same_text name (codes "DOWN") u.0 in
        let k : kind ≡ codes "process" = same_text kind (codes "process") v.1 in
        let o : r ≡ of = same_reference_true r of u.1 in
        let s = of_target owner (target_in body) info d ds h in
        let b : body ≡ object d.target = is_object body d.target s.1 in (
          s.0,
          λ i. tuple (item (atom (n i)) (item (reference (sym o i)) (item (atom (k i)) (item (b i) (item (sym s.2 i) no_items))))),
        )
is_down r owner _ d ds h = nothing _ d ds h
