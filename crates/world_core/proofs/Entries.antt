-- What a key has among entries that are changed in two steps: its value is taken out, and put back.
use Rattle.std.proofs.Common.{◌≡◌, Bool, true, false, cond, not, List, Option, Some, None, refl, sym, ap, ◌∙◌}
use Rattle.std.specs.Option.{is_some, unwrap_or}
use Rattle.std.specs.declared.cmp.Ordering.{Ordering}
use Rattle.std.specs.Ordering.{eq_by_cmp, is_eq}
use Rattle.std.specs.Cmp.{IsTotalOrder, eq_by_cmp_equiv, tied_itself}
use Rattle.std.specs.FinMap.{find, put}
use Rattle.std.specs.FinMap.Entries.{find-put, find-where_key}
use Rattle.sorted_map.specs.Entries.{changed, without}

module _ {K V : Type 0} {cmp : K → K → Ordering} (order : IsTotalOrder cmp)
    (same : (a b : K) → eq_by_cmp cmp a b ≡ true → a ≡ b) (d : V) where
  abbrev pub at_key : List (K × V) → K → V
  at_key entries key = unwrap_or (find cmp key entries) d

  pub put_at : (entries : List (K × V)) (key : K) (value : V) (x : K)
      → at_key (put cmp key value entries) x ≡ cond (eq_by_cmp cmp x key) value (at_key entries x)
  put_at entries key value x = ap (λ o. unwrap_or o d) (find-put cmp order x key value entries) ∙ go (eq_by_cmp cmp x key)
    where
      go : (b : Bool) → unwrap_or (cond b (Some value) (find cmp x entries)) d ≡ cond b value (at_key entries x)
      go true = refl
      go false = refl

  changed_there : (entries : List (K × V)) (key : K) (held value : V) → find cmp key entries ≡ Some held
      → changed cmp key value entries ≡ put cmp key value entries
  changed_there entries key held value h = ap (λ o. cond (is_some o) (put cmp key value entries) entries) h

  pub not_changed : (entries : List (K × V)) (key : K) (value : V) → find cmp key entries ≡ None → changed cmp key value entries ≡ entries
  not_changed entries key value h = ap (λ o. cond (is_some o) (put cmp key value entries) entries) h

  put_there : (entries : List (K × V)) (key : K) (value : V) → find cmp key (put cmp key value entries) ≡ Some value
  put_there entries key value =
      find-put cmp order key key value entries ∙ ap (λ o. cond (is_eq o) (Some value) (find cmp key entries)) (tied_itself order key)

  -- with one entry taken out
  pub find_without : (entries : List (K × V)) (key x : K)
      → find cmp x (without cmp key entries) ≡ cond (eq_by_cmp cmp x key) None (find cmp x entries)
  find_without entries key x =
      find-where_key cmp (λ held. not (eq_by_cmp cmp key held)) x
      (λ y t. ap (λ k. not (eq_by_cmp cmp key k)) (sym (same x y (ap is_eq t)))) entries
      ∙ ap (λ b. cond (not b) (find cmp x entries) None) ((eq_by_cmp_equiv order).symm key x)
      ∙ turned (eq_by_cmp cmp x key)
    where
      turned : (b : Bool) → cond (not b) (find cmp x entries) None ≡ cond b None (find cmp x entries)
      turned true = refl
      turned false = refl

  pub held_at : (entries : List (K × V)) (key : K) (held : V) → find cmp key entries ≡ Some held → at_key entries key ≡ held
  held_at entries key held h = ap (λ o. unwrap_or o d) h

  pub none_at : (entries : List (K × V)) (key : K) → find cmp key entries ≡ None → at_key entries key ≡ d
  none_at entries key h = ap (λ o. unwrap_or o d) h

  once : (b : Bool) (one two other : V) → cond b two (cond b one other) ≡ cond b two other
  once true one two other = refl
  once false one two other = refl

  once_found : (b : Bool) (one : V) (two other : Option V) → cond b two (cond b (Some one) other) ≡ cond b two other
  once_found true one two other = refl
  once_found false one two other = refl

  -- the value of a key is taken out: what its entries have then, once that entry is changed again or gone
  module _ (old new : List (K × V)) (key : K) (held one : V) (h : find cmp key old ≡ Some held) (m : new ≡ changed cmp key one old) where
    first : new ≡ put cmp key one old
    first = m ∙ changed_there old key held one h

    there : find cmp key new ≡ Some one
    there = ap (find cmp key) first ∙ put_there old key one

    found_before : (x : K) → find cmp x new ≡ cond (eq_by_cmp cmp x key) (Some one) (find cmp x old)
    found_before x = ap (find cmp x) first ∙ find-put cmp order x key one old

    pub found_swapped : (two : V) (x : K) → find cmp x (changed cmp key two new) ≡ cond (eq_by_cmp cmp x key) (Some two) (find cmp x old)
    found_swapped two x =
        ap (find cmp x) (changed_there new key one two there) ∙ find-put cmp order x key two new
        ∙ ap (cond (eq_by_cmp cmp x key) (Some two)) (found_before x)
        ∙ once_found (eq_by_cmp cmp x key) one (Some two) (find cmp x old)

    pub found_out : (x : K) → find cmp x (without cmp key new) ≡ cond (eq_by_cmp cmp x key) None (find cmp x old)
    found_out x =
        find_without new key x ∙ ap (cond (eq_by_cmp cmp x key) None) (found_before x)
        ∙ once_found (eq_by_cmp cmp x key) one None (find cmp x old)

  -- out and back again, changed
  pub swapped : (old new last : List (K × V)) (key : K) (held one two : V) → find cmp key old ≡ Some held
      → new ≡ changed cmp key one old → last ≡ changed cmp key two new
      → (x : K) → at_key last x ≡ cond (eq_by_cmp cmp x key) two (at_key old x)
  swapped old new last key held one two h m n x =
      let first : new ≡ put cmp key one old = m ∙ changed_there old key held one h in
      let there : find cmp key new ≡ Some one = ap (find cmp key) first ∙ put_there old key one in
      ap (λ es. at_key es x) (n ∙ changed_there new key one two there)
      ∙ put_at new key two x
      ∙ ap (λ es. cond (eq_by_cmp cmp x key) two (at_key es x)) first
      ∙ ap (cond (eq_by_cmp cmp x key) two) (put_at old key one x)
      ∙ once (eq_by_cmp cmp x key) one two (at_key old x)

  -- and where it had none
  pub new_at : (old new last : List (K × V)) (key : K) (one two : V) → find cmp key old ≡ None → new ≡ changed cmp key one old
      → last ≡ put cmp key two new
      → (x : K) → at_key last x ≡ cond (eq_by_cmp cmp x key) two (at_key old x)
  new_at old new last key one two h m n x =
      ap (λ es. at_key es x) (n ∙ ap (put cmp key two) (m ∙ not_changed old key one h)) ∙ put_at old key two x

  -- what a key has, put there again, changes nothing
  pub again : (entries : List (K × V)) (key x : K) → cond (eq_by_cmp cmp x key) (at_key entries key) (at_key entries x) ≡ at_key entries x
  again entries key x = go (eq_by_cmp cmp x key) refl
    where
      go : (b : Bool) → eq_by_cmp cmp x key ≡ b → cond b (at_key entries key) (at_key entries x) ≡ at_key entries x
      go true e = ap (at_key entries) (sym (same x key e))
      go false e = refl
