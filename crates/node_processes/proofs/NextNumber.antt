-- A number that is drawn is the next of its kind.
use Rattle.std.proofs.Common.{◌≡◌, ℕ, ◌+◌, ◌<◌, Bool, true, false, cond, nat_lt, Option}
use Rattle.std.proofs.Common.{Some, None, Result, Ok, Err, refl, sym, ap, ◌∙◌, rules}
use Rattle.std.specs.Option.{ok_or}
use Rattle.erl_names.specs.Draw.{Draw}
use Rattle.erl_names.specs.Minted.{Minted, count, id_of, last}
use Rattle.erl_term.specs.declared.refusal.Refusal.{Refusal}

pub record Next (m : Minted) (kind : Draw) (id : ℕ) : Type 0 where
  pub drawn : id_of m kind ≡ Some id
  pub is : id ≡ count m kind + 1
  pub below : count m kind < last kind

pub next_is : (m : Minted) (kind : Draw) (e : Refusal) (id : ℕ) → ok_or (id_of m kind) e ≡ Ok id → Next m kind id
next_is m kind e id h = go (nat_lt (count m kind) (last kind)) refl h
  where
    same : (n : ℕ) → ◌≡◌ {A = Result ℕ Refusal} (Ok n) (Ok id) → n ≡ id
    same n h = ap (λ r. number_of r) h
      where
        number_of : Result ℕ Refusal → ℕ
        number_of (Ok id) = id
        number_of (Err e) = 0

    less : nat_lt (count m kind) (last kind) ≡ true → count m kind < last kind
    less h = search (rules, h)

    go : (b : Bool) → nat_lt (count m kind) (last kind) ≡ b → ok_or (cond b (Some (count m kind + 1)) None) e ≡ Ok id → Next m kind id
    go true t h = record {
      drawn = ap (λ b. cond b (Some (count m kind + 1)) None) t ∙ ap Some (same (count m kind + 1) h);
      is = sym (same (count m kind + 1) h);
      below = less t;
    }
    go false t h = cc

pub used_up : (m : Minted) (kind : Draw) (e : Refusal) → ok_or (id_of m kind) Refusal.IdsUsedUp ≡ Err e
    → (id_of m kind ≡ None) × (e ≡ Refusal.IdsUsedUp)
used_up m kind e h = go (id_of m kind) refl h
  where
    go : (o : Option ℕ) → id_of m kind ≡ o → ◌≡◌ {A = Result ℕ Refusal} (ok_or o Refusal.IdsUsedUp) (Err e)
        → (id_of m kind ≡ None) × (e ≡ Refusal.IdsUsedUp)
    go None i h = (i, sym (ap (λ r. error_of r) h))
      where
        error_of : Result ℕ Refusal → Refusal
        error_of (Ok id) = Refusal.IdsUsedUp
        error_of (Err e) = e
    go (Some id) i h = cc
