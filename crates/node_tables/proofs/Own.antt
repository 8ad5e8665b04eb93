-- The pid of a process that is there is one of this incarnation.
use Rattle.std.proofs.Common.{◌≡◌, ℕ, zero, suc, ◌<◌, ◌-◌, Bool, true, cond}
use Rattle.std.proofs.Common.{List, None, length, refl, sym, arith}
use Rattle.std.proofs.lemmas.Bool.{and_parts, eqb-true}
use Rattle.dist_model.proofs.Keys.{same_name_true}
use Rattle.std.proofs.lemmas.Option.{slice_get_past}
use Rattle.erl_names.specs.Minted.{Minted}
use Rattle.erl_term.specs.declared.term.Pid.{Pid}
use Rattle.node_tables.specs.Lives.{by_id, is_own, life_in, pid_at}
use Rattle.node_tables.specs.declared.life.Life.{Life}

pub own_is : (m : Minted) (p : Pid) (place : ℕ) → is_own m p ≡ true → suc place ≡ p.id → pid_at m place ≡ p
own_is m p place h e =
    let x = and_parts _ _ h in
    let y = and_parts _ _ x.1 in
    let name = sym (same_name_true p.node m.name x.0) in
    let creation = sym (eqb-true p.creation m.creation y.0) in
    let serial = sym (eqb-true p.serial 0 y.1) in
    λ i. record { node = name i; creation = creation i; id = e i; serial = serial i }

pub none_beyond : (m : Minted) (es : List Life) (p : Pid) → length es < p.id → life_in m es p ≡ None
none_beyond m es p l = go (is_own m p) p.id l
  where
    go : (b : Bool) (id : ℕ) → length es < id → cond b (by_id es id) None ≡ None
    go b zero l = absurd (omega arith)
    go Rattle.std.proofs.Common.false (suc k) l = refl
    go true (suc k) l = slice_get_past es k (omega arith)
