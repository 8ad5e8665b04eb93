-- The process of a link that a node keeps is one of its incarnation, and living.
use Rattle.std.proofs.Common.{◌≡◌, ℕ, zero, suc, ◌<◌, Bool, true, false, cond, List, Option, None, Some, refl, sym, ap, ◌∙◌, arith}
use Rattle.std.specs.FinMap as fm
use Rattle.std.specs.Option.{option_and_then, option_map}
use Rattle.dist_model.specs.Node.{is_living_life}
use Rattle.erl_names.specs.Ids.{pid_of}
use Rattle.erl_names.specs.Minted.{Minted}
use Rattle.erl_term.specs.Order.{pid_cmp}
use Rattle.erl_term.specs.declared.term.Pid.{Pid}
use Rattle.link_core.specs.declared.end.End.{End}
use Rattle.node_tables.proofs.Lookups.{get_end, get_life}
use Rattle.node_tables.proofs.Own.{own_is}
use Rattle.node_tables.specs.Lives.{by_id, end_at, ends_in, is_own, life_in, life_of, lives_in}
use Rattle.node_tables.specs.declared.life.Life.{Life}
use Rattle.node_tables.specs.declared.life.Life.TheVariants.{Ended, Living}

pub record Owner (m : Minted) (lives : List Life) (p : Pid) : Type 0 where
  pub own : is_own m p ≡ true
  pub positive : 0 < p.id
  pub living : is_living_life (fm.get (lives_in m lives) p) ≡ true

module _ (m : Minted) (lives : List Life) (p q : Pid) (e : End) where
  owned : (o : Bool) (x : Option Life) → option_and_then (end_at q) (cond o x None) ≡ Some e → o ≡ true
  owned true x h = refl
  owned false x h = cc

  from_one : (id : ℕ) → option_and_then (end_at q) (by_id lives id) ≡ Some e → 0 < id
  from_one zero h = cc
  from_one (suc id) h = omega arith

  lives_on : (x : Option Life) → option_and_then (end_at q) x ≡ Some e → is_living_life (option_map life_of x) ≡ true
  lives_on None h = cc
  lives_on (Some (Living process ends)) h = refl
  lives_on (Some (Ended reason)) h = let none = sym (fm.get-empty {X = End} pid_cmp q) ∙ h in cc

  pub owner : fm.get (ends_in m lives) (p, q) ≡ Some e → Owner m lives p
  owner h =
      let at : option_and_then (end_at q) (life_in m lives p) ≡ Some e = sym (get_end m lives p q) ∙ h in
      let own : is_own m p ≡ true = owned (is_own m p) (by_id lives p.id) at in
      record {
        own = own;
        positive = from_one p.id (ap (λ o. option_and_then (end_at q) (cond o (by_id lives p.id) None)) (sym own) ∙ at);
        living = ap is_living_life (get_life m lives p) ∙ lives_on (life_in m lives p) at;
      }

-- its id tells it
pub is_of : (m : Minted) (lives : List Life) (p : Pid) → Owner m lives p → pid_of m p.id ≡ p
is_of m lives p o = go p.id refl o.positive
  where
    go : (id : ℕ) → p.id ≡ id → 0 < id → pid_of m p.id ≡ p
    go zero h l = absurd (omega arith)
    go (suc place) h l = ap (pid_of m) h ∙ own_is m p place o.own (sym h)
