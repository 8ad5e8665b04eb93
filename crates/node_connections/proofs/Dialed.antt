-- A node that may dial does, and its connection is a new one.
use Rattle.std.proofs.Common.{◌≡◌, ℕ, ◌+◌, ◌<◌, ◌≤◌, ◌-◌, ◌^◌, true, false, cond, not}
use Rattle.std.proofs.Common.{nat_lt, List, Option, Some, None, refl, ap, ◌∙◌, arith, rules}
use Rattle.std.specs.Option.{is_some, option_map}
use Rattle.std.specs.FinMap as fm
use Rattle.dist_model.specs.Commands.{Accepts, Outcome, Refuses}
use Rattle.dist_model.specs.Dialing.{dial, has_name, next_trunk}
use Rattle.dist_model.specs.Keeping.{CountsOwn}
use Rattle.dist_model.specs.Names.{Name, same_name}
use Rattle.dist_model.specs.Node.{Node, side_where}
use Rattle.dist_model.specs.Sides.{TrunkSide, is_gone}
use Rattle.dist_model.specs.declared.report.Answer.{Answer}
use Rattle.erl_term.specs.declared.refusal.Refusal.{Refusal}
use Rattle.node_connections.specs.Dialed.{dialed_on}

pub next_is_new : (n : Node) → CountsOwn n → fm.get n.sides (next_trunk n) ≡ None
next_is_new n counted = go (fm.get n.sides (next_trunk n)) refl
  where
    go : (o : Option TrunkSide) → fm.get n.sides (next_trunk n) ≡ o → fm.get n.sides (next_trunk n) ≡ None
    go None e = e
    go (Some s) e = let h : n.dialed + 1 ≤ n.dialed = counted (next_trunk n) s e refl in absurd (omega (arith, h))

pub some_mapped : {A B : Type 0} (f : A → B) (o : Option A) → is_some (option_map f o) ≡ is_some o
some_mapped f None = refl
some_mapped f (Some a) = refl

pub dials : (names : List Name) (n : Node) (y : Name) (word : ℕ) → same_name y n.mint.name ≡ false → has_name y names ≡ true
    → is_some (side_where (λ state. not (is_gone state)) y (fm.entries n.sides)) ≡ false → nat_lt (n.dialed + 1) (2 ^ 64) ≡ true
    → dial names n y word ≡ Accepts (Answer.Trunk (next_trunk n)) (dialed_on n y word)
dials names n y word own known free left =
    ap (λ b. cond b (Refuses Refusal.SelfDial) (cond (not (has_name y names)) (Refuses Refusal.NothingThere) (cond
    (is_some (side_where (λ state. not (is_gone state)) y (fm.entries n.sides))) (Refuses Refusal.Busy)
    (cond (not (nat_lt (n.dialed + 1) (2 ^ 64))) (Refuses Refusal.IdsUsedUp) goes)))) own
    ∙ ap (λ b. cond (not b) (Refuses Refusal.NothingThere) (cond
    (is_some (side_where (λ state. not (is_gone state)) y (fm.entries n.sides))) (Refuses Refusal.Busy)
    (cond (not (nat_lt (n.dialed + 1) (2 ^ 64))) (Refuses Refusal.IdsUsedUp) goes))) known
    ∙ ap (λ b. cond b (Refuses Refusal.Busy) (cond (not (nat_lt (n.dialed + 1) (2 ^ 64))) (Refuses Refusal.IdsUsedUp) goes)) free
    ∙ ap (λ b. cond (not b) (Refuses Refusal.IdsUsedUp) goes) left
  where
    goes : Outcome
    goes = Accepts (Answer.Trunk (next_trunk n)) (dialed_on n y word)

pub below_most : (n : ℕ) → n < 2 ^ 64 - 1 → nat_lt (n + 1) (2 ^ 64) ≡ true
below_most n h = search rules
