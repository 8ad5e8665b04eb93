use Rattle.std.proofs.Common.{◌≡◌, ℕ, ◌+◌, ◌^◌, ◌<◌, Bool, true, false, cond, nat_lt, ap, subst, ◌∙◌, arith, rules}
use Rattle.std.proofs.lemmas.Bool.Decides.{nat_tests}
use Rattle.dist_model.specs.Commands.{Accepts, Outcome, Refuses}
use Rattle.dist_model.specs.Incarnations.{started}
use Rattle.dist_model.specs.Node.{Node}
use Rattle.dist_model.specs.Work.{at_work}
use Rattle.dist_model.specs.declared.report.Answer.{Answer}
use Rattle.erl_names.specs.Minted.{Minted}
use Rattle.erl_term.specs.declared.refusal.Refusal.{Refusal}
use Rattle.node_plan.specs.Seen.{seen}
use Rattle.node_core.proofs.incarnations.start.Goals as goal

is_below : (n k : ℕ) → n < k → nat_lt n k ≡ true
is_below n k h = grind (arith, nat_tests)

pub returns-in-Ok : goal.returns-in-Ok
returns-in-Ok c = λ names.
    let m = seen c.args.node.now in
    let next = m.mint.creation + 1 in
    let due = Accepts (Answer.Started next) (at_work (started m)) in
    let down : m.up ≡ false = search rules in
    let number : c.number.result ≡ next =
    c.number.ensures.number ∙ c.creation.ensures ∙ ap (λ (x : Minted). x.creation) c.mint.ensures
    ∙ ap (λ (n : Node). n.mint.creation) c.in-Ok.ensures.node in
    let within : c.number.result < 2 ^ 32 = search rules in
    let below : nat_lt next (2 ^ 32) ≡ true = is_below next (2 ^ 32) (subst (λ n. n < 2 ^ 32) number within) in
    let tested : Bool → Outcome = λ b. cond b due (Refuses Refusal.IdsUsedUp) in
    record {
      answer = Answer.Started next;
      work = at_work (started m);
      accepts = ap (λ b. cond b (Refuses Refusal.NodeUp) (tested (nat_lt next (2 ^ 32)))) down ∙ ap tested below;
      told = ap Answer.Started number;
      node = c.in-Ok.ensures.node;
      effects = c.new.ensures.items;
      spelled = tt;
    }
