use Rattle.std.proofs.Common.{◌≡◌, sym, ap, ◌∙◌, rules, Ok, subst, ℕ, Option}
use Rattle.std.specs.Option.{ok_or}
use Rattle.dist_model.specs.Calls.{spawn_life}
use Rattle.dist_model.specs.Commands.{Accepts, Outcome, with_id}
use Rattle.dist_model.specs.Work.{at_work}
use Rattle.dist_model.specs.declared.report.Answer.{Answer}
use Rattle.erl_names.specs.Draw as kind
use Rattle.erl_names.specs.Ids.{pid_of}
use Rattle.erl_names.specs.Minted.{id_of}
use Rattle.erl_term.specs.declared.refusal.Refusal.{Refusal}
use Rattle.node_plan.specs.Carried.{CarriesOut}
use Rattle.node_plan.specs.Seen.{seen}
use Rattle.node_processes.proofs.NextNumber.{next_is}
use Rattle.node_plan.proofs.Outcomes.{lacks, planned}
use Rattle.node_processes.proofs.commands.spawn.Goals as goal

pub returns-in-Err : goal.returns-in-Err
returns-in-Err c =
    let m = seen c.args.node.now in
    let id = c.in_ok-id.id in
    let at : ok_or (id_of m.mint kind.Pid) Refusal.IdsUsedUp ≡ Ok id = search rules in
    let next = next_is m.mint kind.Pid Refusal.IdsUsedUp id at in
    let due : Option ℕ → Outcome = λ o. with_id o (λ id. Accepts (Answer.Pid (pid_of m.mint id)) (spawn_life m (pid_of m.mint id))) in
    lacks _ (Answer.Pid (pid_of m.mint id)) (spawn_life m (pid_of m.mint id)) (ap due next.drawn)

pub returns : goal.returns
returns c =
    let m = seen c.args.node.now in
    let id = c.in_ok-id.id in
    let at : ok_or (id_of m.mint kind.Pid) Refusal.IdsUsedUp ≡ Ok id = search rules in
    let next = next_is m.mint kind.Pid Refusal.IdsUsedUp id at in
    let due : Option ℕ → Outcome = λ o. with_id o (λ id. Accepts (Answer.Pid (pid_of m.mint id)) (spawn_life m (pid_of m.mint id))) in
    let pid : c.in-Ok.process ≡ pid_of m.mint id = search rules in
    let P : ℕ → Type 0 = λ n. CarriesOut c.spawn.new.self m (spawn_life m (pid_of m.mint n)) in
    planned m _ (Answer.Pid (pid_of m.mint id)) (spawn_life m (pid_of m.mint id)) c.spawn.new.self (ap due next.drawn)
    (c.spawn.ensures.told m ∙ c.answers.ensures.told m ∙ ap Answer.Pid pid)
    (subst P (sym next.is)
    (c.spawn.ensures.carries m c.requires.up next.below (c.answers.ensures.carries m (at_work m) c.requires.carries)))
