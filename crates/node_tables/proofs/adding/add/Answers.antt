use Rattle.std.proofs.Common.{ap, ◌∙◌, rules}
use Rattle.erl_names.specs.Draw as draw
use Rattle.erl_names.specs.Minted.{Minted}
use Rattle.node_tables.specs.Lives.{ends_in, lives_in}
use Rattle.node_tables.specs.declared.life.Life.TheVariants.{Living}
use Rattle.node_tables.proofs.Changed.{ends_drawn, ends_spawned, lives_drawn, lives_spawned}
use Rattle.node_tables.proofs.adding.add.Goals as goal

pub returns-clause-lives : goal.returns-clause-lives
returns-clause-lives c =
    let m = c.args.mint.now in
    let es = c.args.held.now.items in
    let e = Living c.new.result c.new-2.result in
    ap (λ (x : Minted). lives_in x c.push.new.self.items) c.next_pid.ensures.drawn ∙ lives_drawn m draw.Pid c.push.new.self.items
    ∙ ap (lives_in m) c.in-Ok-push.ensures.items ∙ lives_spawned m es e (search rules) c.requires.spawned

pub returns-clause-ends : goal.returns-clause-ends
returns-clause-ends c =
    let m = c.args.mint.now in
    let es = c.args.held.now.items in
    let e = Living c.new.result c.new-2.result in
    ap (λ (x : Minted). ends_in x c.push.new.self.items) c.next_pid.ensures.drawn ∙ ends_drawn m draw.Pid c.push.new.self.items
    ∙ ap (ends_in m) c.in-Ok-push.ensures.items ∙ ends_spawned m es e c.new-2.ensures
