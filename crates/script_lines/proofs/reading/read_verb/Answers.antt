use Rattle.script_lines.proofs.reading.read_verb.Goals as goal

pub returns-in-Node : goal.returns-in-Node
returns-in-Node c = λ look knows. rw c.in-Node.is (c.node_line.ensures look)

pub returns-in-Pair : goal.returns-in-Pair
returns-in-Pair c = λ look knows. rw c.in-Pair.is (c.pair_line.ensures look)

pub returns-in-Spawn : goal.returns-in-Spawn
returns-in-Spawn c = λ look knows. rw c.in-Spawn.is (c.spawn_line.ensures c.args.may_come look knows)

pub returns-in-Monitor : goal.returns-in-Monitor
returns-in-Monitor c = λ look knows. rw c.in-Monitor.is (c.monitor_line.ensures c.args.may_come look knows)

pub returns-in-Demonitor : goal.returns-in-Demonitor
returns-in-Demonitor c = λ look knows. rw c.in-Demonitor.is (c.demonitor_line.ensures c.args.may_come look knows)

pub returns-in-Trap : goal.returns-in-Trap
returns-in-Trap c = λ look knows. rw c.in-Trap.is (c.trap_line.ensures c.args.may_come look knows)

pub returns-in-Register : goal.returns-in-Register
returns-in-Register c = λ look knows. rw c.in-Register.is (c.register_line.ensures c.args.may_come look knows)

pub returns-in-WhereIs : goal.returns-in-WhereIs
returns-in-WhereIs c = λ look knows. rw c.in-WhereIs.is (c.whereis_line.ensures c.args.may_come look knows)

pub returns-in-SendName : goal.returns-in-SendName
returns-in-SendName c = λ look knows. rw c.in-SendName.is (c.sendname_line.ensures c.args.may_come look knows)

pub returns-in-MonitorName : goal.returns-in-MonitorName
returns-in-MonitorName c = λ look knows. rw c.in-MonitorName.is (c.monitorname_line.ensures c.args.may_come look knows)

pub returns-in-Expect : goal.returns-in-Expect
returns-in-Expect c = λ look knows. rw c.in-Expect.is (c.expect_line.ensures c.args.may_come look knows)

pub returns-in-Show : goal.returns-in-Show
returns-in-Show c = λ look knows. rw c.in-Show.is (c.show_line.ensures c.args.may_come look)

pub returns-in-Lose : goal.returns-in-Lose
returns-in-Lose c = λ look knows. rw c.in-Lose.is (c.lose_line.ensures c.args.may_come look)

pub returns-in-Deliver : goal.returns-in-Deliver
returns-in-Deliver c = λ look knows. rw c.in-Deliver.is (c.deliver_line.ensures c.args.may_come look)

pub returns-in-Challenge : goal.returns-in-Challenge
returns-in-Challenge c = λ look knows. rw c.in-Challenge.is (c.challenge_line.ensures c.args.may_come look)
