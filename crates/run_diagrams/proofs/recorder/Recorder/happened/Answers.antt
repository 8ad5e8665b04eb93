use Rattle.std.specs.Option.{option_copied}
use Rattle.run_diagrams.proofs.MarksAdded.{recorded_row}
use Rattle.std.proofs.lemmas.Result.{on_ok_weaker}
use Rattle.run_diagrams.proofs.recorder.Recorder.happened.Goals as goal

pub returns-clause-row : goal.returns-clause-row
returns-clause-row c = on_ok_weaker c.end.result
    (recorded_row c.args.node.now (option_copied c.args.trunk) c.args.came.now c.args.self.now.scope c.row_of.new.self.scope
    c.args.self.now.diagram.rows.items
    c.row_of.new.self.diagram.rows.items c.end.new.self.diagram.rows.items
    c.row_of.new.self.ways.ways.items c.end.new.self.ways.ways.items c.in_ok-row.row c.in_ok-row.ensures.row
    c.row_of.ensures.scope c.row_of.ensures.rows c.end.ensures.ways)
    c.end.ensures.rows
