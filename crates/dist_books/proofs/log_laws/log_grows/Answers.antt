use Rattle.dist_books.proofs.Growth.{lead_grows, sent_grows, took_grows}
use Rattle.dist_books.proofs.log_laws.log_grows.Goals as goal

pub returns-clause-leads : goal.returns-clause-leads
returns-clause-leads g c = lead_grows g.N.Nodes.acts

pub returns-clause-sent : goal.returns-clause-sent
returns-clause-sent g c = sent_grows g.N.Nodes.same

pub returns-clause-took : goal.returns-clause-took
returns-clause-took g c = took_grows g.N.Nodes.same
