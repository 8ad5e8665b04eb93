use Rattle.dist_model.proofs.laws.monitors.Goals as goal
use Rattle.dist_model.proofs.Histories.{answered_once, down_once, down_to_the_owner}
use Rattle.dist_model.proofs.Histories.{no_down_where_demonitored, throughout}
use Rattle.dist_model.proofs.NamedEnds.{downs_tell_true_cause, full}
use Rattle.dist_model.proofs.QuietMonitors.{down_or_registered}
use Rattle.dist_model.specs.Fates.{AnsweredOnce, DownOnce, DownOrRegistered, DownToTheOwner, DownsTellTrueCause, NoDownWhereDemonitored}

pub returns-clause-answered : goal.returns-clause-answered
returns-clause-answered c = throughout AnsweredOnce answered_once

pub returns-clause-once : goal.returns-clause-once
returns-clause-once c = throughout DownOnce down_once

pub returns-clause-owner : goal.returns-clause-owner
returns-clause-owner c = throughout DownToTheOwner down_to_the_owner

pub returns-clause-demonitored : goal.returns-clause-demonitored
returns-clause-demonitored c = throughout NoDownWhereDemonitored no_down_where_demonitored

pub returns-clause-cause : goal.returns-clause-cause
returns-clause-cause c = full DownsTellTrueCause downs_tell_true_cause

pub returns-clause-quiet : goal.returns-clause-quiet
returns-clause-quiet c = throughout DownOrRegistered down_or_registered
