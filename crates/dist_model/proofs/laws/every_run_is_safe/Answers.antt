use Rattle.dist_model.proofs.laws.every_run_is_safe.Goals as goal
use Rattle.dist_model.proofs.Histories.{Tale, answered_once, challenges_are_drawn, connected_by_cookie, down_once, down_to_the_owner, exits_tell_true_cause}
use Rattle.dist_model.proofs.Histories.{exits_tell_true_cause_within, no_down_where_demonitored, one_challenge, reacts_for_true_cause}
use Rattle.dist_model.proofs.NamedEnds.{Full, downs_tell_true_cause, full, monitors_come_once}
use Rattle.dist_model.proofs.KnownPeers.{connected_of, future_of, known_of, lasting_of, told_of}
use Rattle.dist_model.proofs.QuietMonitors.{down_or_registered}
use Rattle.dist_model.proofs.Safety.{agreement, agreement_in_quiet, agreement_within, no_link_to_itself}
use Rattle.dist_model.proofs.Safety.{no_link_to_the_dead, no_up_beside_losing, one_trunk, pending, pending_within}
use Rattle.dist_model.specs.Safety.{Safe}
use Rattle.dist_model.specs.Traces.{Trace, history_of}
use Rattle.dist_model.specs.World.{World}

safe_by : (tr : Trace) (w : World) → Full tr w → Tale w (history_of tr) → Safe tr w
safe_by tr w f t = record {
  agreement_connected = agreement w t.good;
  agreement_within = agreement_within w t.good;
  agreement_in_quiet = agreement_in_quiet w t.good;
  pending_connected = pending w t.good;
  pending_within = pending_within w t.good;
  no_link_to_the_dead = no_link_to_the_dead w t.good;
  no_link_to_itself = no_link_to_itself w t.good;
  reactions = reacts_for_true_cause (history_of tr) w t;
  exits_on_trunks = exits_tell_true_cause (history_of tr) w t;
  exits_within = exits_tell_true_cause_within (history_of tr) w t;
  answered_once = answered_once (history_of tr) w t;
  down_once = down_once (history_of tr) w t;
  down_to_the_owner = down_to_the_owner (history_of tr) w t;
  downs_tell_true_cause = downs_tell_true_cause tr w f;
  monitors_come_once = monitors_come_once tr w f;
  no_down_where_demonitored = no_down_where_demonitored (history_of tr) w t;
  down_or_registered = down_or_registered (history_of tr) w t;
  one_trunk = one_trunk w t.good;
  no_up_beside_losing = no_up_beside_losing w t.good;
  connected_by_cookie = connected_by_cookie (history_of tr) w t;
  challenges_are_drawn = challenges_are_drawn (history_of tr) w t;
  one_challenge = one_challenge (history_of tr) w t;
  introductions_are_told = told_of w f.fine;
  introductions_are_known = known_of w f.fine;
  connected_know = connected_of w f.fine;
  none_of_the_future = future_of w f.fine;
  known_for_good = lasting_of w f.fine;
}

pub returns : goal.returns
returns c = record { safe = full Safe (λ tr w f. safe_by tr w f f.story.tale) }
