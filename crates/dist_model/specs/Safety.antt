-- The claims that hold at every moment of every run, together.
use Rattle.dist_model.specs.Claims.{Agreement, AgreementInQuiet, AgreementWithin, NoLinkToItself}
use Rattle.dist_model.specs.Claims.{ConnectedKnow, IntroductionsAreKnown, IntroductionsAreTold, KnownForGood, NoneOfTheFuture}
use Rattle.dist_model.specs.Claims.{NoLinkToTheDead, NoUpBesideLosing, OneTrunk, PendingOnItsWay, PendingWithin}
use Rattle.dist_model.specs.Cookies.{ChallengesAreDrawn, ConnectedByCookie, OneChallenge}
use Rattle.dist_model.specs.Fates.{AnsweredOnce, DownOnce, DownOrRegistered, DownToTheOwner, DownsTellTrueCause}
use Rattle.dist_model.specs.Fates.{ExitsTellTrueCause, ExitsTellTrueCauseWithin, NoDownWhereDemonitored, ReactsForTrueCause}
use Rattle.dist_model.specs.Traces.{MonitorsComeOnce, Trace, history_of}
use Rattle.dist_model.specs.World.{World}

pub record Safe (trace : Trace) (world : World) : Type 0 where
  -- agreement: of two living processes both hold their link active, or neither does
  pub agreement_connected : Agreement world
  pub agreement_within : AgreementWithin world
  pub agreement_in_quiet : AgreementInQuiet world
  -- pending: the acknowledgement that a pending end waits for is in flight, or its UNLINK_ID is
  pub pending_connected : PendingOnItsWay world
  pub pending_within : PendingWithin world
  -- no link to the dead
  pub no_link_to_the_dead : NoLinkToTheDead world
  pub no_link_to_itself : NoLinkToItself world
  -- reactions: only to a link that was active, and for a true cause, which each EXIT in flight carries
  pub reactions : ReactsForTrueCause (history_of trace) world
  pub exits_on_trunks : ExitsTellTrueCause (history_of trace) world
  pub exits_within : ExitsTellTrueCauseWithin (history_of trace) world
  -- monitors: at most one answer and one DOWN for a reference, to the owner, for the incarnation that it named, with a true cause. A
  -- monitor of a name tells of the process that had the name as MONITOR_P came, and that comes once. No DOWN after Demonitor, and no
  -- monitor of a pid is forgotten
  pub answered_once : AnsweredOnce (history_of trace) world
  pub down_once : DownOnce (history_of trace) world
  pub down_to_the_owner : DownToTheOwner (history_of trace) world
  pub downs_tell_true_cause : DownsTellTrueCause trace world
  pub monitors_come_once : MonitorsComeOnce trace world
  pub no_down_where_demonitored : NoDownWhereDemonitored (history_of trace) world
  pub down_or_registered : DownOrRegistered (history_of trace) world
  -- one trunk: at most one connects two nodes, and none does while records of a lost connection remain
  pub one_trunk : OneTrunk world
  pub no_up_beside_losing : NoUpBesideLosing world
  -- cookies: a connected peer has answered the one challenge that was sent to it, with the digest of the node's own cookie
  pub connected_by_cookie : ConnectedByCookie (history_of trace) world
  pub challenges_are_drawn : ChallengesAreDrawn (history_of trace) world
  pub one_challenge : OneChallenge (history_of trace) world
  -- introductions: the creation and the flags that a side knows of its peer are the peer's, in any later world too while the peer's
  -- side isn't gone
  pub introductions_are_told : IntroductionsAreTold world
  pub introductions_are_known : IntroductionsAreKnown world
  pub connected_know : ConnectedKnow world
  pub none_of_the_future : NoneOfTheFuture world
  pub known_for_good : KnownForGood world
