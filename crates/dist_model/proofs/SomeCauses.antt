-- The reason of a DOWN, as far as the history alone tells it. For a monitor of a name that is less than the claim.
use Rattle.std.specs.Prelude.{◌≡◌, false}
use Rattle.dist_model.specs.Causes.{HasEnded, TrueCause}
use Rattle.dist_model.specs.Histories.{History}
use Rattle.dist_model.specs.Names.{Name, same_name}
use Rattle.dist_model.specs.Seen.{is_reached}
use Rattle.dist_model.specs.World.{World}
use Rattle.erl_term.specs.Data.{Data}
use Rattle.erl_term.specs.declared.term.Pid.{Pid}
use Rattle.link_core.specs.News.{noconnection, noproc}
use Rattle.monitor_core.specs.declared.monitor.Target.{Target}

-- nobody is there; some process ended so; or there is no connection to the node
pub data SomeCause (h : History) (w : World) (p : Pid) (node : Name) (x : Data) : Type 0 where
  NobodyThere : x ≡ noproc → SomeCause h w p node x
  SomeoneEnded : (q : Pid) → HasEnded q x h → SomeCause h w p node x
  NotReached : x ≡ noconnection → same_name node p.node ≡ false → is_reached w p node ≡ false → SomeCause h w p node x

abbrev pub CauseIn : History → World → Pid → Target → Data → Type 0
CauseIn h w p (Target.Pid q) x = TrueCause h w p q x
CauseIn h w p (Target.Name name node) x = SomeCause h w p node x
