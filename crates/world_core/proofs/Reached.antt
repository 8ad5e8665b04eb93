-- What holds of a world to which events lead: what comes next on a connection can be read.
use Rattle.std.proofs.Common.{◌≡◌, Bool, true, false, List, [], ◌∷◌, ◌++◌, Option, None, Some, refl, sym, ap, subst, ◌∙◌}
use Rattle.std.specs.FinMap as fm
use Rattle.dist_model.proofs.DueFirst.{due_first}
use Rattle.dist_model.proofs.Routes.{node_of_name}
use Rattle.dist_model.proofs.Run.{always, not_own}
use Rattle.dist_model.proofs.Safety.{good_opening}
use Rattle.dist_model.proofs.Trunks.{Good, role_state}
use Rattle.dist_model.specs.Due.{due_at, due_in}
use Rattle.dist_model.specs.Items.{Item}
use Rattle.dist_model.specs.Names.{Name, same_name}
use Rattle.dist_model.specs.Node.{Node}
use Rattle.dist_model.specs.Runs.{Goes, Runs, opening}
use Rattle.dist_model.specs.Sides as state
use Rattle.dist_model.specs.Sides.{State, TrunkSide}
use Rattle.dist_model.specs.World.{Event, Report, World, list_to, node_of}
use Rattle.erl_names.specs.declared.trunk.TrunkId.{TrunkId}
use Rattle.node_core.specs.Arrived.{is_undialed}
use Rattle.world_core.specs.Stands.{AreSpelled, IsReached}
use Rattle.node_core.specs.ComingToANode.{CanCome, reads, reads_at}

pub reached_good : (m : World) → IsReached m → Good m
reached_good m h = always (λ w. Good w) good_opening (λ w g. g) h.nodes h.events h.reports m h.runs

reads_due : (dials : Bool) (st : State) (item : Item) → role_state dials st ≡ true → due_in dials st item ≡ true → reads st item ≡ true
reads_due true (state.Asked w) item r d = cc
reads_due true (state.Parked w) item r d = cc
reads_due true (state.Accepting w) item r d = cc
reads_due true state.Losing item r d = refl
reads_due true state.Gone item r d = refl
reads_due false (state.AwaitsStatus w) item r d = cc
reads_due false (state.AwaitsChallenge w) item r d = cc
reads_due false (state.AwaitsAck w) item r d = cc
reads_due false state.Losing item r d = refl
reads_due false state.Gone item r d = refl
reads_due _ _ item r d = d

module _ (m : World) (reached : IsReached m) (x : Name) (node : Node) (t : TrunkId) (item : Item) (rest : List Item)
    (at : node_of m.nodes x ≡ Some node) (first : list_to m.lists t x ≡ item ∷ rest) where
  good : Good m
  good = reached_good m reached

  name : node.mint.name ≡ x
  name = node_of_name m.nodes x node at

  due : due_at (same_name t.dialer x) (fm.get node.sides t) item ≡ true
  due = due_first reached.nodes reached.events reached.reports m reached.runs t x node item rest at first

  read : (o : Option TrunkSide) → fm.get node.sides t ≡ o → reads_at o item ≡ true
  read None e =
      sym (ap (λ b. due_at b None item) (not_own m x node t item rest at e good first))
      ∙ ap (λ o. due_at (same_name t.dialer x) o item) (sym e) ∙ due
  read (Some side) e =
      reads_due (same_name t.dialer x) side.state item
      (ap (λ n. role_state (same_name t.dialer n) side.state) (sym name) ∙ (good.home x node at).roles t side e)
      (ap (λ o. due_at (same_name t.dialer x) o item) (sym e) ∙ due)

  theirs : (o : Option TrunkSide) → fm.get node.sides t ≡ o → is_undialed node t o ≡ false
  theirs None e = ap (same_name t.dialer) name ∙ not_own m x node t item rest at e good first
  theirs (Some side) e = refl

  pub can_come : AreSpelled (item ∷ rest) → CanCome node t item
  can_come s = record { spelled = s.0; read = read (fm.get node.sides t) refl; theirs = theirs (fm.get node.sides t) refl }

-- ---- one event more

pub runs_then : (w : World) (es : List Event) (rs : List Report) (m : World) (e : Event) (r : Report) (next : World)
    → Runs w es rs m → Goes m e r next
    → Runs w (es ++ e ∷ []) (rs ++ r ∷ []) next
runs_then w [] [] m e r next h g = (next, subst (λ v. Goes v e r next) h g, refl)
runs_then w [] (q ∷ rs) m e r next h g = absurd h
runs_then w (d ∷ es) [] m e r next h g = absurd h
runs_then w (d ∷ es) (q ∷ rs) m e r next h g = (h.0, h.1, runs_then h.0 es rs m e r next h.2 g)

pub reached_next : (m next : World) (e : Event) (r : Report) → IsReached m → Goes m e r next → IsReached next
reached_next m next e r h g = record {
  nodes = h.nodes;
  events = h.events ++ e ∷ [];
  reports = h.reports ++ r ∷ [];
  runs = runs_then (opening h.nodes) h.events h.reports m e r next h.runs g;
}
