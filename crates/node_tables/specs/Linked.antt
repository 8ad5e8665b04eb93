-- The first link of the processes of an incarnation to one at a node.
use Rattle.std.specs.Prelude.{◌≡◌, ◌≤◌, ◌<◌, ◌&&◌, ℕ, List, Option, None, Some}
use Rattle.std.specs.List.{slice_get}
use Rattle.std.specs.FinMap as fm
use Rattle.std.specs.Ordering.{is_lt}
use Rattle.dist_model.specs.Names.{Name, same_name}
use Rattle.dist_model.specs.Node.{first_where}
use Rattle.erl_term.specs.Order.{pid_cmp}
use Rattle.erl_term.specs.declared.term.Pid.{Pid}
use Rattle.link_core.specs.declared.end.End.{End}
use Rattle.node_tables.specs.Lives.{links_of}
use Rattle.node_tables.specs.declared.life.Life.{Life}

-- of one process, in the order of the partners
abbrev pub link_at : Name → Life → Option (Pid × End)
link_at node life = first_where (λ partner end. same_name partner.node node) (fm.entries (links_of life))

-- of those behind a partner
abbrev pub link_behind : Pid → Name → Life → Option (Pid × End)
link_behind partner node life =
    first_where (λ held end. is_lt (pid_cmp partner held) && same_name held.node node) (fm.entries (links_of life))

-- none of the processes at these places has one
abbrev pub NoneLinked : Name → List Life → (from to : ℕ) → Type 0
NoneLinked node lives from to = (k : ℕ) (life : Life) → from ≤ k → k < to → slice_get lives k ≡ Some life → link_at node life ≡ None

-- the first from a place on is at this one
pub record IsFirstLinked (node : Name) (lives : List Life) (from place : ℕ) : Type 0 where
  pub life : Life
  pub link : Pid × End
  pub there : slice_get lives place ≡ Some life
  pub linked : link_at node life ≡ Some link
  pub behind : from ≤ place
  pub before : NoneLinked node lives from place
