-- The first side that the model finds, among those that lie in memory.
use Rattle.std.proofs.Common.{◌≡◌, Bool, true, false, cond, List, [], ◌∷◌, Some, refl, sym, ◌∙◌}
use Rattle.std.specs.List.{find}
use Rattle.std.specs.Option.{option_map}
use Rattle.std.specs.FinMap as fm
use Rattle.std.proofs.lemmas.Bool.{and_parts, true≢false}
use Rattle.conn_core.specs.declared.side.Side.{Side}
use Rattle.dist_model.specs.Losses.{any_side}
use Rattle.dist_model.specs.Names.{Name}
use Rattle.dist_model.specs.Node.{side_where}
use Rattle.dist_model.specs.Sides as model
use Rattle.dist_model.specs.Sides.{State, is_gone, is_losing, is_up}
use Rattle.node_tables.proofs.Placed.{IsSorted}
use Rattle.node_tables.proofs.Whole.{where_held}
use Rattle.node_tables.specs.Passing.{passes}
use Rattle.node_tables.specs.Sides.{sides_in}
use Rattle.node_tables.specs.Sought.{is_sought}
use Rattle.node_tables.specs.Standings.{all_open, entries_of, entry_of}
use Rattle.node_tables.specs.declared.run.Run.{Run}
use Rattle.node_tables.specs.declared.which.Which.{Which}
use Rattle.node_tables.specs.declared.which.Which.TheVariants.{Up}

-- whichever are sought, none of them is gone
none_gone : (which : Which) → passes which model.Gone ≡ false
none_gone Up = refl
none_gone which = refl

not_gone : (which : Which) (state : State) → passes which state ≡ true → is_gone state ≡ false
not_gone which model.Gone h = absurd (true≢false (sym h ∙ none_gone which))
not_gone which state h = refl

losing_left : (state : State) → is_losing state ≡ true → is_gone state ≡ false
losing_left model.Gone h = cc
losing_left state h = refl

up_left : (state : State) → is_up state ≡ true → is_gone state ≡ false
up_left model.Gone h = cc
up_left state h = refl

pub first_sought : (test : State → Bool) (peer : Name) (held : List Side)
    → option_map entry_of (find (is_sought test peer) held) ≡ side_where test peer (entries_of held)
first_sought test peer [] = refl
first_sought test peer (x ∷ xs) = go (is_sought test peer x) (first_sought test peer xs)
  where
    go : (b : Bool) → option_map entry_of (find (is_sought test peer) xs) ≡ side_where test peer (entries_of xs)
        → option_map entry_of (cond b (Some x) (find (is_sought test peer) xs))
        ≡ cond b (Some (entry_of x)) (side_where test peer (entries_of xs))
    go true h = refl
    go false h = h

module _ (held : List Side) (gone : List Run) (s : IsSorted held) (o : all_open held ≡ true) where
  pub sought_held : (which : Which) (peer : Name)
      → side_where (passes which) peer (fm.entries (sides_in held gone)) ≡ side_where (passes which) peer (entries_of held)
  sought_held which peer = where_held held gone s o _ (λ t v h. not_gone which v.state (and_parts _ (passes which v.state) h).1)

  pub up_held : (peer : Name) → side_where is_up peer (fm.entries (sides_in held gone)) ≡ side_where is_up peer (entries_of held)
  up_held peer = where_held held gone s o _ (λ t v h. up_left v.state (and_parts _ (is_up v.state) h).1)

  pub losing_held : any_side is_losing (fm.entries (sides_in held gone)) ≡ any_side is_losing (entries_of held)
  losing_held = where_held held gone s o _ (λ t v h. losing_left v.state h)
