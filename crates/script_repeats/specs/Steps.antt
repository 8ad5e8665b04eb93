-- The steps by which a script is written and run.
use Rattle.std.specs.Prelude.{◌≡◌, ◌+◌, ℕ, List, ◌++◌, Ok, Some, length}
use Rattle.std.specs.List.{flat_map}
use Rattle.dist_books.specs.Acting.{Nodes}
use Rattle.dist_model.specs.Names.{Name}
use Rattle.dist_model.specs.World.{Event}
use Rattle.erl_handshake.specs.declared.profile.Profile.{Profile}
use Rattle.erl_handshake.specs.declared.setup.Setup.{Setup}
use Rattle.joined_books.specs.declared.trace.Placed.{Placed}
use Rattle.node_lock.specs.Seen.{BookSeen}
use Rattle.script_lines.specs.Lines.{line_says}
use Rattle.script_lines.specs.Said.{Challenge, Node, Said}
use Rattle.script_repeats.specs.Repeats.{Brings, Opens, Repeats, line_text}
use Rattle.script_repeats.specs.declared.script.Repeating.{Repeating}
use Rattle.script_session.specs.Events.{IsEventOf}
use Rattle.script_session.specs.Pairs.{setup_of}
use Rattle.script_session.specs.Session.{State, Step, line_does, may_come}
use Rattle.script_session.specs.Stands.{IsSession}

-- ---- the meaning of the next line

abbrev pub Says : State → (line : List ℕ) → Said → Type 0
Says state line said = line_says (may_come state) state.names line ≡ Ok (Some said)

-- it is just the event
pub record IsLineOf (state : State) (line : List ℕ) (event : Event) : Type 0 where
  pub said : Said
  pub says : Says state line said
  pub is : IsEventOf state said event

-- it sets the next challenge
abbrev pub IsChallenge : State → (line : List ℕ) → Type 0
IsChallenge state line = (number : ℕ) × Says state line (Challenge number)

-- it names the node, and gives it its setup
pub record IsNode (state : State) (line : List ℕ) (node : Name × Setup) : Type 0 where
  pub cookie : List ℕ
  pub profile : Profile
  pub says : Says state line (Node node.0 cookie profile)
  pub setup : node.1 ≡ setup_of cookie profile

-- ---- one line more

pub record Ran (state : State) (line : List ℕ) (old new : Repeating) : Type 0 where
  pub step : Step
  pub does : line_does state line ≡ Ok step
  pub session : IsSession new.session step.state
  pub text : new.text.items ≡ old.text.items ++ line_text line
  pub count : new.lines ≡ old.lines + 1

-- some lines more, which bring about these events
pub record Adds (state : State) (events : List Event) (old new : Repeating) : Type 0 where
  pub lines : List (List ℕ)
  pub next : State
  pub brings : Brings state lines events next
  pub session : IsSession new.session next
  pub text : new.text.items ≡ old.text.items ++ flat_map line_text lines
  pub count : new.lines ≡ old.lines + length lines

-- ---- the script so far

-- it opens the world of these nodes
pub record HasOpened (seed : ℕ) (nodes : Nodes) (it : Repeating) : Type 0 where
  pub front : List (List ℕ)
  pub at : State
  pub opens : Opens seed nodes front at
  pub session : IsSession it.session at
  pub text : it.text.items ≡ flat_map line_text front
  pub count : it.lines ≡ length front

-- and it repeats these entries
pub record HasRepeated (seed : ℕ) (nodes : Nodes) (books : List BookSeen) (entries : List Placed) (it : Repeating) : Type 0 where
  pub is : Repeats seed nodes books entries it.text.items
  pub session : IsSession it.session is.last
  pub count : it.lines ≡ length (is.front ++ is.behind)
