-- The nodes that a script has named, and the meaning of its names.
use Rattle.std.specs.Prelude.{◌≡◌, Option, None, Some, ℕ, Bool, true, false, not, ◌&&◌}
use Rattle.std.specs.Prelude.{◌==◌, nat_lt, List, [], ◌∷◌, ◌++◌, length, Result, Ok, Err}
use Rattle.dist_books.specs.Acting.{Nodes, names_of}
use Rattle.script_lines.specs.Replies.{reply_after}
use Rattle.script_lines.specs.Said.{Said}
use Rattle.script_lines.specs.Said as says
use Rattle.script_lines.specs.declared.reading.MayCome as reading
use Rattle.script_lines.specs.declared.reason.Reason.{Reason}
use Rattle.script_session.specs.Session.{binds, new_name, starts}
use Rattle.script_session.specs.declared.made.Made.{Made}
use Rattle.script_session.specs.declared.session.Stop.{Stop}
use Rattle.script_session.specs.declared.session.Stop.TheVariants as stop
use Rattle.script_terms.specs.Binding.{Knows, Look}
use Rattle.script_threads.specs.Reading as lines
use Rattle.script_threads.specs.Reading.{unless_taken, unless_unmet}
use Rattle.script_threads.specs.declared.session.ThreadedSession.{ThreadedSession}
use Rattle.script_threads.specs.declared.threads.Cast.{Cast}
use Rattle.script_threads.specs.declared.threads.Cast.TheVariants as cast
use Rattle.script_session.specs.Pairs.{setup_of}

-- ---- the nodes that a script has named, which have threads, or have none yet

abbrev pub nodes_of : Cast → Nodes
nodes_of (cast.Named nodes) = nodes.items
nodes_of (cast.Running running) = running.nodes.items

abbrev pub is_idle : Cast → Bool
is_idle (cast.Named nodes) = true
is_idle (cast.Running running) = false

-- they have, unless there are none
abbrev pub has_started : Cast → Bool
has_started (cast.Named nodes) = length nodes.items == 0
has_started (cast.Running running) = true

-- a line for a node comes only where none has a thread yet
abbrev pub MayCome : Said → Cast → Type 0
MayCome said cast = starts said ≡ false → is_idle cast ≡ true

-- ---- a session

pub record Known : Type 0 where
  pub nodes : Nodes
  pub look : Look
  -- the last line that a command has printed
  pub reply : List ℕ
  -- true once a command has come that no line for a node may follow
  pub started : Bool

pub record IsKnown (session : ThreadedSession) (known : Known) : Type 0 where
  pub nodes : nodes_of session.threads.cast ≡ known.nodes
  pub names : Knows session.names known.look
  pub reply : session.reply.line.items ≡ known.reply
  pub started : session.started ≡ known.started
  pub idle : known.started ≡ false → is_idle session.threads.cast ≡ true

-- ---- the meaning of a line there

abbrev pub may_come : Known → reading.MayCome
may_come known = record {
  pair = not known.started && length known.nodes == 0;
  node = not known.started && nat_lt (length known.nodes) 64;
}

-- the command, or the words that are expected
abbrev pub reads_as : Known → List ℕ → Result (Option Said) Reason
reads_as known line = unless_taken (names_of known.nodes) (lines.says (may_come known) known.look line)

-- a line that expects the last reply asks for nothing
abbrev pub says_of : Known → List ℕ → Result (Option Said) Reason
says_of known line = unless_unmet known.look known.reply (reads_as known line)

-- ---- the outcome of a line

abbrev pub nodes_after : Said → Nodes → Nodes
nodes_after (says.Node name cookie profile) nodes = nodes ++ (name, setup_of cookie profile) ∷ []
nodes_after _ nodes = nodes

-- the name that the line gives is bound to the thing that it made, as the nodes have decided, and this text was printed
pub record Ran (said : Said) (known : Known) (new : ThreadedSession) (text : List ℕ) : Type 0 where
  pub made : Made
  pub after : IsKnown new (record {
    nodes = nodes_after said known.nodes;
    look = binds (new_name said) made known.look;
    reply = reply_after text known.reply;
    started = starts said;
  })

pub record Prints (said : Said) (known : Known) (new : ThreadedSession) (old_text new_text : List ℕ) : Type 0 where
  pub text : List ℕ
  pub ran : Ran said known new text
  pub printed : new_text ≡ old_text ++ text

abbrev pub Goes : Option Said → Known → ThreadedSession → (old_text new_text : List ℕ) → Type 0
Goes None known new old_text new_text = IsKnown new known × (new_text ≡ old_text)
Goes (Some said) known new old_text new_text = Prints said known new old_text new_text

-- a line was run, or is a bad line; memory may want only where it is a command, or expects a reply
abbrev pub Obeys : Known → (line : List ℕ) → ThreadedSession → (old_text new_text : List ℕ) → Result (Unit {0}) Stop → Type 0
Obeys known line new old_text new_text (Ok x) = (said : Option Said) × (says_of known line ≡ Ok said) × Goes said known new old_text new_text
Obeys known line new old_text new_text (Err (stop.Bad reason)) = (says_of known line ≡ Err reason) × (new_text ≡ old_text)
Obeys known line new old_text new_text (Err stop.OutOfMemory) = (said : Said) × (reads_as known line ≡ Ok (Some said))
