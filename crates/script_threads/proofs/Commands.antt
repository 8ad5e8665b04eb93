-- The named nodes, as the command of a line leaves them.
use Rattle.std.proofs.Common.{◌≡◌, Some, Result, Ok, Err, IfOk, refl, sym, ◌∙◌}
use Rattle.dist_books.specs.Acting.{Nodes}
use Rattle.dist_model.specs.Names.{Name}
use Rattle.dist_model.specs.declared.command.Command.{Command}
use Rattle.script_lines.specs.Said.{Said}
use Rattle.script_lines.specs.Said as says
use Rattle.script_session.specs.Session.{asks}
use Rattle.script_session.specs.declared.made.Made.{Made}
use Rattle.script_terms.specs.Binding.{Look}
use Rattle.script_threads.specs.Standing.{nodes_after}

-- a line with a command for a node names no node
names_none : (look : Look) (it : Said) (asked : Name × Command) (nodes : Nodes) → Some asked ≡ asks look it
    → nodes_after it nodes ≡ nodes
names_none look (says.Node name cookie profile) asked nodes e = absurd cc
names_none look _ asked nodes e = refl

pub stays : {E : Type 0} (r : Result Made E) (look : Look) (it : Said) (asked : Name × Command) (old new : Nodes)
    → Some asked ≡ asks look it → new ≡ old → IfOk r (λ _. new ≡ nodes_after it old)
stays (Ok made) look it asked old new e kept = kept ∙ sym (names_none look it asked old e)
stays (Err why) look it asked old new e kept = tt
