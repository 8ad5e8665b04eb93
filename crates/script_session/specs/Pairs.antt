-- The pair of a script: two nodes a@h and b@h of the second profile with a process each, and a connection between them that is up.
-- The dialer is a@h.
use Rattle.std.specs.Prelude.{ℕ, List, [], ◌∷◌, codes}
use Rattle.dist_model.specs.Names.{Name}
use Rattle.dist_model.specs.Runs.{opening}
use Rattle.dist_model.specs.World.{Arrive, Call, Dial, Event}
use Rattle.dist_model.specs.declared.command.Command.{Command}
use Rattle.erl_handshake.specs.declared.profile.Profile.{Profile}
use Rattle.erl_handshake.specs.declared.setup.Setup.{Setup}
use Rattle.erl_names.specs.declared.trunk.TrunkId.{TrunkId}
use Rattle.erl_term.specs.declared.term.Pid.{Pid}
use Rattle.run_traces.specs.Traces.{louder}
use Rattle.script_session.specs.Stage.{Stage, play}
use Rattle.script_terms.specs.Binding.{Look, with_name}
use Rattle.script_terms.specs.declared.names.Named.TheVariants.{Process}

abbrev pub first : Name
first = codes "a@h"

abbrev pub second : Name
second = codes "b@h"

abbrev pub setup_of : (cookie : List ℕ) → Profile → Setup
setup_of cookie profile = record { cookie = cookie; profile = profile }

abbrev pub pair_node : Name → Name × Setup
pair_node name = (name, setup_of (codes "c") Profile.Three)

abbrev pub pair_nodes : List (Name × Setup)
pair_nodes = pair_node first ∷ pair_node second ∷ []

abbrev pub trunk : TrunkId
trunk = record { dialer = first; count = 1 }

-- the name, the status, the challenge, its answer and the acknowledgement come
abbrev pub pair_plays : List (ℕ → Event)
pair_plays =
    (λ word. Call first Command.Spawn) ∷ (λ word. Call second Command.Spawn)
    ∷ Dial first second ∷ Arrive trunk second ∷ Arrive trunk first ∷ Arrive trunk first ∷ Arrive trunk second ∷ Arrive trunk first ∷ []

-- from then on each item that is sent is printed
abbrev pub pair_stage : Stage → Stage
pair_stage it = play pair_plays (record it { world = opening pair_nodes; trace = louder it.trace })

abbrev pub first_process : Name → Pid
first_process node = record { node = node; creation = 1; id = 1; serial = 0 }

abbrev pub pair_names : Look → Look
pair_names look = with_name (with_name look (codes "p") (Process (first_process first))) (codes "q") (Process (first_process second))
