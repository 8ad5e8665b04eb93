-- The processes of an incarnation in the order of their ids, and the maps that they stand for.
use Rattle.std.specs.Prelude.{ℕ, zero, suc, Bool, not, ◌&&◌, ◌==◌, if◌then◌else◌, List, [], ◌∷◌, ◌++◌, map, Option, None, Some}
use Rattle.std.specs.List.{slice_get}
use Rattle.std.specs.FinMap as fm
use Rattle.std.specs.FinMap.{FinMap}
use Rattle.dist_model.specs.Names.{pair_cmp, same_name, same_pid}
use Rattle.dist_model.specs.Node.{Life as ModelLife}
use Rattle.dist_model.specs.Node as model
use Rattle.dist_model.specs.Work.{set_life}
use Rattle.erl_names.specs.Ids.{pid_of}
use Rattle.erl_names.specs.Minted.{Minted}
use Rattle.erl_term.specs.Data.{Data}
use Rattle.erl_term.specs.Order.{pid_cmp}
use Rattle.erl_term.specs.declared.term.Pid.{Pid}
use Rattle.link_core.specs.Ends.{EndMap}
use Rattle.link_core.specs.declared.end.End.{End}
use Rattle.node_tables.specs.declared.life.Life.{Life}
use Rattle.node_tables.specs.declared.life.Life.TheVariants.{Living, Ended}

-- of this incarnation
abbrev pub is_own : Minted → Pid → Bool
is_own m p = same_name p.node m.name && (p.creation == m.creation && p.serial == 0)

-- the first has the id 1
abbrev pub by_id : List Life → ℕ → Option Life
by_id lives zero = None
by_id lives (suc n) = slice_get lives n

abbrev pub life_in : Minted → List Life → Pid → Option Life
life_in m lives p = if is_own m p then by_id lives p.id else None

-- of the one at a place
abbrev pub pid_at : Minted → ℕ → Pid
pid_at m place = pid_of m (suc place)

-- ---- what a process is in the model

abbrev pub life_of : Life → ModelLife
life_of (Living process ends) = model.Living process.trap process.mailbox.messages
life_of (Ended reason) = model.Ended reason

abbrev pub links_of : Life → EndMap
links_of (Living process ends) = ends.ends
links_of (Ended reason) = fm.empty

abbrev pub end_at : Pid → Life → Option End
end_at q life = fm.get (links_of life) q

-- of the ids from the first on
abbrev pub lives_from : Minted → ℕ → List Life → List (Pid × ModelLife)
lives_from m first [] = []
lives_from m first (life ∷ rest) = (pid_of m first, life_of life) ∷ lives_from m (suc first) rest

abbrev pub owned : Pid → List (Pid × End) → List ((Pid × Pid) × End)
owned p = map (λ x. ((p, x.0), x.1))

abbrev pub ends_from : Minted → ℕ → List Life → List ((Pid × Pid) × End)
ends_from m first [] = []
ends_from m first (life ∷ rest) = owned (pid_of m first) (fm.entries (links_of life)) ++ ends_from m (suc first) rest

unfoldable pub lives_in : Minted → List Life → FinMap pid_cmp ModelLife
lives_in m lives = fm.from_sorted (lives_from m 1 lives)

unfoldable pub ends_in : Minted → List Life → FinMap pair_cmp End
ends_in m lives = fm.from_sorted (ends_from m 1 lives)

-- ---- what changes

-- the life of p becomes another, where there is one
abbrev pub changed : FinMap pid_cmp ModelLife → Pid → (Option ModelLife → Option ModelLife) → FinMap pid_cmp ModelLife
changed lives p become = set_life lives p (become (fm.get lives p))

abbrev pub ending : Data → Option ModelLife → Option ModelLife
ending reason None = None
ending reason (Some life) = Some (model.Ended reason)

-- all but the ends that p has
abbrev pub without_ends : FinMap pair_cmp End → Pid → FinMap pair_cmp End
without_ends ends p = fm.retain_keys ends (λ pair. not (same_pid pair.0 p))
