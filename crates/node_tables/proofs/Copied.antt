-- What lives stand for, by what each of them stands for.
use Rattle.std.proofs.Common.{◌≡◌, ℕ, suc, List, [], ◌∷◌, ◌++◌, map, refl, sym, ap, ◌∙◌}
use Rattle.std.specs.FinMap as fm
use Rattle.dist_model.specs.Node.{Life as ModelLife}
use Rattle.erl_names.specs.Ids.{pid_of}
use Rattle.erl_names.specs.Minted.{Minted}
use Rattle.erl_term.specs.declared.term.Pid.{Pid}
use Rattle.link_core.specs.Ends.{EndMap}
use Rattle.link_core.specs.declared.end.End.{End}
use Rattle.node_tables.specs.Lives.{ends_from, ends_in, life_of, links_of, lives_from, lives_in, owned}
use Rattle.node_tables.specs.declared.life.Life.{Life}

-- with the pids from an id on
numbered : Minted → ℕ → List ModelLife → List (Pid × ModelLife)
numbered m first [] = []
numbered m first (life ∷ rest) = (pid_of m first, life) ∷ numbered m (suc first) rest

by_life : (m : Minted) (first : ℕ) (lives : List Life) → lives_from m first lives ≡ numbered m first (map life_of lives)
unfolding numbered
by_life m first [] = refl
by_life m first (life ∷ rest) = ap (λ l. (pid_of m first, life_of life) ∷ l) (by_life m (suc first) rest)

owned_from : Minted → ℕ → List EndMap → List ((Pid × Pid) × End)
owned_from m first [] = []
owned_from m first (links ∷ rest) = owned (pid_of m first) (fm.entries links) ++ owned_from m (suc first) rest

by_links : (m : Minted) (first : ℕ) (lives : List Life) → ends_from m first lives ≡ owned_from m first (map links_of lives)
unfolding owned_from
by_links m first [] = refl
by_links m first (life ∷ rest) = ap (λ l. owned (pid_of m first) (fm.entries (links_of life)) ++ l) (by_links m (suc first) rest)

-- the same mint, and lives that stand for the same ones
module _ (m n : Minted) (same : m ≡ n) (lives others : List Life) where
  pub same_lives : map life_of lives ≡ map life_of others → lives_in m lives ≡ lives_in n others
  unfolding lives_in
  same_lives h =
      ap fm.from_sorted (by_life m 1 lives ∙ ap (numbered m 1) h ∙ sym (by_life m 1 others))
      ∙ ap (λ x. fm.from_sorted (lives_from x 1 others)) same

  pub same_ends : map links_of lives ≡ map links_of others → ends_in m lives ≡ ends_in n others
  unfolding ends_in
  same_ends h =
      ap fm.from_sorted (by_links m 1 lives ∙ ap (owned_from m 1) h ∙ sym (by_links m 1 others))
      ∙ ap (λ x. fm.from_sorted (ends_from x 1 others)) same
