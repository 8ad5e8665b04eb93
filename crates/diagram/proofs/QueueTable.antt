-- The arrows of the queues of a table.
use Rattle.std.proofs.Common.{◌≡◌, ℕ, zero, suc, List, [], ◌∷◌, map, Vec, Global, unwrap_or, slice_get, refl, sym, ap, ◌∙◌}
use Rattle.std.specs.Option.{option_map_or}
use Rattle.diagram.specs.Arrows.{paired}
use Rattle.diagram.specs.Lists.{items_of}
use Rattle.diagram.specs.Queues.{seen_at, seen_of}
use Rattle.diagram.specs.declared.arrows.Arrow.{Arrow}
use Rattle.diagram.specs.declared.queues.Traffic.{Traffic}

abbrev of_traffic : Traffic → List Arrow
of_traffic t = paired (seen_of t)

in_queues : (queues : List (Vec Arrow Global)) (queue : ℕ)
    → option_map_or items_of (slice_get queues queue) [] ≡ unwrap_or (slice_get (map items_of queues) queue) []
in_queues [] queue = refl
in_queues (q ∷ queues) zero = refl
in_queues (q ∷ queues) (suc queue) = in_queues queues queue

in_table : (table : List Traffic) (queue : ℕ) → paired (seen_at table queue) ≡ unwrap_or (slice_get (map of_traffic table) queue) []
in_table [] queue = refl
in_table (t ∷ table) zero = refl
in_table (t ∷ table) (suc queue) = in_table table queue

pub at_queue : (table : List Traffic) (queues : List (Vec Arrow Global)) (queue : ℕ)
    → map items_of queues ≡ map (λ traffic. paired (seen_of traffic)) table
    → option_map_or items_of (slice_get queues queue) [] ≡ paired (seen_at table queue)
at_queue table queues queue same =
    in_queues queues queue ∙ ap (λ (lists : List (List Arrow)). unwrap_or (slice_get lists queue) []) same ∙ sym (in_table table queue)
