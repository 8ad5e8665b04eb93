-- Names of nodes, as texts.
use Rattle.std.proofs.Common.{◌≡◌, ◌||◌, [], ◌∷◌, bytes_eq, refl, sym}
use Rattle.std.proofs.lemmas.Map.Text.{is_eq-slice_cmp}
use Rattle.std.specs.List.{list_any}
use Rattle.dist_books.specs.Acting.{Nodes, names_of}
use Rattle.dist_model.specs.Dialing.{has_name}
use Rattle.dist_model.specs.Names.{Name}

pub spelled : (name : Name) (nodes : Nodes) → list_any (λ node. bytes_eq name node.0) nodes ≡ has_name name (names_of nodes)
spelled name [] = refl
spelled name (node ∷ rest) = (λ i. sym (is_eq-slice_cmp name node.0) i || spelled name rest i)
