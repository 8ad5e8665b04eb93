-- Tests that tell a fact, names and lists.
use Rattle.std.specs.Prelude.{IsTrue, ◌↔◌}
use Rattle.std.proofs.Common.{◌≡◌, ◌≢◌, ℕ, zero, suc, ◌<◌, ◌≤◌, Bool, true, false, List, [], ◌∷◌, get_or, length, refl, sym, ◌∙◌, arith}
use Rattle.std.proofs.lemmas.List.{same_lists}
use Rattle.dist_books.specs.Acting.{Nodes, name_at}
use Rattle.dist_model.proofs.Keys.{same_name_is, same_name_true}
use Rattle.dist_model.specs.Names.{Name, same_name}
use Rattle.joined_books.specs.Names.{IsInPlace}
use Rattle.node_lock.specs.Seen.{BookSeen}
use Rattle.dist_books.specs.Acting.{nowhere}
use Rattle.erl_handshake.specs.declared.setup.Setup.{Setup}

-- a test that is true, or false, of a fact that holds, or doesn't
pub is_so : {H : Type 0} → H → IsTrue true ↔ H
is_so h = (λ t. h, λ x. refl)

pub is_not : {H : Type 0} → (H → ⊥) → IsTrue false ↔ H
is_not no_h = (λ t. absurd (let e : false ≡ true = t in cc), λ h. absurd (no_h h))

pub other_name : (x y : Name) → same_name x y ≡ false → x ≢ y
other_name x y e same = let t = same_name_is x y same in let no : false ≡ true = sym e ∙ t in cc

-- lists of one length, with the same at each place of it
pub list_from_places : {X : Type 0} (xs ys : List X) (e : X) → length xs ≡ length ys
    → ((k : ℕ) → k < length xs → get_or xs k e ≡ get_or ys k e) → xs ≡ ys
list_from_places xs ys e lens same =
    same_lists xs ys lens (λ k d below. at xs k d e below ∙ same k below ∙ at ys k e d (omega arith))
  where
    at : {X : Type 0} (xs : List X) (k : ℕ) (d e : X) → k < length xs → get_or xs k d ≡ get_or xs k e
    at [] k d e below = absurd (omega arith)
    at (x ∷ xs) zero d e below = refl
    at (x ∷ xs) (suc k) d e below = at xs k d e (omega arith)

-- an element that was read, whatever stands in for those that aren't there
pub read : {X : Type 0} (xs : List X) (k : ℕ) (x e : X) → k < length xs → x ≡ get_or xs k x → get_or xs k e ≡ x
read [] k x e below is = absurd (omega arith)
read (y ∷ ys) zero x e below is = sym is
read (y ∷ ys) (suc k) x e below is = read ys k x e (omega arith) is

-- the name and the setup of a node that was read
pub name_read : (nodes : Nodes) (k : ℕ) (d : Name × Setup) → k < length nodes → name_at nodes k ≡ (get_or nodes k d).0
name_read [] k d below = absurd (omega arith)
name_read (node ∷ nodes) zero d below = refl
name_read (node ∷ nodes) (suc k) d below = name_read nodes k d (omega arith)

pub setup_read : (nodes : Nodes) (k : ℕ) (d : Name × Setup) → k < length nodes → (get_or nodes k nowhere).1 ≡ (get_or nodes k d).1
setup_read [] k d below = absurd (omega arith)
setup_read (node ∷ nodes) zero d below = refl
setup_read (node ∷ nodes) (suc k) d below = setup_read nodes k d (omega arith)

-- no more books than nodes
pub no_more : (nodes : Nodes) (books : List BookSeen) → ((k : ℕ) → k < length books → (d : BookSeen) → IsInPlace nodes k (get_or books k d))
    → length books ≤ length nodes
no_more nodes [] h = omega arith
no_more nodes (book ∷ books) h = let w = (h (length books) (omega arith) book).within in omega (arith, w)

-- two names that were read and compared
module _ (p q x y u v : Name) (r : Bool) (x_is : p ≡ x) (y_is : q ≡ y) (u_is : u ≡ x) (v_is : v ≡ y) (r_is : r ≡ same_name u v) where
  pub same_read : r ≡ true → p ≡ q
  same_read t = x_is ∙ sym u_is ∙ same_name_true u v (sym r_is ∙ t) ∙ v_is ∙ sym y_is

  pub other_read : r ≡ false → p ≢ q
  other_read f same = other_name u v (sym r_is ∙ f) (u_is ∙ sym x_is ∙ same ∙ y_is ∙ sym v_is)
