-- What stands behind what was there, after several writes.
use Rattle.std.proofs.Common.{append_assoc, get_or, take, ◌≡◌, ℕ, zero, suc, ◌+◌, ◌<◌, List, [], ◌∷◌, ◌++◌, length, sym, ap, ◌∙◌, arith}
use Rattle.erl_term.specs.declared.term.Term.{Term}
use Rattle.erl_term.specs.View.{view, items_view}
use Rattle.erl_term.specs.Canonical.{byte_of, bytes_of}

pub two : (old mid new head body whole : List ℕ) → mid ≡ old ++ head → whole ≡ head ++ body → new ≡ mid ++ body → new ≡ old ++ whole
two old mid new head body whole m w p =
    p ∙ ap (λ (l : List ℕ). l ++ body) m ∙ append_assoc old head body ∙ ap (λ (l : List ℕ). old ++ l) (sym w)

pub behind_cells : (old mid new head body tail : List ℕ) → mid ≡ (old ++ head) ++ body → new ≡ mid ++ tail
    → new ≡ old ++ (head ++ (body ++ tail))
behind_cells old mid new head body tail p q = rw (q, p) (simp append_assoc)

-- ---- the bytes of a STRING

pub byte_more : (ts : List Term) (i : ℕ) (x : Term) → i < length ts → x ≡ get_or ts i x
    → bytes_of (items_view (take (i + 1) ts)) ≡ bytes_of (items_view (take i ts)) ++ byte_of (view x) ∷ []
byte_more [] i x lt e = absurd (omega arith)
byte_more (t ∷ ts) zero x lt e = ap (λ (y : Term). byte_of (view y) ∷ []) (sym e)
byte_more (t ∷ ts) (suc i) x lt e =
    let k : suc i + 1 ≡ suc (i + 1) = omega arith in rw k (ap (λ (l : List ℕ). byte_of (view t) ∷ l) (byte_more ts i x (omega arith) e))

pub put_more : (new out old head front whole : List ℕ) (x y : ℕ) → new ≡ out ++ x ∷ [] → out ≡ old ++ (head ++ front) → x ≡ y
    → whole ≡ front ++ y ∷ [] → new ≡ old ++ (head ++ whole)
put_more new out old head front whole x y p q r s = rw (p, q, r, s) (simp append_assoc)
