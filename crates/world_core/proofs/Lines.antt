-- What travels to a node on each connection, once that on one of them changes.
use Rattle.std.proofs.Common.{◌≡◌, ◌≢◌, Bool, true, false, cond, List, [], ◌∷◌, ◌++◌, Option, Some, None, is_some, unwrap_or}
use Rattle.std.proofs.Common.{Result, Ok, Err, OnOk, OnErr, refl, sym, ap, ◌∙◌, append-nil}
use Rattle.std.specs.FinMap.{find, put}
use Rattle.std.specs.FinMap.Entries.{find-put}
use Rattle.std.specs.declared.alloc.AllocError.{AllocError}
use Rattle.dist_model.proofs.Keys.{same_trunk, same_trunk_true, trunk_total}
use Rattle.erl_names.specs.Order.{trunk_cmp}
use Rattle.erl_names.specs.declared.trunk.TrunkId.{TrunkId}
use Rattle.node_frames.specs.Frames.{Framed}
use Rattle.sorted_map.specs.Entries.{changed, without}
use Rattle.world_core.specs.Lists.{HoldsAll, Line, behind_first, first_of, in_line, with_queue}
use Rattle.world_core.proofs.Entries.{again, find_without, found_out, found_swapped, held_at, new_at, none_at, not_changed}

pub on_ok : {A B : Type 0} (r : Result (Unit {0}) AllocError) → (A → B) → OnOk r A → OnOk r B
on_ok (Ok done) f h = f h
on_ok (Err e) f h = tt

pub on_err : {A B : Type 0} (r : Result (Unit {0}) AllocError) → (A → B) → OnErr r A → OnErr r B
on_err (Ok done) f h = tt
on_err (Err e) f h = f h

abbrev pub one_if : Bool → Framed → List Framed
one_if b frame = cond b (frame ∷ []) []

-- a list that ends with a frame isn't empty
pub no_end : (rest : List Framed) (frame : Framed) → [] ≡ rest ++ frame ∷ [] → ⊥
no_end [] frame h = cc
no_end (first ∷ rest) frame h = cc

-- a queue that isn't empty
abbrev pub kept : List Framed → Option (List Framed)
kept queue = cond (is_some (first_of queue)) (Some queue) None

kept_is : (queue : List Framed) → unwrap_or (kept queue) [] ≡ queue
kept_is [] = refl
kept_is (frame ∷ rest) = refl

kept_full : (queue : List Framed) → kept queue ≢ Some []
kept_full [] h = cc
kept_full (frame ∷ rest) h = cc

-- one queue, out and back again
module _ (seen old new last : Line) (is : old ≡ seen) (u : TrunkId) (held one two : List Framed) (h : find trunk_cmp u old ≡ Some held)
    (m : new ≡ changed trunk_cmp u one old) (n : last ≡ with_queue u two new) where
  found : (t : TrunkId) → find trunk_cmp t last ≡ cond (same_trunk t u) (kept two) (find trunk_cmp t old)
  found t = ap (find trunk_cmp t) n ∙ go (is_some (first_of two))
    where
      go : (b : Bool) → find trunk_cmp t (cond b (changed trunk_cmp u two new) (without trunk_cmp u new))
          ≡ cond (same_trunk t u) (cond b (Some two) None) (find trunk_cmp t old)
      go true = found_swapped trunk_total same_trunk_true [] old new u held one h m two t
      go false = found_out trunk_total same_trunk_true [] old new u held one h m t

  pub full : HoldsAll old → HoldsAll last
  full f t e = go (same_trunk t u) (sym (found t) ∙ e)
    where
      go : (b : Bool) → cond b (kept two) (find trunk_cmp t old) ≡ Some [] → ⊥
      go true k = kept_full two k
      go false k = f t k

  becomes : (queue : List Framed) → two ≡ queue → (t : TrunkId) → in_line last t ≡ cond (same_trunk t u) queue (in_line seen t)
  becomes queue e t = ap (λ o. unwrap_or o []) (found t) ∙ go (same_trunk t u)
      ∙ ap (λ q. cond (same_trunk t u) q (in_line old t)) e
      ∙ ap (λ l. cond (same_trunk t u) queue (in_line l t)) is
    where
      go : (b : Bool) → unwrap_or (cond b (kept two) (find trunk_cmp t old)) [] ≡ cond b two (in_line old t)
      go true = kept_is two
      go false = refl

  held_is : in_line seen u ≡ held
  held_is = ap (λ l. in_line l u) (sym is) ∙ held_at trunk_total same_trunk_true [] old u held h

  -- the same is done to the queue of each connection that is this one
  each : (does : List Framed → List Framed) → two ≡ does held → (t : TrunkId)
      → in_line last t ≡ cond (same_trunk t u) (does (in_line seen t)) (in_line seen t)
  each does e t = becomes (does held) e t ∙ go (same_trunk t u) refl
    where
      go : (b : Bool) → same_trunk t u ≡ b → cond b (does held) (in_line seen t) ≡ cond b (does (in_line seen t)) (in_line seen t)
      go true i = ap does (sym held_is ∙ ap (in_line seen) (sym (same_trunk_true t u i)))
      go false i = refl

  pub stays : two ≡ held → (t : TrunkId) → in_line last t ≡ in_line seen t
  stays e t = becomes (in_line seen u) (e ∙ sym held_is) t ∙ again trunk_total same_trunk_true [] seen u t

  pub more : (frame : Framed) → two ≡ held ++ frame ∷ [] → (t : TrunkId) → in_line last t ≡ in_line seen t ++ one_if (same_trunk t u) frame
  more frame e t = each (λ q. q ++ frame ∷ []) e t ∙ go (same_trunk t u)
    where
      go : (b : Bool) → cond b (in_line seen t ++ frame ∷ []) (in_line seen t) ≡ in_line seen t ++ one_if b frame
      go true = refl
      go false = sym (append-nil (in_line seen t))

  -- its first, or its last, is taken out
  pub first_gone : two ≡ behind_first held → (t : TrunkId)
      → in_line last t ≡ cond (same_trunk t u) (behind_first (in_line seen t)) (in_line seen t)
  first_gone e t = each behind_first e t

  pub last_gone : ((rest : List Framed) (frame : Framed) → held ≡ rest ++ frame ∷ [] → two ≡ rest)
      → (rest : TrunkId → List Framed) (frame : Framed)
      → ((t : TrunkId) → in_line seen t ≡ rest t ++ one_if (same_trunk t u) frame) → (t : TrunkId) → in_line last t ≡ rest t
  last_gone gone rest frame e t = becomes two refl t ∙ go (same_trunk t u) refl (e t)
    where
      go : (b : Bool) → same_trunk t u ≡ b → in_line seen t ≡ rest t ++ one_if b frame → cond b two (in_line seen t) ≡ rest t
      go true i k = gone (rest t) frame (sym held_is ∙ ap (in_line seen) (sym (same_trunk_true t u i)) ∙ k)
      go false i k = k ∙ append-nil (rest t)

-- one queue goes
module _ (seen old new : Line) (is : old ≡ seen) (u : TrunkId) (m : new ≡ without trunk_cmp u old) where
  found_gone : (t : TrunkId) → find trunk_cmp t new ≡ cond (same_trunk t u) None (find trunk_cmp t old)
  found_gone t = ap (find trunk_cmp t) m ∙ find_without trunk_total same_trunk_true [] old u t

  pub full_without : HoldsAll old → HoldsAll new
  full_without f t e = go (same_trunk t u) (sym (found_gone t) ∙ e)
    where
      go : (b : Bool) → cond b None (find trunk_cmp t old) ≡ Some [] → ⊥
      go true k = cc
      go false k = f t k

  pub queue_gone : (t : TrunkId) → in_line new t ≡ cond (same_trunk t u) [] (in_line seen t)
  queue_gone t =
      ap (λ o. unwrap_or o []) (found_gone t) ∙ go (same_trunk t u) ∙ ap (λ l. cond (same_trunk t u) [] (in_line l t)) is
    where
      go : (b : Bool) → unwrap_or (cond b None (find trunk_cmp t old)) [] ≡ cond b [] (in_line old t)
      go true = refl
      go false = refl

-- a connection on which nothing travels
module _ (seen old new : Line) (is : old ≡ seen) (u : TrunkId) (one : List Framed) (h : find trunk_cmp u old ≡ None)
    (m : new ≡ changed trunk_cmp u one old) where
  nothing_is : in_line seen u ≡ []
  nothing_is = ap (λ l. in_line l u) (sym is) ∙ none_at trunk_total same_trunk_true [] old u h

  nothing_at : (t : TrunkId) → same_trunk t u ≡ true → in_line seen t ≡ []
  nothing_at t i = ap (in_line seen) (same_trunk_true t u i) ∙ nothing_is

  pub first_more : (last : Line) (two : List Framed) (frame : Framed) → last ≡ put trunk_cmp u two new → two ≡ frame ∷ []
      → (t : TrunkId) → in_line last t ≡ in_line seen t ++ one_if (same_trunk t u) frame
  first_more last two frame n e t =
      new_at trunk_total same_trunk_true [] old new last u one two h m n t
      ∙ ap (λ q. cond (same_trunk t u) q (in_line old t)) e
      ∙ ap (λ l. cond (same_trunk t u) (frame ∷ []) (in_line l t)) is
      ∙ go (same_trunk t u) refl
    where
      go : (b : Bool) → same_trunk t u ≡ b → cond b (frame ∷ []) (in_line seen t) ≡ in_line seen t ++ one_if b frame
      go true i = ap (λ q. q ++ frame ∷ []) (sym (nothing_at t i))
      go false i = sym (append-nil (in_line seen t))

  same_line : new ≡ old
  same_line = m ∙ not_changed trunk_total same_trunk_true [] old u one h

  pub full_unchanged : HoldsAll old → HoldsAll new
  full_unchanged f t e = f t (sym (ap (find trunk_cmp t) same_line) ∙ e)

  pub full_more : (last : Line) (two : List Framed) (frame : Framed) → last ≡ put trunk_cmp u two new → two ≡ frame ∷ []
      → HoldsAll old → HoldsAll last
  full_more last two frame n e f t k = go (same_trunk t u) (sym found_there ∙ k)
    where
      found_there : find trunk_cmp t last ≡ cond (same_trunk t u) (Some (frame ∷ [])) (find trunk_cmp t old)
      found_there =
          ap (find trunk_cmp t) n ∙ find-put trunk_cmp trunk_total t u two new
          ∙ (λ i. cond (same_trunk t u) (Some (e i)) (find trunk_cmp t (same_line i)))

      go : (b : Bool) → cond b (Some (frame ∷ [])) (find trunk_cmp t old) ≡ Some [] → ⊥
      go true j = cc
      go false j = f t j

  pub unchanged : (t : TrunkId) → in_line new t ≡ in_line seen t
  unchanged t = ap (λ l. in_line l t) (same_line ∙ is)

  pub none_gone : (t : TrunkId) → in_line new t ≡ cond (same_trunk t u) (behind_first (in_line seen t)) (in_line seen t)
  none_gone t = unchanged t ∙ go (same_trunk t u) refl
    where
      go : (b : Bool) → same_trunk t u ≡ b → in_line seen t ≡ cond b (behind_first (in_line seen t)) (in_line seen t)
      go true i = nothing_at t i ∙ sym (ap behind_first (nothing_at t i))
      go false i = refl

  pub none_last : (rest : TrunkId → List Framed) (frame : Framed)
      → ((t : TrunkId) → in_line seen t ≡ rest t ++ one_if (same_trunk t u) frame)
      → (t : TrunkId) → in_line new t ≡ rest t
  none_last rest frame e t = unchanged t ∙ go (same_trunk t u) refl (e t)
    where
      go : (b : Bool) → same_trunk t u ≡ b → in_line seen t ≡ rest t ++ one_if b frame → in_line seen t ≡ rest t
      go true i k = absurd (no_end (rest t) frame (sym (nothing_at t i) ∙ k))
      go false i k = k ∙ append-nil (rest t)
