-- What travels to each node on each connection, once that to one of them changes.
use Rattle.std.proofs.Common.{◌≡◌, ◌&&◌, Bool, true, false, cond, List, [], ◌++◌, Some, None, refl, sym, ap, ◌∙◌, append-nil}
use Rattle.std.specs.FinMap.{find, put}
use Rattle.std.specs.Ordering.{eq_by_cmp}
use Rattle.dist_model.proofs.Keys.{name_total, same_name_true, same_place, same_trunk}
use Rattle.dist_model.specs.Names.{Name, place_cmp, same_name}
use Rattle.erl_names.specs.Order.{name_cmp}
use Rattle.erl_names.specs.declared.trunk.TrunkId.{TrunkId}
use Rattle.node_frames.specs.Frames.{Framed}
use Rattle.sorted_map.specs.Entries.{changed}
use Rattle.world_core.specs.Lists.{Line, Lines, at, in_line, line_to}
use Rattle.node_core.specs.SentAt.{one_at}
use Rattle.world_core.proofs.Entries.{held_at, new_at, none_at, not_changed, swapped}
use Rattle.world_core.proofs.Lines.{no_end, one_if}

-- of two places the nodes are compared first
by_node : (t u : TrunkId) (x y : Name) → eq_by_cmp place_cmp (t, x) (u, y) ≡ (same_name x y && same_trunk t u)
by_node t u x y = same_place t u x y ∙ turned (same_trunk t u) (same_name x y)
  where
    turned : (a b : Bool) → (a && b) ≡ (b && a)
    turned true true = refl
    turned false true = refl
    turned _ _ = refl

-- of a line that is this one or another
of_line : (b : Bool) (two other : Line) (t : TrunkId) → in_line (cond b two other) t ≡ cond b (in_line two t) (in_line other t)
of_line true two other t = refl
of_line false two other t = refl

-- one line, out and back again
module _ (seen old new last : Lines) (is : old ≡ seen) (u : TrunkId) (to : Name) (held one two : Line)
    (h : find name_cmp to old ≡ Some held)
    (m : new ≡ changed name_cmp to one old) (n : last ≡ changed name_cmp to two new) where
  becomes : (t : TrunkId) (x : Name) → at last t x ≡ cond (same_name x to) (in_line two t) (at seen t x)
  becomes t x =
      ap (λ l. in_line l t) (swapped name_total same_name_true [] old new last to held one two h m n x)
      ∙ of_line (same_name x to) two (line_to old x) t ∙ ap (λ ls. cond (same_name x to) (in_line two t) (at ls t x)) is

  held_is : (t : TrunkId) (x : Name) → same_name x to ≡ true → at seen t x ≡ in_line held t
  held_is t x e =
      ap (at seen t) (same_name_true x to e) ∙ ap (λ ls. at ls t to) (sym is)
      ∙ ap (λ l. in_line l t) (held_at name_total same_name_true [] old to held h)

  pub stays : ((t : TrunkId) → in_line two t ≡ in_line held t) → (t : TrunkId) (x : Name) → at last t x ≡ at seen t x
  stays e t x = becomes t x ∙ go (same_name x to) refl
    where
      go : (b : Bool) → same_name x to ≡ b → cond b (in_line two t) (at seen t x) ≡ at seen t x
      go true i = e t ∙ sym (held_is t x i)
      go false i = refl

  pub more : (frame : Framed) → ((t : TrunkId) → in_line two t ≡ in_line held t ++ one_if (same_trunk t u) frame)
      → (t : TrunkId) (x : Name) → at last t x ≡ at seen t x ++ one_at (t, x) (u, to) frame
  more frame e t x = becomes t x ∙ go (same_name x to) refl ∙ ap (λ b. at seen t x ++ one_if b frame) (sym (by_node t u x to))
    where
      go : (b : Bool) → same_name x to ≡ b → cond b (in_line two t) (at seen t x) ≡ at seen t x ++ one_if (b && same_trunk t u) frame
      go true i = e t ∙ ap (λ q. q ++ one_if (same_trunk t u) frame) (sym (held_is t x i))
      go false i = sym (append-nil (at seen t x))

  -- something is done to what travels on the connection, and nothing else
  pub each : (does : List Framed → List Framed)
      → ((t : TrunkId) → in_line two t ≡ cond (same_trunk t u) (does (in_line held t)) (in_line held t))
      → (t : TrunkId) (x : Name) → at last t x ≡ cond (eq_by_cmp place_cmp (t, x) (u, to)) (does (at seen t x)) (at seen t x)
  each does e t x =
      becomes t x ∙ go (same_name x to) refl ∙ ap (λ b. cond b (does (at seen t x)) (at seen t x)) (sym (by_node t u x to))
    where
      go : (b : Bool) → same_name x to ≡ b
          → cond b (in_line two t) (at seen t x) ≡ cond (b && same_trunk t u) (does (at seen t x)) (at seen t x)
      go true i = e t ∙ ap (λ q. cond (same_trunk t u) (does q) q) (sym (held_is t x i))
      go false i = refl

  pub last_gone : ((rest : TrunkId → List Framed) (frame : Framed)
      → ((t : TrunkId) → in_line held t ≡ rest t ++ one_if (same_trunk t u) frame) → (t : TrunkId) → in_line two t ≡ rest t)
      → (rest : TrunkId → Name → List Framed) (frame : Framed)
      → ((t : TrunkId) (x : Name) → at seen t x ≡ rest t x ++ one_at (t, x) (u, to) frame) → (t : TrunkId) (x : Name)
      → at last t x ≡ rest t x
  last_gone gone rest frame e t x = becomes t x ∙ go (same_name x to) refl
    where
      told : (v : TrunkId) → at seen v x ≡ rest v x ++ one_if (same_name x to && same_trunk v u) frame
      told v = e v x ∙ ap (λ b. rest v x ++ one_if b frame) (by_node v u x to)

      go : (b : Bool) → same_name x to ≡ b → cond b (in_line two t) (at seen t x) ≡ rest t x
      go true i =
          gone (λ v. rest v x) frame (λ v. sym (held_is v x i) ∙ told v ∙ ap (λ b. rest v x ++ one_if (b && same_trunk v u) frame) i) t
      go false i = told t ∙ ap (λ b. rest t x ++ one_if (b && same_trunk t u) frame) i ∙ append-nil (rest t x)

-- a node to which nothing has travelled
module _ (seen old new : Lines) (is : old ≡ seen) (u : TrunkId) (to : Name) (one : Line) (h : find name_cmp to old ≡ None)
    (m : new ≡ changed name_cmp to one old) where
  nothing_at : (t : TrunkId) (x : Name) → same_name x to ≡ true → at seen t x ≡ []
  nothing_at t x e =
      ap (at seen t) (same_name_true x to e) ∙ ap (λ ls. at ls t to) (sym is)
      ∙ ap (λ l. in_line l t) (none_at name_total same_name_true [] old to h)

  pub unchanged : (t : TrunkId) (x : Name) → at new t x ≡ at seen t x
  unchanged t x = ap (λ ls. at ls t x) (m ∙ not_changed name_total same_name_true [] old to one h ∙ is)

  pub first_more : (last : Lines) (two : Line) (frame : Framed) → last ≡ put name_cmp to two new
      → ((t : TrunkId) → in_line two t ≡ one_if (same_trunk t u) frame)
      → (t : TrunkId) (x : Name) → at last t x ≡ at seen t x ++ one_at (t, x) (u, to) frame
  first_more last two frame n e t x =
      ap (λ l. in_line l t) (new_at name_total same_name_true [] old new last to one two h m n x)
      ∙ of_line (same_name x to) two (line_to old x) t ∙ ap (λ ls. cond (same_name x to) (in_line two t) (at ls t x)) is
      ∙ go (same_name x to) refl ∙ ap (λ b. at seen t x ++ one_if b frame) (sym (by_node t u x to))
    where
      go : (b : Bool) → same_name x to ≡ b → cond b (in_line two t) (at seen t x) ≡ at seen t x ++ one_if (b && same_trunk t u) frame
      go true i = e t ∙ ap (λ q. q ++ one_if (same_trunk t u) frame) (sym (nothing_at t x i))
      go false i = sym (append-nil (at seen t x))

  pub none : (does : List Framed → List Framed) → does [] ≡ [] → (t : TrunkId) (x : Name)
      → at new t x ≡ cond (eq_by_cmp place_cmp (t, x) (u, to)) (does (at seen t x)) (at seen t x)
  none does d t x =
      unchanged t x ∙ go (same_name x to) refl ∙ ap (λ b. cond b (does (at seen t x)) (at seen t x)) (sym (by_node t u x to))
    where
      nil : (b : Bool) → at seen t x ≡ [] → at seen t x ≡ cond b (does (at seen t x)) (at seen t x)
      nil true e = e ∙ sym (ap does e ∙ d)
      nil false e = refl

      go : (b : Bool) → same_name x to ≡ b → at seen t x ≡ cond (b && same_trunk t u) (does (at seen t x)) (at seen t x)
      go true i = nil (same_trunk t u) (nothing_at t x i)
      go false i = refl

  pub none_last : (rest : TrunkId → Name → List Framed) (frame : Framed)
      → ((t : TrunkId) (x : Name) → at seen t x ≡ rest t x ++ one_at (t, x) (u, to) frame)
      → (t : TrunkId) (x : Name) → at new t x ≡ rest t x
  none_last rest frame e t x = unchanged t x ∙ go (eq_by_cmp place_cmp (t, x) (u, to)) refl (e t x)
    where
      both : (b : Bool) → (b && same_trunk t u) ≡ true → b ≡ true
      both true k = refl
      both false k = cc

      go : (b : Bool) → eq_by_cmp place_cmp (t, x) (u, to) ≡ b → at seen t x ≡ rest t x ++ one_if b frame → at seen t x ≡ rest t x
      go true i k = absurd (no_end (rest t x) frame (sym (nothing_at t x (both (same_name x to) (sym (by_node t u x to) ∙ i))) ∙ k))
      go false i k = k ∙ append-nil (rest t x)
