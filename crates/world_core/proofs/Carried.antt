-- The frames of what travels: all of them where they are taken, and the last of them where they aren't any more.
use Rattle.std.proofs.Common.{◌≡◌, ◌&&◌, Bool, true, false, cond, not, List, [], ◌∷◌, ◌++◌, map, refl, sym, ap, ◌∙◌, append-nil, append_assoc}
use Rattle.std.proofs.lemmas.Bool.{and_parts, both_ways, not-true}
use Rattle.std.proofs.lemmas.List.{map-append}
use Rattle.std.specs.Ordering.{eq_by_cmp}
use Rattle.dist_model.proofs.Keys.{same_name_true, same_place, same_trunk, same_trunk_true}
use Rattle.dist_model.specs.Items.{Item}
use Rattle.dist_model.specs.Names.{Name, place_cmp, same_name}
use Rattle.dist_model.specs.World.{Event, World as TheWorld, list_to}
use Rattle.erl_names.specs.declared.trunk.TrunkId.{TrunkId}
use Rattle.node_core.specs.Model.{model_of}
use Rattle.node_frames.specs.Frames.{Framed, framed}
use Rattle.world_core.specs.Coming.{is_taken}
use Rattle.world_core.specs.Names.{names_of}
use Rattle.world_core.specs.Ran.{Came}
use Rattle.node_core.specs.Told.{Answered}
use Rattle.world_core.specs.Stands.{AreFramesOf, AreSpelled, StandsFor}
use Rattle.world_core.specs.declared.world.World.{World}
use Rattle.world_core.specs.Lists.{at}

pub kept_all : (taken : Bool) (frames : List Framed) (items : List Item) (c : AreFramesOf taken frames items) → taken ≡ true → c.kept ≡ items
kept_all taken frames items c h = sym (c.parts ∙ ap (λ l. l ++ c.kept) (c.whole h))

pub all_frames : (taken : Bool) (frames : List Framed) (items : List Item) → AreFramesOf taken frames items → taken ≡ true
    → frames ≡ map framed items
all_frames taken frames items c h = c.are ∙ ap (map framed) (kept_all taken frames items c h)

-- the same frames
pub same_frames : (taken : Bool) (frames others : List Framed) (items : List Item) → others ≡ frames → AreFramesOf taken frames items
    → AreFramesOf taken others items
same_frames taken frames others items e c =
    record { left_out = c.left_out; kept = c.kept; parts = c.parts; are = e ∙ c.are; whole = c.whole }

-- more of them
pub more_frames : (before taken : Bool) (frames others : List Framed) (items sent : List Item) → (taken ≡ true → before ≡ true)
    → (c : AreFramesOf before frames items) → others ≡ map framed c.kept ++ map framed sent → AreFramesOf taken others (items ++ sent)
more_frames before taken frames others items sent k c e = record {
  left_out = c.left_out;
  kept = c.kept ++ sent;
  parts = ap (λ l. l ++ sent) c.parts ∙ append_assoc c.left_out c.kept sent;
  are = e ∙ sym (map-append framed c.kept sent);
  whole = λ i. c.whole (k i);
}

-- where nothing travels, nothing is left out
no_parts : (xs ys : List Item) → [] ≡ xs ++ ys → xs ≡ []
no_parts [] ys h = refl
no_parts (x ∷ xs) ys h = cc

pub none_left_out : (before taken : Bool) (frames others : List Framed) (items rest : List Item) → items ≡ [] → rest ≡ []
    → others ≡ frames → AreFramesOf before frames items → AreFramesOf taken others rest
none_left_out before taken frames others items rest e r f c = record {
  left_out = c.left_out;
  kept = c.kept;
  parts = r ∙ sym e ∙ c.parts;
  are = f ∙ c.are;
  whole = λ i. no_parts c.left_out c.kept (sym e ∙ c.parts);
}

pub spelled_behind : (xs ys : List Item) → AreSpelled (xs ++ ys) → AreSpelled ys
spelled_behind [] ys h = h
spelled_behind (x ∷ xs) ys h = spelled_behind xs ys h.1

-- ---- what isn't taken is dropped

pub dropped : (w new : World) (m : TheWorld) → StandsFor w m → new.nodes.items ≡ w.nodes.items → (u : TrunkId) (y : Name) → ((t : TrunkId)
    (x : Name) → at new.lists t x ≡ cond (not (is_taken m u y) && eq_by_cmp place_cmp (t, x) (u, y)) [] (at w.lists t x))
    → StandsFor new m
dropped w new m h nodes u y lists = record {
  names = h.names ∙ ap names_of (sym nodes);
  distinct = h.distinct;
  nodes = h.nodes ∙ ap (map model_of) (sym nodes);
  lists = λ t x. go t x (not (is_taken m u y)) (same_trunk t u && same_name x y) refl refl
      (lists t x ∙ ap (λ b. cond (not (is_taken m u y) && b) [] (at w.lists t x)) (same_place t u x y));
  spelled = h.spelled;
  reached = h.reached;
}
  where
    refused : (t : TrunkId) (x : Name) → (same_trunk t u && same_name x y) ≡ true → not (is_taken m u y) ≡ true → is_taken m t x ≡ false
    refused t x e r =
        let v = and_parts (same_trunk t u) (same_name x y) e in
        (λ i. is_taken m (same_trunk_true t u v.0 i) (same_name_true x y v.1 i)) ∙ not-true (is_taken m u y) r

    go : (t : TrunkId) (x : Name) (b c : Bool) → not (is_taken m u y) ≡ b → (same_trunk t u && same_name x y) ≡ c
        → at new.lists t x ≡ cond (not (is_taken m u y) && (same_trunk t u && same_name x y)) [] (at w.lists t x)
        → AreFramesOf (is_taken m t x) (at new.lists t x) (list_to m.lists t x)
    go t x true true e d l = record {
      left_out = list_to m.lists t x;
      kept = [];
      parts = sym (append-nil (list_to m.lists t x));
      are = l ∙ (λ i. cond (e i && d i) [] (at w.lists t x));
      whole = λ i. absurd (both_ways (is_taken m t x) (refused t x d e) i);
    }
    go t x true false e d l =
        same_frames (is_taken m t x) (at w.lists t x) (at new.lists t x) (list_to m.lists t x)
        (l ∙ (λ i. cond (e i && d i) [] (at w.lists t x))) (h.lists t x)
    go t x false c e d l =
        same_frames (is_taken m t x) (at w.lists t x) (at new.lists t x) (list_to m.lists t x)
        (l ∙ ap (λ b. cond (b && (same_trunk t u && same_name x y)) [] (at w.lists t x)) e) (h.lists t x)

-- an event, and what keeps a world standing for the same
pub came_then : (new last : World) (m : TheWorld) (e : Event) (answer : Answered) → Came new m e answer
    → ((n : TheWorld) → StandsFor new n → StandsFor last n)
    → Came last m e answer
came_then new last m e answer c k =
    record { report = c.report; next = c.next; goes = c.goes; tells = c.tells; stands = k c.next c.stands }
