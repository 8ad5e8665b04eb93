-- What an event does to each pair of processes of its node, but for links and signals that are taken.
use Rattle.std.proofs.Common.{◌≡◌, ◌≤◌, Bool, true, false, cond, not, List, [], ◌∷◌, ◌++◌, refl, sym}
use Rattle.std.proofs.Common.{ap, ◌∙◌, subst, arith, ◌&&◌, ◌||◌, Option, Some, None, inr, append-nil}
use Rattle.std.proofs.lemmas.Bool.{and_parts}
use Rattle.std.specs.Option.{is_some, option_map}
use Rattle.std.specs.FinMap as fm
use Rattle.dist_model.proofs.Envelopes.{outgoing, sent_by, sent_in-silent}
use Rattle.dist_model.proofs.EndOfProcess.{buried_end, buried_living, finish_view, finish_view_other, last_posts, is_living_kept}
use Rattle.dist_model.proofs.Keys.{pid_total, same_pair, same_pid_true, set_in-get}
use Rattle.dist_model.proofs.Seen.{end_in}
use Rattle.dist_model.proofs.Views.{silent_lines, silent_view, more, over, post_all_keeps, post_keeps, post_view, view}
use Rattle.dist_model.proofs.LastSignals.{exits_in}
use Rattle.dist_model.specs.Exits.{carry_out, demonitors, end_process, link_exit, linked_exit, monitor_exits}
use Rattle.dist_model.specs.Items.{Item, news_in}
use Rattle.dist_model.specs.Names.{Name, same_name, same_pid}
use Rattle.dist_model.specs.Node.{Ended, Life, Living, Node, end_of, is_living_life, living}
use Rattle.dist_model.specs.Node.{is_stranger, reaches, route, route_in, side_where, traps_life}
use Rattle.dist_model.specs.Sides.{TrunkSide, is_losing, is_up}
use Rattle.dist_model.specs.Work.{Work, delivered, post_all, post_to, put, report, set_end, set_life}
use Rattle.dist_model.specs.declared.report.Effect.{Effect}
use Rattle.erl_names.specs.declared.trunk.TrunkId.{TrunkId}
use Rattle.erl_term.specs.Data.{Data}
use Rattle.erl_term.specs.Order.{pid_cmp}
use Rattle.erl_term.specs.declared.term.Pid.{Pid}
use Rattle.exit_core.specs.Reaction.{reaction}
use Rattle.exit_core.specs.declared.reaction.Reaction.{Reaction}
use Rattle.link_core.proofs.Kept.{Kept, keeps_ended, side_path}
use Rattle.link_core.specs.News.{LinkNews}
use Rattle.link_core.specs.Pair.{Side}
use Rattle.link_core.specs.declared.end.End.{End}
use Rattle.std.specs.FinMap.{FinMap}
use Rattle.dist_model.proofs.Posts.{AllRouted, NodeKept, PostsHome-append, downs_home, exits_home, held, home_of, home_plain}
use Rattle.dist_model.proofs.Posts.{post_all_home, post_all_routed, post_home, post_routed, silent_routed, unwatches_home}

-- an event's part that no pair takes a signal in
pub record Moves (o o' : Work) : Type 0 where
  pub sides : o'.node.sides ≡ o.node.sides
  pub dialed : o'.node.dialed ≡ o.node.dialed
  pub name : o'.node.mint.name ≡ o.node.mint.name
  pub keeps : NodeKept o.node → NodeKept o'.node
  pub grows : (p : Pid) → over o.node p ≡ true → over o'.node p ≡ true
  pub draws : o.node.mint.unlink_ids ≤ o'.node.mint.unlink_ids
  pub routed : AllRouted o.node.sides (outgoing o) → AllRouted o'.node.sides (outgoing o')
  pub nevers : (p : Pid) → is_stranger o.node p ≡ false → is_stranger o'.node p ≡ false
  pub home : NodeKept o.node → home_of o.node → home_of o'.node
  pub views : NodeKept o.node → (b : List LinkNews) (p q : Pid) (c : Side) → reaches o.node q.node ≡ true
      → Kept (view b o p q) c → Kept (view b o' p q) c

pub reach_along : (m n : Node) → n.sides ≡ m.sides → n.mint.name ≡ m.mint.name → (y : Name) → reaches n y ≡ reaches m y
reach_along m n s e y = λ i. same_name y (e i) || is_some (route_in (fm.entries (s i)) y)

pub held_along : (m n : Node) → n.sides ≡ m.sides → n.mint.name ≡ m.mint.name → (y : Name) → held n y ≡ held m y
held_along m n s e y = λ i. same_name y (e i) || is_some (side_where (λ v. is_up v || is_losing v) y (fm.entries (s i)))

pub stays : (o : Work) → Moves o o
stays o = record {
  sides = refl;
  dialed = refl;
  name = refl;
  keeps = λ k. k;
  grows = λ p h. h;
  draws = omega arith;
  routed = λ a. a;
  nevers = λ p h. h;
  home = λ k h. h;
  views = λ n b p q c r k. k;
}

pub then : (a b c : Work) → Moves a b → Moves b c → Moves a c
then a b c f g = record {
  sides = g.sides ∙ f.sides;
  dialed = g.dialed ∙ f.dialed;
  name = g.name ∙ f.name;
  keeps = λ k. g.keeps (f.keeps k);
  grows = λ p h. g.grows p (f.grows p h);
  draws = omega (arith, f.draws, g.draws);
  routed = λ r. g.routed (f.routed r);
  nevers = λ p h. g.nevers p (f.nevers p h);
  home = λ k h. g.home (f.keeps k) (f.home k h);
  views = λ n s p q d r k. g.views (f.keeps n) s p q d (reach_along a.node b.node f.sides f.name q.node ∙ r) (f.views n s p q d r k);
}

-- what changes neither an end, nor who lives, nor a side, nor what is sent
pub reported : (f : Effect Item) (o : Work) → sent_by f ≡ [] → Moves o (report f o)
reported f o s = record {
  sides = refl;
  dialed = refl;
  name = refl;
  keeps = λ k. record { born = k.born; rooted = k.rooted };
  grows = λ p h. h;
  draws = omega arith;
  routed = silent_routed o.node.sides o.effects f s;
  nevers = λ p h. h;
  home = λ k h. h;
  views = λ n b p q c r k. subst (λ a. Kept a c) (sym (silent_view b f o p q s)) k;
}

pub living_received : (l : Option Life) (t : Data) → is_living_life (delivered l t) ≡ is_living_life l
living_received (Some (Living a m)) t = refl
living_received _ t = refl

living_cond : (b : Bool) (l k : Option Life) → (b ≡ true → is_living_life l ≡ is_living_life k)
    → is_living_life (cond b l k) ≡ is_living_life k
living_cond true l k h = h refl
living_cond false l k h = refl

pub set_life_living : (m : FinMap pid_cmp Life) (p : Pid) (l : Option Life) (x : Pid)
    → (same_pid x p ≡ true → is_living_life l ≡ is_living_life (fm.get m x))
    → is_living_life (fm.get (set_life m p l) x) ≡ is_living_life (fm.get m x)
set_life_living m p None x h = refl
set_life_living m p (Some l) x h = ap is_living_life (fm.get-insert pid_total m p l x) ∙ living_cond (same_pid x p) (Some l) (fm.get m x) h

pub put_living : (p : Pid) (t : Data) (o : Work) (x : Pid) → living ((put p t o).node) x ≡ living o.node x
put_living p t o x =
    set_life_living o.node.lives p (delivered (fm.get o.node.lives p) t) x
    (λ h. living_received (fm.get o.node.lives p) t ∙ ap (λ v. is_living_life (fm.get o.node.lives v)) (sym (same_pid_true x p h)))

put_view : (b : List LinkNews) (x : Pid) (t : Data) (o : Work) (p q : Pid) → view b (put x t o) p q ≡ view b o p q
put_view b x t o p q =
    silent_lines b (put x t o) o.effects (o.effects ++ Effect.Put x t ∷ []) p q (sent_in-silent o.effects (Effect.Put x t) refl)
    ∙ side_path (view b (record (put x t o) { effects = o.effects }) p q) (view b o p q) refl
    (ap (λ v. not v && not (is_stranger o.node p)) (put_living x t o p)) refl refl

pub puts : (x : Pid) (t : Data) (o : Work) → Moves o (put x t o)
puts x t o = record {
  sides = refl;
  dialed = refl;
  name = refl;
  keeps = λ k. record {
    born = λ p l. k.born p (sym (put_living x t o p) ∙ l);
    rooted = λ p q e. let r = k.rooted p q e in
        (put_living x t o p ∙ r.0, r.1, r.2);
  };
  grows = λ p h. ap (λ v. not v && not (is_stranger o.node p)) (put_living x t o p) ∙ h;
  draws = omega arith;
  routed = silent_routed o.node.sides o.effects (Effect.Put x t) refl;
  nevers = λ p h. h;
  home = λ k h. h;
  views = λ n b p q c r k. subst (λ a. Kept a c) (sym (put_view b x t o p q)) k;
}

-- a process ends
pub not_over : (n : Node) (p : Pid) → living n p ≡ true → over n p ≡ false
not_over n p l = ap (λ v. not v && not (is_stranger n p)) l

finish_views : (x : Pid) (r : Data) (o : Work) → living o.node x ≡ true → NodeKept o.node
    → (b : List LinkNews) (p q : Pid) (c : Side) → reaches o.node q.node ≡ true → (t : Bool) → same_pid p x ≡ t
    → Kept (view b o p q) c → Kept (view b (end_process x r o) p q) c
finish_views x r o l n b p q c reach true e k =
    let h : p ≡ x = same_pid_true p x e in
    let lp : living o.node p ≡ true = subst (λ v. living o.node v ≡ true) (sym h) l in
    let d : Kept (view b (end_process p r o) p q) c =
    subst (λ a. Kept a c) (sym (finish_view b p r o q reach (n.born p lp))) (keeps_ended r (view b o p q) c (not_over o.node p lp) k) in
    subst (λ v. Kept (view b (end_process v r o) p q) c) h d
finish_views x r o l n b p q c reach false e k = subst (λ a. Kept a c) (sym (finish_view_other b x r o p q reach e)) k

pub cond_absent : (b : Bool) (o : Option End) → (end_in (cond (not b) o None) ≡ End.None → ⊥) → b ≡ false
cond_absent true o h = absurd (h refl)
cond_absent false o h = refl

pub finish_end : (x : Pid) (r : Data) (o : Work) (p q : Pid) → end_of ((end_process x r o).node) p q
    ≡ end_in (cond (not (same_pid p x)) (fm.get ((post_all (last_posts x r o) o).node.ends) (p, q)) None)
finish_end x r o p q = buried_end x r (post_all (last_posts x r o) o) p q

pub finish_living : (x : Pid) (r : Data) (o : Work) (p : Pid) → living ((end_process x r o).node) p
    ≡ is_living_life (cond (same_pid p x) (Some (Ended r)) (fm.get ((post_all (last_posts x r o) o).node.lives) p))
finish_living x r o p = buried_living x r (post_all (last_posts x r o) o) p

ended_cond : (b : Bool) (r : Data) (l : Option Life) → is_living_life (cond b (Some (Ended r)) l) ≡ true → (b ≡ false)
    × (is_living_life l ≡ true)
ended_cond true r l h = cc
ended_cond false r l h = (refl, h)

pub cond_end_kept : (b : Bool) (o : Option End) → b ≡ false → end_in (cond (not b) o None) ≡ end_in o
cond_end_kept true o h = cc
cond_end_kept false o h = refl

over_grows : (b : Bool) (r : Data) (l : Option Life) (v : Bool) → (not (is_living_life l) && not v) ≡ true
    → (not (is_living_life (cond b (Some (Ended r)) l)) && not v) ≡ true
over_grows true r l v h = (and_parts (not (is_living_life l)) (not v) h).1
over_grows false r l v h = h

pub finishes : (x : Pid) (r : Data) (o : Work) → living o.node x ≡ true → Moves o (end_process x r o)
finishes x r o l =
    let posts = last_posts x r o in
    let o1 = post_all posts o in
    let sd : o1.node.sides ≡ o.node.sides = post_all_keeps (λ n. n.sides) (λ n m. refl) posts o in
    let nm : o1.node.mint.name ≡ o.node.mint.name = post_all_keeps (λ n. n.mint.name) (λ n m. refl) posts o in
    record {
      sides = sd;
      dialed = post_all_keeps (λ n. n.dialed) (λ n m. refl) posts o;
      name = nm;
      keeps = λ k. record {
        born = λ p h.
            let v = ended_cond (same_pid p x) r (fm.get o1.node.lives p) (sym (finish_living x r o p) ∙ h) in
            post_all_keeps (λ n. is_stranger n p) (λ n m. refl) posts o
            ∙ k.born p (sym (post_all_keeps (λ n. living n p) (λ n m. refl) posts o) ∙ v.1);
        rooted = λ p q e.
            let d : same_pid p x ≡ false = cond_absent (same_pid p x) (fm.get o1.node.ends (p, q)) (λ h. e (finish_end x r o p q ∙ h)) in
            let f : end_of ((end_process x r o).node) p q ≡ end_of o.node p q =
            finish_end x r o p q ∙ cond_end_kept (same_pid p x) _ d ∙ post_all_keeps (λ n. end_of n p q) (λ n m. refl) posts o in
            let g : living ((end_process x r o).node) p ≡ living o.node p =
            finish_living x r o p ∙ is_living_kept (same_pid p x) r _ d ∙ post_all_keeps (λ n. living n p) (λ n m. refl) posts o in
            let t = k.rooted p q (λ h. e (f ∙ h)) in (
              g ∙ t.0,
              held_along o.node ((end_process x r o).node) sd nm q.node ∙ t.1,
              λ nn. let u = t.2 (ap (same_name q.node) (sym nm) ∙ nn) in
                  (post_all_keeps (λ n. is_stranger n q) (λ n m. refl) posts o ∙ u.0, u.1),
            );
      };
      grows = λ p h. ap (λ v. not v && not (is_stranger o1.node p)) (finish_living x r o p) ∙ over_grows (same_pid p x) r
          (fm.get o1.node.lives p) (is_stranger o1.node p) (post_all_keeps (λ n. over n p) (λ n m. refl) posts o ∙ h);
      draws = omega (arith, post_all_keeps (λ n. n.mint.unlink_ids) (λ n m. refl) posts o);
      routed = λ a. silent_routed o1.node.sides o1.effects (Effect.Ended x r) refl (post_all_routed posts o a);
      nevers = λ p h. post_all_keeps (λ n. is_stranger n p) (λ n m. refl) posts o ∙ h;
      home = λ k h. post_all_home posts o
          (PostsHome-append o.node.mint.name (λ p. is_stranger o.node p)
          (exits_in x r (fm.entries o.node.ends) ++ monitor_exits x r (fm.entries o.node.registered))
          (demonitors x (fm.entries o.node.watches))
          (PostsHome-append o.node.mint.name (λ p. is_stranger o.node p) (exits_in x r (fm.entries o.node.ends))
          (monitor_exits x r (fm.entries o.node.registered))
          (exits_home o.node.mint.name (λ p. is_stranger o.node p) x r (fm.entries o.node.ends) (k.born x l)
          (λ e fe ne nn. (k.rooted e.0.0 e.0.1 (λ a. ne (sym (ap end_in (fm.get-entries o.node.ends e.0 ∙ fe)) ∙ a))).2 nn)
          (fm.entries_sorted o.node.ends))
          (downs_home o.node.mint.name (λ p. is_stranger o.node p) x r (fm.entries o.node.registered)))
          (unwatches_home o.node.mint.name (λ p. is_stranger o.node p) x (fm.entries o.node.watches))) h;
      views = λ n b p q c reach k. finish_views x r o l n b p q c reach (same_pid p x) refl k;
    }

pub carries_out : (f : Reaction) (x : Pid) (o : Work) → living o.node x ≡ true → Moves o (carry_out f x o)
carries_out Reaction.Ignore x o l = stays o
carries_out (Reaction.Put t) x o l = puts x t o
carries_out (Reaction.End r) x o l = finishes x r o l

pub link_exits : (p q : Pid) (r : Data) (o : Work) → living o.node p ≡ true → Moves o (link_exit p q r o)
link_exits p q r o l =
    let o1 = report (Effect.LinkExit p q r) o in
    then o o1 (link_exit p q r o) (reported (Effect.LinkExit p q r) o refl)
    (carries_out (reaction (traps_life (fm.get o1.node.lives p)) (linked_exit p q r)) p o1 l)

-- one end is set
abbrev pub ended_at : Bool → End → Side → Side
ended_at t e a = record { end = cond t e a.end; gone = a.gone; drawn = a.drawn; sent = a.sent }

pub set_view : (b : List LinkNews) (x y : Pid) (e : End) (o : Work) (p q : Pid)
    → view b (set_end x y e o) p q ≡ ended_at (same_pid p x && same_pid q y) e (view b o p q)
set_view b x y e o p q = side_path (view b (set_end x y e o) p q) (ended_at (same_pid p x && same_pid q y) e (view b o p q))
    (set_in-get o.node.ends (x, y) e (p, q) ∙ ap (λ t. cond t e (end_of o.node p q)) (same_pair p q x y)) refl refl refl

pub end_set : (x y : Pid) (e : End) (o : Work) (p q : Pid)
    → end_of ((set_end x y e o).node) p q ≡ cond (same_pid p x && same_pid q y) e (end_of o.node p q)
end_set x y e o p q = set_in-get o.node.ends (x, y) e (p, q) ∙ ap (λ t. cond t e (end_of o.node p q)) (same_pair p q x y)

pub set_rooted : (x y : Pid) (e : End) (o : Work) → NodeKept o.node → ((e ≡ End.None
    → ⊥) → (living o.node x ≡ true) × (held o.node y.node ≡ true) × (same_name y.node o.node.mint.name ≡ true
    → (is_stranger o.node y ≡ false) × (same_pid x y ≡ false))) → NodeKept ((set_end x y e o).node)
set_rooted x y e o k h = record {
  born = k.born;
  rooted = λ p q n. go p q (same_pid p x && same_pid q y) refl (λ m. n (end_set x y e o p q ∙ m));
}
  where
    go : (p q : Pid) (t : Bool) → (same_pid p x && same_pid q y) ≡ t
        → (cond (same_pid p x && same_pid q y) e (end_of o.node p q) ≡ End.None → ⊥) → (living o.node p ≡ true)
        × (held o.node q.node ≡ true)
        × (same_name q.node o.node.mint.name ≡ true → (is_stranger o.node q ≡ false) × (same_pid p q ≡ false))
    go p q true i n =
        let v = and_parts (same_pid p x) (same_pid q y) i in
        let r = h (λ m. n (ap (λ t. cond t e (end_of o.node p q)) i ∙ m)) in (
          subst (λ z. living o.node z ≡ true) (sym (same_pid_true p x v.0)) r.0,
          subst (λ (z : Pid). held o.node z.node ≡ true) (sym (same_pid_true q y v.1)) r.1,
          subst
              (λ (z : Pid). same_name z.node o.node.mint.name ≡ true → (is_stranger o.node z ≡ false) × (same_pid p z ≡ false))
              (sym (same_pid_true q y v.1))
              (subst (λ z. same_name y.node o.node.mint.name ≡ true → (is_stranger o.node y ≡ false) × (same_pid z y ≡ false))
              (sym (same_pid_true p x v.0)) r.2),
        )
    go p q false i n = k.rooted p q (λ m. n (ap (λ t. cond t e (end_of o.node p q)) i ∙ m))

-- a route is a side that is up
held_if_up : (es : List (TrunkId × TrunkSide)) (y : Name) → is_some (side_where is_up y es) ≡ true
    → is_some (side_where (λ v. is_up v || is_losing v) y es) ≡ true
held_if_up [] y h = h
held_if_up (e ∷ es) y h = go (same_name e.1.peer y) (is_up e.1.state) refl (is_losing e.1.state) h (held_if_up es y)
  where
    go : (a b : Bool) → is_up e.1.state ≡ b → (c : Bool) → is_some (cond (a && b) (Some e) (side_where is_up y es)) ≡ true
        → (is_some (side_where is_up y es) ≡ true → is_some (side_where (λ v. is_up v || is_losing v) y es) ≡ true)
        → is_some (cond (a && (b || c)) (Some e) (side_where (λ v. is_up v || is_losing v) y es)) ≡ true
    go true false i false h f = f h
    go false b i c h f = f h
    go true _ i _ h f = refl

reach_held_in : (es : List (TrunkId × TrunkSide)) (y : Name) → is_some (route_in es y) ≡ true
    → is_some (side_where (λ v. is_up v || is_losing v) y es) ≡ true
reach_held_in es y h = held_if_up es y (found (side_where is_up y es) h)
  where
    found : (o : Option (TrunkId × TrunkSide)) → is_some (option_map (λ (e : TrunkId × TrunkSide). e.0) o) ≡ true → is_some o ≡ true
    found None h = h
    found (Some e) h = refl

or_either : (a b c : Bool) → (a || b) ≡ true → (b ≡ true → c ≡ true) → (a || c) ≡ true
or_either true b c h f = refl
or_either false b c h f = f h

pub reach_held : (n : Node) (y : Name) → reaches n y ≡ true → held n y ≡ true
reach_held n y h =
    or_either (same_name y n.mint.name) (is_some (route n y))
    (is_some (side_where (λ v. is_up v || is_losing v) y (fm.entries n.sides))) h (reach_held_in (fm.entries n.sides) y)

-- posts keep what a node keeps
pub post_kept : (y : Name) (x : Item) (o : Work) → NodeKept o.node → NodeKept ((post_to y x o).node)
post_kept y x o k = record {
  born =
      λ p l. post_keeps (λ n. is_stranger n p) (λ n m. refl) y x o ∙ k.born p (sym (post_keeps (λ n. living n p) (λ n m. refl) y x o) ∙ l);
  rooted = λ p q e.
      let r = k.rooted p q (λ m. e (post_keeps (λ n. end_of n p q) (λ n m. refl) y x o ∙ m)) in (
        post_keeps (λ n. living n p) (λ n m. refl) y x o ∙ r.0,
        post_keeps (λ n. held n q.node) (λ n m. refl) y x o ∙ r.1,
        λ nn. let d = r.2 (sym (post_keeps (λ n. same_name q.node n.mint.name) (λ n m. refl) y x o) ∙ nn) in
            (post_keeps (λ n. is_stranger n q) (λ n m. refl) y x o ∙ d.0, d.1),
      );
}

-- an item that is no signal about a link
pub posts_other : (y : Name) (x : Item) (o : Work) → ((p q : Pid) → news_in p q x ≡ []) → Moves o (post_to y x o)
posts_other y x o none = record {
  sides = post_keeps (λ n. n.sides) (λ n m. refl) y x o;
  dialed = post_keeps (λ n. n.dialed) (λ n m. refl) y x o;
  name = post_keeps (λ n. n.mint.name) (λ n m. refl) y x o;
  keeps = post_kept y x o;
  grows = λ p h. post_keeps (λ n. over n p) (λ n m. refl) y x o ∙ h;
  draws = omega (arith, post_keeps (λ n. n.mint.unlink_ids) (λ n m. refl) y x o);
  routed = post_routed y x o;
  nevers = λ p h. post_keeps (λ n. is_stranger n p) (λ n m. refl) y x o ∙ h;
  home = λ k h. post_home y x o (λ e. home_plain (λ p. is_stranger o.node p) x none) h;
  views = λ n b p q c r k. subst (λ a. Kept a c) (sym (post_view b y x o p q r (inr (none p q))
      ∙ ap (more (view b o p q)) (none p q)
      ∙ side_path (more (view b o p q) []) (view b o p q) refl refl refl (append-nil _))) k;
}
