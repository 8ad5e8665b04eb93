-- What a process that links, or takes its link back, does to each pair of processes of its node.
use Rattle.std.proofs.Common.{◌≡◌, ℕ, ◌<◌, Bool, true, false, cond, List, [], ◌∷◌, ◌++◌, refl, sym, ap, ◌∙◌, subst, arith, ◌&&◌, append-nil}
use Rattle.std.proofs.lemmas.Bool.{and_parts}
use Rattle.dist_model.proofs.Keys.{same_pid_is, same_pid_true}
use Rattle.dist_model.proofs.Views.{linking_suits, more, over, post_keeps, post_view, telling_news, view}
use Rattle.dist_model.specs.Items.{Signalled, telling}
use Rattle.dist_model.specs.Linking.{link, link_by, link_new}
use Rattle.dist_model.specs.Names.{same_name, same_pid}
use Rattle.dist_model.specs.Node.{Node, end_of, living, is_stranger, reaches}
use Rattle.dist_model.specs.Work.{Work, post, post_to, set_end, to_pid}
use Rattle.erl_control.specs.declared.signal.Signal.{Signal}
use Rattle.erl_term.specs.declared.term.Pid.{Pid}
use Rattle.link_core.proofs.Kept.{Kept, activates, deactivates, side_path}
use Rattle.link_core.specs.News.{LinkNews, Signals, noconnection}
use Rattle.link_core.specs.Pair.{Side}
use Rattle.link_core.specs.declared.end.End.{End}
use Rattle.link_core.specs.declared.end.LinkSignal.{LinkSignal}
use Rattle.dist_model.proofs.Posts.{home_said, post_home, post_routed}
use Rattle.dist_model.proofs.Pair.{keeps_draw}
use Rattle.dist_model.proofs.Moves.{Moves, stays, then, not_over, link_exits, ended_at, set_view, set_rooted, reach_held, post_kept}

-- p's end for q is set, and a signal goes to q
abbrev pub told : End → LinkNews → Side → Side
told e s a = record { end = e; gone = a.gone; drawn = a.drawn; sent = a.sent ++ s ∷ [] }

pub turned : (x y p q : Pid) → (same_pid p x && same_pid q y) ≡ false → (same_pid x p && same_pid y q) ≡ false
turned x y p q h = go (same_pid x p && same_pid y q) refl
  where
    go : (t : Bool) → (same_pid x p && same_pid y q) ≡ t → (same_pid x p && same_pid y q) ≡ false
    go true i =
        let v = and_parts (same_pid x p) (same_pid y q) i in
        let w : (same_pid p x && same_pid q y) ≡ true =
        ap (λ t. t && same_pid q y) (same_pid_is p x (sym (same_pid_true x p v.0))) ∙ same_pid_is q y (sym (same_pid_true y q v.1)) in
        let n : true ≡ false = sym w ∙ h in cc
    go false i = i

pub told_view : (b : List LinkNews) (x y : Pid) (e : End) (s : LinkNews) (pay : Bool) (o : Work) (p q : Pid)
    → reaches o.node q.node ≡ true
    → (t : Bool) → (same_pid p x && same_pid q y) ≡ t
    → view b (post_to y.node (Signalled (telling x y s) pay) (set_end x y e o)) p q ≡ cond t (told e s (view b o p q)) (view b o p q)
told_view b x y e s pay o p q reach true h =
    let v = and_parts (same_pid p x) (same_pid q y) h in
    let w : (same_pid x p && same_pid y q) ≡ true =
    ap (λ t. t && same_pid y q) (same_pid_is x p (sym (same_pid_true p x v.0))) ∙ same_pid_is y q (sym (same_pid_true q y v.1)) in
    post_view b y.node (Signalled (telling x y s) pay) (set_end x y e o) p q reach (linking_suits x y p q s pay)
    ∙ ap (more (view b (set_end x y e o) p q)) (telling_news x y p q s pay)
    ∙ ap (λ a. more a (cond (same_pid x p && same_pid y q) (s ∷ []) [])) (set_view b x y e o p q)
    ∙ ap (λ t. more (ended_at t e (view b o p q)) (cond (same_pid x p && same_pid y q) (s ∷ []) [])) h
    ∙ ap (λ t. more (ended_at true e (view b o p q)) (cond t (s ∷ []) [])) w
told_view b x y e s pay o p q reach false h =
    post_view b y.node (Signalled (telling x y s) pay) (set_end x y e o) p q reach (linking_suits x y p q s pay)
    ∙ ap (more (view b (set_end x y e o) p q)) (telling_news x y p q s pay)
    ∙ ap (λ a. more a (cond (same_pid x p && same_pid y q) (s ∷ []) [])) (set_view b x y e o p q)
    ∙ ap (λ t. more (ended_at t e (view b o p q)) (cond (same_pid x p && same_pid y q) (s ∷ []) [])) h
    ∙ ap (λ t. more (view b o p q) (cond t (s ∷ []) [])) (turned x y p q h)
    ∙ side_path (more (view b o p q) []) (view b o p q) refl refl refl (append-nil _)

-- a process links to another
at_pair : (P : Pid → Pid → Type 0) (p q x y : Pid) → (same_pid p x && same_pid q y) ≡ true → P x y → P p q
at_pair P p q x y h k =
    let v = and_parts (same_pid p x) (same_pid q y) h in
    subst (λ z. P z q) (sym (same_pid_true p x v.0)) (subst (λ z. P x z) (sym (same_pid_true q y v.1)) k)

links_reached : (x y : Pid) (o : Work)
    → (same_name y.node o.node.mint.name ≡ true → (is_stranger o.node y ≡ false) × (same_pid x y ≡ false))
    → living o.node x ≡ true → reaches o.node y.node ≡ true
    → Moves o (post_to y.node (Signalled (telling x y (Signals LinkSignal.Link)) false) (set_end x y End.Active o))
links_reached x y o v l reach = record {
  sides = post_keeps (λ m. m.sides) (λ m u. refl) y.node (Signalled (telling x y (Signals LinkSignal.Link)) false)
      (set_end x y End.Active o);
  dialed = post_keeps (λ m. m.dialed) (λ m u. refl) y.node (Signalled (telling x y (Signals LinkSignal.Link)) false)
      (set_end x y End.Active o);
  name = post_keeps (λ m. m.mint.name) (λ m u. refl) y.node (Signalled (telling x y (Signals LinkSignal.Link)) false)
      (set_end x y End.Active o);
  keeps = λ k. post_kept y.node (Signalled (telling x y (Signals LinkSignal.Link)) false) (set_end x y End.Active o)
      (set_rooted x y End.Active o k (λ h. (l, reach_held o.node y.node reach, v)));
  grows = λ p h.
      post_keeps (λ m. over m p) (λ m u. refl) y.node (Signalled (telling x y (Signals LinkSignal.Link)) false) (set_end x y End.Active o)
      ∙ h;
  draws = omega (
    arith,
    post_keeps (λ m. m.mint.unlink_ids) (λ m u. refl) y.node
        (Signalled (telling x y (Signals LinkSignal.Link)) false) (set_end x y End.Active o),
  );
  routed = λ a. post_routed y.node (Signalled (telling x y (Signals LinkSignal.Link)) false) (set_end x y End.Active o) a;
  nevers = λ p h.
      post_keeps (λ m. is_stranger m p) (λ m u. refl) y.node (Signalled (telling x y (Signals LinkSignal.Link)) false)
      (set_end x y End.Active o)
      ∙ h;
  home = λ k h. post_home y.node (Signalled (telling x y (Signals LinkSignal.Link)) false) (set_end x y End.Active o)
      (λ e. let d = v e in home_said (λ p. is_stranger o.node p) x y (Signals LinkSignal.Link) false (k.born x l, d.0, d.1)) h;
  views = λ nk b p q c r k. go b p q c r k (same_pid p x && same_pid q y) refl;
}
  where
    go : (b : List LinkNews) (p q : Pid) (c : Side) → reaches o.node q.node ≡ true → Kept (view b o p q) c → (t : Bool)
        → (same_pid p x && same_pid q y) ≡ t
        → Kept (view b (post_to y.node (Signalled (telling x y (Signals LinkSignal.Link)) false) (set_end x y End.Active o)) p q) c
    go b p q c r k true h = subst (λ a. Kept a c) (sym (told_view b x y End.Active (Signals LinkSignal.Link) false o p q r true h))
        (activates (view b o p q) c (at_pair (λ u v. over o.node u ≡ false) p q x y h (not_over o.node x l)) k)
    go b p q c r k false h = subst (λ a. Kept a c) (sym (told_view b x y End.Active (Signals LinkSignal.Link) false o p q r false h)) k

-- the partner's node isn't reached: no pair that is reached is meant
apart_by_reach : (n : Node) (p q x y : Pid) → reaches n q.node ≡ true → reaches n y.node ≡ false → (same_pid p x && same_pid q y) ≡ false
apart_by_reach n p q x y r u = go (same_pid p x && same_pid q y) refl
  where
    go : (t : Bool) → (same_pid p x && same_pid q y) ≡ t → (same_pid p x && same_pid q y) ≡ false
    go true h =
        let v = and_parts (same_pid p x) (same_pid q y) h in
        let w : reaches n y.node ≡ true = subst (λ (z : Pid). reaches n z.node ≡ true) (same_pid_true q y v.1) r in
        let m : true ≡ false = sym w ∙ u in cc
    go false h = h

pub removes_unreached : (x y : Pid) (o : Work) → reaches o.node y.node ≡ false → Moves o (set_end x y End.None o)
removes_unreached x y o u = record {
  sides = refl;
  dialed = refl;
  name = refl;
  keeps = λ k. set_rooted x y End.None o k (λ h. absurd (h refl));
  grows = λ p h. h;
  draws = omega arith;
  routed = λ a. a;
  nevers = λ p h. h;
  home = λ k h. h;
  views = λ nk b p q c r k. subst (λ a. Kept a c)
      (sym (set_view b x y End.None o p q ∙ ap (λ t. ended_at t End.None (view b o p q)) (apart_by_reach o.node p q x y r u))) k;
}

link_news : (t : Bool) (x y : Pid) (o : Work)
    → (same_name y.node o.node.mint.name ≡ true → (is_stranger o.node y ≡ false) × (same_pid x y ≡ false))
    → reaches o.node y.node ≡ t → living o.node x ≡ true → Moves o (link_new t x y o)
link_news true x y o v r l = links_reached x y o v l r
link_news false x y o v r l =
    then o (set_end x y End.None o) (link_new false x y o) (removes_unreached x y o r)
    (link_exits x y noconnection (set_end x y End.None o) l)

links_by : (e : End) (x y : Pid) (o : Work)
    → (same_name y.node o.node.mint.name ≡ true → (is_stranger o.node y ≡ false) × (same_pid x y ≡ false))
    → living o.node x ≡ true → Moves o (link_by e x y o)
links_by End.None x y o v l = link_news (reaches o.node y.node) x y o v refl l
links_by End.Active x y o v l = stays o
links_by (End.Pending i) x y o v l = link_news (reaches o.node y.node) x y o v refl l

pub links : (x y : Pid) (o : Work) → (same_name y.node o.node.mint.name ≡ true → is_stranger o.node y ≡ false)
    → living o.node x ≡ true → Moves o (link x y o)
links x y o v l = go (same_pid x y) refl
  where
    go : (t : Bool) → same_pid x y ≡ t → Moves o (cond t o (link_by (end_of o.node x y) x y o))
    go true e = stays o
    go false e = links_by (end_of o.node x y) x y o (λ i. (v i, e)) l

-- a process unlinks
-- under any id above those drawn
abbrev pub draw_unlink : ℕ → Work → Work
draw_unlink j o = record o { node = record (o.node) { mint = record (o.node.mint) { unlink_ids = j } } }

abbrev pub unlink_at : ℕ → Pid → Pid → Work → Work
unlink_at j p q o = post (to_pid q (Signal.UnlinkId j p q)) (set_end p q (End.Pending j) (draw_unlink j o))

pub unlinks_as : (x y : Pid) (o : Work) (j : ℕ) → living o.node x ≡ true → end_of o.node x y ≡ End.Active
    → o.node.mint.unlink_ids < j → Moves o (unlink_at j x y o)
unlinks_as x y o j l e lt =
    let o0 = draw_unlink j o in
    record {
      sides = post_keeps (λ m. m.sides) (λ m u. refl) y.node (Signalled (telling x y (Signals (LinkSignal.Unlink j))) false)
          (set_end x y (End.Pending j) o0);
      dialed = post_keeps (λ m. m.dialed) (λ m u. refl) y.node (Signalled (telling x y (Signals (LinkSignal.Unlink j))) false)
          (set_end x y (End.Pending j) o0);
      name = post_keeps (λ m. m.mint.name) (λ m u. refl) y.node (Signalled (telling x y (Signals (LinkSignal.Unlink j))) false)
          (set_end x y (End.Pending j) o0);
      keeps = λ k. post_kept y.node (Signalled (telling x y (Signals (LinkSignal.Unlink j))) false) (set_end x y (End.Pending j) o0)
          (set_rooted x y (End.Pending j) o0 (record { born = k.born; rooted = k.rooted })
          (λ h. k.rooted x y (λ a. let n : End.Active ≡ End.None = sym e ∙ a in cc)));
      grows = λ p h. post_keeps (λ m. over m p) (λ m u. refl) y.node (Signalled (telling x y (Signals (LinkSignal.Unlink j))) false)
          (set_end x y (End.Pending j) o0) ∙ h;
      draws = omega (
        arith,
        lt,
        post_keeps (λ m. m.mint.unlink_ids) (λ m u. refl) y.node
            (Signalled (telling x y (Signals (LinkSignal.Unlink j))) false) (set_end x y (End.Pending j) o0),
      );
      routed = λ a. post_routed y.node (Signalled (telling x y (Signals (LinkSignal.Unlink j))) false) (set_end x y (End.Pending j) o0) a;
      nevers = λ p h. post_keeps (λ m. is_stranger m p) (λ m u. refl) y.node
          (Signalled (telling x y (Signals (LinkSignal.Unlink j))) false) (set_end x y (End.Pending j) o0) ∙ h;
      home = λ k h. post_home y.node (Signalled (telling x y (Signals (LinkSignal.Unlink j))) false) (set_end x y (End.Pending j) o0) (λ i.
          let d = (k.rooted x y (λ a. let n : End.Active ≡ End.None = sym e ∙ a in cc)).2 i in
          home_said (λ p. is_stranger o.node p) x y (Signals (LinkSignal.Unlink j)) false (k.born x l, d.0, d.1)) h;
      views = λ nk b p q c r k. go b p q c r k (same_pid p x && same_pid q y) refl;
    }
  where
    go : (b : List LinkNews) (p q : Pid) (c : Side) → reaches o.node q.node ≡ true → Kept (view b o p q) c → (t : Bool)
        → (same_pid p x && same_pid q y) ≡ t → Kept (view b (unlink_at j x y o) p q) c
    go b p q c r k true h =
        subst (λ a. Kept a c) (sym (told_view b x y (End.Pending j) (Signals (LinkSignal.Unlink j)) false (draw_unlink j o) p q r true h))
        (deactivates (view b o p q) c j (at_pair (λ u v. over o.node u ≡ false) p q x y h (not_over o.node x l))
        (at_pair (λ u v. end_of o.node u v ≡ End.Active) p q x y h e) lt k)
    go b p q c r k false h =
        subst (λ a. Kept a c) (sym (told_view b x y (End.Pending j) (Signals (LinkSignal.Unlink j)) false (draw_unlink j o) p q r false h))
        (keeps_draw (view b o p q) c j (omega (arith, lt)) k)
