-- What a signal about a link that is taken does to its pair, and to all others.
use Rattle.link_core.proofs.Kept.{Kept, side_path, takes_at}
use Rattle.std.proofs.Common.{◌≡◌, ◌≤◌, Bool, true, false, cond, not, List, [], ◌∷◌}
use Rattle.std.proofs.Common.{◌++◌, refl, sym, ap, ◌∙◌, subst, arith, ◌&&◌, append-nil}
use Rattle.dist_model.proofs.Envelopes.{outgoing}
use Rattle.dist_model.proofs.Keys.{same_pid_refl}
use Rattle.dist_model.proofs.Seen.{replies}
use Rattle.dist_model.proofs.Views.{AllSuit, linking_suits, more, over, post_all_keeps}
use Rattle.dist_model.proofs.Views.{post_all_view, posted, telling_news, view}
use Rattle.dist_model.specs.Linking.{exit_follows, take_link, take_link_by}
use Rattle.dist_model.specs.Names.{Name, same_name, same_pid}
use Rattle.dist_model.specs.Node.{end_of, living, is_stranger, reaches}
use Rattle.dist_model.specs.Work.{Addressed, Work, post, post_all, set_end, spelled}
use Rattle.erl_term.specs.declared.term.Pid.{Pid}
use Rattle.link_core.specs.declared.end.End.{End}
use Rattle.link_core.specs.declared.end.LinkSignal.{LinkSignal}
use Rattle.link_core.specs.Pair.{Side}
use Rattle.link_core.specs.News.{Exited, LinkNews, Signals, heard, reply}
use Rattle.dist_model.proofs.Posts.{AllRouted, NodeKept, PostsHome, held, home_of, home_said, post_all_home, post_all_routed}
use Rattle.dist_model.proofs.Moves.{Moves, ended_at, link_exits, not_over, post_kept, reach_along, set_rooted, set_view, stays}
use Rattle.dist_model.proofs.LinkMoves.{turned}

-- a signal about a link is taken
abbrev pub with_sent : Side → List LinkNews → Side
with_sent c L = record { end = c.end; gone = c.gone; drawn = c.drawn; sent = L }

pub record Takes (x y : Pid) (s : LinkNews) (o o' : Work) : Type 0 where
  pub sides : o'.node.sides ≡ o.node.sides
  pub dialed : o'.node.dialed ≡ o.node.dialed
  pub name : o'.node.mint.name ≡ o.node.mint.name
  pub keeps : NodeKept o.node → held o.node y.node ≡ true → NodeKept o'.node
  pub grows : (p : Pid) → over o.node p ≡ true → over o'.node p ≡ true
  pub draws : o.node.mint.unlink_ids ≤ o'.node.mint.unlink_ids
  pub routed : AllRouted o.node.sides (outgoing o) → AllRouted o'.node.sides (outgoing o')
  pub nevers : (p : Pid) → is_stranger o.node p ≡ false → is_stranger o'.node p ≡ false
  pub home : NodeKept o.node → held o.node y.node ≡ true → home_of o.node → home_of o'.node
  pub here : NodeKept o.node → held o.node y.node ≡ true → (b : List LinkNews) (c : Side) (L : List LinkNews)
      → reaches o.node y.node ≡ true → Kept (view b o x y) (with_sent c (s ∷ L)) → Kept (view b o' x y) (with_sent c L)
  pub others : NodeKept o.node → held o.node y.node ≡ true → (b : List LinkNews) (p q : Pid) (c : Side)
      → reaches o.node q.node ≡ true → (same_pid p x && same_pid q y) ≡ false → Kept (view b o p q) c → Kept (view b o' p q) c

pub takes_then : (x y : Pid) (s : LinkNews) (a b c : Work) → Takes x y s a b → Moves b c → Takes x y s a c
takes_then x y s a b c f g = record {
  sides = g.sides ∙ f.sides;
  dialed = g.dialed ∙ f.dialed;
  name = g.name ∙ f.name;
  keeps = λ k h. g.keeps (f.keeps k h);
  grows = λ p h. g.grows p (f.grows p h);
  draws = omega (arith, f.draws, g.draws);
  routed = λ r. g.routed (f.routed r);
  nevers = λ p h. g.nevers p (f.nevers p h);
  home = λ k h m. g.home (f.keeps k h) (f.home k h m);
  here = λ n h l d L r k.
      g.views (f.keeps n h) l x y (with_sent d L) (reach_along a.node b.node f.sides f.name y.node ∙ r) (f.here n h l d L r k);
  others =
      λ n h l p q d r t k. g.views (f.keeps n h) l p q d (reach_along a.node b.node f.sides f.name q.node ∙ r) (f.others n h l p q d r t k);
}

suits_replies : (p q x y : Pid) (ss : List LinkNews) → AllSuit p q (replies x y ss)
suits_replies p q x y [] = tt
suits_replies p q x y (s ∷ ss) = (
  linking_suits x y p q s false,
  suits_replies p q x y ss,
)

posted_replies : (t : Bool) (p q x y : Pid) (ss : List LinkNews) → (same_pid x p && same_pid y q) ≡ t
    → posted p q (replies x y ss) ≡ cond t ss []
posted_replies true p q x y [] h = refl
posted_replies true p q x y (s ∷ ss) h =
    ap (λ l. l ++ posted p q (replies x y ss)) (telling_news x y p q s false)
    ∙ ap (λ t. cond t (s ∷ []) [] ++ posted p q (replies x y ss)) h ∙ ap (λ l. s ∷ l) (posted_replies true p q x y ss h)
posted_replies false p q x y [] h = refl
posted_replies false p q x y (s ∷ ss) h =
    ap (λ l. l ++ posted p q (replies x y ss)) (telling_news x y p q s false)
    ∙ ap (λ t. cond t (s ∷ []) [] ++ posted p q (replies x y ss)) h ∙ posted_replies false p q x y ss h

post_all_kept : (es : List Addressed) (o : Work) → NodeKept o.node → NodeKept ((post_all es o).node)
post_all_kept [] o k = k
post_all_kept (e ∷ es) o k = post_all_kept es (post e o) (post_kept e.node (spelled o.node e) o k)

one_pair : (x y : Pid) → (same_pid x x && same_pid y y) ≡ true
one_pair x y = ap (λ t. t && same_pid y y) (same_pid_refl x) ∙ same_pid_refl y

-- after replies by x to y
replied_here : (b : List LinkNews) (x y : Pid) (ss : List LinkNews) (o : Work) → reaches o.node y.node ≡ true
    → view b (post_all (replies x y ss) o) x y ≡ more (view b o x y) ss
replied_here b x y ss o r =
    post_all_view b (replies x y ss) o x y r (suits_replies x y x y ss)
    ∙ ap (more (view b o x y)) (posted_replies true x y x y ss (one_pair x y))

replied_there : (b : List LinkNews) (x y : Pid) (ss : List LinkNews) (o : Work) (p q : Pid) → reaches o.node q.node ≡ true
    → (same_pid p x && same_pid q y) ≡ false → view b (post_all (replies x y ss) o) p q ≡ view b o p q
replied_there b x y ss o p q r t =
    post_all_view b (replies x y ss) o p q r (suits_replies p q x y ss)
    ∙ ap (more (view b o p q)) (posted_replies false p q x y ss (turned x y p q t))
    ∙ side_path (more (view b o p q) []) (view b o p q) refl refl refl (append-nil _)

replies_home : (z : Name) (f : Pid → Bool) (x y : Pid) (ss : List LinkNews) → f x ≡ false
    → (same_name y.node z ≡ true → (f y ≡ false) × (same_pid x y ≡ false)) → PostsHome z f (replies x y ss)
replies_home z f x y [] hx hy = tt
replies_home z f x y (s ∷ ss) hx hy = (
  λ e. let d = hy e in
      home_said f x y s false (hx, d.0, d.1),
  replies_home z f x y ss hx hy,
)

takes_living : (x y : Pid) (s : LinkNews) (o : Work)
    → (same_name y.node o.node.mint.name ≡ true → (is_stranger o.node y ≡ false) × (same_pid x y ≡ false))
    → is_stranger o.node x ≡ false → living o.node x ≡ true
    → Takes x y s o (post_all (replies x y (reply false s)) (set_end x y (heard (end_of o.node x y) s) o))
takes_living x y s o v nx l =
    let e = heard (end_of o.node x y) s in
    let o1 = set_end x y e o in
    let es = replies x y (reply false s) in
    record {
      sides = post_all_keeps (λ m. m.sides) (λ m u. refl) es o1;
      dialed = post_all_keeps (λ m. m.dialed) (λ m u. refl) es o1;
      name = post_all_keeps (λ m. m.mint.name) (λ m u. refl) es o1;
      keeps = λ k h. post_all_kept es o1 (set_rooted x y e o k (λ n. (l, h, v)));
      grows = λ p h. post_all_keeps (λ m. over m p) (λ m u. refl) es o1 ∙ h;
      draws = omega (arith, post_all_keeps (λ m. m.mint.unlink_ids) (λ m u. refl) es o1);
      routed = λ a. post_all_routed es o1 a;
      nevers = λ p h. post_all_keeps (λ m. is_stranger m p) (λ m u. refl) es o1 ∙ h;
      home = λ k h m. post_all_home es o1 (replies_home o.node.mint.name (λ p. is_stranger o.node p) x y (reply false s) nx v) m;
      here = λ n h b c L r k. subst (λ a. Kept a (with_sent c L))
          (sym (replied_here b x y (reply false s) o1 r
          ∙ ap (λ a. more a (reply false s)) (set_view b x y e o x y ∙ ap (λ t. ended_at t e (view b o x y)) (one_pair x y))))
          (takes_at false (view b o x y) c s L (not_over o.node x l) k);
      others = λ n h b p q c r t k. subst (λ a. Kept a c)
          (sym (replied_there b x y (reply false s) o1 p q r t ∙ set_view b x y e o p q ∙ ap (λ t. ended_at t e (view b o p q)) t)) k;
    }

takes_over : (x y : Pid) (s : LinkNews) (o : Work)
    → (same_name y.node o.node.mint.name ≡ true → (is_stranger o.node y ≡ false) × (same_pid x y ≡ false))
    → is_stranger o.node x ≡ false → over o.node x ≡ true → Takes x y s o (post_all (replies x y (reply true s)) o)
takes_over x y s o v nx l =
    let es = replies x y (reply true s) in
    record {
      sides = post_all_keeps (λ m. m.sides) (λ m u. refl) es o;
      dialed = post_all_keeps (λ m. m.dialed) (λ m u. refl) es o;
      name = post_all_keeps (λ m. m.mint.name) (λ m u. refl) es o;
      keeps = λ k h. post_all_kept es o k;
      grows = λ p h. post_all_keeps (λ m. over m p) (λ m u. refl) es o ∙ h;
      draws = omega (arith, post_all_keeps (λ m. m.mint.unlink_ids) (λ m u. refl) es o);
      routed = λ a. post_all_routed es o a;
      nevers = λ p h. post_all_keeps (λ m. is_stranger m p) (λ m u. refl) es o ∙ h;
      home = λ k h m. post_all_home es o (replies_home o.node.mint.name (λ p. is_stranger o.node p) x y (reply true s) nx v) m;
      here = λ n h b c L r k.
          subst (λ a. Kept a (with_sent c L)) (sym (replied_here b x y (reply true s) o r)) (takes_at true (view b o x y) c s L l k);
      others = λ n h b p q c r t k. subst (λ a. Kept a c) (sym (replied_there b x y (reply true s) o p q r t)) k;
    }

exit_moves : (e : End) (s : LinkNews) (x y : Pid) (o : Work) → living o.node x ≡ true → Moves o (exit_follows e s x y o)
exit_moves e (Signals LinkSignal.Link) x y o l = stays o
exit_moves End.Active (Exited r) x y o l = link_exits x y r o l
exit_moves _ _ x y o l = stays o

-- whoever was spawned takes it by the rules of the pair
pub takes_link : (x y : Pid) (s : LinkNews) (o : Work)
    → (same_name y.node o.node.mint.name ≡ true → (is_stranger o.node y ≡ false) × (same_pid x y ≡ false))
    → is_stranger o.node x ≡ false → Takes x y s o (take_link x y s o)
takes_link x y s o u v = go (living o.node x) refl
  where
    go : (t : Bool) → living o.node x ≡ t → Takes x y s o (take_link_by t x y s o)
    go true l =
        let o1 = set_end x y (heard (end_of o.node x y) s) o in
        let o2 = post_all (replies x y (reply false s)) o1 in
        takes_then x y s o o2 (exit_follows (end_of o.node x y) s x y o2) (takes_living x y s o u v l)
        (exit_moves (end_of o.node x y) s x y o2 (post_all_keeps (λ m. living m x) (λ m u. refl) (replies x y (reply false s)) o1 ∙ l))
    go false l = takes_over x y s o u v (ap (λ t. not t && not (is_stranger o.node x)) l ∙ ap not v)
