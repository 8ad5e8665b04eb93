-- The pairs of one node.
use Rattle.std.proofs.Common.{◌==◌, ◌≡◌, Bool, true, false, cond, not, List, [], ◌∷◌, ◌++◌}
use Rattle.std.proofs.Common.{refl, sym, ap, ◌∙◌, subst, ◌&&◌, ◌||◌, ◌⊎◌, inl, inr, nat_lt}
use Rattle.std.proofs.lemmas.Bool.{and_parts}
use Rattle.std.specs.Option.{is_some}
use Rattle.dist_model.proofs.Envelopes.{outgoing}
use Rattle.dist_model.proofs.Calls.{by_test, takes_other}
use Rattle.dist_model.proofs.Keys.{same_pid_is, same_pid_true}
use Rattle.dist_model.proofs.Moves.{Moves, reach_held}
use Rattle.dist_model.proofs.Posts.{HomeItem, Homely, NodeKept, held, home_of, home_saying}
use Rattle.dist_model.proofs.Takes.{Takes, takes_link, with_sent}
use Rattle.dist_model.proofs.Steps.{kind, signal_hit, signal_miss, taken_link}
use Rattle.dist_model.proofs.Views.{side_of, to_name, view}
use Rattle.dist_model.proofs.EndOfProcess.{same_pid_sym}
use Rattle.dist_model.specs.Items.{Item, Signalled, news, news_in, telling}
use Rattle.dist_model.specs.Linking.{take_link}
use Rattle.dist_model.specs.Names.{Name, same_name, same_pid}
use Rattle.dist_model.specs.Node.{Node, is_stranger, reaches, route}
use Rattle.dist_model.specs.Taking.{take_item}
use Rattle.dist_model.specs.Work.{Work, at_work}
use Rattle.erl_term.specs.declared.term.Pid.{Pid}
use Rattle.link_core.proofs.Kept.{Kept, kept_swap, side_path}
use Rattle.link_core.specs.News.{LinkNews}
use Rattle.link_core.specs.Pair.{Side}

-- each pair of processes of one node, and its local list
abbrev pub HomePairs : Node → Type 0
HomePairs n =
    (p q : Pid) → same_name p.node n.mint.name ≡ true → same_name q.node n.mint.name ≡ true → same_pid p q ≡ false
    → Kept (side_of n p q (news p q n.local)) (side_of n q p (news q p n.local))

pub own_reached : (n : Node) (y : Name) → same_name y n.mint.name ≡ true → reaches n y ≡ true
own_reached n y h = ap (λ b. b || is_some (route n y)) h

pub own_view : (o : Work) (p q : Pid) → same_name q.node o.node.mint.name ≡ true
    → view [] o p q ≡ side_of o.node p q (news p q o.node.local)
own_view o p q h =
    side_path (view [] o p q) (side_of o.node p q (news p q o.node.local)) refl refl refl
    (ap (λ b. news p q (cond b o.node.local (to_name q.node (outgoing o)))) h)

module _ (a b : Work) (nm : b.node.mint.name ≡ a.node.mint.name) where
  -- where both of a pair only move
  pub home_pair : (p q : Pid) → same_name p.node a.node.mint.name ≡ true → same_name q.node a.node.mint.name ≡ true
      → ((x y : Pid) → (((x ≡ p) × (y ≡ q)) ⊎ ((x ≡ q) × (y ≡ p))) → (c : Side) → reaches a.node y.node ≡ true
      → Kept (view [] a x y) c → Kept (view [] b x y) c)
      → Kept (side_of a.node p q (news p q a.node.local)) (side_of a.node q p (news q p a.node.local))
      → Kept (side_of b.node p q (news p q b.node.local)) (side_of b.node q p (news q p b.node.local))
  home_pair p q hp hq vs k =
      let bp : same_name p.node b.node.mint.name ≡ true = ap (same_name p.node) nm ∙ hp in
      let bq : same_name q.node b.node.mint.name ≡ true = ap (same_name q.node) nm ∙ hq in
      let k1 : Kept (view [] a p q) (side_of a.node q p (news q p a.node.local)) =
      subst (λ c. Kept c (side_of a.node q p (news q p a.node.local))) (sym (own_view a p q hq)) k in
      let k2 : Kept (view [] b p q) (side_of a.node q p (news q p a.node.local)) =
      vs p q (inl (refl, refl)) _ (own_reached a.node q.node hq) k1 in
      let k3 : Kept (side_of a.node q p (news q p a.node.local)) (side_of b.node p q (news p q b.node.local)) =
      kept_swap _ _ (subst (λ c. Kept c (side_of a.node q p (news q p a.node.local))) (own_view b p q bq) k2) in
      let k4 : Kept (view [] a q p) (side_of b.node p q (news p q b.node.local)) =
      subst (λ c. Kept c (side_of b.node p q (news p q b.node.local))) (sym (own_view a q p hp)) k3 in
      let k5 : Kept (view [] b q p) (side_of b.node p q (news p q b.node.local)) =
      vs q p (inr (refl, refl)) _ (own_reached a.node p.node hp) k4 in
      kept_swap _ _ (subst (λ c. Kept c (side_of b.node p q (news p q b.node.local))) (own_view b q p bp) k5)

pub home_moves : (a b : Work) → Moves a b → NodeKept a.node → HomePairs a.node → HomePairs b.node
home_moves a b f kn k p q hp hq d =
    let ap1 : same_name p.node a.node.mint.name ≡ true = ap (same_name p.node) (sym f.name) ∙ hp in
    let aq1 : same_name q.node a.node.mint.name ≡ true = ap (same_name q.node) (sym f.name) ∙ hq in
    home_pair a b f.name p q ap1 aq1 (λ x y e c r. f.views kn [] x y c r) (k p q ap1 aq1 d)

-- the first signal of the local list is taken
pub without_local : (n : Node) (xs : List Item) → NodeKept n → NodeKept (record n { local = xs })
without_local n xs k = record { born = k.born; rooted = k.rooted }

module _ (n : Node) (xs : List Item) (kn : NodeKept n) where
  plain_home : (i : Item) → n.local ≡ i ∷ xs → ((p q : Pid) → news_in p q i ≡ []) → HomePairs n
      → HomePairs ((take_item n.mint.name i (at_work (record n { local = xs }))).node)
  plain_home i first none k =
      home_moves (at_work (record n { local = xs })) (take_item n.mint.name i (at_work (record n { local = xs })))
      (takes_other n.mint.name i (at_work (record n { local = xs })) none) (without_local n xs kn)
      (λ p q hp hq d.
      let gone : (x y : Pid) → news x y n.local ≡ news x y xs = λ x y. ap (news x y) first ∙ ap (λ l. l ++ news x y xs) (none x y) in
      subst (λ l. Kept (side_of n p q l) (side_of n q p (news q p xs))) (gone p q)
      (subst (λ l. Kept (side_of n p q (news p q n.local)) (side_of n q p l)) (gone q p) (k p q hp hq d)))

  module _ (q0 p0 : Pid) (s : LinkNews) (pay : Bool) (first : n.local ≡ Signalled (telling q0 p0 s) pay ∷ xs)
      (hp0 : is_stranger n p0 ≡ false)
      (hq0 : is_stranger n q0 ≡ false) (own0 : same_name q0.node n.mint.name ≡ true) (two : same_pid p0 q0 ≡ false) where
    o0 : Work
    o0 = at_work (record n { local = xs })

    o1 : Work
    o1 = take_link p0 q0 s (at_work (record n { local = xs }))

    f : Takes p0 q0 s (at_work (record n { local = xs })) (take_link p0 q0 s (at_work (record n { local = xs })))
    f = takes_link p0 q0 s (at_work (record n { local = xs })) (λ e. (hq0, two)) hp0

    kn1 : NodeKept (record n { local = xs })
    kn1 = without_local n xs kn

    hd : held n q0.node ≡ true
    hd = reach_held n q0.node (own_reached n q0.node own0)

    at_local : (x y : Pid) → news x y n.local ≡ news_in x y (Signalled (telling q0 p0 s) pay) ++ news x y xs
    at_local x y = ap (news x y) first

    miss_at : (x y : Pid) → (same_pid q0 x && same_pid p0 y) ≡ false → news x y n.local ≡ news x y xs
    miss_at x y h = at_local x y ∙ ap (λ l. l ++ news x y xs) (signal_miss q0 p0 x y s pay h)

    hit_at : (x y : Pid) → (same_pid q0 x && same_pid p0 y) ≡ true → news x y n.local ≡ s ∷ news x y xs
    hit_at x y h = at_local x y ∙ ap (λ l. l ++ news x y xs) (signal_hit q0 p0 x y s pay h)

    -- the same test, the other way round
    flip : (x y : Pid) → (same_pid q0 x && same_pid p0 y) ≡ false → (same_pid y p0 && same_pid x q0) ≡ false
    flip x y h = by_test _ (same_pid y p0 && same_pid x q0)
        (λ e.
        let v = and_parts (same_pid y p0) (same_pid x q0) e in
        let c : (same_pid q0 x && same_pid p0 y) ≡ true =
        ap (λ t. t && same_pid p0 y) (same_pid_is q0 x (sym (same_pid_true x q0 v.1)))
        ∙ same_pid_is p0 y (sym (same_pid_true y p0 v.0)) in
        let z : true ≡ false = sym c ∙ h in cc)
        (λ e. e)

    -- p takes from q
    takes_home : (p q : Pid) → same_name p.node n.mint.name ≡ true → same_name q.node n.mint.name ≡ true
        → same_pid p q ≡ false → (same_pid q0 q && same_pid p0 p) ≡ true
        → Kept (side_of n p q (news p q n.local)) (side_of n q p (news q p n.local))
        → Kept (side_of o1.node p q (news p q o1.node.local)) (side_of o1.node q p (news q p o1.node.local))
    unfolding o1 o0 f kn1
    takes_home p q hp hq d t k =
        let v = and_parts (same_pid q0 q) (same_pid p0 p) t in
        let qe : q0 ≡ q = same_pid_true q0 q v.0 in
        let pe : p0 ≡ p = same_pid_true p0 p v.1 in
        let w = take_link p0 q0 s (at_work (record n { local = xs })) in
        let bp : same_name p.node w.node.mint.name ≡ true = ap (same_name p.node) f.name ∙ hp in
        let bq : same_name q.node w.node.mint.name ≡ true = ap (same_name q.node) f.name ∙ hq in
        let no : (same_pid q0 p && same_pid p0 q) ≡ false = by_test _ (same_pid q0 p && same_pid p0 q)
        (λ e. let c : true ≡ false = sym (same_pid_is p q (sym (same_pid_true q0 p (and_parts (same_pid q0 p) (same_pid p0 q) e).0) ∙ qe))
        ∙ d in cc) (λ e. e) in
        let k1 : Kept (side_of n p q (news p q xs)) (side_of n q p (s ∷ news q p xs)) =
        subst (λ l. Kept (side_of n p q l) (side_of n q p (s ∷ news q p xs))) (miss_at p q no)
        (subst (λ l. Kept (side_of n p q (news p q n.local)) (side_of n q p l)) (hit_at q p t) k) in
        let k2 : Kept (view [] (at_work (record n { local = xs })) p q) (with_sent (side_of n q p []) (s ∷ news q p xs)) =
        subst (λ c. Kept c (side_of n q p (s ∷ news q p xs))) (sym (own_view (at_work (record n { local = xs })) p q hq)) k1 in
        let k3 : Kept (view [] w p q) (side_of n q p (news q p xs)) =
        subst (λ z. Kept (view [] w z q) (side_of n q p (news q p xs))) pe
        (subst (λ z. Kept (view [] w p0 z) (side_of n q p (news q p xs))) qe
        (f.here kn1 hd [] (side_of n q p []) (news q p xs) (own_reached n q0.node own0)
        (subst (λ z. Kept (view [] (at_work (record n { local = xs })) p0 z) (side_of n q p (s ∷ news q p xs))) (sym qe)
        (subst (λ z. Kept (view [] (at_work (record n { local = xs })) z q) (side_of n q p (s ∷ news q p xs))) (sym pe) k2)))) in
        let k4 : Kept (view [] (at_work (record n { local = xs })) q p) (side_of w.node p q (news p q w.node.local)) =
        subst (λ c. Kept c (side_of w.node p q (news p q w.node.local)))
        (sym (own_view (at_work (record n { local = xs })) q p hp))
        (kept_swap _ _ (subst (λ c. Kept c (side_of n q p (news q p xs))) (own_view w p q bq) k3)) in
        let k5 : Kept (view [] w q p) (side_of w.node p q (news p q w.node.local)) =
        f.others kn1 hd [] q p _ (own_reached n p.node hp) (flip p q no) k4 in
        kept_swap _ _ (subst (λ c. Kept c (side_of w.node p q (news p q w.node.local))) (own_view w q p bp) k5)

    linking_home : HomePairs n → HomePairs o1.node
    unfolding o1 o0 f kn1
    linking_home k p q hp1 hq1 d =
        let hp : same_name p.node n.mint.name ≡ true = ap (same_name p.node) (sym f.name) ∙ hp1 in
        let hq : same_name q.node n.mint.name ≡ true = ap (same_name q.node) (sym f.name) ∙ hq1 in
        by_test _ (same_pid q0 q && same_pid p0 p)
        (λ t. takes_home p q hp hq d t (k p q hp hq d))
        (λ t. by_test _ (same_pid q0 p && same_pid p0 q)
        (λ u. kept_swap _ _ (takes_home q p hq hp (same_pid_sym p q d) u (kept_swap _ _ (k p q hp hq d))))
        (λ u. home_pair (at_work (record n { local = xs })) (take_link p0 q0 s (at_work (record n { local = xs }))) f.name p q hp hq
        (λ x y e c r. both p q t u x y e c r)
        (subst (λ l. Kept (side_of n p q l) (side_of n q p (news q p xs))) (miss_at p q u)
        (subst (λ l. Kept (side_of n p q (news p q n.local)) (side_of n q p l)) (miss_at q p t) (k p q hp hq d)))))
      where
        both : (p q : Pid) → (same_pid q0 q && same_pid p0 p) ≡ false → (same_pid q0 p && same_pid p0 q) ≡ false → (x y : Pid)
            → (((x ≡ p) × (y ≡ q)) ⊎ ((x ≡ q) × (y ≡ p))) → (c : Side) → reaches n y.node ≡ true
            → Kept (view [] (at_work (record n { local = xs })) x y) c
            → Kept (view [] (take_link p0 q0 s (at_work (record n { local = xs }))) x y) c
        both p q t u x y (inl e) c r k =
            f.others kn1 hd [] x y c r (subst (λ z. (same_pid z p0 && same_pid y q0) ≡ false) (sym e.0)
            (subst (λ z. (same_pid p p0 && same_pid z q0) ≡ false) (sym e.1) (flip q p t))) k
        both p q t u x y (inr e) c r k =
            f.others kn1 hd [] x y c r (subst (λ z. (same_pid z p0 && same_pid y q0) ≡ false) (sym e.0)
            (subst (λ z. (same_pid q p0 && same_pid z q0) ≡ false) (sym e.1) (flip p q u))) k

pub never_own : (n : Node) (p : Pid) → is_stranger n p ≡ false → same_name p.node n.mint.name ≡ true
never_own n p h = go (same_name p.node n.mint.name) h
  where
    go : (b : Bool) → ((((not b || nat_lt n.mint.creation p.creation) || (p.creation == n.mint.creation && nat_lt n.mint.pids p.id))
        || p.id == 0) || not (p.serial == 0)) ≡ false → b ≡ true
    go true h = refl
    go false h = cc

-- Local: each pair of the node
pub local_home : (n : Node) (i : Item) (xs : List Item) → n.local ≡ i ∷ xs → NodeKept n → home_of n → HomePairs n
    → HomePairs ((take_item n.mint.name i (at_work (record n { local = xs }))).node)
unfolding o1
local_home n i xs first kn hm k = go (kind i) (subst (λ l. Homely (λ p. is_stranger n p) l) first hm).0
  where
    go : ((p q : Pid) → news_in p q i ≡ [])
        ⊎ ((q : Pid) × (p : Pid) × (s : LinkNews) × (pay : Bool) × (i ≡ Signalled (telling q p s) pay))
        → HomeItem (λ p. is_stranger n p) i → HomePairs ((take_item n.mint.name i (at_work (record n { local = xs }))).node)
    go (inl h) m = plain_home n xs kn i first h k
    go (inr h) m =
        let g : (is_stranger n h.0 ≡ false) × (is_stranger n h.1 ≡ false) × (same_pid h.0 h.1 ≡ false) =
        home_saying (λ p. is_stranger n p) h.0 h.1 h.2 h.3 (subst (λ z. HomeItem (λ p. is_stranger n p) z) h.4 m) in
        subst (λ z. HomePairs ((take_item n.mint.name z (at_work (record n { local = xs }))).node)) (sym h.4)
        (subst (λ (z : Work). HomePairs z.node) (sym (taken_link n.mint.name h.0 h.1 h.2 (at_work (record n { local = xs }))))
        (linking_home n xs kn h.0 h.1 h.2 h.3 (first ∙ ap (λ z. z ∷ xs) h.4) g.1 g.0 (never_own n h.0 g.0) (same_pid_sym h.0 h.1 g.2) k))
