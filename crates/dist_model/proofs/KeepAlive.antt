-- A node's ends, monitors and names are of living processes, whatever event comes to it.
use Rattle.std.proofs.Common.{◌≡◌, ◌≢◌, Bool, true, false, cond, not, [], refl, sym, ap, ◌∙◌, ◌&&◌, Some, None, ◌⊎◌, inl, inr}
use Rattle.std.proofs.lemmas.Bool.{and_parts, not-true}
use Rattle.std.proofs.lemmas.Option.{same_Some, none-some}
use Rattle.std.specs.FinMap as fm
use Rattle.std.specs.FinMap.{FinMap}
use Rattle.dist_model.proofs.EndOfProcess.{last_posts, is_living_kept}
use Rattle.dist_model.proofs.Founded.{added_some, all_posts_keep, posts_keep, registered_left, removed_some, retained, watches_left}
use Rattle.dist_model.proofs.KeepParts.{Parts}
use Rattle.dist_model.proofs.Calls.{Renames, Takes}
use Rattle.dist_model.proofs.Keys.{name_exact, name_total, pid_total, same_name_true, same_pid_refl, same_pid_true}
use Rattle.dist_model.proofs.Moves.{cond_absent, cond_end_kept, end_set, finish_end, finish_living, put_living, set_life_living}
use Rattle.dist_model.proofs.Seen.{end_in}
use Rattle.dist_model.specs.Downs.{same_reference}
use Rattle.dist_model.specs.Exits.{end_process, is_owned, is_bound}
use Rattle.dist_model.specs.Monitoring.{register, watch}
use Rattle.dist_model.specs.Names.{Name, pair_cmp, same_name, same_pid}
use Rattle.dist_model.specs.Naming.{IsOneToOne, NameMap, is_held_by, name_of, without_holder}
use Rattle.dist_model.specs.Node.{Life, Living, Node, end_of, is_living_life, living}
use Rattle.dist_model.specs.Work.{Work, post_all, set_end, spelled}
use Rattle.dist_model.specs.Calls.{spawn_life}
use Rattle.erl_names.specs.Order.{name_cmp}
use Rattle.erl_term.specs.Data.{Data}
use Rattle.erl_term.specs.Order.{pid_cmp, reference_cmp}
use Rattle.erl_term.specs.declared.term.Pid.{Pid}
use Rattle.erl_term.specs.declared.term.Reference.{Reference}
use Rattle.link_core.specs.declared.end.End.{End}
use Rattle.erl_term.proofs.Order.{reference_cmp_total}
use Rattle.sorted_map.specs.First.{first_none}
use Rattle.monitor_core.specs.declared.monitor.Watch.{Watch}
use Rattle.monitor_core.specs.declared.monitor.Registration.{Registration}

pub record Alive (node : Node) : Type 0 where
  pub ends : (p q : Pid) → end_of node p q ≢ End.None → living node p ≡ true
  pub owners : (r : Reference) (m : Watch) → fm.get node.watches r ≡ Some m → living node m.owner ≡ true
  pub bound : (r : Reference) (m : Registration) → fm.get node.registered r ≡ Some m → living node m.held ≡ true
  pub holders : (name : Name) (p : Pid) → fm.get node.names name ≡ Some p → living node p ≡ true
  pub one_name : IsOneToOne node.names

-- nothing is recorded that wasn't, and who is living stays so
along : (n m : Node) → ((p : Pid) → living n p ≡ true → living m p ≡ true) → m.ends ≡ n.ends → m.names ≡ n.names
    → ((r : Reference) (v : Watch) → fm.get m.watches r ≡ Some v → fm.get n.watches r ≡ Some v)
    → ((r : Reference) (v : Registration) → fm.get m.registered r ≡ Some v → fm.get n.registered r ≡ Some v) → Alive n → Alive m
along n m l e a w g k = record {
  ends = λ p q h. l p (k.ends p q (λ j. h (ap (λ z. end_in (fm.get z (p, q))) e ∙ j)));
  owners = λ r v h. l v.owner (k.owners r v (w r v h));
  bound = λ r v h. l v.held (k.bound r v (g r v h));
  holders = λ b p h. l p (k.holders b p (was b p h));
  one_name = λ b c p h j. k.one_name b c p (was b p h) (was c p j);
}
  where
    was : (b : Name) (p : Pid) → fm.get m.names b ≡ Some p → fm.get n.names b ≡ Some p
    was b p h = ap (λ z. fm.get z b) (sym a) ∙ h

same : (n m : Node) → m.lives ≡ n.lives → m.ends ≡ n.ends → m.names ≡ n.names → m.watches ≡ n.watches → m.registered ≡ n.registered
    → Alive n → Alive m
same n m l e a w g k = along n m (λ p h. ap (λ z. is_living_life (fm.get z p)) l ∙ h) e a (λ r v h. ap (λ z. fm.get z r) (sym w) ∙ h)
    (λ r v h. ap (λ z. fm.get z r) (sym g) ∙ h) k

-- an end is set, of a living process or to none
ends_set : (x y : Pid) (v : End) (o : Work) → (living o.node x ≡ true) ⊎ (v ≡ End.None) → Alive o.node → Alive ((set_end x y v o).node)
ends_set x y v o l k = record {
  ends = λ p q h. go p q (same_pid p x && same_pid q y) refl (λ j. h (end_set x y v o p q ∙ j)) l;
  owners = k.owners;
  bound = k.bound;
  holders = k.holders;
  one_name = k.one_name;
}
  where
    go : (p q : Pid) (b : Bool) → (same_pid p x && same_pid q y) ≡ b
        → (cond (same_pid p x && same_pid q y) v (end_of o.node p q) ≢ End.None)
        → (living o.node x ≡ true) ⊎ (v ≡ End.None) → living o.node p ≡ true
    go p q true e h (inl j) = ap (living o.node) (same_pid_true p x (and_parts (same_pid p x) (same_pid q y) e).0) ∙ j
    go p q true e h (inr j) = absurd (h (ap (λ b. cond b v (end_of o.node p q)) e ∙ j))
    go p q false e h j = k.ends p q (λ i. h (ap (λ b. cond b v (end_of o.node p q)) e ∙ i))

-- ---- names

-- a name that is left once those of a process go
names_left : (p : Pid) (m : NameMap) (a : Name) → fm.get (without_holder m p) a ≡ cond (not (is_held_by p (fm.get m a))) (fm.get m a) None
names_left p m a = fm.get-retain_keys m (λ b. not (is_held_by p (fm.get m b))) a (λ b h.
    ap (λ z. not (is_held_by p (fm.get m z))) (sym (name_exact a b h)))

other_name : (x : Pid) (m : NameMap) (a : Name) (p : Pid) → fm.get (without_holder m x) a ≡ Some p
    → (fm.get m a ≡ Some p) × (same_pid p x ≡ false)
other_name x m a p h =
    let v = retained (not (is_held_by x (fm.get m a))) (fm.get m a) p (sym (names_left x m a) ∙ h) in
    (v.1, not-true (same_pid p x) (sym (ap (λ z. not (is_held_by x z)) v.1) ∙ v.0))

-- a process whose name isn't found has none
no_name : (m : NameMap) (p : Pid) (a : Name) → name_of m p ≡ None → fm.get m a ≡ Some p → ⊥
no_name m p a none h =
    let there = sym (fm.get-entries m a) ∙ h in
    let c : true ≡ false = sym (same_pid_refl p)
    ∙ first_none name_total name_exact (λ b q. same_pid q p) (fm.entries m) a p none there in
    cc

-- a process takes a name
module _ (n : Node) (m : NameMap) (k : Alive n) (t : Takes n m) where
  at : (a : Name) (p : Pid) → fm.get m a ≡ Some p → cond (same_name a t.name) (Some t.process) (fm.get n.names a) ≡ Some p
  at a p h = sym (ap (λ z. fm.get z a) t.names ∙ fm.get-insert name_total n.names t.name t.process a) ∙ h

  taken : (a : Name) (p : Pid) (v : Bool) → same_name a t.name ≡ v → cond v (Some t.process) (fm.get n.names a) ≡ Some p
      → ((a ≡ t.name) × (t.process ≡ p)) ⊎ (fm.get n.names a ≡ Some p)
  taken a p true e h = inl (same_name_true a t.name e, same_Some t.process p h)
  taken a p false e h = inr h

  now : (a : Name) (p : Pid) → fm.get m a ≡ Some p → ((a ≡ t.name) × (t.process ≡ p)) ⊎ (fm.get n.names a ≡ Some p)
  now a p h = taken a p (same_name a t.name) refl (at a p h)

  taken_holds : (a : Name) (p : Pid) → ((a ≡ t.name) × (t.process ≡ p)) ⊎ (fm.get n.names a ≡ Some p) → living n p ≡ true
  taken_holds a p (inl j) = ap (living n) (sym j.1) ∙ t.alive
  taken_holds a p (inr j) = k.holders a p j

  taken_once : (a b : Name) (p : Pid) → ((a ≡ t.name) × (t.process ≡ p)) ⊎ (fm.get n.names a ≡ Some p)
      → ((b ≡ t.name) × (t.process ≡ p)) ⊎ (fm.get n.names b ≡ Some p) → a ≡ b
  taken_once a b p (inl h) (inl j) = h.0 ∙ sym j.0
  taken_once a b p (inl h) (inr j) = absurd (no_name n.names t.process b t.nameless (j ∙ ap Some (sym h.1)))
  taken_once a b p (inr h) (inl j) = absurd (no_name n.names t.process a t.nameless (h ∙ ap Some (sym j.1)))
  taken_once a b p (inr h) (inr j) = k.one_name a b p h j

renamed : (n : Node) (m : NameMap) → Renames n m → Alive n → Alive (record n { names = m })
renamed n m (inl t) k = record {
  ends = k.ends;
  owners = k.owners;
  bound = k.bound;
  holders = λ a p h. taken_holds n m k t a p (now n m k t a p h);
  one_name = λ a b p h j. taken_once n m k t a b p (now n m k t a p h) (now n m k t b p j);
}
renamed n m (inr e) k = record {
  ends = k.ends;
  owners = k.owners;
  bound = k.bound;
  holders = λ a p h. k.holders a p (left a p h);
  one_name = λ a b p h j. k.one_name a b p (left a p h) (left b p j);
}
  where
    left : (a : Name) (p : Pid) → fm.get m a ≡ Some p → fm.get n.names a ≡ Some p
    left a p h = (other_name e.0 n.names a p (ap (λ z. fm.get z a) (sym e.1) ∙ h)).0

-- a process ends, and with it its records
ends_with : (x : Pid) (r : Data) (o : Work) → Alive o.node → Alive ((end_process x r o).node)
ends_with x r o k = record {
  ends = λ p q h. left_end p q (λ j. h (finish_end x r o p q ∙ j));
  owners = λ c m h. let v = retained _ _ m (sym (watches_left x o1.node.watches c) ∙ h) in
      stays m.owner (not-true (same_pid m.owner x) (sym (ap (λ z. not (is_owned x z)) v.1) ∙ v.0))
      (k.owners c m (ap (λ z. fm.get z c) (sym (all_posts_keep (λ n. n.watches) (λ n l. refl) (last_posts x r o) o)) ∙ v.1));
  bound = λ c m h. let v = retained _ _ m (sym (registered_left x o1.node.registered c) ∙ h) in
      stays m.held (not-true (same_pid m.held x) (sym (ap (λ z. not (is_bound x z)) v.1) ∙ v.0))
      (k.bound c m (ap (λ z. fm.get z c) (sym (all_posts_keep (λ n. n.registered) (λ n l. refl) (last_posts x r o) o)) ∙ v.1));
  holders = λ a p h. let v = other_name x o1.node.names a p h in stays p v.1 (k.holders a p (name_was a p v.0));
  one_name = λ a b p h j.
      k.one_name a b p (name_was a p ((other_name x o1.node.names a p h).0)) (name_was b p ((other_name x o1.node.names b p j).0));
}
  where
    o1 : Work
    o1 = post_all (last_posts x r o) o

    name_was : (a : Name) (p : Pid) → fm.get o1.node.names a ≡ Some p → fm.get o.node.names a ≡ Some p
    name_was a p h = ap (λ z. fm.get z a) (sym (all_posts_keep (λ n. n.names) (λ n l. refl) (last_posts x r o) o)) ∙ h

    stays : (p : Pid) → same_pid p x ≡ false → living o.node p ≡ true → living ((end_process x r o).node) p ≡ true
    stays p e l = finish_living x r o p ∙ is_living_kept (same_pid p x) r (fm.get ((post_all (last_posts x r o) o).node.lives) p) e
        ∙ ap (λ z. is_living_life (fm.get z p)) (all_posts_keep (λ n. n.lives) (λ n l. refl) (last_posts x r o) o) ∙ l

    left_end : (p q : Pid)
        → (end_in (cond (not (same_pid p x)) (fm.get ((post_all (last_posts x r o) o).node.ends) (p, q)) None) ≢ End.None)
        → living ((end_process x r o).node) p ≡ true
    left_end p q h =
        let e = cond_absent (same_pid p x) (fm.get ((post_all (last_posts x r o) o).node.ends) (p, q)) h in
        stays p e (k.ends p q (λ j. h (cond_end_kept (same_pid p x) (fm.get ((post_all (last_posts x r o) o).node.ends) (p, q)) e
        ∙ ap (λ z. end_in (fm.get z (p, q))) (all_posts_keep (λ n. n.ends) (λ n l. refl) (last_posts x r o) o) ∙ j)))

-- a monitor comes
watched : (c : Reference) (m : Watch) (o : Work) → living o.node m.owner ≡ true → Alive o.node → Alive ((watch c m o).node)
watched c m o l k = record {
  ends = k.ends;
  owners = λ r v h. go r v (same_reference r c) refl (sym (fm.get-insert reference_cmp_total o.node.watches c m r) ∙ h);
  bound = k.bound;
  holders = k.holders;
  one_name = k.one_name;
}
  where
    go : (r : Reference) (v : Watch) (b : Bool) → same_reference r c ≡ b
        → cond (same_reference r c) (Some m) (fm.get o.node.watches r) ≡ Some v → living o.node v.owner ≡ true
    go r v true e h =
        let new : m ≡ v = same_Some m v (sym (ap (λ b. cond b (Some m) (fm.get o.node.watches r)) e) ∙ h) in
        ap (λ (z : Watch). living o.node z.owner) (sym new) ∙ l
    go r v false e h = k.owners r v (sym (ap (λ b. cond b (Some m) (fm.get o.node.watches r)) e) ∙ h)

enrolled : (c : Reference) (m : Registration) (o : Work) → living o.node m.held ≡ true → Alive o.node → Alive ((register c m o).node)
enrolled c m o l k = record {
  ends = k.ends;
  owners = k.owners;
  bound = λ r v h. go r v (added_some o.node.registered c m r v h);
  holders = k.holders;
  one_name = k.one_name;
}
  where
    go : (r : Reference) (v : Registration) → (fm.get o.node.registered r ≡ Some v) ⊎ ((r ≡ c) × (m ≡ v)) → living o.node v.held ≡ true
    go r v (inl h) = k.bound r v h
    go r v (inr h) = ap (λ (z : Registration). living o.node z.held) (sym h.1) ∙ l

born : (m : FinMap pid_cmp Life) (p x : Pid) → is_living_life (fm.get m x) ≡ true
    → is_living_life (fm.get (fm.insert m p (Living false [])) x) ≡ true
born m p x h = ap is_living_life (fm.get-insert pid_total m p (Living false []) x) ∙ go (same_pid x p)
  where
    go : (b : Bool) → is_living_life (cond b (Some (Living false [])) (fm.get m x)) ≡ true
    go true = refl
    go false = h

pub alive_parts : Parts (λ o. Alive o.node)
alive_parts = record {
  posted = λ s o k.
      let y = s.node in
      same o.node _ (posts_keep (λ m. m.lives) (λ m l. refl) y (spelled o.node s) o)
      (posts_keep (λ m. m.ends) (λ m l. refl) y (spelled o.node s) o)
      (posts_keep (λ m. m.names) (λ m l. refl) y (spelled o.node s) o)
      (posts_keep (λ m. m.watches) (λ m l. refl) y (spelled o.node s) o)
      (posts_keep (λ m. m.registered) (λ m l. refl) y (spelled o.node s) o) k;
  end_set = λ p q e o l k. ends_set p q e o l k;
  drew = λ d o h k.
      record { ends = k.ends; owners = k.owners; bound = k.bound; holders = k.holders; one_name = k.one_name };
  life_set = λ p l o h k. along o.node _
      (λ x j. set_life_living o.node.lives p l x (λ e. h ∙ ap (living o.node) (sym (same_pid_true x p e))) ∙ j)
      refl refl (λ r v j. j) (λ r v j. j) k;
  renamed = λ m o h k. renamed o.node m h k;
  message = λ p m o k. along o.node _ (λ x j. put_living p m o x ∙ j) refl refl (λ r v j. j) (λ r v j. j) k;
  reacted = λ p q x o k. k;
  finished = λ p x o k. ends_with p x o k;
  registers = λ r m o l k. enrolled r m o l k;
  unregisters = λ c o k. along o.node _ (λ x j. j) refl refl (λ r v j. j) (λ r v j. removed_some o.node.registered c r v j) k;
  watches = λ r m o l k. watched r m o l k;
  unwatches = λ c o k. along o.node _ (λ x j. j) refl refl (λ r v j. removed_some o.node.watches c r v j) (λ r v j. j) k;
}

pub alive_spawned : (n : Node) (p : Pid) → Alive n → Alive ((spawn_life n p).node)
alive_spawned n p k = along n _ (λ x j. born n.lives p x j) refl refl (λ r v j. j) (λ r v j. j) k

-- nobody is left
pub all_alive : (m : Node) → m.ends ≡ fm.empty → m.names ≡ fm.empty → m.watches ≡ fm.empty → m.registered ≡ fm.empty → Alive m
all_alive m e a w g = record {
  ends = λ p q h. absurd (h (ap (λ z. end_in (fm.get z (p, q))) e ∙ ap end_in (fm.get-empty pair_cmp (p, q))));
  owners = λ r v h. absurd (none-some v (sym (ap (λ z. fm.get z r) w ∙ fm.get-empty reference_cmp r) ∙ h));
  bound = λ r v h. absurd (none-some v (sym (ap (λ z. fm.get z r) g ∙ fm.get-empty reference_cmp r) ∙ h));
  holders = λ b p h. nobody b p h;
  one_name = λ b c p h j. nobody b p h;
}
  where
    nobody : {P : Type 0} → (b : Name) (p : Pid) → fm.get m.names b ≡ Some p → P
    nobody b p h = absurd (none-some p (sym (ap (λ z. fm.get z b) a ∙ fm.get-empty name_cmp b) ∙ h))

-- another state of the sides, of the own list, or of what was drawn
pub alive_aside : (n m : Node) → m.lives ≡ n.lives → m.ends ≡ n.ends → m.names ≡ n.names → m.watches ≡ n.watches
    → m.registered ≡ n.registered → Alive n → Alive m
alive_aside = same
