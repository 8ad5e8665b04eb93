-- What a call or a signal does to each pair of processes.
use Rattle.std.proofs.Common.{◌<◌, ◌==◌, nat_lt, ◌≡◌, ℕ, ◌+◌, Bool, true, false, cond, not, List, []}
use Rattle.std.proofs.Common.{◌∷◌, refl, sym, ap, ◌∙◌, subst, arith, ◌&&◌, ◌||◌, Option, Some, None, ◌⊎◌, inl, inr}
use Rattle.erl_names.specs.Draw as kind
use Rattle.std.proofs.lemmas.Option.{same_Some}
use Rattle.std.specs.FinMap as fm
use Rattle.std.specs.Option.{is_some}
use Rattle.dist_model.proofs.Keys.{pid_total, same_name_is, same_name_refl, same_name_true, same_pid_is}
use Rattle.dist_model.proofs.Keys.{same_pid_refl, same_pid_true, same_trunk, same_trunk_is, same_trunk_true}
use Rattle.dist_model.proofs.Moves.{Moves, carries_out, finishes, posts_other, puts, set_life_living, stays, then}
use Rattle.dist_model.proofs.LinkMoves.{links, unlinks_as}
use Rattle.dist_model.proofs.Posts.{Homely}
use Rattle.dist_model.proofs.Views.{over, telling_news, view}
use Rattle.dist_model.proofs.Truths.{and_second}
use Rattle.dist_model.specs.Calls.{acting, call, giving_up, is_undefined, spawn_life, taking, toward, trapping, with_life, with_names, without_first}
use Rattle.dist_model.specs.Commands.{Accepts, Outcome, Refuses, with_id}
use Rattle.dist_model.specs.declared.command.Command.{Command}
use Rattle.dist_model.specs.declared.report.Answer.{Answer}
use Rattle.dist_model.specs.Exits.{sent_exit}
use Rattle.erl_control.specs.Fits.{fits}
use Rattle.dist_model.specs.Items.{Item, Signalled, news_in, telling}
use Rattle.dist_model.specs.Linking.{unlink_by}
use Rattle.dist_model.specs.Monitoring.{bind, bound, demonitor_by, monitor, pid_watch, register, registration_of, unregister, unwatch, watch}
use Rattle.dist_model.specs.Names.{Name, same_name, same_pid}
use Rattle.dist_model.specs.Naming.{NameMap, name_of, without_holder}
use Rattle.dist_model.specs.Node.{Life, Living, Node, end_of, is_living_life, living, is_stranger, monitors_names, reaches, traps_life}
use Rattle.dist_model.specs.Taking.{take_item, take_named}
use Rattle.dist_model.specs.Work.{Work, at_work, draw, post, put, set_end, set_life, spelled, to_pid}
use Rattle.erl_control.specs.declared.signal.Signal.{Signal}
use Rattle.erl_names.specs.Ids.{pid_of, reference_of}
use Rattle.erl_names.specs.Minted.{Minted, drawn, id_of, last, risen}
use Rattle.erl_term.specs.Order.{pid_cmp}
use Rattle.erl_term.specs.declared.refusal.Refusal.{Refusal}
use Rattle.erl_term.specs.declared.term.Pid.{Pid}
use Rattle.erl_term.specs.declared.term.Reference.{Reference}
use Rattle.exit_core.specs.Messages.{down_term, named_term}
use Rattle.exit_core.specs.Reaction.{reaction}
use Rattle.link_core.specs.News.{Exited, LinkNews, Signals, noconnection, noproc}
use Rattle.link_core.specs.declared.end.End.{End}
use Rattle.link_core.specs.declared.end.LinkSignal.{LinkSignal}
use Rattle.monitor_core.specs.Monitors.{RegistrationMap, WatchMap, added, as_watch, is_held, itself, target_node, watch_of}
use Rattle.std.specs.FinMap.{FinMap}
use Rattle.erl_names.specs.declared.trunk.TrunkId.{TrunkId}
use Rattle.link_core.proofs.Kept.{Kept, side_path}
use Rattle.monitor_core.specs.declared.monitor.Target.{Target}
use Rattle.monitor_core.specs.declared.monitor.Watch.{Watch}
use Rattle.dist_model.specs.Telling.{asked, object, taken_back, told_end}
use Rattle.erl_term.specs.Data.{Data, pid}
use Rattle.monitor_core.specs.declared.monitor.Registration.{Registration}

-- what holds of the work where the event goes through
abbrev pub IfGoes : Outcome → (Work → Type 0) → Type 0
IfGoes (Refuses k) P = Unit {0}
IfGoes (Accepts a o) P = P o

pub if_cond : (b : Bool) (k : Outcome) (j : Refusal) (P : Work → Type 0) → (b ≡ true → IfGoes k P) → IfGoes (cond b k (Refuses j)) P
if_cond true k j P h = h refl
if_cond false k j P h = tt

pub if_either : (b : Bool) (x y : Outcome) (P : Work → Type 0) → IfGoes x P → IfGoes y P → IfGoes (cond b x y) P
if_either true x y P h k = h
if_either false x y P h k = k

pub if_not : (b : Bool) (k : Outcome) (j : Refusal) (P : Work → Type 0) → IfGoes k P → IfGoes (cond b (Refuses j) k) P
if_not true k j P h = tt
if_not false k j P h = h

-- only the lives change, and not who lives
pub same_lives : (o : Work) (m : FinMap pid_cmp Life) → ((x : Pid) → is_living_life (fm.get m x) ≡ living o.node x)
    → Moves o (record o { node = record (o.node) { lives = m } })
same_lives o m h = record {
  sides = refl;
  dialed = refl;
  name = refl;
  keeps = λ k. record { born = λ p l. k.born p (sym (h p) ∙ l); rooted = λ p q e. let r = k.rooted p q e in (h p ∙ r.0, r.1, r.2) };
  grows = λ p l. ap (λ v. not v && not (is_stranger o.node p)) (h p) ∙ l;
  draws = omega arith;
  routed = λ a. a;
  nevers = λ p h. h;
  home = λ k h. h;
  views = λ n b p q c r k. subst (λ a. Kept a c) (sym (side_path
      (view b (record o { node = record (o.node) { lives = m } }) p q) (view b o p q) refl
      (ap (λ v. not v && not (is_stranger o.node p)) (h p)) refl refl)) k;
}

-- neither a life nor an end nor a side: monitors and their references alone
monitors_move : (o : Work) (references : ℕ) (watches : WatchMap) (registered : RegistrationMap) → Moves o (record o {
  node = record (o.node) { mint = record (o.node.mint) { references = references }; watches = watches; registered = registered };
})
monitors_move o references watches registered = record {
  sides = refl;
  dialed = refl;
  name = refl;
  keeps = λ n. record { born = n.born; rooted = n.rooted };
  grows = λ p h. h;
  draws = omega arith;
  routed = λ a. a;
  nevers = λ p h. h;
  home = λ k h. h;
  views = λ n b p q c r k. k;
}

-- registered names alone
names_move : (m : NameMap) (o : Work) → Moves o (record o { node = record (o.node) { names = m } })
names_move m o = record {
  sides = refl;
  dialed = refl;
  name = refl;
  keeps = λ n. record { born = n.born; rooted = n.rooted };
  grows = λ p h. h;
  draws = omega arith;
  routed = λ a. a;
  nevers = λ p h. h;
  home = λ k h. h;
  views = λ n b p q c r k. k;
}

pub registers : (k : Reference) (v : Registration) (o : Work) → Moves o (register k v o)
registers k v o = monitors_move o o.node.mint.references o.node.watches (added o.node.registered k v)

pub unregisters : (k : Reference) (o : Work) → Moves o (unregister k o)
unregisters k o = monitors_move o o.node.mint.references o.node.watches (fm.remove o.node.registered k)

pub unwatches_one : (k : Reference) (o : Work) → Moves o (unwatch k o)
unwatches_one k o = monitors_move o o.node.mint.references (fm.remove o.node.watches k) o.node.registered

pub watches_one : (k : Reference) (v : Watch) (o : Work) → Moves o (watch k v o)
watches_one k v o = monitors_move o o.node.mint.references (fm.insert o.node.watches k v) o.node.registered

pub draws_reference : (o : Work) → Moves o (draw kind.Reference o)
draws_reference o =
    monitors_move o (risen o.node.mint.references (last kind.Reference)) o.node.watches o.node.registered

moves_cond : (b : Bool) (o x y : Work) → (b ≡ true → Moves o x) → (b ≡ false → Moves o y) → Moves o (cond b x y)
moves_cond true o x y f g = f refl
moves_cond false o x y f g = g refl

says_something : (q p : Pid) (s : LinkNews) (pay : Bool) → news_in q p (Signalled (telling q p s) pay) ≡ [] → ⊥
says_something q p s pay h =
    let n : s ∷ [] ≡ [] = sym (telling_news q p q p s pay ∙ ap (λ t. cond (t && same_pid p p) (s ∷ []) []) (same_pid_refl q)
    ∙ ap (λ t. cond t (s ∷ []) []) (same_pid_refl p)) ∙ h in cc

-- a monitor of a name is bound to its holder
named_bound : (v : Option Pid) (p : Pid) (name y : Name) (k : Reference) (o : Work) → Moves o (bind v p (Target.Name name y) k o)
named_bound v p name y k o = go v
  where
    tells : Moves o (post (told_end (Target.Name name y) p k noproc) o)
    tells = posts_other p.node (spelled o.node (told_end (Target.Name name y) p k noproc)) o (λ a b. refl)

    go : (v : Option Pid) → Moves o (bind v p (Target.Name name y) k o)
    go None = tells
    go (Some q) = moves_cond (living o.node q) o _ _ (λ l. registers k (bound p (Target.Name name y) q) o) (λ l. tells)

named_moves : (v : Option Pid) (t : Data) (o : Work) → Moves o (take_named v t o)
named_moves None t o = stays o
named_moves (Some p) t o = moves_cond (living o.node p) o (put p t o) o (λ l. puts p t o) (λ l. stays o)

-- the other signals
pub takes_other : (y : Name) (x : Item) (o : Work) → ((p q : Pid) → news_in p q x ≡ []) → Moves o (take_item y x o)
takes_other y (Signalled (Signal.Link q p) pay) o h = absurd (says_something q p (Signals LinkSignal.Link) pay (h q p))
takes_other y (Signalled (Signal.Exit q p r) pay) o h = absurd (says_something q p (Exited r) pay (h q p))
takes_other y (Signalled (Signal.UnlinkId i q p) pay) o h = absurd (says_something q p (Signals (LinkSignal.Unlink i)) pay (h q p))
takes_other y (Signalled (Signal.UnlinkIdAck i q p) pay) o h = absurd (says_something q p (Signals (LinkSignal.Ack i)) pay (h q p))
takes_other y (Signalled (Signal.Send p t) pay) o h = moves_cond (living o.node p) o (put p t o) o (λ l. puts p t o) (λ l. stays o)
takes_other y (Signalled (Signal.RegSend q name t) pay) o h = named_moves (fm.get o.node.names name) t o
takes_other y (Signalled (Signal.Exit2 q p r) pay) o h =
    moves_cond (living o.node p) o _ o
    (λ l. carries_out (reaction (traps_life (fm.get o.node.lives p)) (sent_exit p q r)) p o l) (λ l. stays o)
takes_other y (Signalled (Signal.Monitor q p k) pay) o h =
    moves_cond (living o.node p) o _ _ (λ l. registers k (registration_of q p) o)
    (λ l. posts_other q.node (spelled o.node (to_pid q (Signal.MonitorExit p q k noproc))) o (λ a b. refl))
takes_other y (Signalled (Signal.MonitorName q name k) pay) o h = named_bound (fm.get o.node.names name) q name o.node.mint.name k o
takes_other y (Signalled (Signal.Demonitor q p k) pay) o h =
    moves_cond (is_held as_watch o.node.registered k (pid_watch q p)) o _ _ (λ l. unregisters k o) (λ l. stays o)
takes_other y (Signalled (Signal.DemonitorName q name k) pay) o h =
    moves_cond (is_held as_watch o.node.registered k (watch_of q (Target.Name name o.node.mint.name))) o _ _
    (λ l. unregisters k o) (λ l. stays o)
takes_other y (Signalled (Signal.MonitorNameExit name p k r) pay) o h =
    moves_cond (living o.node p && is_held itself o.node.watches k (watch_of p (Target.Name name y))) o _ _
    (λ l. then o (unwatch k o) (put p (down_term k (named_term name y) r) (unwatch k o)) (unwatches_one k o)
    (puts p (down_term k (named_term name y) r) (unwatch k o)))
    (λ l. stays o)
takes_other y (Signalled (Signal.MonitorExit q p k r) pay) o h = moves_cond (living o.node p && is_held itself o.node.watches k (pid_watch p q)) o _ _
    (λ l. then o (unwatch k o) (put p (down_term k (pid q) r) (unwatch k o)) (unwatches_one k o) (puts p (down_term k (pid q) r) (unwatch k o)))
    (λ l. stays o)
takes_other y _ o h = stays o

-- what a draw gives, and what it leaves
pub if_drawn : (o : Option ℕ) (k : ℕ → Outcome) (P : Work → Type 0) → ((id : ℕ) → o ≡ Some id → IfGoes (k id) P) → IfGoes (with_id o k) P
if_drawn None k P f = tt
if_drawn (Some id) k P f = f id refl

pub none_number : (P : Type 0) (b : ℕ) → ◌≡◌ {A = Option ℕ} None (Some b) → P
none_number P b h = cc

pub pid_drawn : (m : Minted) (id : ℕ) → id_of m kind.Pid ≡ Some id → (drawn m kind.Pid ≡ record m { pids = m.pids + 1 }) × (id ≡ m.pids + 1)
pid_drawn m id h = go (nat_lt m.pids (last kind.Pid)) refl h
  where
    go : (b : Bool) → nat_lt m.pids (last kind.Pid) ≡ b → cond b (Some (m.pids + 1)) None ≡ Some id
        → (drawn m kind.Pid ≡ record m { pids = m.pids + 1 }) × (id ≡ m.pids + 1)
    go true e j = (λ i. record m { pids = cond (e i) (m.pids + 1) m.pids }, sym (same_Some (m.pids + 1) id j))
    go false e j = none_number _ id j

unlink_drawn : (m : Minted) (id : ℕ) → id_of m kind.UnlinkId ≡ Some id
    → (drawn m kind.UnlinkId ≡ record m { unlink_ids = id }) × (m.unlink_ids < id)
unlink_drawn m id h = go (nat_lt m.unlink_ids (last kind.UnlinkId)) refl h
  where
    go : (b : Bool) → nat_lt m.unlink_ids (last kind.UnlinkId) ≡ b → cond b (Some (m.unlink_ids + 1)) None ≡ Some id
        → (drawn m kind.UnlinkId ≡ record m { unlink_ids = id }) × (m.unlink_ids < id)
    go true e j =
        let is : m.unlink_ids + 1 ≡ id = same_Some (m.unlink_ids + 1) id j in (
          (λ i. record m { unlink_ids = cond (e i) (m.unlink_ids + 1) m.unlink_ids }) ∙ (λ i. record m { unlink_ids = is i }),
          omega (arith, is),
        )
    go false e j = none_number _ id j

-- a new process
abbrev pub next_pid : Node → Pid
next_pid n = pid_of n.mint (n.mint.pids + 1)

abbrev pub spawned_at : Node → Pid → Work
spawned_at n p = at_work (record n { mint = record (n.mint) { pids = n.mint.pids + 1 }; lives = fm.insert n.lives p (Living false []) })

is_same : (x y : ℕ) → (x == y) ≡ true → x ≡ y
is_same x y h = grind arith

next_id : (s i : ℕ) → nat_lt s i ≡ true → nat_lt (s + 1) i ≡ false → i ≡ s + 1
next_id s i h k = grind arith

later_id : (s i : ℕ) → nat_lt s i ≡ false → nat_lt (s + 1) i ≡ false
later_id s i h = grind arith

never_by : (n : Node) (p : Pid) → same_pid p (next_pid n) ≡ false → (a b c d e f g : Bool) → same_name p.node n.mint.name ≡ a
    → (p.creation == n.mint.creation) ≡ c → nat_lt n.mint.pids p.id ≡ d → nat_lt (n.mint.pids + 1) p.id ≡ e
    → (p.serial == 0) ≡ g
    → ((((not a || b) || (c && e)) || f) || not g) ≡ ((((not a || b) || (c && d)) || f) || not g)
never_by n p new true false true false true f g ha hc hd he hg = let k : true ≡ false = sym he ∙ later_id n.mint.pids p.id hd in cc
never_by n p new true false true true false false true ha hc hd he hg =
    let nm : p.node ≡ n.mint.name = same_name_true p.node n.mint.name ha in
    let cr : p.creation ≡ n.mint.creation = is_same _ _ hc in
    let id : p.id ≡ n.mint.pids + 1 = next_id n.mint.pids p.id hd he in
    let se : p.serial ≡ 0 = is_same _ _ hg in
    let eq : p ≡ next_pid n = λ i. record { node = nm i; creation = cr i; id = id i; serial = se i } in
    let k : true ≡ false = sym (same_pid_is p (next_pid n) eq) ∙ new in cc
never_by n p new _ _ _ _ _ _ _ ha hc hd he hg = refl

pub spawned_never : (n : Node) (p : Pid) → same_pid p (next_pid n) ≡ false
    → is_stranger ((spawned_at n (next_pid n)).node) p ≡ is_stranger n p
spawned_never n p new =
    never_by n p new (same_name p.node n.mint.name) (nat_lt n.mint.creation p.creation) (p.creation == n.mint.creation)
    (nat_lt n.mint.pids p.id) (nat_lt (n.mint.pids + 1) p.id) (p.id == 0) (p.serial == 0) refl refl refl refl refl

not_less : (x : ℕ) → nat_lt x x ≡ false
not_less x = grind arith

not_zero : (x : ℕ) → (x + 1 == 0) ≡ false
not_zero x = grind arith

next_never : (n : Node) → is_stranger ((spawned_at n (next_pid n)).node) (next_pid n) ≡ false
next_never n =
    let a = same_name_refl n.mint.name in
    let b = not_less n.mint.creation in
    let d = not_less (n.mint.pids + 1) in
    let f = not_zero n.mint.pids in
    go (same_name n.mint.name n.mint.name) a (nat_lt n.mint.creation n.mint.creation) b (n.mint.creation == n.mint.creation)
    (nat_lt (n.mint.pids + 1) (n.mint.pids + 1)) d (n.mint.pids + 1 == 0) f
  where
    go : (a : Bool) → a ≡ true → (b : Bool) → b ≡ false → (c : Bool) → (d : Bool) → d ≡ false → (f : Bool) → f ≡ false
        → (((not a || b) || (c && d)) || f || false) ≡ false
    go true ha false hb true false hd false hf = refl
    go true ha false hb false false hd false hf = refl
    go _ ha _ hb _ _ hd _ hf = cc

next_was_never : (n : Node) → is_stranger n (next_pid n) ≡ true
next_was_never n =
    go (same_name n.mint.name n.mint.name) (same_name_refl n.mint.name) (nat_lt n.mint.creation n.mint.creation)
    (n.mint.creation == n.mint.creation) (same_nat n.mint.creation) (nat_lt n.mint.pids (n.mint.pids + 1))
    (less_next n.mint.pids) (n.mint.pids + 1 == 0)
  where
    same_nat : (x : ℕ) → (x == x) ≡ true
    same_nat x = grind arith

    less_next : (x : ℕ) → nat_lt x (x + 1) ≡ true
    less_next x = grind arith

    go : (a : Bool) → a ≡ true → (b : Bool) (c : Bool) → c ≡ true → (d : Bool) → d ≡ true → (f : Bool)
        → (((not a || b) || (c && d)) || f || false) ≡ true
    go true ha true c hc d hd f = refl
    go true ha false true hc true hd f = refl
    go _ ha _ _ hc _ hd f = cc

-- a Bool fact by the two cases of a test
pub by_test : (P : Type 0) (b : Bool) → (b ≡ true → P) → (b ≡ false → P) → P
by_test P true f g = f refl
by_test P false f g = g refl

-- one name or another
pub by_name : (P : Type 0) (x y : Name) → (x ≡ y → P) → ((x ≡ y → ⊥) → P) → P
by_name P x y a b = by_test P (same_name x y) (λ h. a (same_name_true x y h))
    (λ h. b (λ e. let c : true ≡ false = sym (same_name_is x y e) ∙ h in cc))

pub by_trunk : (P : Type 0) (t u : TrunkId) → (t ≡ u → P) → ((t ≡ u → ⊥) → P) → P
by_trunk P t u a b = by_test P (same_trunk t u) (λ h. a (same_trunk_true t u h))
    (λ h. b (λ e. let c : true ≡ false = sym (same_trunk_is t u e) ∙ h in cc))

pub spawned_living : (n : Node) (p : Pid) → living ((spawned_at n (next_pid n)).node) p
    ≡ is_living_life (cond (same_pid p (next_pid n)) (Some (Living false [])) (fm.get n.lives p))
spawned_living n p = ap is_living_life (fm.get-insert pid_total n.lives (next_pid n) (Living false []) p)

born_cond_true : (b : Bool) (l : Option Life) → b ≡ true → is_living_life (cond b (Some (Living false [])) l) ≡ true
born_cond_true true l h = refl
born_cond_true false l h = cc

born_cond_false : (b : Bool) (l : Option Life) → b ≡ false → is_living_life (cond b (Some (Living false [])) l) ≡ is_living_life l
born_cond_false true l h = cc
born_cond_false false l h = refl

and_not_true : (a b : Bool) → b ≡ true → (a && not b) ≡ false
and_not_true true b h = ap not h
and_not_true false b h = refl

-- who is spawned was never there, and is not over
spawned_over : (n : Node) (p : Pid) → over ((spawned_at n (next_pid n)).node) p ≡ over n p
spawned_over n p = by_test _ (same_pid p (next_pid n))
    (λ h.
    let e : p ≡ next_pid n = same_pid_true p (next_pid n) h in
    let a : over ((spawned_at n (next_pid n)).node) p ≡ false =
    ap (λ v. not v && not (is_stranger ((spawned_at n (next_pid n)).node) p))
    (spawned_living n p ∙ born_cond_true (same_pid p (next_pid n)) (fm.get n.lives p) h) in
    let c : over n p ≡ false = and_not_true (not (living n p)) (is_stranger n p) (ap (is_stranger n) e ∙ next_was_never n) in
    a ∙ sym c)
    (λ h. ap (λ v. not v && not (is_stranger ((spawned_at n (next_pid n)).node) p))
    (spawned_living n p ∙ born_cond_false (same_pid p (next_pid n)) (fm.get n.lives p) h)
    ∙ ap (λ v. not (living n p) && not v) (spawned_never n p h))

pub spawned_stays_living : (n : Node) (p : Pid) → living n p ≡ true → living ((spawned_at n (next_pid n)).node) p ≡ true
spawned_stays_living n p l =
    by_test _ (same_pid p (next_pid n)) (λ h. spawned_living n p ∙ born_cond_true (same_pid p (next_pid n)) (fm.get n.lives p) h)
    (λ h. spawned_living n p ∙ born_cond_false (same_pid p (next_pid n)) (fm.get n.lives p) h ∙ l)

pub spawned_stays_born : (n : Node) (p : Pid) → is_stranger n p ≡ false → is_stranger ((spawned_at n (next_pid n)).node) p ≡ false
spawned_stays_born n p h =
    by_test _ (same_pid p (next_pid n))
    (λ e. ap (is_stranger ((spawned_at n (next_pid n)).node)) (same_pid_true p (next_pid n) e) ∙ next_never n)
    (λ e. spawned_never n p e ∙ h)

home_along : (f g : Pid → Bool) (xs : List Item) → ((p : Pid) → f p ≡ false → g p ≡ false) → Homely f xs → Homely g xs
home_along f g [] h k = tt
home_along f g (x ∷ xs) h k = (λ a b n. let v = k.0 a b n in (h a v.0, h b v.1, v.2), home_along f g xs h k.1)

pub spawns : (n : Node) → Moves (at_work n) (spawned_at n (next_pid n))
spawns n = record {
  sides = refl;
  dialed = refl;
  name = refl;
  keeps = λ k. record {
    born = λ p l. by_test _ (same_pid p (next_pid n))
        (λ h. ap (is_stranger ((spawned_at n (next_pid n)).node)) (same_pid_true p (next_pid n) h) ∙ next_never n)
        (λ h. spawned_never n p h
        ∙ k.born p (sym (spawned_living n p ∙ born_cond_false (same_pid p (next_pid n)) (fm.get n.lives p) h) ∙ l));
    rooted =
        λ p q e. let r = k.rooted p q e in (spawned_stays_living n p r.0, r.1, λ i. let d = r.2 i in (spawned_stays_born n q d.0, d.1));
  };
  grows = λ p h. spawned_over n p ∙ h;
  draws = omega arith;
  routed = λ a. a;
  nevers = λ p h. spawned_stays_born n p h;
  home = λ k h.
      home_along (λ p. is_stranger n p) (λ p. is_stranger ((spawned_at n (next_pid n)).node) p) n.local (λ p e. spawned_stays_born n p e) h;
  views = λ k b p q c r t. subst (λ a. Kept a c)
      (sym (side_path (view b (spawned_at n (next_pid n)) p q) (view b (at_work n) p q) refl (spawned_over n p) refl refl)) t;
}

pub living_trapping : (l : Option Life) (b : Bool) → is_living_life (trapping l b) ≡ is_living_life l
living_trapping (Some (Living t m)) b = refl
living_trapping _ b = refl

pub living_without : (l : Option Life) → is_living_life (without_first l) ≡ is_living_life l
living_without (Some (Living t [])) = refl
living_without _ = refl

sets_life : (n : Node) (p : Pid) (l : Option Life) → is_living_life l ≡ living n p → Moves (at_work n) (with_life n p l)
sets_life n p l h =
    same_lives (at_work n) (set_life n.lives p l) (λ x. set_life_living n.lives p l x (λ e. h ∙ ap (living n) (sym (same_pid_true x p e))))

-- whichever target it was
takes_back : (t : Target) (p : Pid) (k : Reference) (o : Work) → Moves o (post (taken_back p t k) o)
takes_back (Target.Pid q) p k o = posts_other q.node (Signalled (Signal.Demonitor p q k) false) o (λ a b. refl)
takes_back (Target.Name name node) p k o = posts_other node (Signalled (Signal.DemonitorName p name k) false) o (λ a b. refl)

asks_for : (t : Target) (p : Pid) (k : Reference) (o : Work) → Moves o (post (asked p t k) o)
asks_for (Target.Pid q) p k o = posts_other q.node (Signalled (Signal.Monitor p q k) false) o (λ a b. refl)
asks_for (Target.Name name node) p k o = posts_other node (Signalled (Signal.MonitorName p name k) false) o (λ a b. refl)

monitors : (n : Node) (p : Pid) (t : Target) (count : ℕ)
    → Moves (at_work n) (monitor (reference_of n.mint count) p t (draw kind.Reference (at_work n)))
monitors n p t count =
    let o = draw kind.Reference (at_work n) in
    let k = reference_of n.mint count in
    then (at_work n) o (monitor k p t o) (draws_reference (at_work n)) (moves_cond (reaches o.node (target_node t)) o _ _
    (λ r. then o (watch k (watch_of p t) o) _ (watches_one k (watch_of p t) o) (asks_for t p k (watch k (watch_of p t) o)))
    (λ r. puts p (down_term k (object t) noconnection) o))

demonitors : (v : Option Watch) (p : Pid) (k : Reference) (o : Work) → IfGoes (demonitor_by v p k o) (Moves o)
demonitors None p k o = tt
demonitors (Some v) p k o =
    if_cond (same_pid v.owner p) _ Refusal.NotTheOwner (Moves o) (λ h. then o (unwatch k o) _ (unwatches_one k o)
    (takes_back v.target p k (unwatch k o)))

unlinks_by : (e : End) (p q : Pid) (o : Work) → end_of o.node p q ≡ e → living o.node p ≡ true → IfGoes (unlink_by e p q o) (Moves o)
unlinks_by End.Active p q o h l = if_drawn (id_of o.node.mint kind.UnlinkId) _ (Moves o) (λ id e.
    let d = unlink_drawn o.node.mint id e in
    subst
    (λ m. Moves o (post (to_pid q (Signal.UnlinkId id p q)) (set_end p q (End.Pending id) (record o { node = record (o.node) { mint = m } }))))
    (sym d.0) (unlinks_as p q o id l h d.1))
unlinks_by _ p q o h l = stays o

pub if_not_known : (b : Bool) (k : Outcome) (j : Refusal) (P : Work → Type 0) → (b ≡ false → IfGoes k P) → IfGoes (cond b (Refuses j) k) P
if_not_known true k j P h = tt
if_not_known false k j P h = h refl

acts_known : (n : Node) (p q : Pid) (k : Outcome)
    → (living n p ≡ true → (same_name q.node n.mint.name ≡ true → is_stranger n q ≡ false) → IfGoes k (Moves (at_work n)))
    → IfGoes (acting n p (toward n q k)) (Moves (at_work n))
acts_known n p q k h =
    if_cond (living n p) (toward n q k) Refusal.NoSuchProcess (Moves (at_work n)) (λ l. if_not_known
    (same_name q.node n.mint.name && is_stranger n q) k Refusal.Forged (Moves (at_work n))
    (λ v. h l (and_second (same_name q.node n.mint.name) (is_stranger n q) v)))

acts : (n : Node) (p q : Pid) (k : Outcome) → (living n p ≡ true → IfGoes k (Moves (at_work n)))
    → IfGoes (acting n p (toward n q k)) (Moves (at_work n))
acts n p q k h =
    if_cond (living n p) (toward n q k) Refusal.NoSuchProcess (Moves (at_work n))
    (λ l. if_not (same_name q.node n.mint.name && is_stranger n q) k Refusal.Forged (Moves (at_work n)) (h l))

-- ---- registered names

-- a living process that has no name takes one that no process has
pub record Takes (n : Node) (m : NameMap) : Type 0 where
  pub name : Name
  pub process : Pid
  pub alive : living n process ≡ true
  pub free : fm.get n.names name ≡ None
  pub nameless : name_of n.names process ≡ None
  pub names : m ≡ fm.insert n.names name process

-- so it does, or a process gives its own up
abbrev pub Renames : Node → NameMap → Type 0
Renames n m = Takes n m ⊎ ((p : Pid) × (m ≡ without_holder n.names p))

is_none : {A : Type 0} → (v : Option A) → is_some v ≡ false → v ≡ None
is_none None h = refl
is_none (Some x) h = cc

module _ (n : Node) (p : Pid) (P : Work → Type 0) (f : (m : NameMap) → Renames n m → P (with_names n m)) where
  pub registered_goes : (name : Name) → living n p ≡ true
      → IfGoes (taking n p name (Accepts Answer.Done (with_names n (fm.insert n.names name p)))) P
  registered_goes name l =
      if_not (is_undefined name) _ Refusal.BadName P
      (if_not_known (is_some (fm.get n.names name)) _ Refusal.NameTaken P (λ free.
      if_not_known (is_some (name_of n.names p)) _ Refusal.HasName P (λ nameless.
      f (fm.insert n.names name p) (inl (record {
        name = name;
        process = p;
        alive = l;
        free = is_none (fm.get n.names name) free;
        nameless = is_none (name_of n.names p) nameless;
        names = refl;
      })))))

  pub unregistered_goes : IfGoes (giving_up n p (Accepts Answer.Done (with_names n (without_holder n.names p)))) P
  unregistered_goes = if_cond (is_some (name_of n.names p)) _ Refusal.NoName P (λ h. f (without_holder n.names p) (inr (p, refl)))

-- whatever a call does, no pair is hurt
pub calls : (n : Node) (c : Command) → IfGoes (call n c) (Moves (at_work n))
calls n Command.Spawn = if_drawn (id_of n.mint kind.Pid) _ (Moves (at_work n)) (λ id h.
    let d = pid_drawn n.mint id h in
    subst (λ j. Moves (at_work n) (spawn_life n (pid_of n.mint j))) (sym d.1)
    (subst
    (λ m. Moves (at_work n) (at_work (record n { mint = m; lives = fm.insert n.lives (next_pid n) (Living false []) })))
    (sym d.0) (spawns n)))
calls n (Command.Send p q t) =
    acts n p q _ (λ l. if_cond (fits t) _ Refusal.TooLong (Moves (at_work n))
    (λ f. posts_other q.node (Signalled (Signal.Send q t) false) (at_work n) (λ a b. refl)))
calls n (Command.SendName p y name t) =
    if_cond (living n p) _ Refusal.NoSuchProcess (Moves (at_work n)) (λ l. if_cond (fits t) _ Refusal.TooLong (Moves (at_work n))
    (λ f. posts_other y (Signalled (Signal.RegSend p name t) false) (at_work n) (λ a b. refl)))
calls n (Command.Link p q) = acts_known n p q _ (λ l v. links p q (at_work n) v l)
calls n (Command.Unlink p q) = acts n p q _ (λ l. unlinks_by (end_of n p q) p q (at_work n) refl l)
calls n (Command.Monitor p q) =
    acts n p q _ (λ l. if_drawn (id_of n.mint kind.Reference) _ (Moves (at_work n)) (λ count h. monitors n p (Target.Pid q) count))
calls n (Command.MonitorName p y name) = if_cond (living n p) _ Refusal.NoSuchProcess (Moves (at_work n))
    (λ l. if_cond (monitors_names n y) _ Refusal.NotOffered (Moves (at_work n))
    (λ f. if_drawn (id_of n.mint kind.Reference) _ (Moves (at_work n)) (λ count h. monitors n p (Target.Name name y) count)))
calls n (Command.Demonitor p k) =
    if_cond (living n p) _ Refusal.NoSuchProcess (Moves (at_work n)) (λ l. demonitors (fm.get n.watches k) p k (at_work n))
calls n (Command.Trap p b) =
    if_cond (living n p) _ Refusal.NoSuchProcess (Moves (at_work n))
    (λ l. sets_life n p (trapping (fm.get n.lives p) b) (living_trapping (fm.get n.lives p) b))
calls n (Command.ExitTo p q r) =
    acts n p q _ (λ l. if_cond (fits r) _ Refusal.TooLong (Moves (at_work n))
    (λ f. posts_other q.node (spelled (at_work n).node (to_pid q (Signal.Exit2 p q r))) (at_work n) (λ a b. refl)))
calls n (Command.ExitSelf p r) =
    if_cond (living n p) _ Refusal.NoSuchProcess (Moves (at_work n))
    (λ l. if_cond (fits r) _ Refusal.TooLong (Moves (at_work n)) (λ f. finishes p r (at_work n) l))
calls n (Command.Receive p) =
    if_cond (living n p) _ Refusal.NoSuchProcess (Moves (at_work n))
    (λ l. sets_life n p (without_first (fm.get n.lives p)) (living_without (fm.get n.lives p)))
calls n (Command.LinksOf p) = if_cond (living n p) _ Refusal.NoSuchProcess (Moves (at_work n)) (λ l. stays (at_work n))
calls n (Command.IsAlive p) = stays (at_work n)
calls n (Command.Register p name) = if_cond (living n p) _ Refusal.NoSuchProcess (Moves (at_work n))
    (λ l. registered_goes n p (Moves (at_work n)) (λ m c. names_move m (at_work n)) name l)
calls n (Command.Unregister p) = if_cond (living n p) _ Refusal.NoSuchProcess (Moves (at_work n))
    (λ l. unregistered_goes n p (Moves (at_work n)) (λ m c. names_move m (at_work n)))
calls n (Command.WhereIs name) = stays (at_work n)
