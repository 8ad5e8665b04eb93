-- What each event does, in the words of what is known.
use Rattle.dist_model.proofs.Envelopes.{mere}
use Rattle.dist_model.proofs.Seen.{end_at, living_at, reached_at}
use Rattle.erl_handshake.specs.declared.message.ShakeMsg.{ShakeMsg}
use Rattle.std.proofs.Common.{◌==◌, nat_lt, ◌≡◌, ◌≤◌, Bool, true, false, cond, not, List, [], ◌∷◌}
use Rattle.std.proofs.Common.{refl, sym, ap, ◌∙◌, subst, arith, ◌&&◌, ◌||◌, Some, ◌⊎◌, inl, inr}
use Rattle.std.proofs.lemmas.List.Elements.{All-nil, All-weaker}
use Rattle.std.proofs.lemmas.Bool.{or_parts, not-true, and_parts}
use Rattle.std.specs.List.{All}
use Rattle.std.specs.Option.{is_some}
use Rattle.std.specs.FinMap as fm
use Rattle.dist_model.proofs.SideAges.{Aging, ageless, aging_side}
use Rattle.dist_model.proofs.Founded.{FoundedSignal, IsAsked, IsOver, OffNow, True, carried_by, founded_by, old_now, true_closed, true_side, true_wrote}
use Rattle.dist_model.proofs.HandshakeParts.{Turned}
use Rattle.dist_model.proofs.Home.{never_own}
use Rattle.dist_model.proofs.HomeMonitors.{Homed, Says, TargetsIn, home_closed, home_side, home_wrote, targets_by}
use Rattle.dist_model.proofs.Keys.{same_name_true}
use Rattle.dist_model.proofs.Posts.{NodeKept}
use Rattle.dist_model.proofs.Parts.{Closed, Rules}
use Rattle.dist_model.proofs.Routes.{node_of_name}
use Rattle.dist_model.proofs.Trunks.{Good}
use Rattle.dist_model.proofs.Told.{Called, CalledNow, Course, Deed, Downs, Drawn, IsFounded, Leaves, Off, OffAfter, Old, Sound, Stays}
use Rattle.dist_model.proofs.MonitorMoves.{Core, Fate, Left, Same, Spent, Turns, core_closed, turns_side, turns_wrote}
use Rattle.dist_model.proofs.Views.{over}
use Rattle.dist_model.proofs.Truths.{none_within}
use Rattle.dist_model.proofs.SomeCauses.{CauseIn, NobodyThere, NotReached, SomeoneEnded}
use Rattle.dist_model.specs.Causes.{HadEnded, NoConnection, NoProcess, TrueCause}
use Rattle.dist_model.specs.declared.report.Answer.{Answer}
use Rattle.dist_model.specs.declared.command.Command.{Command}
use Rattle.dist_model.specs.Downs.{downs_by, downs_in, is_answered, is_demonitored, takes_message}
use Rattle.dist_model.specs.Handshake.{with_side, write}
use Rattle.dist_model.specs.Histories.{History}
use Rattle.dist_model.specs.Items.{Item}
use Rattle.dist_model.specs.Names.{Name, same_name}
use Rattle.dist_model.specs.Node.{Node, end_of, living, is_stranger, reaches, route}
use Rattle.dist_model.specs.Seen.{end_between, is_reached}
use Rattle.dist_model.specs.Sides.{TrunkSide}
use Rattle.monitor_core.specs.Monitors.{target_node}
use Rattle.dist_model.specs.Work.{Work, at_work}
use Rattle.dist_model.specs.declared.report.Effect.{Effect}
use Rattle.dist_model.specs.World.{Call, Event, Reported, World, node_of}
use Rattle.erl_names.specs.declared.trunk.TrunkId.{TrunkId}
use Rattle.erl_term.specs.Data.{Data}
use Rattle.erl_term.specs.declared.term.Pid.{Pid}
use Rattle.erl_term.specs.declared.term.Reference.{Reference}
use Rattle.link_core.specs.News.{noconnection, noproc}
use Rattle.link_core.specs.declared.end.End.{End}
use Rattle.monitor_core.specs.declared.monitor.Target.{Target}
use Rattle.monitor_core.specs.declared.monitor.Watch.{Watch}
use Rattle.monitor_core.specs.declared.monitor.Registration.{Registration}
use Rattle.dist_model.proofs.Entries.{IsBound}

pub never_same : (m n : Node) → m.mint.name ≡ n.mint.name → m.mint.creation ≡ n.mint.creation → m.mint.pids ≡ n.mint.pids
    → (p : Pid) → is_stranger m p ≡ is_stranger n p
never_same m n a b c p =
    λ i. not (same_name p.node (a i)) || nat_lt (b i) p.creation || (p.creation == b i && nat_lt (c i) p.id) || p.id == 0
    || not (p.serial == 0)

pub over_parts : (n : Node) (p : Pid) → over n p ≡ true → (living n p ≡ false) × (is_stranger n p ≡ false)
over_parts n p h =
    let v = and_parts (not (living n p)) (not (is_stranger n p)) h in (not-true (living n p) v.0, not-true (is_stranger n p) v.1)

pub over_of : (n : Node) (p : Pid) → living n p ≡ false → is_stranger n p ≡ false → over n p ≡ true
over_of n p l v = ap (λ b. not b && not (is_stranger n p)) l ∙ ap not v

pub drawn_along : (m n : Node) (k : Reference) → n.mint.creation ≡ m.mint.creation → m.mint.references ≤ n.mint.references
    → Drawn m k → Drawn n k
drawn_along m n k c r (inl h) = inl (omega (arith, c))
drawn_along m n k c r (inr h) = let d = h.1 in let l : d.0 ≤ m.mint.references = d.2 in inr (h.0 ∙ sym c, (d.0, d.1, omega (arith, r, l)))

-- nothing that was sent is a DOWN
pub downs_mere : (k : Reference) (fs : List (Effect Item)) → downs_in k (mere fs) ≡ []
downs_mere k [] = refl
downs_mere k (Effect.Sent t y x ∷ fs) = downs_mere k fs
downs_mere k (_ ∷ fs) = downs_mere k fs

downs_cond : (k : Reference) (b : Bool) (fs : List (Effect Item)) → downs_in k (cond b (mere fs) fs) ≡ cond b [] (downs_in k fs)
downs_cond k true fs = downs_mere k fs
downs_cond k false fs = refl

-- what is true of p and q, told to p
abbrev pub Right : World → History → Event → Pid → Pid → Data → Type 0
Right w h e p q z =
    ((end_between w p q ≡ End.Active) ⊎ ((e ≡ Call p.node (Command.Link p q)) × (is_reached w p q.node ≡ false))) × TrueCause h w p q z

pub old_cause : (w : World) (h : History) (p q : Pid) (z : Data) → Old w h q z → TrueCause h w p q z
old_cause w h p q z (inl i) = HadEnded i
old_cause w h p q z (inr i) = let d = i.1 in NoProcess i.0 (ap (λ o. living_at o q) d.1 ∙ (over_parts d.0 q d.2).0)

-- so of a target whose end is told
pub cause_over : (w : World) (h : History) (p : Pid) (t : Target) (z : Data) → IsOver (Old w h) t z → CauseIn h w p t z
cause_over w h p (Target.Pid q) z c = old_cause w h p q z c
cause_over w h p (Target.Name name node) z (inl e) = NobodyThere e
cause_over w h p (Target.Name name node) z (inr (q, inl c)) = SomeoneEnded q c
cause_over w h p (Target.Name name node) z (inr (q, inr c)) = NobodyThere c.0

module _ (w : World) (h : History) (x : Name) (n : Node) (hx : node_of w.nodes x ≡ Some n) (gw : Good w) (g : Sound w h) where
  pub nm : n.mint.name ≡ x
  nm = node_of_name w.nodes x n hx

  pub kn : NodeKept n
  kn = gw.core.nodes x n hx

  pub at_pid : (p : Pid) → is_stranger n p ≡ false → p.node ≡ x
  at_pid p v = same_name_true p.node n.mint.name (never_own n p v) ∙ nm

  pub node_here : (p : Pid) → is_stranger n p ≡ false → node_of w.nodes p.node ≡ Some n
  node_here p v = subst (λ z. node_of w.nodes z ≡ Some n) (sym (at_pid p v)) hx

  pub unreached : (p : Pid) (y : Name) → is_stranger n p ≡ false → reaches n y ≡ false → (same_name y p.node ≡ false)
      × (is_reached w p y ≡ false)
  unreached p y v r = (
    ap (same_name y) (at_pid p v ∙ sym nm) ∙ (or_parts (same_name y n.mint.name) (is_some (route n y)) r).0,
    ap (λ o. reached_at o y) (node_here p v) ∙ r,
  )

  pub no_connection : (p q : Pid) → is_stranger n p ≡ false → reaches n q.node ≡ false → TrueCause h w p q noconnection
  no_connection p q v r = let u = unreached p q.node v r in NoConnection refl u.0 u.1

  -- of either target
  pub unreached_cause : (p : Pid) (t : Target) → is_stranger n p ≡ false → reaches n (target_node t) ≡ false → CauseIn h w p t noconnection
  unreached_cause p (Target.Pid q) v r = no_connection p q v r
  unreached_cause p (Target.Name name node) v r = let u = unreached p node v r in NotReached refl u.0 u.1

  pub dead_now : (p : Pid) → living n p ≡ false → is_stranger n p ≡ false → Old w h p noproc
  dead_now p l v = inr (refl, (n, node_here p v, over_of n p l v))

  pub held_active : (e : Event) (p q : Pid) (z : Data) → living n p ≡ true → end_of n p q ≡ End.Active → TrueCause h w p q z
      → Right w h e p q z
  held_active e p q z l a c = (inl (ap (λ o. end_at o p q) (node_here p (kn.born p l)) ∙ a), c)

  pub were : (k : Reference) (u : Registration) → fm.get n.registered k ≡ Some u → (living n u.held ≡ true) × IsBound u
  were k u j = let v = g.enrolled x n k u hx j in (v.0, v.2)

  module _ (e : Event) (xs : List Item) where
    abbrev pub Tells : Reference → Watch → Data → Type 0
    Tells k u z = CauseIn h w u.owner u.target z

    abbrev pub Joins : Reference → Registration → Type 0
    Joins k u = IsAsked (Called h) u.target u.owner k

    abbrev pub Drops : Reference → Registration → Type 0
    Drops k u = Off w h k ⊎ (reaches n u.owner.node ≡ false)

    abbrev pub Spawned : Pid → Type 0
    Spawned q = is_stranger n q ≡ false

    abbrev pub T : Work → Type 0
    T = True (record n { local = xs }) (Old w h) (Right w h e) (Called h) (Off w h)

    abbrev pub U : Work → Type 0
    U = Turns (record n { local = xs }) Tells Joins Drops were

    abbrev pub K : Work → Type 0
    K = Core (record n { local = xs }) Tells Joins Drops were

    abbrev pub H : Work → Type 0
    H = Homed (record n { local = xs }) Spawned

    pub record Whole (o : Work) : Type 0 where
      pub truth : T o
      pub core : K o
      pub home : H o

    abbrev pub rules : Rules
    rules = record {
      Says = λ s. FoundedSignal (Old w h) (Called h) (Off w h) s.signal × Says (record n { local = xs }) Spawned s;
      Reacts = Right w h e;
      Tells = Tells;
      Joins = Joins;
      Drops = Drops;
    }

    pub whole_closed : Closed rules Whole
    whole_closed =
        let a = true_closed (record n { local = xs }) (Old w h) (Right w h e) (Called h) (Off w h) in
        let b = core_closed (record n { local = xs }) Tells Joins Drops were in
        let c = home_closed (record n { local = xs }) Spawned in
        record {
          plain = λ s i. (a.plain s i, c.plain s i);
          posted = λ s o i k. record { truth = a.posted s o i.0 k.truth; core = b.posted s o tt k.core; home = c.posted s o i.1 k.home };
          end_set = λ p q v o l k.
              record { truth = a.end_set p q v o l k.truth; core = b.end_set p q v o l k.core; home = c.end_set p q v o l k.home };
          drew = λ o k. record { truth = a.drew o k.truth; core = b.drew o k.core; home = c.drew o k.home };
          life_set = λ p l o i k.
              record { truth = a.life_set p l o i k.truth; core = b.life_set p l o i k.core; home = c.life_set p l o i k.home };
          renamed = λ m o i k.
              record { truth = a.renamed m o i k.truth; core = b.renamed m o i k.core; home = c.renamed m o i k.home };
          message =
              λ p m o i k. record { truth = a.message p m o i k.truth; core = b.message p m o i k.core; home = c.message p m o i k.home };
          reacted = λ p q z o i k.
              record { truth = a.reacted p q z o i k.truth; core = b.reacted p q z o tt k.core; home = c.reacted p q z o tt k.home };
          finished = λ p z o k. record { truth = a.finished p z o k.truth; core = b.finished p z o k.core; home = c.finished p z o k.home };
          registers = λ r m o l u i k.
              record { truth = a.registers r m o l u i k.truth; core = b.registers r m o l u i k.core; home = c.registers r m o l u tt k.home };
          unregisters = λ r m o j i k. record
              { truth = a.unregisters r m o j tt k.truth; core = b.unregisters r m o j i k.core; home = c.unregisters r m o j tt k.home };
          ended = λ r m z o j i k.
              record { truth = a.ended r m z o j tt k.truth; core = b.ended r m z o j i k.core; home = c.ended r m z o j tt k.home };
        }

    -- while its sides change
    pub record Shaken (o : Work) : Type 0 where
      pub truth : T o
      pub turns : U o
      pub home : H o
      pub aging : Aging n o.node

    pub shaken : (o : Work) → Whole o → Shaken o
    shaken o k = record { truth = k.truth; turns = k.core.turns; home = k.home; aging = ageless n o.node k.core.sides }

    pub shaken_side : (t : TrunkId) (s : TrunkSide) (o : Work) → Turned o.node t s → Shaken o → Shaken (with_side t s o)
    shaken_side t s o c k = record {
      truth = true_side (record n { local = xs }) (Old w h) (Right w h e) (Called h) (Off w h) t s o c k.truth;
      turns = turns_side (record n { local = xs }) Tells Joins Drops were t s o c k.turns;
      home = home_side (record n { local = xs }) Spawned t s o c k.home;
      aging = aging_side n t s o c k.aging;
    }

    pub shaken_wrote : (t : TrunkId) (y : Name) (m : ShakeMsg) (o : Work) → Shaken o → Shaken (write t y m o)
    shaken_wrote t y m o k = record {
      truth = true_wrote (record n { local = xs }) (Old w h) (Right w h e) (Called h) (Off w h) t y m o k.truth;
      turns = turns_wrote (record n { local = xs }) Tells Joins Drops were t y m o k.turns;
      home = home_wrote (record n { local = xs }) Spawned t y m o k.home;
      aging = k.aging;
    }

    pub begins : All (IsFounded w h) xs → All (TargetsIn Spawned) xs → Whole (at_work (record n { local = xs }))
    begins fs ts = record {
      truth = record {
        carried = record {
          local = All-weaker (IsFounded w h) _
              (old_now (record n { local = xs }) (Old w h) (Right w h e) (Called h) (Off w h) (at_work (record n { local = xs }))) xs fs;
          sent = All-nil _;
        };
        acts = λ p q z c. absurd (none_within (Effect.LinkExit p q z) c);
        watched = λ k u j. j;
        enrolled = λ k u j. let v = g.enrolled x n k u hx j in (v.1, v.2);
      };
      core = record {
        turns = record {
          fates = λ k. Same refl refl;
          dead = λ p l. l;
          enrolled = λ k u j. let v = were k u j in (v.0, v.1, inl j);
          leaving = λ k u j. inl j;
          local = λ f j. j;
          name = refl;
          creation = refl;
          references = refl;
          pids = refl;
          owners = λ k u j. (g.watching x n k u hx j).4;
        };
        sides = refl;
      };
      home = record { local = ts; name = refl };
    }

    -- what counts of a work: where a sent message is taken, what was sent alone
    abbrev pub counted : Answer → Work → Work
    counted a o = record { node = o.node; effects = cond (takes_message e (Reported a o.effects)) (mere o.effects) o.effects }

    downs_counted : (a : Answer) (o : Work) (k : Reference) → downs_by k e (Reported a o.effects) ≡ downs_in k ((counted a o).effects)
    downs_counted a o k = sym (downs_cond k (takes_message e (Reported a o.effects)) o.effects)

    pub deed : (a : Answer) (o : Work) → ((k : Reference) → is_answered k e (Reported a o.effects) ≡ false)
        → ((k : Reference) → is_demonitored k e (Reported a o.effects) ≡ false) → T o → U (counted a o) → H o
        → Deed w h x n e a o
    deed a o na nd t u k = record {
      name = u.name ∙ nm;
      nevers = λ p v. nv p ∙ v;
      grows = older;
      carries = carried_by _ _ o
          (founded_by _ _ (Called h) (CalledNow h e a o)
          (OffNow (record n { local = xs }) (Old w h) (Right w h e) (Called h) (Off w h) o) (OffAfter w h n o)
          (λ q z c. c) (λ p q r m. inr m) (λ r c. c)) t.carried;
      homes = All-weaker (TargetsIn Spawned) (TargetsIn (λ q. is_stranger o.node q ≡ false))
          (targets_by Spawned (λ q. is_stranger o.node q ≡ false) (λ q v. nv q ∙ v)) o.node.local k.local;
      enrolled = λ r m j. let v = u.enrolled r m j in (v.0, joins r m v.2, v.1);
      owners = λ r m j. u.owners r m j;
      drawn = λ r d. drawn_along n o.node r u.creation (omega (arith, u.references)) d;
      course = λ r. fate r (u.fates r);
    }
      where
        nv : (p : Pid) → is_stranger o.node p ≡ is_stranger n p
        nv p = never_same o.node n u.name u.creation u.pids p

        older : (p : Pid) → over n p ≡ true → over o.node p ≡ true
        older p v = let b = over_parts n p v in over_of o.node p (u.dead p b.0) (nv p ∙ b.1)

        joins : (r : Reference) (m : Registration) → (fm.get n.registered r ≡ Some m) ⊎ Joins r m → Joins r m
        joins r m (inl j) = (g.enrolled x n r m hx j).1
        joins r m (inr j) = j

        fate : (r : Reference) → Fate (record n { local = xs }) Tells Joins Drops were (counted a o) r
            → Course w h n x e (Reported a o.effects) o r
        fate r (Same b c) = Stays b (downs_counted a o r ∙ c) (na r) (nd r)
        fate r (Left m b c l d) =
            let v = kn.born m.owner (g.watching x n r m hx b).4 in
            Leaves m b c (over_of o.node m.owner l (nv m.owner ∙ v)) (at_pid m.owner v) (downs_counted a o r ∙ d) (na r) (nd r)
        fate r (Spent m z b c v d) = Downs m z b c v (downs_counted a o r ∙ d) (na r) (nd r)
