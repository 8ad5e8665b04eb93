-- A process changes: a plan goes on to carry out what becomes of it.
use Rattle.std.proofs.Common.{◌≡◌, true, [], ◌∷◌, ◌++◌, Option, None, Some, refl, sym, ap, subst, ◌∙◌, Result, Ok, Err}
use Rattle.std.specs.Prelude.{OnOk}
use Rattle.std.specs.FinMap as fm
use Rattle.std.specs.declared.alloc.AllocError.{AllocError}
use Rattle.std.specs.declared.alloc.Global.{Global}
use Rattle.std.specs.declared.vec.Vec.{Vec}
use Rattle.dist_model.specs.Exits.{buried}
use Rattle.dist_model.specs.Naming.{without_holder}
use Rattle.dist_model.specs.Items.{Item}
use Rattle.dist_model.specs.Node.{Ended, Life, Node, end_of, is_living_life, living}
use Rattle.dist_model.specs.Work.{Work, delivered, put, set_end, set_in, set_life}
use Rattle.dist_model.specs.declared.report.Effect.{Effect}
use Rattle.erl_term.specs.Data.{Data}
use Rattle.erl_term.specs.declared.term.Pid.{Pid}
use Rattle.monitor_core.specs.Left.{without_held, without_owner}
use Rattle.node_plan.specs.Changed.{drawn_by, end_after, ends_after, lives_after, names_after, registered}
use Rattle.node_plan.specs.Changed.{spawned_by, watched, watchers_left, watches_left}
use Rattle.node_plan.specs.Parts.{link_in}
use Rattle.node_plan.specs.declared.change.Change.{Change}
use Rattle.node_plan.specs.declared.change.Change.TheVariants as change
use Rattle.node_plan.specs.declared.change.LifeChange.{LifeChange}
use Rattle.node_plan.specs.declared.change.LifeChange.TheVariants as life
use Rattle.node_plan.specs.declared.change.LinkChange.{LinkChange}
use Rattle.node_plan.specs.declared.change.LinkChange.TheVariants as link
use Rattle.node_frames.specs.Frames.{Framed, SendsSpelled, shown}
use Rattle.node_plan.specs.Carried.{Carries, CarriesOut, IsFree}
use Rattle.node_plan.specs.Plans.{committed}
use Rattle.node_plan.specs.declared.plan.Plan.{Plan}
use Rattle.node_plan.proofs.Posted.{map_push, spelled_push}
use Rattle.node_tables.specs.Becomes.{becomes}
use Rattle.node_tables.specs.Lives.{ending, without_ends}
use Rattle.node_tables.specs.declared.end_change.EndChange.{EndChange}

-- where a process may still change, nothing is planned, or an end of it
by_cases : (P : Change → Type 0) (c : Change) (p : Pid) → IsFree c p
    → P change.None → ((e : LinkChange) → P (change.Of p e life.Stays)) → P c
by_cases P change.None p f none of = none
by_cases P (change.Of own e life.Stays) p f none of = subst (λ q. P (change.Of q e life.Stays)) (sym f) (of e)
by_cases P c p f none of = absurd f

module _ (plan : Plan) (m : Node) (work : Work) (p : Pid) (h : CarriesOut plan m work) (free : IsFree plan.change p) where
  mint_is : work.node.mint ≡ drawn_by plan.draws m.mint
  mint_is = ap (λ (n : Node). n.mint) h.node
      ∙ by_cases (λ c. drawn_by plan.draws (spawned_by c m.mint) ≡ drawn_by plan.draws m.mint) plan.change p free refl (λ e. refl)

  lives_is : work.node.lives ≡ m.lives
  lives_is = ap (λ (n : Node). n.lives) h.node ∙ by_cases (λ c. lives_after c m.mint m.lives ≡ m.lives) plan.change p free refl (λ e. refl)

  names_is : work.node.names ≡ m.names
  names_is = ap (λ (n : Node). n.names) h.node ∙ by_cases (λ c. names_after c m.names ≡ m.names) plan.change p free refl (λ e. refl)

  ends_is : work.node.ends ≡ end_after (link_in plan.change) p m.ends
  ends_is = ap (λ (n : Node). n.ends) h.node
      ∙ by_cases (λ c. ends_after c m.ends ≡ end_after (link_in c) p m.ends) plan.change p free refl (λ e. refl)

  watches_is : work.node.watches ≡ watched plan.watches m.watches
  watches_is = ap (λ (n : Node). n.watches) h.node
      ∙ by_cases (λ c. watches_left c (watched plan.watches m.watches) ≡ watched plan.watches m.watches) plan.change p free refl (λ e. refl)

  registered_is : work.node.registered ≡ registered plan.watchers m.registered
  registered_is = ap (λ (n : Node). n.registered) h.node
      ∙ by_cases (λ c. watchers_left c (registered plan.watchers m.registered) ≡ registered plan.watchers m.registered)
      plan.change p free refl (λ e. refl)

  module _ (alive : living m p ≡ true) (now : Change) (effects : Vec (Effect Framed) Global) where
    abbrev after : Change → Plan
    after c = record plan { change = c; effects = effects }

    -- this becomes of it, and is told
    becomes_it : (l : LifeChange) (effect : Effect Item) (n : Node) → SendsSpelled effect
        → effects.items ≡ plan.effects.items ++ shown effect ∷ []
        → n ≡ committed (after (change.Of p (link_in plan.change) l)) m
        → CarriesOut (after (change.Of p (link_in plan.change) l)) m (record { node = n; effects = work.effects ++ effect ∷ [] })
    becomes_it l effect n s e is = record {
      sound = record { suits = alive; named = tt; next = h.sound.next; sendable = h.sound.sendable };
      still = h.still;
      calm = h.calm;
      node = is;
      effects = e ∙ ap (λ xs. xs ++ shown effect ∷ []) h.effects ∙ sym (map_push shown work.effects effect);
      spelled = spelled_push work.effects effect h.spelled s;
    }

    pub carries_put : (message : Data) (done : Result (Unit {0}) AllocError)
        → effects.items ≡ plan.effects.items ++ Effect.Put p message ∷ []
        → OnOk done (now ≡ change.Of p (link_in plan.change) (life.Gets message)) → Carries m (put p message work) (after now) done
    carries_put message (Ok done) e c = subst (λ k. CarriesOut (after k) m (put p message work)) (sym c)
        (becomes_it (life.Gets message) (Effect.Put p message) (put p message work).node tt e (λ i. record (h.node i) {
          mint = mint_is i;
          lives = set_life (lives_is i) p (delivered (fm.get (lives_is i) p) message);
          names = names_is i;
          ends = ends_is i;
          watches = watches_is i;
          registered = registered_is i;
        }))
    carries_put message (Err x) e c = tt

    ended : (reason : Data) (o : Option Life) → is_living_life o ≡ true
        → fm.insert m.lives p (Ended reason) ≡ set_life m.lives p (ending reason o)
    ended reason (Some life) a = refl
    ended reason None a = cc

    pub carries_bury : (reason : Data) (done : Result (Unit {0}) AllocError)
        → effects.items ≡ plan.effects.items ++ Effect.Ended p reason ∷ []
        → OnOk done (now ≡ change.Of p (link_in plan.change) (life.Ends reason)) → Carries m (buried p reason work) (after now) done
    carries_bury reason (Ok done) e c =
        let lives = ap (λ ls. fm.insert ls p (Ended reason)) lives_is ∙ ended reason (fm.get m.lives p) alive in
        subst (λ k. CarriesOut (after k) m (buried p reason work)) (sym c)
        (becomes_it (life.Ends reason) (Effect.Ended p reason) (buried p reason work).node tt e (λ i. record (h.node i) {
          mint = mint_is i;
          lives = lives i;
          names = without_holder (names_is i) p;
          ends = without_ends (ends_is i) p;
          watches = without_owner (watches_is i) p;
          registered = without_held (registered_is i) p;
        }))
    carries_bury reason (Err x) e c = tt

-- an end of it changes
pub carries_end : (plan : Plan) (m : Node) (work : Work) (p q : Pid) (how : EndChange) (now : Change) (done : Result (Unit {0}) AllocError)
    → CarriesOut plan m work → plan.change ≡ change.None → living m p ≡ true → OnOk done (now ≡ change.Of p (link.Becomes q how) life.Stays)
    → Carries m (set_end p q (becomes how (end_of m p q)) work) (record plan { change = now }) done
carries_end plan m work p q how now (Ok done) h none alive c =
    let f : IsFree plan.change p = subst (λ k. IsFree k p) (sym none) tt in
    let ends : work.node.ends ≡ m.ends = ap (λ (n : Node). n.ends) h.node ∙ ap (λ k. ends_after k m.ends) none in
    subst (λ k. CarriesOut (record plan { change = k }) m (set_end p q (becomes how (end_of m p q)) work)) (sym c) (record {
      sound = record { suits = alive; named = tt; next = h.sound.next; sendable = h.sound.sendable };
      still = h.still;
      calm = h.calm;
      node = (λ i. record (h.node i) {
        mint = mint_is plan m work p h f i;
        lives = lives_is plan m work p h f i;
        names = names_is plan m work p h f i;
        ends = set_in (ends i) (p, q) (becomes how (end_of m p q));
        watches = watches_is plan m work p h f i;
        registered = registered_is plan m work p h f i;
      });
      effects = h.effects;
      spelled = h.spelled;
    })
carries_end plan m work p q how now (Err x) h none alive c = tt
