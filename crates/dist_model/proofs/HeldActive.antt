-- Who reacts to the exit of a link as it takes a signal held the link active.
use Rattle.std.proofs.lemmas.List.Elements.{Contains-append_cases, Contains-push_cases}
use Rattle.std.proofs.Common.{Contains, arith, ◌≡◌, Bool, true, false, cond, List, [], ◌∷◌, ◌++◌, refl}
use Rattle.std.proofs.Common.{sym, ap, ◌∙◌, subst, ◌||◌, ◌&&◌, Option, Some, None, ◌⊎◌, inl, inr}
use Rattle.std.proofs.lemmas.Bool.{or_left, or_right, and_parts}
use Rattle.std.proofs.Math.Bool.{or-false}
use Rattle.std.specs.FinMap as fm
use Rattle.dist_model.proofs.Keys.{same_pid_refl, same_pid_true}
use Rattle.dist_model.proofs.Seen.{replies}
use Rattle.dist_model.specs.Causes.{Reacts}
use Rattle.dist_model.proofs.LastSignals.{exits_in}
use Rattle.dist_model.specs.Exits.{carry_out, demonitors, end_process, link_exit, linked_exit, monitor_exits, sent_exit}
use Rattle.dist_model.specs.Items.{Item, Signalled}
use Rattle.dist_model.specs.Linking.{exit_follows, take_link, take_link_by}
use Rattle.dist_model.specs.Monitoring.{register, unregister, unwatch}
use Rattle.dist_model.specs.Names.{Name, same_name, same_pid}
use Rattle.dist_model.specs.Node.{Node, end_of, living, route, traps_life}
use Rattle.dist_model.specs.Taking.{take_item, take_named}
use Rattle.dist_model.specs.Work.{Addressed, Work, keep_local, post, post_all, post_to, put, report, send_on, set_end, spelled, to_pid}
use Rattle.dist_model.specs.declared.report.Effect.{Effect}
use Rattle.dist_model.specs.World.{Refused, Report, Reported}
use Rattle.erl_control.specs.declared.signal.Signal.{Signal}
use Rattle.erl_names.specs.declared.trunk.TrunkId.{TrunkId}
use Rattle.erl_term.specs.Data.{Data}
use Rattle.erl_term.specs.declared.term.Pid.{Pid}
use Rattle.erl_term.specs.declared.term.Reference.{Reference}
use Rattle.exit_core.specs.Messages.{down_term, named_term}
use Rattle.exit_core.specs.Reaction.{reaction}
use Rattle.exit_core.specs.declared.reaction.Reaction.{Reaction}
use Rattle.link_core.specs.News.{Exited, LinkNews, Signals, heard, noproc, reply}
use Rattle.link_core.specs.declared.end.End.{End}
use Rattle.link_core.specs.declared.end.LinkSignal.{LinkSignal}
use Rattle.monitor_core.specs.Monitors.{as_watch, is_held, itself, watch_of}
use Rattle.dist_model.specs.Monitoring.{bind, bound, registration_of}
use Rattle.dist_model.specs.Telling.{told_end}
use Rattle.erl_term.specs.Data.{pid}
use Rattle.monitor_core.specs.declared.monitor.Target.{Target}
use Rattle.monitor_core.specs.declared.monitor.Registration.{Registration}

-- p reacted to the exit of its link with q
abbrev pub is_reaction : Pid → Pid → Effect Item → Bool
is_reaction p q (Effect.LinkExit a b r) = same_pid a p && same_pid b q
is_reaction p q _ = false

abbrev pub reacts_in : Pid → Pid → List (Effect Item) → Bool
reacts_in p q [] = false
reacts_in p q (f ∷ fs) = is_reaction p q f || reacts_in p q fs

abbrev pub reacts : Pid → Pid → Report → Bool
reacts p q (Refused k) = false
reacts p q (Reported a fs) = reacts_in p q fs

is_this : (p q : Pid) (r : Data) (f : Effect Item) → f ≡ Effect.LinkExit p q r → is_reaction p q f ≡ true
is_this p q r f h = ap (is_reaction p q) h ∙ ap (λ b. b && same_pid q q) (same_pid_refl p) ∙ same_pid_refl q

told_in : (p q : Pid) (r : Data) (fs : List (Effect Item)) → Contains fs (Effect.LinkExit p q r) → reacts_in p q fs ≡ true
told_in p q r [] h = let lt = h.1 in absurd (omega arith)
told_in p q r (f ∷ fs) h = pick (told_in p q r fs) (Contains-append_cases (f ∷ []) fs (Effect.LinkExit p q r) h)
  where
    one : Contains {X = Effect Item} [] (Effect.LinkExit p q r) ⊎ (◌≡◌ {A = Effect Item} f (Effect.LinkExit p q r))
        → reacts_in p q (f ∷ fs) ≡ true
    one (inl e) = let lt = e.1 in absurd (omega arith)
    one (inr e) = or_left (is_reaction p q f) (reacts_in p q fs) (is_this p q r f e)

    pick : (Contains fs (Effect.LinkExit p q r) → reacts_in p q fs ≡ true)
        → Contains {X = Effect Item} (f ∷ []) (Effect.LinkExit p q r) ⊎ Contains fs (Effect.LinkExit p q r)
        → reacts_in p q (f ∷ fs) ≡ true
    pick later (inl e) = one (Contains-push_cases [] f (Effect.LinkExit p q r) e)
    pick later (inr e) = or_right (is_reaction p q f) (reacts_in p q fs) (later e)

pub told : (p q : Pid) (r : Data) (a : Report) → Reacts p q r a → reacts p q a ≡ true
told p q r (Refused k) h = absurd h
told p q r (Reported a fs) h = told_in p q r fs h

-- what is added last
added : (p q : Pid) (fs : List (Effect Item)) (f : Effect Item) → reacts_in p q (fs ++ f ∷ []) ≡ true
    → (reacts_in p q fs ≡ true) ⊎ (is_reaction p q f ≡ true)
added p q [] f h = inr (sym (or-false (is_reaction p q f)) ∙ h)
added p q (g ∷ fs) f h = go (is_reaction p q g) h (added p q fs f)
  where
    go : (b : Bool) → (b || reacts_in p q (fs ++ f ∷ [])) ≡ true
        → (reacts_in p q (fs ++ f ∷ []) ≡ true → (reacts_in p q fs ≡ true) ⊎ (is_reaction p q f ≡ true))
        → ((b || reacts_in p q fs) ≡ true) ⊎ (is_reaction p q f ≡ true)
    go true h k = inl refl
    go false h k = k h

abbrev pub Calm : Work → Work → Type 0
Calm o o' = (p q : Pid) → reacts_in p q o'.effects ≡ true → reacts_in p q o.effects ≡ true

calm_last : (fs : List (Effect Item)) (f : Effect Item) → ((p q : Pid) → is_reaction p q f ≡ false) → (p q : Pid)
    → reacts_in p q (fs ++ f ∷ []) ≡ true → reacts_in p q fs ≡ true
calm_last fs f n p q h = pick (added p q fs f h)
  where
    pick : (reacts_in p q fs ≡ true) ⊎ (is_reaction p q f ≡ true) → reacts_in p q fs ≡ true
    pick (inl e) = e
    pick (inr e) = let c : true ≡ false = sym e ∙ n p q in cc

pub calm_send : (r : Option TrunkId) (y : Name) (x : Item) (o : Work) → Calm o (send_on r y x o)
calm_send None y x o p q h = h
calm_send (Some t) y x o p q h = calm_last o.effects (Effect.Sent (Some t) y x) (λ a b. refl) p q h

pub calm_post : (y : Name) (x : Item) (o : Work) → Calm o (post_to y x o)
calm_post y x o p q h = go (same_name y o.node.mint.name) h
  where
    go : (b : Bool) → reacts_in p q ((cond b (keep_local x o) (send_on (route o.node y) y x o)).effects) ≡ true
        → reacts_in p q o.effects ≡ true
    go true h = calm_last o.effects (Effect.Sent None o.node.mint.name x) (λ a b. refl) p q h
    go false h = calm_send (route o.node y) y x o p q h

calm_post_all : (es : List Addressed) (o : Work) → Calm o (post_all es o)
calm_post_all [] o p q h = h
calm_post_all (e ∷ es) o p q h = calm_post e.node (spelled o.node e) o p q (calm_post_all es (post e o) p q h)

pub calm_put : (x : Pid) (t : Data) (o : Work) → Calm o (put x t o)
calm_put x t o p q h = calm_last o.effects (Effect.Put x t) (λ a b. refl) p q h

pub calm_finish : (x : Pid) (r : Data) (o : Work) → Calm o (end_process x r o)
calm_finish x r o p q h =
    let es =
    exits_in x r (fm.entries o.node.ends) ++ monitor_exits x r (fm.entries o.node.registered)
    ++ demonitors x (fm.entries o.node.watches) in
    calm_post_all es o p q (calm_last ((post_all es o).effects) (Effect.Ended x r) (λ a b. refl) p q h)

calm_carry : (f : Reaction) (x : Pid) (o : Work) → Calm o (carry_out f x o)
calm_carry Reaction.Ignore x o p q h = h
calm_carry (Reaction.Put t) x o p q h = calm_put x t o p q h
calm_carry (Reaction.End r) x o p q h = calm_finish x r o p q h

-- a link's exit is of the two that it names
pub exit_of : (a b : Pid) (r : Data) (o : Work) (p q : Pid) → reacts_in p q ((link_exit a b r o).effects) ≡ true
    → (reacts_in p q o.effects ≡ true) ⊎ ((a ≡ p) × (b ≡ q))
exit_of a b r o p q h =
    pick (added p q o.effects (Effect.LinkExit a b r)
    (calm_carry (reaction (traps_life (fm.get o.node.lives a)) (linked_exit a b r)) a (report (Effect.LinkExit a b r) o) p q h))
  where
    pick : (reacts_in p q o.effects ≡ true) ⊎ ((same_pid a p && same_pid b q) ≡ true) → (reacts_in p q o.effects ≡ true)
        ⊎ ((a ≡ p) × (b ≡ q))
    pick (inl e) = inl e
    pick (inr e) = let v = and_parts (same_pid a p) (same_pid b q) e in inr (same_pid_true a p v.0, same_pid_true b q v.1)

-- who takes a signal held the link active
abbrev pub Held : Node → Pid → Pid → Type 0
Held n p q = (living n p ≡ true) × (end_of n p q ≡ End.Active)

follows_of : (e : End) (s : LinkNews) (a b : Pid) (o : Work) (p q : Pid)
    → reacts_in p q ((exit_follows e s a b o).effects) ≡ true → (reacts_in p q o.effects ≡ true)
    ⊎ ((a ≡ p) × (b ≡ q) × (e ≡ End.Active))
follows_of e (Signals LinkSignal.Link) a b o p q h = inl h
follows_of End.Active (Exited r) a b o p q h = pick (exit_of a b r o p q h)
  where
    pick : (reacts_in p q o.effects ≡ true) ⊎ ((a ≡ p) × (b ≡ q)) → (reacts_in p q o.effects ≡ true)
        ⊎ ((a ≡ p) × (b ≡ q) × (End.Active ≡ End.Active))
    pick (inl e) = inl e
    pick (inr e) = inr (e.0, e.1, refl)
follows_of _ _ a b o p q h = inl h

pub held_at : (n : Node) (a b p q : Pid) → a ≡ p → b ≡ q → living n a ≡ true → end_of n a b ≡ End.Active → Held n p q
held_at n a b p q ap1 bq l e = subst (λ z. Held n z q) ap1 (subst (λ z. Held n a z) bq (l, e))

pub link_taken : (a b : Pid) (s : LinkNews) (o : Work) (p q : Pid) → reacts_in p q ((take_link a b s o).effects) ≡ true
    → (reacts_in p q o.effects ≡ true) ⊎ Held o.node p q
link_taken a b s o p q h = go (living o.node a) refl h
  where
    go : (t : Bool) → living o.node a ≡ t → reacts_in p q ((take_link_by t a b s o).effects) ≡ true
        → (reacts_in p q o.effects ≡ true) ⊎ Held o.node p q
    go false l h = inl (calm_post_all (replies a b (reply true s)) o p q h)
    go true l h =
        pick
        (follows_of (end_of o.node a b) s a b (post_all (replies a b (reply false s)) (set_end a b (heard (end_of o.node a b) s) o)) p q h)
      where
        pick : (reacts_in p q ((post_all (replies a b (reply false s)) (set_end a b (heard (end_of o.node a b) s) o)).effects) ≡ true)
            ⊎ ((a ≡ p) × (b ≡ q) × (end_of o.node a b ≡ End.Active)) → (reacts_in p q o.effects ≡ true) ⊎ Held o.node p q
        pick (inl e) = inl (calm_post_all (replies a b (reply false s)) (set_end a b (heard (end_of o.node a b) s) o) p q e)
        pick (inr e) = inr (held_at o.node a b p q e.0 e.1 l e.2)

pub calm_cond : (b : Bool) (o x y : Work) → Calm o x → Calm o y → Calm o (cond b x y)
calm_cond true o x y f g = f
calm_cond false o x y f g = g

calm_register : (k : Reference) (u : Registration) (o : Work) → Calm o (register k u o)
calm_register k u o p q h = h

calm_bound : (v : Option Pid) (b : Pid) (t : Target) (k : Reference) (o : Work) → Calm o (bind v b t k o)
calm_bound v b t k o = go v
  where
    tells : Calm o (post (told_end t b k noproc) o)
    tells = calm_post b.node (spelled o.node (told_end t b k noproc)) o

    go : (v : Option Pid) → Calm o (bind v b t k o)
    go None = tells
    go (Some a) = calm_cond (living o.node a) o _ _ (calm_register k (bound b t a) o) tells

calm_named : (v : Option Pid) (t : Data) (o : Work) → Calm o (take_named v t o)
calm_named None t o = λ p q h. h
calm_named (Some a) t o = calm_cond (living o.node a) o (put a t o) o (calm_put a t o) (λ c d k. k)

pub item_taken : (y : Name) (x : Item) (o : Work) (p q : Pid) → reacts_in p q ((take_item y x o).effects) ≡ true
    → (reacts_in p q o.effects ≡ true) ⊎ Held o.node p q
item_taken y (Signalled (Signal.Link b a) pay) o p q h = link_taken a b (Signals LinkSignal.Link) o p q h
item_taken y (Signalled (Signal.Exit b a r) pay) o p q h = link_taken a b (Exited r) o p q h
item_taken y (Signalled (Signal.UnlinkId i b a) pay) o p q h = link_taken a b (Signals (LinkSignal.Unlink i)) o p q h
item_taken y (Signalled (Signal.UnlinkIdAck i b a) pay) o p q h = link_taken a b (Signals (LinkSignal.Ack i)) o p q h
item_taken y (Signalled (Signal.Send a t) pay) o p q h = inl (calm_cond (living o.node a) o (put a t o) o (calm_put a t o) (λ c d k. k) p q h)
item_taken y (Signalled (Signal.RegSend a name t) pay) o p q h = inl (calm_named (fm.get o.node.names name) t o p q h)
item_taken y (Signalled (Signal.Exit2 b a r) pay) o p q h =
    inl (calm_cond (living o.node a) o _ o (calm_carry (reaction (traps_life (fm.get o.node.lives a)) (sent_exit a b r)) a o)
    (λ c d k. k) p q h)
item_taken y (Signalled (Signal.Monitor b a k) pay) o p q h =
    inl (calm_cond (living o.node a) o _ _ (calm_register k (registration_of b a) o)
    (calm_post b.node (spelled o.node (to_pid b (Signal.MonitorExit a b k noproc))) o) p q h)
item_taken y (Signalled (Signal.MonitorName b name k) pay) o p q h =
    inl (calm_bound (fm.get o.node.names name) b (Target.Name name o.node.mint.name) k o p q h)
item_taken y (Signalled (Signal.DemonitorName b name k) pay) o p q h =
    inl (calm_cond (is_held as_watch o.node.registered k (watch_of b (Target.Name name o.node.mint.name))) o (unregister k o) o
    (λ c d z. z) (λ c d z. z) p q h)
item_taken y (Signalled (Signal.MonitorNameExit name a k r) pay) o p q h =
    inl (calm_cond (living o.node a && is_held itself o.node.watches k (watch_of a (Target.Name name y))) o _ o
    (calm_put a (down_term k (named_term name y) r) (unwatch k o)) (λ c d z. z) p q h)
item_taken y (Signalled (Signal.Demonitor b a k) pay) o p q h =
    inl (calm_cond (is_held as_watch o.node.registered k (watch_of b (Target.Pid a))) o (unregister k o) o (λ c d z. z) (λ c d z. z) p q h)
item_taken y (Signalled (Signal.MonitorExit b a k r) pay) o p q h =
    inl (calm_cond (living o.node a && is_held itself o.node.watches k (watch_of a (Target.Pid b))) o _ o
    (calm_put a (down_term k (pid b) r) (unwatch k o)) (λ c d z. z) p q h)
item_taken y _ o p q h = inl h
