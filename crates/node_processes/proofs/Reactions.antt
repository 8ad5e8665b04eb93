-- What a process does at an exit signal.
use Rattle.std.proofs.Common.{◌≡◌, lit≤, Bool, true, false, not, ◌&&◌, cond, refl, sym, ap, ◌∙◌, codes}
use Rattle.std.specs.FinMap as fm
use Rattle.dist_model.specs.Exits.{carry_out, link_exit, linked_exit, other_exit, sent_exit}
use Rattle.dist_model.specs.Names.{same_pid}
use Rattle.dist_model.specs.Node.{Node, traps, traps_life}
use Rattle.dist_model.specs.Work.{Work, report}
use Rattle.dist_model.specs.declared.report.Effect.{Effect}
use Rattle.erl_control.proofs.FitsTest.{ascii_text, fits_test}
use Rattle.erl_control.specs.Fits.{fits}
use Rattle.erl_term.specs.Canonical.{canonical_atom}
use Rattle.erl_term.specs.Data.{Data, atom}
use Rattle.erl_term.specs.declared.term.Pid.{Pid}
use Rattle.exit_core.specs.Messages.{exit_term}
use Rattle.exit_core.specs.Reaction.{is_atom, reaction}
use Rattle.exit_core.specs.declared.reaction.Reaction.{Reaction}
use Rattle.link_core.specs.News.{noconnection, noproc}
use Rattle.node_plan.specs.Carried.{CarriesOut, IsFree}
use Rattle.node_processes.specs.Exiting.{FitsWhereEnds}
use Rattle.node_plan.specs.declared.plan.Plan.{Plan}
use Rattle.node_processes.proofs.Free.{lives_free}

-- ---- the reasons of the node's own

pub noproc_fits : fits noproc ≡ true
unfolding canonical_atom
noproc_fits = (fits_test noproc).1 (ascii_text (codes "noproc") refl (lit≤ tt), lit≤ tt, lit≤ tt)

pub noconnection_fits : fits noconnection ≡ true
unfolding canonical_atom
noconnection_fits = (fits_test noconnection).1 (ascii_text (codes "noconnection") refl (lit≤ tt), lit≤ tt, lit≤ tt)

killed_fits : fits (atom (codes "killed")) ≡ true
unfolding canonical_atom
killed_fits = (fits_test (atom (codes "killed"))).1 (ascii_text (codes "killed") refl (lit≤ tt), lit≤ tt, lit≤ tt)

-- ---- where it ends, the reason fits

pub linked_fits : (trap : Bool) (p q : Pid) (reason : Data) → fits reason ≡ true → FitsWhereEnds (reaction trap (linked_exit p q reason))
linked_fits true p q reason h = tt
linked_fits false p q reason h = go (is_atom (codes "normal") reason && not (same_pid q p))
  where
    go : (b : Bool) → FitsWhereEnds (cond b Reaction.Ignore (Reaction.End reason))
    go true = tt
    go false = h

pub sent_fits : (trap : Bool) (p q : Pid) (reason : Data) → fits reason ≡ true → FitsWhereEnds (reaction trap (sent_exit p q reason))
sent_fits trap p q reason h = go (is_atom (codes "kill") reason) trap (is_atom (codes "normal") reason && not (same_pid q p))
  where
    go : (a b c : Bool) → FitsWhereEnds (cond a (Reaction.End (atom (codes "killed")))
        (cond b (Reaction.Put (exit_term q reason)) (cond c Reaction.Ignore (Reaction.End reason))))
    go true b c = killed_fits
    go false true c = tt
    go false false true = tt
    go false false false = h

-- ---- it reacts as it is in the node before

same_trap : (plan : Plan) (m : Node) (w : Work) (p : Pid) → CarriesOut plan m w → IsFree plan.change p → traps w.node p ≡ traps m p
same_trap plan m w p h f =
    ap (λ (n : Node). traps n p) h.node ∙ ap (λ l. traps_life (fm.get l p)) (lives_free plan.change p m.mint m.lives f)

pub reacts : (plan : Plan) (m : Node) (w : Work) (p q : Pid) (reason : Data) (r : Reaction) → CarriesOut plan m w
    → IsFree plan.change p → r ≡ reaction (traps m p) (linked_exit p q reason)
    → link_exit p q reason w ≡ carry_out r p (report (Effect.LinkExit p q reason) w)
reacts plan m w p q reason r h f is =
    ap (λ b. carry_out (reaction b (linked_exit p q reason)) p (report (Effect.LinkExit p q reason) w)) (same_trap plan m w p h f)
    ∙ ap (λ x. carry_out x p (report (Effect.LinkExit p q reason) w)) (sym is)

pub reacts_to_other : (plan : Plan) (m : Node) (w : Work) (p q : Pid) (reason : Data) (r : Reaction) → CarriesOut plan m w
    → IsFree plan.change p → r ≡ reaction (traps m p) (sent_exit p q reason)
    → other_exit p q reason w ≡ carry_out r p w
reacts_to_other plan m w p q reason r h f is =
    ap (λ b. carry_out (reaction b (sent_exit p q reason)) p w) (same_trap plan m w p h f) ∙ ap (λ x. carry_out x p w) (sym is)
