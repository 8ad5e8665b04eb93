-- Where a sweep begins, and the first link behind a place.
use Rattle.std.proofs.Common.{◌≡◌, ℕ, ◌<◌, ◌≤◌, Bool, true, false, List, Option, None}
use Rattle.std.proofs.Common.{Some, IfNone, IfSome, nat_lt, refl, sym, subst, arith}
use Rattle.std.proofs.lemmas.Bool.Decides.{nat_tests}
use Rattle.std.proofs.lemmas.Bool.{both_ways}
use Rattle.std.specs.FinMap as fm
use Rattle.std.specs.Option.{option_map}
use Rattle.std.specs.Ordering.{is_lt}
use Rattle.dist_model.proofs.Keys.{pair_exact, pair_total}
use Rattle.dist_model.specs.Losses.{link_to}
use Rattle.dist_model.specs.Names.{Name, pair_cmp, same_name}
use Rattle.erl_names.specs.Ids.{pid_of}
use Rattle.erl_names.specs.Minted.{Minted}
use Rattle.erl_term.specs.declared.term.Pid.{Pid}
use Rattle.link_core.specs.declared.end.End.{End}
use Rattle.node_plan.specs.Seen.{seen}
use Rattle.node_plan.specs.declared.node.Node.{Node}
use Rattle.node_connections.proofs.Firsts.{first_is, none_is}
use Rattle.node_connections.proofs.Owned.{owner}
use Rattle.node_connections.specs.Ahead.{Begins, NoneLinkedUpTo}
use Rattle.node_connections.specs.Records.{link_entry}
use Rattle.node_tables.specs.declared.seeking.FoundLink.{FoundLink}
use Rattle.node_connections.specs.declared.sweeping.Sweeping.{Sweeping}
use Rattle.node_tables.specs.Lives.{ends_in}
use Rattle.node_tables.specs.declared.life.Life.{Life}

-- ---- before the first record

no_id : (m : Minted) (lives : List Life) (peer : Name) → NoneLinkedUpTo peer 0 (ends_in m lives)
no_id m lives peer p q e h l = let o = owner m lives p q e h in absurd (omega (arith, o.positive, l))

pub from_beginning : (node : Node) (peer : Name) (s : Sweeping) → Begins s → NoneLinkedUpTo peer s.id (seen node).ends
from_beginning node peer s b =
    subst (λ id. NoneLinkedUpTo peer id (seen node).ends) (sym b.id) (no_id node.incarnation.mint node.incarnation.held.items peer)

-- ---- the first link of the processes behind one

either : {A : Type 0} (id after : ℕ) → (id ≤ after → A) → (after < id → A) → A
either {A} id after f g = go (nat_lt after id) refl
  where
    below : nat_lt after id ≡ true → after < id
    below h = grind (arith, nat_tests)

    above : nat_lt after id ≡ false → id ≤ after
    above h = grind (arith, nat_tests)

    go : (b : Bool) → nat_lt after id ≡ b → A
    go true h = g (below h)
    go false h = f (above h)

pub link_is : (m : Minted) (lives : List Life) (peer : Name) (after : ℕ) (r : Option FoundLink)
    → NoneLinkedUpTo peer after (ends_in m lives)
    → IfSome r (λ f. fm.get (ends_in m lives) (pid_of m f.id, f.partner.now) ≡ Some f.end)
    → IfSome r (λ f. same_name f.partner.now.node peer ≡ true)
    → IfSome r (λ f. (p q : Pid) (e : End) → fm.get (ends_in m lives) (p, q) ≡ Some e → after < p.id
    → same_name q.node peer ≡ true → is_lt (pair_cmp (p, q) (pid_of m f.id, f.partner.now)) ≡ false)
    → IfNone r ((p q : Pid) (e : End) → fm.get (ends_in m lives) (p, q) ≡ Some e → after < p.id → same_name q.node peer ≡ false)
    → option_map (link_entry m) r ≡ link_to peer (fm.entries (ends_in m lives))
link_is m lives peer after None before found towards least none =
    sym (none_is pair_total pair_exact (λ pair end. same_name pair.1.node peer) (ends_in m lives)
    (λ pair e h. either pair.0.id after (before pair.0 pair.1 e h) (none pair.0 pair.1 e h)))
link_is m lives peer after (Some f) before found towards least none =
    sym (first_is pair_total pair_exact (λ pair end. same_name pair.1.node peer) (ends_in m lives)
    (pid_of m f.id, f.partner.now) f.end (record {
      held = found;
      passing = towards;
      least = λ pair e h t. either pair.0.id after
          (λ l. absurd (both_ways (same_name pair.1.node peer) (before pair.0 pair.1 e h l) t))
          (λ l. least pair.0 pair.1 e h l t);
    }))
