-- Whether a link is left, by what was found behind the first.
use Rattle.std.proofs.Common.{◌≡◌, ◌<◌, Bool, true, false, List, Option, None, Some, IfNone, IfSome, sym, ap, ◌∙◌}
use Rattle.std.specs.FinMap as fm
use Rattle.std.specs.Option.{is_some}
use Rattle.std.specs.Ordering.{is_lt}
use Rattle.dist_model.specs.Losses.{link_to}
use Rattle.dist_model.specs.Names.{Name, same_name}
use Rattle.erl_names.specs.Ids.{pid_of}
use Rattle.erl_names.specs.Minted.{Minted}
use Rattle.erl_term.specs.Order.{pid_cmp}
use Rattle.erl_term.specs.declared.term.Pid.{Pid}
use Rattle.link_core.specs.declared.end.End.{End}
use Rattle.node_connections.proofs.Later.{parted_none, parted_some, unlinked_behind, unlinked_beside, unlinked_none}
use Rattle.node_connections.specs.Records.{has_link, link_entry, parted, unlinked}
use Rattle.node_tables.specs.declared.seeking.FoundLink.{FoundLink}
use Rattle.node_tables.specs.Lives.{ends_in}
use Rattle.node_tables.specs.declared.life.Life.{Life}

module _ (m : Minted) (lives : List Life) (peer : Name) (link : FoundLink)
    (first : link_to peer (fm.entries (ends_in m lives)) ≡ Some (link_entry m link)) where
  abbrev IsHeld : FoundLink → Type 0
  IsHeld f = fm.get (ends_in m lives) (pid_of m f.id, f.partner.now) ≡ Some f.end

  abbrev IsTowards : FoundLink → Type 0
  IsTowards f = same_name f.partner.now.node peer ≡ true

  abbrev NoneBehind : Type 0
  NoneBehind = (p q : Pid) (e : End) → fm.get (ends_in m lives) (p, q) ≡ Some e → link.id < p.id → same_name q.node peer ≡ false

  pub parted_by : (r : Option FoundLink) (b : Bool) → b ≡ is_some r → IfSome r IsHeld → IfSome r IsTowards
      → IfSome r (λ f. link.id < f.id) → IfNone r NoneBehind
      → b ≡ has_link peer (parted (pid_of m link.id) link.partner.now (ends_in m lives))
  parted_by None b is held towards behind none = is ∙ sym (parted_none m lives peer link.id link.partner.now link.end first none)
  parted_by (Some f) b is held towards behind none =
      is ∙ sym (parted_some m lives peer link.id link.partner.now link.end first f.id f.partner.now f.end behind held towards)

  module _ (p : Pid) (same : p ≡ pid_of m link.id) where
    abbrev is_left : Pid → Bool
    is_left x = has_link peer (unlinked x link.partner.now (ends_in m lives))

    pub beside_by : (b : Bool) → b ≡ true
        → (q : Pid) × (e : End) × (fm.get (ends_in m lives) (p, q) ≡ Some e) × (same_name q.node peer ≡ true)
        × (is_lt (pid_cmp link.partner.now q) ≡ true)
        → b ≡ is_left p
    beside_by b is h =
        is ∙ sym (ap is_left same ∙ unlinked_beside m lives peer link.id link.partner.now link.end first h.0 h.1
        (ap (λ x. fm.get (ends_in m lives) (x, h.0)) (sym same) ∙ h.2) h.3 h.4)

    pub behind_by : ((q : Pid) (e : End) → fm.get (ends_in m lives) (p, q) ≡ Some e
        → is_lt (pid_cmp link.partner.now q) ≡ true → same_name q.node peer ≡ false)
        → (r : Option FoundLink) (b : Bool) → b ≡ is_some r → IfSome r IsHeld → IfSome r IsTowards
        → IfSome r (λ f. link.id < f.id) → IfNone r NoneBehind
        → b ≡ is_left p
    behind_by beside None b is held towards behind none =
        is ∙ sym (ap is_left same ∙ unlinked_none m lives peer link.id link.partner.now link.end first none
        (λ y f h l. beside y f (ap (λ x. fm.get (ends_in m lives) (x, y)) same ∙ h) l))
    behind_by beside (Some f) b is held towards behind none =
        is ∙ sym (ap is_left same
        ∙ unlinked_behind m lives peer link.id link.partner.now link.end first f.id f.partner.now f.end behind held towards)
