-- What comes, and what a dial comes to, as the code tells it.
use Rattle.std.proofs.Common.{◌≡◌, ℕ, Bool, true, false, cond, ◌||◌, Option, None, Some, List, []}
use Rattle.std.proofs.Common.{◌∷◌, Result, Ok, Err, inr, slice_get, refl, sym, ap, ◌∙◌, subst}
use Rattle.std.specs.Option.{option_map}
use Rattle.dist_model.proofs.Keys.{same_name_refl}
use Rattle.dist_model.specs.Dialing.{has_name}
use Rattle.dist_model.specs.Items.{Item}
use Rattle.dist_model.specs.Names.{Name}
use Rattle.dist_model.specs.NodeEvents as model
use Rattle.dist_model.specs.NodeEvents.{at_node}
use Rattle.erl_names.specs.declared.trunk.TrunkId.{TrunkId}
use Rattle.erl_term.specs.declared.refusal.Refusal.{Refusal}
use Rattle.node_lock.specs.Answers.{is_accepted, trunk_in}
use Rattle.node_lock.specs.Applying.{DialsOut, Takes, TakesNothing, with_opened, without_next}
use Rattle.node_lock.specs.declared.outlet.Outlet.{Outlet}
use Rattle.node_core.specs.Model.{model_of}
use Rattle.node_history.proofs.ReadByBytes.{can_come}
use Rattle.node_history.specs.Entering.{IsWanting, Stays, Tries}
use Rattle.node_history.specs.Kinds.{comes_here}
use Rattle.node_history.specs.declared.history.History.{History}
use Rattle.node_frames.specs.Frames.{IsSpelled, bytes_of}
use Rattle.wire_core.specs.Ports.{first_of}
use Rattle.wire_core.specs.Spellings.{SpellsItem}
use Rattle.wire_core.specs.declared.parcel.Parcel.{Parcel}
use Rattle.node_core.specs.ComingToANode.{CanCome}
use Rattle.node_core.specs.declared.node_event.NodeEvent.TheVariants as event

pub reads_here : (b : Bool) {c : Bool} → b ≡ true → b ≡ c → c ≡ true
reads_here b is h = sym h ∙ is

first_there : (parcel : Parcel) (l : List Parcel) → Some parcel ≡ first_of l → (rest : List Parcel) × (l ≡ parcel ∷ rest)
first_there parcel [] h = absurd (let no : ◌≡◌ {A = Option Parcel} (Some parcel) None = h in cc)
first_there parcel (p ∷ ps) h = (ps, let e : parcel ≡ p = cc in ap (λ x. x ∷ ps) (sym e))

module _ (old new : History) (o : Outlet) (trunk : TrunkId) (word : ℕ) (parcel : Parcel) (r : Result ℕ Refusal)
    (piece : SpellsItem parcel.bytes)
    (slot : Some parcel ≡ first_of o.port.slot) (here : comes_here (model_of old.node) trunk parcel.bytes ≡ true)
    (arrives : (names : List Name) (item : Item) → parcel.bytes ≡ bytes_of item → CanCome (model_of old.node) trunk item
    → Tries (at_node names (model_of old.node) (model.Arrive trunk (Some item) word))
    (event.Arrive trunk word) parcel.stamp old new r) where
  comes : (names : List Name) (item : Item) → IsSpelled item → parcel.bytes ≡ bytes_of item
      → Tries (at_node names (model_of old.node) (model.Arrive trunk (Some item) word)) (event.Arrive trunk word) parcel.stamp old new r
  comes names item s b =
      arrives names item b (can_come (model_of old.node) trunk item s (subst (λ bs. comes_here (model_of old.node) trunk bs ≡ true) b here))

  abbrev some : Tries (at_node [] (model_of old.node) (model.Arrive trunk (Some piece.item) word))
      (event.Arrive trunk word) parcel.stamp old new r
  some = comes [] piece.item piece.spelled (sym piece.written)

  tries_at : (due : _) (q : Result ℕ Refusal) → r ≡ q → Tries due (event.Arrive trunk word) parcel.stamp old new r
      → Tries due (event.Arrive trunk word) parcel.stamp old new q
  tries_at due q is h = subst (Tries due (event.Arrive trunk word) parcel.stamp old new) is h

  pub came_not : (e : Refusal) → r ≡ Err e → TakesNothing trunk old new o o e
  came_not e is =
      let t = tries_at _ (Err e) is some in
      record { history = t.0; outlet = refl; why = inr (parcel, sym slot, piece, t.1) }

  pub came : (place : ℕ) (after : Outlet) → r ≡ Ok place → after ≡ cond (is_accepted (slice_get new.entries.items place)) (without_next o) o
      → Takes trunk word old new o after place
  came place after is left =
      let there = first_there parcel o.port.slot slot in
      let t = tries_at _ (Ok place) is some in
      record {
        parcel = parcel;
        rest = there.0;
        slot = there.1;
        piece = piece;
        enters = λ names item s b. (tries_at _ (Ok place) is (comes names item s b)).0;
        place_is = t.1;
        left = left;
      }

-- ---- a dial

pub some_names : (peer : Name) (is_known : Bool) → (names : List Name) × (has_name peer names ≡ is_known)
some_names peer true = (peer ∷ [], ap (λ b. b || false) (same_name_refl peer))
some_names peer false = ([], refl)

module _ (old new : History) (before after : List Outlet) (is_known : Bool) (peer : Name) (word above : ℕ) (r : Result ℕ Refusal)
    (dials : (names : List Name) → has_name peer names ≡ is_known
    → Tries (at_node names (model_of old.node) (model.Dial peer word)) (event.Dial peer word) above old new r) where
  pub dialed_not : (e : Refusal) → r ≡ Err e → Stays old new × IsWanting old.last above e
  dialed_not e is =
      let n = some_names peer is_known in
      subst (Tries (at_node n.0 (model_of old.node) (model.Dial peer word)) (event.Dial peer word) above old new) is (dials n.0 n.1)

  pub dialed_out : (greatest place : ℕ) (own to : Name) (count : Option ℕ) → r ≡ Ok place → own ≡ (model_of old.node).mint.name → to ≡ peer
      → count ≡ option_map (λ (t : TrunkId). t.count) (trunk_in (slice_get new.entries.items place))
      → after ≡ with_opened greatest own to place count before
      → DialsOut greatest is_known peer word above old new before after place
  dialed_out greatest place own to count is o t c h =
      let n = some_names peer is_known in
      let at : (names : List Name) → has_name peer names ≡ is_known → _ = λ names k.
      subst (Tries (at_node names (model_of old.node) (model.Dial peer word)) (event.Dial peer word) above old new) is (dials names k) in
      record {
        enters = λ names k. (at names k).0;
        place_is = (at n.0 n.1).1;
        opened = h ∙ ap (λ x. with_opened greatest x to place count before) o
            ∙ ap (λ x. with_opened greatest (model_of old.node).mint.name x place count before) t
            ∙ ap (λ x. with_opened greatest (model_of old.node).mint.name peer place x before) c;
      }
