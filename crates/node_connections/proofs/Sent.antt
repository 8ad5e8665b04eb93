-- What a side has read of a frame can be sent on.
use Rattle.std.proofs.Common.{◌≡◌, ◌^◌, ℕ, List, true, false, ◌&&◌, nat_le, nat_lt, refl, subst, rules}
use Rattle.conn_core.specs.declared.arrival.Fault.{Fault}
use Rattle.conn_core.specs.declared.arrival.Taken.{Taken}
use Rattle.conn_core.specs.declared.arrival.Taken.TheVariants as taken
use Rattle.conn_core.specs.declared.standing.Standing.{Standing}
use Rattle.dist_model.specs.Items.{Signalled}
use Rattle.dist_model.specs.Sides.{Up}
use Rattle.std.proofs.lemmas.Bool.{and_from}
use Rattle.erl_control.proofs.FitsTest.{fits_test}
use Rattle.erl_control.proofs.Sent.{due_sendable}
use Rattle.erl_control.specs.Control.{IsSendable, IsUnlinkId}
use Rattle.erl_control.specs.declared.signal.Item.{Item}
use Rattle.erl_control.specs.declared.signal.Item.TheVariants as frame
use Rattle.erl_control.specs.declared.signal.Signal.{Signal}
use Rattle.node_connections.specs.Coming.{CanBeSent, IsItemSent, item_of}
use Rattle.node_connections.specs.Fronts.{Holds, IsFrontIn}
use Rattle.node_tables.specs.Standings.{state_of}
use Rattle.node_frames.specs.Sendable.{is_sendable}

an_id : (id : ℕ) → IsUnlinkId id → (nat_le 1 id && nat_lt id (2 ^ 64)) ≡ true
an_id id h = let some = h.0 in let low = h.1 in and_from (nat_le 1 id) (nat_lt id (2 ^ 64)) (search (rules, some)) (search (rules, low))

sendable_from : (signal : Signal) → IsSendable signal → is_sendable signal ≡ true
sendable_from (Signal.Send to message) h = (fits_test message).1 h.1
sendable_from (Signal.RegSend from name message) h = (fits_test message).1 h.1
sendable_from (Signal.Exit from to reason) h = (fits_test reason).1 h.1
sendable_from (Signal.Exit2 from to reason) h = (fits_test reason).1 h.1
sendable_from (Signal.MonitorExit from to r reason) h = (fits_test reason).1 h.1
sendable_from (Signal.MonitorNameExit name to r reason) h = (fits_test reason).1 h.1
sendable_from (Signal.UnlinkId id from to) h = and_from _ true (an_id id h.0) refl
sendable_from (Signal.UnlinkIdAck id from to) h = and_from _ true (an_id id h.0) refl
sendable_from _ h = refl

pub item_sent : (st : Standing) (bytes : List ℕ) (item : Item) (len : ℕ) → state_of st ≡ Up
    → IsFrontIn (state_of st) bytes (Holds (item_of item) len) → CanBeSent item
item_sent st bytes (frame.Signal signal) len up front =
    sendable_from signal (due_sendable signal bytes len (subst (λ s. IsFrontIn s bytes (Holds (Signalled signal false) len)) up front))
item_sent st bytes frame.Tick len up front = tt

-- so of all that is judged
pub was_sent : (was : Taken) → ((item : Item) → was ≡ taken.Item item → CanBeSent item) → IsItemSent was
was_sent (taken.Item item) h = h item refl
was_sent (taken.Message message send) h = tt
was_sent (taken.Broken why) h = tt

pub same_item : (a b : Item) → taken.Item a ≡ taken.Item b → a ≡ b
same_item a b h = cc

pub no_item : (a : Item) (why : Fault) → taken.Item a ≡ taken.Broken why → ⊥
no_item a why h = cc
