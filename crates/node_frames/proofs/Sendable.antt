-- Signals that have a frame.
use Rattle.std.proofs.Common.{◌≡◌, ◌^◌, ℕ, true, ◌&&◌, nat_lt, nat_le, rules}
use Rattle.std.proofs.lemmas.Bool.{and_parts}
use Rattle.erl_control.proofs.FitsTest.{fits_test}
use Rattle.erl_control.specs.Control.{IsSendable, IsUnlinkId}
use Rattle.erl_control.specs.declared.signal.Signal.{Signal}
use Rattle.node_frames.specs.Sendable.{is_sendable}

an_id : (id : ℕ) → (nat_le 1 id && nat_lt id (2 ^ 64)) ≡ true → IsUnlinkId id
an_id id h =
    let a = (and_parts (nat_le 1 id) (nat_lt id (2 ^ 64)) h).0 in
    let b = (and_parts (nat_le 1 id) (nat_lt id (2 ^ 64)) h).1 in
    (search (rules, a), search (rules, b))

pub sendable_is : (signal : Signal) → is_sendable signal ≡ true → IsSendable signal
sendable_is (Signal.Send to message) h = (tt, (fits_test message).0 h)
sendable_is (Signal.RegSend from name message) h = (tt, (fits_test message).0 h)
sendable_is (Signal.Exit from to reason) h = (tt, (fits_test reason).0 h)
sendable_is (Signal.Exit2 from to reason) h = (tt, (fits_test reason).0 h)
sendable_is (Signal.MonitorExit from to r reason) h = (tt, (fits_test reason).0 h)
sendable_is (Signal.MonitorNameExit name to r reason) h = (tt, (fits_test reason).0 h)
sendable_is (Signal.UnlinkId id from to) h = (an_id id (and_parts (nat_le 1 id && nat_lt id (2 ^ 64)) true h).0, tt)
sendable_is (Signal.UnlinkIdAck id from to) h = (an_id id (and_parts (nat_le 1 id && nat_lt id (2 ^ 64)) true h).0, tt)
sendable_is _ h = (tt, tt)
