-- Which signals have a frame: what they carry fits, and an id is 1 to 2^64 - 1.
-- (ERTS User's Guide, Distribution Protocol, Protocol between Connected Nodes.)
use Rattle.std.specs.Prelude.{◌^◌, ◌&&◌, nat_le, nat_lt, Bool, true, List, [], ◌∷◌}
use Rattle.erl_control.specs.Fits.{fits}
use Rattle.erl_control.specs.declared.signal.Signal.{Signal}

abbrev pub carries_fit : Signal → Bool
carries_fit (Signal.Send to message) = fits message
carries_fit (Signal.RegSend from name message) = fits message
carries_fit (Signal.Exit from to reason) = fits reason
carries_fit (Signal.Exit2 from to reason) = fits reason
carries_fit (Signal.MonitorExit from to r reason) = fits reason
carries_fit (Signal.MonitorNameExit name to r reason) = fits reason
carries_fit _ = true

abbrev pub has_id : Signal → Bool
has_id (Signal.UnlinkId id from to) = nat_le 1 id && nat_lt id (2 ^ 64)
has_id (Signal.UnlinkIdAck id from to) = nat_le 1 id && nat_lt id (2 ^ 64)
has_id _ = true

abbrev pub is_sendable : Signal → Bool
is_sendable signal = has_id signal && carries_fit signal

abbrev pub are_sendable : List Signal → Bool
are_sendable [] = true
are_sendable (signal ∷ rest) = is_sendable signal && are_sendable rest
