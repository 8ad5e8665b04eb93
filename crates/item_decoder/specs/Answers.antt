-- The answer of a reader to bytes, as it is due to them.
-- (ERTS User's Guide, External Term Format; Distribution Protocol, Distribution Handshake and Protocol between Connected Nodes.)
use Rattle.std.specs.Prelude.{◌≢◌, ℕ, Bool, true, false, List, Some, None, Ok, Err}
use Rattle.erl_control.specs.Answer.{IsFrameDue}
use Rattle.erl_control.specs.Numbers.{error_of}
use Rattle.erl_control.specs.declared.signal.Item.{Item}
use Rattle.erl_control.specs.declared.signal.Item.TheVariants as frame
use Rattle.erl_handshake.specs.Answer.{IsShakeDue}
use Rattle.erl_term.specs.Answer.{IsDue}
use Rattle.erl_term.specs.View.{view}
use Rattle.erl_term.specs.declared.error.TermError.TheVariants.{Cut}
use Rattle.erl_term.specs.declared.refusal.Refusal.TheVariants.{BadMessage}
use Rattle.fault_places.specs.declared.places.Reader.{Reader}
use Rattle.item_decoder.specs.declared.answers.Answer.{Answer}
use Rattle.item_decoder.specs.declared.answers.Found.{Found as WasFound}
use Rattle.item_decoder.specs.declared.answers.Why.{Why}
use Rattle.item_texts.specs.declared.reading.ReadItem.{ReadItem}

-- found at the front by a reader, in so many bytes
abbrev pub IsFound : Reader → List ℕ → WasFound → ℕ → Type 0
IsFound Reader.Term bytes (WasFound.Term t) n = IsDue bytes (Ok (view t, n))
IsFound Reader.Frame bytes (WasFound.Item (ReadItem.Signal signal)) n = IsFrameDue bytes (Ok (Some (frame.Signal signal, n)))
IsFound Reader.Frame bytes (WasFound.Item ReadItem.Tick) n = IsFrameDue bytes (Ok (Some (frame.Tick, n)))
IsFound (Reader.Message role) bytes (WasFound.Item (ReadItem.Message message)) n = IsShakeDue role bytes (Ok (Some (message, n)))
IsFound reader bytes found n = ⊥

-- more bytes are needed
abbrev pub IsBegun : Reader → List ℕ → Type 0
IsBegun Reader.Term bytes = IsDue bytes (Err Cut)
IsBegun Reader.Frame bytes = IsFrameDue bytes (Ok None)
IsBegun (Reader.Message role) bytes = IsShakeDue role bytes (Ok None)

-- the fault of the bytes
abbrev pub IsRefused : Reader → List ℕ → Why → Type 0
IsRefused Reader.Term bytes (Why.Term error) = (error ≢ Cut) × IsDue bytes (Err error)
IsRefused Reader.Frame bytes (Why.Frame fault) = IsFrameDue bytes (Err (error_of fault))
IsRefused (Reader.Message role) bytes Why.Message = IsShakeDue role bytes (Err BadMessage)
IsRefused reader bytes why = ⊥

abbrev pub IsAnswer : Reader → List ℕ → Answer → Type 0
IsAnswer reader bytes (Answer.Found found n) = IsFound reader bytes found n
IsAnswer reader bytes Answer.Begun = IsBegun reader bytes
IsAnswer reader bytes (Answer.Refused why) = IsRefused reader bytes why

-- an item was read
abbrev pub is_found : Answer → Bool
is_found (Answer.Found found n) = true
is_found answer = false

-- the answer where a frame has this item
abbrev pub framed_answer : Item → ℕ → Answer
framed_answer (frame.Signal signal) n = Answer.Found (WasFound.Item (ReadItem.Signal signal)) n
framed_answer frame.Tick n = Answer.Found (WasFound.Item ReadItem.Tick) n
