-- The numbers of the errors, and which of them say that bytes are no frame.
use Rattle.std.specs.Prelude.{ℕ, Option, Some, None}
use Rattle.erl_control.specs.declared.error.FrameError.{FrameError}
use Rattle.erl_control.specs.declared.error.FrameError.TheVariants.{NotPassThrough, BadControl, TooLong, Term, OutOfMemory}
use Rattle.erl_control.specs.declared.error.FrameFault.{FrameFault}
use Rattle.erl_control.specs.declared.error.FrameFault.TheVariants as fault

abbrev pub frame_error_number : FrameError → ℕ
frame_error_number NotPassThrough = 6
frame_error_number BadControl = 7
frame_error_number TooLong = 8
frame_error_number (Term e) = 9
frame_error_number OutOfMemory = 12

abbrev pub frame_fault_number : FrameFault → ℕ
frame_fault_number fault.NotPassThrough = 6
frame_fault_number fault.BadControl = 7
frame_fault_number fault.TooLong = 8
frame_fault_number (fault.Term e) = 9

-- all but want of memory
abbrev pub fault_of : FrameError → Option FrameFault
fault_of NotPassThrough = Some fault.NotPassThrough
fault_of BadControl = Some fault.BadControl
fault_of TooLong = Some fault.TooLong
fault_of (Term e) = Some (fault.Term e)
fault_of OutOfMemory = None

-- the same error
abbrev pub error_of : FrameFault → FrameError
error_of fault.NotPassThrough = NotPassThrough
error_of fault.BadControl = BadControl
error_of fault.TooLong = TooLong
error_of (fault.Term e) = Term e
