-- The outcome of a decoding, and the exit status of the program.
use Rattle.std.specs.Prelude.{ℕ}
use Rattle.item_decoder.specs.declared.running.Decoded.{Decoded}

abbrev pub decoded_status : Decoded → ℕ
decoded_status Decoded.Read = 0
decoded_status (Decoded.BadLine number fault) = 3
decoded_status Decoded.OutOfMemory = 4
decoded_status Decoded.Failed = 6
decoded_status Decoded.Faulty = 7
