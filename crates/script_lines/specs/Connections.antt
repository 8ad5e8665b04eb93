-- The words for a connection and for a number.
-- (ERTS User's Guide, Distribution Protocol, Distribution Handshake. The form of a connection's name is own.)
use Rattle.std.specs.Prelude.{ℕ, ◌^◌, ◌==◌, ◌&&◌, not, Bool, List, length, nat_lt, Option, None, Some, Result, Ok, Err, if◌then◌else◌}
use Rattle.std.specs.List.{after_first, before_first, list_all}
use Rattle.std.specs.Str.Parse.{digits_value}
use Rattle.erl_names.specs.Name.{is_node_name}
use Rattle.erl_names.specs.declared.trunk.TrunkId.{TrunkId}
use Rattle.erl_term.specs.Reading.{◌>>=◌}
use Rattle.script_lines.specs.declared.reason.Reason.{Reason}
use Rattle.script_lines.specs.declared.reason.Reason.TheVariants.{WrongWords}
use Rattle.script_terms.specs.Words.{is_digit}

-- one decimal digit or more, and nothing else
abbrev pub is_numeral : List ℕ → Bool
is_numeral word = not (length word == 0) && list_all is_digit word

-- a number below a limit
abbrev pub number_in : (limit : ℕ) → List ℕ → Result ℕ Reason
number_in limit word =
    if is_numeral word && nat_lt (digits_value 10 word) limit then Ok (digits_value 10 word) else Err WrongWords

abbrev pub is_slash : ℕ → Bool
is_slash c = c == 47

-- the node that dialed, and the number of the connection among its own, of 64 bits
abbrev pub trunk_with : (dialer count : List ℕ) → Result TrunkId Reason
trunk_with dialer count =
    if is_node_name dialer then (number_in (2 ^ 64) count >>= λ n. Ok (record { dialer = dialer; count = n })) else Err WrongWords

-- DIALER/COUNT
abbrev pub trunk_named : List ℕ → Result TrunkId Reason
trunk_named word = trunk_with (before_first is_slash word) (after_first is_slash word)

-- the word may be left out
abbrev pub trunk_in : Option (List ℕ) → Result (Option TrunkId) Reason
trunk_in None = Ok None
trunk_in (Some word) = trunk_named word >>= λ trunk. Ok (Some trunk)
