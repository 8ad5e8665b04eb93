-- The words for terms and items that were read.
-- (ERTS User's Guide, Distribution Protocol, Distribution Flags, Distribution Handshake and Protocol between Connected Nodes.)
use Rattle.std.specs.Prelude.{ℕ, zero, suc, ◌-◌, ◌==◌, ◌%◌, ◌/◌, List, [], ◌++◌, codes, if◌then◌else◌}
use Rattle.std.specs.Fmt.{decimal}
use Rattle.erl_handshake.specs.declared.message.ShakeMsg.{ShakeMsg}
use Rattle.erl_term.specs.View.{view}
use Rattle.item_decoder.specs.declared.answers.Found.{Found}
use Rattle.item_texts.specs.Words.{field, message_text, read_text}
use Rattle.item_texts.specs.declared.reading.ReadItem.{ReadItem}
use Rattle.script_terms.specs.Printing.{term_text}

-- the flag with this bit; nothing if the standard names none
abbrev pub flag_name : ℕ → List ℕ
flag_name bit =
    if bit == 0 then codes "PUBLISHED"
    else if bit == 1 then codes "ATOM_CACHE"
    else if bit == 2 then codes "EXTENDED_REFERENCES"
    else if bit == 3 then codes "DIST_MONITOR"
    else if bit == 4 then codes "FUN_TAGS"
    else if bit == 5 then codes "DIST_MONITOR_NAME"
    else if bit == 6 then codes "HIDDEN_ATOM_CACHE"
    else if bit == 7 then codes "NEW_FUN_TAGS"
    else if bit == 8 then codes "EXTENDED_PIDS_PORTS"
    else if bit == 9 then codes "EXPORT_PTR_TAG"
    else if bit == 10 then codes "BIT_BINARIES"
    else if bit == 11 then codes "NEW_FLOATS"
    else if bit == 12 then codes "UNICODE_IO"
    else if bit == 13 then codes "DIST_HDR_ATOM_CACHE"
    else if bit == 14 then codes "SMALL_ATOM_TAGS"
    else if bit == 16 then codes "UTF8_ATOMS"
    else if bit == 17 then codes "MAP_TAG"
    else if bit == 18 then codes "BIG_CREATION"
    else if bit == 19 then codes "SEND_SENDER"
    else if bit == 20 then codes "BIG_SEQTRACE_LABELS"
    else if bit == 22 then codes "EXIT_PAYLOAD"
    else if bit == 23 then codes "FRAGMENTS"
    else if bit == 24 then codes "HANDSHAKE_23"
    else if bit == 25 then codes "UNLINK_ID"
    else if bit == 26 then codes "MANDATORY_25_DIGEST"
    else if bit == 32 then codes "SPAWN"
    else if bit == 33 then codes "NAME_ME"
    else if bit == 34 then codes "V4_NC"
    else if bit == 35 then codes "ALIAS"
    else []

-- the same, or `bit` and its number
abbrev pub named_or : ℕ → (name : List ℕ) → List ℕ
named_or bit [] = codes "bit" ++ decimal bit
named_or bit name = name

abbrev pub flag_text : ℕ → List ℕ
flag_text bit = named_or bit (flag_name bit)

-- the flag, if its bit is the lowest and is set
abbrev pub one_flag : (flag bits : ℕ) → List ℕ
one_flag flag bits = if bits % 2 == 1 then field (flag_text flag) else []

-- the flags whose bits are set, of so many bits that are left of 64. The lowest is that of the next flag
abbrev pub flag_words : (left bits : ℕ) → List ℕ
flag_words zero bits = []
flag_words (suc left) bits = one_flag (64 - suc left) bits ++ flag_words left (bits / 2)

-- a message, and the names of its flags behind it
abbrev pub flags_in : ShakeMsg → List ℕ
flags_in (ShakeMsg.SendName flags creation name) = flag_words 64 flags
flags_in (ShakeMsg.Challenge flags challenge creation name) = flag_words 64 flags
flags_in message = []

abbrev pub message_words : ShakeMsg → List ℕ
message_words message = message_text message ++ flags_in message

abbrev pub found_text : Found → List ℕ
found_text (Found.Term term) = codes "term " ++ term_text (view term)
found_text (Found.Item (ReadItem.Message message)) = message_words message
found_text (Found.Item item) = read_text item
