-- The objects about items, in JSON, an object a line.
use Rattle.std.specs.Prelude.{ℕ, zero, suc, ◌+◌, ◌-◌, ◌==◌, ◌%◌, ◌/◌, List, [], ◌∷◌, ◌++◌, codes, map, string_bytes, if◌then◌else◌}
use Rattle.erl_handshake.specs.declared.message.ShakeMsg.{ShakeMsg}
use Rattle.erl_term.specs.Data.{Data as Term}
use Rattle.erl_term.specs.View.{view}
use Rattle.item_decoder.specs.Lines.{why_name, why_number}
use Rattle.item_decoder.specs.Words.{flag_text}
use Rattle.item_decoder.specs.declared.answers.Answer.{Answer}
use Rattle.item_decoder.specs.declared.answers.Found.{Found}
use Rattle.item_decoder.specs.declared.answers.Why.{Why}
use Rattle.item_decoder.specs.declared.told.Told.{Told}
use Rattle.item_texts.specs.declared.reading.ReadItem.{ReadItem}
use Rattle.script_json.specs.Fields.{fields_data}
use Rattle.script_terms.specs.Printing.{term_text}
use Rattle.serde_json.specs.Data.{Data, array, member, no_members, number, object, string, unsigned}
use Rattle.serde_json.specs.View.{items_of}
use Rattle.serde_json.specs.Written.{compact_text}

-- the name of the flag, if its bit is the lowest and is set
abbrev pub one_name : (flag bits : ℕ) → List (List ℕ)
one_name flag bits = if bits % 2 == 1 then flag_text flag ∷ [] else []

-- the names of the flags whose bits are set, of so many bits that are left of 64
abbrev pub flag_names : (left bits : ℕ) → List (List ℕ)
flag_names zero bits = []
flag_names (suc left) bits = one_name (64 - suc left) bits ++ flag_names left (bits / 2)

abbrev pub names_data : List (List ℕ) → Data
names_data names = array (items_of (map string names))

-- a term as its text, or an item by its fields
abbrev pub term_data : Term → Data
term_data term = object (member (codes "term") (string (term_text term)) no_members)

abbrev pub told_item : Found → Data
told_item (Found.Term term) = term_data (view term)
told_item (Found.Item item) = fields_data item

-- an item at this place, of so many bytes
abbrev pub plain_data : (at : ℕ) → (item : Data) → (len : ℕ) → Data
plain_data at item len =
    object (member (codes "at") (number (unsigned at)) (member (codes "item") item (member (codes "length") (number (unsigned len)) no_members)))

-- the same of a message that has flags
abbrev pub flagged_data : (at : ℕ) → (flags : List (List ℕ)) → (item : Data) → (len : ℕ) → Data
flagged_data at flags item len =
    object (member (codes "at") (number (unsigned at)) (member (codes "flags") (names_data flags)
    (member (codes "item") item (member (codes "length") (number (unsigned len)) no_members))))

abbrev pub found_data : (at : ℕ) → Found → (len : ℕ) → Data
found_data at (Found.Item (ReadItem.Message (ShakeMsg.SendName flags creation name))) len =
    flagged_data at (flag_names 64 flags) (told_item (Found.Item (ReadItem.Message (ShakeMsg.SendName flags creation name)))) len
found_data at (Found.Item (ReadItem.Message (ShakeMsg.Challenge flags challenge creation name))) len =
    flagged_data at (flag_names 64 flags) (told_item (Found.Item (ReadItem.Message (ShakeMsg.Challenge flags challenge creation name)))) len
found_data at found len = plain_data at (told_item found) len

-- bytes that end inside an item
abbrev pub cut_data : (at place : ℕ) → (words : List ℕ) → Data
cut_data at place words =
    object (member (codes "at") (number (unsigned at)) (member (codes "cut")
    (object (member (codes "place") (number (unsigned place)) (member (codes "why") (string words) no_members))) no_members))

-- a fault
abbrev pub fault_data : (at place : ℕ) → Why → (words : List ℕ) → Data
fault_data at place why words =
    object (member (codes "at") (number (unsigned at)) (member (codes "fault")
    (object (member (codes "name") (string (why_name why)) (member (codes "number") (number (unsigned (why_number why)))
    (member (codes "place") (number (unsigned place)) (member (codes "why") (string words) no_members))))) no_members))

abbrev pub data_by : (at : ℕ) → Answer → (place : ℕ) → (words : List ℕ) → Data
data_by at (Answer.Found found n) place words = found_data at found n
data_by at Answer.Begun place words = cut_data at (at + place) words
data_by at (Answer.Refused why) place words = fault_data at (at + place) why words

abbrev pub told_data : (at : ℕ) → Told → Data
told_data at told = data_by at told.answer told.place (string_bytes told.why)

abbrev pub json_line : (at : ℕ) → Told → List ℕ
json_line at told = compact_text (told_data at told) ++ codes "\n"
