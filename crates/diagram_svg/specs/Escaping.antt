-- How a text is written in an XML document, between tags and in the quotes of an attribute.
-- (Extensible Markup Language 1.0, 2.2 Characters, 4.1 Character and Entity References.)
use Rattle.std.specs.Prelude.{ℕ, Bool, ◌==◌, ◌&&◌, ◌||◌, nat_le, nat_lt, List, Option, None, Some, codes, encode_utf8, if◌then◌else◌}
use Rattle.std.specs.List.{flat_map}
use Rattle.std.specs.Str.{chars}

-- a character that a document may have: tab, line feed and carriage return, and all from the space on
-- but the surrogates, U+FFFE and U+FFFF
abbrev pub is_allowed : ℕ → Bool
is_allowed c =
    (c == 9) || (c == 10) || (c == 13) || (nat_le 32 c && nat_lt c 55296) || (nat_le 57344 c && nat_lt c 65534)
    || (nat_le 65536 c && nat_lt c 1114112)

-- what there is to see of a character: U+FFFD, the replacement character, for one that no document may have
abbrev pub seen : ℕ → ℕ
seen c = if is_allowed c then c else 65533

-- The reference by which a character is written: those with a name for the marks of XML, and numbers for
-- the three which a reader may take for a space or for another end of a line.
abbrev pub reference_to : ℕ → Option (List ℕ)
reference_to c =
    if c == 38 then Some (codes "&amp;")
    else if c == 60 then Some (codes "&lt;")
    else if c == 62 then Some (codes "&gt;")
    else if c == 34 then Some (codes "&quot;")
    else if c == 39 then Some (codes "&apos;")
    else if c == 9 then Some (codes "&#9;")
    else if c == 10 then Some (codes "&#10;")
    else if c == 13 then Some (codes "&#13;")
    else None

-- by its reference, or as it is
abbrev pub by_reference : Option (List ℕ) → ℕ → List ℕ
by_reference None c = encode_utf8 (seen c)
by_reference (Some reference) c = reference

abbrev pub escaped : ℕ → List ℕ
escaped c = by_reference (reference_to c) c

-- of the bytes of a text
unfoldable pub escaped_text : List ℕ → List ℕ
escaped_text text = flat_map escaped (chars text)
