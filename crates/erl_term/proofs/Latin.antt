-- How long the text of letters of Latin-1 is.
use Rattle.std.proofs.Common.{◌≡◌, ℕ, ◌+◌, ◌<◌, ◌++◌, List, length, get_or, take, refl, ap, arith}
use Rattle.std.specs.Str.{encode_utf8_all}
use Rattle.std.proofs.Math.Utf8.{encode}
use Rattle.std.proofs.lemmas.List.{length-append}
use Rattle.erl_term.proofs.Pieces.{latin_more}

-- one letter more
pub latin_longer : (letters : List ℕ) (i len more : ℕ) → i < length letters → more ≡ length (encode (get_or letters i 0))
    → len ≡ length (encode_utf8_all (take i letters)) → len + more ≡ length (encode_utf8_all (take (i + 1) letters))
latin_longer letters i len more lt one so_far =
    let x = get_or letters i 0 in
    let all =
    ap length (latin_more letters i (encode_utf8_all (take i letters)) (encode_utf8_all (take i letters) ++ encode x) lt refl refl) in
    let both = length-append (encode_utf8_all (take i letters)) (encode x) in
    omega arith
