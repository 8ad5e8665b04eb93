-- Texts that are written as they are.
use Rattle.std.proofs.Common.{◌≡◌, ℕ, zero, suc, ◌+◌, ◌%◌, ◌<◌, ◌≤◌, ◌^◌, Bool, true, ◌&&◌, nat_lt, List, []}
use Rattle.std.proofs.Common.{◌∷◌, ◌++◌, Option, None, Some, is_none, refl, ap, ◌∙◌, arith, codes, decimal, encode_utf8}
use Rattle.std.specs.List.{flat_map, list_all}
use Rattle.std.specs.Str.{IsAscii}
use Rattle.std.proofs.lemmas.Bool.{and_parts, cond-true, ltb-true}
use Rattle.std.proofs.lemmas.Fmt.{decimal_by_steps}
use Rattle.std.proofs.lemmas.List.Folds.{list_all-append}
use Rattle.std.proofs.lemmas.Str.{chars-IsAscii, encode_ascii}
use Rattle.diagram_svg.specs.Document.{area}
use Rattle.diagram_svg.specs.Escaping.{by_reference, escaped, escaped_text, is_allowed, reference_to}

-- a byte that stands for itself
abbrev pub is_itself : ℕ → Bool
is_itself c = nat_lt c 128 && (is_allowed c && is_none (reference_to c))

none_is : (o : Option (List ℕ)) → is_none o ≡ true → o ≡ None
none_is None h = refl
none_is (Some x) h = cc

itself_ascii : (c : ℕ) → is_itself c ≡ true → c < 128
itself_ascii c h = ltb-true c 128 (and_parts (nat_lt c 128) (is_allowed c && is_none (reference_to c)) h).0

itself_escaped : (c : ℕ) → is_itself c ≡ true → escaped c ≡ c ∷ []
itself_escaped c h =
    let both = and_parts (nat_lt c 128) (is_allowed c && is_none (reference_to c)) h in
    let rest = and_parts (is_allowed c) (is_none (reference_to c)) both.1 in
    ap (λ (o : Option (List ℕ)). by_reference o c) (none_is (reference_to c) rest.1)
    ∙ ap encode_utf8 (cond-true (is_allowed c) c 65533 rest.0)
    ∙ encode_ascii c (itself_ascii c h)

all_escaped : (bytes : List ℕ) → list_all is_itself bytes ≡ true → flat_map escaped bytes ≡ bytes
all_escaped [] h = refl
all_escaped (c ∷ cs) h =
    ap (λ (text : List ℕ). text ++ flat_map escaped cs) (itself_escaped c (and_parts (is_itself c) (list_all is_itself cs) h).0)
    ∙ ap (λ (text : List ℕ). c ∷ text) (all_escaped cs (and_parts (is_itself c) (list_all is_itself cs) h).1)

all_ascii : (bytes : List ℕ) → list_all is_itself bytes ≡ true → IsAscii bytes
all_ascii [] h i = omega arith
all_ascii (c ∷ cs) h zero = itself_ascii c (and_parts (is_itself c) (list_all is_itself cs) h).0
all_ascii (c ∷ cs) h (suc i) = all_ascii cs (and_parts (is_itself c) (list_all is_itself cs) h).1 i

-- such a text is written as it is
pub plain_text : (bytes : List ℕ) → list_all is_itself bytes ≡ true → escaped_text bytes ≡ bytes
unfolding escaped_text
plain_text bytes h = ap (flat_map escaped) (chars-IsAscii bytes (all_ascii bytes h)) ∙ all_escaped bytes h

digit_itself : (d : ℕ) → d < 10 → is_itself (48 + d) ≡ true
digit_itself (suc (suc (suc (suc (suc (suc (suc (suc (suc (suc d)))))))))) h = absurd (omega arith)
digit_itself _ h = refl

pub decimal_itself : (n : ℕ) → n < 2 ^ 64 → list_all is_itself (decimal n) ≡ true
decimal_itself n h =
    decimal_by_steps (λ (n : ℕ) (ds : List ℕ). list_all is_itself ds ≡ true)
    (λ (n : ℕ) (low : n < 10). ap (λ (b : Bool). b && true) (digit_itself n low))
    (λ (n : ℕ) (ds : List ℕ) (low : 10 ≤ n) (rest : list_all is_itself ds ≡ true).
    let small : n % 10 < 10 = omega arith in
    list_all-append is_itself ds ((48 + n % 10) ∷ []) ∙ ap (λ (b : Bool). b && list_all is_itself ((48 + n % 10) ∷ [])) rest
    ∙ ap (λ (b : Bool). b && true) (digit_itself (n % 10) small))
    n h

pub plain_decimal : (n : ℕ) → n < 2 ^ 64 → escaped_text (decimal n) ≡ decimal n
plain_decimal n h = plain_text (decimal n) (decimal_itself n h)

joined : (a b : List ℕ) → list_all is_itself a ≡ true → list_all is_itself b ≡ true → list_all is_itself (a ++ b) ≡ true
joined a b h k = list_all-append is_itself a b ∙ ap (λ (x : Bool). x && list_all is_itself b) h ∙ k

pub plain_area : (width height : ℕ) → width < 2 ^ 64 → height < 2 ^ 64 → escaped_text (area width height) ≡ area width height
plain_area width height wide high =
    plain_text (area width height)
    (joined (codes "0 0 " ++ decimal width ++ codes " ") (decimal height)
    (joined (codes "0 0 " ++ decimal width) (codes " ") (joined (codes "0 0 ") (decimal width) refl (decimal_itself width wide)) refl)
    (decimal_itself height high))
