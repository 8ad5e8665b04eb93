-- The `@` of a name is its first, so the words of a name are known.
use Rattle.std.proofs.Common.{◌≡◌, ℕ, ◌+◌, ◌-◌, ◌<◌, ◌≤◌, ◌==◌, Bool, true, false, nat_lt, if◌then◌else◌, List, [], ◌∷◌, ◌++◌, length}
use Rattle.std.proofs.Common.{take, drop, get_or, None, Some, position, ap, refl, sym, ◌∙◌, subst, arith, length-append, length-drop}
use Rattle.std.specs.List.{position_or_len, list_all}
use Rattle.std.proofs.Math.Seq.{get_or-append_seam, take-append_seam, drop-append-add}
use Rattle.std.proofs.lemmas.List.{get_or_append_left, take_all}
use Rattle.std.proofs.lemmas.List.Sums.{split_at_first, position_or_len_is, passes_at_first}
use Rattle.std.proofs.lemmas.Bool.{eqb-true, ltb-true, lt-ltb}
use Rattle.std.specs.Str.{IsUtf8, chars}
use Rattle.std.proofs.lemmas.Str.{chars-encodes, length-le-encodes}
use Rattle.erl_names.specs.Name.{IsNodeName, IsWord, is_name_byte, is_host_byte, is_word}

abbrev pub is_at : ℕ → Bool
is_at b = b == 64

-- where the first `@` is
abbrev pub at : List ℕ → ℕ
at text = position_or_len is_at text

not_at : (b : ℕ) → is_name_byte b ≡ true → is_at b ≡ false
not_at b e = by (is_at b) refl
  where
    by : (c : Bool) → is_at b ≡ c → c ≡ false
    by true h = let same : b ≡ 64 = eqb-true b 64 h in let wrong : false ≡ true = rw same at e in cc
    by false h = refl

-- it ends the first word
at-is : (name host : List ℕ) → IsWord is_name_byte name → at (name ++ 64 ∷ host) ≡ length name
at-is name host word =
    position_or_len_is is_at (name ++ 64 ∷ host) (length name) 0 (omega (arith, length-append name (64 ∷ host)))
    (λ k lt. rw (get_or_append_left name (64 ∷ host) 0 k lt) (not_at (get_or name k 0) (word.1 k 0 lt)))
    (λ lt. ap is_at (get_or-append_seam name 64 host 0))

-- the words that the first `@` parts
pub record HasWords (text : List ℕ) : Type 0 where
  pub found : at text < length text
  pub name_word : IsWord is_name_byte (take (at text) text)
  pub host_word : IsWord is_host_byte (drop (at text + 1) text)
  pub short : length text ≤ 64

words_of : (name host : List ℕ) → IsWord is_name_byte name → IsWord is_host_byte host → length (name ++ 64 ∷ host) ≤ 64
    → HasWords (name ++ 64 ∷ host)
words_of name host n h short =
    record {
      found = rw (at-is name host n) (omega (arith, length-append name (64 ∷ host)));
      name_word = rw (at-is name host n, take-append_seam name (64 ∷ host)) n;
      host_word = rw (at-is name host n, drop-append-add name (64 ∷ host) 1) h;
      short = short;
    }

pub has_words : (text : List ℕ) → IsNodeName text → HasWords text
has_words text n =
    subst HasWords (sym n.parts) (words_of n.name n.host n.name_word n.host_word (subst (λ (t : List ℕ). length t ≤ 64) n.parts n.short))

pub is_node_name : (text : List ℕ) → HasWords text → IsNodeName text
is_node_name text w =
    record {
      name = take (at text) text;
      host = drop (at text + 1) text;
      parts = split_at_first is_at text 0 w.found ∙ ap (λ (b : ℕ). take (at text) text ++ b ∷ drop (at text + 1) text)
          (eqb-true (get_or text (at text) 0) 64 (passes_at_first is_at text 0 w.found));
      name_word = w.name_word;
      host_word = w.host_word;
      short = w.short;
    }

position_by : (b : Bool) (i n : ℕ) → (if b then Some i else None) ≡ Some n → (b ≡ true) × (i ≡ n)
position_by true i n e = (refl, cc)
position_by false i n e = cc

-- the place that was found
pub at-found : (text : List ℕ) (i : ℕ) → position is_at text ≡ Some i → (at text < length text) × (at text ≡ i)
at-found text i e = let p = position_by (nat_lt (at text) (length text)) (at text) i e in (ltb-true (at text) (length text) p.0, p.1)

none_by : (b : Bool) (i : ℕ) → (if b then Some i else None) ≡ None → b ≡ false
none_by true i e = cc
none_by false i e = refl

-- no place was found
pub at-none : (text : List ℕ) → position is_at text ≡ None → IsNodeName text → ⊥
at-none text e n =
    let no = none_by (nat_lt (at text) (length text)) (at text) e in
    let yes = lt-ltb (at text) (length text) (has_words text n).found in
    cc

abbrev IsName : List ℕ → Type 0
IsName = IsWord is_name_byte

abbrev IsHost : List ℕ → Type 0
IsHost = IsWord is_host_byte

-- the bytes from k on, as a range
pub rest-is : (text : List ℕ) (k : ℕ) → take (length text - k) (drop k text) ≡ drop k text
rest-is text k = take_all (length text - k) (drop k text) (omega (arith, length-drop k text))

-- the words round the place that was found
pub name_found : (text : List ℕ) (i : ℕ) → Some i ≡ position is_at text → IsNodeName text → IsName (take i text)
name_found text i e n = subst (λ (k : ℕ). IsName (take k text)) (at-found text i (sym e)).1 (has_words text n).name_word

pub host_found : (text : List ℕ) (i : ℕ) → Some i ≡ position is_at text → IsNodeName text
    → IsHost (take (length text - (i + 1)) (drop (i + 1) text))
host_found text i e n =
    rw (rest-is text (i + 1)) (subst (λ (k : ℕ). IsHost (drop (k + 1) text)) (at-found text i (sym e)).1 (has_words text n).host_word)

pub form_found : (text : List ℕ) (i : ℕ) → Some i ≡ position is_at text → length text ≤ 64 → IsName (take i text)
    → IsHost (take (length text - (i + 1)) (drop (i + 1) text)) → IsNodeName text
form_found text i e short name host =
    let f = at-found text i (sym e) in
    is_node_name text
    (record {
      found = f.0;
      name_word = subst (λ (k : ℕ). IsName (take k text)) (sym f.1) name;
      host_word = subst (λ (k : ℕ). IsHost (drop (k + 1) text)) (sym f.1) (subst IsHost (rest-is text (i + 1)) host);
      short = short;
    })

-- a text has no more characters than bytes
pub chars-le : (text : List ℕ) → IsUtf8 text → length (chars text) ≤ length text
chars-le text u =
    let same : chars text ≡ u.0 = ap chars (sym u.1.1) ∙ chars-encodes u.0 u.1.0 in
    let long : length u.0 ≤ length text = subst (λ (t : List ℕ). length u.0 ≤ length t) u.1.1 (length-le-encodes u.0) in
    rw same long

-- a name is short enough for an atom
pub chars_in_name : (text copy : List ℕ) → copy ≡ text → IsUtf8 text → IsNodeName text → length (chars copy) ≤ 255
chars_in_name text copy e u n = rw e (omega (arith, chars-le text u, n.short))

-- of a word that isn't empty its bytes decide
pub word_test : (passes : ℕ → Bool) (word : List ℕ) (all : Bool) → false ≡ (length word == 0) → all ≡ list_all passes word
    → all ≡ is_word passes word
word_test passes [] all h e = absurd cc
word_test passes (b ∷ word) all h e = e
