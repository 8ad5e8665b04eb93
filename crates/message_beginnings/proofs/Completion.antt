-- The beginnings of names: a beginning ends before the `@`, or behind it, and it is completed by the letter a.
use Rattle.std.proofs.Common.{◌≡◌, ℕ, ◌+◌, ◌-◌, ◌<◌, ◌≤◌, Bool, true, false, nat_lt, if◌then◌else◌, List, [], ◌∷◌, ◌++◌}
use Rattle.std.proofs.Common.{length, take, drop, get_or, None, Some, position, ap, refl, sym, ◌∙◌, subst, append_assoc, arith}
use Rattle.std.proofs.Common.{length-append, length-drop, length-take, replicate}
use Rattle.std.specs.List.{AllPass}
use Rattle.std.proofs.Math.Seq.{get_or-append_seam, take-append_seam, drop-append-add}
use Rattle.std.proofs.lemmas.List.{get_or_append_left, length-replicate}
use Rattle.std.proofs.lemmas.List.Elements.{All-append, All-replicate, All-take}
use Rattle.std.proofs.lemmas.List.Sums.{split_at_first, position_or_len_is, passes_at_first}
use Rattle.std.proofs.lemmas.Bool.{eqb-true, lt-ltb}
use Rattle.readers.specs.Places.{Begins}
use Rattle.erl_names.specs.Name.{is_name_byte, is_host_byte}
use Rattle.erl_names.proofs.Names.{is_at, at, at-found, rest-is}
use Rattle.message_beginnings.specs.Parts.{IsNameOf}

-- ---- the first `@`

not_at : (b : ℕ) → is_name_byte b ≡ true → is_at b ≡ false
not_at b e = by (is_at b) refl
  where
    by : (c : Bool) → is_at b ≡ c → c ≡ false
    by true h = let same : b ≡ 64 = eqb-true b 64 h in let wrong : false ≡ true = rw same at e in cc
    by false h = refl

at-is : (name host : List ℕ) → AllPass is_name_byte name → at (name ++ 64 ∷ host) ≡ length name
at-is name host word =
    position_or_len_is is_at (name ++ 64 ∷ host) (length name) 0 (omega (arith, length-append name (64 ∷ host)))
    (λ k lt. rw (get_or_append_left name (64 ∷ host) 0 k lt) (not_at (get_or name k 0) (word k 0 lt)))
    (λ lt. ap is_at (get_or-append_seam name 64 host 0))

some_if : (b : Bool) (i : ℕ) → b ≡ true → (if b then Some i else None) ≡ Some i
some_if true i e = refl
some_if false i e = absurd cc

-- behind the bytes of a first word it is found
place : (text name host : List ℕ) → text ≡ name ++ 64 ∷ host → AllPass is_name_byte name → position is_at text ≡ Some (length name)
place text name host e word =
    let found : at text ≡ length name = ap at e ∙ at-is name host word in
    let lt : at text < length text = omega (arith, ap length e, length-append name (64 ∷ host)) in
    some_if (nat_lt (at text) (length text)) (at text) (lt-ltb (at text) (length text) lt) ∙ ap (λ (k : ℕ). Some k) found

-- ---- where a beginning of a name ends

-- the beginning is a part of the first word, or has it whole with the `@`
data Cut (name host text more : List ℕ) : Type 0 where
  in_name : (r : List ℕ) → name ≡ text ++ r → Cut name host text more
  in_host : (k : List ℕ) → text ≡ name ++ 64 ∷ k → host ≡ k ++ more → Cut name host text more

cut : (name host text more : List ℕ) → name ++ 64 ∷ host ≡ text ++ more → Cut name host text more
cut name host [] more e = in_name name refl
cut [] host (t ∷ text) more e =
    let head : 64 ≡ t = cc in
    let tail : host ≡ text ++ more = cc in
    in_host text (ap (λ (k : ℕ). k ∷ text) (sym head)) tail
cut (n ∷ name) host (t ∷ text) more e =
    let head : n ≡ t = cc in
    let tail : name ++ 64 ∷ host ≡ text ++ more = cc in
    elim (cut name host text more tail) [
      | in_name r p ↦ in_name r (ap (λ (w : List ℕ). n ∷ w) p ∙ ap (λ (k : ℕ). k ∷ (text ++ r)) head)
      | in_host k p q ↦ in_host k (ap (λ (w : List ℕ). t ∷ w) p ∙ ap (λ (j : ℕ). j ∷ (name ++ 64 ∷ k)) (sym head)) q
    ]

AllPass-left : (p : ℕ → Bool) (xs ys all : List ℕ) → all ≡ xs ++ ys → AllPass p all → AllPass p xs
AllPass-left p xs ys all e h =
    subst (AllPass p) (ap (take (length xs)) e ∙ take-append_seam xs ys) (All-take (λ (x : ℕ). p x ≡ true) (length xs) all h)

-- ---- a name that begins with the text

-- the word that is open, and the bytes that are there
pub record IsOpen (len : ℕ) (text : List ℕ) : Type 0 where
  pub are_name : AllPass is_name_byte text
  pub room : length text + 2 ≤ len

pub record IsParted (len i : ℕ) (text : List ℕ) : Type 0 where
  pub name_there : 0 < i
  pub host_room : i + 1 < len
  pub are_name : AllPass is_name_byte (take i text)
  pub are_host : AllPass is_host_byte (take (length text - (i + 1)) (drop (i + 1) text))

pub letters : (p : ℕ → Bool) (n : ℕ) → p 97 ≡ true → AllPass p (replicate n 97)
letters p n e = All-replicate (λ (x : ℕ). p x ≡ true) n 97 e

pub open_begins : (len : ℕ) (text : List ℕ) → 3 ≤ len → len ≤ 64 → IsOpen len text → Begins (IsNameOf len) text
open_begins len text long short o = record { value = whole; more = fill ++ 64 ∷ 97 ∷ []; is_text = is_name_of }
  where
    fill : List ℕ
    fill = replicate (len - 2 - length text) 97

    whole : List ℕ
    whole = (text ++ fill) ++ 64 ∷ 97 ∷ []

    fill_len : length fill ≡ len - 2 - length text
    fill_len = length-replicate (len - 2 - length text) 97

    word_len : length (text ++ fill) ≡ len - 2
    word_len = length-append text fill ∙ (let r = o.room in omega (arith, fill_len))

    whole_len : length whole ≡ len
    whole_len = length-append (text ++ fill) (64 ∷ 97 ∷ []) ∙ omega (arith, word_len)

    is_name_of : IsNameOf len whole (text ++ (fill ++ 64 ∷ 97 ∷ []))
    is_name_of = record {
      is_name = record {
        name = text ++ fill;
        host = 97 ∷ [];
        parts = refl;
        name_word = (omega (arith, word_len), All-append (λ (x : ℕ). is_name_byte x ≡ true) text fill o.are_name (letters is_name_byte _ refl));
        host_word = (omega arith, letters is_host_byte 1 refl);
        short = omega (arith, whole_len);
      };
      len_is = whole_len;
      parts = sym (append_assoc text fill (64 ∷ 97 ∷ []));
    }

pub parted_begins : (len i : ℕ) (text : List ℕ) → 3 ≤ len → len ≤ 64 → length text ≤ len → Some i ≡ position is_at text
    → IsParted len i text → Begins (IsNameOf len) text
parted_begins len i text long short within e p = record { value = text ++ fill; more = fill; is_text = is_name_of }
  where
    found : (at text < length text) × (at text ≡ i)
    found = at-found text i (sym e)

    fill : List ℕ
    fill = replicate (len - length text) 97

    host : List ℕ
    host = drop (i + 1) text

    fill_len : length fill ≡ len - length text
    fill_len = length-replicate (len - length text) 97

    whole_len : length (text ++ fill) ≡ len
    whole_len = length-append text fill ∙ omega (arith, fill_len)

    split : text ≡ take i text ++ 64 ∷ host
    split =
        subst (λ (k : ℕ). text ≡ take k text ++ 64 ∷ drop (k + 1) text) found.1
        (split_at_first is_at text 0 found.0 ∙ ap (λ (b : ℕ). take (at text) text ++ b ∷ drop (at text + 1) text)
        (eqb-true (get_or text (at text) 0) 64 (passes_at_first is_at text 0 found.0)))

    name_len : length (take i text) ≡ i
    name_len = length-take i text ∙ omega (arith, found.0, found.1)

    host_len : length (host ++ fill) ≡ len - (i + 1)
    host_len = length-append host fill ∙ omega (arith, fill_len, length-drop (i + 1) text, found.0, found.1)

    is_name_of : IsNameOf len (text ++ fill) (text ++ fill)
    is_name_of = record {
      is_name = record {
        name = take i text;
        host = host ++ fill;
        parts = ap (λ (w : List ℕ). w ++ fill) split ∙ append_assoc (take i text) (64 ∷ host) fill;
        name_word = (let t = p.name_there in omega (arith, name_len), p.are_name);
        host_word = (
          let t = p.host_room in omega (arith, host_len),
          All-append (λ (x : ℕ). is_host_byte x ≡ true) host fill (subst (AllPass is_host_byte) (rest-is text (i + 1)) p.are_host)
              (letters is_host_byte _ refl),
        );
        short = omega (arith, whole_len);
      };
      len_is = whole_len;
      parts = refl;
    }

-- ---- and back

-- the words of the name that begins with the text
begun_cut : (len : ℕ) (text : List ℕ) (b : Begins (IsNameOf len) text)
    → Cut b.is_text.is_name.name b.is_text.is_name.host text b.more
begun_cut len text b =
    let n = b.is_text.is_name in
    cut n.name n.host text b.more (sym n.parts ∙ sym b.is_text.parts)

name_len : (len : ℕ) (text : List ℕ) (b : Begins (IsNameOf len) text)
    → length b.is_text.is_name.name + 1 + length b.is_text.is_name.host ≡ len
name_len len text b =
    let n = b.is_text.is_name in
    omega (arith, sym (ap length n.parts) ∙ b.is_text.len_is, length-append n.name (64 ∷ n.host))

pub begun_open : (len : ℕ) (text : List ℕ) → None ≡ position is_at text → Begins (IsNameOf len) text → IsOpen len text
begun_open len text e b =
    let n = b.is_text.is_name in
    let l = name_len len text b in
    let h = n.host_word.0 in
    elim (begun_cut len text b) [
      | in_name r p ↦
          record {
            are_name = AllPass-left is_name_byte text r n.name p n.name_word.1;
            room = omega (arith, ap length p, length-append text r);
          }
      | in_host k p q ↦ absurd (let found = place text n.name k p n.name_word.1 in cc)
    ]

pub begun_parted : (len i : ℕ) (text : List ℕ) → Some i ≡ position is_at text → Begins (IsNameOf len) text → IsParted len i text
begun_parted len i text e b =
    let n = b.is_text.is_name in
    let l = name_len len text b in
    let h = n.host_word.0 in
    elim (begun_cut len text b) [
      | in_name r p ↦ absurd (no_place (AllPass-left is_name_byte text r n.name p n.name_word.1))
      | in_host k p q ↦
          let found = place text n.name k p n.name_word.1 in
          let same : length n.name ≡ i = cc in
          let name_is : take i text ≡ n.name = ap (λ (j : ℕ). take j text) (sym same) ∙ ap (take (length n.name)) p
          ∙ take-append_seam n.name (64 ∷ k) in
          let host_is : drop (i + 1) text ≡ k = ap (λ (j : ℕ). drop (j + 1) text) (sym same) ∙ ap (drop (length n.name + 1)) p
          ∙ drop-append-add n.name (64 ∷ k) 1 in
          record {
            name_there = let w = n.name_word.0 in omega arith;
            host_room = omega arith;
            are_name = subst (AllPass is_name_byte) (sym name_is) n.name_word.1;
            are_host = subst (AllPass is_host_byte) (sym (rest-is text (i + 1) ∙ host_is))
                (AllPass-left is_host_byte k b.more n.host q n.host_word.1);
          }
    ]
  where
    no_place : AllPass is_name_byte text → ⊥
    no_place all =
        let found = at-found text i (sym e) in
        let yes = passes_at_first is_at text 0 found.0 in
        let no = not_at (get_or text (at text) 0) (all (at text) 0 found.0) in
        cc

pub clash : (b : Bool) → b ≡ true → b ≡ false → ⊥
clash b y n = cc
