-- Reading terms one after the other, as a loop does.
use Rattle.std.proofs.Common.{◌≡◌, ℕ, suc, ◌-◌, ◌+◌, ◌≤◌, ◌<◌, List, [], ◌∷◌, ◌++◌, length}
use Rattle.std.proofs.Common.{take, set, append_assoc, Ok, Err, refl, sym, ap, ◌∙◌, arith}
use Rattle.std.proofs.lemmas.List.{append-nil, take_more_set}
use Rattle.erl_term.specs.declared.error.TermError.{TermError}
use Rattle.erl_term.specs.Data.{Data, Items, no_items, item}
use Rattle.erl_term.specs.View.{items_of}
use Rattle.erl_term.specs.Reading.{◌>>=◌, Read, Fails, read_number, read_words, items_with}

abbrev pub put_front : List Data → Items → Items
put_front [] ts = ts
put_front (d ∷ ds) ts = item d (put_front ds ts)

-- what was read before, and what is still read
abbrev pub with_front : List Data → Read Items → Read Items
with_front front read = read >>= λ x. Ok (put_front front x.0, x.1)

put_front-push : (front : List Data) (d : Data) (ts : Items) → put_front (front ++ d ∷ []) ts ≡ put_front front (item d ts)
put_front-push [] d ts = refl
put_front-push (e ∷ front) d ts = ap (item e) (put_front-push front d ts)

put_front-end : (front : List Data) → put_front front no_items ≡ items_of front
put_front-end [] = refl
put_front-end (e ∷ front) = ap (item e) (put_front-end front)

regroup : (front : List Data) (d : Data) (read : Read Items)
    → with_front front (read >>= λ x. Ok (item d x.0, x.1)) ≡ with_front (front ++ d ∷ []) read
regroup front d (Ok x) = ap (λ (ts : Items). Ok (ts, x.1)) (sym (put_front-push front d x.0))
regroup front d (Err f) = refl

pub goes_on : (one : List ℕ → Read Data) (front : List Data) (count i : ℕ) (bytes : List ℕ) (d : Data) (after : List ℕ) (total : Read Items)
    → i < count → one bytes ≡ Ok (d, after)
    → with_front front (items_with one (count - i) bytes) ≡ total
    → with_front (front ++ d ∷ []) (items_with one (count - (i + 1)) after) ≡ total
unfolding items_with
goes_on one front count i bytes d after total lt h so_far =
    let k : count - i ≡ suc (count - (i + 1)) = omega arith in
    let e : with_front front (items_with one (count - i) bytes) ≡ with_front (front ++ d ∷ []) (items_with one (count - (i + 1)) after) =
    rw (k, h) (regroup front d (items_with one (count - (i + 1)) after)) in
    sym e ∙ so_far

pub ends : (one : List ℕ → Read Data) (e : TermError) (front : List Data) (count i : ℕ) (bytes : List ℕ) (total : Read Items)
    → i < count → Fails e (one bytes)
    → with_front front (items_with one (count - i) bytes) ≡ total → Fails e total
unfolding items_with
ends one e front count i bytes total lt h so_far = λ known.
    let k : count - i ≡ suc (count - (i + 1)) = omega arith in
    let all : with_front front (items_with one (count - i) bytes) ≡ Err e = rw (k, h known) refl in
    sym so_far ∙ all

pub is_done : (one : List ℕ → Read Data) (front : List Data) (count i : ℕ) (bytes : List ℕ) (total : Read Items) → count ≤ i
    → with_front front (items_with one (count - i) bytes) ≡ total → total ≡ Ok (items_of front, bytes)
unfolding items_with
is_done one front count i bytes total le so_far =
    let k : count - i ≡ 0 = omega arith in
    let all : with_front front (items_with one (count - i) bytes) ≡ Ok (items_of front, bytes) =
    rw k (ap (λ (ts : Items). Ok (ts, bytes)) (put_front-end front)) in
    sym so_far ∙ all

-- ---- words

-- what was read before, and what is still read
abbrev pub with_words : List ℕ → Read (List ℕ) → Read (List ℕ)
with_words front read = read >>= λ x. Ok (front ++ x.0, x.1)

regroup_words : (front : List ℕ) (w : ℕ) (read : Read (List ℕ))
    → with_words front (read >>= λ x. Ok (w ∷ x.0, x.1)) ≡ with_words (front ++ w ∷ []) read
regroup_words front w (Ok x) = ap (λ (ws : List ℕ). Ok (ws, x.1)) (sym (append_assoc front (w ∷ []) x.0))
regroup_words front w (Err e) = refl

pub word_goes_on : (words : List ℕ) (count i w : ℕ) (bytes after : List ℕ) (total : Read (List ℕ)) → i < count
    → i < length words → read_number 4 bytes ≡ Ok (w, after)
    → with_words (take i words) (read_words (count - i) bytes) ≡ total
    → with_words (take (i + 1) (set words i w)) (read_words (count - (i + 1)) after) ≡ total
unfolding read_words
word_goes_on words count i w bytes after total lt room h so_far =
    let k : count - i ≡ suc (count - (i + 1)) = omega arith in
    let front : take (i + 1) (set words i w) ≡ take i words ++ w ∷ [] = take_more_set words i w room in
    let e : with_words (take i words) (read_words (count - i) bytes) ≡ with_words (take i words ++ w ∷ [])
    (read_words (count - (i + 1)) after) = rw (k, h) (regroup_words (take i words) w (read_words (count - (i + 1)) after)) in
    ap (λ (f : List ℕ). with_words f (read_words (count - (i + 1)) after)) front ∙ sym e ∙ so_far

pub word_ends : (front : List ℕ) (count i : ℕ) (e : TermError) (bytes : List ℕ) (total : Read (List ℕ)) → i < count
    → read_number 4 bytes ≡ Err e → with_words front (read_words (count - i) bytes) ≡ total → total ≡ Err e
unfolding read_words
word_ends front count i e bytes total lt h so_far =
    let k : count - i ≡ suc (count - (i + 1)) = omega arith in
    let all : with_words front (read_words (count - i) bytes) ≡ Err e = rw (k, h) refl in
    sym so_far ∙ all

pub words_done : (words : List ℕ) (count i : ℕ) (bytes : List ℕ) (total : Read (List ℕ)) → i ≡ count
    → with_words (take i words) (read_words (count - i) bytes) ≡ total → total ≡ Ok (take count words, bytes)
unfolding read_words
words_done words count i bytes total same so_far =
    let k : count - i ≡ 0 = omega arith in
    let all : with_words (take i words) (read_words (count - i) bytes) ≡ Ok (take i words, bytes) =
    rw k (ap (λ (ws : List ℕ). Ok (ws, bytes)) (append-nil (take i words))) in
    sym so_far ∙ all ∙ ap (λ (n : ℕ). Ok (take n words, bytes)) same
