-- The errors that the reader from the left answers.
use Rattle.std.proofs.Common.{◌≡◌, ℕ, zero, suc, Bool, true, false, cond, List, Result, Ok, Err, ap, subst}
use Rattle.std.specs.Prelude.{◌==◌}
use Rattle.erl_term.specs.declared.error.TermError.{TermError}
use Rattle.erl_term.specs.declared.error.TermError.TheVariants.{Cut, Malformed, OutOfProfile, TooDeep, TooLong, OutOfMemory}
use Rattle.erl_term.specs.Data.{Data}
use Rattle.erl_term.specs.Reading.{Read, ◌>>=◌, read_number, read_bounded, read_part, read_small}
use Rattle.erl_term.specs.Reading.{read_integer, read_big, read_text, read_atom}
use Rattle.erl_term.specs.Reading.{read_letters, read_latin, read_node, read_pid, read_word_count, read_words, read_reference, read_string}
use Rattle.erl_term.specs.Reading.{read_binary, items_with, arities, tuple_with, list_with, row_with, read_term, read_spelling}

abbrev pub IsReadError : TermError → Type 0
IsReadError TooLong = ⊥
IsReadError OutOfMemory = ⊥
IsReadError e = Unit {0}

-- if the result is an error, it is one that a reader answers
pub record ErrsWell {A : Type 0} (r : Result A TermError) : Type 0 where
  pub well : (e : TermError) → r ≡ Err e → IsReadError e

fine : {A : Type 0} (x : A) → ErrsWell (Ok x)
fine x = record { well = λ e h. absurd cc }

fault : {A : Type 0} (f : TermError) → IsReadError f → ErrsWell {A = A} (Err f)
fault f k = record { well = λ e h. subst IsReadError (let q : f ≡ e = cc in q) k }

bind : {A B : Type 0} (r : Result A TermError) (f : A → Result B TermError) → ErrsWell r → ((x : A) → ErrsWell (f x)) → ErrsWell (r >>= f)
bind (Ok x) f h k = k x
bind (Err e) f h k = record { well = λ g q. h.well g (let z : e ≡ g = cc in ap (λ (y : TermError). Err y) z) }

choose : {A : Type 0} (b : Bool) (x y : Result A TermError) → ErrsWell x → ErrsWell y → ErrsWell (cond b x y)
choose true x y h k = h
choose false x y h k = k

cut : {A : Type 0} → ErrsWell {A = A} (Err Cut)
cut = fault Cut tt

bad : {A : Type 0} → ErrsWell {A = A} (Err Malformed)
bad = fault Malformed tt

any : (n : ℕ) (bytes : List ℕ) → ErrsWell (read_number n bytes)
any n bytes = choose _ _ _ cut (fine _)

number : (fault : TermError) (most n : ℕ) (bytes : List ℕ) → ErrsWell {A = ℕ × List ℕ} (Err fault)
    → ErrsWell (read_bounded fault most n bytes)
number fault most n bytes h = choose _ _ _ h (any n bytes)

text : (n : ℕ) (bytes : List ℕ) → ErrsWell (read_text n bytes)
unfolding read_text
text n bytes = choose _ _ _ (choose _ _ _ cut bad) (choose _ _ _ (fine _) bad)

atom : (width : ℕ) (bytes : List ℕ) → ErrsWell (read_atom width bytes)
unfolding read_atom
atom width bytes =
    bind (read_bounded Malformed 1020 width bytes) (λ n. read_text n.0 n.1) (number Malformed 1020 width bytes bad) (λ n. text n.0 n.1)

small : (bytes : List ℕ) → ErrsWell (read_small bytes)
unfolding read_small
small bytes = bind (read_number 1 bytes) _ (any 1 bytes) (λ n. fine _)

integer : (bytes : List ℕ) → ErrsWell (read_integer bytes)
unfolding read_integer
integer bytes = bind (read_number 4 bytes) _ (any 4 bytes) (λ n. fine _)

big : (bytes : List ℕ) → ErrsWell (read_big bytes)
unfolding read_big
big bytes =
    bind (read_bounded (OutOfProfile 110) 16 1 bytes) _ (number (OutOfProfile 110) 16 1 bytes
    (fault (OutOfProfile 110) tt)) (λ n. bind (read_bounded Malformed 1 1 n.1) _ (number Malformed 1 1 n.1 bad)
    (λ s. bind (read_part n.0 s.1) _ (choose _ _ _ cut (fine _)) (λ m. choose _ _ _ (fine _) (fault (OutOfProfile 110) tt))))

part : (n : ℕ) (bytes : List ℕ) → ErrsWell (read_part n bytes)
part n bytes = choose _ _ _ cut (fine _)

letters : (width : ℕ) (bytes : List ℕ) → ErrsWell (read_letters width bytes)
unfolding read_letters
letters width bytes = bind (read_bounded Malformed 255 width bytes) _ (number Malformed 255 width bytes bad) (λ n. part n.0 n.1)

latin : (width : ℕ) (bytes : List ℕ) → ErrsWell (read_latin width bytes)
unfolding read_latin
latin width bytes = bind (read_letters width bytes) _ (letters width bytes) (λ a. fine _)

node : (bytes : List ℕ) → ErrsWell (read_node bytes)
unfolding read_node
node bytes =
    bind (read_number 1 bytes) _ (any 1 bytes)
    (λ t. choose _ _ _ (atom 1 t.1) (choose _ _ _ (atom 2 t.1) (choose _ _ _ (latin 1 t.1) (choose _ _ _ (latin 2 t.1) bad))))

a_pid : (bytes : List ℕ) → ErrsWell (read_pid bytes)
unfolding read_pid
a_pid bytes =
    bind (read_node bytes) _ (node bytes)
    (λ n. bind (read_number 4 n.1) _ (any 4 n.1) (λ i. bind (read_number 4 i.1) _ (any 4 i.1)
    (λ s. bind (read_number 4 s.1) _ (any 4 s.1) (λ c. fine _))))

word_count : (bytes : List ℕ) → ErrsWell (read_word_count bytes)
unfolding read_word_count
word_count bytes = bind (read_bounded Malformed 5 2 bytes) _ (number Malformed 5 2 bytes bad) (λ n. choose _ _ _ bad (fine _))

words : (n : ℕ) (bytes : List ℕ) → ErrsWell (read_words n bytes)
unfolding read_words
words zero bytes = fine _
words (suc n) bytes = bind (read_number 4 bytes) _ (any 4 bytes) (λ w. bind (read_words n w.1) _ (words n w.1) (λ ws. fine _))

a_reference : (bytes : List ℕ) → ErrsWell (read_reference bytes)
unfolding read_reference
a_reference bytes =
    bind (read_word_count bytes) _ (word_count bytes) (λ n. bind (read_node n.1) _ (node n.1)
    (λ a. bind (read_number 4 a.1) _ (any 4 a.1) (λ c. bind (read_words n.0 c.1) _ (words n.0 c.1) (λ ws. fine _))))

a_string : (bytes : List ℕ) → ErrsWell (read_string bytes)
unfolding read_string
a_string bytes = bind (read_number 2 bytes) _ (any 2 bytes) (λ n. bind (read_part n.0 n.1) _ (part n.0 n.1) (λ p. fine _))

a_binary : (bytes : List ℕ) → ErrsWell (read_binary bytes)
unfolding read_binary
a_binary bytes = bind (read_number 4 bytes) _ (any 4 bytes) (λ n. bind (read_part n.0 n.1) _ (part n.0 n.1) (λ p. fine _))

items : (one : List ℕ → Read Data) → ((bytes : List ℕ) → ErrsWell (one bytes)) → (n : ℕ) (bytes : List ℕ)
    → ErrsWell (items_with one n bytes)
unfolding items_with
items one h zero bytes = fine _
items one h (suc n) bytes = bind (one bytes) _ (h bytes) (λ t. bind (items_with one n t.1) _ (items one h n t.1) (λ ts. fine _))

tuple : (below : ℕ) (one : List ℕ → Read Data) → ((bytes : List ℕ) → ErrsWell (one bytes)) → (width : ℕ) (bytes : List ℕ)
    → ErrsWell (tuple_with below one width bytes)
unfolding tuple_with
tuple below one h width bytes =
    bind (read_bounded TooDeep (arities below) width bytes) _ (number TooDeep (arities below) width bytes (fault TooDeep tt))
    (λ n. bind (items_with one n.0 n.1) _ (items one h n.0 n.1) (λ ts. fine _))

a_list : (below : ℕ) (one : List ℕ → Read Data) → ((bytes : List ℕ) → ErrsWell (one bytes)) → (bytes : List ℕ)
    → ErrsWell (list_with below one bytes)
unfolding list_with
a_list below one h bytes =
    choose _ _ _ (fault TooDeep tt) (bind (read_number 4 bytes) _ (any 4 bytes)
    (λ n. bind (items_with one n.0 n.1) _ (items one h n.0 n.1) (λ ts. bind (one ts.1) _ (h ts.1) (λ t. fine _))))

row : (below : ℕ) (one : List ℕ → Read Data) → ((bytes : List ℕ) → ErrsWell (one bytes)) → (tag : ℕ) (bytes : List ℕ)
    → ErrsWell (row_with below one tag bytes)
unfolding row_with
row below one h tag bytes =
    choose (tag == 97) _ _ (small bytes) (choose (tag == 98) _ _ (integer bytes) (choose (tag == 110) _ _ (big bytes) (choose
    (tag == 118) _ _ (bind (read_atom 2 bytes) _ (atom 2 bytes) (λ a. fine _))
    (choose (tag == 119) _ _ (bind (read_atom 1 bytes) _ (atom 1 bytes) (λ a. fine _))
    (choose (tag == 104) _ _ (tuple below one h 1 bytes)
    (choose (tag == 105) _ _ (tuple below one h 4 bytes) (choose (tag == 88) _ _ (bind (read_pid bytes) _ (a_pid bytes) (λ p. fine _))
    (choose (tag == 115) _ _ (bind (read_latin 1 bytes) _ (latin 1 bytes) (λ a. fine _)) (choose (tag == 100) _ _
    (bind (read_latin 2 bytes) _ (latin 2 bytes) (λ a. fine _))
    (choose (tag == 106) _ _ (fine _) (choose (tag == 107) _ _ (a_string bytes)
    (choose (tag == 108) _ _ (a_list below one h bytes) (choose (tag == 109) _ _ (a_binary bytes)
    (choose (tag == 90) _ _ (bind (read_reference bytes) _ (a_reference bytes) (λ r. fine _)) (fault (OutOfProfile tag) tt)))))))))))))))

term : (levels : ℕ) (bytes : List ℕ) → ErrsWell (read_term levels bytes)
unfolding read_term
term zero bytes = fault TooDeep tt
term (suc below) bytes = bind (read_number 1 bytes) _ (any 1 bytes) (λ t. row below (read_term below) (term below) t.0 t.1)

spelling : (bytes : List ℕ) → ErrsWell (read_spelling bytes)
unfolding read_spelling
spelling bytes = bind (read_number 1 bytes) _ (any 1 bytes) (λ v. choose _ _ _ (term 64 v.1) bad)

pub read_error : (bytes : List ℕ) (e : TermError) → read_spelling bytes ≡ Err e → IsReadError e
read_error bytes e h = (spelling bytes).well e h
