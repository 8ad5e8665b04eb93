-- What stands after each tag of the table of terms: nodes, pids, references and lists.
use Rattle.std.proofs.Common.{[], ◌≡◌, ℕ, zero, suc, ◌<◌, Bool, true, false, cond, List, ◌∷◌}
use Rattle.std.proofs.Common.{◌++◌, length, Ok, Err, refl, sym, ap, subst, ◌∙◌, arith, inl, inr}
use Rattle.std.specs.Prelude.{pos, ◌==◌, MatchBool}
use Rattle.std.specs.List.{list_any}
use Rattle.std.specs.Int.{w32, cast_signed}
use Rattle.erl_term.specs.declared.error.TermError.TheVariants.{Malformed}
use Rattle.erl_term.specs.declared.term.Pid.{Pid}
use Rattle.erl_term.specs.declared.term.Reference.{Reference}
use Rattle.erl_term.specs.Data.{Data, int, atom, tuple, Items, count, joined}
use Rattle.erl_term.specs.Spelling.{IsNumber, IsAtom, SpellsAtom, IsList, IsPid, IsReference, Spells}
use Rattle.erl_term.specs.Reading.{Read, ◌>>=◌, read_number, read_atom, read_latin, read_node, read_pid}
use Rattle.erl_term.specs.Reading.{read_word_count, read_words, read_reference, items_with, list_with, arities}
use Rattle.erl_term.proofs.Readers.{Reads, Then, and_then, Reads-then, Reads-same, Reads-by, Mapped, Reads-map}
use Rattle.erl_term.proofs.Bytes.{one_byte, byte_number}
use Rattle.erl_term.proofs.Tags.{each_found, none_found, suc_not}
use Rattle.erl_term.proofs.Base.{Reads-any, IsNumberTo, byte_where, bind_where, IsByteWhere, Reads-where}
use Rattle.erl_term.proofs.TextReader.{IsText}
use Rattle.erl_term.proofs.Utf8.{atom_bytes}
use Rattle.erl_term.proofs.Rows.{Reads-atom, AreItems, Reads-items, IsMagnitude}
use Rattle.erl_term.proofs.Pieces.{LatinText, Reads-latin, latin_to, latin_back, IsWordCount, Reads-word_count, Counted, Reads-words}

-- ---- what stands after each tag

abbrev pub AfterSmall : Data → List ℕ → Type 0
AfterSmall = Mapped (λ n. int (pos n)) (IsNumber 1)

abbrev pub AfterInteger : Data → List ℕ → Type 0
AfterInteger = Mapped (λ n. int (cast_signed w32 n)) (IsNumber 4)

abbrev pub AfterBig : Data → List ℕ → Type 0
AfterBig = Then (IsNumberTo 16 1) (λ n. Then (IsNumberTo 1 1) (IsMagnitude n))

abbrev pub AtomText : ℕ → List ℕ → List ℕ → Type 0
AtomText width = Then (IsNumberTo 1020 width) IsText

abbrev pub AfterAtom : ℕ → Data → List ℕ → Type 0
AfterAtom width = Mapped atom (AtomText width)

abbrev pub AfterTuple : ℕ → (Data → List ℕ → Type 0) → ℕ → Data → List ℕ → Type 0
AfterTuple below Spell width = Then (IsNumberTo (arities below) width) (λ n. Mapped tuple (AreItems Spell n))

-- ---- nodes

abbrev pub node_tags : List ℕ
node_tags = 119 ∷ 118 ∷ 115 ∷ 100 ∷ []

abbrev pub is_node : ℕ → Bool
is_node k = list_any (λ tag. k == tag) node_tags

abbrev pub AfterNode : ℕ → List ℕ → List ℕ → Type 0
AfterNode k a b =
    MatchBool (k == 119) (AtomText 1 a b) (MatchBool (k == 118) (AtomText 2 a b) (MatchBool (k == 115) (LatinText 1 a b) (LatinText 2 a b)))

abbrev pub node_row : ℕ → List ℕ → Read (List ℕ)
node_row k bytes =
    cond (k == 119) (read_atom 1 bytes)
    (cond (k == 118) (read_atom 2 bytes) (cond (k == 115) (read_latin 1 bytes) (cond (k == 100) (read_latin 2 bytes) (Err Malformed))))

pub node_rows : (k : ℕ) → is_node k ≡ true → Reads (AfterNode k) (node_row k)
node_rows k e =
    each_found (λ j. Reads (AfterNode j) (node_row j)) node_tags (Reads-atom 1, (Reads-atom 2, (Reads-latin 1, (Reads-latin 2, tt)))) k e

node_fails : (k : ℕ) (bytes : List ℕ) → is_node k ≡ false → node_row k bytes ≡ Err Malformed
node_fails k bytes e = let p = none_found node_tags k e in rw (p.0, p.1.0, p.1.1.0, p.1.1.1.0) refl

pub node_same : (bytes : List ℕ) → read_node bytes ≡ and_then (byte_where is_node (λ k. Malformed)) node_row bytes
unfolding read_node
node_same bytes = bind_where is_node (λ k. Malformed) node_row bytes node_fails

pub atom_to : (tag width : ℕ) (a back b : List ℕ) → b ≡ tag ∷ back → AtomText width a back → IsAtom tag width a b
atom_to tag width a back b e s =
    let t = s.is_back in
    record {
      len = s.front;
      is_text = t.is_text;
      number = subst (λ (n : ℕ). IsNumber width n s.front) (sym t.len) s.is_front.number;
      bytes = e ∙ ap (λ (w : List ℕ). tag ∷ w) (s.parts ∙ ap (λ (w : List ℕ). s.front ++ w) t.same);
    }

pub atom_back : (tag width : ℕ) (a b : List ℕ) → IsAtom tag width a b → (back : List ℕ) × AtomText width a back × (b ≡ tag ∷ back)
atom_back tag width a b s = (
  s.len ++ a,
  record {
    value = length a;
    front = s.len;
    back = a;
    is_front = record { number = s.number; bound = atom_bytes a s.is_text };
    is_back = record { same = refl; len = refl; is_text = s.is_text };
    parts = refl;
  },
  s.bytes,
)

node_by : (a : List ℕ) (k : ℕ) → is_node k ≡ true → (back b : List ℕ) → b ≡ k ∷ back → AfterNode k a back → SpellsAtom a b
node_by a k e = each_found (λ j. (back b : List ℕ) → b ≡ j ∷ back → AfterNode j a back → SpellsAtom a b) node_tags (
  λ back b p s. inl (atom_to 119 1 a back b p s),
  (
    λ back b p s. inr (inl (atom_to 118 2 a back b p s)),
    (
      λ back b p s.
          inr (inr (inl (latin_to 115 1 a back b p s))),
      (λ back b p s. inr (inr (inr (latin_to 100 2 a back b p s))), tt),
    ),
  ),
) k e

-- the byte at the front, and what stands behind it
pub byte_front : (test : ℕ → Bool) (k : ℕ) (front back b : List ℕ) → IsByteWhere test k front → b ≡ front ++ back → b ≡ k ∷ back
byte_front test k front back b s e = e ∙ ap (λ (w : List ℕ). w ++ back) (one_byte k front s.number)

node_to : (a b : List ℕ) → Then (IsByteWhere is_node) AfterNode a b → SpellsAtom a b
node_to a b s = node_by a s.value s.is_front.passes s.back b (byte_front is_node s.value s.front s.back b s.is_front s.parts) s.is_back

noded : (k : ℕ) (a back b : List ℕ) → is_node k ≡ true → k < 256 → AfterNode k a back → b ≡ k ∷ back
    → Then (IsByteWhere is_node) AfterNode a b
noded k a back b e lt s p = record {
  value = k;
  front = k ∷ [];
  back = back;
  is_front = record { passes = e; number = byte_number k lt };
  is_back = s;
  parts = p;
}

node_back : (a b : List ℕ) → SpellsAtom a b → Then (IsByteWhere is_node) AfterNode a b
node_back a b (inl s) = let t = atom_back 119 1 a b s in noded 119 a t.0 b refl (omega arith) t.1 t.2
node_back a b (inr (inl s)) = let t = atom_back 118 2 a b s in noded 118 a t.0 b refl (omega arith) t.1 t.2
node_back a b (inr (inr (inl s))) = let t = latin_back 115 1 a b s in noded 115 a t.0 b refl (omega arith) t.1 t.2
node_back a b (inr (inr (inr s))) = let t = latin_back 100 2 a b s in noded 100 a t.0 b refl (omega arith) t.1 t.2

pub Reads-node : Reads SpellsAtom read_node
Reads-node =
    Reads-by SpellsAtom (and_then (byte_where is_node (λ k. Malformed)) node_row) read_node node_same
    (Reads-same (Then (IsByteWhere is_node) AfterNode) SpellsAtom
    (and_then (byte_where is_node (λ k. Malformed)) node_row) node_to node_back
    (Reads-then (IsByteWhere is_node) AfterNode (byte_where is_node (λ k. Malformed)) node_row
    (Reads-where is_node (λ k. Malformed) (λ k e. cc) 119 refl (omega arith)) (λ k b s. node_rows k s.passes)))

-- ---- pids

abbrev pub made_pid : List ℕ → ℕ → ℕ → ℕ → Pid
made_pid node id serial creation = record { node = node; id = id; serial = serial; creation = creation }

abbrev pub PidText : Pid → List ℕ → Type 0
PidText = Then SpellsAtom (λ node. Then (IsNumber 4) (λ id. Then (IsNumber 4) (λ serial. Mapped (made_pid node id serial) (IsNumber 4))))

pub Reads-pid : Reads PidText read_pid
unfolding read_pid
Reads-pid =
    Reads-then SpellsAtom
    (λ node. Then (IsNumber 4) (λ id. Then (IsNumber 4) (λ serial. Mapped (made_pid node id serial) (IsNumber 4)))) read_node
    (λ node. and_then (read_number 4) (λ id. and_then (read_number 4)
    (λ serial bytes. read_number 4 bytes >>= λ creation. Ok (made_pid node id serial creation.0, creation.1)))) Reads-node
    (λ node t s. Reads-then (IsNumber 4) (λ id. Then (IsNumber 4) (λ serial. Mapped (made_pid node id serial) (IsNumber 4)))
    (read_number 4)
    (λ id. and_then (read_number 4)
    (λ serial bytes. read_number 4 bytes >>= λ creation. Ok (made_pid node id serial creation.0, creation.1)))
    (Reads-any 4)
    (λ id u v. Reads-then (IsNumber 4) (λ serial. Mapped (made_pid node id serial) (IsNumber 4)) (read_number 4)
    (λ serial bytes. read_number 4 bytes >>= λ creation. Ok (made_pid node id serial creation.0, creation.1)) (Reads-any 4)
    (λ serial w x. Reads-map (made_pid node id serial) (IsNumber 4) (read_number 4) (Reads-any 4))))

pub pid_to : (p : Pid) (b text : List ℕ) → text ≡ 88 ∷ b → PidText p b → IsPid p text
pid_to p b text e s =
    let i = s.is_back in
    let j = i.is_back in
    let c = j.is_back in
    subst (λ (q : Pid). IsPid q text) (sym c.made)
    (record {
      node = s.front;
      id = i.front;
      serial = j.front;
      creation = j.back;
      is_node = s.is_front;
      is_id = i.is_front;
      is_serial = j.is_front;
      is_creation = c.is_text;
      bytes = e
          ∙ ap (λ (w : List ℕ). 88 ∷ w) (s.parts ∙ ap (λ (w : List ℕ). s.front ++ w) (i.parts ∙ ap (λ (w : List ℕ). i.front ++ w) j.parts));
    })

pub pid_back : (p : Pid) (b : List ℕ) → IsPid p b → (back : List ℕ) × PidText p back × (b ≡ 88 ∷ back)
pid_back p b s = (
  s.node ++ (s.id ++ (s.serial ++ s.creation)),
  record {
    value = p.node;
    front = s.node;
    back = s.id ++ (s.serial ++ s.creation);
    is_front = s.is_node;
    parts = refl;
    is_back = record {
      value = p.id;
      front = s.id;
      back = s.serial ++ s.creation;
      is_front = s.is_id;
      parts = refl;
      is_back = record {
        value = p.serial;
        front = s.serial;
        back = s.creation;
        is_front = s.is_serial;
        parts = refl;
        is_back = record { value = p.creation; is_text = s.is_creation; made = refl };
      };
    };
  },
  s.bytes,
)

-- ---- references

abbrev pub made_reference : List ℕ → ℕ → List ℕ → Reference
made_reference node creation words = record { node = node; creation = creation; words = words }

abbrev pub ReferenceText : Reference → List ℕ → Type 0
ReferenceText =
    Then IsWordCount (λ n. Then SpellsAtom (λ node. Then (IsNumber 4) (λ creation. Mapped (made_reference node creation) (Counted n))))

abbrev pub reference_words : ℕ → List ℕ → ℕ → List ℕ → Read Reference
reference_words n node creation bytes = read_words n bytes >>= λ words. Ok (made_reference node creation words.0, words.1)

pub Reads-reference_words : (n : ℕ) (node : List ℕ) (creation : ℕ)
    → Reads (Mapped (made_reference node creation) (Counted n)) (reference_words n node creation)
Reads-reference_words n node creation = Reads-map (made_reference node creation) (Counted n) (read_words n) (Reads-words n)

pub Reads-reference_creation : (n : ℕ) (node : List ℕ) → Reads
    (Then (IsNumber 4) (λ creation. Mapped (made_reference node creation) (Counted n)))
    (and_then (read_number 4) (reference_words n node))
Reads-reference_creation n node =
    Reads-then (IsNumber 4) (λ creation. Mapped (made_reference node creation) (Counted n)) (read_number 4)
    (reference_words n node) (Reads-any 4) (λ creation t s. Reads-reference_words n node creation)

pub Reads-reference_node : (n : ℕ) → Reads
    (Then SpellsAtom (λ node. Then (IsNumber 4) (λ creation. Mapped (made_reference node creation) (Counted n))))
    (and_then read_node (λ node. and_then (read_number 4) (reference_words n node)))
Reads-reference_node n =
    Reads-then SpellsAtom (λ node. Then (IsNumber 4) (λ creation. Mapped (made_reference node creation) (Counted n))) read_node
    (λ node. and_then (read_number 4) (reference_words n node)) Reads-node (λ node t s. Reads-reference_creation n node)

pub Reads-reference : Reads ReferenceText read_reference
unfolding read_reference
Reads-reference =
    Reads-then IsWordCount
    (λ n. Then SpellsAtom (λ node. Then (IsNumber 4) (λ creation. Mapped (made_reference node creation) (Counted n)))) read_word_count
    (λ n. and_then read_node (λ node. and_then (read_number 4) (reference_words n node))) Reads-word_count
    (λ n t s. Reads-reference_node n)

pub reference_to : (r : Reference) (back b : List ℕ) → b ≡ 90 ∷ back → ReferenceText r back → IsReference r b
reference_to r back b e s =
    let i = s.is_back in
    let j = i.is_back in
    let c = j.is_back in
    let n = c.is_text.0 in
    subst (λ (q : Reference). IsReference q b) (sym c.made)
    (record {
      len = s.front;
      node = i.front;
      creation = j.front;
      words = j.back;
      some = let k = s.is_front.some in omega arith;
      few = let k = s.is_front.few in omega arith;
      number = subst (λ (m : ℕ). IsNumber 2 m s.front) (sym n) s.is_front.number;
      is_node = i.is_front;
      is_creation = j.is_front;
      are_words = c.is_text.1;
      bytes = e
          ∙ ap (λ (w : List ℕ). 90 ∷ w) (s.parts ∙ ap (λ (w : List ℕ). s.front ++ w) (i.parts ∙ ap (λ (w : List ℕ). i.front ++ w) j.parts));
    })

pub reference_back : (r : Reference) (b : List ℕ) → IsReference r b → (back : List ℕ) × ReferenceText r back × (b ≡ 90 ∷ back)
reference_back r b s = (
  s.len ++ (s.node ++ (s.creation ++ s.words)),
  record {
    value = length r.words;
    front = s.len;
    back = s.node ++ (s.creation ++ s.words);
    is_front = record { number = s.number; some = s.some; few = s.few };
    parts = refl;
    is_back = record {
      value = r.node;
      front = s.node;
      back = s.creation ++ s.words;
      is_front = s.is_node;
      parts = refl;
      is_back = record {
        value = r.creation;
        front = s.creation;
        back = s.words;
        is_front = s.is_creation;
        parts = refl;
        is_back = record { value = r.words; is_text = (refl, s.are_words); made = refl };
      };
    };
  },
  s.bytes,
)

-- ---- lists

abbrev pub ListText : (Data → List ℕ → Type 0) → Data → List ℕ → Type 0
ListText Spell = Then (IsNumber 4) (λ n. Then (AreItems Spell n) (λ ts. Mapped (joined ts) Spell))

abbrev pub tail_after : (List ℕ → Read Data) → Items → List ℕ → Read Data
tail_after one ts bytes = one bytes >>= λ t. Ok (joined ts t.0, t.1)

abbrev pub cells_at : (List ℕ → Read Data) → List ℕ → Read Data
cells_at one = and_then (read_number 4) (λ n. and_then (items_with one n) (tail_after one))

pub Reads-tail : (Spell : Data → List ℕ → Type 0) (one : List ℕ → Read Data) → Reads Spell one → (n : ℕ)
    → Reads (Then (AreItems Spell n) (λ ts. Mapped (joined ts) Spell)) (and_then (items_with one n) (tail_after one))
Reads-tail Spell one r n =
    Reads-then (AreItems Spell n) (λ ts. Mapped (joined ts) Spell) (items_with one n) (tail_after one)
    (Reads-items Spell one n (λ some. r)) (λ ts t s. Reads-map (joined ts) Spell one r)

pub Reads-cells : (Spell : Data → List ℕ → Type 0) (one : List ℕ → Read Data) → Reads Spell one → Reads (ListText Spell) (cells_at one)
Reads-cells Spell one r =
    Reads-then (IsNumber 4) (λ n. Then (AreItems Spell n) (λ ts. Mapped (joined ts) Spell)) (read_number 4)
    (λ n. and_then (items_with one n) (tail_after one)) (Reads-any 4) (λ n t s. Reads-tail Spell one r n)

pub list_same : (below : ℕ) (one : List ℕ → Read Data) (bytes : List ℕ) → 0 < below → list_with below one bytes ≡ cells_at one bytes
unfolding list_with
list_same zero one bytes lt = absurd (omega arith)
list_same (suc below) one bytes lt = rw (suc_not below) refl

pub list_to : (below : ℕ) (t : Data) (back b : List ℕ) → b ≡ 108 ∷ back → ListText (Spells below) t back → IsList (Spells below) t b
list_to below t back b e s =
    let i = s.is_back in
    let m = i.is_back in
    record {
      items = i.value;
      last = m.value;
      len = s.front;
      elements = i.front;
      tail = i.back;
      number = subst (λ (n : ℕ). IsNumber 4 n s.front) (sym i.is_front.0) s.is_front;
      spelled = i.is_front.1;
      is_tail = m.is_text;
      value = m.made;
      bytes = e ∙ ap (λ (w : List ℕ). 108 ∷ w) (s.parts ∙ ap (λ (w : List ℕ). s.front ++ w) i.parts);
    }

pub list_back : (below : ℕ) (t : Data) (b : List ℕ) → IsList (Spells below) t b → (back : List ℕ) × ListText (Spells below) t back
    × (b ≡ 108 ∷ back)
list_back below t b s = (
  s.len ++ (s.elements ++ s.tail),
  record {
    value = count s.items;
    front = s.len;
    back = s.elements ++ s.tail;
    is_front = s.number;
    parts = refl;
    is_back = record {
      value = s.items;
      front = s.elements;
      back = s.tail;
      is_front = (refl, s.spelled);
      parts = refl;
      is_back = record { value = s.last; is_text = s.is_tail; made = s.value };
    };
  },
  s.bytes,
)
