-- Parts of a row, and the items of a control term.
use Rattle.std.proofs.Common.{◌≡◌, ℕ, ◌<◌, ◌^◌, Bool, true, List, [], ◌∷◌, ◌++◌, refl, sym, ap, subst, ◌∙◌, append_assoc}
use Rattle.std.proofs.lemmas.List.{append-nil}
use Rattle.std.specs.Prelude.{pos}
use Rattle.erl_term.specs.Data.{Data, int, Items, no_items, item}
use Rattle.erl_term.specs.Parts.{IsHead, IsTupleHead}
use Rattle.erl_term.specs.Spelling.{SpellAll, Spells, IsSpelling}
use Rattle.erl_term.proofs.Behind.{head_of}
use Rattle.erl_control.specs.declared.signal.Signal.{Signal}
use Rattle.erl_control.specs.Control.{control_in, message_in, IsUnlinkId, HasId}
use Rattle.erl_control.specs.Frame.{SpellsMessage, IsSignalText}
use Rattle.erl_control.specs.Reading.{IsRowHead, tag_of, arity_of}
use Rattle.erl_control.proofs.Table.{fields_of, Row, control_row, control_unrow, row_head, row_unhead}
use Rattle.control_beginnings.specs.declared.parts.Part.{Part}
use Rattle.control_beginnings.specs.declared.parts.Part.TheVariants.{Id, Of, Term, Message}
use Rattle.control_beginnings.specs.Parts.{IsTagAt, IsPart, AreParts, IsRowText, is_of}

-- an item that a part can be
abbrev pub Fits : Part → Data → Type 0
Fits Id t = (id : ℕ) × IsUnlinkId id × (t ≡ int (pos id))
Fits (Of kind) t = is_of kind t ≡ true
Fits Term t = Unit {0}
Fits Message t = ⊥

abbrev pub AllFit : List Part → Items → Type 0
AllFit [] no_items = Unit {0}
AllFit [] (item t ts) = ⊥
AllFit (part ∷ parts) no_items = ⊥
AllFit (part ∷ parts) (item t ts) = Fits part t × AllFit parts ts

-- no message
abbrev pub AreOfTerm : List Part → Type 0
AreOfTerm [] = Unit {0}
AreOfTerm (Message ∷ parts) = ⊥
AreOfTerm (part ∷ parts) = AreOfTerm parts

part_to : (levels : ℕ) (part : Part) (t : Data) (x : List ℕ) → Fits part t → Spells levels t x → IsPart levels part x
part_to levels Id t x (id, u, e) s = (id, u, subst (λ (v : Data). Spells levels v x) e s)
part_to levels (Of kind) t x f s = (t, f, s)
part_to levels Term t x f s = (t, s)
part_to levels Message t x f s = absurd f

pub items_parts : (levels : ℕ) (parts more : List Part) (ts : Items) (b m : List ℕ) → AllFit parts ts → SpellAll (Spells levels) ts b
    → AreParts levels more m → AreParts levels (parts ++ more) (b ++ m)
items_parts levels [] more no_items b m f s r = subst (λ (w : List ℕ). AreParts levels more (w ++ m)) (sym s) r
items_parts levels [] more (item t ts) b m f s r = absurd f
items_parts levels (part ∷ parts) more no_items b m f s r = absurd f
items_parts levels (part ∷ parts) more (item t ts) b m f s r = (
  s.0,
  s.1 ++ m,
  part_to levels part t s.0 f.0 s.2,
  items_parts levels parts more ts s.1 m f.1 s.3 r,
  ap (λ (w : List ℕ). w ++ m) s.4 ∙ append_assoc s.0 s.1 m,
)

-- parts as items, and the bytes behind them
pub record Split (levels : ℕ) (parts more : List Part) (b : List ℕ) : Type 0 where
  pub items : Items
  pub front : List ℕ
  pub back : List ℕ
  pub fit : AllFit parts items
  pub spelled : SpellAll (Spells levels) items front
  pub are_more : AreParts levels more back
  pub bytes : b ≡ front ++ back

joined : (levels : ℕ) (part : Part) (parts more : List Part) (t : Data) (b x y : List ℕ) → Fits part t → Spells levels t x
    → b ≡ x ++ y → Split levels parts more y → Split levels (part ∷ parts) more b
joined levels part parts more t b x y f s e r = record {
  items = item t r.items;
  front = x ++ r.front;
  back = r.back;
  fit = (f, r.fit);
  spelled = (x, r.front, s, r.spelled, refl);
  are_more = r.are_more;
  bytes = e ∙ ap (λ (w : List ℕ). x ++ w) r.bytes ∙ sym (append_assoc x r.front r.back);
}

pub parts_items : (levels : ℕ) (parts more : List Part) (b : List ℕ) → AreOfTerm parts → AreParts levels (parts ++ more) b
    → Split levels parts more b
parts_items levels [] more b n s =
    record { items = no_items; front = []; back = b; fit = tt; spelled = refl; are_more = s; bytes = refl }
parts_items levels (Id ∷ parts) more b n (x, y, (id, u, s), r, e) =
    joined levels Id parts more (int (pos id)) b x y (id, u, refl) s e (parts_items levels parts more y n r)
parts_items levels (Of kind ∷ parts) more b n (x, y, (t, f, s), r, e) =
    joined levels (Of kind) parts more t b x y f s e (parts_items levels parts more y n r)
parts_items levels (Term ∷ parts) more b n (x, y, (t, s), r, e) =
    joined levels Term parts more t b x y tt s e (parts_items levels parts more y n r)
parts_items levels (Message ∷ parts) more b n s = absurd n

-- ---- a row is the text of a signal

pub record Opened (arity tag : ℕ) (parts more : List Part) (b : List ℕ) : Type 0 where
  pub levels : ℕ
  pub front : List ℕ
  pub first : List ℕ
  pub behind : List ℕ
  pub is_head : IsTupleHead 64 (head_of arity levels) front
  pub is_tag : IsTagAt levels tag first
  pub split : Split levels parts more behind
  pub bytes : b ≡ front ++ (first ++ behind)

pub opened : (arity tag : ℕ) (parts more : List Part) (b : List ℕ) → AreOfTerm parts → IsRowText arity tag (parts ++ more) b
    → Opened arity tag parts more b
opened arity tag parts more b n r =
    let h = r.is_head in
    let els = r.are_elements in
    record {
      levels = r.head.levels;
      front = r.front;
      first = els.0;
      behind = els.1;
      is_head = record {
        k = h.k;
        below = h.below;
        text = h.text;
        is_text = (h.is_text.0, subst (λ (m : ℕ). IsHead m h.text) r.is_arity h.is_text.1);
        depth = h.depth;
        bytes = h.bytes;
      };
      is_tag = els.2;
      split = parts_items r.head.levels parts more els.1 n els.3;
      bytes = r.bytes ∙ ap (λ (w : List ℕ). r.front ++ w) els.4;
    }

module _ (unused : Data) (s : Signal) (payload : Bool) (parts more : List Part) (b : List ℕ) where
  pub closed : (o : Opened (arity_of s payload) (tag_of s payload) parts more b) → tag_of s payload < 2 ^ 64 → HasId s
      → fields_of unused s payload ≡ o.split.items → SpellsMessage (message_in s payload) o.split.back → IsSignalText s (131 ∷ b)
  closed o lt id e told =
      let front : List ℕ = 131 ∷ (o.front ++ o.first) in
      let head : IsRowHead (head_of (arity_of s payload) o.levels, tag_of s payload) front = record {
        front = 131 ∷ o.front;
        back = o.first;
        is_front = record { head = o.front; is_head = o.is_head; bytes = refl };
        is_back = (lt, o.is_tag);
        parts = refl;
      } in
      let row : Row (tag_of s payload) (fields_of unused s payload) (front ++ o.split.front) = record {
        levels = o.levels;
        front = front;
        fields = o.split.front;
        is_front = row_unhead unused s payload o.levels front head;
        are_fields = subst (λ (ts : Items). SpellAll (Spells o.levels) ts o.split.front) (sym e) o.split.spelled;
        parts = refl;
      } in
      record {
        payload = payload;
        unused = unused;
        control = front ++ o.split.front;
        message = o.split.back;
        has_id = id;
        spelled = control_unrow unused s payload (front ++ o.split.front) row;
        told = told;
        bytes = ap (λ (w : List ℕ). 131 ∷ w)
            (o.bytes ∙ ap (λ (w : List ℕ). o.front ++ (o.first ++ w)) o.split.bytes
            ∙ ap (λ (w : List ℕ). o.front ++ w) (sym (append_assoc o.first o.split.front o.split.back))
            ∙ sym (append_assoc o.front (o.first ++ o.split.front) o.split.back)
            ∙ ap (λ (w : List ℕ). w ++ o.split.back) (sym (append_assoc o.front o.first o.split.front)));
      }

  -- ---- and the text of a signal is a row

  pub made : (control message : List ℕ) → IsSpelling 64 (control_in unused s payload) control
      → AllFit parts (fields_of unused s payload) → ((levels : ℕ) → AreParts levels more message)
      → 131 ∷ b ≡ control ++ message → IsRowText (arity_of s payload) (tag_of s payload) (parts ++ more) b
  made control message i fit told e =
      let w = control_row unused s payload control i in
      let h = row_head unused s payload w.levels w.front w.is_front in
      let o = h.is_front in
      let behind : List ℕ = w.fields ++ message in
      record {
        head = head_of (arity_of s payload) w.levels;
        front = o.head;
        elements = h.back ++ behind;
        is_arity = refl;
        is_head = o.is_head;
        are_elements = (
          h.back,
          behind,
          h.is_back.1,
          items_parts w.levels parts more (fields_of unused s payload) w.fields message fit w.are_fields (told w.levels),
          refl,
        );
        bytes = tail b (o.head ++ (h.back ++ behind))
            (e ∙ ap (λ (v : List ℕ). v ++ message) w.parts ∙ append_assoc w.front w.fields message
            ∙ ap (λ (v : List ℕ). v ++ behind) (h.parts ∙ ap (λ (v : List ℕ). v ++ h.back) o.bytes)
            ∙ ap (λ (v : List ℕ). 131 ∷ v) (append_assoc o.head h.back behind));
      }
    where
      tail : (x y : List ℕ) → 131 ∷ x ≡ 131 ∷ y → x ≡ y
      tail x y q = cc

-- nothing, or a message, behind the control term
pub one_message : (levels : ℕ) (t : Data) (m : List ℕ) → IsSpelling 64 t m → AreParts levels (Message ∷ []) m
one_message levels t m s = (m, [], (t, s), refl, sym (append-nil m))

pub message_of : (levels : ℕ) (m : List ℕ) → AreParts levels (Message ∷ []) m → (t : Data) × IsSpelling 64 t m
message_of levels m (x, y, (t, s), n, e) =
    (t, subst (IsSpelling 64 t) (sym (e ∙ ap (λ (w : List ℕ). x ++ w) n ∙ append-nil x)) s)

-- ---- how many items

pub record Two (p q : Part) (ts : Items) : Type 0 where
  pub t : Data
  pub u : Data
  pub first : Fits p t
  pub second : Fits q u
  pub is : ts ≡ item t (item u no_items)

pub two : (p q : Part) (ts : Items) → AllFit (p ∷ q ∷ []) ts → Two p q ts
two p q no_items f = absurd f
two p q (item t no_items) f = absurd f.1
two p q (item t (item u no_items)) f = record { t = t; u = u; first = f.0; second = f.1.0; is = refl }
two p q (item t (item u (item v ts))) f = absurd f.1.1

pub record Three (p q r : Part) (ts : Items) : Type 0 where
  pub t : Data
  pub u : Data
  pub v : Data
  pub first : Fits p t
  pub second : Fits q u
  pub third : Fits r v
  pub is : ts ≡ item t (item u (item v no_items))

pub three : (p q r : Part) (ts : Items) → AllFit (p ∷ q ∷ r ∷ []) ts → Three p q r ts
three p q r no_items f = absurd f
three p q r (item t ts) f =
    let w = two q r ts f.1 in
    record { t = t; u = w.t; v = w.u; first = f.0; second = w.first; third = w.second; is = ap (λ (xs : Items). item t xs) w.is }

pub record Four (p q r s : Part) (ts : Items) : Type 0 where
  pub t : Data
  pub u : Data
  pub v : Data
  pub w : Data
  pub first : Fits p t
  pub second : Fits q u
  pub third : Fits r v
  pub fourth : Fits s w
  pub is : ts ≡ item t (item u (item v (item w no_items)))

pub four : (p q r s : Part) (ts : Items) → AllFit (p ∷ q ∷ r ∷ s ∷ []) ts → Four p q r s ts
four p q r s no_items f = absurd f
four p q r s (item t ts) f =
    let w = three q r s ts f.1 in
    record {
      t = t;
      u = w.t;
      v = w.u;
      w = w.v;
      first = f.0;
      second = w.first;
      third = w.second;
      fourth = w.third;
      is = ap (λ (xs : Items). item t xs) w.is;
    }
