-- What the readers of a signal's text answer.
use Rattle.std.proofs.Common.{◌≡◌, ℕ, ◌<◌, Bool, true, false, List, [], ◌++◌, length, take, drop, Option, Some, None}
use Rattle.std.proofs.Common.{Ok, Err, Bor, refl, sym, ap, subst, ◌∙◌, append_assoc, arith, inl, inr}
use Rattle.std.proofs.lemmas.List.{take-append-drop, append-nil}
use Rattle.erl_term.specs.declared.parts.TupleHead.{TupleHead}
use Rattle.erl_term.proofs.Behind.{head_of}
use Rattle.erl_term.specs.declared.error.TermError.{TermError}
use Rattle.erl_term.specs.Data.{Data}
use Rattle.erl_term.specs.Spelling.{IsSpelling}
use Rattle.erl_term.specs.Parts.{ReadsFront}
use Rattle.erl_term.specs.Answer.{IsDue}
use Rattle.erl_control.specs.declared.signal.Signal.{Signal}
use Rattle.std.specs.Prelude.{is_some}
use Rattle.erl_control.specs.declared.signal_ref.SignalRef.{SignalRef}
use Rattle.erl_control.specs.Control.{control_in, message_in, HasId}
use Rattle.erl_control.specs.Frame.{SpellsMessage, IsSignalText}
use Rattle.erl_control.specs.Answer.{IsTermFault, IsBadControl}
use Rattle.erl_control.specs.Parts.{signal_in}
use Rattle.erl_control.specs.Reading.{IsRowHead, AreBefore, IsBefore, IsFollowedText, tag_of, arity_of, AreFields, HasFields, IsText, HasNoText}
use Rattle.erl_control.proofs.Sequence.{split_pair}
use Rattle.erl_control.proofs.Table.{shape, unshape, control_row, control_unrow, row_head, row_unhead, before_from, before_to, before_followed}
use Rattle.erl_control.proofs.Rows.{with_message, told_signal, told_id}
use Rattle.erl_control.proofs.Arms.{lying}

-- ---- the text of a signal

pub no_head : (text : List ℕ) → ReadsFront IsRowHead text None → ReadsFront IsText text None
no_head text r = record {
  takes = tt;
  again = λ y front rest i p.
      let h = shape (signal_in y) front i in
      r.again (head_of (arity_of (signal_in y) h.payload) h.levels, tag_of (signal_in y) h.payload) h.front (h.fields ++ rest) h.is_front
      (split_pair text front h.front h.fields rest h.parts p);
}

-- the head that was read is that of any signal's text at the front
record Headed (n levels tag : ℕ) (fields rest : List ℕ) (s : Signal) : Type 0 where
  payload : Bool
  part : List ℕ
  arity : arity_of s payload ≡ n
  tagged : tag_of s payload ≡ tag
  are_fields : AreFields levels s payload part
  parts : fields ≡ part ++ rest

headed : (text : List ℕ) (n levels tag : ℕ) (fields : Bor (List ℕ)) (s : Signal) (front rest : List ℕ)
    → ReadsFront IsRowHead text (Some ((head_of n levels, tag), fields)) → IsSignalText s front → text ≡ front ++ rest
    → Headed n levels tag fields.now rest s
headed text n levels tag fields s front rest r i p =
    let h = shape s front i in
    let k =
    r.again (head_of (arity_of s h.payload) h.levels, tag_of s h.payload) h.front (h.fields ++ rest) h.is_front
    (split_pair text front h.front h.fields rest h.parts p) in
    let same : levels ≡ h.levels = ap (λ (x : TupleHead × ℕ). x.0.levels) k.0 in
    record {
      payload = h.payload;
      part = h.fields;
      arity = sym (ap (λ (x : TupleHead × ℕ). x.0.arity) k.0);
      tagged = sym (ap (λ (x : TupleHead × ℕ). x.1) k.0);
      are_fields = subst (λ (m : ℕ). AreFields m s h.payload h.fields) (sym same) h.are_fields;
      parts = k.1;
    }

pub no_fields : (text : List ℕ) (n levels tag : ℕ) (fields : Bor (List ℕ))
    → ReadsFront IsRowHead text (Some ((head_of n levels, tag), fields)) → ReadsFront (HasFields levels tag) fields.now None
    → ReadsFront IsText text None
no_fields text n levels tag fields r f = record {
  takes = tt;
  again = λ y front rest i p. let h = headed text n levels tag fields (signal_in y) front rest r i p in
      f.again (y, n) h.part rest (h.payload, h.tagged, h.arity, h.are_fields) h.parts;
}

pub other_arity : (text : List ℕ) (n levels tag : ℕ) (fields : Bor (List ℕ)) (x : (SignalRef × ℕ) × Bor (List ℕ))
    → ReadsFront IsRowHead text (Some ((head_of n levels, tag), fields))
    → ReadsFront (HasFields levels tag) fields.now (Some x) → (¬ (x.0.1 ≡ n)) → ReadsFront IsText text None
other_arity text n levels tag fields x r f never = record {
  takes = tt;
  again = λ y front rest i p.
      let h = headed text n levels tag fields (signal_in y) front rest r i p in
      let k = f.again (y, n) h.part rest (h.payload, h.tagged, h.arity, h.are_fields) h.parts in
      never (ap (λ (z : SignalRef × ℕ). z.1) k.0);
}

pub some_text : (text : List ℕ) (n levels tag : ℕ) (fields : Bor (List ℕ)) (x : (SignalRef × ℕ) × Bor (List ℕ))
    → ReadsFront IsRowHead text (Some ((head_of n levels, tag), fields))
    → ReadsFront (HasFields levels tag) fields.now (Some x) → x.0.1 ≡ n → ReadsFront IsText text (Some (x.0.0, x.1))
some_text text n levels tag fields x r f e = record {
  takes = record {
    text = r.takes.text ++ f.takes.text;
    is_text = unshape (signal_in x.0.0) (r.takes.text ++ f.takes.text) (record {
      payload = f.takes.is_text.0;
      levels = levels;
      front = r.takes.text;
      fields = f.takes.text;
      is_front = rw (f.takes.is_text.2 ∙ e, f.takes.is_text.1) r.takes.is_text;
      are_fields = f.takes.is_text.3;
      parts = refl;
    });
    parts = r.takes.parts ∙ ap (λ (w : List ℕ). r.takes.text ++ w) f.takes.parts ∙ sym (append_assoc r.takes.text f.takes.text x.1.now);
  };
  again = λ y front rest i p.
      let h = headed text n levels tag fields (signal_in y) front rest r i p in
      let k = f.again (y, n) h.part rest (h.payload, h.tagged, h.arity, h.are_fields) h.parts in
      (ap (λ (z : SignalRef × ℕ). z.0) k.0, k.1);
}

-- ---- a control term that a message follows

record Sending (n levels tag : ℕ) (fields rest : List ℕ) : Type 0 where
  part : List ℕ
  is_before : IsBefore levels tag n part
  parts : fields ≡ part ++ rest

sending : (text : List ℕ) (n levels tag j : ℕ) (fields : Bor (List ℕ)) (front rest : List ℕ)
    → ReadsFront IsRowHead text (Some ((head_of n levels, tag), fields)) → IsFollowedText j front → text ≡ front ++ rest
    → (tag ≡ j) × Sending n levels tag fields.now rest
sending text n levels tag j fields front rest r i p =
    let s = i.0 in let w = i.1 in let unused = i.2 in
    let h = control_row unused s w front i.5 in
    let k =
    r.again (head_of (arity_of s w) h.levels, tag_of s w) h.front (h.fields ++ rest)
    (row_head unused s w h.levels h.front h.is_front) (split_pair text front h.front h.fields rest h.parts p) in
    let same : levels ≡ h.levels = ap (λ (z : TupleHead × ℕ). z.0.levels) k.0 in
    let tagged : tag ≡ tag_of s w = ap (λ (z : TupleHead × ℕ). z.1) k.0 in
    let arity : n ≡ arity_of s w = ap (λ (z : TupleHead × ℕ). z.0.arity) k.0 in (
      tagged ∙ i.3,
      record {
        part = h.fields;
        is_before = (
          s,
          w,
          unused,
          sym tagged,
          sym arity,
          subst (λ (m : ℕ). AreBefore m unused s w h.fields) (sym same) (before_from h.levels unused s w h.fields i.4 h.are_fields),
        );
        parts = k.1;
      },
    )

pub no_follow_head : (text : List ℕ) → ReadsFront IsRowHead text None → ReadsFront IsFollowedText text None
no_follow_head text r = record {
  takes = tt;
  again = λ j front rest i p.
      let s = i.0 in let w = i.1 in let unused = i.2 in
      let h = control_row unused s w front i.5 in
      r.again (head_of (arity_of s w) h.levels, tag_of s w) h.front (h.fields ++ rest)
      (row_head unused s w h.levels h.front h.is_front) (split_pair text front h.front h.fields rest h.parts p);
}

pub no_before : (text : List ℕ) (n levels tag : ℕ) (fields : Bor (List ℕ))
    → ReadsFront IsRowHead text (Some ((head_of n levels, tag), fields)) → ReadsFront (IsBefore levels tag) fields.now None
    → ReadsFront IsFollowedText text None
no_before text n levels tag fields r f = record {
  takes = tt;
  again = λ j front rest i p. let h = (sending text n levels tag j fields front rest r i p).1 in f.again n h.part rest h.is_before h.parts;
}

pub other_before : (text : List ℕ) (n levels tag : ℕ) (fields : Bor (List ℕ)) (x : ℕ × Bor (List ℕ))
    → ReadsFront IsRowHead text (Some ((head_of n levels, tag), fields)) → ReadsFront (IsBefore levels tag) fields.now (Some x)
    → (¬ (x.0 ≡ n)) → ReadsFront IsFollowedText text None
other_before text n levels tag fields x r f never = record {
  takes = tt;
  again = λ j front rest i p.
      let h = (sending text n levels tag j fields front rest r i p).1 in
      let k = f.again n h.part rest h.is_before h.parts in never k.0;
}

pub some_followed : (text : List ℕ) (n levels tag : ℕ) (fields : Bor (List ℕ)) (x : ℕ × Bor (List ℕ))
    → ReadsFront IsRowHead text (Some ((head_of n levels, tag), fields)) → ReadsFront (IsBefore levels tag) fields.now (Some x)
    → x.0 ≡ n → ReadsFront IsFollowedText text (Some (tag, x.1))
some_followed text n levels tag fields x r f e =
    let b = f.takes.is_text in
    let s = b.0 in let w = b.1 in let unused = b.2 in
    record {
      takes = record {
        text = r.takes.text ++ f.takes.text;
        is_text = (
          s,
          w,
          unused,
          b.3,
          before_followed levels unused s w f.takes.text b.5,
          control_unrow unused s w (r.takes.text ++ f.takes.text) (record {
            levels = levels;
            front = r.takes.text;
            fields = f.takes.text;
            is_front = row_unhead unused s w levels r.takes.text (rw (b.4 ∙ e, b.3) r.takes.is_text);
            are_fields = before_to levels unused s w f.takes.text b.5;
            parts = refl;
          }),
        );
        parts = r.takes.parts ∙ ap (λ (v : List ℕ). r.takes.text ++ v) f.takes.parts ∙ sym (append_assoc r.takes.text f.takes.text x.1.now);
      };
      again = λ j front rest i p.
          let h = sending text n levels tag j fields front rest r i p in
          let k = f.again n h.1.part rest h.1.is_before h.1.parts in (h.0, k.1);
    }

-- ---- what is wrong with a text

-- a row without a message, with nothing behind it
told_none : (o : Option Data) → is_some o ≡ false → SpellsMessage o []
told_none None e = refl
told_none (Some t) e = absurd cc

row_text : (s : Signal) (payload : Bool) (unused : Data) (control : List ℕ) → HasId s → IsSpelling 64 (control_in unused s payload) control
    → is_some (message_in s payload) ≡ false → IsSignalText s control
row_text s payload unused control h i never = record {
  payload = payload;
  unused = unused;
  control = control;
  message = [];
  has_id = h;
  spelled = i;
  told = told_none (message_in s payload) never;
  bytes = sym (append-nil control);
}

pub no_row : (text : List ℕ) (t : Data) (n : ℕ) → HasNoText text → ReadsFront IsFollowedText text None → IsDue text (Ok (t, n))
    → IsBadControl text
no_row text t n none r d =
    inl (
      t,
      n,
      d,
      λ row. never row.0 row.1 row.2 row.3 (subst (λ (u : Data). IsSpelling 64 u (take n text)) row.4 d.0.is_text)
          (is_some (message_in row.0 row.1)) refl,
    )
  where
    split : text ≡ take n text ++ drop n text
    split = sym (take-append-drop n text)

    never : (s : Signal) (payload : Bool) (unused : Data) → HasId s → IsSpelling 64 (control_in unused s payload) (take n text)
        → (b : Bool) → is_some (message_in s payload) ≡ b → ⊥
    never s payload unused h i false e =
        none s (take n text) (drop n text) (row_text s payload unused (take n text) h i e) split
    never s payload unused h i true e =
        r.again (tag_of s payload) (take n text) (drop n text) (s, payload, unused, refl, e, i) split

pub message_fault : (text : List ℕ) (x : ℕ × Bor (List ℕ)) (e : TermError) → ReadsFront IsFollowedText text (Some x)
    → IsDue x.1.now (Err e) → IsTermFault text e
message_fault text x e r d =
    let i = r.takes.is_text in
    inr (record {
      signal = i.0;
      payload = i.1;
      unused = i.2;
      control = r.takes.text;
      message = x.1.now;
      spelled = i.5;
      followed = i.4;
      fault = d;
      parts = r.takes.parts;
    })

pub message_read : (text : List ℕ) (x : ℕ × Bor (List ℕ)) (t : Data) (n : ℕ) → HasNoText text
    → ReadsFront IsFollowedText text (Some x) → IsDue x.1.now (Ok (t, n)) → ⊥
message_read text x t n none r d =
    let message = x.1.now in
    let i = r.takes.is_text in
    let s = i.0 in let w = i.1 in let unused = i.2 in
    let k = told_signal s w t unused i.4 in
    none (with_message s (Some t)) (r.takes.text ++ take n message) (drop n message)
    (record {
      payload = w;
      unused = unused;
      control = r.takes.text;
      message = take n message;
      has_id = told_id s w t i.4;
      spelled = subst (λ (u : Data). IsSpelling 64 u r.takes.text) (sym k.0) i.5;
      told = subst (λ (o : Option Data). SpellsMessage o (take n message)) (sym k.1) d.0.is_text;
      bytes = refl;
    })
    (r.takes.parts ∙ ap (λ (v : List ℕ). r.takes.text ++ v) (sym (take-append-drop n message))
    ∙ sym (append_assoc r.takes.text (take n message) (drop n message)))

pub no_text : (text : List ℕ) → ReadsFront IsText text None → HasNoText text
no_text text r s front rest i p = let y = lying s in r.again y.0 front rest (subst (λ (z : Signal). IsSignalText z front) (sym y.1) i) p

pub left_over : (text : List ℕ) (x : SignalRef × Bor (List ℕ)) → ReadsFront IsText text (Some x) → 0 < length x.1.now → IsBadControl text
left_over text x r lt =
    inr (signal_in x.0, r.takes.text, x.1.now, r.takes.is_text, (λ e. let l = ap length e in omega arith), r.takes.parts)

pub whole : (text : List ℕ) (x : SignalRef × Bor (List ℕ)) → ReadsFront IsText text (Some x) → x.1.now ≡ []
    → IsSignalText (signal_in x.0) text
whole text x r e =
    subst (IsSignalText (signal_in x.0))
    (sym (r.takes.parts ∙ ap (λ (w : List ℕ). r.takes.text ++ w) e ∙ append-nil r.takes.text)) r.takes.is_text
