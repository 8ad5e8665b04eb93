-- The texts of statuses that begin with bytes.
use Rattle.std.proofs.Common.{◌≡◌, ◌||◌, ◌==◌, ℕ, suc, Bool, true, false, List, ◌++◌, length, drop, refl, sym, ap, ◌∙◌, inl, inr, eq-eqb}
use Rattle.std.proofs.lemmas.Bool.{or_cases, and_parts, and_from, eqb-true}
use Rattle.std.proofs.lemmas.Bool.Decides.{Decides-eqb}
use Rattle.std.proofs.lemmas.Slice.Eq.{starts_is}
use Rattle.readers.specs.Places.{Begins}
use Rattle.erl_handshake.specs.declared.status.Status.{Status}
use Rattle.erl_handshake.specs.declared.status.Status.TheVariants as status
use Rattle.erl_handshake.specs.Messages.{status_text}
use Rattle.message_beginnings.specs.Parts.{IsStatusText, IsStatusTextOf, for_some, is_begun, is_begun_of}

or_left : (a b : Bool) → a ≡ true → (a || b) ≡ true
or_left true b e = refl
or_left false b e = absurd cc

or_right : (a b : Bool) → b ≡ true → (a || b) ≡ true
or_right true b e = refl
or_right false b e = e

-- a status of which the test holds
some_status : (test : Status → Bool) → for_some test ≡ true → (s : Status) × (test s ≡ true)
some_status test e =
    elim (or_cases (test status.Ok) _ e) [
      | inl t ↦ (status.Ok, t)
      | inr e ↦
          elim (or_cases (test status.OkSimultaneous) _ e) [
            | inl t ↦ (status.OkSimultaneous, t)
            | inr e ↦
                elim (or_cases (test status.Nok) _ e) [
                  | inl t ↦ (status.Nok, t)
                  | inr e ↦
                      elim (or_cases (test status.NotAllowed) _ e) [
                        | inl t ↦ (status.NotAllowed, t)
                        | inr e ↦
                            elim (or_cases (test status.Alive) _ e) [
                              | inl t ↦ (status.Alive, t)
                              | inr e ↦
                                  elim (or_cases (test status.True) (test status.False) e) [
                                    | inl t ↦ (status.True, t)
                                    | inr t ↦ (status.False, t)
                                  ]
                            ]
                      ]
                ]
          ]
    ]

for_status : (test : Status → Bool) (s : Status) → test s ≡ true → for_some test ≡ true
for_status test status.Ok e = or_left (test status.Ok) _ e
for_status test status.OkSimultaneous e = or_right (test status.Ok) _ (or_left (test status.OkSimultaneous) _ e)
for_status test status.Nok e =
    or_right (test status.Ok) _ (or_right (test status.OkSimultaneous) _ (or_left (test status.Nok) _ e))
for_status test status.NotAllowed e =
    or_right (test status.Ok) _ (or_right (test status.OkSimultaneous) _ (or_right (test status.Nok) _
    (or_left (test status.NotAllowed) _ e)))
for_status test status.Alive e =
    or_right (test status.Ok) _ (or_right (test status.OkSimultaneous) _ (or_right (test status.Nok) _
    (or_right (test status.NotAllowed) _ (or_left (test status.Alive) _ e))))
for_status test status.True e =
    or_right (test status.Ok) _ (or_right (test status.OkSimultaneous) _ (or_right (test status.Nok) _
    (or_right (test status.NotAllowed) _ (or_right (test status.Alive) _ (or_left (test status.True) (test status.False) e)))))
for_status test status.False e =
    or_right (test status.Ok) _ (or_right (test status.OkSimultaneous) _ (or_right (test status.Nok) _
    (or_right (test status.NotAllowed) _ (or_right (test status.Alive) _ (or_right (test status.True) (test status.False) e)))))

-- the text of a status, from the bytes and more
goes_on : (bytes : List ℕ) (s : Status) → is_begun bytes s ≡ true → bytes ++ drop (length bytes) (status_text s) ≡ status_text s
goes_on bytes s e = sym ((starts_is Decides-eqb (status_text s) bytes (is_begun bytes s) refl).0 e)

test_of : (bytes more : List ℕ) (s : Status) → bytes ++ more ≡ status_text s → is_begun bytes s ≡ true
test_of bytes more s e = (starts_is Decides-eqb (status_text s) bytes (is_begun bytes s) refl).1 more (sym e)

pub text_begins : (bytes : List ℕ) → for_some (is_begun bytes) ≡ true → Begins IsStatusText bytes
text_begins bytes e =
    let s = some_status (is_begun bytes) e in
    record { value = s.0; more = drop (length bytes) (status_text s.0); is_text = goes_on bytes s.0 s.1 }

pub begun_text : (bytes : List ℕ) → Begins IsStatusText bytes → for_some (is_begun bytes) ≡ true
begun_text bytes b = for_status (is_begun bytes) b.value (test_of bytes b.more b.value b.is_text)

pub text_begins_of : (len : ℕ) (bytes : List ℕ) → for_some (is_begun_of len bytes) ≡ true → Begins (IsStatusTextOf len) bytes
text_begins_of len bytes e =
    let s = some_status (is_begun_of len bytes) e in
    let both = and_parts (suc (length (status_text s.0)) == len) (is_begun bytes s.0) s.1 in
    let parts = goes_on bytes s.0 both.1 in
    record {
      value = s.0;
      more = drop (length bytes) (status_text s.0);
      is_text = (parts, ap (λ (w : List ℕ). suc (length w)) parts ∙ eqb-true (suc (length (status_text s.0))) len both.0);
    }

pub begun_text_of : (len : ℕ) (bytes : List ℕ) → Begins (IsStatusTextOf len) bytes → for_some (is_begun_of len bytes) ≡ true
begun_text_of len bytes b =
    let t = b.is_text in
    for_status (is_begun_of len bytes) b.value
    (and_from (suc (length (status_text b.value)) == len) (is_begun bytes b.value)
    (eq-eqb (suc (length (status_text b.value))) len (sym (ap (λ (w : List ℕ). suc (length w)) t.0) ∙ t.1))
    (test_of bytes b.more b.value t.0))
