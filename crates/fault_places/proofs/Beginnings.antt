-- Where a frame begins.
use Rattle.std.proofs.Common.{◌≡◌, ◌≤◌, ◌-◌, ℕ, List, [], ◌∷◌, ◌++◌, length, refl, sym, subst, arith}
use Rattle.std.proofs.lemmas.List.{length-append, length-replicate}
use Rattle.std.specs.Prelude.{replicate}
use Rattle.byteorder.specs.Endian.{big_number}
use Rattle.readers.specs.Places.{Begins}
use Rattle.readers.specs.Reading.{AreBytes}
use Rattle.erl_term.proofs.Base.{AreBytes-padded, big_number-grows, big_number-padded}
use Rattle.erl_control.specs.Frame.{IsSignalText, limit}
use Rattle.erl_control.specs.declared.signal.Item.{Item}
use Rattle.erl_control.specs.declared.signal.Item.TheVariants.{Tick, Signal}
use Rattle.erl_control.specs.declared.signal.Signal.{Signal as TheSignal}
use Rattle.fault_places.specs.Places.{IsFrameBody, IsLength}

-- a length begins where the bytes that are there, and zeros behind them, are one
pub length_goes : (field : List ℕ) → AreBytes field → length field ≤ 4 → big_number 4 field ≤ limit → Begins IsLength field
length_goes field bytes short low =
    let zeros = 4 - length field in
    record {
      value = big_number 4 field;
      more = replicate zeros 0;
      is_text = (
        record {
          len = omega (arith, length-append field (replicate zeros 0), length-replicate {A = ℕ} zeros 0, short);
          bytes = AreBytes-padded field zeros bytes;
          says = big_number-padded 4 field zeros;
        },
        low,
      );
    }

pub length_short : (field : List ℕ) → Begins IsLength field → length field ≤ 4
length_short field b = omega (arith, length-append field b.more, b.is_text.0.len)

pub length_low : (field : List ℕ) → Begins IsLength field → big_number 4 field ≤ limit
length_low field b = omega (arith, big_number-grows 4 field b.more, b.is_text.0.says, b.is_text.1)

-- pass-through and a signal's text
pub body_goes : (text : List ℕ) → Begins (λ (s : TheSignal) b. IsSignalText s b) text → Begins IsFrameBody (112 ∷ text)
body_goes text b = record { value = Signal b.value; more = b.more; is_text = (text ++ b.more, refl, b.is_text) }

tails : (a b : ℕ) (x y : List ℕ) → a ∷ x ≡ b ∷ y → x ≡ y
tails a b x y e = cc

heads : (a b : ℕ) (x y : List ℕ) → a ∷ x ≡ b ∷ y → a ≡ b
heads a b x y e = cc

text_goes : (first : ℕ) (text more : List ℕ) (item : Item) → IsFrameBody item (first ∷ (text ++ more))
    → (first ≡ 112) × Begins (λ (s : TheSignal) b. IsSignalText s b) text
text_goes first text more Tick e = absurd cc
text_goes first text more (Signal signal) h = (
  heads first 112 (text ++ more) h.0 h.1,
  record { value = signal; more = more; is_text = subst (IsSignalText signal) (sym (tails first 112 (text ++ more) h.0 h.1)) h.2 },
)

pub body_begins_so : (first : ℕ) (text : List ℕ) → Begins IsFrameBody (first ∷ text)
    → (first ≡ 112) × Begins (λ (s : TheSignal) b. IsSignalText s b) text
body_begins_so first text b = text_goes first text b.more b.value b.is_text

pub nothing_goes : Begins IsFrameBody []
nothing_goes = record { value = Tick; more = []; is_text = refl }
