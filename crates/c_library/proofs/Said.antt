-- Handshake messages that are written.
use Rattle.std.proofs.Common.{◌≡◌, ℕ, suc, ◌+◌, ◌≤◌, ◌<◌, List, [], ◌∷◌, ◌++◌, length, take, drop, None, Some, refl, ap, sym, subst, ◌∙◌, arith}
use Rattle.std.specs.Int.{to_be_bytes, w16}
use Rattle.std.specs.Str.{IsUtf8}
use Rattle.erl_names.specs.Name.{IsNodeName}
use Rattle.erl_handshake.specs.declared.message.ShakeMsg.{ShakeMsg}
use Rattle.erl_handshake.specs.Messages.{counted, content, written, HasFields}
use Rattle.erl_handshake.proofs.Bytes.{length-counted}
use Rattle.erl_handshake.proofs.Bodies.{no_text, short_name}
use Rattle.c_library.specs.declared.messages.ErldistMessage.{ErldistMessage}
use Rattle.c_library.specs.Messages.{message_of}
use Rattle.c_library.specs.Saying.{IsSaid}
use Rattle.c_library.specs.Written.{IsWritten}
use Rattle.c_library.proofs.Written.{both}

-- bytes that aren't UTF-8 are no name
pub name_utf8 : (text : List ℕ) → ¬ IsUtf8 text → IsNodeName text → ⊥
name_utf8 text never n =
    no_text (counted text ++ []) text text (record { rest = []; short = short_name text n; parts = refl }) never
    (record { rest = []; is_name = n; parts = refl })

-- the letter and the bytes behind it, behind their length
pub lettered : (letter b d len : ℕ) (rest old one new : List ℕ) → len ≡ suc (length rest)
    → IsWritten 0 (to_be_bytes w16 len ++ letter ∷ []) old b one → IsWritten b rest one d new → IsWritten 0 (counted (letter ∷ rest)) old d new
lettered letter b d len rest old one new e p q =
    subst (λ n. IsWritten 0 (to_be_bytes w16 n ++ letter ∷ rest) old d new) e (both 0 b d (to_be_bytes w16 len ++ letter ∷ []) rest old one new p q)

module _ (m : ErldistMessage) (name old : List ℕ) where
  pub said_none : message_of m name ≡ None → IsSaid m name old 10 0 old
  said_none e = record {
    refused = λ _. (refl, refl, refl);
    size_is = λ x s. absurd (let k = s.0 in cc);
    no_room = λ x s. absurd (let k = s.0 in cc);
    said = λ x s. absurd (let k = s.0 in cc);
  }

  same : (a b : ShakeMsg) → message_of m name ≡ Some a → message_of m name ≡ Some b → a ≡ b
  same a b e f = cc

  pub said_bad : (a : ShakeMsg) → message_of m name ≡ Some a → ¬ HasFields a → IsSaid m name old 10 0 old
  said_bad a e never = record {
    refused = λ _. (refl, refl, refl);
    size_is = λ x s. absurd (never (subst HasFields (same x a s.0 e) s.1));
    no_room = λ x s. absurd (never (subst HasFields (same x a s.0 e) s.1));
    said = λ x s. absurd (never (subst HasFields (same x a s.0 e) s.1));
  }

  pub said_no_room : (a : ShakeMsg) (n : ℕ) → message_of m name ≡ Some a → HasFields a → n ≡ length (content a) → length old < n + 2
      → IsSaid m name old 100 (n + 2) old
  said_no_room a n e h l lt = record {
    refused = λ never. absurd (never a (e, h));
    size_is = λ x s. ap (λ k. k + 2) l ∙ ap (λ y. length (content y) + 2) (same a x e s.0) ∙ sized x;
    no_room = λ x s _. (refl, refl);
    said = λ x s le. absurd (omega arith);
  }
    where
      sized : (x : ShakeMsg) → length (content x) + 2 ≡ length (written x)
      sized x = let k = length-counted (content x) in omega arith

  pub said_written : (a : ShakeMsg) (n stop : ℕ) (new : List ℕ) → message_of m name ≡ Some a → HasFields a → n ≡ length (content a)
      → n + 2 ≤ length old → IsWritten 0 (written a) old stop new → IsSaid m name old 0 (n + 2) new
  said_written a n stop new e h l le w = record {
    refused = λ never. absurd (never a (e, h));
    size_is = λ x s. size ∙ ap (λ y. length (written y)) (same a x e s.0);
    no_room = λ x s lt. absurd (omega arith);
    said = λ x s _. (
      refl,
      ap (λ k. take k new) (sym stopped) ∙ w.front ∙ ap written (same a x e s.0),
      ap (λ k. drop k new) (sym stopped) ∙ w.back ∙ ap (λ k. drop k old) stopped,
    );
  }
    where
      size : n + 2 ≡ length (written a)
      size = let k = length-counted (content a) in omega arith

      stopped : stop ≡ n + 2
      stopped = let s = w.is_stop in let k = size in omega arith
