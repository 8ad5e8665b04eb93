-- The bytes of a signal tell if its reason follows the control term.
use Rattle.std.proofs.Common.{◌≡◌, ◌<◌, ℕ, Bool, true, false, List, refl, sym, ap, ◌∙◌, arith}
use Rattle.dist_model.specs.Items.{has_reason}
use Rattle.erl_control.specs.Canonical.{canonical_frame}
use Rattle.erl_control.specs.declared.signal.Signal.{Signal}
use Rattle.erl_term.specs.Canonical.{canonical_head, canonical_int}
use Rattle.node_frames.specs.Kinds.{byte_at}

-- the two tags of a signal that has a reason
abbrev tag_within : Signal → ℕ
tag_within (Signal.Exit from to reason) = 3
tag_within (Signal.Exit2 from to reason) = 8
tag_within (Signal.MonitorExit from to r reason) = 21
tag_within (Signal.MonitorNameExit name to r reason) = 21
tag_within signal = 0

abbrev tag_before : Signal → ℕ
tag_before (Signal.Exit from to reason) = 24
tag_before (Signal.Exit2 from to reason) = 26
tag_before (Signal.MonitorExit from to r reason) = 28
tag_before (Signal.MonitorNameExit name to r reason) = 28
tag_before signal = 1

within_is : (s : Signal) → has_reason s ≡ true → byte_at (canonical_frame s false) 9 ≡ tag_within s
unfolding canonical_head canonical_int
within_is (Signal.Exit from to reason) h = refl
within_is (Signal.Exit2 from to reason) h = refl
within_is (Signal.MonitorExit from to r reason) h = refl
within_is (Signal.MonitorNameExit name to r reason) h = refl
within_is s h = absurd (let no : false ≡ true = h in cc)

before_is : (s : Signal) → has_reason s ≡ true → byte_at (canonical_frame s true) 9 ≡ tag_before s
unfolding canonical_head canonical_int
before_is (Signal.Exit from to reason) h = refl
before_is (Signal.Exit2 from to reason) h = refl
before_is (Signal.MonitorExit from to r reason) h = refl
before_is (Signal.MonitorNameExit name to r reason) h = refl
before_is s h = absurd (let no : false ≡ true = h in cc)

tags_rise : (s : Signal) → tag_within s < tag_before s
tags_rise (Signal.Exit from to reason) = omega arith
tags_rise (Signal.Exit2 from to reason) = omega arith
tags_rise (Signal.MonitorExit from to r reason) = omega arith
tags_rise (Signal.MonitorNameExit name to r reason) = omega arith
tags_rise s = omega arith

apart : (n k : ℕ) → k < n → n ≡ k → ⊥
apart n k l e = omega arith

differ_by_tag : (a b : List ℕ) (n k : ℕ) → byte_at a 9 ≡ n → byte_at b 9 ≡ k → k < n → a ≡ b → ⊥
differ_by_tag a b n k p q l e = apart n k l (sym p ∙ ap (λ bytes. byte_at bytes 9) e ∙ q)

tags_differ : (s : Signal) → has_reason s ≡ true → canonical_frame s true ≡ canonical_frame s false → ⊥
tags_differ s h e =
    differ_by_tag (canonical_frame s true) (canonical_frame s false) (tag_before s) (tag_within s)
    (before_is s h) (within_is s h) (tags_rise s) e

pub payload_told : (s : Signal) (a b : Bool) → (a ≡ true → has_reason s ≡ true) → (b ≡ true → has_reason s ≡ true)
    → canonical_frame s a ≡ canonical_frame s b → a ≡ b
payload_told s true true p q e = refl
payload_told s false false p q e = refl
payload_told s true false p q e = absurd (tags_differ s (p refl) e)
payload_told s false true p q e = absurd (tags_differ s (q refl) (sym e))
