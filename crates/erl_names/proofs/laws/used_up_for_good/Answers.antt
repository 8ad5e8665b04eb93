use Rattle.std.proofs.Common.{◌≡◌, ℕ, ◌+◌, Bool, true, false, nat_lt, if◌then◌else◌, None, Some, refl, subst}
use Rattle.erl_names.specs.Draw.{Draw}
use Rattle.erl_names.specs.Draw as draw
use Rattle.erl_names.specs.Minted.{Minted, last, risen, drawn, id_of}
use Rattle.erl_names.proofs.laws.used_up_for_good.Goals as goal

-- no number is behind a count that has come to its end
IsAtEnd : ℕ → ℕ → Type 0
IsAtEnd highest n = (if nat_lt n highest then Some (n + 1) else None) ≡ None

stays : (b : Bool) (n : ℕ) → (if b then Some (n + 1) else None) ≡ None → n ≡ (if b then n + 1 else n)
stays true n e = cc
stays false n e = refl

at_end : (n highest : ℕ) → IsAtEnd highest n → IsAtEnd highest (risen n highest)
unfolding IsAtEnd
at_end n highest e = subst (IsAtEnd highest) (stays (nat_lt n highest) n e) e

for_good : (m : Minted) (kind other : Draw) → id_of m kind ≡ None → id_of (drawn m other) kind ≡ None
unfolding IsAtEnd
for_good m draw.Pid draw.Pid e = at_end m.pids (last draw.Pid) e
for_good m draw.Pid draw.Reference e = e
for_good m draw.Pid draw.UnlinkId e = e
for_good m draw.Reference draw.Pid e = e
for_good m draw.Reference draw.Reference e = at_end m.references (last draw.Reference) e
for_good m draw.Reference draw.UnlinkId e = e
for_good m draw.UnlinkId draw.Pid e = e
for_good m draw.UnlinkId draw.Reference e = e
for_good m draw.UnlinkId draw.UnlinkId e = at_end m.unlink_ids (last draw.UnlinkId) e

pub returns : goal.returns
returns c = for_good
