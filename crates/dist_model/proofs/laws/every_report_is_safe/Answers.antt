use Rattle.std.proofs.Common.{◌≡◌, [], ◌∷◌, ◌++◌, List, length, subst, sym, arith, inl, inr}
use Rattle.dist_model.proofs.laws.every_report_is_safe.Goals as goal
use Rattle.dist_model.proofs.Histories.{reacts_for_true_cause, throughout}
use Rattle.dist_model.proofs.NamedEnds.{downs_tell_true_cause, full}
use Rattle.dist_model.specs.Fates.{DownsRightly, DownsTellTrueCause, ReactsForTrueCause, ReactsRightly}
use Rattle.dist_model.specs.Histories.{History, told}
use Rattle.dist_model.specs.Names.{Name}
use Rattle.dist_model.specs.Runs.{Goes, Runs, opening}
use Rattle.dist_model.specs.Traces.{Trace, traced}
use Rattle.dist_model.specs.World.{Event, Report, World}
use Rattle.erl_handshake.specs.declared.setup.Setup.{Setup}

-- a run is parted where its events and its reports are
parted : (es fs : List Event) (rs ss : List Report) (w v : World) → length es ≡ length rs → Runs w (es ++ fs) (rs ++ ss) v
    → (now : World) × Runs w es rs now × Runs now fs ss v
parted [] fs [] ss w v n h = (w, (λ i. w), h)
parted [] fs (r ∷ rs) ss w v n h = absurd (omega (arith, n))
parted (e ∷ es) fs [] ss w v n h = absurd (omega (arith, n))
parted (e ∷ es) fs (r ∷ rs) ss w v n h = let p = parted es fs rs ss h.0 v (omega (arith, n)) h.2 in (p.0, (h.0, h.1, p.1), p.2)

reacts : (h : History) (w : World) (e : Event) (r : Report) (v : World) → ReactsForTrueCause h w → Goes w e r v → ReactsRightly h w e r
reacts h w e r v f (inl c) = subst (λ z. ReactsRightly h w e z) (sym c.0) (f e)
reacts h w e r v f (inr c) = subst (λ z. ReactsRightly h w e z) (sym c.0) (λ p q z i. absurd i)

downs : (h : Trace) (w : World) (e : Event) (r : Report) (v : World) → DownsTellTrueCause h w → Goes w e r v → DownsRightly h w e r
downs h w e r v f (inl c) = subst (λ z. DownsRightly h w e z) (sym c.0) (f e)
downs h w e r v f (inr c) = subst (λ z. DownsRightly h w e z) (sym c.0) (λ k d i. let lt = i.1 in absurd (omega arith))

safe : (nodes : List (Name × Setup)) (es fs : List Event) (e : Event) (rs ss : List Report) (r : Report) (v : World)
    → length es ≡ length rs
    → Runs (opening nodes) (es ++ e ∷ fs) (rs ++ r ∷ ss) v
    → (now : World) × Runs (opening nodes) es rs now × ReactsRightly (told es rs []) now e r
    × DownsRightly (traced (opening nodes) es rs []) now e r
safe nodes es fs e rs ss r v n h =
    let p = parted es (e ∷ fs) rs (r ∷ ss) (opening nodes) v n h in
    let a = throughout ReactsForTrueCause reacts_for_true_cause nodes es rs p.0 p.1 in
    let b = full DownsTellTrueCause downs_tell_true_cause nodes es rs p.0 p.1 in
    let c = p.2 in
    (p.0, p.1, reacts (told es rs []) p.0 e r c.0 a c.1, downs (traced (opening nodes) es rs []) p.0 e r c.0 b c.1)

pub returns : goal.returns
returns c = record { told = safe }
