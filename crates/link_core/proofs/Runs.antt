-- Each event keeps it, and so each schedule; and what it says.
use Rattle.std.proofs.Common.{◌≡◌, ℕ, ◌<◌, Bool, true, false, cond, List, [], ◌∷◌, is_some, refl, sym, ap, ◌∙◌, subst, ◌↔◌, ◌||◌, nat_lt}
use Rattle.std.specs.List.{list_any}
use Rattle.std.proofs.Math.Bool.{or-false, or-true, or_assoc}
use Rattle.std.proofs.lemmas.Bool.{both_ways, cond_both, ltb-true}
use Rattle.erl_term.specs.Data.{Data}
use Rattle.link_core.specs.declared.end.End.{End}
use Rattle.link_core.specs.Table.{link_sent, linked, unlink_sent, unlinked}
use Rattle.link_core.specs.News.{LinkNews, drained}
use Rattle.link_core.specs.Pair.{Side, Pair, Act, Links, Unlinks, Exits, Takes, Event, Here, There, followed_by, links, unlinks}
use Rattle.link_core.specs.Pair.{unlinks_above, ended, exits, first_comes, acts, swap, happens, run, is_end, ends_here, ends_there, start}
use Rattle.link_core.specs.Claims.{LinkTravels, ExitOfEnded, IsAtRest}
use Rattle.link_core.proofs.Drained.{exit_tested, has_exit, has_link, link_there}
use Rattle.link_core.proofs.Kept.{Kept, activates, blank, deactivates, keeps_ended, kept_swap, settled, takes_at}

keeps_links : (a b : Side) → Kept a b → Kept (links a) b
keeps_links a b k =
    cond_both a.gone a (record a { end = linked a.end; sent = followed_by a.sent (link_sent a.end) }) (λ v. Kept v b) (λ g. k)
    (λ g. go g a.end refl)
  where
    go : a.gone ≡ false → (e : End) → a.end ≡ e → Kept (record a { end = linked e; sent = followed_by a.sent (link_sent e) }) b
    go g End.None h = activates a b g k
    go g End.Active h = subst (λ e. Kept (record a { end = e }) b) h k
    go g (End.Pending i) h = activates a b g k

abbrev unlinked_at : Side → ℕ → End → Side
unlinked_at a j e = record a {
  end = unlinked e j;
  drawn = cond (is_some (unlink_sent e j)) j a.drawn;
  sent = followed_by a.sent (unlink_sent e j);
}

keeps_unlinks : (a b : Side) (j : ℕ) → a.drawn < j → Kept a b → Kept (unlinks j a) b
keeps_unlinks a b j lt k = cond_both a.gone a (unlinked_at a j a.end) (λ v. Kept v b) (λ g. k) (λ g. go g a.end refl)
  where
    go : a.gone ≡ false → (e : End) → a.end ≡ e → Kept (unlinked_at a j e) b
    go g End.None h = subst (λ e. Kept (record a { end = e }) b) h k
    go g End.Active h = deactivates a b j g h lt k
    go g (End.Pending i) h = subst (λ e. Kept (record a { end = e }) b) h k

keeps_unlinks_above : (a b : Side) (j : ℕ) → Kept a b → Kept (unlinks_above j a) b
keeps_unlinks_above a b j k =
    cond_both (nat_lt a.drawn j) (unlinks j a) a (λ v. Kept v b) (λ e. keeps_unlinks a b j (ltb-true a.drawn j e) k) (λ e. k)

keeps_exits : (r : Data) (a b : Side) → Kept a b → Kept (exits r a) b
keeps_exits r a b k = cond_both a.gone a (ended r a) (λ v. Kept v b) (λ g. k) (λ g. keeps_ended r a b g k)

abbrev pub IsKept : Pair → Type 0
IsKept w = Kept w.here w.there

keeps_first_comes : (a b : Side) (L : List LinkNews) → b.sent ≡ L → Kept a b → IsKept (first_comes (record { here = a; there = b }) L)
keeps_first_comes a b [] e k = k
keeps_first_comes a b (s ∷ L) e k = takes_at a.gone a b s L refl (subst (λ l. Kept a (record b { sent = l })) e k)

keeps_acts : (w : Pair) (act : Act) → IsKept w → IsKept (acts w act)
keeps_acts w Links k = keeps_links w.here w.there k
keeps_acts w (Unlinks j) k = keeps_unlinks_above w.here w.there j k
keeps_acts w (Exits reason) k = keeps_exits reason w.here w.there k
keeps_acts w Takes k = keeps_first_comes w.here w.there w.there.sent refl k

keeps_event : (w : Pair) (e : Event) → IsKept w → IsKept (happens w e)
keeps_event w (Here act) k = keeps_acts w act k
keeps_event w (There act) k = kept_swap _ _ (keeps_acts (swap w) act (kept_swap _ _ k))

pub keeps_run : (es : List Event) (w : Pair) → IsKept w → IsKept (run es w)
keeps_run [] w k = k
keeps_run (e ∷ es) w k = keeps_run es (happens w e) (keeps_event w e k)

pub kept_start : IsKept start
kept_start = blank start.here start.there refl refl refl refl

-- ---- who has ended

unless_gone : (a c : Side) → c.gone ≡ a.gone → (cond a.gone a c).gone ≡ a.gone
unless_gone a c same = cond_both a.gone a c (λ v. v.gone ≡ a.gone) (λ g. refl) (λ g. same)

abbrev IsGoneBy : Pair → Pair → (here there : Bool) → Type 0
IsGoneBy w v here there = (v.here.gone ≡ (w.here.gone || here)) × (v.there.gone ≡ (w.there.gone || there))

same_gone : (w v : Pair) → v.here.gone ≡ w.here.gone → v.there.gone ≡ w.there.gone → IsGoneBy w v false false
same_gone w v h t = (h ∙ sym (or-false w.here.gone), t ∙ sym (or-false w.there.gone))

gone_comes : (w : Pair) (L : List LinkNews) → IsGoneBy w (first_comes w L) false false
gone_comes w [] = same_gone w w refl refl
gone_comes w (s ∷ L) = same_gone w (first_comes w (s ∷ L)) refl refl

gone_acts : (w : Pair) (act : Act) → IsGoneBy w (acts w act) (is_end act) false
gone_acts w Links = same_gone w (acts w Links) (unless_gone w.here _ refl) refl
gone_acts w (Unlinks j) = same_gone w (acts w (Unlinks j)) (cond_both (nat_lt w.here.drawn j) (unlinks j w.here) w.here
    (λ v. v.gone ≡ w.here.gone) (λ l. unless_gone w.here (unlinked_at w.here j w.here.end) refl) (λ l. refl)) refl
gone_acts w (Exits reason) = (
  cond_both w.here.gone w.here (ended reason w.here) (λ v. v.gone ≡ true) (λ g. g) (λ g. refl)
      ∙ sym (or-true w.here.gone),
  sym (or-false w.there.gone),
)
gone_acts w Takes = gone_comes w w.there.sent

gone_event : (w : Pair) (e : Event) → IsGoneBy w (happens w e) (ends_here e) (ends_there e)
gone_event w (Here act) = gone_acts w act
gone_event w (There act) = let g = gone_acts (swap w) act in (g.1, g.0)

pub gone_run : (es : List Event) (w : Pair) → IsGoneBy w (run es w) (list_any ends_here es) (list_any ends_there es)
gone_run [] w = same_gone w w refl refl
gone_run (e ∷ es) w =
    let g = gone_event w e in
    let h = gone_run es (happens w e) in (
      h.0 ∙ ap (λ b. b || list_any ends_here es) g.0 ∙ or_assoc w.here.gone (ends_here e) (list_any ends_here es),
      h.1 ∙ ap (λ b. b || list_any ends_there es) g.1 ∙ or_assoc w.there.gone (ends_there e) (list_any ends_there es),
    )

-- ---- what it says

pub link_travels : (a b : Side) → Kept a b → LinkTravels a b
link_travels a b k x y h = link_there a.sent (k.one.orphan x y h)

pub exit_of_ended : (a b : Side) → Kept a b → ExitOfEnded a
exit_of_ended a b k r h = go a.gone refl
  where
    go : (g : Bool) → a.gone ≡ g → a.gone ≡ true
    go true g = g
    go false g = absurd (both_ways (has_exit a.sent) (k.one.no_exit g) (exit_tested a.sent r h))

active_at_rest : (a b : Side) → Kept a b → a.sent ≡ [] → b.sent ≡ [] → a.end ≡ End.Active → b.end ≡ End.Active
active_at_rest a b k sa sb h = go a.gone b.gone refl refl
  where
    act : settled a b ≡ End.Active
    act = ap (drained a.end) sb ∙ h

    go : (f g : Bool) → a.gone ≡ f → b.gone ≡ g → b.end ≡ End.Active
    go true g x y = absurd (let n : End.None ≡ End.Active = sym (k.one.idle x) ∙ h in cc)
    go false true x y = absurd (both_ways (has_link a.sent) (ap has_link sa) (k.one.orphan x y act))
    go false false x y = sym (ap (drained b.end) sa) ∙ (k.agree x y).0 act

pub agree_at_rest : (w : Pair) → IsKept w → IsAtRest w → (w.here.end ≡ End.Active) ↔ (w.there.end ≡ End.Active)
agree_at_rest w k rest =
    (active_at_rest w.here w.there k rest.0 rest.1, active_at_rest w.there w.here (kept_swap _ _ k) rest.1 rest.0)
