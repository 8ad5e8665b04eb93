-- What a partner's end is after an edit, of any map of ends and of one that records make.
use Rattle.std.proofs.Common.{◌≡◌, ◌≢◌, Bool, true, false, cond, not, [], ◌∷◌, Option, None, Some, Result}
use Rattle.std.proofs.Common.{Ok, Err, OnErr, IsSome, is_some, unwrap_or, refl, sym, ap, subst, ◌∙◌}
use Rattle.std.specs.declared.cmp.Ordering.{Ordering}
use Rattle.std.specs.declared.cmp.Ordering.TheVariants.{Less, Equal, Greater}
use Rattle.std.specs.Ordering.{is_eq, eq_by_cmp}
use Rattle.std.proofs.lemmas.Cmp.{tied_itself}
use Rattle.std.specs.FinMap as map
use Rattle.std.specs.FinMap.{find, put}
use Rattle.std.specs.FinMap.Entries.{by_order}
use Rattle.sorted_map.specs.Entries.{without, changed}
use Rattle.sorted_map.specs.Maps.{sorted_put, sorted_changed, sorted_without, map_put, map_changed, map_without}
use Rattle.erl_term.specs.declared.term.Pid.{Pid}
use Rattle.link_core.specs.declared.end.End.{End}
use Rattle.erl_term.specs.Order.{pid_cmp}
use Rattle.link_core.specs.Ends.{EndMap, end_of, with_end}
use Rattle.link_core.specs.Records.{Records, AreRecords, AreLinks, IsLink}
use Rattle.erl_term.proofs.Order.{pid_cmp_total, pid_cmp_exact}

same_pid : (p : Pid) → eq_by_cmp pid_cmp p p ≡ true
same_pid p = ap is_eq (tied_itself pid_cmp_total p)

other_pid : (q p : Pid) → q ≢ p → eq_by_cmp pid_cmp q p ≡ false
other_pid q p n = go (pid_cmp q p) refl
  where
    go : (o : Ordering) → pid_cmp q p ≡ o → is_eq o ≡ false
    go Less e = refl
    go Equal e = absurd (n (pid_cmp_exact q p e))
    go Greater e = refl

pub end_of_this : (m : EndMap) (p : Pid) (e : End) → end_of (with_end m p e) p ≡ e
end_of_this m p End.None =
    ap (λ o. unwrap_or o End.None) (map.get-remove pid_cmp_total m p p ∙ ap (λ b. cond b None (map.get m p)) (same_pid p))
end_of_this m p End.Active =
    ap (λ o. unwrap_or o End.None)
    (map.get-insert pid_cmp_total m p End.Active p ∙ ap (λ b. cond b (Some End.Active) (map.get m p)) (same_pid p))
end_of_this m p (End.Pending i) =
    ap (λ o. unwrap_or o End.None)
    (map.get-insert pid_cmp_total m p (End.Pending i) p ∙ ap (λ b. cond b (Some (End.Pending i)) (map.get m p)) (same_pid p))

pub end_of_other : (m : EndMap) (p : Pid) (e : End) (q : Pid) → q ≢ p → end_of (with_end m p e) q ≡ end_of m q
end_of_other m p End.None q n =
    ap (λ o. unwrap_or o End.None) (map.get-remove pid_cmp_total m p q ∙ ap (λ b. cond b None (map.get m q)) (other_pid q p n))
end_of_other m p End.Active q n =
    ap (λ o. unwrap_or o End.None)
    (map.get-insert pid_cmp_total m p End.Active q ∙ ap (λ b. cond b (Some End.Active) (map.get m q)) (other_pid q p n))
end_of_other m p (End.Pending i) q n =
    ap (λ o. unwrap_or o End.None)
    (map.get-insert pid_cmp_total m p (End.Pending i) q ∙ ap (λ b. cond b (Some (End.Pending i)) (map.get m q)) (other_pid q p n))

-- a link is put by an insertion
pub with_link : (m : EndMap) (p : Pid) (e : End) → IsLink e → with_end m p e ≡ map.insert m p e
with_link m p End.None h = absurd h
with_link m p End.Active h = refl
with_link m p (End.Pending i) h = refl

-- what is there already, put again, changes nothing
same_at : (x : Option End) (y : Option End) (b : Bool) → (b ≡ true → y ≡ x) → cond b x y ≡ y
same_at x y true h = sym (h refl)
same_at x y false h = refl

equal_pid : (q p : Pid) → eq_by_cmp pid_cmp q p ≡ true → q ≡ p
equal_pid q p h = go (pid_cmp q p) refl h
  where
    go : (o : Ordering) → pid_cmp q p ≡ o → is_eq o ≡ true → q ≡ p
    go Less e t = cc
    go Equal e t = pid_cmp_exact q p e
    go Greater e t = cc

insert_same : (m : EndMap) (p : Pid) (e : End) → map.get m p ≡ Some e → map.insert m p e ≡ m
insert_same m p e h = map.same_map pid_cmp_total pid_cmp_exact _ _ (λ q.
    map.get-insert pid_cmp_total m p e q
    ∙ same_at (Some e) (map.get m q) (eq_by_cmp pid_cmp q p) (λ t. ap (map.get m) (equal_pid q p t) ∙ h))

remove_same : (m : EndMap) (p : Pid) → map.get m p ≡ None → map.remove m p ≡ m
remove_same m p h = map.same_map pid_cmp_total pid_cmp_exact _ _ (λ q.
    map.get-remove pid_cmp_total m p q ∙ same_at None (map.get m q) (eq_by_cmp pid_cmp q p) (λ t. ap (map.get m) (equal_pid q p t) ∙ h))

abbrev pub map_of : Records → EndMap
map_of rs = map.from_sorted rs

-- what a partner has
pub end_here : (rs : Records) (q : Pid) → AreRecords rs → end_of (map_of rs) q ≡ unwrap_or (find pid_cmp q rs) End.None
end_here rs q k = ap (λ o. unwrap_or o End.None) (map.get-from_sorted pid_cmp rs q k.sorted)

link_found : (rs : Records) (q : Pid) → AreLinks rs → (e : End) → find pid_cmp q rs ≡ Some e → IsLink e
link_found [] q l e h = cc
link_found (r ∷ rest) q l e h = go (eq_by_cmp pid_cmp q r.0) refl (link_found rest q l.1 e)
  where
    go : (b : Bool) → eq_by_cmp pid_cmp q r.0 ≡ b → (find pid_cmp q rest ≡ Some e → IsLink e) → IsLink e
    go true t k = subst (λ o. IsLink (unwrap_or o r.1)) (sym (ap (λ b. cond b (Some r.1) (find pid_cmp q rest)) t) ∙ h) l.0
    go false t k = k (sym (ap (λ b. cond b (Some r.1) (find pid_cmp q rest)) t) ∙ h)

own_end : (m : EndMap) (q : Pid) (o : Option End) → map.get m q ≡ o → ((e : End) → o ≡ Some e → IsLink e)
    → with_end m q (unwrap_or o End.None) ≡ m
own_end m q None h l = remove_same m q h
own_end m q (Some e) h l = with_link m q e (l e refl) ∙ insert_same m q e h

-- the end that a partner has, put again, changes nothing
pub put_again : (rs : Records) (q : Pid) → AreRecords rs → with_end (map_of rs) q (unwrap_or (find pid_cmp q rs) End.None) ≡ map_of rs
put_again rs q k = own_end (map_of rs) q (find pid_cmp q rs) (map.get-from_sorted pid_cmp rs q k.sorted) (link_found rs q k.links)

pub none_where_not_found : (rs : Records) (q : Pid) → AreRecords rs → (IsSome (find pid_cmp q rs) → ⊥) → end_of (map_of rs) q ≡ End.None
none_where_not_found rs q k n = end_here rs q k ∙ go (find pid_cmp q rs) n
  where
    go : (o : Option End) → (IsSome o → ⊥) → unwrap_or o End.None ≡ End.None
    go None n = refl
    go (Some e) n = absurd (n refl)

pub on_err : {A E : Type 0} (P : Type 0) (r : Result A E) → P → OnErr r P
on_err P (Ok x) h = tt
on_err P (Err e) h = h

-- a record is put
links_put : (rs : Records) (p : Pid) (e : End) → AreLinks rs → IsLink e → AreLinks (put pid_cmp p e rs)
links_put [] p e l h = (h, tt)
links_put (r ∷ rest) p e l h = go (pid_cmp p r.0) (links_put rest p e l.1 h)
  where
    go : (o : Ordering) → AreLinks (put pid_cmp p e rest)
        → AreLinks (by_order o ((p, e) ∷ r ∷ rest) ((r.0, e) ∷ rest) (r ∷ put pid_cmp p e rest))
    go Less k = (h, l)
    go Equal k = (h, l.1)
    go Greater k = (l.0, k)

pub records_put : (rs : Records) (p : Pid) (e : End) → AreRecords rs → IsLink e → AreRecords (put pid_cmp p e rs)
records_put rs p e k h = record { sorted = sorted_put pid_cmp_total p e rs k.sorted; links = links_put rs p e k.links h }

pub ends_put : (rs : Records) (p : Pid) (e : End) → AreRecords rs → IsLink e → map_of (put pid_cmp p e rs) ≡ with_end (map_of rs) p e
ends_put rs p e k h = map_put pid_cmp_total p e rs k.sorted ∙ sym (with_link (map_of rs) p e h)

-- it is changed
links_changed : (rs : Records) (p : Pid) (e : End) → AreLinks rs → IsLink e → AreLinks (changed pid_cmp p e rs)
links_changed rs p e l h = go (is_some (find pid_cmp p rs))
  where
    go : (b : Bool) → AreLinks (cond b (put pid_cmp p e rs) rs)
    go true = links_put rs p e l h
    go false = l

pub records_changed : (rs : Records) (p : Pid) (e : End) → AreRecords rs → IsLink e → AreRecords (changed pid_cmp p e rs)
records_changed rs p e k h = record { sorted = sorted_changed pid_cmp_total p e rs k.sorted; links = links_changed rs p e k.links h }

pub ends_changed : (rs : Records) (p : Pid) (e : End) → AreRecords rs → IsLink e → end_of (map_of rs) p ≢ End.None
    → map_of (changed pid_cmp p e rs) ≡ with_end (map_of rs) p e
ends_changed rs p e k h some =
    map_changed pid_cmp_total p e rs k.sorted ∙ go (map.get (map_of rs) p) some ∙ sym (with_link (map_of rs) p e h)
  where
    go : (o : Option End) → unwrap_or o End.None ≢ End.None
        → cond (is_some o) (map.insert (map_of rs) p e) (map_of rs) ≡ map.insert (map_of rs) p e
    go None n = absurd (n refl)
    go (Some x) n = refl

-- it is dropped
links_without : (rs : Records) (p : Pid) → AreLinks rs → AreLinks (without pid_cmp p rs)
links_without [] p l = tt
links_without (r ∷ rest) p l = go (not (eq_by_cmp pid_cmp p r.0)) (links_without rest p l.1)
  where
    go : (b : Bool) → AreLinks (without pid_cmp p rest) → AreLinks (cond b (r ∷ without pid_cmp p rest) (without pid_cmp p rest))
    go true k = (l.0, k)
    go false k = k

pub records_without : (rs : Records) (p : Pid) → AreRecords rs → AreRecords (without pid_cmp p rs)
records_without rs p k = record { sorted = sorted_without pid_cmp_total pid_cmp_exact p rs k.sorted; links = links_without rs p k.links }

pub ends_without : (rs : Records) (p : Pid) → AreRecords rs → map_of (without pid_cmp p rs) ≡ with_end (map_of rs) p End.None
ends_without rs p k = map_without pid_cmp_total pid_cmp_exact p rs k.sorted
