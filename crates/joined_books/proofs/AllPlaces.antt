-- The places of all entries, one more, and those of one node more.
use Rattle.std.proofs.Common.{◌≡◌, ℕ, ◌+◌, ◌<◌, ◌≤◌, List, [], ◌∷◌, ◌++◌, get_or, length, map, sym, ap, ◌∙◌, append_assoc, arith, take}
use Rattle.std.proofs.lemmas.List.{length-map, length-take-le}
use Rattle.joined_books.proofs.OneMore.{map_push, take_next}
use Rattle.joined_books.proofs.Ordered.{all_push, places_push}
use Rattle.joined_books.specs.Parts.{stamps_in, stamps_of}
use Rattle.joined_books.specs.Places.{all_places, places_from}
use Rattle.joined_books.specs.declared.trace.Placed.{Placed}
use Rattle.node_lock.specs.Seen.{BookSeen}
use Rattle.node_history.specs.declared.entry.Entry.{Entry}

taken : {X Y : Type 0} (f : X → Y) (xs : List X) (i : ℕ) (x : X) → i < length xs → x ≡ get_or xs i x
    → map f (take (i + 1) xs) ≡ map f (take i xs) ++ f x ∷ []
taken f xs i x below is = ap (λ l. map f l) (take_next xs i x below is) ∙ map_push f (take i xs) x

many : {X Y : Type 0} (f : X → Y) (xs : List X) (i : ℕ) → i < length xs → length (map f (take i xs)) ≡ i
many f xs i below = length-map (take i xs) f ∙ length-take-le i xs (let h : i ≤ length xs = omega arith in h)

pub place_next : (node : ℕ) (old now new : List Placed) (entries : List Entry) (i : ℕ) (x : Entry) (s : ℕ) → i < length entries
    → x ≡ get_or entries i x
    → s ≡ x.stamp → now ≡ old ++ places_from node 0 (stamps_in (take i entries))
    → new ≡ now ++ record { stamp = s; node = node; position = i } ∷ []
    → new ≡ old ++ places_from node 0 (stamps_in (take (i + 1) entries))
place_next node old now new entries i x s below is stamp_is was pushed =
    let stamp : Entry → ℕ = λ entry. entry.stamp in
    let more : places_from node 0 (map stamp (take (i + 1) entries)) ≡ places_from node 0 (map stamp (take i entries)) ++ record
    { stamp = s; node = node; position = i } ∷ [] =
    ap (λ l. places_from node 0 l) (taken stamp entries i x below is) ∙ places_push node 0 (map stamp (take i entries)) x.stamp
    ∙ ap (λ p. places_from node 0 (map stamp (take i entries)) ++ record { stamp = x.stamp; node = node; position = p } ∷ [])
    (let e : 0 + length (map stamp (take i entries)) ≡ i = omega (arith, many stamp entries i below) in e)
    ∙ ap (λ n. places_from node 0 (map stamp (take i entries)) ++ record { stamp = n; node = node; position = i } ∷ []) (sym stamp_is) in
    pushed ∙ ap (λ l. l ++ record { stamp = s; node = node; position = i } ∷ []) was
    ∙ append_assoc old (places_from node 0 (map stamp (take i entries))) (record { stamp = s; node = node; position = i } ∷ [])
    ∙ ap (λ l. old ++ l) (sym more)

pub node_next : (books : List BookSeen) (i : ℕ) (x : BookSeen) (now new : List Placed) (entries : List Entry) → i < length books
    → x ≡ get_or books i x
    → now ≡ all_places 0 (map stamps_of (take i books)) → entries ≡ x.history.entries.items
    → new ≡ now ++ places_from i 0 (stamps_in entries)
    → new ≡ all_places 0 (map stamps_of (take (i + 1) books))
node_next books i x now new entries below is was those pushed =
    pushed ∙ ap (λ l. l ++ places_from i 0 (stamps_in entries)) was
    ∙ ap (λ l. all_places 0 (map stamps_of (take i books)) ++ places_from i 0 (stamps_in l)) those
    ∙ ap (λ n. all_places 0 (map stamps_of (take i books)) ++ places_from n 0 (stamps_of x))
    (let e : i ≡ 0 + length (map stamps_of (take i books)) = omega (arith, many stamps_of books i below) in e)
    ∙ sym (all_push 0 (map stamps_of (take i books)) (stamps_of x)) ∙ ap (λ l. all_places 0 l) (sym (taken stamps_of books i x below is))
