-- Parcels that move stay those of the same items.
use Rattle.std.proofs.Common.{◌≡◌, ℕ, ◌+◌, Bool, true, false, List, [], ◌∷◌, ◌++◌, inl, inr, length}
use Rattle.std.proofs.Common.{nat_lt, if◌then◌else◌, refl, sym, subst, append_assoc, append-nil}
use Rattle.dist_books.specs.Books.{Port, Stamped}
use Rattle.dist_books.specs.Growing.{Shifts}
use Rattle.wire_core.specs.Ports.{PortSeen, fetched, flushed, next_piece, with_gathered}
use Rattle.wire_core.specs.Standing.{Carries, CarryAll, FetchShifts, FlushShifts, FreshStands, ShiftsTo, StandsFor}
use Rattle.wire_core.specs.Pieces.{PieceSeen}
use Rattle.wire_core.specs.Spellings.{SpellsItem}
use Rattle.wire_core.specs.declared.parcel.Parcel.{Parcel}

pub carry_snoc : (parcels : List Parcel) (sent : List Stamped) (parcel : Parcel) (x : Stamped) → CarryAll parcels sent → Carries parcel x
    → CarryAll (parcels ++ parcel ∷ []) (sent ++ x ∷ [])
carry_snoc [] [] parcel x h c = (c, tt)
carry_snoc [] (y ∷ sent) parcel x h c = absurd h
carry_snoc (p ∷ parcels) [] parcel x h c = absurd h
carry_snoc (p ∷ parcels) (y ∷ sent) parcel x h c = (h.0, carry_snoc parcels sent parcel x h.1 c)

pub fresh_stands : FreshStands
fresh_stands trunk peer = record { peer = refl; put = tt; outbox = tt; taken = tt; slot = tt }

pub nothing_more : (port : Port) → Shifts port port
nothing_more port = record { peer = refl; out = refl; more = []; taken = sym (append-nil port.taken); slot = sym (append-nil port.slot) }

module _ (seen : PortSeen) (port : Port) (s : StandsFor seen port) where
  -- a piece of the first that waits is put: the parcel stays where it is, or is put
  flush_first : (is_part : Bool) (parcel : Parcel) (rest : List Parcel) (pieces : List PieceSeen) (begun : ℕ) (x : Stamped)
      (xs : List Stamped)
      → port.outbox ≡ x ∷ xs → seen.outbox ≡ parcel ∷ rest → Carries parcel x × CarryAll rest xs
      → ShiftsTo (if is_part then record seen { pieces = pieces; begun = begun }
      else record seen { pieces = pieces; begun = 0; put = seen.put ++ parcel ∷ []; outbox = rest }) port
  flush_first true parcel rest pieces begun x xs p w h = record {
    next = port;
    stands = record { peer = s.peer; put = s.put; outbox = s.outbox; taken = s.taken; slot = s.slot };
    shifts = nothing_more port;
  }
  flush_first false parcel rest pieces begun x xs p w h = record {
    next = record { peer = port.peer; put = port.put ++ x ∷ []; outbox = xs; taken = port.taken; slot = port.slot };
    stands = record { peer = s.peer; put = carry_snoc seen.put port.put parcel x s.put h.0; outbox = h.1; taken = s.taken; slot = s.slot };
    shifts = record {
      peer = refl;
      out = rw p (append_assoc port.put (x ∷ []) xs);
      more = [];
      taken = sym (append-nil port.taken);
      slot = sym (append-nil port.slot);
    };
  }

  flush_in : (waiting : List Parcel) (outbox : List Stamped) → port.outbox ≡ outbox → seen.outbox ≡ waiting → CarryAll waiting outbox
      → ShiftsTo (flushed seen waiting) port
  flush_in [] outbox p w h = record { next = port; stands = s; shifts = nothing_more port }
  flush_in (parcel ∷ rest) [] p w h = absurd h
  flush_in (parcel ∷ rest) (x ∷ xs) p w h =
      flush_first (nat_lt (seen.begun + seen.greatest) (length parcel.bytes)) parcel rest (seen.pieces ++ next_piece seen parcel ∷ [])
      (seen.begun + seen.greatest) x xs p w h

pub flush_shifts : FlushShifts
flush_shifts seen port s = flush_in seen port s seen.outbox port.outbox refl refl s.outbox

-- a parcel has come
ends_item : (seen : PortSeen) (port : Port) (parcel : Parcel) → SpellsItem parcel.bytes → StandsFor seen port
    → ShiftsTo (fetched seen parcel) port
ends_item seen port parcel is s =
    let x : Stamped = (parcel.stamp, is.item) in
    let c : Carries parcel x = record { stamp = refl; bytes = sym is.written; spelled = is.spelled } in
    record {
      next = record { peer = port.peer; put = port.put; outbox = port.outbox; taken = port.taken ++ x ∷ []; slot = port.slot ++ x ∷ [] };
      stands = record {
        peer = s.peer;
        put = s.put;
        outbox = s.outbox;
        taken = carry_snoc seen.taken port.taken parcel x s.taken c;
        slot = carry_snoc seen.slot port.slot parcel x s.slot c;
      };
      shifts = record { peer = refl; out = refl; more = x ∷ []; taken = refl; slot = refl };
    }

-- no parcel has come yet
goes_on : (seen : PortSeen) (port : Port) (gathered : List ℕ) → StandsFor seen port → ShiftsTo (with_gathered seen gathered) port
goes_on seen port gathered s = record {
  next = port;
  stands = record { peer = s.peer; put = s.put; outbox = s.outbox; taken = s.taken; slot = s.slot };
  shifts = nothing_more port;
}

pub fetch_shifts : FetchShifts
fetch_shifts seen new port f s = elim f.comes [
  | inl e ↦ subst (λ x. ShiftsTo x port) (sym e.becomes) (ends_item seen port e.parcel e.spelled s)
  | inr g ↦ subst (λ x. ShiftsTo x port) (sym g.becomes) (goes_on seen port (seen.gathered ++ f.piece.bytes) s)
]
