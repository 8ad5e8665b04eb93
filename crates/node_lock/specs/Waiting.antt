-- What the entries of a history have sent on a way, and what of it stands behind a place: an entry, and how many of its effects.
use Rattle.std.specs.Prelude.{◌≡◌, ◌⊎◌, ℕ, ◌<◌, List, [], ◌∷◌, ◌++◌, drop, length, Ok, Err}
use Rattle.dist_books.specs.Acting.{Way}
use Rattle.dist_books.specs.Books.{Stamped}
use Rattle.dist_model.specs.declared.report.Effect.{Effect}
use Rattle.dist_books.specs.Logs.{stamped}
use Rattle.node_history.specs.Entering.{Answer}
use Rattle.node_history.specs.declared.entry.Entry.{Entry}
use Rattle.node_frames.specs.Frames.{Framed, IsSpelled, framed}
use Rattle.node_core.specs.SentAt.{sent_at}

abbrev pub effects_of : Answer → List (Effect Framed)
effects_of (Ok report) = report.effects.items
effects_of (Err e) = []

-- the frames with the stamp of the entry
abbrev pub sent_in : Way → Entry → List (ℕ × Framed)
sent_in way entry = stamped entry.stamp (sent_at way.0 way.1 (effects_of entry.answer))

abbrev pub all_sent : Way → List Entry → List (ℕ × Framed)
all_sent way [] = []
all_sent way (entry ∷ rest) = sent_in way entry ++ all_sent way rest

abbrev pub sent_behind : Way → (effects : ℕ) → List Entry → List (ℕ × Framed)
sent_behind way effects [] = []
sent_behind way effects (entry ∷ rest) =
    stamped entry.stamp (sent_at way.0 way.1 (drop effects (effects_of entry.answer))) ++ all_sent way rest

abbrev pub waiting : Way → (entry effects : ℕ) → List Entry → List (ℕ × Framed)
waiting way entry effects entries = sent_behind way effects (drop entry entries)

-- a place of the history: at one of its entries, or behind the last
abbrev pub IsPlace : (entry effects : ℕ) → List Entry → Type 0
IsPlace entry effects entries = (entry < length entries) ⊎ ((entry ≡ length entries) × (effects ≡ 0))

-- the frames of these items, with their stamps
pub record IsFrameOf (frame : ℕ × Framed) (item : Stamped) : Type 0 where
  pub stamp : frame.0 ≡ item.0
  pub frame_is : frame.1 ≡ framed item.1
  pub spelled : IsSpelled item.1

abbrev pub AreFramesOf : List (ℕ × Framed) → List Stamped → Type 0
AreFramesOf [] [] = Unit {0}
AreFramesOf (frame ∷ frames) (item ∷ items) = IsFrameOf frame item × AreFramesOf frames items
AreFramesOf _ _ = ⊥
