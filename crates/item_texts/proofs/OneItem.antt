-- Bytes are read in one way, and those of an item that is sent as that item.
use Rattle.std.proofs.Common.{◌≡◌, ℕ, List, [], ◌++◌, Option, None, Some, refl, sym, ap, ◌∙◌}
use Rattle.dist_model.specs.Items.{Handshake, Item, Signalled, Tick}
use Rattle.erl_control.specs.Frame.{IsFramed}
use Rattle.erl_control.specs.declared.signal.Item.{Item as FrameItem}
use Rattle.erl_control.specs.declared.signal.Item.TheVariants as frame
use Rattle.erl_handshake.proofs.Dues.{same_message, written_shake}
use Rattle.erl_handshake.specs.Messages.{HasFields, IsFor, written}
use Rattle.erl_handshake.specs.declared.message.ShakeMsg.{ShakeMsg}
use Rattle.item_texts.specs.Reading.{AreBytesOf, IsRead, of_frame, read_of, reader_in, reader_of}
use Rattle.item_texts.specs.declared.reading.ReadItem.{ReadItem}
use Rattle.item_texts.specs.declared.reading.ReadItem.TheVariants as read
use Rattle.node_frames.proofs.Beginnings.{beginning_is}
use Rattle.node_frames.proofs.Told.{kind_is_told}
use Rattle.node_frames.specs.Frames.{IsSpelled, bytes_of}

-- no frame begins another
abbrev pub OneFrame : Type 0
OneFrame = (i j : FrameItem) (a b x y : List ℕ) → IsFramed i a → IsFramed j b → a ++ x ≡ b ++ y → (i ≡ j) × (a ≡ b)

same_item : OneFrame → (bytes : List ℕ) (one other : ReadItem) → AreBytesOf one bytes → AreBytesOf other bytes → one ≡ other
same_item one bytes (read.Signal s) (read.Signal t) p q =
    ap of_frame (one (frame.Signal s) (frame.Signal t) bytes bytes [] [] p.1 q.1 refl).0
same_item one bytes (read.Signal s) read.Tick p q = ap of_frame (one (frame.Signal s) frame.Tick bytes bytes [] [] p.1 q.1 refl).0
same_item one bytes (read.Signal s) (read.Message m) p q = let no = sym p.0 ∙ q.0 in cc
same_item one bytes read.Tick (read.Signal t) p q = ap of_frame (one frame.Tick (frame.Signal t) bytes bytes [] [] p.1 q.1 refl).0
same_item one bytes read.Tick read.Tick p q = refl
same_item one bytes read.Tick (read.Message m) p q = let no = sym p.0 ∙ q.0 in cc
same_item one bytes (read.Message m) (read.Signal t) p q = let no = sym p.0 ∙ q.0 in cc
same_item one bytes (read.Message m) read.Tick p q = let no = sym p.0 ∙ q.0 in cc
same_item one bytes (read.Message m) (read.Message k) p q =
    ap (λ (message : ShakeMsg). read.Message message) (same_message (reader_in bytes) m k bytes bytes [] [] p.1 q.1 refl).0

pub read_once : OneFrame → (bytes : List ℕ) (one other : Option ReadItem) → IsRead bytes one → IsRead bytes other → one ≡ other
read_once one bytes None None p q = refl
read_once one bytes None (Some b) p q = absurd (p b q)
read_once one bytes (Some a) None p q = absurd (q a p)
read_once one bytes (Some a) (Some b) p q = ap (λ (item : ReadItem). Some item) (same_item one bytes a b p q)

is_for : (m : ShakeMsg) → HasFields m → IsFor (reader_in (written m)) m
is_for (ShakeMsg.SendName flags creation name) h = ap reader_of (kind_is_told (Handshake (ShakeMsg.SendName flags creation name)) h)
is_for (ShakeMsg.Challenge flags challenge creation name) h =
    ap reader_of (kind_is_told (Handshake (ShakeMsg.Challenge flags challenge creation name)) h)
is_for _ h = tt

pub sent_is_read : (item : Item) → IsSpelled item → IsRead (bytes_of item) (Some (read_of item))
sent_is_read (Signalled signal payload) s = (beginning_is (Signalled signal payload) s, s.0)
sent_is_read (Handshake message) s =
    (beginning_is (Handshake message) s, written_shake (reader_in (written message)) message (is_for message s) s)
sent_is_read Tick s = (beginning_is Tick s, refl)
