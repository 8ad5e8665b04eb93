-- The trace of an event: a line for each item that it sends on a connection, and one for the connection that it breaks.
-- (ERTS User's Guide, Distribution Protocol. The form of the lines is own.)
use Rattle.std.specs.Prelude.{Option, Some, Bool, true, false, ℕ, List, [], ◌∷◌, ◌++◌, map}
use Rattle.std.specs.List.{flat_map}
use Rattle.dist_model.specs.Items.{Item}
use Rattle.dist_model.specs.Names.{Name}
use Rattle.dist_model.specs.World.{Refused, Report, Reported}
use Rattle.dist_model.specs.declared.report.Effect.{Effect}
use Rattle.item_texts.specs.Words.{sent_words}
use Rattle.node_frames.specs.Frames.{Framed, IsSpelled, shown}
use Rattle.run_traces.specs.Breaks.{broke, fault_in}
use Rattle.run_traces.specs.declared.trace.Trace.{Trace}
use Rattle.script_texts.specs.Texts.{sent_text}

abbrev pub is_on : Trace → Bool
is_on Trace.Off = false
is_on Trace.Frames = true
is_on Trace.Words = true

-- each item has a line
abbrev pub louder : Trace → Trace
louder Trace.Off = Trace.Frames
louder Trace.Frames = Trace.Frames
louder Trace.Words = Trace.Words

-- ---- the items that an event sends

-- in hex
abbrev pub sent_in : Name → Effect Framed → List ℕ
sent_in node (Effect.Sent (Some trunk) peer frame) = sent_text node peer frame.bytes
sent_in node effect = []

-- in hex and in words
abbrev pub words_in : Name → Effect Item → List ℕ
words_in node (Effect.Sent (Some trunk) peer item) = sent_words node peer item
words_in node effect = []

abbrev pub sents : Trace → Name → List (Effect Item) → List ℕ
sents Trace.Off node effects = []
sents Trace.Frames node effects = flat_map (sent_in node) (map shown effects)
sents Trace.Words node effects = flat_map (words_in node) effects

-- an item that is sent on a connection has a spelling
abbrev pub IsSentSpelled : Effect Item → Type 0
IsSentSpelled (Effect.Sent (Some trunk) peer item) = IsSpelled item
IsSentSpelled effect = Unit {0}

abbrev pub AreSentSpelled : List (Effect Item) → Type 0
AreSentSpelled [] = Unit {0}
AreSentSpelled (effect ∷ rest) = IsSentSpelled effect × AreSentSpelled rest

-- ---- an event

abbrev pub effects_of : Report → List (Effect Item)
effects_of (Refused why) = []
effects_of (Reported answer effects) = effects

-- the items that it sends, and then the connection that it breaks, towards the peer from which an item came
abbrev pub trace_text : Trace → (node : Name) → (peer : Option Name) → Report → List ℕ
trace_text trace node peer report = sents trace node (effects_of report) ++ broke trace node peer (fault_in report)
