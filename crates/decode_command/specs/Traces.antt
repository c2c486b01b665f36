-- What a run tells of channels whose edges are a trace that the stated drift and jitter allow; this project's own.
use Rattle.std.specs.Prelude.{◌≡◌, ℕ, List, ◌++◌, Option, None, Some, filter}
use Rattle.std.specs.List.{slice_get}
use Rattle.std.specs.Io.KnownBytes.{Appends}
use Rattle.line_base.specs.Streams.{AppendsFront, IsFrontOf}
use Rattle.line_base.specs.declared.edge.Edge.{Edge}
use Rattle.line_base.specs.declared.faults.LineFault.{LineFault}
use Rattle.line_base.specs.declared.reason.Reason.{Reason}
use Rattle.line_base.specs.declared.reason.Reason.TheVariants as reason
use Rattle.edge_trace.specs.Limits.{edges_of, whole_edges_of, whole_fault_of}
use Rattle.receiver_core.specs.declared.message.Message.{Message}
use Rattle.receiver_core.specs.declared.setup.ChannelSetup.{ChannelSetup}
use Rattle.receiver_core.specs.Traces.{IsHonest, from_first}
use Rattle.decode_command.specs.Channels.{Decoding, is_on}
use Rattle.decode_command.specs.Tellings.{Telling, told_of, text_told, whole_text_told}

-- the edges on a channel's lines, in order
abbrev pub edges_on : ChannelSetup → List Edge → List Edge
edges_on setup edges = filter (is_on setup) edges

-- of each channel whose edges are an honest trace of some messages, exactly the reports of these messages are told, from the first whole frame on; it doesn't matter what the other channels' edges are
abbrev pub TellsMessages : List ChannelSetup → List Edge → List Telling → Type 0
TellsMessages setups edges tellings =
    (channel : ℕ) (setup : ChannelSetup) (messages : List Message) → slice_get setups channel ≡ Some setup → IsHonest setup messages (edges_on setup edges)
    → told_of channel tellings ≡ from_first setup messages (edges_on setup edges)

-- of each channel whose edges begin an honest trace of some messages, which stopped earlier, a front of the reports of the whole trace is told
abbrev pub TellsFronts : List ChannelSetup → List Edge → List Telling → Type 0
TellsFronts setups edges tellings =
    (channel : ℕ) (setup : ChannelSetup) (messages : List Message) (more : List Edge) → slice_get setups channel ≡ Some setup → IsHonest setup messages (edges_on setup edges ++ more)
    → IsFrontOf (told_of channel tellings) (from_first setup messages (edges_on setup edges ++ more))

-- the text is that of what is told of each channel, with the total lines, and honest traces tell their messages
pub record IsWholeText (decoding : Decoding) (edges : List Edge) (text : List ℕ) : Type 0 where
  pub tellings : List Telling
  pub is : text ≡ whole_text_told decoding tellings
  pub tells : TellsMessages decoding.setups edges tellings

-- the same without total lines, of traces that stopped earlier
pub record IsTextSoFar (decoding : Decoding) (edges : List Edge) (text : List ℕ) : Type 0 where
  pub tellings : List Telling
  pub is : text ≡ text_told decoding tellings
  pub tells : TellsFronts decoding.setups edges tellings

-- the text of an input, by whether its edge list has a fault
abbrev pub IsInputText : Option (ℕ × LineFault) → Decoding → List Edge → List ℕ → Type 0
IsInputText None decoding edges text = IsWholeText decoding edges text
IsInputText (Some fault) decoding edges text = IsTextSoFar decoding edges text

-- what a run that decodes so has told of honest traces in these bytes, by its reason: a text by which the output has grown
unfoldable pub ToldTraces : Decoding → Reason → List ℕ → Option (List ℕ) → Option (List ℕ) → Type 0
ToldTraces decoding reason.Clean bytes got got' = (text : List ℕ) × Appends got got' text × IsWholeText decoding (whole_edges_of bytes) text
ToldTraces decoding reason.Marked bytes got got' = (text : List ℕ) × Appends got got' text × IsWholeText decoding (whole_edges_of bytes) text
ToldTraces decoding (reason.Input number fault) bytes got got' = (text : List ℕ) × Appends got got' text × IsTextSoFar decoding (whole_edges_of bytes) text
ToldTraces decoding reason.ReadFault bytes got got' =
    (taken : List ℕ) × (rest : List ℕ) × (text : List ℕ) × (bytes ≡ taken ++ rest) × Appends got got' text × IsTextSoFar decoding (edges_of taken) text
-- a front of such a text was written
ToldTraces decoding (reason.WriteFault None) bytes got got' =
    (text : List ℕ) × AppendsFront got got' text × IsInputText (whole_fault_of bytes) decoding (whole_edges_of bytes) text
-- nothing was written
ToldTraces decoding reason.OutOfMemory bytes got got' = Unit {0}
-- no lane is written to, the words were accepted, and no archive is read
ToldTraces decoding (reason.WriteFault (Some lane)) bytes got got' = ⊥
ToldTraces decoding (reason.Words place fault) bytes got got' = ⊥
ToldTraces decoding (reason.Archive at fault) bytes got got' = ⊥
