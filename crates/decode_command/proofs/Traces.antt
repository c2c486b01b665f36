-- A run that ended so has told of honest traces their messages.
--     told-traces      by how it ended
use Rattle.std.proofs.Common.{◌≡◌, ℕ, true, false, Option, None, Some, is_some, IfSome, Result, Ok, Err, IfOk, cond, List, ◌++◌, sym, subst, ◌∙◌}
use Rattle.line_base.specs.Streams.{IsFrontOf}
use Rattle.command_base.specs.Ended.{Ended}
use Rattle.line_base.specs.declared.edge.Edge.{Edge}
use Rattle.line_base.specs.declared.faults.LineFault.{LineFault}
use Rattle.line_base.specs.declared.reason.Reason.{Reason}
use Rattle.line_base.specs.declared.reason.Reason.TheVariants as reason
use Rattle.edge_trace.specs.Limits.{edges_of, whole_edges_of, whole_fault_of}
use Rattle.receiver_core.specs.declared.setup.ChannelSetup.{ChannelSetup}
use Rattle.receiver_core.specs.Traces.{from_first}
use Rattle.receiver_core.proofs.Traces.{honest-final, honest-front}
use Rattle.decode_command.specs.Channels.{Decoding, decoding_task, items_on, reports_on, final_on, text_so_far, whole_text, text_of}
use Rattle.decode_command.specs.Traces.{edges_on, TellsMessages, TellsFronts, IsWholeText, IsTextSoFar, IsInputText, ToldTraces}
use Rattle.decode_command.proofs.Tellings.{final-told, final_tells, so_far-told, so_far_tells, text-is-told, whole-is-told}

tells-messages : (setups : List ChannelSetup) (edges : List Edge) → TellsMessages setups edges (final_tells setups edges)
unfolding final_on items_on
tells-messages setups edges = λ channel setup messages has honest. final-told setups channel setup edges has ∙ honest-final setup messages (edges_on setup edges) honest

tells-fronts : (setups : List ChannelSetup) (edges : List Edge) → TellsFronts setups edges (so_far_tells setups edges)
unfolding reports_on items_on
tells-fronts setups edges = λ channel setup messages more has honest.
    subst (λ reports. IsFrontOf reports (from_first setup messages (edges_on setup edges ++ more))) (sym (so_far-told setups channel setup edges has)) (honest-front setup messages (edges_on setup edges) more honest)

whole : (decoding : Decoding) (edges : List Edge) → IsWholeText decoding edges (whole_text decoding edges)
whole decoding edges = record { tellings = final_tells decoding.setups edges; is = whole-is-told decoding edges; tells = tells-messages decoding.setups edges }

so_far : (decoding : Decoding) (edges : List Edge) → IsTextSoFar decoding edges (text_so_far decoding edges)
so_far decoding edges = record { tellings = so_far_tells decoding.setups edges; is = text-is-told decoding edges; tells = tells-fronts decoding.setups edges }

-- of an input, by whether it has a fault
input : (decoding : Decoding) (edges : List Edge) (fault : Option (ℕ × LineFault)) → IsInputText fault decoding edges (cond (is_some fault) (text_so_far decoding edges) (whole_text decoding edges))
input decoding edges None = whole decoding edges
input decoding edges (Some fault) = so_far decoding edges

input_text : (decoding : Decoding) (bytes : List ℕ) → IsInputText (whole_fault_of bytes) decoding (whole_edges_of bytes) (text_of decoding bytes)
unfolding text_of
input_text decoding bytes = input decoding (whole_edges_of bytes) (whole_fault_of bytes)

input_by : (decoding : Decoding) (bytes : List ℕ) (fault : Option (ℕ × LineFault)) → whole_fault_of bytes ≡ fault → IsInputText fault decoding (whole_edges_of bytes) (text_of decoding bytes)
input_by decoding bytes fault is = subst (λ (f : Option (ℕ × LineFault)). IsInputText f decoding (whole_edges_of bytes) (text_of decoding bytes)) is (input_text decoding bytes)

pub told-traces : (decoding : Decoding) (why : Reason) (bytes : List ℕ) (left' got got' : Option (List ℕ)) → Ended (decoding_task decoding) why bytes left' got got' → ToldTraces decoding why bytes got got'
unfolding Ended ToldTraces
told-traces decoding reason.Clean bytes left' got got' ended = (text_of decoding bytes, ended.3, input_by decoding bytes None ended.1)
told-traces decoding reason.Marked bytes left' got got' ended = (text_of decoding bytes, ended.3, input_by decoding bytes None ended.1)
told-traces decoding (reason.Input number fault) bytes left' got got' ended = (text_of decoding bytes, ended.1, input_by decoding bytes (Some (number, fault)) ended.0)
told-traces decoding reason.ReadFault bytes left' got got' ended =
    (ended.0, ended.1, text_so_far decoding (edges_of ended.0), ended.2, ended.5, so_far decoding (edges_of ended.0))
told-traces decoding (reason.WriteFault None) bytes left' got got' ended = (text_of decoding bytes, ended.0, input_text decoding bytes)
told-traces decoding reason.OutOfMemory bytes left' got got' ended = tt
told-traces decoding (reason.WriteFault (Some lane)) bytes left' got got' ended = ended
told-traces decoding (reason.Words place fault) bytes left' got got' ended = ended
told-traces decoding (reason.Archive at fault) bytes left' got got' ended = ended
