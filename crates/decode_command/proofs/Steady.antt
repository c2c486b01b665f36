-- That decoding is a steady task.
use Rattle.std.proofs.Common.{ℕ, List, ◌++◌, ap, sym, subst, ◌∙◌}
use Rattle.line_base.specs.Streams.{IsFrontOf}
use Rattle.line_base.specs.declared.edge.Edge.{Edge}
use Rattle.command_base.specs.Tasks.{IsSteady}
use Rattle.edge_trace.specs.Limits.{edges_of}
use Rattle.decode_command.specs.Channels.{Decoding, decoding_task, text_so_far}
use Rattle.decode_command.proofs.EdgeLists.{edges-nil, within-limit, fault-stays, edges-stay, whole_fault-stays, whole_edges-stay, edges-front, whole_edges-front}
use Rattle.decode_command.proofs.Fronts.{input-front, input-refused, text-front, text-none}

text-grows : (decoding : Decoding) (bytes more : List ℕ) → IsFrontOf (text_so_far decoding (edges_of bytes)) (text_so_far decoding (edges_of (bytes ++ more)))
text-grows decoding bytes more =
    let edges = edges-front bytes more in
    subst (λ (es : List Edge). IsFrontOf (text_so_far decoding (edges_of bytes)) (text_so_far decoding es)) (sym edges.is) (text-front decoding (edges_of bytes) edges.rest)

pub decoding-steady : (decoding : Decoding) → IsSteady (decoding_task decoding)
decoding-steady decoding = record {
  nothing = ap (text_so_far decoding) edges-nil ∙ text-none decoding;
  few = within-limit;
  fault_stays = fault-stays;
  text_stays = λ bytes more fault e. ap (text_so_far decoding) (edges-stay bytes more fault e);
  whole_fault_stays = whole_fault-stays;
  whole_text_stays = λ bytes fault e. input-refused decoding bytes fault (whole_fault-stays bytes fault e) (whole_edges-stay bytes fault e);
  grows = text-grows decoding;
  whole_grows = λ bytes. let edges = whole_edges-front bytes in input-front decoding bytes (edges_of bytes) edges.rest edges.is;
}
