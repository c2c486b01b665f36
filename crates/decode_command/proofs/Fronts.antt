-- What was written of some edges stays when more come.
use Rattle.std.proofs.Common.{◌≡◌, ℕ, Bool, true, false, cond, None, Some, is_some, List, [], ◌∷◌, ◌++◌, refl, ap, sym, subst, ◌∙◌, append_assoc, append-nil}
use Rattle.line_base.specs.Streams.{IsFrontOf}
use Rattle.line_base.proofs.Fronts.{IsFrontOf-trans}
use Rattle.line_base.specs.declared.edge.Edge.{Edge}
use Rattle.line_base.specs.declared.faults.LineFault.{LineFault}
use Rattle.receiver_core.specs.declared.setup.ChannelSetup.{ChannelSetup}
use Rattle.edge_trace.specs.Limits.{edges_of, whole_edges_of, whole_fault_of}
use Rattle.decode_command.specs.Channels.{Decoding, edge_lines, lines_behind, told_lines, end_lines, total_lines, text_so_far, whole_text, text_of}
use Rattle.decode_command.proofs.Writing.{told-then}

-- the lines of edges and of more behind them
lines-more : (setups : List ChannelSetup) (before edges more : List Edge) → lines_behind setups before (edges ++ more) ≡ lines_behind setups before edges ++ lines_behind setups (before ++ edges) more
unfolding lines_behind
lines-more setups before [] more = ap (λ es. lines_behind setups es more) (sym (append-nil before))
lines-more setups before (edge ∷ edges) more =
    ap (λ l. edge_lines 0 setups before edge ++ l) (lines-more setups (before ++ edge ∷ []) edges more)
    ∙ sym (append_assoc (edge_lines 0 setups before edge) (lines_behind setups (before ++ edge ∷ []) edges) (lines_behind setups ((before ++ edge ∷ []) ++ edges) more))
    ∙ ap (λ es. (edge_lines 0 setups before edge ++ lines_behind setups (before ++ edge ∷ []) edges) ++ lines_behind setups es more) (append_assoc before (edge ∷ []) edges)

-- the text of edges and of more behind them
pub text-more : (decoding : Decoding) (edges more : List Edge) → text_so_far decoding (edges ++ more) ≡ text_so_far decoding edges ++ told_lines decoding.told (lines_behind decoding.setups edges more)
unfolding text_so_far
text-more decoding edges more =
    ap (told_lines decoding.told) (lines-more decoding.setups [] edges more) ∙ sym (told-then decoding.told (lines_behind decoding.setups [] edges) (lines_behind decoding.setups edges more))

-- no edge has no text
pub text-none : (decoding : Decoding) → text_so_far decoding [] ≡ []
unfolding text_so_far lines_behind
text-none decoding = none decoding.told
  where
    none : (told : Bool) → told_lines told [] ≡ []
    none true = refl
    none false = refl

-- the text of some edges is a front of that of more
pub text-front : (decoding : Decoding) (edges more : List Edge) → IsFrontOf (text_so_far decoding edges) (text_so_far decoding (edges ++ more))
text-front decoding edges more = record { rest = told_lines decoding.told (lines_behind decoding.setups edges more); is = text-more decoding edges more }

-- what the end adds to the text
pub whole-more : (decoding : Decoding) (edges : List Edge) → whole_text decoding edges ≡ text_so_far decoding edges ++ (told_lines decoding.told (end_lines 0 decoding.setups edges) ++ total_lines 0 decoding.setups edges)
unfolding whole_text
whole-more decoding edges = refl

-- the text so far is a front of the whole text
pub whole-front : (decoding : Decoding) (edges more : List Edge) → IsFrontOf (text_so_far decoding edges) (whole_text decoding (edges ++ more))
whole-front decoding edges more =
    IsFrontOf-trans (text-front decoding edges more)
    (record { rest = told_lines decoding.told (end_lines 0 decoding.setups (edges ++ more)) ++ total_lines 0 decoding.setups (edges ++ more); is = whole-more decoding (edges ++ more) })

-- the same of the text of an input, whether its edge list has a fault or not
either-front : (decoding : Decoding) (edges more : List Edge) (faulty : Bool) → IsFrontOf (text_so_far decoding edges) (cond faulty (text_so_far decoding (edges ++ more)) (whole_text decoding (edges ++ more)))
either-front decoding edges more true = text-front decoding edges more
either-front decoding edges more false = whole-front decoding edges more

pub input-front : (decoding : Decoding) (bytes : List ℕ) (edges more : List Edge) → whole_edges_of bytes ≡ edges ++ more → IsFrontOf (text_so_far decoding edges) (text_of decoding bytes)
unfolding text_of
input-front decoding bytes edges more e =
    subst (λ (es : List Edge). IsFrontOf (text_so_far decoding edges) (cond (is_some (whole_fault_of bytes)) (text_so_far decoding es) (whole_text decoding es))) (sym e)
    (either-front decoding edges more (is_some (whole_fault_of bytes)))

-- without a fault it is the whole text
pub input-sound : (decoding : Decoding) (bytes : List ℕ) → whole_fault_of bytes ≡ None → whole_text decoding (whole_edges_of bytes) ≡ text_of decoding bytes
unfolding text_of
input-sound decoding bytes sound = ap (λ fault. cond (is_some fault) (text_so_far decoding (whole_edges_of bytes)) (whole_text decoding (whole_edges_of bytes))) (sym sound)

-- with a fault behind which no edge comes it is the text so far
pub input-refused : (decoding : Decoding) (bytes : List ℕ) (fault : ℕ × LineFault) → whole_fault_of bytes ≡ Some fault → whole_edges_of bytes ≡ edges_of bytes → text_of decoding bytes ≡ text_so_far decoding (edges_of bytes)
unfolding text_of
input-refused decoding bytes fault found none =
    ap (λ fault. cond (is_some fault) (text_so_far decoding (whole_edges_of bytes)) (whole_text decoding (whole_edges_of bytes))) found ∙ ap (text_so_far decoding) none
