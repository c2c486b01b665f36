-- Rows whose edges are taken, one after another.
use Rattle.std.proofs.Common.{◌≡◌, List, [], ◌∷◌, ◌++◌, Bool, true, false, refl, ap, sym, subst, ◌∙◌, append_assoc, append-nil}
use Rattle.line_base.specs.declared.edge.Edge.{Edge}
use Rattle.receiver_core.specs.declared.setup.ChannelSetup.{ChannelSetup}
use Rattle.receiver_core.specs.declared.counted_receiver.CountedReceiver.{CountedReceiver}
use Rattle.decode_command.specs.Channels.{Decoding, edge_lines, lines_behind, text_so_far, told_lines}
use Rattle.decode_command.specs.Followed.{AllFollow}
use Rattle.decode_command.proofs.Fronts.{text-more}
use Rattle.decode_command.specs.Writes.{Written, GrowsAlong}
use Rattle.decode_command.proofs.Writing.{grows-nothing, told-then}

-- no edge adds no line
pub row-none : (told : Bool) (setups : List ChannelSetup) (edges row : List Edge) → row ≡ [] → [] ≡ told_lines told (lines_behind setups edges row)
unfolding lines_behind
row-none true setups edges row none = sym (ap (lines_behind setups edges) none)
row-none false setups edges row none = refl

-- the lines of a row, by its first edge and by the others
pub row-parts : (told : Bool) (setups : List ChannelSetup) (edges row rest : List Edge) (edge : Edge) → row ≡ edge ∷ rest
    → told_lines told (lines_behind setups edges row) ≡ told_lines told (edge_lines 0 setups edges edge) ++ told_lines told (lines_behind setups (edges ++ edge ∷ []) rest)
unfolding lines_behind
row-parts told setups edges row rest edge parts =
    ap (λ r. told_lines told (lines_behind setups edges r)) parts ∙ sym (told-then told (edge_lines 0 setups edges edge) (lines_behind setups (edges ++ edge ∷ []) rest))

-- channels that have taken them all have taken the row
pub row-follow : (channels : List CountedReceiver) (edges row rest : List Edge) (edge : Edge) → row ≡ edge ∷ rest → AllFollow channels ((edges ++ edge ∷ []) ++ rest) → AllFollow channels (edges ++ row)
row-follow channels edges row rest edge parts follow =
    subst (λ (es : List Edge). AllFollow channels es) (append_assoc edges (edge ∷ []) rest ∙ ap (λ r. edges ++ r) (sym parts)) follow

-- the text of edges and of one more
pub text-one : (decoding : Decoding) (edges : List Edge) (edge : Edge) → text_so_far decoding (edges ++ edge ∷ []) ≡ text_so_far decoding edges ++ told_lines decoding.told (edge_lines 0 decoding.setups edges edge)
unfolding lines_behind
text-one decoding edges edge = text-more decoding edges (edge ∷ []) ∙ ap (λ lines. text_so_far decoding edges ++ told_lines decoding.told lines) (append-nil (edge_lines 0 decoding.setups edges edge))

-- a row without edges adds nothing to the text
pub no-row : (decoding : Decoding) (at : Written) (edges row : List Edge) → row ≡ [] → GrowsAlong at at (text_so_far decoding edges) (text_so_far decoding (edges ++ row))
no-row decoding at edges row none =
    subst (λ (es : List Edge). GrowsAlong at at (text_so_far decoding edges) (text_so_far decoding es)) (sym (append-nil edges) ∙ ap (λ r. edges ++ r) (sym none)) (grows-nothing at (text_so_far decoding edges))
