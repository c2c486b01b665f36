use Rattle.std.proofs.Common.{◌≡◌, ℕ, List, [], ◌∷◌, ◌++◌, append_assoc}
use Rattle.edge_trace.specs.Texts.{narrow_text}
use Rattle.edge_trace.proofs.edge_text.edge_line.Goals as goal
use Rattle.edge_trace.proofs.edge_text.edge_line.Goals.{then-edge, else-edge}

joined : (time line level : List ℕ) → ((([] ++ time) ++ (44 ∷ [])) ++ line) ++ level ≡ time ++ (44 ∷ (line ++ level))
joined time line level = simp append_assoc

pub returns : goal.returns
unfolding narrow_text
returns c = elim c.if-edge.branch [
  | then-edge w ↦ rw (c.push_str-4.ensures.bytes, c.push_str-3.ensures.bytes, c.format-2.ensures.text, c.push_str-2.ensures.bytes, c.push_str.ensures.bytes, c.format.ensures.text, c.requires.empty, w.push_str-is, w.if-edge.true) (joined _ _ _)
  | else-edge w ↦ rw (c.push_str-4.ensures.bytes, c.push_str-3.ensures.bytes, c.format-2.ensures.text, c.push_str-2.ensures.bytes, c.push_str.ensures.bytes, c.format.ensures.text, c.requires.empty, w.push_str-is, w.if-edge.false) (joined _ _ _)
]
