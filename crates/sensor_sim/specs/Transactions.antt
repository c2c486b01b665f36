-- What the edges of a call of SPC are like, and a trace of SPC whose line was opened before its first edge; this project's own.
use Rattle.std.specs.Prelude.{◌≡◌, true, List, [], ◌∷◌}
use Rattle.line_base.specs.Edges.{NumberedEdge}
use Rattle.line_base.specs.declared.edge.Edge.{Edge}
use Rattle.spc_link.specs.Setup.{Settings}
use Rattle.spc_link.specs.Reading.{is_after_quiet}
use Rattle.receiver_core.specs.declared.message.Message.{Message}
use Rattle.receiver_core.specs.SpcTraces.{IsSpcTrace}

-- the trigger of a call, which is its first edge but an opening, falls after quiet: behind the last of the edges that were sent before, or behind the opening where none were
abbrev pub FallsAfterQuiet : Settings → List Edge → List Edge → Type 0
FallsAfterQuiet s [] (opening ∷ fall ∷ more) = is_after_quiet s opening.time fall ≡ true
FallsAfterQuiet s (last ∷ []) (fall ∷ more) = is_after_quiet s last.time fall ≡ true
FallsAfterQuiet s (edge ∷ next ∷ edges) more = FallsAfterQuiet s (next ∷ edges) more
FallsAfterQuiet s edges more = ⊥

-- the last of these edges is a rise
abbrev pub EndsWithRise : List Edge → Type 0
EndsWithRise [] = ⊥
EndsWithRise (edge ∷ []) = edge.level ≡ true
EndsWithRise (edge ∷ next ∷ edges) = EndsWithRise (next ∷ edges)

-- the edges are an honest trace of all edges of these messages: none was before the opening
abbrev pub IsWholeTrace : Settings → List Message → List NumberedEdge → Type 0
IsWholeTrace s messages edges = (trace : IsSpcTrace s messages edges) × (trace.honest.left_out ≡ 0)
