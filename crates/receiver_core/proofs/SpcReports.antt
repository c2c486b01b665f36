-- The reports of an SPC channel grow, stay, and stand for something.
--     spc-none, spc-more, spc-ended, spc-front      its reports
--     spc-stand, spc-end-stand      what they stand for
use Rattle.std.proofs.Common.{◌≡◌, List, [], ◌∷◌, ◌++◌, flat_map, refl, ap, sym, ◌∙◌, inl, inr}
use Rattle.std.specs.List.{All}
use Rattle.std.proofs.lemmas.Grind.{flat_map-append}
use Rattle.std.proofs.lemmas.List.{append_cancel_left}
use Rattle.std.proofs.lemmas.List.Elements.{All-append, All-cons, All-head, All-nil, All-tail}
use Rattle.line_base.specs.Edges.{NumberedEdge}
use Rattle.line_base.specs.Streams.{IsFrontOf}
use Rattle.line_base.specs.Readings.{read_past}
use Rattle.spc_link.specs.declared.step.SpcStep.{SpcStep}
use Rattle.spc_link.specs.declared.step.SpcStep.TheVariants.{Nothing, Good, Bad, NoAnswer}
use Rattle.spc_link.specs.Setup.{Settings}
use Rattle.spc_link.specs.Reading.{spc_reading, spc_ends, steps_of}
use Rattle.spc_link.specs.Transactions.{Means, MeansAtEnd}
use Rattle.spc_link.proofs.Meanings.{reports-mean, ends-mean}
use Rattle.spc_link.proofs.Prefixes.{reading-front}
use Rattle.receiver_core.specs.declared.report.Report.{Report}
use Rattle.receiver_core.specs.declared.report.What.TheVariants as what
use Rattle.receiver_core.specs.SpcReports.{answer_report, spc_so_far, spc_end, AnswerStands}

-- the report of a step
pub one-report : (step : SpcStep) → flat_map answer_report (steps_of step) ≡ answer_report step
one-report Nothing = refl
one-report (Good place code frame) = refl
one-report (Bad place rule) = refl
one-report (NoAnswer place code) = refl

-- no edges have no reports
pub spc-none : (s : Settings) → spc_so_far s [] ≡ []
unfolding spc_so_far read_past
spc-none s = refl

-- one edge more adds the report of its step
pub spc-more : (s : Settings) (seen after : List NumberedEdge) (step : SpcStep) (reports : List Report) → spc_reading s after ≡ spc_reading s seen ++ steps_of step → reports ≡ answer_report step
    → spc_so_far s after ≡ spc_so_far s seen ++ reports
unfolding spc_so_far
spc-more s seen after step reports grows are =
    ap (flat_map answer_report) grows ∙ flat_map-append answer_report (spc_reading s seen) (steps_of step)
    ∙ ap (λ l. flat_map answer_report (spc_reading s seen) ++ l) (one-report step ∙ sym are)

-- what the end adds is the report of the last step
pub spc-ended : (s : Settings) (seen : List NumberedEdge) (step : SpcStep) (reports : List Report) → spc_reading s seen ++ spc_ends s seen ≡ spc_reading s seen ++ steps_of step → reports ≡ answer_report step → reports ≡ spc_end s seen
unfolding spc_end
spc-ended s seen step reports ends are = are ∙ sym (one-report step) ∙ ap (flat_map answer_report) (sym (append_cancel_left (spc_reading s seen) (spc_ends s seen) (steps_of step) ends))

-- the reports of more edges begin with those of these
pub spc-front : (s : Settings) (seen more : List NumberedEdge) → IsFrontOf (spc_so_far s seen) (spc_so_far s (seen ++ more))
unfolding spc_so_far
spc-front s seen more =
    let front = reading-front s seen more in
    record { rest = flat_map answer_report front.rest; is = ap (flat_map answer_report) front.is ∙ flat_map-append answer_report (spc_reading s seen) front.rest }

-- ---- what they stand for
-- a report stands for
abbrev Stands : Settings → List NumberedEdge → Report → Type 0
Stands s edges r = AnswerStands s edges r.place r.what

one-stands : (s : Settings) (edges : List NumberedEdge) (step : SpcStep) → Means s edges step → All (Stands s edges) (answer_report step)
one-stands s edges Nothing means = All-nil (Stands s edges)
one-stands s edges (Good place code frame) means = All-cons (Stands s edges) (record { place = place; what = what.Answer code frame }) [] means (All-nil (Stands s edges))
one-stands s edges (Bad place rule) means = All-cons (Stands s edges) (record { place = place; what = what.Bad rule }) [] means (All-nil (Stands s edges))
one-stands s edges (NoAnswer place code) means = All-cons (Stands s edges) (record { place = place; what = what.NoAnswer code }) [] (inl means) (All-nil (Stands s edges))

end-one-stands : (s : Settings) (edges : List NumberedEdge) (step : SpcStep) → MeansAtEnd s edges step → All (Stands s edges) (answer_report step)
end-one-stands s edges Nothing means = All-nil (Stands s edges)
end-one-stands s edges (Good place code frame) means = absurd means
end-one-stands s edges (Bad place rule) means = absurd means
end-one-stands s edges (NoAnswer place code) means = All-cons (Stands s edges) (record { place = place; what = what.NoAnswer code }) [] (inr means) (All-nil (Stands s edges))

each-stands : (s : Settings) (edges : List NumberedEdge) (P : SpcStep → Type 0) → ((step : SpcStep) → P step → All (Stands s edges) (answer_report step)) → (steps : List SpcStep) → All P steps
    → All (Stands s edges) (flat_map answer_report steps)
each-stands s edges P one [] mean = All-nil (Stands s edges)
each-stands s edges P one (step ∷ steps) mean =
    All-append (Stands s edges) (answer_report step) (flat_map answer_report steps) (one step (All-head P step steps mean)) (each-stands s edges P one steps (All-tail P step steps mean))

pub spc-stand : (s : Settings) (edges : List NumberedEdge) → All (Stands s edges) (spc_so_far s edges)
unfolding spc_so_far
spc-stand s edges = each-stands s edges (Means s edges) (one-stands s edges) (spc_reading s edges) (reports-mean s edges)

pub spc-end-stand : (s : Settings) (edges : List NumberedEdge) → All (Stands s edges) (spc_end s edges)
unfolding spc_end
spc-end-stand s edges = each-stands s edges (MeansAtEnd s edges) (end-one-stands s edges) (spc_ends s edges) (ends-mean s edges)
