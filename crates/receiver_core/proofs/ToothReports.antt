-- The reports of a tooth-gap channel grow, stay, and stand for something.
--     rises-opened, rises-none, rises-more      its rises
--     tooth-none, tooth-same, tooth-more, tooth-front      its reports
--     tooth-stand      what they stand for
use Rattle.std.proofs.Common.{◌≡◌, Bool, true, false, not, if◌then◌else◌, List, [], ◌∷◌, ◌++◌, flat_map, refl, ap, sym, subst, ◌∙◌, append-nil}
use Rattle.std.specs.List.{All}
use Rattle.std.proofs.lemmas.Grind.{flat_map-append}
use Rattle.std.proofs.lemmas.List.Elements.{All-append, All-cons, All-head, All-nil, All-tail}
use Rattle.line_base.specs.Edges.{NumberedEdge}
use Rattle.line_base.specs.Streams.{IsFrontOf}
use Rattle.line_base.specs.Readings.{read_past}
use Rattle.psi5_downlink.specs.declared.step.ToothStep.{ToothStep}
use Rattle.psi5_downlink.specs.declared.step.ToothStep.TheVariants.{Nothing, Good, Bad}
use Rattle.psi5_downlink.specs.declared.reader.ToothReader.{ToothReader}
use Rattle.psi5_downlink.specs.Setup.{Settings}
use Rattle.psi5_downlink.specs.Rises.{Rise}
use Rattle.psi5_downlink.specs.Reading.{tooth_reading, interval_reading}
use Rattle.psi5_downlink.specs.Readers.{StandsFor}
use Rattle.psi5_downlink.specs.Meanings.{Means}
use Rattle.psi5_downlink.specs.Kept.{steps_of}
use Rattle.psi5_downlink.proofs.Meanings.{steps-mean, steps-front}
use Rattle.receiver_core.specs.declared.report.Report.{Report}
use Rattle.receiver_core.specs.declared.report.What.TheVariants as what
use Rattle.receiver_core.specs.declared.tooth_channel.ToothChannel.{ToothChannel}
use Rattle.receiver_core.specs.ToothReports.{rise_at, rises_of, down_report, tooth_so_far, has_edge, StandsForRises, DownStands}

-- ---- the rises
-- the opening is none
rises-opened : (seen : List NumberedEdge) (e : NumberedEdge) → has_edge seen ≡ false → rises_of (seen ++ e ∷ []) ≡ rises_of seen
rises-opened [] e none = refl
rises-opened (x ∷ seen) e none = absurd cc

-- any other edge is one where it is a rise
rises-more : (seen : List NumberedEdge) (e : NumberedEdge) → has_edge seen ≡ true → rises_of (seen ++ e ∷ []) ≡ rises_of seen ++ rise_at e
rises-more [] e some = absurd cc
rises-more (x ∷ seen) e some = flat_map-append rise_at seen (e ∷ []) ∙ ap (λ l. flat_map rise_at seen ++ l) (append-nil (rise_at e))

edge-more : (seen : List NumberedEdge) (e : NumberedEdge) → true ≡ has_edge (seen ++ e ∷ [])
edge-more [] e = refl
edge-more (x ∷ seen) e = refl

-- the channel stands for its opening
pub rises-open : (s : Settings) (old : ToothChannel) (seen : List NumberedEdge) (e : NumberedEdge) → StandsForRises s old seen → old.opened ≡ false → StandsForRises s (record { opened = true; reader = old.reader }) (seen ++ e ∷ [])
rises-open s old seen e before first = record {
  opened = edge-more seen e;
  reads = subst (λ (l : List Rise). StandsFor s old.reader l) (sym (rises-opened seen e (sym before.opened ∙ first))) before.reads;
}

fall-none : (e : NumberedEdge) → e.edge.level ≡ false → rise_at e ≡ []
fall-none e falls = ap (λ (b : Bool). if b then record { number = e.number; time = e.edge.time } ∷ [] else []) falls

rise-one : (e : NumberedEdge) → e.edge.level ≡ true → rise_at e ≡ record { number = e.number; time = e.edge.time } ∷ []
rise-one e rises = ap (λ (b : Bool). if b then record { number = e.number; time = e.edge.time } ∷ [] else []) rises

rises-fallen : (seen : List NumberedEdge) (e : NumberedEdge) → has_edge seen ≡ true → e.edge.level ≡ false → rises_of (seen ++ e ∷ []) ≡ rises_of seen
rises-fallen seen e some falls = rises-more seen e some ∙ ap (λ l. rises_of seen ++ l) (fall-none e falls) ∙ append-nil (rises_of seen)

rises-risen : (seen : List NumberedEdge) (e : NumberedEdge) → has_edge seen ≡ true → e.edge.level ≡ true → rises_of (seen ++ e ∷ []) ≡ rises_of seen ++ record { number = e.number; time = e.edge.time } ∷ []
rises-risen seen e some rises = rises-more seen e some ∙ ap (λ l. rises_of seen ++ l) (rise-one e rises)

-- and for a fall
pub rises-fall : (s : Settings) (old : ToothChannel) (seen : List NumberedEdge) (e : NumberedEdge) → StandsForRises s old seen → old.opened ≡ true → e.edge.level ≡ false → StandsForRises s old (seen ++ e ∷ [])
rises-fall s old seen e before some falls = record {
  opened = some ∙ edge-more seen e;
  reads = subst (λ (l : List Rise). StandsFor s old.reader l) (sym (rises-fallen seen e (sym before.opened ∙ some) falls)) before.reads;
}

-- and for a rise
pub rises-rise : (s : Settings) (old : ToothChannel) (seen : List NumberedEdge) (e : NumberedEdge) (reader : ToothReader) → StandsForRises s old seen → old.opened ≡ true → e.edge.level ≡ true
    → StandsFor s reader (rises_of seen ++ record { number = e.number; time = e.edge.time } ∷ []) → StandsForRises s (record { opened = old.opened; reader = reader }) (seen ++ e ∷ [])
rises-rise s old seen e reader before some rises stands = record {
  opened = some ∙ edge-more seen e;
  reads = subst (λ (l : List Rise). StandsFor s reader l) (sym (rises-risen seen e (sym before.opened ∙ some) rises)) stands;
}

-- ---- the reports
one-report : (step : ToothStep) → flat_map down_report (steps_of step) ≡ down_report step
one-report Nothing = refl
one-report (Good place down) = refl
one-report (Bad place rule) = refl

-- no edges have none
pub tooth-none : (s : Settings) → tooth_so_far s [] ≡ []
unfolding tooth_so_far tooth_reading interval_reading read_past
tooth-none s = refl

tooth-same : (s : Settings) (seen after : List NumberedEdge) (reports : List Report) → rises_of after ≡ rises_of seen → reports ≡ [] → tooth_so_far s after ≡ tooth_so_far s seen ++ reports
unfolding tooth_so_far
tooth-same s seen after reports same none =
    ap (λ l. flat_map down_report (tooth_reading s l)) same ∙ sym (append-nil (flat_map down_report (tooth_reading s (rises_of seen)))) ∙ ap (λ l. flat_map down_report (tooth_reading s (rises_of seen)) ++ l) (sym none)

-- the opening adds none
pub tooth-open : (s : Settings) (old : ToothChannel) (seen : List NumberedEdge) (e : NumberedEdge) (reports : List Report) → StandsForRises s old seen → old.opened ≡ false → reports ≡ []
    → tooth_so_far s (seen ++ e ∷ []) ≡ tooth_so_far s seen ++ reports
tooth-open s old seen e reports before first none = tooth-same s seen (seen ++ e ∷ []) reports (rises-opened seen e (sym before.opened ∙ first)) none

-- and a fall neither
pub tooth-fall : (s : Settings) (old : ToothChannel) (seen : List NumberedEdge) (e : NumberedEdge) (reports : List Report) → StandsForRises s old seen → old.opened ≡ true → e.edge.level ≡ false → reports ≡ []
    → tooth_so_far s (seen ++ e ∷ []) ≡ tooth_so_far s seen ++ reports
tooth-fall s old seen e reports before some falls none = tooth-same s seen (seen ++ e ∷ []) reports (rises-fallen seen e (sym before.opened ∙ some) falls) none

-- rises add the report of the last one's step
pub read-rise : (s : Settings) (seen after : List Rise) (step : ToothStep) (reports : List Report) → tooth_reading s after ≡ tooth_reading s seen ++ steps_of step → reports ≡ down_report step
    → flat_map down_report (tooth_reading s after) ≡ flat_map down_report (tooth_reading s seen) ++ reports
read-rise s seen after step reports grows are =
    ap (flat_map down_report) grows ∙ flat_map-append down_report (tooth_reading s seen) (steps_of step) ∙ ap (λ l. flat_map down_report (tooth_reading s seen) ++ l) (one-report step ∙ sym are)

-- and so does an edge that is one
pub tooth-read : (s : Settings) (old : ToothChannel) (seen : List NumberedEdge) (e : NumberedEdge) (reports : List Report) → StandsForRises s old seen → old.opened ≡ true → e.edge.level ≡ true
    → flat_map down_report (tooth_reading s (rises_of seen ++ record { number = e.number; time = e.edge.time } ∷ [])) ≡ flat_map down_report (tooth_reading s (rises_of seen)) ++ reports
    → tooth_so_far s (seen ++ e ∷ []) ≡ tooth_so_far s seen ++ reports
unfolding tooth_so_far
tooth-read s old seen e reports before some rises grows = ap (λ l. flat_map down_report (tooth_reading s l)) (rises-risen seen e (sym before.opened ∙ some) rises) ∙ grows

rises-front : (seen more : List NumberedEdge) → IsFrontOf (rises_of seen) (rises_of (seen ++ more))
rises-front [] more = record { rest = rises_of more; is = refl }
rises-front (x ∷ seen) more = record { rest = flat_map rise_at more; is = flat_map-append rise_at seen more }

-- the reports of more edges begin with those of these
pub tooth-front : (s : Settings) (seen more : List NumberedEdge) → IsFrontOf (tooth_so_far s seen) (tooth_so_far s (seen ++ more))
unfolding tooth_so_far
tooth-front s seen more =
    let rises = rises-front seen more in
    let front = steps-front s (rises_of seen) rises.rest in
    record {
      rest = flat_map down_report front.rest;
      is = ap (λ l. flat_map down_report (tooth_reading s l)) rises.is ∙ ap (flat_map down_report) front.is ∙ flat_map-append down_report (tooth_reading s (rises_of seen)) front.rest;
    }

-- ---- what they stand for
-- a report stands for
abbrev Stands : Settings → List NumberedEdge → Report → Type 0
Stands s edges r = DownStands s edges r.place r.what

one-stands : (s : Settings) (edges : List NumberedEdge) (step : ToothStep) → Means s (rises_of edges) step → All (Stands s edges) (down_report step)
one-stands s edges Nothing means = All-nil (Stands s edges)
one-stands s edges (Good place down) means = All-cons (Stands s edges) (record { place = place; what = what.Down down }) [] means (All-nil (Stands s edges))
one-stands s edges (Bad place rule) means = All-cons (Stands s edges) (record { place = place; what = what.Bad rule }) [] means (All-nil (Stands s edges))

each-stands : (s : Settings) (edges : List NumberedEdge) (steps : List ToothStep) → All (Means s (rises_of edges)) steps → All (Stands s edges) (flat_map down_report steps)
each-stands s edges [] mean = All-nil (Stands s edges)
each-stands s edges (step ∷ steps) mean =
    All-append (Stands s edges) (down_report step) (flat_map down_report steps) (one-stands s edges step (All-head (Means s (rises_of edges)) step steps mean))
    (each-stands s edges steps (All-tail (Means s (rises_of edges)) step steps mean))

pub tooth-stand : (s : Settings) (edges : List NumberedEdge) → All (Stands s edges) (tooth_so_far s edges)
unfolding tooth_so_far
tooth-stand s edges = each-stands s edges (tooth_reading s (rises_of edges)) (steps-mean s (rises_of edges))

-- ---- a level that isn't high
pub level-low : (level : Bool) → not level ≡ true → level ≡ false
level-low true low = absurd cc
level-low false low = refl

pub level-high : (level : Bool) → not level ≡ false → level ≡ true
level-high true high = refl
level-high false high = absurd cc
