-- Reports that are counted, one after another: there is room, and no more edges are told as lost than gaps have.
--     counted-one, counted-then      one report, and then the others
--     room-for, few-left, lost-left      there is room for the first, and then for the others
--     count-room, lost-room      there is room for what one item more gives
use Rattle.std.proofs.Common.{◌≡◌, ℕ, ◌+◌, ◌*◌, ◌^◌, ◌<◌, ◌≤◌, ◌==◌, true, eqb-true, List, [], ◌∷◌, ◌++◌, length, refl, sym, ap, ◌∙◌, subst, arith, append_assoc, append-nil, length-append}
use Rattle.std.proofs.lemmas.List.Sums.{sum_by-cons}
use Rattle.line_base.specs.Edges.{NumberedEdge}
use Rattle.line_base.specs.Items.{edges_counted, lost_in as gap_edges}
use Rattle.line_base.proofs.Opens.{lost-least}
use Rattle.line_base.specs.declared.edge.Item.{Item}
use Rattle.line_base.specs.declared.edge.Item.TheVariants as item
use Rattle.receiver_core.specs.declared.counted_receiver.CountedReceiver.{CountedReceiver}
use Rattle.receiver_core.specs.declared.receiver.Receiver.{Receiver}
use Rattle.receiver_core.specs.declared.report.Report.{Report}
use Rattle.receiver_core.specs.declared.report.What.TheVariants as what
use Rattle.receiver_core.specs.declared.setup.ChannelSetup.{ChannelSetup}
use Rattle.receiver_core.specs.declared.tally.Tally.{Tally}
use Rattle.receiver_core.specs.Channels.{end_reports, reports_from, so_far, stretch_reports}
use Rattle.receiver_core.specs.CountedReceivers.{HasTaken}
use Rattle.receiver_core.specs.Readers.{StandsFor}
use Rattle.receiver_core.specs.SentReports.{report as report_of}
use Rattle.receiver_core.specs.Tallies.{Bad, Counts, Gap, Good, HasRoom, Message, Nothing, counted_as, counted_in, counted_with, counts_as, lost_in, lost_told, tally_of}
use Rattle.receiver_core.proofs.NoGaps.{end-tells, none-lost, stretch-tells}

counted-once : (tally : Tally) (counts : Counts) → counted_in (counted_as tally counts) ≤ counted_in tally + 1
counted-once tally Good = omega arith
counted-once tally Bad = omega arith
counted-once tally Message = omega arith
counted-once tally (Gap count) = omega arith
counted-once tally Nothing = omega arith

-- a report is counted at most once
pub counted-one : (tally : Tally) (report : Report) → counted_in (counted_with tally report) ≤ counted_in tally + 1
counted-one tally report = counted-once tally (counts_as report.what)

has-room : (tally : Tally) (counts : Counts) → counted_in tally + 1 < 2 ^ 64 → tally.lost + lost_in counts < 2 ^ 64 → HasRoom (counted_as tally counts)
has-room tally Good few lost = record { good = omega (arith, few); bad = omega (arith, few); messages = omega (arith, few); gaps = omega (arith, few); lost = lost }
has-room tally Bad few lost = record { good = omega (arith, few); bad = omega (arith, few); messages = omega (arith, few); gaps = omega (arith, few); lost = lost }
has-room tally Message few lost = record { good = omega (arith, few); bad = omega (arith, few); messages = omega (arith, few); gaps = omega (arith, few); lost = lost }
has-room tally (Gap count) few lost = record { good = omega (arith, few); bad = omega (arith, few); messages = omega (arith, few); gaps = omega (arith, few); lost = lost }
has-room tally Nothing few lost = record { good = omega (arith, few); bad = omega (arith, few); messages = omega (arith, few); gaps = omega (arith, few); lost = lost }

lost-cons : (report : Report) (others all : List Report) → all ≡ report ∷ others → lost_told all ≡ lost_in (counts_as report.what) + lost_told others
lost-cons report others all parts = ap lost_told parts ∙ sum_by-cons (λ (report : Report). lost_in (counts_as report.what)) report others

pub room-for : (tally : Tally) (all : List Report) (report : Report) (others : List Report) → all ≡ report ∷ others → counted_in tally + length all < 2 ^ 64 → tally.lost + lost_told all < 2 ^ 64 → HasRoom (counted_with tally report)
room-for tally all report others parts few lost =
    has-room tally (counts_as report.what) (let long : length all ≡ length others + 1 = ap length parts ∙ (let e : length (report ∷ others) ≡ length others + 1 = omega arith in e) in omega (arith, few, long))
    (let told = lost-cons report others all parts in omega (arith, lost, told))

pub few-left : (tally : Tally) (all : List Report) (report : Report) (others : List Report) → all ≡ report ∷ others → counted_in tally + length all < 2 ^ 64 → counted_in (counted_with tally report) + length others < 2 ^ 64
few-left tally all report others parts few =
    let long : length all ≡ length others + 1 = ap length parts ∙ (let e : length (report ∷ others) ≡ length others + 1 = omega arith in e) in
    omega (arith, few, long, counted-one tally report)

pub lost-left : (tally : Tally) (all : List Report) (report : Report) (others : List Report) → all ≡ report ∷ others → tally.lost + lost_told all < 2 ^ 64 → (counted_with tally report).lost + lost_told others < 2 ^ 64
lost-left tally all report others parts lost = (let told = lost-cons report others all parts in omega (arith, lost, told))

pub counted-then : (before others all : List Report) (report : Report) → all ≡ report ∷ others → tally_of ((before ++ report ∷ []) ++ others) ≡ tally_of (before ++ all)
counted-then before others all report parts = ap tally_of (append_assoc before (report ∷ []) others ∙ ap (λ l. before ++ l) (sym parts))

lost_told-append : (xs ys : List Report) → lost_told (xs ++ ys) ≡ lost_told xs + lost_told ys
lost_told-append [] ys = (let none : lost_told [] ≡ 0 = refl in omega (arith, none))
lost_told-append (x ∷ xs) ys =
    let all = lost-cons x (xs ++ ys) (x ∷ (xs ++ ys)) refl in
    let front = lost-cons x xs (x ∷ xs) refl in
    let more = lost_told-append xs ys in
    omega (arith, all, front, more)

-- no more edges are told as lost than are in gaps
lost-from : (setup : ChannelSetup) (number : ℕ) (stretch : List NumberedEdge) (items : List Item) → lost_told (reports_from setup number stretch items) ≤ gap_edges items
unfolding reports_from
lost-from setup number stretch [] = (let none = none-lost (stretch_reports setup stretch) (stretch-tells setup stretch) in omega (arith, none))
lost-from setup number stretch (item.Edge edge ∷ items) = lost-from setup (number + 1) (stretch ++ record { number = number; edge = edge } ∷ []) items
lost-from setup number stretch (item.Gap first count ∷ items) =
    let none = none-lost (stretch_reports setup stretch) (stretch-tells setup stretch) in
    let rest = reports_from setup (number + count) [] items in
    let all = lost_told-append (stretch_reports setup stretch) (report_of first (what.Gap count) ∷ rest) in
    let here = lost-cons (report_of first (what.Gap count)) rest (report_of first (what.Gap count) ∷ rest) refl in
    let more = lost-from setup (number + count) [] items in
    omega (arith, none, all, here, more)
lost-from setup number stretch (item.End ∷ items) =
    let none = none-lost (stretch_reports setup stretch) (stretch-tells setup stretch) in
    let ends = none-lost (end_reports setup stretch) (end-tells setup stretch) in
    let all = lost_told-append (stretch_reports setup stretch) (end_reports setup stretch) in
    omega (arith, none, ends, all)
lost-from setup number stretch (item.Cut ∷ items) = (let none = none-lost (stretch_reports setup stretch) (stretch-tells setup stretch) in omega (arith, none))

lost-so_far : (setup : ChannelSetup) (items : List Item) → lost_told (so_far setup items) ≤ gap_edges items
unfolding so_far
lost-so_far setup items = lost-from setup 0 [] items

-- there are none
pub no-reports : (reports : List Report) → (length reports == 0) ≡ true → reports ≡ []
no-reports [] e = refl
no-reports (report ∷ reports) e = absurd (let no = eqb-true (length (report ∷ reports)) 0 e in omega arith)

-- there is room for the reports of one item more
pub count-room : (old : CountedReceiver) (items : List Item) (reports : List Report) → HasTaken old items → length items < 2 ^ 60 → length reports ≤ 8 → counted_in old.tally + length reports < 2 ^ 64
count-room old items reports taken few short = (let was = taken.few in omega (arith, was, few, short))

-- and for the edges that they tell as lost
pub lost-room : (old : CountedReceiver) (new : Receiver) (items : List Item) (next : Item) (reports : List Report) → HasTaken old items → StandsFor old.setup new (items ++ next ∷ [])
    → so_far old.setup (items ++ next ∷ []) ≡ so_far old.setup items ++ reports → old.tally.lost + lost_told reports < 2 ^ 64
lost-room old new items next reports taken stands grows =
    let all = items ++ next ∷ [] in
    let few = stands.few in
    let numbered = stands.numbered in
    let least = lost-least all in
    let told = lost-so_far old.setup all in
    let parts = ap lost_told grows ∙ lost_told-append (so_far old.setup items) reports in
    let lost : old.tally.lost ≡ lost_told (so_far old.setup items) = ap (λ (t : Tally). t.lost) taken.counted_are in
    omega (arith, few, numbered, least, told, parts, lost)

-- a receiver that has counted the reports of one item more has taken it
pub taken-more : (old new : CountedReceiver) (items : List Item) (next : Item) (reports : List Report) → HasTaken old items → new.setup ≡ old.setup → StandsFor old.setup new.receiver (items ++ next ∷ [])
    → so_far old.setup (items ++ next ∷ []) ≡ so_far old.setup items ++ reports → length reports ≤ 8
    → counted_in new.tally ≤ counted_in old.tally + length reports → new.tally ≡ tally_of (so_far old.setup items ++ reports) → HasTaken new (items ++ next ∷ [])
taken-more old new items next reports taken same stands grows short few counted = record {
  reads = subst (λ (setup : ChannelSetup). StandsFor setup new.receiver (items ++ next ∷ [])) (sym same) stands;
  counted_are = counted ∙ ap tally_of (sym grows) ∙ ap (λ (setup : ChannelSetup). tally_of (so_far setup (items ++ next ∷ []))) (sym same);
  few = (let was = taken.few in let longer = length-append items (next ∷ []) in omega (arith, was, longer, short, few));
}

-- and so has one of which the item gives no report
pub taken-quiet : (old new : CountedReceiver) (items : List Item) (next : Item) (reports : List Report) → HasTaken old items → new.setup ≡ old.setup → StandsFor old.setup new.receiver (items ++ next ∷ [])
    → so_far old.setup (items ++ next ∷ []) ≡ so_far old.setup items ++ reports → (length reports == 0) ≡ true → new.tally ≡ old.tally → HasTaken new (items ++ next ∷ [])
taken-quiet old new items next reports taken same stands grows none quiet =
    let short : length reports ≡ 0 = ap length (no-reports reports none) in
    taken-more old new items next reports taken same stands grows (omega (arith, short)) (let as_before = ap counted_in quiet in omega (arith, as_before))
    (quiet ∙ taken.counted_are ∙ ap tally_of (sym (append-nil (so_far old.setup items)) ∙ ap (λ (more : List Report). so_far old.setup items ++ more) (sym (no-reports reports none))))
