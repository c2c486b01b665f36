-- The text is the lines of what is told of the channels, and what is told of each is its reports.
--     behind-lines, behind-told      what edges tell
--     text-is-told, whole-is-told    the text so far, and the whole text
use Rattle.std.proofs.Common.{◌≡◌, ℕ, zero, suc, ◌+◌, ◌<◌, Bool, true, false, nat_eq, Some, List, [], ◌∷◌, ◌++◌, length, drop, filter, map, refl, sym, ap, ap₂, subst, ◌∙◌, arith, append_assoc, append-nil}
use Rattle.std.specs.List.{slice_get}
use Rattle.std.proofs.Math.Seq.{drop-append_seam}
use Rattle.std.proofs.lemmas.Bool.{eq-eqb, ne_eqb}
use Rattle.std.proofs.lemmas.Grind.{flat_map-append}
use Rattle.std.proofs.lemmas.List.{map-append}
use Rattle.std.proofs.lemmas.List.Elements.{filter-append}
use Rattle.line_base.specs.Streams.{IsFrontOf}
use Rattle.line_base.specs.declared.edge.Edge.{Edge}
use Rattle.line_base.specs.declared.edge.Item.TheVariants as item
use Rattle.receiver_core.specs.declared.report.Report.{Report}
use Rattle.receiver_core.specs.declared.setup.ChannelSetup.{ChannelSetup}
use Rattle.receiver_core.specs.Channels.{so_far}
use Rattle.receiver_core.specs.Tallies.{tally_of}
use Rattle.receiver_core.proofs.ReportFronts.{final-front, so_far-front, so_far-none}
use Rattle.report_text.specs.Reports.{report_line, lines_of}
use Rattle.report_text.specs.Totals.{total_line}
use Rattle.decode_command.specs.Channels.{Decoding, is_on, items_on, reports_on, final_on, reports_added, reports_of_end, edge_lines, lines_behind, end_lines, total_lines, told_lines, text_so_far, whole_text}
use Rattle.decode_command.specs.Tellings.{Telling, lines_told, told_of, totals_told, text_told, whole_text_told}

-- ---- what is told of a channel
-- these reports of the channel with this number
tellings_of : ℕ → List Report → List Telling
tellings_of channel reports = map (λ report. record { channel = channel; report = report }) reports

lines-append : (xs ys : List Telling) → lines_told (xs ++ ys) ≡ lines_told xs ++ lines_told ys
unfolding lines_told
lines-append xs ys = flat_map-append (λ (telling : Telling). report_line telling.channel telling.report) xs ys

told-append : (c : ℕ) (xs ys : List Telling) → told_of c (xs ++ ys) ≡ told_of c xs ++ told_of c ys
unfolding told_of
told-append c xs ys =
    let is = λ (telling : Telling). nat_eq telling.channel c in
    ap (map (λ (telling : Telling). telling.report)) (filter-append is xs ys) ∙ map-append (λ (telling : Telling). telling.report) (filter is xs) (filter is ys)

tellings-lines : (c : ℕ) (reports : List Report) → lines_told (tellings_of c reports) ≡ lines_of c reports
unfolding lines_told tellings_of lines_of
tellings-lines c [] = refl
tellings-lines c (report ∷ reports) = ap (λ l. report_line c report ++ l) (tellings-lines c reports)

tellings-own : (c : ℕ) (reports : List Report) → told_of c (tellings_of c reports) ≡ reports
unfolding told_of tellings_of
tellings-own c [] = refl
tellings-own c (report ∷ reports) = rw (eq-eqb c c refl) (ap (λ l. report ∷ l) (tellings-own c reports))

tellings-other : (c d : ℕ) (reports : List Report) → nat_eq d c ≡ false → told_of c (tellings_of d reports) ≡ []
unfolding told_of tellings_of
tellings-other c d [] other = refl
tellings-other c d (report ∷ reports) other = rw other (tellings-other c d reports other)

-- ---- what is told channel by channel
-- what a channel adds, for each channel from the one with this number on
each_tells : (ChannelSetup → List Report) → ℕ → List ChannelSetup → List Telling
each_tells adds channel [] = []
each_tells adds channel (setup ∷ setups) = tellings_of channel (adds setup) ++ each_tells adds (channel + 1) setups

none-below : (adds : ChannelSetup → List Report) (c channel : ℕ) (setups : List ChannelSetup) → c < channel → told_of c (each_tells adds channel setups) ≡ []
unfolding each_tells told_of
none-below adds c channel [] below = refl
none-below adds c channel (setup ∷ setups) below =
    told-append c (tellings_of channel (adds setup)) (each_tells adds (channel + 1) setups)
    ∙ ap₂ (λ xs ys. xs ++ ys) (tellings-other c channel (adds setup) (ne_eqb channel c (λ e. omega (arith, e, below)))) (none-below adds c (channel + 1) setups (omega (arith, below)))

told-each : (adds : ChannelSetup → List Report) (channel index : ℕ) (setups : List ChannelSetup) (setup : ChannelSetup) → slice_get setups index ≡ Some setup → told_of (channel + index) (each_tells adds channel setups) ≡ adds setup
unfolding each_tells
told-each adds channel index [] setup e = absurd (cc)
told-each adds channel zero (first ∷ setups) setup e =
    let none : channel + zero ≡ channel = omega arith in
    let same : first ≡ setup = cc in
    ap (λ c. told_of c (each_tells adds channel (first ∷ setups))) none
    ∙ told-append channel (tellings_of channel (adds first)) (each_tells adds (channel + 1) setups)
    ∙ ap₂ (λ xs ys. xs ++ ys) (tellings-own channel (adds first)) (none-below adds channel (channel + 1) setups (omega arith))
    ∙ append-nil (adds first)
    ∙ ap adds same
told-each adds channel (suc index) (first ∷ setups) setup e =
    let more : channel + suc index ≡ (channel + 1) + index = omega arith in
    let below : nat_eq channel (channel + suc index) ≡ false = ne_eqb channel (channel + suc index) (λ is. omega (arith, is)) in
    told-append (channel + suc index) (tellings_of channel (adds first)) (each_tells adds (channel + 1) setups)
    ∙ ap₂ (λ xs ys. xs ++ ys) (tellings-other (channel + suc index) channel (adds first) below)
    (ap (λ c. told_of c (each_tells adds (channel + 1) setups)) more ∙ told-each adds (channel + 1) index setups setup e)

edge-lines : (channel : ℕ) (setups : List ChannelSetup) (before : List Edge) (edge : Edge)
    → lines_told (each_tells (λ setup. reports_added setup before edge) channel setups) ≡ edge_lines channel setups before edge
unfolding each_tells edge_lines lines_told
edge-lines channel [] before edge = refl
edge-lines channel (setup ∷ setups) before edge =
    lines-append (tellings_of channel (reports_added setup before edge)) (each_tells (λ setup. reports_added setup before edge) (channel + 1) setups)
    ∙ ap₂ (λ xs ys. xs ++ ys) (tellings-lines channel (reports_added setup before edge)) (edge-lines (channel + 1) setups before edge)

end-lines : (channel : ℕ) (setups : List ChannelSetup) (edges : List Edge) → lines_told (each_tells (λ setup. reports_of_end setup edges) channel setups) ≡ end_lines channel setups edges
unfolding each_tells end_lines lines_told
end-lines channel [] edges = refl
end-lines channel (setup ∷ setups) edges =
    lines-append (tellings_of channel (reports_of_end setup edges)) (each_tells (λ setup. reports_of_end setup edges) (channel + 1) setups)
    ∙ ap₂ (λ xs ys. xs ++ ys) (tellings-lines channel (reports_of_end setup edges)) (end-lines (channel + 1) setups edges)

-- ---- what edges tell
behind_tells : List ChannelSetup → List Edge → List Edge → List Telling
behind_tells setups before [] = []
behind_tells setups before (edge ∷ edges) = each_tells (λ setup. reports_added setup before edge) 0 setups ++ behind_tells setups (before ++ edge ∷ []) edges

behind-lines : (setups : List ChannelSetup) (before edges : List Edge) → lines_told (behind_tells setups before edges) ≡ lines_behind setups before edges
unfolding behind_tells lines_behind lines_told
behind-lines setups before [] = refl
behind-lines setups before (edge ∷ edges) =
    lines-append (each_tells (λ setup. reports_added setup before edge) 0 setups) (behind_tells setups (before ++ edge ∷ []) edges)
    ∙ ap₂ (λ xs ys. xs ++ ys) (edge-lines 0 setups before edge) (behind-lines setups (before ++ edge ∷ []) edges)

-- the reports of a channel are a front of those with more edges, and of the final ones
reports-front : (setup : ChannelSetup) (edges more : List Edge) → IsFrontOf (reports_on setup edges) (reports_on setup (edges ++ more))
unfolding reports_on items_on
reports-front setup edges more =
    let is = is_on setup in
    subst (λ items. IsFrontOf (so_far setup (map item.Edge (filter is edges))) (so_far setup items))
    (sym (ap (map item.Edge) (filter-append is edges more) ∙ map-append item.Edge (filter is edges) (filter is more)))
    (so_far-front setup (map item.Edge (filter is edges)) (map item.Edge (filter is more)))

end-front : (setup : ChannelSetup) (edges : List Edge) → IsFrontOf (reports_on setup edges) (final_on setup edges)
unfolding reports_on final_on
end-front setup edges = final-front setup (items_on setup edges)

-- what is new in a longer list is what is new in two steps
in-two : (a b c d e : List Report) → b ≡ a ++ d → c ≡ b ++ e → drop (length a) b ++ drop (length b) c ≡ drop (length a) c
in-two a b c d e first second =
    let third : c ≡ a ++ (d ++ e) = second ∙ ap (λ l. l ++ e) first ∙ append_assoc a d e in
    ap₂ (λ xs ys. xs ++ ys) (ap (drop (length a)) first ∙ drop-append_seam a d) (ap (drop (length b)) second ∙ drop-append_seam b e)
    ∙ sym (ap (drop (length a)) third ∙ drop-append_seam a (d ++ e))

added : (setup : ChannelSetup) (before : List Edge) (edge : Edge) → reports_added setup before edge ≡ drop (length (reports_on setup before)) (reports_on setup (before ++ edge ∷ []))
unfolding reports_added
added setup before edge = refl

-- what edges tell of a channel is what its reports grow by
behind-told : (setups : List ChannelSetup) (index : ℕ) (setup : ChannelSetup) (before edges : List Edge) → slice_get setups index ≡ Some setup
    → told_of index (behind_tells setups before edges) ≡ drop (length (reports_on setup before)) (reports_on setup (before ++ edges))
unfolding behind_tells told_of
behind-told setups index setup before [] has =
    sym (ap (λ es. drop (length (reports_on setup before)) (reports_on setup es)) (append-nil before)
    ∙ ap (drop (length (reports_on setup before))) (sym (append-nil (reports_on setup before))) ∙ drop-append_seam (reports_on setup before) [])
behind-told setups index setup before (edge ∷ edges) has =
    let first = reports-front setup before (edge ∷ []) in
    let second = reports-front setup (before ++ edge ∷ []) edges in
    let none : 0 + index ≡ index = omega arith in
    told-append index (each_tells (λ setup. reports_added setup before edge) 0 setups) (behind_tells setups (before ++ edge ∷ []) edges)
    ∙ ap₂ (λ xs ys. xs ++ ys)
    (ap (λ c. told_of c (each_tells (λ setup. reports_added setup before edge) 0 setups)) (sym none) ∙ told-each (λ setup. reports_added setup before edge) 0 index setups setup has ∙ added setup before edge)
    (behind-told setups index setup (before ++ edge ∷ []) edges has)
    ∙ in-two (reports_on setup before) (reports_on setup (before ++ edge ∷ [])) (reports_on setup ((before ++ edge ∷ []) ++ edges)) first.rest second.rest first.is second.is
    ∙ ap (λ es. drop (length (reports_on setup before)) (reports_on setup es)) (append_assoc before (edge ∷ []) edges)

-- with no edge there is no report
none-yet : (setup : ChannelSetup) → reports_on setup [] ≡ []
unfolding reports_on items_on
none-yet setup = so_far-none setup

-- ---- the text
-- what is told of these edges
pub so_far_tells : List ChannelSetup → List Edge → List Telling
so_far_tells setups edges = behind_tells setups [] edges

-- what is told of these edges and of the end
pub final_tells : List ChannelSetup → List Edge → List Telling
final_tells setups edges = behind_tells setups [] edges ++ each_tells (λ setup. reports_of_end setup edges) 0 setups

pub so_far-told : (setups : List ChannelSetup) (index : ℕ) (setup : ChannelSetup) (edges : List Edge) → slice_get setups index ≡ Some setup → told_of index (so_far_tells setups edges) ≡ reports_on setup edges
unfolding so_far_tells
so_far-told setups index setup edges has =
    behind-told setups index setup [] edges has ∙ ap (λ l. drop (length l) (reports_on setup edges)) (none-yet setup)

pub final-told : (setups : List ChannelSetup) (index : ℕ) (setup : ChannelSetup) (edges : List Edge) → slice_get setups index ≡ Some setup → told_of index (final_tells setups edges) ≡ final_on setup edges
unfolding final_tells so_far_tells reports_of_end
final-told setups index setup edges has =
    let none : 0 + index ≡ index = omega arith in
    let front = end-front setup edges in
    told-append index (behind_tells setups [] edges) (each_tells (λ setup. reports_of_end setup edges) 0 setups)
    ∙ ap₂ (λ xs ys. xs ++ ys) (so_far-told setups index setup edges has)
    (ap (λ c. told_of c (each_tells (λ setup. reports_of_end setup edges) 0 setups)) (sym none) ∙ told-each (λ setup. reports_of_end setup edges) 0 index setups setup has
    ∙ ap (drop (length (reports_on setup edges))) front.is ∙ drop-append_seam (reports_on setup edges) front.rest)
    ∙ sym front.is

pub text-is-told : (decoding : Decoding) (edges : List Edge) → text_so_far decoding edges ≡ text_told decoding (so_far_tells decoding.setups edges)
unfolding text_so_far text_told so_far_tells
text-is-told decoding edges = ap (told_lines decoding.told) (sym (behind-lines decoding.setups [] edges))

-- the total lines of channels, where what is told of each is its final reports
totals-told : (setups : List ChannelSetup) (channel : ℕ) (edges : List Edge) (tellings : List Telling)
    → ((index : ℕ) (setup : ChannelSetup) → slice_get setups index ≡ Some setup → told_of (channel + index) tellings ≡ final_on setup edges)
    → total_lines channel setups edges ≡ totals_told (length setups) channel tellings
unfolding total_lines totals_told
totals-told [] channel edges tellings told = refl
totals-told (setup ∷ setups) channel edges tellings told =
    let none : channel + 0 ≡ channel = omega arith in
    ap₂ (λ xs ys. xs ++ ys)
    (ap (λ reports. total_line channel (tally_of reports)) (sym (ap (λ c. told_of c tellings) (sym none) ∙ told 0 setup refl)))
    (totals-told setups (channel + 1) edges tellings (λ index other has. let more : (channel + 1) + index ≡ channel + suc index = omega arith in ap (λ c. told_of c tellings) more ∙ told (suc index) other has))

-- lines in two parts, where lines are told
told-parts : (told : Bool) (a b : List ℕ) → told_lines told (a ++ b) ≡ told_lines told a ++ told_lines told b
told-parts true a b = refl
told-parts false a b = refl

pub whole-is-told : (decoding : Decoding) (edges : List Edge) → whole_text decoding edges ≡ whole_text_told decoding (final_tells decoding.setups edges)
unfolding whole_text text_so_far whole_text_told final_tells
whole-is-told decoding edges =
    let ends = each_tells (λ setup. reports_of_end setup edges) 0 decoding.setups in
    let behind = behind_tells decoding.setups [] edges in
    let lines : lines_told (behind ++ ends) ≡ lines_behind decoding.setups [] edges ++ end_lines 0 decoding.setups edges =
    lines-append behind ends ∙ ap₂ (λ xs ys. xs ++ ys) (behind-lines decoding.setups [] edges) (end-lines 0 decoding.setups edges) in
    let totals = totals-told decoding.setups 0 edges (final_tells decoding.setups edges)
    (λ index setup has. let none : 0 + index ≡ index = omega arith in ap (λ c. told_of c (final_tells decoding.setups edges)) none ∙ final-told decoding.setups index setup edges has) in
    ap₂ (λ xs ys. told_lines decoding.told (lines_behind decoding.setups [] edges) ++ (xs ++ ys)) refl totals
    ∙ sym (append_assoc (told_lines decoding.told (lines_behind decoding.setups [] edges)) (told_lines decoding.told (end_lines 0 decoding.setups edges)) (totals_told (length decoding.setups) 0 (final_tells decoding.setups edges)))
    ∙ ap (λ l. l ++ totals_told (length decoding.setups) 0 (final_tells decoding.setups edges))
    (sym (told-parts decoding.told (lines_behind decoding.setups [] edges) (end_lines 0 decoding.setups edges)) ∙ ap (told_lines decoding.told) (sym lines))
