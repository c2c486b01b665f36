-- What is read of a frame behind its gap.
--     read_one, read_gap      an interval outside a frame
--     read_frame      a frame whose intervals are heard is reported at the rise that ends the last of them
use Rattle.std.proofs.Common.{◌≡◌, ℕ, zero, suc, ◌-◌, Bool, true, false, List, [], ◌∷◌, ◌++◌, length, map, drop, replicate, slice_index, refl, sym, ◌∙◌, ap, append_assoc, arith}
use Rattle.std.proofs.lemmas.Bool.{ne_eqb}
use Rattle.psi5_downlink.specs.declared.down.Form.{Form}
use Rattle.psi5_downlink.specs.declared.down.Down.{Down}
use Rattle.psi5_downlink.specs.declared.step.ToothStep.{ToothStep}
use Rattle.psi5_downlink.specs.declared.step.ToothStep.TheVariants.{Good}
use Rattle.psi5_downlink.specs.declared.verdict.Verdict.TheVariants.{Unfinished, Whole}
use Rattle.psi5_downlink.specs.declared.reader.State.TheVariants.{Outside, Within}
use Rattle.psi5_downlink.specs.Frames.{Fits, frame_of}
use Rattle.psi5_downlink.specs.Reading.{forbidden, judged, verdict}
use Rattle.psi5_downlink.specs.Rises.{Interval}
use Rattle.psi5_downlink.specs.Kept.{reading_on}
use Rattle.psi5_downlink.proofs.FrameLaws.{frame_is_whole}
use Rattle.psi5_downlink.proofs.Leading.{outside-other, outside-start, within-on}
use Rattle.psi5_downlink_tolerance.specs.FromFirst.{good_behind}
use Rattle.psi5_downlink_tolerance.specs.Trains.{frame_periods, periods_of}
use Rattle.psi5_downlink_tolerance.proofs.HeardPeriods.{AreHeard}
use Rattle.psi5_downlink_tolerance.proofs.FrameBits.{AreFew, EndsInOne, ends_in_one, frame_few, part_unfinished}

-- ---- outside a frame
pub read_other : (form : Form) (interval : Interval) (later : List Interval) → (interval.periods ≡ 6 → ⊥) → reading_on form Outside (interval ∷ later) ≡ reading_on form Outside later
read_other form interval later other = outside-other form interval.number interval.periods later (ne_eqb interval.periods 6 other)

pub read_gap : (form : Form) (gap : Interval) (later : List Interval) → gap.periods ≡ 6 → reading_on form Outside (gap ∷ later) ≡ reading_on form (Within []) later
read_gap form gap later six = ap (λ n. reading_on form Outside (record { number = gap.number; periods = n } ∷ later)) six ∙ outside-start form gap.number later

-- ---- in a frame
-- an interval of so many periods more
verdict_is : (form : Form) (bits : List Bool) (since : ℕ) → verdict form bits (suc since) ≡ judged form (bits ++ (replicate since false ++ true ∷ [])) (forbidden (bits ++ (replicate since false ++ true ∷ [])))
unfolding verdict
verdict_is form bits since =
    let less : suc since - 1 ≡ since = omega arith in
    rw (ne_eqb (suc since) 0 (λ none. omega (arith, none)), less) refl

-- one 0 more since the last 1
one_more : (since : ℕ) (bits : List Bool) → replicate since false ++ false ∷ bits ≡ replicate (suc since) false ++ bits
one_more zero bits = refl
one_more (suc since) bits = ap (λ l. false ∷ l) (one_more since bits)

-- what is reported behind a rise of this number, of a frame that so many rises more belong to
abbrev reported : Form → Down → ℕ → ℕ → List Interval → List ToothStep
reported form down number count intervals =
    Good (slice_index (number ∷ map (λ (interval : Interval). interval.number) intervals) count) down ∷ reading_on form Outside (drop count intervals)

rest_read : (form : Form) (down : Down) → Fits form down → (since : ℕ) (rest bits : List Bool) → bits ++ (replicate since false ++ rest) ≡ frame_of form down → EndsInOne rest → AreFew (periods_of since rest)
    → (more : List ℕ) (number : ℕ) (intervals : List Interval) → AreHeard (periods_of since rest ++ more) intervals → reading_on form (Within bits) intervals ≡ reported form down number (length (periods_of since rest)) intervals
unfolding periods_of
rest_read form down fits since [] bits is ends few more number intervals heard = absurd ends
rest_read form down fits since (false ∷ []) bits is ends few more number intervals heard = absurd cc
rest_read form down fits since (false ∷ next ∷ rest) bits is ends few more number intervals heard =
    rest_read form down fits (suc since) (next ∷ rest) bits (ap (λ l. bits ++ l) (sym (one_more since (next ∷ rest))) ∙ is) ends few more number intervals heard
rest_read form down fits since (true ∷ rest) bits is ends few more number [] heard = absurd heard
rest_read form down fits since (true ∷ []) bits is ends few more number (interval ∷ intervals) heard =
    let count : interval.periods ≡ suc since = heard.0.few (omega (arith, few.0)) in
    let whole : Whole down ≡ verdict form bits interval.periods =
    sym (ap (verdict form bits) count ∙ verdict_is form bits since ∙ ap (λ l. judged form l (forbidden l)) is ∙ frame_is_whole form down fits) in
    within-on form bits interval intervals (Whole down) whole
rest_read form down fits since (true ∷ next ∷ rest) bits is ends few more number (interval ∷ intervals) heard =
    let count : interval.periods ≡ suc since = heard.0.few (omega (arith, few.0)) in
    let front = bits ++ (replicate since false ++ true ∷ []) in
    let all : front ++ next ∷ rest ≡ frame_of form down =
    append_assoc bits (replicate since false ++ true ∷ []) (next ∷ rest) ∙ ap (λ l. bits ++ l) (append_assoc (replicate since false) (true ∷ []) (next ∷ rest)) ∙ is in
    let unfinished : Unfinished front ≡ verdict form bits interval.periods =
    sym (ap (verdict form bits) count ∙ verdict_is form bits since ∙ part_unfinished form down fits front next rest all) in
    within-on form bits interval intervals (Unfinished front) unfinished
    ∙ rest_read form down fits zero (next ∷ rest) front all ends few.1 more interval.number intervals heard.1

pub read_frame : (form : Form) (down : Down) → Fits form down → (gap : Interval) → gap.periods ≡ 6 → (more : List ℕ) (intervals : List Interval) → AreHeard (frame_periods form down ++ more) intervals
    → reading_on form Outside (gap ∷ intervals) ≡ good_behind form down gap intervals ∷ reading_on form Outside (drop (length (frame_periods form down)) intervals)
read_frame form down fits gap six more intervals heard =
    read_gap form gap intervals six
    ∙ rest_read form down fits zero (frame_of form down) [] refl (ends_in_one form down) (frame_few form down) more gap.number intervals heard
