-- What each step stands for.
--     steps-mean      all steps of a list of rises
--     steps-front      what is told stays
use Rattle.std.proofs.Common.{◌≡◌, ℕ, zero, suc, ◌-◌, ◌%◌, ◌<◌, ◌≤◌, ◌⊎◌, Bool, true, false, nat_eq, if◌then◌else◌, Option, None, Some, List, [], ◌∷◌, ◌++◌, length, take, drop, refl, sym, ◌∙◌, ap, subst, append_assoc, append-nil, inl, inr, arith}
use Rattle.std.specs.List.{All}
use Rattle.std.proofs.lemmas.Bool.{eq-eqb, eqb-true, ne_eqb}
use Rattle.std.proofs.lemmas.List.Elements.{All-nil}
use Rattle.line_base.specs.Readings.{read_past, skipped}
use Rattle.line_base.specs.Readings.Found.{Past, Reported}
use Rattle.line_base.specs.Streams.{IsFrontOf}
use Rattle.line_base.specs.declared.rule.Rule.{Rule}
use Rattle.line_base.specs.declared.rule.Rule.TheVariants.{DownCheck, StartPattern, SyncBit}
use Rattle.line_base.proofs.Readings.{Keeps, keeps-same, read-front}
use Rattle.line_base.proofs.ReportMeanings.{FoundHas, read-all}
use Rattle.link_math.specs.Checks.{crc3_of}
use Rattle.link_math.specs.Division.{number_of}
use Rattle.link_math.specs.Periods.{periods_in}
use Rattle.psi5_downlink.specs.declared.down.Form.{Form}
use Rattle.psi5_downlink.specs.declared.down.Form.TheVariants.{Short, Long, XLong}
use Rattle.psi5_downlink.specs.declared.down.Down.{Down}
use Rattle.psi5_downlink.specs.declared.step.ToothStep.TheVariants.{Good, Bad}
use Rattle.psi5_downlink.specs.declared.verdict.Verdict.{Verdict}
use Rattle.psi5_downlink.specs.declared.verdict.Verdict.TheVariants.{Broken, Unfinished, Whole}
use Rattle.psi5_downlink.specs.Setup.{Settings}
use Rattle.psi5_downlink.specs.Frames.{down_of, field_width, frame_length, without_ones}
use Rattle.psi5_downlink.specs.Rises.{Interval, Rise, intervals_after, intervals_of}
use Rattle.psi5_downlink.specs.Reading.{bits_in, forbidden, found_at, frame_after, frame_on, interval_reading, judged, misses_one, tooth_reading, verdict}
use Rattle.psi5_downlink.specs.Meanings.{GoesOnWith, HaveBits, IsMet, IsSent, Means, MissesOne, StepStands, Violates, joined}
use Rattle.psi5_downlink.proofs.Judging.{due_more}
use Rattle.psi5_downlink.proofs.FrameLaws.{frame_is_whole, whole_is_frame}

-- ---- a forbidden bit
-- from an inserted one on, one is missed behind so many groups
record FirstMissed (bits : List Bool) : Type 0 where
  front : List Bool
  back : List Bool
  stands : bits ≡ front ++ false ∷ back
  place : length front % 4 ≡ 0
  none : misses_one front ≡ false

first_missed : (bits : List Bool) → misses_one bits ≡ true → FirstMissed bits
unfolding misses_one
first_missed [] misses = absurd cc
first_missed (false ∷ bits) misses = record { front = []; back = bits; stands = refl; place = refl; none = refl }
first_missed (true ∷ []) misses = absurd cc
first_missed (true ∷ a ∷ []) misses = absurd cc
first_missed (true ∷ a ∷ b ∷ []) misses = absurd cc
first_missed (true ∷ a ∷ b ∷ c ∷ bits) misses =
    let later = first_missed bits misses in
    record {
      front = true ∷ a ∷ b ∷ c ∷ later.front;
      back = later.back;
      stands = ap (λ l. true ∷ a ∷ b ∷ c ∷ l) later.stands;
      place = omega (arith, later.place);
      none = later.none;
    }

-- what a forbidden bit is, by its rule
abbrev ForbiddenSays : List Bool → Option Rule → Type 0
ForbiddenSays bits None = Unit {0}
ForbiddenSays bits (Some rule) = ((rule ≡ StartPattern) × (back : List Bool) × (bits ≡ true ∷ back)) ⊎ ((rule ≡ SyncBit) × MissesOne bits)

forbidden_says : (bits : List Bool) → ForbiddenSays bits (forbidden bits)
forbidden_says [] = tt
forbidden_says (true ∷ bits) = inl (refl, bits, refl)
forbidden_says (false ∷ bits) = by_test (misses_one bits) refl
  where
    by_test : (misses : Bool) → misses_one bits ≡ misses → ForbiddenSays (false ∷ bits) (if misses then Some SyncBit else None)
    by_test true is =
        let first = first_missed bits is in
        inr (refl, record { front = false ∷ first.front; back = first.back; stands = ap (λ l. false ∷ l) first.stands; place = omega (arith, first.place); first = rw first.none refl })
    by_test false is = tt

-- ---- what an interval comes to
-- the frame goes on with these bits
record IsOn (form : Form) (bits more : List Bool) (periods : ℕ) : Type 0 where
  some : 1 ≤ periods
  is : more ≡ bits ++ bits_in periods
  allowed : forbidden more ≡ None
  short : length more ≡ frame_length form → ⊥

abbrev VerdictSays : Form → List Bool → ℕ → Verdict → Type 0
VerdictSays form bits periods (Unfinished more) = IsOn form bits more periods
VerdictSays form bits periods (Whole down) = IsSent form down bits periods
VerdictSays form bits periods (Broken rule) = Violates form rule bits periods

-- all bits are there, and the check is right or wrong
groups_say : (form : Form) (bits : List Bool) (periods : ℕ) (v : Verdict) → 1 ≤ periods → forbidden (bits ++ bits_in periods) ≡ None → length (bits ++ bits_in periods) ≡ frame_length form
    → judged form (bits ++ bits_in periods) None ≡ v → (test : Bool) → (down : Down) → (if test then Whole down else Broken DownCheck) ≡ v → VerdictSays form bits periods v
groups_say form bits periods v some fine whole is true down said =
    let all = bits ++ bits_in periods in
    let good = whole_is_frame form all down (ap (judged form all) fine ∙ is ∙ sym said) in
    subst (λ (w : Verdict). VerdictSays form bits periods w) said (some, good.0, good.1)
groups_say form bits periods v some fine whole is false down said =
    let all = bits ++ bits_in periods in
    subst (λ (w : Verdict). VerdictSays form bits periods w) said (record {
      some = some;
      whole = whole;
      allowed = fine;
      says_nothing = λ other fits same.
          let differs : Whole other ≡ Broken DownCheck = sym (frame_is_whole form other fits) ∙ ap (λ l. judged form l (forbidden l)) same ∙ ap (judged form all) fine ∙ is ∙ sym said in
          absurd cc;
    })

judged_says : (form : Form) (bits : List Bool) (periods : ℕ) → 1 ≤ periods → VerdictSays form bits periods (judged form (bits ++ bits_in periods) (forbidden (bits ++ bits_in periods)))
judged_says form bits periods some = by_rule (forbidden (bits ++ bits_in periods)) refl (forbidden_says (bits ++ bits_in periods))
  where
    all : List Bool
    all = bits ++ bits_in periods

    by_length : (test : Bool) → nat_eq (length all) (frame_length form) ≡ test → forbidden all ≡ None → VerdictSays form bits periods (judged form all None)
    by_length true is fine =
        let whole = eqb-true (length all) (frame_length form) is in
        let groups = without_ones (drop 2 all) in
        let fields = take (field_width form) groups in
        groups_say form bits periods (judged form all None) some fine whole refl (nat_eq (number_of (drop (field_width form) groups)) (crc3_of fields)) (down_of form fields) (rw is refl)
    by_length false is fine = rw is (record { some = some; is = refl; allowed = fine; short = λ same. (let differs : true ≡ false = sym (eq-eqb (length all) (frame_length form) same) ∙ is in absurd cc) })

    by_rule : (rule : Option Rule) → forbidden all ≡ rule → ForbiddenSays all rule → VerdictSays form bits periods (judged form all rule)
    by_rule None fine says = by_length (nat_eq (length all) (frame_length form)) refl fine
    by_rule (Some rule) is (inl start) = rw start.0 (some, start.1, start.2)
    by_rule (Some rule) is (inr misses) = rw misses.0 (inr (some, misses.1))

verdict_says : (form : Form) (bits : List Bool) (periods : ℕ) → VerdictSays form bits periods (verdict form bits periods)
unfolding verdict
verdict_says form bits zero = inl refl
verdict_says form bits (suc periods) = rw (ne_eqb (suc periods) 0 (λ none. omega (arith, none))) (judged_says form bits (suc periods) (omega arith))

-- ---- a frame
joined-more : (front : List Interval) (last : Interval) → joined (front ++ last ∷ []) ≡ joined front ++ bits_in last.periods
joined-more [] last = append-nil (bits_in last.periods)
joined-more (interval ∷ front) last = ap (λ l. bits_in interval.periods ++ l) (joined-more front last) ∙ sym (append_assoc (bits_in interval.periods) (joined front) (bits_in last.periods))

bits-more : (front : List Interval) (last : Interval) → HaveBits front → 1 ≤ last.periods → HaveBits (front ++ last ∷ [])
bits-more [] last bits some = (some, tt)
bits-more (interval ∷ front) last bits some = (bits.0, bits-more front last bits.1 some)

-- what is read so far of a frame among these intervals
record IsBegun (form : Form) (intervals before : List Interval) (start : Interval) (front later : List Interval) : Type 0 where
  stands : intervals ≡ before ++ start ∷ (front ++ later)
  begins : start.periods ≡ 6
  goes_on : GoesOnWith form front

abbrev Nothing_due : ℕ → Unit {0} → Type 0
Nothing_due used next = Unit {0}

begun_more : (form : Form) (intervals before : List Interval) (start : Interval) (front : List Interval) (last : Interval) (later : List Interval) (more : List Bool)
    → IsBegun form intervals before start front (last ∷ later) → IsOn form (joined front) more last.periods → IsBegun form intervals before start (front ++ last ∷ []) later
begun_more form intervals before start front last later more begun on =
    let bits : joined (front ++ last ∷ []) ≡ more = joined-more front last ∙ sym on.is in
    record {
      stands = begun.stands ∙ ap (λ l. before ++ start ∷ l) (sym (append_assoc front (last ∷ []) later));
      begins = begun.begins;
      goes_on = record {
        bits = bits-more front last begun.goes_on.bits on.some;
        allowed = ap forbidden bits ∙ on.allowed;
        due = subst (λ (l : List Bool). length l < frame_length form) (sym bits) (due_more form last.periods (joined front) more on.is begun.goes_on.due on.allowed on.short);
      };
    }

met : (form : Form) (intervals before : List Interval) (start : Interval) (front : List Interval) (last : Interval) (later : List Interval) (Comes : List Bool → ℕ → Type 0)
    → IsBegun form intervals before start front (last ∷ later) → Comes (joined front) last.periods → IsMet form intervals last.number Comes
met form intervals before start front last later Comes begun comes = record {
  before = before;
  start = start;
  front = front;
  last = last;
  after = later;
  stands = begun.stands;
  begins = begun.begins;
  goes_on = begun.goes_on;
  here = refl;
  comes = comes;
}

frame_stands : (form : Form) (intervals before : List Interval) (start : Interval) (front later : List Interval) (used : ℕ) → IsBegun form intervals before start front later
    → FoundHas (StepStands form intervals) Nothing_due (frame_after form (joined front) used later)
unfolding frame_after
frame_stands form intervals before start front [] used begun = All-nil (StepStands form intervals)
frame_stands form intervals before start front (last ∷ later) used begun =
    by_verdict (verdict form (joined front) last.periods) (verdict_says form (joined front) last.periods)
    (λ more on. subst (λ (l : List Bool). FoundHas (StepStands form intervals) Nothing_due (frame_after form l (suc used) later)) (joined-more front last ∙ sym on.is)
    (frame_stands form intervals before start (front ++ last ∷ []) later (suc used) (begun_more form intervals before start front last later more begun on)))
  where
    by_verdict : (v : Verdict) → VerdictSays form (joined front) last.periods v
        → ((more : List Bool) → IsOn form (joined front) more last.periods → FoundHas (StepStands form intervals) Nothing_due (frame_after form more (suc used) later))
        → FoundHas (StepStands form intervals) Nothing_due (frame_on last.number used v (λ more. frame_after form more (suc used) later))
    by_verdict (Unfinished more) says on = on more says
    by_verdict (Whole down) says on = (met form intervals before start front last later (IsSent form down) begun says, tt)
    by_verdict (Broken rule) says on = (met form intervals before start front last later (Violates form rule) begun says, tt)

some_bits : (form : Form) → 0 < frame_length form
some_bits Short = omega arith
some_bits Long = omega arith
some_bits XLong = omega arith

found_stands : (form : Form) (intervals before : List Interval) (start : Interval) (later : List Interval) → intervals ≡ before ++ start ∷ later
    → FoundHas (StepStands form intervals) Nothing_due (found_at form tt start later)
unfolding found_at
found_stands form intervals before start later stands = by_test (nat_eq start.periods 6) refl
  where
    by_test : (six : Bool) → nat_eq start.periods 6 ≡ six → FoundHas (StepStands form intervals) Nothing_due (if six then frame_after form [] 0 later else skipped)
    by_test true six = frame_stands form intervals before start [] later 0 (record {
      stands = stands;
      begins = eqb-true start.periods 6 six;
      goes_on = record { bits = tt; allowed = refl; due = some_bits form };
    })
    by_test false other = tt

abbrev Knows_none : Unit {0} → List Interval → Type 0
Knows_none due before = Unit {0}

intervals-mean : (form : Form) (intervals : List Interval) → All (StepStands form intervals) (interval_reading form intervals)
unfolding interval_reading
intervals-mean form intervals = read-all (found_at form) tt (StepStands form intervals) Knows_none intervals (record { each = λ due before x xs stands knows. found_stands form intervals before x xs stands }) tt

pub steps-mean : (setup : Settings) (rises : List Rise) → All (Means setup rises) (tooth_reading setup rises)
unfolding tooth_reading
steps-mean setup rises = intervals-mean setup.form (intervals_of setup.period rises)

-- ---- what is told stays
frame_keeps : (form : Form) (bits : List Bool) (used : ℕ) (later more : List Interval) → Keeps (frame_after form bits used later) (frame_after form bits used (later ++ more))
unfolding frame_after
frame_keeps form bits used [] more = tt
frame_keeps form bits used (interval ∷ later) more = by_verdict (verdict form bits interval.periods) (λ next. frame_keeps form next (suc used) later more)
  where
    by_verdict : (v : Verdict) → ((next : List Bool) → Keeps (frame_after form next (suc used) later) (frame_after form next (suc used) (later ++ more)))
        → Keeps (frame_on interval.number used v (λ next. frame_after form next (suc used) later)) (frame_on interval.number used v (λ next. frame_after form next (suc used) (later ++ more)))
    by_verdict (Unfinished next) on = on next
    by_verdict (Whole down) on = keeps-same (Reported (Good interval.number down) (Past (suc used) tt))
    by_verdict (Broken rule) on = keeps-same (Reported (Bad interval.number rule) (Past used tt))

found_keeps : (form : Form) (due : Unit {0}) (interval : Interval) (later more : List Interval) → Keeps (found_at form due interval later) (found_at form due interval (later ++ more))
unfolding found_at
found_keeps form due interval later more = by_test (nat_eq interval.periods 6)
  where
    by_test : (six : Bool) → Keeps (if six then frame_after form [] 0 later else skipped) (if six then frame_after form [] 0 (later ++ more) else skipped)
    by_test true = frame_keeps form [] 0 later more
    by_test false = refl

intervals-more : (period before : ℕ) (rises more : List Rise) → IsFrontOf (intervals_after period before rises) (intervals_after period before (rises ++ more))
unfolding intervals_after
intervals-more period before [] more = record { rest = intervals_after period before more; is = refl }
intervals-more period before (rise ∷ rises) more = let later = intervals-more period rise.time rises more in record { rest = later.rest; is = ap (λ l. record { number = rise.number; periods = periods_in (rise.time - before) period } ∷ l) later.is }

intervals-front : (period : ℕ) (rises more : List Rise) → IsFrontOf (intervals_of period rises) (intervals_of period (rises ++ more))
intervals-front period [] more = record { rest = intervals_of period more; is = refl }
intervals-front period (rise ∷ rises) more = intervals-more period rise.time rises more

pub steps-front : (setup : Settings) (rises more : List Rise) → IsFrontOf (tooth_reading setup rises) (tooth_reading setup (rises ++ more))
unfolding tooth_reading interval_reading
steps-front setup rises more =
    let front = intervals-front setup.period rises more in
    subst (λ (l : List Interval). IsFrontOf (read_past (found_at setup.form) 0 tt (intervals_of setup.period rises)) (read_past (found_at setup.form) 0 tt l)) (sym front.is)
    (read-front (found_at setup.form) (record { each = found_keeps setup.form }) 0 tt (intervals_of setup.period rises) front.rest)
