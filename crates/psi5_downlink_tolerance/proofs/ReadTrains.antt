-- What is read of messages that are sent one after the other.
--     passed, heard_behind      intervals of up to four periods are passed
--     read_whole      messages from the first of their rises on
--     read_from      messages from any rise on
--     read_honest      an honest trace
--     says_last, says_all      the messages that are read
use Rattle.std.proofs.Common.{◌≡◌, ℕ, zero, suc, ◌+◌, ◌-◌, ◌<◌, ◌≤◌, ◌⊎◌, Bool, true, false, nat_eq, if◌then◌else◌, Option, List, [], ◌∷◌, ◌++◌, length, map, drop, flat_map, replicate, inl, inr, refl, sym, ◌∙◌, ap, subst, append_assoc, append-nil, arith}
use Rattle.std.specs.List.{All}
use Rattle.std.proofs.lemmas.Bool.{cases_lt, eq-eqb, ne_eqb}
use Rattle.std.proofs.lemmas.List.{drop-append-le, length-drop, length-replicate}
use Rattle.std.proofs.lemmas.List.Elements.{All-cons, All-head, All-nil, All-tail}
use Rattle.std.proofs.Math.Seq.{drop-append-add}
use Rattle.line_base.specs.Readings.{read_past}
use Rattle.psi5_downlink.specs.declared.down.Form.{Form}
use Rattle.psi5_downlink.specs.declared.down.Down.{Down}
use Rattle.psi5_downlink.specs.declared.reader.State.TheVariants.{Outside}
use Rattle.psi5_downlink.specs.Setup.{Settings}
use Rattle.psi5_downlink.specs.Reading.{interval_reading, tooth_reading}
use Rattle.psi5_downlink.specs.Rises.{Interval, Rise, intervals_of}
use Rattle.psi5_downlink.specs.Kept.{reading_on}
use Rattle.psi5_downlink_tolerance.specs.FromFirst.{from_first, gap_count, good_behind, goods_in, last_goods, said}
use Rattle.psi5_downlink_tolerance.specs.Traces.{IsHonest}
use Rattle.psi5_downlink_tolerance.specs.Trains.{IsSent, IsTrain, Sending, frame_periods, message_periods, train_periods}
use Rattle.psi5_downlink_tolerance.proofs.HeardPeriods.{AreHeard, counts_of, heard_cut, setup_range}
use Rattle.psi5_downlink_tolerance.proofs.FrameBits.{AreFew, frame_few}
use Rattle.psi5_downlink_tolerance.proofs.ReadFrames.{read_frame, read_other}

-- ---- one interval
gap_more : (gap : Interval) (later : List Interval) → gap.periods ≡ 6 → gap_count (gap ∷ later) ≡ suc (gap_count later)
unfolding gap_count
gap_more gap later six = rw (eq-eqb gap.periods 6 six) refl

gap_other : (interval : Interval) (later : List Interval) → (interval.periods ≡ 6 → ⊥) → gap_count (interval ∷ later) ≡ gap_count later
unfolding gap_count
gap_other interval later other = rw (ne_eqb interval.periods 6 other) refl

goods_more : (form : Form) (down : Down) (downs : List Down) (gap : Interval) (later : List Interval) → gap.periods ≡ 6 → goods_in form (down ∷ downs) (gap ∷ later) ≡ good_behind form down gap later ∷ goods_in form downs later
unfolding goods_in
goods_more form down downs gap later six = rw (eq-eqb gap.periods 6 six) refl

goods_other : (form : Form) (downs : List Down) (interval : Interval) (later : List Interval) → (interval.periods ≡ 6 → ⊥) → goods_in form downs (interval ∷ later) ≡ goods_in form downs later
unfolding goods_in
goods_other form [] interval later other = refl
goods_other form (down ∷ downs) interval later other = rw (ne_eqb interval.periods 6 other) refl

-- ---- intervals that are passed
-- nothing is read of the first intervals, and none of them has six periods
record IsPassed (form : Form) (intervals later : List Interval) : Type 0 where
  reads : reading_on form Outside intervals ≡ reading_on form Outside later
  goods : (downs : List Down) → goods_in form downs intervals ≡ goods_in form downs later
  gaps : gap_count intervals ≡ gap_count later

passed : (form : Form) (counts more : List ℕ) (intervals : List Interval) → AreFew counts → AreHeard (counts ++ more) intervals → IsPassed form intervals (drop (length counts) intervals)
passed form [] more intervals few heard = record { reads = refl; goods = λ downs. refl; gaps = refl }
passed form (count ∷ counts) more [] few heard = absurd heard
passed form (count ∷ counts) more (interval ∷ intervals) few heard =
    let other : interval.periods ≡ 6 → ⊥ = λ six. omega (arith, heard.0.few (omega (arith, few.0)), six, few.0) in
    let rest = passed form counts more intervals few.1 heard.1 in
    record {
      reads = read_other form interval intervals other ∙ rest.reads;
      goods = λ downs. goods_other form downs interval intervals other ∙ rest.goods downs;
      gaps = gap_other interval intervals other ∙ rest.gaps;
    }

heard_behind : (counts more : List ℕ) (intervals : List Interval) → AreHeard (counts ++ more) intervals → AreHeard more (drop (length counts) intervals)
heard_behind [] more intervals heard = heard
heard_behind (count ∷ counts) more [] heard = absurd heard
heard_behind (count ∷ counts) more (interval ∷ intervals) heard = heard_behind counts more intervals heard.1

few-drop : (cut : ℕ) (counts : List ℕ) → AreFew counts → AreFew (drop cut counts)
few-drop zero counts few = few
few-drop (suc cut) [] few = tt
few-drop (suc cut) (count ∷ counts) few = few-drop cut counts few.1

ones_few : (idle : ℕ) → AreFew (replicate idle 1)
ones_few zero = tt
ones_few (suc idle) = (omega arith, ones_few idle)

-- ---- from the first rise on
-- the reports of these intervals are those of these messages, each of which has its gap
record AreRead (form : Form) (downs : List Down) (intervals : List Interval) : Type 0 where
  reads : reading_on form Outside intervals ≡ goods_in form downs intervals
  gaps : gap_count intervals ≡ length downs

nothing_read : (form : Form) (intervals : List Interval) → AreHeard [] intervals → AreRead form [] intervals
unfolding reading_on interval_reading read_past goods_in gap_count
nothing_read form [] heard = record { reads = refl; gaps = refl }
nothing_read form (interval ∷ intervals) heard = absurd heard

-- intervals before what is read
read_behind : (form : Form) (downs : List Down) (intervals later : List Interval) → IsPassed form intervals later → AreRead form downs later → AreRead form downs intervals
read_behind form downs intervals later over read = record { reads = over.reads ∙ read.reads ∙ sym (over.goods downs); gaps = over.gaps ∙ read.gaps }

end_read : (form : Form) (counts : List ℕ) (intervals : List Interval) → AreFew counts → AreHeard counts intervals → AreRead form [] intervals
end_read form counts intervals few heard =
    let all = subst (λ (l : List ℕ). AreHeard l intervals) (sym (append-nil counts)) heard in
    read_behind form [] intervals (drop (length counts) intervals) (passed form counts [] intervals few all) (nothing_read form (drop (length counts) intervals) (heard_behind counts [] intervals all))

gap_read : (form : Form) (sending : Sending) → IsSent form sending → (downs : List Down) (more : List ℕ) (intervals : List Interval) → AreHeard (suc sending.missing ∷ (frame_periods form sending.down ++ more)) intervals
    → ((later : List Interval) → AreHeard more later → AreRead form downs later) → AreRead form (sending.down ∷ downs) intervals
gap_read form sending sent downs more [] heard on = absurd heard
gap_read form sending sent downs more (gap ∷ intervals) heard on =
    let frame = frame_periods form sending.down in
    let six : gap.periods ≡ 6 = heard.0.many (omega (arith, sent.gap)) in
    let over = passed form frame more intervals (frame_few form sending.down) heard.1 in
    let rest = on (drop (length frame) intervals) (heard_behind frame more intervals heard.1) in
    record {
      reads = read_frame form sending.down sent.fits gap six more intervals heard.1
          ∙ ap (λ l. good_behind form sending.down gap intervals ∷ l) (rest.reads ∙ sym (over.goods downs))
          ∙ sym (goods_more form sending.down downs gap intervals six);
      gaps = gap_more gap intervals six ∙ ap suc (over.gaps ∙ rest.gaps);
    }

message_read : (form : Form) (sending : Sending) → IsSent form sending → (downs : List Down) (front more : List ℕ) → AreFew front → (intervals : List Interval)
    → AreHeard (front ++ suc sending.missing ∷ (frame_periods form sending.down ++ more)) intervals → ((later : List Interval) → AreHeard more later → AreRead form downs later) → AreRead form (sending.down ∷ downs) intervals
message_read form sending sent downs front more few intervals heard on =
    let behind = suc sending.missing ∷ (frame_periods form sending.down ++ more) in
    read_behind form (sending.down ∷ downs) intervals (drop (length front) intervals) (passed form front behind intervals few heard)
    (gap_read form sending sent downs more (drop (length front) intervals) (heard_behind front behind intervals heard) on)

-- what the messages say
abbrev pub downs_of : List Sending → List Down
downs_of sent = map (λ (sending : Sending). sending.down) sent

message_apart : (form : Form) (sending : Sending) (sent : List Sending) (idle : ℕ)
    → train_periods form (sending ∷ sent) idle ≡ replicate sending.idle 1 ++ suc sending.missing ∷ (frame_periods form sending.down ++ train_periods form sent idle)
message_apart form sending sent idle =
    append_assoc (message_periods form sending) (flat_map (message_periods form) sent) (replicate idle 1)
    ∙ append_assoc (replicate sending.idle 1) (suc sending.missing ∷ frame_periods form sending.down) (train_periods form sent idle)

read_whole : (form : Form) (sent : List Sending) → All (IsSent form) sent → (idle : ℕ) (intervals : List Interval) → AreHeard (train_periods form sent idle) intervals → AreRead form (downs_of sent) intervals
read_whole form [] all idle intervals heard = end_read form (replicate idle 1) intervals (ones_few idle) heard
read_whole form (sending ∷ sent) all idle intervals heard =
    message_read form sending (All-head (IsSent form) sending sent all) (downs_of sent) (replicate sending.idle 1) (train_periods form sent idle) (ones_few sending.idle) intervals
    (subst (λ (l : List ℕ). AreHeard l intervals) (message_apart form sending sent idle) heard)
    (λ later more. read_whole form sent (All-tail (IsSent form) sending sent all) idle later more)

-- ---- from any rise on
-- the reports of these intervals are those of these messages but for the first ones, whose gaps are missing
record AreReadBehind (form : Form) (downs : List Down) (intervals : List Interval) : Type 0 where
  missing : ℕ
  reads : reading_on form Outside intervals ≡ goods_in form (drop missing downs) intervals
  gaps : gap_count intervals + missing ≡ length downs

none_missing : (form : Form) (downs : List Down) (intervals : List Interval) → AreRead form downs intervals → AreReadBehind form downs intervals
none_missing form downs intervals read = record { missing = zero; reads = read.reads; gaps = omega (arith, read.gaps) }

one_missing : (form : Form) (down : Down) (downs : List Down) (intervals later : List Interval) → IsPassed form intervals later → AreReadBehind form downs later → AreReadBehind form (down ∷ downs) intervals
one_missing form down downs intervals later over read = record {
  missing = suc read.missing;
  reads = over.reads ∙ read.reads ∙ sym (over.goods (drop read.missing downs));
  gaps = omega (arith, over.gaps, read.gaps);
}

drop-append : {A : Type 0} (count : ℕ) (front back : List A) → drop count (front ++ back) ≡ drop count front ++ drop (count - length front) back
drop-append zero front back = let none : zero ≡ zero - length front = omega arith in ap (λ n. front ++ drop n back) none
drop-append (suc count) [] back = let all : suc count ≡ suc count - 0 = omega arith in ap (λ n. drop n back) all
drop-append (suc count) (x ∷ front) back =
    let less : count - length front ≡ suc count - suc (length front) = omega arith in
    drop-append count front back ∙ ap (λ n. drop count front ++ drop n back) less

read_from : (form : Form) (sent : List Sending) → All (IsSent form) sent → (idle cut : ℕ) (intervals : List Interval) → AreHeard (drop cut (train_periods form sent idle)) intervals → AreReadBehind form (downs_of sent) intervals
read_from form [] all idle cut intervals heard = none_missing form [] intervals (end_read form (drop cut (replicate idle 1)) intervals (few-drop cut (replicate idle 1) (ones_few idle)) heard)
read_from form (sending ∷ sent) all idle cut intervals heard = by_cut (λ rest later more. read_from form sent (All-tail (IsSent form) sending sent all) idle rest later more) (cases_lt sending.idle cut)
  where
    front : List ℕ
    front = replicate sending.idle 1

    frame : List ℕ
    frame = frame_periods form sending.down

    later_periods : List ℕ
    later_periods = train_periods form sent idle

    apart : AreHeard (drop cut (front ++ suc sending.missing ∷ (frame ++ later_periods))) intervals
    apart = subst (λ (l : List ℕ). AreHeard (drop cut l) intervals) (message_apart form sending sent idle) heard

    by_cut : ((rest : ℕ) (later : List Interval) → AreHeard (drop rest later_periods) later → AreReadBehind form (downs_of sent) later) → (sending.idle < cut) ⊎ (cut ≤ sending.idle)
        → AreReadBehind form (downs_of (sending ∷ sent)) intervals
    by_cut on (inr whole) =
        let within : cut ≤ length front = omega (arith, whole, length-replicate {A = ℕ} sending.idle 1) in
        let kept = subst (λ (l : List ℕ). AreHeard l intervals) (drop-append-le cut front (suc sending.missing ∷ (frame ++ later_periods)) within) apart in
        none_missing form (downs_of (sending ∷ sent)) intervals
        (message_read form sending (All-head (IsSent form) sending sent all) (downs_of sent) (drop cut front) later_periods (few-drop cut front (ones_few sending.idle)) intervals kept
        (λ later more. read_whole form sent (All-tail (IsSent form) sending sent all) idle later more))
    by_cut on (inl missed) =
        let rest = cut - suc sending.idle in
        let place : cut ≡ length front + suc rest = omega (arith, missed, length-replicate {A = ℕ} sending.idle 1) in
        let behind : drop cut (front ++ suc sending.missing ∷ (frame ++ later_periods)) ≡ drop rest frame ++ drop (rest - length frame) later_periods =
        ap (λ n. drop n (front ++ suc sending.missing ∷ (frame ++ later_periods))) place
        ∙ drop-append-add front (suc sending.missing ∷ (frame ++ later_periods)) (suc rest) ∙ drop-append rest frame later_periods in
        let parts = subst (λ (l : List ℕ). AreHeard l intervals) behind apart in
        let cut_frame = drop rest frame in
        let others = drop (rest - length frame) later_periods in
        one_missing form sending.down (downs_of sent) intervals (drop (length cut_frame) intervals)
        (passed form cut_frame others intervals (few-drop rest frame (frame_few form sending.down)) parts)
        (on (rest - length frame) (drop (length cut_frame) intervals) (heard_behind cut_frame others intervals parts))

-- ---- honest traces
all_sent : (form : Form) (sent : List Sending) → IsTrain form sent → All (IsSent form) sent
all_sent form [] train = All-nil (IsSent form)
all_sent form (sending ∷ sent) train = All-cons (IsSent form) sending sent train.0 (λ k d within. (train.1 k d within).0)

pub read_honest : (s : Settings) (messages : List Down) (opening : Option ℕ) (rises : List Rise) → IsHonest s messages opening rises → tooth_reading s rises ≡ from_first s messages rises
unfolding tooth_reading reading_on
read_honest s messages opening rises honest =
    let intervals = intervals_of s.period rises in
    let heard = heard_cut s.period s.jitter (setup_range s.period s.jitter honest.accepted) honest.start honest.left_out honest.spans rises honest.lasting honest.recorded in
    let read = read_from s.form honest.sent (all_sent s.form honest.sent honest.train) honest.idle honest.left_out intervals
    (subst (λ (counts : List ℕ). AreHeard (drop honest.left_out counts) intervals) honest.periods heard) in
    let missing : read.missing ≡ length (downs_of honest.sent) - gap_count intervals = omega (arith, read.gaps) in
    read.reads ∙ ap (λ n. goods_in s.form (drop n (downs_of honest.sent)) intervals) missing ∙ ap (λ downs. last_goods s.form downs intervals) honest.carries

-- ---- the messages that are read
goods_say : (form : Form) (downs : List Down) (intervals : List Interval) → length downs ≤ gap_count intervals → flat_map said (goods_in form downs intervals) ≡ downs
unfolding goods_in gap_count
goods_say form [] intervals enough = refl
goods_say form (down ∷ downs) [] enough = absurd (omega (arith, enough))
goods_say form (down ∷ downs) (interval ∷ intervals) enough =
    by_test (nat_eq interval.periods 6) (λ more. goods_say form downs intervals more) (λ more. goods_say form (down ∷ downs) intervals more) enough
  where
    by_test : (six : Bool) → (length downs ≤ gap_count intervals → flat_map said (goods_in form downs intervals) ≡ downs)
        → (suc (length downs) ≤ gap_count intervals → flat_map said (goods_in form (down ∷ downs) intervals) ≡ down ∷ downs)
        → suc (length downs) ≤ (if six then suc (gap_count intervals) else gap_count intervals)
        → flat_map said (if six then good_behind form down interval intervals ∷ goods_in form downs intervals else goods_in form (down ∷ downs) intervals) ≡ down ∷ downs
    by_test true one same more = ap (λ l. down ∷ l) (one (omega (arith, more)))
    by_test false one same more = same more

pub says_last : (s : Settings) (messages : List Down) (opening : Option ℕ) (rises : List Rise) → IsHonest s messages opening rises
    → flat_map said (tooth_reading s rises) ≡ drop (length messages - gap_count (intervals_of s.period rises)) messages
says_last s messages opening rises honest =
    let intervals = intervals_of s.period rises in
    let first = length messages - gap_count intervals in
    ap (flat_map said) (read_honest s messages opening rises honest)
    ∙ goods_say s.form (drop first messages) intervals (omega (arith, length-drop first messages))

pub says_all : (s : Settings) (messages : List Down) (opening : Option ℕ) (rises : List Rise) (honest : IsHonest s messages opening rises) → honest.left_out ≡ 0 → flat_map said (tooth_reading s rises) ≡ messages
unfolding tooth_reading reading_on
says_all s messages opening rises honest none =
    let intervals = intervals_of s.period rises in
    let downs = downs_of honest.sent in
    let heard = heard_cut s.period s.jitter (setup_range s.period s.jitter honest.accepted) honest.start honest.left_out honest.spans rises honest.lasting honest.recorded in
    let whole = subst (λ (cut : ℕ). AreHeard (drop cut (counts_of honest.spans)) intervals) none heard in
    let read = read_whole s.form honest.sent (all_sent s.form honest.sent honest.train) honest.idle intervals (subst (λ (counts : List ℕ). AreHeard counts intervals) honest.periods whole) in
    ap (flat_map said) read.reads ∙ goods_say s.form downs intervals (omega (arith, read.gaps)) ∙ honest.carries
