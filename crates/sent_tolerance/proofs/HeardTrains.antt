-- What is read of frames that are sent one after the other.
--     read_train      from the first of their falls on
--     read_from       from any fall on
--     length_train    how many pulses they have
--     read_honest     of an honest trace
use Rattle.std.proofs.Common.{◌≡◌, ℕ, zero, suc, ◌+◌, ◌-◌, ◌*◌, ◌⊎◌, min, List, [], ◌∷◌, ◌++◌, length, map, drop, flat_map, inl, inr, refl, ap, ap₂, sym, ◌∙◌, subst, arith}
use Rattle.std.proofs.lemmas.Bool.{cases_lt}
use Rattle.std.proofs.lemmas.List.{drop-map, drop_all, drop_min, length-append, length-drop, length-map}
use Rattle.line_base.specs.Edges.{NumberedEdge}
use Rattle.sent_frame.specs.declared.frame.SentFrame.{SentFrame}
use Rattle.sent_frame.specs.declared.frame.SentStep.TheVariants.{Good}
use Rattle.sent_frame.specs.Setup.{Settings, InRange}
use Rattle.sent_frame.specs.Pulses.{Fall, Pulse, falls_of, pulses_between}
use Rattle.sent_frame.specs.Reading.{Standing, Hunting, CalibrationDue, sent_reading}
use Rattle.sent_frame.proofs.SentTicks.{value_ticks}
use Rattle.link_tolerance.specs.Recorded.{AreRecorded}
use Rattle.link_tolerance.proofs.HeardPulses.{calibration_heard}
use Rattle.sent_tolerance.specs.FromFirst.{pulse_count, heard_from, heard_of, good_step}
use Rattle.sent_tolerance.specs.Trains.{Sending, pulses_sent, ideal_falls, IsSent, IsTrain}
use Rattle.link_tolerance.specs.Pulses.{falls_behind, lengths_of}
use Rattle.sent_tolerance.specs.Traces.{IsHonest}
use Rattle.sent_tolerance.proofs.FrameTicks.{setup_range, values_in, pause_ticks, ticks_apart, values_small, length_pulses}
use Rattle.sent_tolerance.proofs.Steps.{reading, reading_none}
use Rattle.sent_tolerance.proofs.HeardFrames.{AreHeard, AreDue, IsDue, read_frame}
use Rattle.sent_tolerance.proofs.PassedPulses.{ArePassed, BeginsWell, frame_passed, passed-drop, heard_behind, read_passed}
use Rattle.sent_tolerance.proofs.RecordedFalls.{numbers_of, times_of, heard_cut, length_recorded, nothing_recorded, pulses-drop, place_is}

-- the pulses of frames, in ps
abbrev pub lengths_sent : Settings → List Sending → List ℕ
lengths_sent s sent = flat_map (pulses_sent s) sent

-- the frames that are sent
abbrev pub frames_of : List Sending → List SentFrame
frames_of sent = map (λ (f : Sending). f.frame) sent

none_heard : (jitter : ℕ) (pulses : List Pulse) → AreHeard jitter [] pulses → pulses ≡ []
none_heard jitter [] heard = refl
none_heard jitter (pulse ∷ pulses) heard = absurd heard

reads_nothing : (s : Settings) (due : Standing) (pulses : List Pulse) → AreHeard s.jitter [] pulses → reading s due pulses ≡ []
reads_nothing s due pulses heard = ap (reading s due) (none_heard s.jitter pulses heard) ∙ reading_none s due

-- ---- from the first fall on
pub read_train : (s : Settings) → InRange s.tick s.jitter s.nibbles → (sent : List Sending) → IsTrain s sent → (due : Standing) → AreDue s due sent → (falls : List Fall) → AreHeard s.jitter (lengths_sent s sent) (pulses_between falls)
    → reading s due (pulses_between falls) ≡ map good_step (heard_from s 0 (frames_of sent) (numbers_of falls))
unfolding heard_from
read_train s range [] train due ready falls heard = reads_nothing s due (pulses_between falls) heard
read_train s range (f ∷ sent) train due ready falls heard =
    let one = read_frame s range f sent train.0 due ready (lengths_sent s sent) (pulses_between falls) heard in
    let behind = pulses-drop (pulse_count s) falls in
    let next : IsDue s one.calibration sent = record { before = f.tick; is_tick = train.0.tick; heard = one.long; drifts = train.1 } in
    let rest = read_train s range sent train.2 (CalibrationDue one.calibration) next (drop (pulse_count s) falls)
    (subst (λ (pulses : List Pulse). AreHeard s.jitter (lengths_sent s sent) pulses) behind one.rest) in
    one.reads
    ∙ ap₂ (λ place later. Good place f.frame ∷ later) (place_is (suc (suc s.nibbles)) falls)
    (ap (reading s (CalibrationDue one.calibration)) behind ∙ rest
    ∙ ap (λ numbers. map good_step (heard_from s 0 (frames_of sent) numbers)) (sym (drop-map (λ (fall : Fall). fall.number) (pulse_count s) falls)))

-- ---- from any fall on
begins_well : (s : Settings) → (sent : List Sending) → IsTrain s sent → (pulses : List Pulse) → AreHeard s.jitter (lengths_sent s sent) pulses → BeginsWell s pulses
begins_well s sent train [] heard = tt
begins_well s [] train (pulse ∷ pulses) heard = absurd heard
begins_well s (f ∷ sent) train (pulse ∷ pulses) heard = calibration_heard s.tick s.jitter f.tick pulse.length train.0.tick heard.0

drop-append : {A : Type 0} (count : ℕ) (front back : List A) → drop count (front ++ back) ≡ drop count front ++ drop (count - length front) back
drop-append zero front back = let none : zero ≡ zero - length front = omega arith in ap (λ n. front ++ drop n back) none
drop-append (suc count) [] back = let all : suc count ≡ suc count - 0 = omega arith in ap (λ n. drop n back) all
drop-append (suc count) (x ∷ front) back =
    let less : count - length front ≡ suc count - suc (length front) = omega arith in
    drop-append count front back ∙ ap (λ n. drop count front ++ drop n back) less

-- what is left of a frame is passed: nothing, or pulses behind which the next frame begins
skip_cut : (s : Settings) → InRange s.tick s.jitter s.nibbles → (sent : List Sending) → IsTrain s sent → (lengths : List ℕ) → ArePassed s.tick lengths → (missing : ℕ) → (missing ≡ 0) ⊎ (length lengths ≡ 0) → (pulses : List Pulse)
    → AreHeard s.jitter (lengths ++ drop missing (lengths_sent s sent)) pulses → reading s Hunting pulses ≡ reading s Hunting (drop (length lengths) pulses)
skip_cut s range sent train lengths passed missing (inl none) pulses heard =
    let all = subst (λ (n : ℕ). AreHeard s.jitter (lengths ++ drop n (lengths_sent s sent)) pulses) none heard in
    read_passed s range lengths (lengths_sent s sent) pulses passed all (begins_well s sent train (drop (length lengths) pulses) (heard_behind s.jitter lengths (lengths_sent s sent) pulses all))
skip_cut s range sent train lengths passed missing (inr none) pulses heard = ap (λ n. reading s Hunting (drop n pulses)) (sym none)

-- the pulses of a frame but for the first ones, of which the calibration pulse is one
cut_passed : (s : Settings) (f : Sending) → IsSent s f → (missing : ℕ) → ArePassed s.tick (drop (suc missing) (pulses_sent s f))
cut_passed s f sent missing =
    subst (λ (counts : List ℕ). ArePassed s.tick (drop (suc missing) (lengths_of counts (f.tick ∷ f.own_ticks)))) (sym (ticks_apart s f.frame f.pause))
    (passed-drop s.tick missing (lengths_of (value_ticks (values_in s f.frame) ++ pause_ticks s.pause f.pause) f.own_ticks)
    (frame_passed s.tick f.tick f.pause s.pause (values_in s f.frame) f.own_ticks sent.tick (values_small s f.frame sent.fits) sent.own_ticks))

pub read_from : (s : Settings) → InRange s.tick s.jitter s.nibbles → (sent : List Sending) → IsTrain s sent → (missing : ℕ) (falls : List Fall) → AreHeard s.jitter (drop missing (lengths_sent s sent)) (pulses_between falls)
    → reading s Hunting (pulses_between falls) ≡ map good_step (heard_from s missing (frames_of sent) (numbers_of falls))
unfolding heard_from
read_from s range [] train zero falls heard = reads_nothing s Hunting (pulses_between falls) heard
read_from s range [] train (suc missing) falls heard = reads_nothing s Hunting (pulses_between falls) heard
read_from s range (f ∷ sent) train zero falls heard = read_train s range (f ∷ sent) train Hunting tt falls heard
read_from s range (f ∷ sent) train (suc missing) falls heard =
    let pulses = pulses_between falls in
    let all = pulses_sent s f in
    let cut = drop (suc missing) all in
    let more = lengths_sent s sent in
    let as_many : length all ≡ pulse_count s = length_pulses s f train.0 in
    let left : suc missing - length all ≡ suc missing - pulse_count s = omega (arith, as_many) in
    let passed : length cut ≡ pulse_count s - suc missing = omega (arith, as_many, length-drop (suc missing) all) in
    let parts : drop (suc missing) (all ++ more) ≡ cut ++ drop (suc missing - pulse_count s) more = drop-append (suc missing) all more ∙ ap (λ n. cut ++ drop n more) left in
    let heard_parts = subst (λ (lengths : List ℕ). AreHeard s.jitter lengths pulses) parts heard in
    let one_or_none : (suc missing - pulse_count s ≡ 0) ⊎ (length cut ≡ 0) = elim (cases_lt (suc missing) (pulse_count s)) [ inl within ↦ inl (omega arith) | inr behind ↦ inr (omega (arith, passed)) ] in
    let behind : drop (length cut) pulses ≡ pulses_between (drop (pulse_count s - suc missing) falls) = ap (λ n. drop n pulses) passed ∙ pulses-drop (pulse_count s - suc missing) falls in
    let rest = heard_behind s.jitter cut (drop (suc missing - pulse_count s) more) pulses heard_parts in
    skip_cut s range sent train.2 cut (cut_passed s f train.0 missing) (suc missing - pulse_count s) one_or_none pulses heard_parts
    ∙ ap (reading s Hunting) behind
    ∙ read_from s range sent train.2 (suc missing - pulse_count s) (drop (pulse_count s - suc missing) falls) (subst (λ (later : List Pulse). AreHeard s.jitter (drop (suc missing - pulse_count s) more) later) behind rest)
    ∙ ap (λ numbers. map good_step (heard_from s (suc missing - pulse_count s) (frames_of sent) numbers)) (sym (drop-map (λ (fall : Fall). fall.number) (pulse_count s - suc missing) falls))

-- ---- honest traces
one_more : (count each one others : ℕ) → one ≡ each → others ≡ count * each → one + others ≡ suc count * each
one_more count each one others e e' = omega arith

pub length_train : (s : Settings) (sent : List Sending) → IsTrain s sent → length (lengths_sent s sent) ≡ length sent * pulse_count s
length_train s [] train = omega arith
length_train s (f ∷ sent) train =
    length-append (pulses_sent s f) (lengths_sent s sent)
    ∙ one_more (length sent) (pulse_count s) (length (pulses_sent s f)) (length (lengths_sent s sent)) (length_pulses s f train.0) (length_train s sent train.2)

length_falls : (time : ℕ) (lengths : List ℕ) → length (falls_behind time lengths) ≡ length lengths
unfolding falls_behind
length_falls time [] = refl
length_falls time (sent ∷ lengths) = ap suc (length_falls (time + sent) lengths)

-- how many falls are missing, by how many there are
missing_is : (all left_out whole there : ℕ) → whole ≡ all → there ≡ whole - left_out → min left_out whole ≡ all - there
missing_is all left_out whole there e e' = omega arith

read_sent : (s : Settings) → InRange s.tick s.jitter s.nibbles → (sent : List Sending) → IsTrain s sent → (start left_out : ℕ) (edges : List NumberedEdge)
    → AreRecorded s.jitter (drop left_out (ideal_falls s start sent)) (times_of (falls_of edges)) → sent_reading s edges ≡ map good_step (heard_of s (frames_of sent) edges)
unfolding heard_of heard_from ideal_falls
read_sent s range [] train start left_out edges recorded =
    reads_nothing s Hunting (pulses_between (falls_of edges))
    (nothing_recorded s.jitter (falls_of edges) (subst (λ (ideals : List ℕ). AreRecorded s.jitter ideals (times_of (falls_of edges))) (drop_all left_out [] (omega arith)) recorded))
read_sent s range (f ∷ sent) train start left_out edges recorded =
    let falls = falls_of edges in
    let lengths = lengths_sent s (f ∷ sent) in
    let ideals = start ∷ falls_behind start lengths in
    let missing = min left_out (length ideals) in
    let whole : length ideals ≡ suc (length (frames_of (f ∷ sent)) * pulse_count s) =
    ap suc (length_falls start lengths ∙ length_train s (f ∷ sent) train ∙ ap (λ n. n * pulse_count s) (sym (length-map (f ∷ sent) (λ (g : Sending). g.frame)))) in
    let there : length falls ≡ length ideals - left_out =
    sym (length-map falls (λ (fall : Fall). fall.time)) ∙ sym (length_recorded s.jitter (drop left_out ideals) (times_of falls) recorded) ∙ length-drop left_out ideals in
    let are_missing : missing ≡ suc (length (frames_of (f ∷ sent)) * pulse_count s) - length falls = missing_is (suc (length (frames_of (f ∷ sent)) * pulse_count s)) left_out (length ideals) (length falls) whole there in
    let heard = heard_cut s.jitter start missing lengths falls (subst (λ (rest : List ℕ). AreRecorded s.jitter rest (times_of falls)) (sym (drop_min left_out ideals)) recorded) in
    read_from s range (f ∷ sent) train missing falls heard
    ∙ ap (λ n. map good_step (heard_from s n (frames_of (f ∷ sent)) (numbers_of falls))) are_missing

pub read_honest : (s : Settings) (frames : List SentFrame) (edges : List NumberedEdge) → IsHonest s frames edges → sent_reading s edges ≡ map good_step (heard_of s frames edges)
read_honest s frames edges honest =
    read_sent s (setup_range s.tick s.jitter s.nibbles honest.accepted) honest.sent honest.train honest.start honest.left_out edges honest.recorded
    ∙ ap (λ all. map good_step (heard_of s all edges)) honest.carries
