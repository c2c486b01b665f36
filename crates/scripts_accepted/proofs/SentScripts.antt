-- The messages of a script for SENT are sent.
--     ends-soon         a frame ends soon behind the one before
--     length-short, length-enhanced      how many frames a serial message has
--     sent-scripted
use Rattle.std.proofs.Common.{◌≡◌, ℕ, suc, ◌+◌, ◌-◌, ◌*◌, ◌%◌, ◌^◌, ◌<◌, ◌≤◌, Bool, true, false, not, Option, None, Some, List, [], ◌∷◌, ◌++◌, length, drop, sum, refl, ap, sym, subst, ◌∙◌, if◌then◌else◌, ltb, le-ltb, eqb, arith}
use Rattle.std.specs.Prelude.{◌&&◌, nat_eq, nat_lt}
use Rattle.std.specs.List.{All}
use Rattle.std.proofs.lemmas.List.{length-drop}
use Rattle.std.proofs.lemmas.List.Elements.{All-append, All-cons, All-nil}
use Rattle.std.proofs.lemmas.Nat.{mod_below, mul-le}
use Rattle.rand_pcg.specs.Lcg.{Lcg}
use Rattle.line_base.specs.declared.faults.SetupFault.TheVariants as setup_fault
use Rattle.link_math.specs.Division.{bits_of}
use Rattle.sent_fast.specs.declared.layout.Layout.{Layout}
use Rattle.sent_frame.specs.declared.frame.SentFrame.{SentFrame}
use Rattle.sent_frame.specs.Frames.{ticks_of}
use Rattle.sent_frame.specs.Setup.{InRange, Settings, fault_of}
use Rattle.sent_serial.specs.declared.step.SerialStep.TheVariants as step
use Rattle.sent_serial.specs.SentStatuses.{enhanced_statuses, later_starts, short_starts, short_statuses, short_values, statuses_of, statuses_sent, statuses_with_check}
use Rattle.sent_tolerance.specs.FromFirst.{pulse_count}
use Rattle.sent_tolerance.specs.Trains.{IsSent as IsFrame, Sending, pulses_sent}
use Rattle.sent_tolerance.proofs.FrameTicks.{length_ticks, pause_ticks, setup_range, ticks_apart, values_in, values_small}
use Rattle.sent_frame.proofs.SentTicks.{value_ticks}
use Rattle.receiver_core.specs.declared.message.Message.TheVariants as message
use Rattle.receiver_core.specs.declared.setup.Serial.{Serial}
use Rattle.receiver_core.specs.declared.setup.Serial.TheVariants as serial
use Rattle.receiver_core.specs.declared.setup.ChannelSetup.TheVariants.{Sent as SentSetup}
use Rattle.receiver_core.specs.Setups.{nibbles_fit, setup_fault_of}
use Rattle.sim_base.specs.FittingNibbles.{fits_nibbles}
use Rattle.sim_base.specs.Outcomes.{Outcome, Sent, Refused}
use Rattle.sim_base.specs.Wobbles.{behind_word, past, words}
use Rattle.sim_base.proofs.RecordedTimes.{length-words}
use Rattle.sent_sim.specs.SentSims.{are_enhanced, are_short, begins_at, behind_frame, completed, ends_at, falls_sent, fits_enhanced, fits_frame, frame_edges, frame_next as sim_frame_next, frame_sent, frame_words, ideal_of, own_count, past_frame, pause_count, sent_next as sim_sent_next, started, statuses_below}
use Rattle.sent_sim.specs.SentStates.{MayBeLeft, SentState}
use Rattle.sent_sim.proofs.SentFits.{completed-fits}
use Rattle.sent_sim.proofs.SentOutcomes.{begins-enhanced, begins-now, begins-short, left-drop, sends-frame}
use Rattle.sent_sim.proofs.SentTrains.{frame-is_sent}
use Rattle.sent_sim.proofs.SerialSendings.{two_bits-sent}
use Rattle.sensor_sim.specs.Sims.{SimState, sim_next}
use Rattle.sensor_sim.specs.declared.sim.Sim.TheVariants as sim
use Rattle.sensor_sim.proofs.HonestRuns.{sent-sends}
use Rattle.sensor_script.specs.Draws.{value}
use Rattle.sensor_script.specs.Scripts.{ScriptState, Scripted, drawn_count, enhanced_next, frame_next, frame_nibbles, script_from, script_next, sent_next, short_next}
use Rattle.scripts_accepted.specs.Taken.{IsSent}
use Rattle.scripts_accepted.specs.Followed.{HasFollowed}
use Rattle.scripts_accepted.proofs.Bounds.{lengths-most, owns-short, values-few}
use Rattle.scripts_accepted.proofs.FittingMessages.{and-true}
use Rattle.scripts_accepted.proofs.FollowedLinks.{LeavesBoth, followed-sent, script-by}
use Rattle.scripts_accepted.proofs.Outcomes.{Leaves, in_time-sent, late-leaves}
use Rattle.scripts_accepted.proofs.ScriptValues.{frame-nibbles-fit, value-fits}

-- ---- how long a frame lasts
-- a pause has at most 768 ticks
pauses-few : (paused : Bool) (pause : ℕ) → (paused ≡ true → (12 ≤ pause) × (pause ≤ 768)) → All (λ count. count ≤ 768) (pause_ticks paused pause)
pauses-few true pause within = All-cons (λ count. count ≤ 768) pause [] (within refl).1 (All-nil (λ count. count ≤ 768))
pauses-few false pause within = All-nil (λ count. count ≤ 768)

-- a frame has at most 10 pulses
pulses-few : (s : Settings) → s.nibbles ≤ 6 → pulse_count s ≤ 10
pulses-few s few = by s.pause
  where
    by : (paused : Bool) → suc (suc (suc (s.nibbles + (if paused then 1 else 0)))) ≤ 10
    by true = omega (arith, few)
    by false = omega (arith, few)

module _ (s : Settings) (range : InRange s.tick s.jitter s.nibbles) where
  -- each pulse of a frame has at most 768 ticks
  counts-few : (f : Sending) → IsFrame s f → All (λ count. count ≤ 768) (ticks_of s f.frame f.pause)
  counts-few f is_sent =
      let values = values_in s f.frame in
      subst (All (λ count. count ≤ 768)) (sym (ticks_apart s f.frame f.pause))
      (All-cons (λ count. count ≤ 768) 56 (value_ticks values ++ pause_ticks s.pause f.pause) (omega arith)
      (All-append (λ count. count ≤ 768) (value_ticks values) (pause_ticks s.pause f.pause) (values-few 768 values (omega arith) (values_small s f.frame is_sent.fits)) (pauses-few s.pause f.pause is_sent.pause)))

  -- the pulses of a frame are at most 840,000,000,000 ps long together
  pulses-short : (f : Sending) → IsFrame s f → sum (pulses_sent s f) ≤ 840000000000
  pulses-short f is_sent =
      let counts = ticks_of s f.frame f.pause in
      let ticks : All (λ t. t ≤ 1203 * s.tick) (f.tick ∷ f.own_ticks) = All-cons (λ t. t ≤ 1203 * s.tick) f.tick f.own_ticks (omega (arith, is_sent.tick)) (owns-short s.tick f.tick f.own_ticks is_sent.tick is_sent.own_ticks) in
      let most = lengths-most 768 (1203 * s.tick) counts (f.tick ∷ f.own_ticks) (counts-few f is_sent) ticks in
      let many : length counts ≤ 10 = omega (arith, length_ticks s f.frame f.pause is_sent.fits, pulses-few s range.nibbles_high) in
      let room : length counts * (768 * (1203 * s.tick)) ≤ 10 * (768 * (1203 * 90000)) = mul-le (length counts) (768 * (1203 * s.tick)) 10 (768 * (1203 * 90000)) many (omega (arith, range.tick_high)) in
      omega (arith, most, room)

  -- a frame ends soon behind the one before
  pub ends-soon : (last : Option ℕ) (f : Sending) → IsFrame s f → ends_at s last f ≤ begins_at s last + 840000000000
  unfolding ends_at
  ends-soon last f is_sent = omega (arith, pulses-short f is_sent)

-- ---- how many frames a serial message has
-- a short serial message has 16 frames
pub length-short : (id number : ℕ) → length (statuses_sent (step.Short id number)) ≡ 16
unfolding statuses_sent short_statuses short_values short_starts statuses_of bits_of
length-short id number = refl

-- an enhanced one has 18
pub length-enhanced : (id number : ℕ) (wide : Bool) → length (statuses_sent (step.Enhanced id number wide)) ≡ 18
unfolding statuses_sent enhanced_statuses statuses_with_check later_starts statuses_of bits_of
length-enhanced id number wide = refl

-- ---- a frame
module _ (state : SentState) (range : InRange state.setup.tick state.setup.jitter state.setup.nibbles) (may : MayBeLeft state.serial state.left) (frame : SentFrame) (fits : fits_frame state.setup state.serial frame ≡ true) (g : Lcg) where
  -- the frame as it is sent
  abbrev sending : Sending
  sending = frame_sent state.setup state.tick (completed state.left frame) (frame_words state.setup g)

  -- a sensor may send it so
  frame-drawn : IsFrame state.setup sending
  unfolding frame_words
  frame-drawn =
      frame-is_sent state.setup state.tick (completed state.left frame) (frame_words state.setup g) (completed-fits state.setup state.serial state.left frame may fits)
      (length-words (own_count state.setup) (past (pause_count state.setup) (behind_word g)))

  -- what a frame leaves
  abbrev FrameLeaves : SentState → Type 0
  FrameLeaves behind = (behind.setup ≡ state.setup) × (behind.serial ≡ state.serial) × (behind.left ≡ drop 1 state.left) × (begins_at behind.setup behind.last ≤ begins_at state.setup state.last + 840000000000)

  -- behind it the setup is kept, one status fewer is left, and the next frame begins soon
  frame-leaves : Leaves FrameLeaves (sim_frame_next state frame g)
  unfolding sim_frame_next falls_sent
  frame-leaves =
      let own = past_frame state.setup g in
      let count = length (ideal_of state.setup state.last sending) in
      late-leaves SentState FrameLeaves state (behind_frame state sending) (frame_edges state sending (words count own)) own (past count own) (ltb (9 * 10 ^ 17) (ends_at state.setup state.last sending))
      (refl, refl, refl, ends-soon state.setup range state.last sending frame-drawn)

  -- a frame that begins soon is sent
  frame-then : begins_at state.setup state.last ≤ 8 * 10 ^ 17 → IsSent (sim_frame_next state frame g)
  unfolding sim_frame_next falls_sent
  frame-then soon =
      let own = past_frame state.setup g in
      let count = length (ideal_of state.setup state.last sending) in
      let in_time : ends_at state.setup state.last sending ≤ 9 * 10 ^ 17 = omega (arith, ends-soon state.setup range state.last sending frame-drawn, soon) in
      in_time-sent SentState (λ s. Unit {0}) state (behind_frame state sending) (frame_edges state sending (words count own)) own (past count own) (ltb (9 * 10 ^ 17) (ends_at state.setup state.last sending))
      (le-ltb (9 * 10 ^ 17) (ends_at state.setup state.last sending) in_time)

-- ---- the script
-- the script and the simulator keep their setup, as many statuses are left as the script has frames to send, and the last frame ended soon
pub record SentBoth (line : ℕ) (s : Settings) (layout : Layout) (form : Serial) (script : ScriptState) (now : SentState) (count : ℕ) : Type 0 where
  pub script_is : script.setup ≡ SentSetup line s layout form
  pub setup_is : now.setup ≡ s
  pub serial_is : now.serial ≡ form
  pub may_be_left : MayBeLeft form now.left
  pub left_is : length now.left ≡ script.left
  pub counter : script.counter < 256
  pub soon : begins_at s now.last ≤ suc count * 840000000000

-- the second test doesn't refuse a channel without fault
by-layout : (high unfit : Bool) → (if high then Some setup_fault.Lines else (if unfit then Some setup_fault.Layout else None)) ≡ None → unfit ≡ false
by-layout true unfit e = absurd cc
by-layout false true e = absurd cc
by-layout false false e = refl

-- what isn't not so is so
so-fits : (b : Bool) → not b ≡ false → b ≡ true
so-fits true e = refl
so-fits false e = absurd cc

-- no statuses may be left
none-left : (form : Serial) → MayBeLeft form []
none-left serial.Absent = refl
none-left serial.Short = All-nil _
none-left serial.Enhanced = All-nil _

-- how many bits a frame's own status has
abbrev width_of : Serial → ℕ
width_of serial.Absent = 4
width_of serial.Short = 2
width_of serial.Enhanced = 2

-- a frame's own status fits
status-fits : (form : Serial) (g : Lcg) → ltb (value (width_of form) g) (statuses_below form) ≡ true
status-fits serial.Absent g = value-fits 4 g
status-fits serial.Short g = value-fits 2 g
status-fits serial.Enhanced g = value-fits 2 g

module _ (line : ℕ) (s : Settings) (layout : Layout) (form : Serial) (accepted : fault_of s.tick s.jitter s.nibbles ≡ None) (no_fault : setup_fault_of (SentSetup line s layout form) ≡ None) where
  -- what holds of the script and the simulator
  abbrev Both : ScriptState → SentState → ℕ → Type 0
  Both script now count = SentBoth line s layout form script now count

  -- the channel's frames have the nibbles of its layout
  fit : nibbles_fit layout s.nibbles ≡ true
  fit = so-fits (nibbles_fit layout s.nibbles) (by-layout (nat_lt 15 line) (not (nibbles_fit layout s.nibbles)) no_fault)

  module _ (script : ScriptState) (now : SentState) (count : ℕ) (g : Lcg) (both : Both script now count) where
    -- the bounds of the simulator's setup
    range-so : InRange now.setup.tick now.setup.jitter now.setup.nibbles
    range-so = subst (λ (u : Settings). InRange u.tick u.jitter u.nibbles) (sym both.setup_is) (setup_range s.tick s.jitter s.nibbles accepted)

    -- what is left to send may be left
    may-so : MayBeLeft now.serial now.left
    may-so = subst (λ (u : Serial). MayBeLeft u now.left) (sym both.serial_is) both.may_be_left

    -- the frame of the script
    abbrev scripted : SentFrame
    scripted = record { status = value (width_of form) script.wobble; nibbles = frame_nibbles layout s.nibbles script.counter (behind_word script.wobble) }

    -- it fits the simulator's setup
    frame-fits : fits_frame now.setup now.serial scripted ≡ true
    frame-fits =
        ap (λ (u : Settings). fits_frame u now.serial scripted) both.setup_is ∙ ap (λ (u : Serial). fits_frame s u scripted) both.serial_is
        ∙ and-true (fits_nibbles s (frame_nibbles layout s.nibbles script.counter (behind_word script.wobble))) (ltb (value (width_of form) script.wobble) (statuses_below form))
        (frame-nibbles-fit s layout script.counter (behind_word script.wobble) both.counter fit) (status-fits form script.wobble)

    -- behind a frame both still hold
    behind-script : (o : Outcome SentState)
        → Leaves (λ (behind : SentState). (behind.setup ≡ now.setup) × (behind.serial ≡ now.serial) × (behind.left ≡ drop 1 now.left) × (begins_at behind.setup behind.last ≤ begins_at now.setup now.last + 840000000000)) o
        → Leaves (λ behind. Both (record script { wobble = past (drawn_count layout s.nibbles) (behind_word script.wobble); left = script.left - 1; counter = (script.counter + 1) % 256 }) behind (count + 1)) o
    behind-script (Sent edges behind later) leaves = record {
      script_is = both.script_is;
      setup_is = leaves.0 ∙ both.setup_is;
      serial_is = leaves.1 ∙ both.serial_is;
      may_be_left = subst (MayBeLeft form) (sym leaves.2) (left-drop form now.left both.may_be_left);
      left_is = ap length leaves.2 ∙ length-drop 1 now.left ∙ ap (λ n. n - 1) both.left_is;
      counter = mod_below (script.counter + 1) 256 (omega arith);
      soon =
          let here : begins_at s behind.last ≡ begins_at behind.setup behind.last = ap (λ (u : Settings). begins_at u behind.last) (sym (leaves.0 ∙ both.setup_is)) in
          let there : begins_at now.setup now.last ≡ begins_at s now.last = ap (λ (u : Settings). begins_at u now.last) both.setup_is in
          omega (arith, here, there, leaves.3, both.soon);
    }
    behind-script (Refused refused behind later) leaves = tt

    -- so behind the script's frame
    frame-step : LeavesBoth Both count (sim_sent_next now) (frame_next script s layout (width_of form)) g
    unfolding frame_next
    frame-step =
        behind-script (sim_sent_next now (message.Frame scripted) g)
        (subst (Leaves (FrameLeaves now range-so may-so scripted frame-fits g)) (sends-frame now g (message.Frame scripted) scripted refl frame-fits) (frame-leaves now range-so may-so scripted frame-fits g))

    -- and the frame is sent
    frame-last : count < 100000 → IsSent (sim_sent_next now (frame_next script s layout (width_of form)).message g)
    unfolding frame_next
    frame-last few =
        let there : begins_at now.setup now.last ≡ begins_at s now.last = ap (λ (u : Settings). begins_at u now.last) both.setup_is in
        subst IsSent (sends-frame now g (message.Frame scripted) scripted refl frame-fits) (frame-then now range-so may-so scripted frame-fits g (omega (arith, there, both.soon, few)))

    -- a serial message that is due
    none-due : nat_eq script.left 0 ≡ true → eqb (length now.left) 0 ≡ true
    none-due due = ap (λ n. eqb n 0) both.left_is ∙ due

    -- behind a serial message both still hold
    behind-serial : (statuses : List ℕ) (left : ℕ) (words : Lcg) → length statuses ≡ left → MayBeLeft form statuses → Both (record script { wobble = words; left = left }) (record now { left = statuses }) (count + 0)
    behind-serial statuses left words many may = record {
      script_is = both.script_is;
      setup_is = both.setup_is;
      serial_is = both.serial_is;
      may_be_left = may;
      left_is = many;
      counter = both.counter;
      soon = omega (arith, both.soon);
    }

    -- so behind a short message
    short-step : (id number : ℕ) (words : Lcg) → form ≡ serial.Short → eqb (length now.left) 0 ≡ true → (ltb id 16 && ltb number 256) ≡ true
        → LeavesBoth Both count (sim_sent_next now) (record { message = message.Short id number; script = record script { wobble = words; left = 16 } }) g
    short-step id number words is due fits =
        let statuses = statuses_sent (step.Short id number) in
        let short : are_short now.serial ≡ true = ap are_short (both.serial_is ∙ is) in
        let sent : Sent [] (record now { left = statuses }) g ≡ sim_sent_next now (message.Short id number) g = begins-now now statuses g due ∙ begins-short now g (message.Short id number) id number statuses refl short fits refl in
        subst (Leaves (λ behind. Both (record script { wobble = words; left = 16 }) behind (count + 0))) sent
        (behind-serial statuses 16 words (length-short id number) (subst (λ (u : Serial). MayBeLeft u statuses) (sym is) (two_bits-sent (step.Short id number))))

    -- and it is sent
    short-last : (id number : ℕ) → form ≡ serial.Short → eqb (length now.left) 0 ≡ true → (ltb id 16 && ltb number 256) ≡ true → IsSent (sim_sent_next now (message.Short id number) g)
    short-last id number is due fits =
        let statuses = statuses_sent (step.Short id number) in
        let short : are_short now.serial ≡ true = ap are_short (both.serial_is ∙ is) in
        let sent : Sent [] (record now { left = statuses }) g ≡ sim_sent_next now (message.Short id number) g = begins-now now statuses g due ∙ begins-short now g (message.Short id number) id number statuses refl short fits refl in
        subst IsSent sent tt

    -- so behind an enhanced message
    enhanced-step : (id number : ℕ) (wide : Bool) (words : Lcg) → form ≡ serial.Enhanced → eqb (length now.left) 0 ≡ true → fits_enhanced id number wide ≡ true
        → LeavesBoth Both count (sim_sent_next now) (record { message = message.Enhanced id number wide; script = record script { wobble = words; left = 18 } }) g
    enhanced-step id number wide words is due fits =
        let statuses = statuses_sent (step.Enhanced id number wide) in
        let enhanced : are_enhanced now.serial ≡ true = ap are_enhanced (both.serial_is ∙ is) in
        let sent : Sent [] (record now { left = statuses }) g ≡ sim_sent_next now (message.Enhanced id number wide) g =
        begins-now now statuses g due ∙ begins-enhanced now g (message.Enhanced id number wide) id number wide statuses refl enhanced fits refl in
        subst (Leaves (λ behind. Both (record script { wobble = words; left = 18 }) behind (count + 0))) sent
        (behind-serial statuses 18 words (length-enhanced id number wide) (subst (λ (u : Serial). MayBeLeft u statuses) (sym is) (two_bits-sent (step.Enhanced id number wide))))

    -- and it is sent
    enhanced-last : (id number : ℕ) (wide : Bool) → form ≡ serial.Enhanced → eqb (length now.left) 0 ≡ true → fits_enhanced id number wide ≡ true → IsSent (sim_sent_next now (message.Enhanced id number wide) g)
    enhanced-last id number wide is due fits =
        let statuses = statuses_sent (step.Enhanced id number wide) in
        let enhanced : are_enhanced now.serial ≡ true = ap are_enhanced (both.serial_is ∙ is) in
        let sent : Sent [] (record now { left = statuses }) g ≡ sim_sent_next now (message.Enhanced id number wide) g =
        begins-now now statuses g due ∙ begins-enhanced now g (message.Enhanced id number wide) id number wide statuses refl enhanced fits refl in
        subst IsSent sent tt

-- ---- what a step of the script gives, and that its message is sent
module _ (line : ℕ) (s : Settings) (layout : Layout) (accepted : fault_of s.tick s.jitter s.nibbles ≡ None) where
  -- both hold of a message of the script
  abbrev Goes : Serial → ScriptState → SentState → ℕ → Lcg → Scripted → Type 0
  Goes form script now count g x = LeavesBoth (SentBoth line s layout form) count (sim_sent_next now) x g × (count < 100000 → IsSent (sim_sent_next now x.message g))

  module _ (form : Serial) (no_fault : setup_fault_of (SentSetup line s layout form) ≡ None) (script : ScriptState) (now : SentState) (count : ℕ) (g : Lcg) (both : SentBoth line s layout form script now count) where
    -- a frame goes
    frame-goes : Goes form script now count g (frame_next script s layout (width_of form))
    frame-goes = (frame-step line s layout form accepted no_fault script now count g both, frame-last line s layout form accepted no_fault script now count g both)

    -- a short message that is due goes
    short-goes : form ≡ serial.Short → nat_eq script.left 0 ≡ true → Goes form script now count g (short_next script)
    unfolding short_next
    short-goes is due =
        let here = none-due line s layout form accepted no_fault script now count g both due in
        let fits = and-true (ltb (value 4 script.wobble) 16) (ltb (value 8 (behind_word script.wobble)) 256) (value-fits 4 script.wobble) (value-fits 8 (behind_word script.wobble)) in (
          short-step line s layout form accepted no_fault script now count g both (value 4 script.wobble) (value 8 (behind_word script.wobble)) (behind_word (behind_word script.wobble)) is here fits,
          λ few. short-last line s layout form accepted no_fault script now count g both (value 4 script.wobble) (value 8 (behind_word script.wobble)) is here fits,
        )

    -- the form of an enhanced message, by its word
    by-form : (wide : Bool) → form ≡ serial.Enhanced → nat_eq script.left 0 ≡ true → Goes form script now count g (record {
      message =
          if wide then message.Enhanced (value 4 (behind_word script.wobble)) (value 16 (behind_word (behind_word script.wobble))) true
          else message.Enhanced (value 8 (behind_word script.wobble)) (value 12 (behind_word (behind_word script.wobble))) false;
      script = record script { wobble = behind_word (behind_word (behind_word script.wobble)); left = 18 };
    })
    by-form true is due =
        let here = none-due line s layout form accepted no_fault script now count g both due in
        let first = behind_word script.wobble in
        let second = behind_word first in
        let fits = and-true (ltb (value 4 first) 16) (ltb (value 16 second) 65536) (value-fits 4 first) (value-fits 16 second) in (
          enhanced-step line s layout form accepted no_fault script now count g both (value 4 first) (value 16 second) true (behind_word second) is here fits,
          λ few. enhanced-last line s layout form accepted no_fault script now count g both (value 4 first) (value 16 second) true is here fits,
        )
    by-form false is due =
        let here = none-due line s layout form accepted no_fault script now count g both due in
        let first = behind_word script.wobble in
        let second = behind_word first in
        let fits = and-true (ltb (value 8 first) 256) (ltb (value 12 second) 4096) (value-fits 8 first) (value-fits 12 second) in (
          enhanced-step line s layout form accepted no_fault script now count g both (value 8 first) (value 12 second) false (behind_word second) is here fits,
          λ few. enhanced-last line s layout form accepted no_fault script now count g both (value 8 first) (value 12 second) false is here fits,
        )

    -- an enhanced message that is due goes
    enhanced-goes : form ≡ serial.Enhanced → nat_eq script.left 0 ≡ true → Goes form script now count g (enhanced_next script)
    unfolding enhanced_next
    enhanced-goes is due = by-form (nat_eq (value 1 script.wobble) 1) is due

  -- a serial message where it is due, else a frame
  by-due : (form : Serial) (script : ScriptState) (now : SentState) (count : ℕ) (g : Lcg) (x y : Scripted) (due : Bool) → nat_eq script.left 0 ≡ due → (nat_eq script.left 0 ≡ true → Goes form script now count g x) → Goes form script now count g y
      → Goes form script now count g (if due then x else y)
  by-due form script now count g x y true is first second = first is
  by-due form script now count g x y false is first second = second

  -- a message goes, by the form of the serial messages
  sent-goes : (form : Serial) → setup_fault_of (SentSetup line s layout form) ≡ None → (script : ScriptState) (now : SentState) (count : ℕ) (g : Lcg) → SentBoth line s layout form script now count → Goes form script now count g (sent_next script s layout form)
  unfolding sent_next
  sent-goes serial.Absent no_fault script now count g both = frame-goes serial.Absent no_fault script now count g both
  sent-goes serial.Short no_fault script now count g both =
      by-due serial.Short script now count g (short_next script) (frame_next script s layout 2) (nat_eq script.left 0) refl (short-goes serial.Short no_fault script now count g both refl) (frame-goes serial.Short no_fault script now count g both)
  sent-goes serial.Enhanced no_fault script now count g both =
      by-due serial.Enhanced script now count g (enhanced_next script) (frame_next script s layout 2) (nat_eq script.left 0) refl (enhanced-goes serial.Enhanced no_fault script now count g both refl) (frame-goes serial.Enhanced no_fault script now count g both)

  module _ (form : Serial) (no_fault : setup_fault_of (SentSetup line s layout form) ≡ None) where
    -- the first frame begins soon
    first-soon : (100000 * s.tick) ≤ 840000000000
    first-soon = let range = setup_range s.tick s.jitter s.nibbles accepted in omega (arith, range.tick_high)

    -- both hold at first
    start : (words : Lcg) → SentBoth line s layout form (script_from (SentSetup line s layout form) words) (started line s form) 0
    start words = record { script_is = refl; setup_is = refl; serial_is = refl; may_be_left = none-left form; left_is = refl; counter = omega arith; soon = omega (arith, first-soon) }

    -- so the next message goes
    next-goes : (script : ScriptState) (now : SentState) (count : ℕ) (g : Lcg) → SentBoth line s layout form script now count → Goes form script now count g (script_next script)
    next-goes script now count g both =
        subst (Goes form script now count g) (sym (script-by script (SentSetup line s layout form) both.script_is)) (sent-goes form no_fault script now count g both)

    -- the messages of a script for SENT are sent
    pub sent-scripted : (words : Lcg) (script : ScriptState) (state : SimState) (count : ℕ) (g : Lcg) → HasFollowed (SentSetup line s layout form) words script state count → count < 100000 → IsSent (sim_next state (script_next script).message g)
    sent-scripted words script state count g run few =
        followed-sent SentState sim.Sent sim_sent_next sent-sends (SentSetup line s layout form) words (started line s form) refl (SentBoth line s layout form) (start words)
        (λ script now count g both. (next-goes script now count g both).0) 100000 (λ script now count g both few. (next-goes script now count g both).1 few) script state count g run few
