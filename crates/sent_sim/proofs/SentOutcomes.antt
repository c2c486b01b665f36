-- What becomes of a message, case by case.
--     refuses-status, refuses-form, refuses-id, refuses-other ..    messages that are refused
--     sends-frame, begins-short, begins-enhanced          the others
--     refuses-late, sends-falls                           frames that come too late, and the others
--     left-drop                                           what may be left behind a frame
--     at_ok                                               what holds where a call gave a value
use Rattle.std.proofs.Common.{◌≡◌, ℕ, ◌*◌, ◌^◌, ◌<◌, ◌≤◌, Bool, true, false, Some, List, [], ◌∷◌, ◌++◌, length, drop, Result, Ok, Err, refl, ap, ap₂, sym, ◌∙◌, if◌then◌else◌, lt-ltb, le-ltb, ltb, eqb, arith}
use Rattle.std.specs.List.{All}
use Rattle.std.specs.Result.{IsOk, OnOk}
use Rattle.std.proofs.lemmas.Bool.{false≢true}
use Rattle.std.proofs.lemmas.List.Elements.{All-tail}
use Rattle.rand_pcg.specs.Lcg.{Lcg}
use Rattle.line_base.specs.declared.edge.Edge.{Edge}
use Rattle.sent_frame.specs.declared.frame.SentFrame.{SentFrame}
use Rattle.sent_serial.specs.Statuses.{HasTwoBits}
use Rattle.sent_serial.specs.declared.step.SerialStep.TheVariants as step
use Rattle.sent_serial.specs.SentStatuses.{statuses_sent}
use Rattle.sent_tolerance.specs.Trains.{Sending}
use Rattle.receiver_core.specs.declared.message.Message.{Message}
use Rattle.receiver_core.specs.declared.message.Message.TheVariants as message
use Rattle.receiver_core.specs.declared.setup.Serial.{Serial}
use Rattle.receiver_core.specs.declared.setup.Serial.TheVariants as serial
use Rattle.sim_base.specs.declared.sim_fault.SimFault.TheVariants as fault
use Rattle.sim_base.specs.Outcomes.{Outcome, Sent, Refused}
use Rattle.sim_base.specs.Recordings.{falls_with_rises, opening_of, recorded_by}
use Rattle.sent_sim.specs.SentSims.{are_enhanced, are_short, begun, behind_frame, completed, ends_at, falls_sent, fits_enhanced, fits_frame, fits_short, frame_edges, frame_next, frame_sent, frame_words, ideal_of, past_frame, sent_next}
use Rattle.sent_sim.specs.SentStates.{MayBeLeft, SentState}
use Rattle.sim_base.specs.Wobbles.{past, words}

-- ---- tests
module _ (state : SentState) (g : Lcg) (m : Message) where
  pub refuses-frame : (frame : SentFrame) → m ≡ message.Frame frame → fits_frame state.setup state.serial frame ≡ false → Refused fault.Range state g ≡ sent_next state m g
  unfolding sent_next
  refuses-frame frame is unfit = ap (λ b. if b then frame_next state frame g else Refused fault.Range state g) (sym unfit) ∙ ap (λ m. sent_next state m g) (sym is)

  pub sends-frame : (frame : SentFrame) → m ≡ message.Frame frame → fits_frame state.setup state.serial frame ≡ true → frame_next state frame g ≡ sent_next state m g
  unfolding sent_next
  sends-frame frame is fits = ap (λ b. if b then frame_next state frame g else Refused fault.Range state g) (sym fits) ∙ ap (λ m. sent_next state m g) (sym is)

  -- what becomes of a serial message, by whether it is of the form and whether it fits
  abbrev by_tests : List ℕ → Bool → Bool → Outcome SentState
  by_tests statuses kind fits = if kind then (if fits then begun state statuses g else Refused fault.Range state g) else Refused fault.Kind state g

  short-next : (id value : ℕ) (kind fits : Bool) → m ≡ message.Short id value → are_short state.serial ≡ kind → fits_short id value ≡ fits → by_tests (statuses_sent (step.Short id value)) kind fits ≡ sent_next state m g
  unfolding sent_next
  short-next id value kind fits is kind_is fits_is = ap₂ (by_tests (statuses_sent (step.Short id value))) (sym kind_is) (sym fits_is) ∙ ap (λ m. sent_next state m g) (sym is)

  pub refuses-short : (id value : ℕ) → m ≡ message.Short id value → are_short state.serial ≡ false → Refused fault.Kind state g ≡ sent_next state m g
  refuses-short id value is other = short-next id value false (fits_short id value) is other refl

  pub refuses-id : (id value : ℕ) → m ≡ message.Short id value → are_short state.serial ≡ true → fits_short id value ≡ false → Refused fault.Range state g ≡ sent_next state m g
  refuses-id id value is short unfit = short-next id value true false is short unfit

  pub begins-short : (id value : ℕ) (statuses : List ℕ) → m ≡ message.Short id value → are_short state.serial ≡ true → fits_short id value ≡ true → statuses ≡ statuses_sent (step.Short id value) → begun state statuses g ≡ sent_next state m g
  begins-short id value statuses is short fit are = ap (λ l. begun state l g) are ∙ short-next id value true true is short fit

  enhanced-next : (id value : ℕ) (wide kind fits : Bool) → m ≡ message.Enhanced id value wide → are_enhanced state.serial ≡ kind → fits_enhanced id value wide ≡ fits
      → by_tests (statuses_sent (step.Enhanced id value wide)) kind fits ≡ sent_next state m g
  unfolding sent_next
  enhanced-next id value wide kind fits is kind_is fits_is = ap₂ (by_tests (statuses_sent (step.Enhanced id value wide))) (sym kind_is) (sym fits_is) ∙ ap (λ m. sent_next state m g) (sym is)

  pub refuses-enhanced : (id value : ℕ) (wide : Bool) → m ≡ message.Enhanced id value wide → are_enhanced state.serial ≡ false → Refused fault.Kind state g ≡ sent_next state m g
  refuses-enhanced id value wide is other = enhanced-next id value wide false (fits_enhanced id value wide) is other refl

  pub refuses-values : (id value : ℕ) (wide : Bool) → m ≡ message.Enhanced id value wide → are_enhanced state.serial ≡ true → fits_enhanced id value wide ≡ false → Refused fault.Range state g ≡ sent_next state m g
  refuses-values id value wide is enhanced unfit = enhanced-next id value wide true false is enhanced unfit

  pub begins-enhanced : (id value : ℕ) (wide : Bool) (statuses : List ℕ) → m ≡ message.Enhanced id value wide → are_enhanced state.serial ≡ true → fits_enhanced id value wide ≡ true
      → statuses ≡ statuses_sent (step.Enhanced id value wide) → begun state statuses g ≡ sent_next state m g
  begins-enhanced id value wide statuses is enhanced fit are = ap (λ l. begun state l g) are ∙ enhanced-next id value wide true true is enhanced fit

-- any other message isn't one of SENT
pub refuses-other : (state : SentState) (g : Lcg) (m : Message) → ((frame : SentFrame) → m ≡ message.Frame frame → ⊥) → ((id value : ℕ) → m ≡ message.Short id value → ⊥)
    → ((id value : ℕ) (wide : Bool) → m ≡ message.Enhanced id value wide → ⊥) → Refused fault.Kind state g ≡ sent_next state m g
unfolding sent_next
refuses-other state g (message.Frame frame) no_frame no_short no_enhanced = absurd (no_frame frame refl)
refuses-other state g (message.Short id value) no_frame no_short no_enhanced = absurd (no_short id value refl)
refuses-other state g (message.Enhanced id value wide) no_frame no_short no_enhanced = absurd (no_enhanced id value wide refl)
refuses-other state g (message.Answer code frame) no_frame no_short no_enhanced = refl
refuses-other state g (message.Silent code) no_frame no_short no_enhanced = refl
refuses-other state g message.Sync no_frame no_short no_enhanced = refl
refuses-other state g (message.Burst slot payload) no_frame no_short no_enhanced = refl
refuses-other state g (message.Down down) no_frame no_short no_enhanced = refl

-- ---- serial messages
pub refuses-order : (state : SentState) (statuses : List ℕ) (g : Lcg) → eqb (length state.left) 0 ≡ false → Refused fault.Order state g ≡ begun state statuses g
unfolding begun
refuses-order state statuses g more = ap (λ b. if b then Sent [] (record state { left = statuses }) g else Refused fault.Order state g) (sym more)

pub begins-now : (state : SentState) (statuses : List ℕ) (g : Lcg) → eqb (length state.left) 0 ≡ true → Sent [] (record state { left = statuses }) g ≡ begun state statuses g
unfolding begun
begins-now state statuses g none = ap (λ b. if b then Sent [] (record state { left = statuses }) g else Refused fault.Order state g) (sym none)

-- ---- frames
module _ (state : SentState) (frame : SentFrame) (g : Lcg) where
  abbrev f : Sending
  f = frame_sent state.setup state.tick (completed state.left frame) (frame_words state.setup g)

  abbrev drawn : Lcg
  drawn = past_frame state.setup g

  -- by whether it comes too late
  abbrev by_time : Bool → Outcome SentState
  by_time late =
      if late then Refused fault.Late state drawn
      else Sent (frame_edges state f (words (length (ideal_of state.setup state.last f)) drawn)) (behind_frame state f) (past (length (ideal_of state.setup state.last f)) drawn)

  frame-next : (late : Bool) → ltb (9 * 10 ^ 17) (ends_at state.setup state.last f) ≡ late → by_time late ≡ frame_next state frame g
  unfolding frame_next falls_sent
  frame-next late is = ap by_time (sym is)

  pub refuses-late : (last : ℕ) (behind : Lcg) → last ≡ ends_at state.setup state.last f → 9 * 10 ^ 17 < last → behind ≡ past_frame state.setup g → Refused fault.Late state behind ≡ frame_next state frame g
  refuses-late last behind last_is late is =
      let too_late : 9 * 10 ^ 17 < ends_at state.setup state.last f = omega (arith, last_is) in
      ap (Refused fault.Late state) is ∙ frame-next true (lt-ltb (9 * 10 ^ 17) (ends_at state.setup state.last f) too_late)

-- what the code has of a frame that is sent
pub record IsFrameSent (state : SentState) (frame : SentFrame) (g : Lcg) (edges : List Edge) (last tick : ℕ) (left : List ℕ) (behind : Lcg) : Type 0 where
  pub falls : List ℕ
  pub drawn : Lcg
  pub falls_are : falls ≡ ideal_of state.setup state.last (frame_sent state.setup state.tick (completed state.left frame) (frame_words state.setup g))
  pub last_is : last ≡ ends_at state.setup state.last (frame_sent state.setup state.tick (completed state.left frame) (frame_words state.setup g))
  pub tick_is : tick ≡ (frame_sent state.setup state.tick (completed state.left frame) (frame_words state.setup g)).tick
  pub drawn_is : drawn ≡ past_frame state.setup g
  pub in_time : last ≤ 9 * 10 ^ 17
  pub edges_are : edges ≡ opening_of state.line true state.last ++ falls_with_rises state.line (4 * state.setup.tick) (recorded_by state.setup.jitter falls (words (length falls) drawn))
  pub behind_is : behind ≡ past (length falls) drawn
  pub left_is : left ≡ drop 1 state.left

pub sends-falls : (state : SentState) (frame : SentFrame) (g : Lcg) (edges : List Edge) (last tick : ℕ) (left : List ℕ) (behind : Lcg) → IsFrameSent state frame g edges last tick left behind
    → Sent edges (record state { last = Some last; tick = tick; left = left }) behind ≡ frame_next state frame g
unfolding frame_edges
sends-falls state frame g edges last tick left behind sent =
    let one = f state frame g in
    let in_time : ends_at state.setup state.last one ≤ 9 * 10 ^ 17 = omega (arith, sent.last_is, sent.in_time) in
    let edges_are : edges ≡ frame_edges state one (words (length (ideal_of state.setup state.last one)) (past_frame state.setup g)) =
    sent.edges_are ∙ ap₂ (λ l b. opening_of state.line true state.last ++ falls_with_rises state.line (4 * state.setup.tick) (recorded_by state.setup.jitter l (words (length l) b))) sent.falls_are sent.drawn_is in
    let behind_is : behind ≡ past (length (ideal_of state.setup state.last one)) (past_frame state.setup g) = sent.behind_is ∙ ap₂ (λ l b. past (length l) b) sent.falls_are sent.drawn_is in
    ap₂ (λ e b. Sent e (record state { last = Some last; tick = tick; left = left }) b) edges_are behind_is
    ∙ ap₂ (λ n t. Sent (frame_edges state one (words (length (ideal_of state.setup state.last one)) (past_frame state.setup g))) (record state { last = Some n; tick = t; left = left }) (past (length (ideal_of state.setup state.last one)) (past_frame state.setup g))) sent.last_is sent.tick_is
    ∙ ap (λ l. Sent (frame_edges state one (words (length (ideal_of state.setup state.last one)) (past_frame state.setup g))) (record state { last = Some (ends_at state.setup state.last one); tick = one.tick; left = l }) (past (length (ideal_of state.setup state.last one)) (past_frame state.setup g))) sent.left_is
    ∙ frame-next state frame g false (le-ltb (9 * 10 ^ 17) (ends_at state.setup state.last one) in_time)

-- behind a frame one status fewer is left
two_bits-drop : (left : List ℕ) → All HasTwoBits left → All HasTwoBits (drop 1 left)
two_bits-drop [] all = all
two_bits-drop (bits ∷ left) all = All-tail HasTwoBits bits left all

pub left-drop : (form : Serial) (left : List ℕ) → MayBeLeft form left → MayBeLeft form (drop 1 left)
left-drop serial.Absent left none = ap (drop 1) none
left-drop serial.Short left all = two_bits-drop left all
left-drop serial.Enhanced left all = two_bits-drop left all

-- what holds at a value
pub at_ok : {T E P : Type 0} (r : Result T E) → IsOk r → OnOk r P → P
at_ok (Ok x) is_ok holds = holds
at_ok (Err e) is_ok holds = absurd (false≢true is_ok)
