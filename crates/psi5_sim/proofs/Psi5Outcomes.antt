-- What becomes of a message of PSI5, case by case.
--     refuses-late, sends-edges                    messages whose last timed edge is too late, and the others
--     sync-times, sync-edges                       the edges of a sync pulse
--     frame-times, frame-edges                     and those of a frame
--     start-free, start-answers                    where a burst starts
--     refuses-range, refuses-order, sends-burst    bursts that are refused, and the others
--     fits-payload                                 their values fit
--     sync-is, burst-is, refuses-other             by the message
use Rattle.std.proofs.Common.{◌≡◌, ℕ, ◌+◌, ◌-◌, ◌*◌, ◌^◌, ◌<◌, ◌≤◌, Bool, true, false, not, Option, None, Some, List, [], ◌∷◌, ◌++◌, length, map, refl, ap, ap₂, sym, ◌∙◌, if◌then◌else◌, ltb, lt-ltb, le-ltb, ltb-true, arith}
use Rattle.std.specs.Prelude.{◌&&◌}
use Rattle.std.specs.Option.{unwrap_or}
use Rattle.rand_pcg.specs.Lcg.{Lcg}
use Rattle.line_base.specs.declared.edge.Edge.{Edge}
use Rattle.psi5_frame.specs.declared.burst.Payload.{Payload}
use Rattle.psi5_frame.specs.declared.setup.Parts.{Parts}
use Rattle.psi5_frame.specs.Setup.{Settings}
use Rattle.psi5_frame.specs.Frames.{Fits, frame_of, waveform}
use Rattle.psi5_slots.specs.Meanings.{window_at}
use Rattle.psi5_tolerance.specs.Trains.{FrameSent, Sending, SyncAt, FrameAt, SentBefore, edges_at}
use Rattle.psi5_tolerance.specs.Traces.{ideal_times}
use Rattle.spc_tolerance.specs.Trains.{last_of}
use Rattle.receiver_core.specs.declared.message.Message.{Message}
use Rattle.receiver_core.specs.declared.message.Message.TheVariants as message
use Rattle.receiver_core.specs.declared.setup.SyncSlots.{SyncSlots}
use Rattle.sim_base.specs.declared.sim_fault.SimFault.TheVariants as fault
use Rattle.sim_base.specs.Outcomes.{Outcome, Sent, Refused}
use Rattle.sim_base.specs.Recordings.{pulses_at, recorded_by}
use Rattle.sim_base.specs.Wobbles.{behind_word, past, word, words}
use Rattle.sim_base.proofs.FittingNibbles.{both}
use Rattle.psi5_sim.specs.Psi5Sims.{alternating, behind, burst_next, edges_sent, fits_burst, fits_parts, fits_slot, frame_drawn, free_start, half_of, is_in_order, message_edges, openings, psi5_next, rise_in, start_of, sync_next, sync_pulses, times_sent}
use Rattle.psi5_sim.specs.Psi5States.{Psi5State}
use Rattle.psi5_sim.proofs.BurstTimes.{time_at}

-- ---- messages that are sent
module _ (state : Psi5State) (sending : Sending) (g : Lcg) where
  -- by whether the last timed edge is too late
  abbrev by_time : Bool → Outcome Psi5State
  by_time late =
      if late then Refused fault.Late state g
      else Sent (message_edges state sending (words (length (times_sent state.setup sending)) g)) (behind state sending) (past (length (times_sent state.setup sending)) g)

  edges-are : (late : Bool) → ltb (9 * 10 ^ 17) (last_of 0 (times_sent state.setup sending)) ≡ late → by_time late ≡ edges_sent state sending g
  unfolding edges_sent
  edges-are late is = ap by_time (sym is)

  pub refuses-late : (last : ℕ) → last ≡ last_of 0 (times_sent state.setup sending) → 9 * 10 ^ 17 < last → Refused fault.Late state g ≡ edges_sent state sending g
  refuses-late last last_is late =
      let too_late : 9 * 10 ^ 17 < last_of 0 (times_sent state.setup sending) = omega (arith, last_is) in
      edges-are true (lt-ltb (9 * 10 ^ 17) (last_of 0 (times_sent state.setup sending)) too_late)

  pub sends-edges : (last : ℕ) (edges : List Edge) (next : Psi5State) (after : Lcg) → last ≡ last_of 0 (times_sent state.setup sending) → last ≤ 9 * 10 ^ 17
      → edges ≡ message_edges state sending (words (length (times_sent state.setup sending)) g) → next ≡ behind state sending → after ≡ past (length (times_sent state.setup sending)) g
      → Sent edges next after ≡ edges_sent state sending g
  sends-edges last edges next after last_is in_time edges_are next_is after_is =
      let soon : last_of 0 (times_sent state.setup sending) ≤ 9 * 10 ^ 17 = omega (arith, last_is) in
      let count = length (times_sent state.setup sending) in
      ap₂ (λ e a. Sent e next a) edges_are after_is ∙ ap (λ (n : Psi5State). Sent (message_edges state sending (words count g)) n (past count g)) next_is
      ∙ edges-are false (le-ltb (9 * 10 ^ 17) (last_of 0 (times_sent state.setup sending)) soon)

-- ---- a sync pulse
pub sync-times : (s : Settings) (rise : ℕ) → times_sent s (SyncAt rise) ≡ rise ∷ []
unfolding times_sent
sync-times s rise = refl

pub sync-edges : (state : Psi5State) (slots : SyncSlots) (line rise : ℕ) (drawn : List ℕ) (edges : List Edge) → state.slots ≡ Some slots → slots.line ≡ line
    → edges ≡ openings state.line state.slots state.before.frame_end state.before.sync ++ pulses_at line true (2 * state.setup.bit) (recorded_by state.setup.jitter (rise ∷ []) drawn)
    → edges ≡ message_edges state (SyncAt rise) drawn
unfolding message_edges times_sent
sync-edges state slots line rise drawn edges has line_is edges_are =
    let times = recorded_by state.setup.jitter (rise ∷ []) drawn in
    let opened = openings state.line state.slots state.before.frame_end state.before.sync in
    edges_are ∙ ap (λ l. opened ++ pulses_at l true (2 * state.setup.bit) times) (sym line_is) ∙ ap (λ (o : Option SyncSlots). opened ++ sync_pulses state.setup o times) (sym has)

-- ---- a frame
edges-times : (start half : ℕ) (level : Bool) (places : List ℕ) → ideal_times (edges_at start half level places) ≡ map (time_at start half) places
unfolding edges_at
edges-times start half level [] = refl
edges-times start half level (place ∷ places) = ap (λ l. (start + place * half) ∷ l) (edges-times start half (not level) places)

pub frame-times : (s : Settings) (f : FrameSent) → times_sent s (FrameAt f) ≡ map (time_at f.start f.half) (waveform (frame_of s f.payload))
unfolding times_sent
frame-times s f = edges-times f.start f.half true (waveform (frame_of s f.payload))

pub frame-edges : (state : Psi5State) (f : FrameSent) (times drawn : List ℕ) (edges : List Edge) → times ≡ times_sent state.setup (FrameAt f)
    → edges ≡ openings state.line state.slots state.before.frame_end state.before.sync ++ alternating state.line true (recorded_by state.setup.jitter times drawn) → edges ≡ message_edges state (FrameAt f) drawn
unfolding message_edges
frame-edges state f times drawn edges times_are edges_are =
    edges_are ∙ ap (λ t. openings state.line state.slots state.before.frame_end state.before.sync ++ alternating state.line true (recorded_by state.setup.jitter t drawn)) times_are

-- ---- where a burst starts
pub start-free : (s : Settings) (slots : Option SyncSlots) (before : SentBefore) (slot : Option ℕ) (half word : ℕ) → slots ≡ None → free_start s before.frame_end word ≡ start_of s slots before slot half word
unfolding start_of
start-free s slots before slot half word none = ap (λ (o : Option SyncSlots). start_of s o before slot half word) (sym none)

pub start-answers : (s : Settings) (slots : Option SyncSlots) (here : SyncSlots) (before : SentBefore) (slot : Option ℕ) (half word : ℕ) → slots ≡ Some here
    → rise_in s.jitter (window_at here.setup.windows (unwrap_or slot 0)) (unwrap_or before.sync 0) word - half ≡ start_of s slots before slot half word
unfolding start_of
start-answers s slots here before slot half word has = ap (λ (o : Option SyncSlots). start_of s o before slot half word) (sym has)

-- ---- tests of a burst
module _ (state : Psi5State) (slot : Option ℕ) (payload : Payload) (g : Lcg) where
  abbrev by_tests : Bool → Bool → Outcome Psi5State
  by_tests fits order =
      if not fits then Refused fault.Range state g
      else (if not order then Refused fault.Order state g else edges_sent state (FrameAt (frame_drawn state slot payload g)) (behind_word (behind_word g)))

  tests-are : (fits order : Bool) → fits_burst state.setup state.slots slot payload ≡ fits → is_in_order state.before slot ≡ order → by_tests fits order ≡ burst_next state slot payload g
  unfolding burst_next
  tests-are fits order fits_is order_is = ap₂ by_tests (sym fits_is) (sym order_is)

  pub refuses-range : fits_burst state.setup state.slots slot payload ≡ false → Refused fault.Range state g ≡ burst_next state slot payload g
  refuses-range unfit = tests-are false (is_in_order state.before slot) unfit refl

  pub refuses-order : fits_burst state.setup state.slots slot payload ≡ true → is_in_order state.before slot ≡ false → Refused fault.Order state g ≡ burst_next state slot payload g
  refuses-order fits late = tests-are true false fits late

  pub sends-burst : (start half : ℕ) (after : Lcg) → fits_burst state.setup state.slots slot payload ≡ true → is_in_order state.before slot ≡ true → half ≡ half_of state.setup.bit (word g)
      → start ≡ start_of state.setup state.slots state.before slot half (word (behind_word g)) → after ≡ behind_word (behind_word g)
      → edges_sent state (FrameAt (record { slot = slot; payload = payload; start = start; half = half })) after ≡ burst_next state slot payload g
  unfolding frame_drawn
  sends-burst start half after fits order half_is start_is after_is =
      let starts : start ≡ start_of state.setup state.slots state.before slot (half_of state.setup.bit (word g)) (word (behind_word g)) =
      start_is ∙ ap (λ h. start_of state.setup state.slots state.before slot h (word (behind_word g))) half_is in
      ap₂ (λ b h. edges_sent state (FrameAt (record { slot = slot; payload = payload; start = b; half = h })) after) starts half_is
      ∙ ap (edges_sent state (FrameAt (frame_drawn state slot payload g))) after_is ∙ tests-are true true fits order

pub fits-payload : (parts : Parts) (p : Payload) → fits_parts parts p ≡ true → Fits parts p
fits-payload parts p fits =
    let fifth = both (ltb p.m (2 ^ parts.m) && ltb p.f (2 ^ parts.f) && ltb p.s (2 ^ parts.s) && ltb p.b (2 ^ parts.b)) (ltb p.a (2 ^ parts.a)) fits in
    let fourth = both (ltb p.m (2 ^ parts.m) && ltb p.f (2 ^ parts.f) && ltb p.s (2 ^ parts.s)) (ltb p.b (2 ^ parts.b)) fifth.0 in
    let third = both (ltb p.m (2 ^ parts.m) && ltb p.f (2 ^ parts.f)) (ltb p.s (2 ^ parts.s)) fourth.0 in
    let second = both (ltb p.m (2 ^ parts.m)) (ltb p.f (2 ^ parts.f)) third.0 in
    record {
      m = ltb-true p.m (2 ^ parts.m) second.0;
      f = ltb-true p.f (2 ^ parts.f) second.1;
      s = ltb-true p.s (2 ^ parts.s) third.1;
      b = ltb-true p.b (2 ^ parts.b) fourth.1;
      a = ltb-true p.a (2 ^ parts.a) fifth.1;
    }

pub burst-fits : (s : Settings) (slots : Option SyncSlots) (slot : Option ℕ) (payload : Payload) → fits_burst s slots slot payload ≡ true → Fits s.parts payload × (fits_slot slots slot ≡ true)
burst-fits s slots slot payload fits =
    let parts = both (fits_parts s.parts payload) (fits_slot slots slot) fits in
    (fits-payload s.parts payload parts.0, parts.1)

-- ---- by the message
module _ (state : Psi5State) (g : Lcg) (m : Message) where
  pub sync-is : m ≡ message.Sync → sync_next state state.slots g ≡ psi5_next state m g
  unfolding psi5_next
  sync-is is = ap (λ m. psi5_next state m g) (sym is)

  pub burst-is : (slot : Option ℕ) (payload : Payload) → m ≡ message.Burst slot payload → burst_next state slot payload g ≡ psi5_next state m g
  unfolding psi5_next
  burst-is slot payload is = ap (λ m. psi5_next state m g) (sym is)

pub refuses-other : (state : Psi5State) (g : Lcg) (m : Message) → (m ≡ message.Sync → ⊥) → ((slot : Option ℕ) (payload : Payload) → m ≡ message.Burst slot payload → ⊥) → Refused fault.Kind state g ≡ psi5_next state m g
unfolding psi5_next
refuses-other state g (message.Frame frame) no_sync no_burst = refl
refuses-other state g (message.Short id value) no_sync no_burst = refl
refuses-other state g (message.Enhanced id value wide) no_sync no_burst = refl
refuses-other state g (message.Answer code frame) no_sync no_burst = refl
refuses-other state g (message.Silent code) no_sync no_burst = refl
refuses-other state g message.Sync no_sync no_burst = absurd (no_sync refl)
refuses-other state g (message.Burst slot payload) no_sync no_burst = absurd (no_burst slot payload refl)
refuses-other state g (message.Down down) no_sync no_burst = refl
