-- The messages of a script for PSI5 are sent.
--     psi5-scripted
use Rattle.std.proofs.Common.{◌≡◌, ℕ, suc, ◌+◌, ◌*◌, ◌^◌, ◌<◌, ◌≤◌, Bool, true, false, Option, None, Some, is_some, length, refl, ap, sym, subst, ◌∙◌, if◌then◌else◌, ltb, lt-ltb, le-ltb, ltb-true, arith}
use Rattle.std.specs.Prelude.{nat_lt}
use Rattle.std.specs.Option.{unwrap_or}
use Rattle.rand_pcg.specs.Lcg.{Lcg}
use Rattle.psi5_frame.specs.declared.burst.Payload.{Payload}
use Rattle.psi5_frame.specs.Setup.{Settings, fault_of}
use Rattle.psi5_slots.specs.Setup.{InRange}
use Rattle.psi5_tolerance.specs.Trains.{FrameSent, Sending, SyncAt, FrameAt, SentBefore, end_of}
use Rattle.spc_tolerance.specs.Trains.{last_of}
use Rattle.receiver_core.specs.declared.message.Message.TheVariants as message
use Rattle.receiver_core.specs.declared.setup.SyncSlots.{SyncSlots}
use Rattle.receiver_core.specs.declared.setup.ChannelSetup.TheVariants.{Psi5}
use Rattle.receiver_core.specs.Setups.{setup_fault_of}
use Rattle.sim_base.specs.Wobbles.{behind_word, past, word, words}
use Rattle.psi5_sim.specs.Psi5Sims.{behind, edges_sent, fits_burst, fits_parts, half_of, is_above, is_in_order, message_edges, next_sync, psi5_next as sim_psi5_next, start_of, started, sync_next, times_sent}
use Rattle.psi5_sim.specs.Psi5States.{AreAccepted, Psi5State}
use Rattle.psi5_sim.proofs.Psi5Edges.{Bounds, bounds-of}
use Rattle.psi5_sim.proofs.Psi5Outcomes.{burst-is, sends-burst, start-answers, start-free, sync-is, sync-times}
use Rattle.psi5_sim.proofs.Psi5Setups.{channel-accepted}
use Rattle.psi5_sim.proofs.Psi5Times.{half-near}
use Rattle.sensor_sim.specs.Sims.{SimState, sim_next}
use Rattle.sensor_sim.specs.declared.sim.Sim.TheVariants as sim
use Rattle.sensor_sim.proofs.HonestRuns.{psi5-sends}
use Rattle.sensor_script.specs.Scripts.{ScriptState, Scripted, behind_burst, bus_next, next_place, payload_next, psi5_next, script_next, slot_next}
use Rattle.scripts_accepted.specs.Taken.{IsSent}
use Rattle.scripts_accepted.specs.Followed.{HasFollowed}
use Rattle.scripts_accepted.proofs.BurstBounds.{frame-last, frame-short, free-soon, slot-soon, some-windows, sync-soon}
use Rattle.scripts_accepted.proofs.BurstValues.{payload-fits}
use Rattle.scripts_accepted.proofs.FittingMessages.{and-true}
use Rattle.scripts_accepted.proofs.FollowedLinks.{LeavesBoth, followed-sent, script-by}
use Rattle.scripts_accepted.proofs.Outcomes.{Leaves, in_time-sent, late-leaves}

-- ---- a message on its way
module _ (now : Psi5State) (sending : Sending) (own : Lcg) where
  -- what holds behind the message holds where it is sent
  sent-leaves : (P : Psi5State → Type 0) → P (behind now sending) → Leaves P (edges_sent now sending own)
  unfolding edges_sent
  sent-leaves P holds =
      let times = times_sent now.setup sending in
      late-leaves Psi5State P now (behind now sending) (message_edges now sending (words (length times) own)) own (past (length times) own) (ltb (9 * 10 ^ 17) (last_of 0 times)) holds

  -- a message whose last timed edge is in time is sent
  sent-then : last_of 0 (times_sent now.setup sending) ≤ 9 * 10 ^ 17 → IsSent (edges_sent now sending own)
  unfolding edges_sent
  sent-then in_time =
      let times = times_sent now.setup sending in
      in_time-sent Psi5State (λ s. Unit {0}) now (behind now sending) (message_edges now sending (words (length times) own)) own (past (length times) own) (ltb (9 * 10 ^ 17) (last_of 0 times)) (le-ltb (9 * 10 ^ 17) (last_of 0 times) in_time)

-- ---- a burst that fits and comes in order
-- its frame, by these words
abbrev burst_frame : Psi5State → Option ℕ → Payload → Lcg → FrameSent
burst_frame now slot payload g = record {
  slot = slot;
  payload = payload;
  start = start_of now.setup now.slots now.before slot (half_of now.setup.bit (word g)) (word (behind_word g));
  half = half_of now.setup.bit (word g);
}

module _ (now : Psi5State) (slot : Option ℕ) (payload : Payload) (g : Lcg) (fits : fits_burst now.setup now.slots slot payload ≡ true) (order : is_in_order now.before slot ≡ true) where
  -- what becomes of the burst is what becomes of its frame
  is-next : edges_sent now (FrameAt (burst_frame now slot payload g)) (behind_word (behind_word g)) ≡ sim_psi5_next now (message.Burst slot payload) g
  is-next =
      sends-burst now slot payload g (start_of now.setup now.slots now.before slot (half_of now.setup.bit (word g)) (word (behind_word g))) (half_of now.setup.bit (word g)) (behind_word (behind_word g)) fits order refl refl refl
      ∙ burst-is now g (message.Burst slot payload) slot payload refl

  -- what holds behind the frame holds where the burst is sent
  burst-leaves : (P : Psi5State → Type 0) → P (behind now (FrameAt (burst_frame now slot payload g))) → Leaves P (sim_psi5_next now (message.Burst slot payload) g)
  burst-leaves P holds = subst (Leaves P) is-next (sent-leaves now (FrameAt (burst_frame now slot payload g)) (behind_word (behind_word g)) P holds)

  -- a burst whose frame ends in time is sent
  burst-then : end_of now.setup (burst_frame now slot payload g) ≤ 9 * 10 ^ 17 → IsSent (sim_psi5_next now (message.Burst slot payload) g)
  burst-then in_time =
      let f = burst_frame now slot payload g in
      subst IsSent is-next (sent-then now (FrameAt f) (behind_word (behind_word g)) (omega (arith, frame-last now.setup f, in_time)))

-- ---- without slots
-- the script and the simulator keep their setup, and the last frame ended soon
pub record FreeBoth (line : ℕ) (s : Settings) (init : Option ℕ) (script : ScriptState) (now : Psi5State) (count : ℕ) : Type 0 where
  pub script_is : script.setup ≡ Psi5 line s None init
  pub setup_is : now.setup ≡ s
  pub slots_is : now.slots ≡ None
  pub soon : unwrap_or now.before.frame_end 0 ≤ count * 400000000

module _ (line : ℕ) (s : Settings) (init : Option ℕ) (accepted : fault_of s.bit s.parts s.jitter ≡ None) (no_fault : setup_fault_of (Psi5 line s None init) ≡ None) where
  module _ (script : ScriptState) (now : Psi5State) (count : ℕ) (g : Lcg) (both : FreeBoth line s init script now count) where
    -- the values of the script's next burst
    abbrev payload : Payload
    payload = payload_next s.parts init 0 script.place script.wobble

    -- the bounds of the simulator's setup
    bounds-so : Bounds now.setup
    bounds-so = subst Bounds (sym both.setup_is) (bounds-of s accepted)

    -- the burst fits the simulator's setup
    fits-so : fits_burst now.setup now.slots None payload ≡ true
    fits-so =
        ap (λ (u : Settings). fits_burst u now.slots None payload) both.setup_is ∙ ap (λ (u : Option SyncSlots). fits_burst s u None payload) both.slots_is
        ∙ and-true (fits_parts s.parts payload) true (payload-fits line s None init 0 script.place script.wobble no_fault) refl

    -- its frame ends soon behind the one before
    free-ends : end_of now.setup (burst_frame now None payload g) ≤ unwrap_or now.before.frame_end 0 + 400000000
    free-ends =
        let half = half_of now.setup.bit (word g) in
        let starts = start-free now.setup now.slots now.before None half (word (behind_word g)) both.slots_is in
        let near = half-near now.setup.bit (word g) in
        omega (arith, frame-short now.setup (burst_frame now None payload g) bounds-so near.not_above, starts, free-soon now.setup now.before.frame_end (word (behind_word g)) bounds-so)

    -- behind the burst both still hold
    free-step : LeavesBoth (FreeBoth line s init) count (sim_psi5_next now) (behind_burst script s.parts init) g
    free-step =
        burst-leaves now None payload g fits-so refl (λ behind. FreeBoth line s init (behind_burst script s.parts init).script behind (count + 1))
        (record { script_is = both.script_is; setup_is = both.setup_is; slots_is = both.slots_is; soon = omega (arith, free-ends, both.soon) })

    -- and the burst is sent
    free-last : count < 100000 → IsSent (sim_psi5_next now (behind_burst script s.parts init).message g)
    free-last few = burst-then now None payload g fits-so refl (omega (arith, free-ends, both.soon, few))

  -- the script's next message is a burst
  free-next : (script : ScriptState) → script.setup ≡ Psi5 line s None init → script_next script ≡ behind_burst script s.parts init
  unfolding psi5_next
  free-next script is = script-by script (Psi5 line s None init) is

  -- the messages of a script for a channel without slots are sent
  free-scripted : (words : Lcg) (script : ScriptState) (state : SimState) (count : ℕ) (g : Lcg) → HasFollowed (Psi5 line s None init) words script state count → count < 100000 → IsSent (sim_next state (script_next script).message g)
  free-scripted words script state count g run few =
      followed-sent Psi5State sim.Psi5 sim_psi5_next psi5-sends (Psi5 line s None init) words (started line s None) refl (FreeBoth line s init) (record { script_is = refl; setup_is = refl; slots_is = refl; soon = omega arith })
      (λ script now count g both. subst (λ x. LeavesBoth (FreeBoth line s init) count (sim_psi5_next now) x g) (sym (free-next script both.script_is)) (free-step script now count g both))
      100000 (λ script now count g both few. subst (λ (x : Scripted). IsSent (sim_psi5_next now x.message g)) (sym (free-next script both.script_is)) (free-last script now count g both few)) script state count g run few

-- ---- with slots
-- a burst is due in this slot, of so many: behind a sync pulse that came soon, and above the slot of the burst before
pub record IsDue (slots number : ℕ) (before : SentBefore) (count : ℕ) : Type 0 where
  pub sync : ℕ
  pub sync_is : before.sync ≡ Some sync
  pub soon : sync ≤ suc count * 11000000000
  pub there : number < slots
  pub above : is_above before.slot number ≡ true

-- where the script stands: a sync pulse is due, and the last came soon; or a burst is due
abbrev pub StandsAt : ℕ → Option ℕ → SentBefore → ℕ → Type 0
StandsAt slots None before count = unwrap_or before.sync 0 ≤ count * 11000000000
StandsAt slots (Some number) before count = IsDue slots number before count

pub record BusBoth (line : ℕ) (s : Settings) (slots : SyncSlots) (init : Option ℕ) (script : ScriptState) (now : Psi5State) (count : ℕ) : Type 0 where
  pub script_is : script.setup ≡ Psi5 line s (Some slots) init
  pub setup_is : now.setup ≡ s
  pub slots_is : now.slots ≡ Some slots
  pub stands : StandsAt (length slots.setup.windows) script.slot now.before count

module _ (line : ℕ) (s : Settings) (slots : SyncSlots) (init : Option ℕ) (accepted : fault_of s.bit s.parts s.jitter ≡ None) (slots_accepted : AreAccepted (Some slots)) (no_fault : setup_fault_of (Psi5 line s (Some slots) init) ≡ None) where
  -- how many slots there are
  abbrev many : ℕ
  many = length slots.setup.windows

  -- the slots are accepted for the channel's frames
  range : InRange slots.setup.windows s
  range = (channel-accepted line s (Some slots) init slots_accepted no_fault).0

  -- what holds of the script and the simulator
  abbrev Both : ScriptState → Psi5State → ℕ → Type 0
  Both script now count = BusBoth line s slots init script now count

  -- both hold of a message of the script
  abbrev Goes : Psi5State → ℕ → Lcg → Scripted → Type 0
  Goes now count g x = LeavesBoth Both count (sim_psi5_next now) x g × (count < 100000 → IsSent (sim_psi5_next now x.message g))

  module _ (script : ScriptState) (now : Psi5State) (count : ℕ) (g : Lcg) (script_is : script.setup ≡ Psi5 line s (Some slots) init) (setup_is : now.setup ≡ s) (slots_is : now.slots ≡ Some slots) where
    -- the bounds of the simulator's setup
    bounds-now : Bounds now.setup
    bounds-now = subst Bounds (sym setup_is) (bounds-of s accepted)

    -- its slots are accepted
    range-now : InRange slots.setup.windows now.setup
    range-now = subst (InRange slots.setup.windows) (sym setup_is) range

    -- a sync pulse
    sync-goes : unwrap_or now.before.sync 0 ≤ count * 11000000000 → Goes now count g (record { message = message.Sync; script = record script { slot = Some 0 } })
    sync-goes soon =
        let time = next_sync now.setup slots now.before.sync in
        let next : edges_sent now (SyncAt time) g ≡ sim_psi5_next now message.Sync g = ap (λ (u : Option SyncSlots). sync_next now u g) (sym slots_is) ∙ sync-is now g message.Sync refl in
        let later = sync-soon now.setup slots now.before.sync bounds-now range-now in
        let last : last_of 0 (times_sent now.setup (SyncAt time)) ≡ time = ap (last_of 0) (sync-times now.setup time) in (
          subst (Leaves (λ behind. Both (record script { slot = Some 0 }) behind (count + 0))) next (sent-leaves now (SyncAt time) g (λ behind. Both (record script { slot = Some 0 }) behind (count + 0))
              (record {
                script_is = script_is;
                setup_is = setup_is;
                slots_is = slots_is;
                stands = record { sync = time; sync_is = refl; soon = omega (arith, later, soon); there = some-windows s slots.setup.windows range; above = refl };
              })),
          λ few. subst IsSent next (sent-then now (SyncAt time) g (omega (arith, last, later, soon, few))),
        )

    module _ (number : ℕ) (due : IsDue many number now.before count) where
      -- the values of the burst in this slot
      abbrev said : Payload
      said = payload_next s.parts init number script.place script.wobble

      -- the burst fits the simulator's setup
      fits-now : fits_burst now.setup now.slots (Some number) said ≡ true
      fits-now =
          ap (λ (u : Settings). fits_burst u now.slots (Some number) said) setup_is ∙ ap (λ (u : Option SyncSlots). fits_burst s u (Some number) said) slots_is
          ∙ and-true (fits_parts s.parts said) (ltb number many) (payload-fits line s (Some slots) init number script.place script.wobble no_fault) (lt-ltb number many due.there)

      -- it comes in order
      order-now : is_in_order now.before (Some number) ≡ true
      order-now = and-true (is_some now.before.sync) (is_above now.before.slot number) (ap is_some due.sync_is) due.above

      -- the last sync pulse
      last-sync : unwrap_or now.before.sync 0 ≡ due.sync
      last-sync = ap (λ o. unwrap_or o 0) due.sync_is

      -- its frame ends soon behind the last sync pulse
      burst-ends : end_of now.setup (burst_frame now (Some number) said g) ≤ due.sync + 11000000000
      burst-ends =
          let half = half_of now.setup.bit (word g) in
          let starts = start-answers now.setup now.slots slots now.before (Some number) half (word (behind_word g)) slots_is in
          let rise = slot-soon now.setup slots.setup.windows number (unwrap_or now.before.sync 0) (word (behind_word g)) bounds-now range-now due.there in
          let near = half-near now.setup.bit (word g) in
          omega (arith, frame-short now.setup (burst_frame now (Some number) said g) bounds-now near.not_above, starts, rise, last-sync)

      -- the script behind the burst, by whether another slot follows
      abbrev script_behind : Lcg → Bool → ScriptState
      script_behind wobble more =
          if more then record script { wobble = wobble; slot = Some (number + 1) }
          else record script { wobble = wobble; slot = None; place = next_place script.place }

      -- behind the burst the script stands before the next slot's burst, or before a sync pulse
      stands-behind : (wobble : Lcg) (more : Bool) → nat_lt (number + 1) many ≡ more → Both (script_behind wobble more) (behind now (FrameAt (burst_frame now (Some number) said g))) (count + 1)
      stands-behind wobble true is = record {
        script_is = script_is;
        setup_is = setup_is;
        slots_is = slots_is;
        stands = record { sync = due.sync; sync_is = due.sync_is; soon = omega (arith, due.soon); there = ltb-true (number + 1) many is; above = lt-ltb number (number + 1) (omega arith) };
      }
      stands-behind wobble false is = record { script_is = script_is; setup_is = setup_is; slots_is = slots_is; stands = omega (arith, last-sync, due.soon) }

      -- so the burst goes
      slot-goes : Goes now count g (slot_next script s.parts many init number)
      slot-goes =
          let x = slot_next script s.parts many init number in (
            burst-leaves now (Some number) said g fits-now order-now (λ behind. Both x.script behind (count + 1)) (stands-behind _ (nat_lt (number + 1) many) refl),
            λ few. burst-then now (Some number) said g fits-now order-now (omega (arith, burst-ends, due.soon, few)),
          )

    -- a sync pulse or a burst goes, whichever is due
    bus-goes : (at : Option ℕ) → StandsAt many at now.before count → Goes now count g (bus_next script s.parts many init at)
    bus-goes None soon = sync-goes soon
    bus-goes (Some number) due = slot-goes number due

  -- the script's next message is that which is due
  bus-next : (script : ScriptState) → script.setup ≡ Psi5 line s (Some slots) init → script_next script ≡ bus_next script s.parts many init script.slot
  unfolding psi5_next
  bus-next script is = script-by script (Psi5 line s (Some slots) init) is

  -- so the next message goes
  next-goes : (script : ScriptState) (now : Psi5State) (count : ℕ) (g : Lcg) → Both script now count → Goes now count g (script_next script)
  next-goes script now count g both = subst (Goes now count g) (sym (bus-next script both.script_is)) (bus-goes script now count g both.script_is both.setup_is both.slots_is script.slot both.stands)

  -- the messages of a script for a channel with slots are sent
  bus-scripted : (words : Lcg) (script : ScriptState) (state : SimState) (count : ℕ) (g : Lcg) → HasFollowed (Psi5 line s (Some slots) init) words script state count → count < 100000 → IsSent (sim_next state (script_next script).message g)
  bus-scripted words script state count g run few =
      followed-sent Psi5State sim.Psi5 sim_psi5_next psi5-sends (Psi5 line s (Some slots) init) words (started line s (Some slots)) refl Both (record { script_is = refl; setup_is = refl; slots_is = refl; stands = omega arith })
      (λ script now count g both. (next-goes script now count g both).0) 100000 (λ script now count g both few. (next-goes script now count g both).1 few) script state count g run few

-- the messages of a script for PSI5 are sent
pub psi5-scripted : (line : ℕ) (s : Settings) (slots : Option SyncSlots) (init : Option ℕ) → fault_of s.bit s.parts s.jitter ≡ None → AreAccepted slots → setup_fault_of (Psi5 line s slots init) ≡ None
    → (words : Lcg) (script : ScriptState) (state : SimState) (count : ℕ) (g : Lcg) → HasFollowed (Psi5 line s slots init) words script state count → count < 100000 → IsSent (sim_next state (script_next script).message g)
psi5-scripted line s None init accepted slots_accepted no_fault = free-scripted line s init accepted no_fault
psi5-scripted line s (Some slots) init accepted slots_accepted no_fault = bus-scripted line s slots init accepted slots_accepted no_fault
