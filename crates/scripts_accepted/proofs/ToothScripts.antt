-- The messages of a script for the tooth gap are sent.
--     ends-soon          a message ends soon behind the last pulse
--     tooth-scripted
use Rattle.std.proofs.Common.{◌≡◌, ℕ, zero, suc, ◌+◌, ◌*◌, ◌%◌, ◌^◌, ◌<◌, ◌≤◌, Bool, true, false, Option, None, Some, List, [], ◌∷◌, ◌++◌, length, map, sum, refl, ap, sym, subst, ◌∙◌, ltb, le-ltb, arith}
use Rattle.std.specs.Prelude.{◌&&◌}
use Rattle.std.specs.Option.{unwrap_or}
use Rattle.std.proofs.lemmas.Bool.Decides.{nat_tests}
use Rattle.std.proofs.lemmas.List.{length-append}
use Rattle.std.proofs.lemmas.List.Sums.{sum_by-cons}
use Rattle.std.proofs.lemmas.Nat.{mod_below, mul-le}
use Rattle.rand_pcg.specs.Lcg.{Lcg}
use Rattle.link_math.specs.Checks.{crc3_of}
use Rattle.link_math.specs.Division.{bits_of}
use Rattle.link_math.proofs.BitLists.{length-bits_of}
use Rattle.psi5_downlink.specs.declared.down.Down.{Down}
use Rattle.psi5_downlink.specs.declared.down.Form.{Form}
use Rattle.psi5_downlink.specs.declared.down.Form.TheVariants as form
use Rattle.psi5_downlink.specs.Frames.{checked, field_bits, frame_of, wide, with_ones}
use Rattle.psi5_downlink.specs.Setup.{InRange, Settings, fault_of}
use Rattle.psi5_downlink_tolerance.specs.Trains.{Span, frame_periods, periods_of}
use Rattle.receiver_core.specs.declared.message.Message.TheVariants as message
use Rattle.receiver_core.specs.declared.setup.ChannelSetup.TheVariants.{Tooth}
use Rattle.sim_base.specs.Outcomes.{Outcome, Sent, Refused}
use Rattle.sim_base.specs.Wobbles.{behind_word, past, words}
use Rattle.psi5_downlink_sim.specs.ToothSims.{begins_at, down_next, ends_at, fits_down, ideal_of, length_of, message_edges, missing_drawn, past_words, period_drawn, rises_sent, span_of, started, tooth_next as sim_tooth_next, tooth_words}
use Rattle.psi5_downlink_sim.specs.ToothStates.{ToothState}
use Rattle.psi5_downlink_sim.proofs.ToothOutcomes.{sends-down}
use Rattle.psi5_downlink_sim.proofs.ToothSpans.{period-near}
use Rattle.sensor_sim.specs.Sims.{SimState, sim_next}
use Rattle.sensor_sim.specs.declared.sim.Sim.TheVariants as sim
use Rattle.sensor_sim.proofs.HonestRuns.{tooth-sends}
use Rattle.sensor_script.specs.Draws.{behind_value, value}
use Rattle.sensor_script.specs.Scripts.{ScriptState, Scripted, down_drawn, script_next, tooth_next}
use Rattle.scripts_accepted.specs.Taken.{IsSent}
use Rattle.scripts_accepted.specs.Followed.{HasFollowed}
use Rattle.scripts_accepted.proofs.FittingMessages.{and-true}
use Rattle.scripts_accepted.proofs.FollowedLinks.{LeavesBoth, followed-sent, script-by}
use Rattle.scripts_accepted.proofs.Outcomes.{Leaves, in_time-sent, late-leaves}
use Rattle.scripts_accepted.proofs.ScriptValues.{value-fits}

-- ---- how long a message lasts
-- bits stand for at most as many periods as there are bits, and those before them
periods-few : (since : ℕ) (bits : List Bool) → sum (periods_of since bits) ≤ since + length bits
unfolding periods_of
periods-few since [] = omega arith
periods-few since (false ∷ bits) = omega (arith, periods-few (suc since) bits)
periods-few since (true ∷ bits) =
    let longer : sum (suc since ∷ periods_of zero bits) ≡ suc since + sum (periods_of zero bits) = sum_by-cons (λ n. n) (suc since) (periods_of zero bits) in
    omega (arith, longer, periods-few zero bits)

-- a 1 is put in at most behind each bit
ones-few : (bits : List Bool) → length (with_ones bits) ≤ 2 * length bits
unfolding with_ones
ones-few [] = omega arith
ones-few (a ∷ []) = omega arith
ones-few (a ∷ b ∷ []) = omega arith
ones-few (a ∷ b ∷ c ∷ bits) = omega (arith, ones-few bits)

-- a register has at most 9 bits
wide-few : (of : Form) → wide of ≤ 9
wide-few form.Short = omega arith
wide-few form.Long = omega arith
wide-few form.XLong = omega arith

-- the fields and their CRC have at most 27 bits
fields-few : (of : Form) (down : Down) → length (checked (field_bits of down)) ≤ 27
fields-few of down =
    let address = bits_of 3 down.address in
    let function = bits_of 3 down.function in
    let register = bits_of (wide of) down.register in
    let number = bits_of (wide of) down.value in
    let fields : length (field_bits of down) ≡ length address + length function + length register + length number =
    length-append (address ++ function ++ register) number ∙ ap (λ n. n + length number) (length-append (address ++ function) register ∙ ap (λ n. n + length register) (length-append address function)) in
    omega (
      arith,
      fields,
      length-append (field_bits of down) (bits_of 3 (crc3_of (field_bits of down))),
      length-bits_of 3 (crc3_of (field_bits of down)),
      length-bits_of 3 down.address,
      length-bits_of 3 down.function,
      length-bits_of (wide of) down.register,
      length-bits_of (wide of) down.value,
      wide-few of,
    )

-- a frame has at most 56 bits
frame-few : (of : Form) (down : Down) → length (frame_of of down) ≤ 56
unfolding frame_of
frame-few of down = omega (arith, ones-few (checked (field_bits of down)), fields-few of down)

-- intervals of one period's length are so long together
spans-sum : (period : ℕ) (counts : List ℕ) → length_of (map (span_of period) counts) ≡ sum counts * period
spans-sum period [] = omega arith
spans-sum period (count ∷ counts) =
    let lengths = map (λ (span : Span). span.length) (map (span_of period) counts) in
    let longer : sum (count * period ∷ lengths) ≡ count * period + sum lengths = sum_by-cons (λ n. n) (count * period) lengths in
    let more : sum (count ∷ counts) * period ≡ (count + sum counts) * period = ap (λ n. n * period) (sum_by-cons (λ n. n) count counts) in
    omega (arith, longer, more, spans-sum period counts)

-- the pulse before the gap comes soon behind the last pulse
begins-soon : (s : Settings) (last : Option ℕ) (period : ℕ) → s.period ≤ 10000000 → period ≤ 10500000000 → begins_at s last period ≤ unwrap_or last 0 + 10500000000
begins-soon s None period high short = omega (arith, high)
begins-soon s (Some last) period high short = omega (arith, short)

-- a message ends soon behind the last pulse
pub ends-soon : (s : Settings) (last : Option ℕ) (down : Down) (period missing : ℕ) → s.period ≤ 10000000 → period ≤ 10500000000 → missing ≤ 8 → ends_at s last down period missing ≤ unwrap_or last 0 + 700000000000
unfolding ends_at
ends-soon s last down period missing high short few =
    let counts = suc missing ∷ frame_periods s.form down in
    let many : sum counts ≤ 65 = omega (arith, sum_by-cons (λ n. n) (suc missing) (frame_periods s.form down), periods-few zero (frame_of s.form down), frame-few s.form down, few) in
    let most : sum counts * period ≤ 65 * 10500000000 = mul-le (sum counts) period 65 10500000000 many short in
    omega (arith, most, spans-sum period counts, begins-soon s last period high short)

-- ---- a message
module _ (state : ToothState) (high : state.setup.period ≤ 10000000) (down : Down) (g : Lcg) where
  -- the setup is kept, and the last pulse comes soon behind the one before the message
  abbrev NextSoon : ToothState → Type 0
  NextSoon behind = (behind.setup ≡ state.setup) × (unwrap_or behind.last 0 ≤ unwrap_or state.last 0 + 700000000000)

  -- a message that is drawn ends soon behind the last pulse
  drawn-soon : ends_at state.setup state.last down (period_drawn state.setup.period (tooth_words g).period) (missing_drawn (tooth_words g).gap) ≤ unwrap_or state.last 0 + 700000000000
  unfolding missing_drawn
  drawn-soon =
      let near = period-near state.setup.period (tooth_words g).period in
      let gap : (tooth_words g).gap % 4 < 4 = mod_below (tooth_words g).gap 4 (omega arith) in
      ends-soon state.setup state.last down (period_drawn state.setup.period (tooth_words g).period) (5 + (tooth_words g).gap % 4) high (omega (arith, near.1, high)) (omega (arith, gap))

  -- a downlink frame leaves it so
  down-leaves : Leaves NextSoon (down_next state down g)
  unfolding down_next rises_sent
  down-leaves =
      let period = period_drawn state.setup.period (tooth_words g).period in
      let missing = missing_drawn (tooth_words g).gap in
      let end = ends_at state.setup state.last down period missing in
      let count = length (ideal_of state.setup state.last down period missing) in
      late-leaves ToothState NextSoon state (record state { last = Some end }) (message_edges state down period missing (words count (past_words g))) (past_words g) (past count (past_words g)) (ltb (9 * 10 ^ 17) end) (refl, drawn-soon)

  -- a downlink frame is sent where the last pulse came soon enough
  down-then : unwrap_or state.last 0 ≤ 8 * 10 ^ 17 → IsSent (down_next state down g)
  unfolding down_next rises_sent
  down-then soon =
      let period = period_drawn state.setup.period (tooth_words g).period in
      let missing = missing_drawn (tooth_words g).gap in
      let end = ends_at state.setup state.last down period missing in
      let count = length (ideal_of state.setup state.last down period missing) in
      let in_time : end ≤ 9 * 10 ^ 17 = omega (arith, drawn-soon, soon) in
      in_time-sent ToothState (λ s. Unit {0}) state (record state { last = Some end }) (message_edges state down period missing (words count (past_words g))) (past_words g) (past count (past_words g)) (ltb (9 * 10 ^ 17) end) (le-ltb (9 * 10 ^ 17) end in_time)

-- ---- the script
-- a downlink frame that is drawn fits
drawn-fits : (of : Form) (g : Lcg) → fits_down of (down_drawn of g) ≡ true
unfolding down_drawn
drawn-fits of g =
    let register = value (wide of) (behind_word (behind_word g)) in
    let number = value (wide of) (behind_value (wide of) (behind_word (behind_word g))) in
    let most = 2 ^ wide of in
    and-true (ltb (value 3 g) 8) (ltb (value 3 (behind_word g)) 8 && (ltb register most && ltb number most)) (value-fits 3 g)
    (and-true (ltb (value 3 (behind_word g)) 8) (ltb register most && ltb number most) (value-fits 3 (behind_word g))
    (and-true (ltb register most) (ltb number most) (value-fits (wide of) (behind_word (behind_word g))) (value-fits (wide of) (behind_value (wide of) (behind_word (behind_word g))))))

-- the script and the simulator keep their setup, and the last pulse came soon
pub record ToothBoth (line : ℕ) (s : Settings) (script : ScriptState) (now : ToothState) (count : ℕ) : Type 0 where
  pub script_is : script.setup ≡ Tooth line s
  pub setup_is : now.setup ≡ s
  pub soon : unwrap_or now.last 0 ≤ count * 700000000000

-- the bounds of a setup that is accepted
by-range : (period jitter : ℕ) → fault_of period jitter ≡ None → InRange period jitter
by-range period jitter accepted = grind (arith, nat_tests)

module _ (line : ℕ) (s : Settings) (accepted : fault_of s.period s.jitter ≡ None) where
  -- the period of the simulator's setup is at most 10,000,000 ns
  high-so : (now : ToothState) → now.setup ≡ s → now.setup.period ≤ 10000000
  high-so now is = subst (λ (u : Settings). u.period ≤ 10000000) (sym is) (by-range s.period s.jitter accepted).period_high

  -- the script's frame fits the simulator's setup
  fits-so : (now : ToothState) (g : Lcg) → now.setup ≡ s → fits_down now.setup.form (down_drawn s.form g) ≡ true
  fits-so now g is = ap (λ (u : Settings). fits_down u.form (down_drawn s.form g)) is ∙ drawn-fits s.form g

  -- behind a downlink frame both still hold
  behind-down : (script : ScriptState) (now : ToothState) (count : ℕ) (o : Outcome ToothState) → script.setup ≡ Tooth line s → now.setup ≡ s → unwrap_or now.last 0 ≤ count * 700000000000
      → Leaves (λ (behind : ToothState). (behind.setup ≡ now.setup) × (unwrap_or behind.last 0 ≤ unwrap_or now.last 0 + 700000000000)) o → Leaves (λ behind. ToothBoth line s script behind (count + 1)) o
  behind-down script now count (Sent edges behind later) is same soon next = record { script_is = is; setup_is = next.0 ∙ same; soon = omega (arith, soon, next.1) }
  behind-down script now count (Refused refused behind later) is same soon next = tt

  -- so behind the script's frame
  tooth-step : (script : ScriptState) (now : ToothState) (count : ℕ) (g : Lcg) → ToothBoth line s script now count → LeavesBoth (ToothBoth line s) count (sim_tooth_next now) (tooth_next script s) g
  unfolding tooth_next
  tooth-step script now count g both =
      let down = down_drawn s.form script.wobble in
      let is = sends-down now g (message.Down down) down refl (fits-so now script.wobble both.setup_is) in
      behind-down (tooth_next script s).script now count (sim_tooth_next now (message.Down down) g) both.script_is both.setup_is both.soon
      (subst (Leaves (λ (behind : ToothState). (behind.setup ≡ now.setup) × (unwrap_or behind.last 0 ≤ unwrap_or now.last 0 + 700000000000))) is (down-leaves now (high-so now both.setup_is) down g))

  -- and the frame is sent
  tooth-last : (script : ScriptState) (now : ToothState) (count : ℕ) (g : Lcg) → ToothBoth line s script now count → count < 100000 → IsSent (sim_tooth_next now (tooth_next script s).message g)
  unfolding tooth_next
  tooth-last script now count g both few =
      let down = down_drawn s.form script.wobble in
      subst IsSent (sends-down now g (message.Down down) down refl (fits-so now script.wobble both.setup_is)) (down-then now (high-so now both.setup_is) down g (omega (arith, both.soon, few)))

  -- the messages of a script for the tooth gap are sent
  pub tooth-scripted : (words : Lcg) (script : ScriptState) (state : SimState) (count : ℕ) (g : Lcg) → HasFollowed (Tooth line s) words script state count → count < 100000 → IsSent (sim_next state (script_next script).message g)
  tooth-scripted words script state count g run few =
      followed-sent ToothState sim.Tooth sim_tooth_next tooth-sends (Tooth line s) words (started line s) refl (ToothBoth line s) (record { script_is = refl; setup_is = refl; soon = omega arith })
      (λ script now count g both. subst (λ x. LeavesBoth (ToothBoth line s) count (sim_tooth_next now) x g) (sym (script-by script (Tooth line s) both.script_is)) (tooth-step script now count g both))
      100000 (λ script now count g both few. subst (λ (x : Scripted). IsSent (sim_tooth_next now x.message g)) (sym (script-by script (Tooth line s) both.script_is)) (tooth-last script now count g both few)) script state count g run few
