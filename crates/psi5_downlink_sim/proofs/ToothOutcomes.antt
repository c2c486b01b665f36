-- What becomes of a message of the tooth gap, case by case.
--     fits-down                     values that pass the test fit
--     refuses-late, sends-rises     messages that come too late, and the others
--     refuses-down, refuses-other   messages that are refused
--     sends-down                    the others
use Rattle.std.proofs.Common.{◌≡◌, ℕ, ◌*◌, ◌/◌, ◌^◌, ◌<◌, ◌≤◌, Bool, true, false, Some, List, ◌++◌, length, refl, ap, ap₂, sym, ◌∙◌, if◌then◌else◌, ltb, lt-ltb, le-ltb, ltb-true, arith}
use Rattle.std.specs.Prelude.{◌&&◌}
use Rattle.rand_pcg.specs.Lcg.{Lcg}
use Rattle.line_base.specs.declared.edge.Edge.{Edge}
use Rattle.psi5_downlink.specs.declared.down.Down.{Down}
use Rattle.psi5_downlink.specs.declared.down.Form.{Form}
use Rattle.psi5_downlink.specs.Frames.{Fits, wide}
use Rattle.receiver_core.specs.declared.message.Message.{Message}
use Rattle.receiver_core.specs.declared.message.Message.TheVariants as message
use Rattle.sim_base.specs.declared.sim_fault.SimFault.TheVariants as fault
use Rattle.sim_base.specs.Outcomes.{Outcome, Sent, Refused}
use Rattle.sim_base.specs.Recordings.{opening_of, recorded_by, rises_with_falls}
use Rattle.sim_base.specs.Wobbles.{past, words}
use Rattle.sim_base.proofs.FittingNibbles.{both}
use Rattle.psi5_downlink_sim.specs.ToothSims.{IsDrawnMessage, down_next, ends_at, fits_down, ideal_of, message_edges, missing_drawn, past_words, period_drawn, rises_sent, tooth_next, tooth_words}
use Rattle.psi5_downlink_sim.specs.ToothStates.{ToothState}

-- what passes the test fits
pub fits-down : (form : Form) (down : Down) → fits_down form down ≡ true → Fits form down
fits-down form down passes =
    let most = 2 ^ wide form in
    let first = both (ltb down.address 8) (ltb down.function 8 && (ltb down.register most && ltb down.value most)) passes in
    let second = both (ltb down.function 8) (ltb down.register most && ltb down.value most) first.1 in
    let third = both (ltb down.register most) (ltb down.value most) second.1 in
    record {
      address = ltb-true down.address 8 first.0;
      function = ltb-true down.function 8 second.0;
      register = ltb-true down.register most third.0;
      value = ltb-true down.value most third.1;
    }

-- ---- messages that fit
module _ (state : ToothState) (down : Down) (g : Lcg) where
  abbrev period : ℕ
  period = period_drawn state.setup.period (tooth_words g).period

  abbrev missing : ℕ
  missing = missing_drawn (tooth_words g).gap

  -- when its rises are ideal, and the last of them
  abbrev ideal : List ℕ
  ideal = ideal_of state.setup state.last down period missing

  abbrev end : ℕ
  end = ends_at state.setup state.last down period missing

  abbrev drawn : Lcg
  drawn = past_words g

  -- by whether it comes too late
  abbrev by_time : Bool → Outcome ToothState
  by_time late =
      if late then Refused fault.Late state drawn
      else Sent (message_edges state down period missing (words (length ideal) drawn)) (record state { last = Some end }) (past (length ideal) drawn)

  rises-are : (late : Bool) → ltb (9 * 10 ^ 17) end ≡ late → by_time late ≡ down_next state down g
  unfolding down_next rises_sent
  rises-are late is = ap by_time (sym is)

  pub refuses-late : (rises : List ℕ) (last : ℕ) (behind : Lcg) → IsDrawnMessage state.setup state.last down (tooth_words g) rises last → 9 * 10 ^ 17 < last → behind ≡ past_words g → Refused fault.Late state behind ≡ down_next state down g
  refuses-late rises last behind message late is =
      let too_late : 9 * 10 ^ 17 < end = omega (arith, message.end_is) in
      ap (Refused fault.Late state) is ∙ rises-are true (lt-ltb (9 * 10 ^ 17) end too_late)

  pub sends-rises : (rises : List ℕ) (last : ℕ) (behind later : Lcg) (edges : List Edge) → IsDrawnMessage state.setup state.last down (tooth_words g) rises last → last ≤ 9 * 10 ^ 17 → behind ≡ past_words g
      → edges ≡ opening_of state.line false state.last ++ rises_with_falls state.line (state.setup.period / 10) (recorded_by state.setup.jitter rises (words (length rises) behind)) → later ≡ past (length rises) behind
      → Sent edges (record state { last = Some last }) later ≡ down_next state down g
  unfolding message_edges
  sends-rises rises last behind later edges message in_time behind_is edges_are later_is =
      let soon : end ≤ 9 * 10 ^ 17 = omega (arith, message.end_is) in
      let whole : edges ≡ message_edges state down period missing (words (length ideal) drawn) =
      edges_are ∙ ap₂ (λ l b. opening_of state.line false state.last ++ rises_with_falls state.line (state.setup.period / 10) (recorded_by state.setup.jitter l (words (length l) b))) message.rises_are behind_is in
      ap₂ (λ e b. Sent e (record state { last = Some last }) b) whole (later_is ∙ ap₂ (λ l b. past (length l) b) message.rises_are behind_is)
      ∙ ap (λ n. Sent (message_edges state down period missing (words (length ideal) drawn)) (record state { last = Some n }) (past (length ideal) drawn)) message.end_is
      ∙ rises-are false (le-ltb (9 * 10 ^ 17) end soon)

-- ---- tests
module _ (state : ToothState) (g : Lcg) (m : Message) where
  abbrev by_test : Down → Bool → Outcome ToothState
  by_test down fits = if fits then down_next state down g else Refused fault.Range state g

  down-next : (down : Down) (fits : Bool) → m ≡ message.Down down → fits_down state.setup.form down ≡ fits → by_test down fits ≡ tooth_next state m g
  unfolding tooth_next
  down-next down fits is fits_is = ap (by_test down) (sym fits_is) ∙ ap (λ m. tooth_next state m g) (sym is)

  pub refuses-down : (down : Down) → m ≡ message.Down down → fits_down state.setup.form down ≡ false → Refused fault.Range state g ≡ tooth_next state m g
  refuses-down down is unfit = down-next down false is unfit

  pub sends-down : (down : Down) → m ≡ message.Down down → fits_down state.setup.form down ≡ true → down_next state down g ≡ tooth_next state m g
  sends-down down is fit = down-next down true is fit

-- any other message isn't one of the tooth gap
pub refuses-other : (state : ToothState) (g : Lcg) (m : Message) → ((down : Down) → m ≡ message.Down down → ⊥) → Refused fault.Kind state g ≡ tooth_next state m g
unfolding tooth_next
refuses-other state g (message.Frame frame) no_down = refl
refuses-other state g (message.Short id value) no_down = refl
refuses-other state g (message.Enhanced id value wide) no_down = refl
refuses-other state g (message.Answer code frame) no_down = refl
refuses-other state g (message.Silent code) no_down = refl
refuses-other state g message.Sync no_down = refl
refuses-other state g (message.Burst slot payload) no_down = refl
refuses-other state g (message.Down down) no_down = absurd (no_down down refl)
