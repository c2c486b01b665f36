-- A run that has taken no byte.
use Rattle.std.proofs.Common.{◌≡◌, ℕ, ◌<◌, nat_lt, Bool, true, false, cond, Option, Some, None, List, [], ◌∷◌, All, refl, sym, ◌∙◌, subst, arith}
use Rattle.std.proofs.lemmas.Bool.{ltb-false, or_parts}
use Rattle.std.proofs.lemmas.List.Elements.{All-nil, All-cons}
use Rattle.line_base.specs.declared.faults.SetupFault.{SetupFault}
use Rattle.text_lines.specs.Inputs.{Numbered}
use Rattle.receiver_core.specs.declared.message.Message.{Message}
use Rattle.receiver_core.specs.declared.setup.ChannelSetup.{ChannelSetup}
use Rattle.receiver_core.specs.declared.setup.ChannelSetup.TheVariants.{Sent, Psi5, Spc, Tooth}
use Rattle.receiver_core.specs.Setups.{setup_fault_of}
use Rattle.message_lines.specs.Readers.{StandsFor}
use Rattle.sensor_sim.specs.Sims.{started_by}
use Rattle.sensor_sim.specs.Played.{wobble_of}
use Rattle.simulate_command.specs.declared.run.Run.{Run}
use Rattle.simulate_command.specs.Simulations.{fault_of}
use Rattle.simulate_command.specs.Runs.{HasLowLines, HasSent, Reads, SendsOrderly}
use Rattle.simulate_command.proofs.Playing.{plays-nothing}
use Rattle.simulate_command.proofs.Steady.{told-none, fault-by}

-- a test that gives a fault isn't so where there is none
first_test : (t : Bool) (fault : SetupFault) (rest : Option SetupFault) → cond t (Some fault) rest ≡ None → t ≡ false
first_test true fault rest e = absurd (cc)
first_test false fault rest e = refl

low_line : (line : ℕ) → nat_lt 15 line ≡ false → line < 16
low_line line e = (let low = ltb-false 15 line e in omega (arith, low))

one_low : (line : ℕ) → nat_lt 15 line ≡ false → All (λ line. line < 16) (line ∷ [])
one_low line e = All-cons (λ line. line < 16) line [] (low_line line e) (All-nil (λ line. line < 16))

-- the lines of a setup without a fault
pub low-lines : (setup : ChannelSetup) → setup_fault_of setup ≡ None → HasLowLines setup
low-lines (Sent line setup layout form) none = one_low line (first_test _ _ _ none)
low-lines (Psi5 line setup None init) none = one_low line (first_test _ _ _ none)
low-lines (Psi5 line setup (Some slots) init) none =
    let parts = or_parts _ _ (first_test _ _ _ none) in
    let first = or_parts _ _ parts.0 in
    All-cons (λ line. line < 16) line (slots.line ∷ []) (low_line line first.0) (one_low slots.line first.1)
low-lines (Spc line setup) none = one_low line (first_test _ _ _ none)
low-lines (Tooth line setup) none = one_low line (first_test _ _ _ none)

-- a run of no bytes
pub reads-nothing : (setup : ChannelSetup) (seed : ℕ) (run : Run) → setup_fault_of setup ≡ None → StandsFor setup run.reader [] → run.sim ≡ started_by setup → run.wobble ≡ wobble_of seed → SendsOrderly setup → Reads setup seed run []
reads-nothing setup seed run none stands sim wobble orderly = record {
  lines = stands;
  sent = subst (λ (ts : List (Numbered Message)). HasSent setup seed run ts) (sym (told-none setup)) (record {
    orderly = orderly;
    low = low-lines setup none;
    plays = rw (sim, wobble) (plays-nothing (started_by setup) (wobble_of seed));
  });
}

-- bytes that a run has taken have no fault
pub reads-sound : (setup : ChannelSetup) (seed : ℕ) (run : Run) (bytes : List ℕ) → Reads setup seed run bytes → fault_of setup seed bytes ≡ None
reads-sound setup seed run bytes reads = fault-by setup seed bytes ∙ reads.sent.plays.sound
