-- The values of a script's bursts fit.
--     payload-fits
use Rattle.std.proofs.Common.{◌≡◌, ℕ, zero, suc, ◌+◌, ◌%◌, ◌^◌, ◌<◌, ◌≤◌, Bool, true, false, not, Option, None, Some, List, [], ◌∷◌, ◌++◌, map, slice_get, refl, sym, subst, if◌then◌else◌, ltb, lt-ltb, eqb-true, arith}
use Rattle.std.specs.Prelude.{◌||◌, nat_eq, nat_lt}
use Rattle.std.specs.List.{range_with_len}
use Rattle.std.proofs.lemmas.Nat.{mod_below}
use Rattle.rand_pcg.specs.Lcg.{Lcg}
use Rattle.line_base.specs.declared.faults.SetupFault.TheVariants as fault
use Rattle.psi5_frame.specs.Setup.{Settings}
use Rattle.psi5_frame.specs.declared.setup.Parts.{Parts}
use Rattle.psi5_init.specs.declared.code.Code.{Code}
use Rattle.psi5_init.specs.Phases.{block_codes, codes_from, id_at, phase}
use Rattle.receiver_core.specs.declared.setup.ChannelSetup.TheVariants.{Psi5}
use Rattle.receiver_core.specs.declared.setup.SyncSlots.{SyncSlots}
use Rattle.receiver_core.specs.Setups.{are_other_slots, are_wrong_lines, are_wrong_repeats, setup_fault_of}
use Rattle.sim_base.specs.Wobbles.{word}
use Rattle.psi5_sim.specs.Psi5Sims.{fits_parts}
use Rattle.sensor_script.specs.Draws.{code_of, code_or_none, init_code, init_nibbles, signal_code, value}
use Rattle.sensor_script.specs.Scripts.{behind_b, behind_f, behind_m, behind_s, burst_a, data_a, has_code, payload_next, repeats_of}
use Rattle.scripts_accepted.proofs.ScriptValues.{value-below, value-fits}

-- ---- the codes of an initialisation have 10 bits
-- each of these codes has 10 bits
abbrev AreSmall : List Code → Type 0
AreSmall [] = Unit {0}
AreSmall (code ∷ codes) = (code_of code < 1024) × AreSmall codes

-- codes behind codes
small-append : (codes more : List Code) → AreSmall codes → AreSmall more → AreSmall (codes ++ more)
small-append [] more first second = second
small-append (code ∷ codes) more first second = (first.0, small-append codes more first.1 second)

-- those of a block
small-block : (repeats id nibble : ℕ) → id ≤ 16 → nibble < 16 → AreSmall (block_codes repeats id nibble)
unfolding block_codes
small-block zero id nibble few small = tt
small-block (suc repeats) id nibble few small = (omega (arith, few), (omega (arith, small), small-block repeats id nibble few small))

-- each of these numbers is a nibble
abbrev AreNibbles : List ℕ → Type 0
AreNibbles [] = Unit {0}
AreNibbles (nibble ∷ nibbles) = (nibble < 16) × AreNibbles nibbles

-- those of blocks, and Ready
small-codes : (repeats index : ℕ) (nibbles : List ℕ) → AreNibbles nibbles → AreSmall (codes_from repeats index nibbles)
unfolding codes_from
small-codes repeats index [] small = (omega arith, tt)
small-codes repeats index (nibble ∷ nibbles) small =
    let id : index % 16 < 16 = mod_below index 16 (omega arith) in
    small-append (block_codes repeats (id_at index) nibble) (codes_from repeats (suc index) nibbles) (small-block repeats (id_at index) nibble (omega (arith, id)) small.0) (small-codes repeats (suc index) nibbles small.1)

-- the nibbles that a slot sends are nibbles
nibbles-small : (slot : ℕ) (places : List ℕ) → AreNibbles (map (λ place. (place + slot) % 16) places)
nibbles-small slot [] = tt
nibbles-small slot (place ∷ places) = (mod_below (place + slot) 16 (omega arith), nibbles-small slot places)

-- one of these codes, or none
small-get : (codes : List Code) (place : ℕ) → AreSmall codes → code_or_none (slice_get codes place) < 1024
small-get [] place small = omega arith
small-get (code ∷ codes) zero small = small.0
small-get (code ∷ codes) (suc place) small = small-get codes place small.1

-- the code at a place of the initialisation
init-small : (repeats slot place : ℕ) → init_code repeats slot place < 1024
unfolding init_code
init-small repeats slot place = small-get (phase repeats (init_nibbles slot)) place (small-codes repeats 0 (init_nibbles slot) (nibbles-small slot (range_with_len 0 16)))

-- ---- data A
-- the code of a signal has 10 bits
signal-small : (drawn : ℕ) → signal_code drawn < 1024
unfolding signal_code
signal-small drawn = mod_below (drawn % 961 + 544) 1024 (omega arith)

-- a number of 10 bits fits where there are 10
ten-bits : (width number : ℕ) → width ≡ 10 → number < 1024 → number < 2 ^ width
ten-bits width number ten small = subst (λ n. number < 2 ^ n) (sym ten) small

-- data A that is drawn fits, by whether it has 10 bits
by-width : (width : ℕ) (g : Lcg) (ten : Bool) → nat_eq width 10 ≡ ten → (if ten then signal_code (word g) else value width g) < 2 ^ width
by-width width g true is = ten-bits width (signal_code (word g)) (eqb-true width 10 is) (signal-small (word g))
by-width width g false is = value-below width g

-- so it fits
data-below : (width : ℕ) (g : Lcg) → data_a width g < 2 ^ width
unfolding data_a
data-below width g = by-width width g (nat_eq width 10) refl

-- where there is an initialisation, data A has 10 bits
abbrev HasTen : Parts → Option ℕ → Type 0
HasTen parts None = Unit {0}
HasTen parts (Some repeats) = parts.a ≡ 10

-- data A fits, by whether the initialisation has a code here
by-code : (parts : Parts) (init : Option ℕ) (slot place : ℕ) (g : Lcg) → HasTen parts init → (has : Bool) → has_code init place ≡ has → (if has then init_code (repeats_of init) slot place else data_a parts.a g) < 2 ^ parts.a
by-code parts init slot place g ten false is = data-below parts.a g
by-code parts None slot place g ten true is = absurd cc
by-code parts (Some repeats) slot place g ten true is = ten-bits parts.a (init_code repeats slot place) ten (init-small repeats slot place)

-- so data A of a burst fits
a-fits : (parts : Parts) (init : Option ℕ) (slot place : ℕ) (g : Lcg) → HasTen parts init → ltb (burst_a parts init slot place g) (2 ^ parts.a) ≡ true
unfolding burst_a
a-fits parts init slot place g ten = lt-ltb _ (2 ^ parts.a) (by-code parts init slot place g ten (has_code init place) refl)

-- each value of a burst fits
fits-all : (parts : Parts) (init : Option ℕ) (slot place : ℕ) (g : Lcg) → HasTen parts init → fits_parts parts (payload_next parts init slot place g) ≡ true
unfolding payload_next
fits-all parts init slot place g ten =
    rw (value-fits parts.m g, value-fits parts.f (behind_m parts g), value-fits parts.s (behind_f parts g), value-fits parts.b (behind_s parts g), a-fits parts init slot place (behind_b parts g) ten) refl

-- ---- a channel without fault
-- the third test doesn't refuse a channel without fault
by-tests : (a b c : Bool) → (if a then Some fault.Lines else (if b then Some fault.Slots else (if c then Some fault.Repeats else None))) ≡ None → c ≡ false
by-tests true b c e = absurd cc
by-tests false true c e = absurd cc
by-tests false false true e = absurd cc
by-tests false false false e = refl

-- where none of three holds, the last one's opposite does
last-so : (a b c : Bool) → (a || b || not c) ≡ false → c ≡ true
last-so true true c e = absurd cc
last-so true false c e = absurd cc
last-so false true c e = absurd cc
last-so false false true e = refl
last-so false false false e = absurd cc

-- a channel without fault has 10 bits for its initialisation
has-ten : (s : Settings) (init : Option ℕ) → are_wrong_repeats s init ≡ false → HasTen s.parts init
has-ten s None right = tt
has-ten s (Some repeats) right = eqb-true s.parts.a 10 (last-so (nat_lt repeats 1) (nat_lt 16 repeats) (nat_eq s.parts.a 10) right)

-- the values of a script's burst fit a channel without fault
pub payload-fits : (line : ℕ) (s : Settings) (slots : Option SyncSlots) (init : Option ℕ) (slot place : ℕ) (g : Lcg) → setup_fault_of (Psi5 line s slots init) ≡ None → fits_parts s.parts (payload_next s.parts init slot place g) ≡ true
payload-fits line s slots init slot place g no_fault =
    fits-all s.parts init slot place g (has-ten s init (by-tests (are_wrong_lines line slots) (are_other_slots s slots) (are_wrong_repeats s init) no_fault))
