-- The codes of a slot: those of an initialisation, and signals behind them. No front of them breaks a rule.
--     AreFaultless          steps that violate no rule
--     Follows               the codes of the first bursts in a slot
--     code-follows, signal-follows      one more
--     follows-faultless     their steps
use Rattle.std.proofs.Common.{◌≡◌, ℕ, zero, suc, ◌+◌, ◌-◌, ◌*◌, ◌%◌, ◌<◌, ◌≤◌, Bool, true, false, if◌then◌else◌, List, [], ◌∷◌, ◌++◌, length, map, take, drop, get_or, refl, ap, sym, subst, ◌∙◌, inl, inr, append-nil, append_assoc, arith}
use Rattle.std.specs.Prelude.{slice_get, nat_le, ◌&&◌, nat_eq}
use Rattle.std.specs.List.{range_with_len}
use Rattle.std.proofs.lemmas.Bool.{cases_lt}
use Rattle.std.proofs.lemmas.List.{take_all, take_more, take-append-drop}
use Rattle.std.proofs.lemmas.Nat.{mod_below}
use Rattle.line_base.specs.declared.rule.Rule.TheVariants.{InitRepeat}
use Rattle.psi5_init.specs.declared.code.Code.{Code}
use Rattle.psi5_init.specs.declared.code.Code.TheVariants as code
use Rattle.psi5_init.specs.declared.step.InitStep.{InitStep}
use Rattle.psi5_init.specs.declared.step.InitStep.TheVariants as step
use Rattle.psi5_init.specs.Codes.{class_in}
use Rattle.psi5_init.specs.Meanings.{is_last, is_whole, index_at, place_of, told_at, whole_blocks}
use Rattle.psi5_init.specs.Phases.{block_codes, codes_from, id_at, phase}
use Rattle.psi5_init.specs.Readings.{init_reading}
use Rattle.psi5_init.specs.Standings.{Standing, again, led_by, may_end, steps_from}
use Rattle.psi5_init.specs.Standings.Standing.{Fresh, Idle, AwaitsValue, AwaitsId}
use Rattle.psi5_init.proofs.LookingBack.{reading-stands}
use Rattle.psi5_init.proofs.PhaseCodes.{class-id, class-ready, class-value, length-codes_from}
use Rattle.psi5_init.proofs.Telling.{told-reading}
use Rattle.sensor_script.specs.Draws.{code_of, code_or_none, init_code, init_nibbles}
use Rattle.sensor_script.specs.Scripts.{next_place}

-- ---- steps
-- the step violates no rule
abbrev pub IsFaultless : InitStep → Type 0
IsFaultless step.Nothing = Unit {0}
IsFaultless (step.Block id value) = Unit {0}
IsFaultless (step.Done blocks) = Unit {0}
IsFaultless (step.Bad rule) = ⊥

-- none of these steps does
abbrev pub AreFaultless : List InitStep → Type 0
AreFaultless [] = Unit {0}
AreFaultless (one ∷ steps) = IsFaultless one × AreFaultless steps

-- steps without fault behind such steps
faultless-append : (xs ys : List InitStep) → AreFaultless xs → AreFaultless ys → AreFaultless (xs ++ ys)
faultless-append [] ys first second = second
faultless-append (x ∷ xs) ys first second = (first.0, faultless-append xs ys first.1 second)

-- the first of such steps
faultless-front : (xs ys : List InitStep) → AreFaultless (xs ++ ys) → AreFaultless xs
faultless-front [] ys all = tt
faultless-front (x ∷ xs) ys all = (all.0, faultless-front xs ys all.1)

-- the steps behind the first so many
pub faultless-drop : (n : ℕ) (xs : List InitStep) → AreFaultless xs → AreFaultless (drop n xs)
faultless-drop zero xs all = all
faultless-drop (suc n) [] all = tt
faultless-drop (suc n) (x ∷ xs) all = faultless-drop n xs all.1

-- the steps of places, where each has no fault
faultless-map : (f : ℕ → InitStep) → ((place : ℕ) → IsFaultless (f place)) → (places : List ℕ) → AreFaultless (map f places)
faultless-map f each [] = tt
faultless-map f each (place ∷ places) = (each place, faultless-map f each places)

-- ---- standings
-- where a reading stands behind codes
abbrev standing_after : ℕ → Standing → List Code → Standing
standing_after k standing [] = standing
standing_after k standing (c ∷ codes) = standing_after k (led_by k standing c).next codes

-- a reading goes on from where it stands
after-append : (k : ℕ) (standing : Standing) (xs ys : List Code) → standing_after k standing (xs ++ ys) ≡ standing_after k (standing_after k standing xs) ys
after-append k standing [] ys = refl
after-append k standing (c ∷ xs) ys = after-append k (led_by k standing c).next xs ys

-- and so do its steps
steps-append : (k : ℕ) (standing : Standing) (xs ys : List Code) → steps_from k standing (xs ++ ys) ≡ steps_from k standing xs ++ steps_from k (standing_after k standing xs) ys
unfolding steps_from
steps-append k standing [] ys = refl
steps-append k standing (c ∷ xs) ys = ap (λ l. (led_by k standing c).step ∷ l) (steps-append k (led_by k standing c).next xs ys)

-- a reading is outside a phase behind its end
ready-idle : (k : ℕ) (standing : Standing) → (led_by k standing code.Ready).next ≡ Idle
unfolding led_by
ready-idle k Fresh = refl
ready-idle k Idle = refl
ready-idle k (AwaitsValue b) = refl
ready-idle k (AwaitsId b) = by-end (may_end k b)
  where
    by-end : (ends : Bool) → (if ends then record { step = step.Done b.blocks; next = Idle } else again InitRepeat code.Ready).next ≡ Idle
    by-end true = refl
    by-end false = refl

-- so it is behind a whole phase
phase-idle : (k index : ℕ) (nibbles : List ℕ) (standing : Standing) → standing_after k standing (codes_from k index nibbles) ≡ Idle
unfolding codes_from
phase-idle k index [] standing = ready-idle k standing
phase-idle k index (nibble ∷ nibbles) standing =
    after-append k standing (block_codes k (id_at index) nibble) (codes_from k (suc index) nibbles) ∙ phase-idle k (suc index) nibbles (standing_after k standing (block_codes k (id_at index) nibble))

-- ---- signals
-- the code is a signal
abbrev pub IsSignal : Code → Type 0
IsSignal (code.Signal number) = Unit {0}
IsSignal other = ⊥

-- each of these codes is one
abbrev pub AreSignals : List Code → Type 0
AreSignals [] = Unit {0}
AreSignals (c ∷ codes) = IsSignal c × AreSignals codes

-- one signal more
signals-push : (codes : List Code) (c : Code) → AreSignals codes → IsSignal c → AreSignals (codes ++ c ∷ [])
signals-push [] c are is = (is, tt)
signals-push (first ∷ codes) c are is = (are.0, signals-push codes c are.1 is)

-- outside a phase signals violate no rule
signals-faultless : (k : ℕ) (codes : List Code) → AreSignals codes → AreFaultless (steps_from k Idle codes)
unfolding steps_from led_by
signals-faultless k [] are = tt
signals-faultless k (code.Signal number ∷ codes) are = (tt, signals-faultless k codes are.1)
signals-faultless k (code.Block id ∷ codes) are = absurd are.0
signals-faultless k (code.Value value ∷ codes) are = absurd are.0
signals-faultless k (code.Ready ∷ codes) are = absurd are.0
signals-faultless k (code.Busy ∷ codes) are = absurd are.0
signals-faultless k (code.Defect ∷ codes) are = absurd are.0
signals-faultless k (code.Reserved number ∷ codes) are = absurd are.0

-- ---- a phase, and signals behind it
-- what a phase comes to at any place is no violated rule
told-faultless : (k : ℕ) (nibbles : List ℕ) (place : ℕ) → IsFaultless (told_at k 0 nibbles place)
told-faultless k nibbles place =
    by-tests (is_last k place && is_whole k 0 (index_at k place)) (nat_eq place (place_of k (length nibbles)) && nat_le (0 + 2) place)
  where
    by-tests : (last ends : Bool) → IsFaultless (if last then step.Block (id_at (index_at k place)) (get_or nibbles (index_at k place) 0) else (if ends then step.Done (whole_blocks k 0 (length nibbles)) else step.Nothing))
    by-tests true ends = tt
    by-tests false true = tt
    by-tests false false = tt

-- a whole phase and signals behind it violate no rule
whole-faultless : (k : ℕ) (nibbles : List ℕ) (signals : List Code) → 1 ≤ k → AreSignals signals → AreFaultless (init_reading k (phase k nibbles ++ signals))
whole-faultless k nibbles signals some are =
    let codes = phase k nibbles in
    let told = told-reading k 0 nibbles some in
    let first : AreFaultless (steps_from k Fresh codes) = subst AreFaultless (sym told ∙ reading-stands k codes) (faultless-map (told_at k 0 nibbles) (told-faultless k nibbles) (range_with_len 0 (place_of k (length nibbles) + 1 - 0))) in
    let second : AreFaultless (steps_from k (standing_after k Fresh codes) signals) = subst (λ standing. AreFaultless (steps_from k standing signals)) (sym (phase-idle k 0 nibbles Fresh)) (signals-faultless k signals are) in
    subst AreFaultless (sym (reading-stands k (codes ++ signals) ∙ steps-append k Fresh codes signals)) (faultless-append (steps_from k Fresh codes) (steps_from k (standing_after k Fresh codes) signals) first second)

-- nor do the first codes of codes that violate none
front-faultless : (k : ℕ) (codes more : List Code) → AreFaultless (init_reading k (codes ++ more)) → AreFaultless (init_reading k codes)
front-faultless k codes more all =
    subst AreFaultless (sym (reading-stands k codes))
    (faultless-front (steps_from k Fresh codes) (steps_from k (standing_after k Fresh codes) more) (subst AreFaultless (reading-stands k (codes ++ more) ∙ steps-append k Fresh codes more) all))

-- ---- what is sent is told by its code
-- each of these codes is told by its number
abbrev AreBack : List Code → Type 0
AreBack [] = Unit {0}
AreBack (c ∷ codes) = (class_in (code_of c) ≡ c) × AreBack codes

-- codes behind codes
back-append : (xs ys : List Code) → AreBack xs → AreBack ys → AreBack (xs ++ ys)
back-append [] ys first second = second
back-append (x ∷ xs) ys first second = (first.0, back-append xs ys first.1 second)

-- the ID of a block
back-id : (index : ℕ) → class_in (code_of (code.Block (id_at index))) ≡ code.Block (id_at index)
back-id index = let same : 0x1FF + id_at index ≡ 0x200 + index % 16 = omega arith in ap class_in same ∙ class-id index

-- the codes of a block
back-block : (repeats index nibble : ℕ) → nibble < 16 → AreBack (block_codes repeats (id_at index) nibble)
unfolding block_codes
back-block zero index nibble small = tt
back-block (suc repeats) index nibble small = (back-id index, (class-value nibble small, back-block repeats index nibble small))

-- each of these is a nibble
abbrev AreNibbles : List ℕ → Type 0
AreNibbles [] = Unit {0}
AreNibbles (nibble ∷ nibbles) = (nibble < 16) × AreNibbles nibbles

-- the codes of a phase
back-codes : (k index : ℕ) (nibbles : List ℕ) → AreNibbles nibbles → AreBack (codes_from k index nibbles)
unfolding codes_from
back-codes k index [] small = (class-ready, tt)
back-codes k index (nibble ∷ nibbles) small = back-append (block_codes k (id_at index) nibble) (codes_from k (suc index) nibbles) (back-block k index nibble small.0) (back-codes k (suc index) nibbles small.1)

-- the nibbles of a slot's initialisation
nibbles-small : (slot : ℕ) (places : List ℕ) → AreNibbles (map (λ place. (place + slot) % 16) places)
nibbles-small slot [] = tt
nibbles-small slot (place ∷ places) = (mod_below (place + slot) 16 (omega arith), nibbles-small slot places)

-- a code at a place is told by its number
back-get : (codes : List Code) (place : ℕ) (default : Code) → AreBack codes → place < length codes → class_in (code_or_none (slice_get codes place)) ≡ get_or codes place default
back-get [] place default are within = absurd (omega arith)
back-get (c ∷ codes) zero default are within = are.0
back-get (c ∷ codes) (suc place) default are within = back-get codes place default are.1 (omega arith)

-- and so is that of an initialisation
init-back : (k number place : ℕ) (default : Code) → place < length (phase k (init_nibbles number)) → class_in (init_code k number place) ≡ get_or (phase k (init_nibbles number)) place default
unfolding init_code
init-back k number place default within =
    back-get (phase k (init_nibbles number)) place default (back-codes k 0 (init_nibbles number) (nibbles-small number (range_with_len 0 16))) within

-- ---- the codes of the first bursts
-- so many codes of the initialisation, or all of them and signals behind them
pub record Follows (k number place : ℕ) (codes : List Code) : Type 0 where
  pub signals : List Code
  pub are_signals : AreSignals signals
  pub are : codes ≡ take place (phase k (init_nibbles number)) ++ signals
  pub none_yet : place < 32 * k + 1 → signals ≡ []

-- how many codes an initialisation has
phase-long : (k number : ℕ) → length (phase k (init_nibbles number)) ≡ 32 * k + 1
phase-long k number = omega (arith, length-codes_from k 0 (init_nibbles number))

-- no burst came yet
pub follows-none : (k number : ℕ) → Follows k number 0 []
follows-none k number = record { signals = []; are_signals = tt; are = refl; none_yet = λ _. refl }

-- one more code of the initialisation
pub code-follows : (k number place : ℕ) (codes : List Code) → k ≤ 16 → place < 32 * k + 1 → Follows k number place codes → Follows k number (next_place place) (codes ++ class_in (init_code k number place) ∷ [])
code-follows k number place codes few within f =
    let all = phase k (init_nibbles number) in
    let there : place < length all = omega (arith, within, phase-long k number) in
    let c = class_in (init_code k number place) in
    let none = f.none_yet within in
    let is : codes ≡ take place all = f.are ∙ ap (λ l. take place all ++ l) none ∙ append-nil (take place all) in
    let next : next_place place ≡ place + 1 = omega (arith, few, within) in
    let more : take (place + 1) all ≡ take place all ++ c ∷ [] = take_more all place c there ∙ ap (λ d. take place all ++ d ∷ []) (sym (init-back k number place c there)) in
    subst (λ n. Follows k number n (codes ++ c ∷ [])) (sym next) (record {
      signals = [];
      are_signals = tt;
      are = ap (λ l. l ++ c ∷ []) is ∙ sym more ∙ sym (append-nil (take (place + 1) all));
      none_yet = λ _. refl;
    })

-- one more signal
pub signal-follows : (k number place : ℕ) (codes : List Code) (c : Code) → k ≤ 16 → 32 * k + 1 ≤ place → IsSignal c → Follows k number place codes → Follows k number (next_place place) (codes ++ c ∷ [])
signal-follows k number place codes c few behind is f =
    let all = phase k (init_nibbles number) in
    let long = phase-long k number in
    let now : take place all ≡ all = take_all place all (omega (arith, behind, long)) in
    let later : take (next_place place) all ≡ all = take_all (next_place place) all (omega (arith, behind, long, few)) in
    record {
      signals = f.signals ++ c ∷ [];
      are_signals = signals-push f.signals c f.are_signals is;
      are = ap (λ l. l ++ c ∷ []) f.are ∙ append_assoc (take place all) f.signals (c ∷ []) ∙ ap (λ l. l ++ (f.signals ++ c ∷ [])) (now ∙ sym later);
      none_yet = λ within. absurd (omega (arith, behind, within, few));
    }

-- no step of theirs violates a rule
pub follows-faultless : (k number place : ℕ) (codes : List Code) → 1 ≤ k → Follows k number place codes → AreFaultless (init_reading k codes)
follows-faultless k number place codes some f =
    let nibbles = init_nibbles number in
    let all = phase k nibbles in
    let long = phase-long k number in
    elim (cases_lt place (32 * k + 1)) [
      | inl within ↦
          let is : codes ++ drop place all ≡ all ++ [] = ap (λ l. l ++ drop place all) (f.are ∙ ap (λ l. take place all ++ l) (f.none_yet within) ∙ append-nil (take place all)) ∙ take-append-drop place all ∙ sym (append-nil all) in
          front-faultless k codes (drop place all) (subst (λ l. AreFaultless (init_reading k l)) (sym is) (whole-faultless k nibbles [] some tt))
      | inr behind ↦
          let is : codes ≡ all ++ f.signals = f.are ∙ ap (λ l. l ++ f.signals) (take_all place all (omega (arith, behind, long))) in
          subst (λ l. AreFaultless (init_reading k l)) (sym is) (whole-faultless k nibbles f.signals some f.are_signals)
    ]
