-- Values that are drawn.
--     value-some, behind-some      with bits
--     value-none, behind-none      and without
--     AddsNibbles                  nibbles that are added one by one
--     code-back                    what an initialisation sends is told by its code
use Rattle.std.proofs.Common.{◌≡◌, ℕ, zero, suc, ◌+◌, ◌-◌, ◌%◌, ◌^◌, ◌<◌, ◌≤◌, Bool, true, false, Some, List, [], ◌∷◌, ◌++◌, slice_get, refl, ap, sym, subst, ◌∙◌, append-nil, append_assoc, if◌then◌else◌, eqb, eqb-true, leb, leb-true, arith}
use Rattle.rand_pcg.specs.Lcg.{Lcg}
use Rattle.psi5_init.specs.declared.code.Code.{Code}
use Rattle.psi5_init.specs.declared.code.Code.TheVariants as code
use Rattle.psi5_init.specs.Codes.{class_in, is_among}
use Rattle.psi5_init.specs.Phases.{block_codes, codes_from, id_at, phase}
use Rattle.sim_base.specs.Wobbles.{behind_word, past, word, words}
use Rattle.sim_base.proofs.FittingNibbles.{both}
use Rattle.sensor_script.specs.Draws.{behind_value, code_of, nibbles_by, value}

pub value-some : (width : ℕ) (g : Lcg) → (width ≡ 0 → ⊥) → word g % 2 ^ width ≡ value width g
unfolding value
value-some zero g some = absurd (some refl)
value-some (suc width) g some = refl

pub behind-some : (width : ℕ) (g : Lcg) → (width ≡ 0 → ⊥) → behind_word g ≡ behind_value width g
unfolding behind_value
behind-some zero g some = absurd (some refl)
behind-some (suc width) g some = refl

pub value-none : (width : ℕ) (g : Lcg) → width ≡ 0 → 0 ≡ value width g
unfolding value
value-none zero g none = refl
value-none (suc width) g none = absurd (omega arith)

pub behind-none : (width : ℕ) (g : Lcg) → width ≡ 0 → g ≡ behind_value width g
unfolding behind_value
behind-none zero g none = refl
behind-none (suc width) g none = absurd (omega arith)

-- ---- nibbles
-- so many of these nibbles are drawn, and with those of the words that follow they are all; and this is the generator behind them
pub record AddsNibbles (count place : ℕ) (g : Lcg) (nibbles all : List ℕ) (end : Lcg) : Type 0 where
  pub left : ℕ
  pub left_is : place + left ≡ count
  pub are : nibbles ++ nibbles_by left g ≡ all
  pub ends : past left g ≡ end

pub adds-start : (count : ℕ) (g : Lcg) (nibbles : List ℕ) → nibbles ≡ [] → AddsNibbles count 0 g nibbles (nibbles_by count g) (past count g)
adds-start count g nibbles none = record { left = count; left_is = omega arith; are = ap (λ l. l ++ nibbles_by count g) none; ends = refl }

-- what is left, by whether there is any
adds-left : (count place left : ℕ) (g : Lcg) (nibbles all : List ℕ) (end : Lcg) → place + left ≡ count → place < count → nibbles ++ nibbles_by left g ≡ all → past left g ≡ end → AddsNibbles count (place + 1) (behind_word g) (nibbles ++ word g % 16 ∷ []) all end
unfolding words past
adds-left count place zero g nibbles all end left_is within are ends = absurd (omega arith)
adds-left count place (suc left) g nibbles all end left_is within are ends =
    record { left = left; left_is = omega arith; are = append_assoc nibbles (word g % 16 ∷ []) (nibbles_by left (behind_word g)) ∙ are; ends = ends }

pub adds-one : (count place : ℕ) (g behind : Lcg) (nibble : ℕ) (nibbles added all : List ℕ) (end : Lcg) → AddsNibbles count place g nibbles all end → place < count → nibble ≡ word g % 16 → behind ≡ behind_word g → added ≡ nibbles ++ nibble ∷ []
    → AddsNibbles count (place + 1) behind added all end
adds-one count place g behind nibble nibbles added all end adds within nibble_is behind_is added_is =
    subst (λ b. AddsNibbles count (place + 1) b added all end) (sym behind_is)
    (subst (λ l. AddsNibbles count (place + 1) (behind_word g) l all end) (sym added_is)
    (subst (λ n. AddsNibbles count (place + 1) (behind_word g) (nibbles ++ n ∷ []) all end) (sym nibble_is)
    (adds-left count place adds.left g nibbles all end adds.left_is within adds.are adds.ends)))

none-left : (left : ℕ) (g : Lcg) (nibbles all : List ℕ) (end : Lcg) → left ≡ 0 → nibbles ++ nibbles_by left g ≡ all → past left g ≡ end → (nibbles ≡ all) × (g ≡ end)
unfolding words past
none-left zero g nibbles all end none are ends = (sym (append-nil nibbles) ∙ are, ends)
none-left (suc left) g nibbles all end none are ends = absurd (omega arith)

pub adds-end : (count place : ℕ) (g : Lcg) (nibbles all : List ℕ) (end : Lcg) → AddsNibbles count place g nibbles all end → count ≤ place → (nibbles ≡ all) × (g ≡ end)
adds-end count place g nibbles all end adds over = none-left adds.left g nibbles all end (omega (arith, adds.left_is)) adds.are adds.ends

-- ---- codes
-- a code that an initialisation sends
abbrev pub IsOfPhase : Code → Type 0
IsOfPhase (code.Block id) = Unit {0}
IsOfPhase (code.Value nibble) = Unit {0}
IsOfPhase code.Ready = Unit {0}
IsOfPhase other = ⊥

abbrev AreOfPhase : List Code → Type 0
AreOfPhase [] = Unit {0}
AreOfPhase (one ∷ codes) = IsOfPhase one × AreOfPhase codes

of-append : (codes more : List Code) → AreOfPhase codes → AreOfPhase more → AreOfPhase (codes ++ more)
of-append [] more first second = second
of-append (one ∷ codes) more first second = (first.0, of-append codes more first.1 second)

of-block : (repeats id nibble : ℕ) → AreOfPhase (block_codes repeats id nibble)
unfolding block_codes
of-block zero id nibble = tt
of-block (suc repeats) id nibble = (tt, (tt, of-block repeats id nibble))

of-codes : (repeats index : ℕ) (nibbles : List ℕ) → AreOfPhase (codes_from repeats index nibbles)
unfolding codes_from
of-codes repeats index [] = (tt, tt)
of-codes repeats index (nibble ∷ nibbles) = of-append (block_codes repeats (id_at index) nibble) (codes_from repeats (suc index) nibbles) (of-block repeats (id_at index) nibble) (of-codes repeats (suc index) nibbles)

of-get : (codes : List Code) (place : ℕ) (one : Code) → AreOfPhase codes → Some one ≡ slice_get codes place → IsOfPhase one
of-get [] place one are some = absurd cc
of-get (first ∷ codes) zero one are some = subst IsOfPhase (first-is first one some) are.0
  where
    first-is : (first one : Code) → Some one ≡ Some first → first ≡ one
    first-is first one some = cc
of-get (first ∷ codes) (suc place) one are some = of-get codes place one are.1 some

pub phase-sends : (repeats : ℕ) (nibbles : List ℕ) (place : ℕ) (one : Code) → Some one ≡ slice_get (phase repeats nibbles) place → IsOfPhase one
phase-sends repeats nibbles place one some = of-get (phase repeats nibbles) place one (of-codes repeats 0 nibbles) some

-- by the tests of the classes
by-tests : (number : ℕ) (signal ready busy defect block value low : Bool) → is_among 0x200 0x20F number ≡ block → is_among 0x210 0x21F number ≡ value → eqb number 0x1E7 ≡ ready
    → (positive negative : Code) → (IsOfPhase positive → ⊥) → (IsOfPhase negative → ⊥) → (one : Code)
    → one ≡ (if signal then positive else (if ready then code.Ready else (if busy then code.Busy else (if defect then code.Defect else (if block then code.Block (number - 0x200 + 1) else (if value then code.Value (number - 0x210) else (if low then negative else code.Reserved number)))))))
    → IsOfPhase one → code_of one ≡ number
by-tests number true ready busy defect block value low is_block is_value is_ready positive negative no_p no_n one is of = absurd (no_p (subst IsOfPhase is of))
by-tests number false true busy defect block value low is_block is_value is_ready positive negative no_p no_n one is of = ap code_of is ∙ sym (eqb-true number 0x1E7 is_ready)
by-tests number false false true defect block value low is_block is_value is_ready positive negative no_p no_n one is of = absurd (subst IsOfPhase is of)
by-tests number false false false true block value low is_block is_value is_ready positive negative no_p no_n one is of = absurd (subst IsOfPhase is of)
by-tests number false false false false true value low is_block is_value is_ready positive negative no_p no_n one is of =
    let tests = both (leb 0x200 number) (leb number 0x20F) is_block in
    ap code_of is ∙ omega (arith, leb-true 0x200 number tests.0)
by-tests number false false false false false true low is_block is_value is_ready positive negative no_p no_n one is of =
    let tests = both (leb 0x210 number) (leb number 0x21F) is_value in
    ap code_of is ∙ omega (arith, leb-true 0x210 number tests.0)
by-tests number false false false false false false true is_block is_value is_ready positive negative no_p no_n one is of = absurd (no_n (subst IsOfPhase is of))
by-tests number false false false false false false false is_block is_value is_ready positive negative no_p no_n one is of = absurd (subst IsOfPhase is of)

pub code-back : (number : ℕ) → IsOfPhase (class_in number) → code_of (class_in number) ≡ number
unfolding class_in
code-back number of =
    by-tests number (is_among 0x000 0x1E0 number) (eqb number 0x1E7) (eqb number 0x1E8) (eqb number 0x1F4) (is_among 0x200 0x20F number) (is_among 0x210 0x21F number) (is_among 0x220 0x3FF number) refl refl refl _ _ (λ never. never) (λ never. never) (class_in number) refl of
