-- The codes of a phase by their places.
--     class-ready, class-id, class-value      what the codes of a phase say
--     code-behind, code-end, code-within      the code behind the last place, at it, and at each place before it
use Rattle.std.proofs.Common.{◌≡◌, ℕ, zero, suc, ◌+◌, ◌-◌, ◌*◌, ◌/◌, ◌%◌, ◌<◌, ◌≤◌, true, false, nat_eq, if◌then◌else◌, None, Some, List, [], ◌∷◌, ◌++◌, length, get_or, refl, sym, ◌∙◌, ap, ap₂, inl, inr, arith}
use Rattle.std.specs.List.{slice_get}
use Rattle.std.proofs.lemmas.Bool.Decides.{nat_tests}
use Rattle.std.proofs.lemmas.Bool.{cases_lt}
use Rattle.std.proofs.lemmas.List.{length-append}
use Rattle.std.proofs.Math.Nat.{add-div_right, div-lt_iff_lt-mul}
use Rattle.std.proofs.lemmas.Nat.{div-mul-add}
use Rattle.std.proofs.lemmas.Option.{slice_get_past}
use Rattle.psi5_init.specs.declared.code.Code.{Code}
use Rattle.psi5_init.specs.declared.code.Code.TheVariants.{Block, Value, Ready}
use Rattle.psi5_init.specs.Codes.{class_in, is_among}
use Rattle.psi5_init.specs.Phases.{id_at, block_codes, codes_from}
use Rattle.psi5_init.proofs.PhaseSteps.{length-block_codes}

-- ---- what the codes say
pub class-ready : class_in 0x1E7 ≡ Ready
unfolding class_in
class-ready = refl

not_among : (first last code : ℕ) → last < code → is_among first last code ≡ false
not_among first last code above = grind (arith, nat_tests)

among : (first last code : ℕ) → first ≤ code → code ≤ last → is_among first last code ≡ true
among first last code low high = grind (arith, nat_tests)

other : (a b : ℕ) → a < b → nat_eq b a ≡ false
other a b below = grind (arith, nat_tests)

pub class-id : (index : ℕ) → class_in (0x200 + index % 16) ≡ Block (id_at index)
unfolding class_in
class-id index =
    let code = 0x200 + index % 16 in
    let id : code - 0x200 + 1 ≡ index % 16 + 1 = omega arith in
    rw (
      not_among 0x000 0x1E0 code (omega arith),
      other 0x1E7 code (omega arith),
      other 0x1E8 code (omega arith),
      other 0x1F4 code (omega arith),
      among 0x200 0x20F code (omega arith) (omega arith),
    ) (ap Block id)

pub class-value : (value : ℕ) → value < 16 → class_in (0x210 + value) ≡ Value value
unfolding class_in
class-value value small =
    let code = 0x210 + value in
    let is : code - 0x210 ≡ value = omega arith in
    rw (
      not_among 0x000 0x1E0 code (omega arith),
      other 0x1E7 code (omega arith),
      other 0x1E8 code (omega arith),
      other 0x1F4 code (omega arith),
      not_among 0x200 0x20F code (omega arith),
      among 0x210 0x21F code (omega arith) (omega arith),
    ) (ap Value is)

-- ---- places
get-front : {A : Type 0} (xs ys : List A) (i : ℕ) → i < length xs → slice_get (xs ++ ys) i ≡ slice_get xs i
get-front [] ys i within = absurd (omega arith)
get-front (x ∷ xs) ys zero within = refl
get-front (x ∷ xs) ys (suc i) within = get-front xs ys i (omega arith)

get-back : {A : Type 0} (xs ys : List A) (i j : ℕ) → i ≡ length xs + j → slice_get (xs ++ ys) i ≡ slice_get ys j
get-back [] ys i j e = let same : i ≡ j = omega (arith, e) in ap (slice_get ys) same
get-back (x ∷ xs) ys zero j e = absurd (omega (arith, e))
get-back (x ∷ xs) ys (suc i) j e = get-back xs ys i j (omega (arith, e))

pub length-codes_from : (k index : ℕ) (nibbles : List ℕ) → length (codes_from k index nibbles) ≡ 2 * k * length nibbles + 1
unfolding codes_from
length-codes_from k index [] = omega arith
length-codes_from k index (v ∷ vs) =
    let id = id_at index in
    omega (arith, length-append (block_codes k id v) (codes_from k (suc index) vs), length-block_codes k id v, length-codes_from k (suc index) vs)

pub code-behind : (k index place : ℕ) (nibbles : List ℕ) → 2 * k * length nibbles < place → slice_get (codes_from k index nibbles) place ≡ None
code-behind k index place nibbles behind = slice_get_past (codes_from k index nibbles) place (omega (arith, length-codes_from k index nibbles))

pub code-end : (k index place : ℕ) (nibbles : List ℕ) → place ≡ 2 * k * length nibbles → slice_get (codes_from k index nibbles) place ≡ Some Ready
unfolding codes_from
code-end k index zero [] e = refl
code-end k index (suc place) [] e = absurd (omega (arith, e))
code-end k index place (v ∷ vs) e =
    let rest = 2 * k * length vs in
    get-back (block_codes k (id_at index) v) (codes_from k (suc index) vs) place rest (omega (arith, e, length-block_codes k (id_at index) v))
    ∙ code-end k (suc index) rest vs refl

-- the code at a place of a pair
code_of : ℕ → ℕ → ℕ → Code
code_of place id value = if nat_eq (place % 2) 0 then Block id else Value value

block-place : (n id v place : ℕ) → place < 2 * n → slice_get (block_codes n id v) place ≡ Some (code_of place id v)
unfolding block_codes code_of
block-place zero id v place within = absurd (omega arith)
block-place (suc n) id v zero within = refl
block-place (suc n) id v (suc zero) within = refl
block-place (suc n) id v (suc (suc place)) within =
    let even : place % 2 ≡ suc (suc place) % 2 = omega arith in
    block-place n id v place (omega arith) ∙ ap (λ r. Some (if nat_eq r 0 then Block id else Value v)) even

-- this is the code at the place
abbrev IsCode : ℕ → ℕ → List ℕ → ℕ → Type 0
IsCode k index nibbles place = slice_get (codes_from k index nibbles) place ≡ Some (code_of place (id_at (index + place / (2 * k))) (get_or nibbles (place / (2 * k)) 0))

-- in the first block
here : (k index v place : ℕ) (vs : List ℕ) → place < 2 * k → IsCode k index (v ∷ vs) place
unfolding codes_from
here k index v place vs inside =
    let first : place / (2 * k) ≡ 0 = (let e : place ≡ 0 * (2 * k) + place = omega arith in ap (λ n. n / (2 * k)) e) ∙ div-mul-add 0 (2 * k) place inside in
    let same : index + place / (2 * k) ≡ index = omega (arith, first) in
    get-front (block_codes k (id_at index) v) (codes_from k (suc index) vs) place (omega (arith, inside, length-block_codes k (id_at index) v))
    ∙ block-place k (id_at index) v place inside
    ∙ ap₂ (λ i n. Some (code_of place (id_at i) (get_or (v ∷ vs) n 0))) (sym same) (sym first)

-- behind it
there : (k index v place rest : ℕ) (vs : List ℕ) → 0 < 2 * k → place ≡ rest + 2 * k → IsCode k (suc index) vs rest → IsCode k index (v ∷ vs) place
unfolding codes_from code_of
there k index v place rest vs some e later =
    let next : place / (2 * k) ≡ rest / (2 * k) + 1 = ap (λ n. n / (2 * k)) e ∙ add-div_right rest some in
    let up : place / (2 * k) ≡ suc (rest / (2 * k)) = omega (arith, next) in
    let parity : rest % 2 ≡ place % 2 = omega (arith, e) in
    let index_is : suc index + rest / (2 * k) ≡ index + place / (2 * k) = omega (arith, next) in
    let nibble : get_or vs (rest / (2 * k)) 0 ≡ get_or (v ∷ vs) (place / (2 * k)) 0 = ap (λ n. get_or (v ∷ vs) n 0) (sym up) in
    get-back (block_codes k (id_at index) v) (codes_from k (suc index) vs) place rest (omega (arith, e, length-block_codes k (id_at index) v))
    ∙ later
    ∙ ap (λ r. Some (if nat_eq r 0 then Block (id_at (suc index + rest / (2 * k))) else Value (get_or vs (rest / (2 * k)) 0))) parity
    ∙ ap₂ (λ i n. Some (if nat_eq (place % 2) 0 then Block (id_at i) else Value n)) index_is nibble

some_times : (k place count : ℕ) → place < 2 * k * count → 0 < 2 * k
some_times zero place count few = absurd (omega arith)
some_times (suc k) place count few = omega arith

within : (k index place : ℕ) (nibbles : List ℕ) → place < 2 * k * length nibbles → IsCode k index nibbles place
within k index place [] few = absurd (omega arith)
within k index place (v ∷ vs) few = elim (cases_lt place (2 * k)) [
  | inl inside ↦ here k index v place vs inside
  | inr behind ↦ there k index v place (place - 2 * k) vs (some_times k place (length (v ∷ vs)) few) (omega (arith, behind)) (within k (suc index) (place - 2 * k) vs (omega (arith, few, behind)))
]

pub code-id : (k place : ℕ) (nibbles : List ℕ) → place < 2 * k * length nibbles → place % 2 ≡ 0 → slice_get (codes_from k 0 nibbles) place ≡ Some (Block (id_at (place / (2 * k))))
unfolding code_of
code-id k place nibbles few even =
    let none : 0 + place / (2 * k) ≡ place / (2 * k) = omega arith in
    within k 0 place nibbles few
    ∙ ap₂ (λ r i. Some (if nat_eq r 0 then Block (id_at i) else Value (get_or nibbles (place / (2 * k)) 0))) even none

pub code-value : (k place : ℕ) (nibbles : List ℕ) → place < 2 * k * length nibbles → (place % 2 ≡ 0 → ⊥) → slice_get (codes_from k 0 nibbles) place ≡ Some (Value (get_or nibbles (place / (2 * k)) 0))
unfolding code_of
code-value k place nibbles few odd =
    let one : place % 2 ≡ 1 = omega (arith, odd) in
    within k 0 place nibbles few
    ∙ ap (λ r. Some (if nat_eq r 0 then Block (id_at (0 + place / (2 * k))) else Value (get_or nibbles (place / (2 * k)) 0))) one

pub index_within : (k place count : ℕ) → place < 2 * k * count → place / (2 * k) < count
index_within k place count few =
    let some = some_times k place count few in
    (div-lt_iff_lt-mul some).1 (omega (arith, few))
