-- What stands at a status, and how enhanced messages are read on.
--     at-skipped, at-seven, at-run, at-begun      by how many start bits are set
--     begun-early, begun-13, begun-late, begun-18, begun-whole      by the start bits of frames 13 and 18
--     waits-none, reads-waiting, reads-skipped, reads-ended      how reading goes on after it
use Rattle.std.proofs.Common.{◌≡◌, ℕ, ◌<◌, ◌≤◌, List, [], ◌∷◌, true, false, nat_eq, nat_le, nat_lt, take, length, refl, ap, ◌∙◌, inl, inr, suc, ◌++◌, arith}
use Rattle.std.proofs.lemmas.Bool.{cases_Bool, eq-eqb, ne_eqb}
use Rattle.std.proofs.lemmas.Bool.Decides.{nat_tests}
use Rattle.std.specs.Prelude.{slice_index}
use Rattle.line_base.specs.declared.rule.Rule.TheVariants.{Zero13, Zero18}
use Rattle.sent_serial.specs.declared.step.SerialStep.TheVariants.{Bad}
use Rattle.sent_serial.specs.Statuses.{start_bit, set_before}
use Rattle.line_base.specs.Readings.{skipped, ended, read_past, end_past}
use Rattle.line_base.proofs.Readings.{read-nil, end-nil, read-waits, end-waits}
use Rattle.line_base.specs.Readings.Found.{Waiting}
use Rattle.line_base.proofs.Standing.{read-told}
use Rattle.sent_serial.specs.declared.step.SerialStep.{SerialStep}
use Rattle.sent_serial.specs.Enhanced.{begun, begun_at, enhanced_found, enhanced_message, enhanced_reading}
use Rattle.sent_serial.proofs.StartBits.{set_before-le}

-- ---- tests
at_most : (n m : ℕ) → n ≤ m → nat_le n m ≡ true
at_most n m h = grind (arith, nat_tests)

above : (n m : ℕ) → m < n → nat_le n m ≡ false
above n m h = grind (arith, nat_tests)

less : (n m : ℕ) → n < m → nat_lt n m ≡ true
less n m h = grind (arith, nat_tests)

not_less : (n m : ℕ) → m ≤ n → nat_lt n m ≡ false
not_less n m h = grind (arith, nat_tests)

-- ---- what stands at the front
pub at-run : (statuses : List ℕ) → set_before statuses ≡ length statuses → length statuses ≤ 6 → begun_at statuses ≡ Waiting []
at-run statuses all few =
    let short : nat_lt 6 (length statuses) ≡ false = not_less 6 (length statuses) few in
    let same : nat_eq (set_before statuses) (length statuses) ≡ true = eq-eqb (set_before statuses) (length statuses) all in
    rw (short, same) refl

pub at-begun : (statuses : List ℕ) → set_before statuses ≡ 6 → 6 < length statuses → begun_at statuses ≡ begun statuses
at-begun statuses six long =
    let more : nat_lt 6 (length statuses) ≡ true = less 6 (length statuses) long in
    let same : nat_eq (set_before statuses) 6 ≡ true = eq-eqb (set_before statuses) 6 six in
    rw (more, same) refl

pub at-seven : (statuses : List ℕ) → 6 < set_before statuses → begun_at statuses ≡ skipped
at-seven statuses many =
    let more : nat_lt 6 (length statuses) ≡ true = less 6 (length statuses) (omega (arith, set_before-le statuses)) in
    let other : nat_eq (set_before statuses) 6 ≡ false = ne_eqb (set_before statuses) 6 (omega arith) in
    rw (more, other) refl

pub at-skipped : (statuses : List ℕ) → set_before statuses < 6 → set_before statuses < length statuses → begun_at statuses ≡ skipped
at-skipped statuses few clear =
    let other : nat_eq (set_before statuses) 6 ≡ false = ne_eqb (set_before statuses) 6 (omega arith) in
    let not_all : nat_eq (set_before statuses) (length statuses) ≡ false = ne_eqb (set_before statuses) (length statuses) (omega arith) in
    elim (cases_Bool (nat_lt 6 (length statuses))) [
      | inl more ↦ rw (more, other) refl
      | inr short ↦ rw (short, not_all) refl
    ]

-- ---- where a message begins
pub begun-early : (statuses : List ℕ) → length statuses ≤ 12 → begun statuses ≡ Waiting []
unfolding begun
begun-early statuses few = let short : nat_le (length statuses) 12 ≡ true = at_most (length statuses) 12 few in rw short refl

pub begun-13 : (statuses : List ℕ) → 12 < length statuses → start_bit (slice_index statuses 12) ≡ true → begun statuses ≡ ended (Bad Zero13) 11
unfolding begun
begun-13 statuses long set = let more : nat_le (length statuses) 12 ≡ false = above (length statuses) 12 long in rw (more, set) refl

pub begun-late : (statuses : List ℕ) → 12 < length statuses → start_bit (slice_index statuses 12) ≡ false → length statuses ≤ 17 → begun statuses ≡ Waiting []
unfolding begun
begun-late statuses long clear few =
    let more : nat_le (length statuses) 12 ≡ false = above (length statuses) 12 long in
    let short : nat_le (length statuses) 17 ≡ true = at_most (length statuses) 17 few in
    rw (more, clear, short) refl

pub begun-18 : (statuses : List ℕ) → 17 < length statuses → start_bit (slice_index statuses 12) ≡ false → start_bit (slice_index statuses 17) ≡ true → begun statuses ≡ ended (Bad Zero18) 16
unfolding begun
begun-18 statuses long clear set =
    let more : nat_le (length statuses) 12 ≡ false = above (length statuses) 12 (omega arith) in
    let whole : nat_le (length statuses) 17 ≡ false = above (length statuses) 17 long in
    rw (more, clear, whole, set) refl

pub begun-whole : (statuses : List ℕ) → 17 < length statuses → start_bit (slice_index statuses 12) ≡ false → start_bit (slice_index statuses 17) ≡ false
    → begun statuses ≡ ended (enhanced_message (take 18 statuses)) 17
unfolding begun
begun-whole statuses long clear last =
    let more : nat_le (length statuses) 12 ≡ false = above (length statuses) 12 (omega arith) in
    let whole : nat_le (length statuses) 17 ≡ false = above (length statuses) 17 long in
    rw (more, clear, whole, last) refl

-- ---- how reading goes on
pub finds-first : (status : ℕ) (later : List ℕ) → enhanced_found tt status later ≡ begun_at (status ∷ later)
unfolding enhanced_found
finds-first status later = refl

pub waits-none : (kept : List ℕ) → begun_at kept ≡ Waiting [] → (read_past enhanced_found 0 tt kept ≡ []) × (end_past enhanced_found 0 tt kept ≡ [])
waits-none [] waits = (read-nil enhanced_found tt, end-nil enhanced_found tt)
waits-none (status ∷ later) waits =
    let finds = finds-first status later ∙ waits in (read-waits enhanced_found tt status later [] finds, end-waits enhanced_found tt status later [] finds)

pub reads-waiting : (kept : List ℕ) → begun_at kept ≡ Waiting [] → enhanced_reading kept ≡ []
unfolding enhanced_reading
reads-waiting kept waits = (waits-none kept waits).0

pub reads-skipped : (status : ℕ) (later : List ℕ) → begun_at (status ∷ later) ≡ skipped → enhanced_reading (status ∷ later) ≡ enhanced_reading later
unfolding enhanced_reading
reads-skipped status later skips = read-told enhanced_found tt tt status [] later [] (finds-first status later ∙ skips)

pub reads-ended : (kept rest : List ℕ) (step : SerialStep) (used : ℕ) → suc used ≡ length kept → begun_at (kept ++ rest) ≡ ended step used → enhanced_reading (kept ++ rest) ≡ step ∷ enhanced_reading rest
unfolding enhanced_reading
reads-ended [] rest step used long ends = absurd (omega arith)
reads-ended (first ∷ later) rest step used long ends =
    let same : used ≡ length later = omega arith in
    read-told enhanced_found tt tt first later rest (step ∷ []) (finds-first first (later ++ rest) ∙ ends ∙ ap (ended step) same)
