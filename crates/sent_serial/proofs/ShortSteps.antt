-- What stands at a status, and how short messages are read on.
use Rattle.std.proofs.Common.{◌≡◌, ℕ, ◌<◌, ◌≤◌, List, [], ◌∷◌, ◌++◌, true, false, nat_eq, nat_le, map, take, length, length-append, refl, sym, ap, ap₂, ◌∙◌, arith}
use Rattle.std.proofs.lemmas.Bool.Decides.{nat_tests}
use Rattle.std.proofs.Math.Seq.{take-length}
use Rattle.line_base.specs.declared.rule.Rule.TheVariants.{Restart}
use Rattle.sent_serial.specs.declared.step.SerialStep.TheVariants.{Bad}
use Rattle.sent_serial.specs.Statuses.{start_bit, value_bit, clear_before}
use Rattle.line_base.specs.Readings.{skipped, ended}
use Rattle.line_base.specs.Readings.Found.{Waiting}
use Rattle.line_base.proofs.Readings.{read-waits}
use Rattle.line_base.proofs.Standing.{read-all-told, read-told}
use Rattle.sent_serial.specs.Short.{short_found, short_message, short_reading}
use Rattle.sent_serial.proofs.StartBits.{clear-append, clear_none}

-- ---- what stands at a status
pub found-skipped : (status : ℕ) (later : List ℕ) → start_bit status ≡ false → short_found tt status later ≡ skipped
unfolding short_found
found-skipped status later clear = rw clear refl

few : (n : ℕ) → n < 15 → nat_le 15 n ≡ false
few n h = grind (arith, nat_tests)

many : (n : ℕ) → 15 ≤ n → nat_le 15 n ≡ true
many n h = grind (arith, nat_tests)

same : (n m : ℕ) → n ≡ m → nat_eq n m ≡ true
same n m h = grind (arith, nat_tests)

less : (n m : ℕ) → n < m → nat_eq n m ≡ false
less n m h = grind (arith, nat_tests)

pub found-waits : (status : ℕ) (later : List ℕ) → start_bit status ≡ true → clear_before later ≡ length later → length later < 15 → short_found tt status later ≡ Waiting []
unfolding short_found
found-waits status later starts all short =
    let below : nat_le 15 (clear_before later) ≡ false = few (clear_before later) (omega arith) in
    let is_all : nat_eq (clear_before later) (length later) ≡ true = same (clear_before later) (length later) all in
    rw (starts, below, is_all) refl

pub found-restart : (status : ℕ) (later : List ℕ) → start_bit status ≡ true → clear_before later < length later → clear_before later < 15 → short_found tt status later ≡ ended (Bad Restart) (clear_before later)
unfolding short_found
found-restart status later starts fewer short =
    let below : nat_le 15 (clear_before later) ≡ false = few (clear_before later) short in
    let not_all : nat_eq (clear_before later) (length later) ≡ false = less (clear_before later) (length later) fewer in
    rw (starts, below, not_all) refl

pub found-message : (status : ℕ) (later : List ℕ) → start_bit status ≡ true → 15 ≤ clear_before later → short_found tt status later ≡ ended (short_message (map value_bit (status ∷ take 15 later))) 15
unfolding short_found
found-message status later starts enough =
    let above : nat_le 15 (clear_before later) ≡ true = many (clear_before later) enough in
    rw (starts, above) refl

-- ---- what stands before a last status
pub found-again : (first status : ℕ) (clears : List ℕ) → start_bit first ≡ true → clear_before clears ≡ length clears → length clears < 15 → start_bit status ≡ true
    → short_found tt first (clears ++ status ∷ []) ≡ ended (Bad Restart) (length clears)
found-again first status clears starts all short again =
    let later = clears ++ status ∷ [] in
    let here : clear_before later ≡ length clears = clear-append clears (status ∷ []) all ∙ omega (arith, clear_none status [] again) in
    found-restart first later starts (omega (arith, length-append clears (status ∷ []))) (omega arith) ∙ ap (ended (Bad Restart)) here

pub found-whole : (first : ℕ) (later : List ℕ) → start_bit first ≡ true → clear_before later ≡ length later → length later ≡ 15
    → short_found tt first later ≡ ended (short_message (map value_bit (first ∷ later))) (length later)
found-whole first later starts all fifteen =
    let front : take 15 later ≡ later = ap (λ n. take n later) (sym fifteen) ∙ take-length later in
    found-message first later starts (omega arith) ∙ ap₂ (λ l used. ended (short_message (map value_bit (first ∷ l))) used) front (sym fifteen)

-- ---- how reading goes on
pub reads-skipped : (status : ℕ) (later : List ℕ) → start_bit status ≡ false → short_reading (status ∷ later) ≡ short_reading later
unfolding short_reading
reads-skipped status later clear = read-told short_found tt tt status [] later [] (found-skipped status later clear)

pub reads-waiting : (status : ℕ) (later : List ℕ) → start_bit status ≡ true → clear_before later ≡ length later → length later < 15 → short_reading (status ∷ later) ≡ []
unfolding short_reading
reads-waiting status later starts all short = read-waits short_found tt status later [] (found-waits status later starts all short)

pub reads-restart : (first status : ℕ) (clears : List ℕ) → start_bit first ≡ true → clear_before clears ≡ length clears → length clears < 15 → start_bit status ≡ true
    → short_reading (first ∷ clears ++ status ∷ []) ≡ Bad Restart ∷ short_reading (status ∷ [])
unfolding short_reading
reads-restart first status clears starts all short again = read-told short_found tt tt first clears (status ∷ []) (Bad Restart ∷ []) (found-again first status clears starts all short again)

-- a whole message with nothing behind it
pub reads-whole : (first : ℕ) (later : List ℕ) → start_bit first ≡ true → clear_before later ≡ length later → length later ≡ 15 → short_reading (first ∷ later) ≡ short_message (map value_bit (first ∷ later)) ∷ []
unfolding short_reading
reads-whole first later starts all fifteen = read-all-told short_found tt tt first later (short_message (map value_bit (first ∷ later)) ∷ []) (found-whole first later starts all fifteen)
