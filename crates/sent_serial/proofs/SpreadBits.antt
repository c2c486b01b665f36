-- Registers spread over the statuses of frames.
--     IsSpread      a status has the bits of its place
--     spread_more      one status more
--     spread_bits, spread_two_bits      all of them
use Rattle.std.proofs.Common.{◌≡◌, ◌≢◌, ℕ, suc, ◌+◌, ◌-◌, ◌/◌, ◌%◌, ◌^◌, ◌<◌, List, [], ◌∷◌, Bool, nat_eq, get_or, map, length, refl, sym, ap, ap₂, ◌∙◌, subst, below_more, get_or-set_other, get_or-set_same, arith}
use Rattle.std.proofs.Math.ListN.{set}
use Rattle.std.proofs.lemmas.List.Elements.{All-from_get_or}
use Rattle.std.specs.List.{All}
use Rattle.link_math.specs.Division.{bits_of}
use Rattle.sent_serial.specs.Statuses.{HasTwoBits, start_bit, value_bit}

-- the status has the bits of these registers that stand so many places above the lowest
pub record IsSpread (values starts later status : ℕ) : Type 0 where
  pub value : value_bit status ≡ nat_eq (values / 2 ^ later % 2) 1
  pub start : start_bit status ≡ nat_eq (starts / 2 ^ later % 2) 1
  pub two_bits : HasTwoBits status

pub spread_more : (values starts count place status : ℕ) (statuses : List ℕ) → place < length statuses → IsSpread values starts (count - 1 - place) status
    → ((k : ℕ) → k < place → IsSpread values starts (count - 1 - k) (get_or statuses k 0))
    → (k : ℕ) → k < place + 1 → IsSpread values starts (count - 1 - k) (get_or (set statuses place status) k 0)
spread_more values starts count place status statuses within here before =
    below_more (λ (k : ℕ). IsSpread values starts (count - 1 - k) (get_or (set statuses place status) k 0)) place
    (λ k below.
    let other : k ≢ place = omega arith in
    subst (λ (s : ℕ). IsSpread values starts (count - 1 - k) s) (sym (get_or-set_other statuses place k status 0 other)) (before k below))
    (subst (λ (s : ℕ). IsSpread values starts (count - 1 - place) s) (sym (get_or-set_same statuses place status 0 within)) here)

pub spread_bits : (bit_of : ℕ → Bool) (register : ℕ) (statuses : List ℕ) → ((k : ℕ) → k < length statuses → bit_of (get_or statuses k 0) ≡ nat_eq (register / 2 ^ (length statuses - 1 - k) % 2) 1)
    → map bit_of statuses ≡ bits_of (length statuses) register
unfolding bits_of
spread_bits bit_of register [] each = refl
spread_bits bit_of register (status ∷ later) each =
    let last : suc (length later) - 1 - 0 ≡ length later = omega arith in
    ap₂ (λ bit bits. bit ∷ bits)
    (each 0 (omega arith) ∙ ap (λ n. nat_eq (register / 2 ^ n % 2) 1) last)
    (spread_bits bit_of register later (λ k below.
    let next : suc (length later) - 1 - suc k ≡ length later - 1 - k = omega arith in
    each (suc k) (omega arith) ∙ ap (λ n. nat_eq (register / 2 ^ n % 2) 1) next))

pub spread_two_bits : (values starts count : ℕ) (statuses : List ℕ) → length statuses ≡ count → ((k : ℕ) → k < count → IsSpread values starts (count - 1 - k) (get_or statuses k 0)) → All HasTwoBits statuses
spread_two_bits values starts count statuses long each = All-from_get_or HasTwoBits statuses 0 (λ k below. (each k (omega arith)).two_bits)

pub spread_values : (values starts count : ℕ) (statuses : List ℕ) → length statuses ≡ count → ((k : ℕ) → k < count → IsSpread values starts (count - 1 - k) (get_or statuses k 0)) → map value_bit statuses ≡ bits_of count values
spread_values values starts count statuses long each =
    spread_bits value_bit values statuses (λ k below. (each k (omega arith)).value ∙ ap (λ n. nat_eq (values / 2 ^ (n - 1 - k) % 2) 1) (sym long))
    ∙ ap (λ n. bits_of n values) long

pub spread_starts : (values starts count : ℕ) (statuses : List ℕ) → length statuses ≡ count → ((k : ℕ) → k < count → IsSpread values starts (count - 1 - k) (get_or statuses k 0)) → map start_bit statuses ≡ bits_of count starts
spread_starts values starts count statuses long each =
    spread_bits start_bit starts statuses (λ k below. (each k (omega arith)).start ∙ ap (λ n. nat_eq (starts / 2 ^ (n - 1 - k) % 2) 1) (sym long))
    ∙ ap (λ n. bits_of n starts) long
