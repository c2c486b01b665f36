-- A piece of a list, copied to the front of a buffer.
use Rattle.std.proofs.Common.{◌≡◌, ℕ, ◌+◌, ◌<◌, ◌≤◌, min, List, [], ◌++◌, length, take, drop, sym, ap, ◌∙◌, arith}
use Rattle.std.proofs.lemmas.Grind.{common_steps}
use Rattle.std.proofs.lemmas.List.{drop-drop, nil_from_length, take-append-le, take-append-drop, take-take}

-- a piece at the front of a buffer, and what follows it in the list, are the list
pub piece-front : (left behind : List ℕ) (count : ℕ) → count ≤ length left → left ≡ take count (take count left ++ behind) ++ drop count left
piece-front left behind count fits =
    let e : count ≤ length (take count left) = grind (arith, common_steps) in
    let f : take count (take count left ++ behind) ≡ take count left = take-append-le count (take count left) behind e ∙ take-take count count left (omega arith) in
    sym (ap (λ l. l ++ drop count left) f ∙ take-append-drop count left)

-- nothing taken where something fits: nothing was there
pub none-left : (left : List ℕ) (most count : ℕ) → 0 < most → count ≡ min most (length left) → count ≡ 0 → left ≡ []
none-left left most count some is none = nil_from_length left (omega arith)

-- so many elements past the first ones: what comes after the piece, and the end
pub piece-taken : (items buf new : List ℕ) (given piece count : ℕ)
    → count ≡ min (min piece (length buf)) (length (drop given items)) → new ≡ take count (drop given items)
    → 1 ≤ piece → 0 < length buf
    → (drop given items ≡ take count (new ++ drop count buf) ++ drop (given + count) items) × (count ≡ 0 → drop (given + count) items ≡ [])
piece-taken items buf new given piece count counted copied some room =
    rw (copied, ← drop-drop count given items) (
      piece-front (drop given items) (drop count buf) count (omega arith),
      λ none. rw none (none-left (drop given items) (min piece (length buf)) count (omega arith) counted none),
    )
