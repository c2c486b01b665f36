-- The cells of the bits that are kept.
--     kept_more      one bit more
use Rattle.std.proofs.Common.{◌≡◌, ℕ, suc, ◌+◌, ◌-◌, ◌<◌, Bool, false, List, [], ◌∷◌, ◌++◌, length, take, replicate, refl, sym, ◌∙◌, ap, ap₂, arith}
use Rattle.std.proofs.Math.ListN.{set}
use Rattle.std.proofs.lemmas.List.{length-append, take_at}
use Rattle.psi5_downlink.specs.Bits.{IsKept}

set_at : (bits : List Bool) (more : ℕ) (bit : Bool) → set (bits ++ replicate (suc more) false) (length bits) bit ≡ (bits ++ bit ∷ []) ++ replicate more false
set_at [] more bit = refl
set_at (b ∷ bits) more bit = ap (λ l. b ∷ l) (set_at bits more bit)

pub kept_more : (cells : List Bool) (count : ℕ) (bit : Bool) → IsKept cells count → length (take count cells) < 44 → IsKept (set cells count bit) (count + 1)
kept_more cells count bit h room =
    let bits = take count cells in
    let more = 43 - length bits in
    let rest : 44 - length bits ≡ suc more = omega arith in
    let after : set cells count bit ≡ (bits ++ bit ∷ []) ++ replicate more false =
    ap₂ (λ l n. set l n bit) (h.padded ∙ ap (λ n. bits ++ replicate n false) rest) h.counted ∙ set_at bits more bit in
    let long : length (bits ++ bit ∷ []) ≡ count + 1 = omega (arith, length-append bits (bit ∷ []), h.counted) in
    let front : take (count + 1) (set cells count bit) ≡ bits ++ bit ∷ [] =
    ap (take (count + 1)) after ∙ take_at (bits ++ bit ∷ []) (replicate more false) (count + 1) long in
    let all : length (take (count + 1) (set cells count bit)) ≡ count + 1 = ap length front ∙ long in
    let left : more ≡ 44 - length (take (count + 1) (set cells count bit)) = omega (arith, all, h.counted) in
    record {
      few = omega (arith, all, h.counted);
      padded = after ∙ ap₂ (λ l n. l ++ replicate n false) (sym front) left;
      counted = sym all;
    }
