-- One more channel behind those that are kept.
use Rattle.std.proofs.Common.{◌≡◌, ℕ, suc, ◌+◌, ◌-◌, ◌<◌, ◌≤◌, List, [], ◌∷◌, ◌++◌, length, take, replicate, sym, ap, ◌∙◌, append_assoc, length-append, arith}
use Rattle.std.proofs.Math.ListN.{set}
use Rattle.std.proofs.Math.Seq.{set-append_seam, take-append_seam}
use Rattle.receiver_core.specs.declared.setup.ChannelSetup.{ChannelSetup}
use Rattle.link_words.specs.Setups.{padded, IsKept}

kept_behind : (cells front : List ChannelSetup) (count : ℕ) (setup : ChannelSetup) → length front ≡ count → padded front ≡ cells → 1 ≤ count → count < 16 → IsKept (set cells count setup) (count + 1)
kept_behind cells [] count setup counted filled some few = absurd (omega arith)
kept_behind cells (first ∷ others) count setup counted filled some few =
    let front : List ChannelSetup = first ∷ others in
    let rest : List ChannelSetup = replicate (15 - length front) first in
    let room : 16 - length front ≡ suc (15 - length front) = omega arith in
    let split : cells ≡ front ++ (first ∷ rest) = sym filled ∙ ap (λ (n : ℕ). front ++ replicate n first) room in
    let after : set cells count setup ≡ front ++ (setup ∷ rest) =
    ap (λ (c : List ChannelSetup). set c count setup) split
    ∙ ap (λ (n : ℕ). set (front ++ (first ∷ rest)) n setup) (sym counted)
    ∙ set-append_seam front first rest setup in
    let longer : List ChannelSetup = front ++ (setup ∷ []) in
    let length_longer : length longer ≡ count + 1 = length-append front (setup ∷ []) ∙ ap (λ (n : ℕ). n + 1) counted in
    let joined : front ++ (setup ∷ rest) ≡ longer ++ rest = sym (append_assoc front (setup ∷ []) rest) in
    let taken : take (count + 1) (set cells count setup) ≡ longer =
    ap (take (count + 1)) (after ∙ joined) ∙ ap (λ (n : ℕ). take n (longer ++ rest)) (sym length_longer) ∙ take-append_seam longer rest in
    let left : 16 - length longer ≡ 15 - length front = omega arith in
    record {
      some = omega arith;
      few = omega arith;
      counted = ap length taken ∙ length_longer;
      filled = ap padded taken ∙ ap (λ (n : ℕ). longer ++ replicate n first) left ∙ sym (after ∙ joined);
    }

-- the cells with one more setup behind the fewer than sixteen
pub kept_push : (cells : List ChannelSetup) (count : ℕ) (setup : ChannelSetup) → IsKept cells count → length (take count cells) < 16 → IsKept (set cells count setup) (count + 1)
kept_push cells count setup kept few = kept_behind cells (take count cells) count setup kept.counted kept.filled kept.some (omega arith)
