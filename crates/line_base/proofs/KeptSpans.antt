-- The cells of the spans that are kept.
--     kept_more      one span more
--     kept-all      all spans at once
use Rattle.std.proofs.Common.{◌≡◌, ℕ, suc, ◌+◌, ◌-◌, ◌<◌, ◌≤◌, List, [], ◌∷◌, ◌++◌, length, take, drop, replicate, refl, sym, subst, ◌∙◌, ap, ap₂, arith}
use Rattle.std.proofs.Math.ListN.{set}
use Rattle.std.proofs.lemmas.List.{drop-replicate, length-append, take_at}
use Rattle.line_base.specs.declared.edge.Span.{Span}
use Rattle.line_base.specs.Spans.{IsKept, no_span}

set_at : (spans : List Span) (more : ℕ) (span : Span) → set (spans ++ replicate (suc more) no_span) (length spans) span ≡ (spans ++ span ∷ []) ++ replicate more no_span
set_at [] more span = refl
set_at (s ∷ spans) more span = ap (λ l. s ∷ l) (set_at spans more span)

pub kept_more : (cells : List Span) (count : ℕ) (span : Span) → IsKept cells count → length (take count cells) < 8 → IsKept (set cells count span) (count + 1)
kept_more cells count span h room =
    let spans = take count cells in
    let more = 7 - length spans in
    let rest : 8 - length spans ≡ suc more = omega arith in
    let after : set cells count span ≡ (spans ++ span ∷ []) ++ replicate more no_span =
    ap₂ (λ l n. set l n span) (h.padded ∙ ap (λ n. spans ++ replicate n no_span) rest) h.counted ∙ set_at spans more span in
    let long : length (spans ++ span ∷ []) ≡ count + 1 = omega (arith, length-append spans (span ∷ []), h.counted) in
    let front : take (count + 1) (set cells count span) ≡ spans ++ span ∷ [] =
    ap (take (count + 1)) after ∙ take_at (spans ++ span ∷ []) (replicate more no_span) (count + 1) long in
    let all : length (take (count + 1) (set cells count span)) ≡ count + 1 = ap length front ∙ long in
    let behind : more ≡ 8 - length (take (count + 1) (set cells count span)) = omega (arith, all, h.counted) in
    record {
      few = omega (arith, all, h.counted);
      padded = after ∙ ap₂ (λ l n. l ++ replicate n no_span) (sym front) behind;
      counted = sym all;
    }

-- at most eight spans, put at the front of empty cells
pub kept-all : (spans : List Span) (count : ℕ) → count ≡ length spans → length spans ≤ 8 → IsKept (spans ++ drop count (replicate 8 no_span)) count
kept-all spans count counted few =
    let front : take count (spans ++ drop count (replicate 8 no_span)) ≡ spans = take_at spans (drop count (replicate 8 no_span)) count (sym counted) in
    record {
      few = subst (λ (l : List Span). length l ≤ 8) (sym front) few;
      padded = ap₂ (λ (l r : List Span). l ++ r) (sym front) (drop-replicate count 8 no_span ∙ ap (λ n. replicate (8 - n) no_span) (counted ∙ ap length (sym front)));
      counted = counted ∙ ap length (sym front);
    }
