-- The values of a good burst fit their widths, whatever its edges are.
--     all-fit      all bursts of a line
use Rattle.std.proofs.Common.{ℕ, zero, suc, ◌+◌, ◌*◌, ◌<◌, ◌^◌, Bool, true, false, not, if◌then◌else◌, Option, None, Some, List, [], ◌∷◌, take, drop, arith}
use Rattle.std.specs.List.{All}
use Rattle.std.proofs.Math.Nat.{pow-suc}
use Rattle.std.proofs.lemmas.List.Elements.{All-cons, All-nil}
use Rattle.line_base.specs.Edges.{NumberedEdge}
use Rattle.line_base.specs.declared.rule.Rule.TheVariants as rule
use Rattle.psi5_frame.specs.declared.burst.Burst.{Burst}
use Rattle.psi5_frame.specs.declared.burst.Burst.TheVariants.{Good, Bad}
use Rattle.psi5_frame.specs.declared.setup.Parts.{Parts}
use Rattle.psi5_frame.specs.Setup.{Settings, bit_count}
use Rattle.psi5_frame.specs.Edges.{Change, changes_of}
use Rattle.psi5_frame.specs.Frames.{low_number, payload_of, Fits}
use Rattle.psi5_frame.specs.Bursts.{Violation, edge_fault, last_of, burst_bits, checked, judged_by, judged, run_of, begins, all_bursts, bursts_at_end}
use Rattle.psi5_frame.specs.Meanings.{BurstFits}

one_bit_more : (bit : Bool) (number width : ℕ) → number < 2 ^ width → (if bit then 1 else 0) + 2 * number < 2 ^ suc width
one_bit_more true number width below = omega (arith, pow-suc 2 width)
one_bit_more false number width below = omega (arith, pow-suc 2 width)

some_power : (width : ℕ) → 0 < 2 ^ width
some_power zero = omega arith
some_power (suc width) = let below = some_power width in omega (arith, below, pow-suc 2 width)

small_number : (width : ℕ) (bits : List Bool) → low_number (take width bits) < 2 ^ width
unfolding low_number
small_number zero bits = some_power zero
small_number (suc width) [] = some_power (suc width)
small_number (suc width) (bit ∷ bits) = one_bit_more bit (low_number (take width bits)) width (small_number width bits)

fits_anyhow : (parts : Parts) (bits : List Bool) → Fits parts (payload_of parts bits)
fits_anyhow parts bits = record {
  m = small_number parts.m (drop 0 bits);
  f = small_number parts.f (drop parts.m bits);
  s = small_number parts.s (drop (parts.m + parts.f) bits);
  b = small_number parts.b (drop (parts.m + parts.f + parts.s) bits);
  a = small_number parts.a (drop (parts.m + parts.f + parts.s + parts.b) bits);
}

by_check : (s : Settings) (place : ℕ) (bits : List Bool) (t : Bool) → BurstFits s (if t then Good place (payload_of s.parts bits) else Bad place rule.Psi5Check)
by_check s place bits true = fits_anyhow s.parts bits
by_check s place bits false = tt

checked_fits : (s : Settings) (place : ℕ) (bits : List Bool) → BurstFits s (checked s place bits)
unfolding checked
checked_fits s place bits = by_check s place bits _

by_end : (s : Settings) (number : ℕ) (bits : List Bool) (whole high : Bool) → BurstFits s (if not whole then Bad number rule.TooFew else (if high then Bad number rule.EndsHigh else checked s number bits))
by_end s number bits false high = tt
by_end s number bits true true = tt
by_end s number bits true false = checked_fits s number bits

by_fault : (s : Settings) (fault : Option Violation) (whole : Burst) → BurstFits s whole → BurstFits s (judged_by fault whole)
by_fault s None whole fits = fits
by_fault s (Some violation) whole fits = tt

judged_fits : (s : Settings) (first : Change) (later : List Change) → BurstFits s (judged s first later)
unfolding judged
judged_fits s first later =
    by_fault s (edge_fault (bit_count s) first later) _ (by_end s (last_of first later).number (drop 2 (burst_bits first later)) _ (last_of first later).level)

by_first : (s : Settings) (x : Change) (edges : List Change) (b : Bool) → All (BurstFits s) (all_bursts s edges)
    → All (BurstFits s) (if b then judged s x (run_of edges) ∷ all_bursts s edges else all_bursts s edges)
by_first s x edges true rest = All-cons (BurstFits s) (judged s x (run_of edges)) (all_bursts s edges) (judged_fits s x (run_of edges)) rest
by_first s x edges false rest = rest

all_of : (s : Settings) (edges : List Change) → All (BurstFits s) (all_bursts s edges)
unfolding all_bursts
all_of s [] = All-nil (BurstFits s)
all_of s (x ∷ edges) = by_first s x edges (begins x) (all_of s edges)

pub all-fit : (s : Settings) (edges : List NumberedEdge) → All (BurstFits s) (bursts_at_end s edges)
all-fit s edges = all_of s (changes_of s.bit edges)
