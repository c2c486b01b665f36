-- The places of the bits that are left complete the waveform.
use Rattle.std.proofs.Common.{◌≡◌, ◌*◌, ◌≤◌, length, drop}
use Rattle.psi5_frame.proofs.Encoding.{PlacesAre}
use Rattle.psi5_frame.proofs.bits.edges_of.Given as goal

abbrev pub invariant-loop-bit : goal.invariant-loop-bit
invariant-loop-bit l = record {
  places : PlacesAre l.places.items l.place l.level (drop l.bit-index l.bits) l.bits;
  at : l.place ≡ 2 * l.bit-index;
  few : length l.places.items ≤ 2 * l.bit-index;
}
