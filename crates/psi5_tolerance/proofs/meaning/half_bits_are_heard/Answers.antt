-- Each kind of interval.
use Rattle.std.proofs.Common.{arith}
use Rattle.psi5_tolerance.proofs.Intervals.{bounds-accepted, one_half, two_halves, between_frames, from_opening}
use Rattle.psi5_tolerance.proofs.meaning.half_bits_are_heard.Goals as goal

pub returns : goal.returns
returns c = record {
  one = λ s half ideal recorded next accepted h at later. one_half s.bit s.jitter half ideal recorded next (bounds-accepted s accepted) h at later;
  two = λ s half ideal recorded next accepted h at later. two_halves s.bit s.jitter half ideal recorded next (bounds-accepted s accepted) h at later;
  quiet = λ s half last end recorded start next accepted h ends at apart later.
      between_frames s.bit s.jitter half end recorded start next (bounds-accepted s accepted) h (omega (arith, at.not_too_late, ends)) apart later;
  opened = λ s half ideal opening next halves accepted h few opens later. from_opening s.bit s.jitter half ideal opening next halves (bounds-accepted s accepted) h few opens later;
}
