-- The number of the bits so far.
use Rattle.std.proofs.Common.{◌≡◌, take}
use Rattle.psi5_frame.specs.Frames.{low_number}
use Rattle.psi5_frame.proofs.check.value_of.Given as goal

abbrev pub invariant-loop-place : goal.invariant-loop-place
invariant-loop-place l = l.number ≡ low_number (take l.place l.bits)
