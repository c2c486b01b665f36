-- One bit more, and all of them.
use Rattle.std.proofs.Common.{◌≡◌, ◌%◌, ◌∙◌, nat_eq, if◌then◌else◌, length-set, arith}
use Rattle.sent_serial.proofs.EnhancedMessages.{at_even, at_odd, checked_all, checked_more}
use Rattle.sent_serial.proofs.enhanced.checked.Goals as goal
use Rattle.sent_serial.proofs.enhanced.checked.Goals.{then-place-eq0, else-place-eq0}

pub loop-place-preserved : goal.loop-place-preserved
loop-place-preserved c =
    let place = c.loop-place.place in
    let register = c.if-place-eq0.register in
    let is : register ≡ (if nat_eq (place % 2) 0 then c.args.values else c.args.starts) = elim c.if-place-eq0.branch [
      | then-place-eq0 w ↦ at_even place register c.args.values c.args.starts w.if-place-eq0.true w.register-is
      | else-place-eq0 w ↦ at_odd place register c.args.values c.args.starts w.if-place-eq0.false w.register-is
    ] in
    record {
      long = length-set c.loop-place.bit-items place c.has_bit.result ∙ c.loop-place.invariant.long;
      each = checked_more c.args.values c.args.starts place register c.loop-place.bit-items c.has_bit.result is c.has_bit.ensures (omega (arith, c.loop-place.invariant.long)) c.loop-place.invariant.each;
    }

pub returns : goal.returns
returns c = checked_all c.args.values c.args.starts c.loop-place.bit-items c.loop-place-test.array_long (λ k below. c.loop-place.invariant.each k (omega arith))
