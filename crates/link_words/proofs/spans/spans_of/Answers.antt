use Rattle.std.proofs.Common.{None, length, sym, ◌∙◌, ap, arith}
use Rattle.line_base.proofs.Cuts.{less_left_of}
use Rattle.link_words.proofs.SpanLists.{so_far_at, parts_some, one_more, bad_part, ninth_part, all_read}
use Rattle.link_words.proofs.spans.spans_of.Goals as goal

pub returns-then-as_slice-eq-MAX_SPANS : goal.returns-then-as_slice-eq-MAX_SPANS
returns-then-as_slice-eq-MAX_SPANS c =
    let so_far = so_far_at _ _ _ _ _ c.spans.invariant c.in-Some.is in
    ninth_part _ _ c.in-Some.text.now _ so_far (sym (ap length c.as_slice.ensures.value) ∙ c.if-as_slice-eq-MAX_SPANS.true) (parts_some c.in-Some.text.now)

pub returns-in_err-span_of : goal.returns-in_err-span_of
returns-in_err-span_of c =
    let so_far = so_far_at _ _ _ _ _ c.spans.invariant c.in-Some.is in
    rw c.from_residual-in_err-span_of.ensures (bad_part _ _ c.in-Some.text.now _ _ _ so_far c.cut.ensures c.in_err-span_of.ensures)

pub spans-smaller : goal.spans-smaller
spans-smaller c = less_left_of 47 _ _ _ _ c.in-Some.is c.cut.ensures

pub spans-preserved : goal.spans-preserved
spans-preserved c =
    let so_far = so_far_at _ _ _ _ _ c.spans.invariant c.in-Some.is in
    let same = ap length c.as_slice.ensures.value in
    one_more _ _ c.in-Some.text.now _ _ _ _ _ so_far c.cut.ensures c.in_ok-span_of.ensures (omega (arith, same)) c.push.ensures

pub returns : goal.returns
returns c = all_read _ _ _ (so_far_at _ _ _ _ None c.spans.invariant c.in_default.is)
