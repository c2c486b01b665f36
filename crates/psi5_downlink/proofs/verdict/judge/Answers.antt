-- What an interval comes to.
use Rattle.std.proofs.Common.{length, ◌∙◌, ap, rules}
use Rattle.psi5_downlink.specs.Frames as frames
use Rattle.psi5_downlink.specs.Reading as reading
use Rattle.psi5_downlink.proofs.Judging.{all_groups, due_more, verdict-broken, verdict-none, verdict-unfinished, verdict-whole}
use Rattle.psi5_downlink.proofs.verdict.judge.Goals as goal

pub returns-then-periods-eq0-clause-value : goal.returns-then-periods-eq0-clause-value
returns-then-periods-eq0-clause-value c = rw c.if-periods-eq0.true (verdict-none c.args.form c.args.bits)

pub returns-in-Some-clause-value : goal.returns-in-Some-clause-value
returns-in-Some-clause-value c =
    verdict-broken c.args.form c.args.bits c.push_interval.new.bits c.args.periods c.in-Some.rule c.if-periods-eq0.false c.push_interval.ensures (search (rules, c.in-Some.ensures, c.as_slice.ensures.value))

pub returns-then-as_slice-frame_length-clause-value : goal.returns-then-as_slice-frame_length-clause-value
returns-then-as_slice-frame_length-clause-value c =
    verdict-unfinished c.args.form c.args.bits c.push_interval.new.bits c.args.periods c.if-periods-eq0.false c.push_interval.ensures (search (rules, c.in_default.ensures, c.as_slice.ensures.value))
    (λ all. search (rules, c.if-as_slice-frame_length.true, c.as_slice-2.ensures.value, c.frame_length.ensures.value, all))

pub returns-then-as_slice-frame_length-clause-due : goal.returns-then-as_slice-frame_length-clause-due
returns-then-as_slice-frame_length-clause-due c = record {
  due =
      due_more c.args.form c.args.periods c.args.bits c.push_interval.new.bits c.push_interval.ensures c.requires.due (search (rules, c.in_default.ensures, c.as_slice.ensures.value))
      (λ all. search (rules, c.if-as_slice-frame_length.true, c.as_slice-2.ensures.value, c.frame_length.ensures.value, all));
  allowed = search (rules, c.in_default.ensures, c.as_slice.ensures.value);
}

pub checked_groups-requires : goal.checked_groups-requires
checked_groups-requires c =
    ap length (c.as_slice-4.ensures.value ∙ c.without_ones.ensures ∙ ap frames.without_ones (c.split_at.ensures.back))
    ∙ all_groups c.args.form c.as_slice-3.result.now (search (rules, c.if-as_slice-frame_length.false, c.as_slice-2.ensures.value, c.as_slice-3.ensures.value, c.frame_length.ensures.value))

pub returns-clause-value : goal.returns-clause-value
returns-clause-value c =
    c.checked_groups.ensures
    ∙ ap (reading.checked_groups c.args.form) (c.as_slice-4.ensures.value ∙ c.without_ones.ensures ∙ ap frames.without_ones c.split_at.ensures.back)
    ∙ verdict-whole c.args.form c.args.bits c.as_slice-3.result.now c.args.periods c.if-periods-eq0.false (c.as_slice-3.ensures.value ∙ c.push_interval.ensures)
    (search (rules, c.in_default.ensures, c.as_slice.ensures.value, c.as_slice-3.ensures.value))
    (search (rules, c.if-as_slice-frame_length.false, c.as_slice-2.ensures.value, c.as_slice-3.ensures.value, c.frame_length.ensures.value))
