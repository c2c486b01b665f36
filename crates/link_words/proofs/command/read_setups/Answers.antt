use Rattle.std.proofs.Common.{◌≡◌, ◌<◌, map, length, string_bytes, ap, ◌∙◌, sym, arith}
use Rattle.std.proofs.lemmas.List.{length-map}
use Rattle.std.proofs.lemmas.Result.{err_from_is_err_and}
use Rattle.link_words.proofs.SpecsSoFar.{none_read, bad_first, first_read, one_more, bad_spec, too_many, all_read}
use Rattle.link_words.proofs.command.read_setups.Goals as goal

pub returns-in_default-clause-value : goal.returns-in_default-clause-value
returns-in_default-clause-value c =
    sym (none_read (map string_bytes c.args.words.now) (length-map c.args.words.now string_bytes ∙ c.in_default.ensures.cases))

pub returns-in_err-read_setup-clause-value : goal.returns-in_err-read_setup-clause-value
returns-in_err-read_setup-clause-value c =
    let p = err_from_is_err_and c.from_residual.result c.from_residual.ensures.1 in
    let read = rw c.as_bytes.ensures.value at c.in_err-read_setup.ensures.value in
    rw (p.1, p.2, c.in-Some.ensures.cases.0) (sym (bad_first (string_bytes c.in-Some.first.now) _ _ read))

pub specs-init : goal.specs-init
specs-init c =
    let read = rw c.as_bytes.ensures.value at c.in_ok-read_setup.ensures.value in
    rw (c.in-Some.ensures.cases.0, c.new-setups.ensures) (first_read (string_bytes c.in-Some.first.now) _ _ read c.in_ok-read_setup.ensures.faultless)

pub returns-then-count-eq-MAX_CHANNELS-clause-value : goal.returns-then-count-eq-MAX_CHANNELS-clause-value
returns-then-count-eq-MAX_CHANNELS-clause-value c =
    let so_far = rw c.in-Some-split_first.ensures.cases.0 at c.specs.invariant in
    let full : length c.specs.setups ≡ 16 = sym (ap length c.list-count.ensures.list) ∙ c.if-count-eq-MAX_CHANNELS.true in
    rw c.if-count-eq-MAX_CHANNELS.true (sym (too_many _ c.specs.setups (string_bytes c.in-Some-split_first.spec.now) _ so_far full))

pub returns-in_err-read_setup-2-clause-value : goal.returns-in_err-read_setup-2-clause-value
returns-in_err-read_setup-2-clause-value c =
    let p = err_from_is_err_and c.from_residual-in_err-read_setup-2.result c.from_residual-in_err-read_setup-2.ensures.1 in
    let so_far = rw c.in-Some-split_first.ensures.cases.0 at c.specs.invariant in
    let read = rw (c.as_bytes-in-Some-split_first.ensures.value, c.list-count.ensures.list) at c.in_err-read_setup-2.ensures.value in
    let room : length c.specs.setups < 16 = omega (arith, ap length c.list-count.ensures.list) in
    rw (p.1, p.2) (sym (bad_spec _ c.specs.setups (string_bytes c.in-Some-split_first.spec.now) _ _ so_far room read))

pub specs-preserved : goal.specs-preserved
specs-preserved c =
    let so_far = rw c.in-Some-split_first.ensures.cases.0 at c.specs.invariant in
    let read = rw (c.as_bytes-in-Some-split_first.ensures.value, c.list-count.ensures.list) at c.in_ok-read_setup-2.ensures.value in
    let room : length c.specs.setups < 16 = omega (arith, ap length c.list-count.ensures.list) in
    rw c.push.ensures (one_more _ c.specs.setups (string_bytes c.in-Some-split_first.spec.now) _ _ so_far room read c.in_ok-read_setup-2.ensures.faultless)

pub returns-clause-value : goal.returns-clause-value
returns-clause-value c =
    sym (all_read _ c.specs.setups (map string_bytes c.specs.rest.now) c.specs.invariant (length-map c.specs.rest.now string_bytes ∙ c.in_default-split_first.ensures.cases))
