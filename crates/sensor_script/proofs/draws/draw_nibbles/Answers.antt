-- Each nibble is drawn by a word.
use Rattle.std.proofs.Common.{◌<◌, length, ap, subst, sym, arith}
use Rattle.std.specs.List.{All}
use Rattle.std.proofs.lemmas.List.Elements.{All-nil, All-push}
use Rattle.sensor_script.proofs.DrawnValues.{adds-end, adds-one, adds-start}
use Rattle.sensor_script.proofs.draws.draw_nibbles.Goals as goal

pub loop-init : goal.loop-init
loop-init c = record {
  adds = adds-start c.args.count c.args.wobble.now c.new-nibbles.result.items c.new-nibbles.ensures;
  as_many = ap length c.new-nibbles.ensures;
  each = subst (All (λ nibble. nibble < 16)) (sym c.new-nibbles.ensures) (All-nil (λ nibble. nibble < 16));
}

pub push-requires : goal.push-requires
push-requires c = (omega arith, omega (arith, c.loop.invariant.as_many))

pub loop-preserved : goal.loop-preserved
loop-preserved c = record {
  adds = adds-one c.args.count c.loop.counter c.loop.wobble c.draw_nibble.new.wobble c.draw_nibble.result c.loop.nibbles.items c.push.new.self.items _ _ c.loop.invariant.adds c.loop-test.true c.draw_nibble.ensures.value c.draw_nibble.ensures.next c.push.ensures.items;
  as_many = omega (arith, c.push.ensures.len, c.loop.invariant.as_many);
  each = subst (All (λ nibble. nibble < 16)) (sym c.push.ensures.items) (All-push (λ nibble. nibble < 16) c.loop.nibbles.items c.draw_nibble.result c.loop.invariant.each c.draw_nibble.ensures.below);
}

pub returns-clause-nibbles : goal.returns-clause-nibbles
returns-clause-nibbles c = (adds-end c.args.count c.loop.counter _ _ _ _ c.loop.invariant.adds (omega arith)).0

pub returns-clause-next : goal.returns-clause-next
returns-clause-next c = (adds-end c.args.count c.loop.counter _ _ _ _ c.loop.invariant.adds (omega arith)).1

pub returns-clause-as_many : goal.returns-clause-as_many
returns-clause-as_many c = omega (arith, c.loop.invariant.as_many)

pub returns-clause-each : goal.returns-clause-each
returns-clause-each c = c.loop.invariant.each
