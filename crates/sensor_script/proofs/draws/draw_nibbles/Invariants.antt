-- What is there and the nibbles that are left come to all that is promised.
use Rattle.std.proofs.Common.{◌≡◌, ◌<◌}
use Rattle.std.specs.List.{All}
use Rattle.arrayvec.specs.ArrayVec.{array_vec_len}
use Rattle.sensor_script.specs.Draws.{nibbles_by}
use Rattle.sim_base.specs.Wobbles.{past}
use Rattle.sensor_script.proofs.DrawnValues.{AddsNibbles}
use Rattle.sensor_script.proofs.draws.draw_nibbles.Given as goal

abbrev pub invariant-loop : goal.invariant-loop
invariant-loop l = record {
  adds : AddsNibbles l.count l.counter l.wobble l.nibbles.items (nibbles_by l.fn.count l.fn.wobble) (past l.fn.count l.fn.wobble);
  as_many : array_vec_len l.nibbles ≡ l.counter;
  each : All (λ nibble. nibble < 16) l.nibbles.items;
}
