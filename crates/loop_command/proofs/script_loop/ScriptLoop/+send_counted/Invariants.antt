use Rattle.std.proofs.Common.{if◌then◌else◌}
use Rattle.sensor_script.specs.Scripts.{script_next}
use Rattle.sensor_script.specs.Counted.{is_counted}
use Rattle.loop_command.proofs.script_loop.ScriptLoop.+send_counted.Given as goal

abbrev pub decreases-send_counted : goal.decreases-send_counted
decreases-send_counted l = if is_counted (script_next l.self.now.script).message then 0 else 1
