use Rattle.std.proofs.Common.{decimal, lit<}
use Rattle.report_text.specs.Decimals.{two_digits}
use Rattle.report_text.specs.Reports.{says, report_text}
use Rattle.report_text.proofs.Cutting.{written}
use Rattle.report_text.proofs.line.write_report.Goals as goal

pub returns-clause-text : goal.returns-clause-text
unfolding report_text
returns-clause-text c =
    written (two_digits c.args.channel) (decimal c.args.report.now.place) (says c.args.report.now.what) c.args.out.now.bytes c.push_channel.new.out.bytes c.push.new.self.bytes c.push_decimal.new.out.bytes c.push_what.new.out.bytes
    c.requires.empty c.push_channel.ensures.bytes (c.push.ensures.ascii (lit< tt)) c.push_decimal.ensures.bytes c.push_what.ensures.bytes
