use Rattle.std.proofs.Common.{refl}
use Rattle.text_lines.proofs.Feeding.{begins, is_begun}
use Rattle.text_lines.proofs.reader.LineReader.begin.Goals as goal

pub returns-then-self : goal.returns-then-self
returns-then-self c = λ seen going. begins c.args.self.now _ seen going c.if-self.true refl refl c.clear.ensures refl c.saturating_add-self.ensures

pub returns-else-self : goal.returns-else-self
returns-else-self c = λ seen going. is_begun c.args.self.now seen going c.if-self.false
