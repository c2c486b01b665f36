use Rattle.std.proofs.Common.{◌≡◌, ◌∙◌, ap, sym, length, min, drop}
use Rattle.std.proofs.lemmas.List.{take_rest}
use Rattle.line_base.proofs.Pieces.{piece-taken}
use Rattle.line_base.proofs.memory_source.MemorySourceSource.pull.Goals as goal

pub returns-clause-bytes : goal.returns-clause-bytes
returns-clause-bytes c =
    let items = c.self.inside.bytes.items in
    let given = c.self.inside.given in
    let counted = rw (c.deref-2.ensures.value, take_rest) at c.min-count.ensures in
    let copied = rw (c.deref-2.ensures.value, take_rest) at c.copy_from_slice.ensures.after in
    let left : c.args.self.now.left ≡ drop given items = sym (ap (λ v. v.left) c.self.view_is) in
    let taken = piece-taken items c.args.buf.now c.copy_from_slice.new.self given c.self.inside.piece c.min-count.result
    (counted ∙ ap (λ n. min n (length (drop given items))) c.min.ensures) copied c.self.invariant.1 c.requires in
    (left ∙ taken.0, λ none _. taken.1 none)
