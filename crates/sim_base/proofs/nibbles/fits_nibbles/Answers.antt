-- All nibbles are below 16.
use Rattle.std.proofs.Common.{◌<◌, ap₂, ap, subst, ◌∙◌, length}
use Rattle.std.specs.Prelude.{nat_eq}
use Rattle.std.specs.List.{All}
use Rattle.sim_base.specs.FittingNibbles.{are_nibbles}
use Rattle.sim_base.proofs.FittingNibbles.{also, nibbles-are}
use Rattle.sim_base.proofs.nibbles.fits_nibbles.Goals as goal

pub returns : goal.returns
returns c =
    let nibbles = c.args.frame.now.nibbles in
    ap₂ nat_eq (ap length c.values.ensures.values) (c.from.ensures ∙ c.nibbles.ensures.value)
    ∙ also _ (are_nibbles nibbles) (nibbles-are nibbles (subst (λ l. All (λ n. n < 16) l) c.values.ensures.values c.values.ensures.nibbles.each))
