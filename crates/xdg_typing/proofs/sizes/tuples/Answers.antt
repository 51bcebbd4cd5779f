use Rattle.std.proofs.Common.{◌≤◌, subst, sym}
use Rattle.std.proofs.Math.Nat.{min-le_right}
use Rattle.xdg_typing.proofs.Products.{multiplied, all_multiplied}
use Rattle.xdg_typing.proofs.sizes.tuples.Goals as goal

pub loop-ty-preserved : goal.loop-ty-preserved
loop-ty-preserved c = record {
  small = subst (λ n. n ≤ 18446744073709551615) (sym c.times-product.ensures) (min-le_right _ _);
  is = λ names known. multiplied names _ _ _ _ _ _ _ _ c.loop-ty-test.true c.ty-item.is (c.constants_of.ensures names known) c.times-product.ensures (c.loop-ty.invariant.is names known);
}

pub returns : goal.returns
returns c = λ names known. all_multiplied names _ _ _ _ _ c.loop-ty-test.false c.loop-ty.invariant.small (c.loop-ty.invariant.is names known)
