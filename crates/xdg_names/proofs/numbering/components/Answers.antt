use Rattle.std.proofs.Common.{◌≡◌, length, arith}
use Rattle.xdg_names.proofs.Numbered.{numbered}
use Rattle.xdg_names.proofs.numbering.components.Goals as goal

pub returns : goal.returns
returns c =
    let end : c.loop-root.root ≡ length c.args.graph.now = omega (arith, c.loop-root-test.false, c.loop-root.auto.root-end) in
    rw (c.from_vec.ensures, c.from_vec-2.ensures) (numbered _ _ _ _ _ _ _ _ c.requires.graph c.loop-root.invariant.walks c.loop-root.invariant.path (λ a h. c.loop-root.invariant.before a (omega arith)))
