use Rattle.std.proofs.Common.{arith, ap, slice_index}
use Rattle.xdg_problem.specs.declared.parts.Parts.{Parts}
use Rattle.xdg_problem.specs.Vectors.{shape}
use Rattle.xdg_stream.proofs.Sized.{size_small}
use Rattle.xdg_stream.proofs.forced.alone.Goals as goal

pub overflow_cast-size : goal.overflow_cast-size
overflow_cast-size c =
    let small = size_small c.args.store.now.parts c.args.at c.requires.known.problem c.requires.within in
    let same = ap (λ (p : Parts). slice_index (shape p) c.args.at) c.problem-problem.ensures.parts in
    let is = c.value_count-size.ensures in
    omega (arith, small, is, same)
