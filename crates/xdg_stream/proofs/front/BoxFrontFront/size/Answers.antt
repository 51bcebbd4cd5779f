use Rattle.std.proofs.Common.{◌<◌, arith, ap, length, slice_index, subst, sym}
use Rattle.xdg_problem.specs.declared.parts.Parts.{Parts}
use Rattle.xdg_problem.specs.Vectors.{shape}
use Rattle.xdg_stream.specs.Fronted.{Fronted}
use Rattle.xdg_stream.proofs.Sized.{size_small}
use Rattle.xdg_stream.proofs.front.BoxFrontFront.size.Goals as goal

pub overflow_cast-result : goal.overflow_cast-result
overflow_cast-result g c =
    let within = subst (λ (f : Fronted). c.args.decision < length (shape f.parts)) (sym c.self.view_is) c.requires in
    let small = size_small c.self.inside.store.parts c.args.decision c.self.invariant.0.problem within in
    let same = ap (λ (p : Parts). slice_index (shape p) c.args.decision) c.problem.ensures.parts in
    let is = c.value_count.ensures in
    omega (arith, small, is, same)
