use Rattle.std.proofs.Common.{◌∙◌, ap, length}
use Rattle.xdg_problem.specs.Vectors.{shape}
use Rattle.xdg_stream.specs.Fronted.{Fronted}
use Rattle.xdg_stream.proofs.front.BoxFrontFront.decisions.Goals as goal

pub returns : goal.returns
returns g c = c.self.invariant.5 ∙ ap (λ (f : Fronted). length (shape f.parts)) c.self.view_is
