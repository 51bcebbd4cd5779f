use Rattle.std.proofs.Common.{◌≡◌}
use Rattle.xdg_domain.specs.Shapes.{shape}
use Rattle.xdg_terms.specs.Built.{texts_at}
use Rattle.xdg_terms.specs.Means.{fulfils}
use Rattle.xdg_terms.proofs.generators.generated.Given as goal
use Rattle.xdg_facts.specs.Rises.{numbers_below}

abbrev pub invariant-loop-number : goal.invariant-loop-number
invariant-loop-number l = l.numbers.items ≡ numbers_below l.number (λ n. fulfils (texts_at (shape l.fn.ty) n) l.fn.generator.kind)
