use Rattle.std.proofs.Common.{ap, ◌∙◌}
use Rattle.xdg_domain.proofs.sets.SetOf.contains.Goals as goal
use Rattle.xdg_facts.specs.Rises.{has}
use Rattle.xdg_facts.proofs.Sorting.{any_has}

pub returns-clause-value : goal.returns-clause-value
returns-clause-value c = c.contains.ensures.value ∙ any_has c.as_slice.result.now c.args.number ∙ ap (λ s. has s c.args.number) (c.as_slice.ensures.value ∙ c.self.view_is)
