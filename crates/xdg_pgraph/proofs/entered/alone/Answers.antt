use Rattle.std.proofs.Common.{◌∙◌, ◌==◌, ◌||◌, List, ℕ, ap}
use Rattle.xdg_facts.proofs.Truths.{or_false}
use Rattle.xdg_pgraph.proofs.entered.alone.Goals as goal
use Rattle.xdg_facts.specs.Rises.{has}

pub returns : goal.returns
returns c n = c.insert.ensures.members n ∙ ap (λ (s : List ℕ). (n == c.args.node) || has s n) c.empty-nodes.ensures.value ∙ or_false (n == c.args.node)
