use Rattle.std.proofs.Common.{ℕ, ◌<◌}
use Rattle.xdg_judge.specs.Searching.{tuple_for}
use Rattle.xdg_judge.specs.Verdicts.{AsksHere}
use Rattle.xdg_judge.proofs.search.first_third.Given as goal

abbrev pub invariant-loop-y : goal.invariant-loop-y
invariant-loop-y l = (c : ℕ) → c < l.y → AsksHere l.view.parts.now l.view.group.now l.view.analysis.now l.condition (tuple_for l.condition l.u l.x c)
