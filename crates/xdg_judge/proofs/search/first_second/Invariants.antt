use Rattle.std.proofs.Common.{ℕ, ◌<◌}
use Rattle.xdg_judge.specs.Searching.{tuple_for}
use Rattle.xdg_judge.specs.Verdicts.{AsksHere}
use Rattle.xdg_judge.proofs.search.first_second.Given as goal

abbrev pub invariant-loop-x : goal.invariant-loop-x
invariant-loop-x l = (b : ℕ) → b < l.x → (c : ℕ) → c < l.last → AsksHere l.view.parts.now l.view.group.now l.view.analysis.now l.condition (tuple_for l.condition l.u b c)
