use Rattle.std.proofs.Common.{ℕ, ◌<◌}
use Rattle.xdg_judge.specs.Searching.{tuple_for}
use Rattle.xdg_judge.specs.Verdicts.{AsksHere}
use Rattle.xdg_judge.proofs.search.first_refused.Given as goal

abbrev pub invariant-loop-u : goal.invariant-loop-u
invariant-loop-u l = (a : ℕ) → a < l.u → (b : ℕ) → b < l.middle → (c : ℕ) → c < l.last → AsksHere l.view.parts.now l.view.group.now l.view.analysis.now l.condition (tuple_for l.condition a b c)
