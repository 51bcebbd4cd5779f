use Rattle.std.proofs.Common.{◌<◌, ◌+◌, ◌*◌, ℕ, length, get_or}
use Rattle.xdg_problem.specs.Arguments.{no_attr}
use Rattle.xdg_store.specs.Singles.{IsAlone}
use Rattle.xdg_store.proofs.single.are_attrs_alone.Given as goal

abbrev pub invariant-loop-attr : goal.invariant-loop-attr
invariant-loop-attr l = (k : ℕ) → k < l.attr → IsAlone l.trail.words (l.start + k * 1024) (length (get_or l.attrs k no_attr).values)
