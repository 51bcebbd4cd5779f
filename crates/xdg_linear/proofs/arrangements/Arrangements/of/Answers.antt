use Rattle.std.proofs.Common.{ap, ◌∙◌}
use Rattle.xdg_linear.specs.Ranks.{ranks_of}
use Rattle.xdg_linear.proofs.Held.{held_sorted}
use Rattle.xdg_linear.proofs.arrangements.Arrangements.of.Goals as goal

pub invariant_of-result : goal.invariant_of-result
invariant_of-result c = held_sorted c.args.words.now c.in_ok-numbers.numbers.items c.sort.new.self.items (c.in_ok-numbers.ensures ∙ ap ranks_of c.as_slice.ensures) c.sort.ensures.permutation c.in_ok-sort.ensures.sorted
