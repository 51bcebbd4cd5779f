use Rattle.std.proofs.Common.{ℕ, ◌<◌}
use Rattle.std.specs.Prelude.{IsTrue}
use Rattle.xdg_problem.specs.declared.conditions.Condition.TheVariants as conditions
use Rattle.xdg_judge.specs.Searching.{tuple_for, second_size, third_size}
use Rattle.xdg_judge.specs.Verdicts.{AsksHere}
use Rattle.xdg_judge.proofs.Asked.{arm}
use Rattle.xdg_judge.proofs.skips.skips_two.Goals as goal

pub returns-in-Order : goal.returns-in-Order
returns-in-Order c = arm (λ k. IsTrue c.skips_order.result → (x y : ℕ) → x < second_size k c.args.view.now.parts.now c.args.view.now.group.now → y < third_size k c.args.view.now.parts.now c.args.view.now.group.now → AsksHere c.args.view.now.parts.now c.args.view.now.group.now c.args.view.now.analysis.now k (tuple_for k c.args.u x y)) c.args.condition conditions.Order c.in-Order.is c.skips_order.ensures
