use Rattle.std.proofs.Common.{ℕ}
use Rattle.std.specs.Prelude.{IsTrue}
use Rattle.xdg_problem.specs.declared.conditions.Condition.TheVariants as conditions
use Rattle.xdg_judge.specs.Searching.{tuple_for}
use Rattle.xdg_judge.specs.Verdicts.{AsksHere}
use Rattle.xdg_judge.proofs.Asked.{arm}
use Rattle.xdg_judge.proofs.skips.skips_one.Goals as goal

pub returns-in-Agree : goal.returns-in-Agree
returns-in-Agree c = arm (λ k. IsTrue c.has_no_daughter.result → (y : ℕ) → AsksHere c.args.view.now.parts.now c.args.view.now.group.now c.args.view.now.analysis.now k (tuple_for k c.args.u c.args.x y)) c.args.condition conditions.Agree c.in-Agree.is (λ t y d. absurd (c.has_no_daughter.ensures t y d))

pub returns-in-Govern : goal.returns-in-Govern
returns-in-Govern c = arm (λ k. IsTrue c.has_no_daughter-in-Govern.result → (y : ℕ) → AsksHere c.args.view.now.parts.now c.args.view.now.group.now c.args.view.now.analysis.now k (tuple_for k c.args.u c.args.x y)) c.args.condition conditions.Govern c.in-Govern.is (λ t y d. absurd (c.has_no_daughter-in-Govern.ensures t y d))

pub returns-in-Link : goal.returns-in-Link
returns-in-Link c = arm (λ k. IsTrue c.has_no_daughter-in-Link.result → (y : ℕ) → AsksHere c.args.view.now.parts.now c.args.view.now.group.now c.args.view.now.analysis.now k (tuple_for k c.args.u c.args.x y)) c.args.condition conditions.Link c.in-Link.is (λ t y d. absurd (c.has_no_daughter-in-Link.ensures t y d))
