use Rattle.std.proofs.Common.{◌≡◌, false, true, refl}
use Rattle.xdg_problem.specs.declared.parts.Principle.TheVariants as principles
use Rattle.xdg_rules.specs.Rules.{BarriersReach, ClimbingReach}
use Rattle.xdg_pmulti.proofs.Swept.{not_climbing, swept}
use Rattle.xdg_pmulti.proofs.multi_prop.MultiFamily.sweep.Goals as goal

pub returns-then-is_climbing : goal.returns-then-is_climbing
returns-then-is_climbing c = swept (ClimbingReach c.args.store.now.parts c.args.group.now c.args.store.now.now) principles.Climbing c.args.group.now c.args.pass.now c.take_climbing.new.pass c.args.store.now c.take_climbing.new.store (c.if-is_climbing.ensures.0 refl) c.requires.family c.requires.group c.take_climbing.ensures.known (λ d v rule. rule) (λ d v rule. rule) c.take_climbing.ensures.clears

pub returns : goal.returns
returns c = swept (BarriersReach c.args.store.now.parts c.args.group.now c.args.store.now.now) principles.Barriers c.args.group.now c.args.pass.now c.take_barriers.new.pass c.args.store.now c.take_barriers.new.store (not_climbing c.args.group.now.principle c.requires.family (λ e. (let t : false ≡ true = c.if-is_climbing.ensures.1 e in cc))) c.requires.family c.requires.group c.take_barriers.ensures.known (λ d v rule. rule) (λ d v rule. rule) c.take_barriers.ensures.clears
