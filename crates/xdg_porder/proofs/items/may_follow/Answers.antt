use Rattle.std.proofs.Common.{arith}
use Rattle.xdg_problem.specs.Arguments.{first_dim}
use Rattle.xdg_problem.specs.Boxes.{May}
use Rattle.xdg_porder.proofs.Following.{follow_exact, follow_none}
use Rattle.xdg_porder.proofs.items.may_follow.Goals as goal

pub returns-then-label-label_count-clause-exact : goal.returns-then-label-label_count-clause-exact
returns-then-label-label_count-clause-exact c = follow_none (May c.args.store.now.parts c.args.store.now.now) c.args.store.now.parts (first_dim c.args.group.now) c.args.u.0 c.args.label.0 c.empty.result c.empty.ensures.value (let e = c.label_count.ensures.count in let t = c.if-label-label_count.true in omega (arith, e, t))

pub returns-clause-exact : goal.returns-clause-exact
returns-clause-exact c = follow_exact (May c.args.store.now.parts c.args.store.now.now) c.args.store.now.parts c.dim_of.result.0 (first_dim c.args.group.now) c.args.u.0 c.args.label.0 c.daughters_may.result c.dim_of.ensures c.requires (let e = c.label_count.ensures.count in let t = c.if-label-label_count.false in omega (arith, e, t)) c.daughters_may.ensures.exact
