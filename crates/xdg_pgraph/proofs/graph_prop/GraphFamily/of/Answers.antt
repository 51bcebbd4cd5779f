use Rattle.std.proofs.Common.{refl}
use Rattle.xdg_pgraph.proofs.ClassRows.{table_is}
use Rattle.xdg_pgraph.proofs.graph_prop.GraphFamily.of.Goals as goal
use Rattle.xdg_pgraph.proofs.graph_prop.GraphFamily.of.Goals.{in-Valency+in_ok-allowances-in-Valency, in_default}

pub returns : goal.returns
returns c = elim c.match-group.branch [
  | in-Valency+in_ok-allowances-in-Valency w ↦ table_is _ c.args.problem.now c.args.group.now _ c.match-group.allowances w.parts.ensures.same w.allowances-is w.in_ok-allowances-in-Valency.ensures
  | in_default w ↦ table_is c.args.problem.now c.args.problem.now c.args.group.now _ c.match-group.allowances refl w.allowances-is (w.none-allowances.ensures c.args.problem.now c.args.group.now)
]
