use Rattle.std.proofs.Common.{◌∙◌, [], ap, slice_index_or}
use Rattle.xdg_problem.specs.Places.{nodes}
use Rattle.xdg_pgraph.proofs.Others.{touched_in}
use Rattle.xdg_pgraph.proofs.valency.touched_nodes.Goals as goal

pub returns : goal.returns
returns c node = touched_in c.args.way c.args.touched.now c.args.label node (nodes c.args.store.now.parts) c.nodes_at-edges.result c.union-lost.result c.all_nodes.result c.meet.result
    (c.nodes_at-edges.ensures ∙ ap (λ table. slice_index_or table c.args.label []) c.side.ensures)
    c.union-lost.ensures.members c.all_nodes.ensures.members c.meet.ensures.members
