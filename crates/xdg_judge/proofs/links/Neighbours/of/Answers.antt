use Rattle.xdg_problem.specs.Paths.{edges_on}
use Rattle.xdg_judge.proofs.Closing.{far_exact}
use Rattle.xdg_judge.proofs.Gathering.{within_on, within_more}
use Rattle.xdg_judge.proofs.links.Neighbours.of.Goals as goal

pub gathered-sets-requires : goal.gathered-sets-requires
gathered-sets-requires c = within_more c.args.size 128 c.args.edges.now c.requires.within c.requires.size

pub returns : goal.returns
returns c = record {
  by_label = c.gathered-sets.ensures.by_label;
  next = c.gathered-sets.ensures.next;
  far = far_exact c.args.direction c.args.size (edges_on c.args.dim c.args.edges.now) c.gathered-sets.result.next c.closed-sets.result (within_on c.args.dim c.args.size c.args.edges.now c.requires.within) c.gathered-sets.ensures.next c.closed-sets.ensures;
}
