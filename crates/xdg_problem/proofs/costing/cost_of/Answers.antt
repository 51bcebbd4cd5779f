use Rattle.std.proofs.Common.{arith, ◌≤◌, length, sym, subst}
use Rattle.xdg_problem.proofs.Bounded.{entries_few, edges_few}
use Rattle.xdg_problem.proofs.costing.cost_of.Goals as goal

pub entries_cost-requires : goal.entries_cost-requires
entries_cost-requires c = subst (λ es. length es ≤ 128) (sym c.as_slice.ensures) (entries_few c.args.parts.now c.args.analysis.now c.requires.problem c.requires.fits)

pub edges_cost-requires : goal.edges_cost-requires
edges_cost-requires c =
    let few = edges_few c.args.parts.now c.args.analysis.now c.requires.problem c.requires.fits in
    let exact = c.count-decisions.ensures.exact in
    let small = c.count-decisions.ensures.small in
    subst (λ es. length es ≤ 4169856) (sym c.as_slice-2.ensures) (omega (arith, few, exact, small))
