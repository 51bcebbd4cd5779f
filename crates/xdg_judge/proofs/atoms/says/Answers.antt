use Rattle.xdg_judge.proofs.AtomFacts.{no_row, no_truth, the_truth}
use Rattle.xdg_judge.proofs.atoms.says.Goals as goal

pub returns-in_default : goal.returns-in_default
returns-in_default c = no_row c.args.table.now c.args.node c.args.candidate c.in_default.ensures

pub returns-in-Some-get : goal.returns-in-Some-get
returns-in-Some-get c = the_truth c.args.table.now c.args.node c.args.candidate c.in-Some.row.now c.in-Some-get.truth.now c.in-Some.ensures c.in-Some-get.ensures

pub returns-in-None : goal.returns-in-None
returns-in-None c = no_truth c.args.table.now c.args.node c.args.candidate c.in-Some.row.now c.in-Some.ensures c.in-None.ensures
