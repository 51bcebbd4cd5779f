use Rattle.std.proofs.Common.{ap, arith}
use Rattle.xdg_formula_value.proofs.Paired.{joined_down, joined_up, past_row}
use Rattle.xdg_formula_value.proofs.pair.joined_by.Goals as goal
use Rattle.xdg_facts.specs.Rises.{has}

pub returns-then-label-labels_of : goal.returns-then-label-labels_of
returns-then-label-labels_of c = past_row c.args.which c.args.store.now.parts c.args.store.now.now c.args.dim c.args.label c.labels_of.ensures.known.is_box c.args.node.0 c.empty.result c.args.way (let past = c.if-label-labels_of.true in let count = c.labels_of.ensures.count in omega (arith, past, count)) (λ v. ap (λ s. has s v) c.empty.ensures.value)

pub returns-in-Down : goal.returns-in-Down
returns-in-Down c = joined_down c.args.which c.args.way c.args.store.now.parts c.args.store.now.now c.args.node.0 c.daughters_by.result c.args.dim c.args.label c.in-Down.is c.daughters_by.ensures.known.is_box c.daughters_by.ensures.exact

pub returns-in-Up : goal.returns-in-Up
returns-in-Up c = joined_up c.args.which c.args.way c.args.store.now.parts c.args.store.now.now c.args.node.0 c.mothers_by.result c.args.dim c.args.label c.in-Up.is c.mothers_by.ensures.known.is_box c.mothers_by.ensures.exact
