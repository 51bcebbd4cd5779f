use Rattle.std.proofs.Common.{◌∙◌, ap, refl, true}
use Rattle.xdg_problem.specs.declared.parts.Principle.TheVariants as principles
use Rattle.xdg_problem.specs.declared.parts.Parts.{Parts}
use Rattle.xdg_problem.specs.Arguments.{label_count}
use Rattle.xdg_pgraph.proofs.Swept.{dag_swept, lasts, tree_swept, valency_swept}
use Rattle.xdg_pgraph.proofs.graph_prop.take_all.Goals as goal

pub returns-in-None : goal.returns-in-None
returns-in-None c = tree_swept c.args.group.now c.args.pass.now c.take_tree.new.pass c.args.store.now c.take_tree.new.store c.requires.group c.requires.family c.take_tree.ensures.parts c.take_tree.ensures.known c.of-plane.result.dim.0 c.of-plane.ensures.dim c.in-Tree.is c.take_tree.ensures.runs

pub returns-in-Some : goal.returns-in-Some
returns-in-Some c = lasts c.args.group.now c.args.pass.now c.take_others.new.pass c.args.store.now c.take_others.new.store c.requires.group c.requires.family c.take_others.ensures.parts
    c.take_others.ensures.known c.of-plane.result.dim.0 c.of-plane.ensures.dim principles.Tree c.in-Tree.is tt c.in-Some.ensures.0 c.in-Some.daughters c.in-Some.ensures.1 true refl c.take_others.ensures.runs

pub returns-in-None-daughters_since : goal.returns-in-None-daughters_since
returns-in-None-daughters_since c = dag_swept c.args.group.now c.args.pass.now c.take_dag.new.pass c.args.store.now c.take_dag.new.store c.requires.group c.requires.family c.take_dag.ensures.parts c.take_dag.ensures.known c.of-plane.result.dim.0 c.of-plane.ensures.dim c.truth_of-rooted.result c.truth_of.result c.truth_of-rooted.ensures c.truth_of.ensures c.in-Dag.is c.take_dag.ensures.runs

pub returns-in-Some-daughters_since : goal.returns-in-Some-daughters_since
returns-in-Some-daughters_since c = lasts c.args.group.now c.args.pass.now c.take_others-in-Some-daughters_since.new.pass c.args.store.now c.take_others-in-Some-daughters_since.new.store
    c.requires.group c.requires.family c.take_others-in-Some-daughters_since.ensures.parts c.take_others-in-Some-daughters_since.ensures.known c.of-plane.result.dim.0 c.of-plane.ensures.dim
    principles.Dag c.in-Dag.is tt c.in-Some-daughters_since.ensures.0 c.in-Some-daughters_since.daughters c.in-Some-daughters_since.ensures.1 c.truth_of-rooted.result c.truth_of-rooted.ensures
    c.take_others-in-Some-daughters_since.ensures.runs

pub returns-in-Valency : goal.returns-in-Valency
returns-in-Valency c = valency_swept c.args.group.now c.args.pass.now c.take_counts.new.pass c.args.store.now c.take_counts.new.store c.requires.group c.requires.family c.take_counts.ensures.goes.extends.same c.take_counts.ensures.known c.of-plane.result.dim.0 c.of-plane.ensures.dim c.label_count-labels.result
    (c.label_count-labels.ensures ∙ ap (λ (parts : Parts). label_count parts c.of-plane.result.dim.0) c.requires.parts)
    c.in-Valency.is c.take_counts.ensures

pub take_counts-requires-clause-labels : goal.take_counts-requires-clause-labels
take_counts-requires-clause-labels c = c.label_count-labels.ensures ∙ ap (λ (parts : Parts). label_count parts c.of-plane.result.dim.0) c.requires.parts
