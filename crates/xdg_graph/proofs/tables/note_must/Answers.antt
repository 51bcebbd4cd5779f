use Rattle.std.proofs.Common.{arith}
use Rattle.xdg_problem.specs.Paths.{IsDaughter}
use Rattle.xdg_graph.specs.declared.which.Which.TheVariants as whichs
use Rattle.xdg_graph.specs.Edges.{edges_of}
use Rattle.xdg_graph.proofs.Adding.{below_end, below_more, below_none, below_skip, blank_none}
use Rattle.xdg_graph.proofs.ByRow.{no_label_must, without_labels}
use Rattle.xdg_graph.proofs.tables.note_must.Goals as goal

pub returns-then-labels-eq0-clause-exact : goal.returns-then-labels-eq0-clause-exact
returns-then-labels-eq0-clause-exact c = blank_none (IsDaughter (edges_of whichs.Must c.args.store.now.parts c.args.store.now.now c.args.dim.0)) c.args.table.now c.requires.blank
    (without_labels whichs.Must c.args.store.now.parts c.args.store.now.now c.args.dim.0 c.labels_of-labels.result c.labels_of-labels.ensures.known.is_box c.labels_of-labels.ensures.count c.if-labels-eq0.true)

pub loop-daughter-preserved-then-into-eq0 : goal.loop-daughter-preserved-then-into-eq0
loop-daughter-preserved-then-into-eq0 c = below_skip (IsDaughter (edges_of whichs.Must c.args.store.now.parts c.args.store.now.now c.args.dim.0)) c.loop-daughter.daughter c.loop-daughter.table
    (no_label_must c.args.store.now.parts c.args.store.now.now c.args.dim.0 c.loop-daughter.daughter c.from.result c.labels_by_daughter-rows.result.now _ c.labels_of-labels.ensures.known.is_box c.labels_by_daughter-rows.ensures.labels (let t = c.loop-daughter-test.true in let e = c.node_count-daughter-end.ensures.size in omega (arith, t, e)) c.from.ensures c.if-into-eq0.true)
    c.loop-daughter.invariant

pub loop-daughter-init : goal.loop-daughter-init
loop-daughter-init c = below_none (IsDaughter (edges_of whichs.Must c.args.store.now.parts c.args.store.now.now c.args.dim.0)) c.args.table.now c.requires.blank

pub loop-daughter-preserved : goal.loop-daughter-preserved
loop-daughter-preserved c = below_more (IsDaughter (edges_of whichs.Must c.args.store.now.parts c.args.store.now.now c.args.dim.0)) c.loop-daughter.daughter c.mothers_with-mothers.result c.loop-daughter.table c.add_all.new.table c.mothers_with-mothers.ensures.exact c.add_all.ensures c.loop-daughter.invariant

pub returns-clause-exact : goal.returns-clause-exact
returns-clause-exact c = below_end whichs.Must c.args.store.now.parts c.args.store.now.now c.args.dim.0 c.labels_of-labels.ensures.known.is_box c.loop-daughter.daughter c.loop-daughter.table (let n = c.loop-daughter-test.false in let e = c.node_count-daughter-end.ensures.size in omega (arith, n, e)) c.loop-daughter.invariant
