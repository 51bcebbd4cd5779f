use Rattle.std.proofs.Common.{arith}
use Rattle.xdg_graph.proofs.Noting.{noted_start, mothers_end}
use Rattle.xdg_graph.proofs.upward.note_mothers.Goals as goal

pub loop-daughter-init : goal.loop-daughter-init
loop-daughter-init c = noted_start _ c.args.table.now c.requires.blank

pub returns-clause-exact : goal.returns-clause-exact
returns-clause-exact c = mothers_end c.args.which c.args.store.now.parts c.args.store.now.now c.args.dim.0 c.loop-daughter.daughter c.loop-daughter.table c.node_count-daughter-end.ensures.known.is_box (let n = c.loop-daughter-test.false in let e = c.node_count-daughter-end.ensures.size in omega (arith, n, e)) c.loop-daughter.invariant

pub returns-clause-rest : goal.returns-clause-rest
returns-clause-rest c a b past h =
    let n = c.loop-daughter-test.false in
    let e = c.node_count-daughter-end.ensures.size in
    c.loop-daughter.invariant.left a b (let k = c.loop-daughter.auto.daughter-end in omega (arith, n, e, past, k)) h
