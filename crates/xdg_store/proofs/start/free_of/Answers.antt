use Rattle.std.proofs.Common.{◌<◌, length, arith}
use Rattle.xdg_problem.specs.Vectors.{shape}
use Rattle.xdg_store.proofs.Room.{free_step, some_values}
use Rattle.xdg_store.proofs.start.free_of.Goals as goal

pub overflow_sub-free : goal.overflow_sub-free
overflow_sub-free c =
    let l : c.loop-at.at < length (shape c.args.problem.now) = (let t = c.loop-at-test.true in let f = c.requires.first in omega (arith, t, f)) in
    some_values c.args.problem.now c.loop-at.at c.value_count.result c.requires.problem l c.value_count.ensures

pub loop-at-preserved : goal.loop-at-preserved
loop-at-preserved c =
    let l : c.loop-at.at < length (shape c.args.problem.now) = (let t = c.loop-at-test.true in let f = c.requires.first in omega (arith, t, f)) in
    free_step c.args.problem.now c.loop-at.at c.loop-at.free c.value_count.result c.requires.problem l c.value_count.ensures c.loop-at.invariant

pub overflow_add-free : goal.overflow_add-free
overflow_add-free c =
    let h = (loop-at-preserved c).1 in
    let t = c.loop-at-test.true in
    let f = c.requires.few in
    omega (arith, h, t, f)
