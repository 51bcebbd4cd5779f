use Rattle.std.proofs.Common.{◌≡◌, ◌+◌, arith}
use Rattle.xdg_problem.specs.Vectors.{first_place}
use Rattle.xdg_store.proofs.Room.{first_is, free_whole, length_first, places_few}
use Rattle.xdg_store.proofs.start.free_values.Goals as goal

the_first : (c : goal.After-free_of) → c.len-nodes.result + c.attr_count.result ≡ first_place c.args.problem.now
the_first c = first_is c.args.problem.now c.parts-parts.result.now c.len-nodes.result c.attr_count.result c.as_slice.result.now c.parts-parts.ensures.kept c.parts-parts.ensures.same c.len-nodes.ensures c.as_slice.ensures c.attr_count.ensures.count

pub overflow_add-result : goal.overflow_add-result
overflow_add-result c =
    let first = the_first c in
    let few = places_few c.args.problem.now c.parts-parts.ensures.kept in
    let all = length_first c.args.problem.now in
    let d = c.decisions.ensures in
    let s = c.free_of.ensures.small in
    omega (arith, first, few, all, d, s)

pub returns-clause-free : goal.returns-clause-free
returns-clause-free c =
    let whole = free_whole c.args.problem.now c.free_of.result (c.len-nodes.result + c.attr_count.result) (the_first c) c.free_of.ensures.free in
    let d = c.decisions.ensures in
    rw d whole
