use Rattle.std.proofs.Common.{◌≤◌, arith, subst}
use Rattle.xdg_searches.proofs.Branching.{upto_all, upto_more, upto_none, upto_stopped}
use Rattle.xdg_searches.proofs.searching.search.Goals as goal

pub loop-place-init : goal.loop-place-init
loop-place-init g c = upto_none c.args.problem.now c.parts-parts.ensures.kept c.args.budget c.args.first c.none-found.result.ending c.none-found.result.found.items c.none-found.ensures.ending c.none-found.ensures.found c.requires.first

pub loop-place-preserved : goal.loop-place-preserved
loop-place-preserved g c =
    upto_more c.args.problem.now c.parts-parts.ensures.kept c.args.budget c.args.first c.loop-place.place c.next_place-to.result c.loop-place.found.ending c.in_ok-found.found.ending c.loop-place.found.found.items c.in_ok-found.found.found.items
    (omega (arith, c.next_place-to.ensures.more)) (subst (λ n. c.next_place-to.result ≤ n) c.branch_count-count.ensures c.next_place-to.ensures.most) c.loop-place.invariant c.in_ok-found.ensures

pub returns-then-has_ended : goal.returns-then-has_ended
returns-then-has_ended g c = upto_stopped c.args.problem.now c.parts-parts.ensures.kept c.args.budget c.args.first c.loop-place.place c.loop-place.found.ending c.loop-place.found.found.items (c.has_ended.ensures c.if-has_ended.true) c.loop-place.invariant

pub returns : goal.returns
returns g c = upto_all c.args.problem.now c.parts-parts.ensures.kept c.args.budget c.args.first c.loop-place.place c.loop-place.found.ending c.loop-place.found.found.items (subst (λ n. n ≤ c.loop-place.place) c.branch_count-count.ensures c.loop-place-test.false) c.loop-place.invariant
