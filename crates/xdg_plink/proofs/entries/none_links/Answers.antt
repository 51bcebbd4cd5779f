use Rattle.std.proofs.Common.{refl, arith}
use Rattle.xdg_graph.proofs.Remaining.{entry_end}
use Rattle.xdg_plink.proofs.entries.none_links.Goals as goal

pub returns-clause-exact : goal.returns-clause-exact
returns-clause-exact c = (
  λ t k has. c.loop-place.invariant k (entry_end c.args.store.now c.problem.result.now c.parts.result.now c.args.u.0 k c.entry_count-place-end.result c.loop-place.place c.problem.ensures.known c.requires.u c.parts.ensures.same c.problem.ensures.parts c.entry_count-place-end.ensures.count (let n = c.loop-place-test.false in omega (arith, n)) has) has,
  λ each. refl,
)
