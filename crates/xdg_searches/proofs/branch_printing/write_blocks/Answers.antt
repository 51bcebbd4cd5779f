use Rattle.std.proofs.Common.{◌+◌, ap}
use Rattle.std.proofs.lemmas.List.{drop_all}
use Rattle.xdg_io.proofs.Parts.{next_by, stop_by, ends}
use Rattle.xdg_split.specs.Printed.{blocks}
use Rattle.xdg_searches.proofs.Branching.{blocks_from}
use Rattle.xdg_searches.proofs.branch_printing.write_blocks.Goals as goal

pub returns-in_err-write_analysis : goal.returns-in_err-write_analysis
returns-in_err-write_analysis g c =
    stop_by _ (blocks_from c.args.form c.args.problem.now c.args.found.now c.loop-place.place c.index-found-place.result c.loop-place-test.true c.index-found-place.is) c.loop-place.invariant c.from_residual.ensures.0 c.in_err-write_analysis.ensures

pub loop-place-preserved : goal.loop-place-preserved
loop-place-preserved g c =
    next_by (blocks_from c.args.form c.args.problem.now c.args.found.now c.loop-place.place c.index-found-place.result c.loop-place-test.true c.index-found-place.is) c.loop-place.invariant c.in_ok-write_analysis.ensures

pub returns : goal.returns
returns g c = ends c.loop-place.invariant (ap (blocks c.args.form c.args.problem.now (c.loop-place.place + 1)) (drop_all c.loop-place.place c.args.found.now c.loop-place-test.false))
