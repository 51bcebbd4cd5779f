use Rattle.std.proofs.Common.{ap}
use Rattle.std.proofs.lemmas.List.{drop_all}
use Rattle.xdg_io.proofs.Parts.{next_by, stop_by, ends}
use Rattle.xdg_reports.specs.VerdictsText.{items_text}
use Rattle.xdg_reports.proofs.Verdicted.{items_from}
use Rattle.xdg_reports.proofs.conditions.write_items.Goals as goal

pub returns-in_err-write_item : goal.returns-in_err-write_item
returns-in_err-write_item g c =
    stop_by _ (items_from c.args.labels.now c.args.condition c.args.numbers.now c.loop-place.place c.loop-place-test.true) c.loop-place.invariant c.from_residual.ensures.0 c.in_err-write_item.ensures

pub loop-place-preserved : goal.loop-place-preserved
loop-place-preserved g c =
    next_by (items_from c.args.labels.now c.args.condition c.args.numbers.now c.loop-place.place c.loop-place-test.true) c.loop-place.invariant c.in_ok-write_item.ensures

pub returns : goal.returns
returns g c = ends c.loop-place.invariant (ap (items_text c.args.labels.now c.args.condition c.loop-place.place) (drop_all c.loop-place.place c.args.numbers.now c.loop-place-test.false))
