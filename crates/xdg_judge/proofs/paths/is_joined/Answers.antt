use Rattle.std.proofs.Common.{ap, get_or, []}
use Rattle.xdg_judge.specs.declared.paths.Way.TheVariants as ways
use Rattle.xdg_judge.proofs.Meeting.{led_of}
use Rattle.xdg_judge.proofs.paths.is_joined.Goals as goal

pub returns-in-Straight : goal.returns-in-Straight
returns-in-Straight c = led_of c.args.way ways.Straight c.args.links.now c.args.labels.now c.args.u c.args.v c.meets.result _ c.ends-ends.result c.in-Straight.is (ap (λ i. get_or c.args.links.now.down.by_label i []) c.from.ensures) c.ends-ends.ensures c.meets.ensures

pub returns-in-First : goal.returns-in-First
returns-in-First c = led_of c.args.way ways.First c.args.links.now c.args.labels.now c.args.u c.args.v c.meets-in-First.result _ c.ends-ends.result c.in-First.is (ap (λ i. get_or c.args.links.now.down.by_label i []) c.from-in-First.ensures) c.ends-ends.ensures c.meets-in-First.ensures

pub returns-in-Into : goal.returns-in-Into
returns-in-Into c = led_of c.args.way ways.Into c.args.links.now c.args.labels.now c.args.u c.args.v c.meets-in-Into.result _ c.ends-ends.result c.in-Into.is (ap (λ i. get_or c.args.links.now.up.by_label i []) c.from-in-Into.ensures) c.ends-ends.ensures c.meets-in-Into.ensures

pub returns-in-Last : goal.returns-in-Last
returns-in-Last c = led_of c.args.way ways.Last c.args.links.now c.args.labels.now c.args.u c.args.v c.meets-in-Last.result _ c.ends-ends.result c.in-Last.is (ap (λ i. get_or c.args.links.now.up.by_label i []) c.from-in-Last.ensures) c.ends-ends.ensures c.meets-in-Last.ensures

pub returns-in-Sister : goal.returns-in-Sister
returns-in-Sister c = led_of c.args.way ways.Sister c.args.links.now c.args.labels.now c.args.u c.args.v c.meets-in-Sister.result _ c.ends-ends.result c.in-Sister.is (ap (λ i. get_or c.args.links.now.up.by_label i []) c.from-in-Sister.ensures) c.ends-ends.ensures c.meets-in-Sister.ensures
