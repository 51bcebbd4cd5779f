use Rattle.std.proofs.Common.{get_or, arith, length, ◌≤◌}
use Rattle.std.proofs.lemmas.Bool.{false≢true}
use Rattle.std.proofs.lemmas.List.{get_or_default}
use Rattle.xdg_rules.specs.Rules.{may_edges}
use Rattle.xdg_plink.proofs.Leading.{LedBy, led_by}
use Rattle.xdg_plink.proofs.entries.is_led.Goals as goal
use Rattle.xdg_facts.proofs.Meetings.{none_more, none_end}

pub loop-label-preserved : goal.loop-label-preserved
loop-label-preserved c =
    let edges = may_edges c.args.store.now.parts c.args.store.now.now c.args.dim.0 in
    let newest = get_or c.args.labels.now c.loop-label.label-index 0 in
    none_more (LedBy c.args.way edges c.args.table.now c.args.u.0 c.args.v.0) c.args.labels.now c.loop-label.label-index newest c.loop-label-test.true (get_or_default c.args.labels.now c.loop-label.label-index 0 newest c.loop-label-test.true) c.loop-label.invariant (λ m. false≢true ((led_by c.args.way edges c.args.table.now c.args.u.0 c.args.v.0 newest c.others.result _ c.if-has_end.ensures c.others.ensures.exact).1 m))

pub returns-clause-exact : goal.returns-clause-exact
returns-clause-exact c = none_end (LedBy c.args.way (may_edges c.args.store.now.parts c.args.store.now.now c.args.dim.0) c.args.table.now c.args.u.0 c.args.v.0) c.args.labels.now c.loop-label.label-index c.loop-label.invariant (let l : length c.args.labels.now ≤ c.loop-label.label-index = omega arith in l)
