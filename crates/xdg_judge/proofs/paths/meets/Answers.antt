use Rattle.std.proofs.Common.{[], get_or, arith, length, ◌≤◌}
use Rattle.std.proofs.lemmas.Bool.{false≢true}
use Rattle.std.proofs.lemmas.List.{get_or_default}
use Rattle.xdg_nodeset.specs.Tables.{Meet}
use Rattle.xdg_judge.proofs.paths.meets.Goals as goal
use Rattle.xdg_facts.proofs.Meetings.{none_more, none_end}

pub loop-label-preserved : goal.loop-label-preserved
loop-label-preserved c =
    let newest = get_or c.args.labels.now c.loop-label.label-index 0 in
    none_more (λ label. Meet (get_or c.args.sets.now label []) c.args.nodes) c.args.labels.now c.loop-label.label-index newest c.loop-label-test.true (get_or_default c.args.labels.now c.loop-label.label-index 0 newest c.loop-label-test.true) c.loop-label.invariant (λ m. false≢true (c.if-meets_at.ensures.1 m))

pub returns : goal.returns
returns c = none_end (λ label. Meet (get_or c.args.sets.now label []) c.args.nodes) c.args.labels.now c.loop-label.label-index c.loop-label.invariant (let l : length c.args.labels.now ≤ c.loop-label.label-index = omega arith in l)
