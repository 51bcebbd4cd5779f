use Rattle.xdg_types.proofs.Kept.{keeps_at}
use Rattle.xdg_lexicon.proofs.Dims.{ReadsAt, further, read_here}
use Rattle.xdg_lexicon.proofs.entries.read_partial.Goals as goal
use Rattle.xdg_facts.proofs.In.{in_at}

pub read_dim-requires-clause-keeps : goal.read_dim-requires-clause-keeps
read_dim-requires-clause-keeps c = keeps_at c.args.dims.now c.loop-dim.dim-index c.dim-item.result c.requires.keeps c.loop-dim-test.true c.dim-item.is

pub read_dim-requires-clause-right : goal.read_dim-requires-clause-right
read_dim-requires-clause-right c = c.requires.right c.dim-item.result (in_at c.args.dims.now c.loop-dim.dim-index c.dim-item.result c.loop-dim-test.true c.dim-item.is)

pub loop-dim-preserved : goal.loop-dim-preserved
loop-dim-preserved c =
    let reads = ReadsAt c.args.dims.now c.args.bindings.now c.args.name.now c.args.pairs.now in
    further reads c.loop-dim.dim-index c.loop-dim.made c.push.new.self c.in_ok-read_dim.field-0 c.in_ok-push.ensures.ok c.loop-dim.invariant
    (read_here c.args.dims.now c.args.bindings.now c.args.name.now c.args.pairs.now c.loop-dim.dim-index c.dim-item.result c.in_ok-read_dim.field-0 c.dim-item.is c.in_ok-read_dim.ensures)
