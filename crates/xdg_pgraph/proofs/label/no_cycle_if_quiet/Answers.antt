use Rattle.std.proofs.Common.{◌∙◌, sym}
use Rattle.std.proofs.lemmas.Bool.{false≢true}
use Rattle.xdg_rules.specs.Rules.{NoCycle}
use Rattle.xdg_pgraph.proofs.Ruled.{part_none}
use Rattle.xdg_pgraph.proofs.label.no_cycle_if_quiet.Goals as goal

pub returns-in-Changed-clause-runs : goal.returns-in-Changed-clause-runs
returns-in-Changed-clause-runs c = part_none NoCycle NoCycle c.args.plane.now.dim.0 c.args.pass.now c.args.store.now (λ group on quiet d v a h. c.in-Changed.ensures.1 quiet.0)

pub returns-in-Dead-clause-runs : goal.returns-in-Dead-clause-runs
returns-in-Dead-clause-runs c = part_none NoCycle NoCycle c.args.plane.now.dim.0 c.args.pass.now c.args.store.now (λ group on quiet d v a h. false≢true (sym quiet.1 ∙ c.in-Dead.ensures))
