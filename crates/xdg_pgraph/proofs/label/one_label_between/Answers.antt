use Rattle.xdg_rules.specs.Rules.{must_edges}
use Rattle.xdg_pgraph.specs.Seeking.{FromTo}
use Rattle.xdg_pgraph.proofs.Beside.{doubled_clears}
use Rattle.xdg_pgraph.proofs.label.one_label_between.Goals as goal

pub returns-clause-clears : goal.returns-clause-clears
returns-clause-clears c = doubled_clears c.args.store.now.parts c.args.plane.now.dim.0 (FromTo c.args.mother c.args.daughter) (must_edges c.args.store.now.parts c.args.store.now.now c.args.plane.now.dim.0) c.joined-musts.result c.args.pass.now c.forbid_joined.new.pass c.args.store.now c.forbid_joined.new.store c.joined-musts.ensures c.forbid_joined.ensures.clears
