use Rattle.std.proofs.Common.{subst}
use Rattle.std.specs.Prelude.{[], IfSome, slice_index_or}
use Rattle.xdg_graph.specs.declared.which.Which.TheVariants as whichs
use Rattle.xdg_formula_value.specs.Filling.{AreFilled}
use Rattle.xdg_formula_value.proofs.Tabled.{at_node, at_which}
use Rattle.xdg_formula_value.proofs.paths.far.Goals as goal

pub returns-in-May : goal.returns-in-May
returns-in-May c = (let filled = subst (λ o. IfSome o (λ it. AreFilled c.args.way c.args.store.now it.now)) c.in-Some.is c.requires.filled in at_which c.args.way c.args.which whichs.May c.args.store.now c.args.dim.0 c.args.node.0 c.set_at.result c.in-May.is
    (at_node c.args.way whichs.May c.args.store.now c.args.dim.0 (slice_index_or c.in-Some.filled.now.may c.args.dim.0 []) c.args.node.0 c.set_at.result (filled.may c.args.dim.0 c.requires.dim c.if-not-filled-dim.false) c.set_at.ensures))

pub returns-in-Must : goal.returns-in-Must
returns-in-Must c = (let filled = subst (λ o. IfSome o (λ it. AreFilled c.args.way c.args.store.now it.now)) c.in-Some.is c.requires.filled in at_which c.args.way c.args.which whichs.Must c.args.store.now c.args.dim.0 c.args.node.0 c.set_at-in-Must.result c.in-Must.is
    (at_node c.args.way whichs.Must c.args.store.now c.args.dim.0 (slice_index_or c.in-Some.filled.now.must c.args.dim.0 []) c.args.node.0 c.set_at-in-Must.result (filled.must c.args.dim.0 c.requires.dim c.if-not-filled-dim.false) c.set_at-in-Must.ensures))
