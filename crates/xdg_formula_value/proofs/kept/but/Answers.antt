use Rattle.std.proofs.Common.{arith, subst}
use Rattle.xdg_store.specs.Decisions.{IsDecision}
use Rattle.xdg_formula_value.proofs.kept.but.Goals as goal

pub but_edge-requires : goal.but_edge-requires
but_edge-requires c = (let l = (subst (IsDecision c.args.store.now.parts) c.in-Place.is c.requires).daughter in let size = c.node_count.ensures.size in let small = c.node_count.ensures.small in omega (arith, l, size, small))
