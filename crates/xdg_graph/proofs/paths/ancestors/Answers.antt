use Rattle.std.proofs.Common.{arith, refl}
use Rattle.xdg_nodeset.proofs.TableSets.{no_in}
use Rattle.xdg_graph.proofs.Noting.{ancestors_exact}
use Rattle.xdg_graph.proofs.paths.ancestors.Goals as goal

pub returns-clause-exact : goal.returns-clause-exact
returns-clause-exact c = ancestors_exact c.args.which c.args.store.now.parts c.args.store.now.now c.args.dim.0 c.node_count.result c.note_mothers.new.table c.close.new.table c.note_mothers.ensures.known.is_box (let e = c.node_count.ensures.size in omega (arith, e)) c.note_mothers.ensures.exact c.close.ensures

pub note_mothers-requires : goal.note_mothers-requires
note_mothers-requires c = record { blank = no_in _ 128 c.empty-table.result refl c.empty-table.ensures.value }
