use Rattle.std.proofs.Common.{refl}
use Rattle.xdg_nodeset.proofs.TableSets.{no_in}
use Rattle.xdg_graph.proofs.upward.mothers.Goals as goal

pub note_mothers-requires : goal.note_mothers-requires
note_mothers-requires c = record { blank = no_in _ 128 c.empty-table.result refl c.empty-table.ensures.value }
