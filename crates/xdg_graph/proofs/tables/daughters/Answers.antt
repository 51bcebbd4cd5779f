use Rattle.std.proofs.Common.{refl}
use Rattle.xdg_nodeset.proofs.TableSets.{no_in}
use Rattle.xdg_graph.proofs.tables.daughters.Goals as goal

pub note_daughters-requires : goal.note_daughters-requires
note_daughters-requires c = record { blank = no_in _ 128 c.empty-table.result refl c.empty-table.ensures.value }
