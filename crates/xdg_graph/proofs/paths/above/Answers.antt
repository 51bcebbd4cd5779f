use Rattle.std.proofs.Common.{refl}
use Rattle.xdg_nodeset.proofs.TableSets.{no_in}
use Rattle.xdg_graph.proofs.paths.above.Goals as goal

pub note_above-requires : goal.note_above-requires
note_above-requires c = record { blank = no_in _ 128 c.empty-table.result refl c.empty-table.ensures.value }
