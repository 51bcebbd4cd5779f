use Rattle.xdg_stream.proofs.Reading.{place_edges, row_reads}
use Rattle.xdg_stream.proofs.row.row_of.Goals as goal

pub daughters_may-may-requires : goal.daughters_may-may-requires
daughters_may-may-requires c = place_edges c.args.store.now.parts c.args.edge c.requires

pub daughters_must-must-requires : goal.daughters_must-must-requires
daughters_must-must-requires c = place_edges c.args.store.now.parts c.args.edge c.requires

pub returns-clause-reads : goal.returns-clause-reads
returns-clause-reads c = row_reads c.args.store.now.parts c.args.store.now.now _ c.daughters_may-may.ensures.exact c.daughters_must-must.ensures.exact
