use Rattle.std.proofs.Common.{refl}
use Rattle.xdg_nodeset.proofs.TableSets.{no_in}
use Rattle.xdg_porder.proofs.Ending.{tabled, across_ends}
use Rattle.xdg_porder.proofs.sweep.take_projective.Goals as goal

pub note_above-requires : goal.note_above-requires
note_above-requires c = record { blank = no_in _ 128 c.empty-table.result refl c.empty-table.ensures.value }

pub take_across-requires : goal.take_across-requires
take_across-requires c = tabled c.args.group.now c.note_above.new.table c.dim_of.result.0 c.args.store.now c.requires.ready c.requires.projective c.dim_of.ensures c.note_above.ensures.exact

pub returns : goal.returns
returns c = across_ends c.args.group.now c.note_above.new.table c.dim_of.result.0 c.args.pass.now c.args.store.now c.take_across.new.pass c.take_across.new.store c.requires.projective c.dim_of.ensures c.note_above.ensures.exact c.take_across.ensures
