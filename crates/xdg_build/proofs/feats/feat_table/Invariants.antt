use Rattle.std.proofs.Common.{◌≡◌, take}
use Rattle.xdg_build.specs.Tables.{table_of}
use Rattle.xdg_build.proofs.feats.feat_table.Given as goal

abbrev pub invariant-loop-node : goal.invariant-loop-node
invariant-loop-node l = l.made ≡ table_of l.packed.entries (take l.node-index l.candidates) l.dim l.place l.number
