use Rattle.std.proofs.Common.{◌≡◌, take}
use Rattle.xdg_build.specs.Rows.{features_in_record}
use Rattle.xdg_build.proofs.rows.record_features.Given as goal

abbrev pub invariant-loop-place : goal.invariant-loop-place
invariant-loop-place l = l.made ≡ features_in_record (take l.place-index l.places) l.fields
