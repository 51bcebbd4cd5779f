use Rattle.std.proofs.Common.{◌≡◌, drop}
use Rattle.xdg_names.specs.Texts.{place_of}
use Rattle.xdg_names.proofs.Texts.{counted_from}
use Rattle.xdg_names.proofs.listed.place_of.Given as goal

abbrev pub invariant-loop-place : goal.invariant-loop-place
invariant-loop-place l = counted_from l.place (place_of (drop l.place l.texts) l.text) ≡ place_of l.texts l.text
