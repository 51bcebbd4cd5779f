use Rattle.std.proofs.Common.{◌≡◌, false, take}
use Rattle.std.specs.List.{list_any}
use Rattle.xdg_base.proofs.Keywords.{stands_at}
use Rattle.xdg_base.proofs.spelling.keyword_place.Given as goal

-- the text stands at none of the places so far
abbrev pub invariant-loop-place : goal.invariant-loop-place
invariant-loop-place l = list_any (stands_at l.text) (take l.place-index l.place-items) ≡ false
