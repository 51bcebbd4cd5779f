use Rattle.std.proofs.Common.{◌≡◌, take}
use Rattle.xdg_check.specs.Counts.{class_texts}
use Rattle.xdg_check.proofs.making.index_names.Given as goal
use Rattle.xdg_facts.specs.Membership.{Differ}

abbrev pub invariant-loop-class : goal.invariant-loop-class
invariant-loop-class l = Differ (class_texts l.classes) → l.made ≡ class_texts (take l.class-index l.classes)
