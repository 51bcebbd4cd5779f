use Rattle.std.proofs.Common.{◌<◌, ◌^◌}
use Rattle.xdg_pgraph.specs.Bounding.{Tells}
use Rattle.xdg_pgraph.specs.Bundles.{numbers_of}
use Rattle.xdg_pgraph.proofs.Classed.{IsIn}
use Rattle.xdg_pgraph.proofs.bounds.by_classes.Given as goal

abbrev pub invariant-loop-class : goal.invariant-loop-class
invariant-loop-class l =
    (l.first < 2 ^ 32)
    × Tells l.store.now l.bundle.node (numbers_of l.bundle.way l.group l.bundle.node l.bundle.label) 128 l.least l.most (IsIn l.classes l.class-index)
    (record { allowed = record { least = l.first; behind = l.behind }; barred = l.barred })
