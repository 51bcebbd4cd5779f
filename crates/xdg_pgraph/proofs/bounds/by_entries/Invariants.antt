use Rattle.std.specs.Prelude.{◌<◌}
use Rattle.xdg_pgraph.specs.Bounding.{Tells}
use Rattle.xdg_pgraph.specs.Bundles.{numbers_of}
use Rattle.xdg_pgraph.proofs.bounds.by_entries.Given as goal

abbrev pub invariant-loop-place : goal.invariant-loop-place
invariant-loop-place l = Tells l.store.now l.bundle.node (numbers_of l.bundle.way l.group l.bundle.node l.bundle.label) 128 l.least l.most (λ c. c < l.place) l.looked
