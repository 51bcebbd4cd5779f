-- What the removal of several values leaves.
use Rattle.std.proofs.Common.{◌≡◌, ℕ, ap}
use Rattle.xdg_store.specs.Change.{IsTaken, RemovesAll}
use Rattle.xdg_store.specs.States.{State}
use Rattle.xdg_store.specs.declared.change.Change.{Change}
use Rattle.xdg_store.specs.declared.change.Change.TheVariants as changes

pub all_parts_stay : (change : Change) (old new : State) (d block taken : ℕ) → RemovesAll change old new d (IsTaken block taken) → new.parts ≡ old.parts
all_parts_stay changes.Same old new d block taken r = ap (λ s. s.parts) r.1
all_parts_stay changes.Changed old new d block taken r = r.1.parts
all_parts_stay changes.Emptied old new d block taken r = ap (λ s. s.parts) r.1
