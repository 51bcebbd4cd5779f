-- What a removal leaves, for those who keep something of a store over many calls.
use Rattle.std.proofs.Common.{◌≡◌, ℕ, ◌≤◌, Bool, List, [], ◌∷◌, ◌++◌, length, ap, sym, ◌∙◌, arith, length-append}
use Rattle.std.proofs.lemmas.List.{append-nil}
use Rattle.xdg_problem.specs.Boxes.{without}
use Rattle.xdg_store.specs.Change.{Removes}
use Rattle.xdg_store.specs.States.{State}
use Rattle.xdg_store.specs.declared.change.Change.{Change}
use Rattle.xdg_store.specs.declared.change.Change.TheVariants as changes

-- the parts stay
pub parts_stay : (change : Change) (old new : State) (d v : ℕ) → Removes change old new d v → new.parts ≡ old.parts
parts_stay changes.Same old new d v r = ap (λ s. s.parts) r.1
parts_stay changes.Changed old new d v r = ap (λ s. s.parts) r.2
parts_stay changes.Emptied old new d v r = ap (λ s. s.parts) r.2

-- the history before is the front of the one after
pub history_grows : (change : Change) (old new : State) (d v : ℕ) → Removes change old new d v → (more : List (List (List Bool))) × (new.history ≡ old.history ++ more)
history_grows changes.Same old new d v r = ([], ap (λ s. s.history) r.1 ∙ sym (append-nil old.history))
history_grows changes.Changed old new d v r = (without old.now d v ∷ [], ap (λ s. s.history) r.2)
history_grows changes.Emptied old new d v r = ([], ap (λ s. s.history) r.2 ∙ sym (append-nil old.history))

-- so no mark is lost
pub history_stays : (change : Change) (old new : State) (d v : ℕ) → Removes change old new d v → length old.history ≤ length new.history
history_stays change old new d v r =
    let g = history_grows change old new d v r in
    let e = ap length g.1 in
    let n = length-append old.history g.0 in
    omega (arith, e, n)
