-- What a removal does.
use Rattle.std.specs.Prelude.{◌≡◌, ◌≢◌, ℕ, ◌<◌, ◌≤◌, ◌+◌, ◌-◌, ◌*◌, ◌++◌, ◌∷◌, [], List, Bool, slice_index_or}
use Rattle.std.specs.Int.{bit_at}
use Rattle.xdg_problem.specs.Boxes.{Has, IsOnly, LiesIn, without}
use Rattle.xdg_store.specs.States.{State}
use Rattle.xdg_store.specs.declared.change.Change.{Change}
use Rattle.xdg_store.specs.declared.change.Change.TheVariants as changes

-- the store with one more box
abbrev pub with_box : State → List (List Bool) → State
with_box s box = record { parts = s.parts; now = box; history = s.history ++ (box ∷ []); turns = s.turns }

-- what the removal of the value v of the decision d answers and leaves
abbrev pub Removes : Change → State → State → ℕ → ℕ → Type 0
-- the box didn't have the value, and nothing changed
Removes changes.Same old new d v = (Has old.now d v → ⊥) × (new ≡ old)
-- the box had it beside others, and has it no more
Removes changes.Changed old new d v = Has old.now d v × (IsOnly old.now d v → ⊥) × (new ≡ with_box old (without old.now d v))
-- it is the last value of its decision, and nothing changed
Removes changes.Emptied old new d v = Has old.now d v × IsOnly old.now d v × (new ≡ old)

-- ---- several values at once

-- of the 64 values from that numbered block * 64 on, one whose bit is set
pub record IsTaken (block taken v : ℕ) : Type 0 where
  pub from : block * 64 ≤ v
  pub below : v < block * 64 + 64
  pub bit : bit_at taken (v - block * 64) ≡ 1

-- the store with one more box: of the decision d the values that go are lost, and nothing else is
pub record Shrinks (old new : State) (d : ℕ) (Goes : ℕ → Type 0) : Type 0 where
  pub parts : new.parts ≡ old.parts
  pub turns : new.turns ≡ old.turns
  pub grown : new.history ≡ old.history ++ (new.now ∷ [])
  pub inside : LiesIn new.now old.now
  pub others : (e : ℕ) → e ≢ d → slice_index_or new.now e [] ≡ slice_index_or old.now e []
  pub gone : (v : ℕ) → Goes v → Has new.now d v → ⊥
  pub left : (v : ℕ) → (Goes v → ⊥) → Has old.now d v → Has new.now d v

-- what the removal of some values of the decision d answers and leaves
abbrev pub RemovesAll : Change → State → State → ℕ → (ℕ → Type 0) → Type 0
-- the box had none of them, and nothing changed
RemovesAll changes.Same old new d Goes = ((v : ℕ) → Goes v → Has old.now d v → ⊥) × (new ≡ old)
-- the box had one of them at least, and another value, and has none of them any more
RemovesAll changes.Changed old new d Goes = ((v : ℕ) × Goes v × Has old.now d v) × Shrinks old new d Goes
-- they are all values that its decision has left, and nothing changed
RemovesAll changes.Emptied old new d Goes = ((v : ℕ) → Has old.now d v → Goes v) × (new ≡ old)
