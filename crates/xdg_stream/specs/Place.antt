-- Where a search stands: the next prefix that it looks at.
use Rattle.std.specs.Prelude.{◌≡◌, ◌⊎◌, ℕ, List, [], ◌∷◌, ◌++◌, length}
use Rattle.xdg_facts.specs.Order.{Less}
use Rattle.xdg_facts.specs.Fits.{Fits}

-- the numbers of the front, and behind them the value that is tried next, which may be out of range
abbrev pub place : List ℕ → ℕ → List ℕ
place numbers value = numbers ++ value ∷ []

-- c comes after p, and nothing that goes with the shape and satisfies P lies between them
pub record Next (shape : List ℕ) (P : List ℕ → Type 0) (p c : List ℕ) : Type 0 where
  pub above : Less p c
  pub none : (x : List ℕ) → Fits shape x → P x → Less p x → Less x c → ⊥

-- the numbers of a front go with the shape, and are counted where there are any
pub record Stands (shape : List ℕ) (P : List ℕ → Type 0) (numbers : List ℕ) : Type 0 where
  pub fits : Fits shape numbers
  pub counts : (length numbers ≡ 0) ⊎ P numbers
