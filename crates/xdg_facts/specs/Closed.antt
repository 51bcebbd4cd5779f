-- Predicates that survive shortening, and having nothing left.
use Rattle.std.specs.Prelude.{ℕ, ◌<◌, List, ◌++◌, length}
use Rattle.xdg_facts.specs.Order.{Less}
use Rattle.xdg_facts.specs.Fits.{Fits}

-- each front, the empty one aside, of a list that satisfies P satisfies it
abbrev pub Closed : (List ℕ → Type 0) → Type 0
Closed P = (p t : List ℕ) → 0 < length p → P (p ++ t) → P p

-- nothing that goes with the shape and satisfies P comes after p
abbrev pub NoneAfter : List ℕ → (List ℕ → Type 0) → List ℕ → Type 0
NoneAfter shape P p = (x : List ℕ) → Fits shape x → P x → Less p x → ⊥

-- something that goes with the shape and satisfies P comes after p
abbrev pub SomeAfter : List ℕ → (List ℕ → Type 0) → List ℕ → Type 0
SomeAfter shape P p = (x : List ℕ) × Fits shape x × P x × Less p x
