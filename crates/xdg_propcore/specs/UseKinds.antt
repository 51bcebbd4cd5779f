-- At which kinds of values the tests of a principle use look.
use Rattle.std.specs.Prelude.{◌≡◌, ◌⊎◌, ◌<◌, ℕ, Bool, true, false}
use Rattle.std.specs.Int.{bit_at}
use lib.Bits.{bit_or}
use Rattle.xdg_problem.specs.declared.parts.Group.{Group}
use Rattle.xdg_problem.specs.declared.parts.Principle.{Principle}
use Rattle.xdg_problem.specs.Arguments.{first_dim, second_dim}
use Rattle.xdg_propcore.specs.Kinds.{entry_kind, attr_kind, edge_kind}
use Rattle.xdg_problem.specs.Principles.{looks_at_entries, looks_at_attrs, looks_at_first, looks_at_second}

-- a kind of values at which they look, where the dimensions have these numbers
abbrev pub IsKindOf : Principle → ℕ → ℕ → ℕ → Type 0
IsKindOf principle one two kind =
    ((looks_at_entries principle ≡ true) × (kind ≡ entry_kind))
    ⊎ (((looks_at_attrs principle ≡ true) × (kind ≡ attr_kind one))
    ⊎ (((looks_at_first principle ≡ true) × (kind ≡ edge_kind one)) ⊎ ((looks_at_second principle ≡ true) × (kind ≡ edge_kind two))))

-- a kind of values at which the tests of a principle use look
abbrev pub IsKindFor : Group → ℕ → Type 0
IsKindFor group kind = IsKindOf group.principle (first_dim group) (second_dim group) kind

-- the wake set has exactly these kinds
pub record HasKinds (group : Group) (wakes : ℕ) : Type 0 where
  pub each : (kind : ℕ) → IsKindFor group kind → bit_at wakes kind ≡ 1
  pub only : (kind : ℕ) → bit_at wakes kind ≡ 1 → IsKindFor group kind

-- a wake set with kinds more, if they are wanted
abbrev pub with_kind : Bool → ℕ → ℕ → ℕ
with_kind true kind wakes = bit_or wakes kind
with_kind false kind wakes = wakes

-- the dimensions are among the first eight
abbrev pub AreSmall : Group → Type 0
AreSmall group = (first_dim group < 8) × (second_dim group < 8)
