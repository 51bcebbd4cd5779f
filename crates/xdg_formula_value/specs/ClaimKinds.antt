-- The kinds of values at which claims look.
use Rattle.std.specs.Prelude.{◌≡◌, ◌⊎◌, ℕ}
use Rattle.std.specs.Int.{bit_at}
use Rattle.xdg_problem.specs.Claims.{Claim, negation, conjunction, disjunction, every, some, joined, above, left, same, valued, fitting, Claims, none, claim_then}
use Rattle.xdg_propcore.specs.Kinds.{entry_kind, attr_kind, edge_kind}

-- a claim looks at values of a kind
abbrev mutual
  pub IsKindOf : Claim → ℕ → Type 0
  IsKindOf (negation c) kind = IsKindOf c kind
  IsKindOf (conjunction cs) kind = SomeKindOf cs kind
  IsKindOf (disjunction cs) kind = SomeKindOf cs kind
  IsKindOf (every name c) kind = IsKindOf c kind
  IsKindOf (some name c) kind = IsKindOf c kind
  IsKindOf (joined dim mother label daughter) kind = kind ≡ edge_kind dim
  IsKindOf (above dim upper lower) kind = kind ≡ edge_kind dim
  IsKindOf (left first second) kind = ⊥
  IsKindOf (same first second) kind = ⊥
  IsKindOf (valued name dim attr value) kind = kind ≡ attr_kind dim
  IsKindOf (fitting name table) kind = kind ≡ entry_kind

  pub SomeKindOf : Claims → ℕ → Type 0
  SomeKindOf none kind = ⊥
  SomeKindOf (claim_then c cs) kind = IsKindOf c kind ⊎ SomeKindOf cs kind

-- a wake set has the kinds at which a claim looks
abbrev pub HasKinds : Claim → ℕ → Type 0
HasKinds c wakes = (kind : ℕ) → IsKindOf c kind → bit_at wakes kind ≡ 1
