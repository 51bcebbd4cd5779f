-- What a claim is worth in a box: the box makes it true, or false, or leaves it open. And the rule that a formula is.
use Rattle.std.specs.Prelude.{◌≡◌, ◌⊎◌, ℕ, ◌<◌, Bool, true, false, not, List, Option, Some, None, Contains}
use Rattle.xdg_problem.specs.declared.parts.Parts.{Parts}
use Rattle.xdg_problem.specs.Boxes.{Has, attr_decision}
use Rattle.xdg_problem.specs.Paths.{Above}
use Rattle.xdg_problem.specs.Places.{edge, nodes}
use Rattle.xdg_rules.specs.Remaining.{may_edges, must_edges, EachEntry}
use Rattle.xdg_problem.specs.declared.formula.Formula.{Formula}
use Rattle.xdg_problem.specs.Claims.{Claim, negation, conjunction, disjunction, every, some, joined, above, left, same, valued, fitting, Claims, none, claim_then, claim}
use Rattle.xdg_problem.specs.Truths.{bound, unbound, says, HasTruth}

-- each value of a decision that remains
abbrev pub EachValue : List (List Bool) → ℕ → (ℕ → Type 0) → Type 0
EachValue box d P = (v : ℕ) → Has box d v → P v

-- The box makes the claim true, or makes it false, whatever else is decided. An edge that must be is true and one that may not
-- be is false; a path is true of edges that must be, and false where there is none of edges that may be; an attribute and an
-- entry do so where each of their values that remain does. One part is enough to make a conjunction false or a disjunction true.
abbrev mutual
  pub Makes : Parts → List (List Bool) → Claim → Bool → (ℕ → ℕ) → Type 0
  Makes parts box (negation c) truth b = Makes parts box c (not truth) b
  Makes parts box (conjunction cs) true b = MakesEach parts box cs true b
  Makes parts box (conjunction cs) false b = MakesSome parts box cs false b
  Makes parts box (disjunction cs) true b = MakesSome parts box cs true b
  Makes parts box (disjunction cs) false b = MakesEach parts box cs false b
  Makes parts box (every name c) true b = (node : ℕ) → node < nodes parts → Makes parts box c true (bound b name node)
  Makes parts box (every name c) false b = (node : ℕ) × (node < nodes parts) × Makes parts box c false (bound b name node)
  Makes parts box (some name c) true b = (node : ℕ) × (node < nodes parts) × Makes parts box c true (bound b name node)
  Makes parts box (some name c) false b = (node : ℕ) → node < nodes parts → Makes parts box c false (bound b name node)
  Makes parts box (joined dim mother label daughter) true b = Contains (must_edges parts box dim) (edge dim (b mother) label (b daughter))
  Makes parts box (joined dim mother label daughter) false b = Contains (may_edges parts box dim) (edge dim (b mother) label (b daughter)) → ⊥
  Makes parts box (above dim upper lower) true b = Above (must_edges parts box dim) (b upper) (b lower)
  Makes parts box (above dim upper lower) false b = Above (may_edges parts box dim) (b upper) (b lower) → ⊥
  Makes parts box (left first second) truth b = HasTruth truth (b first < b second)
  Makes parts box (same first second) truth b = HasTruth truth (b first ≡ b second)
  Makes parts box (valued name dim attr value) truth b = EachValue box (attr_decision parts dim (b name) attr) (λ v. HasTruth truth (v ≡ value))
  Makes parts box (fitting name table) truth b = EachEntry box (b name) (λ c. HasTruth truth (says table (b name) c ≡ true))

  pub MakesEach : Parts → List (List Bool) → Claims → Bool → (ℕ → ℕ) → Type 0
  MakesEach parts box none truth b = Unit {0}
  MakesEach parts box (claim_then c cs) truth b = Makes parts box c truth b × MakesEach parts box cs truth b

  pub MakesSome : Parts → List (List Bool) → Claims → Bool → (ℕ → ℕ) → Type 0
  MakesSome parts box none truth b = ⊥
  MakesSome parts box (claim_then c cs) truth b = Makes parts box c truth b ⊎ MakesSome parts box cs truth b

-- the value says that something has a truth, or that it has none
abbrev pub Tells : (Bool → Type 0) → Option Bool → Type 0
Tells P (Some truth) = P truth
Tells P None = (truth : Bool) → P truth → ⊥

-- the value of a claim in a box: the truth that the box gives it, or that it gives it none
abbrev pub IsWorth : Parts → List (List Bool) → Claim → (ℕ → ℕ) → Option Bool → Type 0
IsWorth parts box c b value = Tells (λ truth. Makes parts box c truth b) value

-- the value of a formula in a box
abbrev pub IsFormulaWorth : Parts → List (List Bool) → Formula → Option Bool → Type 0
IsFormulaWorth parts box formula value = IsWorth parts box (claim formula) unbound value

-- a formula as a rule fails in a box that makes it false, and then takes all
abbrev pub RuleFalse : Parts → Formula → List (List Bool) → Type 0
RuleFalse parts formula box = IsFormulaWorth parts box formula (Some false)
