-- Conditions on all tuples of a range, and lists of conditions.
use Rattle.std.proofs.Common.{ℕ, ◌↔◌, List, [], ◌∷◌}
use Rattle.xdg_problem.specs.Conditions.{AreBelow}
use Rattle.xdg_facts.proofs.Each.{EachBelow, each_alike}

-- so it holds of all tuples of the range
pub tuples_of : (sizes : List ℕ) (P : List ℕ → Type 0) → EachBelow sizes P → (tuple : List ℕ) → AreBelow sizes tuple → P tuple
tuples_of [] P each [] is = each
tuples_of (size ∷ sizes) P each (u ∷ tuple) is = tuples_of sizes (λ t. P (u ∷ t)) (each u is.0) tuple is.1
tuples_of sizes P each tuple is = absurd is

below_of : (sizes : List ℕ) (P : List ℕ → Type 0) → ((tuple : List ℕ) → AreBelow sizes tuple → P tuple) → EachBelow sizes P
below_of [] P kept = kept [] tt
below_of (size ∷ sizes) P kept = λ u below. below_of sizes (λ t. P (u ∷ t)) (λ tuple is. kept (u ∷ tuple) (below, is))

-- and in other words
pub tuples : (sizes : List ℕ) (Q P : List ℕ → Type 0) → EachBelow sizes (λ tuple. Q tuple ↔ P tuple) → EachBelow sizes Q ↔ ((tuple : List ℕ) → AreBelow sizes tuple → P tuple)
tuples sizes Q P same = (λ each. tuples_of sizes P ((each_alike sizes Q P same).0 each), λ kept. (each_alike sizes Q P same).1 (below_of sizes P kept))
