-- The least cost of what remains: no cost of what remains is less, and one is as little.
use Rattle.std.proofs.Common.{◌≡◌, ℕ, ◌<◌, ◌≤◌, inl, inr, zero, suc, Bool, true, false, cond, Option, Some, None, refl, sym, ap, ◌∙◌, arith, subst}
use Rattle.std.proofs.lemmas.Bool.{cases_eq, cases_lt, false≢true}
use Rattle.xdg_rules.specs.Bounds.{with_least, least_below, or_nothing}

-- there is a least cost, and it is at most this
abbrev pub IsMost : Option ℕ → ℕ → Type 0
IsMost None x = ⊥
IsMost (Some least) x = least ≤ x

with_here : (a : ℕ) (o : Option ℕ) → with_least a o ≤ a
with_here a None = omega arith
with_here a (Some m) = omega arith

with_other : (a x : ℕ) (o : Option ℕ) → IsMost o x → with_least a o ≤ x
with_other a x None most = absurd most
with_other a x (Some m) most = omega (arith, most)

pub most_or : (o : Option ℕ) (x : ℕ) → IsMost o x → or_nothing o ≤ x
most_or None x most = absurd most
most_or (Some m) x most = most

module _ (remains : ℕ → Bool) (cost : ℕ → ℕ) where
  most_put : (b : Bool) (a x : ℕ) (o : Option ℕ) → IsMost o x → IsMost (cond b (Some (with_least a o)) o) x
  most_put true a x o most = with_other a x o most
  most_put false a x o most = most

  most_last : (b : Bool) (a : ℕ) (o : Option ℕ) → b ≡ true → IsMost (cond b (Some (with_least a o)) o) a
  most_last true a o there = with_here a o
  most_last false a o there = absurd (false≢true there)

  -- no cost of what remains is less
  pub least_most : (n k : ℕ) → k < n → remains k ≡ true → IsMost (least_below remains cost n) (cost k)
  least_most zero k l there = absurd (omega (arith, l))
  least_most (suc n) k l there = elim (cases_eq k n) [
    | inl same ↦ subst (λ j. IsMost (least_below remains cost (suc n)) (cost j)) (sym same) (most_last (remains n) (cost n) (least_below remains cost n) (subst (λ j. remains j ≡ true) same there))
    | inr other ↦ most_put (remains n) (cost n) (cost k) (least_below remains cost n) (least_most n k (omega (arith, l, other)) there)
  ]

  -- one that remains costs as little
  abbrev pub IsReached : ℕ → Option ℕ → Type 0
  IsReached n None = Unit {0}
  IsReached n (Some least) = (k : ℕ) × (k < n) × (remains k ≡ true) × (cost k ≡ least)

  reached_more : (n : ℕ) (o : Option ℕ) → IsReached n o → IsReached (suc n) o
  reached_more n None reached = tt
  reached_more n (Some least) reached = (reached.0, (let l = reached.1 in omega (arith, l)), reached.2, reached.3)

  reached_with : (n a : ℕ) (o : Option ℕ) → remains n ≡ true → cost n ≡ a → IsReached n o → IsReached (suc n) (Some (with_least a o))
  reached_with n a None there is reached = (n, omega arith, there, is)
  reached_with n a (Some least) there is reached = elim (cases_lt least a) [
    | inl later ↦ (reached.0, (let l = reached.1 in omega (arith, l)), reached.2, (let e = reached.3 in omega (arith, e, later)))
    | inr here ↦ (n, omega arith, there, omega (arith, is, here))
  ]

  reached_put : (n : ℕ) (b : Bool) (o : Option ℕ) → remains n ≡ b → IsReached n o → IsReached (suc n) (cond b (Some (with_least (cost n) o)) o)
  reached_put n true o there reached = reached_with n (cost n) o there refl reached
  reached_put n false o there reached = reached_more n o reached

  pub least_reached : (n : ℕ) → IsReached n (least_below remains cost n)
  least_reached zero = tt
  least_reached (suc n) = reached_put n (remains n) (least_below remains cost n) refl (least_reached n)

-- of more that remains the least cost is at most as much
module _ (few many : ℕ → Bool) (cost : ℕ → ℕ) (n : ℕ) (more : (k : ℕ) → few k ≡ true → many k ≡ true) where
  most_of : (o : Option ℕ) (x : ℕ) → IsReached few cost n o → IsMost o x → or_nothing (least_below many cost n) ≤ or_nothing o
  most_of None x reached some = absurd some
  most_of (Some least) x reached some = (let most = most_or _ _ (least_most many cost n reached.0 reached.1 (more reached.0 reached.2)) in let e = reached.3 in omega (arith, most, e))

  pub least_less : (k : ℕ) → k < n → few k ≡ true → or_nothing (least_below many cost n) ≤ or_nothing (least_below few cost n)
  least_less k l there = most_of (least_below few cost n) (cost k) (least_reached few cost n) (least_most few cost n k l there)

-- where one alone remains it is what that one costs
pub least_single : (remains : ℕ → Bool) (cost : ℕ → ℕ) (n k : ℕ) → k < n → remains k ≡ true → ((j : ℕ) → remains j ≡ true → j ≡ k) → or_nothing (least_below remains cost n) ≡ cost k
least_single remains cost n k l there only = by (least_below remains cost n) (least_most remains cost n k l there) (least_reached remains cost n) where
  by : (o : Option ℕ) → IsMost o (cost k) → IsReached remains cost n o → or_nothing o ≡ cost k
  by None most reached = absurd most
  by (Some least) most reached = sym reached.3 ∙ ap cost (only reached.0 reached.2)
