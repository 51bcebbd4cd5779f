-- The kinds of values at which a formula looks, one part after another.
use Rattle.std.proofs.Common.{◌≡◌, ◌⊎◌, ℕ, ◌+◌, ◌<◌, inl, inr, List, [], ◌∷◌, ◌++◌, length, map, take, get_or, subst}
use Rattle.std.specs.Int.{bit_at}
use lib.Bits.{bit_or}
use Rattle.std.proofs.lemmas.List.{take_all}
use Rattle.xdg_problem.specs.declared.formula.Formula.{Formula}
use Rattle.xdg_problem.specs.Claims.{Claim, claims_of, claim}
use Rattle.xdg_formula_value.specs.ClaimKinds.{IsKindOf, SomeKindOf, HasKinds}
use Rattle.xdg_formula_value.proofs.Fronts.{item_of}
use Rattle.xdg_facts.proofs.Bits.{or_left_bit, has_right}
use Rattle.xdg_facts.proofs.Fronts.{map_next}

-- a set has the kinds of some claims
abbrev pub HasEach : List Formula → ℕ → Type 0
HasEach fs wakes = (kind : ℕ) → SomeKindOf (claims_of (map claim fs)) kind → bit_at wakes kind ≡ 1

split_kinds : (cs : List Claim) (c : Claim) (kind : ℕ) → SomeKindOf (claims_of (cs ++ c ∷ [])) kind → SomeKindOf (claims_of cs) kind ⊎ IsKindOf c kind
split_kinds [] c kind k = elim k [ inl here ↦ inr here | inr later ↦ absurd later ]
split_kinds (d ∷ cs) c kind k = elim k [
  | inl here ↦ inl (inl here)
  | inr later ↦ elim (split_kinds cs c kind later) [ inl l ↦ inl (inr l) | inr r ↦ inr r ]
]

-- one more
pub each_more : (fs : List Formula) (i : ℕ) (f : Formula) (old here : ℕ) → f ≡ get_or fs i f → i < length fs → HasEach (take i fs) old → HasKinds (claim f) here → HasEach (take (i + 1) fs) (bit_or old here)
each_more fs i f old here is l before one kind k = elim (split_kinds (map claim (take i fs)) (claim f) kind (subst (λ cs. SomeKindOf (claims_of cs) kind) (map_next claim fs i f l is) k)) [
  | inl front ↦ or_left_bit old here kind (before kind front)
  | inr last ↦ has_right old here kind (one kind last)
]

-- what a loop over formulas asks for
pub ruleset each_steps = (take_all, item_of, each_more)
