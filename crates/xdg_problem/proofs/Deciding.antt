-- What can be decided: that it holds, or that it does not.
use Rattle.std.proofs.Common.{ℕ, inl, inr, List, [], ◌∷◌, arith}
use Rattle.std.proofs.lemmas.Bool.{cases_lt}
use Rattle.xdg_problem.specs.Features.{IsWithin}
use Rattle.xdg_facts.proofs.Contained.{contains_head, contains_cases, contains_none}
use Rattle.xdg_facts.proofs.Decided.{Decided, decided_like}
use Rattle.xdg_facts.proofs.Lists.{contains_more}

pub decided_within : (cardinality : List ℕ) (number : ℕ) → Decided (IsWithin cardinality number)
decided_within [] number = inr (λ within. contains_none within.0 within.1)
decided_within (m ∷ cardinality) number = elim (cases_lt m number) [
  | inl less ↦ decided_like (IsWithin cardinality number) (IsWithin (m ∷ cardinality) number)
      (λ within. (within.0, contains_more m cardinality within.0 within.1, within.2))
      (λ within. elim (contains_cases m cardinality within.0 within.1) [ inl e ↦ (let most = within.2 in absurd (omega arith)) | inr later ↦ (within.0, later, within.2) ])
      (decided_within cardinality number)
  | inr most ↦ inl (m, contains_head m cardinality, most)
]
