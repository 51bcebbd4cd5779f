-- Two rising lists of numbers put together, number by number.
use Rattle.std.proofs.Common.{◌≡◌, ◌⊎◌, ℕ, ◌≤◌, ◌+◌, List, ◌++◌, length, drop, sym, ◌∙◌, append_assoc}
use Rattle.std.specs.Prelude.{true, false}
use Rattle.std.specs.List.Sorted.{IsStrictlyIncreasing}
use Rattle.std.proofs.lemmas.List.{append-nil}
use Rattle.xdg_domain.specs.Joins.{IsUnion, IsMeet}
use Rattle.xdg_facts.proofs.Merging.{together, together_is, ended}

-- ---- the end

pub united : (xs ys made out : List ℕ) (i j : ℕ) → IsStrictlyIncreasing xs → IsStrictlyIncreasing ys → (length xs ≤ i) ⊎ (length ys ≤ j)
    → made ++ together true (drop i xs) (drop j ys) ≡ together true xs ys → out ≡ (made ++ drop i xs) ++ drop j ys → IsUnion xs ys out
united xs ys made out i j h k over is told = together_is true xs ys out h k (told ∙ append_assoc made (drop i xs) (drop j ys) ∙ ended true xs ys made i j over is)

pub met : (xs ys made : List ℕ) (i j : ℕ) → IsStrictlyIncreasing xs → IsStrictlyIncreasing ys → (length xs ≤ i) ⊎ (length ys ≤ j)
    → made ++ together false (drop i xs) (drop j ys) ≡ together false xs ys → IsMeet xs ys made
met xs ys made i j h k over is = together_is false xs ys made h k (sym (append-nil made) ∙ ended false xs ys made i j over is)
