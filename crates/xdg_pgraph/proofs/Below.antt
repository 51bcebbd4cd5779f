-- Edges with a number below a bound.
use Rattle.std.proofs.Common.{◌≡◌, ℕ, ◌+◌, ◌<◌, ◌⊎◌, inl, inr, arith}
use Rattle.xdg_problem.specs.declared.analysis.Edge.{Edge}
use Rattle.xdg_facts.proofs.Numbers.{up_to}

-- something holds of an edge, whose number is below a bound
abbrev pub Below : (Edge → ℕ) → (Edge → Type 0) → ℕ → Edge → Type 0
Below number P k e = P e × (number e < k)

-- or is the bound itself
abbrev pub At : (Edge → ℕ) → (Edge → Type 0) → ℕ → Edge → Type 0
At number P k e = P e × (number e ≡ k)

module _ (number : Edge → ℕ) (P : Edge → Type 0) where
  pub below_none : (e : Edge) → Below number P 0 e → ⊥
  below_none e x = (let l = x.1 in omega (arith, l))

  module _ (k : ℕ) (e : Edge) where
    pub below_more : Below number P k e → Below number P (k + 1) e
    below_more x = (x.0, (let l = x.1 in omega (arith, l)))

    pub below_last : At number P k e → Below number P (k + 1) e
    below_last x = (x.0, (let l = x.1 in omega (arith, l)))

    pub below_cases : Below number P (k + 1) e → Below number P k e ⊎ At number P k e
    below_cases x = elim (up_to k (number e) x.1) [ inl less ↦ inl (x.0, less) | inr same ↦ inr (x.0, same) ]

    pub below_apart : Below number P k e → At number P k e → ⊥
    below_apart x y = (let l = x.1 in let same = y.1 in omega (arith, l, same))
