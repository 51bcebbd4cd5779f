-- States of one problem.
use Rattle.std.proofs.Common.{ℕ, List, ◌∙◌}
use Rattle.xdg_stream.specs.Problem.{SameProblem}

pub same_then : (shape : List ℕ) (P : List ℕ → Type 0) (later : List ℕ) (Q : List ℕ → Type 0) (last : List ℕ) (R : List ℕ → Type 0) → SameProblem shape P later Q → SameProblem later Q last R → SameProblem shape P last R
same_then shape P later Q last R s t = record { sizes = t.sizes ∙ s.sizes; counts = λ p. (λ h. (s.counts p).0 ((t.counts p).0 h), λ h. (t.counts p).1 ((s.counts p).1 h)) }
