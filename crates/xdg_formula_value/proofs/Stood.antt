-- Names that are bound cond_again, or to what they stand for.
use Rattle.std.proofs.Common.{◌≡◌, ℕ, inl, inr, sym, ◌∙◌, ap}
use Rattle.std.specs.Prelude.{◌==◌}
use Rattle.std.proofs.lemmas.Bool.{cases_eq}
use Rattle.xdg_problem.specs.Truths.{bound}
use Rattle.xdg_problem.proofs.Bindings.{bound_here, bound_else}
use Rattle.xdg_facts.proofs.Numbers.{cond_again}

bound_as_is : (b : ℕ → ℕ) (name other : ℕ) → bound b name (b name) other ≡ b other
bound_as_is b name other = elim (cases_eq other name) [
  | inl same ↦ bound_here b name (b name) other same ∙ sym (ap b same)
  | inr differ ↦ bound_else b name (b name) other differ
]

-- a name that is bound to what it stands for
pub bound_back : (b : ℕ → ℕ) (name : ℕ) → bound b name (b name) ≡ b
bound_back b name = λ i other. bound_as_is b name other i

bound_again : (b : ℕ → ℕ) (name node new : ℕ) → bound (bound b name node) name new ≡ bound b name new
bound_again b name node new = λ i other. cond_again (other == name) node new (b other) i

-- two bindings that are one where the name is bound
abbrev pub AgreeOutside : ℕ → (ℕ → ℕ) → (ℕ → ℕ) → Type 0
AgreeOutside name a b = (node : ℕ) → bound a name node ≡ bound b name node

pub rebound : (name node : ℕ) (b old new : ℕ → ℕ) → new ≡ bound old name node → AgreeOutside name old b → new ≡ bound b name node
rebound name node b old new is agree = is ∙ agree node

pub rebound_agrees : (name node : ℕ) (b old new : ℕ → ℕ) → new ≡ bound old name node → AgreeOutside name old b → AgreeOutside name new b
rebound_agrees name node b old new is agree later = ap (λ a. bound a name later) is ∙ bound_again old name node later ∙ agree later
