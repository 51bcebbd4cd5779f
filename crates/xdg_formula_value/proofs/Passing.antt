-- Paths along edges of one kind, as paths along those of another and one edge more.
use Rattle.std.proofs.Common.{◌≡◌, ℕ, inl, inr, List, Contains, sym, ap, ◌∙◌, subst}
use Rattle.std.specs.Prelude.{◌⊎◌}
use Rattle.xdg_problem.specs.declared.analysis.Edge.{Edge}
use Rattle.xdg_problem.specs.Paths.{Above}
use Rattle.xdg_problem.proofs.Walks.{above_edge, above_trans, closed_above}
use Rattle.xdg_formula_value.specs.Lost.{Passes, Reaches}

-- where each edge leads along others, each path does
pub through : (few many : List Edge) → ((e : Edge) → Contains few e → Above many e.mother.0 e.daughter.0) → (u v : ℕ) → Above few u v → Above many u v
through few many leads u v path = closed_above few u v (Above many u) (λ e is from. elim from [
  | inl first ↦ subst (λ m. Above many m e.daughter.0) first (leads e is)
  | inr later ↦ above_trans many u e.mother.0 e.daughter.0 later (leads e is)
]) path

reach_on : (edges : List Edge) (u : ℕ) (f : Edge) → Contains edges f → Reaches edges u f.mother.0 → Reaches edges u f.daughter.0
reach_on edges u f is before = elim before [
  | inl same ↦ inr (subst (λ m. Above edges m f.daughter.0) (sym same) (above_edge edges f is))
  | inr path ↦ inr (above_trans edges u f.mother.0 f.daughter.0 path (above_edge edges f is))
]

-- Each of the edges is one edge, or among two other kinds: a path along them leads along those of the first kind, or it passes the one edge, and
-- leads to it and from it along those of the second kind.
module _ (edges first second : List Edge) (e : Edge) (each : (f : Edge) → Contains edges f → (f ≡ e) ⊎ (Contains first f × Contains second f)) where
  abbrev Leads : ℕ → ℕ → Type 0
  Leads u x = (Above first u x × Above second u x) ⊎ Passes second e u x

  to_mother : (u : ℕ) (f : Edge) → f ≡ e → (f.mother.0 ≡ u) ⊎ Leads u f.mother.0 → Reaches second u e.mother.0
  to_mother u f same from = elim from [
    | inl start ↦ inl (sym start ∙ ap (λ k. k.mother.0) same)
    | inr (inl paths) ↦ inr (subst (λ m. Above second u m) (ap (λ k. k.mother.0) same) paths.1)
    | inr (inr passes) ↦ passes.0
  ]

  leads_on : (u : ℕ) (f : Edge) → Contains first f × Contains second f → (f.mother.0 ≡ u) ⊎ Leads u f.mother.0 → Leads u f.daughter.0
  leads_on u f both from = elim from [
    | inl start ↦ inl (subst (λ m. Above first m f.daughter.0) start (above_edge first f both.0), subst (λ m. Above second m f.daughter.0) start (above_edge second f both.1))
    | inr (inl paths) ↦ inl (above_trans first u f.mother.0 f.daughter.0 paths.0 (above_edge first f both.0), above_trans second u f.mother.0 f.daughter.0 paths.1 (above_edge second f both.1))
    | inr (inr passes) ↦ inr (passes.0, reach_on second e.daughter.0 f both.1 passes.1)
  ]

  one_step : (u : ℕ) (f : Edge) → Contains edges f → (f.mother.0 ≡ u) ⊎ Leads u f.mother.0 → Leads u f.daughter.0
  one_step u f is from = elim (each f is) [
    | inl same ↦ inr (to_mother u f same from, inl (ap (λ k. k.daughter.0) (sym same)))
    | inr both ↦ leads_on u f both from
  ]

  pub past_one : (u v : ℕ) → Above edges u v → Above first u v ⊎ Passes second e u v
  past_one u v path = elim (closed_above edges u v (Leads u) (one_step u) path) [
    | inl paths ↦ inl paths.0
    | inr passes ↦ inr passes
  ]
