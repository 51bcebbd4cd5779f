-- What is left of the edges of a dimension, if only the edges that a test looks at are kept.
use Rattle.std.proofs.Common.{◌≡◌, ℕ, ◌↔◌, Bool, true, ◌&&◌, List, length, sym, ap, ◌∙◌}
use Rattle.std.specs.Prelude.{filter, Contains, count_by, ◌==◌}
use Rattle.std.specs.List.{Any}
use Rattle.std.proofs.lemmas.Bool.{eq-eqb}
use Rattle.xdg_problem.specs.declared.analysis.Edge.{Edge}
use Rattle.xdg_problem.specs.declared.parts.Group.{Group}
use Rattle.xdg_problem.specs.Arguments.{first_dim, second_dim}
use Rattle.xdg_problem.specs.Paths.{edges_on, IsDaughterBy}
use Rattle.xdg_problem.specs.Tests.{Test, looks_first, looks_second, looks_at}
use Rattle.xdg_facts.proofs.Truths.{either_true, and_given, and_4}
use Rattle.xdg_facts.proofs.Filters.{filter_both, count_of_filter, filter_alike, filter_contained}
use Rattle.xdg_facts.proofs.Contained.{contains_filter, any_of}

-- some edge

module _ (looks : Edge → Bool) (dim : ℕ) (edges : List Edge) where
  -- all edges of the dimension are left, if the test looks at all its places
  pub on_same : ((e : Edge) → (e.dim.0 == dim) ≡ true → looks e ≡ true) → edges_on dim (filter looks edges) ≡ edges_on dim edges
  on_same h = filter_both (λ e. e.dim.0 == dim) looks edges ∙ filter_alike (λ e. looks e && (e.dim.0 == dim)) (λ e. e.dim.0 == dim) edges (λ k d l. and_given (looks _) (_ == dim) (h _))

  contains_same : (e : Edge) → ((e.dim.0 == dim) ≡ true → looks e ≡ true) → Contains (edges_on dim (filter looks edges)) e ↔ Contains (edges_on dim edges) e
  contains_same e h = (
    λ c. (let on = filter_contained (λ x. x.dim.0 == dim) (filter looks edges) e c in contains_filter (λ x. x.dim.0 == dim) edges e on.1 (filter_contained looks edges e on.0).0),
    λ c. (let on = filter_contained (λ x. x.dim.0 == dim) edges e c in contains_filter (λ x. x.dim.0 == dim) (filter looks edges) e on.1 (contains_filter looks edges e (h on.1) on.0)),
  )

  -- an edge of the dimension with a property is left, if the test looks at all places that may have it
  pub any_same : (P : Edge → Type 0) → ((e : Edge) → P e → (e.dim.0 == dim) ≡ true → looks e ≡ true) → Any P (edges_on dim (filter looks edges)) ↔ Any P (edges_on dim edges)
  any_same P h = (
    λ a. any_of P (edges_on dim edges) a.1 ((contains_same a.1 (h a.1 a.4)).0 (a.0, a.2, a.3)) a.4,
    λ a. any_of P (edges_on dim (filter looks edges)) a.1 ((contains_same a.1 (h a.1 a.4)).1 (a.0, a.2, a.3)) a.4,
  )

  -- as many edges of the dimension pass another test, if the test looks at all places that do
  pub count_same : (p : Edge → Bool) → ((e : Edge) → ((e.dim.0 == dim) && p e) ≡ true → looks e ≡ true) → count_by p (edges_on dim (filter looks edges)) ≡ count_by p (edges_on dim edges)
  count_same p h =
      sym (count_of_filter p (λ e. e.dim.0 == dim) (filter looks edges))
      ∙ ap length (filter_both (λ e. (e.dim.0 == dim) && p e) looks edges ∙ filter_alike (λ e. looks e && ((e.dim.0 == dim) && p e)) (λ e. (e.dim.0 == dim) && p e) edges (λ k d l. and_given (looks _) ((_ == dim) && p _) (h _)))
      ∙ count_of_filter p (λ e. e.dim.0 == dim) edges

-- an edge that is as a place says, is looked at by the test of that place

pub sees_place : (dim u l v : ℕ) (e : Edge) → (e.mother.0 ≡ u) × (e.label.0 ≡ l) × (e.daughter.0 ≡ v) → (e.dim.0 == dim) ≡ true → ((e.dim.0 == dim) && (e.mother.0 == u) && (e.label.0 == l) && (e.daughter.0 == v)) ≡ true
sees_place dim u l v e (m, b, d) on = and_4 (e.dim.0 == dim) (e.mother.0 == u) (e.label.0 == l) (e.daughter.0 == v) on (eq-eqb e.mother.0 u m) (eq-eqb e.label.0 l b) (eq-eqb e.daughter.0 v d)

-- a test that looks at the edge of a place sees it
pub placed : (group : Group) (edges : List Edge) (test : Test) (u l v : ℕ) → ((e : Edge) → looks_first (first_dim group) test e ≡ ((e.dim.0 == first_dim group) && (e.mother.0 == u) && (e.label.0 == l) && (e.daughter.0 == v)))
    → IsDaughterBy (edges_on (first_dim group) (filter (looks_at group test) edges)) u l v ↔ IsDaughterBy (edges_on (first_dim group) edges) u l v
placed group edges test u l v looks = any_same (looks_at group test) (first_dim group) edges (λ e. (e.mother.0 ≡ u) × (e.label.0 ≡ l) × (e.daughter.0 ≡ v))
    (λ e here on. either_true (looks_second (second_dim group) test e) (looks_first (first_dim group) test e) (looks e ∙ sees_place (first_dim group) u l v e here on))
