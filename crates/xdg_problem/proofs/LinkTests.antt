-- A test of linking sees every edge that can link: what is linked by the edges that it sees is linked by all.
use Rattle.std.proofs.Common.{◌≡◌, ℕ, ◌↔◌, true, List, refl, sym, subst}
use Rattle.std.specs.Prelude.{filter, Contains, ◌==◌}
use Rattle.std.specs.List.{Any}
use Rattle.std.proofs.lemmas.Bool.{eq-eqb}
use Rattle.xdg_problem.specs.declared.analysis.Edge.{Edge}
use Rattle.xdg_problem.specs.declared.parts.Group.{Group}
use Rattle.xdg_problem.specs.declared.parts.Linking.{Linking}
use Rattle.xdg_problem.specs.declared.parts.Linking.TheVariants as linkings
use Rattle.xdg_problem.specs.Paths.{edges_on, IsDaughter, IsDaughterByAny, AboveByFirst}
use Rattle.xdg_problem.specs.Arguments.{first_dim, second_dim}
use Rattle.xdg_problem.specs.Asking.{IsLinked}
use Rattle.xdg_problem.specs.Tests.{Test, linked, unlinked, can_link, looks_first, looks_second, looks_at}
use Rattle.xdg_problem.proofs.Looking.{on_same, any_same}
use Rattle.xdg_facts.proofs.Truths.{or_here, either_true, and_2, and_3}
use Rattle.xdg_facts.proofs.Contained.{any_weaker}

-- a test sees what can link
pub sees : (group : Group) (way : Linking) (u l v : ℕ) (e : Edge) → can_link way u v e ≡ true → (e.dim.0 == second_dim group) ≡ true → looks_at group (linked way u l v) e ≡ true
sees group way u l v e can on = or_here (looks_second (second_dim group) (linked way u l v) e) (looks_first (first_dim group) (linked way u l v) e) (and_2 (e.dim.0 == second_dim group) (can_link way u v e) on can)

module _ (group : Group) (edges : List Edge) where
  abbrev two : ℕ
  two = second_dim group

  abbrev seen : Test → List Edge
  seen test = edges_on two (filter (looks_at group test) edges)

  module _ (way : Linking) (u l v : ℕ) where
    any_linked : (P : Edge → Type 0) → ((e : Edge) → P e → can_link way u v e ≡ true) → Any P (seen (linked way u l v)) ↔ Any P (edges_on two edges)
    any_linked P can = any_same (looks_at group (linked way u l v)) two edges P (λ e is. sees group way u l v e (can e is))

    path_linked : (from to : ℕ) (labels : List ℕ) → ((e : Edge) → can_link way u v e ≡ true) → AboveByFirst (seen (linked way u l v)) from labels to ↔ AboveByFirst (edges_on two edges) from labels to
    path_linked from to labels can =
        let same = on_same (looks_at group (linked way u l v)) two edges (λ e. sees group way u l v e (can e)) in
        (subst (λ es. AboveByFirst es from labels to) same, subst (λ es. AboveByFirst es from labels to) (sym same))

  pub linked_same : (way : Linking) (u l v : ℕ) (labels : List ℕ) → IsLinked way (seen (linked way u l v)) u labels v ↔ IsLinked way (edges_on two edges) u labels v
  linked_same linkings.End u l v labels = any_linked linkings.End u l v (λ e. Contains labels e.label.0 × (e.daughter.0 ≡ v)) (λ e is. eq-eqb e.daughter.0 v is.1)
  linked_same linkings.Daughter u l v labels = any_linked linkings.Daughter u l v (λ e. (e.mother.0 ≡ u) × Contains labels e.label.0 × (e.daughter.0 ≡ v)) (λ e is. and_2 (e.mother.0 == u) (e.daughter.0 == v) (eq-eqb e.mother.0 u is.0) (eq-eqb e.daughter.0 v is.2))
  linked_same linkings.Mother u l v labels = any_linked linkings.Mother u l v (λ e. (e.mother.0 ≡ v) × Contains labels e.label.0 × (e.daughter.0 ≡ u)) (λ e is. and_2 (e.mother.0 == v) (e.daughter.0 == u) (eq-eqb e.mother.0 v is.0) (eq-eqb e.daughter.0 u is.2))
  linked_same linkings.BelowStart u l v labels = path_linked linkings.BelowStart u l v u v labels (λ e. refl)
  linked_same linkings.AboveStart u l v labels = path_linked linkings.AboveStart u l v v u labels (λ e. refl)
  linked_same linkings.Sisters u l v labels =
      let few : List Edge = seen (linked linkings.Sisters u l v) in
      let many : List Edge = edges_on two edges in
      let Sister : List Edge → Edge → Type 0 = λ rest e. (e.daughter.0 ≡ u) × IsDaughterByAny rest e.mother.0 labels v in
      let common = any_linked linkings.Sisters u l v (Sister many) (λ e is. or_here (e.daughter.0 == u) (e.daughter.0 == v) (eq-eqb e.daughter.0 u is.0)) in
      let other = λ (mother : ℕ). any_linked linkings.Sisters u l v (λ e. (e.mother.0 ≡ mother) × Contains labels e.label.0 × (e.daughter.0 ≡ v))
      (λ e is. either_true (e.daughter.0 == u) (e.daughter.0 == v) (eq-eqb e.daughter.0 v is.2)) in (
        λ s. common.0 (any_weaker (Sister few) (Sister many) few (λ e both. (both.0, (other e.mother.0).0 both.1)) s),
        λ s. any_weaker (Sister many) (Sister few) few (λ e both. (both.0, (other e.mother.0).1 both.1)) (common.1 s),
      )

  pub unlinked_same : (u l v : ℕ) → IsDaughter (seen (unlinked u l v)) u v ↔ IsDaughter (edges_on two edges) u v
  unlinked_same u l v = any_same (looks_at group (unlinked u l v)) two edges (λ e. (e.mother.0 ≡ u) × (e.daughter.0 ≡ v)) (λ e is on.
      or_here (looks_second two (unlinked u l v) e) (looks_first (first_dim group) (unlinked u l v) e)
      (and_3 (e.dim.0 == two) (e.mother.0 == u) (e.daughter.0 == v) on (eq-eqb e.mother.0 u is.0) (eq-eqb e.daughter.0 v is.1)))
