-- Paths, links and roots of edges that are all among others.
use Rattle.xdg_problem.proofs.Walks.{above_more}
use Rattle.std.proofs.Common.{◌≡◌, ℕ, ◌≤◌, inl, inr, Bool, true, List, ◌∷◌, length}
use Rattle.std.specs.Prelude.{Contains, not, ◌==◌}
use Rattle.std.specs.List.{Any, list_any}
use Rattle.std.proofs.lemmas.Bool.{cases_Bool, both_ways, not-true, not_from_false, eqb-true, eq-eqb}
use Rattle.std.proofs.lemmas.List.Elements.{All-weaker}
use Rattle.xdg_problem.specs.declared.analysis.Edge.{Edge}
use Rattle.xdg_problem.specs.declared.parts.Linking.{Linking}
use Rattle.xdg_problem.specs.declared.parts.Linking.TheVariants as linkings
use Rattle.xdg_problem.specs.Asking.{IsLinked}
use Rattle.xdg_problem.specs.Paths.{IsDaughterByAny, Above, AboveByFirst, roots}
use Rattle.xdg_problem.specs.Places.{below}
use Rattle.xdg_facts.proofs.Contained.{any_of, any_weaker, contains_filter, list_any_of, any_passes}
use Rattle.xdg_facts.proofs.Filters.{filter_contained}
use Rattle.xdg_facts.proofs.Keeping.{Less, less_length}

-- each of the few edges is one of the many
abbrev pub Among : List Edge → List Edge → Type 0
Among few many = (e : Edge) → Contains few e → Contains many e

-- no edge leads into the node
abbrev pub is_root : List Edge → ℕ → Bool
is_root edges v = not (list_any (λ e. e.daughter.0 == v) edges)

-- into a root no edge leads
pub root_free : (edges : List Edge) (v : ℕ) → is_root edges v ≡ true → (e : Edge) → Contains edges e → e.daughter.0 ≡ v → ⊥
root_free edges v root e c into = both_ways (list_any (λ e. e.daughter.0 == v) edges) (not-true (list_any (λ e. e.daughter.0 == v) edges) root) (list_any_of (λ e. e.daughter.0 == v) edges e c (eq-eqb e.daughter.0 v into))

-- a node into which no edge leads is a root
pub free_root : (edges : List Edge) (v : ℕ) → ((e : Edge) → Contains edges e → e.daughter.0 ≡ v → ⊥) → is_root edges v ≡ true
free_root edges v free = not_from_false (list_any (λ e. e.daughter.0 == v) edges) (elim (cases_Bool (list_any (λ e. e.daughter.0 == v) edges)) [
  | inl some ↦ (let found = any_passes (λ e. e.daughter.0 == v) edges some in absurd (free found.0 found.1 (eqb-true found.0.daughter.0 v found.2)))
  | inr none ↦ none
])

pub root_contained : (n : ℕ) (edges : List Edge) (v : ℕ) → Contains (roots n edges) v → Contains (below n) v × (is_root edges v ≡ true)
root_contained n edges v c = filter_contained (is_root edges) (below n) v c

module _ (few many : List Edge) (among : Among few many) where
  pub any_among : (P : Edge → Type 0) → Any P few → Any P many
  any_among P a = any_of P many a.1 (among a.1 (a.0, a.2, a.3)) a.4

  pub above_among : (u v : ℕ) → Above few u v → Above many u v
  above_among = above_more few many among

  above_first_among : (u : ℕ) (labels : List ℕ) (v : ℕ) → AboveByFirst few u labels v → AboveByFirst many u labels v
  above_first_among u labels v above = record {
    first = above.first;
    rest = above.rest;
    label = above.label;
    along = All-weaker (Contains few) (Contains many) among (above.first ∷ above.rest) above.along;
    leads = above.leads;
  }

  daughter_any_among : (u : ℕ) (labels : List ℕ) (v : ℕ) → IsDaughterByAny few u labels v → IsDaughterByAny many u labels v
  daughter_any_among u labels v = any_among (λ e. (e.mother.0 ≡ u) × Contains labels e.label.0 × (e.daughter.0 ≡ v))

  pub linked_among : (way : Linking) (u : ℕ) (labels : List ℕ) (v : ℕ) → IsLinked way few u labels v → IsLinked way many u labels v
  linked_among linkings.End u labels v link = any_among (λ e. Contains labels e.label.0 × (e.daughter.0 ≡ v)) link
  linked_among linkings.Daughter u labels v link = daughter_any_among u labels v link
  linked_among linkings.Mother u labels v link = daughter_any_among v labels u link
  linked_among linkings.BelowStart u labels v link = above_first_among u labels v link
  linked_among linkings.AboveStart u labels v link = above_first_among v labels u link
  linked_among linkings.Sisters u labels v link =
      any_weaker (λ e. (e.daughter.0 ≡ u) × IsDaughterByAny few e.mother.0 labels v) (λ e. (e.daughter.0 ≡ u) × IsDaughterByAny many e.mother.0 labels v) many
      (λ e both. (both.0, daughter_any_among e.mother.0 labels v both.1))
      (any_among (λ e. (e.daughter.0 ≡ u) × IsDaughterByAny few e.mother.0 labels v) link)

  -- a root of the many is one of the few
  root_among : (v : ℕ) → is_root many v ≡ true → is_root few v ≡ true
  root_among v root = free_root few v (λ e c. root_free many v root e (among e c))

  pub roots_less : (n : ℕ) → Less (is_root many) (is_root few) (below n)
  roots_less n v c root = root_among v root

  pub roots_among : (n v : ℕ) → Contains (roots n many) v → Contains (roots n few) v
  roots_among n v c = (let both = root_contained n many v c in contains_filter (is_root few) (below n) v (root_among v both.1) both.0)

  pub roots_length : (n : ℕ) → length (roots n many) ≤ length (roots n few)
  roots_length n = less_length (is_root many) (is_root few) (below n) (roots_less n)
