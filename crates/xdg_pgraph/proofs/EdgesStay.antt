-- Where a box loses no value of the edges of a dimension, the rules of trees and dags take from it what they took before.
use Rattle.std.proofs.Common.{◌≡◌, ℕ, inl, inr, Bool, true, List, length, sym, ◌∙◌, ap, ap₂, subst, arith}
use Rattle.std.specs.Prelude.{Contains, ◌==◌, ◌&&◌, not}
use Rattle.std.proofs.lemmas.Bool.{eqb-true}
use Rattle.xdg_problem.specs.declared.analysis.Edge.{Edge}
use Rattle.xdg_problem.specs.declared.parts.Group.{Group}
use Rattle.xdg_problem.specs.declared.parts.Parts.{Parts}
use Rattle.xdg_problem.specs.declared.parts.Principle.{Principle}
use Rattle.xdg_problem.specs.declared.parts.Principle.TheVariants as principles
use Rattle.xdg_problem.specs.Arguments.{first_dim}
use Rattle.xdg_problem.specs.Boxes.{Has, LiesIn, edge_decision}
use Rattle.xdg_problem.specs.Paths.{Above, mothers, roots}
use Rattle.xdg_problem.specs.Places.{nodes, places}
use Rattle.xdg_rules.specs.Rules.{has, IsPlaceOn, OneMother, NoCycle, OneLabel, may_edges, must_edges}
use Rattle.xdg_facts.proofs.Keeping.{filter_on}
use Rattle.xdg_rules.proofs.Shrinking.{may_be, must_be}
use Rattle.xdg_pgraph.specs.Musts.{ByMusts}
use Rattle.xdg_pgraph.specs.Ruling.{ForRoot, ForOthers}
use Rattle.xdg_facts.proofs.Truths.{same_and, same_flag}

-- what may be and what must be, at a place of which the same values remain
pub alike : (parts : Parts) (old new : List (List Bool)) (dim : ℕ) (e : Edge) → ((e.dim.0 == dim) ≡ true → (v : ℕ) → has new (edge_decision parts e) v ≡ has old (edge_decision parts e) v)
    → (may_be parts new dim e ≡ may_be parts old dim e) × (must_be parts new dim e ≡ must_be parts old dim e)
alike parts old new dim e same = (
  same_and (e.dim.0 == dim) (has new (edge_decision parts e) 0) (has old (edge_decision parts e) 0) (λ on. same on 0),
  same_and (e.dim.0 == dim) (has new (edge_decision parts e) 0 && not (has new (edge_decision parts e) 1)) (has old (edge_decision parts e) 0 && not (has old (edge_decision parts e) 1))
      (λ on. ap₂ (λ a b. a && not b) (same on 0) (same on 1)),
)

module _ (parts : Parts) (old new : List (List Bool)) (inside : LiesIn new old) (dim : ℕ) (stays : (e : Edge) → IsPlaceOn parts dim e → (v : ℕ) → Has old (edge_decision parts e) v → Has new (edge_decision parts e) v) where
  all_alike : (e : Edge) → Contains (places parts) e → (may_be parts new dim e ≡ may_be parts old dim e) × (must_be parts new dim e ≡ must_be parts old dim e)
  all_alike e c = alike parts old new dim e (λ on v. same_flag (has new (edge_decision parts e) v) (has old (edge_decision parts e) v) (inside (edge_decision parts e) v) (stays e (c, eqb-true e.dim.0 dim on) v))

  pub may_same : may_edges parts new dim ≡ may_edges parts old dim
  may_same = filter_on (may_be parts new dim) (may_be parts old dim) (places parts) (λ e c. (all_alike e c).0)

  pub must_same : must_edges parts new dim ≡ must_edges parts old dim
  must_same = filter_on (must_be parts new dim) (must_be parts old dim) (places parts) (λ e c. (all_alike e c).1)

-- ---- the rules go by these edges

module _ (parts : Parts) (group : Group) (old new : List (List Bool)) (d v : ℕ) where
  module _ (same : must_edges parts new (first_dim group) ≡ must_edges parts old (first_dim group)) where
    one_mother_stays : OneMother parts group new d v → OneMother parts group old d v
    one_mother_stays r = record { place = r.place; is = r.is; says = r.says; other = r.other; must = subst (λ es. Contains es r.other) same r.must; differs = r.differs; both = r.both }

    no_cycle_stays : NoCycle parts group new d v → NoCycle parts group old d v
    no_cycle_stays r = record { place = r.place; is = r.is; says = r.says; back = subst (λ es. Above es r.place.daughter.0 r.place.mother.0) same r.back }

    one_label_stays : OneLabel parts group new d v → OneLabel parts group old d v
    one_label_stays r = record { place = r.place; is = r.is; says = r.says; other = r.other; must = subst (λ es. Contains es r.other) same r.must; differs = r.differs; mother = r.mother; daughter = r.daughter }

    root_stays : ForRoot parts group new d v → ForRoot parts group old d v
    root_stays (inl r) = inl (record { place = r.place; is = r.is; says = r.says; root = ap (roots (nodes parts)) (sym same) ∙ r.root })
    root_stays (inr none) = inr (ap (roots (nodes parts)) (sym same) ∙ none)

    pub musts_stay : (p : Principle) → ByMusts p parts group new d v → ByMusts p parts group old d v
    musts_stay principles.Tree (inl mother) = inl (one_mother_stays mother)
    musts_stay principles.Tree (inr (inl root)) = inr (inl (root_stays root))
    musts_stay principles.Tree (inr (inr cycle)) = inr (inr (no_cycle_stays cycle))
    musts_stay principles.Dag (inl cycle) = inl (no_cycle_stays cycle)
    musts_stay principles.Dag (inr (inl root)) = inr (inl (root.0, root_stays root.1))
    musts_stay principles.Dag (inr (inr label)) = inr (inr (label.0, one_label_stays label.1))
    musts_stay principle rule = absurd rule

  pub others_stay : may_edges parts new (first_dim group) ≡ may_edges parts old (first_dim group) → ForOthers parts group new d v → ForOthers parts group old d v
  others_stay same (inl r) = inl (record {
    place = r.place;
    may = subst (λ es. Contains es r.place) same r.may;
    says = r.says;
    only = subst (λ es. mothers es r.place.daughter.0 ≡ 1) same r.only;
    other = r.other;
    root = subst (λ es. Contains (roots (nodes parts) es) r.other) same r.root;
  })
  others_stay same (inr two) = inr (let e = ap (λ es. length (roots (nodes parts) es)) same in omega (arith, e, two))
