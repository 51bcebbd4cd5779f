-- Edges: when two are the same, and the order in which they are decided.
use Rattle.std.proofs.Common.{◌≡◌, ℕ, List, [], ◌∷◌, ◌⊎◌, inl, inr, refl, ap, sym, ◌∙◌, subst, true, false}
use Rattle.std.specs.Prelude.{◌&&◌, ◌==◌, slice_index}
use Rattle.std.proofs.lemmas.Bool.{cases_Bool, and_parts, eq-eqb, eqb-true}
use Rattle.xdg_facts.specs.Order.{Less}
use Rattle.xdg_facts.proofs.Ordered.{less_irreflexive, less_transitive, less_total}
use Rattle.xdg_problem.specs.declared.analysis.Edge.{Edge}
use Rattle.xdg_problem.specs.Places.{edge, same_edge}
use Rattle.xdg_problem.specs.Analyses.{Before}

-- edges are equal where their numbers are
pub edge_equal : (a b : Edge) → a.dim.0 ≡ b.dim.0 → a.mother.0 ≡ b.mother.0 → a.label.0 ≡ b.label.0 → a.daughter.0 ≡ b.daughter.0 → a ≡ b
edge_equal a b d m l g =
    ap (λ n. edge n a.mother.0 a.label.0 a.daughter.0) d ∙ ap (λ n. edge b.dim.0 n a.label.0 a.daughter.0) m
    ∙ ap (λ n. edge b.dim.0 b.mother.0 n a.daughter.0) l ∙ ap (λ n. edge b.dim.0 b.mother.0 b.label.0 n) g

pub same_edge_itself : (a : Edge) → same_edge a a ≡ true
same_edge_itself a = rw (eq-eqb a.dim.0 a.dim.0 refl, eq-eqb a.mother.0 a.mother.0 refl, eq-eqb a.label.0 a.label.0 refl, eq-eqb a.daughter.0 a.daughter.0 refl) refl

pub same_edge_equal : (a b : Edge) → same_edge a b ≡ true → a ≡ b
same_edge_equal a b e =
    let p = and_parts (((a.dim.0 == b.dim.0) && (a.mother.0 == b.mother.0)) && (a.label.0 == b.label.0)) (a.daughter.0 == b.daughter.0) e in
    let q = and_parts ((a.dim.0 == b.dim.0) && (a.mother.0 == b.mother.0)) (a.label.0 == b.label.0) p.0 in
    let r = and_parts (a.dim.0 == b.dim.0) (a.mother.0 == b.mother.0) q.0 in
    edge_equal a b (eqb-true a.dim.0 b.dim.0 r.0) (eqb-true a.mother.0 b.mother.0 r.1) (eqb-true a.label.0 b.label.0 q.1) (eqb-true a.daughter.0 b.daughter.0 p.1)

pub same_edge_apart : (a b : Edge) → (a ≡ b → ⊥) → same_edge a b ≡ false
same_edge_apart a b n = elim (cases_Bool (same_edge a b)) [
  | inl e ↦ absurd (n (same_edge_equal a b e))
  | inr e ↦ e
]

-- edges are decided in the order of their numbers
abbrev numbers : Edge → List ℕ
numbers e = e.dim.0 ∷ e.mother.0 ∷ e.label.0 ∷ e.daughter.0 ∷ []

less_of : (a b : Edge) → Before a b → Less (numbers a) (numbers b)
less_of a b (inl d) = inl d
less_of a b (inr (d, inl m)) = inr (d, inl m)
less_of a b (inr (d, inr (m, inl l))) = inr (d, inr (m, inl l))
less_of a b (inr (d, inr (m, inr (l, g)))) = inr (d, inr (m, inr (l, inl g)))

before_of : (a b : Edge) → Less (numbers a) (numbers b) → Before a b
before_of a b (inl d) = inl d
before_of a b (inr (d, inl m)) = inr (d, inl m)
before_of a b (inr (d, inr (m, inl l))) = inr (d, inr (m, inl l))
before_of a b (inr (d, inr (m, inr (l, inl g)))) = inr (d, inr (m, inr (l, g)))
before_of a b (inr (d, inr (m, inr (l, inr (g, none))))) = absurd none

-- no edge is decided before itself
pub before_irreflexive : (a : Edge) → Before a a → ⊥
before_irreflexive a before = less_irreflexive (numbers a) (less_of a a before)

pub before_transitive : (a b c : Edge) → Before a b → Before b c → Before a c
before_transitive a b c one two = before_of a c (less_transitive (numbers a) (numbers b) (numbers c) (less_of a b one) (less_of b c two))

-- of two edges one is decided before the other, or they are equal
pub before_total : (a b : Edge) → Before a b ⊎ ((a ≡ b) ⊎ Before b a)
before_total a b = elim (less_total (numbers a) (numbers b)) [
  | inl less ↦ inl (before_of a b less)
  | inr (inl same) ↦ inr (inl (ap (λ xs. edge (slice_index xs 0) (slice_index xs 1) (slice_index xs 2) (slice_index xs 3)) same))
  | inr (inr more) ↦ inr (inr (before_of b a more))
]

pub before_differ : (a b : Edge) → Before a b → a ≡ b → ⊥
before_differ a b l e = before_irreflexive b (subst (λ z. Before z b) e l)

pub before_asymmetric : (a b : Edge) → Before a b → Before b a → ⊥
before_asymmetric a b l m = before_irreflexive a (before_transitive a b a l m)

pub before_apart : (a b : Edge) → Before a b → same_edge a b ≡ false
before_apart a b l = same_edge_apart a b (before_differ a b l)

pub after_apart : (a b : Edge) → Before a b → same_edge b a ≡ false
after_apart a b l = same_edge_apart b a (λ e. before_differ a b l (sym e))
