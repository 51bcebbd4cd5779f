-- What a test sees of a box: edges that may be, and values of decisions that have one.
use Rattle.std.proofs.Common.{◌≡◌, ℕ, ◌↔◌, ◌&&◌, ◌==◌, Bool, true, List, sym, ap, ◌∙◌, arith, subst}
use Rattle.std.specs.Prelude.{Contains, filter}
use Rattle.std.specs.List.{Any}
use Rattle.std.proofs.lemmas.Bool.{and_parts, eqb-true}
use Rattle.xdg_problem.specs.declared.analysis.Edge.{Edge}
use Rattle.xdg_problem.specs.declared.parts.Group.{Group}
use Rattle.xdg_problem.specs.declared.parts.Parts.{Parts}
use Rattle.xdg_problem.specs.Boxes.{Has, May, Must, edge_decision}
use Rattle.xdg_problem.specs.Paths.{IsDaughterBy, edges_on}
use Rattle.xdg_problem.specs.Places.{edge, places}
use Rattle.xdg_problem.specs.Tests.{Test, looks_at}
use Rattle.xdg_problem.proofs.Edges.{edge_equal}
use Rattle.xdg_facts.proofs.Filters.{filter_both, filter_alike, filter_contained}
use Rattle.xdg_problem.proofs.Looking.{any_same, on_same}
use Rattle.xdg_rules.specs.Rules.{has, may_edges, IsDecided, IsPlaceOn, value_in}
use Rattle.xdg_rules.proofs.Failing.{value_is}
use Rattle.xdg_facts.proofs.Truths.{and_swap}

-- what remains of a decided decision is its value
pub only_value : (box : List (List Bool)) (d : ℕ) → IsDecided box d → (x : ℕ) → Has box d x → x ≡ value_in box d
only_value box d decided x remains = decided.2 x remains ∙ sym (value_is box d decided)

pub value_has : (box : List (List Bool)) (d : ℕ) → IsDecided box d → Has box d (value_in box d)
value_has box d decided = subst (Has box d) (sym (value_is box d decided)) decided.1

-- a decided edge that may be must be
pub decided_must : (parts : Parts) (box : List (List Bool)) (e : Edge) → IsDecided box (edge_decision parts e) → May parts box e → Must parts box e
decided_must parts box e decided here absent = (let x = decided.2 0 here in let y = decided.2 1 absent in omega (arith, x, y))

module _ (parts : Parts) (group : Group) (box : List (List Bool)) where
  abbrev present : Edge → Bool
  present e = has box (edge_decision parts e) 0

  -- the edges that may be
  abbrev all_may : List Edge
  all_may = filter present (places parts)

  -- those of them at which a test looks
  abbrev pub seen : Test → List Edge
  seen test = filter (λ e. looks_at group test e && present e) (places parts)

  seen_is : (test : Test) → seen test ≡ filter (looks_at group test) all_may
  seen_is test =
      filter_alike (λ e. looks_at group test e && present e) (λ e. present e && looks_at group test e) (places parts) (λ k d l. and_swap (looks_at group test _) (present _))
      ∙ sym (filter_both (looks_at group test) present (places parts))

  on_may : (dim : ℕ) → edges_on dim all_may ≡ may_edges parts box dim
  on_may dim =
      filter_both (λ e. e.dim.0 == dim) present (places parts)
      ∙ filter_alike (λ e. present e && (e.dim.0 == dim)) (λ e. (e.dim.0 == dim) && present e) (places parts) (λ k d l. and_swap (present _) (_ == dim))

  module _ (test : Test) (dim : ℕ) where
    -- where it looks at all of a dimension
    pub all_seen : ((e : Edge) → (e.dim.0 == dim) ≡ true → looks_at group test e ≡ true) → edges_on dim (seen test) ≡ may_edges parts box dim
    all_seen looks = ap (edges_on dim) (seen_is test) ∙ on_same (looks_at group test) dim all_may looks ∙ on_may dim

    -- or at those of which something holds
    pub any_seen : (P : Edge → Type 0) → ((e : Edge) → P e → (e.dim.0 == dim) ≡ true → looks_at group test e ≡ true) → Any P (edges_on dim (seen test)) ↔ Any P (may_edges parts box dim)
    any_seen P looks =
        subst (λ es. Any P (edges_on dim es) ↔ Any P (may_edges parts box dim)) (sym (seen_is test))
        (subst (λ es. Any P (edges_on dim (filter (looks_at group test) all_may)) ↔ Any P es) (on_may dim) (any_same (looks_at group test) dim all_may P looks))

    -- an edge that it sees
    pub seen_edge : (e : Edge) → Contains (edges_on dim (seen test)) e → IsPlaceOn parts dim e × (looks_at group test e ≡ true) × May parts box e
    seen_edge e c =
        let in_dim = filter_contained (λ (f : Edge). f.dim.0 == dim) (seen test) e c in
        let in_places = filter_contained (λ (f : Edge). looks_at group test f && present f) (places parts) e in_dim.0 in
        let two = and_parts (looks_at group test e) (present e) in_places.1 in
        ((in_places.0, eqb-true e.dim.0 dim in_dim.1), two.0, two.1)

    -- the same by its numbers
    pub seen_at : (u l v : ℕ) → IsDaughterBy (edges_on dim (seen test)) u l v
        → IsPlaceOn parts dim (edge dim u l v) × (looks_at group test (edge dim u l v) ≡ true) × May parts box (edge dim u l v)
    seen_at u l v (k, e, within, at, (m, b, d)) =
        let all = seen_edge e (k, within, at) in
        subst (λ f. IsPlaceOn parts dim f × (looks_at group test f ≡ true) × May parts box f) (edge_equal e (edge dim u l v) all.0.1 m b d) all
