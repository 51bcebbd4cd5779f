-- What conditions ask, tried on small analyses whose answers are worked out by hand. Nodes and labels count from 0.
use Rattle.std.proofs.Common.{◌≡◌, ℕ, ◌<◌, inl, inr, true, List, [], ◌∷◌, refl, arith}
use Rattle.std.specs.Prelude.{All, Contains}
use Rattle.std.specs.List.{Any, AllByRecursion}
use Rattle.std.proofs.lemmas.List.Elements.{All-from_recursion}
use Rattle.xdg_problem.specs.declared.analysis.Edge.{Edge}
use Rattle.xdg_problem.specs.declared.conditions.Condition.TheVariants as conditions
use Rattle.xdg_problem.specs.declared.parts.Feat.{Feat}
use Rattle.xdg_problem.specs.declared.parts.Group.{Group}
use Rattle.xdg_problem.specs.declared.parts.Principle.{Principle}
use Rattle.xdg_problem.specs.declared.parts.Principle.TheVariants as principles
use Rattle.xdg_problem.specs.Places.{edge}
use Rattle.xdg_problem.specs.Paths.{Above, IsDaughterByAny}
use Rattle.xdg_problem.specs.Asking.{AsksOf}
use Rattle.xdg_facts.proofs.Contained.{contains_head, any_of, contained}
use Rattle.xdg_facts.proofs.Each.{each_contained}
use Rattle.xdg_problem.proofs.Walks.{closed_above}
use Rattle.xdg_facts.proofs.Numbers.{has_first}
use Rattle.xdg_facts.proofs.Lists.{contains_more}

-- helpers

none_of : (P : Edge → Type 0) (edges : List Edge) → AllByRecursion (λ e. P e → ⊥) edges → Any P edges → ⊥
none_of P edges fails a = let c = contained P edges a in each_contained (λ e. P e → ⊥) edges c.0 fails c.1 c.2

-- where no edge leads out of a node, it is above none
nothing_out : (edges : List Edge) (u v : ℕ) → AllByRecursion (λ e. e.mother.0 ≡ u → ⊥) edges → Above edges u v → ⊥
nothing_out edges u v fails = closed_above edges u v (λ x. ⊥) (λ e c from. elim from [ inl is ↦ each_contained (λ e. e.mother.0 ≡ u → ⊥) edges e fails c is | inr none ↦ none ])

second_in : (e f : Edge) (edges : List Edge) → Contains (e ∷ f ∷ edges) f
second_in e f edges = contains_more e (f ∷ edges) f (contains_head f edges)

-- a path of two edges that are the only two
both_along : (e f : Edge) → All (Contains (e ∷ f ∷ [])) (e ∷ f ∷ [])
both_along e f = All-from_recursion (Contains (e ∷ f ∷ [])) (e ∷ f ∷ []) (contains_head e (f ∷ []), (second_in e f [], tt))

-- Three words, two dimensions with one label each, and an edge from 0 to 1 on the first. Each entry links the one label to
-- the other, names the first, and blocks the second.

abbrev one_row : List (List Feat)
one_row = (record { rows = (0 ∷ []) ∷ [] } ∷ []) ∷ []

abbrev linked : Principle → Group
linked principle = record { principle = principle; dims = record { 0 = 0 } ∷ record { 0 = 1 } ∷ record { 0 = 2 } ∷ []; attrs = []; order = []; truths = []; feats = one_row ∷ one_row ∷ one_row ∷ [] }

abbrev Kept : Principle → List Edge → Type 0
Kept principle edges = AsksOf conditions.Link (linked principle) 0 [] (edge 0 0 0 1 ∷ edges) (0 ∷ 0 ∷ 1 ∷ [])

abbrev upper : Any (λ e. (e.mother.0 ≡ 0) × (e.label.0 ≡ 0) × (e.daughter.0 ≡ 1)) (edge 0 0 0 1 ∷ [])
upper = any_of (λ e. (e.mother.0 ≡ 0) × (e.label.0 ≡ 0) × (e.daughter.0 ≡ 1)) (edge 0 0 0 1 ∷ []) (edge 0 0 0 1) (contains_head (edge 0 0 0 1) []) (refl, refl, refl)

-- 0 -> 1 on the second dimension

abbrev parallel : Edge
parallel = edge 1 0 0 1

daughter_kept : Kept principles.LinkingDaughter (parallel ∷ [])
daughter_kept is some = any_of (λ e. (e.mother.0 ≡ 0) × Contains (0 ∷ []) e.label.0 × (e.daughter.0 ≡ 1)) (parallel ∷ []) parallel (contains_head parallel []) (refl, has_first, refl)

end_kept : Kept principles.LinkingEnd (parallel ∷ [])
end_kept is some = any_of (λ e. Contains (0 ∷ []) e.label.0 × (e.daughter.0 ≡ 1)) (parallel ∷ []) parallel (contains_head parallel []) (has_first, refl)

mother_broken : Kept principles.LinkingMother (parallel ∷ []) → ⊥
mother_broken kept = none_of (λ e. (e.mother.0 ≡ 1) × Contains (0 ∷ []) e.label.0 × (e.daughter.0 ≡ 0)) (parallel ∷ []) (λ p. let h : 0 ≡ 1 = p.0 in cc, tt) (kept upper (omega arith))

sisters_broken : Kept principles.LinkingSisters (parallel ∷ []) → ⊥
sisters_broken kept = none_of (λ e. (e.daughter.0 ≡ 0) × IsDaughterByAny (parallel ∷ []) e.mother.0 (0 ∷ []) 1) (parallel ∷ []) (λ p. let h : 1 ≡ 0 = p.0 in cc, tt) (kept upper (omega arith))

not_daughter_broken : Kept principles.LinkingNotDaughter (parallel ∷ []) → ⊥
not_daughter_broken kept = kept upper has_first (any_of (λ e. (e.mother.0 ≡ 0) × (e.daughter.0 ≡ 1)) (parallel ∷ []) parallel (contains_head parallel []) (refl, refl))

-- 1 -> 2 -> 0

abbrev up : List Edge
up = edge 1 1 0 2 ∷ edge 1 2 0 0 ∷ []

no_start : AllByRecursion (λ e. e.mother.0 ≡ 0 → ⊥) up
no_start = (λ p. let h : 1 ≡ 0 = p in cc, (λ p. let h : 2 ≡ 0 = p in cc, tt))

above_start_kept : Kept principles.LinkingAboveStart up
above_start_kept is some = record {
  first = edge 1 1 0 2;
  rest = edge 1 2 0 0 ∷ [];
  label = has_first;
  along = both_along (edge 1 1 0 2) (edge 1 2 0 0);
  leads = (refl, (refl, refl));
}

below_start_broken : Kept principles.LinkingBelowStart up → ⊥
below_start_broken kept =
    let linked = kept upper (omega arith) in
    none_of (λ e. e.mother.0 ≡ 0) up no_start (any_of (λ e. e.mother.0 ≡ 0) up linked.first (linked.along 0 linked.first (omega arith)) linked.leads.0)

-- 0 is above 1 on the first dimension and not on the second
climbing_broken : AsksOf conditions.Below (linked principles.Climbing) 0 [] (edge 0 0 0 1 ∷ up) (0 ∷ 1 ∷ []) → ⊥
climbing_broken kept = nothing_out up 0 1 no_start (kept (record {
  path = edge 0 0 0 1 ∷ [];
  some = omega arith;
  along = All-from_recursion (Contains (edge 0 0 0 1 ∷ [])) (edge 0 0 0 1 ∷ []) (contains_head (edge 0 0 0 1) [], tt);
  leads = (refl, refl);
}))

-- 1 blocks what is below it on the second dimension, and 0 isn't below it on the first
barriers_broken : AsksOf conditions.Blocked (linked principles.Barriers) 0 [] (edge 0 0 0 1 ∷ up) (1 ∷ 0 ∷ []) → ⊥
barriers_broken kept = nothing_out (edge 0 0 0 1 ∷ []) 1 0 (λ p. let h : 0 ≡ 1 = p in cc, tt) (kept (record {
  front = edge 1 1 0 2 ∷ [];
  last = edge 1 2 0 0;
  label = has_first;
  along = both_along (edge 1 1 0 2) (edge 1 2 0 0);
  leads = (refl, (refl, refl));
}))

-- 2 -> 0 and 2 -> 1

sisters_kept : Kept principles.LinkingSisters (edge 1 2 0 0 ∷ edge 1 2 0 1 ∷ [])
sisters_kept is some =
    let down : List Edge = edge 1 2 0 0 ∷ edge 1 2 0 1 ∷ [] in
    let daughter : Edge → Type 0 = λ e. (e.mother.0 ≡ 2) × Contains (0 ∷ []) e.label.0 × (e.daughter.0 ≡ 1) in
    any_of (λ e. (e.daughter.0 ≡ 0) × Any (λ f. (f.mother.0 ≡ e.mother.0) × Contains (0 ∷ []) f.label.0 × (f.daughter.0 ≡ 1)) down) down (edge 1 2 0 0) (contains_head (edge 1 2 0 0) (edge 1 2 0 1 ∷ []))
    (refl, any_of daughter down (edge 1 2 0 1) (second_in (edge 1 2 0 0) (edge 1 2 0 1) []) (refl, has_first, refl))

-- 0 -> 2 -> 1

below_start_kept : Kept principles.LinkingBelowStart (edge 1 0 0 2 ∷ edge 1 2 0 1 ∷ [])
below_start_kept is some = record {
  first = edge 1 0 0 2;
  rest = edge 1 2 0 1 ∷ [];
  label = has_first;
  along = both_along (edge 1 0 0 2) (edge 1 2 0 1);
  leads = (refl, (refl, refl));
}

daughter_broken : Kept principles.LinkingDaughter (edge 1 0 0 2 ∷ edge 1 2 0 1 ∷ []) → ⊥
daughter_broken kept = none_of (λ e. (e.mother.0 ≡ 0) × Contains (0 ∷ []) e.label.0 × (e.daughter.0 ≡ 1)) (edge 1 0 0 2 ∷ edge 1 2 0 1 ∷ []) (λ p. let h : 2 ≡ 1 = p.2 in cc, (λ p. let h : 2 ≡ 0 = p.0 in cc, tt)) (kept upper (omega arith))

-- One dimension of four words: 0 -> 1, 1 -> 0 and 3 -> 1.

abbrev use_of : Principle → Group
use_of principle = record { principle = principle; dims = record { 0 = 0 } ∷ []; attrs = record { 0 = 0 } ∷ []; order = record { 0 = 0 } ∷ record { 0 = 1 } ∷ []; truths = true ∷ []; feats = one_row ∷ one_row ∷ one_row ∷ one_row ∷ [] }

abbrev crossing : List Edge
crossing = edge 0 0 0 1 ∷ edge 0 1 0 0 ∷ edge 0 3 0 1 ∷ []

cycle_broken : AsksOf conditions.Cycle (use_of principles.Tree) 0 [] crossing (0 ∷ []) → ⊥
cycle_broken kept = kept (record {
  path = edge 0 0 0 1 ∷ edge 0 1 0 0 ∷ [];
  some = omega arith;
  along = All-from_recursion (Contains crossing) (edge 0 0 0 1 ∷ edge 0 1 0 0 ∷ []) (contains_head (edge 0 0 0 1) (edge 0 1 0 0 ∷ edge 0 3 0 1 ∷ []), (second_in (edge 0 0 0 1) (edge 0 1 0 0) (edge 0 3 0 1 ∷ []), tt));
  leads = (refl, (refl, refl));
})

-- 2 stands between 3 and its daughter 1, and 3 isn't above it
between_broken : AsksOf conditions.Between (use_of principles.Projectivity) 0 [] crossing (3 ∷ 1 ∷ 2 ∷ []) → ⊥
between_broken kept =
    let found : 2 < 2 = closed_above crossing 3 2 (λ x. x < 2) (λ e c from. each_contained (λ e. e.daughter.0 < 2) crossing e (omega arith, (omega arith, (omega arith, tt))) c)
    (kept (any_of (λ e. (e.mother.0 ≡ 3) × (e.daughter.0 ≡ 1)) crossing (edge 0 3 0 1) (contains_more (edge 0 0 0 1) (edge 0 1 0 0 ∷ edge 0 3 0 1 ∷ []) (edge 0 3 0 1) (second_in (edge 0 1 0 0) (edge 0 3 0 1) []))
    (refl, refl)) (inr (omega arith, omega arith))) in
    omega (arith, found)

-- Order: label 0 stands before label 1; 1 has its own label 0.

-- a daughter with label 1 to the left of its head
order_broken : AsksOf conditions.Order (use_of principles.Order) 0 (0 ∷ []) (edge 0 1 1 0 ∷ []) (1 ∷ 1 ∷ 0 ∷ []) → ⊥
order_broken kept =
    let h : 1 < 0 = kept 0 1 0 (omega arith) (omega arith) (inl (refl, refl)) (inr (inl (any_of (λ e. (e.mother.0 ≡ 1) × (e.label.0 ≡ 1) × (e.daughter.0 ≡ 0)) (edge 0 1 1 0 ∷ []) (edge 0 1 1 0)
    (contains_head (edge 0 1 1 0) []) (refl, refl, refl)))) in
    omega (arith, h)

-- a daughter to the right whose own daughter stands to the left: with yields that one is in the daughter's item
yields_broken : AsksOf conditions.Order (use_of principles.Order) 0 (0 ∷ []) (edge 0 1 1 2 ∷ edge 0 2 0 0 ∷ []) (1 ∷ 1 ∷ 0 ∷ []) → ⊥
yields_broken kept =
    let edges : List Edge = edge 0 1 1 2 ∷ edge 0 2 0 0 ∷ [] in
    let h : 1 < 0 = kept 0 1 0 (omega arith) (omega arith) (inl (refl, refl)) (inr (inr (
      refl,
      (
        2,
        any_of (λ e. (e.mother.0 ≡ 1) × (e.label.0 ≡ 1) × (e.daughter.0 ≡ 2)) edges (edge 0 1 1 2) (contains_head (edge 0 1 1 2) (edge 0 2 0 0 ∷ [])) (refl, refl, refl),
        record {
          path = edge 0 2 0 0 ∷ [];
          some = omega arith;
          along = All-from_recursion (Contains edges) (edge 0 2 0 0 ∷ []) (second_in (edge 0 1 1 2) (edge 0 2 0 0) [], tt);
          leads = (refl, refl);
        },
      ),
    ))) in
    omega (arith, h)

-- Agreement and government: 1 -> 0 with label 0, which the entry of 1 names.

abbrev governed : Any (λ e. (e.mother.0 ≡ 1) × (e.label.0 ≡ 0) × (e.daughter.0 ≡ 0)) (edge 0 1 0 0 ∷ [])
governed = any_of (λ e. (e.mother.0 ≡ 1) × (e.label.0 ≡ 0) × (e.daughter.0 ≡ 0)) (edge 0 1 0 0 ∷ []) (edge 0 1 0 0) (contains_head (edge 0 1 0 0) []) (refl, refl, refl)

agree_kept : AsksOf conditions.Agree (use_of principles.Agreement) 0 (1 ∷ 1 ∷ []) (edge 0 1 0 0 ∷ []) (1 ∷ 0 ∷ 0 ∷ [])
agree_kept is named = refl

agree_broken : AsksOf conditions.Agree (use_of principles.Agreement) 0 (1 ∷ 0 ∷ []) (edge 0 1 0 0 ∷ []) (1 ∷ 0 ∷ 0 ∷ []) → ⊥
agree_broken kept = let h : 1 ≡ 0 = kept governed has_first in omega (arith, h)

govern_kept : AsksOf conditions.Govern (use_of principles.Government) 0 (0 ∷ []) (edge 0 1 0 0 ∷ []) (1 ∷ 0 ∷ 0 ∷ [])
govern_kept is some = has_first

pair_broken : AsksOf conditions.Pair (use_of principles.Dag) 0 [] (edge 0 1 0 0 ∷ edge 0 1 1 0 ∷ []) (1 ∷ 0 ∷ []) → ⊥
pair_broken kept = omega (arith, kept)
