-- What a table leads to through the first nodes, one node more.
use Rattle.std.proofs.Common.{ℕ, ◌<◌, ◌↔◌, List, [], ◌∷◌, refl}
use Rattle.std.specs.Prelude.{All, Contains}
use Rattle.std.specs.List.{Any}
use Rattle.std.proofs.lemmas.List.Elements.{All-contains}
use Rattle.xdg_problem.specs.declared.analysis.Edge.{Edge}
use Rattle.xdg_judge.specs.declared.links.Direction.{Direction}
use Rattle.xdg_judge.specs.declared.links.Direction.TheVariants as directions
use Rattle.xdg_judge.specs.Links.{Leads, LeadsFar}
use Rattle.xdg_nodeset.specs.Tables.{InTable, Along, IsClosure}
use Rattle.xdg_problem.proofs.Walks.{above_in, above_trans, daughter_above}

-- one edge leads far, and so do two ways one behind the other

far_one : (direction : Direction) (edges : List Edge) (a b : ℕ) → Any (Leads direction a b) edges → LeadsFar direction edges a b
far_one directions.Down edges a b joined = daughter_above edges a b joined
far_one directions.Up edges a b (k, e, l, at, (d, m)) = daughter_above edges b a (k, e, l, at, (m, d))

far_two : (direction : Direction) (edges : List Edge) (a n b : ℕ) → LeadsFar direction edges a n → LeadsFar direction edges n b → LeadsFar direction edges a b
far_two directions.Down edges a n b first second = above_trans edges a n b first second
far_two directions.Up edges a n b first second = above_trans edges b n a second first

far_along : (direction : Direction) (edges : List Edge) (next : List (List ℕ)) → ((a b : ℕ) → InTable next a b ↔ Any (Leads direction a b) edges) → (nodes : List ℕ) (a b : ℕ) → Along next a nodes b → LeadsFar direction edges a b
far_along direction edges next is [] a b h = far_one direction edges a b ((is a b).0 h)
far_along direction edges next is (n ∷ nodes) a b h = far_two direction edges a n b (far_one direction edges a n ((is a n).0 h.0)) (far_along direction edges next is nodes n b h.1)

-- a closed table has what paths lead to
pub far_exact : (direction : Direction) (size : ℕ) (edges : List Edge) (next far : List (List ℕ)) → All (λ e. (e.mother.0 < size) × (e.label.0 < 32) × (e.daughter.0 < size)) edges → ((a b : ℕ) → InTable next a b ↔ Any (Leads direction a b) edges) → IsClosure size next far → (a b : ℕ) → InTable far a b ↔ LeadsFar direction edges a b
far_exact direction size edges next far within is c a b = (λ h. let p = c.along a b h in far_along direction edges next is p.0 a b p.1, back direction is)
  where
    mother_within : (e : Edge) → Contains edges e → e.mother.0 < size
    mother_within e contained = (All-contains (λ (f : Edge). (f.mother.0 < size) × (f.label.0 < 32) × (f.daughter.0 < size)) edges e within contained).0

    back : (d : Direction) → ((x y : ℕ) → InTable next x y ↔ Any (Leads d x y) edges) → LeadsFar d edges a b → InTable far a b
    back directions.Down leads =
        let here : (e : Edge) → Contains edges e → InTable far e.mother.0 e.daughter.0 = λ e k. c.contains e.mother.0 e.daughter.0 ((leads e.mother.0 e.daughter.0).1 (k.0, e, k.1, k.2, (refl, refl))) in
        above_in (InTable far) edges a b here (λ e k before. c.through a e.mother.0 e.daughter.0 (mother_within e k) before (here e k))
    back directions.Up leads =
        let here : (e : Edge) → Contains edges e → InTable far e.daughter.0 e.mother.0 = λ e k. c.contains e.daughter.0 e.mother.0 ((leads e.daughter.0 e.mother.0).1 (k.0, e, k.1, k.2, (refl, refl))) in
        above_in (λ x y. InTable far y x) edges b a here (λ e k before. c.through e.daughter.0 e.mother.0 b (mother_within e k) (here e k) before)
