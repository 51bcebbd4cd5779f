-- In a box that agrees with a whole vector the rules of paths and links take nothing that remains, if the conditions hold.
use Rattle.std.proofs.Common.{◌≡◌, ℕ, ◌⊎◌, inl, inr, Bool, List, [], ◌∷◌, length, refl, sym, subst, Some}
use Rattle.std.specs.Prelude.{Contains, slice_index}
use Rattle.std.proofs.lemmas.List.Elements.{All-nil, All-cons, All-push}
use Rattle.xdg_problem.specs.declared.analysis.Edge.{Edge}
use Rattle.xdg_problem.specs.declared.conditions.Condition.{Condition}
use Rattle.xdg_problem.specs.declared.conditions.Condition.TheVariants as conditions
use Rattle.xdg_problem.specs.declared.parts.Group.{Group}
use Rattle.xdg_problem.specs.declared.parts.Linking.{Linking}
use Rattle.xdg_problem.specs.declared.parts.Parts.{Parts}
use Rattle.xdg_problem.specs.declared.parts.Principle.{Principle}
use Rattle.xdg_problem.specs.declared.parts.Principle.TheVariants as principles
use Rattle.xdg_problem.specs.Arguments.{first_dim, second_dim}
use Rattle.xdg_problem.specs.Asking.{IsLinked, AsksLink, AsksBy}
use Rattle.xdg_problem.specs.Features.{set_row, map_row}
use Rattle.xdg_problem.specs.Paths.{edges_on, IsDaughter, Above, AboveByLast}
use Rattle.xdg_problem.specs.Places.{places}
use Rattle.xdg_problem.specs.Problems.{IsProblem}
use Rattle.xdg_problem.specs.Vectors.{shape, entry_places, entries_at, edges_in}
use Rattle.xdg_facts.proofs.Contained.{any_of}
use Rattle.xdg_problem.proofs.PlaceOrder.{is_place}
use Rattle.xdg_problem.proofs.Walks.{above_edge, leads_append}
use Rattle.xdg_problem.specs.Boxes.{Has, IsBox, Agrees}
use Rattle.xdg_rules.specs.Rules.{may_edges, ProjectivityReach, ClimbingReach, BarriersReach, LinkingReach, LinkingNotDaughter}
use Rattle.xdg_rules.proofs.Counting.{label_on}
use Rattle.xdg_rules.proofs.Shrinking.{barrier_within}
use Rattle.xdg_rules.proofs.SoundTree.{Kept}
use Rattle.xdg_rules.proofs.Whole.{may_on, must_on, must_stands, daughter_by, present, entry_has}

-- a path up to an edge, and the edge
above_by_last : (edges : List Edge) (labels : List ℕ) (w : ℕ) (e : Edge) → Contains edges e → Contains labels e.label.0 → (w ≡ e.mother.0) ⊎ Above edges w e.mother.0 → AboveByLast edges w labels e.daughter.0
above_by_last edges labels w e stands label (inl here) = record {
  front = [];
  last = e;
  label = label;
  along = All-cons (Contains edges) e [] stands (All-nil (Contains edges));
  leads = (sym here, refl);
}
above_by_last edges labels w e stands label (inr over) = record {
  front = over.path;
  last = e;
  label = label;
  along = All-push (Contains edges) over.path e over.along stands;
  leads = leads_append over.path (e ∷ []) w e.mother.0 e.daughter.0 over.leads (refl, refl);
}

module _ (parts : Parts) (group : Group) (box : List (List Bool)) (x : List ℕ) (problem : IsProblem parts) (is : IsBox (shape parts) box) (whole : length x ≡ length (shape parts)) (agrees : Agrees box x) where
  abbrev one : ℕ
  one = first_dim group

  abbrev two : ℕ
  two = second_dim group

  abbrev on : ℕ → List Edge
  on dim = edges_on dim (edges_in parts x)

  abbrev Holds : Condition → Type 0
  Holds condition = Kept parts group box x problem is whole agrees condition

  abbrev entry : ℕ → ℕ
  entry node = slice_index (entry_places parts.candidates (entries_at parts.candidates x)) node

  may_above : (dim u v : ℕ) → (Above (may_edges parts box dim) u v → ⊥) → Above (on dim) u v → ⊥
  may_above dim u v = subst (λ es. Above es u v → ⊥) (may_on parts box x problem is whole agrees dim)

  daughter : (dim : ℕ) (e : Edge) → Contains (on dim) e → IsDaughter (on dim) e.mother.0 e.daughter.0
  daughter dim e stands = any_of (λ f. (f.mother.0 ≡ e.mother.0) × (f.daughter.0 ≡ e.daughter.0)) (on dim) e stands (refl, refl)

  pub projectivity_reach : Holds conditions.Between → (d v : ℕ) → Has box d v → ProjectivityReach parts group box d v → ⊥
  projectivity_reach kept d v has rule =
      let place = is_place parts rule.place rule.is.0 in
      let u : ℕ = rule.place.mother.0 in
      let stands = present parts box x problem is whole agrees one rule.place d v rule.is rule.says has in
      may_above one u rule.node rule.apart (kept (u ∷ rule.place.daughter.0 ∷ rule.node ∷ []) (place.mother, (place.daughter, (rule.within, tt))) (daughter one rule.place stands) rule.between)

  pub climbing_reach : Holds conditions.Below → (d v : ℕ) → Has box d v → ClimbingReach parts group box d v → ⊥
  climbing_reach kept d v has rule =
      let place = is_place parts rule.place rule.is.0 in
      let u : ℕ = rule.place.mother.0 in
      let w : ℕ = rule.place.daughter.0 in
      let stands = present parts box x problem is whole agrees one rule.place d v rule.is rule.says has in
      may_above two u w rule.apart (kept (u ∷ w ∷ []) (place.mother, (place.daughter, tt)) (above_edge (on one) rule.place stands))

  pub barriers_reach : Holds conditions.Blocked → (d v : ℕ) → Has box d v → BarriersReach parts group box d v → ⊥
  barriers_reach kept d v has rule =
      let place = is_place parts rule.place rule.is.0 in
      let u : ℕ = rule.place.mother.0 in
      let stands = present parts box x problem is whole agrees two rule.place d v rule.is rule.says has in
      let above : (rule.barrier ≡ u) ⊎ Above (on two) rule.barrier u = subst (λ es. (rule.barrier ≡ u) ⊎ Above es rule.barrier u) (must_on parts box x problem is whole agrees two) rule.above in
      let within = barrier_within parts box two rule.barrier u place.mother rule.above in
      let blocks = rule.blocks (entry rule.barrier) (entry_has parts box x problem is whole agrees rule.barrier within) in
      may_above one rule.barrier rule.place.daughter.0 rule.apart (kept (rule.barrier ∷ rule.place.daughter.0 ∷ []) (within, (place.daughter, tt)) (above_by_last (on two) (set_row group rule.barrier (entry rule.barrier)) rule.barrier rule.place stands blocks above))

  asks_link : Holds conditions.Link → (e : Edge) → Contains (places parts) e → e.dim.0 ≡ one → Contains (on one) e → AsksLink group.principle group (entry e.mother.0) (on two) e.mother.0 e.label.0 e.daughter.0
  asks_link kept e placed is_on stands =
      let place = is_place parts e placed in
      kept (e.mother.0 ∷ e.label.0 ∷ e.daughter.0 ∷ []) (place.mother, (label_on parts one e place is_on, (place.daughter, tt))) (daughter_by (on one) e stands)

  pub linking_reach : (principle : Principle) (way : Linking) → group.principle ≡ principle
      → ((e : Edge) → AsksLink principle group (entry e.mother.0) (on two) e.mother.0 e.label.0 e.daughter.0 → AsksBy (Some way) (on two) e.mother.0 (map_row group e.mother.0 (entry e.mother.0) e.label.0) e.daughter.0)
      → Holds conditions.Link → (d v : ℕ) → Has box d v → LinkingReach parts group box way d v → ⊥
  linking_reach principle way same asks_by kept d v has rule =
      let u : ℕ = rule.place.mother.0 in
      let l : ℕ = rule.place.label.0 in
      let w : ℕ = rule.place.daughter.0 in
      let row : List ℕ = map_row group u (entry u) l in
      let remains = entry_has parts box x problem is whole agrees u (is_place parts rule.place rule.is.0).mother in
      let stands = present parts box x problem is whole agrees one rule.place d v rule.is rule.says has in
      let asks = subst (λ p. AsksLink p group (entry u) (on two) u l w) same (asks_link kept rule.place rule.is.0 rule.is.1 stands) in
      let linked = asks_by rule.place asks (rule.links (entry u) remains) in
      rule.apart (entry u) remains (subst (λ es. IsLinked way es u row w) (sym (may_on parts box x problem is whole agrees two)) linked)

  pub linking_not_daughter : group.principle ≡ principles.LinkingNotDaughter → Holds conditions.Link → (d v : ℕ) → Has box d v → LinkingNotDaughter parts group box d v → ⊥
  linking_not_daughter same kept d v has rule =
      let u : ℕ = rule.place.mother.0 in
      let w : ℕ = rule.place.daughter.0 in
      let keeps = rule.keeps (entry u) (entry_has parts box x problem is whole agrees u (is_place parts rule.place rule.is.0).mother) in
      let apart : Contains (on one) rule.place → IsDaughter (on two) u w → ⊥ = λ stands. subst (λ p. AsksLink p group (entry u) (on two) u rule.place.label.0 w) same (asks_link kept rule.place rule.is.0 rule.is.1 stands) keeps in
      let joined : Contains (on two) rule.other → IsDaughter (on two) u w = λ stands. subst (λ k. IsDaughter (on two) k w) (sym rule.mother) (subst (λ k. IsDaughter (on two) rule.other.mother.0 k) (sym rule.daughter) (daughter two rule.other stands)) in
      elim rule.one [
        | inl first ↦ apart (present parts box x problem is whole agrees one rule.place d v rule.is first.0 has) (joined (must_stands parts box x problem is whole agrees two rule.other first.1))
        | inr second ↦ apart (must_stands parts box x problem is whole agrees one rule.place second.1) (joined (present parts box x problem is whole agrees two rule.other d v rule.other_is second.0 has))
      ]
