-- In a box that agrees with a whole vector the rules of tree, dag and valency take nothing that remains, if the conditions hold.
use Rattle.std.proofs.Common.{◌≡◌, ℕ, ◌≤◌, inl, inr, Bool, ◌&&◌, List, [], ◌∷◌, length, refl, sym, ap, ◌∙◌, arith, subst}
use Rattle.std.specs.Prelude.{Contains, ◌==◌}
use Rattle.std.proofs.lemmas.Bool.{and_from, eq-eqb}
use Rattle.xdg_problem.specs.declared.analysis.Edge.{Edge}
use Rattle.xdg_problem.specs.declared.conditions.Condition.{Condition}
use Rattle.xdg_problem.specs.declared.conditions.Condition.TheVariants as conditions
use Rattle.xdg_problem.specs.declared.parts.Group.{Group}
use Rattle.xdg_problem.specs.declared.parts.Parts.{Parts}
use Rattle.xdg_problem.specs.Arguments.{first_dim}
use Rattle.xdg_problem.specs.Features.{in_row, out_row}
use Rattle.xdg_problem.specs.Paths.{edges_on, edges_into, edges_out_of, edges_joining, mothers, roots, Above}
use Rattle.xdg_problem.specs.Places.{nodes}
use Rattle.xdg_problem.specs.Problems.{IsProblem}
use Rattle.xdg_problem.specs.Relations.{IsKept}
use Rattle.xdg_problem.specs.Vectors.{shape, entry_places, entries_at, edges_in, analysis_of}
use Rattle.xdg_problem.proofs.Walks.{above_edge, above_trans}
use Rattle.xdg_facts.proofs.Contained.{contains_head}
use Rattle.xdg_facts.proofs.Keeping.{counts_two}
use Rattle.xdg_problem.proofs.PlaceOrder.{is_place}
use Rattle.xdg_problem.specs.Boxes.{Has, IsBox, Agrees}
use Rattle.xdg_rules.specs.Rules.{may_edges, must_edges, HasNoneWithin, ValencyEntry, ValencyFull, ValencyNeeded, OneMother, RootFound, HasNoRoot, HasTwoRoots, TakesForRoot, NoCycle, OneLabel}
use Rattle.xdg_rules.proofs.Among.{root_contained, root_free}
use Rattle.xdg_rules.proofs.Whole.{may_on, must_on, must_stands, present, absent, entry_is}

-- an edge, and a path on from it
pub above_after : (edges : List Edge) (e : Edge) (v : ℕ) → Contains edges e → Above edges e.daughter.0 v → Above edges e.mother.0 v
above_after edges e v c above = above_trans edges e.mother.0 e.daughter.0 v (above_edge edges e c) above

-- a number between two equal counts
none_at : (cardinality : List ℕ) (count least most : ℕ) → least ≡ count → most ≡ count → HasNoneWithin cardinality least most → Contains cardinality count → ⊥
none_at cardinality count least most from to none allowed = none count allowed (omega (arith, from)) (omega (arith, to))

module _ (parts : Parts) (group : Group) (box : List (List Bool)) (x : List ℕ) (problem : IsProblem parts) (is : IsBox (shape parts) box) (whole : length x ≡ length (shape parts)) (agrees : Agrees box x) where
  abbrev one : ℕ
  one = first_dim group

  abbrev on : ℕ → List Edge
  on dim = edges_on dim (edges_in parts x)

  abbrev pub Kept : Condition → Type 0
  Kept condition = IsKept parts group (entry_places parts.candidates (entries_at parts.candidates x)) (analysis_of parts x).attrs (edges_in parts x) condition

  -- what is an edge must be
  stands_must : (e : Edge) → Contains (on one) e → Contains (must_edges parts box one) e
  stands_must e stands = subst (λ es. Contains es e) (sym (must_on parts box x problem is whole agrees one)) stands

  pub one_mother : Kept conditions.Mothers → (d v : ℕ) → Has box d v → OneMother parts group box d v → ⊥
  one_mother kept d v has rule =
      let w : ℕ = rule.place.daughter.0 in
      let two = counts_two (λ e. e.daughter.0 == w) rule.place rule.other (on one) (present parts box x problem is whole agrees one rule.place d v rule.is rule.says has)
      (must_stands parts box x problem is whole agrees one rule.other rule.must) rule.differs (eq-eqb w w refl) (eq-eqb rule.other.daughter.0 w (sym rule.both)) in
      let most : mothers (on one) w ≤ 1 = kept (w ∷ []) ((is_place parts rule.place rule.is.0).daughter, tt) in
      omega (arith, two, most)

  root_found : (d v : ℕ) → Has box d v → RootFound parts group box d v → ⊥
  root_found d v has rule =
      let root : Contains (roots (nodes parts) (must_edges parts box one)) rule.place.daughter.0 = subst (λ list. Contains list rule.place.daughter.0) (sym rule.root) (contains_head rule.place.daughter.0 []) in
      root_free (must_edges parts box one) rule.place.daughter.0 (root_contained (nodes parts) (must_edges parts box one) rule.place.daughter.0 root).1 rule.place (stands_must rule.place (present parts box x problem is whole agrees one rule.place d v rule.is rule.says has)) refl

  root_count : Kept conditions.Roots → length (roots (nodes parts) (on one)) ≡ 1
  root_count kept = kept (length (roots (nodes parts) (on one)) ∷ []) refl

  no_root : Kept conditions.Roots → HasNoRoot parts group box → ⊥
  no_root kept none =
      let count = root_count kept in
      let same : length (roots (nodes parts) (on one)) ≡ 0 = ap (λ es. length (roots (nodes parts) es)) (sym (must_on parts box x problem is whole agrees one)) ∙ ap length none in
      omega (arith, count, same)

  two_roots : Kept conditions.Roots → HasTwoRoots parts group box → ⊥
  two_roots kept two =
      let count = root_count kept in
      let same = ap (λ es. length (roots (nodes parts) es)) (may_on parts box x problem is whole agrees one) in
      omega (arith, count, same, two)

  pub for_root : Kept conditions.Roots → (d v : ℕ) → Has box d v → TakesForRoot parts group box d v → ⊥
  for_root kept d v has (inl found) = root_found d v has found
  for_root kept d v has (inr (inl none)) = no_root kept none
  for_root kept d v has (inr (inr (inl only))) = absent parts box x problem is whole agrees one only.place d v only.may only.says has
  for_root kept d v has (inr (inr (inr two))) = two_roots kept two

  pub no_cycle : Kept conditions.Cycle → (d v : ℕ) → Has box d v → NoCycle parts group box d v → ⊥
  no_cycle kept d v has rule =
      let u : ℕ = rule.place.mother.0 in
      let back : Above (on one) rule.place.daughter.0 u = subst (λ es. Above es rule.place.daughter.0 u) (must_on parts box x problem is whole agrees one) rule.back in
      kept (u ∷ []) ((is_place parts rule.place rule.is.0).mother, tt) (above_after (on one) rule.place u (present parts box x problem is whole agrees one rule.place d v rule.is rule.says has) back)

  pub one_label : Kept conditions.Pair → (d v : ℕ) → Has box d v → OneLabel parts group box d v → ⊥
  one_label kept d v has rule =
      let u : ℕ = rule.place.mother.0 in
      let w : ℕ = rule.place.daughter.0 in
      let two = counts_two (λ e. (e.mother.0 == u) && (e.daughter.0 == w)) rule.place rule.other (on one) (present parts box x problem is whole agrees one rule.place d v rule.is rule.says has)
      (must_stands parts box x problem is whole agrees one rule.other rule.must) rule.differs
      (and_from (rule.place.mother.0 == u) (rule.place.daughter.0 == w) (eq-eqb u u refl) (eq-eqb w w refl))
      (and_from (rule.other.mother.0 == u) (rule.other.daughter.0 == w) (eq-eqb rule.other.mother.0 u (sym rule.mother)) (eq-eqb rule.other.daughter.0 w (sym rule.daughter))) in
      let place = is_place parts rule.place rule.is.0 in
      let most : edges_joining (on one) u w ≤ 1 = kept (u ∷ w ∷ []) (place.mother, (place.daughter, tt)) in
      omega (arith, two, most)

  pub valency_entry : Kept conditions.InCount → Kept conditions.OutCount → (d v : ℕ) → Has box d v → ValencyEntry parts group box d v → ⊥
  valency_entry into out d v has rule =
      let node : ℕ = rule.node in
      let l : ℕ = rule.label in
      let entry = entry_is parts box x problem is whole agrees node v rule.within (subst (λ k. Has box k v) rule.is has) in
      elim rule.none [
        | inl none ↦ none_at (out_row group node v l) (edges_out_of (on one) node l) (edges_out_of (must_edges parts box one) node l) (edges_out_of (may_edges parts box one) node l)
            (ap (λ es. edges_out_of es node l) (must_on parts box x problem is whole agrees one)) (ap (λ es. edges_out_of es node l) (may_on parts box x problem is whole agrees one)) none
            (subst (λ c. Contains (out_row group node c l) (edges_out_of (on one) node l)) (sym entry) (out (node ∷ l ∷ []) (rule.within, (rule.known, tt))))
        | inr none ↦ none_at (in_row group node v l) (edges_into (on one) node l) (edges_into (must_edges parts box one) node l) (edges_into (may_edges parts box one) node l)
            (ap (λ es. edges_into es node l) (must_on parts box x problem is whole agrees one)) (ap (λ es. edges_into es node l) (may_on parts box x problem is whole agrees one)) none
            (subst (λ c. Contains (in_row group node c l) (edges_into (on one) node l)) (sym entry) (into (node ∷ l ∷ []) (rule.within, (rule.known, tt))))
      ]

  pub valency_full : (d v : ℕ) → Has box d v → ValencyFull parts group box d v → ⊥
  valency_full d v has rule = rule.free (stands_must rule.place (present parts box x problem is whole agrees one rule.place d v rule.is rule.says has))

  pub valency_needed : (d v : ℕ) → Has box d v → ValencyNeeded parts group box d v → ⊥
  valency_needed d v has rule = absent parts box x problem is whole agrees one rule.place d v rule.may rule.says has
