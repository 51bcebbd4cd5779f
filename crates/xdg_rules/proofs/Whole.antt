-- A box that agrees with a whole vector: its entries, values and edges are those of the analysis.
use Rattle.std.proofs.Common.{◌≡◌, ℕ, ◌<◌, Bool, ◌&&◌, List, length, refl, sym, ap, ◌∙◌, arith, subst}
use Rattle.std.specs.Prelude.{filter, Contains, not, slice_index, ◌==◌}
use Rattle.std.proofs.lemmas.Bool.{false_from_ne_true}
use Rattle.xdg_facts.specs.Fits.{Fits}
use Rattle.xdg_problem.specs.declared.analysis.Edge.{Edge}
use Rattle.xdg_problem.specs.declared.parts.Group.{Group}
use Rattle.xdg_problem.specs.declared.parts.Parts.{Parts}
use Rattle.xdg_problem.specs.Arguments.{first_dim, attr_count, attr_of, attr_place}
use Rattle.xdg_problem.specs.Paths.{edges_on, IsDaughterBy}
use Rattle.xdg_problem.specs.Places.{nodes, places}
use Rattle.xdg_problem.specs.Problems.{IsProblem, IsGroup}
use Rattle.xdg_problem.specs.Vectors.{shape, entry_places, entries_at, edges_in, analysis_of}
use Rattle.xdg_problem.proofs.AttrPlaces.{attr_dim_within}
use Rattle.xdg_facts.proofs.Filters.{filter_both}
use Rattle.xdg_facts.proofs.Keeping.{filter_on}
use Rattle.xdg_facts.proofs.Contained.{any_of}
use Rattle.xdg_problem.proofs.WholeTests.{entry_same}
use Rattle.xdg_problem.specs.Boxes.{Has, IsBox, Agrees, edge_decision, entry_decision}
use Rattle.xdg_rules.specs.Rules.{has, may_edges, must_edges, SaysPresent, SaysAbsent, IsPlaceOn, attr_of_node}
use Rattle.xdg_rules.proofs.Sizes.{edge_within, node_within}
use Rattle.xdg_rules.proofs.Agreeing.{agrees_fits, says_present, edges_present, at, present_at}
use Rattle.xdg_rules.proofs.NodeValues.{attr_only, attr_remains}
use Rattle.xdg_rules.proofs.Shrinking.{may_of, may_is}
use Rattle.xdg_problem.specs.Principles.{attr_arguments}
use Rattle.xdg_facts.proofs.Truths.{and_carried, without_other}

pub whole_fits : (parts : Parts) (box : List (List Bool)) (x : List ℕ) → IsBox (shape parts) box → Agrees box x → Fits (shape parts) x
whole_fits parts box x is agrees = subst (λ sizes. Fits sizes x) is.sizes (agrees_fits box x agrees)

-- an edge of a list joins its nodes
pub daughter_by : (edges : List Edge) (e : Edge) → Contains edges e → IsDaughterBy edges e.mother.0 e.label.0 e.daughter.0
daughter_by edges e stands = any_of (λ f. (f.mother.0 ≡ e.mother.0) × (f.label.0 ≡ e.label.0) × (f.daughter.0 ≡ e.daughter.0)) edges e stands (refl, refl, refl)

module _ (parts : Parts) (box : List (List Bool)) (x : List ℕ) (problem : IsProblem parts) (is : IsBox (shape parts) box) (whole : length x ≡ length (shape parts)) (agrees : Agrees box x) where
  abbrev candidates : List ℕ
  candidates = entry_places parts.candidates (entries_at parts.candidates x)

  abbrev edges : List Edge
  edges = edges_in parts x

  within_whole : (d : ℕ) → d < length (shape parts) → d < length x
  within_whole d l = subst (λ n. d < n) (sym whole) l

  -- one of the two values of an edge place remains
  pub not_both : (e : Edge) → Contains (places parts) e → Has box (edge_decision parts e) 0 → Has box (edge_decision parts e) 1 → ⊥
  not_both e c present absent =
      let l = within_whole (edge_decision parts e) (edge_within parts e c) in
      let zero_is = (at parts box x agrees (edge_decision parts e) l 0).0 present in
      let one_is = (at parts box x agrees (edge_decision parts e) l 1).0 absent in
      omega (arith, zero_is, one_is)

  -- the vector says of a place whether its edge may be, and whether it must be
  present_may : (e : Edge) → Contains (places parts) e → says_present x (edge_decision parts e) ≡ has box (edge_decision parts e) 0
  present_may e c = present_at parts box x agrees (edge_decision parts e) (within_whole (edge_decision parts e) (edge_within parts e c))

  pub present_must : (e : Edge) → Contains (places parts) e → says_present x (edge_decision parts e) ≡ (has box (edge_decision parts e) 0 && not (has box (edge_decision parts e) 1))
  present_must e c = without_other (says_present x (edge_decision parts e)) (has box (edge_decision parts e) 0) (has box (edge_decision parts e) 1) (present_may e c)
      (λ present. false_from_ne_true (has box (edge_decision parts e) 1) (not_both e c present))

  -- so the edges that may be, and those that must be, are the edges of the analysis
  on_is : (dim : ℕ) (holds : Edge → Bool) → ((e : Edge) → Contains (places parts) e → says_present x (edge_decision parts e) ≡ holds e) → filter (λ e. (e.dim.0 == dim) && holds e) (places parts) ≡ edges_on dim edges
  on_is dim holds same = sym (ap (edges_on dim) (edges_present parts x)
      ∙ filter_both (λ e. e.dim.0 == dim) (λ e. says_present x (edge_decision parts e)) (places parts)
      ∙ filter_on (λ e. says_present x (edge_decision parts e) && (e.dim.0 == dim)) (λ e. (e.dim.0 == dim) && holds e) (places parts) (λ e c. and_carried (says_present x (edge_decision parts e)) (e.dim.0 == dim) (holds e) (λ on. same e c)))

  pub may_on : (dim : ℕ) → may_edges parts box dim ≡ edges_on dim edges
  may_on dim = on_is dim (λ e. has box (edge_decision parts e) 0) present_may

  pub must_on : (dim : ℕ) → must_edges parts box dim ≡ edges_on dim edges
  must_on dim = on_is dim (λ e. has box (edge_decision parts e) 0 && not (has box (edge_decision parts e) 1)) present_must

  pub must_stands : (dim : ℕ) (e : Edge) → Contains (must_edges parts box dim) e → Contains (edges_on dim edges) e
  must_stands dim e must = subst (λ es. Contains es e) (must_on dim) must

  -- where the presence of an edge remains it is present
  pub present : (dim : ℕ) (e : Edge) (d v : ℕ) → IsPlaceOn parts dim e → SaysPresent parts e d v → Has box d v → Contains (edges_on dim edges) e
  present dim e d v on says remains =
      let there : Has box (edge_decision parts e) 0 = subst (λ k. Has box (edge_decision parts e) k) says.1 (subst (λ k. Has box k v) says.0 remains) in
      subst (λ es. Contains es e) (may_on dim) (may_of parts box dim e (record { place = on.0; dim_is = on.1; present = there }))

  -- where its absence remains it isn't
  pub absent : (dim : ℕ) (e : Edge) (d v : ℕ) → Contains (may_edges parts box dim) e → SaysAbsent parts e d v → Has box d v → ⊥
  absent dim e d v may says remains =
      let there : Has box (edge_decision parts e) 1 = subst (λ k. Has box (edge_decision parts e) k) says.1 (subst (λ k. Has box k v) says.0 remains) in
      let stands = may_is parts box dim e may in
      not_both e stands.place stands.present there

  -- the entry of a node is the one that remains
  pub entry_is : (node c : ℕ) → node < nodes parts → Has box (entry_decision node) c → c ≡ slice_index candidates node
  entry_is node c within remains = (at parts box x agrees (entry_decision node) (within_whole (entry_decision node) (node_within parts node problem within)) c).0 remains ∙ entry_same parts x problem (whole_fits parts box x is agrees) whole node within

  pub entry_has : (node : ℕ) → node < nodes parts → Has box (entry_decision node) (slice_index candidates node)
  entry_has node within = (at parts box x agrees (entry_decision node) (within_whole (entry_decision node) (node_within parts node problem within)) (slice_index candidates node)).1 (sym (entry_same parts x problem (whole_fits parts box x is agrees) whole node within))

  module _ (group : Group) (group_is : IsGroup parts group) (argument : ℕ) (known : argument < attr_arguments group.principle) (node : ℕ) (within : node < nodes parts) where
    known_dim : first_dim group < length parts.dims
    known_dim = attr_dim_within parts group group_is argument known

    has_attr : attr_of group argument < attr_count parts (first_dim group)
    has_attr = (let count = group_is.attrs_count in group_is.attrs argument (record { 0 = 0 }) (omega (arith, known, count)))

    -- the value of an attribute is the one that remains
    pub attr_is : (v : ℕ) → Has box (attr_of_node parts group argument node) v → v ≡ slice_index (analysis_of parts x).attrs (attr_place parts (first_dim group) node (attr_of group argument))
    attr_is = attr_only parts (first_dim group) node (attr_of group argument) known_dim within has_attr box x whole agrees

    pub attr_has : Has box (attr_of_node parts group argument node) (slice_index (analysis_of parts x).attrs (attr_place parts (first_dim group) node (attr_of group argument)))
    attr_has = attr_remains parts (first_dim group) node (attr_of group argument) known_dim within has_attr box x whole agrees
