-- A whole vector is live exactly where its analysis satisfies each principle use.
use Rattle.std.proofs.Common.{◌≡◌, ℕ, ◌<◌, ◌≤◌, ◌-◌, ◌↔◌, false, List, [], length, drop, map, refl, sym, ap, ◌∙◌, subst, arith, Option, Some, None}
use Rattle.std.specs.Prelude.{All, slice_index}
use Rattle.std.proofs.lemmas.List.{drop_all, get_or-take, get_or-drop}
use Rattle.std.proofs.lemmas.List.Elements.{All-nil, All-weaker}
use Rattle.xdg_facts.specs.Fits.{Fits}
use Rattle.xdg_problem.specs.declared.analysis.Edge.{Edge}
use Rattle.xdg_problem.specs.declared.parts.Group.{Group}
use Rattle.xdg_problem.specs.declared.parts.Parts.{Parts}
use Rattle.xdg_problem.specs.Places.{nodes, places}
use Rattle.xdg_problem.specs.Vectors.{attr_sizes, shape, first_place, entry_places, entries_at, edges_in, analysis_of}
use Rattle.xdg_problem.specs.Analyses.{IsPlace}
use Rattle.xdg_problem.specs.Arguments.{first_dim, label_count}
use Rattle.xdg_problem.specs.Relations.{Relation}
use Rattle.xdg_problem.specs.Problems.{IsProblem, IsGroup}
use Rattle.xdg_problem.specs.Tests.{Test, IsTest, looks_at, entry_node, test_attrs}
use Rattle.xdg_problem.specs.Live.{open_places, EntryStands, entry_in, AttrStands, attr_in, Stands, Holds, IsLiveFor, Live}
use Rattle.xdg_facts.proofs.Each.{map_alike}
use Rattle.xdg_problem.proofs.VectorFacts.{length_shape, entries_back, analysis_fits}
use Rattle.xdg_problem.proofs.Shortening.{passes_like}
use Rattle.xdg_problem.proofs.Passing.{PassesAt}
use Rattle.xdg_problem.proofs.EachTest.{each_tested, tested_each, IsNode, each_node}
use Rattle.xdg_problem.proofs.AttrPlaces.{AreWithin, each_within}
use Rattle.xdg_problem.proofs.KeptTests.{kept_tests}

entry_stands : (n : ℕ) (node : Option ℕ) (x : List ℕ) → IsNode n node → n ≤ length x → EntryStands node x
entry_stands n None x is long = tt
entry_stands n (Some node) x is long = omega (arith, is, long)

entry_like : (n : ℕ) (node : Option ℕ) (x candidates : List ℕ) → ((v : ℕ) → v < n → slice_index x v ≡ slice_index candidates v) → IsNode n node → entry_in node x ≡ entry_in node candidates
entry_like n None x candidates same is = refl
entry_like n (Some node) x candidates same is = same node is

attrs_like : (parts : Parts) (x places : List ℕ) → All (λ place. place < length (attr_sizes (nodes parts) parts.dims)) places → map (attr_in parts x) places ≡ map (slice_index (analysis_of parts x).attrs) places
attrs_like parts x places within =
    let m : ℕ = length (attr_sizes (nodes parts) parts.dims) in
    map_alike (attr_in parts x) (slice_index (analysis_of parts x).attrs) places (All-weaker (λ place. place < m) (λ place. attr_in parts x place ≡ slice_index (analysis_of parts x).attrs place)
    (λ place here. sym (get_or-take m (drop (length parts.candidates) x) place 0 here ∙ get_or-drop (length parts.candidates) x place 0)) places within)

module _ (parts : Parts) (x : List ℕ) (is : IsProblem parts) (fits : Fits (shape parts) x) (whole : length x ≡ length (shape parts)) where
  edges_placed : All (IsPlace parts) (edges_in parts x)
  edges_placed = (analysis_fits parts x is fits whole).places

  -- the number of an entry is that of its place among the candidates
  pub entry_same : (v : ℕ) → v < nodes parts → slice_index x v ≡ slice_index (entry_places parts.candidates (entries_at parts.candidates x)) v
  entry_same v below =
      let each = is.candidates_each in
      let back = entries_back parts x is fits (omega (arith, length_shape parts)) in
      sym (ap (λ numbers. slice_index numbers v) back ∙ get_or-take (length parts.candidates) x v 0 (omega arith))

  -- all decisions stand in a whole vector
  pub whole_stands : (group : Group) → IsGroup parts group → (test : Test) → IsTest parts group test → Stands parts group test x
  whole_stands group group_is test tested =
      let each = is.candidates_each in
      let long = length_shape parts in
      let none : open_places parts x ≡ [] = drop_all (length x - first_place parts) (places parts) (omega arith) in
      record {
        entry = entry_stands (nodes parts) (entry_node test) x (each_tested group.truths (nodes parts) (label_count parts (first_dim group)) (λ t. IsNode (nodes parts) (entry_node t)) group.principle (each_node group.truths (nodes parts) (label_count parts (first_dim group)) group.principle) test tested) (omega arith);
        attrs = All-weaker (λ place. place < length (attr_sizes (nodes parts) parts.dims)) (AttrStands parts x) (λ place within. omega (arith, within, long, whole)) (test_attrs parts group test)
            (each_tested group.truths (nodes parts) (label_count parts (first_dim group)) (AreWithin parts group group_is) group.principle (each_within parts group group_is group.principle refl) test tested);
        edges = subst (All (λ place. looks_at group test place ≡ false)) (sym none) (All-nil (λ place. looks_at group test place ≡ false));
      }

  -- what a test reads of a whole vector is what it reads of its analysis
  whole_reads : (group : Group) → IsGroup parts group → (test : Test) → IsTest parts group test → Holds parts group test x ↔ PassesAt parts group (entry_places parts.candidates (entries_at parts.candidates x)) (analysis_of parts x).attrs (edges_in parts x) test
  whole_reads group group_is test tested =
      let entry = entry_like (nodes parts) (entry_node test) x (entry_places parts.candidates (entries_at parts.candidates x)) entry_same (each_tested group.truths (nodes parts) (label_count parts (first_dim group)) (λ t. IsNode (nodes parts) (entry_node t)) group.principle (each_node group.truths (nodes parts) (label_count parts (first_dim group)) group.principle) test tested) in
      let values = attrs_like parts x (test_attrs parts group test) (each_tested group.truths (nodes parts) (label_count parts (first_dim group)) (AreWithin parts group group_is) group.principle (each_within parts group group_is group.principle refl) test tested) in (
        passes_like (nodes parts) group test _ _ _ _ _ _ entry values refl,
        passes_like (nodes parts) group test _ _ _ _ _ _ (sym entry) (sym values) refl,
      )

  -- a whole vector is live for a principle use exactly where its analysis satisfies it
  pub use_live : (group : Group) → IsGroup parts group → IsLiveFor parts group x ↔ Relation parts group (analysis_of parts x)
  use_live group group_is =
      let n : ℕ = nodes parts in
      let labels : ℕ = label_count parts (first_dim group) in
      let candidates : List ℕ = entry_places parts.candidates (entries_at parts.candidates x) in
      let attrs : List ℕ = (analysis_of parts x).attrs in
      let edges : List Edge = edges_in parts x in
      let both = kept_tests parts group candidates attrs edges is.some (All-weaker (IsPlace parts) (λ e. e.mother.0 < nodes parts) (λ e place. place.mother) edges edges_placed) (All-weaker (IsPlace parts) (λ e. e.daughter.0 < nodes parts) (λ e place. place.daughter) edges edges_placed) group.principle refl in (
        λ live. both.0 (tested_each group.truths n labels (PassesAt parts group candidates attrs edges) group.principle (λ test tested. (whole_reads group group_is test tested).0 (live.tests test tested (whole_stands group group_is test tested))), live.whole (omega (arith, whole))),
        λ relation. record {
          tests = λ test tested stands. (whole_reads group group_is test tested).1 (each_tested group.truths n labels (PassesAt parts group candidates attrs edges) group.principle (both.1 relation).0 test tested);
          whole = λ long. (both.1 relation).1;
        },
      )

  pub whole_live : Live parts x → All (λ group. Relation parts group (analysis_of parts x)) parts.groups
  whole_live live k d within = (use_live _ (is.groups k d within)).0 (live k d within)

  pub relations_live : All (λ group. Relation parts group (analysis_of parts x)) parts.groups → Live parts x
  relations_live relations k d within = (use_live _ (is.groups k d within)).1 (relations k d within)
