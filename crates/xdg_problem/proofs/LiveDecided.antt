-- Whether a prefix is live can be decided, so the live prefixes and the solutions have their list.
use Rattle.std.proofs.Common.{◌≡◌, ℕ, ◌<◌, ◌≤◌, ◌+◌, ◌⊎◌, inl, Bool, false, List, [], ◌∷◌, length, map, Option, Some, None}
use Rattle.std.specs.Prelude.{filter, All, Contains}
use Rattle.xdg_problem.specs.declared.analysis.Edge.{Edge}
use Rattle.xdg_problem.specs.declared.conditions.Condition.TheVariants as conditions
use Rattle.xdg_problem.specs.declared.parts.Group.{Group}
use Rattle.xdg_problem.specs.declared.parts.Parts.{Parts}
use Rattle.xdg_problem.specs.declared.parts.Principle.{Principle}
use Rattle.xdg_problem.specs.declared.parts.Principle.TheVariants as principles
use Rattle.xdg_problem.specs.Principles.{linking_of, way_in}
use Rattle.xdg_problem.specs.Places.{nodes}
use Rattle.xdg_problem.specs.Vectors.{shape, entry_places, edges_in, analysis_of}
use Rattle.xdg_problem.specs.Relations.{IsKeptWhole}
use Rattle.xdg_problem.specs.Paths.{roots}
use Rattle.xdg_problem.specs.Features.{in_row, out_row, IsWithin}
use Rattle.xdg_problem.specs.Arguments.{first_dim, label_count, truth_of}
use Rattle.xdg_problem.specs.Asking.{AsksOf}
use Rattle.xdg_problem.specs.Tests.{Test, out_count, in_count, one_mother, no_cycle, one_root, one_label, ordered_daughters, ordered_yields, projective, allowed_value, agreeing, governed, climbing, not_blocked, linked, unlinked, looks_at, entry_node, test_attrs, Counts, Passes}
use Rattle.xdg_problem.specs.Live.{open_places, EntryStands, entry_in, AttrStands, attr_in, Stands, Holds, IsLiveFor, Live}
use Rattle.xdg_problem.proofs.Deciding.{decided_within}
use Rattle.xdg_problem.proofs.CycleTests.{decided_no_cycle}
use Rattle.xdg_facts.proofs.Decided.{Decided, decided_like, decided_both, decided_from, decided_equal, decided_less, decided_most, decided_false, decided_below, decided_all, decided_contains, decided_true, triple_decided}
use Rattle.xdg_problem.proofs.DecidingTruths.{decided_whole}
use Rattle.xdg_problem.proofs.DecidingAsks.{decided_asks}
use Rattle.xdg_problem.proofs.EachTest.{EachNode, EachPair, EachTriple, Each, tested_each, each_tested}

decided_counts : (n k : ℕ) (cardinality : List ℕ) (number : ℕ) → Decided (Counts n k cardinality number)
decided_counts n k cardinality number = decided_both (IsWithin cardinality number) (k + 1 ≡ n → Contains cardinality number) (decided_within cardinality number) (decided_from (k + 1 ≡ n) (Contains cardinality number) (decided_equal (k + 1) n) (decided_contains cardinality number))

decided_order : (n : ℕ) (group : Group) (u candidate : ℕ) (values : List ℕ) (edges : List Edge) → Decided ((x y : ℕ) → x < n → y < n → AsksOf conditions.Order group candidate values edges (u ∷ x ∷ y ∷ []))
decided_order n group u candidate values edges = decided_like ((x : ℕ) → x < n → (y : ℕ) → y < n → AsksOf conditions.Order group candidate values edges (u ∷ x ∷ y ∷ [])) ((x y : ℕ) → x < n → y < n → AsksOf conditions.Order group candidate values edges (u ∷ x ∷ y ∷ []))
    (λ h x y a b. h x a y b)
    (λ h x a y b. h x y a b)
    (decided_below (λ x. (y : ℕ) → y < n → AsksOf conditions.Order group candidate values edges (u ∷ x ∷ y ∷ [])) n (λ x. decided_below (λ y. AsksOf conditions.Order group candidate values edges (u ∷ x ∷ y ∷ [])) n (λ y. decided_asks conditions.Order group candidate values edges (u ∷ x ∷ y ∷ []))))

-- whether a test passes
pub decided_passes : (n : ℕ) (group : Group) (test : Test) (candidate : ℕ) (values : List ℕ) (edges : List Edge) → Decided (Passes n group test candidate values edges)
decided_passes n group (out_count v l k) candidate values edges = decided_counts n k (out_row group v candidate l) (length edges)
decided_passes n group (in_count v l k) candidate values edges = decided_counts n k (in_row group v candidate l) (length edges)
decided_passes n group (one_mother v k) candidate values edges = decided_most (length edges) 1
decided_passes n group (no_cycle k) candidate values edges = decided_no_cycle edges
decided_passes n group one_root candidate values edges = decided_equal (length (roots n edges)) 1
decided_passes n group (one_label u v) candidate values edges = decided_asks conditions.Pair group candidate values edges (u ∷ v ∷ [])
decided_passes n group (ordered_daughters u) candidate values edges = decided_order n group u candidate values edges
decided_passes n group (ordered_yields u) candidate values edges = decided_order n group u candidate values edges
decided_passes n group (projective u v) candidate values edges = decided_below (λ w. AsksOf conditions.Between group candidate values edges (u ∷ v ∷ w ∷ [])) n (λ w. decided_asks conditions.Between group candidate values edges (u ∷ v ∷ w ∷ []))
decided_passes n group (allowed_value v) candidate values edges = decided_asks conditions.Agr group candidate values edges (v ∷ [])
decided_passes n group (agreeing u l v) candidate values edges = decided_asks conditions.Agree group candidate values edges (u ∷ l ∷ v ∷ [])
decided_passes n group (governed u l v) candidate values edges = decided_asks conditions.Govern group candidate values edges (u ∷ l ∷ v ∷ [])
decided_passes n group (climbing u v) candidate values edges = decided_asks conditions.Below group candidate values edges (u ∷ v ∷ [])
decided_passes n group (not_blocked w v) candidate values edges = decided_asks conditions.Blocked group candidate values edges (w ∷ v ∷ [])
decided_passes n group (linked way u l v) candidate values edges = decided_asks conditions.Link group candidate values edges (u ∷ l ∷ v ∷ [])
decided_passes n group (unlinked u l v) candidate values edges = decided_asks conditions.Link group candidate values edges (u ∷ l ∷ v ∷ [])

decided_entry : (node : Option ℕ) (prefix : List ℕ) → Decided (EntryStands node prefix)
decided_entry None prefix = inl tt
decided_entry (Some node) prefix = decided_less node (length prefix)

decided_stands : (parts : Parts) (group : Group) (test : Test) (prefix : List ℕ) → Decided (Stands parts group test prefix)
decided_stands parts group test prefix =
    let Entry : Type 0 = EntryStands (entry_node test) prefix in
    let Attrs : Type 0 = All (AttrStands parts prefix) (test_attrs parts group test) in
    let Edges : Type 0 = All (λ place. looks_at group test place ≡ false) (open_places parts prefix) in
    decided_like (Entry × Attrs × Edges) (Stands parts group test prefix)
    (λ all. record { entry = all.0; attrs = all.1; edges = all.2 })
    (λ stands. (stands.entry, stands.attrs, stands.edges))
    (triple_decided Entry Attrs Edges (decided_entry (entry_node test) prefix) (decided_all (AttrStands parts prefix) (test_attrs parts group test) (λ place. decided_less (length parts.candidates + place) (length prefix))) (decided_all (λ place. looks_at group test place ≡ false) (open_places parts prefix) (λ place. decided_false (looks_at group test place))))

-- what can be decided of each test can be decided of all tests of a principle
module _ (truths : List Bool) (n labels : ℕ) (Q : Test → Type 0) (each : (test : Test) → Decided (Q test)) where
  each_node : (test : ℕ → Test) → Decided (EachNode truths n labels Q test)
  each_node test = decided_below (λ v. Q (test v)) n (λ v. each (test v))

  each_pair : (test : ℕ → ℕ → Test) → Decided (EachPair truths n labels Q test)
  each_pair test = decided_below (λ u. (v : ℕ) → v < n → Q (test u v)) n (λ u. decided_below (λ v. Q (test u v)) n (λ v. each (test u v)))

  each_triple : (test : ℕ → ℕ → ℕ → Test) → Decided (EachTriple truths n labels Q test)
  each_triple test = decided_below (λ u. (l : ℕ) → l < labels → (v : ℕ) → v < n → Q (test u l v)) n (λ u. decided_below (λ l. (v : ℕ) → v < n → Q (test u l v)) labels (λ l. decided_below (λ v. Q (test u l v)) n (λ v. each (test u l v))))

  pub decided_tests : (principle : Principle) → Decided (Each truths n labels Q principle)
  decided_tests principles.Graph = inl tt
  decided_tests principles.Entries = inl tt
  decided_tests principles.Tree = triple_decided _ _ _ (each_pair one_mother) (each_node no_cycle) (each one_root)
  decided_tests principles.Dag = triple_decided _ _ _ (each_node no_cycle) (decided_from _ _ (decided_true (truth_of truths 0)) (each one_root)) (decided_from _ _ (decided_true (truth_of truths 1)) (each_pair one_label))
  decided_tests principles.Valency = decided_both _ _ (each_triple out_count) (each_triple in_count)
  decided_tests principles.Order = decided_both _ _ (decided_from _ _ (decided_false (truth_of truths 0)) (each_node ordered_daughters)) (decided_from _ _ (decided_true (truth_of truths 0)) (each_node ordered_yields))
  decided_tests principles.Projectivity = each_pair projective
  decided_tests principles.Agr = each_node allowed_value
  decided_tests principles.Agreement = each_triple agreeing
  decided_tests principles.Government = each_triple governed
  decided_tests principles.Climbing = each_pair climbing
  decided_tests principles.Barriers = each_pair not_blocked
  decided_tests principles.LinkingNotDaughter = each_triple unlinked
  decided_tests (principles.Rule formula) = inl tt
  decided_tests (principles.Bound costs bound) = inl tt
  decided_tests principle = each_triple (linked (way_in (linking_of principle)))

decided_use : (parts : Parts) (prefix : List ℕ) (group : Group) → Decided (IsLiveFor parts group prefix)
decided_use parts prefix group =
    let Q : Test → Type 0 = λ test. Stands parts group test prefix → Holds parts group test prefix in
    let truths = group.truths in
    let n = nodes parts in
    let labels = label_count parts (first_dim group) in
    let analysis = analysis_of parts prefix in
    decided_like (Each truths n labels Q group.principle × (length (shape parts) ≤ length prefix → IsKeptWhole parts group analysis)) (IsLiveFor parts group prefix)
    (λ both. record { tests = each_tested truths n labels Q group.principle both.0; whole = both.1 })
    (λ live. (tested_each truths n labels Q group.principle live.tests, live.whole))
    (decided_both _ _
    (decided_tests truths n labels Q (λ test. decided_from (Stands parts group test prefix) (Holds parts group test prefix) (decided_stands parts group test prefix) (decided_passes n group test (entry_in (entry_node test) prefix) (map (attr_in parts prefix) (test_attrs parts group test)) (filter (looks_at group test) (edges_in parts prefix)))) group.principle)
    (decided_from _ _ (decided_most (length (shape parts)) (length prefix)) (decided_whole parts (entry_places parts.candidates analysis.entries) analysis.attrs analysis.edges group.principle)))

pub live_decided : (parts : Parts) (prefix : List ℕ) → Live parts prefix ⊎ (Live parts prefix → ⊥)
live_decided parts prefix = decided_all (λ group. IsLiveFor parts group prefix) parts.groups (decided_use parts prefix)
