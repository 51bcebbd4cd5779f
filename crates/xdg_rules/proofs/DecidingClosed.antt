-- Whether a box is closed can be decided, and whether a prefix is boxed.
use Rattle.std.proofs.Common.{◌≡◌, ℕ, ◌+◌, ◌<◌, ◌↔◌, inl, inr, zero, suc, Bool, true, false, List, [], ◌∷◌, ◌++◌, length, map, refl, sym, subst, Option, Some, None}
use Rattle.std.specs.Prelude.{filter, Contains, slice_index_or, ◌&&◌}
use Rattle.std.specs.List.{Any, flat_map}
use Rattle.std.proofs.lemmas.List.Elements.{Contains-append_left, Contains-append_right}
use Rattle.xdg_facts.specs.Listing.{HasOneListing}
use Rattle.xdg_facts.proofs.Exists.{decided_listing}
use Rattle.xdg_facts.proofs.Unique.{listing_unique}
use Rattle.xdg_problem.specs.declared.parts.Group.{Group}
use Rattle.xdg_problem.specs.declared.parts.Parts.{Parts}
use Rattle.xdg_problem.specs.Arguments.{first_dim, label_count}
use Rattle.xdg_problem.specs.Places.{nodes, places}
use Rattle.xdg_problem.specs.Problems.{IsProblem}
use Rattle.xdg_problem.specs.Tests.{Test, IsTest, looks_at, entry_node, test_attrs}
use Rattle.xdg_problem.specs.Vectors.{shape}
use Rattle.xdg_facts.proofs.Decided.{Decided, decided_like, decided_both, decided_from, decided_equal, decided_below, decided_all, decided_true, decided_not, decided_any, triple_decided, decided_as, decided_lists}
use Rattle.xdg_facts.proofs.Contained.{contained, any_of, contains_head, contains_map, contains_flat}
use Rattle.xdg_problem.proofs.EachTest.{Each, tested_each, each_tested}
use Rattle.xdg_problem.proofs.LiveDecided.{decided_passes, decided_tests}
use Rattle.xdg_problem.specs.Boxes.{Has, IsBox, Agrees, edge_decision, entry_decision}
use Rattle.xdg_rules.specs.Rules.{has, IsDecided, EntryDecided, entry_value, value_in, TestDecided, TestPasses, FailsTest, TakesBy, IsClosedFor, IsClosed}
use Rattle.xdg_rules.specs.Boxed.{Boxed}
use Rattle.xdg_rules.proofs.ClosedLive.{none_fails}
use Rattle.xdg_rules.proofs.DecidingBoxes.{decided_remaining, decided_some, decided_decided}
use Rattle.xdg_rules.proofs.DecidingRules.{decided_by}
use Rattle.xdg_problem.proofs.BoxPlaces.{has_decision}
use Rattle.xdg_facts.proofs.Lists.{true_within}

-- of all values that remain
pub decided_everywhere : (box : List (List Bool)) (P : ℕ → ℕ → Type 0) → ((d v : ℕ) → Decided (P d v)) → Decided ((d v : ℕ) → Has box d v → P d v)
decided_everywhere box P each = decided_like ((d : ℕ) → d < length box → (v : ℕ) → Has box d v → P d v) ((d v : ℕ) → Has box d v → P d v)
    (λ all d v has. all d (has_decision box d v has) v has)
    (λ all d l v has. all d v has)
    (decided_below (λ d. (v : ℕ) → Has box d v → P d v) (length box) (λ d. decided_remaining box d (P d) (each d)))

decided_entry : (box : List (List Bool)) (node : Option ℕ) → Decided (EntryDecided box node)
decided_entry box None = inl tt
decided_entry box (Some node) = decided_decided box (entry_decision node)

module _ (parts : Parts) (group : Group) (box : List (List Bool)) where
  decided_test : (test : Test) → Decided (TestDecided parts group box test)
  decided_test test = decided_as _ _
      (triple_decided _ _ _ (decided_entry box (entry_node test))
      (decided_all (λ place. IsDecided box (length parts.candidates + place)) (test_attrs parts group test) (λ place. decided_decided box (length parts.candidates + place)))
      (decided_all (λ e. looks_at group test e ≡ true → IsDecided box (edge_decision parts e)) (places parts) (λ e. decided_from _ _ (decided_true (looks_at group test e)) (decided_decided box (edge_decision parts e)))))
      (λ all. record { entry = all.0; attrs = all.1; edges = all.2 })
      (λ is. (is.entry, is.attrs, is.edges))

  -- a test holds as soon as it is decided
  abbrev Fine : Test → Type 0
  Fine test = TestDecided parts group box test → TestPasses parts group box test

  passes_or_not : (test : Test) → Decided (TestPasses parts group box test)
  passes_or_not test = decided_passes (nodes parts) group test (entry_value box (entry_node test)) (map (λ place. value_in box (length parts.candidates + place)) (test_attrs parts group test)) (filter (λ e. looks_at group test e && has box (edge_decision parts e) 0) (places parts))

  decided_fine : (test : Test) → Decided (Fine test)
  decided_fine test = decided_from (TestDecided parts group box test) (TestPasses parts group box test) (decided_test test) (passes_or_not test)

  abbrev AllFine : Type 0
  AllFine = (test : Test) → IsTest parts group test → Fine test

  all_fine : Decided AllFine
  all_fine = decided_like (Each group.truths (nodes parts) (label_count parts (first_dim group)) Fine group.principle) AllFine
      (each_tested group.truths (nodes parts) (label_count parts (first_dim group)) Fine group.principle)
      (tested_each group.truths (nodes parts) (label_count parts (first_dim group)) Fine group.principle)
      (decided_tests group.truths (nodes parts) (label_count parts (first_dim group)) Fine decided_fine group.principle)

  fine_closed : AllFine → FailsTest parts group box → ⊥
  fine_closed fine failing = failing.fails (fine failing.test failing.is failing.decided)

  closed_fine : (FailsTest parts group box → ⊥) → AllFine
  closed_fine none test tested decided = elim (passes_or_not test) [
    | inl passes ↦ passes
    | inr fails ↦ absurd (none (record { test = test; is = tested; decided = decided; fails = fails }))
  ]

  abbrev KeepsAll : Type 0
  KeepsAll = (d v : ℕ) → Has box d v → TakesBy group.principle parts group box d v → ⊥

  keeps_or_not : Decided KeepsAll
  keeps_or_not = decided_everywhere box (λ d v. TakesBy group.principle parts group box d v → ⊥) (λ d v. decided_not _ (decided_by parts group box d v group.principle))

  closed_from : AllFine × KeepsAll → IsClosedFor parts group box
  closed_from both d v has takes = elim takes [ inl failing ↦ fine_closed both.0 failing | inr by ↦ both.1 d v has by ]

  closed_into : IsProblem parts → IsBox (shape parts) box → IsClosedFor parts group box → AllFine × KeepsAll
  closed_into problem is closed = (closed_fine (none_fails parts group box problem is closed), λ d v has by. closed d v has (inr by))

  pub decided_closed_for : IsProblem parts → IsBox (shape parts) box → Decided (IsClosedFor parts group box)
  decided_closed_for problem is = decided_like (AllFine × KeepsAll) (IsClosedFor parts group box) closed_from (closed_into problem is) (decided_both AllFine KeepsAll all_fine keeps_or_not)

-- whether a box is closed for all principle uses
pub decided_closed : (parts : Parts) (box : List (List Bool)) → IsProblem parts → IsBox (shape parts) box → Decided (IsClosed parts box)
decided_closed parts box problem is = decided_all (λ group. IsClosedFor parts group box) parts.groups (λ group. decided_closed_for parts group box problem is)

-- ---- all boxes of a shape

all_rows : ℕ → List (List Bool)
all_rows zero = [] ∷ []
all_rows (suc size) = map (λ row. true ∷ row) (all_rows size) ++ map (λ row. false ∷ row) (all_rows size)

row_contained : (row : List Bool) → Contains (all_rows (length row)) row
unfolding all_rows
row_contained [] = contains_head [] []
row_contained (true ∷ row) = Contains-append_left (map (λ r. true ∷ r) (all_rows (length row))) (map (λ r. false ∷ r) (all_rows (length row))) (true ∷ row) (contains_map (λ r. true ∷ r) (all_rows (length row)) row (row_contained row))
row_contained (false ∷ row) = Contains-append_right (map (λ r. true ∷ r) (all_rows (length row))) (map (λ r. false ∷ r) (all_rows (length row))) (false ∷ row) (contains_map (λ r. false ∷ r) (all_rows (length row)) row (row_contained row))

pub all_boxes : List ℕ → List (List (List Bool))
all_boxes [] = [] ∷ []
all_boxes (size ∷ sizes) = flat_map (λ row. map (λ box. row ∷ box) (all_boxes sizes)) (all_rows size)

pub box_contained : (box : List (List Bool)) → Contains (all_boxes (map length box)) box
unfolding all_boxes
box_contained [] = contains_head [] []
box_contained (row ∷ box) = contains_flat (λ r. map (λ b. r ∷ b) (all_boxes (map length box))) (all_rows (length row)) row (row ∷ box) (row_contained row) (contains_map (λ b. row ∷ b) (all_boxes (map length box)) box (box_contained box))

pub decided_box : (sizes : List ℕ) (box : List (List Bool)) → Decided (IsBox sizes box)
decided_box sizes box = decided_like ((map length box ≡ sizes) × ((d : ℕ) → d < length sizes → (v : ℕ) × Has box d v × Unit {0})) (IsBox sizes box)
    (λ both. record { sizes = both.0; filled = λ d l. ((both.1 d l).0, (both.1 d l).1) })
    (λ is. (is.sizes, λ d l. ((is.filled d l).0, (is.filled d l).1, tt)))
    (decided_both _ _ (decided_lists (map length box) sizes) (decided_below (λ d. (v : ℕ) × Has box d v × Unit {0}) (length sizes) (λ d. decided_some box d (λ v. Unit {0}) (λ v. inl tt))))

-- a row has one flag, that of the number
decided_row : (row : List Bool) (x : ℕ) → Decided ((v : ℕ) → (slice_index_or row v false ≡ true) ↔ (v ≡ x))
decided_row row x = decided_like ((slice_index_or row x false ≡ true) × ((v : ℕ) → v < length row → slice_index_or row v false ≡ true → v ≡ x)) ((v : ℕ) → (slice_index_or row v false ≡ true) ↔ (v ≡ x))
    (λ both v. (λ flag. both.1 v (true_within row v flag) flag, λ e. subst (λ k. slice_index_or row k false ≡ true) (sym e) both.0))
    (λ all. ((all x).1 refl, λ v l flag. (all v).0 flag))
    (decided_both _ _ (decided_true (slice_index_or row x false)) (decided_below (λ v. slice_index_or row v false ≡ true → v ≡ x) (length row) (λ v. decided_from _ _ (decided_true (slice_index_or row v false)) (decided_equal v x))))

decided_agrees : (box : List (List Bool)) (p : List ℕ) → Decided (Agrees box p)
decided_agrees box [] = inl tt
decided_agrees [] (x ∷ p) = inr (λ none. none)
decided_agrees (row ∷ box) (x ∷ p) = decided_both _ _ (decided_row row x) (decided_agrees box p)

module _ (parts : Parts) (problem : IsProblem parts) where
  abbrev BoxedBy : List ℕ → List (List Bool) → Type 0
  BoxedBy p box = IsBox (shape parts) box × IsClosed parts box × Agrees box p

  decided_boxed_by : (p : List ℕ) (box : List (List Bool)) → Decided (BoxedBy p box)
  decided_boxed_by p box = elim (decided_box (shape parts) box) [
    | inl is ↦ triple_decided _ _ _ (inl is) (decided_closed parts box problem is) (decided_agrees box p)
    | inr not_is ↦ inr (λ by. not_is by.0)
  ]

  pub boxed_decided : (p : List ℕ) → Decided (Boxed parts p)
  boxed_decided p = decided_like (Any (BoxedBy p) (all_boxes (shape parts))) (Boxed parts p)
      (λ some. (let found = contained (BoxedBy p) (all_boxes (shape parts)) some in record { box = found.0; is = found.2.0; closed = found.2.1; agrees = found.2.2 }))
      (λ boxed. any_of (BoxedBy p) (all_boxes (shape parts)) boxed.box (subst (λ sizes. Contains (all_boxes sizes) boxed.box) boxed.is.sizes (box_contained boxed.box)) (boxed.is, boxed.closed, boxed.agrees))
      (decided_any (BoxedBy p) (all_boxes (shape parts)) (decided_boxed_by p))

  -- the boxed prefixes after a start have one list
  pub one_boxed_list : (start : List ℕ) → HasOneListing (shape parts) (Boxed parts) start
  one_boxed_list start =
      let found = decided_listing (shape parts) (Boxed parts) start boxed_decided in
      record {
        members = found.0;
        listing = found.1;
        only = λ xs listing. listing_unique (shape parts) (Boxed parts) start found.0 xs found.1 listing;
      }
