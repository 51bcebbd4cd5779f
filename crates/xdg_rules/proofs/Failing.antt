-- A test that is decided in a box and fails is decided in each box that has no more where it looks, and fails there.
use Rattle.xdg_facts.proofs.Each.{map_alike}
use Rattle.xdg_facts.proofs.Keeping.{filter_on}
use Rattle.xdg_facts.proofs.Lists.{all_one}
use Rattle.std.proofs.Common.{◌≡◌, ℕ, ◌+◌, ◌<◌, suc, inl, inr, Bool, true, false, ◌&&◌, List, [], ◌∷◌, length, refl, sym, ap, ◌∙◌, arith, rules, subst, Option, Some, None}
use Rattle.std.specs.Prelude.{Contains, All, slice_index_or, ◌==◌}
use Rattle.std.proofs.lemmas.Bool.{false≢true, cases_Bool, eqb-true, or_cases}
use Rattle.std.proofs.lemmas.List.Elements.{All-cons, All-weaker, All-contains, All-contains_itself}
use Rattle.xdg_problem.specs.declared.analysis.Edge.{Edge}
use Rattle.xdg_problem.specs.declared.parts.Group.{Group}
use Rattle.xdg_problem.specs.declared.parts.Parts.{Parts}
use Rattle.xdg_problem.specs.declared.parts.Principle.{Principle}
use Rattle.xdg_problem.specs.declared.parts.Principle.TheVariants as principles
use Rattle.xdg_problem.specs.Arguments.{first_dim, second_dim, label_count, attr_of, attr_place}
use Rattle.xdg_problem.specs.Places.{nodes, places}
use Rattle.xdg_problem.specs.Principles.{attr_arguments, looks_at_entries, looks_at_first, looks_at_second}
use Rattle.xdg_problem.specs.Problems.{IsProblem, IsGroup}
use Rattle.xdg_problem.specs.Tests.{Test, IsTest, looks_at, looks_first, looks_second, entry_node, test_attrs, allowed_value, climbing, not_blocked, linked, unlinked}
use Rattle.xdg_problem.specs.Vectors.{attr_sizes, shape}
use Rattle.xdg_problem.proofs.AttrPlaces.{AreWithin, each_within}
use Rattle.xdg_problem.proofs.EachTest.{Each, each_tested}
use Rattle.xdg_problem.proofs.Shortening.{passes_like}
use Rattle.xdg_problem.specs.Boxes.{Has, IsBox, edge_decision, entry_decision}
use Rattle.xdg_rules.specs.Rules.{has, IsDecided, first_true, value_in, EntryDecided, entry_value, FailsTest}
use Rattle.xdg_rules.proofs.Antitone.{LiesAt}
use Rattle.xdg_rules.proofs.Sizes.{edge_within, node_within, attr_place_within}
use Rattle.xdg_facts.proofs.Truths.{same_flag, same_and}

-- the first value that remains is the only one
pub first_only : (row : List Bool) (v : ℕ) → slice_index_or row v false ≡ true → ((x : ℕ) → slice_index_or row x false ≡ true → x ≡ v) → first_true row ≡ v
first_only (true ∷ row) v has only = only 0 refl
first_only (false ∷ row) (suc v) has only = ap suc (first_only row v has (λ x h. (let e = only (suc x) h in omega (arith, e))))
first_only row v has only = absurd (false≢true has)

pub value_is : (box : List (List Bool)) (d : ℕ) (decided : IsDecided box d) → value_in box d ≡ decided.0
value_is box d decided = first_only (slice_index_or box d []) decided.0 decided.1 decided.2

-- ---- where a test looks

-- at edges of the dimension alone
on_first : (dim : ℕ) (test : Test) (e : Edge) → looks_first dim test e ≡ true → e.dim.0 ≡ dim
on_first dim (allowed_value v) e looks = absurd (false≢true looks)
on_first dim test e looks = elim (cases_Bool (e.dim.0 == dim)) [ inl on ↦ eqb-true e.dim.0 dim on | inr off ↦ absurd (false≢true (rw off at looks)) ]

on_second : (dim : ℕ) (test : Test) (e : Edge) → looks_second dim test e ≡ true → e.dim.0 ≡ dim
on_second dim (climbing u v) e looks = eqb-true e.dim.0 dim looks
on_second dim (not_blocked u v) e looks = eqb-true e.dim.0 dim looks
on_second dim (linked way u l v) e looks = elim (cases_Bool (e.dim.0 == dim)) [ inl on ↦ eqb-true e.dim.0 dim on | inr off ↦ absurd (false≢true (rw off at looks)) ]
on_second dim (unlinked u l v) e looks = elim (cases_Bool (e.dim.0 == dim)) [ inl on ↦ eqb-true e.dim.0 dim on | inr off ↦ absurd (false≢true (rw off at looks)) ]
on_second dim test e looks = absurd (false≢true looks)

-- the node whose entry it looks at is one, and its principle looks at entries
abbrev EntryLooks : Principle → ℕ → Option ℕ → Type 0
EntryLooks p n None = Unit {0}
EntryLooks p n (Some node) = (looks_at_entries p ≡ true) × (node < n)

-- nor does it look elsewhere than its principle
abbrev Looks : Principle → Parts → Group → Test → Type 0
Looks p parts group test =
    EntryLooks p (nodes parts) (entry_node test) × ((e : Edge) → looks_first (first_dim group) test e ≡ true → looks_at_first p ≡ true) × ((e : Edge) → looks_second (second_dim group) test e ≡ true → looks_at_second p ≡ true)

module _ (parts : Parts) (group : Group) where
  abbrev EachOf : (Test → Type 0) → Principle → Type 0
  EachOf Q p = Each group.truths (nodes parts) (label_count parts (first_dim group)) Q p

  each_looks : (p : Principle) → EachOf (Looks p parts group) p
  each_looks principles.Graph = tt
  each_looks p = search rules

  -- what holds of each attribute of a node that a principle takes holds of those at which its tests look
  module _ (P : ℕ → Type 0) where
    abbrev AreAll : Test → Type 0
    AreAll test = All P (test_attrs parts group test)

    each_attrs : (p : Principle) → ((argument node : ℕ) → argument < attr_arguments p → node < nodes parts → P (attr_place parts (first_dim group) node (attr_of group argument))) → EachOf AreAll p
    each_attrs principles.Order given = (λ e u a. all_one P _ (given 0 u (omega arith) a), λ e u a. all_one P _ (given 0 u (omega arith) a))
    each_attrs principles.Agr given = λ v a. all_one P _ (given 0 v (omega arith) a)
    each_attrs principles.Agreement given = λ u a l b v c. All-cons P _ (attr_place parts (first_dim group) v (attr_of group 1) ∷ []) (given 0 u (omega arith) a) (all_one P _ (given 1 v (omega arith) c))
    each_attrs principles.Government given = λ u a l b v c. all_one P _ (given 0 v (omega arith) c)
    each_attrs p given = search rules

  test_within : IsGroup parts group → (test : Test) → IsTest parts group test → All (λ place. place < length (attr_sizes (nodes parts) parts.dims)) (test_attrs parts group test)
  test_within is test tested = each_tested group.truths (nodes parts) (label_count parts (first_dim group)) (AreWithin parts group is) group.principle (each_within parts group is group.principle refl) test tested

-- ---- a test, and what the small box has where it looks

module _ (parts : Parts) (group : Group) (small large : List (List Bool)) (problem : IsProblem parts) (group_is : IsGroup parts group) (is : IsBox (shape parts) small) where
  -- what it has of a decision the large one has too
  abbrev LiesOn : ℕ → Type 0
  LiesOn d = (x : ℕ) → Has small d x → Has large d x

  -- a decision with one value keeps it
  decided_small : (d : ℕ) → d < length (shape parts) → LiesOn d → IsDecided large d → IsDecided small d
  decided_small d within lies decided =
      let some = is.filled d within in
      (decided.0, subst (Has small d) (decided.2 some.0 (lies some.0 some.1)) some.1, λ x remains. decided.2 x (lies x remains))

  same_value : (d : ℕ) → d < length (shape parts) → LiesOn d → IsDecided large d → value_in small d ≡ value_in large d
  unfolding decided_small
  same_value d within lies decided = value_is small d (decided_small d within lies decided) ∙ sym (value_is large d decided)

  same_has : (d : ℕ) → d < length (shape parts) → LiesOn d → IsDecided large d → (v : ℕ) → has small d v ≡ has large d v
  unfolding decided_small
  same_has d within lies decided v = same_flag (has small d v) (has large d v) (lies v) (λ there. subst (Has small d) (sym (decided.2 v there)) (decided_small d within lies decided).1)

  -- the values of the attributes at which it looks
  abbrev AttrLies : ℕ → Type 0
  AttrLies place = LiesOn (length parts.candidates + place)

  module _ (lies : LiesAt group.principle parts group small large) (failing : FailsTest parts group large) where
    looks : Looks group.principle parts group failing.test
    looks = each_tested group.truths (nodes parts) (label_count parts (first_dim group)) (Looks group.principle parts group) group.principle (each_looks parts group group.principle) failing.test failing.is

    within : All (λ place. place < length (attr_sizes (nodes parts) parts.dims)) (test_attrs parts group failing.test)
    within = test_within parts group group_is failing.test failing.is

    attrs_lie : All AttrLies (test_attrs parts group failing.test)
    attrs_lie = each_tested group.truths (nodes parts) (label_count parts (first_dim group)) (AreAll parts group AttrLies) group.principle
        (each_attrs parts group AttrLies group.principle (λ argument node known within x. lies.attrs argument node x known within)) failing.test failing.is

    edge_lies : (e : Edge) → Contains (places parts) e → looks_at group failing.test e ≡ true → LiesOn (edge_decision parts e)
    edge_lies e c looked = elim (or_cases (looks_second (second_dim group) failing.test e) (looks_first (first_dim group) failing.test e) looked) [
      | inl second ↦ lies.second (looks.2 e second) e (c, on_second (second_dim group) failing.test e second)
      | inr first ↦ lies.first (looks.1 e first) e (c, on_first (first_dim group) failing.test e first)
    ]

    entry_small : (node : Option ℕ) → EntryLooks group.principle (nodes parts) node → EntryDecided large node → EntryDecided small node × (entry_value small node ≡ entry_value large node)
    entry_small None reads decided = (tt, refl)
    entry_small (Some node) reads decided =
        let there = node_within parts node problem reads.1 in
        let entry : LiesOn (entry_decision node) = λ c. lies.entries reads.0 node c reads.1 in
        (decided_small (entry_decision node) there entry decided, same_value (entry_decision node) there entry decided)

    abbrev seen : List (List Bool) → Edge → Bool
    seen box e = looks_at group failing.test e && has box (edge_decision parts e) 0

    abbrev EdgeDecided : List (List Bool) → Edge → Type 0
    EdgeDecided box e = looks_at group failing.test e ≡ true → IsDecided box (edge_decision parts e)

    edge_decided : (e : Edge) → Contains (places parts) e → EdgeDecided large e
    edge_decided e c = All-contains (EdgeDecided large) (places parts) e failing.decided.edges c

    pub fails_small : FailsTest parts group small
    fails_small =
        let entry = entry_small (entry_node failing.test) looks.0 failing.decided.entry in
        record {
          test = failing.test;
          is = failing.is;
          decided = record {
            entry = entry.0;
            attrs = λ k d l. decided_small _ (attr_place_within parts _ (within k d l)) (attrs_lie k d l) (failing.decided.attrs k d l);
            edges = All-weaker (Contains (places parts)) (EdgeDecided small) (λ e c looked. decided_small (edge_decision parts e) (edge_within parts e c) (edge_lies e c looked) (edge_decided e c looked))
                (places parts) (All-contains_itself (places parts));
          };
          fails = λ passes. failing.fails (passes_like (nodes parts) group failing.test _ _ _ _ _ _ entry.1
              (map_alike (λ place. value_in small (length parts.candidates + place)) (λ place. value_in large (length parts.candidates + place)) (test_attrs parts group failing.test)
              (λ k d l. same_value _ (attr_place_within parts _ (within k d l)) (attrs_lie k d l) (failing.decided.attrs k d l)))
              (filter_on (seen small) (seen large) (places parts) (λ e c. same_and (looks_at group failing.test e) (has small (edge_decision parts e) 0) (has large (edge_decision parts e) 0)
              (λ looked. same_has (edge_decision parts e) (edge_within parts e c) (edge_lies e c looked) (edge_decided e c looked) 0)))
              passes);
        }
