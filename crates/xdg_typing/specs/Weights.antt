-- How many parts types have, names followed, and how they are counted.
use Rattle.std.specs.Prelude.{◌≡◌, ℕ, ◌<◌, ◌+◌, List, [], length, get_or, slice_index_or, Option, None, Some}
use Rattle.xdg_ast.specs.declared.names.Name.{Name}
use Rattle.xdg_domain.specs.Shapes.{Shape, domain, tuple, set, iset, valency, mapping, fields, Shapes, no_shape, shape_then, Fields, no_field, field_then}
use Rattle.xdg_names.specs.Texts.{place_of}
use Rattle.xdg_types.specs.Written.{Tree, listed, recorded, tupled, set_of, iset_of, valency_of, map_of, named, Trees, no_tree, tree_then, Members, no_member, member_then, uses, tree}
use Rattle.xdg_types.specs.Parts.{TypeTerm}
use Rattle.xdg_facts.specs.Membership.{In}
use Rattle.xdg_facts.specs.Capped.{capped}

-- ---- types without names

-- how many types and constants stand in a type, with itself
abbrev mutual
  pub parts : Shape → ℕ
  parts (domain cs) = 1 + length cs
  parts (tuple ss) = 1 + parts_of ss
  parts (set s) = 1 + parts s
  parts (iset s) = 1 + parts s
  parts (valency k) = 1 + parts k
  parts (mapping k u) = 1 + (parts k + parts u)
  parts (fields fs) = 1 + parts_in fs
  parts _ = 1

  pub parts_of : Shapes → ℕ
  parts_of no_shape = 0
  parts_of (shape_then s ss) = parts s + parts_of ss

  pub parts_in : Fields → ℕ
  parts_in no_field = 0
  parts_in (field_then name u fs) = parts u + parts_in fs

-- ---- as they are counted

-- the weight of a type: its parts, as they are counted
abbrev pub weight_of : Shape → ℕ
weight_of s = capped (parts s)

-- the weight of a type without types and constants in it
abbrev pub leaf : ℕ
leaf = 1

-- of both beside one another
abbrev pub beside : ℕ → ℕ → ℕ
beside a b = capped (a + b)

-- of a type that holds these
abbrev pub held : ℕ → ℕ
held a = capped (a + 1)

abbrev pub of_constants : ℕ → ℕ
of_constants n = capped (n + 1)

-- the weight of a type as it is written, where the names have these
abbrev mutual
  pub weighed : (Name → ℕ) → Tree → ℕ
  weighed at (listed names) = of_constants (length names)
  weighed at (recorded ms) = held (beside_members at 0 ms)
  weighed at (tupled ts) = held (beside_trees at 0 ts)
  weighed at (set_of place t) = held (weighed at t)
  weighed at (iset_of place t) = held (weighed at t)
  weighed at (valency_of place t) = held (weighed at t)
  weighed at (map_of place t there u) = held (beside (weighed at t) (weighed at u))
  weighed at (named name) = at name
  weighed at _ = leaf

  pub beside_trees : (Name → ℕ) → ℕ → Trees → ℕ
  beside_trees at all no_tree = all
  beside_trees at all (tree_then place t ts) = beside_trees at (beside all (weighed at t)) ts

  pub beside_members : (Name → ℕ) → ℕ → Members → ℕ
  beside_members at all no_member = all
  beside_members at all (member_then name place t ms) = beside_members at (beside all (weighed at t)) ms

-- the weight at a place; a name that no definition has is a type without types in it
abbrev pub looked : List ℕ → Option ℕ → ℕ
looked weights None = leaf
looked weights (Some k) = get_or weights k leaf

abbrev pub named_weight : List (List ℕ) → List ℕ → Name → ℕ
named_weight known weights name = looked weights (place_of known name.text)

-- ---- the definitions

-- the weights at the places of the names are those of what the names mean
abbrev pub Weighs : (List ℕ → Shape) → List (List ℕ) → List ℕ → Type 0
Weighs names known weights = (name : List ℕ) → looked weights (place_of known name) ≡ weight_of (names name)

-- what a type uses comes in the order before it
abbrev pub UsesFirst : List (List ℕ) → List TypeTerm → List ℕ → Type 0
UsesFirst known bodies order =
    (i : ℕ) → i < length order → (t : TypeTerm) (name : Name) (k : ℕ) → In (uses (tree (get_or bodies (slice_index_or order i 0) t).kind)) name
    → place_of known name.text ≡ Some k → (j : ℕ) × ((j < i) × (slice_index_or order j 0 ≡ k))

-- the weights of the definitions that stand before a place in the order are right
abbrev pub WeighedBefore : (List ℕ → Shape) → List (List ℕ) → List ℕ → ℕ → List ℕ → Type 0
WeighedBefore names known order i weights =
    (j : ℕ) → j < i → get_or weights (slice_index_or order j 0) leaf ≡ weight_of (names (get_or known (slice_index_or order j 0) []))
