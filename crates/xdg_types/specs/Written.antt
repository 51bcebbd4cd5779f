-- Types as they are written, as trees in which each part has its place.
use Rattle.std.specs.Prelude.{ℕ, List, [], ◌∷◌, ◌++◌}
use Rattle.xdg_ast.specs.declared.names.Name.{Name}
use Rattle.xdg_ast.specs.declared.names.Pair.{Pair}
use Rattle.xdg_ast.specs.declared.names.Spanned.{Spanned}
use Rattle.xdg_ast.specs.declared.types.TypeKind.{TypeKind}
use Rattle.xdg_ast.specs.declared.types.TypeKind.TheOpen.{TypeKind-F}
use Rattle.xdg_ast.specs.declared.types.TypeKind.TheFolds.{fold-TypeKind}

-- The numbers are the places of the parts.
mutual
  pub data Tree : Type 0 where
    -- `{}`
    nothing : Tree
    -- `{a b}`
    listed : List Name → Tree
    -- `{f: T g: U}`
    recorded : Members → Tree
    -- `tuple(T U)`
    tupled : Trees → Tree
    set_of : ℕ → Tree → Tree
    iset_of : ℕ → Tree → Tree
    valency_of : ℕ → Tree → Tree
    map_of : ℕ → Tree → ℕ → Tree → Tree
    a_card : Tree
    a_bool : Tree
    an_int : Tree
    a_string : Tree
    -- the name of a type
    named : Name → Tree

  pub data Trees : Type 0 where
    no_tree : Trees
    tree_then : ℕ → Tree → Trees → Trees

  pub data Members : Type 0 where
    no_member : Members
    member_then : Name → ℕ → Tree → Members → Members

abbrev pub trees_of : List (Spanned Tree) → Trees
trees_of [] = no_tree
trees_of (t ∷ ts) = tree_then t.span.start t.kind (trees_of ts)

abbrev pub members_of : List (Pair (Spanned Tree)) → Members
members_of [] = no_member
members_of (p ∷ ps) = member_then p.key p.value.span.start p.value.kind (members_of ps)

abbrev pub layer : TypeKind-F Tree → Tree
layer TypeKind-F.Empty = nothing
layer (TypeKind-F.Domain names) = listed names
layer (TypeKind-F.Rec pairs) = recorded (members_of pairs)
layer (TypeKind-F.Tuple types) = tupled (trees_of types)
layer (TypeKind-F.Set type) = set_of type.span.start type.kind
layer (TypeKind-F.ISet type) = iset_of type.span.start type.kind
layer (TypeKind-F.Valency type) = valency_of type.span.start type.kind
layer (TypeKind-F.Map key value) = map_of key.span.start key.kind value.span.start value.kind
layer TypeKind-F.Card = a_card
layer TypeKind-F.Bool = a_bool
layer TypeKind-F.Int = an_int
layer TypeKind-F.Str = a_string
layer (TypeKind-F.Named name) = named name

-- the tree of a type as it is written
abbrev pub tree : TypeKind → Tree
tree = fold-TypeKind Tree layer

-- ---- what stands in a type

-- the names of types, in the order of the text
abbrev mutual
  pub uses : Tree → List Name
  uses (recorded ms) = uses_in_members ms
  uses (tupled ts) = uses_in_trees ts
  uses (set_of at t) = uses t
  uses (iset_of at t) = uses t
  uses (valency_of at t) = uses t
  uses (map_of at t there u) = uses t ++ uses u
  uses (named name) = name ∷ []
  uses _ = []

  pub uses_in_trees : Trees → List Name
  uses_in_trees no_tree = []
  uses_in_trees (tree_then at t ts) = uses t ++ uses_in_trees ts

  pub uses_in_members : Members → List Name
  uses_in_members no_member = []
  uses_in_members (member_then name at t ms) = uses t ++ uses_in_members ms

abbrev pub member_names : Members → List Name
member_names no_member = []
member_names (member_then name at t ms) = name ∷ member_names ms

-- the lists of names in each of which a name may stand once: the constants of each domain, and the fields of each record
abbrev mutual
  pub lists : Tree → List (List Name)
  lists (listed names) = names ∷ []
  lists (recorded ms) = member_names ms ∷ lists_in_members ms
  lists (tupled ts) = lists_in_trees ts
  lists (set_of at t) = lists t
  lists (iset_of at t) = lists t
  lists (valency_of at t) = lists t
  lists (map_of at t there u) = lists t ++ lists u
  lists _ = []

  pub lists_in_trees : Trees → List (List Name)
  lists_in_trees no_tree = []
  lists_in_trees (tree_then at t ts) = lists t ++ lists_in_trees ts

  pub lists_in_members : Members → List (List Name)
  lists_in_members no_member = []
  lists_in_members (member_then name at t ms) = lists t ++ lists_in_members ms
