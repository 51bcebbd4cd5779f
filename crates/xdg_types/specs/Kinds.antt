-- What is wrong with the kinds and the sizes of types.
use Rattle.std.specs.Prelude.{◌≡◌, ◌⊎◌, ℕ, ◌<◌, ◌+◌, ◌-◌, ◌^◌, min, Bool, true, false, ◌||◌, ◌&&◌, not, List, [], ◌∷◌, ◌++◌, length, flat_map}
use Rattle.xdg_base.specs.Faults.{fault_at, fault_reaching}
use Rattle.xdg_base.specs.declared.faults.Cause.TheVariants as causes
use Rattle.xdg_base.specs.declared.faults.Fault.{Fault}
use Rattle.xdg_ast.specs.declared.names.Name.{Name}
use Rattle.xdg_ast.specs.declared.grammar.DimPartKind.{DimPartKind}
use Rattle.xdg_ast.specs.declared.grammar.DimPartKind.TheVariants as p
use Rattle.xdg_domain.specs.Shapes.{Shape, domain, tuple, set, iset, card, valency, mapping, fields, Shapes, no_shape, shape_then, Fields, no_field, field_then, constants, constants_of, in_a_row, sizes, product}
use Rattle.xdg_types.specs.Written.{Tree, listed, recorded, tupled, set_of, iset_of, valency_of, map_of, named, Trees, no_tree, tree_then, Members, no_member, member_then, member_names, tree}
use Rattle.xdg_types.specs.Parts.{Statement, dimensions, used_places}
use Rattle.xdg_types.specs.Meaning.{meaning, domains_meaning, as_domain}
use Rattle.xdg_facts.specs.Membership.{In}

-- ---- sites

-- what is wanted where a type stands
pub data Wanted : Type 0 where
  anything : Wanted
  a_domain : Wanted
  -- a domain or a tuple type
  a_small : Wanted
  -- what the values of a map may be
  a_mapped : Wanted
  -- the type of an attribute
  an_attribute : Wanted
  the_labels : Wanted
  the_attributes : Wanted
  the_features : Wanted

-- a type as it is written, its place, and what is wanted there
pub record Site : Type 0 where
  pub wanted : Wanted
  pub at : ℕ
  pub written : Tree

-- the sites inside a type, in the order of the text
abbrev mutual
  pub inside : Tree → List Site
  inside (recorded ms) = inside_members anything ms
  inside (tupled ts) = inside_trees ts
  inside (set_of at t) = record { wanted = a_small; at = at; written = t } ∷ inside t
  inside (iset_of at t) = record { wanted = a_small; at = at; written = t } ∷ inside t
  inside (valency_of at t) = record { wanted = a_domain; at = at; written = t } ∷ inside t
  inside (map_of at t there u) =
      (record { wanted = a_domain; at = at; written = t } ∷ inside t) ++ record { wanted = a_mapped; at = there; written = u } ∷ inside u
  inside _ = []

  pub inside_trees : Trees → List Site
  inside_trees no_tree = []
  inside_trees (tree_then at t ts) = (record { wanted = a_domain; at = at; written = t } ∷ inside t) ++ inside_trees ts

  pub inside_members : Wanted → Members → List Site
  inside_members wanted no_member = []
  inside_members wanted (member_then name at t ms) = (record { wanted = wanted; at = at; written = t } ∷ inside t) ++ inside_members wanted ms

-- the fields of a record of attributes that is written out are types of attributes
abbrev pub inside_attributes : Tree → List Site
inside_attributes (recorded ms) = inside_members an_attribute ms
inside_attributes t = inside t

abbrev pub part_sites : DimPartKind → List Site
part_sites (p.DefType name type) = record { wanted = anything; at = type.span.start; written = tree type.kind } ∷ inside (tree type.kind)
part_sites (p.LabelType type) = record { wanted = the_labels; at = type.span.start; written = tree type.kind } ∷ inside (tree type.kind)
part_sites (p.AttrsType type) = record { wanted = the_attributes; at = type.span.start; written = tree type.kind } ∷ inside_attributes (tree type.kind)
part_sites (p.EntryType type) = record { wanted = the_features; at = type.span.start; written = tree type.kind } ∷ inside (tree type.kind)
part_sites _ = []

-- every type in the text, once
abbrev pub sites : List Statement → List Site
sites statements = flat_map (λ dim. flat_map (λ part. part_sites part.kind) dim.1) (dimensions statements)

-- ---- kinds

abbrev pub is_domain : Shape → Bool
is_domain (domain cs) = true
is_domain _ = false

abbrev pub is_small : Shape → Bool
is_small (domain cs) = true
is_small (tuple ss) = true
is_small _ = false

abbrev pub is_mapped : Shape → Bool
is_mapped (set s) = true
is_mapped (iset s) = true
is_mapped card = true
is_mapped (valency k) = true
is_mapped (mapping k u) = true
is_mapped _ = false

abbrev pub is_record : Shape → Bool
is_record (fields fs) = true
is_record _ = false

abbrev pub is_empty_domain : Shape → Bool
is_empty_domain (domain []) = true
is_empty_domain _ = false

abbrev pub are_domains : Shapes → Bool
are_domains no_shape = true
are_domains (shape_then s ss) = is_domain s && are_domains ss

abbrev pub has_empty_domain : Shapes → Bool
has_empty_domain no_shape = false
has_empty_domain (shape_then s ss) = is_empty_domain s || has_empty_domain ss

-- all fields of a tuple type are domains, and one is without constants, so that it has no tuple
abbrev pub has_no_tuple : Shapes → Bool
has_no_tuple ss = are_domains ss && has_empty_domain ss

-- A domain with a constant, or a tuple type that isn't without tuples. One with a field that is no domain has no number of
-- tuples: it is an attribute's type as far as this goes, and refused for that field alone.
abbrev pub is_attribute : Shape → Bool
is_attribute (domain cs) = not (is_empty_domain (domain cs))
is_attribute (tuple ss) = not (has_no_tuple ss)
is_attribute _ = false

-- what is written means something of the wanted kind
abbrev pub is_of_kind : Wanted → Shape → Bool
is_of_kind anything s = true
is_of_kind a_domain s = is_domain (as_domain s)
is_of_kind a_small s = is_small (as_domain s)
is_of_kind a_mapped s = is_mapped s
is_of_kind an_attribute s = is_attribute (as_domain s)
is_of_kind the_labels s = is_domain (as_domain s)
is_of_kind the_attributes s = is_record s
is_of_kind the_features s = is_record s

-- ---- the rules, one by one

-- the type isn't of the wanted kind, or is a tuple type without fields (which no text has)
abbrev pub has_no_field : Tree → Bool
has_no_field (tupled no_tree) = true
has_no_field _ = false

pub record IsWrongKind (names : List ℕ → Shape) (site : Site) (f : Fault) : Type 0 where
  pub kind : (is_of_kind site.wanted (meaning names site.written) ≡ false) ⊎ (has_no_field site.written ≡ true)
  pub fault : f ≡ fault_at causes.WrongKind site.at

-- a domain that is written out has more than 64 constants
pub record IsTooBig (site : Site) (f : Fault) : Type 0 where
  pub constants : List Name
  pub is : site.written ≡ listed constants
  pub many : 64 < length constants
  pub fault : f ≡ fault_reaching causes.DomainTooBig site.at (length constants)

-- there are more than 32 labels
pub record HasManyLabels (names : List ℕ → Shape) (site : Site) (f : Fault) : Type 0 where
  pub wanted : site.wanted ≡ the_labels
  pub many : 32 < length (constants (as_domain (meaning names site.written)))
  pub fault : f ≡ fault_reaching causes.TooWide site.at (length (constants (as_domain (meaning names site.written))))

-- a tuple type has more than 1,024 tuples; the number reached stops at the greatest of 64 bits
pub record HasManyTuples (names : List ℕ → Shape) (site : Site) (f : Fault) : Type 0 where
  pub members : Trees
  pub is : site.written ≡ tupled members
  pub many : 1024 < product (sizes (domains_meaning names members))
  pub fault : f ≡ fault_reaching causes.TooWide site.at (min (product (sizes (domains_meaning names members))) (2 ^ 64 - 1))

-- the constants of the fields up to one, and that field
abbrev pub Split : Trees → Trees → ℕ → Tree → Trees → Type 0
Split no_tree ts at t after = ts ≡ tree_then at t after
Split (tree_then here s before) ts at t after = (rest : Trees) × ((ts ≡ tree_then here s rest) × Split before rest at t after)

-- a field of a tuple type has a constant that an earlier field has: the place is the constant, or the field's name where
-- the field is given by name
abbrev pub SharesAt : (List ℕ → Shape) → List (List ℕ) → ℕ → Tree → Fault → Type 0
SharesAt names earlier at (listed constants) f =
    (name : Name) × (In constants name × (In earlier name.text × (f ≡ fault_at causes.Twice name.span.start)))
SharesAt names earlier at (named name) f =
    (constant : List ℕ) × (In (constants (as_domain (names name.text))) constant × (In earlier constant × (f ≡ fault_at causes.Twice at)))
SharesAt names earlier at _ f = ⊥

pub record SharesConstant (names : List ℕ → Shape) (site : Site) (f : Fault) : Type 0 where
  pub members : Trees
  pub is : site.written ≡ tupled members
  pub before : Trees
  pub at : ℕ
  pub field : Tree
  pub after : Trees
  pub parts : Split before members at field after
  pub shares : SharesAt names (in_a_row (constants_of (domains_meaning names before))) at field f

abbrev pub field_count : Fields → ℕ
field_count no_field = 0
field_count (field_then name u fs) = 1 + field_count fs

abbrev pub HasOther : Fields → Type 0
HasOther no_field = ⊥
HasOther (field_then name u fs) = (is_attribute (as_domain u) ≡ false) ⊎ HasOther fs

-- the same of a record that is given by name
abbrev pub NamedOffends : ℕ → Shape → Fault → Type 0
NamedOffends at (fields fs) f = ((8 < field_count fs) × (f ≡ fault_reaching causes.TooWide at 9)) ⊎ (HasOther fs × (f ≡ fault_at causes.WrongKind at))
NamedOffends at _ f = ⊥

-- The record of the attributes has more than eight fields, or, given by name, a field that is no type of an attribute.
-- The place is the ninth field, or the name.
abbrev pub AttributesOffend : (List ℕ → Shape) → ℕ → Tree → Fault → Type 0
AttributesOffend names at (recorded ms) f =
    (before : List Name)
    × ((ninth : Name)
    × ((after : List Name) × ((member_names ms ≡ before ++ ninth ∷ after) × ((length before ≡ 8) × (f ≡ fault_reaching causes.TooWide ninth.span.start 9)))))
AttributesOffend names at (named name) f = NamedOffends at (names name.text) f
AttributesOffend names at _ f = ⊥

pub record HasWrongAttributes (names : List ℕ → Shape) (site : Site) (f : Fault) : Type 0 where
  pub wanted : site.wanted ≡ the_attributes
  pub offends : AttributesOffend names site.at site.written f

-- a ninth dimension is used
pub record IsNinthDimension (statements : List Statement) (f : Fault) : Type 0 where
  pub before : List ℕ
  pub ninth : ℕ
  pub after : List ℕ
  pub parts : used_places statements ≡ before ++ ninth ∷ after
  pub eight : length before ≡ 8
  pub fault : f ≡ fault_reaching causes.TooWide ninth 9

abbrev pub SiteOffends : (List ℕ → Shape) → Site → Fault → Type 0
SiteOffends names site f =
    IsWrongKind names site f
    ⊎ (IsTooBig site f ⊎ (HasManyLabels names site f ⊎ (HasManyTuples names site f ⊎ (SharesConstant names site f ⊎ HasWrongAttributes names site f))))

-- what is wrong with the kinds and sizes of a grammar's types where the names of types mean this
abbrev pub KindOffends : (List ℕ → Shape) → List Statement → Fault → Type 0
KindOffends names statements f = IsNinthDimension statements f ⊎ ((site : Site) × (In (sites statements) site × SiteOffends names site f))
