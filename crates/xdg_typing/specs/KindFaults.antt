-- What is wrong with the kinds and the sizes of types, as lists of faults in the order in which the code comes to them.
use Rattle.std.specs.Prelude.{ℕ, ◌-◌, ◌^◌, min, Bool, true, false, ◌&&◌, ◌||◌, not, ltb, if◌then◌else◌, List, [], ◌∷◌, ◌++◌, length, flat_map, slice_get, Option, None, Some}
use Rattle.xdg_base.specs.Faults.{fault_at, fault_reaching}
use Rattle.xdg_base.specs.declared.faults.Cause.TheVariants as causes
use Rattle.xdg_base.specs.declared.faults.Fault.{Fault}
use Rattle.xdg_ast.specs.declared.names.Name.{Name}
use Rattle.xdg_ast.specs.declared.types.TypeKind.{TypeKind}
use Rattle.xdg_ast.specs.declared.types.TypeKind.TheOpen.{TypeKind-F}
use Rattle.xdg_domain.specs.Shapes.{Shape, fields, Fields, no_field, field_then, constants, sizes, product}
use Rattle.xdg_names.specs.Texts.{has_text}
use Rattle.xdg_typing.specs.declared.wanted.Wanted.{Wanted as Asked}
use Rattle.xdg_typing.specs.declared.wanted.Wanted.TheVariants as w
use Rattle.xdg_types.specs.Written.{Tree, nothing, listed, recorded, tupled, set_of, iset_of, valency_of, map_of, a_card, a_bool, an_int, a_string, named, Trees, no_tree, tree_then, member_names, tree}
use Rattle.xdg_types.specs.Parts.{Statement, used_places}
use Rattle.xdg_types.specs.Meaning.{meaning, domains_meaning, as_domain}
use Rattle.xdg_types.specs.Kinds.{Wanted, anything, a_domain, a_small, a_mapped, an_attribute, the_labels, the_attributes, the_features, Site, sites, is_of_kind, is_attribute, has_no_field, field_count}
use Rattle.xdg_types.specs.NameFaults.{repeated, with_text}
pub use Rattle.xdg_types.proofs.Treed.{trees, members}

-- what is wanted
abbrev pub asked : Asked → Wanted
asked w.Anything = anything
asked w.Domain = a_domain
asked w.Small = a_small
asked w.Mapped = a_mapped
asked w.Attribute = an_attribute
asked w.Labels = the_labels
asked w.Attributes = the_attributes
asked w.Features = the_features

-- ---- types, layer by layer

abbrev pub form_tree : TypeKind-F TypeKind → Tree
form_tree TypeKind-F.Empty = nothing
form_tree (TypeKind-F.Domain names) = listed names
form_tree (TypeKind-F.Rec pairs) = recorded (members pairs)
form_tree (TypeKind-F.Tuple types) = tupled (trees types)
form_tree (TypeKind-F.Set type) = set_of type.span.start (tree type.kind)
form_tree (TypeKind-F.ISet type) = iset_of type.span.start (tree type.kind)
form_tree (TypeKind-F.Valency type) = valency_of type.span.start (tree type.kind)
form_tree (TypeKind-F.Map key value) = map_of key.span.start (tree key.kind) value.span.start (tree value.kind)
form_tree TypeKind-F.Card = a_card
form_tree TypeKind-F.Bool = a_bool
form_tree TypeKind-F.Int = an_int
form_tree TypeKind-F.Str = a_string
form_tree (TypeKind-F.Named name) = named name

-- ---- heads, by their form

abbrev pub domain_form : TypeKind-F TypeKind → Bool
domain_form TypeKind-F.Empty = true
domain_form (TypeKind-F.Domain names) = true
domain_form (TypeKind-F.Rec pairs) = not (ltb 0 (length pairs))
domain_form _ = false

abbrev pub small_form : TypeKind-F TypeKind → Bool
small_form TypeKind-F.Empty = true
small_form (TypeKind-F.Domain names) = true
small_form (TypeKind-F.Rec pairs) = not (ltb 0 (length pairs))
small_form (TypeKind-F.Tuple types) = true
small_form _ = false

abbrev pub mapped_form : TypeKind-F TypeKind → Bool
mapped_form (TypeKind-F.Set type) = true
mapped_form (TypeKind-F.ISet type) = true
mapped_form (TypeKind-F.Valency type) = true
mapped_form (TypeKind-F.Map key value) = true
mapped_form TypeKind-F.Card = true
mapped_form _ = false

abbrev pub record_form : TypeKind-F TypeKind → Bool
record_form TypeKind-F.Empty = true
record_form (TypeKind-F.Rec pairs) = true
record_form _ = false

-- a domain without constants
abbrev pub empty_form : TypeKind-F TypeKind → Bool
empty_form TypeKind-F.Empty = true
empty_form (TypeKind-F.Domain names) = not (ltb 0 (length names))
empty_form (TypeKind-F.Rec pairs) = not (ltb 0 (length pairs))
empty_form _ = false

-- a tuple type without fields
abbrev pub fieldless_form : TypeKind-F TypeKind → Bool
fieldless_form (TypeKind-F.Tuple types) = not (ltb 0 (length types))
fieldless_form _ = false

-- the constants of a domain
abbrev pub form_constants : TypeKind-F TypeKind → List Name
form_constants (TypeKind-F.Domain names) = names
form_constants _ = []

-- ---- one site

-- of the wanted kind or not, a tuple type without fields or not
abbrev pub wrong_faults : ℕ → Bool → Bool → List Fault
wrong_faults at right fieldless = if right && not fieldless then [] else fault_at causes.WrongKind at ∷ []

abbrev pub kind_faults : (List ℕ → Shape) → Wanted → ℕ → Tree → List Fault
kind_faults names wanted at t = wrong_faults at (is_of_kind wanted (meaning names t)) (has_no_field t)

abbrev pub big_faults : ℕ → Tree → List Fault
big_faults at (listed constants) = if ltb 64 (length constants) then fault_reaching causes.DomainTooBig at (length constants) ∷ [] else []
big_faults at _ = []

-- of so many labels
abbrev pub label_faults : Wanted → ℕ → ℕ → List Fault
label_faults the_labels at count = if ltb 32 count then fault_reaching causes.TooWide at count ∷ [] else []
label_faults _ at count = []

-- of so many tuples
abbrev pub tuple_faults : ℕ → ℕ → List Fault
tuple_faults at count = if ltb 1024 count then fault_reaching causes.TooWide at (min count (2 ^ 64 - 1)) ∷ [] else []

abbrev pub wide_faults : (List ℕ → Shape) → ℕ → Tree → List Fault
wide_faults names at (tupled ts) = tuple_faults at (product (sizes (domains_meaning names ts)))
wide_faults names at _ = []

-- ---- constants that two fields of a tuple type have

abbrev pub add_texts : List (List ℕ) → List (List ℕ) → List (List ℕ)
add_texts seen [] = seen
add_texts seen (text ∷ more) = add_texts (with_text seen text) more

abbrev pub has_one : List (List ℕ) → List (List ℕ) → Bool
has_one seen [] = false
has_one seen (text ∷ more) = has_text seen text || has_one seen more

-- a field that is given by name has a constant of an earlier one
abbrev pub one_fault : ℕ → Bool → List Fault
one_fault at shared = if shared then fault_at causes.Twice at ∷ [] else []

-- earlier fields have these constants
abbrev pub field_faults : (List ℕ → Shape) → List (List ℕ) → ℕ → Tree → List Fault
field_faults names seen at (listed constants) = flat_map (repeated seen) constants
field_faults names seen at (named name) = one_fault at (has_one seen (constants (as_domain (names name.text))))
field_faults names seen at _ = []

abbrev pub shared_in : (List ℕ → Shape) → List (List ℕ) → Trees → List Fault
shared_in names seen no_tree = []
shared_in names seen (tree_then at t ts) = field_faults names seen at t ++ shared_in names (add_texts seen (constants (as_domain (meaning names t)))) ts

abbrev pub shared_faults : (List ℕ → Shape) → Tree → List Fault
shared_faults names (tupled ts) = shared_in names [] ts
shared_faults names _ = []

-- ---- attributes

-- more than eight of them
abbrev pub ninth_name_faults : Option Name → List Fault
ninth_name_faults None = []
ninth_name_faults (Some name) = fault_reaching causes.TooWide name.span.start 9 ∷ []

abbrev pub has_other : Fields → Bool
has_other no_field = false
has_other (field_then name u fs) = not (is_attribute (as_domain u)) || has_other fs

-- of so many fields
abbrev pub wide_record_faults : ℕ → ℕ → List Fault
wide_record_faults at count = if ltb 8 count then fault_reaching causes.TooWide at 9 ∷ [] else []

abbrev pub other_faults : ℕ → Bool → List Fault
other_faults at others = if others then fault_at causes.WrongKind at ∷ [] else []

abbrev pub named_faults : ℕ → Shape → List Fault
named_faults at (fields fs) = wide_record_faults at (field_count fs) ++ other_faults at (has_other fs)
named_faults at _ = []

abbrev pub record_faults : (List ℕ → Shape) → ℕ → Tree → List Fault
record_faults names at (recorded ms) = ninth_name_faults (slice_get (member_names ms) 8)
record_faults names at (named name) = named_faults at (names name.text)
record_faults names at _ = []

abbrev pub attributes_faults : (List ℕ → Shape) → Wanted → ℕ → Tree → List Fault
attributes_faults names the_attributes at t = record_faults names at t
attributes_faults names _ at t = []

-- ---- all

-- what is wrong with a type, without what stands in it and without constants that it has twice
abbrev pub alone_faults : (List ℕ → Shape) → Wanted → ℕ → Tree → List Fault
alone_faults names wanted at t =
    kind_faults names wanted at t ++ (big_faults at t ++ (label_faults wanted at (length (constants (as_domain (meaning names t))))
    ++ (wide_faults names at t ++ attributes_faults names wanted at t)))

abbrev pub site_faults : (List ℕ → Shape) → Site → List Fault
site_faults names site = alone_faults names site.wanted site.at site.written ++ shared_faults names site.written

-- in a list of sites
abbrev pub faults_in : (List ℕ → Shape) → List Site → List Fault
faults_in names = flat_map (site_faults names)

-- a ninth dimension is used
abbrev pub ninth_use_faults : Option ℕ → List Fault
ninth_use_faults None = []
ninth_use_faults (Some place) = fault_reaching causes.TooWide place 9 ∷ []

abbrev pub all_faults : (List ℕ → Shape) → List Statement → List Fault
all_faults names statements = ninth_use_faults (slice_get (used_places statements) 8) ++ faults_in names (sites statements)
