-- The table of a grammar whose types are right.
use Rattle.std.proofs.Common.{◌≡◌, ◌⊎◌, inl, inr, ℕ, ◌+◌, ◌<◌, ◌≤◌, true, List, [], ◌∷◌, ◌++◌, length, get_or, map, ap, ap₂, sym, ◌∙◌, refl, subst, arith}
use Rattle.std.proofs.lemmas.Bool.{cases_Bool, false≢true}
use Rattle.std.proofs.lemmas.List.{get_or-map, length-map, length-append}
use Rattle.std.proofs.lemmas.Option.{get_or_from_slice_get, slice_get_within}
use Rattle.std.specs.Prelude.{Some, slice_get}
use Rattle.xdg_base.specs.Faults.{fault_at, fault_reaching}
use Rattle.xdg_base.specs.declared.faults.Cause.TheVariants as causes
use Rattle.xdg_ast.specs.declared.names.Name.{Name}
use Rattle.xdg_ast.specs.declared.grammar.DimPartKind.{DimPartKind}
use Rattle.xdg_ast.specs.declared.grammar.DimPartKind.TheVariants as p
use Rattle.xdg_domain.specs.declared.types.Ty.{Ty}
use Rattle.xdg_domain.specs.Shapes.{Shape, text, fields, Fields, no_field, field_then, constants, shape, IsType, AreTypes, names_of}
use Rattle.xdg_domain.proofs.Constants.{domain_differs}
use Rattle.xdg_names.proofs.Texts.{place_of-has_text, place_of-Some, among_has}
use Rattle.xdg_types.specs.declared.table.DimType.{DimType}
use Rattle.xdg_types.specs.Written.{Tree, nothing, recorded, named, Members, no_member, member_then, member_names, tree, uses, lists}
use Rattle.xdg_types.specs.Parts.{TypeTerm, DimPart, Statement, Dimension, dimensions, dim_names, type_in, used_name, used_names, used_places, label_type, attrs_type, entry_type, in_parts}
use Rattle.xdg_types.specs.Meaning.{meaning, fields_meaning, as_domain}
use Rattle.xdg_types.specs.Kinds.{an_attribute, the_labels, the_attributes, the_features, inside, inside_members, inside_attributes, part_sites, is_record, is_attribute, field_count, HasOther}
use Rattle.xdg_types.specs.Table.{Typed, typed, typed_fields, fields_in, first_meaning, IsDim, AreDims, AreUsed, firsts, AreAttributes, AreFeatures, KeepsDim, KeepDims, ArePlaces, IsTable}
use Rattle.xdg_typing.specs.Used.{found, places}
use Rattle.xdg_typing.specs.Branches.{Naming}
use Rattle.xdg_typing.specs.Right.{AreRight}
use Rattle.xdg_types.proofs.Made.{names_in, names_made}
use Rattle.xdg_types.proofs.NamesKnown.{each_known}
use Rattle.xdg_typing.proofs.RightTypes.{IsFine, AreFine, AllOnce, HaveTypes, as_type, domain_of, attribute_of, kind_of, right_type, right_attributes}
use Rattle.xdg_typing.proofs.RightText.{Stands, type_stands, site_fine, differ_once, lists_once, uses_right}
use Rattle.xdg_facts.specs.Membership.{In, Differ}
use Rattle.xdg_facts.proofs.Lists.{some_at}
use Rattle.xdg_facts.proofs.Fronts.{part_at}
use Rattle.xdg_facts.proofs.In.{in_left, in_right, in_flat_map}
use Rattle.xdg_ast.specs.Texts.{texts}
use Rattle.xdg_facts.proofs.Numbers.{not_more}

-- ---- fields

firsts_typed : (all : List (List ℕ × Ty)) → firsts (typed all) ≡ firsts all
firsts_typed [] = refl
firsts_typed (one ∷ all) = ap (λ ts. one.0 ∷ ts) (firsts_typed all)

-- each as it is where a domain is wanted
abbrev pub domains_in : Typed → Typed
domains_in all = map (λ one. (one.0, as_domain one.1)) all

firsts_domains : (all : Typed) → firsts (domains_in all) ≡ firsts all
firsts_domains [] = refl
firsts_domains (one ∷ all) = ap (λ ts. one.0 ∷ ts) (firsts_domains all)

firsts_fields : (fs : Fields) → firsts (typed_fields fs) ≡ names_of fs
firsts_fields no_field = refl
firsts_fields (field_then name u fs) = ap (λ ts. name ∷ ts) (firsts_fields fs)

features : (fs : Fields) → AreTypes fs → AreFeatures (typed_fields fs)
features no_field h = tt
features (field_then name u fs) h = (h.0, features fs h.1)

-- each field is an attribute
abbrev AllAttributes : Fields → Type 0
AllAttributes no_field = Unit {0}
AllAttributes (field_then name u fs) = (is_attribute (as_domain u) ≡ true) × AllAttributes fs

attributes : (fs : Fields) → AreTypes fs → AllAttributes fs → AreAttributes (domains_in (typed_fields fs))
attributes no_field h k = tt
attributes (field_then name u fs) h k = (attribute_of (as_domain u) (as_type u h.0) k.0, attributes fs h.1 k.1)

all_unless : (fs : Fields) → (HasOther fs → ⊥) → AllAttributes fs
all_unless no_field h = tt
all_unless (field_then name u fs) h = (
  elim (cases_Bool (is_attribute (as_domain u))) [ inl e ↦ e | inr e ↦ absurd (h (inl e)) ],
  all_unless fs (λ o. h (inr o)),
)

-- ---- the first type of a part

record IsFirst (kind : TypeTerm → DimPartKind) (names : Naming) (parts : List DimPart) (types : List TypeTerm) : Type 0 where
  type : TypeTerm
  part : DimPart
  among : In parts part
  is : part.kind ≡ kind type
  first : first_meaning names types ≡ meaning names (tree type.kind)

label_part : (kind : DimPartKind) (type : TypeTerm) → In (label_type kind) type → kind ≡ p.LabelType type
label_part (p.LabelType t) type h = elim h [ inl e ↦ ap (λ (u : TypeTerm). p.LabelType u) e | inr k ↦ absurd k ]
label_part other type h = absurd h

attrs_part : (kind : DimPartKind) (type : TypeTerm) → In (attrs_type kind) type → kind ≡ p.AttrsType type
attrs_part (p.AttrsType t) type h = elim h [ inl e ↦ ap (λ (u : TypeTerm). p.AttrsType u) e | inr k ↦ absurd k ]
attrs_part other type h = absurd h

entry_part : (kind : DimPartKind) (type : TypeTerm) → In (entry_type kind) type → kind ≡ p.EntryType type
entry_part (p.EntryType t) type h = elim h [ inl e ↦ ap (λ (u : TypeTerm). p.EntryType u) e | inr k ↦ absurd k ]
entry_part other type h = absurd h

first_or_none : (kind : TypeTerm → DimPartKind) (names : Naming) (parts : List DimPart) (types : List TypeTerm) → ((type : TypeTerm) → In types type → (part : DimPart) × (In parts part × (part.kind ≡ kind type)))
    → (first_meaning names types ≡ fields no_field) ⊎ IsFirst kind names parts types
first_or_none kind names parts [] h = inl refl
first_or_none kind names parts (type ∷ more) h = let w = h type (inl refl) in inr (record { type = type; part = w.0; among = w.1.0; is = w.1.1; first = refl })

in_part : (which : DimPartKind → List TypeTerm) (kind : TypeTerm → DimPartKind) → ((k : DimPartKind) (type : TypeTerm) → In (which k) type → k ≡ kind type)
    → (parts : List DimPart) (type : TypeTerm) → In (in_parts which parts) type → (part : DimPart) × (In parts part × (part.kind ≡ kind type))
in_part which kind told parts type h = let w = in_flat_map (λ (part : DimPart). which part.kind) parts type h in (w.0, (w.1.0, told w.0.kind type w.1.1))

-- ---- one dimension

-- the three rows of a dimension, as shapes
record RightLabels (labels : List (List ℕ)) : Type 0 where
  differ : Differ labels
  few : length labels ≤ 32

record RightAttributes (all : Typed) : Type 0 where
  differ : Differ (firsts all)
  few : length all ≤ 8
  right : AreAttributes all

record RightFeatures (all : Typed) : Type 0 where
  differ : Differ (firsts all)
  right : AreFeatures all

fields_length : (fs : Fields) → length (typed_fields fs) ≡ field_count fs
fields_length no_field = refl
fields_length (field_then name u fs) = let e = fields_length fs in omega (arith, e)

members_count : (names : Naming) (ms : Members) → field_count (fields_meaning names ms) ≡ length (member_names ms)
members_count names no_member = refl
members_count names (member_then name at t ms) = let e = members_count names ms in omega (arith, e)

record_only : (s : Shape) → is_record s ≡ true → (fs : Fields) × (s ≡ fields fs)
record_only (fields fs) h = (fs, refl)
record_only other h = absurd (false≢true h)

features_of : (s : Shape) → is_record s ≡ true → IsType s → RightFeatures (fields_in s)
features_of s k h =
    let r = record_only s k in
    let right = subst IsType r.1 h in
    subst (λ u. RightFeatures (fields_in u)) (sym r.1) (record { differ = subst Differ (sym (firsts_fields r.0)) right.0; right = features r.0 right.1 })

-- a record of attributes with few fields, each an attribute
abbrev FewAttributes : Shape → Type 0
FewAttributes s = (fs : Fields) → s ≡ fields fs → (field_count fs ≤ 8) × AllAttributes fs

attributes_of : (s : Shape) → is_record s ≡ true → IsType s → FewAttributes s → RightAttributes (domains_in (fields_in s))
attributes_of s k h few =
    let r = record_only s k in
    let right = subst IsType r.1 h in
    let all = few r.0 r.1 in
    let len : length (domains_in (typed_fields r.0)) ≡ length (typed_fields r.0) = length-map (typed_fields r.0) _ in
    subst (λ u. RightAttributes (domains_in (fields_in u))) (sym r.1) (record {
      differ = subst Differ (sym (firsts_domains (typed_fields r.0) ∙ firsts_fields r.0)) right.0;
      few = omega (arith, len, fields_length r.0, all.0);
      right = attributes r.0 right.1 all.1;
    })

module _ (names : Naming) where
  members_attributes : (ms : Members) → AreFine names (inside_members an_attribute ms) → AllAttributes (fields_meaning names ms)
  members_attributes no_member all = tt
  members_attributes (member_then name at t ms) all =
      let sites = record { wanted = an_attribute; at = at; written = t } ∷ inside t in (
        kind_of names an_attribute at t (all _ (in_left sites (inside_members an_attribute ms) _ (inl refl))),
        members_attributes ms (λ s i. all s (in_right sites (inside_members an_attribute ms) s i)),
      )

  few_members : (at : ℕ) (ms : Members) → IsFine names (record { wanted = the_attributes; at = at; written = recorded ms }) → length (member_names ms) ≤ 8
  few_members at ms fine = not_more 8 (length (member_names ms)) (λ h.
      let w = part_at (member_names ms) 8 h in
      fine (fault_reaching causes.TooWide w.one.span.start 9) (inr (inr (inr (inr (inr (record { wanted = refl; offends = (w.before, (w.one, (w.after, (w.parts, (w.len, refl))))) })))))))

  -- an equation between records is one between their fields
  same_fields : (fs gs : Fields) → fields fs ≡ fields gs → fs ≡ gs
  same_fields fs gs e = cc

  few_named : (at : ℕ) (name : Name) → IsFine names (record { wanted = the_attributes; at = at; written = named name }) → FewAttributes (names name.text)
  few_named at name fine fs e = (
    not_more 8 (field_count fs) (λ h. fine (fault_reaching causes.TooWide at 9) (inr (inr (inr (inr (inr (record { wanted = refl; offends = rw e (inl (h, refl)) }))))))),
    all_unless fs (λ o. fine (fault_at causes.WrongKind at) (inr (inr (inr (inr (inr (record { wanted = refl; offends = rw e (inr (o, refl)) }))))))),
  )

  few_attributes : (at : ℕ) (t : Tree) → IsFine names (record { wanted = the_attributes; at = at; written = t }) → AreFine names (inside_attributes t) → FewAttributes (meaning names t)
  few_attributes at (recorded ms) fine all = λ fs e.
      let same : fields_meaning names ms ≡ fs = same_fields (fields_meaning names ms) fs e in
      subst (λ (gs : Fields). (field_count gs ≤ 8) × AllAttributes gs) same (let c = members_count names ms in let l = few_members at ms fine in omega (arith, c, l), members_attributes ms all)
  few_attributes at (named name) fine all = few_named at name fine
  few_attributes at nothing fine all = λ fs e. subst (λ (gs : Fields). (field_count gs ≤ 8) × AllAttributes gs) (same_fields no_field fs e) (omega arith, tt)
  few_attributes at other fine all = λ fs e. absurd cc

module _ (statements : List Statement) (names : Naming) (right : AreRight statements names) where
  -- what holds of no type, and of each that stands in the text with nothing wrong, holds of the first of a part
  first_right : (kind : TypeTerm → DimPartKind) (which : DimPartKind → List TypeTerm) → ((k : DimPartKind) (type : TypeTerm) → In (which k) type → k ≡ kind type) → ((type : TypeTerm) → In (type_in (kind type)) type)
      → (R : Shape → Type 0) → R (fields no_field)
      → ((type : TypeTerm) → AreFine names (part_sites (kind type)) → AllOnce names (lists (tree type.kind)) → HaveTypes names (uses (tree type.kind)) → R (meaning names (tree type.kind)))
      → (dim : Dimension) → In (dimensions statements) dim → R (first_meaning names (in_parts which dim.1))
  first_right kind which told own R none right_one dim defined = elim (first_or_none kind names dim.1 (in_parts which dim.1) (in_part which kind told dim.1)) [
    | inl is ↦ subst R (sym is) none
    | inr w ↦
        let s : Stands statements names right (kind w.type) = record { dim = dim; part = w.part; defined = defined; among = w.among; is = w.is } in
        let stands = type_stands statements names right (kind w.type) s w.type (own w.type) in
        subst R (sym w.first) (right_one w.type (site_fine statements names right (kind w.type) s) (lists_once statements names right w.type stands) (uses_right statements names right w.type stands))
  ]

  labels_right : (dim : Dimension) → In (dimensions statements) dim → RightLabels (constants (as_domain (first_meaning names (in_parts label_type dim.1))))
  labels_right = first_right p.LabelType label_type label_part (λ type. inl refl) (λ s. RightLabels (constants (as_domain s))) (record { differ = tt; few = omega arith }) (λ type fine once used.
      let here = fine _ (inl refl) in
      let t = tree type.kind in
      let is_right = as_type (meaning names t) (right_type names the_labels type.span.start t here (λ site i. fine site (inr i)) once used) in
      record {
        differ = domain_differs (as_domain (meaning names t)) (domain_of (as_domain (meaning names t)) (kind_of names the_labels type.span.start t here) is_right);
        few = not_more 32 (length (constants (as_domain (meaning names t)))) (λ h. here _ (inr (inr (inl (record { wanted = refl; many = h; fault = refl })))));
      })

  features_right : (dim : Dimension) → In (dimensions statements) dim → RightFeatures (fields_in (first_meaning names (in_parts entry_type dim.1)))
  features_right = first_right p.EntryType entry_type entry_part (λ type. inl refl) (λ s. RightFeatures (fields_in s)) (record { differ = tt; right = tt }) (λ type fine once used.
      let here = fine _ (inl refl) in
      let t = tree type.kind in
      features_of (meaning names t) (kind_of names the_features type.span.start t here) (right_type names the_features type.span.start t here (λ site i. fine site (inr i)) once used))

  attributes_right : (dim : Dimension) → In (dimensions statements) dim → RightAttributes (domains_in (fields_in (first_meaning names (in_parts attrs_type dim.1))))
  attributes_right = first_right p.AttrsType attrs_type attrs_part (λ type. inl refl) (λ s. RightAttributes (domains_in (fields_in s))) (record { differ = tt; few = omega arith; right = tt }) (λ type fine once used.
      let here = fine _ (inl refl) in
      let t = tree type.kind in
      let within : AreFine names (inside_attributes t) = λ site i. fine site (inr i) in
      attributes_of (meaning names t) (kind_of names the_attributes type.span.start t here) (right_attributes names the_attributes type.span.start t here within once used) (few_attributes names type.span.start t here within))

  keeps_dim : (dim : Dimension) (made : DimType) → In (dimensions statements) dim → IsDim names dim made → KeepsDim made
  keeps_dim dim made defined is =
      let l = subst RightLabels (sym is.labels) (labels_right dim defined) in
      let a = subst RightAttributes (sym is.attrs) (attributes_right dim defined) in
      let f = subst RightFeatures (sym is.fields) (features_right dim defined) in
      let len : length (typed made.attrs) ≡ length made.attrs = length-map made.attrs (λ one. (one.0, shape one.1)) in
      record {
        labels = l.differ;
        few_labels = l.few;
        attrs = subst Differ (firsts_typed made.attrs) a.differ;
        few_attrs = omega (arith, len, a.few);
        attributes = a.right;
        fields = subst Differ (firsts_typed made.fields) f.differ;
        features = f.right;
      }

  keep_dims : (ds : List Dimension) (made : List DimType) → ((d : Dimension) → In ds d → In (dimensions statements) d) → AreDims names ds made → KeepDims made
  keep_dims [] [] h are = tt
  keep_dims (d ∷ ds) (one ∷ made) h are = (keeps_dim d one (h d (inl refl)) are.0, keep_dims ds made (λ e i. h e (inr i)) are.1)
  keep_dims _ _ h are = absurd are

-- ---- names and places

-- the name of a dimension whose place is there is among the names
named_there : (dims : List DimType) (names : List Name) (ks : List ℕ) (k : ℕ) (dim : DimType) → AreUsed dims names ks → In ks k → get_or dims k dim ≡ dim → In (texts names) dim.name
named_there dims [] [] k dim are h at = absurd h
named_there dims (name ∷ names) (j ∷ ks) k dim are h at = elim h [
  | inl e ↦ (
      let here : slice_get dims k ≡ Some are.0.0 = subst (λ i. slice_get dims i ≡ Some are.0.0) e are.0.1.0 in
      let same : are.0.0 ≡ dim = sym (get_or_from_slice_get dims k are.0.0 dim here) ∙ at in
      inl (sym are.0.1.1 ∙ ap (λ (d : DimType). d.name) same)
      )
  | inr l ↦ inr (named_there dims names ks k dim are.1 l at)
]
named_there dims _ _ k dim are h at = absurd are

are_places : (dims : List DimType) (names : List Name) (ks : List ℕ) → AreUsed dims names ks → Differ (texts names) → ArePlaces (length dims) ks
are_places dims [] [] are differ = tt
are_places dims (name ∷ names) (k ∷ ks) are differ = (
  (
    slice_get_within dims k are.0.0 are.0.1.0,
    λ h. differ.0 (subst (In (texts names)) are.0.1.1 (named_there dims names ks k are.0.0 are.1 h (get_or_from_slice_get dims k are.0.0 are.0.0 are.0.1.0))),
  ),
  are_places dims names ks are.1 differ.1,
)
are_places dims _ _ are differ = absurd are

as_many : (dims : List DimType) (names : List Name) (ks : List ℕ) → AreUsed dims names ks → length ks ≡ length names
as_many dims [] [] are = refl
as_many dims (name ∷ names) (k ∷ ks) are = let e = as_many dims names ks are.1 in omega (arith, e)
as_many dims _ _ are = absurd are

places_count : (ss : List Statement) → length (used_places ss) ≡ length (used_names ss)
places_count [] = refl
places_count (s ∷ ss) =
    length-append (map (λ (name : Name). s.span.start) (used_name s.kind)) (used_places ss) ∙ ap₂ (λ a b. a + b) (length-map (used_name s.kind) (λ name. s.span.start)) (places_count ss) ∙ sym (length-append (used_name s.kind) (used_names ss))

-- ---- the places that are found

pub named_at : (dims : List DimType) (k : ℕ) (dim : DimType) → slice_get dims k ≡ Some dim → get_or (names_in dims) k [] ≡ dim.name
named_at dims k dim at = get_or-map (λ (d : DimType). d.name) dims k dim [] (slice_get_within dims k dim at) ∙ ap (λ (d : DimType). d.name) (get_or_from_slice_get dims k dim dim at)

pub found_are_used : (dims : List DimType) (names : List Name) → ((name : Name) → In names name → In (names_in dims) name.text) → AreUsed dims names (places (names_in dims) names)
found_are_used dims [] h = tt
found_are_used dims (name ∷ names) h =
    let f = place_of-has_text (names_in dims) name.text (among_has (names_in dims) name.text (h name (inl refl))) in
    let s = place_of-Some (names_in dims) name.text f.0 f.1 in
    let len : length (names_in dims) ≡ length dims = length-map dims (λ d. d.name) in
    let less : f.0 < length dims = omega (arith, s.0, len) in
    let w = some_at dims f.0 less in
    subst (λ o. AreUsed dims (name ∷ names) (found o ++ places (names_in dims) names)) (sym f.1) (((w.0, (w.1, sym (named_at dims f.0 w.0 w.1) ∙ s.1)), found_are_used dims names (λ n i. h n (inr i))))

-- ---- the table

module _ (statements : List Statement) (names : Naming) (right : AreRight statements names) where
  pub names_differ : (dims : List DimType) → AreDims names (dimensions statements) dims → Differ (names_in dims)
  names_differ dims are = subst Differ (sym (names_made names (dimensions statements) dims are)) (differ_once statements names right (dim_names statements) (inl refl))

  used_is_defined : (name : Name) → In (used_names statements) name → In (texts (dim_names statements)) name.text
  used_is_defined = each_known (texts (dim_names statements)) (used_names statements) (λ f h. right.once f (inl h))

  few_used : length (used_names statements) ≤ 8
  few_used = not_more 8 (length (used_names statements)) (λ h.
      let c = places_count statements in
      let w = part_at (used_places statements) 8 (omega (arith, h, c)) in
      right.kinds (fault_reaching causes.TooWide w.one 9) (inl (record { before = w.before; ninth = w.one; after = w.after; parts = w.parts; eight = w.len; fault = refl })))

  pub used_are : (dims : List DimType) → AreDims names (dimensions statements) dims → AreUsed dims (used_names statements) (places (names_in dims) (used_names statements))
  used_are dims are = found_are_used dims (used_names statements) (λ name i. subst (λ ts. In ts name.text) (sym (names_made names (dimensions statements) dims are)) (used_is_defined name i))

  pub is_table : (dims : List DimType) (used : List ℕ) → AreDims names (dimensions statements) dims → AreUsed dims (used_names statements) used → IsTable (record { dims = dims; used = used })
  is_table dims used are places_are =
      let len = as_many dims (used_names statements) used places_are in
      record {
        names = names_differ dims are;
        dims = keep_dims statements names right (dimensions statements) dims (λ d i. i) are;
        used = are_places dims (used_names statements) used places_are (differ_once statements names right (used_names statements) (inr (inl refl)));
        few_used = let f = few_used in omega (arith, len, f);
      }
