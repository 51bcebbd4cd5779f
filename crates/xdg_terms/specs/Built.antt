-- The value of a term, as the code makes it. Of a term with an offence it is some value.
use Rattle.std.specs.Prelude.{ℕ, ◌+◌, true, List, [], ◌∷◌, ◌++◌, map, Option, Some, None, if◌then◌else◌, unwrap_or, bytes_eq, codes}
use Rattle.xdg_ast.specs.declared.names.Name.{Name}
use Rattle.xdg_ast.specs.declared.names.Spanned.{Spanned}
use Rattle.xdg_ast.specs.declared.terms.CardKind.{CardKind}
use Rattle.xdg_ast.specs.declared.terms.TermKind.{TermKind, out-TermKind}
use Rattle.xdg_ast.specs.declared.terms.ElemKind.{ElemKind, out-ElemKind}
use Rattle.xdg_ast.specs.declared.terms.ElemKind.TheOpen.{TermKind-F, ElemKind-F}
use Rattle.xdg_domain.specs.Cards.{cards}
use Rattle.xdg_domain.specs.Joined.{above}
use Rattle.xdg_domain.specs.Shapes as d
use Rattle.xdg_domain.specs.Shapes.{Shape, domain, tuple, truth, integer, text, set, iset, card, valency, mapping, fields, Shapes, Fields, no_field, field_then, sizes}
use Rattle.xdg_domain.specs.Tuples.{index, places}
use Rattle.xdg_domain.specs.declared.types.Ty.{Ty}
use Rattle.xdg_domain.specs.declared.values.Value.{Value}
use Rattle.xdg_domain.specs.declared.values.Value.TheVariants as v
use Rattle.xdg_terms.specs.Forms.{Term, Card, Gen, Bindings, bound, constant_of, number_of, card_of, counted_elem, keyed_elem}
use Rattle.xdg_terms.specs.Means.{allows, chosen, fulfils}
use Rattle.xdg_facts.specs.Rises.{has, numbers_below}
use Rattle.xdg_names.specs.Texts.{place_of}

abbrev pub Elem : Type 0
Elem = Spanned ElemKind

-- ---- constants

abbrev pub number_named : List (List ℕ) → Option Name → ℕ
number_named cs None = 0
number_named cs (Some name) = unwrap_or (place_of cs name.text) 0

abbrev pub text_named : Option Name → List ℕ
text_named None = []
text_named (Some name) = name.text

-- ---- tuples

-- the constants of each of these domains
abbrev pub constants_each : List Ty → List (List (List ℕ))
constants_each types = d.constants_of (d.shapes_of (map d.shape types))

-- the places of the names, each in the domain of its place, behind those that were found before
abbrev pub places_behind : List ℕ → List (List (List ℕ)) → List Name → Option (List ℕ)
places_behind found [] [] = Some found
places_behind found (cs ∷ css) (name ∷ names) = elim (place_of cs name.text) [ None ↦ None | Some n ↦ places_behind (found ++ n ∷ []) css names ]
places_behind found _ _ = None

abbrev pub number_of_places : Shapes → Option (List ℕ) → Option ℕ
number_of_places ss None = None
number_of_places ss (Some ns) = Some (index (sizes ss) ns)

-- the number of the tuple with these constants, where there is one
abbrev pub tuple_number : Shape → List Name → Option ℕ
tuple_number (tuple ss) names = number_of_places ss (places_behind [] (d.constants_of ss) names)
tuple_number s names = None

abbrev pub names_in : TermKind-F ElemKind TermKind → List Name
names_in (TermKind-F.TermKind::Tuple names) = names
names_in _ = []

-- the constants in square brackets
unfoldable pub names_of : Term → List Name
names_of t = names_in (out-TermKind t.kind)

-- ---- elements in braces

abbrev pub elems_in : TermKind-F ElemKind TermKind → List Elem
elems_in (TermKind-F.Braces elems) = elems
elems_in _ = []

unfoldable pub elems_of : Term → List Elem
elems_of t = elems_in (out-TermKind t.kind)

abbrev pub if_named : {A : Type 0} → Option (Name × A) → List ℕ → Option A → Option A
if_named None name rest = rest
if_named (Some pair) name rest = if bytes_eq pair.0.text name then Some pair.1 else rest

-- what stands under the name first, in an element of that form
abbrev pub first_for : {A : Type 0} → (Elem → Option (Name × A)) → List Elem → List ℕ → Option A
first_for form [] name = None
first_for form (elem ∷ elems) name = if_named (form elem) name (first_for form elems name)

-- ---- sets

abbrev pub number_in_elem : Shape → ElemKind-F ElemKind TermKind → Option ℕ
number_in_elem (domain cs) (ElemKind-F.ElemKind::Const name) = place_of cs name.text
number_in_elem (tuple ss) (ElemKind-F.ElemKind::Tuple names) = tuple_number (tuple ss) names
number_in_elem s elem = None

-- the number of the constant or the tuple that the element names
unfoldable pub number_of_elem : Shape → Elem → Option ℕ
number_of_elem s elem = number_in_elem s (out-ElemKind elem.kind)

abbrev pub some_before : Option ℕ → List ℕ → List ℕ
some_before None ns = ns
some_before (Some n) ns = n ∷ ns

-- the numbers that the elements name, in their order
abbrev pub listed : Shape → List Elem → List ℕ
listed s [] = []
listed s (elem ∷ elems) = some_before (number_of_elem s elem) (listed s elems)

-- the rising list of the same numbers
unfoldable pub as_set : List ℕ → List ℕ
as_set ns = numbers_below (above ns) (has ns)

-- the constants of each field of a tuple type
abbrev pub constants_in : Shape → List (List (List ℕ))
constants_in (tuple ss) = d.constants_of ss
constants_in s = []

-- the constants of the tuple with that number
abbrev pub texts_at : Shape → ℕ → List (List ℕ)
texts_at s n = chosen (constants_in s) (places (d.sizes_in s) n)

-- the tuples that the generator tells
unfoldable pub generated : Shape → Gen → List ℕ
generated s gen = numbers_below (d.count s) (λ n. fulfils (texts_at s n) gen.kind)

abbrev pub of_generator : Shape → Gen → List ℕ
of_generator (tuple ss) gen = generated (tuple ss) gen
of_generator s gen = []

abbrev pub set_in : Shape → TermKind-F ElemKind TermKind → List ℕ
set_in s (TermKind-F.Braces elems) = as_set (listed s elems)
set_in s (TermKind-F.Gen gen) = of_generator s gen
set_in s _ = []

unfoldable pub set_of : Shape → Term → List ℕ
set_of s t = set_in s (out-TermKind t.kind)

-- ---- cardinalities

abbrev pub some_or_all : List ℕ → List ℕ
some_or_all [] = cards (λ _. true)
some_or_all (n ∷ ns) = n ∷ ns

-- the numbers up to 127 that the cardinality allows, or all where there is none
unfoldable pub card_numbers : CardKind → List ℕ
card_numbers kind = some_or_all (cards (allows kind))

abbrev pub numbers_of_card : Option Card → List ℕ
numbers_of_card None = cards (λ _. true)
numbers_of_card (Some written) = card_numbers written.kind

-- ---- keys and fields

abbrev pub put : {A V : Type 0} → (A → V) → ℕ → Option A → List (ℕ × V) → List (ℕ × V)
put make key None rest = rest
put make key (Some written) rest = (key, make written) ∷ rest

-- what is written for each of these constants, where the first has the number `key`
abbrev pub said_from : {A V : Type 0} → (A → V) → (List ℕ → Option A) → ℕ → List (List ℕ) → List (ℕ × V)
said_from make find key [] = []
said_from make find key (c ∷ cs) = put make key (find c) (said_from make find (key + 1) cs)

-- ---- values

abbrev mutual
  pub built_in : Bindings → Shape → Term → Value
  built_in bs (domain cs) t = v.Const (number_named cs (constant_of t))
  built_in bs (tuple ss) t = v.Tuple (unwrap_or (tuple_number (tuple ss) (names_of t)) 0)
  built_in bs truth t = v.Bool (bytes_eq (text_named (constant_of t)) (codes "true"))
  built_in bs integer t = v.Int (unwrap_or (number_of t) 0)
  built_in bs text t = v.Str (text_named (constant_of t))
  built_in bs (set s) t = v.Set (set_of s t)
  built_in bs (iset s) t = v.Set (set_of s t)
  built_in bs card t = v.Card (numbers_of_card (card_of t))
  built_in bs (valency k) t = v.Valency (said_from (λ written. card_numbers written.kind) (first_for counted_elem (elems_of t)) 0 (d.constants k))
  built_in bs (mapping k u) t = v.Map (said_from (λ written. built_in bs u (bound bs written)) (first_for keyed_elem (elems_of t)) 0 (d.constants k))
  built_in bs (fields fs) t = v.Rec (fields_from bs fs (elems_of t) 0)

  -- what is written for each of these fields, where the first has the place `key`
  pub fields_from : Bindings → Fields → List Elem → ℕ → List (ℕ × Value)
  fields_from bs no_field elems key = []
  fields_from bs (field_then name u fs) elems key =
      put (λ written. built_in bs u (bound bs written)) key (first_for keyed_elem elems name) (fields_from bs fs elems (key + 1))

-- the value of the term, with its parameters bound
abbrev pub built : Bindings → Shape → Term → Value
built bs s t = built_in bs s (bound bs t)
