-- The types that are known to be wanted of parameters.
use Rattle.std.specs.Prelude.{◌≡◌, ℕ, ◌⊎◌, ◌↔◌, List, [], length, map, slice_get, slice_index_or, Option, None, Some}
use Rattle.std.specs.Borrow.{Bor}
use Rattle.xdg_names.specs.Texts.{place_of}
use Rattle.xdg_domain.specs.declared.types.Ty.{Ty}
use Rattle.xdg_domain.specs.Shapes.{Shape, shape}
use Rattle.xdg_terms.specs.Wanted.{Want}
use Rattle.xdg_classes.specs.declared.wanted.WantedTypes.{WantedTypes}
use Rattle.xdg_facts.specs.Membership.{In}

abbrev pub shapes : List (Bor Ty) → List Shape
shapes types = map (λ (ty : Bor Ty). shape ty.now) types

-- the types of a list that is lent, or none
abbrev pub shapes_of : Option (Bor (List (Bor Ty))) → List Shape
shapes_of None = []
shapes_of (Some types) = shapes types.now

abbrev pub shapes_at : List (List (Bor Ty)) → Option ℕ → List Shape
shapes_at all None = []
shapes_at all (Some at) = shapes (slice_index_or all at [])

-- the types of the parameter with that name
abbrev pub given : WantedTypes → List ℕ → List Shape
given w param = shapes_at w.types.items (place_of w.params param)

-- The types of all parameters after these were added. How often a type stands there, and in which order, is left open.
abbrev pub Adds : (List ℕ → List Shape) → (List ℕ → List Shape) → List Want → Type 0
Adds old new more = (param : List ℕ) (s : Shape) → In (new param) s ↔ (In (old param) s ⊎ In more (param, s))

-- each parameter has a list of types
abbrev pub IsEven : WantedTypes → Type 0
IsEven w = length w.types.items ≡ length w.params

abbrev pub Grows : WantedTypes → WantedTypes → List Want → Type 0
Grows old new more = IsEven old → IsEven new × Adds (given old) (given new) more

-- ---- the types of all classes

-- what is known of the class with that name, where these are the names and what is known at their places
abbrev pub at_place : List WantedTypes → Option ℕ → Option WantedTypes
at_place all None = None
at_place all (Some at) = slice_get all at

abbrev pub of_class : List (List ℕ) → List WantedTypes → List ℕ → Option WantedTypes
of_class names all class = at_place all (place_of names class)

abbrev pub given_in : Option WantedTypes → List ℕ → List Shape
given_in None param = []
given_in (Some w) param = given w param

-- the types of a parameter of a class
abbrev pub told : List (List ℕ) → List WantedTypes → List ℕ → List ℕ → List Shape
told names all class param = given_in (of_class names all class) param
