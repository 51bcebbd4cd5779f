-- When a type is the one that an argument wants.
use Rattle.std.specs.Prelude.{◌≡◌, ℕ, Bool, true, false, ◌&&◌, List, [], ◌∷◌, Option, None, Some, bytes_eq}
use Rattle.xdg_domain.specs.Shapes.{Shape, domain, tuple, set, iset, valency, mapping, constants_of}
use Rattle.xdg_types.specs.Kinds.{is_small}
use Rattle.xdg_problem.specs.declared.forms.Element.{Element}
use Rattle.xdg_problem.specs.declared.forms.Element.TheVariants as e
use Rattle.xdg_problem.specs.declared.forms.Typing.{Typing}
use Rattle.xdg_problem.specs.declared.forms.Typing.TheVariants as t
use Rattle.xdg_principles.specs.Settings.{Setting, labels, shared}

-- Two domains are the same where they list the same constants in the same order, and two tuple types where their domains are.
abbrev pub IsSame : Shape → Shape → Type 0
IsSame (domain cs) (domain ds) = cs ≡ ds
IsSame (tuple ss) (tuple us) = constants_of ss ≡ constants_of us
IsSame _ _ = ⊥

-- the type that arguments share, and where that is unknown any domain or tuple type
abbrev pub IsShared : Option Shape → Shape → Type 0
IsShared (Some fixed) s = IsSame fixed s
IsShared None s = is_small s ≡ true

abbrev pub IsElement : Setting → Element → Shape → Type 0
IsElement setting (e.Labels which) s = s ≡ domain (labels setting which)
IsElement setting e.Shared s = IsShared (shared setting) s

-- a `set`, where also an `iset` serves
abbrev pub IsSetOf : (Shape → Type 0) → Shape → Type 0
IsSetOf P (set s) = P s
IsSetOf P (iset s) = P s
IsSetOf P _ = ⊥

abbrev pub IsMapTo : (Shape → Type 0) → List (List ℕ) → Shape → Type 0
IsMapTo P keys (mapping k u) = (k ≡ domain keys) × IsSetOf P u
IsMapTo P keys _ = ⊥

-- the type is the wanted one
abbrev pub IsWanted : Setting → Typing → Shape → Type 0
IsWanted setting (t.One element) s = IsElement setting element s
IsWanted setting (t.Set element) s = IsSetOf (IsElement setting element) s
IsWanted setting (t.Valency which) s = s ≡ valency (domain (labels setting which))
IsWanted setting (t.Map which element) s = IsMapTo (IsElement setting element) (labels setting which) s

-- ---- the same as tests

abbrev pub same_texts : List (List ℕ) → List (List ℕ) → Bool
same_texts [] [] = true
same_texts (x ∷ xs) (y ∷ ys) = bytes_eq x y && same_texts xs ys
same_texts _ _ = false

abbrev pub same_domains : List (List (List ℕ)) → List (List (List ℕ)) → Bool
same_domains [] [] = true
same_domains (x ∷ xs) (y ∷ ys) = same_texts x y && same_domains xs ys
same_domains _ _ = false

abbrev pub same_type : Shape → Shape → Bool
same_type (domain cs) (domain ds) = same_texts cs ds
same_type (tuple ss) (tuple us) = same_domains (constants_of ss) (constants_of us)
same_type _ _ = false

abbrev pub is_shared : Option Shape → Shape → Bool
is_shared (Some fixed) s = same_type fixed s
is_shared None s = is_small s

abbrev pub is_domain_of : List (List ℕ) → Shape → Bool
is_domain_of texts (domain cs) = same_texts cs texts
is_domain_of texts _ = false

abbrev pub is_element : Setting → Element → Shape → Bool
is_element setting (e.Labels which) s = is_domain_of (labels setting which) s
is_element setting e.Shared s = is_shared (shared setting) s

abbrev pub is_set_of : (Shape → Bool) → Shape → Bool
is_set_of test (set s) = test s
is_set_of test (iset s) = test s
is_set_of test _ = false

abbrev pub is_map_to : (Shape → Bool) → List (List ℕ) → Shape → Bool
is_map_to test keys (mapping k u) = is_domain_of keys k && is_set_of test u
is_map_to test keys _ = false

abbrev pub is_valency_of : List (List ℕ) → Shape → Bool
is_valency_of keys (valency k) = is_domain_of keys k
is_valency_of keys _ = false

abbrev pub is_wanted : Setting → Typing → Shape → Bool
is_wanted setting (t.One element) s = is_element setting element s
is_wanted setting (t.Set element) s = is_set_of (is_element setting element) s
is_wanted setting (t.Valency which) s = is_valency_of (labels setting which) s
is_wanted setting (t.Map which element) s = is_map_to (is_element setting element) (labels setting which) s
