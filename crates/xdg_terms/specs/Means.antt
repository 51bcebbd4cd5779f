-- Which value a term means where a type is wanted.
use Rattle.std.specs.Prelude.{◌≡◌, ◌⊎◌, ◌↔◌, ℕ, zero, suc, ◌<◌, ◌==◌, nat_lt, nat_le, Bool, true, false, ◌&&◌, ◌||◌, List, [], ◌∷◌, length, get_or, Option, Some, None, if◌then◌else◌, bytes_eq, codes}
use Rattle.std.specs.List.{list_any, list_all}
use Rattle.std.specs.List.Sorted.{IsStrictlyIncreasing}
use Rattle.xdg_ast.specs.declared.names.Name.{Name}
use Rattle.xdg_ast.specs.declared.names.Spanned.{Spanned}
use Rattle.xdg_ast.specs.declared.terms.CardKind.{CardKind}
use Rattle.xdg_ast.specs.declared.terms.CardKind.TheVariants as c
use Rattle.xdg_ast.specs.declared.terms.GenKind.{GenKind}
use Rattle.xdg_ast.specs.declared.terms.GenKind.TheOpen.{GenKind-F}
use Rattle.xdg_ast.specs.declared.terms.GenKind.TheFolds.{fold-GenKind}
use Rattle.xdg_domain.specs.Cards.{IsCards}
use Rattle.xdg_domain.specs.Valencies.{said_at, KeysRise}
use Rattle.xdg_domain.specs.Shapes as d
use Rattle.xdg_domain.specs.Shapes.{Shape, domain, tuple, truth, integer, text, set, iset, card, valency, mapping, fields, Shapes, Fields, no_field, field_then, sizes, product, count}
use Rattle.xdg_domain.specs.Tuples.{places}
use Rattle.xdg_domain.specs.declared.values.Value.{Value, out-Value}
use Rattle.xdg_domain.specs.declared.values.Value.TheOpen.{Value-F}
use Rattle.xdg_terms.specs.Forms.{Term, Card, Bindings, bound, constant_of, number_of, card_of, generator_of, bracket_of, constants_of, brackets_of, counts_of, pairs_of}
use Rattle.xdg_terms.specs.Offences.{all_told}
use Rattle.xdg_facts.specs.Membership.{In}
use Rattle.xdg_facts.specs.Rises.{has}
use Rattle.xdg_ast.specs.Texts.{texts}
use Rattle.xdg_base.specs.Texts.{has_text}

-- the constant with that number
abbrev pub IsAt : List (List ℕ) → ℕ → List ℕ → Type 0
IsAt cs n name = (n < length cs) × (get_or cs n [] ≡ name)

-- ---- tuples

-- the constants with these numbers, each of its domain
abbrev pub chosen : List (List (List ℕ)) → List ℕ → List (List ℕ)
chosen (cs ∷ more) (n ∷ ns) = get_or cs n [] ∷ chosen more ns
chosen _ _ = []

-- the constants of the tuple with that number
abbrev pub tuple_texts : Shapes → ℕ → List (List ℕ)
tuple_texts ss n = chosen (d.constants_of ss) (places (sizes ss) n)

abbrev pub fulfils_step : List (List ℕ) → GenKind-F Bool → Bool
fulfils_step constants (GenKind-F.Const name) = has_text constants name.text
fulfils_step constants (GenKind-F.And members) = list_all (λ member. member.kind) members
fulfils_step constants (GenKind-F.Or members) = list_any (λ member. member.kind) members

-- a tuple of these constants has each that the generator names, `&` being both and `|` either
abbrev pub fulfils : List (List ℕ) → GenKind → Bool
fulfils constants = fold-GenKind Bool (fulfils_step constants)

-- ---- sets

-- the term names the constant or the tuple with that number
abbrev pub Mentions : Shape → Term → ℕ → Type 0
Mentions (tuple ss) t n =
    ((names : List Name) × (In (all_told (brackets_of (length (sizes ss)) t)) names × (tuple_texts ss n ≡ texts names)))
    ⊎ ((gen : Spanned GenKind) × ((generator_of t ≡ Some gen) × (fulfils (tuple_texts ss n) gen.kind ≡ true)))
Mentions s t n = In (texts (all_told (constants_of t))) (get_or (d.constants s) n [])

abbrev pub IsSetOf : Shape → Term → List ℕ → Type 0
IsSetOf s t ns = IsStrictlyIncreasing ns × ((n : ℕ) → (has ns n ≡ true) ↔ ((n < count s) × Mentions s t n))

-- ---- cardinalities

abbrev pub allows : CardKind → ℕ → Bool
allows c.One n = n == 1
allows c.Maybe n = n == 0 || n == 1
allows c.Any n = true
allows c.Some1 n = nat_lt 0 n
allows (c.Numbers nums) n = list_any (λ num. num.value == n) nums
allows (c.Interval low high) n = nat_le low.value n && nat_le n high.value

-- the numbers up to 127 that the cardinality allows
abbrev pub AllowedBy : Card → List ℕ → Type 0
AllowedBy written ns = IsCards ns × ((n : ℕ) → has ns n ≡ (nat_lt n 128 && allows written.kind n))

-- ---- keys and fields

-- what stands there under a name
abbrev pub written_for : {A : Type 0} → List (Name × A) → List ℕ → Option A
written_for [] name = None
written_for (pair ∷ pairs) name = if bytes_eq pair.0.text name then Some pair.1 else written_for pairs name

-- what stands there under the constant with that number
abbrev pub written_at : {A : Type 0} → List (Name × A) → List (List ℕ) → ℕ → Option A
written_at pairs [] key = None
written_at pairs (c ∷ cs) zero = written_for pairs c
written_at pairs (c ∷ cs) (suc key) = written_at pairs cs key

-- something is said exactly where something is written, and it is what that means
abbrev pub Said : {A V : Type 0} → (A → V → Type 0) → Option A → Option V → Type 0
Said P None None = Unit {0}
Said P (Some written) (Some v) = P written v
Said P _ _ = ⊥

-- ---- values

abbrev pub truth_text : Bool → List ℕ
truth_text true = codes "true"
truth_text false = codes "false"

abbrev mutual
  pub MeansIn : Bindings → Shape → Term → Value-F Value → Type 0
  MeansIn bs (domain cs) t (Value-F.Const n) = (name : Name) × ((constant_of t ≡ Some name) × IsAt cs n name.text)
  MeansIn bs (tuple ss) t (Value-F.Tuple n) =
      (n < product (sizes ss)) × ((names : List Name) × ((bracket_of (length (sizes ss)) t ≡ Some names) × (tuple_texts ss n ≡ texts names)))
  MeansIn bs truth t (Value-F.Bool b) = (name : Name) × ((constant_of t ≡ Some name) × (name.text ≡ truth_text b))
  MeansIn bs integer t (Value-F.Int n) = number_of t ≡ Some n
  MeansIn bs text t (Value-F.Str x) = (name : Name) × ((constant_of t ≡ Some name) × (name.text ≡ x))
  MeansIn bs (set s) t (Value-F.Set ns) = IsSetOf s t ns
  MeansIn bs (iset s) t (Value-F.Set ns) = IsSetOf s t ns
  MeansIn bs card t (Value-F.Card ns) = (written : Card) × ((card_of t ≡ Some written) × AllowedBy written ns)
  MeansIn bs (valency k) t (Value-F.Valency m) =
      KeysRise 0 m × ((key : ℕ) → Said AllowedBy (written_at (all_told (counts_of t)) (d.constants k) key) (said_at m key))
  MeansIn bs (mapping k u) t (Value-F.Map m) =
      KeysRise 0 m
      × ((key : ℕ) → Said (λ r v. MeansIn bs u (bound bs r) (out-Value v)) (written_at (all_told (pairs_of t)) (d.constants k) key) (said_at m key))
  MeansIn bs (fields fs) t (Value-F.Rec m) = KeysRise 0 m × ((key : ℕ) → MeansField bs fs (all_told (pairs_of t)) key (said_at m key))
  MeansIn bs _ t _ = ⊥

  -- what these elements say of the field with that place
  pub MeansField : Bindings → Fields → List (Name × Term) → ℕ → Option Value → Type 0
  MeansField bs no_field pairs key said = said ≡ None
  MeansField bs (field_then name u fs) pairs zero said = Said (λ r v. MeansIn bs u (bound bs r) (out-Value v)) (written_for pairs name) said
  MeansField bs (field_then name u fs) pairs (suc key) said = MeansField bs fs pairs key said

-- the term, with its parameters bound, means the value where the type is wanted; of a term with an offence it says nothing
abbrev pub Means : Bindings → Shape → Term → Value → Type 0
Means bs s t v = MeansIn bs s (bound bs t) (out-Value v)
