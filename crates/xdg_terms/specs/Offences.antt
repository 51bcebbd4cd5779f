-- What is wrong with a term where a type is wanted: one case for each rule, and the same inside its parts.
use Rattle.std.specs.Prelude.{◌≡◌, ◌⊎◌, ℕ, ◌<◌, Bool, true, false, ◌||◌, List, [], ◌∷◌, ◌++◌, length, map, flat_map, Option, Some, None, codes}
use Rattle.xdg_base.specs.Faults.{fault_at}
use Rattle.xdg_base.specs.declared.faults.Cause.TheVariants as causes
use Rattle.xdg_base.specs.declared.faults.Fault.{Fault}
use Rattle.xdg_ast.specs.declared.names.Name.{Name}
use Rattle.xdg_ast.specs.declared.names.Num.{Num}
use Rattle.xdg_ast.specs.Misnamed.{IsUnknown, IsAgain}
use Rattle.xdg_ast.specs.declared.terms.CardKind.{CardKind}
use Rattle.xdg_ast.specs.declared.terms.CardKind.TheVariants as c
use Rattle.xdg_ast.specs.declared.terms.GenKind.{GenKind}
use Rattle.xdg_ast.specs.declared.terms.GenKind.TheOpen.{GenKind-F}
use Rattle.xdg_ast.specs.declared.terms.GenKind.TheFolds.{fold-GenKind}
use Rattle.xdg_domain.specs.Shapes as d
use Rattle.xdg_domain.specs.Shapes.{Shape, domain, tuple, truth, integer, text, set, iset, card, valency, mapping, fields, Fields, no_field, field_then, sizes, in_a_row, names_of}
use Rattle.xdg_terms.specs.Forms.{Term, Card, Bindings, Look, with_bound, with_open, constant_of, number_of, card_of, generator_of, bracket_of, constants_of, brackets_of, counts_of, pairs_of}
use Rattle.xdg_facts.specs.Membership.{In}
use Rattle.xdg_facts.specs.Onward.{optional}

-- ---- forms

abbrev pub is_some : {A : Type 0} → Option A → Bool
is_some None = false
is_some (Some x) = true

abbrev pub has_set_form : Shape → Term → Bool
has_set_form (tuple ss) t = is_some (brackets_of (length (sizes ss)) t) || is_some (generator_of t)
has_set_form _ t = is_some (constants_of t)

-- the term has the form that the type wants
abbrev pub has_form : Shape → Term → Bool
has_form (domain cs) t = is_some (constant_of t)
has_form (tuple ss) t = is_some (bracket_of (length (sizes ss)) t)
has_form truth t = is_some (constant_of t)
has_form integer t = is_some (number_of t)
has_form text t = is_some (constant_of t)
has_form (set s) t = has_set_form s t
has_form (iset s) t = has_set_form s t
has_form card t = is_some (card_of t)
has_form (valency k) t = is_some (counts_of t)
has_form (mapping k u) t = is_some (pairs_of t)
has_form (fields fs) t = is_some (pairs_of t)

-- ---- what a term of the right form names

abbrev pub all_told : {A : Type 0} → Option (List A) → List A
all_told None = []
all_told (Some xs) = xs

-- a constant, and the texts among which it has to stand
abbrev pub Asked : Type 0
Asked = List (List ℕ) × Name

abbrev pub asked_in : List (List ℕ) → List Name → List Asked
asked_in texts names = map (λ name. (texts, name)) names

-- each name in the domain of its place
abbrev pub asked_in_turn : List (List (List ℕ)) → List Name → List Asked
asked_in_turn (texts ∷ more) (name ∷ names) = (texts, name) ∷ asked_in_turn more names
asked_in_turn _ _ = []

-- the constants of a generator
abbrev pub gen_step : GenKind-F (List Name) → List Name
gen_step (GenKind-F.Const name) = name ∷ []
gen_step (GenKind-F.And members) = flat_map (λ member. member.kind) members
gen_step (GenKind-F.Or members) = flat_map (λ member. member.kind) members

abbrev pub gen_names : GenKind → List Name
gen_names = fold-GenKind (List Name) gen_step

abbrev pub asked_in_set : Shape → Term → List Asked
asked_in_set (tuple ss) t =
    flat_map (asked_in_turn (d.constants_of ss)) (all_told (brackets_of (length (sizes ss)) t))
    ++ flat_map (λ gen. asked_in (in_a_row (d.constants_of ss)) (gen_names gen.kind)) (optional (generator_of t))
asked_in_set s t = asked_in (d.constants s) (all_told (constants_of t))

abbrev pub keys_of : {A : Type 0} → Option (List (Name × A)) → List Name
keys_of pairs = map (λ pair. pair.0) (all_told pairs)

-- the constants, each with those among which it has to stand
abbrev pub asked : Shape → Term → List Asked
asked (domain cs) t = asked_in cs (optional (constant_of t))
asked (tuple ss) t = asked_in_turn (d.constants_of ss) (all_told (bracket_of (length (sizes ss)) t))
asked truth t = asked_in (codes "true" ∷ codes "false" ∷ []) (optional (constant_of t))
asked (set s) t = asked_in_set s t
asked (iset s) t = asked_in_set s t
asked (valency k) t = asked_in (d.constants k) (keys_of (counts_of t))
asked (mapping k u) t = asked_in (d.constants k) (keys_of (pairs_of t))
asked _ t = []

-- the keys, each of which may stand once
abbrev pub keys : Shape → Term → List Name
keys (valency k) t = keys_of (counts_of t)
keys (mapping k u) t = keys_of (pairs_of t)
keys (fields fs) t = keys_of (pairs_of t)
keys _ t = []

-- the names of fields
abbrev pub field_keys : Shape → Term → List Name
field_keys (fields fs) t = keys_of (pairs_of t)
field_keys _ t = []

abbrev pub known_fields : Shape → List (List ℕ)
known_fields (fields fs) = names_of fs
known_fields _ = []

-- the cardinalities
abbrev pub cards : Shape → Term → List Card
cards card t = optional (card_of t)
cards (valency k) t = map (λ pair. pair.1) (all_told (counts_of t))
cards _ t = []

-- ---- the rules, one by one

-- the term isn't of the form that the type wants
pub record IsWrongKind (s : Shape) (t : Term) (f : Fault) : Type 0 where
  pub form : has_form s t ≡ false
  pub fault : f ≡ fault_at causes.WrongKind t.span.start

-- a constant isn't in its domain, in the tuple type, or `true` or `false`
pub record IsNotMember (s : Shape) (t : Term) (f : Fault) : Type 0 where
  pub texts : List (List ℕ)
  pub name : Name
  pub stands : In (asked s t) (texts, name)
  pub missing : In texts name.text → ⊥
  pub fault : f ≡ fault_at causes.NotMember name.span.start

-- a number is above 127; the second number of an interval is below the first; no number is given
abbrev pub CardOffends : Card → CardKind → Fault → Type 0
CardOffends written (c.Numbers []) f = f ≡ fault_at causes.CardRange written.span.start
CardOffends written (c.Numbers (num ∷ nums)) f = (big : Num) × (In (num ∷ nums) big × ((127 < big.value) × (f ≡ fault_at causes.CardRange big.span.start)))
CardOffends written (c.Interval low high) f =
    ((127 < low.value) × (f ≡ fault_at causes.CardRange low.span.start))
    ⊎ (((127 < high.value) ⊎ (high.value < low.value)) × (f ≡ fault_at causes.CardRange high.span.start))
CardOffends written _ f = ⊥

pub record IsOutOfRange (s : Shape) (t : Term) (f : Fault) : Type 0 where
  pub card : Card
  pub stands : In (cards s t) card
  pub offends : CardOffends card card.kind f

-- what is wrong with the term itself: that, or a key stands there that an earlier one has too, or no field has the name
abbrev pub OffendsHere : Shape → Term → Fault → Type 0
OffendsHere s t f =
    IsWrongKind s t f
    ⊎ (IsNotMember s t f ⊎ (IsAgain (keys s t) f ⊎ (IsUnknown causes.UnknownName (known_fields s) (field_keys s t) f ⊎ IsOutOfRange s t f)))

-- ---- all offences

-- what is said of the term that is looked at, if one is
abbrev pub OfSeen : Option Term → (Term → Type 0) → Type 0
OfSeen None P = ⊥
OfSeen (Some t) P = P t

-- What is wrong with a term that is looked at, or with a term in it: the values of a map and of the fields that the
-- record type has, as far as they are looked at.
abbrev mutual
  pub OffendsIn : Look → Shape → Term → Fault → Type 0
  OffendsIn look (mapping k u) t f =
      OffendsHere (mapping k u) t f ⊎ ((pair : Name × Term) × (In (all_told (pairs_of t)) pair × OfSeen (look pair.1) (λ seen. OffendsIn look u seen f)))
  OffendsIn look (fields fs) t f = OffendsHere (fields fs) t f ⊎ ((pair : Name × Term) × (In (all_told (pairs_of t)) pair × OffendsUnder look fs pair f))
  OffendsIn look s t f = OffendsHere s t f

  -- the value of a field, where the type has it
  pub OffendsUnder : Look → Fields → Name × Term → Fault → Type 0
  OffendsUnder look no_field pair f = ⊥
  OffendsUnder look (field_then name u fs) pair f =
      ((name ≡ pair.0.text) × OfSeen (look pair.1) (λ seen. OffendsIn look u seen f)) ⊎ ((name ≡ pair.0.text → ⊥) × OffendsUnder look fs pair f)

-- what is wrong where a term stands
abbrev pub OffendsBy : Look → Shape → Term → Fault → Type 0
OffendsBy look s t f = OfSeen (look t) (λ seen. OffendsIn look s seen f)

-- what is wrong with a term, with its parameters bound
abbrev pub Offends : Bindings → Shape → Term → Fault → Type 0
Offends bs s t f = OffendsBy (with_bound bs) s t f

abbrev pub OffendsField : Bindings → Fields → Name × Term → Fault → Type 0
OffendsField bs fs pair f = OffendsUnder (with_bound bs) fs pair f

-- What is wrong with a term in which these parameters are open: nothing is wrong where one of them stands for a term,
-- and any other parameter is of the wrong kind.
abbrev pub OpenOffends : List (List ℕ) → Shape → Term → Fault → Type 0
OpenOffends free s t f = OffendsBy (with_open free) s t f
