-- The offences of a term as a list, in the order in which the code comes to them.
use Rattle.std.specs.Prelude.{ℕ, ◌||◌, nat_lt, List, [], ◌∷◌, ◌++◌, length, map, Option, Some, None, if◌then◌else◌, bytes_eq, codes}
use Rattle.std.specs.List.{flat_map}
use Rattle.xdg_base.specs.Faults.{fault_at}
use Rattle.xdg_base.specs.declared.faults.Cause.{Cause}
use Rattle.xdg_base.specs.declared.faults.Cause.TheVariants as causes
use Rattle.xdg_base.specs.declared.faults.Fault.{Fault}
use Rattle.xdg_ast.specs.declared.names.Name.{Name}
use Rattle.xdg_ast.specs.declared.names.Num.{Num}
use Rattle.xdg_ast.specs.declared.names.Spanned.{Spanned}
use Rattle.xdg_ast.specs.declared.terms.CardKind.{CardKind}
use Rattle.xdg_ast.specs.declared.terms.CardKind.TheVariants as c
use Rattle.xdg_ast.specs.declared.terms.GenKind.{GenKind}
use Rattle.xdg_ast.specs.declared.terms.ElemKind.{ElemKind, out-ElemKind}
use Rattle.xdg_ast.specs.declared.terms.TermKind.{TermKind}
use Rattle.xdg_ast.specs.declared.terms.ElemKind.TheOpen.{ElemKind-F}
use Rattle.xdg_domain.specs.declared.types.Ty.{Ty}
use Rattle.xdg_domain.specs.Shapes as d
use Rattle.xdg_domain.specs.Shapes.{Shape, domain, tuple, truth, integer, text, set, iset, card, valency, mapping, fields, Shapes, Fields, no_field, field_then, sizes, in_a_row, names_of, fields_of, shape}
use Rattle.xdg_terms.specs.Forms.{Term, Card, Look, constant_of, number_of, card_of, generator_of, bracket_of, constants_of, brackets_of, counts_of, pairs_of}
use Rattle.xdg_terms.specs.Offences.{gen_names}
use Rattle.xdg_names.specs.Texts.{has_text}

-- ---- single rules

-- a name that has to stand among these texts
unfoldable pub missing : Cause → List (List ℕ) → Name → List Fault
missing cause texts name = if has_text texts name.text then [] else fault_at cause name.span.start ∷ []

abbrev pub all_missing : Cause → List (List ℕ) → List Name → List Fault
all_missing cause texts = flat_map (missing cause texts)

-- each name has to stand among the texts of its place
abbrev pub missing_in_turn : List (List (List ℕ)) → List Name → List Fault
missing_in_turn all [] = []
missing_in_turn [] (name ∷ names) = []
missing_in_turn (texts ∷ more) (name ∷ names) = missing causes.NotMember texts name ++ missing_in_turn more names

abbrev pub texts_of : List Name → List (List ℕ)
texts_of = map (λ name. name.text)

-- a name that stands before too
unfoldable pub twice : List Name → Name → List Fault
twice before name = if has_text (texts_of before) name.text then fault_at causes.Twice name.span.start ∷ [] else []

-- the names that stand before too, of those after the first ones
abbrev pub all_twice : List Name → List Name → List Fault
all_twice before [] = []
all_twice before (name ∷ names) = twice before name ++ all_twice (before ++ name ∷ []) names

-- a number above 127
unfoldable pub too_big : Num → List Fault
too_big num = if nat_lt 127 num.value then fault_at causes.CardRange num.span.start ∷ [] else []

-- a number above 127 or below the first one
unfoldable pub wrong_end : Num → Num → List Fault
wrong_end low high = if nat_lt 127 high.value || nat_lt high.value low.value then fault_at causes.CardRange high.span.start ∷ [] else []

abbrev pub numbers_faults : Card → List Num → List Fault
numbers_faults written [] = fault_at causes.CardRange written.span.start ∷ []
numbers_faults written (num ∷ nums) = flat_map too_big (num ∷ nums)

abbrev pub card_kind_faults : Card → CardKind → List Fault
card_kind_faults written (c.Numbers nums) = numbers_faults written nums
card_kind_faults written (c.Interval low high) = too_big low ++ wrong_end low high
card_kind_faults written _ = []

unfoldable pub card_faults : Card → List Fault
card_faults written = card_kind_faults written written.kind

-- ---- terms

abbrev pub wrong_kind : Term → List Fault
wrong_kind t = fault_at causes.WrongKind t.span.start ∷ []

-- of a term of the wanted form what is wrong in it, and else that it isn't of the form
abbrev pub formed : {A : Type 0} → Option A → (A → List Fault) → Term → List Fault
formed None parts t = wrong_kind t
formed (Some x) parts t = parts x

unfoldable pub constant_faults : List (List ℕ) → Term → List Fault
constant_faults texts t = formed (constant_of t) (missing causes.NotMember texts) t

-- what stands for the truth values
abbrev pub truth_texts : List (List ℕ)
truth_texts = codes "true" ∷ codes "false" ∷ []

unfoldable pub number_faults : Term → List Fault
number_faults t = formed (number_of t) (λ n. []) t

unfoldable pub text_faults : Term → List Fault
text_faults t = formed (constant_of t) (λ name. []) t

unfoldable pub tuple_faults : Shapes → Term → List Fault
tuple_faults ss t = formed (bracket_of (length (sizes ss)) t) (missing_in_turn (d.constants_of ss)) t

unfoldable pub constants_faults : List (List ℕ) → Term → List Fault
constants_faults texts t = formed (constants_of t) (all_missing causes.NotMember texts) t

-- of square brackets in braces, or else of a generator
abbrev pub either_faults : Shapes → Option (List (List Name)) → Option (Spanned GenKind) → Term → List Fault
either_faults ss (Some rows) gen t = flat_map (missing_in_turn (d.constants_of ss)) rows
either_faults ss None gen t = formed gen (λ one. all_missing causes.NotMember (in_a_row (d.constants_of ss)) (gen_names one.kind)) t

unfoldable pub tuples_faults : Shapes → Term → List Fault
tuples_faults ss t = either_faults ss (brackets_of (length (sizes ss)) t) (generator_of t) t

abbrev pub set_faults : Shape → Term → List Fault
set_faults (tuple ss) t = tuples_faults ss t
set_faults s t = constants_faults (d.constants s) t

unfoldable pub cardinality_faults : Term → List Fault
cardinality_faults t = formed (card_of t) card_faults t

abbrev pub keys_in : {A : Type 0} → List (Name × A) → List Name
keys_in = map (λ pair. pair.0)

-- keys that have to stand among these texts, each once
abbrev pub keys_faults : Cause → List (List ℕ) → List Name → List Fault
keys_faults cause texts names = all_missing cause texts names ++ all_twice [] names

unfoldable pub valency_faults : List (List ℕ) → Term → List Fault
valency_faults texts t = formed (counts_of t) (λ pairs. keys_faults causes.NotMember texts (keys_in pairs) ++ flat_map (λ pair. card_faults pair.1) pairs) t

-- ---- all faults

-- of the term that is looked at, if one is
abbrev pub of_seen : Option Term → (Term → List Fault) → List Fault
of_seen None rule = []
of_seen (Some t) rule = rule t

abbrev mutual
  -- of a term that is looked at
  pub faults_in : Look → Shape → Term → List Fault
  faults_in look (domain cs) t = constant_faults cs t
  faults_in look (tuple ss) t = tuple_faults ss t
  faults_in look truth t = constant_faults truth_texts t
  faults_in look integer t = number_faults t
  faults_in look text t = text_faults t
  faults_in look (set s) t = set_faults s t
  faults_in look (iset s) t = set_faults s t
  faults_in look card t = cardinality_faults t
  faults_in look (valency k) t = valency_faults (d.constants k) t
  faults_in look (mapping k u) t =
      formed (pairs_of t)
      (λ pairs. keys_faults causes.NotMember (d.constants k) (keys_in pairs) ++ flat_map (λ pair. of_seen (look pair.1) (faults_in look u)) pairs) t
  faults_in look (fields fs) t =
      formed (pairs_of t) (λ pairs. keys_faults causes.UnknownName (names_of fs) (keys_in pairs) ++ flat_map (λ pair. field_faults look fs pair) pairs) t

  -- of the value of a field, where the type has it
  pub field_faults : Look → Fields → Name × Term → List Fault
  field_faults look no_field pair = []
  field_faults look (field_then name u fs) pair = if bytes_eq name pair.0.text then of_seen (look pair.1) (faults_in look u) else field_faults look fs pair

-- where a term stands
abbrev pub faults : Look → Shape → Term → List Fault
faults look s t = of_seen (look t) (faults_in look s)

-- of a term where a map is wanted
unfoldable pub mapping_faults : Look → List (List ℕ) → Shape → Term → List Fault
mapping_faults look texts s t =
    formed (pairs_of t) (λ pairs. keys_faults causes.NotMember texts (keys_in pairs) ++ flat_map (λ pair. of_seen (look pair.1) (faults_in look s)) pairs) t

-- and where a record is wanted
unfoldable pub record_faults : Look → Fields → Term → List Fault
record_faults look fs t =
    formed (pairs_of t) (λ pairs. keys_faults causes.UnknownName (names_of fs) (keys_in pairs) ++ flat_map (λ pair. field_faults look fs pair) pairs) t

-- ---- the same of elements in braces

-- the fields of a record type
abbrev pub fields_in : List (List ℕ × Ty) → Fields
fields_in all = fields_of (map (λ field. (field.0, shape field.1)) all)

abbrev pub key_in : ElemKind-F ElemKind TermKind → List Name
key_in (ElemKind-F.Count name written) = name ∷ []
key_in (ElemKind-F.Keyed name t) = name ∷ []
key_in _ = []

-- the key of an element, if it has one
unfoldable pub key_of : Spanned ElemKind → List Name
key_of elem = key_in (out-ElemKind elem.kind)

-- the keys of elements
abbrev pub keys : List (Spanned ElemKind) → List Name
keys = flat_map key_of

abbrev pub key_faults_in : (Name → List Fault) → ElemKind-F ElemKind TermKind → List Fault
key_faults_in rule (ElemKind-F.Count name written) = rule name
key_faults_in rule (ElemKind-F.Keyed name t) = rule name
key_faults_in rule _ = []

-- what a rule says of the key of an element
unfoldable pub key_faults : (Name → List Fault) → Spanned ElemKind → List Fault
key_faults rule elem = key_faults_in rule (out-ElemKind elem.kind)

abbrev pub plain_missing_in : List (List ℕ) → ElemKind-F ElemKind TermKind → List Fault
plain_missing_in texts (ElemKind-F.ElemKind::Const name) = missing causes.NotMember texts name
plain_missing_in texts _ = []

-- of a constant
unfoldable pub plain_missing : List (List ℕ) → Spanned ElemKind → List Fault
plain_missing texts elem = plain_missing_in texts (out-ElemKind elem.kind)

abbrev pub bracket_missing_in : Shapes → ElemKind-F ElemKind TermKind → List Fault
bracket_missing_in ss (ElemKind-F.ElemKind::Tuple names) = missing_in_turn (d.constants_of ss) names
bracket_missing_in ss _ = []

-- of a square bracket
unfoldable pub bracket_missing : Shapes → Spanned ElemKind → List Fault
bracket_missing ss elem = bracket_missing_in ss (out-ElemKind elem.kind)

abbrev pub count_faults_in : ElemKind-F ElemKind TermKind → List Fault
count_faults_in (ElemKind-F.Count name written) = card_faults written
count_faults_in _ = []

-- of the cardinality of a constant
unfoldable pub count_faults : Spanned ElemKind → List Fault
count_faults elem = count_faults_in (out-ElemKind elem.kind)

abbrev pub value_faults_in : Look → Shape → ElemKind-F ElemKind TermKind → List Fault
value_faults_in look s (ElemKind-F.Keyed name t) = of_seen (look t) (faults_in look s)
value_faults_in look s _ = []

-- of the term of a key
unfoldable pub value_faults : Look → Shape → Spanned ElemKind → List Fault
value_faults look s elem = value_faults_in look s (out-ElemKind elem.kind)

abbrev pub elem_faults_in : Look → Fields → ElemKind-F ElemKind TermKind → List Fault
elem_faults_in look fs (ElemKind-F.Keyed name t) = field_faults look fs (name, t)
elem_faults_in look fs _ = []

-- of the term of a field
unfoldable pub elem_faults : Look → Fields → Spanned ElemKind → List Fault
elem_faults look fs elem = elem_faults_in look fs (out-ElemKind elem.kind)
