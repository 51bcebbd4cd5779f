-- What a term is where a type is wanted: which forms of terms there are, with the parameters bound.
use Rattle.std.specs.Prelude.{ℕ, ◌==◌, if◌then◌else◌, List, [], ◌∷◌, length, Option, Some, None, bytes_eq}
use Rattle.xdg_base.specs.Texts.{has_text}
use Rattle.xdg_ast.specs.declared.names.Name.{Name}
use Rattle.xdg_ast.specs.declared.names.Pair.{Pair}
use Rattle.xdg_ast.specs.declared.names.Spanned.{Spanned}
use Rattle.xdg_ast.specs.declared.terms.CardKind.{CardKind}
use Rattle.xdg_ast.specs.declared.terms.GenKind.{GenKind}
use Rattle.xdg_ast.specs.declared.terms.TermKind.{TermKind, out-TermKind}
use Rattle.xdg_ast.specs.declared.terms.ElemKind.{ElemKind, out-ElemKind}
use Rattle.xdg_ast.specs.declared.terms.ElemKind.TheOpen.{TermKind-F, ElemKind-F}

abbrev pub Term : Type 0
Term = Spanned TermKind

abbrev pub Card : Type 0
Card = Spanned CardKind

abbrev pub Gen : Type 0
Gen = Spanned GenKind

-- what the parameters of a class stand for: the first of a name counts
abbrev pub Bindings : Type 0
Bindings = List (Pair Term)

-- ---- parameters

-- what the parameter with that name stands for, where it is bound
abbrev pub bound_to : Bindings → List ℕ → Option Term
bound_to [] name = None
bound_to (binding ∷ more) name = if bytes_eq binding.key.text name then Some binding.value else bound_to more name

abbrev pub bound_or : Term → Option Term → Term
bound_or t None = t
bound_or t (Some other) = other

abbrev pub bound_in : Bindings → Term → TermKind-F ElemKind TermKind → Term
bound_in bs t (TermKind-F.Param name) = bound_or t (bound_to bs name.text)
bound_in bs t _ = t

-- a term, or what it stands for where it is a parameter
unfoldable pub bound : Bindings → Term → Term
bound bs t = bound_in bs t (out-TermKind t.kind)

-- ---- what is looked at

-- what is looked at where a term stands, if anything is
abbrev pub Look : Type 0
Look = Term → Option Term

-- the term, or what it stands for where it is a parameter
abbrev pub with_bound : Bindings → Look
with_bound bs t = Some (bound bs t)

abbrev pub unless_open : List (List ℕ) → Term → TermKind-F ElemKind TermKind → Option Term
unless_open free t (TermKind-F.Param name) = if has_text free name.text then None else Some t
unless_open free t _ = Some t

-- the term, and nothing where it is one of the open parameters
unfoldable pub with_open : List (List ℕ) → Look
with_open free t = unless_open free t (out-TermKind t.kind)

-- ---- forms of terms

abbrev pub constant_in : TermKind-F ElemKind TermKind → Option Name
constant_in (TermKind-F.TermKind::Const name) = Some name
constant_in _ = None

-- `a`
unfoldable pub constant_of : Term → Option Name
constant_of t = constant_in (out-TermKind t.kind)

abbrev pub number_in : TermKind-F ElemKind TermKind → Option ℕ
number_in (TermKind-F.Number n) = Some n
number_in _ = None

-- `7`
unfoldable pub number_of : Term → Option ℕ
number_of t = number_in (out-TermKind t.kind)

abbrev pub card_in : TermKind-F ElemKind TermKind → Option Card
card_in (TermKind-F.Card card) = Some card
card_in _ = None

-- a cardinality
unfoldable pub card_of : Term → Option Card
card_of t = card_in (out-TermKind t.kind)

abbrev pub generator_in : TermKind-F ElemKind TermKind → Option Gen
generator_in (TermKind-F.Gen gen) = Some gen
generator_in _ = None

-- `$ a & b`
unfoldable pub generator_of : Term → Option Gen
generator_of t = generator_in (out-TermKind t.kind)

-- these names, where there are so many
abbrev pub if_so_many : ℕ → List Name → Option (List Name)
if_so_many wanted names = if length names == wanted then Some names else None

abbrev pub bracket_in : ℕ → TermKind-F ElemKind TermKind → Option (List Name)
bracket_in wanted (TermKind-F.TermKind::Tuple names) = if_so_many wanted names
bracket_in wanted _ = None

-- `[a b]`, with so many constants
unfoldable pub bracket_of : ℕ → Term → Option (List Name)
bracket_of wanted t = bracket_in wanted (out-TermKind t.kind)

-- ---- forms of elements in braces

abbrev pub plain_in : ElemKind-F ElemKind TermKind → Option Name
plain_in (ElemKind-F.ElemKind::Const name) = Some name
plain_in _ = None

-- `a`
unfoldable pub plain_elem : Spanned ElemKind → Option Name
plain_elem elem = plain_in (out-ElemKind elem.kind)

abbrev pub bracketed_in : ℕ → ElemKind-F ElemKind TermKind → Option (List Name)
bracketed_in wanted (ElemKind-F.ElemKind::Tuple names) = if_so_many wanted names
bracketed_in wanted _ = None

-- `[a b]`, with so many constants
unfoldable pub bracketed_elem : ℕ → Spanned ElemKind → Option (List Name)
bracketed_elem wanted elem = bracketed_in wanted (out-ElemKind elem.kind)

abbrev pub counted_in : ElemKind-F ElemKind TermKind → Option (Name × Card)
counted_in (ElemKind-F.Count name card) = Some (name, card)
counted_in _ = None

-- `a!`
unfoldable pub counted_elem : Spanned ElemKind → Option (Name × Card)
counted_elem elem = counted_in (out-ElemKind elem.kind)

abbrev pub keyed_in : ElemKind-F ElemKind TermKind → Option (Name × Term)
keyed_in (ElemKind-F.Keyed name t) = Some (name, t)
keyed_in _ = None

-- `a: t`
unfoldable pub keyed_elem : Spanned ElemKind → Option (Name × Term)
keyed_elem elem = keyed_in (out-ElemKind elem.kind)

abbrev pub then_also : {A : Type 0} → Option A → Option (List A) → Option (List A)
then_also (Some x) (Some xs) = Some (x ∷ xs)
then_also _ _ = None

-- what each element is, where all are of that form
unfoldable pub all_of : {A : Type 0} → (Spanned ElemKind → Option A) → List (Spanned ElemKind) → Option (List A)
all_of form [] = Some []
all_of form (elem ∷ elems) = then_also (form elem) (all_of form elems)

abbrev pub braces_in : {A : Type 0} → (Spanned ElemKind → Option A) → TermKind-F ElemKind TermKind → Option (List A)
braces_in form (TermKind-F.Braces elems) = all_of form elems
braces_in form _ = None

-- `{a b}`
unfoldable pub constants_of : Term → Option (List Name)
constants_of t = braces_in plain_elem (out-TermKind t.kind)

-- `{[a b] [c d]}`, each with so many constants
unfoldable pub brackets_of : ℕ → Term → Option (List (List Name))
brackets_of wanted t = braces_in (bracketed_elem wanted) (out-TermKind t.kind)

-- `{a! b?}`
unfoldable pub counts_of : Term → Option (List (Name × Card))
counts_of t = braces_in counted_elem (out-TermKind t.kind)

-- `{a: t b: u}`
unfoldable pub pairs_of : Term → Option (List (Name × Term))
pairs_of t = braces_in keyed_elem (out-TermKind t.kind)
