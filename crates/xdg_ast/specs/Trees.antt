-- The words of trees.
use Rattle.std.specs.Prelude.{ℕ, if◌then◌else◌, List, [], ◌∷◌, ◌++◌, map, flat_map, Option, Some, None}
use Rattle.xdg_ast.specs.declared.token.Kind.{Kind}
use Rattle.xdg_ast.specs.declared.token.Kind.TheVariants as k
use Rattle.xdg_ast.specs.declared.names.Name.{Name}
use Rattle.xdg_ast.specs.declared.names.Num.{Num}
use Rattle.xdg_ast.specs.declared.names.Pair.{Pair}
use Rattle.xdg_ast.specs.declared.names.Spanned.{Spanned}
use Rattle.xdg_ast.specs.declared.types.TypeKind.{TypeKind}
use Rattle.xdg_ast.specs.declared.types.TypeKind.TheOpen.{TypeKind-F}
use Rattle.xdg_ast.specs.declared.types.TypeKind.TheFolds.{fold-TypeKind}
use Rattle.xdg_ast.specs.declared.terms.TermKind.{TermKind}
use Rattle.xdg_ast.specs.declared.terms.ElemKind.TheOpen.{TermKind-F, ElemKind-F}
use Rattle.xdg_ast.specs.declared.terms.ElemKind.TheFolds.{fold-TermKind, fold-ElemKind}
use Rattle.xdg_ast.specs.declared.terms.ElemKind.{ElemKind}
use Rattle.xdg_ast.specs.declared.terms.CardKind.{CardKind}
use Rattle.xdg_ast.specs.declared.terms.CardKind.TheVariants as c
use Rattle.xdg_ast.specs.declared.terms.GenKind.{GenKind}
use Rattle.xdg_ast.specs.declared.terms.GenKind.TheOpen.{GenKind-F}
use Rattle.xdg_ast.specs.declared.terms.GenKind.TheFolds.{fold-GenKind}
use Rattle.xdg_ast.specs.declared.expressions.ExprKind.{ExprKind}
use Rattle.xdg_ast.specs.declared.expressions.ExprKind.TheOpen.{ExprKind-F}
use Rattle.xdg_ast.specs.declared.expressions.ExprKind.TheFolds.{fold-ExprKind}
use Rattle.xdg_ast.specs.Grammar.{Params}
use Rattle.xdg_base.specs.Texts.{has_text}
use Rattle.xdg_ast.specs.Words.{Word, mark, number, quoted, constant}

-- ---- names, numbers, brackets

abbrev pub name_word : Name → Word
name_word name = constant name.text

abbrev pub names_words : List Name → List Word
names_words names = map name_word names

abbrev pub nums_words : List Num → List Word
nums_words nums = map (λ num. number num.value) nums

abbrev pub in_braces : List Word → List Word
in_braces words = mark k.LeftBrace ∷ (words ++ mark k.RightBrace ∷ [])

abbrev pub in_parentheses : List Word → List Word
in_parentheses words = mark k.LeftParenthesis ∷ (words ++ mark k.RightParenthesis ∷ [])

abbrev pub in_square_brackets : List Word → List Word
in_square_brackets words = mark k.LeftBracket ∷ (words ++ mark k.RightBracket ∷ [])

-- ---- conjunctions and disjunctions

-- what a phrase is, which tells where it stands in brackets
pub data Form : Type 0 where
  single : Form
  conjunction : Form
  disjunction : Form

pub record Phrase : Type 0 where
  pub form : Form
  pub words : List Word

-- a conjunction or a disjunction that is a member of a conjunction stands in brackets
abbrev pub in_conjunction : Phrase → List Word
in_conjunction phrase =
    elim phrase.form as (λ _. List Word) [ single ↦ phrase.words | conjunction ↦ in_parentheses phrase.words | disjunction ↦ in_parentheses phrase.words ]

-- and a disjunction that is a member of a disjunction
abbrev pub in_disjunction : Phrase → List Word
in_disjunction phrase = elim phrase.form as (λ _. List Word) [ single ↦ phrase.words | conjunction ↦ phrase.words | disjunction ↦ in_parentheses phrase.words ]

-- each of these with a sign before it
abbrev pub each_behind : Kind → List (List Word) → List Word
each_behind sign [] = []
each_behind sign (words ∷ more) = mark sign ∷ (words ++ each_behind sign more)

-- these with a sign between two of them
abbrev pub separated : Kind → List (List Word) → List Word
separated sign [] = []
separated sign (words ∷ more) = words ++ each_behind sign more

abbrev pub conjoined : List Phrase → Phrase
conjoined members = record { form = conjunction; words = separated k.Ampersand (map in_conjunction members) }

abbrev pub disjoined : List Phrase → Phrase
disjoined members = record { form = disjunction; words = separated k.Bar (map in_disjunction members) }

abbrev pub plainly : List Word → Phrase
plainly words = record { form = single; words = words }

abbrev pub kinds_of : {A : Type 0} → List (Spanned A) → List A
kinds_of parts = map (λ part. part.kind) parts

-- ---- terms

unfoldable pub card_words : CardKind → List Word
card_words c.One = mark k.Exclamation ∷ []
card_words c.Maybe = mark k.Question ∷ []
card_words c.Any = mark k.Star ∷ []
card_words c.Some1 = mark k.Plus ∷ []
card_words (c.Numbers nums) = mark k.Hash ∷ in_braces (nums_words nums)
card_words (c.Interval low high) = mark k.Hash ∷ in_square_brackets (number low.value ∷ number high.value ∷ [])

abbrev pub gen_step : GenKind-F Phrase → Phrase
gen_step (GenKind-F.Const name) = plainly (name_word name ∷ [])
gen_step (GenKind-F.And members) = conjoined (kinds_of members)
gen_step (GenKind-F.Or members) = disjoined (kinds_of members)

abbrev pub gen_phrase : GenKind → Phrase
gen_phrase = fold-GenKind Phrase gen_step

-- in the body of a class a constant with the characters of a parameter is quoted
abbrev pub constant_in : Params → List ℕ → Word
constant_in params text = if has_text params text then quoted text else constant text

abbrev pub term_step : Params → TermKind-F (List Word) (List Word) → List Word
term_step params (TermKind-F.TermKind::Const name) = constant_in params name.text ∷ []
term_step params (TermKind-F.Param name) = name_word name ∷ []
term_step params (TermKind-F.Number n) = number n ∷ []
term_step params (TermKind-F.Card card) = card_words card.kind
term_step params (TermKind-F.Braces elems) = in_braces (flat_map (λ elem. elem.kind) elems)
term_step params (TermKind-F.TermKind::Tuple names) = in_square_brackets (names_words names)
term_step params (TermKind-F.Gen gen) = mark k.Dollar ∷ (gen_phrase gen.kind).words

abbrev pub elem_step : ElemKind-F (List Word) (List Word) → List Word
elem_step (ElemKind-F.Count name card) = name_word name ∷ card_words card.kind
elem_step (ElemKind-F.Keyed name term) = name_word name ∷ mark k.Colon ∷ term.kind
elem_step (ElemKind-F.ElemKind::Const name) = name_word name ∷ []
elem_step (ElemKind-F.ElemKind::Tuple names) = in_square_brackets (names_words names)

abbrev pub term_words : Params → TermKind → List Word
term_words params = fold-TermKind (List Word) (List Word) elem_step (term_step params)

abbrev pub elem_words : Params → ElemKind → List Word
elem_words params = fold-ElemKind (List Word) (List Word) elem_step (term_step params)

abbrev pub pair_words : {A : Type 0} → (A → List Word) → Pair A → List Word
pair_words words pair = name_word pair.key ∷ mark k.Colon ∷ words pair.value

-- `{f: t g: u}`
abbrev pub terms_words : Params → List (Pair (Spanned TermKind)) → List Word
terms_words params pairs = in_braces (flat_map (pair_words (λ term. term_words params term.kind)) pairs)

-- ---- expressions

-- the arguments of a use, if braces stand there
abbrev pub args_words : Params → Option (List (Pair (Spanned TermKind))) → List Word
args_words params None = []
args_words params (Some pairs) = terms_words params pairs

abbrev pub expr_step : Params → ExprKind-F Phrase → Phrase
expr_step params (ExprKind-F.Or members) = disjoined (kinds_of members)
expr_step params (ExprKind-F.And members) = conjoined (kinds_of members)
expr_step params (ExprKind-F.Dim name pairs) = plainly (mark k.Dim ∷ name_word name ∷ terms_words params pairs)
expr_step params (ExprKind-F.Use name pairs) = plainly (name_word name ∷ args_words params pairs)

abbrev pub expr_phrase : Params → ExprKind → Phrase
expr_phrase params = fold-ExprKind Phrase (expr_step params)

-- ---- types

abbrev pub type_step : TypeKind-F (List Word) → List Word
type_step TypeKind-F.Empty = in_braces []
type_step (TypeKind-F.Domain names) = in_braces (names_words names)
type_step (TypeKind-F.Rec pairs) = in_braces (flat_map (pair_words (λ type. type.kind)) pairs)
type_step (TypeKind-F.Tuple types) = mark k.Tuple ∷ in_parentheses (flat_map (λ type. type.kind) types)
type_step (TypeKind-F.Set type) = mark k.Set ∷ in_parentheses type.kind
type_step (TypeKind-F.ISet type) = mark k.ISet ∷ in_parentheses type.kind
type_step (TypeKind-F.Valency type) = mark k.Valency ∷ in_parentheses type.kind
type_step (TypeKind-F.Map key value) = mark k.Map ∷ in_parentheses (key.kind ++ value.kind)
type_step TypeKind-F.Card = mark k.Card ∷ []
type_step TypeKind-F.Bool = mark k.Bool ∷ []
type_step TypeKind-F.Int = mark k.Int ∷ []
type_step TypeKind-F.Str = mark k.String ∷ []
type_step (TypeKind-F.Named name) = name_word name ∷ []

abbrev pub type_words : TypeKind → List Word
type_words = fold-TypeKind (List Word) type_step
