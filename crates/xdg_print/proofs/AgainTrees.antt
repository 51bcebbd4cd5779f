-- The words of trees, and trees without their places, a form at a time.
use Rattle.std.proofs.Common.{◌≡◌, ℕ, List, [], ◌∷◌, ◌++◌, map, flat_map, Option, sym, ap, ◌∙◌}
use Rattle.std.proofs.lemmas.List.Folds.{flat_map-map}
use Rattle.xdg_ast.specs.declared.token.Kind.TheVariants as k
use Rattle.xdg_ast.specs.declared.names.Name.{Name}
use Rattle.xdg_ast.specs.declared.names.Pair.{Pair}
use Rattle.xdg_ast.specs.declared.names.Spanned.{Spanned}
use Rattle.xdg_ast.specs.declared.types.TypeKind.{TypeKind, roll-TypeKind, map-TypeKind}
use Rattle.xdg_ast.specs.declared.types.TypeKind.TheVariants as y
use Rattle.xdg_ast.specs.declared.types.TypeKind.TheOpen.{TypeKind-F}
use Rattle.xdg_ast.specs.declared.types.TypeKind.TheFolds.{fold-roll-TypeKind}
use Rattle.xdg_ast.specs.declared.terms.TermKind.{TermKind, roll-TermKind, map-TermKind}
use Rattle.xdg_ast.specs.declared.terms.TermKind.TheVariants as t
use Rattle.xdg_ast.specs.declared.terms.ElemKind.{ElemKind, roll-ElemKind, map-ElemKind}
use Rattle.xdg_ast.specs.declared.terms.ElemKind.TheVariants as e
use Rattle.xdg_ast.specs.declared.terms.ElemKind.TheOpen.{TermKind-F, ElemKind-F}
use Rattle.xdg_ast.specs.declared.terms.ElemKind.TheFolds.{fold-roll-TermKind, fold-roll-ElemKind}
use Rattle.xdg_ast.specs.declared.terms.CardKind.{CardKind}
use Rattle.xdg_ast.specs.declared.terms.GenKind.{GenKind, roll-GenKind, map-GenKind}
use Rattle.xdg_ast.specs.declared.terms.GenKind.TheVariants as g
use Rattle.xdg_ast.specs.declared.terms.GenKind.TheOpen.{GenKind-F}
use Rattle.xdg_ast.specs.declared.terms.GenKind.TheFolds.{fold-roll-GenKind}
use Rattle.xdg_ast.specs.declared.expressions.ExprKind.{ExprKind, roll-ExprKind, map-ExprKind}
use Rattle.xdg_ast.specs.declared.expressions.ExprKind.TheVariants as x
use Rattle.xdg_ast.specs.declared.expressions.ExprKind.TheOpen.{ExprKind-F}
use Rattle.xdg_ast.specs.declared.expressions.ExprKind.TheFolds.{fold-roll-ExprKind}
use Rattle.xdg_ast.specs.Grammar.{Params}
use Rattle.xdg_ast.specs.Words.{Word, mark, number}
use Rattle.xdg_ast.specs.Trees.{name_word, names_words, in_braces, in_parentheses, in_square_brackets, Phrase, conjoined, disjoined, plainly, card_words, gen_step, gen_phrase, constant_in, elem_step, term_step, elem_words, term_words, pair_words, terms_words, args_words, expr_step, expr_phrase, type_step, type_words}
use Rattle.xdg_ast.specs.Same.{bare_gen_step, bare_gen, bare_elem_step, bare_term_step, bare_elem, bare_term, bare_expr_step, bare_expr, bare_type_step, bare_type}
use Rattle.xdg_facts.proofs.Lists.{fused}

-- ---- a function of what stands in a place

abbrev with_kind : {A B : Type 0} → (A → B) → Spanned A → Spanned B
with_kind f part = record { kind = f part.kind; span = part.span }

pub term_words-Const : (params : Params) (name : Name) → term_words params (t.Const name) ≡ constant_in params name.text ∷ []
term_words-Const params name = ap (term_words params) (sym (t.rolls-Const name)) ∙ fold-roll-TermKind (List Word) (List Word) elem_step (term_step params) (TermKind-F.TermKind::Const name)

pub term_words-Param : (params : Params) (name : Name) → term_words params (t.Param name) ≡ name_word name ∷ []
term_words-Param params name = ap (term_words params) (sym (t.rolls-Param name)) ∙ fold-roll-TermKind (List Word) (List Word) elem_step (term_step params) (TermKind-F.Param name)

pub term_words-Number : (params : Params) (n : ℕ) → term_words params (t.Number n) ≡ number n ∷ []
term_words-Number params n = ap (term_words params) (sym (t.rolls-Number n)) ∙ fold-roll-TermKind (List Word) (List Word) elem_step (term_step params) (TermKind-F.Number n)

pub term_words-Card : (params : Params) (card : Spanned CardKind) → term_words params (t.Card card) ≡ card_words card.kind
term_words-Card params card = ap (term_words params) (sym (t.rolls-Card card)) ∙ fold-roll-TermKind (List Word) (List Word) elem_step (term_step params) (TermKind-F.Card card)

pub term_words-Braces : (params : Params) (elems : List (Spanned ElemKind)) → term_words params (t.Braces elems) ≡ in_braces (flat_map (λ elem. elem_words params elem.kind) elems)
term_words-Braces params elems = ap (term_words params) (sym (t.rolls-Braces elems)) ∙ (fold-roll-TermKind (List Word) (List Word) elem_step (term_step params) (TermKind-F.Braces elems) ∙ ap in_braces (flat_map-map (λ elem. elem.kind) (with_kind (elem_words params)) elems))

pub term_words-Tuple : (params : Params) (names : List Name) → term_words params (t.Tuple names) ≡ in_square_brackets (names_words names)
term_words-Tuple params names = ap (term_words params) (sym (t.rolls-Tuple names)) ∙ fold-roll-TermKind (List Word) (List Word) elem_step (term_step params) (TermKind-F.TermKind::Tuple names)

pub term_words-Gen : (params : Params) (gen : Spanned GenKind) → term_words params (t.Gen gen) ≡ mark k.Dollar ∷ (gen_phrase gen.kind).words
term_words-Gen params gen = ap (term_words params) (sym (t.rolls-Gen gen)) ∙ fold-roll-TermKind (List Word) (List Word) elem_step (term_step params) (TermKind-F.Gen gen)

-- ---- words of elements

pub elem_words-Count : (params : Params) (name : Name) (card : Spanned CardKind) → elem_words params (e.Count name card) ≡ name_word name ∷ card_words card.kind
elem_words-Count params name card = ap (elem_words params) (sym (e.rolls-Count name card)) ∙ fold-roll-ElemKind (List Word) (List Word) elem_step (term_step params) (ElemKind-F.Count name card)

pub elem_words-Keyed : (params : Params) (name : Name) (term : Spanned TermKind) → elem_words params (e.Keyed name term) ≡ name_word name ∷ mark k.Colon ∷ term_words params term.kind
elem_words-Keyed params name term = ap (elem_words params) (sym (e.rolls-Keyed name term)) ∙ fold-roll-ElemKind (List Word) (List Word) elem_step (term_step params) (ElemKind-F.Keyed name term)

pub elem_words-Const : (params : Params) (name : Name) → elem_words params (e.Const name) ≡ name_word name ∷ []
elem_words-Const params name = ap (elem_words params) (sym (e.rolls-Const name)) ∙ fold-roll-ElemKind (List Word) (List Word) elem_step (term_step params) (ElemKind-F.ElemKind::Const name)

pub elem_words-Tuple : (params : Params) (names : List Name) → elem_words params (e.Tuple names) ≡ in_square_brackets (names_words names)
elem_words-Tuple params names = ap (elem_words params) (sym (e.rolls-Tuple names)) ∙ fold-roll-ElemKind (List Word) (List Word) elem_step (term_step params) (ElemKind-F.ElemKind::Tuple names)

-- ---- words of generators

pub gen_phrase-Const : (name : Name) → gen_phrase (g.Const name) ≡ plainly (name_word name ∷ [])
gen_phrase-Const name = ap gen_phrase (sym (g.rolls-Const name)) ∙ fold-roll-GenKind Phrase gen_step (GenKind-F.Const name)

pub gen_phrase-And : (members : List (Spanned GenKind)) → gen_phrase (g.And members) ≡ conjoined (map (λ gen. gen_phrase gen.kind) members)
gen_phrase-And members = ap gen_phrase (sym (g.rolls-And members)) ∙ (fold-roll-GenKind Phrase gen_step (GenKind-F.And members) ∙ ap conjoined (fused (λ gen. gen.kind) (with_kind gen_phrase) members))

pub gen_phrase-Or : (members : List (Spanned GenKind)) → gen_phrase (g.Or members) ≡ disjoined (map (λ gen. gen_phrase gen.kind) members)
gen_phrase-Or members = ap gen_phrase (sym (g.rolls-Or members)) ∙ (fold-roll-GenKind Phrase gen_step (GenKind-F.Or members) ∙ ap disjoined (fused (λ gen. gen.kind) (with_kind gen_phrase) members))

-- ---- words of expressions

pub expr_phrase-Or : (params : Params) (members : List (Spanned ExprKind)) → expr_phrase params (x.Or members) ≡ disjoined (map (λ expr. expr_phrase params expr.kind) members)
expr_phrase-Or params members = ap (expr_phrase params) (sym (x.rolls-Or members)) ∙ (fold-roll-ExprKind Phrase (expr_step params) (ExprKind-F.Or members) ∙ ap disjoined (fused (λ expr. expr.kind) (with_kind (expr_phrase params)) members))

pub expr_phrase-And : (params : Params) (members : List (Spanned ExprKind)) → expr_phrase params (x.And members) ≡ conjoined (map (λ expr. expr_phrase params expr.kind) members)
expr_phrase-And params members = ap (expr_phrase params) (sym (x.rolls-And members)) ∙ (fold-roll-ExprKind Phrase (expr_step params) (ExprKind-F.And members) ∙ ap conjoined (fused (λ expr. expr.kind) (with_kind (expr_phrase params)) members))

pub expr_phrase-Dim : (params : Params) (name : Name) (pairs : List (Pair (Spanned TermKind))) → expr_phrase params (x.Dim name pairs) ≡ plainly (mark k.Dim ∷ name_word name ∷ terms_words params pairs)
expr_phrase-Dim params name pairs = ap (expr_phrase params) (sym (x.rolls-Dim name pairs)) ∙ fold-roll-ExprKind Phrase (expr_step params) (ExprKind-F.Dim name pairs)

pub expr_phrase-Use : (params : Params) (name : Name) (pairs : Option (List (Pair (Spanned TermKind)))) → expr_phrase params (x.Use name pairs) ≡ plainly (name_word name ∷ args_words params pairs)
expr_phrase-Use params name pairs = ap (expr_phrase params) (sym (x.rolls-Use name pairs)) ∙ fold-roll-ExprKind Phrase (expr_step params) (ExprKind-F.Use name pairs)

-- ---- words of types

pub type_words-Empty : type_words y.Empty ≡ in_braces []
type_words-Empty = ap type_words (sym y.rolls-Empty) ∙ fold-roll-TypeKind (List Word) type_step TypeKind-F.Empty

pub type_words-Domain : (names : List Name) → type_words (y.Domain names) ≡ in_braces (names_words names)
type_words-Domain names = ap type_words (sym (y.rolls-Domain names)) ∙ fold-roll-TypeKind (List Word) type_step (TypeKind-F.Domain names)

pub type_words-Rec : (pairs : List (Pair (Spanned TypeKind))) → type_words (y.Rec pairs) ≡ in_braces (flat_map (pair_words (λ type. type_words type.kind)) pairs)
type_words-Rec pairs = ap type_words (sym (y.rolls-Rec pairs)) ∙ (fold-roll-TypeKind (List Word) type_step (TypeKind-F.Rec pairs) ∙ ap in_braces (flat_map-map (pair_words (λ type. type.kind)) (λ pair. record { key = pair.key; value = with_kind type_words pair.value }) pairs))

pub type_words-Tuple : (types : List (Spanned TypeKind)) → type_words (y.Tuple types) ≡ mark k.Tuple ∷ in_parentheses (flat_map (λ type. type_words type.kind) types)
type_words-Tuple types = ap type_words (sym (y.rolls-Tuple types)) ∙ (fold-roll-TypeKind (List Word) type_step (TypeKind-F.Tuple types) ∙ ap (λ words. mark k.Tuple ∷ in_parentheses words) (flat_map-map (λ type. type.kind) (with_kind type_words) types))

pub type_words-Set : (type : Spanned TypeKind) → type_words (y.Set type) ≡ mark k.Set ∷ in_parentheses (type_words type.kind)
type_words-Set type = ap type_words (sym (y.rolls-Set type)) ∙ fold-roll-TypeKind (List Word) type_step (TypeKind-F.Set type)

pub type_words-ISet : (type : Spanned TypeKind) → type_words (y.ISet type) ≡ mark k.ISet ∷ in_parentheses (type_words type.kind)
type_words-ISet type = ap type_words (sym (y.rolls-ISet type)) ∙ fold-roll-TypeKind (List Word) type_step (TypeKind-F.ISet type)

pub type_words-Valency : (type : Spanned TypeKind) → type_words (y.Valency type) ≡ mark k.Valency ∷ in_parentheses (type_words type.kind)
type_words-Valency type = ap type_words (sym (y.rolls-Valency type)) ∙ fold-roll-TypeKind (List Word) type_step (TypeKind-F.Valency type)

pub type_words-Map : (key : Spanned TypeKind) (value : Spanned TypeKind) → type_words (y.Map key value) ≡ mark k.Map ∷ in_parentheses (type_words key.kind ++ type_words value.kind)
type_words-Map key value = ap type_words (sym (y.rolls-Map key value)) ∙ fold-roll-TypeKind (List Word) type_step (TypeKind-F.Map key value)

pub type_words-Card : type_words y.Card ≡ mark k.Card ∷ []
type_words-Card = ap type_words (sym y.rolls-Card) ∙ fold-roll-TypeKind (List Word) type_step TypeKind-F.Card

pub type_words-Bool : type_words y.Bool ≡ mark k.Bool ∷ []
type_words-Bool = ap type_words (sym y.rolls-Bool) ∙ fold-roll-TypeKind (List Word) type_step TypeKind-F.Bool

pub type_words-Int : type_words y.Int ≡ mark k.Int ∷ []
type_words-Int = ap type_words (sym y.rolls-Int) ∙ fold-roll-TypeKind (List Word) type_step TypeKind-F.Int

pub type_words-Str : type_words y.Str ≡ mark k.String ∷ []
type_words-Str = ap type_words (sym y.rolls-Str) ∙ fold-roll-TypeKind (List Word) type_step TypeKind-F.Str

pub type_words-Named : (name : Name) → type_words (y.Named name) ≡ name_word name ∷ []
type_words-Named name = ap type_words (sym (y.rolls-Named name)) ∙ fold-roll-TypeKind (List Word) type_step (TypeKind-F.Named name)

-- ---- trees without places, by their layer

pub bare_term_of : (layer : TermKind-F ElemKind TermKind) {term : TermKind} → roll-TermKind layer ≡ term → bare_term term ≡ bare_term_step (map-TermKind ElemKind TermKind ElemKind TermKind bare_elem bare_term layer)
bare_term_of layer is = ap bare_term (sym is) ∙ fold-roll-TermKind ElemKind TermKind bare_elem_step bare_term_step layer

pub bare_elem_of : (layer : ElemKind-F ElemKind TermKind) {elem : ElemKind} → roll-ElemKind layer ≡ elem → bare_elem elem ≡ bare_elem_step (map-ElemKind ElemKind TermKind ElemKind TermKind bare_elem bare_term layer)
bare_elem_of layer is = ap bare_elem (sym is) ∙ fold-roll-ElemKind ElemKind TermKind bare_elem_step bare_term_step layer

pub bare_gen_of : (layer : GenKind-F GenKind) {gen : GenKind} → roll-GenKind layer ≡ gen → bare_gen gen ≡ bare_gen_step (map-GenKind GenKind GenKind bare_gen layer)
bare_gen_of layer is = ap bare_gen (sym is) ∙ fold-roll-GenKind GenKind bare_gen_step layer

pub bare_expr_of : (layer : ExprKind-F ExprKind) {expr : ExprKind} → roll-ExprKind layer ≡ expr → bare_expr expr ≡ bare_expr_step (map-ExprKind ExprKind ExprKind bare_expr layer)
bare_expr_of layer is = ap bare_expr (sym is) ∙ fold-roll-ExprKind ExprKind bare_expr_step layer

pub bare_type_of : (layer : TypeKind-F TypeKind) {type : TypeKind} → roll-TypeKind layer ≡ type → bare_type type ≡ bare_type_step (map-TypeKind TypeKind TypeKind bare_type layer)
bare_type_of layer is = ap bare_type (sym is) ∙ fold-roll-TypeKind TypeKind bare_type_step layer
