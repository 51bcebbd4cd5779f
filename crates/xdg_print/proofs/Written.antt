-- The words of trees, written one after the other.
use Rattle.std.proofs.Common.{◌≡◌, List, [], ◌∷◌, ◌++◌, flat_map, ap, sym, refl, ◌∙◌}
use Rattle.xdg_ast.specs.declared.token.Kind.{Kind}
use Rattle.xdg_ast.specs.declared.token.Kind.TheVariants as k
use Rattle.xdg_ast.specs.declared.names.Name.{Name}
use Rattle.xdg_ast.specs.declared.names.Pair.{Pair}
use Rattle.xdg_ast.specs.declared.names.Spanned.{Spanned}
use Rattle.xdg_ast.specs.declared.types.TypeKind.{TypeKind}
use Rattle.xdg_ast.specs.declared.types.TypeKind.TheVariants as y
use Rattle.xdg_ast.specs.Words.{Word, mark}
use Rattle.xdg_ast.specs.Trees.{name_word, in_braces, in_parentheses, pair_words, type_words}
use Rattle.xdg_print.specs.declared.printer.Printer.{Printer}
use Rattle.xdg_print.specs.Printed.{put}
use Rattle.xdg_print.proofs.Put.{put_append}
use Rattle.xdg_print.proofs.AgainTrees.{type_words-Bool, type_words-Card, type_words-Domain, type_words-Empty, type_words-ISet, type_words-Int, type_words-Map, type_words-Named, type_words-Set, type_words-Str, type_words-Tuple, type_words-Valency}

abbrev pub put_mark : Kind → Printer → Printer
put_mark kind p = put (mark kind ∷ []) p

pub put_braces : (words : List Word) (p : Printer) → put (in_braces words) p ≡ put_mark k.RightBrace (put words (put_mark k.LeftBrace p))
put_braces words p = put_append words (mark k.RightBrace ∷ []) (put_mark k.LeftBrace p)

-- a name, a colon and words were added
pub keyed : (key : Name) (words : List Word) (p named coloned q : Printer) → named ≡ put (name_word key ∷ []) p → coloned ≡ put_mark k.Colon named → q ≡ put words coloned → q ≡ put (name_word key ∷ mark k.Colon ∷ words) p
keyed key words p named coloned q one two three = three ∙ ap (put words) (two ∙ ap (put_mark k.Colon) one)

-- an opening bracket, the words of what was given and a closing bracket were added, which are the words of the whole
pub enclosed : {A B : Type 0} (opening closing : Kind) (whole : A → List Word) (inner : B → List Word) (given form : A) (parts items : B) (p opened q : Printer) → whole form ≡ mark opening ∷ (inner parts ++ mark closing ∷ [])
    → given ≡ form → items ≡ parts → opened ≡ put_mark opening p → q ≡ put (inner items) opened → put_mark closing q ≡ put (whole given) p
enclosed opening closing whole inner given form parts items p opened q said is same one two =
    ap (put_mark closing) (two ∙ ap (put (inner items)) one ∙ ap (λ z. put (inner z) (put_mark opening p)) same)
    ∙ sym (ap (λ z. put (whole z) p) is ∙ ap (λ z. put z p) said ∙ put_append (inner parts) (mark closing ∷ []) (put_mark opening p))

-- ---- types

abbrev pub field_words : Pair (Spanned TypeKind) → List Word
field_words = pair_words (λ type. type_words type.kind)

pub tuple_done : (given : TypeKind) (types items : List (Spanned TypeKind)) (p opened q : Printer) → given ≡ y.Tuple types → items ≡ types → opened ≡ put_mark k.LeftParenthesis (put_mark k.Tuple p) → q ≡ put (flat_map (λ type. type_words type.kind) items) opened
    → put_mark k.RightParenthesis q ≡ put (type_words given) p
tuple_done given types items p opened q is same one two =
    enclosed k.LeftParenthesis k.RightParenthesis in_parentheses (flat_map (λ (type : Spanned TypeKind). type_words type.kind)) _ _ types items (put_mark k.Tuple p) opened q refl refl same one two
    ∙ sym (ap (λ z. put (type_words z) p) is ∙ ap (λ z. put z p) (type_words-Tuple types))

-- the words of each form of a type
pub ruleset type_steps = (type_words-Empty, type_words-Domain, type_words-Set, type_words-ISet, type_words-Valency, type_words-Map, type_words-Card, type_words-Bool, type_words-Int, type_words-Str, type_words-Named, put_append)
