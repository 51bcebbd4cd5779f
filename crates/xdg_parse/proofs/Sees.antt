-- Tests on the next token, and the kinds with which some parts of a grammar text begin.
use Rattle.std.proofs.Common.{◌≡◌, ◌||◌, Option, Some, None, List, [], refl}
use Rattle.xdg_ast.specs.declared.token.Kind.{Kind}
use Rattle.xdg_ast.specs.declared.token.Kind.TheVariants as k
use Rattle.xdg_ast.specs.Lexemes.{Lexeme}
use Rattle.xdg_ast.specs.Language.{Kinds, ◌or◌, is, none, holds, sees, kind_of, Within, full}
use Rattle.xdg_ast.specs.Grammar.{Inside, is_constant, name, bracketed_names, hashed, card_kind, card, elem_kind, elem, dim, use_of_class, prim, next_prim, type_kind, type_term}
use Rattle.xdg_parse.specs.Parts.{plain_type}

holds_or : (p q : Kinds) (o : Option Kind) → holds (p or q) o ≡ (holds p o || holds q o)
holds_or p q None = refl
holds_or p q (Some k) = refl

pub sees_or : (p q : Kinds) (ts : List Lexeme) → sees (p or q) ts ≡ (sees p ts || sees q ts)
sees_or p q ts = holds_or p q (kind_of ts)

pub card_first : (w : Within Inside) → (card w).first ≡ (is k.Exclamation or (is k.Question or (is k.Star or (is k.Plus or is k.Hash))))
unfolding card card_kind hashed
card_first w = refl

pub elem_first : (elem [] full).first ≡ (is k.LeftBracket or is_constant)
unfolding elem elem_kind bracketed_names name
elem_first = refl

pub next_prim_first : (next_prim full).first ≡ ((is k.Ampersand or none) or (is k.Dim or (is k.LeftParenthesis or is_constant)))
unfolding next_prim prim dim use_of_class name
next_prim_first = refl

pub type_first : (type_term full).first ≡ (is k.LeftBrace or (is k.Tuple or (is k.Set or (is k.ISet or (is k.Valency or (is k.Map or plain_type.first))))))
unfolding type_term type_kind name
type_first = refl
