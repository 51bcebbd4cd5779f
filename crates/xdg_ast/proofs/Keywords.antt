-- The kinds of keywords, by the places of these in their table.
use Rattle.std.proofs.Common.{◌≡◌, ◌∙◌, ℕ, List, [], ◌∷◌, Some, None, false, if◌then◌else◌, get_or, map, bytes_eq, ap, sym, refl}
use Rattle.std.proofs.lemmas.Bool.{or_parts}
use Rattle.std.proofs.lemmas.List.{get_or-map}
use Rattle.xdg_base.specs.Spelling.{keywords, is_keyword, IsKeywordPlace}
use Rattle.xdg_base.specs.Texts.{has_text}
use Rattle.xdg_facts.proofs.Texts.{either_way}
use Rattle.xdg_ast.specs.declared.token.Kind.{Kind}
use Rattle.xdg_ast.specs.Kinds.{keyword_kinds, kind_among, keyword_of}

each_kind : map Some keyword_kinds ≡ map (kind_among keywords keyword_kinds) keywords
each_kind = refl

pub kind_at : (name : List ℕ) (place : ℕ) (d : Kind) → IsKeywordPlace name (Some place) → Some (get_or keyword_kinds place d) ≡ keyword_of name
unfolding keyword_of
kind_at name place d (within, is) =
    sym (get_or-map Some keyword_kinds place d None within) ∙ ap (λ kinds. get_or kinds place None) each_kind ∙ get_or-map (kind_among keywords keyword_kinds) keywords place [] None within
    ∙ ap (kind_among keywords keyword_kinds) is

none_among : (words : List (List ℕ)) (kinds : List Kind) (name : List ℕ) → has_text words name ≡ false → None ≡ kind_among words kinds name
none_among [] kinds name none = refl
none_among (word ∷ words) [] name none = refl
none_among (word ∷ words) (kind ∷ kinds) name none =
    let parts = or_parts (bytes_eq word name) (has_text words name) none in
    none_among words kinds name parts.1 ∙ ap (λ b. if b then Some kind else kind_among words kinds name) (sym (either_way name word ∙ parts.0))

pub no_kind : (name : List ℕ) → IsKeywordPlace name None → None ≡ keyword_of name
unfolding is_keyword keyword_of
no_kind name none = none_among keywords keyword_kinds name none
