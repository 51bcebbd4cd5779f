use Rattle.std.proofs.Common.{◌≡◌, ◌∙◌, ℕ, List, Option, Some, None, is_some, sym, subst}
use Rattle.xdg_base.specs.Spelling.{is_keyword, keywords, IsKeywordPlace}
use Rattle.xdg_base.proofs.Keywords.{at_place}
use Rattle.xdg_base.proofs.spelling.is_keyword.Goals as goal

told : (text : List ℕ) (place : Option ℕ) → IsKeywordPlace text place → is_some place ≡ is_keyword text
unfolding is_keyword
told text None none = sym none
told text (Some place) (within, is) = subst (λ z. is_some (Some place) ≡ is_keyword z) is (sym (at_place keywords place within))

pub returns : goal.returns
returns c = c.is_some.ensures ∙ told c.args.text.now c.keyword_place.result c.keyword_place.ensures
