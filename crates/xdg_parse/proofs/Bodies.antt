-- What stands in brackets means something.
use Rattle.std.proofs.Common.{ℕ, zero, suc, ◌<◌, refl, arith}
use Rattle.xdg_ast.specs.declared.token.Kind.TheVariants as k
use Rattle.xdg_ast.specs.Language.{Within}
use Rattle.xdg_ast.specs.Grammar.{Params, Inside, braced, conj, conjs, elems, expr, gconj, gconjs, gen, gprim, gprims, inside, interval, keyed_names, more_types, name, names, num, nums, parts, prim, prims, principle, principle_dims, terms, two_types, type_kind, type_term, under, use_of_class}
use Rattle.xdg_parse.specs.Laws.{Alive}
use Rattle.xdg_parse.proofs.Nested.{group-alive}
use Rattle.xdg_parse.proofs.EachKind.{opens_by, closes_by, some, is_self, token_alive}
use Rattle.xdg_parse.proofs.RuleParts.{nothing_alive, both_alive, made_alive, right_alive, many_alive, spanned_alive, chain_alive, constant_alive}

pub name_alive : Alive (name.means)
unfolding name
name_alive = made_alive _ _ constant_alive

pub names_alive : Alive (names.means)
unfolding names
names_alive = many_alive _

pub nums_alive : Alive (nums.means)
unfolding nums
nums_alive = many_alive _

pub interval_alive : Alive (interval.means)
unfolding interval num
interval_alive = both_alive _ _ _ (made_alive _ _ (token_alive k.Number)) (made_alive _ _ (token_alive k.Number))

pub elems_alive : (params : Params) (w : Within Inside) → Alive ((elems params w).means)
unfolding elems
elems_alive params w = many_alive _

pub terms_alive : (params : Params) (w : Within Inside) → Alive ((terms params w).means)
unfolding terms
terms_alive params w = many_alive _

pub gen_alive : (w : Within Inside) → Alive ((gen w).means)
unfolding gen gconjs gconj gprims gprim
gen_alive w = spanned_alive _ _ (chain_alive _ _ (spanned_alive _ _ (chain_alive _ _ (right_alive _ _ (spanned_alive _ _ (made_alive _ _ name_alive))))))

pub expr_alive : (w : Within Inside) → Alive ((expr w).means)
unfolding expr conjs conj prims prim use_of_class
expr_alive w = spanned_alive _ _ (chain_alive _ _ (spanned_alive _ _ (chain_alive _ _ (right_alive _ _ (right_alive _ _
    (spanned_alive _ _ (made_alive _ _ (both_alive _ _ _ name_alive (right_alive _ _ (nothing_alive _))))))))))

pub type_alive : (w : Within Inside) → Alive ((type_term w).means)
unfolding type_term type_kind
type_alive w = spanned_alive _ _ (right_alive _ _ (right_alive _ _ (right_alive _ _ (right_alive _ _ (right_alive _ _
    (right_alive _ _ (right_alive _ _ (right_alive _ _ (right_alive _ _ (right_alive _ _ (made_alive _ _ name_alive)))))))))))

pub two_types_alive : (w : Within Inside) → Alive ((two_types w).means)
unfolding two_types
two_types_alive w = both_alive _ _ _ (type_alive w) (type_alive w)

pub more_types_alive : (w : Within Inside) → Alive ((more_types w).means)
unfolding more_types
more_types_alive w = chain_alive _ _ (type_alive w)

pub braced_alive : (w : Within Inside) → Alive ((braced w).means)
unfolding braced
braced_alive w = right_alive _ _ (nothing_alive _)

pub dims_alive : Alive (keyed_names.means)
unfolding keyed_names
dims_alive = many_alive _

pub parts_alive : (w : Within Inside) → Alive ((parts w).means)
unfolding parts
parts_alive w = many_alive _

-- where one more bracket may be opened
pub principle_alive : (params : Params) (n : ℕ) → 0 < n → Alive ((principle (under params n)).means)
unfolding principle principle_dims under inside
principle_alive params zero lt = absurd (omega arith)
principle_alive params (suc n) lt = both_alive _ _ _
    (both_alive _ _ _ (token_alive k.Dims) (group-alive _ _ (λ j. j.dims) (opens_by _ refl) (closes_by _ refl refl) (some k.LeftBrace) (is_self k.LeftBrace) (some k.RightBrace) (is_self k.RightBrace) (inside params (under params n)) dims_alive))
    (right_alive _ _ (nothing_alive _))
