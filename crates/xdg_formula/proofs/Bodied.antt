-- What stands in brackets means something.
use Rattle.std.proofs.Common.{ℕ, zero, suc, ◌<◌, [], ◌∷◌, refl, arith}
use Rattle.xdg_ast.specs.declared.token.Kind.TheVariants as k
use Rattle.xdg_ast.specs.Language.{Within, token}
use Rattle.xdg_parse.specs.Laws.{Alive}
use Rattle.xdg_parse.proofs.Leveling.{parentheses, group_alive}
use Rattle.xdg_parse.proofs.EachKind.{some, token_alive}
use Rattle.xdg_parse.proofs.RuleParts.{both_alive, made_alive, left_alive, right_alive, many_alive, spanned_alive, chain_alive}
use Rattle.xdg_formula.specs.Words.{edge_word, is_name, is_rule_constant}
use Rattle.xdg_formula.specs.Rules.{Inside, node, constant, constants, value_kind, value, edge_places, two_nodes, above_places, valued, edge, atom, simple_kind, simple, signs, prim, prims, conj, conjs, formula, inside, under}

pub name_alive : Alive ((token is_name).means)
name_alive = record { tokens = some k.Name ∷ []; value = some k.Name; means = (refl, refl) }

pub constant_token_alive : Alive ((token is_rule_constant).means)
constant_token_alive = record { tokens = some k.Name ∷ []; value = some k.Name; means = (refl, refl) }

node_alive : Alive (node.means)
unfolding node
node_alive = made_alive _ _ name_alive

constant_alive : Alive (constant.means)
unfolding constant
constant_alive = made_alive _ _ constant_token_alive

pub constants_alive : Alive (constants.means)
unfolding constants
constants_alive = many_alive _

pub edge_places_alive : Alive (edge_places.means)
unfolding edge_places
edge_places_alive = both_alive _ _ _ constant_alive (both_alive _ _ _ node_alive (both_alive _ _ _ constant_alive node_alive))

pub two_nodes_alive : Alive (two_nodes.means)
unfolding two_nodes
two_nodes_alive = both_alive _ _ _ node_alive node_alive

pub above_places_alive : Alive (above_places.means)
unfolding above_places
above_places_alive = both_alive _ _ _ constant_alive two_nodes_alive

pub valued_alive : (w : Within Inside) → Alive ((valued w).means)
unfolding valued value value_kind
valued_alive w = both_alive _ _ _ node_alive (both_alive _ _ _ constant_alive (both_alive _ _ _ constant_alive (spanned_alive _ _ (right_alive _ _ (made_alive _ _ constant_alive)))))

-- where one more bracket may be opened
edge_alive : (n : ℕ) → Alive ((edge (under (suc n))).means)
unfolding edge under
edge_alive n = made_alive _ _ (both_alive _ _ _ (token_alive edge_word)
    (group_alive parentheses (λ _. edge_places) (inside (under n)) edge_places_alive))

simple_alive : (n : ℕ) → Alive ((simple (under (suc n))).means)
unfolding simple simple_kind atom
simple_alive n = right_alive _ _ (spanned_alive _ _ (right_alive _ _ (right_alive _ _ (left_alive _ _ (edge_alive n)))))

prim_alive : (n : ℕ) → Alive ((prim (under (suc n))).means)
unfolding prim signs
prim_alive n = spanned_alive _ _ (both_alive _ _ _ (many_alive _) (simple_alive n))

pub formula_alive : (n : ℕ) → 0 < n → Alive ((formula (under n)).means)
unfolding formula conjs conj prims
formula_alive zero lt = absurd (omega arith)
formula_alive (suc n) lt = spanned_alive _ _ (chain_alive _ _ (spanned_alive _ _ (chain_alive _ _ (prim_alive n))))
