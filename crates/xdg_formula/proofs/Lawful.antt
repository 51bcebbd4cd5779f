-- Each rule is read as it is meant, and other tokens of the same kinds stand for something too.
use Rattle.std.proofs.Common.{ℕ, refl}
use Rattle.xdg_ast.specs.declared.token.Kind.TheVariants as k
use Rattle.xdg_parse.proofs.EachKind.{apart_by, plain_by}
use Rattle.xdg_formula.specs.Words.{rule_word, all_word, some_word, edge_word, above_word, left_word, same_word, attr_word, feat_word, is_name, is_rule_constant}
use Rattle.xdg_formula.specs.Rules.{node, constant, constants, value_kind, value, edge_places, two_nodes, above_places, valued, edge, above, left, same, attr, feat, atom, every, any, simple_kind, simple, sign, signs, prim, next_prim, prims, conj, next_conj, conjs, formula, inside, under, named, rule, rules}
use Rattle.xdg_formula.proofs.Bodied.{name_alive, constant_token_alive, constants_alive, edge_places_alive, two_nodes_alive, above_places_alive, valued_alive, formula_alive}
use Rattle.xdg_formula.proofs.Ruled.{Rule, RuleAt, Levels, behind_rule, both_rule, chain_rule, either_rule, kinds_rule, made_rule, many_rule, nested_rule, pair_rule, parentheses, spanned_rule, squares, word_rule}
use Rattle.xdg_formula.proofs.Tokens.{taken_by}
use Rattle.xdg_facts.proofs.Levels.{Below, below}

-- ---- names and constants

node_rule : (d n : ℕ) → Rule d n node node
unfolding node
node_rule d n = made_rule _ (kinds_rule is_name (plain_by _ refl refl) (taken_by _ refl) name_alive d n)

pub constant_rule : (d n : ℕ) → Rule d n constant constant
unfolding constant
constant_rule d n = made_rule _ (kinds_rule is_rule_constant (plain_by _ refl refl) (taken_by _ refl) constant_token_alive d n)

constants_rule : (d n : ℕ) → Rule d n constants constants
unfolding constants constant
constants_rule d n = many_rule (constant_rule d n) refl (apart_by _ _ refl)

pub sign_rule : (d n : ℕ) → Rule d n sign sign
unfolding sign
sign_rule d n = made_rule _ (word_rule k.Exclamation (plain_by _ refl refl) (taken_by _ refl) d n)

-- ---- places of atoms

two_nodes_rule : (d n : ℕ) → Rule d n two_nodes two_nodes
unfolding two_nodes node
two_nodes_rule d n = pair_rule (node_rule d n) (node_rule d n) (apart_by _ _ refl)

above_places_rule : (d n : ℕ) → Rule d n above_places above_places
unfolding above_places two_nodes constant node
above_places_rule d n = both_rule _ (constant_rule d n) (two_nodes_rule d n) (apart_by _ _ refl)

edge_places_rule : (d n : ℕ) → Rule d n edge_places edge_places
unfolding edge_places constant node
edge_places_rule d n =
    both_rule _ (constant_rule d n) (both_rule _ (node_rule d n) (pair_rule (constant_rule d n) (node_rule d n) (apart_by _ _ refl)) (apart_by _ _ refl)) (apart_by _ _ refl)

module _ (d n : ℕ) (b : Below Levels d n) where
  -- ---- values

  value_kind_rule : RuleAt d n value_kind
  unfolding value_kind constants constant
  value_kind_rule = either_rule (made_rule _ (nested_rule squares (λ _. constants) (λ m lt. constants_alive) (λ w. apart_by _ _ refl) (λ e m c. constants_rule e m) d n b))
      (made_rule _ (constant_rule d n)) refl (apart_by _ _ refl)

  value_rule : RuleAt d n value
  unfolding value value_kind constant
  value_rule = spanned_rule _ value_kind_rule refl

  valued_rule : RuleAt d n valued
  unfolding valued value value_kind constant node
  valued_rule =
      both_rule _ (node_rule d n) (both_rule _ (constant_rule d n) (pair_rule (constant_rule d n) value_rule (apart_by _ _ refl)) (apart_by _ _ refl)) (apart_by _ _ refl)

  -- ---- atoms

  edge_rule : RuleAt d n edge
  unfolding edge edge_places constant node
  edge_rule = made_rule _ (behind_rule (word_rule edge_word (plain_by _ refl refl) (taken_by _ refl) d n)
      (nested_rule parentheses (λ _. edge_places) (λ m lt. edge_places_alive) (λ w. apart_by _ _ refl) (λ e m c. edge_places_rule e m) d n b) (apart_by _ _ refl))

  above_rule : RuleAt d n above
  unfolding above above_places two_nodes constant node
  above_rule = made_rule _ (behind_rule (word_rule above_word (plain_by _ refl refl) (taken_by _ refl) d n)
      (nested_rule parentheses (λ _. above_places) (λ m lt. above_places_alive) (λ w. apart_by _ _ refl) (λ e m c. above_places_rule e m) d n b) (apart_by _ _ refl))

  left_rule : RuleAt d n left
  unfolding left two_nodes node
  left_rule = made_rule _ (behind_rule (word_rule left_word (plain_by _ refl refl) (taken_by _ refl) d n)
      (nested_rule parentheses (λ _. two_nodes) (λ m lt. two_nodes_alive) (λ w. apart_by _ _ refl) (λ e m c. two_nodes_rule e m) d n b) (apart_by _ _ refl))

  same_rule : RuleAt d n same
  unfolding same two_nodes node
  same_rule = made_rule _ (behind_rule (word_rule same_word (plain_by _ refl refl) (taken_by _ refl) d n)
      (nested_rule parentheses (λ _. two_nodes) (λ m lt. two_nodes_alive) (λ w. apart_by _ _ refl) (λ e m c. two_nodes_rule e m) d n b) (apart_by _ _ refl))

  attr_rule : RuleAt d n attr
  unfolding attr inside valued value value_kind constant node
  attr_rule = made_rule _ (behind_rule (word_rule attr_word (plain_by _ refl refl) (taken_by _ refl) d n)
      (nested_rule parentheses (λ j. j.valued) (λ m lt. valued_alive (under m)) (λ w. apart_by _ _ refl) (λ e m c. c.valued_is) d n b) (apart_by _ _ refl))

  feat_rule : RuleAt d n feat
  unfolding feat inside valued value value_kind constant node
  feat_rule = made_rule _ (behind_rule (word_rule feat_word (plain_by _ refl refl) (taken_by _ refl) d n)
      (nested_rule parentheses (λ j. j.valued) (λ m lt. valued_alive (under m)) (λ w. apart_by _ _ refl) (λ e m c. c.valued_is) d n b) (apart_by _ _ refl))

  atom_rule : RuleAt d n atom
  unfolding atom edge above left same attr feat
  atom_rule =
      either_rule edge_rule
      (either_rule above_rule
      (either_rule left_rule
      (either_rule same_rule
      (either_rule attr_rule feat_rule
      refl (apart_by _ _ refl)) refl (apart_by _ _ refl)) refl (apart_by _ _ refl)) refl (apart_by _ _ refl)) refl (apart_by _ _ refl)

  -- ---- formulas

  every_rule : RuleAt d n every
  unfolding every inside formula conjs conj prims prim signs sign simple simple_kind any atom edge above left same attr feat next_prim next_conj node
  every_rule = made_rule _ (behind_rule (word_rule all_word (plain_by _ refl refl) (taken_by _ refl) d n) (pair_rule (node_rule d n)
      (nested_rule parentheses (λ j. j.formula) formula_alive (λ w. apart_by _ _ refl) (λ e m c. c.formula_is) d n b) (apart_by _ _ refl)) (apart_by _ _ refl))

  any_rule : RuleAt d n any
  unfolding any inside formula conjs conj prims prim signs sign simple simple_kind every atom edge above left same attr feat next_prim next_conj node
  any_rule = made_rule _ (behind_rule (word_rule some_word (plain_by _ refl refl) (taken_by _ refl) d n) (pair_rule (node_rule d n)
      (nested_rule parentheses (λ j. j.formula) formula_alive (λ w. apart_by _ _ refl) (λ e m c. c.formula_is) d n b) (apart_by _ _ refl)) (apart_by _ _ refl))

  simple_kind_rule : RuleAt d n simple_kind
  unfolding simple_kind every any atom edge above left same attr feat
  simple_kind_rule = either_rule every_rule (either_rule any_rule atom_rule refl (apart_by _ _ refl)) refl (apart_by _ _ refl)

  simple_rule : RuleAt d n simple
  unfolding simple simple_kind every any atom edge above left same attr feat inside formula conjs conj prims prim signs sign next_prim next_conj node
  simple_rule = either_rule (nested_rule parentheses (λ j. j.formula) formula_alive (λ w. apart_by _ _ refl) (λ e m c. c.formula_is) d n b)
      (spanned_rule _ simple_kind_rule refl) refl (apart_by _ _ refl)

  signs_rule : Rule d n signs signs
  unfolding signs sign
  signs_rule = many_rule (sign_rule d n) refl (apart_by _ _ refl)

  prim_rule : RuleAt d n prim
  unfolding prim signs sign simple simple_kind every any atom edge above left same attr feat node
  prim_rule = spanned_rule _ (pair_rule signs_rule simple_rule (apart_by _ _ refl)) refl

  pub next_prim_rule : RuleAt d n next_prim
  unfolding next_prim prim signs sign simple simple_kind every any atom edge above left same attr feat node
  next_prim_rule = behind_rule (word_rule k.Ampersand (plain_by _ refl refl) (taken_by _ refl) d n) prim_rule (apart_by _ _ refl)

  prims_rule : RuleAt d n prims
  unfolding prims next_prim prim signs sign simple simple_kind every any atom edge above left same attr feat node
  prims_rule = chain_rule prim_rule next_prim_rule refl (apart_by _ _ refl) (apart_by _ _ refl)

  conj_rule : RuleAt d n conj
  unfolding conj prims next_prim prim signs sign simple simple_kind every any atom edge above left same attr feat node
  conj_rule = spanned_rule _ prims_rule refl

  pub next_conj_rule : RuleAt d n next_conj
  unfolding next_conj conj prims next_prim prim signs sign simple simple_kind every any atom edge above left same attr feat node
  next_conj_rule = behind_rule (word_rule k.Bar (plain_by _ refl refl) (taken_by _ refl) d n) conj_rule (apart_by _ _ refl)

  conjs_rule : RuleAt d n conjs
  unfolding conjs next_conj conj prims next_prim prim signs sign simple simple_kind every any atom edge above left same attr feat node
  conjs_rule = chain_rule conj_rule next_conj_rule refl (apart_by _ _ refl) (apart_by _ _ refl)

  formula_rule : RuleAt d n formula
  unfolding formula conjs next_conj conj prims next_prim prim signs sign simple simple_kind every any atom edge above left same attr feat node
  formula_rule = spanned_rule _ conjs_rule refl

  levels_at : Levels d n
  levels_at = record { formula_is = formula_rule; valued_is = valued_rule }

-- ---- levels of brackets

pub levels_below : (d n : ℕ) → Below Levels d n
levels_below = below Levels levels_at

-- ---- rules

named_rule : (d n : ℕ) → Rule d n (named d) (named n)
unfolding named constant formula conjs next_conj conj prims next_prim prim signs sign simple simple_kind every any atom edge above left same attr feat node
named_rule d n = pair_rule (constant_rule d n) (behind_rule (word_rule k.Colon (plain_by _ refl refl) (taken_by _ refl) d n) (formula_rule d n (levels_below d n)) (apart_by _ _ refl)) (apart_by _ _ refl)

pub rule_rule : (d n : ℕ) → Rule d n (rule d) (rule n)
unfolding rule named constant formula conjs next_conj conj prims next_prim prim signs sign simple simple_kind every any atom edge above left same attr feat node
rule_rule d n = made_rule _ (pair_rule (word_rule rule_word (plain_by _ refl refl) (taken_by _ refl) d n) (named_rule d n) (apart_by _ _ refl))

pub rules_rule : (d n : ℕ) → Rule d n (rules d) (rules n)
unfolding rules rule named constant formula conjs next_conj conj prims next_prim prim signs sign simple simple_kind every any atom edge above left same attr feat node
rules_rule d n = many_rule (rule_rule d n) refl (apart_by _ _ refl)
