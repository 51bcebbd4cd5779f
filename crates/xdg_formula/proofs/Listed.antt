-- The items of lists begin with tokens of some kinds, and take one.
use Rattle.std.proofs.Common.{ℕ, refl}
use Rattle.xdg_ast.specs.declared.token.Kind.TheVariants as k
use Rattle.xdg_ast.specs.Language.{is}
use Rattle.xdg_parse.proofs.Items.{Item}
use Rattle.xdg_parse.proofs.RuleParts.{item}
use Rattle.xdg_formula.specs.Words.{rule_word, is_rule_constant}
use Rattle.xdg_formula.specs.Rules.{constant, sign, next_prim, next_conj, under, rule}
use Rattle.xdg_formula.proofs.Lawful.{levels_below, constant_rule, sign_rule, next_prim_rule, next_conj_rule, rule_rule}

pub constant_item : Item is_rule_constant constant
unfolding constant
constant_item = item (constant_rule 0 0).rule refl

pub sign_item : Item (is k.Exclamation) sign
unfolding sign
sign_item = item (sign_rule 0 0).rule refl

pub next_prim_item : (n : ℕ) → Item (is k.Ampersand) (next_prim (under n))
unfolding next_prim
next_prim_item n = item (next_prim_rule n n (levels_below n n)).rule refl

pub next_conj_item : (n : ℕ) → Item (is k.Bar) (next_conj (under n))
unfolding next_conj
next_conj_item n = item (next_conj_rule n n (levels_below n n)).rule refl

pub rule_item : (n : ℕ) → Item (is rule_word) (rule n)
unfolding rule
rule_item n = item (rule_rule n n).rule refl
