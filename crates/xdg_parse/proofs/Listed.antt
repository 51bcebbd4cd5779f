-- The items of lists begin with tokens of some kinds, and take one.
use Rattle.std.proofs.Common.{ℕ, [], refl}
use Rattle.xdg_ast.specs.declared.token.Kind.TheVariants as k
use Rattle.xdg_ast.specs.Language.{is, full}
use Rattle.xdg_ast.specs.Grammar.{Params, is_constant, name, num, elem_kind, elem, bracketed_names, keyed_term, next_gprim, next_gconj, prim, dim, use_of_class, next_prim, next_conj, type_kind, type_term, keyed_type, keyed_name, part_kind, part, class_param, under, statement_kind, statement}
use Rattle.xdg_parse.proofs.Items.{Item}
use Rattle.xdg_parse.proofs.RuleParts.{item}
use Rattle.xdg_parse.proofs.RulesTerms.{name_rule, num_rule, elem_rule, keyed_term_rule, next_gprim_rule, next_gconj_rule}
use Rattle.xdg_parse.proofs.Rules.{levels_below, next_prim_rule, next_conj_rule, type_term_rule, keyed_type_rule, keyed_name_rule, part_rule}
use Rattle.xdg_parse.proofs.RulesStatements.{class_param_rule, statement_rule}

pub name_item : Item is_constant name
unfolding name
name_item = item (name_rule 0 0) refl

pub num_item : Item (is k.Number) num
unfolding num
num_item = item (num_rule 0 0) refl

pub elem_item : (params : Params) (n : ℕ) → Item ((elem [] full).first) (elem params (under params n))
unfolding elem elem_kind bracketed_names name
elem_item params n = item (elem_rule params n n (levels_below params n n)) refl

pub keyed_term_item : (params : Params) (n : ℕ) → Item is_constant (keyed_term params (under params n))
unfolding keyed_term name
keyed_term_item params n = item (keyed_term_rule params n n (levels_below params n n)) refl

pub next_gprim_item : (params : Params) (n : ℕ) → Item (is k.Ampersand) (next_gprim (under params n))
unfolding next_gprim
next_gprim_item params n = item (next_gprim_rule params n n (levels_below params n n)) refl

pub next_gconj_item : (params : Params) (n : ℕ) → Item (is k.Bar) (next_gconj (under params n))
unfolding next_gconj
next_gconj_item params n = item (next_gconj_rule params n n (levels_below params n n)) refl

pub next_prim_item : (params : Params) (n : ℕ) → Item ((next_prim full).first) (next_prim (under params n))
unfolding next_prim prim dim use_of_class name
next_prim_item params n = item (next_prim_rule params n n (levels_below params n n)) refl

pub next_conj_item : (params : Params) (n : ℕ) → Item (is k.Bar) (next_conj (under params n))
unfolding next_conj
next_conj_item params n = item (next_conj_rule params n n (levels_below params n n)) refl

pub type_term_item : (params : Params) (n : ℕ) → Item ((type_term full).first) (type_term (under params n))
unfolding type_term type_kind name
type_term_item params n = item (type_term_rule params n n (levels_below params n n)) refl

pub keyed_type_item : (params : Params) (n : ℕ) → Item is_constant (keyed_type (under params n))
unfolding keyed_type name
keyed_type_item params n = item (keyed_type_rule params n n (levels_below params n n)) refl

pub keyed_name_item : Item is_constant keyed_name
unfolding keyed_name name
keyed_name_item = item (keyed_name_rule [] 0 0 tt) refl

pub part_item : (params : Params) (n : ℕ) → Item ((part full).first) (part (under params n))
unfolding part part_kind
part_item params n = item (part_rule params n n (levels_below params n n)) refl

pub class_param_item : (n : ℕ) → Item (is k.Name) (class_param n)
unfolding class_param
class_param_item n = item (class_param_rule n n) refl

pub statement_item : (n : ℕ) → Item ((statement 0).first) (statement n)
unfolding statement statement_kind
statement_item n = item (statement_rule n n) refl
