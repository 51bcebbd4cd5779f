-- Each rule of expressions, types and dimensions is read as it is meant.
use Rattle.std.proofs.Common.{ℕ, refl}
use Rattle.xdg_ast.specs.declared.token.Kind.TheVariants as k
use Rattle.xdg_ast.specs.Grammar.{Params, in_parentheses, inside, under, braced, braced_tail, braced_terms, conj, conjs, dim, expr, keyed_name, keyed_names, keyed_type, keyed_types, more_types, name, names, next_conj, next_prim, part, part_kind, parts, prim, prims, principle, principle_args, principle_dims, two_types, type_kind, type_term, use_of_class}
use Rattle.xdg_parse.proofs.EachKind.{apart_by, plain_by}
use Rattle.xdg_parse.proofs.RuleParts.{Rule, behind_rule, both_rule, chain_rule, either_rule, made_rule, many_rule, nothing_rule, optional_rule, pair_rule, spanned_rule, word_rule}
use Rattle.xdg_parse.proofs.Leveling.{braces, parentheses}
use Rattle.xdg_parse.proofs.Levels.{RuleAt, Levels, LevelsBelow, nested_rule}
use Rattle.xdg_parse.proofs.Bodies.{braced_alive, dims_alive, expr_alive, more_types_alive, principle_alive, two_types_alive, type_alive}
use Rattle.xdg_parse.proofs.RulesTerms.{braced_terms_rule, elems_rule, gen_rule, name_rule, names_rule, terms_rule}
use Rattle.xdg_facts.proofs.Levels.{below}

module _ (params : Params) (d n : ℕ) (b : LevelsBelow params d n) where
  -- ---- expressions

  pub dim_rule : RuleAt params d n dim
  unfolding dim name braced_terms
  dim_rule = spanned_rule _ (made_rule _ (behind_rule (word_rule k.Dim (plain_by _ refl refl) d n) (pair_rule (name_rule d n) (braced_terms_rule params d n b) (apart_by _ _ refl)) (apart_by _ _ refl))) refl

  pub use_of_class_rule : RuleAt params d n use_of_class
  unfolding use_of_class name braced_terms
  use_of_class_rule = spanned_rule _ (made_rule _ (pair_rule (name_rule d n) (optional_rule (braced_terms_rule params d n b) refl) (apart_by _ _ refl))) refl

  pub prim_rule : RuleAt params d n prim
  unfolding prim dim name braced_terms use_of_class inside expr conjs conj prims next_prim next_conj
  prim_rule = either_rule dim_rule (either_rule (nested_rule parentheses (λ j. j.expr) params (λ m lt. expr_alive (under params m)) (λ w. apart_by _ _ refl) (λ e m c. c.expr_is) d n b)
      use_of_class_rule refl (apart_by _ _ refl)) refl (apart_by _ _ refl)

  pub next_prim_rule : RuleAt params d n next_prim
  unfolding next_prim prim dim name braced_terms use_of_class
  next_prim_rule = behind_rule (optional_rule (word_rule k.Ampersand (plain_by _ refl refl) d n) refl) prim_rule (apart_by _ _ refl)

  pub prims_rule : RuleAt params d n prims
  unfolding prims prim dim name braced_terms use_of_class next_prim
  prims_rule = chain_rule prim_rule next_prim_rule refl (apart_by _ _ refl) (apart_by _ _ refl)

  pub conj_rule : RuleAt params d n conj
  unfolding conj prims prim dim name braced_terms use_of_class next_prim
  conj_rule = spanned_rule _ prims_rule refl

  pub next_conj_rule : RuleAt params d n next_conj
  unfolding next_conj conj prims prim dim name braced_terms use_of_class next_prim
  next_conj_rule = behind_rule (word_rule k.Bar (plain_by _ refl refl) d n) conj_rule (apart_by _ _ refl)

  pub conjs_rule : RuleAt params d n conjs
  unfolding conjs conj prims prim dim name braced_terms use_of_class next_prim next_conj
  conjs_rule = chain_rule conj_rule next_conj_rule refl (apart_by _ _ refl) (apart_by _ _ refl)

  pub expr_rule : RuleAt params d n expr
  unfolding expr conjs conj prims prim dim name braced_terms use_of_class next_prim next_conj
  expr_rule = spanned_rule _ conjs_rule refl

  -- ---- types

  pub one_type_rule : RuleAt params d n (λ w. in_parentheses w (λ j. j.one_type))
  unfolding inside type_term type_kind name
  one_type_rule = nested_rule parentheses (λ j. j.one_type) params (λ m lt. type_alive (under params m)) (λ w. apart_by _ _ refl) (λ e m c. c.one_type_is) d n b

  pub type_kind_rule : RuleAt params d n type_kind
  unfolding type_kind name inside braced braced_tail type_term keyed_types keyed_type names more_types two_types
  type_kind_rule =
      either_rule (nested_rule braces (λ j. j.braced) params (λ m lt. braced_alive (under params m)) (λ w. apart_by _ _ refl) (λ e m c. c.braced_is) d n b)
      (either_rule (made_rule _ (behind_rule (word_rule k.Tuple (plain_by _ refl refl) d n)
      (nested_rule parentheses (λ j. j.more_types) params (λ m lt. more_types_alive (under params m)) (λ w. apart_by _ _ refl) (λ e m c. c.more_types_is) d n b) (apart_by _ _ refl)))
      (either_rule (made_rule _ (behind_rule (word_rule k.Set (plain_by _ refl refl) d n) one_type_rule (apart_by _ _ refl)))
      (either_rule (made_rule _ (behind_rule (word_rule k.ISet (plain_by _ refl refl) d n) one_type_rule (apart_by _ _ refl)))
      (either_rule (made_rule _ (behind_rule (word_rule k.Valency (plain_by _ refl refl) d n) one_type_rule (apart_by _ _ refl)))
      (either_rule (made_rule _ (behind_rule (word_rule k.Map (plain_by _ refl refl) d n)
      (nested_rule parentheses (λ j. j.two_types) params (λ m lt. two_types_alive (under params m)) (λ w. apart_by _ _ refl) (λ e m c. c.two_types_is) d n b) (apart_by _ _ refl)))
      (either_rule (made_rule _ (word_rule k.Card (plain_by _ refl refl) d n))
      (either_rule (made_rule _ (word_rule k.Bool (plain_by _ refl refl) d n))
      (either_rule (made_rule _ (word_rule k.Int (plain_by _ refl refl) d n))
      (either_rule (made_rule _ (word_rule k.String (plain_by _ refl refl) d n))
      (made_rule _ (name_rule d n))
      refl (apart_by _ _ refl)) refl (apart_by _ _ refl)) refl (apart_by _ _ refl)) refl (apart_by _ _ refl)) refl (apart_by _ _ refl))
      refl (apart_by _ _ refl)) refl (apart_by _ _ refl)) refl (apart_by _ _ refl)) refl (apart_by _ _ refl)) refl (apart_by _ _ refl)

  pub type_term_rule : RuleAt params d n type_term
  unfolding type_term type_kind name
  type_term_rule = spanned_rule _ type_kind_rule refl

  pub keyed_type_rule : RuleAt params d n keyed_type
  unfolding keyed_type name type_term type_kind
  keyed_type_rule = both_rule _ (name_rule d n) (behind_rule (word_rule k.Colon (plain_by _ refl refl) d n) type_term_rule (apart_by _ _ refl)) (apart_by _ _ refl)

  pub keyed_types_rule : RuleAt params d n keyed_types
  unfolding keyed_types keyed_type name type_term type_kind
  keyed_types_rule = many_rule keyed_type_rule refl (apart_by _ _ refl)

  pub braced_tail_rule : RuleAt params d n braced_tail
  unfolding braced_tail name type_term type_kind keyed_types keyed_type names
  braced_tail_rule = either_rule (both_rule _ (behind_rule (word_rule k.Colon (plain_by _ refl refl) d n) type_term_rule (apart_by _ _ refl)) keyed_types_rule (apart_by _ _ refl))
      (made_rule _ (names_rule d n)) refl (apart_by _ _ refl)

  pub braced_rule : RuleAt params d n braced
  unfolding braced name braced_tail type_term type_kind keyed_types keyed_type names
  braced_rule = either_rule (both_rule _ (name_rule d n) braced_tail_rule (apart_by _ _ refl)) (nothing_rule _ d n) refl (apart_by _ _ refl)

  pub more_types_rule : RuleAt params d n more_types
  unfolding more_types type_term type_kind name
  more_types_rule = chain_rule type_term_rule type_term_rule refl (apart_by _ _ refl) (apart_by _ _ refl)

  pub two_types_rule : RuleAt params d n two_types
  unfolding two_types type_term type_kind name
  two_types_rule = pair_rule type_term_rule type_term_rule (apart_by _ _ refl)

  -- ---- dimensions

  pub keyed_name_rule : Rule d n keyed_name keyed_name
  unfolding keyed_name name
  keyed_name_rule = both_rule _ (name_rule d n) (behind_rule (word_rule k.Colon (plain_by _ refl refl) d n) (name_rule d n) (apart_by _ _ refl)) (apart_by _ _ refl)

  pub keyed_names_rule : Rule d n keyed_names keyed_names
  unfolding keyed_names keyed_name name
  keyed_names_rule = many_rule keyed_name_rule refl (apart_by _ _ refl)

  pub principle_dims_rule : RuleAt params d n principle_dims
  unfolding principle_dims inside keyed_names keyed_name name
  principle_dims_rule = behind_rule (word_rule k.Dims (plain_by _ refl refl) d n)
      (nested_rule braces (λ j. j.dims) params (λ m lt. dims_alive) (λ w. apart_by _ _ refl) (λ e m c. c.dims_is) d n b) (apart_by _ _ refl)

  pub principle_args_rule : RuleAt params d n principle_args
  unfolding principle_args braced_terms
  principle_args_rule = behind_rule (word_rule k.Args (plain_by _ refl refl) d n) (braced_terms_rule params d n b) (apart_by _ _ refl)

  pub principle_rule : RuleAt params d n principle
  unfolding principle principle_dims principle_args braced_terms
  principle_rule = pair_rule principle_dims_rule (optional_rule principle_args_rule refl) (apart_by _ _ refl)

  pub part_kind_rule : RuleAt params d n part_kind
  unfolding part_kind name type_term type_kind inside principle principle_dims principle_args braced_terms
  part_kind_rule =
      either_rule (made_rule _ (behind_rule (word_rule k.DefType (plain_by _ refl refl) d n) (pair_rule (name_rule d n) type_term_rule (apart_by _ _ refl)) (apart_by _ _ refl)))
      (either_rule (made_rule _ (behind_rule (word_rule k.DefLabelType (plain_by _ refl refl) d n) type_term_rule (apart_by _ _ refl)))
      (either_rule (made_rule _ (behind_rule (word_rule k.DefAttrsType (plain_by _ refl refl) d n) type_term_rule (apart_by _ _ refl)))
      (either_rule (made_rule _ (behind_rule (word_rule k.DefEntryType (plain_by _ refl refl) d n) type_term_rule (apart_by _ _ refl)))
      (either_rule (made_rule _ (behind_rule (word_rule k.UsePrinciple (plain_by _ refl refl) d n) (pair_rule (name_rule d n)
      (nested_rule braces (λ j. j.principle) params (principle_alive params) (λ w. apart_by _ _ refl) (λ e m c. c.principle_is) d n b) (apart_by _ _ refl)) (apart_by _ _ refl)))
      (either_rule (made_rule _ (behind_rule (word_rule k.Output (plain_by _ refl refl) d n) (name_rule d n) (apart_by _ _ refl)))
      (made_rule _ (behind_rule (word_rule k.UseOutput (plain_by _ refl refl) d n) (name_rule d n) (apart_by _ _ refl)))
      refl (apart_by _ _ refl)) refl (apart_by _ _ refl)) refl (apart_by _ _ refl)) refl (apart_by _ _ refl)) refl (apart_by _ _ refl)) refl (apart_by _ _ refl)

  pub part_rule : RuleAt params d n part
  unfolding part part_kind name type_term type_kind
  part_rule = spanned_rule _ part_kind_rule refl

  pub parts_rule : RuleAt params d n parts
  unfolding parts part part_kind name type_term type_kind
  parts_rule = many_rule part_rule refl (apart_by _ _ refl)

  levels_at : Levels params d n
  levels_at = record {
    gen_is = gen_rule params d n b;
    elems_is = elems_rule params d n b;
    terms_is = terms_rule params d n b;
    expr_is = expr_rule;
    one_type_is = type_term_rule;
    two_types_is = two_types_rule;
    more_types_is = more_types_rule;
    braced_is = braced_rule;
    dims_is = keyed_names_rule;
    principle_is = principle_rule;
    parts_is = parts_rule;
  }

-- ---- levels of brackets

pub levels_below : (params : Params) (d n : ℕ) → LevelsBelow params d n
levels_below params = below (Levels params) (levels_at params)
