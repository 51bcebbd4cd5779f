-- Each rule of terms is read as it is meant.
use Rattle.std.proofs.Common.{ℕ, refl}
use Rattle.xdg_ast.specs.declared.token.Kind.TheVariants as k
use Rattle.xdg_ast.specs.Language.{token}
use Rattle.xdg_ast.specs.Grammar.{Params, is_constant, inside, under, braced_terms, bracketed_names, card, card_kind, elem, elem_kind, elem_tail, elems, gconj, gconjs, gen, gprim, gprims, hashed, interval, keyed_term, name, names, next_gconj, next_gprim, num, nums, term, term_kind, terms}
use Rattle.xdg_parse.proofs.EachKind.{apart_by, plain_by}
use Rattle.xdg_parse.proofs.RuleParts.{Rule, constant_alive, behind_rule, both_rule, chain_rule, either_rule, kinds_rule, made_rule, many_rule, nothing_rule, pair_rule, spanned_rule, word_rule}
use Rattle.xdg_parse.proofs.Leveling.{braces, parentheses, squares}
use Rattle.xdg_parse.proofs.Levels.{RuleAt, LevelsBelow, nested_rule}
use Rattle.xdg_parse.proofs.Bodies.{elems_alive, gen_alive, interval_alive, names_alive, nums_alive, terms_alive}

-- ---- names and numbers

constant_rule : (d n : ℕ) → Rule d n (token is_constant) (token is_constant)
constant_rule d n = kinds_rule is_constant (plain_by _ refl refl) constant_alive d n

pub name_rule : (d n : ℕ) → Rule d n name name
unfolding name
name_rule d n = made_rule _ (constant_rule d n)

pub names_rule : (d n : ℕ) → Rule d n names names
unfolding names name
names_rule d n = many_rule (name_rule d n) refl (apart_by _ _ refl)

pub num_rule : (d n : ℕ) → Rule d n num num
unfolding num
num_rule d n = made_rule _ (word_rule k.Number (plain_by _ refl refl) d n)

pub nums_rule : (d n : ℕ) → Rule d n nums nums
unfolding nums num
nums_rule d n = many_rule (num_rule d n) refl (apart_by _ _ refl)

pub interval_rule : (d n : ℕ) → Rule d n interval interval
unfolding interval num
interval_rule d n = pair_rule (num_rule d n) (num_rule d n) (apart_by _ _ refl)

module _ (params : Params) (d n : ℕ) (b : LevelsBelow params d n) where
  pub bracketed_names_rule : RuleAt params d n bracketed_names
  unfolding bracketed_names names name
  bracketed_names_rule = nested_rule squares (λ _. names) params (λ m lt. names_alive) (λ w. apart_by _ _ refl) (λ e m c. names_rule e m) d n b

  -- ---- cardinalities

  pub hashed_rule : RuleAt params d n hashed
  unfolding hashed nums num interval
  hashed_rule = either_rule (made_rule _ (nested_rule braces (λ _. nums) params (λ m lt. nums_alive) (λ w. apart_by _ _ refl) (λ e m c. nums_rule e m) d n b))
      (made_rule _ (nested_rule squares (λ _. interval) params (λ m lt. interval_alive) (λ w. apart_by _ _ refl) (λ e m c. interval_rule e m) d n b)) refl (apart_by _ _ refl)

  pub card_kind_rule : RuleAt params d n card_kind
  unfolding card_kind hashed
  card_kind_rule =
      either_rule (made_rule _ (word_rule k.Exclamation (plain_by _ refl refl) d n))
      (either_rule (made_rule _ (word_rule k.Question (plain_by _ refl refl) d n))
      (either_rule (made_rule _ (word_rule k.Star (plain_by _ refl refl) d n))
      (either_rule (made_rule _ (word_rule k.Plus (plain_by _ refl refl) d n))
      (behind_rule (word_rule k.Hash (plain_by _ refl refl) d n) hashed_rule (apart_by _ _ refl))
      refl (apart_by _ _ refl)) refl (apart_by _ _ refl)) refl (apart_by _ _ refl)) refl (apart_by _ _ refl)

  pub card_rule : RuleAt params d n card
  unfolding card card_kind hashed
  card_rule = spanned_rule _ card_kind_rule refl

  -- ---- generators

  pub gprim_rule : RuleAt params d n gprim
  unfolding gprim name inside gen gconjs gconj gprims next_gprim next_gconj
  gprim_rule = either_rule (nested_rule parentheses (λ j. j.gen) params (λ m lt. gen_alive (under params m)) (λ w. apart_by _ _ refl) (λ e m c. c.gen_is) d n b)
      (spanned_rule _ (made_rule _ (name_rule d n)) refl) refl (apart_by _ _ refl)

  pub next_gprim_rule : RuleAt params d n next_gprim
  unfolding next_gprim gprim name
  next_gprim_rule = behind_rule (word_rule k.Ampersand (plain_by _ refl refl) d n) gprim_rule (apart_by _ _ refl)

  pub gprims_rule : RuleAt params d n gprims
  unfolding gprims gprim name next_gprim
  gprims_rule = chain_rule gprim_rule next_gprim_rule refl (apart_by _ _ refl) (apart_by _ _ refl)

  pub gconj_rule : RuleAt params d n gconj
  unfolding gconj gprims gprim name next_gprim
  gconj_rule = spanned_rule _ gprims_rule refl

  pub next_gconj_rule : RuleAt params d n next_gconj
  unfolding next_gconj gconj gprims gprim name next_gprim
  next_gconj_rule = behind_rule (word_rule k.Bar (plain_by _ refl refl) d n) gconj_rule (apart_by _ _ refl)

  pub gconjs_rule : RuleAt params d n gconjs
  unfolding gconjs gconj gprims gprim name next_gprim next_gconj
  gconjs_rule = chain_rule gconj_rule next_gconj_rule refl (apart_by _ _ refl) (apart_by _ _ refl)

  pub gen_rule : RuleAt params d n gen
  unfolding gen gconjs gconj gprims gprim name next_gprim next_gconj
  gen_rule = spanned_rule _ gconjs_rule refl

  -- ---- terms

  pub term_kind_rule : RuleAt params d n (term_kind params)
  unfolding term_kind bracketed_names gen gconjs gconj gprims gprim name next_gprim next_gconj card card_kind hashed inside elems elem elem_kind elem_tail term
  term_kind_rule =
      either_rule (made_rule _ (word_rule k.Number (plain_by _ refl refl) d n))
      (either_rule (made_rule _ (nested_rule braces (λ j. j.elems) params (λ m lt. elems_alive params (under params m)) (λ w. apart_by _ _ refl) (λ e m c. c.elems_is) d n b))
      (either_rule (made_rule _ bracketed_names_rule)
      (either_rule (made_rule _ (behind_rule (word_rule k.Dollar (plain_by _ refl refl) d n) gen_rule (apart_by _ _ refl)))
      (either_rule (made_rule _ (constant_rule d n))
      (made_rule _ card_rule)
      refl (apart_by _ _ refl)) refl (apart_by _ _ refl)) refl (apart_by _ _ refl)) refl (apart_by _ _ refl)) refl (apart_by _ _ refl)

  pub term_rule : RuleAt params d n (term params)
  unfolding term term_kind bracketed_names gen gconjs gconj gprims gprim name next_gprim next_gconj card card_kind hashed
  term_rule = spanned_rule _ term_kind_rule refl

  pub elem_tail_rule : RuleAt params d n (elem_tail params)
  unfolding elem_tail term term_kind bracketed_names gen gconjs gconj gprims gprim name next_gprim next_gconj card card_kind hashed
  elem_tail_rule =
      either_rule (made_rule _ (behind_rule (word_rule k.Colon (plain_by _ refl refl) d n) term_rule (apart_by _ _ refl)))
      (either_rule (made_rule _ card_rule) (nothing_rule _ d n) refl (apart_by _ _ refl)) refl (apart_by _ _ refl)

  pub elem_kind_rule : RuleAt params d n (elem_kind params)
  unfolding elem_kind bracketed_names name elem_tail term term_kind gen gconjs gconj gprims gprim next_gprim next_gconj card card_kind hashed
  elem_kind_rule = either_rule (made_rule _ bracketed_names_rule) (both_rule _ (name_rule d n) elem_tail_rule (apart_by _ _ refl)) refl (apart_by _ _ refl)

  pub elem_rule : RuleAt params d n (elem params)
  unfolding elem elem_kind bracketed_names name elem_tail term term_kind gen gconjs gconj gprims gprim next_gprim next_gconj card card_kind hashed
  elem_rule = spanned_rule _ elem_kind_rule refl

  pub elems_rule : RuleAt params d n (elems params)
  unfolding elems elem elem_kind bracketed_names name elem_tail term term_kind gen gconjs gconj gprims gprim next_gprim next_gconj card card_kind hashed
  elems_rule = many_rule elem_rule refl (apart_by _ _ refl)

  pub keyed_term_rule : RuleAt params d n (keyed_term params)
  unfolding keyed_term name term term_kind bracketed_names gen gconjs gconj gprims gprim next_gprim next_gconj card card_kind hashed
  keyed_term_rule = both_rule _ (name_rule d n) (behind_rule (word_rule k.Colon (plain_by _ refl refl) d n) term_rule (apart_by _ _ refl)) (apart_by _ _ refl)

  pub terms_rule : RuleAt params d n (terms params)
  unfolding terms keyed_term name term term_kind bracketed_names gen gconjs gconj gprims gprim next_gprim next_gconj card card_kind hashed
  terms_rule = many_rule keyed_term_rule refl (apart_by _ _ refl)

  pub braced_terms_rule : RuleAt params d n braced_terms
  unfolding braced_terms inside terms keyed_term name term term_kind bracketed_names gen gconjs gconj gprims gprim next_gprim next_gconj card card_kind hashed
  braced_terms_rule = nested_rule braces (λ j. j.terms) params (λ m lt. terms_alive params (under params m)) (λ w. apart_by _ _ refl) (λ e m c. c.terms_is) d n b
