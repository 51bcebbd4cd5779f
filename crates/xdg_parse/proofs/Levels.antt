-- What stands in brackets, at each level.
use Rattle.std.proofs.Common.{ℕ, ◌<◌}
use Rattle.xdg_ast.specs.declared.token.Kind.{Kind}
use Rattle.xdg_ast.specs.Language.{Language, is, Within, nested}
use Rattle.xdg_ast.specs.Grammar.{Params, Inside, gen, elems, terms, expr, type_term, two_types, more_types, braced, keyed_names, principle, parts, inside, under}
use Rattle.xdg_parse.specs.Laws.{Alive}
use Rattle.xdg_parse.proofs.Combinators.{Apart}
use Rattle.xdg_parse.proofs.RuleParts.{Rule}
use Rattle.xdg_parse.proofs.Leveling.{Matching, group_rule}
use Rattle.xdg_facts.proofs.Levels.{Below}

-- the rule, where so many brackets may be opened
abbrev pub RuleAt : {A : Type 0} → Params → ℕ → ℕ → (Within Inside → Language A) → Type 0
RuleAt params d n rule = Rule d n (rule (under params d)) (rule (under params n))

pub record Levels (params : Params) (d n : ℕ) : Type 0 where
  pub gen_is : RuleAt params d n gen
  pub elems_is : RuleAt params d n (elems params)
  pub terms_is : RuleAt params d n (terms params)
  pub expr_is : RuleAt params d n expr
  pub one_type_is : RuleAt params d n type_term
  pub two_types_is : RuleAt params d n two_types
  pub more_types_is : RuleAt params d n more_types
  pub braced_is : RuleAt params d n braced
  pub dims_is : Rule d n keyed_names keyed_names
  pub principle_is : RuleAt params d n principle
  pub parts_is : RuleAt params d n parts

abbrev pub LevelsBelow : Params → ℕ → ℕ → Type 0
LevelsBelow params = Below (Levels params)

pub nested_rule : {A : Type 0} {op cl : Kind} → Matching op cl → (body : Inside → Language A) (params : Params) → ((n : ℕ) → 0 < n → Alive ((body (inside params (under params n))).means))
    → ((w : Within Inside) → Apart (body (inside params w)).last (is cl)) → ((d n : ℕ) → Levels params d n → Rule d n (body (inside params (under params d))) (body (inside params (under params n))))
    → (d n : ℕ) → LevelsBelow params d n → RuleAt params d n (λ w. nested (is op) (is cl) w body)
unfolding under
nested_rule by body params alive apart pick = group_rule (under params) (inside params) (Levels params) (λ P p. p) (λ n P p. p) by body alive apart pick
