-- Each rule of statements is read as it is meant.
use Rattle.std.proofs.Common.{ℕ, [], refl}
use Rattle.xdg_ast.specs.declared.token.Kind.TheVariants as k
use Rattle.xdg_ast.specs.Grammar.{Params, params_of, body, braced_terms, bracketed_names, card, card_kind, class_param, class_params, class_tail, conj, conjs, dim, expr, gconj, gconjs, gen, gprim, gprims, hashed, inside, name, next_conj, next_gconj, next_gprim, next_prim, part, part_kind, parts, preset, prim, prims, statement, statement_kind, statements, term, term_kind, type_kind, type_term, under, use_of_class}
use Rattle.xdg_parse.proofs.Combinators.{bind_law}
use Rattle.xdg_parse.proofs.EachKind.{apart_by, plain_by}
use Rattle.xdg_parse.proofs.SteadyParts.{bind_steady}
use Rattle.xdg_parse.proofs.RuleParts.{Rule, bind_alive, word_rule, both_rule, either_rule, many_rule, spanned_rule, made_rule, behind_rule, pair_rule, optional_rule}
use Rattle.xdg_parse.proofs.Leveling.{braces}
use Rattle.xdg_parse.proofs.Levels.{nested_rule}
use Rattle.xdg_parse.proofs.Bodies.{expr_alive, parts_alive}
use Rattle.xdg_parse.proofs.RulesTerms.{name_rule, term_rule}
use Rattle.xdg_parse.proofs.Rules.{levels_below}

pub preset_rule : (d n : ℕ) → Rule d n (preset d) (preset n)
unfolding preset term term_kind bracketed_names gen gconjs gconj gprims gprim name next_gprim next_gconj card card_kind hashed
preset_rule d n = optional_rule (behind_rule (word_rule k.Colon (plain_by _ refl refl) d n) (term_rule [] d n (levels_below [] d n)) (apart_by _ _ refl)) refl

pub class_param_rule : (d n : ℕ) → Rule d n (class_param d) (class_param n)
unfolding class_param name preset term term_kind bracketed_names gen gconjs gconj gprims gprim next_gprim next_gconj card card_kind hashed
class_param_rule d n = both_rule _ (made_rule _ (word_rule k.Name (plain_by _ refl refl) d n)) (preset_rule d n) (apart_by _ _ refl)

pub class_params_rule : (d n : ℕ) → Rule d n (class_params d) (class_params n)
unfolding class_params class_param name preset term term_kind bracketed_names gen gconjs gconj gprims gprim next_gprim next_gconj card card_kind hashed
class_params_rule d n = many_rule (class_param_rule d n) refl (apart_by _ _ refl)

pub body_rule : (params : Params) (d n : ℕ) → Rule d n (body params d) (body params n)
unfolding body inside expr conjs conj prims prim dim name braced_terms use_of_class next_prim next_conj
body_rule params d n = nested_rule braces (λ j. j.expr) params (λ m lt. expr_alive (under params m)) (λ w. apart_by _ _ refl) (λ e m c. c.expr_is) d n (levels_below params d n)

pub class_tail_rule : (d n : ℕ) → Rule d n (class_tail d) (class_tail n)
unfolding class_tail class_params class_param name preset term term_kind bracketed_names gen gconjs gconj gprims gprim next_gprim next_gconj card card_kind hashed body
class_tail_rule d n = record {
  law = bind_law _ (class_params d) (class_params n) (λ ps. body (params_of ps) d) (λ ps. body (params_of ps) n) (body [] d) (body [] n) d n
      (class_params_rule d n).law (λ ps. (body_rule (params_of ps) d n).law) (λ k. refl) refl (λ ps k. refl) (λ ps. refl) (λ ps k. refl)
      (λ lt ps. (body_rule (params_of ps) d n).alive lt) (apart_by _ _ refl);
  alive = λ lt. bind_alive _ _ _ ((class_params_rule d n).alive lt) (λ ps. (body_rule (params_of ps) d n).alive lt);
  steady = bind_steady _ (class_params d) (λ ps. body (params_of ps) d) (body [] d) (class_params_rule d n).steady (λ ps. (body_rule (params_of ps) d n).steady) (λ ps. refl);
  meant_steady = bind_steady _ (class_params n) (λ ps. body (params_of ps) n) (body [] n) (class_params_rule d n).meant_steady (λ ps. (body_rule (params_of ps) d n).meant_steady) (λ ps. refl);
}

pub statement_kind_rule : (d n : ℕ) → Rule d n (statement_kind d) (statement_kind n)
unfolding statement_kind name class_tail class_params class_param preset term term_kind bracketed_names gen gconjs gconj gprims gprim next_gprim next_gconj card card_kind hashed body inside parts part part_kind type_term type_kind
statement_kind_rule d n =
    either_rule (made_rule _ (behind_rule (word_rule k.UseDim (plain_by _ refl refl) d n) (name_rule d n) (apart_by _ _ refl)))
    (either_rule (made_rule _ (behind_rule (word_rule k.DefDim (plain_by _ refl refl) d n) (pair_rule (name_rule d n)
    (nested_rule braces (λ j. j.parts) [] (λ m lt. parts_alive (under [] m)) (λ w. apart_by _ _ refl) (λ e m c. c.parts_is) d n (levels_below [] d n)) (apart_by _ _ refl)) (apart_by _ _ refl)))
    (either_rule (made_rule _ (behind_rule (word_rule k.DefClass (plain_by _ refl refl) d n) (pair_rule (name_rule d n) (class_tail_rule d n) (apart_by _ _ refl)) (apart_by _ _ refl)))
    (made_rule _ (behind_rule (word_rule k.DefEntry (plain_by _ refl refl) d n) (body_rule [] d n) (apart_by _ _ refl)))
    refl (apart_by _ _ refl)) refl (apart_by _ _ refl)) refl (apart_by _ _ refl)

pub statement_rule : (d n : ℕ) → Rule d n (statement d) (statement n)
unfolding statement statement_kind name class_tail class_params class_param preset term term_kind bracketed_names gen gconjs gconj gprims gprim next_gprim next_gconj card card_kind hashed body
statement_rule d n = spanned_rule _ (statement_kind_rule d n) refl

pub statements_rule : (d n : ℕ) → Rule d n (statements d) (statements n)
unfolding statements statement statement_kind name class_tail class_params class_param preset term term_kind bracketed_names gen gconjs gconj gprims gprim next_gprim next_gconj card card_kind hashed body
statements_rule d n = many_rule (statement_rule d n) refl (apart_by _ _ refl)
