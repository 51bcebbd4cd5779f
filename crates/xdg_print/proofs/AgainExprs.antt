-- Expressions are read again.
use Rattle.std.proofs.Common.{◌≡◌, ℕ, List, ◌∷◌, ◌++◌, Option, Some, None, refl, sym, ap, ◌∙◌, inl, inr, arith}
use Rattle.xdg_ast.specs.declared.token.Kind.TheVariants as k
use Rattle.xdg_ast.specs.declared.names.Name.{Name}
use Rattle.xdg_ast.specs.declared.names.Pair.{Pair}
use Rattle.xdg_ast.specs.declared.expressions.ExprKind.TheVariants as x
use Rattle.xdg_ast.specs.Language.{is, token, optional}
use Rattle.xdg_ast.specs.Grammar.{Params, Term, Expr, in_parentheses, inside, under, braced_terms, dim, use_of_class, prim, next_prim, prims, conj, next_conj, conjs, expr, at_span}
use Rattle.xdg_ast.specs.Words.{Word, mark}
use Rattle.xdg_ast.specs.Trees.{name_word, terms_words, args_words, expr_phrase, plainly}
use Rattle.xdg_ast.specs.Same.{nowhere, bare_part, bare_name, bare_option, bare_terms, bare_expr}
use Rattle.xdg_print.proofs.AgainTrees.{expr_phrase-Dim, expr_phrase-Use, bare_expr_of}
use Rattle.xdg_print.proofs.AgainWritten.{Written, written_in, token_written, made_written, both_written, Gives, stronger, both_given, behind_gives, either_gives}
use Rattle.xdg_print.proofs.AgainNames.{Keeps, name_words, name_keeps}
use Rattle.xdg_print.proofs.AgainKept.{behind_keeps, pair_keeps, option_words, optional_keeps}
use Rattle.xdg_print.proofs.AgainPhrases.{Natural, GoodPrim, as_disj, disj_keeps, in_brackets, plain_gives, disj_gives}
use Rattle.xdg_print.proofs.AgainLevels.{exprs, Depth, nested_gives, nested_written, braces_keep}

-- a member behind a sign
next_written : (params : Params) (n : ℕ) (ws : List Word) (P : Expr → Type 0) → Written (prim (under params n)) ws P → Written (next_prim (under params n)) (mark k.Ampersand ∷ ws) P
unfolding next_prim
next_written params n ws P a =
    both_written {l = optional (token (is k.Ampersand))} (written_in (made_written {Q = λ _. Unit {0}} (token_written (is k.Ampersand) (mark k.Ampersand) (refl, refl) refl) (λ _ _. tt)) (λ _ _ i. inl i)) a (λ _ _ _ p. p)

args_are : (params : Params) (args : Option (List (Pair Term))) → args_words params args ≡ option_words (terms_words params) args
args_are params None = refl
args_are params (Some pairs) = refl

abbrev Uses : Type 0
Uses = Name × Option (List (Pair Term))

abbrev Dims : Type 0
Dims = Name × List (Pair Term)

module _ {params : Params} {m n : ℕ} (depth : Depth params m n) where
  pub braced_terms_keep : Keeps (braced_terms (under params m)) (braced_terms (under params n)) bare_terms (terms_words params)
  unfolding braced_terms inside
  braced_terms_keep = braces_keep (λ j. j.terms) depth (λ m' n' l levels. levels.terms_is n' l)

  abbrev Prim : Expr → Type 0
  Prim = GoodPrim (exprs params) (prim (under params n)) (next_prim (under params n))

  dim_gives : Gives (dim (under params m)) Prim
  unfolding dim prim
  dim_gives = plain_gives (exprs params) (prim (under params n)) (next_prim (under params n)) (next_written params n) (λ (said : Dims). x.Dim said.0 said.1)
      (λ said. (bare_name said.0, bare_terms said.1)) (λ said. mark k.Dim ∷ (name_words said.0 ++ terms_words params said.1)) (λ s said. expr_phrase-Dim params said.0 said.1)
      (λ s s' a b h. ap (λ kind. at_span nowhere kind) (bare_expr_of _ (x.rolls-Dim b.0 b.1) ∙ (ap (λ (said : Dims). x.Dim said.0 said.1) h ∙ sym (bare_expr_of _ (x.rolls-Dim a.0 a.1)))))
      (behind_keeps k.Dim (refl, refl) refl (pair_keeps name_keeps braced_terms_keep)) (λ ts y i. inl i)

  use_gives : Gives (use_of_class (under params m)) Prim
  unfolding use_of_class prim
  use_gives = plain_gives (exprs params) (prim (under params n)) (next_prim (under params n)) (next_written params n) (λ (said : Uses). x.Use said.0 said.1)
      (λ said. (bare_name said.0, bare_option bare_terms said.1)) (λ said. name_words said.0 ++ option_words (terms_words params) said.1)
      (λ s said. expr_phrase-Use params said.0 said.1 ∙ ap (λ ws. plainly (name_word said.0 ∷ ws)) (args_are params said.1))
      (λ s s' a b h. ap (λ kind. at_span nowhere kind) (bare_expr_of _ (x.rolls-Use b.0 b.1) ∙ (ap (λ (said : Uses). x.Use said.0 said.1) h ∙ sym (bare_expr_of _ (x.rolls-Use a.0 a.1)))))
      (pair_keeps name_keeps (optional_keeps braced_terms_keep)) (λ ts y i. inr (inr i))

  bracketed_expr : Gives (in_parentheses (under params m) (λ j. j.expr)) Prim
  unfolding inside prim expr conjs conj prims next_conj
  bracketed_expr = nested_gives (is k.LeftParenthesis) (is k.RightParenthesis) (λ j. j.expr) depth (λ m' n' e l levels.
      stronger (both_given (levels.expr_is n (omega (arith, depth.le))) (levels.expr_is n' l))
      (λ x h. in_brackets (exprs params) (prim (under params n)) (next_prim (under params n)) (next_written params n) x h.0
      (written_in (nested_written k.LeftParenthesis k.RightParenthesis (λ j. j.expr) params n n' e (refl, refl) refl (refl, refl) refl
      (as_disj (exprs params) (prim (under params n')) (next_prim (under params n')) (next_written params n') x h.1)) (λ ts y i. inr (inl i)))))

  prim_gives : Gives (prim (under params m)) Prim
  unfolding prim
  prim_gives = either_gives dim_gives (either_gives bracketed_expr use_gives)

  next_gives : Gives (next_prim (under params m)) Prim
  unfolding next_prim
  next_gives = behind_gives (optional (token (is k.Ampersand))) prim_gives

  pub expr_gives : Gives (expr (under params m)) (Natural (exprs params) (prim (under params n)) (next_prim (under params n)))
  unfolding expr conjs conj prims next_conj
  expr_gives = disj_gives (exprs params) (prim (under params n)) (next_prim (under params n)) (next_written params n) (prim (under params m)) (next_prim (under params m)) prim_gives next_gives

  pub expr_keeps : Keeps (expr (under params m)) (expr (under params n)) (bare_part bare_expr) (λ x. (expr_phrase params x.kind).words)
  unfolding expr conjs conj prims next_conj
  expr_keeps = disj_keeps (exprs params) (prim (under params n)) (next_prim (under params n)) (next_written params n) expr_gives
