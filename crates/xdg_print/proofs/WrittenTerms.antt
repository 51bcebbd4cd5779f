-- The words of terms and expressions, written one after the other.
use Rattle.std.proofs.Common.{◌≡◌, List, map, ap, sym, ◌∙◌}
use Rattle.xdg_ast.specs.declared.token.Kind.{Kind}
use Rattle.xdg_ast.specs.declared.names.Pair.{Pair}
use Rattle.xdg_ast.specs.declared.names.Spanned.{Spanned}
use Rattle.xdg_ast.specs.declared.terms.TermKind.{TermKind}
use Rattle.xdg_ast.specs.declared.terms.ElemKind.{ElemKind}
use Rattle.xdg_ast.specs.declared.terms.GenKind.{GenKind}
use Rattle.xdg_ast.specs.declared.expressions.ExprKind.{ExprKind}
use Rattle.xdg_ast.specs.Grammar.{Params}
use Rattle.xdg_ast.specs.Words.{Word}
use Rattle.xdg_ast.specs.Trees.{Phrase, separated, in_conjunction, in_disjunction, gen_phrase, term_words, elem_words, pair_words, expr_phrase}
use Rattle.xdg_print.specs.declared.printer.Printer.{Printer}
use Rattle.xdg_print.specs.Printed.{put}
use Rattle.xdg_print.proofs.AgainTrees as form
use Rattle.xdg_print.proofs.AgainTrees.{elem_words-Const, elem_words-Count, elem_words-Keyed, expr_phrase-And, expr_phrase-Dim, expr_phrase-Or, expr_phrase-Use, gen_phrase-And, gen_phrase-Const, gen_phrase-Or, term_words-Card, term_words-Const, term_words-Gen, term_words-Number, term_words-Param}
use Rattle.xdg_facts.proofs.Lists.{fused}

-- ---- conjunctions and disjunctions

-- the members with a sign between two of them were added, which are the words of the whole
pub members_done : {A B : Type 0} (sign : Kind) (bracketed : Phrase → List Word) (phrase : A → Phrase) (part : B → Phrase) (given form : A) (members items : List B) (p q : Printer)
    → (phrase form).words ≡ separated sign (map bracketed (map part members)) → given ≡ form → items ≡ members → q ≡ put (separated sign (map (λ x. bracketed (part x)) items)) p → q ≡ put (phrase given).words p
members_done sign bracketed phrase part given form members items p q said is same written =
    written ∙ ap (λ z. put (separated sign (map (λ x. bracketed (part x)) z)) p) same ∙ ap (λ z. put (separated sign z) p) (sym (fused bracketed part members))
    ∙ sym (ap (λ z. put (phrase z).words p) is ∙ ap (λ ws. put ws p) said)

-- ---- generators

abbrev pub joined_gen : Spanned GenKind → List Word
joined_gen gen = in_conjunction (gen_phrase gen.kind)

abbrev pub disjoined_gen : Spanned GenKind → List Word
disjoined_gen gen = in_disjunction (gen_phrase gen.kind)

-- ---- terms

abbrev pub part_of : Params → Spanned ElemKind → List Word
part_of params elem = elem_words params elem.kind

abbrev pub said_words : Params → Pair (Spanned TermKind) → List Word
said_words params = pair_words (λ term. term_words params term.kind)

-- ---- expressions

abbrev pub joined_expr : Params → Spanned ExprKind → List Word
joined_expr params expr = in_conjunction (expr_phrase params expr.kind)

abbrev pub disjoined_expr : Params → Spanned ExprKind → List Word
disjoined_expr params expr = in_disjunction (expr_phrase params expr.kind)

-- what is written of each form of an expression, of a generator, of a term and of an element
pub ruleset expr_steps = (expr_phrase-Or, expr_phrase-And, expr_phrase-Dim, expr_phrase-Use)

pub ruleset gen_steps = (gen_phrase-Const, gen_phrase-And, gen_phrase-Or)

pub ruleset term_steps = (term_words-Const, term_words-Param, term_words-Number, term_words-Card, term_words-Gen, form.term_words-Tuple)

pub ruleset elem_steps = (elem_words-Count, elem_words-Keyed, elem_words-Const, form.elem_words-Tuple)
