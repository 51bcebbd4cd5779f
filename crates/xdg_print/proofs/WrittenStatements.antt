-- The words and lines of statements, written one after the other.
use Rattle.std.proofs.Common.{◌≡◌, List, [], ◌∷◌, flat_map, map, ap, sym, refl, ◌∙◌, Some, None}
use Rattle.xdg_ast.specs.declared.token.Kind.TheVariants as k
use Rattle.xdg_ast.specs.declared.names.Name.{Name}
use Rattle.xdg_ast.specs.declared.names.Pair.{Pair}
use Rattle.xdg_ast.specs.declared.names.Spanned.{Spanned}
use Rattle.xdg_ast.specs.declared.terms.TermKind.{TermKind}
use Rattle.xdg_ast.specs.declared.expressions.ExprKind.{ExprKind}
use Rattle.xdg_ast.specs.declared.grammar.ClassParam.{ClassParam}
use Rattle.xdg_ast.specs.declared.grammar.DimPartKind.{DimPartKind}
use Rattle.xdg_ast.specs.declared.grammar.StatementKind.{StatementKind}
use Rattle.xdg_ast.specs.declared.grammar.StatementKind.TheVariants as s
use Rattle.xdg_ast.specs.declared.grammar.Grammar.{Grammar}
use Rattle.xdg_ast.specs.Grammar.{params_of}
use Rattle.xdg_ast.specs.Words.{mark}
use Rattle.xdg_ast.specs.Trees.{name_word, in_braces, terms_words}
use Rattle.xdg_ast.specs.Canon.{Line, line, indented, canon, principle_words, part_words, class_param_words, body_words, statement_words, statement_lines}
use Rattle.xdg_print.specs.declared.printer.Printer.{Printer}
use Rattle.xdg_print.specs.Printed.{put, put_lines, begun, ended, name_pairs_words, dim_lines}
use Rattle.xdg_print.proofs.Put.{start, put_append, put_lines_append, text_of_lines}
use Rattle.xdg_print.proofs.Written.{put_mark, put_braces}

-- ---- principles

pub put_principle_none : (dims : List (Pair Name)) (p : Printer) → put (principle_words dims None) p ≡ put_mark k.RightBrace (put (name_pairs_words dims) (put_mark k.LeftBrace (put_mark k.Dims p)))
put_principle_none dims p = put_braces (name_pairs_words dims) (put_mark k.Dims p)

pub put_principle_some : (dims : List (Pair Name)) (args : List (Pair (Spanned TermKind))) (p : Printer) → put (principle_words dims (Some args)) p ≡ put (terms_words [] args) (put_mark k.Args (put_mark k.RightBrace (put (name_pairs_words dims) (put_mark k.LeftBrace (put_mark k.Dims p)))))
put_principle_some dims args p =
    put_append (in_braces (name_pairs_words dims)) (mark k.Args ∷ terms_words [] args) (put_mark k.Dims p)
    ∙ ap (λ z. put (terms_words [] args) (put_mark k.Args z)) (put_braces (name_pairs_words dims) (put_mark k.Dims p))

-- ---- statements

pub put_use_dim : (name : Name) (p : Printer) → put_lines (statement_lines (s.UseDim name)) p ≡ ended (put (mark k.UseDim ∷ name_word name ∷ []) (begun [] p))
unfolding statement_lines statement_words
put_use_dim name p = refl

pub put_def_entry : (body : Spanned ExprKind) (p : Printer) → put_lines (statement_lines (s.DefEntry body)) p ≡ ended (put (body_words [] body) (put_mark k.DefEntry (begun [] p)))
unfolding statement_lines statement_words
put_def_entry body p = refl

pub put_def_class : (name : Name) (params : List ClassParam) (body : Spanned ExprKind) (p : Printer) → put_lines (statement_lines (s.DefClass name params body)) p ≡ ended (put (body_words (params_of params) body) (put (flat_map class_param_words params) (put (mark k.DefClass ∷ name_word name ∷ []) (begun [] p))))
unfolding statement_lines statement_words
put_def_class name params body p = ap ended (put_append (flat_map class_param_words params) (body_words (params_of params) body) (put (mark k.DefClass ∷ name_word name ∷ []) (begun [] p)))

-- ---- dimensions

abbrev pub part_line : Spanned DimPartKind → Line
part_line part = indented (part_words part.kind)

pub dim_done : (name : Name) (parts : List (Spanned DimPartKind)) (p began named opened headed inside last closed : Printer) → began ≡ begun [] p → named ≡ put (mark k.DefDim ∷ name_word name ∷ []) began → opened ≡ put_mark k.LeftBrace named → headed ≡ ended opened
    → inside ≡ put_lines (map part_line parts) headed → last ≡ begun [] inside → closed ≡ put_mark k.RightBrace last → ended closed ≡ put_lines (dim_lines name parts) p
unfolding statement_lines
dim_done name parts p began named opened headed inside last closed one two three four five six seven =
    ap ended (seven ∙ ap (put_mark k.RightBrace) (six ∙ ap (begun []) (five ∙ ap (put_lines (map part_line parts))
    (four ∙ ap ended (three ∙ ap (put_mark k.LeftBrace) (two ∙ ap (put (mark k.DefDim ∷ name_word name ∷ [])) one))))))
    ∙ sym (put_lines_append (map part_line parts) (line (mark k.RightBrace ∷ []) ∷ []) (ended (put_mark k.LeftBrace (put (mark k.DefDim ∷ name_word name ∷ []) (begun [] p)))))

-- ---- the text

abbrev pub lines_in : Spanned StatementKind → List Line
lines_in statement = statement_lines statement.kind

pub all_printed : (grammar : Grammar) (items : List (Spanned StatementKind)) (p q : Printer) → items ≡ grammar.statements → p ≡ start → q ≡ put_lines (flat_map lines_in items) p → q.text ≡ canon grammar
unfolding canon
all_printed grammar items p q same none written =
    ap (λ z. z.text) written ∙ ap (λ z. (put_lines (flat_map lines_in items) z).text) none
    ∙ ap (λ z. (put_lines (flat_map lines_in z) start).text) same ∙ text_of_lines (flat_map lines_in grammar.statements) start

-- the lines of statements without parts
pub ruleset statement_steps = (put_use_dim, put_def_entry, put_def_class)
