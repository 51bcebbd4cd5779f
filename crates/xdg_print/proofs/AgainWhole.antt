-- Statements are read again, and whole grammars are.
use Rattle.std.proofs.Common.{◌≡◌, ℕ, true, if◌then◌else◌, List, [], ◌∷◌, ◌++◌, map, flat_map, Option, Some, None, refl, sym, ap, ap₂, ◌∙◌, subst, arith}
use Rattle.std.proofs.lemmas.List.{append-nil}
use Rattle.std.proofs.lemmas.List.Folds.{flat_map-map}
use Rattle.std.proofs.lemmas.Grind.{flat_map-append}
use Rattle.xdg_ast.specs.declared.token.Kind.TheVariants as k
use Rattle.xdg_ast.specs.Lexemes.{Lexeme}
use Rattle.xdg_ast.specs.Contents.{content_of}
use Rattle.xdg_ast.specs.declared.names.Name.{Name}
use Rattle.xdg_ast.specs.declared.names.Spanned.{Spanned}
use Rattle.xdg_ast.specs.declared.grammar.ClassParam.{ClassParam}
use Rattle.xdg_ast.specs.declared.grammar.StatementKind.{StatementKind}
use Rattle.xdg_ast.specs.declared.grammar.StatementKind.TheVariants as s
use Rattle.xdg_ast.specs.declared.grammar.Grammar.{Grammar}
use Rattle.xdg_ast.specs.Language.{Language, span_of, is, token, made}
use Rattle.xdg_ast.specs.Grammar.{Params, Term, Expr, DimPart, name_of, inside, name, term, expr, preset, class_param, class_params, params_of, body, class_tail, parts, statement_kind, statement, statements}
use Rattle.xdg_ast.specs.Derives.{grammars}
use Rattle.xdg_ast.specs.Words.{Word, word_of, mark, constant, IsSpellable, AreSpellable}
use Rattle.xdg_ast.specs.Trees.{name_word, term_words}
use Rattle.xdg_ast.specs.Canon.{Line, line, indented, part_words, preset_words, class_param_words, body_words, statement_words, statement_lines, line_text, lines_of, canon}
use Rattle.xdg_ast.specs.Same.{nowhere, bare_part, bare_name, bare_option, bare_term, bare_expr, bare_class_param, bare_statement, bare_statements, bare_grammar, Same}
use Rattle.xdg_print.proofs.AgainWritten.{Written, weaker, at_words, token_written, bind_written, made_written, token_gives, made_gives, bind_gives}
use Rattle.xdg_print.proofs.AgainNames.{Like, Keeps, constant_says, short_text, name_text, constant_spellable, name_words, name_keeps, same_text, many_keeps}
use Rattle.xdg_print.proofs.AgainKept.{option_words, behind_keeps, either_keeps, made_keeps, both_keeps, pair_keeps, optional_keeps, with_words, at_place_keeps}
use Rattle.xdg_print.proofs.AgainLevels.{braces_keep}
use Rattle.xdg_print.proofs.AgainElems.{term_keeps}
use Rattle.xdg_print.proofs.AgainExprs.{expr_keeps}
use Rattle.xdg_print.proofs.AgainDims.{depth_of, PartSaid, part_said, parts_keep}
use Rattle.xdg_facts.proofs.Lists.{fused}

-- ---- parameters of classes

abbrev param_name : Language Name
param_name = made name_of (token (is k.Name))

param_name_keeps : Keeps param_name param_name bare_name name_words
param_name_keeps = record {
  all = made_gives {G = λ t. (is k.Name t.kind ≡ true) × IsSpellable (word_of t)} (token_gives (λ t h s. (h, s))) (λ t g. weaker
      (made_written {Q = λ m. m.text ≡ content_of t.kind t.text}
      (token_written (is k.Name) (constant (content_of t.kind t.text)) (constant_spellable (content_of t.kind t.text) (short_text t (rw g.0 refl) g.1)) (ap (λ b. is k.Name (if b then k.Name else k.Quoted)) (name_text t g.0 g.1)))
      (λ u h. (constant_says (content_of t.kind t.text) u h).1)) (λ m h. same_text m (name_of t) h));
}

presets_are : (given : Option Term) → preset_words given ≡ option_words (λ term. mark k.Colon ∷ term_words [] term.kind) given
presets_are None = refl
presets_are (Some term) = refl

-- the parameters have the same names
same_params : (ps qs : List ClassParam) → map bare_class_param ps ≡ map bare_class_param qs → params_of ps ≡ params_of qs
same_params ps qs h =
    let names_of : (rs : List ClassParam) → map (λ (p : ClassParam). p.name.text) (map bare_class_param rs) ≡ params_of rs = fused (λ (p : ClassParam). p.name.text) bare_class_param in
    sym (names_of ps) ∙ (ap (map (λ (p : ClassParam). p.name.text)) h ∙ names_of qs)

module _ (n : ℕ) where
  preset_keeps : Keeps (preset n) (preset n) (bare_option (bare_part bare_term)) (option_words (λ term. mark k.Colon ∷ term_words [] term.kind))
  unfolding preset
  preset_keeps = optional_keeps (behind_keeps k.Colon (refl, refl) refl (term_keeps (depth_of [] n n (omega arith))))

  class_param_keeps : Keeps (class_param n) (class_param n) bare_class_param class_param_words
  unfolding class_param
  class_param_keeps = both_keeps (λ name given. record { name = name; preset = given }) param_name_keeps preset_keeps (λ _ _. refl) (λ name given. ap (λ ws. name_word name ∷ ws) (presets_are given))

  class_params_keep : Keeps (class_params n) (class_params n) (map bare_class_param) (flat_map class_param_words)
  unfolding class_params
  class_params_keep = many_keeps class_param_keeps

  body_keeps : (params : Params) → Keeps (body params n) (body params n) (bare_part bare_expr) (body_words params)
  unfolding body inside
  body_keeps params = braces_keep (λ j. j.expr) (depth_of params n n (omega arith)) (λ m' n' l levels. expr_keeps (depth_of params m' n' l))

  tail_keeps : Keeps {B = List ClassParam × Expr} (class_tail n) (class_tail n) (λ tail. (map bare_class_param tail.0, bare_part bare_expr tail.1)) (λ tail. flat_map class_param_words tail.0 ++ body_words (params_of tail.0) tail.1)
  unfolding class_tail
  tail_keeps = record {
    all = bind_gives {m = λ params. body (params_of params) n} (body [] n) class_params_keep.all (λ params. (body_keeps (params_of params)).all)
        (λ ps e g h. bind_written {m = λ params. body (params_of params) n} (body [] n) (flat_map class_param_words ps) (body_words (params_of ps) e) g h.spellable
        (λ qs i. subst (λ params. Written (body params n) (body_words (params_of ps) e) (λ z. Like (bare_part bare_expr) (body_words (params_of ps)) z e)) (sym (same_params qs ps i.bare)) h)
        (λ qs z i k. record {
          bare = ap (λ ps'. (ps', bare_part bare_expr z)) i.bare ∙ ap (λ e'. (map bare_class_param ps, e')) k.bare;
          words = ap (λ ws. ws ++ body_words (params_of qs) z) i.words ∙ (ap (λ params. flat_map class_param_words ps ++ body_words params z) (same_params qs ps i.bare) ∙ ap (λ ws. flat_map class_param_words ps ++ ws) k.words);
        }));
  }

-- ---- statements

abbrev Stated : Type 0
Stated = StatementKind × List Line

-- a statement without places, and its lines
abbrev stated : StatementKind → Stated
stated statement = (bare_statement statement, statement_lines statement)

-- such a statement of one line
abbrev one_line : StatementKind → List Word → Stated
one_line statement words = (statement, line words ∷ [])

abbrev dim_lines : Name → List PartSaid → List Line
dim_lines name parts = line (mark k.DefDim ∷ name_word name ∷ mark k.LeftBrace ∷ []) ∷ (map (λ (p : PartSaid). indented p.1) parts ++ line (mark k.RightBrace ∷ []) ∷ [])

abbrev Dim : Type 0
Dim = Name × List DimPart

abbrev BareDim : Type 0
BareDim = Name × List PartSaid

abbrev bare_dim : Dim → BareDim
bare_dim dim = (bare_name dim.0, map (λ part. part_said part.kind) dim.1)

abbrev stated_dim : BareDim → Stated
stated_dim dim = (s.DefDim dim.0 (map (λ (p : PartSaid). record { kind = p.0; span = nowhere }) dim.1), dim_lines dim.0 dim.1)

dim_is : (dim : Dim) → stated (s.DefDim dim.0 dim.1) ≡ stated_dim (bare_dim dim)
unfolding bare_statement statement_lines
dim_is dim =
    let bared = fused (λ (p : PartSaid). record { kind = p.0; span = nowhere }) (λ (part : DimPart). part_said part.kind) dim.1 in
    let lined = fused (λ (p : PartSaid). indented p.1) (λ (part : DimPart). part_said part.kind) dim.1 in
    ap₂ (λ parts lines. (s.DefDim (bare_name dim.0) parts, line (mark k.DefDim ∷ name_word dim.0 ∷ mark k.LeftBrace ∷ []) ∷ (lines ++ line (mark k.RightBrace ∷ []) ∷ []))) (sym bared) (sym lined)

module _ (n : ℕ) where
  statement_kind_keeps : Keeps (statement_kind n) (statement_kind n) stated statement_words
  unfolding statement_kind statement_words statement_lines bare_statement inside
  statement_kind_keeps = either_keeps (made_keeps (λ z. one_line (s.UseDim z) (mark k.UseDim ∷ name_words z)) (behind_keeps k.UseDim (refl, refl) refl name_keeps) (λ _. refl) (λ _. refl))
      (either_keeps (made_keeps stated_dim (behind_keeps k.DefDim (refl, refl) refl (pair_keeps name_keeps (braces_keep (λ j. j.parts) (depth_of [] n n (omega arith)) (λ m' n' l levels. parts_keep m' n' l))))
      dim_is (λ _. refl))
      (either_keeps (made_keeps (λ (z : (Name × (List ClassParam × Expr)) × List Word). one_line (s.DefClass z.0.0 z.0.1.0 z.0.1.1) z.1) (with_words (behind_keeps k.DefClass (refl, refl) refl (pair_keeps name_keeps (tail_keeps n))))
      (λ _. refl) (λ _. refl))
      (made_keeps (λ (z : Expr × List Word). one_line (s.DefEntry z.0) z.1) (with_words (behind_keeps k.DefEntry (refl, refl) refl (body_keeps n []))) (λ _. refl) (λ _. refl))))

  statements_keep : Keeps (statements n) (statements n) (map (λ x. stated x.kind)) (flat_map (λ x. statement_words x.kind))
  unfolding statements statement
  statements_keep = many_keeps (at_place_keeps statement_kind_keeps)

-- ---- lines

abbrev words_of_lines : List Line → List Word
words_of_lines lines = flat_map (λ line. line.words) lines

-- the words of the lines of a statement are its words
statement_is : (kind : StatementKind) → words_of_lines (statement_lines kind) ≡ statement_words kind
unfolding statement_lines statement_words
statement_is (s.UseDim _) = refl
statement_is (s.DefDim title parts) =
    let part_line : DimPart → Line = λ part. indented (part_words part.kind) in
    ap (λ ws. mark k.DefDim ∷ name_word title ∷ mark k.LeftBrace ∷ ws) (flat_map-append (λ (l : Line). l.words) (map part_line parts) (line (mark k.RightBrace ∷ []) ∷ [])
    ∙ ap (λ ws. ws ++ mark k.RightBrace ∷ []) (flat_map-map (λ (l : Line). l.words) part_line parts))
statement_is (s.DefClass title params expr) = append-nil (mark k.DefClass ∷ name_word title ∷ (flat_map class_param_words params ++ body_words (params_of params) expr))
statement_is (s.DefEntry expr) = append-nil (mark k.DefEntry ∷ body_words [] expr)

lines_are : (statements : List (Spanned StatementKind)) → words_of_lines (flat_map (λ x. statement_lines x.kind) statements) ≡ flat_map (λ x. statement_words x.kind) statements
lines_are [] = refl
lines_are (x ∷ xs) = flat_map-append (λ (l : Line). l.words) (statement_lines x.kind) (flat_map (λ x. statement_lines x.kind) xs) ∙ (ap (λ ws. ws ++ words_of_lines (flat_map (λ x. statement_lines x.kind) xs)) (statement_is x.kind) ∙ ap (λ ws. statement_words x.kind ++ ws) (lines_are xs))

-- ---- the whole

bare_from : (xs : List (Spanned StatementKind)) → map (λ (p : Stated). record { kind = p.0; span = nowhere }) (map (λ (x : Spanned StatementKind). stated x.kind) xs) ≡ bare_statements xs
bare_from xs = fused (λ (p : Stated). record { kind = p.0; span = nowhere }) (λ (x : Spanned StatementKind). stated x.kind) xs

lines_from : (xs : List (Spanned StatementKind)) → flat_map (λ (p : Stated). p.1) (map (λ (x : Spanned StatementKind). stated x.kind) xs) ≡ flat_map (λ x. statement_lines x.kind) xs
lines_from xs = flat_map-map (λ (p : Stated). p.1) (λ (x : Spanned StatementKind). stated x.kind) xs

-- statements that say the same have the same text
same_at : (g h : Grammar) → map (λ (x : Spanned StatementKind). stated x.kind) h.statements ≡ map (λ (x : Spanned StatementKind). stated x.kind) g.statements → Same g h × (canon h ≡ canon g)
unfolding bare_grammar canon
same_at g h e = (
  ap (λ statements. record { statements = statements; span = nowhere }) (sym (bare_from g.statements) ∙ (ap (map (λ (p : Stated). record { kind = p.0; span = nowhere })) (sym e) ∙ bare_from h.statements)),
  ap (flat_map line_text) (sym (lines_from h.statements) ∙ (ap (flat_map (λ (p : Stated). p.1)) e ∙ lines_from g.statements)),
)

-- The words of a grammar that was read from spellable tokens are spellable, and all tokens with these words are read as the same grammar.
pub derives_again : (n : ℕ) (ts : List Lexeme) (g : Grammar) → grammars n ts g → AreSpellable (map word_of ts)
    → AreSpellable (flat_map (λ line. line.words) (lines_of g))
    × ((us : List Lexeme) → map word_of us ≡ flat_map (λ line. line.words) (lines_of g) → (h : Grammar) × grammars n us h × Same g h × (canon h ≡ canon g))
derives_again n ts g d sp =
    let kept = at_words (sym (lines_are g.statements)) ((statements_keep n).all.by ts g.statements d.0 sp) in (
      kept.spellable,
      λ us h.
          let again = kept.again us h in
          let tree : Grammar = record { statements = again.0; span = span_of us } in
          let same = same_at g tree again.2.bare in
          (tree, (again.1, refl), same.0, same.1),
    )
