-- Lines of words, as they are read.
use Rattle.std.proofs.Common.{◌≡◌, ℕ, ◌+◌, ◌==◌, Bool, true, false, Option, Some, None, List, [], ◌∷◌, ◌++◌, map, refl, sym, ◌∙◌, ap, subst, append_assoc}
use Rattle.std.specs.Prelude.{flat_map}
use Rattle.std.specs.Char.{is_ascii, is_whitespace}
use Rattle.std.specs.List.{AllByRecursion}
use Rattle.std.specs.Str.{chars}
use Rattle.std.proofs.lemmas.Bool.{cond_both, eqb-true}
use Rattle.std.proofs.lemmas.Str.{chars-encodes}
use Rattle.xdg_ast.specs.declared.token.Kind.{Kind}
use Rattle.xdg_base.specs.Spelling.{continues_name}
use Rattle.xdg_ast.specs.Lexemes.{Lexeme}
use Rattle.xdg_ast.specs.Tokenizes.{size_of, EachPasses, StopsBefore, white, Tokenizes, finished, Spells, gap as token_gap}
use Rattle.xdg_ast.specs.declared.names.Spanned.{Spanned}
use Rattle.xdg_ast.specs.declared.grammar.DimPartKind.{DimPartKind}
use Rattle.xdg_ast.specs.declared.grammar.StatementKind.{StatementKind}
use Rattle.xdg_ast.specs.declared.grammar.StatementKind.TheVariants as s
use Rattle.xdg_ast.specs.declared.grammar.Grammar.{Grammar}
use Rattle.xdg_ast.specs.Words.{Word, word_of, AreSpellable}
use Rattle.xdg_ast.specs.Canon.{Line, indented, part_words, statement_lines, spelling, is_tight_behind, is_tight, gap, joined, line_text, lines_of, canon}
use Rattle.xdg_facts.proofs.Each.{each_append, each_map, each_of_all}
use Rattle.xdg_print.proofs.AgainWritten.{spellable-split}
use Rattle.xdg_print.proofs.SpelledTexts.{all_pass}
use Rattle.xdg_print.proofs.SpelledNames.{Says}
use Rattle.xdg_print.proofs.SpelledWords.{characters, word_bytes, word_says, tight_closing, closing_stops}
use Rattle.xdg_facts.proofs.Encoded.{AreBytesOf, no_bytes, bytes_append, bytes_utf8, ascii_bytes, weaker_test}

-- ---- white space

abbrev pub is_space : ℕ → Bool
is_space c = c == 32

white_says : (c : ℕ) (behind : List ℕ) (words : List Word) → is_whitespace c ≡ true → Says behind words → Says (c ∷ behind) words
white_says c behind words w more at =
    let rest = more (at + size_of (c ∷ [])) in
    (rest.0, token_gap at (c ∷ []) behind rest.0 (white c w) rest.1, rest.2)

spaces_say : (spaces behind : List ℕ) (words : List Word) → EachPasses is_space spaces → Says behind words → Says (spaces ++ behind) words
spaces_say [] behind words each more = more
spaces_say (c ∷ cs) behind words each more = white_says c (cs ++ behind) words (ap is_whitespace (eqb-true c 32 each.0)) (spaces_say cs behind words each.1 more)

spaces_bytes : (spaces : List ℕ) → EachPasses is_space spaces → AreBytesOf spaces spaces
spaces_bytes spaces each = ascii_bytes spaces (weaker_test is_space is_ascii (λ c s. ap is_ascii (eqb-true c 32 s)) spaces (all_pass is_space spaces each))

-- ---- words in a line

-- what stands between a word, if there is one, and the next is nothing or a space
gap_spaces : (previous : Option Kind) (other : Kind) → EachPasses is_space (gap previous other)
unfolding gap
gap_spaces None other = tt
gap_spaces (Some one) other = cond_both (is_tight one other) [] (32 ∷ []) (EachPasses is_space) (λ _. tt) (λ _. (refl, tt))

-- the characters of words behind a word, if there is one, and what is behind them
joined_characters : Option Kind → List Word → List ℕ → List ℕ
joined_characters previous [] behind = behind
joined_characters previous (word ∷ words) behind = gap previous word.kind ++ (characters word.kind word.content word.value ++ joined_characters (Some word.kind) words behind)

joined_bytes : (previous : Option Kind) (words : List Word) (behind bytes : List ℕ) → AreSpellable words → AreBytesOf behind bytes → AreBytesOf (joined_characters previous words behind) (joined previous words ++ bytes)
unfolding joined joined_characters
joined_bytes previous [] behind bytes good more = more
joined_bytes previous (word ∷ words) behind bytes good more =
    subst (AreBytesOf (joined_characters previous (word ∷ words) behind))
    (sym (append_assoc (gap previous word.kind) (spelling word ++ joined (Some word.kind) words) bytes ∙ ap (λ l. gap previous word.kind ++ l) (append_assoc (spelling word) (joined (Some word.kind) words) bytes)))
    (bytes_append (gap previous word.kind) (gap previous word.kind) _ _ (spaces_bytes (gap previous word.kind) (gap_spaces previous word.kind))
    (bytes_append (characters word.kind word.content word.value) (spelling word) _ _ (word_bytes word.kind word.content word.value good.0) (joined_bytes (Some word.kind) words behind bytes good.1 more)))

-- no name goes on behind a word in a line
joined_stops : (one : Kind) (words : List Word) (behind : List ℕ) → is_tight_behind one ≡ false → StopsBefore continues_name (joined_characters (Some one) words (10 ∷ behind))
unfolding gap joined_characters
joined_stops one [] behind no_tight = refl
joined_stops one (word ∷ words) behind no_tight =
    cond_both (is_tight one word.kind) [] (32 ∷ []) (λ g. StopsBefore continues_name (g ++ (characters word.kind word.content word.value ++ joined_characters (Some word.kind) words (10 ∷ behind))))
    (λ tight. closing_stops word.kind word.content word.value (joined_characters (Some word.kind) words (10 ∷ behind)) (tight_closing one word.kind no_tight tight)) (λ _. refl)

joined_says : (previous : Option Kind) (words : List Word) (behind : List ℕ) (later : List Word) → AreSpellable words → Says behind later → Says (joined_characters previous words (10 ∷ behind)) (words ++ later)
unfolding joined_characters
joined_says previous [] behind later good more = white_says 10 behind later refl more
joined_says previous (word ∷ words) behind later good more =
    let rest = joined_characters (Some word.kind) words (10 ∷ behind) in
    spaces_say (gap previous word.kind) (characters word.kind word.content word.value ++ rest) (word ∷ (words ++ later)) (gap_spaces previous word.kind)
    (word_says word.kind word.content word.value rest (words ++ later) good.0 (joined_stops word.kind words behind) (joined_says (Some word.kind) words behind later good.1 more))

-- ---- lines

-- the lines are indented by spaces
abbrev pub IsIndented : Line → Type 0
IsIndented line = EachPasses is_space line.indent

abbrev pub AreIndented : List Line → Type 0
AreIndented lines = AllByRecursion IsIndented lines

abbrev words_in : List Line → List Word
words_in lines = flat_map (λ line. line.words) lines

lines_characters : List Line → List ℕ
lines_characters [] = []
lines_characters (line ∷ lines) = line.indent ++ joined_characters None line.words (10 ∷ lines_characters lines)

lines_bytes : (lines : List Line) → AreIndented lines → AreSpellable (words_in lines) → AreBytesOf (lines_characters lines) (flat_map line_text lines)
unfolding lines_characters
lines_bytes [] spaces good = no_bytes
lines_bytes (line ∷ lines) spaces good =
    let more = flat_map line_text lines in
    subst (AreBytesOf (lines_characters (line ∷ lines)))
    (sym (append_assoc line.indent (joined None line.words ++ 10 ∷ []) more ∙ ap (λ l. line.indent ++ l) (append_assoc (joined None line.words) (10 ∷ []) more)))
    (bytes_append line.indent line.indent _ _ (spaces_bytes line.indent spaces.0)
    (joined_bytes None line.words (10 ∷ lines_characters lines) (10 ∷ more) (spellable-split line.words (words_in lines) good).0
    (bytes_append (10 ∷ []) (10 ∷ []) (lines_characters lines) more (ascii_bytes (10 ∷ []) refl) (lines_bytes lines spaces.1 (spellable-split line.words (words_in lines) good).1))))

lines_say : (lines : List Line) → AreIndented lines → AreSpellable (words_in lines) → Says (lines_characters lines) (words_in lines)
unfolding lines_characters
lines_say [] spaces good = λ at. ([], finished at, refl)
lines_say (line ∷ lines) spaces good =
    spaces_say line.indent _ (words_in (line ∷ lines)) spaces.0
    (joined_says None line.words (lines_characters lines) (words_in lines) (spellable-split line.words (words_in lines) good).0 (lines_say lines spaces.1 (spellable-split line.words (words_in lines) good).1))

-- lines of words that can be spelled are the text of tokens that say these words
pub spells_again : (lines : List Line) → AreIndented lines → AreSpellable (flat_map (λ line. line.words) lines)
    → (us : List Lexeme) × Spells (flat_map line_text lines) us × (map word_of us ≡ flat_map (λ line. line.words) lines)
spells_again lines spaces good =
    let bytes = lines_bytes lines spaces good in
    let said = lines_say lines spaces good 0 in
    (said.0, (bytes_utf8 _ _ bytes, subst (λ cs. Tokenizes 127 0 cs said.0) (sym (ap chars (sym bytes.encoded) ∙ chars-encodes (lines_characters lines) bytes.scalars)) said.1), said.2)

-- ---- the lines of a grammar

statement_indented : (statement : StatementKind) → AreIndented (statement_lines statement)
unfolding statement_lines
statement_indented (s.DefDim name parts) =
    let part_line : Spanned DimPartKind → Line = λ part. indented (part_words part.kind) in
    (tt, each_append IsIndented (map part_line parts) _ (each_map IsIndented part_line parts (each_of_all _ parts (λ _. (refl, (refl, tt))))) (tt, tt))
statement_indented (s.UseDim name) = (tt, tt)
statement_indented (s.DefClass name params body) = (tt, tt)
statement_indented (s.DefEntry body) = (tt, tt)

statements_indented : (statements : List (Spanned StatementKind)) → AreIndented (flat_map (λ statement. statement_lines statement.kind) statements)
statements_indented [] = tt
statements_indented (statement ∷ statements) = each_append IsIndented (statement_lines statement.kind) _ (statement_indented statement.kind) (statements_indented statements)

-- the canonical text of a grammar whose words can be spelled is the text of tokens that say these words
pub canon_spells : (grammar : Grammar) → AreSpellable (flat_map (λ line. line.words) (lines_of grammar))
    → (us : List Lexeme) × Spells (canon grammar) us × (map word_of us ≡ flat_map (λ line. line.words) (lines_of grammar))
unfolding canon
canon_spells grammar good = spells_again (lines_of grammar) (statements_indented grammar.statements) good
