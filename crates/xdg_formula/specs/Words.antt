-- The tokens of a rules text. They are spelled as those of a grammar text, but the words of rules, such as `rule`, are names there, and the
-- keywords of grammars mean nothing in rules. So a token is seen with the kind that it has in rules: each word has a kind of its own, for
-- which the kind of a keyword stands, and a keyword has a kind that no rule takes.
use Rattle.std.specs.Prelude.{if◌then◌else◌, List, codes, bytes_eq, map, ℕ}
use Rattle.xdg_ast.specs.declared.token.Kind.{Kind}
use Rattle.xdg_ast.specs.declared.token.Kind.TheVariants as k
use Rattle.xdg_ast.specs.Lexemes.{Lexeme}
use Rattle.xdg_ast.specs.Language.{Kinds, is, ◌or◌}

-- ---- the kinds that stand for the words

abbrev pub rule_word : Kind
rule_word = k.DefEntry

abbrev pub all_word : Kind
all_word = k.Set

abbrev pub some_word : Kind
some_word = k.ISet

abbrev pub edge_word : Kind
edge_word = k.Dim

abbrev pub above_word : Kind
above_word = k.UseDim

abbrev pub left_word : Kind
left_word = k.Tuple

abbrev pub same_word : Kind
same_word = k.Map

abbrev pub attr_word : Kind
attr_word = k.DefAttrsType

abbrev pub feat_word : Kind
feat_word = k.DefEntryType

-- the kind that no rule takes
abbrev pub no_word : Kind
no_word = k.Number

-- ---- the kinds of tokens

-- the kind of a name in rules
unfoldable pub word_of : List ℕ → Kind
word_of name =
    if bytes_eq name (codes "rule") then rule_word else
    (if bytes_eq name (codes "all") then all_word else
    (if bytes_eq name (codes "some") then some_word else
    (if bytes_eq name (codes "edge") then edge_word else
    (if bytes_eq name (codes "above") then above_word else
    (if bytes_eq name (codes "left") then left_word else
    (if bytes_eq name (codes "same") then same_word else
    (if bytes_eq name (codes "attr") then attr_word else
    (if bytes_eq name (codes "feat") then feat_word else
    k.Name))))))))

-- the kind of a token in rules: that of a word where it is one, and of a keyword none that a rule takes
unfoldable pub kind_in_rules : Kind → List ℕ → Kind
kind_in_rules k.Name text = word_of text
kind_in_rules k.Quoted text = k.Quoted
kind_in_rules k.Number text = k.Number
kind_in_rules k.LeftBrace text = k.LeftBrace
kind_in_rules k.RightBrace text = k.RightBrace
kind_in_rules k.LeftParenthesis text = k.LeftParenthesis
kind_in_rules k.RightParenthesis text = k.RightParenthesis
kind_in_rules k.LeftBracket text = k.LeftBracket
kind_in_rules k.RightBracket text = k.RightBracket
kind_in_rules k.Colon text = k.Colon
kind_in_rules k.Ampersand text = k.Ampersand
kind_in_rules k.Bar text = k.Bar
kind_in_rules k.Dollar text = k.Dollar
kind_in_rules k.Hash text = k.Hash
kind_in_rules k.Exclamation text = k.Exclamation
kind_in_rules k.Question text = k.Question
kind_in_rules k.Star text = k.Star
kind_in_rules k.Plus text = k.Plus
kind_in_rules keyword text = no_word

-- a token as it is seen in rules
abbrev pub seen : Lexeme → Lexeme
seen token = record { kind = kind_in_rules token.kind token.text; text = token.text; span = token.span }

abbrev pub seen_all : List Lexeme → List Lexeme
seen_all = map seen

-- ---- names and constants

-- the word of a rule or of a quantifier
abbrev pub is_outer_word : Kinds
is_outer_word = is rule_word or is all_word or is some_word

-- the word of an atom
abbrev pub is_atom_word : Kinds
is_atom_word = is edge_word or is above_word or is left_word or is same_word or is attr_word or is feat_word

-- a name, which may be a word too
abbrev pub is_name : Kinds
is_name = is k.Name or is_outer_word or is_atom_word

-- a constant: a name, or a quoted text
abbrev pub is_rule_constant : Kinds
is_rule_constant = is k.Quoted or is_name
