-- The grammar of rules texts, a line a rule. What stands in brackets is given, so that a rule says how one level looks.
use Rattle.std.specs.Prelude.{ℕ, zero, suc, List, [], ◌∷◌}
use Rattle.xdg_base.specs.declared.places.Span.{Span}
use Rattle.xdg_ast.specs.declared.token.Kind.TheVariants as k
use Rattle.xdg_ast.specs.Lexemes.{Lexeme}
use Rattle.xdg_ast.specs.declared.names.Name.{Name}
use Rattle.xdg_ast.specs.declared.names.Spanned.{Spanned}
use Rattle.xdg_ast.specs.declared.terms.TermKind.{TermKind}
use Rattle.xdg_ast.specs.declared.terms.TermKind.TheVariants as t
use Rattle.xdg_ast.specs.Language.{Language, is, Within, full, room, token, both, either, many, nested, spanned, made, behind, pair, chain}
use Rattle.xdg_ast.specs.Grammar.{Term, name_of, at_span}
use Rattle.xdg_formula.specs.declared.tree.Rule.{Rule}
use Rattle.xdg_formula.specs.declared.tree.RuleKind.{RuleKind}
use Rattle.xdg_formula.specs.declared.tree.RuleKind.TheVariants as r
use Rattle.xdg_formula.specs.Words.{rule_word, all_word, some_word, edge_word, above_word, left_word, same_word, attr_word, feat_word, is_name, is_rule_constant}

abbrev pub RuleTerm : Type 0
RuleTerm = Spanned RuleKind

-- ---- names and constants

-- NAME
unfoldable pub node : Language Name
node = made name_of (token is_name)

-- const
unfoldable pub constant : Language Name
constant = made name_of (token is_rule_constant)

unfoldable pub constants : Language (List Name)
constants = many constant

-- ---- what stands in brackets

-- NAME const const value
abbrev pub Valued : Type 0
Valued = Name × Name × Name × Term

abbrev pub with_two : {A B C : Type 0} → A → B × C → A × B × C
with_two a more = (a, more.0, more.1)

abbrev pub with_three : {A B C D : Type 0} → A → B × C × D → A × B × C × D
with_three a more = (a, more.0, more.1, more.2)

pub record Inside : Type 1 where
  pub formula : Language RuleTerm
  pub valued : Language Valued

abbrev pub in_parentheses : {A : Type 0} → Within Inside → (Inside → Language A) → Language A
in_parentheses = nested (is k.LeftParenthesis) (is k.RightParenthesis)

abbrev pub in_square_brackets : {A : Type 0} → Within Inside → (Inside → Language A) → Language A
in_square_brackets = nested (is k.LeftBracket) (is k.RightBracket)

-- ---- values

-- value = "[" { const } "]" | const
unfoldable pub value_kind : Within Inside → Language TermKind
value_kind w = either (made t.Tuple (in_square_brackets w (λ _. constants))) (made t.Const constant)

unfoldable pub value : Within Inside → Language Term
value w = spanned at_span (value_kind w)

-- ---- atoms

-- const NAME const NAME
unfoldable pub edge_places : Language (Name × Name × Name × Name)
edge_places = both with_three constant (both with_two node (pair constant node))

-- NAME NAME
unfoldable pub two_nodes : Language (Name × Name)
two_nodes = pair node node

-- const NAME NAME
unfoldable pub above_places : Language (Name × Name × Name)
above_places = both with_two constant two_nodes

-- NAME const const value
unfoldable pub valued : Within Inside → Language Valued
valued w = both with_three node (both with_two constant (pair constant (value w)))

abbrev pub edge_of : Name × Name × Name × Name → RuleKind
edge_of said = r.Edge said.0 said.1 said.2 said.3

abbrev pub above_of : Name × Name × Name → RuleKind
above_of said = r.Above said.0 said.1 said.2

abbrev pub attr_of : Valued → RuleKind
attr_of said = r.Attr said.0 said.1 said.2 said.3

abbrev pub feat_of : Valued → RuleKind
feat_of said = r.Feat said.0 said.1 said.2 said.3

-- "edge" "(" const NAME const NAME ")"
unfoldable pub edge : Within Inside → Language RuleKind
edge w = made edge_of (behind (token (is edge_word)) (in_parentheses w (λ _. edge_places)))

-- "above" "(" const NAME NAME ")"
unfoldable pub above : Within Inside → Language RuleKind
above w = made above_of (behind (token (is above_word)) (in_parentheses w (λ _. above_places)))

-- "left" "(" NAME NAME ")"
unfoldable pub left : Within Inside → Language RuleKind
left w = made (λ said. r.Left said.0 said.1) (behind (token (is left_word)) (in_parentheses w (λ _. two_nodes)))

-- "same" "(" NAME NAME ")"
unfoldable pub same : Within Inside → Language RuleKind
same w = made (λ said. r.Same said.0 said.1) (behind (token (is same_word)) (in_parentheses w (λ _. two_nodes)))

-- "attr" "(" NAME const const value ")"
unfoldable pub attr : Within Inside → Language RuleKind
attr w = made attr_of (behind (token (is attr_word)) (in_parentheses w (λ j. j.valued)))

-- "feat" "(" NAME const const value ")"
unfoldable pub feat : Within Inside → Language RuleKind
feat w = made feat_of (behind (token (is feat_word)) (in_parentheses w (λ j. j.valued)))

-- atom = edge | above | left | same | attr | feat
unfoldable pub atom : Within Inside → Language RuleKind
atom w = either (edge w) (either (above w) (either (left w) (either (same w) (either (attr w) (feat w)))))

-- ---- formulas

-- "all" NAME "(" formula ")"
unfoldable pub every : Within Inside → Language RuleKind
every w = made (λ said. r.Every said.0 said.1) (behind (token (is all_word)) (pair node (in_parentheses w (λ j. j.formula))))

-- "some" NAME "(" formula ")"
unfoldable pub any : Within Inside → Language RuleKind
any w = made (λ said. r.Any said.0 said.1) (behind (token (is some_word)) (pair node (in_parentheses w (λ j. j.formula))))

unfoldable pub simple_kind : Within Inside → Language RuleKind
simple_kind w = either (every w) (either (any w) (atom w))

-- what may stand behind a run of "!": "(" formula ")" | ("all" | "some") NAME "(" formula ")" | atom
unfoldable pub simple : Within Inside → Language RuleTerm
simple w = either (in_parentheses w (λ j. j.formula)) (spanned at_span (simple_kind w))

-- the places of a run of "!"
unfoldable pub sign : Language Span
sign = made (λ token. token.span) (token (is k.Exclamation))

unfoldable pub signs : Language (List Span)
signs = many sign

-- no sign leaves the formula, and a run of them is one node
abbrev pub negated : Span → List Span × RuleTerm → RuleTerm
negated span ([], term) = term
negated span (one ∷ more, term) = at_span span (r.Not (one ∷ more) term)

-- prim = "!" prim | simple: a run of "!", and then what isn't one
unfoldable pub prim : Within Inside → Language RuleTerm
prim w = spanned negated (pair signs (simple w))

-- one member is that member, and more are a list of them
abbrev pub conjunction : Span → List RuleTerm → RuleTerm
conjunction span (one ∷ []) = one
conjunction span members = at_span span (r.And members)

abbrev pub disjunction : Span → List RuleTerm → RuleTerm
disjunction span (one ∷ []) = one
disjunction span members = at_span span (r.Or members)

-- conj = prim { "&" prim }
unfoldable pub next_prim : Within Inside → Language RuleTerm
next_prim w = behind (token (is k.Ampersand)) (prim w)

unfoldable pub prims : Within Inside → Language (List RuleTerm)
prims w = chain (prim w) (next_prim w)

unfoldable pub conj : Within Inside → Language RuleTerm
conj w = spanned conjunction (prims w)

-- formula = conj { "|" conj }
unfoldable pub next_conj : Within Inside → Language RuleTerm
next_conj w = behind (token (is k.Bar)) (conj w)

unfoldable pub conjs : Within Inside → Language (List RuleTerm)
conjs w = chain (conj w) (next_conj w)

unfoldable pub formula : Within Inside → Language RuleTerm
formula w = spanned disjunction (conjs w)

-- ---- levels of brackets

unfoldable pub inside : Within Inside → Inside
inside w = record { formula = formula w; valued = valued w }

-- what may stand in brackets where so many more may be opened
unfoldable pub under : ℕ → Within Inside
under zero = full
under (suc n) = room (inside (under n))

-- ---- rules, where so many brackets may be opened

-- const ":" formula
unfoldable pub named : ℕ → Language (Name × RuleTerm)
named n = pair constant (behind (token (is k.Colon)) (formula (under n)))

abbrev pub rule_of : Lexeme × (Name × RuleTerm) → Rule
rule_of said = record { name = said.1.0; body = said.1.1; at = said.0.span.start }

-- "rule" const ":" formula
unfoldable pub rule : ℕ → Language Rule
rule n = made rule_of (pair (token (is rule_word)) (named n))

-- rules = { rule }
unfoldable pub rules : ℕ → Language (List Rule)
rules n = many (rule n)
