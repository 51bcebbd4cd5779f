-- The next token, by its kind, and the words with which atoms begin.
use Rattle.std.proofs.Common.{◌≡◌, List, [], ◌∷◌, Some, None, Ok, Err, refl}
use Rattle.xdg_ast.specs.declared.token.Kind.{Kind}
use Rattle.xdg_ast.specs.Lexemes.{Lexeme}
use Rattle.xdg_ast.specs.Language.{State, Outcome, Unexpected, Within, is, kind_of, next, read_token, skip}
use Rattle.xdg_parse.proofs.EachKind.{is_self}
use Rattle.xdg_formula.specs.Words.{edge_word, above_word, attr_word}
use Rattle.xdg_formula.specs.Rules.{Inside, edge, above, attr}

pub next_of : (kind : Kind) (s : State) → kind_of s.left ≡ Some kind → read_token (is kind) s ≡ next s
unfolding read_token
next_of kind s h = rw (h, is_self kind) refl

-- what is read of these tokens, where those of a state are left
abbrev next_among : State → List Lexeme → Outcome Lexeme
next_among s ts = elim ts as (λ _. Outcome Lexeme) [ [] ↦ Err (Unexpected, []) | t ∷ us ↦ Ok (t, skip s) ]

none_among : (s : State) (ts : List Lexeme) → kind_of ts ≡ None → next_among s ts ≡ Err (Unexpected, ts)
unfolding kind_of
none_among s [] h = refl
none_among s (t ∷ ts) h = absurd (cc)

-- there is none
pub no_next : (s : State) → kind_of s.left ≡ None → next s ≡ Err (Unexpected, s.left)
unfolding next
no_next s h = none_among s s.left h

-- ---- atoms

pub edge_first : (w : Within Inside) → (edge w).first ≡ is edge_word
unfolding edge
edge_first w = refl

pub above_first : (w : Within Inside) → (above w).first ≡ is above_word
unfolding above
above_first w = refl

pub attr_first : (w : Within Inside) → (attr w).first ≡ is attr_word
unfolding attr
attr_first w = refl

pub ruleset atom_firsts = (edge_first, above_first, attr_first)
