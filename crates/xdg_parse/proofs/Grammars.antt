-- What the reading of all statements says of the tokens of a grammar.
use Rattle.std.proofs.Common.{◌≡◌, ℕ, List, Ok, None, refl, ◌∙◌, ap}
use Rattle.std.specs.Prelude.{Result}
use Rattle.xdg_base.specs.declared.faults.Fault.{Fault}
use Rattle.xdg_base.specs.declared.faults.Stop.{Stop}
use Rattle.xdg_base.specs.declared.places.Span.{Span}
use Rattle.xdg_base.specs.Told.{Gives}
use Rattle.xdg_ast.specs.declared.grammar.Grammar.{Grammar}
use Rattle.xdg_ast.specs.Lexemes.{Lexeme}
use Rattle.xdg_ast.specs.Language.{kind_of, start_of, span_of, State}
use Rattle.xdg_ast.specs.Grammar.{Statement, statements}
use Rattle.xdg_ast.specs.Derives.{DerivesWithin, grammars}
use Rattle.xdg_parse.specs.Outcome.{IsAnswer, Tells}
use Rattle.xdg_parse.specs.Steadiness.{at}
use Rattle.xdg_parse.proofs.Once.{once}
use Rattle.xdg_parse.proofs.RulesStatements.{statements_rule}
use Rattle.xdg_parse.proofs.Whole.{Readable, one_reading, shallow, whole-tells}

pub readable : Readable statements grammars
readable = record {
  law = λ d n. (statements_rule d n).law;
  steady = λ n. (statements_rule n n).steady;
  made = λ ts found. record { statements = found; span = span_of ts };
  part = λ g. g.statements;
  to = λ n ts found h. (h, refl);
  back = λ n ts g h. (h.0, λ i. record { statements = g.statements; span = h.1 i });
}

pub grammar_tells : (ts : List Lexeme) (start : State) → start ≡ at 0 ts → (found : List Statement) (s : State) → (statements 64).read start ≡ Ok (found, s) → kind_of s.left ≡ None
    → (from : ℕ) → from ≡ start_of start.left → (span : Span) → span ≡ record { start = from; end = s.ended } → DerivesWithin grammars ts (record { statements = found; span = span })
unfolding readable
grammar_tells ts start e found s h k from f span i =
    let told = whole-tells statements grammars readable ts 0 start e found s h k in
    let first : from ≡ start_of ts = f ∙ ap (λ (u : State). start_of u.left) e in
    (told.0.0, i ∙ (λ j. record { start = first j; end = told.1 j }))

pub answered_once : (ts : List Lexeme) (end : ℕ) (result : Result Grammar Stop) → Tells ts end result → (answer : Result Grammar Fault) → IsAnswer ts end answer → Gives answer result
answered_once = once grammars (shallow statements grammars readable) (λ ts g h a b. one_reading statements grammars readable ts g h (64, a) (64, b))
