-- What the reading of the statements answers tells of the tokens, and one answer alone does.
use Rattle.std.proofs.Common.{◌≡◌, List, Ok, Err, sym}
use Rattle.xdg_ast.specs.declared.token.Token.{Token}
use Rattle.xdg_ast.specs.Lexemes.{lexemes_of}
use Rattle.xdg_ast.specs.Language.{State}
use Rattle.xdg_parse.specs.Steadiness.{at}
use Rattle.xdg_ast.specs.Grammar.{statements}
use Rattle.xdg_ast.specs.Derives.{grammars}
use Rattle.xdg_parse.proofs.Grammars.{readable, grammar_tells, answered_once}
use Rattle.xdg_parse.proofs.Whole.{part-tells, stop-tells, deep-tells}
use Rattle.xdg_parse.proofs.parsing.parse.Goals as goal

begins : (given lent : List Token) (s : State) → lent ≡ given → s ≡ at 0 (lexemes_of lent) → s ≡ at 0 (lexemes_of given)
begins given lent s a b = rw (← a) b

pub returns-in-None-clause-tells : goal.returns-in-None-clause-tells
returns-in-None-clause-tells c =
    grammar_tells (lexemes_of c.args.tokens.now) _ (begins _ _ _ c.as_slice.ensures c.new-cursor.ensures) _ _ c.in-Ok.ensures (sym c.in-None.ensures) _ c.start-start.ensures _ c.span_from.ensures

pub returns-in-Some-clause-tells : goal.returns-in-Some-clause-tells
returns-in-Some-clause-tells c =
    rw (c.unexpected.ensures, c.place.ensures) (part-tells statements grammars readable (lexemes_of c.args.tokens.now) c.args.end _ (begins _ _ _ c.as_slice.ensures c.new-cursor.ensures) _ _ _ c.in-Ok.ensures (sym c.in-Some.ensures))

pub returns-in-Err-Unexpected-clause-tells : goal.returns-in-Err-Unexpected-clause-tells
returns-in-Err-Unexpected-clause-tells c =
    rw (c.unexpected-in-Err-Unexpected.ensures, c.place-in-Err-Unexpected.ensures)
    (stop-tells statements grammars readable (lexemes_of c.args.tokens.now) c.args.end _ (begins _ _ _ c.as_slice.ensures c.new-cursor.ensures) _ (rw c.in-Err-Unexpected.field-0-is at c.in-Err-Unexpected.ensures))

pub returns-in-Err-TooDeep-clause-tells : goal.returns-in-Err-TooDeep-clause-tells
returns-in-Err-TooDeep-clause-tells c =
    rw (c.too_deep.ensures, c.place-in-Err-TooDeep.ensures)
    (deep-tells statements grammars readable (lexemes_of c.args.tokens.now) c.args.end _ (begins _ _ _ c.as_slice.ensures c.new-cursor.ensures) _ (rw c.in-Err-TooDeep.field-0-is at c.in-Err-TooDeep.ensures))

pub returns-in-None-clause-only : goal.returns-in-None-clause-only
returns-in-None-clause-only c = answered_once (lexemes_of c.args.tokens.now) c.args.end (Ok (record { statements = c.in-Ok.statements; span = c.span_from.result })) (returns-in-None-clause-tells c)

pub returns-in-Some-clause-only : goal.returns-in-Some-clause-only
returns-in-Some-clause-only c = answered_once (lexemes_of c.args.tokens.now) c.args.end (Err c.unexpected.result) (returns-in-Some-clause-tells c)

pub returns-in-Err-Unexpected-clause-only : goal.returns-in-Err-Unexpected-clause-only
returns-in-Err-Unexpected-clause-only c = answered_once (lexemes_of c.args.tokens.now) c.args.end (Err c.unexpected-in-Err-Unexpected.result) (returns-in-Err-Unexpected-clause-tells c)

pub returns-in-Err-TooDeep-clause-only : goal.returns-in-Err-TooDeep-clause-only
returns-in-Err-TooDeep-clause-only c = answered_once (lexemes_of c.args.tokens.now) c.args.end (Err c.too_deep.result) (returns-in-Err-TooDeep-clause-tells c)
