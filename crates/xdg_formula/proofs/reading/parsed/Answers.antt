use Rattle.std.proofs.Common.{sym}
use Rattle.xdg_ast.specs.Lexemes.{lexemes_of}
use Rattle.xdg_formula.specs.Rules.{rules}
use Rattle.xdg_formula.specs.Texts.{seen_rules}
use Rattle.xdg_formula.proofs.Once.{readable}
use Rattle.xdg_parse.proofs.Whole.{whole-tells, part-tells, stop-tells, deep-tells}
use Rattle.xdg_formula.proofs.reading.parsed.Goals as goal

pub returns-in-None : goal.returns-in-None
unfolding readable
returns-in-None c = (whole-tells rules seen_rules readable (lexemes_of c.args.tokens.now) c.args.end _ c.new-cursor.ensures _ _ c.in-Ok.ensures (sym c.in-None.ensures)).0

pub returns-in-Some : goal.returns-in-Some
returns-in-Some c =
    rw (c.unexpected.ensures, c.place.ensures) (part-tells rules seen_rules readable (lexemes_of c.args.tokens.now) c.args.end _ c.new-cursor.ensures _ _ _ c.in-Ok.ensures (sym c.in-Some.ensures))

pub returns-in-Err-Unexpected : goal.returns-in-Err-Unexpected
returns-in-Err-Unexpected c =
    rw (c.unexpected-in-Err-Unexpected.ensures, c.place-in-Err-Unexpected.ensures)
    (stop-tells rules seen_rules readable (lexemes_of c.args.tokens.now) c.args.end _ c.new-cursor.ensures _ (rw c.in-Err-Unexpected.field-0-is at c.in-Err-Unexpected.ensures))

pub returns-in-Err-TooDeep : goal.returns-in-Err-TooDeep
returns-in-Err-TooDeep c =
    rw (c.too_deep.ensures, c.place-in-Err-TooDeep.ensures)
    (deep-tells rules seen_rules readable (lexemes_of c.args.tokens.now) c.args.end _ c.new-cursor.ensures _ (rw c.in-Err-TooDeep.field-0-is at c.in-Err-TooDeep.ensures))
