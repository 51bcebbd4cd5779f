use Rattle.std.proofs.Common.{List, [], refl, subst}
use Rattle.xdg_ast.specs.Lexemes.{lexemes_of}
use Rattle.xdg_best.specs.declared.statements.Statement.{Statement}
use Rattle.xdg_best.specs.Building.{Comes}
use Rattle.xdg_best.specs.Meaning.{first_fault}
use Rattle.xdg_best.proofs.OneText.{tokens_only, statements_tell, statements_only, build_tells, build_only}
use Rattle.xdg_best.proofs.texts.costs.Goals as goal

pub returns-in-Err-clause-only : goal.returns-in-Err-clause-only
returns-in-Err-clause-only c = tokens_only c.args.bytes.now c.args.types.now c.args.entries c.in-Err.stop c.in-Err.ensures.only

pub returns-in-Err-statements-clause-tells : goal.returns-in-Err-statements-clause-tells
returns-in-Err-statements-clause-tells c =
    statements_tell c.args.bytes.now c.args.types.now c.args.entries (lexemes_of c.in-Ok.tokens) _ refl c.in-Ok.ensures.tells c.in-Ok.ensures.only c.in-Err-statements.stop c.in-Err-statements.ensures.tells

pub returns-in-Err-statements-clause-only : goal.returns-in-Err-statements-clause-only
returns-in-Err-statements-clause-only c =
    statements_only c.args.bytes.now c.args.types.now c.args.entries (lexemes_of c.in-Ok.tokens) _ refl c.in-Ok.ensures.tells c.in-Ok.ensures.only c.in-Err-statements.stop c.in-Err-statements.ensures.only

pub returns-clause-tells : goal.returns-clause-tells
returns-clause-tells c =
    build_tells c.args.bytes.now c.args.types.now c.args.entries (lexemes_of c.in-Ok.tokens) _ refl c.in-Ok.ensures.tells c.in-Ok.ensures.only
    c.in-Ok-statements.said c.in-Ok-statements.ensures.tells c.in-Ok-statements.ensures.only c.in-Ok.ensures.stand c.build.result
    (subst (λ (z : List Statement). Comes (first_fault c.args.types.now c.args.entries [] z) c.args.types.now z c.build.result) c.as_slice.ensures c.build.ensures)

pub returns-clause-only : goal.returns-clause-only
returns-clause-only c =
    build_only c.args.bytes.now c.args.types.now c.args.entries (lexemes_of c.in-Ok.tokens) _ refl c.in-Ok.ensures.tells c.in-Ok.ensures.only
    c.in-Ok-statements.said c.in-Ok-statements.ensures.tells c.in-Ok-statements.ensures.only c.in-Ok.ensures.stand c.build.result
    (subst (λ (z : List Statement). Comes (first_fault c.args.types.now c.args.entries [] z) c.args.types.now z c.build.result) c.as_slice.ensures c.build.ensures)
