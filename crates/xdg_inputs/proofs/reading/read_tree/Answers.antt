use Rattle.std.proofs.Common.{refl}
use Rattle.xdg_ast.specs.Derives.{grammars}
use Rattle.xdg_ast.specs.Lexemes.{lexemes_of}
use Rattle.xdg_parse.proofs.Once.{refused_only, tree_tells, tree_only}
use Rattle.xdg_inputs.proofs.reading.read_tree.Goals as goal

pub returns-in-Err-clause-only : goal.returns-in-Err-clause-only
returns-in-Err-clause-only c = refused_only grammars c.args.text.now c.in-Err.stop c.in-Err.ensures.only

pub returns-clause-tells : goal.returns-clause-tells
returns-clause-tells c = tree_tells grammars c.args.text.now (lexemes_of c.in-Ok.tokens) _ refl c.parse.result c.in-Ok.ensures.tells c.parse.ensures.tells

pub returns-clause-only : goal.returns-clause-only
returns-clause-only c = tree_only grammars c.args.text.now (lexemes_of c.in-Ok.tokens) _ refl c.parse.result c.in-Ok.ensures.only c.parse.ensures.only
