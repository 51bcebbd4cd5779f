use Rattle.std.proofs.Common.{refl}
use Rattle.xdg_parse.proofs.Once.{refused_only}
use Rattle.xdg_formula.specs.Texts.{rules_of}
use Rattle.xdg_formula.proofs.Once.{tree-tells, tree-only}
use Rattle.xdg_formula.proofs.reading.formulas.Goals as goal

pub returns-in-Err-clause-only : goal.returns-in-Err-clause-only
returns-in-Err-clause-only c = refused_only rules_of c.args.bytes.now c.in-Err.stop c.in-Err.ensures.only

pub returns-clause-tells : goal.returns-clause-tells
returns-clause-tells c = tree-tells c.args.bytes.now c.in-Ok.tokens _ _ c.read.result refl refl c.read.ensures c.in-Ok.ensures.tells

pub returns-clause-only : goal.returns-clause-only
returns-clause-only c = tree-only c.args.bytes.now c.in-Ok.tokens _ _ c.read.result refl refl c.read.ensures c.in-Ok.ensures.only
