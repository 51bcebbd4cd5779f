use Rattle.std.proofs.Common.{arith}
use Rattle.std.proofs.lemmas.Bool.{false≢true}
use Rattle.xdg_pgraph.specs.Bundles.{numbers_of}
use Rattle.xdg_pgraph.proofs.Keeping.{some_within}
use Rattle.xdg_pgraph.proofs.bounds.class_allows_none.Goals as goal

pub returns-then-class : goal.returns-then-class
returns-then-class c = (
  λ is. absurd (false≢true is),
  λ none. absurd (
      some_within (numbers_of c.args.bundle.way c.args.group.now c.args.bundle.node c.args.bundle.label c.args.class.now.first) c.args.class.now c.requires.class c.args.least c.args.most c.requires.order
      (let f = c.if-most-class.false in omega (arith, f))
      (let f = c.if-class-least.false in omega (arith, f))
      c.if-class.true none
      ),
)
