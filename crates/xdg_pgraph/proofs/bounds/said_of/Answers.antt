use Rattle.xdg_pgraph.specs.Bundles.{numbers_of}
use Rattle.xdg_pgraph.proofs.Allowed.{told_greatest, told_least}
use Rattle.xdg_pgraph.proofs.bounds.said_of.Goals as goal

pub returns-clause-full : goal.returns-clause-full
returns-clause-full c = told_greatest c.args.store.now.now c.args.bundle.node (numbers_of c.args.bundle.way c.args.group.now c.args.bundle.node c.args.bundle.label) 128 c.args.least c.args.most c.looked_at-looked.result c.looked_at-looked.ensures c.args.least

pub returns-clause-needed : goal.returns-clause-needed
returns-clause-needed c = told_least c.args.store.now.now c.args.bundle.node (numbers_of c.args.bundle.way c.args.group.now c.args.bundle.node c.args.bundle.label) 128 c.args.least c.args.most c.looked_at-looked.result c.looked_at-looked.ensures c.args.most c.requires.few.1
