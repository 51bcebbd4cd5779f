-- Parts of the tree of a grammar that are lent from it.
use Rattle.xdg_classes.specs.declared.bodies.Record.{Record}
use Rattle.xdg_classes.specs.declared.bodies.Call.{Call}
use Rattle.xdg_classes.specs.declared.definitions.ClassDef.{ClassDef as LentClass}
use Rattle.xdg_classes.specs.Bodies.{Said, Called}
use Rattle.xdg_classes.specs.Definitions.{ClassDef}

-- what is said of a dimension
abbrev pub said : Record → Said
said lent = record { dim = lent.dim.now; pairs = lent.pairs.now }

-- the use of a class
abbrev pub called : Call → Called
called lent = record { name = lent.name.now; args = lent.args.now }

-- the class
abbrev pub class_def : LentClass → ClassDef
class_def lent = record { name = lent.name.now; params = lent.params.now; body = lent.body.now }
