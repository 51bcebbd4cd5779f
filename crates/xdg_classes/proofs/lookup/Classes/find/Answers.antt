use Rattle.std.proofs.Common.{ap, map, ◌∙◌}
use Rattle.xdg_names.specs.Texts.{place_of}
use Rattle.xdg_classes.specs.Ordered.{class_at}
use Rattle.xdg_classes.specs.Lent.{class_def}
use Rattle.xdg_classes.proofs.Known.{class_placed}
use Rattle.xdg_classes.proofs.lookup.Classes.find.Goals as goal

pub returns-clause-class : goal.returns-clause-class
returns-clause-class c = λ same.
    let cs = map class_def c.args.self.now.definitions in
    ap (class_at cs) (c.find.ensures ∙ ap (λ names. place_of names c.args.name.now) same) ∙ class_placed cs c.args.name.now
