use Rattle.std.proofs.Common.{ap}
use Rattle.std.specs.Prelude.{option_map}
use Rattle.std.specs.Option.{option_copied}
use Rattle.xdg_classes.specs.Known.{shown}
use Rattle.xdg_classes.specs.Lent.{called}
use Rattle.xdg_classes.proofs.Told.{class_told}
use Rattle.xdg_classes.proofs.uses.class_wrong.Goals as goal

pub returns-in-Some : goal.returns-in-Some
returns-in-Some c = λ given.
    class_told (option_map shown (option_copied c.args.found)) (shown c.in-Some.params.now) (called c.args.call.now) c.args.given.now _ _ _
    (ap (λ f. option_map shown (option_copied f)) c.in-Some.is) given c.unknown_params.ensures c.left_out.ensures c.earlier.ensures
