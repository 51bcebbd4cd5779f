use Rattle.std.proofs.Common.{map, subst}
use Rattle.std.specs.String.{string_bytes}
use Rattle.xdg_command.specs.Answers.{IsExactly}
use Rattle.xdg_command.specs.Commands.{IsDrillNumber}
use Rattle.xdg_command.specs.Readings.{IsOneFile}
use Rattle.xdg_command.proofs.Meanings.{drill_found, drill_none}
use Rattle.xdg_command.proofs.reading.drill.Goals as goal

pub returns-in-Some : goal.returns-in-Some
returns-in-Some c =
    drill_found (map string_bytes c.args.words.now) c.in-Some.text (subst (IsExactly (IsOneFile (map string_bytes c.args.words.now))) c.in-Some.is c.in_ok-text.ensures) c.drill_number.result
    (subst (λ text. IsExactly (IsDrillNumber text) c.drill_number.result) c.as_str.ensures c.drill_number.ensures)

pub returns-in-None : goal.returns-in-None
returns-in-None c = drill_none (map string_bytes c.args.words.now) (subst (IsExactly (IsOneFile (map string_bytes c.args.words.now))) c.in-None.is c.in_ok-text.ensures)
