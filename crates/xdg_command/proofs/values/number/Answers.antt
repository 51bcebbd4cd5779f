use Rattle.std.proofs.Common.{rules, ◌≡◌, true}
use Rattle.std.specs.List.{list_all}
use Rattle.std.specs.Char.{is_ascii_digit}
use Rattle.std.specs.Str.Parse.{ParsesUnsigned}
use Rattle.xdg_command.proofs.Numbers.{no_number, read_number}
use Rattle.xdg_command.proofs.values.number.Goals as goal

pub returns-in-Ok : goal.returns-in-Ok
returns-in-Ok c =
    let digits : list_all is_ascii_digit c.args.text.now ≡ true = search rules in
    let parses : ParsesUnsigned 64 10 c.args.text.now c.parse.result = search rules in
    read_number _ _ _ c.parse.result digits parses _ (search rules) (search rules) (search rules) (search rules)

pub returns-in_default-3 : goal.returns-in_default-3
returns-in_default-3 c =
    let digits : list_all is_ascii_digit c.args.text.now ≡ true = search rules in
    let parses : ParsesUnsigned 64 10 c.args.text.now c.parse.result = search rules in
    no_number _ _ _ c.parse.result digits parses c.in_default.field-0 (search rules) (search rules)
