use Rattle.std.proofs.Common.{refl, sym}
use Rattle.std.specs.Prelude.{codes}
use Rattle.xdg_command.proofs.Commanded.{exactly, lacking, matched, operand_said, unfit}
use Rattle.xdg_command.proofs.Meanings.{file_is}
use Rattle.xdg_command.proofs.reading.one_file.Goals as goal
use Rattle.xdg_facts.proofs.Lists.{single}

pub returns-in_default : goal.returns-in_default
returns-in_default c = unfit file_is (matched file_is _ _ c.in_ok-found.ensures c.in_ok-one_file.ensures c.in_default.is)

pub returns-in_default-get_str : goal.returns-in_default-get_str
returns-in_default-get_str c = lacking file_is (matched file_is _ _ c.in_ok-found.ensures c.in_ok-one_file.ensures c.in-Some.is) 0 (codes "grammar") refl (sym c.in_default-get_str.ensures)

pub returns : goal.returns
returns c =
    let m = matched file_is _ _ c.in_ok-found.ensures c.in_ok-one_file.ensures c.in-Some.is in
    exactly file_is m _ (single _ _ (operand_said m 0 (codes "grammar") refl c.in-Some-get_str.ensures c.in_ok-from_str.ensures) m.1.few)
