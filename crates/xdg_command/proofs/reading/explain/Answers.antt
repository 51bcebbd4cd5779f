use Rattle.std.proofs.Common.{◌∙◌, refl, sym}
use Rattle.std.specs.Prelude.{codes}
use Rattle.xdg_command.proofs.Commanded.{exactly, lacking, matched, operand_said, unfit}
use Rattle.xdg_command.proofs.Meanings.{explain_is}
use Rattle.xdg_command.proofs.reading.explain.Goals as goal
use Rattle.xdg_facts.proofs.Lists.{double}

pub returns-in_default : goal.returns-in_default
returns-in_default c = unfit explain_is (matched explain_is _ _ c.in_ok-found.ensures c.in_ok-explain.ensures c.in_default.is)

pub returns-in_default-get_str : goal.returns-in_default-get_str
returns-in_default-get_str c = lacking explain_is (matched explain_is _ _ c.in_ok-found.ensures c.in_ok-explain.ensures c.in-Some.is) 0 (codes "grammar") refl (sym c.in_default-get_str.ensures)

pub returns-in_default-get_str-2 : goal.returns-in_default-get_str-2
returns-in_default-get_str-2 c = lacking explain_is (matched explain_is _ _ c.in_ok-found.ensures c.in_ok-explain.ensures c.in-Some.is) 1 (codes "analysis") refl (sym c.in_default-get_str-2.ensures)

pub returns : goal.returns
returns c =
    let m = matched explain_is _ _ c.in_ok-found.ensures c.in_ok-explain.ensures c.in-Some.is in
    exactly explain_is m _ (record {
      files = double _ _ _ (operand_said m 0 (codes "grammar") refl c.in-Some-get_str.ensures c.in_ok-grammar.ensures) (operand_said m 1 (codes "analysis") refl c.in-Some-get_str-2.ensures c.in_ok-analysis.ensures) m.1.few;
      rules = c.in_ok-rules.ensures ∙ c.get_str-3.ensures ∙ m.2.values (codes "rules") refl;
    })
