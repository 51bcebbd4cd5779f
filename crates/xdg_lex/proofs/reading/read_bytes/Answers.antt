use Rattle.std.proofs.Common.{sym, ap, ◌∙◌}
use Rattle.xdg_base.specs.Faults.{fault_at}
use Rattle.xdg_base.specs.declared.faults.Cause.TheVariants as causes
use Rattle.xdg_lex.proofs.Answers.{answered, no_text_answered}
use Rattle.xdg_lex.proofs.reading.read_bytes.Goals as goal

pub returns-in-Ok : goal.returns-in-Ok
returns-in-Ok c = answered _ _ _ c.in-Ok.ensures.cases.0 c.in-Ok.ensures.cases.1 c.read.ensures

pub returns-in-Err : goal.returns-in-Err
returns-in-Err c = no_text_answered _ _ _ c.in-Err.ensures.cases.0 c.in-Err.ensures.cases.1 (ap (fault_at causes.BadUtf8) (sym c.valid_up_to.ensures) ∙ sym c.at.ensures)
