use Rattle.std.proofs.Common.{refl, sym}
use Rattle.std.specs.Prelude.{codes}
use Rattle.xdg_command.specs.Commands.{HasBudget}
use Rattle.xdg_command.proofs.Commanded.{exactly, flag_said, lacking, matched, operand_said, unfit, unread, value_said}
use Rattle.xdg_command.proofs.Meanings.{best_is}
use Rattle.xdg_command.proofs.reading.best.Goals as goal
use Rattle.xdg_facts.proofs.Lists.{double}

pub returns-in_default : goal.returns-in_default
returns-in_default c = unfit best_is (matched best_is _ _ c.in_ok-found.ensures c.in_ok-best.ensures c.in_default.is)

pub returns-in_default-get_str : goal.returns-in_default-get_str
returns-in_default-get_str c = lacking best_is (matched best_is _ _ c.in_ok-found.ensures c.in_ok-best.ensures c.in-Some.is) 0 (codes "grammar") refl (sym c.in_default-get_str.ensures)

pub returns-in_default-get_str-2 : goal.returns-in_default-get_str-2
returns-in_default-get_str-2 c = lacking best_is (matched best_is _ _ c.in_ok-found.ensures c.in_ok-best.ensures c.in-Some.is) 1 (codes "costs") refl (sym c.in_default-get_str-2.ensures)

pub returns-in_default-budget : goal.returns-in_default-budget
returns-in_default-budget c =
    unread best_is (matched best_is _ _ c.in_ok-found.ensures c.in_ok-best.ensures c.in-Some.is) HasBudget (codes "budget") refl c.get_str-3.ensures c.in_default-budget.ensures (λ a says. (a.budget, says.budget))

pub returns : goal.returns
returns c =
    let m = matched best_is _ _ c.in_ok-found.ensures c.in_ok-best.ensures c.in-Some.is in
    exactly best_is m _ (record {
      files = double _ _ _ (operand_said m 0 (codes "grammar") refl c.in-Some-get_str.ensures c.in_ok-grammar.ensures) (operand_said m 1 (codes "costs") refl c.in-Some-get_str-2.ensures c.in_ok-costs.ensures) m.1.few;
      budget = value_said m HasBudget (codes "budget") refl c.get_str-3.ensures c.in-Some-budget.ensures;
      segment = flag_said m (codes "segment") refl _ c.get_flag-segment.ensures.value c.get_flag-segment.ensures.other;
    })
