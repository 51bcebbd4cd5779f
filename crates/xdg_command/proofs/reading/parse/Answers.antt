use Rattle.std.proofs.Common.{◌∙◌, refl, sym}
use Rattle.std.specs.Prelude.{codes}
use Rattle.xdg_command.specs.Commands.{HasBudget, HasFirst, HasText}
use Rattle.xdg_command.proofs.Commanded.{exactly, flag_said, lacking, matched, operand_said, unfit, unread, value_said}
use Rattle.xdg_command.proofs.Meanings.{parse_is}
use Rattle.xdg_command.proofs.reading.parse.Goals as goal
use Rattle.xdg_facts.proofs.Lists.{single}

pub returns-in_default : goal.returns-in_default
returns-in_default c = unfit parse_is (matched parse_is _ _ c.in_ok-found.ensures c.in_ok-parse.ensures c.in_default.is)

pub returns-in_default-get_str : goal.returns-in_default-get_str
returns-in_default-get_str c = lacking parse_is (matched parse_is _ _ c.in_ok-found.ensures c.in_ok-parse.ensures c.in-Some.is) 0 (codes "grammar") refl (sym c.in_default-get_str.ensures)

pub returns-in_default-budget : goal.returns-in_default-budget
returns-in_default-budget c =
    unread parse_is (matched parse_is _ _ c.in_ok-found.ensures c.in_ok-parse.ensures c.in-Some.is) HasBudget (codes "budget") refl c.get_str-2.ensures c.in_default-budget.ensures (λ a says. (a.budget, says.budget))

pub returns-in_default-first : goal.returns-in_default-first
returns-in_default-first c =
    unread parse_is (matched parse_is _ _ c.in_ok-found.ensures c.in_ok-parse.ensures c.in-Some.is) HasFirst (codes "first") refl c.get_str-3.ensures c.in_default-first.ensures (λ a says. (a.first, says.first))

pub returns-in_default-text_form : goal.returns-in_default-text_form
returns-in_default-text_form c =
    unread parse_is (matched parse_is _ _ c.in_ok-found.ensures c.in_ok-parse.ensures c.in-Some.is) HasText (codes "text") refl c.get_str-4.ensures c.in_default-text_form.ensures (λ a says. (a.text, says.text))

pub returns : goal.returns
returns c =
    let m = matched parse_is _ _ c.in_ok-found.ensures c.in_ok-parse.ensures c.in-Some.is in
    exactly parse_is m _ (record {
      grammar = single _ _ (operand_said m 0 (codes "grammar") refl c.in-Some-get_str.ensures c.in_ok-grammar.ensures) m.1.few;
      budget = value_said m HasBudget (codes "budget") refl c.get_str-2.ensures c.in-Some-budget.ensures;
      first = value_said m HasFirst (codes "first") refl c.get_str-3.ensures c.in-Some-first.ensures;
      text = value_said m HasText (codes "text") refl c.get_str-4.ensures c.in-Some-text_form.ensures;
      segment = flag_said m (codes "segment") refl _ c.get_flag-segment.ensures.value c.get_flag-segment.ensures.other;
      split = flag_said m (codes "split") refl _ c.get_flag-split.ensures.value c.get_flag-split.ensures.other;
      rules = c.in_ok-rules.ensures ∙ c.get_str-5.ensures ∙ m.2.values (codes "rules") refl;
    })
