use Rattle.std.proofs.Common.{◌∙◌, Bool, [], ◌++◌, cond, sym, ap}
use Rattle.xdg_io.proofs.Parts.{writes_both, writes_first, writes_whole}
use Rattle.xdg_reports.specs.VerdictsText.{behind, condition_word, items_text}
use Rattle.xdg_reports.proofs.conditions.write_condition.Goals as goal

pub returns-in_err-write_word : goal.returns-in_err-write_word
returns-in_err-write_word g c =
    writes_whole (ap (λ (told : Bool). cond told (behind (condition_word c.args.condition) ++ items_text c.args.labels.now c.args.condition 0 c.args.numbers.now) []) (sym (sym c.is_told.ensures ∙ c.if-not-is_told.false)))
    (writes_first _ c.from_residual.ensures.0 (rw c.condition_word.ensures at c.in_err-write_word.ensures))

pub returns : goal.returns
returns g c =
    writes_whole (ap (λ (told : Bool). cond told (behind (condition_word c.args.condition) ++ items_text c.args.labels.now c.args.condition 0 c.args.numbers.now) []) (sym (sym c.is_told.ensures ∙ c.if-not-is_told.false)))
    (writes_both (rw c.condition_word.ensures at c.in_ok-write_word.ensures) c.write_items.ensures)
