use Rattle.xdg_io.proofs.Parts.{writes_both, writes_first}
use Rattle.xdg_reports.specs.VerdictsText.{verdict_line}
use Rattle.xdg_reports.proofs.verdicts.write_verdict.Goals as goal

pub returns-in_err-write_first : goal.returns-in_err-write_first
unfolding verdict_line
returns-in_err-write_first g c = writes_first _ c.from_residual.ensures.0 c.in_err-write_first.ensures

pub returns-in_err-write_word : goal.returns-in_err-write_word
unfolding verdict_line
returns-in_err-write_word g c = writes_both c.in_ok-write_first.ensures (writes_first _ c.from_residual-in_err-write_word.ensures.0 (rw c.principle_name.ensures at c.in_err-write_word.ensures))

pub returns-in_err-write_title : goal.returns-in_err-write_title
unfolding verdict_line
returns-in_err-write_title g c =
    writes_both c.in_ok-write_first.ensures (writes_both (rw c.principle_name.ensures at c.in_ok-write_word.ensures) (writes_first _ c.from_residual-in_err-write_title.ensures.0 c.in_err-write_title.ensures))

pub returns-in_err-write_said : goal.returns-in_err-write_said
unfolding verdict_line
returns-in_err-write_said g c =
    writes_both c.in_ok-write_first.ensures (writes_both (rw c.principle_name.ensures at c.in_ok-write_word.ensures) (writes_both c.in_ok-write_title.ensures
    (writes_first _ c.from_residual-in_err-write_said.ensures.0 (rw c.labels_of.ensures at c.in_err-write_said.ensures))))

pub returns : goal.returns
unfolding verdict_line
returns g c =
    writes_both c.in_ok-write_first.ensures (writes_both (rw c.principle_name.ensures at c.in_ok-write_word.ensures) (writes_both c.in_ok-write_title.ensures
    (writes_both (rw c.labels_of.ensures at c.in_ok-write_said.ensures) c.write_all.ensures)))
