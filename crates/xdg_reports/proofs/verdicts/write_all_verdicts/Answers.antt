use Rattle.std.proofs.Common.{◌≤◌, ap, length, sym, subst, ◌∙◌}
use Rattle.xdg_judge.specs.Verdicts.{IsVerdict}
use Rattle.xdg_problem.specs.declared.parts.Parts.{Parts}
use Rattle.xdg_reports.proofs.verdicts.write_all_verdicts.Goals as goal
use Rattle.xdg_facts.proofs.Lists.{zip_length}
use Rattle.xdg_io.proofs.Parts.{writes_both, writes_first}

pub write_verdict_lines-requires : goal.write_verdict_lines-requires
write_verdict_lines-requires g c =
    ap length (c.as_slice.ensures ∙ ap (λ (parts : Parts). parts.groups) c.parts-parts.ensures.same)
    ∙ zip_length (IsVerdict c.args.problem.now c.requires.verdicts.0) c.args.problem.now.groups c.args.verdicts.now c.requires.verdicts.1

pub own_count-own-requires : goal.own_count-own-requires
own_count-own-requires g c = subst (λ (parts : Parts). length c.args.rules.now ≤ length parts.groups) (sym c.parts-parts.ensures.same) c.requires.rules

pub returns-in_err-write_verdict_lines : goal.returns-in_err-write_verdict_lines
returns-in_err-write_verdict_lines g c =
    writes_first _ c.from_residual.ensures.0 (rw (c.own_count-own.ensures, c.as_slice.ensures, c.parts-parts.ensures.same) at c.in_err-write_verdict_lines.ensures)

pub returns : goal.returns
returns g c =
    writes_both (rw (c.own_count-own.ensures, c.as_slice.ensures, c.parts-parts.ensures.same) at c.in_ok-write_verdict_lines.ensures) (rw c.are_kept.ensures at c.write_last.ensures)
