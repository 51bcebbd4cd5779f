use Rattle.std.proofs.Common.{refl, subst}
use Rattle.xdg_arrange.specs.Found.{IsOneFind, Writes, arrangement_line}
use Rattle.xdg_build.specs.Solutions.{KeepsSolutions}
use Rattle.xdg_inputs.specs.Answers.{grammar_in}
use Rattle.xdg_linear.specs.Ranks.{words_at}
use Rattle.xdg_problem.specs.declared.parts.Parts.{Parts}
use Rattle.xdg_arrange.proofs.printing.print_ranks.Goals as goal

pub returns-in-Ok-clause-written : goal.returns-in-Ok-clause-written
returns-in-Ok-clause-written g c =
    subst (λ (p : Parts). Writes c.print_arrangement.result c.args.budget p (arrangement_line c.args.number p.words) (g.K.Sink.held c.args.out.now) (g.K.Sink.held c.print_arrangement.new.out)) c.in-Ok.ensures.compiled c.print_arrangement.ensures.written

pub returns-in-Ok-clause-one : goal.returns-in-Ok-clause-one
returns-in-Ok-clause-one g c differs = subst (IsOneFind c.args.budget) c.in-Ok.ensures.compiled (c.print_arrangement.ensures.one differs)

pub returns-in-Ok-clause-keeps : goal.returns-in-Ok-clause-keeps
returns-in-Ok-clause-keeps g c differs = subst (KeepsSolutions (grammar_in c.args.expanded.now) (words_at c.args.words.now c.args.ranks.now)) c.in-Ok.ensures.compiled c.in-Ok.ensures.keeps

pub returns-in-Err-clause-one : goal.returns-in-Err-clause-one
returns-in-Err-clause-one g c differs = absurd (differs refl)

pub returns-in-Err-clause-keeps : goal.returns-in-Err-clause-keeps
returns-in-Err-clause-keeps g c differs = absurd (differs refl)
