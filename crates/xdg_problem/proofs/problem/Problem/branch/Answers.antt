use Rattle.std.proofs.Common.{◌∙◌, ap, sym, subst}
use Rattle.xdg_problem.specs.declared.parts.Parts.{Parts}
use Rattle.xdg_problem.specs.Branches.{branch_of}
use Rattle.xdg_problem.specs.Problems.{IsProblem}
use Rattle.xdg_problem.proofs.BranchParts.{branch_problem}
use Rattle.xdg_problem.proofs.problem.Problem.branch.Goals as goal

pub of-requires : goal.of-requires
of-requires c =
    subst IsProblem (sym (c.in_ok-parts.ensures ∙ ap (λ (parts : Parts). branch_of parts c.args.place) c.parts.ensures.same)) (branch_problem c.args.self.now c.args.place c.parts.ensures.kept c.requires)
