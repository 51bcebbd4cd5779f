use Rattle.std.proofs.Common.{◌≡◌, ◌∙◌, ap, subst, sym}
use Rattle.xdg_searches.specs.Broken.{has_broken}
use Rattle.xdg_judge.specs.Verdicts.{AreVerdicts}
use Rattle.xdg_problem.specs.Analyses.{IsAnalysis}
use Rattle.xdg_problem.specs.Vectors.{analysis_of}
use Rattle.xdg_searches.proofs.judging.is_last_broken.Goals as goal

pub explain-requires : goal.explain-requires
explain-requires g c =
    let same : c.in_ok-analysis.analysis ≡ analysis_of c.args.problem.now c.args.stream.now.last = c.in_ok-analysis.ensures ∙ ap (λ p. analysis_of p c.args.stream.now.last) c.requires.given in
    record { fits = subst (IsAnalysis c.args.problem.now) (sym same) c.requires.fits }

pub returns : goal.returns
returns g c =
    let same : c.in_ok-analysis.analysis ≡ analysis_of c.args.problem.now c.args.stream.now.last = c.in_ok-analysis.ensures ∙ ap (λ p. analysis_of p c.args.stream.now.last) c.requires.given in
    record {
      verdicts = c.in_ok-verdicts.verdicts;
      are = subst (λ a. AreVerdicts c.args.problem.now a c.args.problem.now.groups c.in_ok-verdicts.verdicts) same c.in_ok-verdicts.ensures;
      says = c.has_broken.ensures ∙ ap has_broken c.as_slice.ensures;
    }
