-- A compiled sentence keeps the solutions of the grammar.
use Rattle.std.proofs.Common.{◌≡◌, None, List, sym, subst, All}
use Rattle.std.specs.Prelude.{◌↔◌}
use Rattle.std.specs.List.{AllZip}
use Rattle.xdg_problem.specs.declared.analysis.Analysis.{Analysis}
use Rattle.xdg_problem.specs.declared.parts.Group.{Group}
use Rattle.xdg_problem.specs.declared.parts.Parts.{Parts}
use Rattle.xdg_problem.specs.declared.parts.SentenceWord.{SentenceWord}
use Rattle.xdg_problem.specs.Analyses.{IsAnalysis}
use Rattle.xdg_problem.specs.Relations.{Relation}
use Rattle.xdg_problem.specs.Solutions as compiled
use Rattle.xdg_types.specs.Table.{IsTable}
use Rattle.xdg_packed.specs.Entries.{IsRightLexicon}
use Rattle.xdg_principles.specs.declared.building.PrincipleUse.{PrincipleUse}
use Rattle.xdg_principles.specs.Typed.{AreTypedUses}
use Rattle.xdg_check.specs.Checked.{IsChecked}
use Rattle.xdg_check.specs.Checked as checked
use Rattle.xdg_packed.specs.Lexicon.{Lexicon}
use Rattle.xdg_build.specs.Grammars.{Grammar, grammar_of, is_used}
use Rattle.xdg_build.specs.Groups.{group_of, used_uses}
use Rattle.xdg_build.specs.Compiled.{candidates_of, compiled}
use Rattle.xdg_build.specs.Principles.{Satisfies}
use Rattle.xdg_build.specs.Refusals.{refusal}
use Rattle.xdg_build.specs.Solutions.{IsSolutionOf, KeepsSolutions}
use Rattle.xdg_build.proofs.Admitted.{IsAdmitted, is_admitted}
use Rattle.xdg_build.proofs.Fitting.{same_analyses}
use Rattle.xdg_build.proofs.Satisfied.{satisfied_same}
use Rattle.xdg_build.proofs.Told.{Given}
use Rattle.xdg_facts.specs.Membership.{In}
use Rattle.xdg_facts.proofs.In.{in_filter, mapped_on}
use Rattle.xdg_facts.proofs.Zips.{zip_map}

-- ---- solutions

module _ (g : Grammar) (words : List SentenceWord) (table : IsTable g.table) (typed : AreTypedUses g.table g.uses) (lexicon : IsRightLexicon g.table g.lexicon.entries) (admitted : IsAdmitted g words) where
  abbrev of_use : PrincipleUse → Group
  of_use = group_of g (candidates_of g words)

  module _ (a : Analysis) (is : IsAnalysis (compiled g words) a) where
    given : (u : PrincipleUse) → In (used_uses g) u → Given g words a u
    given u i =
        let both = in_filter (λ (one : PrincipleUse). is_used g.table one.home) g.uses u i in
        record { table = table; lexicon = lexicon; used = both.1; right = typed u both.0; fit = is; is = (same_analyses g words admitted a).0 is }

    satisfied : (u : PrincipleUse) → In (used_uses g) u → Satisfies g words a u ↔ Relation (compiled g words) (of_use u) a
    satisfied u i = satisfied_same g words a u (given u i)

    each_use : AllZip (λ (u : PrincipleUse) (group : Group). Satisfies g words a u ↔ Relation (compiled g words) group a) (used_uses g) (compiled g words).groups
    each_use = zip_map (λ (u : PrincipleUse) (group : Group). Satisfies g words a u ↔ Relation (compiled g words) group a) of_use (used_uses g) satisfied

    all_satisfied : All (Satisfies g words a) (used_uses g) ↔ All (λ (group : Group). Relation (compiled g words) group a) (compiled g words).groups
    all_satisfied = mapped_on (Satisfies g words a) (λ (group : Group). Relation (compiled g words) group a) of_use (used_uses g) satisfied

  solution_of : (a : Analysis) → compiled.IsSolution (compiled g words) a → IsSolutionOf g words a
  solution_of a h = record { fits = (same_analyses g words admitted a).0 h.fits; each = (all_satisfied a h.fits).1 h.each }

  of_solution : (a : Analysis) → IsSolutionOf g words a → compiled.IsSolution (compiled g words) a
  of_solution a h = let is : IsAnalysis (compiled g words) a = (same_analyses g words admitted a).1 h.fits in record { fits = is; each = (all_satisfied a is).0 h.each }

  keeps_solutions : KeepsSolutions g words (compiled g words)
  keeps_solutions = record {
    fits = same_analyses g words admitted;
    uses = each_use;
    solutions = λ a. (solution_of a, of_solution a);
  }

pub made_keeps_solutions : (parts : checked.Parts) (lexicon : Lexicon) (words : List SentenceWord) (made : Parts) → IsChecked parts → IsRightLexicon parts.types lexicon.entries → refusal (grammar_of parts lexicon) words ≡ None → made ≡ compiled (grammar_of parts lexicon) words
    → KeepsSolutions (grammar_of parts lexicon) words made
made_keeps_solutions parts lexicon words made is right good same =
    let g : Grammar = grammar_of parts lexicon in
    subst (KeepsSolutions g words) (sym same) (keeps_solutions g words is.types is.principles right (is_admitted g words good))
