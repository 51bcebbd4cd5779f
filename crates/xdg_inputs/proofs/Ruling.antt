-- A problem with rules.
use Rattle.std.proofs.Common.{◌≡◌, ◌↔◌, ◌∙◌, ◌≤◌, List, [], ◌∷◌, length, length-append, refl, sym, ap, subst, arith}
use Rattle.std.specs.Prelude.{All, IfOk, Result}
use Rattle.std.specs.List.{AllZip}
use Rattle.std.proofs.lemmas.List.{append-nil}
use Rattle.std.proofs.lemmas.List.Elements.{All-cons, All-head, All-nil, All-tail}
use Rattle.xdg_build.proofs.Lawful.{compiled_for}
use Rattle.xdg_build.specs.Formulas.{formulas_of}
use Rattle.xdg_build.specs.Problems.{IsFor}
use Rattle.xdg_build.specs.Says.{KeepsEach}
use Rattle.xdg_build.specs.Truths.{RuleHolds}
use Rattle.xdg_formula.specs.declared.tree.Rule.{Rule}
use Rattle.xdg_inputs.specs.RightLexicons.{HasRightLexicon}
use Rattle.xdg_inputs.specs.Answers.{grammar_in}
use Rattle.xdg_inputs.specs.declared.expanding.Expanded.{Expanded}
use Rattle.xdg_build.specs.Grammars.{Grammar}
use Rattle.xdg_inputs.specs.Made.{IsMade}
use Rattle.xdg_problem.specs.declared.analysis.Analysis.{Analysis}
use Rattle.xdg_problem.specs.declared.formula.Formula.{Formula}
use Rattle.xdg_problem.specs.declared.parts.Group.{Group}
use Rattle.xdg_problem.specs.declared.parts.Parts.{Parts}
use Rattle.xdg_problem.specs.declared.parts.Principle.TheVariants as principles
use Rattle.xdg_problem.specs.Analyses.{IsAnalysis}
use Rattle.xdg_problem.specs.Claims.{Suits}
use Rattle.xdg_problem.specs.Further.{rules_of, use_of, with_uses}
use Rattle.xdg_problem.specs.Places.{nodes}
use Rattle.xdg_problem.specs.Problems.{IsProblem}
use Rattle.xdg_problem.specs.Truths.{FormulaHolds}
use Rattle.xdg_problem.proofs.FurtherLawful.{rule_relation, rules_lawful}
use Rattle.xdg_problem.proofs.FurtherUses.{relation_still}
use Rattle.xdg_inputs.specs.Ruled.{IsUseOf, KeepsRules, ruled}
use Rattle.xdg_facts.proofs.Lists.{zip_length}
use Rattle.xdg_facts.proofs.Options.{if_ok}

-- ---- a problem is one of its grammar

pub made_for : (made : Expanded) (parts : Parts) → HasRightLexicon made → IsMade (grammar_in made) parts → IsFor made.checked.types made.lexicon parts
made_for made parts right of = subst (IsFor made.checked.types made.lexicon) (sym of.is) (compiled_for (grammar_in made) of.words right.right.entries)

-- ---- formulas and rules

module _ (g : Grammar) (parts : Parts) where
  pub each_suits : (rules : List Rule) (formulas : List Formula) → KeepsEach g.table g.lexicon parts rules formulas → All (Suits parts) formulas
  each_suits [] [] keeps = All-nil (Suits parts)
  each_suits (rule ∷ rules) (formula ∷ formulas) keeps = All-cons (Suits parts) formula formulas keeps.0.suits (each_suits rules formulas keeps.1)
  each_suits _ _ keeps = absurd keeps

  -- the formulas are true where the rules are
  same_truths : (a : Analysis) → IsAnalysis parts a → (rules : List Rule) (formulas : List Formula) → KeepsEach g.table g.lexicon parts rules formulas
      → All (FormulaHolds parts a) formulas ↔ All (RuleHolds g.table g.lexicon (nodes parts) a) rules
  same_truths a fits [] [] keeps = (λ all. All-nil (RuleHolds g.table g.lexicon (nodes parts) a), λ all. All-nil (FormulaHolds parts a))
  same_truths a fits (rule ∷ rules) (formula ∷ formulas) keeps =
      let here = keeps.0.same a fits in
      let later = same_truths a fits rules formulas keeps.1 in
      let P = FormulaHolds parts a in
      let Q = RuleHolds g.table g.lexicon (nodes parts) a in (
        λ all. All-cons Q rule rules (here.0 (All-head P formula formulas all)) (later.0 (All-tail P formula formulas all)),
        λ all. All-cons P formula formulas (here.1 (All-head Q rule rules all)) (later.1 (All-tail Q rule rules all)),
      )
  same_truths a fits _ _ keeps = absurd keeps

  -- the use of a rule's formula
  use_kept : (uses : List Group) (rules : List Rule) (formulas : List Formula) → KeepsEach g.table g.lexicon parts rules formulas → AllZip (IsUseOf g parts (with_uses parts uses)) rules (rules_of parts formulas)
  use_kept uses [] [] keeps = tt
  use_kept uses (rule ∷ rules) (formula ∷ formulas) keeps = (
    λ a fits.
        let still = relation_still parts uses (use_of parts (principles.Rule formula)) a in
        let own = rule_relation parts formula a in
        let same = keeps.0.same a fits in
        (λ r. same.0 (own.0 (still.0 r)), λ h. still.1 (own.1 (same.1 h))),
    use_kept uses rules formulas keeps.1,
  )
  use_kept uses _ _ keeps = absurd keeps

  -- without rules the problem stays
  no_rules : KeepsRules g [] parts parts
  no_rules = record {
    fits = λ a. (λ f. f, λ f. f);
    vectors = λ a. refl;
    solutions = λ a. (λ s. (s, All-nil (RuleHolds g.table g.lexicon (nodes parts) a)), λ s. s.0);
    uses = record { uses = []; groups_are = sym (append-nil parts.groups); each = tt };
  }

  some_rules : (rules : List Rule) (formulas : List Formula) → IsProblem parts → KeepsEach g.table g.lexicon parts rules formulas → KeepsRules g rules parts (with_uses parts (rules_of parts formulas))
  some_rules rules formulas problem keeps =
      let laws = rules_lawful parts formulas problem (each_suits rules formulas keeps) in
      record {
        fits = laws.fits;
        vectors = laws.vectors;
        solutions = λ a. (
          λ s. let both = (laws.solutions a).0 s in (both.0, (same_truths a both.0.fits rules formulas keeps).0 both.1),
          λ s. (laws.solutions a).1 (s.0, (same_truths a s.0.fits rules formulas keeps).1 s.1),
        );
        uses = record { uses = rules_of parts formulas; groups_are = refl; each = use_kept (rules_of parts formulas) rules formulas keeps };
      }

-- ---- what is made

pub none_ruled : (g : Grammar) (rules : List Rule) (parts : Parts) → rules ≡ [] → parts ≡ ruled g rules parts
none_ruled g rules parts e = subst (λ (z : List Rule). parts ≡ ruled g z parts) (sym e) refl

pub none_keeps : (g : Grammar) (rules : List Rule) (parts : Parts) → rules ≡ [] → KeepsRules g rules parts parts
none_keeps g rules parts e = subst (λ (z : List Rule). KeepsRules g z parts parts) (sym e) (no_rules g parts)

-- with rules, of which there are some, a call that may lack memory makes it

some_ruled : (g : Grammar) (rules : List Rule) (parts : Parts) → (rules ≡ [] → ⊥) → with_uses parts (rules_of parts (formulas_of g.table g.lexicon parts rules)) ≡ ruled g rules parts
some_ruled g [] parts some = absurd (some refl)
some_ruled g (rule ∷ rules) parts some = refl

pub made_ruled : {E : Type 0} (g : Grammar) (rules : List Rule) (parts : Parts) (formulas : List Formula) (result : Result Parts E) → (rules ≡ [] → ⊥) → formulas ≡ formulas_of g.table g.lexicon parts rules → IfOk result (λ made. made ≡ with_uses parts (rules_of parts formulas))
    → IfOk result (λ made. made ≡ ruled g rules parts)
made_ruled g rules parts formulas result some f =
    if_ok (λ made. made ≡ with_uses parts (rules_of parts formulas)) (λ made. made ≡ ruled g rules parts) result (λ made e. e ∙ ap (λ z. with_uses parts (rules_of parts z)) f ∙ some_ruled g rules parts some)

pub made_keeps : {E : Type 0} (g : Grammar) (rules : List Rule) (parts : Parts) (formulas : List Formula) (result : Result Parts E) → IsProblem parts → KeepsEach g.table g.lexicon parts rules formulas → IfOk result (λ made. made ≡ with_uses parts (rules_of parts formulas))
    → IfOk result (KeepsRules g rules parts)
made_keeps g rules parts formulas result problem keeps =
    if_ok (λ made. made ≡ with_uses parts (rules_of parts formulas)) (KeepsRules g rules parts) result (λ made e. subst (KeepsRules g rules parts) (sym e) (some_rules g parts rules formulas problem keeps))

-- ---- what is kept

-- an analysis stays one
pub ruled_fits : (g : Grammar) (rules : List Rule) (parts made : Parts) (a b : Analysis) → KeepsRules g rules parts made → b ≡ a → IsAnalysis parts a → IsAnalysis made b
ruled_fits g rules parts made a b keeps same fits = subst (IsAnalysis made) (sym same) ((keeps.fits a).1 fits)

-- there are no more rules than uses
pub rules_few : (g : Grammar) (rules : List Rule) (parts made : Parts) → KeepsRules g rules parts made → length rules ≤ length made.groups
rules_few g rules parts made keeps =
    let same = zip_length (IsUseOf g parts made) rules keeps.uses.uses keeps.uses.each in
    let all = ap length keeps.uses.groups_are in
    omega (arith, same, all, length-append parts.groups keeps.uses.uses)
