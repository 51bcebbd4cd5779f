-- When formulas are true, form by form: what is said of each part or node, that it is true, is said of all, and that it isn't, of none.
use Rattle.std.proofs.Common.{◌≡◌, ◌↔◌, ℕ, ◌+◌, ◌<◌, ◌≤◌, inl, inr, zero, suc, Bool, true, false, List, [], ◌∷◌, ◌++◌, length, map, take, get_or, refl, sym, ap, ◌∙◌, subst, arith}
use Rattle.std.specs.Prelude.{IsTrue, not}
use Rattle.std.proofs.lemmas.Bool.{false≢true}
use Rattle.std.proofs.lemmas.List.{take_all}
use Rattle.xdg_problem.specs.declared.analysis.Analysis.{Analysis}
use Rattle.xdg_problem.specs.declared.formula.Formula.{Formula}
use Rattle.xdg_problem.specs.declared.parts.Parts.{Parts}
use Rattle.xdg_problem.specs.Claims.{Claim, conjunction, disjunction, every, some, claims_of, claim}
use Rattle.xdg_problem.specs.Places.{nodes}
use Rattle.xdg_problem.specs.Truths.{bound, unbound, IsTrueIn, FormulaHolds, HasTruth}
use Rattle.xdg_facts.proofs.Numbers.{all_next}
use Rattle.xdg_facts.proofs.Fronts.{map_next}

says : (result each : Bool) (P : Type 0) → IsTrue result ↔ P → result ≡ each → HasTruth each P
says result true P tells is = tells.0 is
says result false P tells is = λ p. false≢true (sym is ∙ tells.1 p)

told : (each : Bool) (P : Type 0) → HasTruth each P → IsTrue each ↔ P
told true P p = (λ t. p, λ p. refl)
told false P isnt = (λ t. absurd (false≢true t), λ p. absurd (isnt p))

-- the claim of several, and of a name: of each, or of some
abbrev pub several : Bool → List Claim → Claim
several true cs = conjunction (claims_of cs)
several false cs = disjunction (claims_of cs)

abbrev pub over : Bool → ℕ → Claim → Claim
over true name c = every name c
over false name c = some name c

module _ (parts : Parts) (analysis : Analysis) (b : ℕ → ℕ) where
  abbrev pub T : Claim → Type 0
  T c = IsTrueIn parts analysis c b

  -- ---- conjunctions and disjunctions

  several_more : (each : Bool) (cs : List Claim) (c : Claim) → HasTruth each (T (several each cs)) → HasTruth each (T c) → HasTruth each (T (several each (cs ++ c ∷ [])))
  several_more true [] c all here = (here, tt)
  several_more true (d ∷ cs) c all here = (all.0, several_more true cs c all.1 here)
  several_more false [] c none here = λ either. elim either [ inl one ↦ here one | inr later ↦ later ]
  several_more false (d ∷ cs) c none here = λ either. elim either [ inl one ↦ none (inl one) | inr later ↦ several_more false cs c (λ rest. none (inr rest)) here later ]

  -- one that isn't so settles all
  several_broken : (each : Bool) (fs : List Formula) (i : ℕ) (d : Formula) → i < length fs → HasTruth (not each) (T (claim (get_or fs i d))) → HasTruth (not each) (T (several each (map claim fs)))
  several_broken each [] i d l is = absurd (omega (arith, l))
  several_broken true (f ∷ fs) zero d l isnt = λ all. isnt all.0
  several_broken true (f ∷ fs) (suc i) d l isnt = λ all. several_broken true fs i d (omega (arith, l)) isnt all.1
  several_broken false (f ∷ fs) zero d l here = inl here
  several_broken false (f ∷ fs) (suc i) d l here = inr (several_broken false fs i d (omega (arith, l)) here)

  -- the first formulas are all true, or none of them is
  abbrev pub SoFar : Bool → List Formula → ℕ → Type 0
  SoFar each fs i = HasTruth each (T (several each (map claim (take i fs))))

  pub several_turn : (each : Bool) (fs : List Formula) (i : ℕ) (f : Formula) (result : Bool) → i < length fs → f ≡ get_or fs i f → SoFar each fs i → IsTrue result ↔ T (claim f) → result ≡ each → SoFar each fs (i + 1)
  several_turn each fs i f result l at so_far tells is = subst (λ cs. HasTruth each (T (several each cs))) (sym (map_next claim fs i f l at)) (several_more each (map claim (take i fs)) (claim f) so_far (says result each (T (claim f)) tells is))

  module _ (each : Bool) (formula : Formula) where
    pub several_refused : (fs items : List Formula) (i : ℕ) (f : Formula) (result : Bool) → claim formula ≡ several each (map claim fs) → items ≡ fs → i < length items → f ≡ get_or items i f
        → IsTrue result ↔ T (claim f) → result ≡ not each → IsTrue (not each) ↔ T (claim formula)
    several_refused fs items i f result is same l at tells fails =
        subst (λ c. IsTrue (not each) ↔ T c) (sym (is ∙ ap (λ hs. several each (map claim hs)) (sym same)))
        (told (not each) (T (several each (map claim items))) (several_broken each items i f l (subst (λ g. HasTruth (not each) (T (claim g))) at (says result (not each) (T (claim f)) tells fails))))

    pub several_end : (fs items : List Formula) (i : ℕ) → claim formula ≡ several each (map claim fs) → items ≡ fs → length items ≤ i → SoFar each items i → IsTrue each ↔ T (claim formula)
    several_end fs items i is same past so_far =
        subst (λ c. IsTrue each ↔ T c) (sym (is ∙ ap (λ hs. several each (map claim hs)) (sym (take_all i items past ∙ same)))) (told each (T (several each (map claim (take i items)))) so_far)

    -- ---- quantifiers

    -- a formula is true where a name stands for a node
    abbrev pub At : ℕ → Formula → ℕ → Type 0
    At name f node = IsTrueIn parts analysis (claim f) (bound b name node)

    -- it is at each of the first nodes, or at none
    abbrev pub SoBelow : ℕ → Formula → ℕ → Type 0
    SoBelow name f k = (node : ℕ) → node < k → HasTruth each (At name f node)

    at_of : (name node : ℕ) (f g : Formula) (c : ℕ → ℕ) (result : Bool) → g ≡ f → c ≡ bound b name node → IsTrue result ↔ IsTrueIn parts analysis (claim g) c → IsTrue result ↔ At name f node
    at_of name node f g c result same bind tells = subst (λ h. IsTrue result ↔ At name h node) same (subst (λ d. IsTrue result ↔ IsTrueIn parts analysis (claim g) d) bind tells)

    pub over_turn : (name : ℕ) (f g : Formula) (k : ℕ) (c : ℕ → ℕ) (result : Bool) → SoBelow name f k → g ≡ f → c ≡ bound b name k → IsTrue result ↔ IsTrueIn parts analysis (claim g) c → result ≡ each → SoBelow name f (k + 1)
    over_turn name f g k c result so_far same bind tells is = all_next (λ node. HasTruth each (At name f node)) k so_far (says result each (At name f k) (at_of name k f g c result same bind tells) is)

    pub over_refused : (name : ℕ) (f g : Formula) (k : ℕ) (c : ℕ → ℕ) (result : Bool) → claim formula ≡ over each name (claim f) → g ≡ f → k < nodes parts → c ≡ bound b name k
        → IsTrue result ↔ IsTrueIn parts analysis (claim g) c → result ≡ not each → IsTrue (not each) ↔ T (claim formula)
    over_refused name f g k c result is same l bind tells fails =
        subst (λ d. IsTrue (not each) ↔ T d) (sym is) (told (not each) (T (over each name (claim f))) (broken each (says result (not each) (At name f k) (at_of name k f g c result same bind tells) fails)))
      where
        broken : (e : Bool) → HasTruth (not e) (At name f k) → HasTruth (not e) (T (over e name (claim f)))
        broken true isnt = λ all. isnt (all k l)
        broken false here = (k, l, here)

    pub over_end : (name : ℕ) (f : Formula) (k : ℕ) → claim formula ≡ over each name (claim f) → nodes parts ≤ k → SoBelow name f k → IsTrue each ↔ T (claim formula)
    over_end name f k is past so_far = subst (λ d. IsTrue each ↔ T d) (sym is) (told each (T (over each name (claim f))) (all each so_far))
      where
        all : (e : Bool) → ((node : ℕ) → node < k → HasTruth e (At name f node)) → HasTruth e (T (over e name (claim f)))
        all true each_is = λ node l. each_is node (omega (arith, l, past))
        all false none = λ one. none one.0 (let l = one.1 in omega (arith, l, past)) one.2

-- no name is bound at first

pub holds_unbound : (parts : Parts) (analysis : Analysis) (formula : Formula) (b : ℕ → ℕ) (result : Bool) → b ≡ unbound → IsTrue result ↔ IsTrueIn parts analysis (claim formula) b → IsTrue result ↔ FormulaHolds parts analysis formula
holds_unbound parts analysis formula b result is told = subst (λ c. IsTrue result ↔ IsTrueIn parts analysis (claim formula) c) is told
