-- The laws of what claims are worth in boxes.
use Rattle.std.proofs.Common.{◌<◌, ◌≡◌, ℕ, ◌⊎◌, inl, inr, Bool, true, false, List, length, refl, sym, subst, ap, ◌∙◌, arith}
use Rattle.std.specs.Prelude.{Option, Some, None}
use Rattle.std.proofs.lemmas.List.{length-map}
use Rattle.xdg_facts.specs.Fits.{Fits}
use Rattle.xdg_problem.specs.declared.analysis.Analysis.{Analysis}
use Rattle.xdg_problem.specs.declared.parts.Parts.{Parts}
use Rattle.xdg_problem.specs.Analyses.{IsAnalysis}
use Rattle.xdg_problem.specs.Boxes.{IsBox, IsSingle, IsIn, Agrees}
use Rattle.xdg_problem.specs.Problems.{IsProblem}
use Rattle.xdg_problem.specs.Vectors.{shape, vector, entry_places, analysis_of}
use Rattle.xdg_problem.proofs.VectorFacts.{analysis_vector, vector_fits, length_vector}
use Rattle.xdg_problem.proofs.BoxPlaces.{has_decision}
use Rattle.xdg_rules.proofs.Agreeing.{agrees_at}
use Rattle.xdg_rules.specs.Boxed.{only, first_numbers}
use Rattle.xdg_rules.specs.Rules.{first_true}
use Rattle.xdg_rules.proofs.Single.{single_agrees, only_agrees, only_box, only_lies}
use Rattle.xdg_problem.specs.Claims.{Claim, IsOf, IsBound}
use Rattle.xdg_problem.specs.Truths.{IsTrueIn, HasTruth, AreNodes}
use Rattle.xdg_rules.specs.Worths.{Makes, IsWorth}
use Rattle.xdg_rules.specs.WorthLaws.{HasOneWorth, WorthLaws, Agree, NameLaws}
use Rattle.xdg_rules.proofs.Apart.{apart, decided_makes}
use Rattle.xdg_rules.proofs.Named.{true_like, makes_like}
use Rattle.xdg_rules.proofs.Narrowing.{narrower}
use Rattle.xdg_rules.proofs.Settled.{settled}
use Rattle.xdg_rules.proofs.SoundClaims.{sound}

-- a box that agrees with a whole vector has single values
agrees_single : (box : List (List Bool)) (x : List ℕ) → length box ≡ length x → Agrees box x → IsSingle box
agrees_single box x long agrees d v y has other =
    let l : d < length x = (let k = has_decision box d v has in omega (arith, k, long)) in
    (agrees_at box x agrees d l y).0 other ∙ sym ((agrees_at box x agrees d l v).0 has)

-- what a claim is goes by its bound names
pub name_laws : (parts : Parts) (scope : List ℕ) (c : Claim) → IsBound scope c → NameLaws parts scope c
name_laws parts scope c names = record {
  truth = λ analysis a b agree. true_like parts (entry_places parts.candidates analysis.entries) analysis.attrs analysis.edges scope c a b names agree;
  worth = worth_like;
} where
  worth_like : (box : List (List Bool)) (value : Option Bool) (a b : ℕ → ℕ) → Agree scope a b → IsWorth parts box c a value → IsWorth parts box c b value
  worth_like box (Some truth) a b agree makes = makes_like parts box scope c truth a b names agree makes
  worth_like box None a b agree makes = λ truth made. makes truth (makes_like parts box scope c truth b a names (λ name within. sym (agree name within)) made)

module _ (parts : Parts) (problem : IsProblem parts) where
  module _ (c : Claim) (b : ℕ → ℕ) (suits : IsOf parts c) (are : AreNodes parts b) where
    only_worth : (box : List (List Bool)) → IsBox (shape parts) box → (one other : Option Bool) → IsWorth parts box c b one → IsWorth parts box c b other → other ≡ one
    only_worth box is (Some true) (Some true) this that = refl
    only_worth box is (Some true) (Some false) this that = absurd (apart parts box problem is c true b suits are this that)
    only_worth box is (Some false) (Some true) this that = absurd (apart parts box problem is c true b suits are that this)
    only_worth box is (Some false) (Some false) this that = refl
    only_worth box is (Some truth) None this that = absurd (that truth this)
    only_worth box is None (Some truth) this that = absurd (this truth that)
    only_worth box is None None this that = refl

    with_only : (box : List (List Bool)) → IsBox (shape parts) box → (value : Option Bool) → IsWorth parts box c b value → HasOneWorth parts box c b
    with_only box is value worth = record { value = value; is = worth; only = λ other that. only_worth box is value other worth that }

    neither : (box : List (List Bool)) → (Makes parts box c true b → ⊥) → (Makes parts box c false b → ⊥) → (truth : Bool) → Makes parts box c truth b → ⊥
    neither box not_true not_false true = not_true
    neither box not_true not_false false = not_false

    one : (box : List (List Bool)) → IsBox (shape parts) box → HasOneWorth parts box c b
    one box is = elim (decided_makes parts box c true b) [
      | inl holds ↦ with_only box is (Some true) holds
      | inr not_true ↦ elim (decided_makes parts box c false b) [
        | inl fails ↦ with_only box is (Some false) fails
        | inr not_false ↦ with_only box is None (neither box not_true not_false)
      ]
    ]

    -- in the box of a whole vector
    whole_sound : (x : List ℕ) → Fits (shape parts) x → length x ≡ length (shape parts) → (value : Bool) → Makes parts (only (shape parts) x) c value b → HasTruth value (IsTrueIn parts (analysis_of parts x) c b)
    whole_sound x fits whole value = sound parts (only (shape parts) x) x problem (only_box (shape parts) x fits whole) whole (only_agrees (shape parts) x fits) c value b suits are

    truth : (box : List (List Bool)) (value : Bool) → IsWorth parts box c b (Some value) → (analysis : Analysis) → IsAnalysis parts analysis → IsIn box (vector parts analysis) → HasTruth value (IsTrueIn parts analysis c b)
    truth box value makes analysis is lies =
        let x : List ℕ = vector parts analysis in
        let fits = vector_fits parts analysis problem is in
        let whole = length_vector parts analysis problem is in
        let narrow = narrower parts (only (shape parts) x) box (only_box (shape parts) x fits whole) (only_lies (shape parts) x box fits whole lies) c value b makes in
        subst (λ a. HasTruth value (IsTrueIn parts a c b)) (analysis_vector parts analysis problem is) (whole_sound x fits whole value narrow)

    single : (box : List (List Bool)) → IsBox (shape parts) box → IsSingle box → IsWorth parts box c b None → ⊥
    single box is ones undecided = elim (settled parts box problem is ones c b suits are) [ inl holds ↦ undecided true holds | inr fails ↦ undecided false fails ]

    -- in a box that agrees with a whole vector what it makes the claim is the truth that the vector's analysis has
    module _ (box : List (List Bool)) (x : List ℕ) (is : IsBox (shape parts) box) (whole : length x ≡ length (shape parts)) (agrees : Agrees box x) where
      abbrev Holds : Type 0
      Holds = IsTrueIn parts (analysis_of parts x) c b

      pub agreeing_sound : (value : Bool) → Makes parts box c value b → HasTruth value Holds
      agreeing_sound value = sound parts box x problem is whole agrees c value b suits are

      long : length box ≡ length x
      long = sym (length-map box length) ∙ ap length is.sizes ∙ sym whole

      pub agreeing_settled : Makes parts box c true b ⊎ Makes parts box c false b
      agreeing_settled = settled parts box problem is (agrees_single box x long agrees) c b suits are

      pub agreeing_makes : (value : Bool) → HasTruth value Holds → Makes parts box c value b
      agreeing_makes true holds = elim agreeing_settled [ inl made ↦ made | inr fails ↦ absurd (agreeing_sound false fails holds) ]
      agreeing_makes false fails = elim agreeing_settled [ inl made ↦ absurd (fails (agreeing_sound true made)) | inr made ↦ made ]

    -- the single values of a box are a whole vector with which it agrees
    by_truth : (box : List (List Bool)) → IsBox (shape parts) box → IsSingle box → (value : Bool) → HasTruth value (IsTrueIn parts (analysis_of parts (first_numbers box)) c b) → Makes parts box c value b
    by_truth box is ones value holds =
        let long : length box ≡ length (shape parts) = sym (length-map box length) ∙ ap length is.sizes in
        agreeing_makes box (first_numbers box) is (length-map box first_true ∙ long) (single_agrees box (λ d l. is.filled d (omega (arith, l, long))) ones) value holds

    pub worth_laws : WorthLaws parts c b
    worth_laws = record {
      one = one;
      truth = truth;
      smaller = λ small large is lies value. narrower parts small large is lies c value b;
      single = single;
      alone = by_truth;
    }
