-- What jobs reach, one list of them behind the other.
use Rattle.std.proofs.Common.{◌≡◌, ℕ, inl, inr, Bool, true, false, List, [], ◌∷◌, ◌++◌, length, take, refl, ap, sym, ◌∙◌, subst, arith, append_assoc}
use Rattle.std.proofs.lemmas.List.Elements.{All-head, All-tail}
use Rattle.xdg_facts.specs.Whole.{reach}
use Rattle.xdg_facts.proofs.Ordered.{three_cases}
use Rattle.xdg_facts.proofs.Unique.{listing_unique}
use Rattle.xdg_problem.specs.declared.analysis.Analysis.{Analysis}
use Rattle.xdg_problem.specs.Problems.{IsProblem}
use Rattle.xdg_problem.specs.Vectors.{shape}
use Rattle.xdg_problem.proofs.OneList.{some_solution_list}
use Rattle.xdg_problem.proofs.SolutionLists.{solutions_unique}
use Rattle.xdg_rules.specs.Boxed.{Boxed}
use Rattle.xdg_rules.proofs.RuleLaws.{boxed_laws}
use Rattle.xdg_split.specs.Asked.{Asked}
use Rattle.std.specs.Prelude.{All}
use Rattle.xdg_split.specs.Splits.{AreLists, AreProblems, IsWhole, Reach}
use Rattle.xdg_split.specs.Splits.Reaches.{all, some}
use Rattle.xdg_facts.proofs.Truths.{not_both}

-- whole jobs and others behind them
pub reach_both : (jobs more : List Asked) (whole : Bool) (f g : List Analysis) → Reach jobs true f → Reach more whole g → Reach (jobs ++ more) whole (f ++ g)
reach_both [] more whole f g here there = subst (λ z. Reach more whole (z ++ g)) (sym here.1) there
reach_both (job ∷ jobs) more whole f g (all counted solutions rest lists within later is) there =
    all counted solutions (rest ++ g) lists within (reach_both jobs more whole rest g later there) (ap (λ z. z ++ g) is ∙ append_assoc solutions rest g)
reach_both (job ∷ jobs) more whole f g (some counted solutions lists beyond spent is) there = not_both spent

-- behind a job that isn't whole nothing is added
pub reach_stopped : (jobs more : List Asked) (f : List Analysis) → Reach jobs false f → Reach (jobs ++ more) false f
reach_stopped [] more f here = not_both (sym here.0)
reach_stopped (job ∷ jobs) more f (all counted solutions rest lists within later is) = all counted solutions rest lists within (reach_stopped jobs more rest later) is
reach_stopped (job ∷ jobs) more f (some counted solutions lists beyond spent is) = some counted solutions lists beyond spent is

-- the lists of a job
pub some_lists : (job : Asked) → IsProblem job.parts → (counted : List (List ℕ)) × (solutions : List Analysis) × AreLists job counted solutions
some_lists job is =
    let listed = (boxed_laws job.parts is).listed [] in
    let solutions = some_solution_list job.parts [] is in
    (listed.members, solutions.0, record { counted_are = listed.listing; solutions_are = solutions.1 })

one_counted : (job : Asked) (c d : List (List ℕ)) (s t : List Analysis) → AreLists job c s → AreLists job d t → c ≡ d
one_counted job c d s t x y = listing_unique (shape job.parts) (Boxed job.parts) [] c d x.counted_are y.counted_are

one_solved : (job : Asked) (c d : List (List ℕ)) (s t : List Analysis) → IsProblem job.parts → AreLists job c s → AreLists job d t → s ≡ t
one_solved job c d s t is x y = solutions_unique job.parts is [] s t x.solutions_are y.solutions_are

-- what a job reaches, and then the others
reach_job : (job : Asked) (jobs : List Asked) → IsProblem job.parts → (whole : Bool) (later : List Analysis) → Reach jobs whole later → (w : Bool) × (f : List Analysis) × Reach (job ∷ jobs) w f
reach_job job jobs is whole later behind =
    let lists = some_lists job is in
    elim (three_cases job.budget (length lists.0)) [
      | inl beyond ↦ (false, take (reach (shape job.parts) job.budget lists.0) lists.1, some lists.0 lists.1 lists.2 beyond refl refl)
      | inr (inl same) ↦ (whole, lists.1 ++ later, all lists.0 lists.1 later lists.2 (omega (arith, same)) behind refl)
      | inr (inr within) ↦ (whole, lists.1 ++ later, all lists.0 lists.1 later lists.2 (omega (arith, within)) behind refl)
    ]

pub some_reach : (jobs : List Asked) → AreProblems jobs → (whole : Bool) × (found : List Analysis) × Reach jobs whole found
some_reach [] are = (true, [], (refl, refl))
some_reach (job ∷ jobs) are =
    let later = some_reach jobs (All-tail (λ (job : Asked). IsProblem job.parts) job jobs are) in
    reach_job job jobs (All-head (λ (job : Asked). IsProblem job.parts) job jobs are) later.0 later.1 later.2

pub one_reach : (jobs : List Asked) → AreProblems jobs → (v w : Bool) (f g : List Analysis) → Reach jobs v f → Reach jobs w g → (v ≡ w) × (f ≡ g)
one_reach [] are v w f g x y = (x.0 ∙ sym y.0, x.1 ∙ sym y.1)
one_reach (job ∷ jobs) are v w f g (all c s m lists within later is) (all d t n others inside behind same) =
    let problem = All-head (λ (job : Asked). IsProblem job.parts) job jobs are in
    let rest = one_reach jobs (All-tail (λ (job : Asked). IsProblem job.parts) job jobs are) v w m n later behind in
    (rest.0, is ∙ ap (λ z. z ++ m) (one_solved job c d s t problem lists others) ∙ ap (λ z. t ++ z) rest.1 ∙ sym same)
one_reach (job ∷ jobs) are v w f g (all c s m lists within later is) (some d t others beyond spent same) =
    absurd (let e = ap length (one_counted job c d s t lists others) in omega (arith, e, within, beyond))
one_reach (job ∷ jobs) are v w f g (some c s lists beyond spent is) (all d t n others inside behind same) =
    absurd (let e = ap length (one_counted job c d s t lists others) in omega (arith, e, beyond, inside))
one_reach (job ∷ jobs) are v w f g (some c s lists beyond spent is) (some d t others past over same) =
    let problem = All-head (λ (job : Asked). IsProblem job.parts) job jobs are in
    (spent ∙ sym over, is ∙ ap (λ z. take (reach (shape job.parts) job.budget z) s) (one_counted job c d s t lists others) ∙ ap (take (reach (shape job.parts) job.budget d)) (one_solved job c d s t problem lists others) ∙ sym same)

-- where all budgets cover the boxed prefixes, all jobs are whole
pub all_reach : (jobs : List Asked) (whole : Bool) (f : List Analysis) → All IsWhole jobs → Reach jobs whole f → whole ≡ true
all_reach [] whole f each here = here.0
all_reach (job ∷ jobs) whole f each (all counted solutions rest lists within later is) = all_reach jobs whole rest (All-tail IsWhole job jobs each) later
all_reach (job ∷ jobs) whole f each (some counted solutions lists beyond spent is) =
    absurd (let within = All-head IsWhole job jobs each counted lists.counted_are in omega (arith, within, beyond))
