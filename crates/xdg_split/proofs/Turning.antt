-- Jobs that are searched some at a time.
use Rattle.std.proofs.Common.{◌≡◌, ℕ, ◌<◌, List, [], ◌∷◌, ◌++◌, length, take, drop, refl, ap, sym, ◌∙◌, subst, true, arith, append_assoc, append-nil}
use Rattle.std.specs.Prelude.{None, Option, Some, slice_get}
use Rattle.std.specs.Option.{unwrap_or}
use Rattle.std.proofs.lemmas.List.{take-append-drop}
use Rattle.std.proofs.lemmas.List.Elements.{All-drop, All-head}
use Rattle.xdg_split.specs.Written.{IsSome}
use Rattle.xdg_facts.specs.declared.Ending.{Ending}
use Rattle.xdg_facts.specs.declared.Ending.TheVariants as endings
use Rattle.xdg_problem.specs.declared.analysis.Analysis.{Analysis}
use Rattle.xdg_problem.specs.Problems.{IsProblem}
use Rattle.xdg_split.specs.Asked.{Asked}
use Rattle.xdg_split.specs.Finds.{Joins}
use Rattle.xdg_split.specs.Splits.{AllWant, AreProblems, Continues, IsSplit}
use Rattle.xdg_split.proofs.Collecting.{below_some}
use Rattle.xdg_split.proofs.Reaching.{some_reach}
use Rattle.xdg_split.proofs.Together.{split_stopped}

-- no jobs come to nothing
pub split_none : (wanted : Option ℕ) → IsSome wanted → IsSplit wanted [] endings.Complete []
split_none wanted some = record { whole = true; reached = []; reach = (refl, refl); end = (refl, refl, below_some wanted some) }

-- the only job of a list
pub split_only : (wanted : Option ℕ) (jobs : List Asked) (job : Asked) (ending : Ending) (found : List Analysis) → length jobs < 2 → slice_get jobs 0 ≡ Some job → AllWant wanted jobs → IsSplit job.first (job ∷ []) ending found → IsSplit wanted jobs ending found
split_only wanted [] job ending found few is wants split = absurd cc
split_only wanted (one ∷ []) job ending found few is wants split =
    let same : one ≡ job = ap (λ o. unwrap_or o one) is in
    let want : job.first ≡ wanted = ap (λ (j : Asked). j.first) (sym same) ∙ All-head (λ (job : Asked). job.first ≡ wanted) one [] wants in
    subst (λ j. IsSplit wanted (j ∷ []) ending found) (sym same) (subst (λ w. IsSplit w (job ∷ []) ending found) want split)
split_only wanted (one ∷ other ∷ jobs) job ending found few is wants split = absurd (omega (arith, few))

pub split_empty : (wanted : Option ℕ) (jobs : List Asked) (ending : Ending) (found : List Analysis) → slice_get jobs 0 ≡ None → ending ≡ endings.Complete → found ≡ [] → IsSome wanted → IsSplit wanted jobs ending found
split_empty wanted [] ending found is complete none some = subst (λ e. IsSplit wanted [] e found) (sym complete) (subst (IsSplit wanted [] endings.Complete) (sym none) (split_none wanted some))
split_empty wanted (one ∷ jobs) ending found is complete none some = absurd cc

-- Of the jobs the first are searched, and come to this; the rest is left.
pub record Turned (wanted : Option ℕ) (jobs rest : List Asked) (ending : Ending) (found : List Analysis) : Type 0 where
  pub front : List Asked
  pub parts : front ++ rest ≡ jobs
  pub split : IsSplit wanted front ending found
  pub wants : AllWant wanted rest
  pub problems : AreProblems rest

-- a turn more
pub turned_more : (wanted : Option ℕ) (jobs rest turn left : List Asked) (n : ℕ) (ending new : Ending) (found joined : List Analysis) → turn ≡ take n rest → left ≡ drop n rest → Turned wanted jobs rest ending found
    → Continues wanted ending found turn new joined → Turned wanted jobs left new joined
turned_more wanted jobs rest turn left n ending new found joined cut behind t goes =
    subst (λ js. Turned wanted jobs js new joined) (sym behind) (record {
      front = t.front ++ turn;
      parts = append_assoc t.front turn (drop n rest) ∙ ap (λ z. t.front ++ (z ++ drop n rest)) cut ∙ ap (λ z. t.front ++ z) (take-append-drop n rest) ∙ t.parts;
      split = goes t.front t.split;
      wants = All-drop (λ (job : Asked). job.first ≡ wanted) n rest t.wants;
      problems = All-drop (λ (job : Asked). IsProblem job.parts) n rest t.problems;
    })

-- all are searched
pub turned_all : (wanted : Option ℕ) (jobs rest : List Asked) (ending : Ending) (found : List Analysis) → Turned wanted jobs rest ending found → rest ≡ [] → IsSplit wanted jobs ending found
turned_all wanted jobs rest ending found t none =
    subst (λ js. IsSplit wanted js ending found) (sym (append-nil t.front) ∙ ap (λ z. t.front ++ z) (sym none) ∙ t.parts) t.split

-- the rest adds nothing
pub turned_stopped : (wanted : Option ℕ) (jobs rest : List Asked) (ending : Ending) (found : List Analysis) → Turned wanted jobs rest ending found → (ending ≡ endings.Complete → ⊥) → IsSplit wanted jobs ending found
turned_stopped wanted jobs rest ending found t ended =
    let r = some_reach rest t.problems in
    subst (λ js. IsSplit wanted js ending found) t.parts (split_stopped wanted t.front rest ending found r.0 r.1 ended t.split r.2)

-- one of two halves behind the other
pub split_halves : (wanted : Option ℕ) (jobs front back : List Asked) (one other new : Ending) (f g all : List Analysis) → jobs ≡ front ++ back → IsSplit wanted front one f → IsSplit wanted back other g → Joins wanted one f other g new all → IsSplit wanted jobs new all
split_halves wanted jobs front back one other new f g all cut first later joins = subst (λ js. IsSplit wanted js new all) (sym cut) (joins front back first later)

-- further jobs behind those that were searched
pub goes_on : (wanted : Option ℕ) (jobs : List Asked) (one other new : Ending) (f g all : List Analysis) → IsSplit wanted jobs other g → Joins wanted one f other g new all → Continues wanted one f jobs new all
goes_on wanted jobs one other new f g all searched joins before split = joins before jobs split searched
