-- Answers in their slots: what holds of two lists place by place.
use Rattle.std.proofs.Common.{◌≡◌, ℕ, ◌+◌, List, [], ◌∷◌, ◌++◌, length, get_or, slice_set, sym, subst}
use Rattle.std.specs.Prelude.{All, None, Option, Some, replicate}
use Rattle.std.specs.List.{AllZip}
use Rattle.std.proofs.lemmas.List.Elements.{All-pop, All-push}
use Rattle.xdg_split.specs.Answers.{IsAnswer}
use Rattle.xdg_split.specs.Asked.{Asked}
use Rattle.xdg_split.specs.declared.answer.Answer.{Answer}
use Rattle.xdg_split.specs.declared.slots.Placed.{Placed}
use Rattle.xdg_split.specs.Slots.{Fits, IsPlaced}
use Rattle.xdg_facts.proofs.Lists.{same_got}
use Rattle.xdg_facts.proofs.Zips.{zip_set}

-- an empty slot for each job
pub empty_fit : (jobs : List Asked) → AllZip Fits jobs (replicate (length jobs) None)
empty_fit [] = tt
empty_fit (job ∷ jobs) = (tt, empty_fit jobs)

-- one answer more, with the place of its job
pub placed_more : (jobs : List Asked) (found more : List Placed) (place : ℕ) (answer : Answer) (job : Asked) → All (IsPlaced jobs) found → job ≡ get_or jobs place job → IsAnswer job answer → more ≡ found ++ record { place = place; answer = answer } ∷ []
    → All (IsPlaced jobs) more
placed_more jobs found more place answer job all is one grown =
    subst (All (IsPlaced jobs)) (sym grown)
    (All-push (IsPlaced jobs) found (record { place = place; answer = answer }) all (λ other stands. subst (λ j. IsAnswer j answer) (same_got jobs place job other is stands) one))

-- one answer fewer is left, which is in its slot
pub put_more : (jobs : List Asked) (share rest : List Placed) (found : Placed) (slots new : List (Option Answer)) → share ≡ rest ++ found ∷ [] → new ≡ slice_set slots found.place (Some found.answer) → All (IsPlaced jobs) share × AllZip Fits jobs slots
    → All (IsPlaced jobs) rest × AllZip Fits jobs new
put_more jobs share rest found slots new popped put before =
    let parts = All-pop (IsPlaced jobs) share rest (Some found) popped before.0 in
    (parts.0, subst (AllZip Fits jobs) (sym put) (zip_set Fits jobs slots found.place (Some found.answer) (λ job stands. parts.1 job stands) before.1))
