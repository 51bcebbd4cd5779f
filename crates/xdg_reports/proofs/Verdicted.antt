-- The texts of verdicts, piece by piece.
use Rattle.std.proofs.Common.{◌≡◌, ℕ, ◌<◌, ◌+◌, List, ◌++◌, length, get_or, slice_get, drop, None, unwrap_or, sym, ap, ap₂, ◌∙◌, add-one}
use Rattle.std.proofs.Math.Seq.{drop-cons}
use Rattle.std.proofs.lemmas.Option.{unwrap_or-slice_get}
use Rattle.xdg_base.specs.declared.ids.DimId.{DimId}
use Rattle.xdg_formula.specs.declared.tree.Rule.{Rule}
use Rattle.xdg_problem.specs.declared.conditions.Condition.{Condition}
use Rattle.xdg_problem.specs.declared.parts.DimPlan.{DimPlan}
use Rattle.xdg_problem.specs.declared.parts.Group.{Group}
use Rattle.xdg_problem.specs.declared.parts.Parts.{Parts}
use Rattle.xdg_problem.specs.Arguments.{no_plan}
use Rattle.xdg_judge.specs.declared.verdict.Verdict.{Verdict}
use Rattle.xdg_reports.specs.VerdictsText.{behind, item_text, items_text, verdict_line, verdict_lines}
use Rattle.xdg_facts.proofs.Lists.{from_place}

abbrev pub zero_dim : DimId
zero_dim = record { 0 = 0 }

-- where there is no dimension, the one without names stands
pub beyond : (plans : List DimPlan) (i j : ℕ) → None ≡ slice_get plans i → i ≡ j → no_plan ≡ get_or plans j no_plan
beyond plans i j none same = ap (λ o. unwrap_or o no_plan) none ∙ unwrap_or-slice_get plans i no_plan ∙ ap (λ k. get_or plans k no_plan) same

-- the items from a place on begin with the one there
pub items_from : (labels : List (List ℕ)) (condition : Condition) (numbers : List ℕ) (i : ℕ) → i < length numbers
    → items_text labels condition i (drop i numbers) ≡ behind (item_text labels condition i (get_or numbers i 0)) ++ items_text labels condition (i + 1) (drop (i + 1) numbers)
items_from labels condition numbers i within =
    ap (items_text labels condition i) (drop-cons numbers i 0 within) ∙ ap (λ k. behind (item_text labels condition i (get_or numbers i 0)) ++ items_text labels condition (i + 1) (drop k numbers)) (sym (add-one i))

-- the lines from a place on begin with the one there
pub lines_from : (parts : Parts) (own : ℕ) (rules : List Rule) (groups : List Group) (verdicts : List Verdict) (i : ℕ) (group : Group) (verdict : Verdict) → i < length groups → group ≡ get_or groups i group → i < length verdicts → verdict ≡ get_or verdicts i verdict
    → verdict_lines parts own rules i (drop i groups) (drop i verdicts) ≡ verdict_line parts own rules i group verdict ++ verdict_lines parts own rules (i + 1) (drop (i + 1) groups) (drop (i + 1) verdicts)
lines_from parts own rules groups verdicts i group verdict within is there at =
    ap₂ (verdict_lines parts own rules i) (from_place groups i group within is) (from_place verdicts i verdict there at)
