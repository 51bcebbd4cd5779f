-- What is printed of the verdicts on an analysis is one text.
use Rattle.std.proofs.Common.{◌≡◌, ℕ, ◌+◌, ◌-◌, length, ◌&&◌, List, [], ◌∷◌, ◌++◌, refl, ap, ap₂}
use Rattle.std.specs.Prelude.{codes, decimal}
use Rattle.std.specs.List.{AllZip}
use Rattle.xdg_formula.specs.declared.tree.Rule.{Rule}
use Rattle.xdg_problem.specs.declared.analysis.Analysis.{Analysis}
use Rattle.xdg_problem.specs.declared.parts.Group.{Group}
use Rattle.xdg_problem.specs.declared.parts.Parts.{Parts}
use Rattle.xdg_problem.proofs.Verdicts.{broken_fails, one_verdict}
use Rattle.xdg_judge.specs.declared.verdict.Verdict.{Verdict}
use Rattle.xdg_judge.specs.declared.verdict.Verdict.TheVariants as verdicts
use Rattle.xdg_judge.specs.Verdicts.{IsVerdict, tuple_of}
use Rattle.xdg_reports.specs.VerdictsText.{said_text, labels_of, title_text, verdict_line, verdict_lines, is_kept, are_kept, solution_line, behind, condition_text}
use Rattle.xdg_reports.specs.OneText.{IsOneText}
use Rattle.xdg_problem.specs.Principles.{name_of}

-- two verdicts on one principle use say the same
same_said : (parts : Parts) (a : Analysis) (group : Group) (labels : List (List ℕ)) (v w : Verdict) → IsVerdict parts a group v → IsVerdict parts a group w → (said_text labels v ≡ said_text labels w) × (is_kept v ≡ is_kept w)
same_said parts a group labels verdicts.Kept verdicts.Kept p q = (refl, refl)
same_said parts a group labels verdicts.Kept (verdicts.Broken c t) p q = absurd (broken_fails parts group a c (tuple_of t) q p)
same_said parts a group labels (verdicts.Broken c t) verdicts.Kept p q = absurd (broken_fails parts group a c (tuple_of t) p q)
same_said parts a group labels (verdicts.Broken c t) (verdicts.Broken d u) p q =
    let one = one_verdict parts group a c d (tuple_of t) (tuple_of u) p q in
    (ap₂ (λ e x. behind (codes "broken") ++ condition_text labels e x) one.0 one.1, refl)

same_line : (parts : Parts) (own : ℕ) (rules : List Rule) (place : ℕ) (group : Group) (v w : Verdict) → said_text (labels_of parts group) v ≡ said_text (labels_of parts group) w → verdict_line parts own rules place group v ≡ verdict_line parts own rules place group w
unfolding verdict_line
same_line parts own rules place group v w e = ap (λ said. decimal (place + 1) ++ (behind (name_of group.principle) ++ (title_text parts own rules place group ++ (said ++ codes "\n")))) e

same_lines : (parts : Parts) (own : ℕ) (rules : List Rule) (a : Analysis) (place : ℕ) (groups : List Group) (vs ws : List Verdict) → AllZip (IsVerdict parts a) groups vs → AllZip (IsVerdict parts a) groups ws → (verdict_lines parts own rules place groups vs ≡ verdict_lines parts own rules place groups ws) × (are_kept vs ≡ are_kept ws)
same_lines parts own rules a place [] [] [] p q = (refl, refl)
same_lines parts own rules a place [] [] (w ∷ ws) p q = absurd q
same_lines parts own rules a place [] (v ∷ vs) ws p q = absurd p
same_lines parts own rules a place (group ∷ groups) [] ws p q = absurd p
same_lines parts own rules a place (group ∷ groups) (v ∷ vs) [] p q = absurd q
same_lines parts own rules a place (group ∷ groups) (v ∷ vs) (w ∷ ws) p q =
    let here = same_said parts a group (labels_of parts group) v w p.0 q.0 in
    let later = same_lines parts own rules a (place + 1) groups vs ws p.1 q.1 in
    (ap₂ (λ x y. x ++ y) (same_line parts own rules place group v w here.0) later.0, ap₂ (λ x y. x && y) here.1 later.1)

pub one_text : (parts : Parts) (rules : List Rule) → IsOneText parts rules
one_text parts rules a one other p q =
    let same = same_lines parts (length parts.groups - length rules) rules a 0 parts.groups one other p q in
    ap₂ (λ x y. x ++ solution_line y) same.0 same.1
