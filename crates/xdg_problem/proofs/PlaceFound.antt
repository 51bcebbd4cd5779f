-- An edge stands at its place among the places, so two edges of one place are the same.
use Rattle.std.proofs.Common.{◌≡◌, ◌<◌, true, inl, inr, cond, List, [], ◌∷◌, length, get_or, suc, ap, sym, ◌∙◌, arith, subst}
use Rattle.std.specs.Prelude.{Contains}
use Rattle.std.proofs.lemmas.Bool.{cases_Bool}
use Rattle.std.proofs.lemmas.List.{get_or_default}
use Rattle.xdg_problem.specs.declared.analysis.Edge.{Edge}
use Rattle.xdg_problem.specs.declared.parts.Parts.{Parts}
use Rattle.xdg_problem.specs.Analyses.{IsPlace}
use Rattle.xdg_problem.specs.Boxes.{edge_decision, place_in}
use Rattle.xdg_problem.specs.Places.{places, same_edge}
use Rattle.xdg_problem.proofs.Edges.{same_edge_equal, same_edge_itself}
use Rattle.xdg_facts.proofs.Contained.{contains_cases, contains_none}
use Rattle.xdg_problem.proofs.PlaceOrder.{place_is}

pub place_found : (xs : List Edge) (e : Edge) → Contains xs e → (place_in xs e < length xs) × (get_or xs (place_in xs e) e ≡ e)
place_found [] e c = absurd (contains_none e c)
place_found (x ∷ xs) e c = elim (cases_Bool (same_edge x e)) [
  | inl t ↦ subst (λ b. (cond b 0 (suc (place_in xs e)) < suc (length xs)) × (get_or (x ∷ xs) (cond b 0 (suc (place_in xs e))) e ≡ e)) (sym t) (omega arith, same_edge_equal x e t)
  | inr f ↦ subst (λ b. (cond b 0 (suc (place_in xs e)) < suc (length xs)) × (get_or (x ∷ xs) (cond b 0 (suc (place_in xs e))) e ≡ e)) (sym f) (elim (contains_cases x xs e c) [
    | inl s ↦ absurd (let t : same_edge x e ≡ true = ap (same_edge x) (sym s) ∙ same_edge_itself x in cc)
    | inr h ↦ (let r = place_found xs e h in ((let q = r.0 in omega (arith, q)), r.1))
  ])
]

pub same_place : (parts : Parts) (e f : Edge) → IsPlace parts e → IsPlace parts f → edge_decision parts f ≡ edge_decision parts e → f ≡ e
same_place parts e f is other same =
    let a = place_found (places parts) e (place_is parts e is) in
    let b = place_found (places parts) f (place_is parts f other) in
    let q : place_in (places parts) f ≡ place_in (places parts) e = omega (arith, same) in
    sym b.1 ∙ get_or_default (places parts) (place_in (places parts) f) f e b.0 ∙ ap (λ i. get_or (places parts) i e) q ∙ a.1
