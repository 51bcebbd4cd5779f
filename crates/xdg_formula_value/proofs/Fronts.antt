-- Parts of a conjunction or a disjunction, one after another.
use Rattle.std.proofs.Common.{◌≡◌, ◌↔◌, ◌⊎◌, ℕ, ◌+◌, ◌<◌, inl, inr, zero, suc, Bool, true, false, List, [], ◌∷◌, ◌++◌, length, map, take, get_or, refl, sym, subst, arith}
use Rattle.std.specs.Prelude.{not}
use Rattle.std.proofs.lemmas.Bool.{false≢true}
use Rattle.xdg_problem.specs.declared.parts.Parts.{Parts}
use Rattle.xdg_problem.specs.declared.formula.Formula.{Formula}
use Rattle.xdg_problem.specs.Claims.{Claim, Claims, conjunction, disjunction, every, some, none, claims_of, claim, IsOf, EachIsOf}
use Rattle.xdg_problem.specs.Places.{nodes}
use Rattle.xdg_problem.specs.Truths.{bound}
use Rattle.xdg_rules.specs.Worths.{Makes, MakesEach, MakesSome}
use Rattle.xdg_formula_value.specs.Rows.{Joined, Over}
use Rattle.xdg_formula_value.specs.Several.{MakesSeveral}
use Rattle.xdg_facts.proofs.Fronts.{map_next}

-- what the parts of a formula name is there
pub part_of : (parts : Parts) (fs : List Formula) (i : ℕ) (d : Formula) → i < length fs → EachIsOf parts (claims_of (map claim fs)) → IsOf parts (claim (get_or fs i d))
part_of parts [] i d l all = absurd (omega (arith, l))
part_of parts (f ∷ fs) zero d l all = all.0
part_of parts (f ∷ fs) (suc i) d l all = part_of parts fs i d (omega (arith, l)) all.1

pub item_of : (parts : Parts) (fs : List Formula) (i : ℕ) (f : Formula) → f ≡ get_or fs i f → i < length fs → EachIsOf parts (claims_of (map claim fs)) → IsOf parts (claim f)
item_of parts fs i f is l all = subst (λ g. IsOf parts (claim g)) (sym is) (part_of parts fs i f l all)

module _ (parts : Parts) (box : List (List Bool)) (b : ℕ → ℕ) where
  each_split : (truth : Bool) (cs : List Claim) (c : Claim) → MakesEach parts box (claims_of (cs ++ c ∷ [])) truth b ↔ (MakesEach parts box (claims_of cs) truth b × Makes parts box c truth b)
  each_split truth [] c = (λ m. (tt, m.0), λ m. (m.1, tt))
  each_split truth (d ∷ cs) c = (let rest = each_split truth cs c in (λ m. (let r = rest.0 m.1 in ((m.0, r.0), r.1)), λ m. (m.0.0, rest.1 (m.0.1, m.1))))

  some_split : (truth : Bool) (cs : List Claim) (c : Claim) → MakesSome parts box (claims_of (cs ++ c ∷ [])) truth b ↔ (MakesSome parts box (claims_of cs) truth b ⊎ Makes parts box c truth b)
  some_split truth [] c = (
    λ m. elim m [ inl here ↦ inr here | inr later ↦ absurd later ],
    λ m. elim m [ inl later ↦ absurd later | inr here ↦ inl here ],
  )
  some_split truth (d ∷ cs) c = (let rest = some_split truth cs c in (
    λ m. elim m [ inl here ↦ inl (inl here) | inr later ↦ elim (rest.0 later) [ inl l ↦ inl (inr l) | inr r ↦ inr r ] ],
    λ m. elim m [ inl front ↦ elim front [ inl here ↦ inl here | inr later ↦ inr (rest.1 (inl later)) ] | inr last ↦ inr (rest.1 (inr last)) ],
  ))

  several_split : (each truth : Bool) (cs : List Claim) (c : Claim) → Joined each (MakesSeveral each parts box (claims_of cs) truth b) (Makes parts box c truth b) ↔ MakesSeveral each parts box (claims_of (cs ++ c ∷ [])) truth b
  several_split true truth cs c = (let split = each_split truth cs c in (split.1, split.0))
  several_split false truth cs c = (let split = some_split truth cs c in (split.1, split.0))

  -- the first parts, and one more
  pub several_more : (truth each : Bool) (fs : List Formula) (i : ℕ) (f : Formula) → i < length fs → f ≡ get_or fs i f → Joined each (MakesSeveral each parts box (claims_of (map claim (take i fs))) truth b) (Makes parts box (claim f) truth b) ↔ MakesSeveral each parts box (claims_of (map claim (take (i + 1) fs))) truth b
  several_more truth each fs i f l is = subst (λ cs. Joined each (MakesSeveral each parts box (claims_of (map claim (take i fs))) truth b) (Makes parts box (claim f) truth b) ↔ MakesSeveral each parts box (claims_of cs) truth b) (sym (map_next claim fs i f l is)) (several_split each truth (map claim (take i fs)) (claim f))

  -- no part yet
  pub several_none : (truth each : Bool) → (each ≡ true) ↔ MakesSeveral each parts box none truth b
  several_none truth true = (λ h. tt, λ h. refl)
  several_none truth false = (λ h. false≢true h, λ h. absurd h)

  -- all parts
  pub and_over : (truth : Bool) (cs : Claims) → Makes parts box (conjunction cs) truth b ↔ MakesSeveral truth parts box cs truth b
  and_over true cs = (λ h. h, λ h. h)
  and_over false cs = (λ h. h, λ h. h)

  pub or_over : (truth : Bool) (cs : Claims) → Makes parts box (disjunction cs) truth b ↔ MakesSeveral (not truth) parts box cs truth b
  or_over true cs = (λ h. h, λ h. h)
  or_over false cs = (λ h. h, λ h. h)

  -- a quantifier
  pub every_over : (truth : Bool) (name : ℕ) (c : Claim) → Over truth (nodes parts) (λ v. Makes parts box c truth (bound b name v)) ↔ Makes parts box (every name c) truth b
  every_over true name c = (λ h. h, λ h. h)
  every_over false name c = (λ h. h, λ h. h)

  pub some_over : (truth : Bool) (name : ℕ) (c : Claim) → Over (not truth) (nodes parts) (λ v. Makes parts box c truth (bound b name v)) ↔ Makes parts box (some name c) truth b
  some_over true name c = (λ h. h, λ h. h)
  some_over false name c = (λ h. h, λ h. h)
