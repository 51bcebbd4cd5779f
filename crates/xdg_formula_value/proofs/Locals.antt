-- What is so where formulas ask for paths, one part after another.
use Rattle.std.proofs.Common.{◌≡◌, ℕ, ◌+◌, ◌<◌, List, [], ◌∷◌, ◌++◌, length, map, take, get_or, sym, subst}
use Rattle.std.proofs.lemmas.List.{take_all}
use Rattle.xdg_problem.specs.declared.formula.Formula.{Formula}
use Rattle.xdg_problem.specs.Claims.{Claim, claims_of, claim}
use Rattle.xdg_formula_value.specs.Lost.{AsksIf, EachAsksIf}
use Rattle.xdg_facts.proofs.Fronts.{map_next}

module _ (P : Type 0) where
  -- each of some formulas does
  abbrev pub AllAskIf : List Formula → Type 0
  AllAskIf fs = EachAsksIf P (claims_of (map claim fs))

  each_and : (cs : List Claim) (c : Claim) → EachAsksIf P (claims_of cs) → AsksIf P c → EachAsksIf P (claims_of (cs ++ c ∷ []))
  each_and [] c each one = (one, tt)
  each_and (d ∷ cs) c each one = (each.0, each_and cs c each.1 one)

  pub asks_more : (fs : List Formula) (i : ℕ) (f : Formula) → f ≡ get_or fs i f → i < length fs → AllAskIf (take i fs) → AsksIf P (claim f) → AllAskIf (take (i + 1) fs)
  asks_more fs i f is l each one = subst (λ cs. EachAsksIf P (claims_of cs)) (sym (map_next claim fs i f l is)) (each_and (map claim (take i fs)) (claim f) each one)

-- what a loop over formulas asks for
pub ruleset each_steps = (take_all, asks_more)
