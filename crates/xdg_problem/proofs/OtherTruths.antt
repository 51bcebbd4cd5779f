-- What stays of a problem that has other candidates and principle uses: the analyses that fit but for their entries, and what a claim says
-- where each of its tables is another.
use Rattle.std.proofs.Common.{◌≡◌, ◌↔◌, ℕ, inl, inr, Bool, List, ◌∷◌, refl, ap, ap₂, sym, ◌∙◌}
use Rattle.std.specs.Prelude.{slice_index}
use Rattle.std.proofs.lemmas.List.Elements.{All-weaker}
use Rattle.xdg_base.specs.declared.ids.EntryNo.{EntryNo}
use Rattle.xdg_problem.specs.declared.analysis.Analysis.{Analysis}
use Rattle.xdg_problem.specs.declared.analysis.Edge.{Edge}
use Rattle.xdg_problem.specs.declared.parts.Group.{Group}
use Rattle.xdg_problem.specs.declared.parts.Parts.{Parts}
use Rattle.xdg_problem.specs.Analyses.{HasCandidates, IsAnalysis, IsPlace}
use Rattle.xdg_problem.specs.Claims.{Claim, negation, conjunction, disjunction, every, some, fitting, Claims, none, claim_then, IsOf, EachIsOf, IsBound, EachIsBound, IsTable}
use Rattle.xdg_problem.specs.Truths.{bound, says, IsTrueOf, EachTrueOf, SomeTrueOf}

-- the parts with other candidates and principle uses
abbrev pub with_candidates : List (List EntryNo) → List Group → Parts → Parts
with_candidates candidates groups parts = record parts { candidates = candidates; groups = groups }

abbrev pub Table : Type 0
Table = List (List Bool)

-- a claim with other tables
abbrev mutual
  pub retabled : (Table → Table) → Claim → Claim
  retabled cut (negation c) = negation (retabled cut c)
  retabled cut (conjunction cs) = conjunction (all_retabled cut cs)
  retabled cut (disjunction cs) = disjunction (all_retabled cut cs)
  retabled cut (every name c) = every name (retabled cut c)
  retabled cut (some name c) = some name (retabled cut c)
  retabled cut (fitting name table) = fitting name (cut table)
  retabled cut c = c

  pub all_retabled : (Table → Table) → Claims → Claims
  all_retabled cut none = none
  all_retabled cut (claim_then c cs) = claim_then (retabled cut c) (all_retabled cut cs)

-- with the same tables it is the same
mutual
  pub same_tables : (c : Claim) → retabled (λ table. table) c ≡ c
  same_tables (negation c) = ap negation (same_tables c)
  same_tables (conjunction cs) = ap conjunction (all_same_tables cs)
  same_tables (disjunction cs) = ap disjunction (all_same_tables cs)
  same_tables (every name c) = ap (every name) (same_tables c)
  same_tables (some name c) = ap (some name) (same_tables c)
  same_tables c = refl

  all_same_tables : (cs : Claims) → all_retabled (λ table. table) cs ≡ cs
  all_same_tables none = refl
  all_same_tables (claim_then c cs) = ap₂ claim_then (same_tables c) (all_same_tables cs)

mutual
  pub is_bound : (cut : Table → Table) (scope : List ℕ) (c : Claim) → IsBound scope c → IsBound scope (retabled cut c)
  is_bound cut scope (negation c) h = is_bound cut scope c h
  is_bound cut scope (conjunction cs) h = each_bound cut scope cs h
  is_bound cut scope (disjunction cs) h = each_bound cut scope cs h
  is_bound cut scope (every name c) h = is_bound cut (name ∷ scope) c h
  is_bound cut scope (some name c) h = is_bound cut (name ∷ scope) c h
  is_bound cut scope c h = h

  each_bound : (cut : Table → Table) (scope : List ℕ) (cs : Claims) → EachIsBound scope cs → EachIsBound scope (all_retabled cut cs)
  each_bound cut scope none h = tt
  each_bound cut scope (claim_then c cs) h = (is_bound cut scope c h.0, each_bound cut scope cs h.1)

module _ (parts : Parts) (candidates : List (List EntryNo)) (groups : List Group) where
  abbrev other : Parts
  other = with_candidates candidates groups parts

  place_still : (e : Edge) → IsPlace parts e → IsPlace other e
  place_still e is = record { plan = is.plan; plan_is = is.plan_is; graph = is.graph; label = is.label; mother = is.mother; daughter = is.daughter; differ = is.differ }

  pub analysis_still : (analysis : Analysis) → HasCandidates candidates analysis.entries → IsAnalysis parts analysis → IsAnalysis other analysis
  analysis_still analysis entries is = record { entries = entries; attr_count = is.attr_count; attrs = is.attrs; places = All-weaker (IsPlace parts) (IsPlace other) place_still analysis.edges is.places; rise = is.rise }

  module _ (cut : Table → Table) (tables : (table : Table) → IsTable parts table → IsTable other (cut table)) where
    mutual
      pub is_of : (c : Claim) → IsOf parts c → IsOf other (retabled cut c)
      is_of (negation c) h = is_of c h
      is_of (conjunction cs) h = each_of cs h
      is_of (disjunction cs) h = each_of cs h
      is_of (every name c) h = is_of c h
      is_of (some name c) h = is_of c h
      is_of (fitting name table) h = tables table h
      is_of c h = h

      each_of : (cs : Claims) → EachIsOf parts cs → EachIsOf other (all_retabled cut cs)
      each_of none h = tt
      each_of (claim_then c cs) h = (is_of c h.0, each_of cs h.1)

  -- where the tables say the same of the entries, the claims are true alike
  module _ (cut : Table → Table) (xs ys attrs : List ℕ) (edges : List Edge) (same : (table : Table) (v : ℕ) → says (cut table) v (slice_index xs v) ≡ says table v (slice_index ys v)) where
    mutual
      pub true_alike : (c : Claim) (b : ℕ → ℕ) → IsTrueOf other xs attrs edges (retabled cut c) b ↔ IsTrueOf parts ys attrs edges c b
      true_alike (negation c) b = (let one = true_alike c b in (λ n t. n (one.1 t), λ n t. n (one.0 t)))
      true_alike (conjunction cs) b = each_alike cs b
      true_alike (disjunction cs) b = some_alike cs b
      true_alike (every name c) b = (
        λ all node l. (true_alike c (bound b name node)).0 (all node l),
        λ all node l. (true_alike c (bound b name node)).1 (all node l),
      )
      true_alike (some name c) b = (
        λ found. (found.0, found.1, (true_alike c (bound b name found.0)).0 found.2),
        λ found. (found.0, found.1, (true_alike c (bound b name found.0)).1 found.2),
      )
      true_alike (fitting name table) b = (λ t. sym (same table (b name)) ∙ t, λ t. same table (b name) ∙ t)
      true_alike c b = (λ t. t, λ t. t)

      each_alike : (cs : Claims) (b : ℕ → ℕ) → EachTrueOf other xs attrs edges (all_retabled cut cs) b ↔ EachTrueOf parts ys attrs edges cs b
      each_alike none b = (λ t. t, λ t. t)
      each_alike (claim_then c cs) b = (
        λ both. ((true_alike c b).0 both.0, (each_alike cs b).0 both.1),
        λ both. ((true_alike c b).1 both.0, (each_alike cs b).1 both.1),
      )

      some_alike : (cs : Claims) (b : ℕ → ℕ) → SomeTrueOf other xs attrs edges (all_retabled cut cs) b ↔ SomeTrueOf parts ys attrs edges cs b
      some_alike none b = (λ t. t, λ t. t)
      some_alike (claim_then c cs) b = (
        λ either. elim either [ inl here ↦ inl ((true_alike c b).0 here) | inr later ↦ inr ((some_alike cs b).0 later) ],
        λ either. elim either [ inl here ↦ inl ((true_alike c b).1 here) | inr later ↦ inr ((some_alike cs b).1 later) ],
      )
