-- What a formula claims of a branch: its tables say for the first node what they say for one candidate.
use Rattle.std.proofs.Common.{◌≡◌, ◌↔◌, ℕ, Bool, false, List, [], ◌∷◌, map, zero, suc, refl, ap, ap₂, sym, ◌∙◌, subst}
use Rattle.std.specs.Prelude.{slice_index}
use Rattle.xdg_base.specs.declared.ids.AttrId.{AttrId}
use Rattle.xdg_base.specs.declared.ids.DimId.{DimId}
use Rattle.xdg_base.specs.declared.ids.LabelId.{LabelId}
use Rattle.xdg_problem.specs.declared.analysis.Edge.{Edge}
use Rattle.xdg_problem.specs.declared.formula.Formula.{Formula, roll-Formula, map-Formula}
use Rattle.xdg_problem.specs.declared.formula.Formula.TheOpen.{Formula-F}
use Rattle.xdg_problem.specs.declared.formula.Formula.TheFolds.{fold-roll-Formula, ind-Formula}
use Rattle.xdg_problem.specs.declared.formula.Formula.TheVariants as y
use Rattle.xdg_problem.specs.declared.parts.Parts.{Parts}
use Rattle.xdg_problem.specs.Branches.{branch_formula, branch_group, branch_layer, branch_of, first_alone, no_entry}
use Rattle.xdg_problem.specs.Claims.{Claim, negation, conjunction, disjunction, every, some, claim_then, claim, claims_of, layer, IsOf, IsBound, IsTable, Suits}
use Rattle.xdg_problem.specs.Problems.{IsProblem}
use Rattle.xdg_problem.specs.Truths.{bound, says, IsTrueOf}
use Rattle.xdg_problem.proofs.OtherTruths.{retabled, all_retabled, is_of, is_bound, true_alike}
use Rattle.xdg_problem.proofs.BranchLists.{length_alone, same_lengths}

-- a claim whose tables say for the first node what they say for its candidate at a place
abbrev pub branch_claim : ℕ → Claim → Claim
branch_claim place = retabled (first_alone false place)

-- ---- what the formula of a branch claims

module _ (place : ℕ) where
  abbrev Cut : Formula → Type 0
  Cut f = claim (branch_formula place f) ≡ branch_claim place (claim f)

  abbrev Told : Type 0
  Told = (f : Formula) × Cut f

  abbrev forget : Formula-F Told → Formula-F Formula
  forget z = map-Formula Told Formula (λ k. k.0) z

  all_told : (ks : List Told) → claims_of (map claim (map (branch_formula place) (map (λ (k : Told). k.0) ks))) ≡ all_retabled (first_alone false place) (claims_of (map claim (map (λ (k : Told). k.0) ks)))
  all_told [] = refl
  all_told (k ∷ ks) = ap₂ claim_then k.1 (all_told ks)

  rolled : (z : Formula-F Formula) → claim (roll-Formula z) ≡ layer (map-Formula Formula Claim claim z)
  rolled z = fold-roll-Formula Claim layer z

  cut_rolled : (z : Formula-F Formula) → branch_formula place (roll-Formula z) ≡ branch_layer place (map-Formula Formula Formula (branch_formula place) z)
  cut_rolled z = fold-roll-Formula Formula (branch_layer place) z

  layer_cut : (z : Formula-F Told) → claim (branch_layer place (map-Formula Formula Formula (branch_formula place) (forget z))) ≡ branch_claim place (layer (map-Formula Formula Claim claim (forget z)))
  layer_cut (Formula-F.Not k) = rolled (Formula-F.Not (branch_formula place k.0)) ∙ ap negation k.1
  layer_cut (Formula-F.And ks) = rolled (Formula-F.And (map (branch_formula place) (map (λ (k : Told). k.0) ks))) ∙ ap conjunction (all_told ks)
  layer_cut (Formula-F.Or ks) = rolled (Formula-F.Or (map (branch_formula place) (map (λ (k : Told). k.0) ks))) ∙ ap disjunction (all_told ks)
  layer_cut (Formula-F.Every name k) = rolled (Formula-F.Every name (branch_formula place k.0)) ∙ ap (every name) k.1
  layer_cut (Formula-F.Any name k) = rolled (Formula-F.Any name (branch_formula place k.0)) ∙ ap (some name) k.1
  layer_cut (Formula-F.Feat name table) = rolled (Formula-F.Feat name (first_alone false place table))
  layer_cut z = rolled (forget z)

  made_cut : (z : Formula-F Told) → Cut (roll-Formula (forget z))
  made_cut z = ap claim (cut_rolled (forget z)) ∙ layer_cut z ∙ ap (branch_claim place) (sym (rolled (forget z)))

  pub claim_cut : (f : Formula) → Cut f
  claim_cut = ind-Formula Cut (λ x z is. subst (λ l. Cut (roll-Formula l)) is (made_cut z))

  -- ---- form by form

  pub cut_not : (f : Formula) → branch_formula place (y.Not f) ≡ y.Not (branch_formula place f)
  cut_not f = ap (branch_formula place) (sym (y.rolls-Not f)) ∙ cut_rolled (Formula-F.Not f) ∙ y.rolls-Not (branch_formula place f)

  pub cut_and : (fs : List Formula) → branch_formula place (y.And fs) ≡ y.And (map (branch_formula place) fs)
  cut_and fs = ap (branch_formula place) (sym (y.rolls-And fs)) ∙ cut_rolled (Formula-F.And fs) ∙ y.rolls-And (map (branch_formula place) fs)

  pub cut_or : (fs : List Formula) → branch_formula place (y.Or fs) ≡ y.Or (map (branch_formula place) fs)
  cut_or fs = ap (branch_formula place) (sym (y.rolls-Or fs)) ∙ cut_rolled (Formula-F.Or fs) ∙ y.rolls-Or (map (branch_formula place) fs)

  pub cut_every : (name : ℕ) (f : Formula) → branch_formula place (y.Every name f) ≡ y.Every name (branch_formula place f)
  cut_every name f = ap (branch_formula place) (sym (y.rolls-Every name f)) ∙ cut_rolled (Formula-F.Every name f) ∙ y.rolls-Every name (branch_formula place f)

  pub cut_any : (name : ℕ) (f : Formula) → branch_formula place (y.Any name f) ≡ y.Any name (branch_formula place f)
  cut_any name f = ap (branch_formula place) (sym (y.rolls-Any name f)) ∙ cut_rolled (Formula-F.Any name f) ∙ y.rolls-Any name (branch_formula place f)

  pub cut_edge : (dim : DimId) (mother : ℕ) (label : LabelId) (daughter : ℕ) → branch_formula place (y.Edge dim mother label daughter) ≡ y.Edge dim mother label daughter
  cut_edge dim mother label daughter = ap (branch_formula place) (sym (y.rolls-Edge dim mother label daughter)) ∙ cut_rolled (Formula-F.Edge dim mother label daughter) ∙ y.rolls-Edge dim mother label daughter

  pub cut_above : (dim : DimId) (upper lower : ℕ) → branch_formula place (y.Above dim upper lower) ≡ y.Above dim upper lower
  cut_above dim upper lower = ap (branch_formula place) (sym (y.rolls-Above dim upper lower)) ∙ cut_rolled (Formula-F.Above dim upper lower) ∙ y.rolls-Above dim upper lower

  pub cut_left : (first second : ℕ) → branch_formula place (y.Left first second) ≡ y.Left first second
  cut_left first second = ap (branch_formula place) (sym (y.rolls-Left first second)) ∙ cut_rolled (Formula-F.Left first second) ∙ y.rolls-Left first second

  pub cut_same : (first second : ℕ) → branch_formula place (y.Same first second) ≡ y.Same first second
  cut_same first second = ap (branch_formula place) (sym (y.rolls-Same first second)) ∙ cut_rolled (Formula-F.Same first second) ∙ y.rolls-Same first second

  pub cut_attr : (name : ℕ) (dim : DimId) (attr : AttrId) (value : ℕ) → branch_formula place (y.Attr name dim attr value) ≡ y.Attr name dim attr value
  cut_attr name dim attr value = ap (branch_formula place) (sym (y.rolls-Attr name dim attr value)) ∙ cut_rolled (Formula-F.Attr name dim attr value) ∙ y.rolls-Attr name dim attr value

  pub cut_feat : (name : ℕ) (table : List (List Bool)) → branch_formula place (y.Feat name table) ≡ y.Feat name (first_alone false place table)
  cut_feat name table = ap (branch_formula place) (sym (y.rolls-Feat name table)) ∙ cut_rolled (Formula-F.Feat name table) ∙ y.rolls-Feat name (first_alone false place table)

-- ---- the branch suits the formula

module _ (parts : Parts) (place : ℕ) (is : IsProblem parts) where
  table_cut : (table : List (List Bool)) → IsTable parts table → IsTable (branch_of parts place) (first_alone false place table)
  table_cut table t = record {
    count = length_alone false place table ∙ t.count;
    each = λ v l. same_lengths false no_entry place table parts.candidates v (t.count ∙ sym is.candidates_each) (t.each v l);
  }

  pub suits_cut : (formula : Formula) → Suits parts formula → Suits (branch_of parts place) (branch_formula place formula)
  suits_cut formula suits = record {
    is_of = subst (IsOf (branch_of parts place)) (sym (claim_cut place formula)) (is_of parts (first_alone no_entry place parts.candidates) (map (branch_group place) parts.groups) (first_alone false place) table_cut
        (claim formula) suits.is_of);
    bound = subst (IsBound []) (sym (claim_cut place formula)) (is_bound (first_alone false place) [] (claim formula) suits.bound);
  }

-- ---- truth

-- what a table says for the only candidate of the first node is what it says for that candidate
says_alone : (table : List (List Bool)) (place : ℕ) (more : List ℕ) (v : ℕ) → says (first_alone false place table) v (slice_index (0 ∷ more) v) ≡ says table v (slice_index (place ∷ more) v)
says_alone [] place more v = refl
says_alone (row ∷ table) place more zero = refl
says_alone (row ∷ table) place more (suc v) = refl

pub true_cut : (parts : Parts) (place : ℕ) (more attrs : List ℕ) (edges : List Edge) (c : Claim) (b : ℕ → ℕ) → IsTrueOf (branch_of parts place) (0 ∷ more) attrs edges (branch_claim place c) b ↔ IsTrueOf parts (place ∷ more) attrs edges c b
true_cut parts place more attrs edges = true_alike parts (first_alone no_entry place parts.candidates) (map (branch_group place) parts.groups) (first_alone false place) (0 ∷ more) (place ∷ more) attrs edges
    (λ table v. says_alone table place more v)

-- each form of a formula, cut at a place
pub ruleset cut_steps = (cut_not, cut_and, cut_or, cut_every, cut_any, cut_edge, cut_above, cut_left, cut_same, cut_attr, cut_feat)
