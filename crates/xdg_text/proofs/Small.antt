-- The sample problem and its analysis are a problem and an analysis of it.
use Rattle.std.proofs.Common.{◌≡◌, ◌≢◌, ◌<◌, ℕ, List, [], ◌∷◌, refl, subst, sym, lit<, lit≤, codes, true, false, nat_eq, get_or, ap}
use Rattle.xdg_base.specs.declared.ids.EntryNo.{EntryNo}
use Rattle.xdg_problem.specs.declared.analysis.Analysis.{Analysis}
use Rattle.xdg_problem.specs.declared.parts.AttrPlan.{AttrPlan}
use Rattle.xdg_problem.specs.declared.parts.DimPlan.{DimPlan}
use Rattle.xdg_problem.specs.declared.parts.Parts.{Parts}
use Rattle.xdg_problem.specs.declared.parts.Shown.{Shown}
use Rattle.xdg_problem.specs.declared.parts.Shown.TheVariants as shown
use Rattle.xdg_problem.specs.Analyses.{IsAnalysis, IsPlace}
use Rattle.xdg_problem.specs.Problems.{IsProblem, IsDim, IsAttr, IsGroup, AreCandidates, HasConstant}
use Rattle.xdg_problem.specs.Places.{edge}
use Rattle.xdg_text.specs.Examples.{agr, on, id, lp, german, reading}
use Rattle.xdg_facts.proofs.Lists.{all_one, all_two, all_none, pairs_one, pairs_two, pairs_none}

candidate : (entry : EntryNo) → entry.0 < 4294967295 → AreCandidates (entry ∷ [])
candidate entry small = record { some = lit< tt; most = lit≤ tt; rising = pairs_one (λ (a b : EntryNo). a.0 < b.0) entry; small = all_one (λ (e : EntryNo). e.0 < 4294967295) entry small }

abbrev first_byte : Shown → ℕ
first_byte (shown.One text) = get_or text 0 0
first_byte (shown.Many texts) = get_or (get_or texts 0 []) 0 0

differ_agr : (shown.Many (codes "m" ∷ codes "nom" ∷ [])) ≢ (shown.Many (codes "f" ∷ codes "gen" ∷ []))
differ_agr same = let h : true ≡ false = ap (λ v. nat_eq (first_byte v) 109) same in cc

differ_on : (shown.One (codes "n")) ≢ (shown.One (codes "v f"))
differ_on same = cc

differ_names : codes "on" ≢ codes "agr"
differ_names same = cc

differ_dims : codes "id" ≢ codes "lp"
differ_dims same = let h : true ≡ false = ap (λ z. nat_eq (get_or z 0 0) 105) same in cc

differ_nodes : (edge 1 1 0 0).mother.0 ≢ (edge 1 1 0 0).daughter.0
differ_nodes same = let h : true ≡ false = ap (λ z. nat_eq z 1) same in cc

is_agr : IsAttr agr
is_agr = record { some = lit< tt; most = lit≤ tt; shown_as = all_two HasConstant (shown.Many (codes "m" ∷ codes "nom" ∷ [])) (shown.Many (codes "f" ∷ codes "gen" ∷ [])) (lit< tt) (lit< tt); differ = pairs_two (λ (a b : Shown). a ≢ b) (shown.Many (codes "m" ∷ codes "nom" ∷ [])) (shown.Many (codes "f" ∷ codes "gen" ∷ [])) differ_agr }

is_on : IsAttr on
is_on = record { some = lit< tt; most = lit≤ tt; shown_as = all_two HasConstant (shown.One (codes "n")) (shown.One (codes "v f")) tt tt; differ = pairs_two (λ (a b : Shown). a ≢ b) (shown.One (codes "n")) (shown.One (codes "v f")) differ_on }

is_id : IsDim id
is_id = record { labels_most = lit≤ tt; labels_differ = pairs_none (λ (a b : List ℕ). a ≢ b); attrs_most = lit≤ tt; attrs_differ = pairs_one (λ (a b : AttrPlan). a.name ≢ b.name) agr; attrs = all_one IsAttr agr is_agr }

is_lp : IsDim lp
is_lp = record { labels_most = lit≤ tt; labels_differ = pairs_one (λ (a b : List ℕ). a ≢ b) (codes "detf"); attrs_most = lit≤ tt; attrs_differ = pairs_two (λ (a b : AttrPlan). a.name ≢ b.name) on agr differ_names; attrs = all_two IsAttr on agr is_on is_agr }

is_problem : IsProblem german
is_problem = record {
  some = lit< tt;
  most = lit≤ tt;
  candidates_each = refl;
  candidates = all_two AreCandidates (record { 0 = 9 } ∷ []) (record { 0 = 3 } ∷ []) (candidate (record { 0 = 9 }) (lit< tt)) (candidate (record { 0 = 3 }) (lit< tt));
  dims_most = lit≤ tt;
  dims_differ = pairs_two (λ (a b : DimPlan). a.name ≢ b.name) id lp differ_dims;
  dims = all_two IsDim id lp is_id is_lp;
  groups = all_none (IsGroup german);
}

pub small_problem : (parts : Parts) → parts ≡ german → IsProblem parts
small_problem parts is = subst IsProblem (sym is) is_problem

is_place : IsPlace german (edge 1 1 0 0)
is_place = record { plan = lp; plan_is = refl; graph = refl; label = lit< tt; mother = lit< tt; daughter = lit< tt; differ = differ_nodes }

is_analysis : IsAnalysis german reading
is_analysis = record {
  entries = ((0, lit< tt, refl), ((0, lit< tt, refl), tt));
  attr_count = refl;
  attrs = (lit< tt, (lit< tt, (lit< tt, (lit< tt, (lit< tt, (lit< tt, tt))))));
  places = all_one (IsPlace german) (edge 1 1 0 0) is_place;
  rise = tt;
}

pub small_analysis : (parts : Parts) (analysis : Analysis) → parts ≡ german → analysis ≡ reading → IsAnalysis parts analysis
small_analysis parts analysis same is = subst (λ z. IsAnalysis z analysis) (sym same) (subst (λ z. IsAnalysis german z) (sym is) is_analysis)
