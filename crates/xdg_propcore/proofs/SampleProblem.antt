-- The sample is a problem, and what the test asks of it is in range.
use Rattle.std.proofs.Common.{◌≡◌, ◌≢◌, ◌<◌, ℕ, zero, suc, List, [], ◌∷◌, All, length, rules, refl, subst, sym, arith, lit<, lit≤, codes}
use Rattle.std.specs.Prelude.{slice_index_or}
use Rattle.xdg_base.specs.declared.ids.AttrId.{AttrId}
use Rattle.xdg_base.specs.declared.ids.DimId.{DimId}
use Rattle.xdg_base.specs.declared.ids.EntryNo.{EntryNo}
use Rattle.xdg_problem.specs.declared.parts.AttrPlan.{AttrPlan}
use Rattle.xdg_problem.specs.declared.parts.DimPlan.{DimPlan}
use Rattle.xdg_problem.specs.declared.parts.Parts.{Parts}
use Rattle.xdg_problem.specs.declared.parts.Shown.{Shown}
use Rattle.xdg_problem.specs.declared.parts.Shown.TheVariants as shown
use Rattle.xdg_problem.specs.Problems.{IsProblem, IsDim, IsAttr, IsGroup, AreCandidates, HasConstant}
use Rattle.xdg_store.specs.InRange.{HasValue}
use Rattle.xdg_propcore.specs.Sample.{agr_use, colour, first_alone, plan, sample, IsUse}
use Rattle.xdg_propcore.specs.Uses.{StandsIn}
use Rattle.xdg_facts.proofs.Lists.{all_one, all_two, pairs_one, pairs_two, pairs_none}
use Rattle.xdg_store.proofs.Small.{differ_values}
use Rattle.xdg_problem.specs.Principles.{IsSet, AreSets, AreFeatures}

pub one_candidate : AreCandidates (record { 0 = 3 } ∷ [])
one_candidate = record { some = lit< tt; most = lit≤ tt; rising = pairs_one (λ (a b : EntryNo). a.0 < b.0) (record { 0 = 3 }); small = all_one (λ (e : EntryNo). e.0 < 4294967295) (record { 0 = 3 }) (lit< tt) }

abbrev first_byte : Shown → ℕ
first_byte (shown.One (b ∷ text)) = b
first_byte value = 0

is_colour : IsAttr colour
is_colour = record { some = lit< tt; most = lit≤ tt; shown_as = all_two HasConstant (shown.One (codes "x")) (shown.One (codes "y")) tt tt; differ = pairs_two (λ (a b : Shown). a ≢ b) (shown.One (codes "x")) (shown.One (codes "y")) differ_values }

is_plan : IsDim plan
is_plan = record { labels_most = lit≤ tt; labels_differ = pairs_none (λ (a b : List ℕ). a ≢ b); attrs_most = lit≤ tt; attrs_differ = pairs_one (λ (a b : AttrPlan). a.name ≢ b.name) colour; attrs = all_one IsAttr colour is_colour }

is_set : IsSet 2 (0 ∷ [])
is_set = record { rising = search rules; small = all_one (λ (n : ℕ). n < 2) 0 (lit< tt) }

are_features : AreFeatures agr_use.principle sample agr_use (first_alone ∷ [])
are_features = (refl, all_one (AreSets 1 2) first_alone (record { count = refl; each = all_one (IsSet 2) (0 ∷ []) is_set }))

feats_at : (v : ℕ) → v < 1 → All (AreFeatures agr_use.principle sample agr_use) (slice_index_or agr_use.feats v [])
feats_at zero l = all_one (AreFeatures agr_use.principle sample agr_use) (first_alone ∷ []) are_features
feats_at (suc v) l = absurd (omega (arith, l))

feats_each_at : (v : ℕ) → v < 1 → length (slice_index_or agr_use.feats v []) ≡ length (slice_index_or sample.candidates v [])
feats_each_at zero l = refl
feats_each_at (suc v) l = absurd (omega (arith, l))

is_use : IsGroup sample agr_use
is_use = record {
  dims_count = refl;
  dims = all_one (λ (dim : DimId). dim.0 < 1) (record { 0 = 0 }) (lit< tt);
  attrs_count = refl;
  attrs = all_one (λ (attr : AttrId). attr.0 < 1) (record { 0 = 0 }) (lit< tt);
  order = refl;
  truths_count = refl;
  feats = refl;
  feats_each = feats_each_at;
  features = feats_at;
  suits = tt;
}

is_problem : IsProblem sample
is_problem = record {
  some = lit< tt;
  most = lit≤ tt;
  candidates_each = refl;
  candidates = all_one AreCandidates (record { 0 = 3 } ∷ []) one_candidate;
  dims_most = lit≤ tt;
  dims_differ = pairs_one (λ (a b : DimPlan). a.name ≢ b.name) plan;
  dims = all_one IsDim plan is_plan;
  groups = all_one (IsGroup sample) agr_use is_use;
}

pub sample_problem : (parts : Parts) → parts ≡ sample → IsProblem parts
sample_problem parts is = subst IsProblem (sym is) is_problem

pub has_value : (parts : Parts) (value : ℕ) → parts ≡ sample → value < 2 → HasValue parts 0 0 0 value
has_value parts value is l = subst (λ q. HasValue q 0 0 0 value) (sym is) (record { node_in = lit< tt; dim_in = lit< tt; attr_in = lit< tt; value_in = l })

pub all_stand : {P : Type 0} (props : List P) (parts : Parts) → parts ≡ sample → All (λ _. StandsIn IsUse parts) props
all_stand props parts is k d within = subst (StandsIn IsUse) (sym is) (0, (lit< tt, (refl, refl)))
