-- The sentence of one word is a problem, each propagator that stands for uses of graph stands for its only use, and two jobs want all analyses.
use Rattle.std.proofs.Common.{◌≡◌, ◌≢◌, ◌<◌, ℕ, zero, suc, List, [], ◌∷◌, All, length, refl, subst, sym, arith, lit<, lit≤}
use Rattle.std.specs.Prelude.{Option, None, slice_index_or}
use Rattle.xdg_base.specs.declared.ids.AttrId.{AttrId}
use Rattle.xdg_base.specs.declared.ids.DimId.{DimId}
use Rattle.xdg_problem.specs.declared.parts.AttrPlan.{AttrPlan}
use Rattle.xdg_problem.specs.declared.parts.DimPlan.{DimPlan}
use Rattle.xdg_problem.specs.declared.parts.Parts.{Parts}
use Rattle.xdg_problem.specs.Problems.{IsProblem, IsAttr, IsDim, IsGroup, AreCandidates}
use Rattle.xdg_propcore.specs.Uses.{AllStandIn, StandsIn}
use Rattle.xdg_split.specs.Asked.{Asked, IsJob, asked}
use Rattle.xdg_split.specs.Splits.{AllWant, wanted_of}
use Rattle.xdg_trials.specs.Alone.{IsGraph, alone, graph_use, job, pair, plan}
use Rattle.xdg_facts.proofs.Lists.{all_one, all_two, all_none, pairs_one, pairs_none}
use Rattle.xdg_propcore.proofs.SampleProblem.{one_candidate}
use Rattle.xdg_problem.specs.Principles.{AreFeatures}

is_plan : IsDim plan
is_plan = record { labels_most = lit≤ tt; labels_differ = pairs_none (λ (a b : List ℕ). a ≢ b); attrs_most = lit≤ tt; attrs_differ = pairs_none (λ (a b : AttrPlan). a.name ≢ b.name); attrs = all_none IsAttr }

feats_each_at : (v : ℕ) → v < 1 → length (slice_index_or graph_use.feats v []) ≡ length (slice_index_or alone.candidates v [])
feats_each_at zero l = refl
feats_each_at (suc v) l = absurd (omega (arith, l))

feats_at : (v : ℕ) → v < 1 → All (AreFeatures graph_use.principle alone graph_use) (slice_index_or graph_use.feats v [])
feats_at zero l = all_one (AreFeatures graph_use.principle alone graph_use) [] refl
feats_at (suc v) l = absurd (omega (arith, l))

is_use : IsGroup alone graph_use
is_use = record {
  dims_count = refl;
  dims = all_one (λ (dim : DimId). dim.0 < 1) (record { 0 = 0 }) (lit< tt);
  attrs_count = refl;
  attrs = all_none (λ (attr : AttrId). attr.0 < 0);
  order = refl;
  truths_count = refl;
  feats = refl;
  feats_each = feats_each_at;
  features = feats_at;
  suits = tt;
}

is_problem : IsProblem alone
is_problem = record {
  some = lit< tt;
  most = lit≤ tt;
  candidates_each = refl;
  candidates = all_one AreCandidates (record { 0 = 3 } ∷ []) one_candidate;
  dims_most = lit≤ tt;
  dims_differ = pairs_one (λ (a b : DimPlan). a.name ≢ b.name) plan;
  dims = all_one IsDim plan is_plan;
  groups = all_one (IsGroup alone) graph_use is_use;
}

pub alone_problem : (parts : Parts) → parts ≡ alone → IsProblem parts
alone_problem parts is = subst IsProblem (sym is) is_problem

use_is : (number : ℕ) → number < 1 → IsGraph alone number
use_is zero l = refl
use_is (suc number) l = absurd (omega (arith, l))

stand_alone : {P : Type 0} (p : P) → AllStandIn (λ (_ : P). IsGraph) (p ∷ []) alone
stand_alone p = record {
  each = all_one (λ _. StandsIn IsGraph alone) p (0, (lit< tt, refl));
  all = λ number l. (p, (0, lit< tt, refl), use_is number l);
}

-- a job of the sentence, by one such propagator
pub alone_job : {P : Type 0} (p : P) (props : List P) (parts : Parts) (budget : ℕ) (first : Option ℕ) → props ≡ p ∷ [] → parts ≡ alone → budget ≡ 10 → first ≡ None → IsJob (λ (_ : P). IsGraph) props (asked parts budget first)
alone_job p props parts budget first props_are is small none =
    subst (λ ps. IsJob (λ _. IsGraph) ps (asked parts budget first)) (sym props_are)
    (subst (λ q. IsJob (λ _. IsGraph) (p ∷ []) (asked q budget first)) (sym is)
    (subst (λ n. IsJob (λ _. IsGraph) (p ∷ []) (asked alone n first)) (sym small)
    (subst (λ o. IsJob (λ _. IsGraph) (p ∷ []) (asked alone 10 o)) (sym none)
    (record { stand = stand_alone p; some = lit≤ tt; most = lit≤ tt; first = tt }))))

-- of each of the two jobs all analyses are wanted
pub pair_wants : (jobs : List Asked) → jobs ≡ pair → AllWant (wanted_of jobs) jobs
pair_wants jobs is = subst (λ js. AllWant (wanted_of js) js) (sym is) (all_two (λ (one : Asked). one.first ≡ None) job job refl refl)
