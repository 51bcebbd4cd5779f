-- The view of an analysis of a problem.
use Rattle.std.proofs.Common.{◌≡◌, ℕ, ◌<◌, ◌≤◌, List, refl, subst, sym, ◌∙◌, arith}
use Rattle.xdg_problem.specs.declared.analysis.Analysis.{Analysis}
use Rattle.xdg_problem.specs.declared.analysis.Edge.{Edge}
use Rattle.xdg_problem.specs.declared.parts.Group.{Group}
use Rattle.xdg_problem.specs.declared.parts.Parts.{Parts}
use Rattle.xdg_problem.specs.Analyses.{IsAnalysis, IsPlace}
use Rattle.xdg_problem.specs.Arguments.{first_dim, second_dim}
use Rattle.xdg_problem.specs.Paths.{edges_on}
use Rattle.xdg_problem.specs.Places.{nodes}
use Rattle.xdg_problem.specs.Problems.{IsDim, IsProblem}
use Rattle.xdg_judge.specs.declared.links.Links.{Links}
use Rattle.xdg_judge.specs.Links.{AreLinks}
use Rattle.xdg_judge.specs.Reached.{AreWithin}
use Rattle.xdg_judge.specs.Views.{IsView}
use Rattle.xdg_problem.proofs.EntryPlaces.{length_entries}
use Rattle.xdg_problem.proofs.PlacePlans.{dim_within, plan_read}

-- an edge at a place is between nodes of the sentence, and its label is one of at most 32
pub place_within : (parts : Parts) (e : Edge) (n : ℕ) → IsProblem parts → nodes parts ≤ n → IsPlace parts e → (e.mother.0 < n) × (e.label.0 < 32) × (e.daughter.0 < n)
place_within parts e n problem most p =
    let m = p.mother in let v = p.daughter in let l = p.label in
    let plan : IsDim p.plan = subst IsDim (plan_read parts e p p.plan) (problem.dims e.dim.0 p.plan (dim_within parts e p)) in
    let few = plan.labels_most in
    (omega (arith, m, most), omega (arith, l, few), omega (arith, v, most))

pub within_of : (parts : Parts) (analysis : Analysis) (edges : List Edge) (n : ℕ) → IsProblem parts → IsAnalysis parts analysis → edges ≡ analysis.edges → nodes parts ≤ n → AreWithin n edges
within_of parts analysis edges n problem fits e most = subst (AreWithin n) (sym e) (λ k d l. place_within parts _ n problem most (fits.places k d l))

pub view_of : (parts : Parts) (group : Group) (analysis : Analysis) (edges : List Edge) (dim other : ℕ) (first second : Links) → IsProblem parts → IsAnalysis parts analysis → edges ≡ analysis.edges → dim ≡ first_dim group → other ≡ second_dim group → AreLinks (edges_on dim edges) first → AreLinks (edges_on other edges) second → IsView parts group analysis dim other first second
view_of parts group analysis edges dim other first second problem fits e f g t s = record {
  problem = problem;
  fits = fits;
  few = problem.most;
  candidates = problem.candidates_each;
  entries = length_entries parts.candidates analysis.entries fits.entries ∙ problem.candidates_each;
  within = within_of parts analysis analysis.edges 128 problem fits refl problem.most;
  first_is = f;
  second_is = g;
  first_links = subst (λ z. AreLinks (edges_on (first_dim group) z) first) e (subst (λ z. AreLinks (edges_on z edges) first) f t);
  second_links = subst (λ z. AreLinks (edges_on (second_dim group) z) second) e (subst (λ z. AreLinks (edges_on z edges) second) g s);
}
