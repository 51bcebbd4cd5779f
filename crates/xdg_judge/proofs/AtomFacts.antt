-- What tables of edges and paths say of atoms.
use Rattle.std.proofs.Common.{◌≡◌, ◌↔◌, ℕ, ◌<◌, ◌≤◌, Bool, false, List, [], ◌∷◌, length, sym, ap, ◌∙◌, subst, arith}
use Rattle.std.specs.Prelude.{IsTrue, All, Contains, Some, None, slice_get, slice_index_or, ◌==◌}
use Rattle.std.proofs.lemmas.Bool.{eqb-true}
use Rattle.std.proofs.lemmas.List.Elements.{All-head}
use Rattle.xdg_problem.specs.declared.analysis.Analysis.{Analysis}
use Rattle.xdg_problem.specs.declared.analysis.Edge.{Edge}
use Rattle.xdg_problem.specs.declared.parts.Parts.{Parts}
use Rattle.xdg_problem.specs.Analyses.{IsAnalysis, IsPlace}
use Rattle.xdg_problem.specs.Paths.{edges_on, Above, IsDaughterBy}
use Rattle.xdg_problem.specs.Places.{nodes}
use Rattle.xdg_problem.specs.Problems.{IsProblem}
use Rattle.xdg_problem.specs.Truths.{says}
use Rattle.xdg_facts.proofs.Filters.{filter_contained}
use Rattle.xdg_judge.specs.declared.links.Direction.TheVariants as directions
use Rattle.xdg_judge.specs.declared.links.Neighbours.{Neighbours}
use Rattle.xdg_judge.specs.Graphs.{IsReady}
use Rattle.xdg_judge.specs.Links.{AreNeighbours}
use Rattle.xdg_nodeset.specs.Tables.{InTable, InBy}
use Rattle.xdg_facts.proofs.Lookups.{read_none, read_some}
use Rattle.xdg_facts.proofs.Facts.{both_steps, not_told}
use Rattle.xdg_problem.proofs.EntryPlaces.{length_entries}
use Rattle.xdg_problem.proofs.PlacePlans.{dim_within}

-- no edge is of a dimension that the problem lacks

on_dim : (parts : Parts) (analysis : Analysis) (dim : ℕ) (e : Edge) → IsAnalysis parts analysis → length parts.dims ≤ dim → Contains (edges_on dim analysis.edges) e → ⊥
on_dim parts analysis dim e fits past on =
    let found = filter_contained (λ x. x.dim.0 == dim) analysis.edges e on in
    let place : IsPlace parts e = subst (IsPlace parts) found.0.2 (fits.places found.0.0 e found.0.1) in
    let is = eqb-true e.dim.0 dim found.1 in
    let within = dim_within parts e place in
    omega (arith, past, is, within)

pub no_edge : (parts : Parts) (analysis : Analysis) (tables : List Neighbours) (dim u l v : ℕ) → IsReady parts analysis tables → length parts.dims ≤ dim → IsTrue false ↔ IsDaughterBy (edges_on dim analysis.edges) u l v
no_edge parts analysis tables dim u l v ready past = not_told _ (λ a. on_dim parts analysis dim a.1 ready.fits past (a.0, a.2, a.3))

first_along : (edges path : List Edge) → 0 < length path → All (Contains edges) path → (e : Edge) × Contains edges e
first_along edges [] some along = absurd (omega (arith, some))
first_along edges (e ∷ path) some along = (e, All-head (Contains edges) e path along)

pub no_path : (parts : Parts) (analysis : Analysis) (tables : List Neighbours) (dim u v : ℕ) → IsReady parts analysis tables → length parts.dims ≤ dim → IsTrue false ↔ Above (edges_on dim analysis.edges) u v
no_path parts analysis tables dim u v ready past = not_told _ (λ above. (let first = first_along (edges_on dim analysis.edges) above.path above.some above.along in on_dim parts analysis dim first.0 ready.fits past first.1))

-- the tables of the others

table_is : (parts : Parts) (analysis : Analysis) (tables : List Neighbours) (table : Neighbours) (dim : ℕ) → IsReady parts analysis tables → dim < length parts.dims → table ≡ slice_index_or tables dim table → AreNeighbours directions.Down (edges_on dim analysis.edges) table
table_is parts analysis tables table dim ready within is = subst (AreNeighbours directions.Down (edges_on dim analysis.edges)) (sym is) (ready.graphs dim table within)

pub edge_told : (parts : Parts) (analysis : Analysis) (tables : List Neighbours) (table : Neighbours) (dim u l v : ℕ) (result : Bool) → IsReady parts analysis tables → dim < length parts.dims → table ≡ slice_index_or tables dim table → IsTrue result ↔ InBy table.by_label u l v → IsTrue result ↔ IsDaughterBy (edges_on dim analysis.edges) u l v
edge_told parts analysis tables table dim u l v result ready within is told = both_steps told ((table_is parts analysis tables table dim ready within is).by_label u l v)

pub path_told : (parts : Parts) (analysis : Analysis) (tables : List Neighbours) (table : Neighbours) (dim u v : ℕ) (result : Bool) → IsReady parts analysis tables → dim < length parts.dims → table ≡ slice_index_or tables dim table → IsTrue result ↔ InTable table.far u v → IsTrue result ↔ Above (edges_on dim analysis.edges) u v
path_told parts analysis tables table dim u v result ready within is told = both_steps told ((table_is parts analysis tables table dim ready within is).far u v)

-- the entry of a node

pub has_candidates : (parts : Parts) (node : ℕ) → IsProblem parts → node < nodes parts → node < length parts.candidates
has_candidates parts node problem within = (let each = problem.candidates_each in omega (arith, each, within))

pub has_an_entry : (parts : Parts) (analysis : Analysis) (node : ℕ) → IsProblem parts → IsAnalysis parts analysis → node < nodes parts → node < length analysis.entries
has_an_entry parts analysis node problem fits within =
    let each = problem.candidates_each in
    let same = length_entries parts.candidates analysis.entries fits.entries in
    omega (arith, each, same, within)

-- what a table says of it

pub no_row : (table : List (List Bool)) (node candidate : ℕ) → None ≡ slice_get table node → false ≡ says table node candidate
no_row table node candidate none = sym (ap (λ row. slice_index_or row candidate false) (read_none table node [] none))

row_said : (table : List (List Bool)) (node candidate : ℕ) (row : List Bool) → Some row ≡ slice_get table node → says table node candidate ≡ slice_index_or row candidate false
row_said table node candidate row some = ap (λ r. slice_index_or r candidate false) (read_some table node row [] some)

pub no_truth : (table : List (List Bool)) (node candidate : ℕ) (row : List Bool) → Some row ≡ slice_get table node → None ≡ slice_get row candidate → false ≡ says table node candidate
no_truth table node candidate row some none = sym (row_said table node candidate row some ∙ read_none row candidate false none)

pub the_truth : (table : List (List Bool)) (node candidate : ℕ) (row : List Bool) (truth : Bool) → Some row ≡ slice_get table node → Some truth ≡ slice_get row candidate → truth ≡ says table node candidate
the_truth table node candidate row truth some here = sym (row_said table node candidate row some ∙ read_some row candidate truth false here)
