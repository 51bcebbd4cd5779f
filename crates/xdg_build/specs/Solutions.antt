-- The analyses of a sentence that a grammar allows, in words of the grammar, and what a compiled sentence keeps of them.
use Rattle.std.specs.Prelude.{◌≡◌, ◌≢◌, ◌↔◌, ℕ, ◌<◌, ◌≤◌, true, List, [], ◌∷◌, ◌++◌, length, map, flat_map, get_or, All}
use Rattle.std.specs.List.{AllZip}
use Rattle.xdg_base.specs.declared.ids.EntryNo.{EntryNo}
use Rattle.xdg_domain.specs.Shapes.{count}
use Rattle.xdg_facts.specs.Fits.{Fits}
use Rattle.xdg_packed.specs.Lexicon.{word_of}
use Rattle.xdg_problem.specs.declared.analysis.Analysis.{Analysis}
use Rattle.xdg_problem.specs.declared.analysis.Edge.{Edge}
use Rattle.xdg_problem.specs.declared.parts.Group.{Group}
use Rattle.xdg_problem.specs.declared.parts.Parts.{Parts}
use Rattle.xdg_problem.specs.declared.parts.SentenceWord.{SentenceWord}
use Rattle.xdg_problem.specs.Analyses.{IsAnalysis, EdgesRise}
use Rattle.xdg_problem.specs.Places.{below}
use Rattle.xdg_problem.specs.Relations.{Relation}
use Rattle.xdg_problem.specs.Solutions as compiled
use Rattle.xdg_principles.specs.declared.building.PrincipleUse.{PrincipleUse}
use Rattle.xdg_types.specs.declared.table.DimType.{DimType}
use Rattle.xdg_types.specs.Table.{typed}
use Rattle.xdg_build.specs.Grammars.{Grammar}
use Rattle.xdg_formula.specs.Tables.{used_dims, no_dim}
use Rattle.xdg_build.specs.Groups.{used_uses}
use Rattle.xdg_build.specs.Plans.{has_graph}
use Rattle.xdg_build.specs.Principles.{Satisfies}

-- ---- fit

-- the number is that of an entry of the lexicon which has the word
abbrev pub IsEntryOf : Grammar → SentenceWord → EntryNo → Type 0
IsEntryOf g word entry = (entry.0 < length g.lexicon.entries) × (word_of g.lexicon.dim g.lexicon.field (get_or g.lexicon.entries entry.0 []) ≡ word.text)

-- how many values each attribute of each node has, by used dimension, node and attribute
abbrev pub value_counts : DimType → List ℕ
value_counts dim = map (λ attr. count attr.1) (typed dim.attrs)

abbrev pub all_value_counts : ℕ → List DimType → List ℕ
all_value_counts n [] = []
all_value_counts n (dim ∷ dims) = flat_map (λ node. value_counts dim) (below n) ++ all_value_counts n dims

-- an edge between two different nodes, on a used dimension on which the principle graph is used, with one of its labels
pub record IsEdge (g : Grammar) (n : ℕ) (e : Edge) : Type 0 where
  pub dim : e.dim.0 < length g.table.used
  pub graph : has_graph g (get_or g.table.used e.dim.0 0) ≡ true
  pub label : e.label.0 < length (get_or (used_dims g.table) e.dim.0 no_dim).labels
  pub mother : e.mother.0 < n
  pub daughter : e.daughter.0 < n
  pub differ : e.mother.0 ≢ e.daughter.0

-- An analysis of the words: for each node an entry of its word, for each attribute of each node on each used dimension one of
-- the values of its type, and a set of edges, which stand in their order.
pub record IsAnalysisOf (g : Grammar) (words : List SentenceWord) (a : Analysis) : Type 0 where
  pub some : 0 < length words
  pub most : length words ≤ 128
  pub entries : AllZip (IsEntryOf g) words a.entries
  pub attr_count : length a.attrs ≡ length (all_value_counts (length words) (used_dims g.table))
  pub attrs : Fits (all_value_counts (length words) (used_dims g.table)) a.attrs
  pub edges : All (IsEdge g (length words)) a.edges
  pub rise : EdgesRise a.edges

-- ---- solutions

-- a solution: an analysis that satisfies each principle use of each used dimension
pub record IsSolutionOf (g : Grammar) (words : List SentenceWord) (a : Analysis) : Type 0 where
  pub fits : IsAnalysisOf g words a
  pub each : All (Satisfies g words a) (used_uses g)

-- ---- what a compiled sentence keeps

-- The analyses of the problem are those of the grammar and the words, and each principle use is satisfied exactly where the
-- relation of its group holds; so the solutions of the problem are those of the grammar.
pub record KeepsSolutions (g : Grammar) (words : List SentenceWord) (parts : Parts) : Type 0 where
  pub fits : (a : Analysis) → IsAnalysis parts a ↔ IsAnalysisOf g words a
  pub uses : (a : Analysis) → IsAnalysis parts a
      → AllZip (λ (u : PrincipleUse) (group : Group). Satisfies g words a u ↔ Relation parts group a) (used_uses g) parts.groups
  pub solutions : (a : Analysis) → compiled.IsSolution parts a ↔ IsSolutionOf g words a
