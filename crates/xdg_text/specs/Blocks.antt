-- The text of an analysis.
use Rattle.std.specs.Prelude.{ℕ, zero, suc, ◌*◌, List, [], ◌∷◌, ◌++◌, length, drop, slice_index_or}
use Rattle.std.specs.List.{flat_map}
use Rattle.xdg_base.specs.declared.ids.EntryNo.{EntryNo}
use Rattle.xdg_problem.specs.declared.analysis.Edge.{Edge}
use Rattle.xdg_problem.specs.declared.analysis.Analysis.{Analysis}
use Rattle.xdg_problem.specs.declared.parts.AttrPlan.{AttrPlan}
use Rattle.xdg_problem.specs.declared.parts.DimPlan.{DimPlan}
use Rattle.xdg_problem.specs.declared.parts.Parts.{Parts}
use Rattle.xdg_problem.specs.declared.parts.SentenceWord.{SentenceWord}
use Rattle.xdg_problem.specs.declared.parts.Shown.{Shown}
use Rattle.xdg_problem.specs.declared.parts.Shown.TheVariants as kinds
use Rattle.xdg_problem.specs.Arguments.{no_plan}
use Rattle.xdg_text.specs.Lines.{analysis_line, version_line, counts_line, word_line, attr_line, edge_line, end_line}
use Rattle.xdg_text.specs.Values.{value_text}
use Rattle.xdg_text.specs.declared.form.Form.{Form}
use Rattle.xdg_text.specs.declared.form.Form.TheVariants as forms

-- the lines of the nodes from the one numbered node on
abbrev pub word_lines : ℕ → List SentenceWord → List EntryNo → List ℕ
word_lines node [] entries = []
word_lines node (word ∷ words) [] = []
word_lines node (word ∷ words) (entry ∷ entries) = word_line node word.text entry.0 ++ word_lines (suc node) words entries

abbrev pub no_value : Shown
no_value = kinds.Many []

-- the text of the value with this number
abbrev pub value_at : AttrPlan → ℕ → List ℕ
value_at attr number = value_text (slice_index_or attr.values number no_value)

-- the lines of a node's attributes, whose values come first in the list
abbrev pub node_lines : List ℕ → ℕ → List AttrPlan → List ℕ → List ℕ
node_lines dim node [] values = []
node_lines dim node (attr ∷ attrs) [] = []
node_lines dim node (attr ∷ attrs) (value ∷ values) = attr_line dim node attr.name (value_at attr value) ++ node_lines dim node attrs values

-- the lines of so many nodes, from the one numbered node on, with their values one node after the other
abbrev pub dim_lines : DimPlan → ℕ → ℕ → List ℕ → List ℕ
dim_lines plan node zero values = []
dim_lines plan node (suc count) values = node_lines plan.name node plan.attrs values ++ dim_lines plan (suc node) count (drop (length plan.attrs) values)

-- the lines of all attributes: by dimension, node and attribute
abbrev pub attr_lines : ℕ → List DimPlan → List ℕ → List ℕ
attr_lines n [] values = []
attr_lines n (plan ∷ plans) values = dim_lines plan 0 n values ++ attr_lines n plans (drop (n * length plan.attrs) values)

-- the line of an edge, by the names of its dimension and its label
abbrev pub line_of_edge : List DimPlan → Edge → List ℕ
line_of_edge plans e = let plan = slice_index_or plans e.dim.0 no_plan in edge_line plan.name e.mother.0 (slice_index_or plan.labels e.label.0 []) e.daughter.0

abbrev pub edge_lines : List DimPlan → List Edge → List ℕ
edge_lines plans edges = flat_map (line_of_edge plans) edges

-- the lines of the words, of the attributes and of the edges, and the last line
abbrev pub body_lines : List SentenceWord → List DimPlan → List EntryNo → List ℕ → List Edge → List ℕ
body_lines words plans entries attrs edges = word_lines 0 words entries ++ (attr_lines (length words) plans attrs ++ (edge_lines plans edges ++ end_line))

-- the lines of text 1
abbrev pub block_lines : List SentenceWord → List DimPlan → ℕ → List EntryNo → List ℕ → List Edge → List ℕ
block_lines words plans number entries attrs edges = analysis_line number ++ body_lines words plans entries attrs edges

-- the block of an analysis, with a number: its text 1
abbrev pub block : Parts → ℕ → Analysis → List ℕ
block parts number analysis = block_lines parts.words parts.dims number analysis.entries analysis.attrs analysis.edges

-- the lines of text 2, which tells the numbers of lines before them
abbrev pub block2_lines : List SentenceWord → List DimPlan → ℕ → List EntryNo → List ℕ → List Edge → List ℕ
block2_lines words plans number entries attrs edges =
    version_line ++ (analysis_line number ++ (counts_line (length words) (length attrs) (length edges) ++ body_lines words plans entries attrs edges))

-- the text 2 of an analysis, with a number
abbrev pub block2 : Parts → ℕ → Analysis → List ℕ
block2 parts number analysis = block2_lines parts.words parts.dims number analysis.entries analysis.attrs analysis.edges

-- the lines before those of the words
abbrev pub head_lines : Form → ℕ → ℕ → ℕ → ℕ → List ℕ
head_lines forms.One number words attrs edges = analysis_line number
head_lines forms.Two number words attrs edges = version_line ++ (analysis_line number ++ counts_line words attrs edges)

-- an analysis with its number, in one of its two texts
abbrev pub shown : Form → Parts → ℕ → Analysis → List ℕ
shown forms.One parts number analysis = block parts number analysis
shown forms.Two parts number analysis = block2 parts number analysis
