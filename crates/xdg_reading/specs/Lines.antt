-- The lines of an analysis text: how they are written, and how they are read.
use Rattle.std.specs.Prelude.{◌≡◌, ℕ, ◌<◌, ◌≤◌, Option, Some, None, List, codes}
use Rattle.std.specs.List.{flat_map}
use Rattle.xdg_base.specs.declared.ids.NodeId.{NodeId}
use Rattle.xdg_problem.specs.Problems.{HasConstant}
use Rattle.xdg_text.specs.Lines.{version_line, analysis_line, counts_line, word_line, attr_line, edge_line, end_line}
use Rattle.xdg_text.specs.Values.{value_text}
use Rattle.xdg_reading.specs.declared.line.Line.{Line}
use Rattle.xdg_reading.specs.declared.line.Line.TheVariants as lines
use Rattle.xdg_reading.specs.declared.texts.AttrLine.{AttrLine}
use Rattle.xdg_reading.specs.declared.texts.EdgeLine.{EdgeLine}
use Rattle.xdg_reading.specs.Pieces.{after, past_or, behind, number_at, ordinal_at, quoted_at, constant_at, value_at}

-- how an attribute's line is written
abbrev pub attr_text : AttrLine → List ℕ
attr_text a = attr_line a.dim a.node.0 a.attr (value_text a.value)

-- how an edge's line is written
abbrev pub edge_text : EdgeLine → List ℕ
edge_text e = edge_line e.dim e.mother.0 e.label e.daughter.0

-- how a line is written
abbrev pub line_text : Line → List ℕ
line_text lines.Version = version_line
line_text (lines.Analysis number) = analysis_line number
line_text (lines.Counts words attrs edges) = counts_line words attrs edges
line_text (lines.Word node word entry) = word_line node.0 word.text entry.0
line_text (lines.Attr a) = attr_text a
line_text (lines.Edge e) = edge_text e
line_text lines.End = end_line

-- how lines are written one after the other
abbrev pub text_of : List Line → List ℕ
text_of = flat_map line_text

-- the numbers of a line are in range, a tuple has a constant, and the line knows the place where it begins
abbrev pub IsLine : ℕ → Line → Type 0
IsLine at lines.Version = Unit {0}
IsLine at (lines.Analysis number) = (1 ≤ number) × (number ≤ 2000000000000)
IsLine at (lines.Counts words attrs edges) = (1 ≤ words) × (words ≤ 128) × (attrs ≤ 4294967295) × (edges ≤ 4294967295)
IsLine at (lines.Word node word entry) = (node.0 < 128) × (entry.0 < 4294967295) × (word.at ≡ at)
IsLine at (lines.Attr a) = (a.node.0 < 128) × HasConstant a.value × (a.at ≡ at)
IsLine at (lines.Edge e) = (e.mother.0 < 128) × (e.daughter.0 < 128) × (e.at ≡ at)
IsLine at lines.End = Unit {0}

-- a node, up to an end
unfoldable pub node_at : ℕ → List ℕ → Option (NodeId × List ℕ)
node_at end bytes = after (ordinal_at end 128 bytes) (λ node rest. Some (record { 0 = node }, rest))

unfoldable pub analysis_at : List ℕ → Option (Line × List ℕ)
analysis_at bytes = after (number_at 10 1 2000000000000 bytes) (λ number rest. Some (lines.Analysis number, rest))

unfoldable pub counts_at : List ℕ → Option (Line × List ℕ)
counts_at bytes =
    after (number_at 32 1 128 bytes)
    (λ words rest. after (number_at 32 0 4294967295 rest)
    (λ attrs rest. after (number_at 10 0 4294967295 rest) (λ edges rest. Some (lines.Counts words attrs edges, rest))))

unfoldable pub word_at : ℕ → List ℕ → Option (Line × List ℕ)
word_at at bytes = after (node_at 32 bytes) (λ node rest. after (quoted_at 32 rest) (λ text rest. after (ordinal_at 10 4294967295 rest) (λ entry rest.
    Some (lines.Word node (record { text = text; at = at }) (record { 0 = entry }), rest))))

unfoldable pub attr_at : ℕ → List ℕ → Option (Line × List ℕ)
attr_at at bytes =
    after (constant_at 32 bytes)
    (λ dim rest. after (node_at 32 rest) (λ node rest. after (constant_at 32 rest) (λ attr rest. after (value_at rest) (λ value rest.
    Some (lines.Attr (record { dim = dim; node = node; attr = attr; value = value; at = at }), rest)))))

unfoldable pub edge_at : ℕ → List ℕ → Option (Line × List ℕ)
edge_at at bytes =
    after (constant_at 32 bytes)
    (λ dim rest. after (node_at 32 rest) (λ mother rest. after (constant_at 32 rest) (λ label rest. after (node_at 10 rest) (λ daughter rest.
    Some (lines.Edge (record { dim = dim; mother = mother; label = label; daughter = daughter; at = at }), rest)))))

-- the line that stands there, which begins at a place
unfoldable pub line_at : ℕ → List ℕ → Option (Line × List ℕ)
line_at at bytes =
    past_or (behind (codes "word ") bytes) (word_at at)
    (past_or (behind (codes "attr ") bytes) (attr_at at)
    (past_or (behind (codes "edge ") bytes) (edge_at at)
    (past_or (behind (codes "end\n") bytes) (λ rest. Some (lines.End, rest))
    (past_or (behind (codes "analysis ") bytes) analysis_at
    (past_or (behind (codes "counts ") bytes) counts_at
    (past_or (behind (codes "xdg 2\n") bytes) (λ rest. Some (lines.Version, rest)) None))))))
