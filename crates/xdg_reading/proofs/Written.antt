-- The lines of a text that shows an analysis are those of its block.
use Rattle.std.proofs.Common.{◌≡◌, ◌+◌, ◌*◌, ◌++◌, ℕ, zero, suc, List, [], ◌∷◌, length, map, drop, get_or, refl, sym, ap, ap₂, ◌∙◌, arith, Some, None, Option, append_assoc, append-nil, length-append}
use Rattle.std.proofs.lemmas.List.{length-map}
use Rattle.std.proofs.lemmas.List.Concat.{flat_map-append}
use Rattle.std.specs.List.{flat_map}
use Rattle.xdg_base.specs.declared.ids.EntryNo.{EntryNo}
use Rattle.xdg_problem.specs.declared.analysis.Analysis.{Analysis}
use Rattle.xdg_problem.specs.declared.analysis.Edge.{Edge}
use Rattle.xdg_problem.specs.declared.parts.AttrPlan.{AttrPlan}
use Rattle.xdg_problem.specs.declared.parts.DimPlan.{DimPlan}
use Rattle.xdg_problem.specs.declared.parts.Parts.{Parts}
use Rattle.xdg_problem.specs.declared.parts.SentenceWord.{SentenceWord}
use Rattle.xdg_problem.specs.Places.{numbers_from, nodes}
use Rattle.xdg_reading.specs.declared.line.Line.{Line}
use Rattle.xdg_reading.specs.declared.line.Line.TheVariants as lines
use Rattle.xdg_reading.specs.declared.texts.AnalysisText.{AnalysisText}
use Rattle.xdg_reading.specs.declared.texts.AttrLine.{AttrLine}
use Rattle.xdg_reading.specs.declared.texts.EdgeLine.{EdgeLine}
use Rattle.xdg_reading.specs.Lines.{line_text, text_of, edge_text}
use Rattle.xdg_reading.specs.Texts.{word_lines, body, lines_of, lines2_of}
use Rattle.xdg_text.specs.Blocks as blocks
use Rattle.xdg_problem.specs.Arguments.{no_plan}
use Rattle.xdg_text.specs.Blocks.{value_at, node_lines, dim_lines, attr_lines, line_of_edge, edge_lines, body_lines, block, block2}
use Rattle.xdg_text.specs.Lines.{word_line, attr_line, edge_line, end_line}
use Rattle.xdg_text.specs.Values.{value_text}
use Rattle.xdg_reading.specs.Blocks.{HasWords}
use Rattle.xdg_reading.specs.Fits.{SaysEdge, SayValues, SayEdges, Shows}
use Rattle.xdg_reading.specs.Slots.{Asked, node_slots, dim_slots, slots}
use Rattle.xdg_facts.proofs.Lists.{head_of, tail_of}

abbrev pub texts : List SentenceWord → List (List ℕ)
texts words = map (λ (w : SentenceWord). w.text) words

words_text : (node : ℕ) (words others : List SentenceWord) (entries : List EntryNo) → texts words ≡ texts others → text_of (word_lines node words entries) ≡ blocks.word_lines node others entries
words_text node [] [] entries same = refl
words_text node [] (o ∷ others) entries same = cc
words_text node (w ∷ words) [] entries same = cc
words_text node (w ∷ words) (o ∷ others) [] same = refl
words_text node (w ∷ words) (o ∷ others) (entry ∷ entries) same =
    ap₂ (λ t rest. word_line node t entry.0 ++ rest) (head_of w.text o.text (texts words) (texts others) same) (words_text (suc node) words others entries (tail_of w.text o.text (texts words) (texts others) same))

-- the lines of attributes with these values
abbrev said_text : List Asked → List ℕ → List ℕ
said_text asked [] = []
said_text [] (v ∷ values) = []
said_text (a ∷ asked) (v ∷ values) = attr_line a.dim a.node a.attr.name (value_at a.attr v) ++ said_text asked values

attrs_text : (asked : List Asked) (xs : List AttrLine) (values : List ℕ) → SayValues asked xs values → text_of (map lines.Attr xs) ≡ said_text asked values
attrs_text [] [] [] say = refl
attrs_text (a ∷ asked) (x ∷ xs) (v ∷ values) say =
    let says = say.0 in
    ap₂ (λ line rest. line ++ rest)
    (ap₂ (λ d n. attr_line d n x.attr (value_text x.value)) says.dim says.node ∙ ap₂ (λ n z. attr_line a.dim a.node n (value_text z)) says.attr (sym says.is))
    (attrs_text asked xs values say.1)
attrs_text asked xs values say = absurd say

said_nothing : (asked : List Asked) → said_text asked [] ≡ []
said_nothing [] = refl
said_nothing (a ∷ asked) = refl

said_both : (xs ys : List Asked) (values : List ℕ) → said_text (xs ++ ys) values ≡ said_text xs values ++ said_text ys (drop (length xs) values)
said_both [] ys [] = refl
said_both [] ys (v ∷ values) = refl
said_both (x ∷ xs) ys [] = sym (said_nothing ys)
said_both (x ∷ xs) ys (v ∷ values) =
    ap (λ z. attr_line x.dim x.node x.attr.name (value_at x.attr v) ++ z) (said_both xs ys values)
    ∙ sym (append_assoc (attr_line x.dim x.node x.attr.name (value_at x.attr v)) (said_text xs values) (said_text ys (drop (length xs) values)))

node_text : (dim : List ℕ) (node : ℕ) (attrs : List AttrPlan) (values : List ℕ) → said_text (map (λ attr. record { dim = dim; node = node; attr = attr }) attrs) values ≡ node_lines dim node attrs values
node_text dim node [] [] = refl
node_text dim node [] (v ∷ values) = refl
node_text dim node (attr ∷ attrs) [] = refl
node_text dim node (attr ∷ attrs) (v ∷ values) = ap (λ z. attr_line dim node attr.name (value_at attr v) ++ z) (node_text dim node attrs values)

no_slots : (values : List ℕ) → said_text [] values ≡ []
no_slots [] = refl
no_slots (v ∷ values) = refl

node_count : (plan : DimPlan) (node : ℕ) → length (node_slots plan node) ≡ length plan.attrs
node_count plan node = length-map plan.attrs (λ attr. record { dim = plan.name; node = node; attr = attr })

dim_text : (plan : DimPlan) (node count : ℕ) (values : List ℕ) → said_text (flat_map (node_slots plan) (numbers_from node count)) values ≡ dim_lines plan node count values
dim_text plan node zero values = no_slots values
dim_text plan node (suc count) values =
    said_both (node_slots plan node) (flat_map (node_slots plan) (numbers_from (suc node) count)) values
    ∙ ap₂ (λ a b. a ++ b) (node_text plan.name node plan.attrs values) (ap (λ k. said_text (flat_map (node_slots plan) (numbers_from (suc node) count)) (drop k values)) (node_count plan node) ∙ dim_text plan (suc node) count (drop (length plan.attrs) values))

dim_count : (plan : DimPlan) (node count : ℕ) → length (flat_map (node_slots plan) (numbers_from node count)) ≡ count * length plan.attrs
dim_count plan node zero = omega arith
dim_count plan node (suc count) =
    let more : length (node_slots plan node ++ flat_map (node_slots plan) (numbers_from (suc node) count)) ≡ length (node_slots plan node) + length (flat_map (node_slots plan) (numbers_from (suc node) count)) = length-append (node_slots plan node) (flat_map (node_slots plan) (numbers_from (suc node) count)) in
    more ∙ ap₂ (λ a b. a + b) (node_count plan node) (dim_count plan (suc node) count) ∙ omega arith

slots_text : (n : ℕ) (plans : List DimPlan) (values : List ℕ) → said_text (slots n plans) values ≡ attr_lines n plans values
slots_text n [] values = no_slots values
slots_text n (plan ∷ plans) values =
    said_both (dim_slots n plan) (slots n plans) values
    ∙ ap₂ (λ a b. a ++ b) (dim_text plan 0 n values) (ap (λ k. said_text (slots n plans) (drop k values)) (dim_count plan 0 n) ∙ slots_text n plans (drop (n * length plan.attrs) values))

edge_is : (dims : List DimPlan) (x : EdgeLine) (e : Edge) → SaysEdge dims x e → edge_text x ≡ line_of_edge dims e
edge_is dims x e says =
    ap₂ (λ d m. edge_line d m.0 x.label x.daughter.0) (sym says.dim) (sym says.mother)
    ∙ ap₂ (λ l d. edge_line (get_or dims e.dim.0 no_plan).name e.mother.0 l d.0) (sym says.label) (sym says.daughter)

edges_text : (parts : Parts) (before : Option Edge) (xs : List EdgeLine) (edges : List Edge) → SayEdges parts before xs edges → text_of (map lines.Edge xs) ≡ edge_lines parts.dims edges
edges_text parts before [] [] say = refl
edges_text parts before (x ∷ xs) (e ∷ edges) say = ap₂ (λ a b. a ++ b) (edge_is parts.dims x e say.0.says) (edges_text parts (Some e) xs edges say.1)
edges_text parts before xs edges say = absurd say

pub both_texts : (xs ys : List Line) → text_of (xs ++ ys) ≡ text_of xs ++ text_of ys
both_texts xs ys = flat_map-append line_text xs ys

-- the lines behind the first ones
pub body_text : (parts : Parts) (t : AnalysisText) (a : Analysis) → HasWords parts t → Shows parts t a → text_of (body t) ≡ body_lines parts.words parts.dims a.entries a.attrs a.edges
body_text parts t a words shows =
    let edges : List Line = map lines.Edge t.edges in
    let attrs : List Line = map lines.Attr t.attrs in
    both_texts (word_lines 0 t.words t.entries) (attrs ++ (edges ++ lines.End ∷ []))
    ∙ ap₂ (λ a b. a ++ b) (words_text 0 t.words parts.words t.entries words ∙ ap (blocks.word_lines 0 parts.words) (sym shows.entries))
    (both_texts attrs (edges ++ lines.End ∷ [])
    ∙ ap₂ (λ a b. a ++ b) (attrs_text (slots (nodes parts) parts.dims) t.attrs a.attrs shows.attrs ∙ slots_text (nodes parts) parts.dims a.attrs)
    (both_texts edges (lines.End ∷ []) ∙ ap₂ (λ a b. a ++ b) (edges_text parts None t.edges a.edges shows.edges) (append-nil end_line)))

pub values_count : (asked : List Asked) (xs : List AttrLine) (values : List ℕ) → SayValues asked xs values → length xs ≡ length values
values_count [] [] [] say = refl
values_count (a ∷ asked) (x ∷ xs) (v ∷ values) say = ap suc (values_count asked xs values say.1)
values_count asked xs values say = absurd say

pub edges_count : (parts : Parts) (before : Option Edge) (xs : List EdgeLine) (edges : List Edge) → SayEdges parts before xs edges → length xs ≡ length edges
edges_count parts before [] [] say = refl
edges_count parts before (x ∷ xs) (e ∷ edges) say = ap suc (edges_count parts (Some e) xs edges say.1)
edges_count parts before xs edges say = absurd say

pub words_count : (parts : Parts) (t : AnalysisText) → HasWords parts t → length t.words ≡ length parts.words
words_count parts t words =
    let a : length (texts t.words) ≡ length t.words = length-map t.words (λ (w : SentenceWord). w.text) in
    let b : length (texts parts.words) ≡ length parts.words = length-map parts.words (λ (w : SentenceWord). w.text) in
    sym a ∙ ap length words ∙ b

-- the text 1 of a text that shows an analysis is its block
pub text1_is : (parts : Parts) (t : AnalysisText) (a : Analysis) (number : ℕ) → HasWords parts t → Shows parts t a → text_of (lines_of number t) ≡ block parts number a
text1_is parts t a number words shows = ap (λ z. line_text (lines.Analysis number) ++ z) (body_text parts t a words shows)

-- and so is the text 2
pub text2_is : (parts : Parts) (t : AnalysisText) (a : Analysis) (number : ℕ) → HasWords parts t → Shows parts t a → text_of (lines2_of number t) ≡ block2 parts number a
text2_is parts t a number words shows =
    ap (λ z. line_text lines.Version ++ (line_text (lines.Analysis number) ++ z))
    (ap (λ z. line_text (lines.Counts (length t.words) (length t.attrs) (length t.edges)) ++ z) (body_text parts t a words shows)
    ∙ ap₂ (λ w x. line_text (lines.Counts w x (length t.edges)) ++ body_lines parts.words parts.dims a.entries a.attrs a.edges) (words_count parts t words) (values_count (slots (nodes parts) parts.dims) t.attrs a.attrs shows.attrs)
    ∙ ap (λ y. line_text (lines.Counts (length parts.words) (length a.attrs) y) ++ body_lines parts.words parts.dims a.entries a.attrs a.edges) (edges_count parts None t.edges a.edges shows.edges))
