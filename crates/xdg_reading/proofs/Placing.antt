-- The text that an analysis has, with the places of its lines.
use Rattle.std.proofs.Common.{◌≡◌, ◌<◌, ◌≤◌, ◌+◌, ◌++◌, ℕ, suc, List, [], ◌∷◌, length, map, get_or, refl, sym, ap, ◌∙◌, subst, arith, Some, None, Option, length-append}
use Rattle.std.proofs.lemmas.List.Elements.{recursion_from_All}
use Rattle.std.specs.List.{AllByRecursion}
use Rattle.xdg_base.specs.declared.ids.EntryNo.{EntryNo}
use Rattle.xdg_facts.specs.Fits.{Fits}
use Rattle.xdg_problem.specs.declared.analysis.Analysis.{Analysis}
use Rattle.xdg_problem.specs.declared.analysis.Edge.{Edge}
use Rattle.xdg_problem.specs.declared.parts.DimPlan.{DimPlan}
use Rattle.xdg_problem.specs.declared.parts.Parts.{Parts}
use Rattle.xdg_problem.specs.declared.parts.SentenceWord.{SentenceWord}
use Rattle.xdg_problem.specs.Analyses.{HasCandidates, IsPlace, EdgesRise, IsAnalysis}
use Rattle.xdg_problem.specs.Places.{nodes}
use Rattle.xdg_problem.specs.Problems.{IsProblem, AreCandidates}
use Rattle.xdg_reading.specs.declared.line.Line.{Line}
use Rattle.xdg_reading.specs.declared.line.Line.TheVariants as lines
use Rattle.xdg_reading.specs.declared.texts.AnalysisText.{AnalysisText}
use Rattle.xdg_reading.specs.declared.texts.AttrLine.{AttrLine}
use Rattle.xdg_reading.specs.declared.texts.EdgeLine.{EdgeLine}
use Rattle.xdg_reading.specs.Lines.{line_text, text_of, attr_text, edge_text}
use Rattle.xdg_reading.specs.Texts.{word_lines, body, Placed}
use Rattle.xdg_problem.specs.Arguments.{no_plan}
use Rattle.xdg_text.specs.Blocks.{no_value}
use Rattle.xdg_text.specs.Lines.{word_line}
use Rattle.xdg_reading.specs.Blocks.{HasWords}
use Rattle.xdg_reading.specs.Fits.{SayValues, SayEdges, Follows, Shows}
use Rattle.xdg_reading.specs.Slots.{Asked, slots}
use Rattle.xdg_reading.proofs.Attributes.{AreAttrs, are_attrs, size, sizes_are}
use Rattle.xdg_reading.proofs.Written.{texts}

-- lines that follow placed lines
pub placed_both : (at : ℕ) (xs ys : List Line) → Placed at xs → Placed (at + length (text_of xs)) ys → Placed at (xs ++ ys)
placed_both at [] ys a b = let here : at + 0 ≡ at = omega arith in subst (λ k. Placed k ys) here b
placed_both at (x ∷ xs) ys a b =
    let place : at + length (line_text x ++ text_of xs) ≡ at + length (line_text x) + length (text_of xs) = omega (arith, length-append (line_text x) (text_of xs)) in
    (a.0, placed_both (at + length (line_text x)) xs ys a.1 (subst (λ k. Placed k ys) place b))

-- the words with the places of their lines
abbrev pub words_at : ℕ → ℕ → List SentenceWord → List EntryNo → List SentenceWord
words_at at node [] entries = []
words_at at node (w ∷ words) [] = record { text = w.text; at = at } ∷ words_at at node words []
words_at at node (w ∷ words) (entry ∷ entries) = record { text = w.text; at = at } ∷ words_at (at + length (word_line node w.text entry.0)) (suc node) words entries

same_words : (at node : ℕ) (words : List SentenceWord) (entries : List EntryNo) → texts (words_at at node words entries) ≡ texts words
same_words at node [] entries = refl
same_words at node (w ∷ words) [] = ap (λ z. w.text ∷ z) (same_words at node words [])
same_words at node (w ∷ words) (entry ∷ entries) = ap (λ z. w.text ∷ z) (same_words (at + length (word_line node w.text entry.0)) (suc node) words entries)

words_placed : (at node n : ℕ) (words : List SentenceWord) (entries : List EntryNo) → node + length words ≤ 128 → AllByRecursion (λ (e : EntryNo). e.0 < 4294967295) entries → Placed at (word_lines node (words_at at node words entries) entries)
words_placed at node n [] entries few small = tt
words_placed at node n (w ∷ words) [] few small = tt
words_placed at node n (w ∷ words) (entry ∷ entries) few small = ((omega (arith, few), small.0, refl), words_placed (at + length (word_line node w.text entry.0)) (suc node) n words entries (omega (arith, few)) small.1)

small_entries : (cs : List (List EntryNo)) (entries : List EntryNo) → AllByRecursion AreCandidates cs → HasCandidates cs entries → AllByRecursion (λ (e : EntryNo). e.0 < 4294967295) entries
small_entries [] [] are has = tt
small_entries [] (e ∷ entries) are has = absurd has
small_entries (c ∷ cs) [] are has = tt
small_entries (c ∷ cs) (e ∷ entries) are ((k, within, is), more) = (subst (λ (z : EntryNo). z.0 < 4294967295) is (are.0.small k e within), small_entries cs entries are.1 more)

-- the line of an attribute with a value
abbrev pub attr_at : ℕ → Asked → ℕ → AttrLine
attr_at at a v = record { dim = a.dim; node = record { 0 = a.node }; attr = a.attr.name; value = get_or a.attr.values v no_value; at = at }

abbrev pub behind_attr : ℕ → Asked → ℕ → ℕ
behind_attr at a v = at + length (attr_text (attr_at at a v))

-- the lines of attributes with these values
abbrev pub attrs_at : ℕ → List Asked → List ℕ → List AttrLine
attrs_at at asked [] = []
attrs_at at [] (v ∷ values) = []
attrs_at at (a ∷ asked) (v ∷ values) = attr_at at a v ∷ attrs_at (behind_attr at a v) asked values

attrs_say : (at : ℕ) (asked : List Asked) (values : List ℕ) → Fits (map size asked) values → length values ≡ length (map size asked) → SayValues asked (attrs_at at asked values) values
attrs_say at [] [] fits count = tt
attrs_say at [] (v ∷ values) fits count = absurd (omega (arith, count))
attrs_say at (a ∷ asked) [] fits count = absurd (omega (arith, count))
attrs_say at (a ∷ asked) (v ∷ values) fits count = (record { dim = refl; node = refl; attr = refl; within = fits.0; is = refl }, attrs_say (behind_attr at a v) asked values fits.1 (omega (arith, count)))

attrs_placed : (at n : ℕ) (asked : List Asked) (values : List ℕ) → n ≤ 128 → AreAttrs n asked → Fits (map size asked) values → Placed at (map lines.Attr (attrs_at at asked values))
attrs_placed at n asked [] few are fits = tt
attrs_placed at n [] (v ∷ values) few are fits = tt
attrs_placed at n (a ∷ asked) (v ∷ values) few are fits = ((omega (arith, few, are.0.1), are.0.0.shown_as v no_value fits.0, refl), attrs_placed (behind_attr at a v) n asked values few are.1 fits.1)

-- the line of an edge
abbrev pub edge_at : List DimPlan → ℕ → Edge → EdgeLine
edge_at dims at e = record { dim = (get_or dims e.dim.0 no_plan).name; mother = e.mother; label = get_or (get_or dims e.dim.0 no_plan).labels e.label.0 []; daughter = e.daughter; at = at }

abbrev pub behind_edge : List DimPlan → ℕ → Edge → ℕ
behind_edge dims at e = at + length (edge_text (edge_at dims at e))

-- the lines of edges
abbrev pub edges_at : List DimPlan → ℕ → List Edge → List EdgeLine
edges_at dims at [] = []
edges_at dims at (e ∷ edges) = edge_at dims at e ∷ edges_at dims (behind_edge dims at e) edges

abbrev Rises : Option Edge → List Edge → Type 0
Rises before [] = Unit {0}
Rises before (e ∷ edges) = Follows before e × Rises (Some e) edges

rises_some : (e : Edge) (edges : List Edge) → EdgesRise (e ∷ edges) → Rises (Some e) edges
rises_some e [] rise = tt
rises_some e (f ∷ edges) rise = (rise.0, rises_some f edges rise.1)

rises_all : (edges : List Edge) → EdgesRise edges → Rises None edges
rises_all [] rise = tt
rises_all (e ∷ edges) rise = (tt, rises_some e edges rise)

edges_say : (parts : Parts) (at : ℕ) (before : Option Edge) (edges : List Edge) → Rises before edges → AllByRecursion (IsPlace parts) edges → SayEdges parts before (edges_at parts.dims at edges) edges
edges_say parts at before [] rises stand = tt
edges_say parts at before (e ∷ edges) rises stand = (record { says = record { dim = refl; mother = refl; label = refl; daughter = refl }; stands = stand.0; follows = rises.0 }, edges_say parts (behind_edge parts.dims at e) (Some e) edges rises.1 stand.1)

edges_placed : (parts : Parts) (at : ℕ) (edges : List Edge) → nodes parts ≤ 128 → AllByRecursion (IsPlace parts) edges → Placed at (map lines.Edge (edges_at parts.dims at edges))
edges_placed parts at [] few stand = tt
edges_placed parts at (e ∷ edges) few stand = let mother = stand.0.mother in let daughter = stand.0.daughter in ((omega (arith, few, mother), omega (arith, few, daughter), refl), edges_placed parts (behind_edge parts.dims at e) edges few stand.1)

-- the text of an analysis behind so many bytes
abbrev pub text_at : Parts → Analysis → ℕ → AnalysisText
text_at parts a start =
    let words = words_at start 0 parts.words a.entries in
    let first : ℕ = start + length (text_of (word_lines 0 words a.entries)) in
    let attrs = attrs_at first (slots (nodes parts) parts.dims) a.attrs in
    let second : ℕ = first + length (text_of (map lines.Attr attrs)) in
    let edges = edges_at parts.dims second a.edges in
    record { words = words; entries = a.entries; attrs = attrs; edges = edges; end = second + length (text_of (map lines.Edge edges)) }

pub text_words : (parts : Parts) (a : Analysis) (start : ℕ) → HasWords parts (text_at parts a start)
text_words parts a start = same_words start 0 parts.words a.entries

slots_fit : (parts : Parts) (a : Analysis) → IsAnalysis parts a → Fits (map size (slots (nodes parts) parts.dims)) a.attrs
slots_fit parts a is = subst (λ z. Fits z a.attrs) (sym (sizes_are (nodes parts) parts.dims)) is.attrs

pub text_shows : (parts : Parts) (a : Analysis) (start : ℕ) → IsAnalysis parts a → Shows parts (text_at parts a start) a
text_shows parts a start is = record {
  entries = refl;
  candidates = is.entries;
  attrs = attrs_say _ (slots (nodes parts) parts.dims) a.attrs (slots_fit parts a is) (is.attr_count ∙ ap length (sym (sizes_are (nodes parts) parts.dims)));
  edges = edges_say parts _ None a.edges (rises_all a.edges is.rise) (recursion_from_All (IsPlace parts) a.edges is.places);
}

pub body_placed : (parts : Parts) (a : Analysis) (start : ℕ) → IsProblem parts → IsAnalysis parts a → Placed start (body (text_at parts a start))
body_placed parts a start problem is =
    let t = text_at parts a start in
    placed_both start (word_lines 0 t.words t.entries) (map lines.Attr t.attrs ++ (map lines.Edge t.edges ++ lines.End ∷ []))
    (words_placed start 0 0 parts.words a.entries (omega (arith, problem.most)) (small_entries parts.candidates a.entries (recursion_from_All AreCandidates parts.candidates problem.candidates) is.entries))
    (placed_both _ (map lines.Attr t.attrs) (map lines.Edge t.edges ++ lines.End ∷ [])
    (attrs_placed _ (nodes parts) (slots (nodes parts) parts.dims) a.attrs problem.most (are_attrs parts problem) (slots_fit parts a is))
    (placed_both _ (map lines.Edge t.edges) (lines.End ∷ [])
    (edges_placed parts _ a.edges problem.most (recursion_from_All (IsPlace parts) a.edges is.places))
    (tt, tt)))
