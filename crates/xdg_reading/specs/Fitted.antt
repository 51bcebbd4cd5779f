-- How the lines of a text are judged one after the other, as the code goes: what they say, or the place of the first that offends.
use Rattle.std.specs.Prelude.{◌≡◌, ℕ, ◌==◌, ◌&&◌, ◌||◌, not, nat_lt, Bool, true, cond, Option, Some, None, Result, Ok, Err, List, [], ◌∷◌, bytes_eq, slice_index_or}
use Rattle.std.specs.List.{list_any}
use Rattle.xdg_base.specs.declared.ids.EntryNo.{EntryNo}
use Rattle.xdg_problem.specs.declared.analysis.Analysis.{Analysis}
use Rattle.xdg_problem.specs.declared.analysis.Edge.{Edge}
use Rattle.xdg_problem.specs.declared.parts.DimPlan.{DimPlan}
use Rattle.xdg_problem.specs.declared.parts.Parts.{Parts}
use Rattle.xdg_problem.specs.declared.parts.SentenceWord.{SentenceWord}
use Rattle.xdg_problem.specs.Places.{nodes, edge}
use Rattle.xdg_reading.specs.declared.texts.AnalysisText.{AnalysisText}
use Rattle.xdg_reading.specs.declared.texts.AttrLine.{AttrLine}
use Rattle.xdg_reading.specs.declared.texts.EdgeLine.{EdgeLine}
use Rattle.xdg_problem.specs.Arguments.{no_plan}
use Rattle.xdg_reading.specs.declared.refused.Refused.{Refused}
use Rattle.xdg_reading.specs.declared.refused.Refused.TheVariants as refused
use Rattle.xdg_reading.specs.Fits.{behind_attrs}
use Rattle.xdg_reading.specs.Names.{dim_number, label_number, value_number}
use Rattle.xdg_reading.specs.Slots.{Asked, slots}
use Rattle.xdg_facts.specs.Onward.{onward}

abbrev pub has_entry : List EntryNo → EntryNo → Bool
has_entry candidates entry = list_any (λ candidate. candidate.0 == entry.0) candidates

-- the place of the first line of a word with an entry of another word
abbrev pub words_fault : List (List EntryNo) → List SentenceWord → List EntryNo → Option ℕ
words_fault (candidates ∷ more) (word ∷ words) (entry ∷ entries) = cond (has_entry candidates entry) (words_fault more words entries) (Some word.at)
words_fault _ _ _ = None

-- a list with one more before it
abbrev pub lead : {X : Type 0} → X → Result (List X) ℕ → Result (List X) ℕ
lead x (Ok xs) = Ok (x ∷ xs)
lead x (Err at) = Err at

abbrev pub leads : {X : Type 0} → List X → Result (List X) ℕ → Result (List X) ℕ
leads [] r = r
leads (x ∷ xs) r = lead x (leads xs r)

abbrev pub or_at : {X Y : Type 0} → Option X → ℕ → (X → Result Y ℕ) → Result Y ℕ
or_at None at f = Err at
or_at (Some x) at f = f x

-- the number of the value that a line says an attribute has
unfoldable pub said_value : Asked → AttrLine → Option ℕ
said_value asked line =
    cond (bytes_eq line.dim asked.dim && (line.node.0 == asked.node) && bytes_eq line.attr asked.attr.name) (value_number asked.attr.values line.value) None

-- the values that lines say
abbrev pub said_values : ℕ → List Asked → List AttrLine → Result (List ℕ) ℕ
said_values behind [] [] = Ok []
said_values behind [] (line ∷ lines) = Err line.at
said_values behind (asked ∷ more) [] = Err behind
said_values behind (asked ∷ more) (line ∷ lines) = or_at (said_value asked line) line.at (λ value. lead value (said_values behind more lines))

-- one edge is decided before another
unfoldable pub precedes : Edge → Edge → Bool
precedes a b =
    nat_lt a.dim.0 b.dim.0
    || ((a.dim.0 == b.dim.0)
    && (nat_lt a.mother.0 b.mother.0
    || ((a.mother.0 == b.mother.0) && (nat_lt a.label.0 b.label.0 || ((a.label.0 == b.label.0) && nat_lt a.daughter.0 b.daughter.0)))))

abbrev pub follows : Option Edge → Edge → Bool
follows None e = true
follows (Some before) e = precedes before e

-- an edge may stand between these nodes on this dimension
abbrev pub may_join : Parts → DimPlan → EdgeLine → Bool
may_join parts plan line = plan.graph && nat_lt line.mother.0 (nodes parts) && nat_lt line.daughter.0 (nodes parts) && not (line.mother.0 == line.daughter.0)

-- the edge that a line says, if it may stand
unfoldable pub said_edge : Parts → EdgeLine → Option Edge
said_edge parts line =
    onward (dim_number parts.dims line.dim) (λ dim. onward (label_number (slice_index_or parts.dims dim no_plan).labels line.label) (λ label.
    cond (may_join parts (slice_index_or parts.dims dim no_plan) line) (Some (edge dim line.mother.0 label line.daughter.0)) None))

-- the edges that lines say
abbrev pub said_edges : Parts → Option Edge → List EdgeLine → Result (List Edge) ℕ
said_edges parts before [] = Ok []
said_edges parts before (line ∷ lines) =
    or_at (said_edge parts line) line.at (λ e. cond (follows before e) (lead e (said_edges parts (Some e) lines)) (Err line.at))

abbrev pub then : {X Y : Type 0} → Result X ℕ → (X → Result Y ℕ) → Result Y ℕ
then (Err at) f = Err at
then (Ok x) f = f x

-- unless a place is told
abbrev pub unless : {Y : Type 0} → Option ℕ → Result Y ℕ → Result Y ℕ
unless (Some at) r = Err at
unless None r = r

-- the analysis that the lines of a text say, or the place of the first that offends
unfoldable pub fitted : Parts → AnalysisText → Result Analysis ℕ
fitted parts t = unless (words_fault parts.candidates t.words t.entries)
    (then (said_values (behind_attrs t t.edges) (slots (nodes parts) parts.dims) t.attrs) (λ attrs.
    then (said_edges parts None t.edges) (λ edges. Ok (record { entries = t.entries; attrs = attrs; edges = edges }))))

-- a call gives this, unless memory ran out
abbrev pub Gives : {X : Type 0} → Result X ℕ → Result X Refused → Type 0
Gives said (Ok x) = said ≡ Ok x
Gives said (Err refused.Memory) = Unit {0}
Gives said (Err (refused.At at)) = said ≡ Err at
