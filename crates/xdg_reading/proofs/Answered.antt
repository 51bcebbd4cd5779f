-- A text shows one analysis, or one line offends first.
use Rattle.std.proofs.Common.{◌≡◌, ℕ, List, [], ◌∷◌, length, refl, sym, ap, ◌∙◌, subst, Some, None, Option, Ok, Err, All}
use Rattle.std.specs.Prelude.{Result}
use Rattle.xdg_base.specs.Faults.{fault_at}
use Rattle.xdg_base.specs.declared.faults.Fault.{Fault}
use Rattle.xdg_base.specs.declared.faults.Cause.TheVariants as causes
use Rattle.xdg_base.specs.declared.faults.Stop.{Stop}
use Rattle.xdg_base.specs.declared.faults.Stop.TheVariants as stops
use Rattle.xdg_problem.specs.declared.analysis.Analysis.{Analysis}
use Rattle.xdg_problem.specs.declared.analysis.Edge.{Edge}
use Rattle.xdg_problem.specs.declared.parts.Parts.{Parts}
use Rattle.xdg_problem.specs.Analyses.{HasCandidates, IsPlace, EdgesRise, IsAnalysis}
use Rattle.xdg_problem.specs.Places.{nodes}
use Rattle.xdg_problem.specs.Problems.{IsProblem}
use Rattle.xdg_reading.specs.declared.texts.AnalysisText.{AnalysisText}
use Rattle.xdg_reading.specs.declared.texts.EdgeLine.{EdgeLine}
use Rattle.xdg_reading.specs.Fitted.{words_fault, said_values, said_edges, unless, then, fitted}
use Rattle.xdg_reading.specs.Fits.{SayValues, SayEdges, Shows, behind_attrs, Offends, word, attr, edge, IsAnswer, Tells}
use Rattle.xdg_base.specs.Told.{Gives}
use Rattle.xdg_reading.specs.Slots.{slots}
use Rattle.xdg_reading.proofs.Attributes.{are_attrs, all_differ, fit_sizes, count_sizes}
use Rattle.xdg_reading.proofs.EdgeLaws.{EdgesTold, edges_told, edges_said, edge_refused}
use Rattle.xdg_reading.specs.Blocks.{HasWords}
use Rattle.xdg_reading.proofs.Written.{words_count}
use Rattle.xdg_reading.proofs.Told.{ValuesTold, values_told, values_said, attr_told, words_fit, word_offends, words_told, word_told}
use Rattle.xdg_facts.proofs.Lists.{all_cons, all_none}

edges_stand : (parts : Parts) (before : Option Edge) (lines : List EdgeLine) (edges : List Edge) → SayEdges parts before lines edges → All (IsPlace parts) edges
edges_stand parts before [] [] say = all_none (IsPlace parts)
edges_stand parts before (line ∷ lines) (e ∷ edges) say = all_cons (IsPlace parts) e edges say.0.stands (edges_stand parts (Some e) lines edges say.1)
edges_stand parts before lines edges say = absurd say

edges_rise : (parts : Parts) (before : Option Edge) (lines : List EdgeLine) (edges : List Edge) → SayEdges parts before lines edges → EdgesRise edges
edges_rise parts before [] [] say = tt
edges_rise parts before [] (e ∷ edges) say = absurd say
edges_rise parts before (line ∷ lines) [] say = absurd say
edges_rise parts before (line ∷ []) (e ∷ []) say = tt
edges_rise parts before (line ∷ next ∷ lines) (e ∷ []) say = tt
edges_rise parts before (line ∷ []) (e ∷ f ∷ edges) say = absurd say.1
edges_rise parts before (line ∷ next ∷ lines) (e ∷ f ∷ edges) say = (say.1.0.follows, edges_rise parts (Some e) (next ∷ lines) (f ∷ edges) say.1)

-- what is shown is an analysis
pub shown_analysis : (parts : Parts) (t : AnalysisText) (a : Analysis) → Shows parts t a → IsAnalysis parts a
shown_analysis parts t a shows = record {
  entries = subst (HasCandidates parts.candidates) (sym shows.entries) shows.candidates;
  attr_count = count_sizes (nodes parts) parts.dims t.attrs a.attrs shows.attrs;
  attrs = fit_sizes (nodes parts) parts.dims t.attrs a.attrs shows.attrs;
  places = edges_stand parts None t.edges a.edges shows.edges;
  rise = edges_rise parts None t.edges a.edges shows.edges;
}

abbrev pub Told : Parts → AnalysisText → Result Analysis ℕ → Type 0
Told parts t (Ok a) = IsAnalysis parts a × Shows parts t a
Told parts t (Err at) = Offends parts t at

by_edges : (parts : Parts) (t : AnalysisText) (values : List ℕ) (r : Result (List Edge) ℕ) → HasCandidates parts.candidates t.entries → SayValues (slots (nodes parts) parts.dims) t.attrs values → EdgesTold parts None t.edges r → Told parts t (then r (λ edges. Ok (record { entries = t.entries; attrs = values; edges = edges })))
by_edges parts t values (Ok edges) entries say told =
    let a : Analysis = record { entries = t.entries; attrs = values; edges = edges } in
    let shows : Shows parts t a = record { entries = refl; candidates = entries; attrs = say; edges = told } in
    (shown_analysis parts t a shows, shows)
by_edges parts t values (Err at) entries say told = edge values entries say told

by_values : (parts : Parts) (t : AnalysisText) (r : Result (List ℕ) ℕ) → IsProblem parts → HasCandidates parts.candidates t.entries → ValuesTold (behind_attrs t t.edges) (slots (nodes parts) parts.dims) t.attrs r → Told parts t (then r (λ attrs. then (said_edges parts None t.edges) (λ edges. Ok (record { entries = t.entries; attrs = attrs; edges = edges }))))
by_values parts t (Ok values) problem entries told = by_edges parts t values (said_edges parts None t.edges) entries told (edges_told parts None t.edges problem)
by_values parts t (Err at) problem entries told = attr entries told

abbrev rest_of : Parts → AnalysisText → Result Analysis ℕ
rest_of parts t = then (said_values (behind_attrs t t.edges) (slots (nodes parts) parts.dims) t.attrs) (λ attrs. then (said_edges parts None t.edges) (λ edges. Ok (record { entries = t.entries; attrs = attrs; edges = edges })))

by_words : (parts : Parts) (t : AnalysisText) (o : Option ℕ) → IsProblem parts → length parts.candidates ≡ length t.words → length t.entries ≡ length t.words → words_fault parts.candidates t.words t.entries ≡ o → Told parts t (unless o (rest_of parts t))
by_words parts t None problem each entries e =
    by_values parts t (said_values (behind_attrs t t.edges) (slots (nodes parts) parts.dims) t.attrs) problem (words_fit parts.candidates t.words t.entries each entries e)
    (values_told (behind_attrs t t.edges) (slots (nodes parts) parts.dims) t.attrs (all_differ (nodes parts) (slots (nodes parts) parts.dims) (are_attrs parts problem)))
by_words parts t (Some at) problem each entries e = word (word_offends parts.candidates t.words t.entries at e)

pub fitted_told : (parts : Parts) (t : AnalysisText) → IsProblem parts → length parts.candidates ≡ length t.words → length t.entries ≡ length t.words → Told parts t (fitted parts t)
unfolding fitted
fitted_told parts t problem each entries = by_words parts t (words_fault parts.candidates t.words t.entries) problem each entries refl

-- an answer as a call gives it
abbrev pub as_answer : Result Analysis ℕ → Result Analysis Fault
as_answer (Ok a) = Ok a
as_answer (Err at) = Err (fault_at causes.NotAnalysis at)

shown_fitted : (parts : Parts) (t : AnalysisText) (a : Analysis) → IsProblem parts → Shows parts t a → fitted parts t ≡ Ok a
unfolding fitted
shown_fitted parts t a problem shows =
    ap (λ o. unless o (rest_of parts t)) (words_told parts.candidates t.words t.entries shows.candidates)
    ∙ ap (λ r. then r (λ attrs. then (said_edges parts None t.edges) (λ edges. Ok (record { entries = t.entries; attrs = attrs; edges = edges })))) (values_said (behind_attrs t t.edges) (slots (nodes parts) parts.dims) t.attrs a.attrs (all_differ (nodes parts) (slots (nodes parts) parts.dims) (are_attrs parts problem)) shows.attrs)
    ∙ ap (λ r. then r (λ edges. Ok (record { entries = t.entries; attrs = a.attrs; edges = edges }))) (edges_said parts None t.edges a.edges problem shows.edges)
    ∙ ap (λ z. Ok (record { entries = z; attrs = a.attrs; edges = a.edges })) (sym shows.entries)

offends_fitted : (parts : Parts) (t : AnalysisText) (at : ℕ) → IsProblem parts → Offends parts t at → fitted parts t ≡ Err at
unfolding fitted
offends_fitted parts t at problem (word offends) = ap (λ o. unless o (rest_of parts t)) (word_told parts.candidates t.words t.entries at offends)
offends_fitted parts t at problem (attr entries offends) =
    ap (λ o. unless o (rest_of parts t)) (words_told parts.candidates t.words t.entries entries)
    ∙ ap (λ r. then r (λ attrs. then (said_edges parts None t.edges) (λ edges. Ok (record { entries = t.entries; attrs = attrs; edges = edges })))) (attr_told (behind_attrs t t.edges) (slots (nodes parts) parts.dims) t.attrs at (all_differ (nodes parts) (slots (nodes parts) parts.dims) (are_attrs parts problem)) offends)
offends_fitted parts t at problem (edge values entries say offends) =
    ap (λ o. unless o (rest_of parts t)) (words_told parts.candidates t.words t.entries entries)
    ∙ ap (λ r. then r (λ attrs. then (said_edges parts None t.edges) (λ edges. Ok (record { entries = t.entries; attrs = attrs; edges = edges })))) (values_said (behind_attrs t t.edges) (slots (nodes parts) parts.dims) t.attrs values (all_differ (nodes parts) (slots (nodes parts) parts.dims) (are_attrs parts problem)) say)
    ∙ ap (λ r. then r (λ edges. Ok (record { entries = t.entries; attrs = values; edges = edges }))) (edge_refused parts None t.edges at problem offends)

-- each answer that is right is the one that is told
pub only_answer : (parts : Parts) (t : AnalysisText) (answer : Result Analysis Fault) → IsProblem parts → IsAnswer parts t answer → answer ≡ as_answer (fitted parts t)
only_answer parts t (Ok a) problem is = ap as_answer (sym (shown_fitted parts t a problem is.1))
only_answer parts t (Err fault) problem (at, same, offends) = ap Err same ∙ ap as_answer (sym (offends_fitted parts t at problem offends))

pub tells_of : (parts : Parts) (t : AnalysisText) (r : Result Analysis ℕ) → Told parts t r → IsAnswer parts t (as_answer r)
tells_of parts t (Ok a) told = told
tells_of parts t (Err at) told = (at, refl, told)

pub same_lengths : (parts : Parts) (t : AnalysisText) → IsProblem parts → HasWords parts t → length parts.candidates ≡ length t.words
same_lengths parts t problem same = problem.candidates_each ∙ sym (words_count parts t same)

-- what is told of the parts that were lent
pub call_tells : (parts lent : Parts) (t : AnalysisText) (r : Result Analysis ℕ) → IsProblem parts → HasWords parts t → length t.entries ≡ length t.words → lent ≡ parts → fitted lent t ≡ r → IsAnswer parts t (as_answer r)
call_tells parts lent t r problem words entries same is = subst (λ z. IsAnswer parts t (as_answer z)) (ap (λ z. fitted z t) (sym same) ∙ is) (tells_of parts t (fitted parts t) (fitted_told parts t problem (same_lengths parts t problem words) entries))

pub call_only : (parts lent : Parts) (t : AnalysisText) (r : Result Analysis ℕ) → IsProblem parts → lent ≡ parts → fitted lent t ≡ r → (answer : Result Analysis Fault) → IsAnswer parts t answer → answer ≡ as_answer r
call_only parts lent t r problem same is answer right = only_answer parts t answer problem right ∙ ap as_answer (ap (λ z. fitted z t) (sym same) ∙ is)

pub told_at : (parts : Parts) (t : AnalysisText) (at : ℕ) (stop : Stop) → stop ≡ stops.Fault (fault_at causes.NotAnalysis at) → IsAnswer parts t (as_answer (Err at)) → Tells parts t (Err stop)
told_at parts t at stop is told = subst (λ z. Tells parts t (Err z)) (sym is) told

pub given_at : (at : ℕ) (stop : Stop) (answer : Result Analysis Fault) → stop ≡ stops.Fault (fault_at causes.NotAnalysis at) → answer ≡ as_answer (Err at) → Gives answer (Err stop)
given_at at stop answer is same = subst (λ z. Gives answer (Err z)) (sym is) same
