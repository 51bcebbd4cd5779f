-- What an analysis of a problem gives to the writers of its lines.
use Rattle.std.proofs.Common.{◌≡◌, ◌<◌, ◌≤◌, ◌+◌, ◌*◌, ◌++◌, ℕ, zero, suc, List, [], ◌∷◌, length, drop, map, refl, sym, ap, ◌∙◌, subst, arith, append_assoc, zero-mul}
use Rattle.std.proofs.lemmas.List.{drop-drop}
use Rattle.std.specs.List.{flat_map}
use Rattle.std.proofs.lemmas.List.Elements.{All-weaker}
use Rattle.std.specs.Prelude.{All}
use Rattle.xdg_facts.specs.Fits.{Fits}
use Rattle.xdg_problem.specs.declared.analysis.Analysis.{Analysis}
use Rattle.xdg_problem.specs.declared.parts.AttrPlan.{AttrPlan}
use Rattle.xdg_problem.specs.declared.parts.DimPlan.{DimPlan}
use Rattle.xdg_problem.specs.declared.parts.Parts.{Parts}
use Rattle.xdg_problem.specs.declared.parts.SentenceWord.{SentenceWord}
use Rattle.xdg_problem.specs.Analyses.{IsAnalysis, IsPlace}
use Rattle.xdg_problem.specs.Places.{numbers_from}
use Rattle.xdg_problem.specs.Problems.{IsProblem}
use Rattle.xdg_problem.specs.Vectors.{attr_sizes}
use Rattle.xdg_problem.specs.Arguments.{no_plan}
use Rattle.xdg_text.specs.Blocks.{body_lines, head_lines, shown}
use Rattle.xdg_text.specs.Lines.{analysis_line, counts_line, version_line}
use Rattle.xdg_text.specs.declared.form.Form.{Form}
use Rattle.xdg_text.specs.declared.form.Form.TheVariants as forms
use Rattle.xdg_text.specs.Ranges.{HasValues, NodesHaveValues, DimsHaveValues, HasNames}
use Rattle.xdg_problem.proofs.EntryPlaces.{length_entries}
use Rattle.xdg_problem.proofs.PlacePlans.{dim_within, plan_read}

-- numbers that go with the sizes are there, and the numbers after them go with the other sizes
record Has (here : Type 0) (more : List ℕ) (left : List ℕ) : Type 0 where
  has : here
  fits : Fits more left
  enough : length more ≤ length left

fits_node : (attrs : List AttrPlan) (more values : List ℕ) → Fits (map (λ attr. length attr.values) attrs ++ more) values → length (map (λ attr. length attr.values) attrs ++ more) ≤ length values → Has (HasValues attrs values) more (drop (length attrs) values)
fits_node [] more values fits enough = record { has = tt; fits = fits; enough = enough }
fits_node (attr ∷ attrs) more [] fits enough = absurd (omega (arith, enough))
fits_node (attr ∷ attrs) more (value ∷ values) fits enough =
    let later = fits_node attrs more values fits.1 (omega (arith, enough)) in
    record { has = (fits.0, later.has); fits = later.fits; enough = later.enough }

fits_nodes : (attrs : List AttrPlan) (first count : ℕ) (more values : List ℕ) → Fits (flat_map (λ node. map (λ attr. length attr.values) attrs) (numbers_from first count) ++ more) values → length (flat_map (λ node. map (λ attr. length attr.values) attrs) (numbers_from first count) ++ more) ≤ length values → Has (NodesHaveValues attrs count values) more (drop (count * length attrs) values)
fits_nodes attrs first zero more values fits enough =
    subst (λ k. Has (Unit {0}) more (drop k values)) (sym (zero-mul (length attrs))) (record { has = tt; fits = fits; enough = enough })
fits_nodes attrs first (suc count) more values fits enough =
    let others : List ℕ = flat_map (λ node. map (λ attr. length attr.values) attrs) (numbers_from (suc first) count) in
    let regroup = append_assoc (map (λ attr. length attr.values) attrs) others more in
    let here = fits_node attrs (others ++ more) values (subst (λ z. Fits z values) regroup fits) (subst (λ z. length z ≤ length values) regroup enough) in
    let later = fits_nodes attrs (suc first) count more (drop (length attrs) values) here.fits here.enough in
    let product : length attrs + count * length attrs ≡ suc count * length attrs = omega arith in
    let dropped : drop (count * length attrs) (drop (length attrs) values) ≡ drop (suc count * length attrs) values = drop-drop (count * length attrs) (length attrs) values ∙ ap (λ k. drop k values) product in
    record { has = (here.has, later.has); fits = subst (λ z. Fits more z) dropped later.fits; enough = subst (λ z. length more ≤ length z) dropped later.enough }

fits_dims : (n : ℕ) (plans : List DimPlan) (values : List ℕ) → Fits (attr_sizes n plans) values → length (attr_sizes n plans) ≤ length values → DimsHaveValues n plans values
fits_dims n [] values fits enough = tt
fits_dims n (plan ∷ plans) values fits enough =
    let here = fits_nodes plan.attrs 0 n (attr_sizes n plans) values fits enough in
    (here.has, fits_dims n plans (drop (n * length plan.attrs) values) here.fits here.enough)

-- there is an entry for each word
pub entries_each : (parts : Parts) (analysis : Analysis) → IsProblem parts → IsAnalysis parts analysis → length analysis.entries ≡ length parts.words
entries_each parts analysis problem fits = length_entries parts.candidates analysis.entries fits.entries ∙ problem.candidates_each

-- each attribute of each node has one of its values
pub values_there : (parts : Parts) (analysis : Analysis) → IsAnalysis parts analysis → DimsHaveValues (length parts.words) parts.dims analysis.attrs
values_there parts analysis fits = fits_dims (length parts.words) parts.dims analysis.attrs fits.attrs (omega (arith, fits.attr_count))

-- the lines before those of the words, and the others behind them
lines_of : (form : Form) (parts : Parts) (number : ℕ) (a : Analysis) → head_lines form number (length parts.words) (length a.attrs) (length a.edges) ++ body_lines parts.words parts.dims a.entries a.attrs a.edges ≡ shown form parts number a
lines_of forms.One parts number a = refl
lines_of forms.Two parts number a =
    let counts : List ℕ = counts_line (length parts.words) (length a.attrs) (length a.edges) in
    let body : List ℕ = body_lines parts.words parts.dims a.entries a.attrs a.edges in
    append_assoc version_line (analysis_line number ++ counts) body ∙ ap (λ z. version_line ++ z) (append_assoc (analysis_line number) counts body)

-- the same of the words and the dimensions that a problem lends
pub lines_are : (form : Form) (parts held : Parts) (number : ℕ) (a : Analysis) (words : List SentenceWord) (dims : List DimPlan) → words ≡ held.words → dims ≡ held.dims → held ≡ parts
    → head_lines form number (length words) (length a.attrs) (length a.edges) ++ body_lines words dims a.entries a.attrs a.edges ≡ shown form parts number a
lines_are form parts held number a words dims w d same =
    ap (λ ws. head_lines form number (length ws) (length a.attrs) (length a.edges) ++ body_lines ws dims a.entries a.attrs a.edges) (w ∙ ap (λ p. p.words) same)
    ∙ ap (λ plans. head_lines form number (length parts.words) (length a.attrs) (length a.edges) ++ body_lines parts.words plans a.entries a.attrs a.edges) (d ∙ ap (λ p. p.dims) same)
    ∙ lines_of form parts number a

-- each edge has one of the dimensions, and one of its labels
pub names_there : (parts : Parts) (analysis : Analysis) → IsAnalysis parts analysis → All (HasNames parts.dims) analysis.edges
names_there parts analysis fits = All-weaker (IsPlace parts) (HasNames parts.dims)
    (λ e is. (dim_within parts e is, subst (λ (plan : DimPlan). e.label.0 < length plan.labels) (sym (plan_read parts e is no_plan)) is.label))
    analysis.edges fits.places
