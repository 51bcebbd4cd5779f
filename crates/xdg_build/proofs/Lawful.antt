-- What is compiled is a problem.
use Rattle.std.proofs.Common.{◌≡◌, ℕ, ◌<◌, ◌≤◌, None, Some, List, [], ◌∷◌, length, get_or, map, refl, sym, ap, ◌∙◌, subst, All}
use Rattle.std.specs.Prelude.{slice_get, slice_index_or}
use Rattle.std.specs.List.{AllZip}
use Rattle.std.proofs.lemmas.List.{get_or-map, length-map}
use Rattle.std.proofs.lemmas.List.Elements.{All-map, All-weaker}
use Rattle.std.proofs.lemmas.List.FromFn.{length-map-range_with_len}
use Rattle.std.proofs.lemmas.Option.{get_or_from_slice_get, slice_get_within}
use Rattle.xdg_base.specs.declared.ids.EntryNo.{EntryNo}
use Rattle.xdg_domain.specs.Shapes.{Shape, count}
use Rattle.xdg_packed.specs.Entries.{AreEntries, IsUsed, IsRightLexicon, IsWordPlace}
use Rattle.xdg_packed.specs.Lexicon.{word_of, words_of, numbers_of}
use Rattle.xdg_problem.specs.declared.parts.AttrPlan.{AttrPlan}
use Rattle.xdg_problem.specs.declared.parts.DimPlan.{DimPlan}
use Rattle.xdg_problem.specs.declared.parts.Group.{Group}
use Rattle.xdg_problem.specs.declared.parts.Parts.{Parts}
use Rattle.xdg_problem.specs.declared.parts.SentenceWord.{SentenceWord}
use Rattle.xdg_problem.specs.Arguments.{no_plan, no_attr, value_count}
use Rattle.xdg_problem.specs.Problems.{AreCandidates, IsGroup, IsProblem}
use Rattle.xdg_types.specs.declared.table.DimType.{DimType}
use Rattle.xdg_types.specs.Table.{typed, IsTable}
use Rattle.xdg_build.specs.Grammars.{Grammar}
use Rattle.xdg_formula.specs.Tables.{dims_at, no_dim}
use Rattle.xdg_build.specs.Suits.{Suits}
use Rattle.xdg_build.specs.Plans.{shown_as, attr_plan, dim_plan, plan_at, plans}
use Rattle.xdg_build.specs.Compiled.{candidates_of, compiled}
use Rattle.xdg_build.specs.Problems.{IsPlanOf, IsFor}
use Rattle.xdg_build.specs.Refusals.{refusal}
use Rattle.xdg_build.proofs.Admitted.{IsKnown, IsAdmitted, is_admitted}
use Rattle.xdg_build.proofs.Numbered.{are_candidates}
use Rattle.xdg_build.proofs.Planned as planned
use Rattle.xdg_build.proofs.Stocked.{word_entries}

module _ (g : Grammar) (words : List SentenceWord) (groups : List Group) where
  abbrev made : Parts
  made = record { words = words; candidates = candidates_of g words; dims = plans g; groups = groups }

  abbrev at : ℕ → DimPlan
  at = plan_at g g.table.dims

  -- the dimension with that place among the used ones
  plan_is : (d : ℕ) (dim : DimType) (used : IsUsed g.table d dim) → slice_index_or (plans g) d no_plan ≡ dim_plan g used.0 dim
  plan_is d dim used =
      get_or-map at g.table.used d 0 no_plan (slice_get_within g.table.used d used.0 used.1.0)
      ∙ ap at (get_or_from_slice_get g.table.used d used.0 0 used.1.0)
      ∙ ap (dim_plan g used.0) (get_or_from_slice_get g.table.dims used.0 dim no_dim used.1.1)

  values_are : (d : ℕ) (dim : DimType) → IsUsed g.table d dim → (a : ℕ) (name : List ℕ) (type : Shape) → slice_get (typed dim.attrs) a ≡ Some (name, type) → value_count made d a ≡ count type
  values_are d dim used a name type stands =
      let one : List ℕ × Shape → AttrPlan = λ attr. attr_plan attr.0 attr.1 in
      ap (λ (plan : DimPlan). length (slice_index_or plan.attrs a no_attr).values) (plan_is d dim used)
      ∙ ap (λ (attr : AttrPlan). length attr.values) (get_or-map one (typed dim.attrs) a (name, type) no_attr (slice_get_within (typed dim.attrs) a (name, type) stands))
      ∙ ap (λ (attr : List ℕ × Shape). length (one attr).values) (get_or_from_slice_get (typed dim.attrs) a (name, type) (name, type) stands)
      ∙ length-map-range_with_len (shown_as type) 0 (count type)

  suits : Suits g (candidates_of g words) made
  suits = record {
    node_count = sym (length-map words (λ (word : SentenceWord). numbers_of (words_of g.lexicon) word.text));
    candidates = refl;
    dim_count = length-map g.table.used at;
    labels = λ d dim used. ap (λ (plan : DimPlan). length plan.labels) (plan_is d dim used);
    attrs = λ d dim used. ap (λ (plan : DimPlan). length plan.attrs) (plan_is d dim used) ∙ planned.attr_count g dim;
    values = values_are;
  }

  module _ (table : IsTable g.table) (lexicon : IsRightLexicon g.table g.lexicon.entries) (place : IsWordPlace g.table g.lexicon.dim g.lexicon.field) (good : refusal g words ≡ None) where
    each_candidates : All AreCandidates (candidates_of g words)
    each_candidates =
        let few : length (words_of g.lexicon) ≤ 65536 = subst (λ n. n ≤ 65536) (sym (length-map g.lexicon.entries (word_of g.lexicon.dim g.lexicon.field))) lexicon.few in
        All-map AreCandidates (λ (word : SentenceWord). numbers_of (words_of g.lexicon) word.text) words
        (All-weaker (IsKnown g) (λ (word : SentenceWord). AreCandidates (numbers_of (words_of g.lexicon) word.text))
        (λ word known. are_candidates (words_of g.lexicon) word.text few (lexicon.each g.lexicon.dim g.lexicon.field place word.text) known) words (is_admitted g words good).known)

    is_problem : ((parts : Parts) → Suits g (candidates_of g words) parts → All (IsGroup parts) groups) → IsProblem made
    is_problem each =
        let admitted : IsAdmitted g words = is_admitted g words good in
        record {
          some = admitted.some;
          most = admitted.most;
          candidates_each = length-map words (λ (word : SentenceWord). numbers_of (words_of g.lexicon) word.text);
          candidates = each_candidates;
          dims_most = planned.dims_few g table;
          dims_differ = planned.dims_differ g table;
          dims = planned.dims_are g table;
          groups = each made suits;
        }

-- the entries of words are entries of the lexicon

pub known_entries : (g : Grammar) (words : List SentenceWord) (candidates : List (List EntryNo)) → candidates ≡ candidates_of g words → All (All (λ (entry : EntryNo). entry.0 < length g.lexicon.entries)) candidates
known_entries g words candidates same =
    let P : List EntryNo → Type 0 = All (λ (entry : EntryNo). entry.0 < length g.lexicon.entries) in
    let numbers : SentenceWord → List EntryNo = λ word. numbers_of (words_of g.lexicon) word.text in
    subst (All P) (sym same) (All-map P numbers words (λ k d within. word_entries g (get_or words k d).text (numbers (get_or words k d)) refl))

-- the compiled sentence is a problem of its grammar
plans_are : (g : Grammar) (used : List ℕ) → AllZip IsPlanOf (dims_at g.table.dims used) (map (plan_at g g.table.dims) used)
plans_are g [] = tt
plans_are g (k ∷ used) = (record { name = refl; labels = refl; attrs = refl }, plans_are g used)

pub compiled_for : (g : Grammar) (words : List SentenceWord) → AreEntries g.table g.lexicon.entries → IsFor g.table g.lexicon (compiled g words)
compiled_for g words entries = record { dims = plans_are g g.table.used; entries = entries; candidates = known_entries g words (candidates_of g words) refl }

pub made_is_problem : (g : Grammar) (words : List SentenceWord) (candidates : List (List EntryNo)) (dims : List DimPlan) (groups : List Group) → IsTable g.table → IsRightLexicon g.table g.lexicon.entries → IsWordPlace g.table g.lexicon.dim g.lexicon.field → refusal g words ≡ None
    → candidates ≡ candidates_of g words → dims ≡ plans g → ((parts : Parts) → Suits g candidates parts → All (IsGroup parts) groups) → IsProblem (record { words = words; candidates = candidates; dims = dims; groups = groups })
made_is_problem g words candidates dims groups table lexicon place good e f each =
    let here : (parts : Parts) → Suits g (candidates_of g words) parts → All (IsGroup parts) groups = subst (λ (numbers : List (List EntryNo)). (parts : Parts) → Suits g numbers parts → All (IsGroup parts) groups) e each in
    rw (e, f) (is_problem g words groups table lexicon place good here)
