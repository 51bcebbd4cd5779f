-- The analyses of a compiled sentence are those of the grammar and the words.
use Rattle.std.proofs.Common.{◌≡◌, ℕ, ◌<◌, true, List, [], ◌∷◌, ◌++◌, length, get_or, map, refl, sym, ap, ap₂, ◌∙◌, subst}
use Rattle.std.specs.Prelude.{◌↔◌, Contains, slice_index_or}
use Rattle.std.specs.List.{AllZip, flat_map, range_with_len}
use Rattle.std.proofs.lemmas.List.{get_or-map, length-map}
use Rattle.std.proofs.lemmas.List.Elements.{All-weaker}
use Rattle.std.proofs.lemmas.List.FromFn.{length-range_with_len}
use Rattle.std.proofs.lemmas.Option.{slice_get_read}
use Rattle.xdg_base.specs.declared.ids.EntryNo.{EntryNo}
use Rattle.xdg_domain.specs.Shapes.{Shape, count}
use Rattle.xdg_facts.specs.Fits.{Fits}
use Rattle.xdg_packed.specs.Lexicon.{word_of, words_of, numbers_of}
use Rattle.xdg_problem.specs.declared.analysis.Analysis.{Analysis}
use Rattle.xdg_problem.specs.declared.analysis.Edge.{Edge}
use Rattle.xdg_problem.specs.declared.parts.AttrPlan.{AttrPlan}
use Rattle.xdg_problem.specs.declared.parts.DimPlan.{DimPlan}
use Rattle.xdg_problem.specs.declared.parts.SentenceWord.{SentenceWord}
use Rattle.xdg_problem.specs.Analyses.{HasCandidates, IsPlace, IsAnalysis}
use Rattle.xdg_problem.specs.Places.{below}
use Rattle.xdg_problem.specs.Vectors.{attr_sizes}
use Rattle.xdg_problem.proofs.PlacePlans.{dim_within, plan_read}
use Rattle.xdg_types.specs.declared.table.DimType.{DimType}
use Rattle.xdg_types.specs.Table.{Typed, typed}
use Rattle.xdg_build.specs.Grammars.{Grammar}
use Rattle.xdg_formula.specs.Tables.{no_dim, used_dims}
use Rattle.xdg_build.specs.Plans.{shown_as, attr_plans, plan_at, plans}
use Rattle.xdg_build.specs.Compiled.{candidates_of, compiled}
use Rattle.xdg_build.specs.Solutions.{IsEntryOf, all_value_counts, IsEdge, IsAnalysisOf}
use Rattle.xdg_build.proofs.Admitted.{IsAdmitted}
use Rattle.xdg_build.proofs.Numbered.{number_stands, stands_numbered}

-- ---- entries

module _ (g : Grammar) where
  word_at : (k : ℕ) → k < length g.lexicon.entries → get_or (words_of g.lexicon) k [] ≡ word_of g.lexicon.dim g.lexicon.field (get_or g.lexicon.entries k [])
  word_at k within = get_or-map (word_of g.lexicon.dim g.lexicon.field) g.lexicon.entries k [] [] within

  as_many : length (words_of g.lexicon) ≡ length g.lexicon.entries
  as_many = length-map g.lexicon.entries (word_of g.lexicon.dim g.lexicon.field)

  entry_of : (word : SentenceWord) (entry : EntryNo) → Contains (numbers_of (words_of g.lexicon) word.text) entry → IsEntryOf g word entry
  entry_of word entry h =
      let is = number_stands (words_of g.lexicon) word.text entry h in
      let within : entry.0 < length g.lexicon.entries = subst (λ n. entry.0 < n) as_many is.0 in
      (within, sym (word_at entry.0 within) ∙ is.1)

  candidate_of : (word : SentenceWord) (entry : EntryNo) → IsEntryOf g word entry → Contains (numbers_of (words_of g.lexicon) word.text) entry
  candidate_of word entry h = stands_numbered (words_of g.lexicon) word.text entry (subst (λ n. entry.0 < n) (sym as_many) h.0) (word_at entry.0 h.0 ∙ h.1)

  entries_of : (words : List SentenceWord) (entries : List EntryNo) → HasCandidates (candidates_of g words) entries → AllZip (IsEntryOf g) words entries
  entries_of (word ∷ words) (entry ∷ entries) h = (entry_of word entry h.0, entries_of words entries h.1)
  entries_of _ _ h = h

  are_candidates_of : (words : List SentenceWord) (entries : List EntryNo) → AllZip (IsEntryOf g) words entries → HasCandidates (candidates_of g words) entries
  are_candidates_of (word ∷ words) (entry ∷ entries) h = (candidate_of word entry h.0, are_candidates_of words entries h.1)
  are_candidates_of _ _ h = h

-- ---- attributes

-- an attribute has as many values as its type
value_count : (s : Shape) → length (map (shown_as s) (range_with_len 0 (count s))) ≡ count s
value_count s = length-map (range_with_len 0 (count s)) (shown_as s) ∙ length-range_with_len 0 (count s)

counted : (attrs : Typed) → map (λ (attr : AttrPlan). length attr.values) (attr_plans attrs) ≡ map (λ (attr : List ℕ × Shape). count attr.1) attrs
counted [] = refl
counted (attr ∷ attrs) = ap₂ (λ (n : ℕ) (ns : List ℕ). n ∷ ns) (value_count attr.1) (counted attrs)

module _ (g : Grammar) where
  abbrev dim_at : ℕ → DimType
  dim_at k = get_or g.table.dims k no_dim

  sizes_at : (n : ℕ) (used : List ℕ) → attr_sizes n (map (plan_at g g.table.dims) used) ≡ all_value_counts n (map dim_at used)
  sizes_at n [] = refl
  sizes_at n (k ∷ used) = ap₂ (λ (counts more : List ℕ). flat_map (λ (node : ℕ). counts) (below n) ++ more) (counted (typed (dim_at k).attrs)) (sizes_at n used)

  -- ---- edges

  plan_is : (d : ℕ) (other : DimPlan) → d < length g.table.used → slice_index_or (plans g) d other ≡ plan_at g g.table.dims (get_or g.table.used d 0)
  plan_is d other within = get_or-map (plan_at g g.table.dims) g.table.used d 0 other within

  dim_is : (d : ℕ) → d < length g.table.used → get_or (used_dims g.table) d no_dim ≡ dim_at (get_or g.table.used d 0)
  dim_is d within = get_or-map dim_at g.table.used d 0 no_dim within

  dim_count : length (plans g) ≡ length g.table.used
  dim_count = length-map g.table.used (plan_at g g.table.dims)

  module _ (words : List SentenceWord) where
    edge_of : (e : Edge) → IsPlace (compiled g words) e → IsEdge g (length words) e
    edge_of e h =
        let within : e.dim.0 < length g.table.used = subst (λ n. e.dim.0 < n) dim_count (dim_within (compiled g words) e h) in
        let same : h.plan ≡ plan_at g g.table.dims (get_or g.table.used e.dim.0 0) = sym (plan_read (compiled g words) e h h.plan) ∙ plan_is e.dim.0 h.plan within in
        record {
          dim = within;
          graph = subst (λ (plan : DimPlan). plan.graph ≡ true) same h.graph;
          label = subst (λ (dim : DimType). e.label.0 < length dim.labels) (sym (dim_is e.dim.0 within)) (subst (λ (plan : DimPlan). e.label.0 < length plan.labels) same h.label);
          mother = h.mother;
          daughter = h.daughter;
          differ = h.differ;
        }

    place_of : (e : Edge) → IsEdge g (length words) e → IsPlace (compiled g words) e
    place_of e h = record {
      plan = plan_at g g.table.dims (get_or g.table.used e.dim.0 0);
      plan_is = slice_get_read (plans g) (length (plans g)) e.dim.0 (plan_at g g.table.dims (get_or g.table.used e.dim.0 0)) refl (subst (λ n. e.dim.0 < n) (sym dim_count) h.dim) (sym (plan_is e.dim.0 (plan_at g g.table.dims (get_or g.table.used e.dim.0 0)) h.dim));
      graph = h.graph;
      label = subst (λ (dim : DimType). e.label.0 < length dim.labels) (dim_is e.dim.0 h.dim) h.label;
      mother = h.mother;
      daughter = h.daughter;
      differ = h.differ;
    }

    -- ---- analyses

    sizes : attr_sizes (length words) (plans g) ≡ all_value_counts (length words) (used_dims g.table)
    sizes = sizes_at (length words) g.table.used

    analysis_of : IsAdmitted g words → (a : Analysis) → IsAnalysis (compiled g words) a → IsAnalysisOf g words a
    analysis_of admitted a h = record {
      some = admitted.some;
      most = admitted.most;
      entries = entries_of g words a.entries h.entries;
      attr_count = h.attr_count ∙ ap (λ (ns : List ℕ). length ns) sizes;
      attrs = subst (λ (ns : List ℕ). Fits ns a.attrs) sizes h.attrs;
      edges = All-weaker (IsPlace (compiled g words)) (IsEdge g (length words)) edge_of a.edges h.places;
      rise = h.rise;
    }

    of_analysis : (a : Analysis) → IsAnalysisOf g words a → IsAnalysis (compiled g words) a
    of_analysis a h = record {
      entries = are_candidates_of g words a.entries h.entries;
      attr_count = h.attr_count ∙ ap (λ (ns : List ℕ). length ns) (sym sizes);
      attrs = subst (λ (ns : List ℕ). Fits ns a.attrs) (sym sizes) h.attrs;
      places = All-weaker (IsEdge g (length words)) (IsPlace (compiled g words)) place_of a.edges h.edges;
      rise = h.rise;
    }

    pub same_analyses : IsAdmitted g words → (a : Analysis) → IsAnalysis (compiled g words) a ↔ IsAnalysisOf g words a
    same_analyses admitted a = (analysis_of admitted a, of_analysis a)
