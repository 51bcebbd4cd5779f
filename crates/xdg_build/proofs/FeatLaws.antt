-- What an atom about a feature says, and the table of candidates that is made of it.
use Rattle.xdg_build.proofs.Planned.{feature_right}
use Rattle.std.proofs.Common.{◌≡◌, ◌↔◌, ℕ, zero, suc, ◌<◌, true, false, Bool, List, [], ◌∷◌, length, get_or, map, refl, sym, ap, ◌∙◌, arith}
use Rattle.std.specs.Prelude.{Contains, Some, slice_get, slice_index, slice_index_or}
use Rattle.std.proofs.lemmas.List.{get_or-map, length-map}
use Rattle.std.proofs.lemmas.List.Elements.{All-contains}
use Rattle.xdg_ast.specs.declared.names.Name.{Name}
use Rattle.xdg_ast.specs.Grammar.{Term}
use Rattle.xdg_base.specs.declared.ids.EntryNo.{EntryNo}
use Rattle.xdg_domain.specs.Shapes.{Shape, count, shape}
use Rattle.xdg_domain.specs.Valencies.{said_at}
use Rattle.xdg_domain.specs.declared.types.Ty.{Ty}
use Rattle.xdg_domain.specs.declared.values.Value.{out-Value}
use Rattle.xdg_principles.specs.declared.building.Arg.TheVariants as arg
use Rattle.xdg_packed.specs.Lexicon.{Entry, Lexicon}
use Rattle.xdg_problem.specs.declared.analysis.Analysis.{Analysis}
use Rattle.xdg_problem.specs.declared.parts.Parts.{Parts}
use Rattle.xdg_problem.specs.Analyses.{IsAnalysis, HasCandidates}
use Rattle.xdg_problem.specs.Claims.{fitting, IsTable}
use Rattle.xdg_problem.specs.Places.{nodes}
use Rattle.xdg_problem.specs.Problems.{IsProblem}
use Rattle.xdg_problem.specs.Truths.{says}
use Rattle.xdg_problem.specs.Vectors.{entry_places}
use Rattle.xdg_problem.proofs.EntryPlaces.{entry_back, place_within}
use Rattle.xdg_terms.specs.Means.{IsAt}
use Rattle.xdg_types.specs.Table as tables
use Rattle.xdg_types.specs.Table.{Table, KeepsDim, typed}
use Rattle.xdg_build.specs.Grammars.{Grammar}
use Rattle.xdg_build.proofs.Told.{on_feature, told_of}
use Rattle.xdg_packed.proofs.OfTable.{entry_at as entry_right_at}
use Rattle.xdg_build.specs.Readings.{OnFeature, dimension, entry_at, record_for, value_texts}
use Rattle.xdg_build.proofs.Readings.{place_is, record_same}
use Rattle.xdg_formula.specs.Tables.{member_shape}
use Rattle.xdg_formula.specs.Written as w
use Rattle.xdg_build.specs.Problems.{IsFor}
use Rattle.xdg_build.specs.Says.{Says}
use Rattle.xdg_build.specs.Tables.{entry_says, says_in, table_of}
use Rattle.xdg_build.specs.Truths.{IsOrHas, constants_of}
use Rattle.xdg_build.proofs.Standing.{IsDimAt}
use Rattle.xdg_build.proofs.Used.{among_all, used_within, dim_kept, among_below}
use Rattle.xdg_build.proofs.AtomLaws.{member_only, pair_says, typed_at}
use Rattle.xdg_build.proofs.Featured.{value_says}
use Rattle.xdg_facts.proofs.Facts.{both_steps, alike}
use Rattle.xdg_facts.proofs.In.{in_get}

-- ---- the candidate of a node

-- the place of a node's entry among its candidates, and the entry there
chosen_at : (all : List (List EntryNo)) (entries : List EntryNo) (v : ℕ) → HasCandidates all entries → v < length all
    → (get_or (get_or all v []) (slice_index (entry_places all entries) v) (record { 0 = 0 }) ≡ get_or entries v (record { 0 = 0 })) × (slice_index (entry_places all entries) v < length (get_or all v [])) × Contains (get_or all v []) (get_or entries v (record { 0 = 0 }))
chosen_at [] entries v has l = absurd (omega (arith, l))
chosen_at (candidates ∷ all) [] v has l = absurd has
chosen_at (candidates ∷ all) (entry ∷ entries) zero has l = (entry_back candidates entry (record { 0 = 0 }) has.0, place_within candidates entry has.0, has.0)
chosen_at (candidates ∷ all) (entry ∷ entries) (suc v) has l = chosen_at all entries v has.1 (omega (arith, l))

module _ (table : Table) (lexicon : Lexicon) (parts : Parts) (problem : IsProblem parts) (is : tables.IsTable table) (for_it : IsFor table lexicon parts) (scope : List (List ℕ)) where
  abbrev g : Grammar
  g = record { table = table; uses = []; lexicon = lexicon }

  module _ (dim : Name) (d : ℕ) (at : IsDimAt table dim.text d) where
    abbrev k : ℕ
    k = among_all table lexicon is d

    kept : KeepsDim (dimension g k)
    kept = dim_kept table lexicon is d at.within

    -- the records of entries for the dimension
    record_is : (entry : Entry) → length entry ≡ length table.used → record_for table.used entry k ≡ get_or entry d []
    record_is entry long = record_same table.used entry k long ∙ ap (λ i. get_or entry i []) (place_is (length table.dims) table.used d k is.used (used_within table lexicon is d at.within) refl)

    module _ (feature : Name) (value : Term) (i n : ℕ) (type : Ty) (of : Shape) (stands : slice_get (dimension g k).fields i ≡ Some (feature.text, type)) (members : member_shape (shape type) ≡ Some of) (within : n < count of) (texts : value_texts of n ≡ constants_of value) where
      abbrev made : List (List Bool)
      made = table_of lexicon.entries parts.candidates d i n

      row_of : (v : ℕ) → v < length parts.candidates → get_or made v [] ≡ map (entry_says lexicon.entries d i n) (get_or parts.candidates v [])
      row_of v l = get_or-map (map (entry_says lexicon.entries d i n)) parts.candidates v [] [] l

      is_table : IsTable parts made
      is_table = record {
        count = length-map parts.candidates (map (entry_says lexicon.entries d i n)) ∙ candidates_long;
        each = λ v l. ap length (row_of v (let m : v < nodes parts = l in omega (arith, m, candidates_long))) ∙ length-map (get_or parts.candidates v []) (entry_says lexicon.entries d i n);
      }
        where
          candidates_long : length parts.candidates ≡ nodes parts
          candidates_long = problem.candidates_each

      -- the entry with that number says so exactly where its value is the one with these constants, or has it
      entry_right : (a : Analysis) (v : ℕ) → (get_or a.entries v (record { 0 = 0 })).0 < length lexicon.entries
          → (entry_says lexicon.entries d i n (get_or a.entries v (record { 0 = 0 })) ≡ true) ↔ OnFeature g a k v (Some i) (λ s x. IsOrHas s x (constants_of value))
      entry_right a v l =
          let named = typed_at (dimension g k).fields i feature.text type stands in
          let entry = entry_right_at table lexicon.entries (get_or a.entries v (record { 0 = 0 })).0 _ for_it.entries l refl in
          let told = told_of g a k v i feature.text (shape type) (in_get table.used d 0 (used_within table lexicon is d at.within)) (among_below table lexicon is d at.within) entry named in
          let read = ap (λ o. says_in o n) (sym (ap (λ m. said_at m i) (record_is (entry_at g a v) entry.count)) ∙ told.said) in
          let same = value_says (shape type) of (out-Value told.value) n (constants_of value) members (feature_right (typed (dimension g k).fields) i feature.text (shape type) kept.features named) told.right within texts in
          let on = on_feature g a k v i (shape type) (Some (arg.Feature i)) (λ s x. IsOrHas s x (constants_of value)) told refl in
          (λ h. on.1 (same.0 (sym read ∙ h)), λ h. read ∙ same.1 (on.0 h))

      -- the table says so of a node's candidate exactly where the node has that feature
      row_says : (a : Analysis) → IsAnalysis parts a → (v : ℕ) → v < nodes parts
          → (says made v (slice_index (entry_places parts.candidates a.entries) v) ≡ true) ↔ OnFeature g a k v (Some i) (λ s x. IsOrHas s x (constants_of value))
      row_says a fits v l =
          let m : v < length parts.candidates = (let many = problem.candidates_each in omega (arith, l, many)) in
          let c : ℕ = slice_index (entry_places parts.candidates a.entries) v in
          let chosen = chosen_at parts.candidates a.entries v fits.entries m in
          let entry : EntryNo = get_or a.entries v (record { 0 = 0 }) in
          let there : says made v c ≡ entry_says lexicon.entries d i n entry =
          ap (λ row. slice_index_or row c false) (row_of v m) ∙ get_or-map (entry_says lexicon.entries d i n) (get_or parts.candidates v []) c (record { 0 = 0 }) false chosen.1 ∙ ap (entry_says lexicon.entries d i n) chosen.0 in
          let within : entry.0 < length lexicon.entries =
          All-contains (λ (no : EntryNo). no.0 < length lexicon.entries) (get_or parts.candidates v []) entry (for_it.candidates v [] m) chosen.2 in
          let right = entry_right a v within in
          (λ h. right.0 (sym there ∙ h), λ h. there ∙ right.1 h)

      pub says_feat : (node : Name) (m : ℕ) → IsAt scope m node.text → Says table lexicon parts scope (w.feat node dim feature value) (fitting m made)
      says_feat node m first =
          pair_says table lexicon parts scope (w.feat node dim feature value) (fitting m made) (λ a v again. says made v (slice_index (entry_places parts.candidates a.entries) v) ≡ true) node node m m first first is_table (λ numbers one two. one) (λ a numbered. alike) (λ a fits b below.
          both_steps (row_says a fits (b node.text) below)
          (member_only table lexicon parts is for_it scope dim d at a (λ one. one.fields) i feature.text type (λ j place. OnFeature g a j (b node.text) (Some place) (λ s x. IsOrHas s x (constants_of value))) kept.fields stands))
