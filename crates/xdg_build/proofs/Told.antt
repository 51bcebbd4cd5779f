-- A typed use in a used dimension: its dimensions, and what the entries of nodes say for its features.
use Rattle.xdg_build.proofs.Planned.{kept_at, feature_right, attribute_right}
use Rattle.std.proofs.Common.{◌≡◌, ℕ, ◌<◌, ◌↔◌, true, List, [], length, get_or, map, refl, sym, ap, ap₂, ◌∙◌, subst, arith}
use Rattle.std.specs.Prelude.{Option, Some, MatchOption, slice_get, slice_index, flat_map}
use Rattle.std.proofs.lemmas.List.{get_or-map, length-map}
use Rattle.std.proofs.lemmas.Option.{slice_get-get_or, slice_get_within, get_or_from_slice_get}
use Rattle.xdg_base.specs.declared.ids.DimId.{DimId}
use Rattle.xdg_base.specs.declared.ids.EntryNo.{EntryNo}
use Rattle.xdg_domain.specs.Defaults.{IsFilledIn}
use Rattle.xdg_domain.specs.Shapes.{Shape, text, IsType, count, IsSmall}
use Rattle.xdg_domain.specs.Valencies.{said_at}
use Rattle.xdg_domain.specs.Values.{IsIn}
use Rattle.xdg_domain.specs.declared.values.Value.{Value, out-Value}
use Rattle.xdg_domain.specs.declared.values.Value.TheOpen.{Value-F}
use Rattle.xdg_packed.specs.Lexicon.{Record}
use Rattle.xdg_problem.specs.declared.analysis.Analysis.{Analysis}
use Rattle.xdg_problem.specs.declared.parts.Feat.{Feat}
use Rattle.xdg_problem.specs.declared.parts.SentenceWord.{SentenceWord}
use Rattle.xdg_problem.specs.Analyses.{IsAnalysis}
use Rattle.xdg_problem.specs.Features.{row}
use Rattle.xdg_problem.specs.Vectors.{entry_places}
use Rattle.xdg_types.specs.declared.table.DimType.{DimType}
use Rattle.xdg_types.specs.Table.{Typed, typed, IsTable, KeepsDim}
use Rattle.xdg_packed.specs.Entries.{IsEntry, IsRightLexicon}
use Rattle.xdg_principles.specs.declared.building.Arg.{Arg}
use Rattle.xdg_principles.specs.declared.building.Arg.TheVariants as arg
use Rattle.xdg_principles.specs.declared.building.PrincipleUse.{PrincipleUse}
use Rattle.xdg_problem.specs.declared.forms.Sort.{Sort}
use Rattle.xdg_problem.specs.declared.forms.Sort.TheVariants as sorts
use Rattle.xdg_problem.specs.declared.forms.Typing.{Typing}
use Rattle.xdg_problem.specs.declared.forms.Which.{Which}
use Rattle.xdg_principles.specs.Settings.{members_in}
use Rattle.xdg_principles.specs.Typed.{IsTypedUse, IsTypedMember, number_of, labels_at}
use Rattle.xdg_build.specs.Features.{rows_in, rows_of, feature}
use Rattle.xdg_build.specs.Grammars.{Grammar, is_used, used_place}
use Rattle.xdg_formula.specs.Tables.{no_dim, used_dims}
use Rattle.xdg_build.specs.Groups.{features_in, features_at, group_of, dims_of}
use Rattle.xdg_build.proofs.Dimensions.{used_at, used_below, Home, home_of, labels-home, members-home}
use Rattle.xdg_build.proofs.Said.{said_of}
use Rattle.xdg_packed.proofs.OfTable.{entry_at as entry_right_at}
use Rattle.xdg_build.specs.Compiled.{candidates_of, compiled}
use Rattle.xdg_build.specs.Readings.{edges_in, value_number, dimension, type_at, record_for, entry_at, said_for, OnFeature, feature_place}
use Rattle.xdg_build.specs.Solutions.{IsAnalysisOf}
use Rattle.xdg_build.proofs.Conditions.{AreWithin}
use Rattle.xdg_build.proofs.Lawful.{compiled_for}
use Rattle.xdg_build.proofs.Readings.{record_same, used_is, entry_within}
use Rattle.xdg_build.proofs.Used as used
use Rattle.xdg_build.proofs.Valued as valued
use Rattle.xdg_build.specs.Problems.{IsFor}
use Rattle.xdg_problem.specs.Arguments.{label_count, attr_place}
use Rattle.xdg_problem.specs.Paths.{edges_on}
use Rattle.xdg_build.proofs.EntryRows.{of_entries}
use Rattle.xdg_facts.specs.Membership.{In}
use Rattle.xdg_facts.proofs.In.{in_get, in_of_any}
use Rattle.xdg_problem.specs.Principles.{feature_dim}

abbrev dim_id : ℕ → DimId
dim_id n = record { 0 = n }

-- what a node's entry says for a feature: a value of its type, whole
pub record IsTold (g : Grammar) (a : Analysis) (k v f : ℕ) (type : Shape) : Type 0 where
  pub value : Value
  pub said : said_for g a k v f ≡ Some value
  pub typed : type_at (typed (dimension g k).fields) f ≡ type
  pub right : IsIn type (out-Value value)
  pub filled : IsFilledIn type (out-Value value)

pub on_feature : (g : Grammar) (a : Analysis) (k v f : ℕ) (type : Shape) (argument : Option Arg) (P : Shape → Value-F Value → Type 0) (told : IsTold g a k v f type) → argument ≡ Some (arg.Feature f)
    → OnFeature g a k v (feature_place argument) P ↔ P type (out-Value told.value)
on_feature g a k v f type argument P told is =
    let A : Option Value → Shape → Type 0 = λ o t. MatchOption o ⊥ (λ x. P t (out-Value x)) in (
      λ h. subst (A (Some told.value)) told.typed (subst (λ o. A o (type_at (typed (dimension g k).fields) f)) told.said (subst (λ o. OnFeature g a k v (feature_place o) P) is h)),
      λ p. subst (λ o. OnFeature g a k v (feature_place o) P) (sym is) (subst (λ o. A o (type_at (typed (dimension g k).fields) f)) (sym told.said) (subst (A (Some told.value)) (sym told.typed) p)),
    )

pub told_of : (g : Grammar) (a : Analysis) (k v f : ℕ) (name : List ℕ) (type : Shape) → In g.table.used k → k < length g.table.dims → IsEntry g.table (entry_at g a v)
    → slice_get (typed (dimension g k).fields) f ≡ Some (name, type) → IsTold g a k v f type
told_of g a k v f name type used within is stands =
    let x = said_of g.table (used_place g.table k) (dimension g k) (entry_at g a v) f name type is (k, (used_at g.table.used k used, slice_get-get_or g.table.dims k no_dim within)) stands in
    record {
      value = x.value;
      said = ap (λ (r : Record). said_at r f) (record_same g.table.used (entry_at g a v) k is.count) ∙ x.is;
      typed = ap (λ (one : List ℕ × Shape). one.1) (get_or_from_slice_get (typed (dimension g k).fields) f (name, type) ([], text) stands);
      right = x.right;
      filled = x.filled;
    }

-- what is known of an analysis and of a use in a used dimension
pub record Given (g : Grammar) (words : List SentenceWord) (a : Analysis) (u : PrincipleUse) : Type 0 where
  pub table : IsTable g.table
  pub lexicon : IsRightLexicon g.table g.lexicon.entries
  pub used : is_used g.table u.home ≡ true
  pub right : IsTypedUse g.table u
  pub fit : IsAnalysis (compiled g words) a
  pub is : IsAnalysisOf g words a

module _ (g : Grammar) (words : List SentenceWord) (a : Analysis) (u : PrincipleUse) (h : Given g words a u) where
  abbrev pub dim_number : Which → ℕ
  dim_number which = get_or u.dims (number_of which) 0

  pub has_dim : (m : ℕ) → m < length u.dims → In g.table.used (get_or u.dims m 0)
  has_dim m within = h.right.used (in_of_any g.table.used u.home h.used) (get_or u.dims m 0) (in_get u.dims m 0 within)

  for_it : IsFor g.table g.lexicon (compiled g words)
  for_it = compiled_for g words h.lexicon.entries

  -- the dimension with that number, compiled
  module _ (m : ℕ) (within : m < length u.dims) where
    abbrev dim : ℕ
    dim = get_or u.dims m 0

    abbrev place : ℕ
    place = used_place g.table dim

    pub dim_same : (get_or (dims_of g u) m (record { 0 = 0 })).0 ≡ place
    dim_same = ap (λ (d : DimId). d.0) (get_or-map (λ (k : ℕ). dim_id (used_place g.table k)) u.dims m 0 (dim_id 0) within)

    inside : place < length (used_dims g.table)
    inside = omega (arith, used_below g.table.used dim (has_dim m within), length-map g.table.used (dimension g))

    among : get_or g.table.used place 0 ≡ dim
    among = used_is g.table.used dim (has_dim m within)

    pub edges_same : edges_on place a.edges ≡ edges_in g a dim
    edges_same = used.edges_same g.table g.lexicon (compiled g words) h.table for_it a h.fit place inside ∙ ap (edges_in g a) among

    pub edges_within : AreWithin (length words) (length (dimension g dim).labels) (edges_in g a dim)
    edges_within = subst (AreWithin (length words) (length (dimension g dim).labels)) edges_same
        (subst (λ k. AreWithin (length words) (length (dimension g k).labels) (edges_on place a.edges)) among (used.edges_within g.table g.lexicon (compiled g words) h.table for_it a h.fit place inside))

    pub labels_same : label_count (compiled g words) place ≡ length (dimension g dim).labels
    labels_same = used.labels_are g.table g.lexicon (compiled g words) h.table for_it place inside ∙ ap (λ k. length (dimension g k).labels) among

    pub value_same : (v i : ℕ) → slice_index a.attrs (attr_place (compiled g words) place v i) ≡ value_number g (length words) a dim v i
    value_same v i = sym (valued.number_same g.table g.lexicon (compiled g words) h.table for_it place inside a v i) ∙ ap (λ k. value_number g (length words) a k v i) among

    pub value_below : (v i : ℕ) (name : List ℕ) (type : Shape) → v < length words → slice_get (typed (dimension g dim).attrs) i ≡ Some (name, type) → value_number g (length words) a dim v i < count type
    value_below v i name type node stands = subst (λ k. value_number g (length words) a k v i < count type) among
        (valued.number_below g.table g.lexicon (compiled g words) h.table for_it place inside i name type (subst (λ k. slice_get (typed (dimension g k).attrs) i ≡ Some (name, type)) (sym among) stands) a h.fit v node)

  home : (m : ℕ) → m < length u.dims → Home g.table (get_or u.dims m 0)
  home m within = home_of g.table u h.right h.used m within

  dim_is : (m : ℕ) (within : m < length u.dims) → dimension g (get_or u.dims m 0) ≡ (home m within).dim
  dim_is m within = get_or_from_slice_get g.table.dims (get_or u.dims m 0) (home m within).dim no_dim (home m within).stands

  pub labels_are : (which : Which) → number_of which < length u.dims → labels_at g.table u which ≡ (dimension g (dim_number which)).labels
  labels_are which within = labels-home g.table u which within (home (number_of which) within) ∙ ap (λ (dim : DimType). dim.labels) (sym (dim_is (number_of which) within))

  below : (m : ℕ) → m < length u.dims → get_or u.dims m 0 < length g.table.dims
  below m within = h.right.dims (get_or u.dims m 0) (in_get u.dims m 0 within)

  pub kept_dim : (m : ℕ) → m < length u.dims → KeepsDim (dimension g (get_or u.dims m 0))
  kept_dim m within = kept_at g.table.dims (get_or u.dims m 0) h.table.dims (below m within)

  -- the attribute or the feature that an argument names stands in its dimension
  pub member_stands : (sort : Sort) (which : Which) (typing : Typing) (k : ℕ) → number_of which < length u.dims → (member : IsTypedMember g.table u h.right.shared sort which typing k)
      → slice_get (typed (members_in sort (Some (dimension g (dim_number which))))) k ≡ Some (member.name, member.type)
  member_stands sort which typing k within member =
      ap (λ (dim : DimType). slice_get (typed (members_in sort (Some dim))) k) (dim_is (number_of which) within)
      ∙ sym (ap (λ (all : Typed). slice_get all k) (members-home g.table u sort which within (home (number_of which) within))) ∙ member.stands

  pub attribute_small : (which : Which) (typing : Typing) (i : ℕ) → number_of which < length u.dims → (member : IsTypedMember g.table u h.right.shared sorts.Attribute which typing i) → IsSmall member.type × (0 < count member.type)
  attribute_small which typing i within member =
      attribute_right (typed (dimension g (dim_number which)).attrs) i member.name member.type (kept_dim (number_of which) within).attributes (member_stands sorts.Attribute which typing i within member)

  entry_is : (v : ℕ) → v < length words → IsEntry g.table (entry_at g a v)
  entry_is v node = entry_right_at g.table g.lexicon.entries (get_or a.entries v (record { 0 = 0 })).0 _ h.lexicon.entries (entry_within g words a h.is v node).1 refl

  record_is : (k v : ℕ) → v < length words → record_for g.table.used (entry_at g a v) k ≡ get_or (entry_at g a v) (used_place g.table k) []
  record_is k v node = record_same g.table.used (entry_at g a v) k (entry_is v node).count

  module _ (which : Which) (typing : Typing) (f : ℕ) (within : number_of which < length u.dims) (member : IsTypedMember g.table u h.right.shared sorts.Feature which typing f) where
    pub feature_type : IsType member.type
    feature_type = feature_right (typed (dimension g (dim_number which)).fields) f member.name member.type (kept_dim (number_of which) within).features (member_stands sorts.Feature which typing f within member)

    pub told : (v : ℕ) → v < length words → IsTold g a (dim_number which) v f member.type
    told v node = told_of g a (dim_number which) v f member.name member.type (has_dim (number_of which) within) (below (number_of which) within) (entry_is v node) (member_stands sorts.Feature which typing f within member)

  -- the rows of a feature of a node's entry, compiled
  pub row_is : (which : Which) (places : List ℕ) (f v j l : ℕ) (type : Shape) → feature_dim u.principle ≡ number_of which → flat_map features_in u.args ≡ places
      → slice_get places j ≡ Some f → v < length words → (x : IsTold g a (dim_number which) v f type)
      → row (group_of g (candidates_of g words) u) v (slice_index (entry_places (candidates_of g words) a.entries) v) j l ≡ get_or (rows_in (out-Value x.value)) l []
  row_is which places f v j l type which_is places_are at node x =
      let k : ℕ = dim_number which in
      let e : EntryNo = get_or a.entries v (record { 0 = 0 }) in
      let one : ℕ → ℕ → Feat = λ d place. feature g.table (entry_at g a v) d place in
      let feats : features_at g u e ≡ map (one k) places = ap₂ (λ n ps. map (one (get_or u.dims n 0)) ps) which_is places_are in
      let here : get_or (features_at g u e) j (record { rows = [] }) ≡ one k f =
      ap (λ (fs : List Feat). get_or fs j (record { rows = [] })) feats ∙ get_or-map (one k) places j 0 (record { rows = [] }) (slice_get_within places j f at) ∙ ap (one k) (get_or_from_slice_get places j f 0 at) in
      let rows : (one k f).rows ≡ rows_in (out-Value x.value) = ap rows_of (ap (λ (r : Record). said_at r f) (sym (record_is k v node)) ∙ x.said) in
      ap (λ (fs : List Feat). get_or (get_or fs j (record { rows = [] })).rows l [])
      (of_entries (features_at g u) (candidates_of g words) a.entries h.fit.entries v ∙ get_or-map (features_at g u) a.entries v (record { 0 = 0 }) [] (entry_within g words a h.is v node).0)
      ∙ ap (λ (one : Feat). get_or one.rows l []) here ∙ ap (λ (rs : List (List ℕ)). get_or rs l []) rows
