-- A principle use is satisfied, in words of the grammar, exactly where the relation of its compiled group holds.
use Rattle.std.proofs.Common.{◌≡◌, ℕ, ◌<◌, ◌↔◌, Bool, true, List, [], ◌∷◌, ◌++◌, length, get_or, map, refl, sym, ap, ap₂, ◌∙◌, subst, inl, inr, arith}
use Rattle.std.proofs.lemmas.List.Elements.{All-nil, All-cons}
use Rattle.std.specs.Prelude.{All, Any, AllPairs, Contains, Option, Some, slice_get, slice_index, flat_map, codes}
use Rattle.std.proofs.lemmas.Option.{get_or_from_slice_get}
use Rattle.xdg_base.specs.declared.ids.AttrId.{AttrId}
use Rattle.xdg_base.specs.declared.ids.LabelId.{LabelId}
use Rattle.xdg_domain.specs.Shapes.{Shape, domain, text, valency, mapping, count, IsSmall, IsType}
use Rattle.xdg_domain.specs.Values.{AllBelow}
use Rattle.xdg_domain.specs.declared.values.Value.{Value, out-Value}
use Rattle.xdg_domain.specs.declared.values.Value.TheOpen.{Value-F}
use Rattle.xdg_problem.specs.declared.analysis.Analysis.{Analysis}
use Rattle.xdg_problem.specs.declared.analysis.Edge.{Edge}
use Rattle.xdg_problem.specs.declared.conditions.Condition.{Condition}
use Rattle.xdg_problem.specs.declared.conditions.Condition.TheVariants as conditions
use Rattle.xdg_problem.specs.declared.parts.Group.{Group}
use Rattle.xdg_problem.specs.declared.parts.Linking.{Linking}
use Rattle.xdg_problem.specs.declared.parts.Linking.TheVariants as linkings
use Rattle.xdg_problem.specs.declared.parts.Principle.{Principle}
use Rattle.xdg_problem.specs.declared.parts.Principle.TheVariants as principles
use Rattle.xdg_problem.specs.declared.parts.SentenceWord.{SentenceWord}
use Rattle.xdg_problem.specs.Arguments.{label_count, first_dim, second_dim, attr_of, attr_place, order_of, truth_of}
use Rattle.xdg_problem.specs.Asking.{IsInItem, IsLinked, AsksLink}
use Rattle.xdg_problem.specs.Features.{row, map_row}
use Rattle.xdg_problem.specs.Names.{IsOfTexts}
use Rattle.xdg_problem.specs.Paths.{edges_on, IsDaughter, IsDaughterBy}
use Rattle.xdg_problem.specs.Relations.{Relation}
use Rattle.xdg_problem.specs.Vectors.{entry_places}
use Rattle.xdg_facts.proofs.Each.{none_kept, one_kept, two_kept, three_kept, chosen_kept}
use Rattle.xdg_types.specs.Table.{ArePlaces, typed}
use Rattle.xdg_principles.specs.declared.building.Arg.{Arg}
use Rattle.xdg_principles.specs.declared.building.Arg.TheVariants as arg
use Rattle.xdg_principles.specs.declared.building.PrincipleUse.{PrincipleUse}
use Rattle.xdg_problem.specs.declared.forms.Element.{Element}
use Rattle.xdg_problem.specs.declared.forms.Element.TheVariants as elements
use Rattle.xdg_problem.specs.declared.forms.Form.{Form}
use Rattle.xdg_problem.specs.declared.forms.Sort.TheVariants as sorts
use Rattle.xdg_problem.specs.declared.forms.Typing.{Typing}
use Rattle.xdg_problem.specs.declared.forms.Typing.TheVariants as typings
use Rattle.xdg_problem.specs.declared.forms.Which.{Which}
use Rattle.xdg_problem.specs.declared.forms.Which.TheVariants as nth
use Rattle.xdg_problem.specs.Forms.{form_of, parameters, dims_in, linking, labels_to_labels}
use Rattle.xdg_principles.specs.Typed.{AreTypedArgs, IsTypedMember, IsElementOf, number_of, labels_at}
use Rattle.xdg_principles.specs.Wanted.{IsSame, IsSetOf, IsMapTo}
use Rattle.xdg_build.specs.Features.{members_in, rows_in}
use Rattle.xdg_build.specs.Grammars.{Grammar}
use Rattle.xdg_build.specs.Groups.{features_in, attrs_in, labels_in, truths_in, group_of}
use Rattle.xdg_build.proofs.Forms.{first_within}
use Rattle.xdg_build.proofs.TypeRows.{same_count, set_rows_are}
use Rattle.xdg_build.specs.Compiled.{candidates_of, compiled}
use Rattle.xdg_build.specs.Readings.{argument, argument_among, dimension, label_text, value_texts, value_number, value_of, attribute_place, feature_place, label_places, edges_in, IsMember, IsMemberAt, IsAllowedAt, OnFeature}
use Rattle.xdg_build.specs.Principles.{D1, D2, D3, Is, attribute, InSet, InMap, Allows, order, HasDaughter, NoCycle, OneRoot, OneMother, OneLabel, InItem, Ordered, Projective, Agrees, AgreesAlong, Governs, Climbs, Blocked, IsLink, Linked, HasLink, StartsBy, Asks, Satisfies}
use Rattle.xdg_build.proofs.TypedArguments.{AllNamed, args_of, all_named, wanted_by}
use Rattle.xdg_build.proofs.Conditions as kept
use Rattle.xdg_build.proofs.Conditions.{Kept, AreWithin}
use Rattle.xdg_build.proofs.Told as told
use Rattle.xdg_build.proofs.Told.{Given, IsTold, on_feature}
use Rattle.xdg_build.proofs.FeatureRows.{same_number, Names, names_number, names_some, same_texts, element, element_right, element_small, member_names, members_below, valency_allows, IsMapRow, map_row_is}
use Rattle.xdg_facts.proofs.Facts.{both_steps}
use Rattle.xdg_facts.specs.Membership.{In}
use Rattle.xdg_problem.specs.Principles.{feature_dim, conditions_for}
use Rattle.xdg_facts.proofs.In.{one_place}

-- ---- members

-- P of constants says which values of a type a row has
pub record HasRow (P : List (List ℕ) → Type 0) (s : Shape) (row : List ℕ) : Type 0 where
  pub small : IsSmall s
  pub below : AllBelow (count s) row
  pub names : (texts : List (List ℕ)) → P texts ↔ Names s row texts

member_is : (P : List (List ℕ) → Type 0) (s : Shape) (row : List ℕ) (texts : List (List ℕ)) (n : ℕ) → HasRow P s row → n < count s → texts ≡ value_texts s n → P texts ↔ Contains row n
member_is P s row texts n has within same =
    let names = has.names (value_texts s n) in
    let number = names_number s row n has.small has.below within in (
      λ p. number.0 (names.0 (subst P same p)),
      λ c. subst P (sym same) (names.1 (number.1 c)),
    )

some_is : (P : List (List ℕ) → Type 0) (s : Shape) (row : List ℕ) → HasRow P s row → ((texts : List (List ℕ)) × P texts) ↔ (0 < length row)
some_is P s row has = (
  λ h. (names_some s row).0 (h.0, (has.names h.0).0 h.1),
  λ l. (let n = (names_some s row).1 l in (n.0, (has.names n.0).1 n.1)),
)

same_truth : (b : Bool) → ◌≡◌ {A = Option Arg} (Some (arg.Truth b)) (Some (arg.Truth true)) → b ≡ true
same_truth b e = cc

-- ---- types

label_texts : (labels : Which → List (List ℕ)) (shared : Shape) (which : Which) (s : Shape) (all : List (List ℕ)) (l : ℕ) → IsElementOf labels shared (elements.Labels which) s → labels which ≡ all → get_or all l [] ∷ [] ≡ value_texts s l
label_texts labels shared which s all l is same = ap (λ (cs : List (List ℕ)). get_or cs l [] ∷ []) (sym same) ∙ ap (λ (t : Shape). value_texts t l) (sym is)

label_count_is : (labels : Which → List (List ℕ)) (shared : Shape) (which : Which) (s : Shape) (all : List (List ℕ)) → IsElementOf labels shared (elements.Labels which) s → labels which ≡ all → count s ≡ length all
label_count_is labels shared which s all is same = ap count is ∙ ap length same

-- the constant of a label is a member exactly where its number is
label_is : (labels : Which → List (List ℕ)) (shared : Shape) (which : Which) (P : List (List ℕ) → Type 0) (s : Shape) (row : List ℕ) (all : List (List ℕ)) (l : ℕ) → HasRow P s row
    → IsElementOf labels shared (elements.Labels which) s → labels which ≡ all → l < length all → P (get_or all l [] ∷ []) ↔ Contains row l
label_is labels shared which P s row all l has is same within =
    member_is P s row (get_or all l [] ∷ []) l has (subst (λ k. l < k) (sym (label_count_is labels shared which s all is same)) within) (label_texts labels shared which s all l is same)

-- two types that are the same as a third
shared_texts : (shared s u : Shape) (n : ℕ) → IsSame shared s → IsSame shared u → value_texts s n ≡ value_texts u n
shared_texts shared s u n h k = sym (same_texts shared s n h) ∙ same_texts shared u n k

shared_count : (shared s u : Shape) → IsSame shared s → IsSame shared u → count s ≡ count u
shared_count shared s u h k = same_count shared s h ∙ sym (same_count shared u k)

-- ---- arguments

map_parts : (P : Shape → Type 0) (known : List (List ℕ)) (type : Shape) → IsMapTo P known type → (value : Shape) × (type ≡ mapping (domain known) value) × IsSetOf P value
map_parts P known (mapping k value) is = (value, ap (λ (x : Shape). mapping x value) is.0, is.1)
map_parts P _ _ is = absurd is

labels_back : (ks : List ℕ) → map (λ (l : LabelId). l.0) (map (λ n. record { 0 = n }) ks ++ []) ≡ ks
labels_back [] = refl
labels_back (k ∷ ks) = ap (λ (more : List ℕ). k ∷ more) (labels_back ks)

small_places : (bound : ℕ) (ks : List ℕ) → ArePlaces bound ks → All (λ k. k < bound) ks
small_places bound [] is = All-nil (λ k. k < bound)
small_places bound (k ∷ ks) is = All-cons (λ k. k < bound) k ks is.0.0 (small_places bound ks is.1)

module _ (g : Grammar) (words : List SentenceWord) (a : Analysis) (u : PrincipleUse) (h : Given g words a u) where
  abbrev G : Group
  G = group_of g (candidates_of g words) u

  abbrev cs : List ℕ
  cs = entry_places (candidates_of g words) a.entries

  abbrev C : Condition → Type 0
  C = Kept (compiled g words) G cs a.attrs a.edges

  abbrev n : ℕ
  n = length words

  abbrev d1 : ℕ
  d1 = D1 g words a u

  abbrev d2 : ℕ
  d2 = D2 g words a u

  abbrev E1 : List Edge
  E1 = edges_in g a d1

  abbrev E2 : List Edge
  E2 = edges_in g a d2

  abbrev L1 : ℕ
  L1 = length (dimension g d1).labels

  abbrev rows : ℕ → ℕ → ℕ → List ℕ
  rows v j l = row G v (slice_index cs v) j l

  abbrev shared : Shape
  shared = h.right.shared

  abbrev labels : Which → List (List ℕ)
  labels = labels_at g.table u

  -- ---- dimensions

  some_dim : 0 < length u.dims
  some_dim = omega (arith, h.right.count, first_within u.principle)

  first_is : edges_on (first_dim G) a.edges ≡ E1
  first_is = ap (λ d. edges_on d a.edges) (told.dim_same g words a u h 0 some_dim) ∙ told.edges_same g words a u h 0 some_dim

  second_is : 1 < length u.dims → edges_on (second_dim G) a.edges ≡ E2
  second_is w = ap (λ d. edges_on d a.edges) (told.dim_same g words a u h 1 w) ∙ told.edges_same g words a u h 1 w

  labels_count : label_count (compiled g words) (first_dim G) ≡ L1
  labels_count = ap (label_count (compiled g words)) (told.dim_same g words a u h 0 some_dim) ∙ told.labels_same g words a u h 0 some_dim

  within_first : AreWithin n L1 E1
  within_first = told.edges_within g words a u h 0 some_dim

  -- ---- attributes

  module _ (typing : Typing) (i : ℕ) (member : IsTypedMember g.table u shared sorts.Attribute nth.First typing i) where
    -- the number of a node's value
    abbrev number : ℕ → ℕ
    number v = value_number g n a d1 v i

    value_is : (j v : ℕ) → attr_of G j ≡ i → kept.value (compiled g words) G cs a.attrs a.edges v j ≡ number v
    value_is j v same =
        ap (λ k. slice_index a.attrs (attr_place (compiled g words) (first_dim G) v k)) same
        ∙ ap (λ d. slice_index a.attrs (attr_place (compiled g words) d v i)) (told.dim_same g words a u h 0 some_dim)
        ∙ told.value_same g words a u h 0 some_dim v i

    stands : slice_get (typed (dimension g d1).attrs) i ≡ Some (member.name, member.type)
    stands = told.member_stands g words a u h sorts.Attribute nth.First typing i some_dim member

    text_is : (key : List ℕ) (v : ℕ) → argument u key ≡ Some (arg.Attr i) → attribute g words a u d1 key v ≡ value_texts member.type (number v)
    text_is key v under =
        ap (λ (o : Option Arg). value_of g n a d1 v (attribute_place o)) under
        ∙ ap (λ (one : List ℕ × Shape). value_texts one.1 (number v)) (get_or_from_slice_get (typed (dimension g d1).attrs) i (member.name, member.type) ([], text) stands)

    type_small : IsSmall member.type
    type_small = (told.attribute_small g words a u h nth.First typing i some_dim member).0

    number_below : (v : ℕ) → v < n → number v < count member.type
    number_below v node = told.value_below g words a u h 0 some_dim v i member.name member.type node stands

  -- ---- arguments by their keys

  -- what is known of them where the principle has this form
  record Takes (form : Form) : Type 0 where
    pub all : AllNamed g.table u shared (wanted_by form)
    pub args : u.args ≡ args_of g.table u shared (wanted_by form) all
    pub under : (key : List ℕ) → argument u key ≡ argument_among (parameters form) (args_of g.table u shared (wanted_by form) all) key
    pub count : length u.dims ≡ length (dims_in form.dims)

  takes : (form : Form) → form_of u.principle ≡ form → Takes form
  takes form formed =
      let named = all_named g.table u shared (parameters form) u.args (subst (λ (f : Form). AreTypedArgs g.table u shared (parameters f) u.args) formed h.right.args) in
      record {
        all = named.0;
        args = named.1;
        under = λ key. ap₂ (λ (f : Form) (ys : List Arg). argument_among (parameters f) ys key) formed named.1;
        count = h.right.count ∙ ap (λ (f : Form). length (dims_in f.dims)) formed;
      }

  -- ---- features

  module _ (which : Which) (within : number_of which < length u.dims) (which_is : feature_dim u.principle ≡ number_of which)
      (xs : List Arg) (same : u.args ≡ xs) (j f : ℕ) (at : slice_get (flat_map features_in xs) j ≡ Some f) (key : List ℕ) (under : argument u key ≡ Some (arg.Feature f)) where
    abbrev k : ℕ
    k = get_or u.dims (number_of which) 0

    row_is : (l v : ℕ) (type : Shape) → v < n → (x : IsTold g a k v f type) → rows v j l ≡ get_or (rows_in (out-Value x.value)) l []
    row_is l v type node x = told.row_is g words a u h which (flat_map features_in xs) f v j l type which_is (ap (flat_map features_in) same) at node x

    -- what a row says is what the value says of which it is made
    feature_says : (P : Shape → Value-F Value → Type 0) (Q : List ℕ → Type 0) (l v : ℕ) (type : Shape) → v < n → (x : IsTold g a k v f type) → P type (out-Value x.value) ↔ Q (get_or (rows_in (out-Value x.value)) l [])
        → OnFeature g a k v (feature_place (argument u key)) P ↔ Q (rows v j l)
    feature_says P Q l v type node x says = subst (λ (ns : List ℕ). OnFeature g a k v (feature_place (argument u key)) P ↔ Q ns) (sym (row_is l v type node x)) (both_steps (on_feature g a k v f type (argument u key) P x under) says)

    set_has : (el : Element) (member : IsTypedMember g.table u shared sorts.Feature which (typings.Set el) f) (v : ℕ) → v < n → HasRow (InSet g words a u k key v) (element member.type) (rows v j 0)
    set_has el member v node =
        let P : Shape → Type 0 = IsElementOf labels shared el in
        let x : IsTold g a k v f member.type = told.told g words a u h which (typings.Set el) f within member v node in
        let row : members_in (out-Value x.value) ≡ get_or (rows_in (out-Value x.value)) 0 [] = sym (ap (λ (rs : List (List ℕ)). get_or rs 0 []) (set_rows_are P member.type (out-Value x.value) member.wanted x.right)) in
        record {
          small = element_small P member.type member.wanted (told.feature_type g words a u h which (typings.Set el) f within member);
          below = subst (AllBelow (count (element member.type))) (row ∙ sym (row_is 0 v member.type node x)) (members_below P member.type (out-Value x.value) member.wanted x.right);
          names = λ texts. feature_says (λ s y. IsMember s y texts) (λ ns. Names (element member.type) ns texts) 0 v member.type node x (subst (λ (ns : List ℕ). IsMember member.type (out-Value x.value) texts ↔ Names (element member.type) ns texts) row
              (member_names P texts member.type (out-Value x.value) member.wanted x.right));
        }

    module _ (labels_are : labels nth.First ≡ (dimension g d1).labels) (l v : ℕ) (label : l < L1) (node : v < n) where
      abbrev keys : List (List ℕ)
      keys = labels nth.First

      key_within : l < length keys
      key_within = subst (λ (cs : List (List ℕ)). l < length cs) (sym labels_are) label

      key_is : get_or keys l [] ≡ label_text g d1 l
      key_is = ap (λ (cs : List (List ℕ)). get_or cs l []) labels_are

      -- what is told of the feature, by the form of its type
      here : (typing : Typing) (type : Shape) (member : IsTypedMember g.table u shared sorts.Feature which typing f) → member.type ≡ type → IsType type × IsTold g a k v f type
      here typing type member same_type = (
        subst IsType same_type (told.feature_type g words a u h which typing f within member),
        subst (IsTold g a k v f) same_type (told.told g words a u h which typing f within member v node),
      )

      map_has : (el : Element) (member : IsTypedMember g.table u shared sorts.Feature which (typings.Map nth.First el) f) (value : Shape) → member.type ≡ mapping (domain keys) value → IsSetOf (IsElementOf labels shared el) value
          → HasRow (InMap g words a u k key v (label_text g d1 l)) (element value) (rows v j l)
      map_has el member value same_type sets =
          let P : Shape → Type 0 = IsElementOf labels shared el in
          let type : Shape = mapping (domain keys) value in
          let told_so : IsType type × IsTold g a k v f type = here (typings.Map nth.First el) type member same_type in
          let x : IsTold g a k v f type = told_so.1 in
          let said : IsMapRow type (out-Value x.value) keys value l = map_row_is P keys value (out-Value x.value) l sets told_so.0.0.1 key_within x.right x.filled in
          record {
            small = element_small P value sets told_so.0.1.1;
            below = subst (AllBelow (count (element value))) (sym (row_is l v type node x)) said.below;
            names = λ texts. feature_says (λ s y. IsMemberAt s y (label_text g d1 l) texts) (λ ns. Names (element value) ns texts) l v type node x
                (subst (λ (c : List ℕ). IsMemberAt type (out-Value x.value) c texts ↔ Names (element value) (get_or (rows_in (out-Value x.value)) l []) texts) key_is (said.names texts));
          }

      valency_has : (member : IsTypedMember g.table u shared sorts.Feature which (typings.Valency nth.First) f) (number : ℕ) → Allows g words a u k key v (label_text g d1 l) number ↔ Contains (rows v j l) number
      valency_has member number =
          let type : Shape = valency (domain keys) in
          let told_so : IsType type × IsTold g a k v f type = here (typings.Valency nth.First) type member member.wanted in
          let x : IsTold g a k v f type = told_so.1 in
          feature_says (λ s y. IsAllowedAt s y (label_text g d1 l) number) (λ ns. Contains ns number) l v type node x
          (subst (λ (c : List ℕ). IsAllowedAt type (out-Value x.value) c number ↔ Contains (get_or (rows_in (out-Value x.value)) l []) number) key_is
          (valency_allows keys (out-Value x.value) l number told_so.0.1 key_within x.right x.filled))

  -- ---- names of labels

  labels_first : labels nth.First ≡ (dimension g d1).labels
  labels_first = told.labels_are g words a u h nth.First some_dim

  labels_second : 1 < length u.dims → labels nth.Second ≡ (dimension g d2).labels
  labels_second two = told.labels_are g words a u h nth.Second two

  label_named : (k l : ℕ) → k < L1 → l < L1 → (label_text g d1 k ≡ label_text g d1 l) ↔ (k ≡ l)
  label_named k l here there = (
    λ e. one_place (dimension g d1).labels k l (told.kept_dim g words a u h 0 some_dim).labels here there e,
    λ e. ap (label_text g d1) e,
  )

  by_name : (x l v : ℕ) → l < L1 → HasDaughter g words a u x (label_text g d1 l) v ↔ IsDaughterBy E1 x l v
  by_name x l v label = kept.any_same (λ e. (e.mother.0 ≡ x) × (label_text g d1 e.label.0 ≡ label_text g d1 l) × (e.daughter.0 ≡ v)) (λ e. (e.mother.0 ≡ x) × (e.label.0 ≡ l) × (e.daughter.0 ≡ v)) E1 (λ e is.
      let same = label_named e.label.0 l (within_first.label e is) label in (
        λ p. (p.0, same.0 p.1, p.2),
        λ p. (p.0, same.1 p.1, p.2),
      ))

  truth_same : (key : List ℕ) (j : ℕ) (b : Bool) (xs : List Arg) → u.args ≡ xs → argument u key ≡ Some (arg.Truth b) → truth_of (flat_map truths_in xs) j ≡ b → Is g words a u key ↔ (truth_of G.truths j ≡ true)
  truth_same key j b xs same under at =
      let is : truth_of G.truths j ≡ b = ap (λ (ys : List Arg). truth_of (flat_map truths_in ys) j) same ∙ at in (
        λ h. is ∙ same_truth b (sym under ∙ h),
        λ h. under ∙ ap (λ (c : Bool). Some (arg.Truth c)) (sym is ∙ h),
      )

  -- ---- conditions

  abbrev on_second : List Edge
  on_second = edges_on (second_dim G) a.edges

  cycle_kept : NoCycle g words a u ↔ C conditions.Cycle
  cycle_kept = kept.cycle_at (compiled g words) G cs a.attrs a.edges E1 on_second L1 first_is refl labels_count

  roots_kept : OneRoot g words a u ↔ C conditions.Roots
  roots_kept = kept.roots_at (compiled g words) G cs a.attrs a.edges E1 on_second L1 first_is refl labels_count

  mothers_kept : OneMother g words a u ↔ C conditions.Mothers
  mothers_kept = kept.mothers_at (compiled g words) G cs a.attrs a.edges E1 on_second L1 first_is refl labels_count

  pair_kept : OneLabel g words a u ↔ C conditions.Pair
  pair_kept = kept.pair_at (compiled g words) G cs a.attrs a.edges E1 on_second L1 first_is refl labels_count

  between_kept : Projective g words a u ↔ C conditions.Between
  between_kept = kept.between_at (compiled g words) G cs a.attrs a.edges E1 on_second L1 first_is refl labels_count within_first

  below_kept : 1 < length u.dims → Climbs g words a u ↔ C conditions.Below
  below_kept two = kept.below_at (compiled g words) G cs a.attrs a.edges E1 E2 L1 first_is (second_is two) labels_count

  -- how an argument that is a map goes with the label of an edge on D1
  some_curried : (M : List (List ℕ) → Type 0) (B : Type 0) → ((some : List (List ℕ)) → M some → B) ↔ (((some : List (List ℕ)) × M some) → B)
  some_curried M B = (λ f p. f p.0 p.1, λ f s m. f (s, m))

  map_asks : (M : List (List ℕ) → Type 0) (s : Shape) (row : List ℕ) (A B : Type 0) → HasRow M s row → A ↔ B → ((some : List (List ℕ)) → M some → A) ↔ (0 < length row → B)
  map_asks M s row A B has same =
      both_steps (some_curried M A) (kept.where_some ((some : List (List ℕ)) × M some) row A B (some_is M s row has) same)

  -- ---- principle by principle

  abbrev Same : Principle → Type 0
  Same q = u.principle ≡ q → Asks g words a u q ↔ All C (conditions_for q G.truths)

  tree : Same principles.Tree
  tree named =
      let all = three_kept C conditions.Cycle conditions.Roots conditions.Mothers in (
        λ p. all.0 (cycle_kept.0 p.0, roots_kept.0 p.1, mothers_kept.0 p.2),
        λ p. (let k = all.1 p in (cycle_kept.1 k.0, roots_kept.1 k.1, mothers_kept.1 k.2)),
      )

  dag : Same principles.Dag
  dag named =
      let t = takes (form_of principles.Dag) (ap form_of named) in
      let connected = truth_same (codes "Connected") 0 t.all.0 _ t.args (t.under (codes "Connected")) refl in
      let disjoint = truth_same (codes "DisjointDaughters") 1 t.all.1.0 _ t.args (t.under (codes "DisjointDaughters")) refl in
      let all = chosen_kept C (truth_of G.truths 0) (truth_of G.truths 1) conditions.Cycle conditions.Roots conditions.Pair in (
        λ p. all.0 (cycle_kept.0 p.0, λ e. roots_kept.0 (p.1 (connected.1 e)), λ e. pair_kept.0 (p.2 (disjoint.1 e))),
        λ p. (let k = all.1 p in (cycle_kept.1 k.0, λ e. roots_kept.1 (k.1 (connected.0 e)), λ e. pair_kept.1 (k.2 (disjoint.0 e)))),
      )

  valency_same : Same principles.Valency
  valency_same named =
      let t = takes (form_of principles.Valency) (ap form_of named) in
      let into = kept.in_at (compiled g words) G cs a.attrs a.edges E1 on_second L1 first_is refl labels_count (λ v l k. Allows g words a u d1 (codes "In") v (label_text g d1 l) k)
      (λ v node l label k. valency_has nth.First some_dim (ap feature_dim named) _ t.args 0 t.all.0.0 refl (codes "In") (t.under (codes "In")) labels_first l v label node t.all.0.1 k) in
      let out = kept.out_at (compiled g words) G cs a.attrs a.edges E1 on_second L1 first_is refl labels_count (λ v l k. Allows g words a u d1 (codes "Out") v (label_text g d1 l) k)
      (λ v node l label k. valency_has nth.First some_dim (ap feature_dim named) _ t.args 1 t.all.1.0.0 refl (codes "Out") (t.under (codes "Out")) labels_first l v label node t.all.1.0.1 k) in
      let all = two_kept C conditions.InCount conditions.OutCount in (
        λ p. all.0 (into.0 p.0, out.0 p.1),
        λ p. (let k = all.1 p in (into.1 k.0, out.1 k.1)),
      )

  -- the attribute that an argument names
  attr_is : (j : ℕ) (args : List Arg) → u.args ≡ args → attr_of G j ≡ (get_or (flat_map attrs_in args) j (record { 0 = 0 })).0
  attr_is j args same = ap (λ (xs : List AttrId). (get_or xs j (record { 0 = 0 })).0) (ap (flat_map attrs_in) same)

  -- a principle with one condition
  one : (A : Type 0) (condition : Condition) → A ↔ C condition → A ↔ All C (condition ∷ [])
  one A condition same = both_steps same (one_kept C condition)

  -- the value of an attribute of the shared type is among those of a row of that type
  value_in : (i : ℕ) (member : IsTypedMember g.table u shared sorts.Attribute nth.First (typings.One elements.Shared) i) (key : List ℕ) (v : ℕ) → v < n → attr_of G 0 ≡ i → argument u key ≡ Some (arg.Attr i)
      → (M : List (List ℕ) → Type 0) (s : Shape) (row : List ℕ) → HasRow M s row → IsSame shared s → M (attribute g words a u d1 key v) ↔ Contains row (kept.value (compiled g words) G cs a.attrs a.edges v 0)
  value_in i member key v node at under M s row has s_same =
      let m : ℕ = number (typings.One elements.Shared) i member v in
      let texts = text_is (typings.One elements.Shared) i member key v under ∙ shared_texts shared member.type s m member.wanted s_same in
      let below : m < count s = subst (λ k. m < k) (shared_count shared member.type s member.wanted s_same) (number_below (typings.One elements.Shared) i member v node) in
      subst (λ k. M (attribute g words a u d1 key v) ↔ Contains row k) (sym (value_is (typings.One elements.Shared) i member 0 v at)) (member_is M s row (attribute g words a u d1 key v) m has below texts)

  agr : Same principles.Agr
  agr named =
      let t = takes (form_of principles.Agr) (ap form_of named) in
      let x = t.all.0 in
      let y = t.all.1.0 in
      one (Agrees g words a u) conditions.Agr
      (kept.agr_same (compiled g words) G cs a.attrs a.edges (λ v. InSet g words a u d1 (codes "Agrs") v (attribute g words a u d1 (codes "Agr") v)) (λ v node.
      value_in x.0 x.1 (codes "Agr") v node (attr_is 0 _ t.args) (t.under (codes "Agr")) (InSet g words a u d1 (codes "Agrs") v) (element y.1.type) (rows v 0 0)
      (set_has nth.First some_dim (ap feature_dim named) _ t.args 0 y.0 refl (codes "Agrs") (t.under (codes "Agrs")) elements.Shared y.1 v node)
      (element_right (IsElementOf labels shared elements.Shared) y.1.type y.1.wanted)))

  agreement : Same principles.Agreement
  agreement named =
      let shares : Typing = typings.One elements.Shared in
      let t = takes (form_of principles.Agreement) (ap form_of named) in
      let x = t.all.0 in
      let y = t.all.1.0 in
      let z = t.all.1.1.0 in
      one (AgreesAlong g words a u) conditions.Agree
      (kept.agree_at (compiled g words) G cs a.attrs a.edges E1 on_second L1 first_is refl labels_count
      (λ f. InSet g words a u d1 (codes "Agree") f.mother.0 (label_text g d1 f.label.0 ∷ []) → attribute g words a u d1 (codes "Agr1") f.mother.0 ≡ attribute g words a u d1 (codes "Agr2") f.daughter.0) within_first (λ f is.
      let node = within_first.mother f is in
      let has = set_has nth.First some_dim (ap feature_dim named) _ t.args 0 z.0 refl (codes "Agree") (t.under (codes "Agree")) (elements.Labels nth.First) z.1 f.mother.0 node in
      let member = label_is labels shared nth.First (InSet g words a u d1 (codes "Agree") f.mother.0) (element z.1.type) (rows f.mother.0 0 0) (dimension g d1).labels f.label.0 has
      (element_right (IsElementOf labels shared (elements.Labels nth.First)) z.1.type z.1.wanted) labels_first (within_first.label f is) in
      let m : ℕ = number shares x.0 x.1 f.mother.0 in
      let k : ℕ = number shares y.0 y.1 f.daughter.0 in
      let one_text = text_is shares x.0 x.1 (codes "Agr1") f.mother.0 (t.under (codes "Agr1")) in
      let two_text = text_is shares y.0 y.1 (codes "Agr2") f.daughter.0 (t.under (codes "Agr2")) ∙ shared_texts shared y.1.type x.1.type k y.1.wanted x.1.wanted in
      let k_below : k < count x.1.type = subst (λ b. k < b) (shared_count shared y.1.type x.1.type y.1.wanted x.1.wanted) (number_below shares y.0 y.1 f.daughter.0 (within_first.daughter f is)) in
      let first_value = value_is shares x.0 x.1 0 f.mother.0 (attr_is 0 _ t.args) in
      let second_value = value_is shares y.0 y.1 1 f.daughter.0 (attr_is 1 _ t.args) in (
        λ p c. first_value ∙ same_number x.1.type m k (type_small shares x.0 x.1) (number_below shares x.0 x.1 f.mother.0 node) k_below (sym one_text ∙ p (member.1 c) ∙ two_text) ∙ sym second_value,
        λ p i. one_text ∙ ap (value_texts x.1.type) (sym first_value ∙ p (member.0 i) ∙ second_value) ∙ sym two_text,
      )))

  government : Same principles.Government
  government named =
      let t = takes (form_of principles.Government) (ap form_of named) in
      let x = t.all.0 in
      let y = t.all.1.0 in
      let parts = map_parts (IsElementOf labels shared elements.Shared) (labels nth.First) y.1.type y.1.wanted in
      one (Governs g words a u) conditions.Govern
      (kept.govern_at (compiled g words) G cs a.attrs a.edges E1 on_second L1 first_is refl labels_count
      (λ f. (some : List (List ℕ)) → InMap g words a u d1 (codes "Govern") f.mother.0 (label_text g d1 f.label.0) some
      → InMap g words a u d1 (codes "Govern") f.mother.0 (label_text g d1 f.label.0) (attribute g words a u d1 (codes "Agr") f.daughter.0)) within_first (λ f is.
      let row : List ℕ = rows f.mother.0 0 f.label.0 in
      let M : List (List ℕ) → Type 0 = InMap g words a u d1 (codes "Govern") f.mother.0 (label_text g d1 f.label.0) in
      let has = map_has nth.First some_dim (ap feature_dim named) _ t.args 0 y.0 refl (codes "Govern") (t.under (codes "Govern")) labels_first f.label.0 f.mother.0
      (within_first.label f is) (within_first.mother f is) elements.Shared y.1 parts.0 parts.1 parts.2 in
      map_asks M (element parts.0) row (M (attribute g words a u d1 (codes "Agr") f.daughter.0)) (Contains row (kept.value (compiled g words) G cs a.attrs a.edges f.daughter.0 0)) has
      (value_in x.0 x.1 (codes "Agr") f.daughter.0 (within_first.daughter f is) (attr_is 0 _ t.args) (t.under (codes "Agr")) M (element parts.0) row has
      (element_right (IsElementOf labels shared elements.Shared) parts.0 parts.2))))

  order_same : Same principles.Order
  order_same named =
      let of_label : Typing = typings.One (elements.Labels nth.First) in
      let t = takes (form_of principles.Order) (ap form_of named) in
      let x = t.all.0 in
      let y = t.all.1.0 in
      let z : Bool = t.all.1.1.0 in
      let yields = truth_same (codes "Yields") 0 z _ t.args (t.under (codes "Yields")) refl in
      let small : All (λ k. k < L1) x.0 = small_places L1 x.0 (subst (λ (all : List (List ℕ)). ArePlaces (length all) x.0) labels_first x.1) in
      let listed : order_of G ≡ x.0 = ap (λ (ys : List Arg). map (λ (l : LabelId). l.0) (flat_map labels_in ys)) t.args ∙ labels_back x.0 in
      let named_order : label_places (argument u (codes "Order")) ≡ x.0 = ap label_places (t.under (codes "Order")) in
      let I : ℕ → List ℕ → ℕ → Type 0 = InItem g words a u in
      let J : ℕ → ℕ → ℕ → Type 0 = λ v l k. IsInItem E1 (truth_of G.truths 0 ≡ true) (kept.value (compiled g words) G cs a.attrs a.edges v 0) v l k in
      one (Ordered g words a u) conditions.Order
      (kept.order_at (compiled g words) G cs a.attrs a.edges E1 on_second L1 first_is refl labels_count (λ v i j. AllPairs (λ l k. I v l i → I v k j → i < j) (order g words a u)) (λ v node i _ j _.
      subst (λ (ks : List ℕ). AllPairs (λ l k. I v l i → I v k j → i < j) (map (label_text g d1) ks) ↔ AllPairs (λ l k. J v l i → J v k j → i < j) (order_of G)) (sym named_order)
      (subst (λ (ks : List ℕ). AllPairs (λ l k. I v l i → I v k j → i < j) (map (label_text g d1) x.0) ↔ AllPairs (λ l k. J v l i → J v k j → i < j) ks) (sym listed)
      (kept.pairs_named (label_text g d1) x.0 L1 (I v) (J v) i j small (λ l label k.
      let m : ℕ = number of_label y.0 y.1 v in
      let text : attribute g words a u d1 (codes "On") v ≡ value_texts y.1.type m = text_is of_label y.0 y.1 (codes "On") v (t.under (codes "On")) in
      let own : label_text g d1 l ∷ [] ≡ value_texts y.1.type l = label_texts labels shared nth.First y.1.type (dimension g d1).labels l y.1.wanted labels_first in
      let value = value_is of_label y.0 y.1 0 v (attr_is 0 _ t.args) in
      let l_below : l < count y.1.type = subst (λ b. l < b) (sym (label_count_is labels shared nth.First y.1.type (dimension g d1).labels y.1.wanted labels_first)) label in
      let m_below = number_below of_label y.0 y.1 v node in (
        λ p. elim p [
          | inl r ↦ inl (same_number y.1.type l m (type_small of_label y.0 y.1) l_below m_below (sym own ∙ sym r.0 ∙ text) ∙ sym value, r.1)
          | inr r ↦ inr (elim r [
            | inl s ↦ inl ((by_name v l k label).0 s)
            | inr s ↦ inr (yields.0 s.0, (s.1.0, (by_name v l s.1.0 label).0 s.1.1, s.1.2))
          ])
        ],
        λ p. elim p [
          | inl r ↦ inl (text ∙ ap (value_texts y.1.type) (sym value ∙ sym r.0) ∙ sym own, r.1)
          | inr r ↦ inr (elim r [
            | inl s ↦ inl ((by_name v l k label).1 s)
            | inr s ↦ inr (yields.1 s.0, (s.1.0, (by_name v l s.1.0 label).1 s.1.1, s.1.2))
          ])
        ],
      ))))))

  barriers : Same principles.Barriers
  barriers named =
      let t = takes (form_of principles.Barriers) (ap form_of named) in
      let two : 1 < length u.dims = omega (arith, t.count) in
      let x = t.all.0 in
      one (Blocked g words a u) conditions.Blocked
      (kept.blocked_at (compiled g words) G cs a.attrs a.edges E1 E2 L1 first_is (second_is two) labels_count (λ v f. InSet g words a u d2 (codes "Blocks") v (label_text g d2 f.label.0 ∷ [])) (λ v node f is.
      let has = set_has nth.Second two (ap feature_dim named) _ t.args 0 x.0 refl (codes "Blocks") (t.under (codes "Blocks")) (elements.Labels nth.Second) x.1 v node in
      label_is labels shared nth.Second (InSet g words a u d2 (codes "Blocks") v) (element x.1.type) (rows v 0 0) (dimension g d2).labels f.label.0 has
      (element_right (IsElementOf labels shared (elements.Labels nth.Second)) x.1.type x.1.wanted) (labels_second two) ((told.edges_within g words a u h 1 two).label f is)))

  -- ---- linking

  module _ (q : Principle) (named : u.principle ≡ q) (typing : Typing) (formed : form_of q ≡ linking typing) (third : feature_dim q ≡ 2) where
    taken : Takes (linking typing)
    taken = takes (linking typing) (ap form_of named ∙ formed)

    three : 2 < length u.dims
    three = omega (arith, taken.count)

    two : 1 < length u.dims
    two = omega (arith, three)

    -- what is asked of each edge on D1
    link_kept : (B : Edge → Type 0) → ((f : Edge) → Contains E1 f → B f ↔ AsksLink q G (slice_index cs f.mother.0) E2 f.mother.0 f.label.0 f.daughter.0) → ((f : Edge) → Contains E1 f → B f) ↔ All C (conditions.Link ∷ [])
    link_kept B each = one ((f : Edge) → Contains E1 f → B f) conditions.Link (kept.link_at (compiled g words) G cs a.attrs a.edges E1 E2 L1 first_is (second_is two) labels_count q B named within_first each)

  -- the principles that take a map, by what they ask of an edge on D1
  by_map : (q : Principle) (way : Linking) (named : u.principle ≡ q) → form_of q ≡ linking labels_to_labels → feature_dim q ≡ 2 → (P : Edge → Type 0)
      → ((f : Edge) (row : List ℕ) → ((k : Edge) → Contains E2 k → IsLink g words a u f k ↔ Contains row k.label.0) → P f ↔ IsLinked way E2 f.mother.0 row f.daughter.0)
      → ((c x l v : ℕ) → AsksLink q G c E2 x l v ↔ (0 < length (map_row G x c l) → IsLinked way E2 x (map_row G x c l) v))
      → Linked g words a u P ↔ All C (conditions.Link ∷ [])
  by_map q way named form third P linked asks =
      let t = taken q named labels_to_labels form third in
      let x = t.all.0 in
      let parts = map_parts (IsElementOf labels shared (elements.Labels nth.Second)) (labels nth.First) x.1.type x.1.wanted in
      link_kept q named labels_to_labels form third (λ f. (some : List (List ℕ)) → InMap g words a u (D3 g words a u) (codes "Link") f.mother.0 (label_text g d1 f.label.0) some → P f) (λ f is.
      let row : List ℕ = rows f.mother.0 0 f.label.0 in
      let M : List (List ℕ) → Type 0 = InMap g words a u (D3 g words a u) (codes "Link") f.mother.0 (label_text g d1 f.label.0) in
      let has = map_has nth.Third (three q named labels_to_labels form third) (ap feature_dim named ∙ third) _ t.args 0 x.0 refl (codes "Link") (t.under (codes "Link"))
      labels_first f.label.0 f.mother.0 (within_first.label f is) (within_first.mother f is) (elements.Labels nth.Second) x.1 parts.0 parts.1 parts.2 in
      let each : (k : Edge) → Contains E2 k → IsLink g words a u f k ↔ Contains row k.label.0 = λ k on. label_is labels shared nth.Second M (element parts.0) row (dimension g d2).labels k.label.0 has
      (element_right (IsElementOf labels shared (elements.Labels nth.Second)) parts.0 parts.2) (labels_second (two q named labels_to_labels form third))
      ((told.edges_within g words a u h 1 (two q named labels_to_labels form third)).label k on) in
      let mapped = map_asks M (element parts.0) row (P f) (IsLinked way E2 f.mother.0 row f.daughter.0) has (linked f row each) in
      let asked = asks (slice_index cs f.mother.0) f.mother.0 f.label.0 f.daughter.0 in (
        λ p. asked.1 (mapped.0 p),
        λ p. mapped.1 (asked.0 p),
      ))

  linking_not_daughter : Same principles.LinkingNotDaughter
  linking_not_daughter named =
      let q = principles.LinkingNotDaughter in
      let typing : Typing = typings.Set (elements.Labels nth.First) in
      let t = taken q named typing refl refl in
      let x = t.all.0 in
      link_kept q named typing refl refl (λ f. InSet g words a u (D3 g words a u) (codes "Link") f.mother.0 (label_text g d1 f.label.0 ∷ []) → IsDaughter E2 f.mother.0 f.daughter.0 → ⊥) (λ f is.
      let has = set_has nth.Third (three q named typing refl refl) (ap feature_dim named) _ t.args 0 x.0 refl (codes "Link") (t.under (codes "Link")) (elements.Labels nth.First) x.1 f.mother.0 (within_first.mother f is) in
      let member = label_is labels shared nth.First (InSet g words a u (D3 g words a u) (codes "Link") f.mother.0) (element x.1.type) (rows f.mother.0 0 0) (dimension g d1).labels f.label.0 has
      (element_right (IsElementOf labels shared (elements.Labels nth.First)) x.1.type x.1.wanted) labels_first (within_first.label f is) in (
        λ p c. p (member.1 c),
        λ p i. p (member.0 i),
      ))

  -- ---- all

  same_for : (q : Principle) → Same q
  same_for principles.Graph named = none_kept C
  same_for principles.Entries named = none_kept C
  same_for principles.Tree named = tree named
  same_for principles.Dag named = dag named
  same_for principles.Valency named = valency_same named
  same_for principles.Order named = order_same named
  same_for principles.Projectivity named = one (Projective g words a u) conditions.Between between_kept
  same_for principles.Agr named = agr named
  same_for principles.Agreement named = agreement named
  same_for principles.Government named = government named
  same_for principles.Climbing named = one (Climbs g words a u) conditions.Below (below_kept (omega (arith, (takes (form_of principles.Climbing) (ap form_of named)).count)))
  same_for principles.Barriers named = barriers named
  same_for principles.LinkingEnd named = by_map principles.LinkingEnd linkings.End named refl refl (λ f. Any (λ k. (k.daughter.0 ≡ f.daughter.0) × IsLink g words a u f k) E2)
      (λ f row same. kept.end_linked E2 (IsLink g words a u f) row same f.mother.0 f.daughter.0) (λ c x l v. (λ p. p, λ p. p))
  same_for principles.LinkingDaughter named = by_map principles.LinkingDaughter linkings.Daughter named refl refl (λ f. HasLink g words a u f f.mother.0 f.daughter.0)
      (λ f row same. kept.by_daughter E2 (IsLink g words a u f) row same f.mother.0 f.daughter.0) (λ c x l v. (λ p. p, λ p. p))
  same_for principles.LinkingMother named = by_map principles.LinkingMother linkings.Mother named refl refl (λ f. HasLink g words a u f f.daughter.0 f.mother.0)
      (λ f row same. kept.by_daughter E2 (IsLink g words a u f) row same f.daughter.0 f.mother.0) (λ c x l v. (λ p. p, λ p. p))
  same_for principles.LinkingBelowStart named = by_map principles.LinkingBelowStart linkings.BelowStart named refl refl (λ f. StartsBy E2 f.mother.0 (IsLink g words a u f) f.daughter.0)
      (λ f row same. kept.starts_same E2 (IsLink g words a u f) row f.mother.0 f.daughter.0 same) (λ c x l v. (λ p. p, λ p. p))
  same_for principles.LinkingAboveStart named = by_map principles.LinkingAboveStart linkings.AboveStart named refl refl (λ f. StartsBy E2 f.daughter.0 (IsLink g words a u f) f.mother.0)
      (λ f row same. kept.starts_same E2 (IsLink g words a u f) row f.daughter.0 f.mother.0 same) (λ c x l v. (λ p. p, λ p. p))
  same_for principles.LinkingSisters named = by_map principles.LinkingSisters linkings.Sisters named refl refl (λ f. Any (λ k. (k.daughter.0 ≡ f.mother.0) × HasLink g words a u f k.mother.0 f.daughter.0) E2)
      (λ f row same. kept.sisters_linked E2 (IsLink g words a u f) row same f.mother.0 f.daughter.0) (λ c x l v. (λ p. p, λ p. p))
  same_for principles.LinkingNotDaughter named = linking_not_daughter named
  same_for (principles.Rule formula) named = absurd (subst IsOfTexts named h.right.of_texts)
  same_for (principles.Bound costs bound) named = absurd (subst IsOfTexts named h.right.of_texts)

  -- the use is satisfied exactly where the relation of its group holds
  pub satisfied_same : Satisfies g words a u ↔ Relation (compiled g words) G a
  satisfied_same = same_for u.principle refl
