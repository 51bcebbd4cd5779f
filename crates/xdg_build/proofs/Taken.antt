-- What each principle takes, compiled: the group of a use is right over parts that suit it.
use Rattle.std.proofs.Common.{◌≡◌, ℕ, ◌<◌, true, List, [], ◌∷◌, length, get_or, map, refl, sym, ap, ◌∙◌, subst, arith}
use Rattle.std.specs.Prelude.{All, flat_map, slice_get}
use Rattle.std.proofs.lemmas.List.{length-map, get_or-map}
use Rattle.std.proofs.lemmas.List.Elements.{All-map}
use Rattle.std.proofs.lemmas.Option.{slice_get_within}
use Rattle.xdg_base.specs.declared.ids.AttrId.{AttrId}
use Rattle.xdg_base.specs.declared.ids.DimId.{DimId}
use Rattle.xdg_base.specs.declared.ids.EntryNo.{EntryNo}
use Rattle.xdg_domain.specs.Shapes.{Shape, shape, count}
use Rattle.xdg_packed.specs.Entries.{IsRightLexicon, IsEntry}
use Rattle.xdg_packed.specs.Lexicon.{Entry}
use Rattle.xdg_principles.specs.declared.building.Arg.{Arg}
use Rattle.xdg_principles.specs.declared.building.PrincipleUse.{PrincipleUse}
use Rattle.xdg_problem.specs.declared.forms.Element.TheVariants as e
use Rattle.xdg_problem.specs.declared.forms.Sort.TheVariants as s
use Rattle.xdg_problem.specs.declared.forms.Typing.{Typing}
use Rattle.xdg_problem.specs.declared.forms.Typing.TheVariants as t
use Rattle.xdg_problem.specs.declared.forms.Wanted.TheVariants as a
use Rattle.xdg_problem.specs.declared.forms.Which.{Which}
use Rattle.xdg_problem.specs.declared.forms.Which.TheVariants as w
use Rattle.xdg_problem.specs.Forms.{dims_in, form_of, parameters}
use Rattle.xdg_principles.specs.Typed.{IsTypedUse, number_of, labels_at, members_at}
use Rattle.xdg_problem.specs.declared.parts.Feat.{Feat}
use Rattle.xdg_problem.specs.declared.parts.Group.{Group}
use Rattle.xdg_problem.specs.declared.parts.Parts.{Parts}
use Rattle.xdg_problem.specs.declared.parts.Principle.{Principle}
use Rattle.xdg_problem.specs.declared.parts.Principle.TheVariants as principles
use Rattle.xdg_problem.specs.Arguments.{label_count, attr_count, value_count}
use Rattle.xdg_problem.specs.Names.{IsOfTexts}
use Rattle.xdg_problem.specs.Places.{nodes}
use Rattle.xdg_problem.specs.Principles.{IsValency, IsSet, AreSets, IsOneOfSets, IsOrderFor, AreFeatures, attr_arguments, truth_arguments, feature_dim}
use Rattle.xdg_problem.specs.Problems.{IsGroup, IsSuited}
use Rattle.xdg_build.specs.Features.{feature}
use Rattle.xdg_build.specs.Grammars.{Grammar, is_used, used_place}
use Rattle.xdg_build.specs.Groups.{attrs_in, labels_in, truths_in, features_in, dims_of, group_of}
use Rattle.xdg_build.specs.Suits.{Suits}
use Rattle.xdg_build.proofs.Dimensions.{Home, home_of, below_at, is_used_home, labels-home, members-home}
use Rattle.xdg_build.proofs.Forms.{dims_wanted, first_within}
use Rattle.xdg_build.proofs.Listed.{order_right}
use Rattle.xdg_build.proofs.Said.{feature_fits}
use Rattle.xdg_packed.proofs.OfTable.{entry_at}
use Rattle.xdg_build.proofs.TypedArguments.{Named, AllNamed, args_of, all_named, wanted_by}
use Rattle.xdg_build.proofs.TypeRows.{RowsFit, same_count}
use Rattle.xdg_facts.proofs.In.{in_get}
use Rattle.xdg_facts.proofs.Lists.{all_none, all_one, all_two}

abbrev pub dim_id : ℕ → DimId
dim_id k = record { 0 = k }

one_of_sets : (rows bound many size : ℕ) (f : Feat) → rows ≡ many → bound ≡ size → (length f.rows ≡ many) × All (IsSet size) f.rows → IsOneOfSets rows bound (f ∷ [])
one_of_sets rows bound many size f long same h = (refl, all_one (AreSets rows bound) f (record { count = h.0 ∙ sym long; each = subst (λ b. All (IsSet b) f.rows) (sym same) h.1 }))

module _ (g : Grammar) (candidates : List (List EntryNo)) (parts : Parts) (u : PrincipleUse) (typed_so : IsTypedUse g.table u) (used : is_used g.table u.home ≡ true) (suits : Suits g candidates parts) where
  abbrev shared : Shape
  shared = typed_so.shared

  -- what the arguments of a principle name
  abbrev pub Taken : Principle → Type 0
  Taken p = AllNamed g.table u shared (wanted_by (form_of p))

  abbrev pub arguments : (p : Principle) → Taken p → List Arg
  arguments p xs = args_of g.table u shared (wanted_by (form_of p)) xs

  -- what the principle takes of an entry, and its group over the candidates
  abbrev pub features_for : Principle → List Arg → Entry → List Feat
  features_for p xs entry = map (λ place. feature g.table entry (get_or u.dims (feature_dim p) 0) place) (flat_map features_in xs)

  abbrev pub group_for : Principle → List Arg → Group
  group_for p xs = record {
    principle = p;
    dims = dims_of g u;
    attrs = flat_map attrs_in xs;
    order = flat_map labels_in xs;
    truths = flat_map truths_in xs;
    feats = map (λ numbers. map (λ (entry : EntryNo). features_for p xs (get_or g.lexicon.entries entry.0 [])) numbers) candidates;
  }

  -- ---- dimensions

  -- the dimension with that number, compiled
  abbrev pub dim : ℕ → ℕ
  dim n = (get_or (dims_of g u) n (dim_id 0)).0

  pub some_dim : 0 < length u.dims
  some_dim = omega (arith, typed_so.count, first_within u.principle)

  module _ (which : Which) (within : number_of which < length u.dims) where
    pub home : Home g.table (get_or u.dims (number_of which) 0)
    home = home_of g.table u typed_so used (number_of which) within

    id_at : dim (number_of which) ≡ used_place g.table (get_or u.dims (number_of which) 0)
    id_at = ap (λ (x : DimId). x.0) (get_or-map (λ k. dim_id (used_place g.table k)) u.dims (number_of which) 0 (dim_id 0) within)

    pub labels_size : label_count parts (dim (number_of which)) ≡ length (labels_at g.table u which)
    labels_size =
        ap (λ d. label_count parts d) id_at ∙ suits.labels (used_place g.table (get_or u.dims (number_of which) 0)) home.dim (is_used_home g.table (get_or u.dims (number_of which) 0) home)
        ∙ ap length (sym (labels-home g.table u which within home))

  -- ---- attributes

  abbrev first : ℕ
  first = used_place g.table (get_or u.dims 0 0)

  at_home : Home g.table (get_or u.dims 0 0)
  at_home = home w.First some_dim

  attr_below : (typing : Typing) (x : Named g.table u shared (a.Member s.Attribute w.First typing)) → x.0 < attr_count parts (dim 0)
  attr_below typing x =
      let within : x.0 < length (members_at g.table u s.Attribute w.First) = slice_get_within (members_at g.table u s.Attribute w.First) x.0 (x.1.name, x.1.type) x.1.stands in
      let size = ap length (members-home g.table u s.Attribute w.First some_dim at_home) ∙ length-map at_home.dim.attrs (λ one. (one.0, shape one.1)) in
      let many = ap (λ d. attr_count parts d) (id_at w.First some_dim) ∙ suits.attrs first at_home.dim (is_used_home g.table (get_or u.dims 0 0) at_home) in
      subst (λ n. x.0 < n) (size ∙ sym many) within

  value_size : (x : Named g.table u shared (a.Member s.Attribute w.First (t.One e.Shared))) → value_count parts (dim 0) x.0 ≡ count shared
  value_size x =
      ap (λ d. value_count parts d x.0) (id_at w.First some_dim)
      ∙ suits.values first at_home.dim (is_used_home g.table (get_or u.dims 0 0) at_home) x.0 x.1.name x.1.type (sym (ap (λ all. slice_get all x.0) (members-home g.table u s.Attribute w.First some_dim at_home)) ∙ x.1.stands)
      ∙ same_count shared x.1.type x.1.wanted

  pub attrs_right : (p : Principle) (xs : Taken p) → All (λ attr. attr.0 < attr_count parts (dim 0)) (flat_map attrs_in (arguments p xs))
  attrs_right principles.Order xs = all_one (λ (attr : AttrId). attr.0 < attr_count parts (dim 0)) (record { 0 = xs.1.0.0 }) (attr_below (t.One (e.Labels w.First)) xs.1.0)
  attrs_right principles.Agr xs = all_one (λ (attr : AttrId). attr.0 < attr_count parts (dim 0)) (record { 0 = xs.0.0 }) (attr_below (t.One e.Shared) xs.0)
  attrs_right principles.Agreement xs =
      all_two (λ (attr : AttrId). attr.0 < attr_count parts (dim 0)) (record { 0 = xs.0.0 }) (record { 0 = xs.1.0.0 }) (attr_below (t.One e.Shared) xs.0) (attr_below (t.One e.Shared) xs.1.0)
  attrs_right principles.Government xs = all_one (λ (attr : AttrId). attr.0 < attr_count parts (dim 0)) (record { 0 = xs.0.0 }) (attr_below (t.One e.Shared) xs.0)
  attrs_right p xs = all_none (λ (attr : AttrId). attr.0 < attr_count parts (dim 0))

  -- ---- how many

  pub attrs_count : (p : Principle) (xs : Taken p) → length (flat_map attrs_in (arguments p xs)) ≡ attr_arguments p
  attrs_count principles.Graph xs = refl
  attrs_count p xs = refl

  pub truths_count : (p : Principle) (xs : Taken p) → length (flat_map truths_in (arguments p xs)) ≡ truth_arguments p
  truths_count principles.Graph xs = refl
  truths_count p xs = refl

  -- ---- features

  module _ (entry : Entry) (is : IsEntry g.table entry) where
    rows_fit : (which : Which) (typing : Typing) (within : number_of which < length u.dims) (x : Named g.table u shared (a.Member s.Feature which typing))
        → RowsFit (labels_at g.table u) shared typing (feature g.table entry (get_or u.dims (number_of which) 0) x.0).rows
    rows_fit which typing within x = feature_fits g.table u shared which typing entry x.0 within (home which within) is x.1

    valency_right : (x : Named g.table u shared (a.Member s.Feature w.First (t.Valency w.First))) → IsValency (label_count parts (dim 0)) (feature g.table entry (get_or u.dims 0 0) x.0)
    valency_right x = (let h = rows_fit w.First (t.Valency w.First) some_dim x in record { count = h.0 ∙ sym (labels_size w.First some_dim); rows = h.1 })

    pub features_right : (p : Principle) (xs : Taken p) → length u.dims ≡ length (dims_in (form_of p).dims) → AreFeatures p parts (group_for p (arguments p xs)) (features_for p (arguments p xs) entry)
    features_right principles.Graph xs long = refl
    features_right (principles.Rule formula) xs long = refl
    features_right (principles.Bound costs bound) xs long = refl
    features_right principles.Entries xs long = refl
    features_right principles.Tree xs long = refl
    features_right principles.Projectivity xs long = refl
    features_right principles.Dag xs long = refl
    features_right principles.Order xs long = refl
    features_right principles.Climbing xs long = refl
    features_right principles.Valency xs long = (refl, all_two (IsValency (label_count parts (dim 0))) _ _ (valency_right xs.0) (valency_right xs.1.0))
    features_right principles.Agr xs long = one_of_sets 1 (value_count parts (dim 0) xs.0.0) 1 (count shared) _ refl (value_size xs.0) (rows_fit w.First (t.Set e.Shared) some_dim xs.1.0)
    features_right principles.Agreement xs long = one_of_sets 1 _ 1 _ _ refl (labels_size w.First some_dim) (rows_fit w.First (t.Set (e.Labels w.First)) some_dim xs.1.1.0)
    features_right principles.Government xs long = one_of_sets _ (value_count parts (dim 0) xs.0.0) _ _ _ (labels_size w.First some_dim) (value_size xs.0) (rows_fit w.First (t.Map w.First e.Shared) some_dim xs.1.0)
    features_right principles.Barriers xs long = (let two : 1 < length u.dims = omega (arith, long) in one_of_sets 1 _ 1 _ _ refl (labels_size w.Second two) (rows_fit w.Second (t.Set (e.Labels w.Second)) two xs.0))
    features_right principles.LinkingNotDaughter xs long = (let three : 2 < length u.dims = omega (arith, long) in one_of_sets 1 _ 1 _ _ refl (labels_size w.First some_dim) (rows_fit w.Third (t.Set (e.Labels w.First)) three xs.0))
    features_right p xs long =
        let three : 2 < length u.dims = omega (arith, long) in
        one_of_sets _ _ _ _ _ (labels_size w.First some_dim) (labels_size w.Second (omega (arith, three))) (rows_fit w.Third (t.Map w.First (e.Labels w.Second)) three xs.0)

  -- ---- the group

  abbrev p : Principle
  p = u.principle

  -- a principle of grammar texts holds nothing that has to go with a problem
  suited : (q : Principle) → IsOfTexts q → IsSuited q parts
  suited (principles.Rule formula) of = absurd of
  suited q of = tt

  node : (v : ℕ) → v < nodes parts → v < length candidates
  node v less = omega (arith, less, suits.node_count)

  named : (xs : Taken p) × (u.args ≡ arguments p xs)
  named = all_named g.table u typed_so.shared (parameters (form_of p)) u.args typed_so.args

  abbrev args : List Arg
  args = arguments p named.0

  abbrev group : Group
  group = group_for p args

  abbrev of : EntryNo → List Feat
  of entry = features_for p args (get_or g.lexicon.entries entry.0 [])

  row : (v : ℕ) → v < nodes parts → get_or (map (λ entries. map of entries) candidates) v [] ≡ map of (get_or candidates v [])
  row v less = get_or-map (λ entries. map of entries) candidates v [] [] (node v less)

  pub group_right : IsRightLexicon g.table g.lexicon.entries → All (All (λ entry. entry.0 < length g.lexicon.entries)) candidates → IsGroup parts (group_of g candidates u)
  group_right lexicon within = subst (λ xs. IsGroup parts (group_for p xs)) (sym named.1) (record {
    dims_count = length-map u.dims (λ k. dim_id (used_place g.table k)) ∙ typed_so.count ∙ dims_wanted p typed_so.of_texts;
    dims = All-map (λ (dim : DimId). dim.0 < length parts.dims) (λ k. dim_id (used_place g.table k)) u.dims
        (λ k d less. subst (λ n. used_place g.table (get_or u.dims k d) < n) (sym suits.dim_count) (below_at g.table u typed_so used (get_or u.dims k d) (in_get u.dims k d less)));
    attrs_count = attrs_count p named.0;
    attrs = attrs_right p named.0;
    order = subst (λ n. IsOrderFor p n (flat_map labels_in args)) (sym (labels_size w.First some_dim))
        (order_right p g.table u typed_so.shared named.0);
    truths_count = truths_count p named.0;
    feats = length-map candidates (λ entries. map of entries) ∙ sym suits.node_count;
    feats_each = λ v less. ap length (row v less) ∙ length-map (get_or candidates v []) of ∙ ap (λ all. length (get_or all v [])) (sym suits.candidates);
    features = λ v less. subst (All (AreFeatures p parts group)) (sym (row v less)) (All-map (AreFeatures p parts group) of (get_or candidates v []) (λ k d small.
        let entry : EntryNo = get_or (get_or candidates v []) k d in
        features_right (get_or g.lexicon.entries entry.0 []) (entry_at g.table g.lexicon.entries entry.0 _ lexicon.entries (within v [] (node v less) k d small) refl) p named.0 typed_so.count));
    suits = suited p typed_so.of_texts;
  })
