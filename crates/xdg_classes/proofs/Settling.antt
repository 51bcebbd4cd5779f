-- What is collected of a class is what is wanted of its parameters.
use Rattle.std.proofs.Common.{◌≡◌, inl, inr, ℕ, suc, ◌+◌, ◌<◌, Bool, true, false, List, [], ◌∷◌, length, map, slice_set, Option, Some, None, refl, sym, ap, ◌∙◌, subst, arith}
use Rattle.std.specs.Prelude.{◌↔◌, bytes_eq, if◌then◌else◌, option_map, slice_get, slice_index_or}
use Rattle.std.specs.List.{flat_map}
use Rattle.std.proofs.lemmas.Bool.{true≢false, cases_eq}
use Rattle.std.proofs.lemmas.List.{length-map}
use Rattle.std.proofs.lemmas.Option.{slice_get-map, slice_get_within, get_or_from_slice_get}
use Rattle.xdg_ast.specs.declared.names.Name.{Name}
use Rattle.xdg_ast.specs.declared.names.Pair.{Pair}
use Rattle.xdg_names.specs.Texts.{has_text, place_of}
use Rattle.xdg_names.proofs.Texts.{place_of-Some, place_of-None, among_has}
use Rattle.xdg_domain.specs.Shapes.{Shape}
use Rattle.xdg_names.specs.Leads.{number, uses_of}
use Rattle.xdg_names.specs.declared.graph.Use.{Use}
use Rattle.xdg_terms.specs.Wanted.{params_in}
use Rattle.xdg_types.specs.Answers.{None_of}
use Rattle.xdg_types.specs.Graph.{use_of, use_at}
use Rattle.xdg_ast.specs.Misnamed.{IsTwice}
use Rattle.xdg_types.specs.Parts.{Statement}
use Rattle.xdg_types.specs.Table.{Table, dim_named}
use Rattle.xdg_types.specs.declared.table.DimType.{DimType}
use Rattle.xdg_types.proofs.Elements.{in_texts}
use Rattle.xdg_types.proofs.NamesAgain.{once_differ}
use Rattle.xdg_classes.specs.Bodies.{Term, Body, body, Said, Called, records, calls}
use Rattle.xdg_classes.specs.Definitions.{ClassDef, classes, class_names, param_names}
use Rattle.xdg_classes.specs.Graph.{class_graph, class_uses}
use Rattle.xdg_classes.specs.Lent.{class_def}
use Rattle.xdg_classes.specs.Names.{once}
use Rattle.xdg_classes.specs.declared.definitions.ClassDef.{ClassDef as LentClass}
use Rattle.xdg_classes.specs.declared.lookup.Classes.{Classes}
use Rattle.xdg_classes.specs.declared.features.Features.{Features}
use Rattle.xdg_classes.specs.declared.wanted.WantedTypes.{WantedTypes}
use Rattle.xdg_classes.specs.Given.{given, given_in, at_place, told}
use Rattle.xdg_classes.specs.Wants.{NamedBody, named, named_bodies, feature_in, feature_shape, Wants, at_feature, at_argument}
use Rattle.xdg_classes.specs.Collected.{feature_of, dim_at, wants_at, pair_wants, record_wants, arg_wants, call_wants, body_wants}
use Rattle.xdg_classes.specs.KnownWants.{Fits, IsRightAt, AreRightUpTo, IsKnown}
use Rattle.xdg_facts.specs.Membership.{In, Differ}
use Rattle.xdg_facts.proofs.In.{in_append, in_left, in_right, in_at, in_index, in_flat_map, flat_map_in, in_map, map_in}
use Rattle.xdg_ast.specs.Texts.{texts}
use Rattle.xdg_facts.proofs.Lists.{set_same, set_other}

-- ---- features

dim_by : (x : DimType) (xs : List DimType) (name : List ℕ) (b : Bool) → dim_at xs (place_of (map (λ (dim : DimType). dim.name) xs) name) ≡ dim_named xs name
    → dim_at (x ∷ xs) (if b then Some 0 else option_map suc (place_of (map (λ (dim : DimType). dim.name) xs) name)) ≡ (if b then Some x else dim_named xs name)
dim_by x xs name true rest = refl
dim_by x xs name false rest = later (place_of (map (λ (dim : DimType). dim.name) xs) name) ∙ rest
  where
    later : (o : Option ℕ) → dim_at (x ∷ xs) (option_map suc o) ≡ dim_at xs o
    later None = refl
    later (Some k) = refl

dims_named : (xs : List DimType) (name : List ℕ) → dim_at xs (place_of (map (λ (dim : DimType). dim.name) xs) name) ≡ dim_named xs name
dims_named [] name = refl
dims_named (x ∷ xs) name = dim_by x xs name (bytes_eq x.name name) (dims_named xs name)

pub same_features : (table : Table) (features : Features) → features.dims.now ≡ table.dims → features.names ≡ map (λ (dim : DimType). dim.name) table.dims → (dim name : List ℕ) → feature_of features dim name ≡ feature_shape table dim name
same_features table features d n dim name =
    ap (λ (ds : List DimType). feature_in (dim_at ds (place_of features.names dim)) name) d ∙ ap (λ ns. feature_in (dim_at table.dims (place_of ns dim)) name) n ∙ ap (λ o. feature_in o name) (dims_named table.dims dim)

-- ---- no two classes with one name

one_class : (cs : List ClassDef) → Differ (texts (class_names cs)) → (c d : ClassDef) → In cs c → In cs d → c.name.text ≡ d.name.text → c ≡ d
one_class [] differ c d h k e = absurd h
one_class (x ∷ xs) differ c d h k e = elim h [
  | inl a ↦ elim k [ inl b ↦ sym a ∙ b | inr b ↦ absurd (other d b (ap (λ (z : ClassDef). z.name.text) a ∙ e)) ]
  | inr a ↦ elim k [ inl b ↦ absurd (other c a (ap (λ (z : ClassDef). z.name.text) b ∙ sym e)) | inr b ↦ one_class xs differ.1 c d a b e ]
]
  where
    other : (z : ClassDef) → In xs z → x.name.text ≡ z.name.text → ⊥
    other z i same = differ.0 (subst (In (texts (class_names xs))) (sym same) (in_texts (class_names xs) z.name (map_in (λ (y : ClassDef). y.name) xs z i)))

pub unique : (statements : List Statement) → None_of (IsTwice (once statements)) → (c d : ClassDef) → In (classes statements) c → In (classes statements) d → c.name.text ≡ d.name.text → c ≡ d
unique statements none = one_class (classes statements) (once_differ (once statements) none (class_names (classes statements)) (inl refl))

-- ---- one class

-- only of a class that is there a type is wanted
pub wants_of_some : (table : Table) (cs : List NamedBody) (class param : List ℕ) (s : Shape) → Wants table cs class param s → (c : NamedBody) × (In cs c × (c.name ≡ class))
wants_of_some table cs class param s (at_feature c said pair t p u h r a f w) = (c, (h, refl))
wants_of_some table cs class param s (at_argument c call pair t p u h k a w v) = (c, (h, refl))

module _ (statements : List Statement) (table : Table) (none : None_of (IsTwice (once statements))) (look : List ℕ → List ℕ → Option Shape) (same : (dim name : List ℕ) → look dim name ≡ feature_shape table dim name)
    (tell : List ℕ → List ℕ → List Shape) (c : ClassDef) (here : In (classes statements) c) where
  abbrev cs : List NamedBody
  cs = named_bodies statements

  abbrev free : List (List ℕ)
  free = texts (param_names c.params)

  abbrev b : Body
  b = body c.body.kind

  -- of the classes that this one uses exactly the wanted types are told
  abbrev Tells : Type 0
  Tells = (call : Called) → In (calls b) call → (q : List ℕ) (s : Shape) → In (tell call.name.text q) s ↔ Wants table cs call.name.text q s

  looked : (o : Option Shape) (t : Term) (p : List ℕ) (u : Shape) → In (wants_at o free t) (p, u) → (s : Shape) × ((o ≡ Some s) × In (params_in free s t) (p, u))
  looked None t p u h = absurd h
  looked (Some s) t p u h = (s, (refl, h))

  sound : Tells → (p : List ℕ) (u : Shape) → In (body_wants look tell free b) (p, u) → Wants table cs c.name.text p u
  sound tells p u h = elim (in_append (flat_map (record_wants look free) (records b)) (flat_map (call_wants tell free) (calls b)) (p, u) h) [
    | inl a ↦ (
        let r = in_flat_map (record_wants look free) (records b) (p, u) a in
        let q = in_flat_map (pair_wants look free r.0.dim.text) r.0.pairs (p, u) r.1.1 in
        let w = looked (look r.0.dim.text q.0.key.text) q.0.value p u q.1.1 in
        at_feature (named c) r.0 q.0 w.0 p u (map_in named (classes statements) c here) r.1.0 q.1.0 (sym (same r.0.dim.text q.0.key.text) ∙ w.1.0) w.1.1)
    | inr a ↦ (
        let k = in_flat_map (call_wants tell free) (calls b) (p, u) a in
        let q = in_flat_map (arg_wants (tell k.0.name.text) free) k.0.args (p, u) k.1.1 in
        let w = in_flat_map (λ s. params_in free s q.0.value) (tell k.0.name.text q.0.key.text) (p, u) q.1.1 in
        at_argument (named c) k.0 q.0 w.0 p u (map_in named (classes statements) c here) k.1.0 q.1.0 ((tells k.0 k.1.0 q.0.key.text w.0).0 w.1.0) w.1.1)
  ]

  -- the class with that name is this one
  this_one : (d : NamedBody) → In cs d → d.name ≡ c.name.text → d ≡ named c
  this_one d h e = let r = in_map named (classes statements) d h in sym r.1.1 ∙ ap named (unique statements none r.0 c r.1.0 here (ap (λ (z : NamedBody). z.name) r.1.1 ∙ e))

  from_feature : (d : NamedBody) (said : Said) (pair : Pair Term) (s : Shape) (p : List ℕ) (u : Shape) → d ≡ named c → In (records d.body) said → In said.pairs pair → feature_shape table said.dim.text pair.key.text ≡ Some s
      → In (params_in d.params s pair.value) (p, u) → In (body_wants look tell free b) (p, u)
  from_feature d said pair s p u e r a f w =
      in_left (flat_map (record_wants look free) (records b)) (flat_map (call_wants tell free) (calls b)) (p, u)
      (flat_map_in (record_wants look free) (records b) said (p, u) (subst (λ (z : NamedBody). In (records z.body) said) e r)
      (flat_map_in (pair_wants look free said.dim.text) said.pairs pair (p, u) a
      (subst (λ o. In (wants_at o free pair.value) (p, u)) (sym (same said.dim.text pair.key.text ∙ f)) (subst (λ (z : NamedBody). In (params_in z.params s pair.value) (p, u)) e w))))

  from_argument : Tells → (d : NamedBody) (call : Called) (pair : Pair Term) (s : Shape) (p : List ℕ) (u : Shape) → d ≡ named c → In (calls d.body) call → In call.args pair → Wants table cs call.name.text pair.key.text s
      → In (params_in d.params s pair.value) (p, u) → In (body_wants look tell free b) (p, u)
  from_argument tells d call pair s p u e k a v w =
      let stands = subst (λ (z : NamedBody). In (calls z.body) call) e k in
      in_right (flat_map (record_wants look free) (records b)) (flat_map (call_wants tell free) (calls b)) (p, u)
      (flat_map_in (call_wants tell free) (calls b) call (p, u) stands
      (flat_map_in (arg_wants (tell call.name.text) free) call.args pair (p, u) a
      (flat_map_in (λ t. params_in free t pair.value) (tell call.name.text pair.key.text) s (p, u) ((tells call stands pair.key.text s).1 v) (subst (λ (z : NamedBody). In (params_in z.params s pair.value) (p, u)) e w))))

  complete_by : Tells → (class p : List ℕ) (u : Shape) → class ≡ c.name.text → Wants table cs class p u → In (body_wants look tell free b) (p, u)
  complete_by tells class p u e (at_feature d said pair s q v h r a f w) = from_feature d said pair s q v (this_one d h e) r a f w
  complete_by tells class p u e (at_argument d call pair s q v h k a w x) = from_argument tells d call pair s q v (this_one d h e) k a w x

  pub class_law : Tells → (p : List ℕ) (u : Shape) → In (body_wants look tell free b) (p, u) ↔ Wants table cs c.name.text p u
  class_law tells p u = (sound tells p u, complete_by tells c.name.text p u refl)

-- ---- all classes in order

module _ (statements : List Statement) (table : Table) (features : Features) (made : Classes) (fits : Fits statements table features made) where
  abbrev names : List (List ℕ)
  names = made.names

  abbrev defs : List ClassDef
  defs = classes statements

  many_names : length names ≡ length defs
  many_names = ap length fits.orders.names ∙ length-map (class_names defs) (λ (name : Name). name.text) ∙ length-map defs (λ (d : ClassDef). d.name)

  -- the name at the place of a class
  name_at : (k : ℕ) (c : ClassDef) → slice_get defs k ≡ Some c → slice_index_or names k [] ≡ c.name.text
  name_at k c is =
      let e : slice_get names k ≡ Some c.name.text =
      ap (λ l. slice_get l k) fits.orders.names ∙ slice_get-map (λ (name : Name). name.text) (class_names defs) k ∙ ap (option_map (λ (name : Name). name.text)) (slice_get-map (λ (d : ClassDef). d.name) defs k ∙ ap (option_map (λ (d : ClassDef). d.name)) is) in
      get_or_from_slice_get names k c.name.text [] e

  -- where no class has a name, nothing is wanted of its parameters
  no_wants : (class param : List ℕ) (s : Shape) → place_of names class ≡ None → Wants table (named_bodies statements) class param s → ⊥
  no_wants class param s missing w =
      let r = wants_of_some table (named_bodies statements) class param s w in
      let d = in_map named defs r.0 r.1.0 in
      let named_so : d.0.name.text ≡ class = ap (λ (z : NamedBody). z.name) d.1.1 ∙ r.1.1 in
      let among : In (texts (class_names defs)) class = subst (In (texts (class_names defs))) named_so (in_texts (class_names defs) d.0.name (map_in (λ (x : ClassDef). x.name) defs d.0 d.1.0)) in
      true≢false (sym (subst (λ ns. has_text ns class ≡ true) (sym fits.orders.names) (among_has (texts (class_names defs)) class among)) ∙ place_of-None names class missing)

  module _ (all : List WantedTypes) (i : ℕ) (within : i < length made.order) (so_far : AreRightUpTo statements table made all i) (c : ClassDef) (is : slice_get defs (number made.order i) ≡ Some c) where
    used_by : (call : Called) → In (calls (body c.body.kind)) call → (o : Option ℕ) → place_of names call.name.text ≡ o → (q : List ℕ) (s : Shape) → In (given_in (at_place all o) q) s ↔ Wants table (named_bodies statements) call.name.text q s
    used_by call stands None at q s = ((λ h. absurd h), (λ w. absurd (no_wants call.name.text q s at w)))
    used_by call stands (Some k) at q s =
        let u : Use = record { to = k; at = call.name.span.start } in
        let known : place_of (texts (class_names defs)) call.name.text ≡ Some k = ap (λ ns. place_of ns call.name.text) (sym fits.orders.names) ∙ at in
        let one : In (use_of (texts (class_names defs)) call.name) u = subst (λ o. In (use_at call.name o) u) (sym known) (inl refl) in
        let uses : uses_of (class_graph statements) (number made.order i) ≡ class_uses (texts (class_names defs)) c =
        get_or_from_slice_get (class_graph statements) (number made.order i) (class_uses (texts (class_names defs)) c) [] (slice_get-map (class_uses (texts (class_names defs))) defs (number made.order i) ∙ ap (option_map (class_uses (texts (class_names defs)))) is) in
        let there : In (uses_of (class_graph statements) (number made.order i)) u = subst (λ us. In us u) (sym uses) (flat_map_in (λ (call : Called). use_of (texts (class_names defs)) call.name) (calls (body c.body.kind)) call u stands one) in
        let before = fits.orders.earlier i within u there in
        let right : IsRightAt statements table names all k = subst (IsRightAt statements table names all) before.1.1 (so_far before.0 before.1.0) in
        subst (λ name. In (given_in (slice_get all k) q) s ↔ Wants table (named_bodies statements) name q s) (place_of-Some names call.name.text k at).1 (right q s)

    new_right : (more : WantedTypes) → ((param : List ℕ) (s : Shape) → In (given more param) s ↔ In (body_wants (feature_of features) (told names all) (texts (param_names c.params)) (body c.body.kind)) (param, s))
        → (param : List ℕ) (s : Shape) → In (given more param) s ↔ Wants table (named_bodies statements) c.name.text param s
    new_right more says param s =
        let within_defs : number made.order i < length defs = slice_get_within defs (number made.order i) c is in
        let here : In defs c = in_at defs (number made.order i) c within_defs (sym (get_or_from_slice_get defs (number made.order i) c c is)) in
        let law =
        class_law statements table fits.once (feature_of features) (same_features table features fits.dims fits.names) (told names all) c here (λ call stands q t. used_by call stands (place_of names call.name.text) refl q t) param s in
        let one = says param s in
        ((λ h. law.0 (one.0 h)), (λ w. one.1 (law.1 w)))

    pub settled_turn : (more : WantedTypes) → ((param : List ℕ) (s : Shape) → In (given more param) s ↔ In (body_wants (feature_of features) (told names all) (texts (param_names c.params)) (body c.body.kind)) (param, s))
        → number made.order i < length all → AreRightUpTo statements table made (slice_set all (number made.order i) more) (i + 1)
    settled_turn more says fitting j below = elim (cases_eq (number made.order j) (number made.order i)) [
      | inl e ↦ (λ param s. (
          let now : slice_get (slice_set all (number made.order i) more) (number made.order j) ≡ Some more =
          ap (slice_get (slice_set all (number made.order i) more)) e ∙ set_same all (number made.order i) more fitting in
          let name : slice_index_or names (number made.order j) [] ≡ c.name.text = ap (λ k. slice_index_or names k []) e ∙ name_at (number made.order i) c is in
          subst (λ o. In (given_in o param) s ↔ Wants table (named_bodies statements) (slice_index_or names (number made.order j) []) param s) (sym now)
          (subst (λ n. In (given more param) s ↔ Wants table (named_bodies statements) n param s) (sym name) (new_right more says param s))))
      | inr ne ↦ (λ param s. (
          let earlier : j < i = elim (cases_eq j i) [ inl e ↦ absurd (ne (ap (number made.order) e)) | inr other ↦ omega (arith, below, other) ] in
          subst (λ o. In (given_in o param) s ↔ Wants table (named_bodies statements) (slice_index_or names (number made.order j) []) param s) (sym (set_other all (number made.order i) (number made.order j) more ne)) (so_far j earlier param s)))
    ]

  -- the same of a class that is lent
  pub settled_step : (all : List WantedTypes) (i : ℕ) → i < length made.order → AreRightUpTo statements table made all i → (given_defs : List LentClass) (lent : LentClass) → given_defs ≡ made.definitions
      → slice_get given_defs (number made.order i) ≡ Some lent → (more : WantedTypes)
      → ((param : List ℕ) (s : Shape) → In (given more param) s ↔ In (body_wants (feature_of features) (told names all) (texts (param_names lent.params.now)) (body lent.body.now.kind)) (param, s)) → (new : List WantedTypes)
      → (number made.order i < length all) × (new ≡ slice_set all (number made.order i) more) → AreRightUpTo statements table made new (i + 1)
  settled_step all i within so_far given_defs lent same is more says new change =
      let there : slice_get defs (number made.order i) ≡ Some (class_def lent) =
      ap (λ l. slice_get l (number made.order i)) (sym fits.orders.definitions ∙ ap (map class_def) (sym same)) ∙ slice_get-map class_def given_defs (number made.order i) ∙ ap (option_map class_def) is in
      subst (λ xs. AreRightUpTo statements table made xs (i + 1)) (sym change.1) (settled_turn all i within so_far (class_def lent) there more says change.0)

  module _ (all : List WantedTypes) (whole : AreRightUpTo statements table made all (length made.order)) where
    known_by : (class : List ℕ) (o : Option ℕ) → place_of names class ≡ o → (param : List ℕ) (s : Shape) → In (given_in (at_place all o) param) s ↔ Wants table (named_bodies statements) class param s
    known_by class None at param s = ((λ h. absurd h), (λ w. absurd (no_wants class param s at w)))
    known_by class (Some k) at param s =
        let there = place_of-Some names class k at in
        let within : k < length defs = omega (arith, there.0, many_names) in
        let r = in_index made.order k 0 (fits.orders.placed k within) in
        let right : IsRightAt statements table names all k = subst (IsRightAt statements table names all) r.1.1 (whole r.0 r.1.0) in
        subst (λ name. In (given_in (slice_get all k) param) s ↔ Wants table (named_bodies statements) name param s) there.1 (right param s)

    pub all_known : IsKnown statements table names all
    all_known class param s = known_by class (place_of names class) refl param s
