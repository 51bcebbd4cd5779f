-- Nothing is wrong in completed bodies where nothing is wrong in those of the text.
use Rattle.std.proofs.Common.{◌≡◌, ◌⊎◌, inl, inr, ℕ, true, false, List, [], ◌∷◌, map, Some, refl, sym, ap, ap₂, ◌∙◌, subst}
use Rattle.std.specs.Prelude.{if◌then◌else◌, bytes_eq}
use Rattle.std.proofs.lemmas.Bool.{true≢false}
use Rattle.xdg_ast.specs.declared.names.Name.{Name}
use Rattle.xdg_ast.specs.declared.names.Pair.{Pair}
use Rattle.xdg_ast.specs.declared.grammar.ClassParam.{ClassParam}
use Rattle.xdg_domain.specs.declared.types.Ty.{Ty}
use Rattle.xdg_domain.specs.Shapes.{Shape, shape}
use Rattle.xdg_types.specs.declared.table.DimType.{DimType}
use Rattle.xdg_types.specs.Answers.{None_of}
use Rattle.xdg_types.specs.Parts.{Statement, keys}
use Rattle.xdg_types.specs.Table.{Table, typed, dim_named}
use Rattle.xdg_types.proofs.NamesKnown.{each_known}
use Rattle.xdg_terms.specs.Wanted.{params_in}
use Rattle.xdg_classes.specs.Bodies.{Term, Body, Said, Called, records, calls}
use Rattle.xdg_classes.specs.Definitions.{ClassDef, classes, Scoped, bodies}
use Rattle.xdg_classes.specs.Names.{NameOffends, all_records, all_calls, said_dims, dim_texts}
use Rattle.xdg_classes.specs.Wants as w
use Rattle.xdg_classes.specs.Wants.{NamedBody, Wants, at_feature, at_argument, feature_shape, feature_in, type_named}
use Rattle.xdg_check.specs.declared.checked.Class.{Class}
use Rattle.xdg_check.specs.Completed.{completed, bound_by, left_out}
use Rattle.xdg_check.specs.Answers.{IsClassOf, AreClassesOf}
use Rattle.xdg_check.specs.Checked.{named_body, named_bodies, IsScoped, IsRightRecord, IsRightCall, IsRightBody}
use Rattle.xdg_terms.specs.Replaced.{IsOpenRight}
use Rattle.xdg_check.proofs.Binding.{class_of, is_bound, left_pair}
use Rattle.xdg_check.proofs.Opened.{less_open, wants_stand}
use Rattle.xdg_classes.proofs.Known.{named_in}
use Rattle.xdg_check.proofs.Sources.{same_records, completed_calls, completed_call, class_scoped, class_body}
use Rattle.xdg_facts.proofs.Options.{some_same}
use Rattle.xdg_facts.proofs.Texts.{same_text, is_same}
use Rattle.xdg_facts.specs.Membership.{In, Differ}
use Rattle.xdg_facts.proofs.In.{in_append, flat_map_in, in_map as map_in, map_in as in_map}
use Rattle.xdg_ast.specs.Texts.{texts}
use Rattle.xdg_facts.proofs.Zips.{zip_second}

-- ---- what is right in the text

-- the features that are said are there, each is said once, and the terms are right
pub record IsRightSaid (table : Table) (params : List (List ℕ)) (said : Said) : Type 0 where
  pub once : Differ (texts (keys said.pairs))
  pub pairs : (pair : Pair Term) → In said.pairs pair → (s : Shape) × ((feature_shape table said.dim.text pair.key.text ≡ Some s) × IsOpenRight params s pair.value)
  pub scoped : (pair : Pair Term) → In said.pairs pair → IsScoped params pair.value

pub record RightBodies (statements : List Statement) (table : Table) : Type 0 where
  pub said : (b : Scoped) → In (bodies statements) b → (said : Said) → In (records b.body) said → IsRightSaid table b.params said
  pub called : (b : Scoped) → In (bodies statements) b → (call : Called) → In (calls b.body) call → (pair : Pair Term) → In call.args pair
      → (s : Shape) → Wants table (w.named_bodies statements) call.name.text pair.key.text s → IsOpenRight b.params s pair.value
  pub scoped : (b : Scoped) → In (bodies statements) b → (call : Called) → In (calls b.body) call → (pair : Pair Term) → In call.args pair → IsScoped b.params pair.value
  pub presets : (c : ClassDef) → In (classes statements) c → (p : ClassParam) → In c.params p → (t : Term) → p.preset ≡ Some t
      → (s : Shape) → Wants table (w.named_bodies statements) c.name.text p.name.text s → IsOpenRight [] s t
  pub closed : (c : ClassDef) → In (classes statements) c → (p : ClassParam) → In c.params p → (t : Term) → p.preset ≡ Some t → IsScoped [] t

-- ---- features

dim_in : (dims : List DimType) (name : List ℕ) (d : DimType) → dim_named dims name ≡ Some d → In dims d × (d.name ≡ name)
dim_in [] name d h = absurd (cc)
dim_in (x ∷ dims) name d h = elim (bytes_eq x.name name) as (λ b. bytes_eq x.name name ≡ b → (if b then Some x else dim_named dims name) ≡ Some d → In (x ∷ dims) d × (d.name ≡ name)) [
  | true ↦ λ e k. (let is = some_same x d k in (inl is, ap (λ (y : DimType). y.name) (sym is) ∙ same_text x.name name e))
  | false ↦ λ e k. (let r = dim_in dims name d k in (inr r.0, r.1))
] refl h

dim_found : (dims : List DimType) (name : List ℕ) → In (map (λ dim. dim.name) dims) name → (d : DimType) × (dim_named dims name ≡ Some d)
dim_found [] name h = absurd h
dim_found (x ∷ dims) name h = elim (bytes_eq x.name name) as (λ b. bytes_eq x.name name ≡ b → (d : DimType) × ((if b then Some x else dim_named dims name) ≡ Some d)) [
  | true ↦ λ e. (x, refl)
  | false ↦ λ e. elim h [ inl same ↦ absurd (true≢false (sym (is_same x.name name same) ∙ e)) | inr k ↦ dim_found dims name k ]
] refl

type_in : (fields : List (List ℕ × Ty)) (name : List ℕ) (s : Shape) → type_named fields name ≡ Some s → In (typed fields) (name, s)
type_in [] name s h = absurd (cc)
type_in (x ∷ fields) name s h = elim (bytes_eq x.0 name) as (λ b. bytes_eq x.0 name ≡ b → (if b then Some (shape x.1) else type_named fields name) ≡ Some s → In (typed (x ∷ fields)) (name, s)) [
  | true ↦ λ e k. inl (ap₂ (λ (n : List ℕ) (u : Shape). (n, u)) (same_text x.0 name e) (some_same (shape x.1) s k))
  | false ↦ λ e. (λ k. inr (type_in fields name s k))
] refl h

-- ---- completed bodies

module _ (statements : List Statement) (table : Table) (names : None_of (NameOffends statements table)) (right : RightBodies statements table) where
  call_stands : (b : Scoped) → In (bodies statements) b → (call : Called) → In (calls b.body) call → In (all_calls statements) call
  call_stands b h call i = flat_map_in (λ (one : Scoped). calls one.body) (bodies statements) b call h i

  -- an argument of a completed use is given, or is a default of the class
  GivenOrPreset : Called → Pair Term → Type 0
  GivenOrPreset call pair =
      In call.args pair ⊎ ((c : ClassDef) × (In (classes statements) c × ((c.name.text ≡ call.name.text) × ((p : ClassParam) × (In c.params p × ((p.preset ≡ Some pair.value) × (p.name ≡ pair.key)))))))

  given_or_preset : (b : Scoped) → In (bodies statements) b → (call : Called) → In (calls b.body) call → (pair : Pair Term) → In (completed_call (classes statements) call).args pair → GivenOrPreset call pair
  unfolding GivenOrPreset
  given_or_preset b h call i pair j =
      let c = class_of statements table names call (call_stands b h call i) in
      let at = named_in (classes statements) call.name.text c.0 c.1 in
      elim (in_append call.args (left_out (texts (keys call.args)) c.0.params) pair (subst (λ o. In (bound_by o call.args) pair) c.1 j)) [
        | inl a ↦ inl a
        | inr l ↦ inr (c.0, (at.0, (at.1, left_pair (texts (keys call.args)) c.0.params pair l)))
      ]

  module _ (made : List Class) (are : AreClassesOf (classes statements) (classes statements) made) where
    -- what is wanted in the completed bodies is wanted in the text
    pub wants_source : {class param : List ℕ} {s : Shape} → Wants table (named_bodies made) class param s → Wants table (w.named_bodies statements) class param s
    unfolding GivenOrPreset
    wants_source (at_feature c said pair s param u in_classes in_records in_pairs type inside) =
        let m = map_in named_body made c in_classes in
        let source = zip_second (IsClassOf (classes statements)) (classes statements) made are m.0 m.1.0 in
        let n = w.named source.0 in
        let name : n.name ≡ c.name = sym source.1.1.name ∙ ap (λ (x : NamedBody). x.name) m.1.1 in
        let params : c.params ≡ n.params = ap (λ (x : NamedBody). x.params) (sym m.1.1) ∙ source.1.1.params in
        let tree : c.body ≡ completed (classes statements) n.body = ap (λ (x : NamedBody). x.body) (sym m.1.1) ∙ source.1.1.body in
        subst (λ t. Wants table (w.named_bodies statements) t param u) name
        (at_feature n said pair s param u (in_map w.named (classes statements) source.0 source.1.0)
        (subst (λ rs. In rs said) (ap records tree ∙ same_records (classes statements) n.body) in_records) in_pairs type (subst (λ ps. In (params_in ps s pair.value) (param, u)) params inside))
    wants_source (at_argument c call pair s param u in_classes in_calls in_args wanted inside) =
        let m = map_in named_body made c in_classes in
        let source = zip_second (IsClassOf (classes statements)) (classes statements) made are m.0 m.1.0 in
        let n = w.named source.0 in
        let name : n.name ≡ c.name = sym source.1.1.name ∙ ap (λ (x : NamedBody). x.name) m.1.1 in
        let params : c.params ≡ n.params = ap (λ (x : NamedBody). x.params) (sym m.1.1) ∙ source.1.1.params in
        let tree : c.body ≡ completed (classes statements) n.body = ap (λ (x : NamedBody). x.body) (sym m.1.1) ∙ source.1.1.body in
        let old = map_in (completed_call (classes statements)) (calls n.body) call (subst (λ xs. In xs call) (ap calls tree ∙ completed_calls (classes statements) n.body) in_calls) in
        let more : Wants table (w.named_bodies statements) call.name.text pair.key.text s = wants_source wanted in
        let told : Wants table (w.named_bodies statements) old.0.name.text pair.key.text s = subst (λ (x : Called). Wants table (w.named_bodies statements) x.name.text pair.key.text s) (sym old.1.1) more in
        let there : In (completed_call (classes statements) old.0).args pair = subst (λ (x : Called). In x.args pair) (sym old.1.1) in_args in
        let free : In (params_in n.params s pair.value) (param, u) = subst (λ ps. In (params_in ps s pair.value) (param, u)) params inside in
        subst (λ t. Wants table (w.named_bodies statements) t param u) name
        (elim (given_or_preset (class_scoped source.0) (class_body statements source.0 source.1.0) old.0 old.1.0 pair there) [
          | inl a ↦ at_argument n old.0 pair s param u (in_map w.named (classes statements) source.0 source.1.0) old.1.0 a told free
          | inr p ↦ (let stands = wants_stand n.params s pair.value (param, u) free in
              absurd (right.closed p.0 p.1.0 p.1.1.1.0 p.1.1.1.1.0 pair.value p.1.1.1.1.1.0 stands.0 stands.1.0))
        ])

    dim_of : (b : Scoped) → In (bodies statements) b → (said : Said) → In (records b.body) said → (d : DimType) × (dim_named table.dims said.dim.text ≡ Some d)
    dim_of b h said i = dim_found table.dims said.dim.text (each_known (dim_texts table) (said_dims statements) (λ f u. names f (inl u)) said.dim
        (in_map (λ (one : Said). one.dim) (all_records statements) said (flat_map_in (λ (one : Scoped). records one.body) (bodies statements) b said h i)))

    right_record : (b : Scoped) → In (bodies statements) b → (said : Said) → In (records b.body) said → IsRightRecord table b.params said
    right_record b h said i =
        let d = dim_of b h said i in
        let at = dim_in table.dims said.dim.text d.0 d.1 in
        let r = right.said b h said i in
        record {
          dim = d.0;
          defined = at.0;
          name = at.1;
          once = r.once;
          pairs = λ pair j. (let p = r.pairs pair j in
              record { type = p.0; has = type_in d.0.fields pair.key.text p.0 (ap (λ o. feature_in o pair.key.text) (sym d.1) ∙ p.1.0); right = p.1.1; scoped = r.scoped pair j });
        }

    right_call : (b : Scoped) → In (bodies statements) b → (call : Called) → In (calls b.body) call → IsRightCall table made b.params (completed_call (classes statements) call)
    unfolding GivenOrPreset
    right_call b h call i =
        record {
          bound = is_bound statements table names made are call (call_stands b h call i);
          right = λ pair j s wanted. elim (given_or_preset b h call i pair j) [
            | inl a ↦ right.called b h call i pair a s (wants_source wanted)
            | inr p ↦ (λ f k. right.presets p.0 p.1.0 p.1.1.1.0 p.1.1.1.1.0 pair.value p.1.1.1.1.1.0 s
                (subst (λ t. Wants table (w.named_bodies statements) t p.1.1.1.0.name.text s) (sym p.1.1.0)
                (subst (λ (n : Name). Wants table (w.named_bodies statements) call.name.text n.text s) (sym p.1.1.1.1.1.1) (wants_source wanted))) f (less_open b.params s pair.value f k))
          ];
          scoped = λ pair j. elim (given_or_preset b h call i pair j) [
            | inl a ↦ right.scoped b h call i pair a
            | inr p ↦ (λ name k. absurd (right.closed p.0 p.1.0 p.1.1.1.0 p.1.1.1.1.0 pair.value p.1.1.1.1.1.0 name k))
          ];
        }

    pub right_body : (b : Scoped) → In (bodies statements) b → (tree : Body) → tree ≡ completed (classes statements) b.body → IsRightBody table made b.params tree
    right_body b h tree is = record {
      said = λ said i. right_record b h said (subst (λ rs. In rs said) (ap records is ∙ same_records (classes statements) b.body) i);
      called = λ call i. (let old = map_in (completed_call (classes statements)) (calls b.body) call (subst (λ xs. In xs call) (ap calls is ∙ completed_calls (classes statements) b.body) i) in
          subst (IsRightCall table made b.params) old.1.1 (right_call b h old.0 old.1.0));
    }
