-- Nothing is wrong where a body is denoted: in an entry, in each part of a body, and in the body of a class that is used.
use Rattle.std.proofs.Common.{◌≡◌, inl, inr, ℕ, ◌<◌, List, [], ◌∷◌, length, map, get_or, refl, sym, ap, ◌∙◌, subst}
use Rattle.std.specs.Prelude.{Bool, bytes_eq, if◌then◌else◌, Option, Some}
use Rattle.std.proofs.lemmas.Bool.{false_from_ne_true}
use Rattle.xdg_ast.specs.declared.names.Name.{Name}
use Rattle.xdg_ast.specs.declared.names.Pair.{Pair}
use Rattle.xdg_ast.specs.declared.expressions.ExprKind.{ExprKind}
use Rattle.xdg_ast.specs.declared.expressions.ExprKind.TheVariants as v
use Rattle.xdg_domain.specs.Shapes.{Shape, shape}
use Rattle.xdg_domain.specs.declared.types.Ty.{Ty}
use Rattle.xdg_types.specs.Table.{Table, typed, firsts, IsTable, dim_named}
use Rattle.xdg_types.specs.declared.table.DimType.{DimType}
use Rattle.xdg_terms.specs.Answers.{IsRight}
use Rattle.xdg_terms.specs.Closed.{closed}
use Rattle.xdg_terms.specs.Forms.{Term, Bindings, bound_to}
use Rattle.xdg_terms.specs.Means.{written_for}
use Rattle.xdg_terms.specs.Replaced.{IsOpenRight}
use Rattle.xdg_terms.specs.Wanted.{params_in}
use Rattle.xdg_terms.proofs.Binding.{bound_law}
use Rattle.xdg_terms.proofs.ClosedLaw.{closed_law}
use Rattle.xdg_terms.proofs.Read as read
use Rattle.xdg_classes.specs.Bodies.{Pairs, Expr, Body, either, body, Said, Called, records, records_in, calls, calls_in}
use Rattle.xdg_classes.proofs.Bodied.{trees, records_dim, records_all, calls_all}
use Rattle.xdg_classes.specs.Wants.{Wants, at_feature, at_argument, feature_shape, feature_in, type_named}
use Rattle.xdg_check.specs.declared.checked.Class.{Class}
use Rattle.xdg_check.specs.declared.checked.EntryDef.{EntryDef}
use Rattle.xdg_check.specs.Checked.{Parts, IsChecked, IsBound, IsScoped, IsRightBody, named_body, named_bodies}
use Rattle.xdg_check.proofs.Opened.{wants_stand}
use Rattle.xdg_lexicon.specs.Denotes.{closed_args}
use Rattle.xdg_lexicon.specs.Partial.{written}
use Rattle.xdg_lexicon.specs.Right.{AreRight, IsRightUnder}
use Rattle.xdg_types.proofs.Kept.{keeps_at}
use Rattle.xdg_facts.proofs.Lists.{fused, if_some}
use Rattle.xdg_facts.proofs.Texts.{same_text, is_same}
use Rattle.xdg_facts.specs.Membership.{In, Differ}
use Rattle.xdg_facts.proofs.In.{flat_map_in, in_at, in_index, in_map, map_in}
use Rattle.xdg_facts.proofs.Named.{one_named}

-- ---- features by name

-- of things whose names differ the one with a name is found by it
named_found : {A B : Type 0} (name : A → List ℕ) (value : A → B) (key : List ℕ) (find : List A → Option B) → ((x : A) (xs : List A) → find (x ∷ xs) ≡ (if bytes_eq (name x) key then Some (value x) else find xs)) → (xs : List A) (x : A)
    → Differ (map name xs) → In xs x → name x ≡ key → find xs ≡ Some (value x)
named_found name value key find step [] x differ h is = absurd h
named_found name value key find step (y ∷ xs) x differ h is = elim h [
  | inl e ↦ step y xs ∙ ap (λ (t : Bool). if t then Some (value y) else find xs) (is_same (name y) key (ap name e ∙ is)) ∙ ap (λ z. Some (value z)) e
  | inr k ↦
      let other = false_from_ne_true (bytes_eq (name y) key) (λ t. differ.0 (subst (In (map name xs)) (is ∙ sym (same_text (name y) key t)) (map_in name xs x k))) in
      step y xs ∙ ap (λ (t : Bool). if t then Some (value y) else find xs) other ∙ named_found name value key find step xs x differ.1 k is
]

type_found : (fs : List (List ℕ × Ty)) (name : List ℕ) (s : Shape) → Differ (firsts fs) → In (typed fs) (name, s) → type_named fs name ≡ Some s
type_found fs name s differ h =
    let f = in_map (λ (x : List ℕ × Ty). (x.0, shape x.1)) fs (name, s) h in
    named_found (λ (x : List ℕ × Ty). x.0) (λ x. shape x.1) name (λ gs. type_named gs name) (λ _ _. refl) fs f.0 differ f.1.0 (ap (λ (p : List ℕ × Shape). p.0) f.1.1) ∙ ap (λ (p : List ℕ × Shape). Some p.1) f.1.1

-- the type of a feature of a dimension is found by their names
feature_found : (table : Table) (dim : DimType) (name key : List ℕ) (s : Shape) → IsTable table → In table.dims dim → dim.name ≡ name → In (typed dim.fields) (key, s) → feature_shape table name key ≡ Some s
feature_found table dim name key s keeps stands is has =
    let at = in_index table.dims dim dim stands in
    ap (λ o. feature_in o key) (ap (dim_named table.dims) (sym is) ∙ named_found (λ (d : DimType). d.name) (λ d. d) dim.name (λ ds. dim_named ds dim.name) (λ _ _. refl) table.dims dim keeps.names stands refl)
    ∙ type_found dim.fields key s (keeps_at table.dims at.0 dim keeps.dims at.1.0 (sym at.1.1)).fields has

-- ---- what a record says

pub record_right : (table : Table) (cs : List Class) (bs : Bindings) (kind : ExprKind) (name : Name) (pairs : Pairs) (dim : DimType) → IsTable table → IsRightUnder table cs bs (body kind) → kind ≡ v.Dim name pairs → In table.dims dim → dim.name ≡ name.text → AreRight bs dim.fields pairs
record_right table cs bs kind name pairs dim keeps right is stands same f among = if_some (IsRight bs (shape f.1)) (written_for (written pairs) f.0) (λ t e.
    let r = read.written (written pairs) f.0 t e in
    let p = in_map (λ (q : Pair Term). (q.key, q.value)) pairs r.pair r.among in
    let there : In (records (body kind)) (record { dim = name; pairs = pairs }) = subst (λ l. In l (record { dim = name; pairs = pairs })) (sym (ap (λ k. records (body k)) is ∙ records_dim name pairs)) (inl refl) in
    let type : feature_shape table name.text p.0.key.text ≡ Some (shape f.1) =
    ap (feature_shape table name.text) (ap (λ (q : Name × Term). q.0.text) p.1.1 ∙ r.key) ∙ feature_found table dim name.text f.0 (shape f.1) keeps stands same (map_in (λ (x : List ℕ × Ty). (x.0, shape x.1)) dim.fields f among) in
    subst (IsRight bs (shape f.1)) (ap (λ (q : Name × Term). q.1) p.1.1 ∙ r.value) (right.said (record { dim = name; pairs = pairs }) there p.0 p.1.0 (shape f.1) type))

-- ---- parts of a body

-- what stands in a member stands in all of them
module _ (es : List Expr) (i : ℕ) (e : Expr) (within : i < length es) (is : e ≡ get_or es i e) where
  records_at : (said : Said) → In (records (body e.kind)) said → In (records_in (trees es)) said
  records_at said h = subst (λ l. In l said) (sym (records_all es)) (flat_map_in (λ (x : Expr). records (body x.kind)) es e said (in_at es i e within is) h)

  pub calls_at : (call : Called) → In (calls (body e.kind)) call → In (calls_in (trees es)) call
  calls_at call h = subst (λ l. In l call) (sym (calls_all es)) (flat_map_in (λ (x : Expr). calls (body x.kind)) es e call (in_at es i e within is) h)

pub part_right : (table : Table) (cs : List Class) (bs : Bindings) (items : List Expr) (i : ℕ) (e : Expr) → i < length items → e ≡ get_or items i e → IsRightUnder table cs bs (either (trees items)) → IsRightUnder table cs bs (body e.kind)
part_right table cs bs items i e within at right = record {
  said = λ said h. right.said said (records_at items i e within at said h);
  bound = λ call h. right.bound call (calls_at items i e within at call h);
  given = λ call h. right.given call (calls_at items i e within at call h);
}

-- ---- a body with its parameters bound

module _ (parts : Parts) (keeps : IsChecked parts) (params : List (List ℕ)) (bs : Bindings) (b : Body) (right : IsRightBody parts.types parts.classes params b) where
  -- it is bound to what is right where this type is wanted
  abbrev IsBoundRight : List ℕ → Shape → Type 0
  IsBoundRight param u = (t : Term) × ((bound_to bs param ≡ Some t) × IsOpenRight [] u t)

  scoped_in : (t : Term) → IsScoped params t → (s : Shape) (param : List ℕ) (u : Shape) → In (params_in params s t) (param, u) → In params param
  scoped_in t scoped s param u w = (let st = wants_stand params s t (param, u) w in subst (In params) st.1.1 (scoped st.0 st.1.0))

  right_under : ((said : Said) → In (records b) said → (pair : Pair Term) → In said.pairs pair → (s : Shape) → feature_shape parts.types said.dim.text pair.key.text ≡ Some s
      → (param : List ℕ) (u : Shape) → In (params_in params s pair.value) (param, u) → In params param → IsBoundRight param u)
      → ((call : Called) → In (calls b) call → (pair : Pair Term) → In call.args pair → (s : Shape) → Wants parts.types (named_bodies parts.classes) call.name.text pair.key.text s
      → (param : List ℕ) (u : Shape) → In (params_in params s pair.value) (param, u) → In params param → IsBoundRight param u)
      → IsRightUnder parts.types parts.classes bs b
  right_under of_said of_call = record {
    said = λ said h pair j s type.
        let r = right.said said h in
        let p = r.pairs pair j in
        let found = feature_found parts.types r.dim said.dim.text pair.key.text p.type keeps.types r.defined r.name p.has in
        let same : p.type ≡ s = (let o : Some p.type ≡ Some s = sym found ∙ type in cc) in
        bound_law params bs s pair.value (subst (λ z. IsOpenRight params z pair.value) same p.right) (λ param u w. of_said said h pair j s type param u w (scoped_in pair.value p.scoped s param u w));
    bound = λ call h. (right.called call h).bound;
    given = λ call h pair j s wants.
        let r = right.called call h in
        closed_law params bs s pair.value (r.right pair j s wants) (λ param u w. of_call call h pair j s wants param u w (scoped_in pair.value (r.scoped pair j) s param u w));
  }

pub entry_right : (parts : Parts) (e : EntryDef) (expr : Expr) → IsChecked parts → In parts.entries e → e.body ≡ expr → IsRightUnder parts.types parts.classes [] (body expr.kind)
entry_right parts e expr keeps stands is =
    subst (λ (x : Expr). IsRightUnder parts.types parts.classes [] (body x.kind)) is
    (right_under parts keeps [] [] (body e.body.kind) (keeps.entries e stands) (λ said h pair j s type param u w among. absurd among) (λ call h pair j s wants param u w among. absurd among))

-- ---- the body of a class that is used

module _ (parts : Parts) (keeps : IsChecked parts) (bs : Bindings) (call : Called) (c : Class) (stands : In parts.classes c) (is : c.name ≡ call.name.text) (bound : IsBound parts.classes call)
    (given : (pair : Pair Term) → In call.args pair → (s : Shape) → Wants parts.types (named_bodies parts.classes) call.name.text pair.key.text s → IsOpenRight [] s (closed bs pair.value)) where
  wanted : (param : List ℕ) (u : Shape) → In c.params param → Wants parts.types (named_bodies parts.classes) c.name param u → (b : Term) × ((bound_to (closed_args bs call.args) param ≡ Some b) × IsOpenRight [] u b)
  wanted param u among wants =
      let same : bound.class ≡ c = one_named (λ (x : Class). x.name) parts.classes bound.class c keeps.names bound.stands stands (bound.name ∙ sym is) in
      let own = fused (λ (m : Name). m.text) (λ (x : Pair Term). x.key) call.args in
      let p = in_map (λ (x : Pair Term). x.key.text) call.args param (subst (λ l. In l param) own (bound.given param (subst (λ (x : Class). In x.params param) (sym same) among))) in
      let here : Wants parts.types (named_bodies parts.classes) call.name.text p.0.key.text u =
      subst (λ t. Wants parts.types (named_bodies parts.classes) call.name.text t u) (sym p.1.1) (subst (λ t. Wants parts.types (named_bodies parts.classes) t param u) is wants) in
      let found = named_found (λ (x : Pair Term). x.key.text) (λ x. closed bs x.value) param (λ args. bound_to (closed_args bs args) param) (λ _ _. refl) call.args p.0 (subst Differ own bound.once) p.1.0 p.1.1 in
      (closed bs p.0.value, (found, given p.0 p.1.0 u here))

  class_right : IsRightUnder parts.types parts.classes (closed_args bs call.args) (body c.body.kind)
  class_right =
      right_under parts keeps c.params (closed_args bs call.args) (body c.body.kind) (keeps.classes c stands)
      (λ said h pair j s type param u w among. wanted param u among (at_feature (named_body c) said pair s param u (map_in named_body parts.classes c stands) h j type w))
      (λ other h pair j s wants param u w among. wanted param u among (at_argument (named_body c) other pair s param u (map_in named_body parts.classes c stands) h j wants w))

pub used_right : (parts : Parts) (bs : Bindings) (b : Body) (call : Called) (c : Class) → IsChecked parts → IsRightUnder parts.types parts.classes bs b → In (calls b) call → In parts.classes c → c.name ≡ call.name.text
    → IsRightUnder parts.types parts.classes (closed_args bs call.args) (body c.body.kind)
used_right parts bs b call c keeps right used stands is = class_right parts keeps bs call c stands is (right.bound call used) (right.given call used)
