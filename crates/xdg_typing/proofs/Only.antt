-- A grammar has one table or one first fault.
use Rattle.std.proofs.Common.{◌≡◌, inl, inr, ℕ, List, [], ◌∷◌, length, Some, Ok, Err, refl, sym, ap, ap₂, ◌∙◌, subst, arith}
use Rattle.std.proofs.Math.Path.{fun_ext}
use Rattle.std.proofs.lemmas.List.{length-map}
use Rattle.std.proofs.lemmas.Option.{slice_get_within}
use Rattle.std.specs.Prelude.{Result, slice_get}
use Rattle.xdg_ast.specs.declared.names.Name.{Name}
use Rattle.xdg_base.specs.declared.faults.Fault.{Fault}
use Rattle.xdg_base.specs.declared.faults.Stop.{Stop}
use Rattle.xdg_base.specs.declared.faults.Stop.TheVariants as stops
use Rattle.xdg_domain.specs.Shapes.{Shape}
use Rattle.xdg_names.specs.First.{Tells as TellsFault}
use Rattle.xdg_names.proofs.One.{one_first}
use Rattle.xdg_names.specs.Texts.{place_of}
use Rattle.xdg_names.proofs.Texts.{place_of-at}
use Rattle.xdg_types.specs.declared.table.DimType.{DimType}
use Rattle.xdg_types.specs.Parts.{Statement, Dimension, dimensions, dim_names, used_names}
use Rattle.xdg_types.specs.Names.{NameOffends, once}
use Rattle.xdg_types.specs.Kinds.{KindOffends}
use Rattle.xdg_types.specs.Table.{Table, IsDim, AreDims, AreUsed, IsTableOf}
use Rattle.xdg_types.specs.Answers.{CycleOffends, HasTable, Refuses, Tells, IsAnswer}
use Rattle.xdg_base.specs.Told.{Gives}
use Rattle.xdg_types.proofs.Made.{names_in, names_made}
use Rattle.xdg_types.proofs.NamesAgain.{once_differ}
use Rattle.xdg_typing.proofs.OneShape.{one_typed}
use Rattle.xdg_typing.proofs.RightTable.{named_at}
use Rattle.xdg_facts.specs.Membership.{Differ}
use Rattle.xdg_ast.specs.Texts.{texts}
use Rattle.xdg_facts.proofs.Options.{one_value}

-- ---- the dimensions

one_dim : (names : List ℕ → Shape) (dim : Dimension) (a b : DimType) → IsDim names dim a → IsDim names dim b → a ≡ b
one_dim names dim a b h k =
    ap (λ z. record { name = z; labels = a.labels; attrs = a.attrs; fields = a.fields }) (h.name ∙ sym k.name)
    ∙ ap (λ z. record { name = b.name; labels = z; attrs = a.attrs; fields = a.fields }) (h.labels ∙ sym k.labels)
    ∙ ap (λ z. record { name = b.name; labels = b.labels; attrs = z; fields = a.fields }) (one_typed a.attrs b.attrs (h.attrs ∙ sym k.attrs))
    ∙ ap (λ z. record { name = b.name; labels = b.labels; attrs = b.attrs; fields = z }) (one_typed a.fields b.fields (h.fields ∙ sym k.fields))

one_list : (names : List ℕ → Shape) (dims : List Dimension) (xs ys : List DimType) → AreDims names dims xs → AreDims names dims ys → xs ≡ ys
one_list names [] [] [] h k = refl
one_list names [] (x ∷ xs) ys h k = absurd h
one_list names (dim ∷ dims) [] ys h k = absurd h
one_list names (dim ∷ dims) (x ∷ xs) (y ∷ ys) h k = ap₂ (λ z zs. z ∷ zs) (one_dim names dim x y h.0 k.0) (one_list names dims xs ys h.1 k.1)
one_list names _ _ _ h k = absurd k

-- ---- the places of the used ones

-- the dimension of that name stands at this place alone
placed : (dims : List DimType) → Differ (names_in dims) → (text : List ℕ) (k : ℕ) (dim : DimType) → slice_get dims k ≡ Some dim → dim.name ≡ text → place_of (names_in dims) text ≡ Some k
placed dims apart text k dim there named =
    let within = slice_get_within dims k dim there in
    let len : length (names_in dims) ≡ length dims = length-map dims (λ d. d.name) in
    ap (place_of (names_in dims)) (sym (named_at dims k dim there ∙ named)) ∙ place_of-at (names_in dims) k apart (omega (arith, within, len))

one_used : (dims : List DimType) → Differ (names_in dims) → (names : List Name) (js ks : List ℕ) → AreUsed dims names js → AreUsed dims names ks → js ≡ ks
one_used dims apart [] [] [] h u = refl
one_used dims apart [] (j ∷ js) ks h u = absurd h
one_used dims apart (name ∷ names) [] ks h u = absurd h
one_used dims apart (name ∷ names) (j ∷ js) (k ∷ ks) h u =
    ap₂ (λ z zs. z ∷ zs)
    (one_value (place_of (names_in dims) name.text) j k
    (placed dims apart name.text j h.0.0 h.0.1.0 h.0.1.1)
    (placed dims apart name.text k u.0.0 u.0.1.0 u.0.1.1))
    (one_used dims apart names js ks h.1 u.1)
one_used dims apart _ _ _ h u = absurd u

-- ---- the table

module _ (statements : List Statement) where
  one_made : (names : List ℕ → Shape) (a b : Table) → Differ (texts (dim_names statements)) → IsTableOf names statements a → IsTableOf names statements b → a ≡ b
  one_made names a b differ h k =
      let dims : a.dims ≡ b.dims = one_list names (dimensions statements) a.dims b.dims h.dims k.dims in
      let apart : Differ (names_in b.dims) = subst Differ (sym (names_made names (dimensions statements) b.dims k.dims)) differ in
      let used : a.used ≡ b.used = one_used b.dims apart (used_names statements) a.used b.used (subst (λ ds. AreUsed ds (used_names statements) a.used) dims h.used) k.used in
      ap (λ z. record { dims = z; used = a.used }) dims ∙ ap (λ z. record { dims = b.dims; used = z }) used

  one_table : (a b : Table) → HasTable statements a → HasTable statements b → a ≡ b
  one_table a b h k =
      let means : k.names ≡ h.names = fun_ext (h.only k.names k.resolves) in
      one_made h.names a b (once_differ (once statements) (λ f k. h.named f (inr (inr (inl k)))) (dim_names statements) (inl refl)) h.table (subst (λ n. IsTableOf n statements b) means k.table)

  -- ---- the fault

  table_or_fault : (table : Table) (f : Fault) → HasTable statements table → Refuses statements f → ⊥
  table_or_fault table f h (inl k) = h.named f k.0
  table_or_fault table f h (inr (inl k)) = h.acyclic f k.1.0
  table_or_fault table f h (inr (inr k)) =
      let means : k.names ≡ h.names = fun_ext (h.only k.names k.resolves) in
      h.right f (subst (λ n. KindOffends n statements f) means k.first.0)

  one_fault : (f g : Fault) → Refuses statements f → Refuses statements g → f ≡ g
  one_fault f g (inl h) (inl k) = one_first (NameOffends statements) f g h k
  one_fault f g (inl h) (inr (inl k)) = absurd (k.0 f h.0)
  one_fault f g (inl h) (inr (inr k)) = absurd (k.named f h.0)
  one_fault f g (inr (inl h)) (inl k) = absurd (h.0 g k.0)
  one_fault f g (inr (inr h)) (inl k) = absurd (h.named g k.0)
  one_fault f g (inr (inl h)) (inr (inl k)) = one_first (CycleOffends statements) f g h.1 k.1
  one_fault f g (inr (inl h)) (inr (inr k)) = absurd (k.acyclic f h.1.0)
  one_fault f g (inr (inr h)) (inr (inl k)) = absurd (h.acyclic g k.1.0)
  one_fault f g (inr (inr h)) (inr (inr k)) =
      let means : k.names ≡ h.names = fun_ext (h.only k.names k.resolves) in
      one_first (KindOffends h.names statements) f g h.first (subst (λ n. TellsFault (KindOffends n statements) (Some g)) means k.first)

  -- a grammar has one answer
  pub one_answer : (one other : Result Table Fault) → IsAnswer statements one → IsAnswer statements other → one ≡ other
  one_answer (Ok a) (Ok b) h k = ap Ok (one_table a b h k)
  one_answer (Ok a) (Err f) h k = absurd (table_or_fault a f h k)
  one_answer (Err f) (Ok b) h k = absurd (table_or_fault b f k h)
  one_answer (Err f) (Err g) h k = ap Err (one_fault f g h k)

  pub only_answer : (answer : Result Table Fault) (result : Result Table Stop) → IsAnswer statements answer → Tells statements result → Gives answer result
  only_answer answer (Ok table) is tells = one_answer answer (Ok table) is tells
  only_answer answer (Err (stops.Fault f)) is tells = one_answer answer (Err f) is tells
  only_answer answer (Err stops.OutOfMemory) is tells = tt
