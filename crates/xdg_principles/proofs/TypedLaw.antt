-- Where nothing is wrong, the uses of principles are typed.
use Rattle.std.proofs.Common.{◌≡◌, inl, inr, ℕ, List, ◌++◌, map, Option, Some, Result, Ok, Err, refl, sym, ap, subst}
use Rattle.std.specs.Prelude.{IfOk}
use Rattle.xdg_ast.specs.declared.names.Name.{Name}
use Rattle.xdg_base.specs.declared.faults.Fault.{Fault}
use Rattle.xdg_domain.specs.Shapes.{Shape}
use Rattle.xdg_names.specs.Texts.{place_of}
use Rattle.xdg_types.specs.Answers.{HasTable, None_of}
use Rattle.xdg_types.specs.Parts.{Statement, used_names}
use Rattle.xdg_types.specs.Table.{Table, IsTable}
use Rattle.xdg_types.proofs.NamesKnown.{each_known}
use Rattle.xdg_principles.specs.declared.building.PrincipleUse.{PrincipleUse}
use Rattle.xdg_problem.specs.declared.forms.Parameter.{Parameter}
use Rattle.xdg_problem.specs.declared.forms.Which.{Which}
use Rattle.xdg_problem.specs.Forms.{dims_in, dim_key, form_of, parameters}
use Rattle.xdg_facts.specs.Onward.{optional}
use Rattle.xdg_problem.specs.declared.forms.Form.{Form}
use Rattle.xdg_principles.specs.Uses.{Use, principle_uses, values, under}
use Rattle.xdg_principles.specs.Settings.{Setting, setting_of, dim, dim_place, dim_texts, at_place, shared}
use Rattle.xdg_principles.specs.Names.{PrincipleNameOffends}
use Rattle.xdg_principles.specs.Arguments.{OneOffends, ArgumentOffends}
use Rattle.xdg_principles.specs.Made.{IsArg, IsUse, ArePrincipleUses, built}
use Rattle.xdg_principles.specs.Typed.{number_of, dim_at, IsTypedArg, IsTypedUse, AreTypedUses}
use Rattle.xdg_facts.proofs.Lists.{zip_length}
use Rattle.xdg_principles.proofs.Rows.{of_texts}
use Rattle.xdg_principles.proofs.Tables.{has_dims}
use Rattle.xdg_principles.proofs.TypedArgs.{shared_or, small_shared, fixes, typed_arg}
use Rattle.xdg_principles.proofs.TypedPlaces.{place_in, name_of_dim, place_below, used_text, used_place}
use Rattle.xdg_principles.proofs.TypedRows.{HasWhich, which_at, FixesShared, fixing, sound_wanted}
use Rattle.xdg_principles.proofs.UseLaw.{stands_here, value_under, are_uses}
use Rattle.xdg_facts.specs.Membership.{In}
use Rattle.xdg_ast.specs.Texts.{texts}
use Rattle.xdg_facts.proofs.Zips.{zip_first, zip_second, zip_weaker}

-- ---- lists

first_in : (first : Option Parameter) (more : List Parameter) (parameter : Parameter) → first ≡ Some parameter → In (optional first ++ more) parameter
first_in first more parameter is = subst (λ (o : Option Parameter). In (optional o ++ more) parameter) (sym is) (inl refl)

-- ---- one use

module _ (statements : List Statement) (table : Table) (has : HasTable statements table) (named : None_of (PrincipleNameOffends statements)) (right : None_of (ArgumentOffends statements table)) where
  module _ (types : IsTable table) (one : Use) (stands : In (principle_uses statements) one) (u : PrincipleUse) (is : IsUse table.dims one u) where
    abbrev form : Form
    form = form_of u.principle

    abbrev here : Setting
    here = setting_of table.dims one u.principle

    one_right : (parameter : Parameter) → In (parameters form) parameter → (f : Fault) → OneOffends (record { setting = here; parameter = parameter }) f → ⊥
    one_right parameter i f o =
        right f (record { setting = here; parameter = parameter }, (stands_here statements table (has_dims statements table has) named right one stands u.principle is.known parameter i, o))

    same_dim : (which : Which) → HasWhich form.dims which → dim_at table u which ≡ dim here which
    same_dim which h = ap (at_place table.dims) (place_in here (dims_in form.dims) u.dims is.dimensions (number_of which) which (which_at form.dims which h))

    fixed : FixesShared form.first → (type : Shape) × (shared here ≡ Some type)
    fixed h =
        let x = fixing form.first h in
        let i = first_in form.first (optional form.second ++ optional form.third) x.parameter x.stands in
        let arg = zip_first (λ (y : Parameter) made. IsArg here y y.wanted made) (parameters form) u.args is.arguments x.parameter i in
        fixes here x.parameter (one_right x.parameter i) x.sort x.which x.wanted x.required x.stands arg.0 arg.1.1

    -- a dimension of the use is one of the table, and the text names it
    named_dim : (k : ℕ) → In u.dims k → (name : Name) × (In (values one.dims) name × (place_of (dim_texts table.dims) name.text ≡ Some k))
    named_dim k i =
        let which = zip_second (λ w n. dim_place here w ≡ Some n) (dims_in form.dims) u.dims is.dimensions k i in
        let name = name_of_dim table.dims (under one.dims (dim_key form.dims which.0)) k which.1.1 in
        (name.0, (value_under one.dims (dim_key form.dims which.0) name.0 name.1.0, name.1.1))

    used_too : In table.used u.home → (k : ℕ) → In u.dims k → In table.used k
    used_too at k i =
        let name = named_dim k i in
        let within : In (texts (used_names statements)) one.within.text = used_text table.dims (used_names statements) table.used has.table.used u.home one.within.text at is.home in
        let among = each_known (texts (used_names statements)) (values one.dims) (λ f h. named f (inr (inr (inl (record { one = one; stands = stands; used = within; unknown = h }))))) name.0 name.1.0 in
        used_place table.dims (used_names statements) table.used types.names has.table.used k name.0.text among name.1.1

    typed_use : IsTypedUse table u
    typed_use = record {
      of_texts = of_texts one.name.text u.principle is.known;
      home = place_below table.dims one.within.text u.home is.home;
      count = sym (zip_length (λ which k. dim_place here which ≡ Some k) (dims_in form.dims) u.dims is.dimensions);
      dims = λ k i. (let name = named_dim k i in place_below table.dims name.0.text k name.1.1);
      used = used_too;
      shared = shared_or (shared here);
      small = small_shared here;
      args = zip_weaker (λ (x : Parameter) made. IsArg here x x.wanted made) (λ (x : Parameter) made. IsTypedArg table u (shared_or (shared here)) x.wanted made) (parameters form) u.args
          (λ parameter i x h. typed_arg here parameter (one_right parameter i) table u same_dim fixed parameter.wanted refl (sound_wanted u.principle parameter i) x h) is.arguments;
    }

  -- all uses are typed
  pub typed_uses : IsTable table → (made : List PrincipleUse) → ArePrincipleUses statements table made → AreTypedUses table made
  typed_uses types made h u i = let r = zip_second (IsUse table.dims) (principle_uses statements) made h u i in typed_use types r.0 r.1.0 u r.1.1

  -- ---- what is made

  meant : (made : List PrincipleUse) → made ≡ map (built table.dims) (principle_uses statements) → ArePrincipleUses statements table made
  meant made same = subst (ArePrincipleUses statements table) (sym same) (are_uses statements table (has_dims statements table has) named right)

  pub meant_made : {E : Type 0} (result : Result (List PrincipleUse) E) → IfOk result (λ made. made ≡ map (built table.dims) (principle_uses statements)) → IfOk result (λ made. ArePrincipleUses statements table made)
  meant_made (Ok made) same = meant made same
  meant_made (Err error) same = tt

  pub typed_made : {E : Type 0} (result : Result (List PrincipleUse) E) → IfOk result (λ made. made ≡ map (built table.dims) (principle_uses statements)) → IfOk result (λ made. IsTable table) → IfOk result (AreTypedUses table)
  typed_made (Ok made) same types = typed_uses types made (meant made same)
  typed_made (Err error) same types = tt
