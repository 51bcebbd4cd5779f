-- A checked grammar that is put together keeps what it has to, and is that of the text.
use Rattle.std.proofs.lemmas.List.{append-nil, drop_all, take_all, length-map}
use Rattle.std.proofs.Common.{◌≡◌, ◌++◌, take, drop, length, arith, Some, inl, inr, ℕ, List, [], map, refl, sym, ap, ◌∙◌, subst}
use Rattle.xdg_base.specs.declared.faults.Fault.{Fault}
use Rattle.xdg_types.specs.Answers.{HasTable, None_of}
use Rattle.xdg_types.specs.Parts.{Statement}
use Rattle.xdg_names.specs.First.{Tells as TellsFault}
use Rattle.xdg_classes.specs.Graph.{CycleOffends}
use Rattle.xdg_classes.specs.Names as c
use Rattle.xdg_types.specs.Table.{Table, IsTable}
use Rattle.xdg_classes.specs.Bodies.{body}
use Rattle.xdg_classes.specs.Definitions.{classes, class_names, entries}
use Rattle.xdg_classes.specs.Lent.{class_def}
use Rattle.xdg_classes.specs.Ordered.{OrdersClasses}
use Rattle.xdg_classes.specs.declared.lookup.Classes.{Classes}
use Rattle.xdg_principles.specs.declared.building.PrincipleUse.{PrincipleUse}
use Rattle.xdg_principles.specs.declared.using.Uses.{Uses}
use Rattle.xdg_principles.specs.Made.{ArePrincipleUses, AreRightUses}
use Rattle.xdg_principles.specs.Typed.{AreTypedUses}
use Rattle.xdg_principles.specs.Uses.{AreUsesOf}
use Rattle.xdg_check.specs.declared.checked.Class.{Class}
use Rattle.xdg_check.specs.declared.checked.EntryDef.{EntryDef}
use Rattle.xdg_check.specs.Answers.{NameOffends, ValueOffends, IsClassOf, IsEntryOf, AreClassesOf, AreEntriesOf, IsCheckedOf, Refuses}
use Rattle.xdg_check.specs.Checked.{IsOrder, IsChecked, IsRightBody}
use Rattle.xdg_check.specs.Counts.{class_texts, bare, uses, combos, AreCounted}
use Rattle.xdg_check.specs.Lex.{HasLex, LexOffends}
use Rattle.xdg_check.specs.Made.{IsNamed}
use Rattle.xdg_check.proofs.Binding.{classes_differ, params_differ}
use Rattle.xdg_check.proofs.Filled.{same_texts}
use Rattle.xdg_check.proofs.Keeping.{RightBodies, right_body}
use Rattle.xdg_check.proofs.Placing.{bare_classes, is_order}
use Rattle.xdg_check.proofs.Sound.{right_bodies}
use Rattle.xdg_check.proofs.Sources.{same_names, class_scoped, class_body, entry_scoped, entry_body}
use Rattle.xdg_facts.specs.Membership.{In, Differ}
use Rattle.xdg_ast.specs.Texts.{texts}
use Rattle.xdg_facts.proofs.Zips.{zip_second}

-- ---- the classes

module _ (statements : List Statement) (table : Table) (names : None_of (NameOffends statements table)) (ordering : Classes) (o : OrdersClasses statements ordering) where
  bodies_right : None_of (c.NameOffends statements table)
  bodies_right f h = names f (inl h)

  is_named : IsNamed ordering
  is_named = o.names ∙ ap (λ cs. texts (class_names cs)) (sym o.definitions)

  pub classes_are : (made : List Class) → (IsNamed ordering → AreClassesOf (map class_def ordering.definitions) (map class_def ordering.definitions) made) → AreClassesOf (classes statements) (classes statements) made
  classes_are made h = subst (λ cs. AreClassesOf cs cs made) o.definitions (h is_named)

  entries_are : (made : List EntryDef) → (IsNamed ordering → AreEntriesOf (map class_def ordering.definitions) (entries statements) made) → AreEntriesOf (classes statements) (entries statements) made
  entries_are made h = subst (λ cs. AreEntriesOf cs (entries statements) made) o.definitions (h is_named)

  module _ (made : List Class) (are : AreClassesOf (classes statements) (classes statements) made) where
    pub apart : Differ (class_texts made)
    apart = subst Differ (sym (same_names (classes statements) (classes statements) made are)) (classes_differ statements table bodies_right)

    pub made_order : IsOrder made ordering.order
    made_order = is_order statements table bodies_right ordering o made are

  -- ---- what is put together

  module _ (values : None_of (ValueOffends statements table)) (types : IsTable table) (lex : HasLex table) (principles : List PrincipleUse) (entry_defs : List EntryDef)
      (entries_made : IsNamed ordering → AreEntriesOf (map class_def ordering.definitions) (entries statements) entry_defs) (first slice filled final : List Class)
      (made : IsNamed ordering → AreClassesOf (map class_def ordering.definitions) (map class_def ordering.definitions) first) (lent : slice ≡ first) (same : map bare filled ≡ map bare slice) (last : final ≡ filled)
      (order : List ℕ) (copied : order ≡ ordering.order) (counted : AreCounted uses (λ c. c.uses) filled) (multiplied : AreCounted combos (λ c. c.combos) filled) where
    final_are : AreClassesOf (classes statements) (classes statements) final
    final_are = bare_classes (classes statements) (classes statements) first final (ap (map bare) last ∙ same ∙ ap (map bare) lent) (classes_are first made)

    final_order : IsOrder final order
    final_order = subst (IsOrder final) (sym copied) (made_order final final_are)

    final_uses : AreCounted uses (λ c. c.uses) final
    final_uses = subst (AreCounted uses (λ c. c.uses)) (sym last) counted

    final_combos : AreCounted combos (λ c. c.combos) final
    final_combos = subst (AreCounted combos (λ c. c.combos)) (sym last) multiplied

    final_entries : AreEntriesOf (classes statements) (entries statements) entry_defs
    final_entries = entries_are entry_defs entries_made

    values_right : RightBodies statements table
    values_right = right_bodies statements table (λ f h. values f (inl h))

    class_right : (c : Class) → In final c → IsRightBody table final c.params (body c.body.kind)
    class_right c h =
        let s = zip_second (IsClassOf (classes statements)) (classes statements) final final_are c h in
        subst (λ ps. IsRightBody table final ps (body c.body.kind)) (sym s.1.1.params)
        (right_body statements table bodies_right values_right final final_are (class_scoped s.0) (class_body statements s.0 s.1.0) (body c.body.kind) s.1.1.body)

    entry_right : (e : EntryDef) → In entry_defs e → IsRightBody table final [] (body e.body.kind)
    entry_right e h =
        let s = zip_second (IsEntryOf (classes statements)) (entries statements) entry_defs final_entries e h in
        right_body statements table bodies_right values_right final final_are (entry_scoped s.0) (entry_body statements s.0 s.1.0) (body e.body.kind) s.1.1.body

    params_apart : (c : Class) → In final c → Differ c.params
    params_apart c h = let s = zip_second (IsClassOf (classes statements)) (classes statements) final final_are c h in subst Differ (sym s.1.1.params) (params_differ statements table bodies_right s.0 s.1.0)

    pub is_checked : AreTypedUses table principles → IsChecked (record { types = table; principles = principles; classes = final; entries = entry_defs; order = order })
    is_checked compiled = record {
      types = types;
      lex = lex;
      principles = compiled;
      names = apart final final_are;
      params = params_apart;
      ordered = final_order;
      classes = class_right;
      entries = entry_right;
      uses = final_uses;
      combos = final_combos;
    }

    pub is_checked_of : ArePrincipleUses statements table principles → IsCheckedOf statements table (record { types = table; principles = principles; classes = final; entries = entry_defs; order = order })
    is_checked_of compiled = record {
      types = refl;
      principles = compiled;
      classes = final_are;
      entries = final_entries;
      ordered = final_order;
      uses = final_uses;
      combos = final_combos;
    }

  -- the names are those of the classes, before and after they are counted
  pub names_slice : (first lent slice : List Class) (index : List (List ℕ)) → (IsNamed ordering → AreClassesOf (map class_def ordering.definitions) (map class_def ordering.definitions) first) → lent ≡ first → slice ≡ first
      → (Differ (class_texts lent) → index ≡ class_texts lent) → index ≡ class_texts slice
  names_slice first lent slice index made same last told =
      told (subst (λ cs. Differ (class_texts cs)) (sym same) (apart first (classes_are first made))) ∙ ap class_texts (same ∙ sym last)

  pub names_final : (slice filled final : List Class) (index : List (List ℕ)) → index ≡ class_texts slice → map bare filled ≡ map bare slice → final ≡ filled → index ≡ class_texts final
  names_final slice filled final index told same last = told ∙ sym (same_texts filled slice same) ∙ ap class_texts (sym last)

-- ---- refusals

module _ (statements : List Statement) (table : Table) where
  pub value_refuses : (f : Fault) → None_of (NameOffends statements table) → None_of (CycleOffends statements) → TellsFault (ValueOffends statements table) (Some f) → Refuses statements table f
  value_refuses f names acyclic told = inr (names, inr (acyclic, inl told))

  pub lex_refuses : (f : Fault) → None_of (NameOffends statements table) → None_of (CycleOffends statements) → None_of (ValueOffends statements table) → TellsFault (LexOffends table) (Some f) → Refuses statements table f
  lex_refuses f names acyclic values told = inr (names, inr (acyclic, inr (values, told)))

-- ---- a vector that is written through a slice

pub written_back : (filled slice old : List Class) (len : ℕ) → len ≡ length old → slice ≡ old → map bare filled ≡ map bare slice → take len (filled ++ drop (length filled) old) ≡ filled
written_back filled slice old len counted lent same =
    let long : length filled ≡ length old = sym (length-map filled bare) ∙ ap length same ∙ length-map slice bare ∙ ap length lent in
    ap (λ xs. take len (filled ++ xs)) (drop_all (length filled) old (omega (arith, long))) ∙ ap (take len) (append-nil filled) ∙ take_all len filled (omega (arith, long, counted))

-- ---- the uses of principles

pub right_uses : (statements : List Statement) (table : Table) (uses : Uses) → AreUsesOf statements uses → HasTable statements table → None_of (NameOffends statements table) → None_of (ValueOffends statements table)
    → AreRightUses statements table uses
right_uses statements table uses are has named valued = record { found = are; has = has; names = λ f h. named f (inr h); arguments = λ f h. valued f (inr h) }
