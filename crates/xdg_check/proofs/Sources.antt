-- Classes and entries with completed bindings, beside those of the text.
use Rattle.std.proofs.Common.{◌≡◌, List, [], ◌++◌, map, refl, sym, ap₂, ◌∙◌}
use Rattle.std.proofs.lemmas.List.{map-append}
use Rattle.xdg_ast.specs.declared.names.Name.{Name}
use Rattle.xdg_types.specs.Parts.{Statement}
use Rattle.xdg_classes.specs.Bodies.{Body, either, both, saying, calling, Bodies, no_body, body_then, body, Called, records, records_in, calls, calls_in}
use Rattle.xdg_classes.specs.Definitions as d
use Rattle.xdg_classes.specs.Definitions.{ClassDef, class, classes, class_names, class_named, param_names, Scoped, scoped, bodies, entry, entries}
use Rattle.xdg_check.specs.declared.checked.Class.{Class}
use Rattle.xdg_check.specs.Completed.{completed, all_completed, bound_by}
use Rattle.xdg_check.specs.Answers.{IsClassOf, AreClassesOf}
use Rattle.xdg_check.specs.Counts.{class_texts}
use Rattle.xdg_facts.specs.Membership.{In}
use Rattle.xdg_facts.proofs.Lists.{fused}
use Rattle.xdg_facts.proofs.In.{in_left, in_right, in_flat_map, flat_map_in, map_in}
use Rattle.xdg_ast.specs.Texts.{texts}
use Rattle.xdg_facts.proofs.Zips.{zip_seen}

-- ---- what stands in a completed body

abbrev pub completed_call : List ClassDef → Called → Called
completed_call cs call = record { name = call.name; args = bound_by (class_named cs call.name.text) call.args }

module _ (cs : List ClassDef) where
  mutual
    pub same_records : (b : Body) → records (completed cs b) ≡ records b
    same_records (either bs) = same_records_in bs
    same_records (both bs) = same_records_in bs
    same_records (saying dim pairs) = refl
    same_records (calling name args) = refl

    same_records_in : (bs : Bodies) → records_in (all_completed cs bs) ≡ records_in bs
    same_records_in no_body = refl
    same_records_in (body_then b bs) = ap₂ (λ x y. x ++ y) (same_records b) (same_records_in bs)

  mutual
    pub completed_calls : (b : Body) → calls (completed cs b) ≡ map (completed_call cs) (calls b)
    completed_calls (either bs) = completed_calls_in bs
    completed_calls (both bs) = completed_calls_in bs
    completed_calls (saying dim pairs) = refl
    completed_calls (calling name args) = refl

    completed_calls_in : (bs : Bodies) → calls_in (all_completed cs bs) ≡ map (completed_call cs) (calls_in bs)
    completed_calls_in no_body = refl
    completed_calls_in (body_then b bs) = ap₂ (λ x y. x ++ y) (completed_calls b) (completed_calls_in bs) ∙ sym (map-append (completed_call cs) (calls b) (calls_in bs))

-- ---- made from the text

module _ (cs : List ClassDef) where
  pub same_names : (sources : List ClassDef) (made : List Class) → AreClassesOf cs sources made → class_texts made ≡ texts (class_names sources)
  same_names sources made are =
      zip_seen (IsClassOf cs) (λ (c : ClassDef). c.name.text) (λ (m : Class). m.name) sources made (λ c m is. is.name) are
      ∙ sym (fused (λ (n : Name). n.text) (λ (c : ClassDef). c.name) sources)

-- ---- the bodies of the text

abbrev pub class_scoped : ClassDef → Scoped
class_scoped c = record { params = texts (param_names c.params); body = body c.body.kind }

abbrev pub entry_scoped : d.EntryDef → Scoped
entry_scoped e = record { params = []; body = body e.body.kind }

pub class_body : (statements : List Statement) (c : ClassDef) → In (classes statements) c → In (bodies statements) (class_scoped c)
class_body statements c h =
    let s = in_flat_map (λ (statement : Statement). class statement.kind) statements c h in
    flat_map_in scoped statements s.0 (class_scoped c) s.1.0 (in_left (map class_scoped (class s.0.kind)) (map entry_scoped (entry s.0)) (class_scoped c) (map_in class_scoped (class s.0.kind) c s.1.1))

pub entry_body : (statements : List Statement) (e : d.EntryDef) → In (entries statements) e → In (bodies statements) (entry_scoped e)
entry_body statements e h =
    let s = in_flat_map entry statements e h in
    flat_map_in scoped statements s.0 (entry_scoped e) s.1.0 (in_right (map class_scoped (class s.0.kind)) (map entry_scoped (entry s.0)) (entry_scoped e) (map_in entry_scoped (entry s.0) e s.1.1))
