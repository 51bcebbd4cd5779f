-- Classes and entries that are made one after the other.
use Rattle.std.proofs.Common.{◌≡◌, ℕ, ◌<◌, ◌+◌, List, [], ◌∷◌, ◌++◌, length, get_or, take, map, sym, ap, ◌∙◌, subst}
use Rattle.std.proofs.lemmas.List.{take_more, map-append}
use Rattle.xdg_ast.specs.declared.grammar.StatementKind.TheVariants as k
use Rattle.xdg_facts.proofs.Lists.{zip_more}
use Rattle.xdg_types.specs.Parts.{Statement}
use Rattle.xdg_classes.specs.Bodies.{Expr, body}
use Rattle.xdg_classes.specs.Definitions.{ClassDef, entry, entry_at}
use Rattle.xdg_classes.specs.declared.definitions.ClassDef.{ClassDef as LentClass}
use Rattle.xdg_classes.specs.Lent.{class_def}
use Rattle.xdg_check.specs.declared.checked.Class.{Class}
use Rattle.xdg_check.specs.declared.checked.EntryDef.{EntryDef}
use Rattle.xdg_check.specs.Answers.{IsClassOf, AreClassesOf, IsEntryOf, AreEntriesOf}
use Rattle.xdg_check.specs.Completed.{completed}
use Rattle.xdg_check.specs.Made.{AddsEntries}

-- ---- classes

pub class_turn : (cs : List ClassDef) (ds : List LentClass) (i : ℕ) (x : LentClass) (old new : List Class) (m : Class) → i < length ds → x ≡ get_or ds i x → AreClassesOf cs (map class_def (take i ds)) old → IsClassOf cs (class_def x) m
    → new ≡ old ++ m ∷ [] → AreClassesOf cs (map class_def (take (i + 1) ds)) new
class_turn cs ds i x old new m within is so_far one grown =
    let front : take (i + 1) ds ≡ take i ds ++ x ∷ [] = take_more ds i x within ∙ ap (λ y. take i ds ++ y ∷ []) (sym is) in
    subst (AreClassesOf cs (map class_def (take (i + 1) ds))) (sym grown)
    (subst (λ xs. AreClassesOf cs xs (old ++ m ∷ [])) (sym (ap (map class_def) front ∙ map-append class_def (take i ds) (x ∷ []))) (zip_more (IsClassOf cs) (map class_def (take i ds)) old (class_def x) m so_far one))

-- ---- entries

pub entry_more : (cs : List ClassDef) (statement : Statement) (source : Expr) (y : EntryDef) (old new : List EntryDef) → statement.kind ≡ k.DefEntry source → y.at ≡ statement.span.start → body y.body.kind ≡ completed cs (body source.kind)
    → y.body.span ≡ source.span → new ≡ old ++ y ∷ [] → AddsEntries cs (entry statement) old new
entry_more cs statement source y old new is at tree span grown sources are =
    subst (AreEntriesOf cs (sources ++ entry statement)) (sym grown)
    (subst (λ xs. AreEntriesOf cs (sources ++ xs) (old ++ y ∷ [])) (sym (ap (entry_at statement.span.start) is))
    (zip_more (IsEntryOf cs) sources old (record { at = statement.span.start; body = source }) y are (record { at = at; body = tree; span = span })))
