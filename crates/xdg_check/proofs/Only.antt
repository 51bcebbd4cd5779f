-- A grammar with its table has one meaning or one first fault.
use Rattle.std.proofs.Common.{◌≡◌, ◌⊎◌, inl, inr, ℕ, List, map, Some, Ok, Err, sym, ap, ap₂, ◌∙◌}
use Rattle.std.specs.Prelude.{Result}
use Rattle.xdg_base.specs.declared.faults.Fault.{Fault}
use Rattle.xdg_base.specs.declared.faults.Stop.{Stop}
use Rattle.xdg_base.specs.declared.faults.Stop.TheVariants as stops
use Rattle.xdg_names.specs.First.{Tells as TellsFault}
use Rattle.xdg_names.proofs.One.{one_first}
use Rattle.xdg_types.specs.Answers.{None_of}
use Rattle.xdg_types.specs.Parts.{Statement}
use Rattle.xdg_types.specs.Table.{Table}
use Rattle.xdg_classes.specs.Bodies.{Body, body}
use Rattle.xdg_classes.specs.Definitions as d
use Rattle.xdg_classes.specs.Definitions.{ClassDef, param_names}
use Rattle.xdg_classes.specs.Graph.{CycleOffends}
use Rattle.xdg_classes.specs.Wants.{NamedBody}
use Rattle.xdg_principles.proofs.OneUse.{one_list}
use Rattle.xdg_check.specs.declared.checked.Class.{Class}
use Rattle.xdg_check.specs.declared.checked.EntryDef.{EntryDef}
use Rattle.xdg_check.specs.Answers.{NameOffends, ValueOffends, IsRight, Refuses, IsClassOf, AreClassesOf, IsEntryOf, AreEntriesOf, IsCheckedOf, Tells, IsAnswer}
use Rattle.xdg_check.specs.Checked.{Parts, named_body, named_bodies}
use Rattle.xdg_check.specs.Completed.{completed}
use Rattle.xdg_check.specs.Lex.{LexOffends}
use Rattle.xdg_check.specs.Only.{placed_body, SameMeaning, Gives}
use Rattle.xdg_ast.specs.Texts.{texts}
use Rattle.xdg_facts.proofs.Zips.{zip_seen}

-- ---- classes and entries

-- the class as its definition says it
class_of : List ClassDef → ClassDef → NamedBody
class_of cs source = record { name = source.name.text; params = texts (param_names source.params); body = completed cs (body source.body.kind) }

one_class : (cs : List ClassDef) (source : ClassDef) (made : Class) → IsClassOf cs source made → named_body made ≡ class_of cs source
unfolding class_of
one_class cs source made h =
    ap (λ z. record { name = z; params = made.params; body = body made.body.kind }) h.name
    ∙ ap (λ z. record { name = source.name.text; params = z; body = body made.body.kind }) h.params
    ∙ ap (λ z. record { name = source.name.text; params = texts (param_names source.params); body = z }) h.body

all_classes : (cs sources : List ClassDef) (made : List Class) → AreClassesOf cs sources made → named_bodies made ≡ map (class_of cs) sources
all_classes cs sources made = zip_seen (IsClassOf cs) (class_of cs) named_body sources made (one_class cs)

entry_of : List ClassDef → d.EntryDef → ℕ × Body
entry_of cs source = (source.at, completed cs (body source.body.kind))

one_entry : (cs : List ClassDef) (source : d.EntryDef) (made : EntryDef) → IsEntryOf cs source made → placed_body made ≡ entry_of cs source
unfolding entry_of
one_entry cs source made h = ap₂ (λ n b. (n, b)) h.at h.body

all_entries : (cs : List ClassDef) (sources : List d.EntryDef) (made : List EntryDef) → AreEntriesOf cs sources made → map placed_body made ≡ map (entry_of cs) sources
all_entries cs sources made = zip_seen (IsEntryOf cs) (entry_of cs) placed_body sources made (one_entry cs)

-- ---- passes, one after the other

-- the first fault of a pass, or, where it finds none, what the later passes say
abbrev Then : (Fault → Type 0) → (Fault → Type 0) → Fault → Type 0
Then P Later f = TellsFault P (Some f) ⊎ (None_of P × Later f)

-- no two faults
abbrev Once : (Fault → Type 0) → Type 0
Once P = (f g : Fault) → P f → P g → f ≡ g

module _ (P Later : Fault → Type 0) where
  once_then : Once Later → Once (Then P Later)
  once_then once f g (inl h) (inl k) = one_first P f g h k
  once_then once f g (inl h) (inr k) = absurd (k.0 f h.0)
  once_then once f g (inr h) (inl k) = absurd (h.0 g k.0)
  once_then once f g (inr h) (inr k) = once f g h.1 k.1

  none_then : None_of P → None_of Later → None_of (Then P Later)
  none_then here later f (inl h) = here f h.0
  none_then here later f (inr h) = later f h.1

module _ (statements : List Statement) (table : Table) where
  abbrev Words : Fault → Type 0
  Words f = TellsFault (LexOffends table) (Some f)

  abbrev Values : Fault → Type 0
  Values = Then (ValueOffends statements table) Words

  abbrev Cycles : Fault → Type 0
  Cycles = Then (CycleOffends statements) Values

  one_fault : (f g : Fault) → Refuses statements table f → Refuses statements table g → f ≡ g
  one_fault = once_then (NameOffends statements table) Cycles (once_then (CycleOffends statements) Values (once_then (ValueOffends statements table) Words (λ f g. one_first (LexOffends table) f g)))

  no_fault : IsRight statements table → (f : Fault) → Refuses statements table f → ⊥
  no_fault right =
      none_then (NameOffends statements table) Cycles right.named
      (none_then (CycleOffends statements) Values right.acyclic (none_then (ValueOffends statements table) Words right.valued (λ f h. right.lex f h.0)))

  same_meaning : (a b : Parts) → IsCheckedOf statements table a → IsCheckedOf statements table b → SameMeaning a b
  same_meaning a b h k =
      let cs = d.classes statements in
      record {
        types = h.types ∙ sym k.types;
        principles = one_list statements table a.principles b.principles h.principles k.principles;
        classes = all_classes cs cs a.classes h.classes ∙ sym (all_classes cs cs b.classes k.classes);
        entries = all_entries cs (d.entries statements) a.entries h.entries ∙ sym (all_entries cs (d.entries statements) b.entries k.entries);
      }

  -- a grammar with its table has one answer
  pub only_answer : (answer : Result Parts Fault) (result : Result Parts Stop) → IsAnswer statements table answer → Tells statements table result → Gives answer result
  only_answer (Ok a) (Ok b) is tells = same_meaning a b is.1 tells.1
  only_answer (Ok a) (Err (stops.Fault g)) is tells = no_fault is.0 g tells
  only_answer (Ok a) (Err stops.OutOfMemory) is tells = tt
  only_answer (Err f) (Ok b) is tells = no_fault tells.0 f is
  only_answer (Err f) (Err (stops.Fault g)) is tells = one_fault f g is tells
  only_answer (Err f) (Err stops.OutOfMemory) is tells = tt
