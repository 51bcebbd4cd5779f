-- What the lexicon of a checked grammar goes by.
use Rattle.std.specs.Prelude.{◌≡◌, ℕ, List, map}
use Rattle.xdg_types.specs.Table.{Table}
use Rattle.xdg_classes.specs.Bodies.{Body, body}
use Rattle.xdg_classes.specs.Wants.{NamedBody}
use Rattle.xdg_check.specs.Checked.{Parts, named_bodies}
use Rattle.xdg_check.specs.Counts.{Counting}
use Rattle.xdg_facts.specs.Membership.{In}

-- the types, the classes by name with their bodies, and the bodies of the entries with the places of their words `defentry`
pub record Source : Type 0 where
  pub table : Table
  pub classes : List NamedBody
  pub entries : List (ℕ × Body)

abbrev pub source_of : Parts → Source
source_of parts = record {
  table = parts.types;
  classes = named_bodies parts.classes;
  entries = map (λ e. (e.at, body e.body.kind)) parts.entries;
}

-- The numbers that go with the names of classes: each class has the number of its body, and no other name has one.
pub record AreNumbers (count : Counting → Body → ℕ) (classes : List NamedBody) (names : Counting) : Type 0 where
  pub defined : (c : NamedBody) → In classes c → names c.name ≡ count names c.body
  pub undefined : (name : List ℕ) → (In (map (λ c. c.name) classes) name → ⊥) → names name ≡ 0

-- the body has that number, by the numbers of the classes that it uses
abbrev pub HasNumber : (Counting → Body → ℕ) → List NamedBody → Body → ℕ → Type 0
HasNumber count classes b n = (names : Counting) × (AreNumbers count classes names × (n ≡ count names b))
