-- What is known of the names of types: for each the type, no name itself, that it leads to.
use Rattle.std.specs.Prelude.{◌≡◌, ℕ, ◌<◌, List, [], length, get_or, slice_index_or, None, Some}
use Rattle.xdg_ast.specs.declared.names.Name.{Name}
use Rattle.xdg_ast.specs.declared.types.TypeKind.{TypeKind}
use Rattle.xdg_domain.specs.Shapes.{Shape, truth}
use Rattle.xdg_names.specs.Texts.{place_of}
use Rattle.xdg_types.specs.Written.{tree, named}
use Rattle.xdg_types.specs.Parts.{TypeTerm}
use Rattle.xdg_types.specs.Meaning.{meaning, IsHead}

-- the second means what the first means, and is no name
abbrev pub IsHeadOf : (List ℕ → Shape) → TypeKind → TypeKind → Type 0
IsHeadOf names kind head = (meaning names (tree head) ≡ meaning names (tree kind)) × IsHead names (tree head)

-- The names mean what the types at their places mean, and others `bool`.
pub record Knows (names : List ℕ → Shape) (known : List (List ℕ)) (heads : List TypeTerm) : Type 0 where
  pub found : (name : List ℕ) (k : ℕ) → place_of known name ≡ Some k → (k < length heads)
      × ((type : TypeTerm) → (meaning names (tree (get_or heads k type).kind) ≡ names name) × IsHead names (tree (get_or heads k type).kind))
  pub missing : (name : List ℕ) → place_of known name ≡ None → names name ≡ truth

-- the type means what the name means, and is no name
abbrev pub IsRight : (List ℕ → Shape) → List ℕ → TypeTerm → Type 0
IsRight names name head = (meaning names (tree head.kind) ≡ names name) × IsHead names (tree head.kind)

-- the names mean what the types at their places mean, and others `bool`
pub record Agrees (names : List ℕ → Shape) (known : List (List ℕ)) (bodies : List TypeTerm) : Type 0 where
  pub defined : (a : ℕ) → a < length bodies → (t : TypeTerm) → names (get_or known a []) ≡ meaning names (tree (get_or bodies a t).kind)
  pub undefined : (name : List ℕ) → place_of known name ≡ None → names name ≡ truth

-- a type that is a name comes in the order after the type of that name
abbrev pub NamesFirst : List (List ℕ) → List TypeTerm → List ℕ → Type 0
NamesFirst known bodies order =
    (i : ℕ) → i < length order → (t : TypeTerm) (name : Name) (k : ℕ) → tree (get_or bodies (slice_index_or order i 0) t).kind ≡ named name
    → place_of known name.text ≡ Some k → (j : ℕ) × ((j < i) × (slice_index_or order j 0 ≡ k))

-- the heads of the definitions that stand before a place in the order are right
abbrev pub RightBefore : (List ℕ → Shape) → List (List ℕ) → List ℕ → ℕ → List TypeTerm → Type 0
RightBefore names known order i heads =
    (j : ℕ) → j < i → (t : TypeTerm) → IsRight names (get_or known (slice_index_or order j 0) []) (get_or heads (slice_index_or order j 0) t)

-- the name means what this type means; where that is a name, its head is right
pub record IsDefined (names : List ℕ → Shape) (own : List ℕ) (known : List (List ℕ)) (body : TypeTerm) (heads : List TypeTerm) : Type 0 where
  pub means : names own ≡ meaning names (tree body.kind)
  pub undefined : (name : List ℕ) → place_of known name ≡ None → names name ≡ truth
  pub right : (name : Name) (k : ℕ) → tree body.kind ≡ named name → place_of known name.text ≡ Some k
      → (k < length heads) × ((t : TypeTerm) → IsRight names name.text (get_or heads k t))
