-- What is known of the classes where their uses are judged.
use Rattle.std.specs.Prelude.{◌≡◌, ℕ, List, length, map, slice_get, None, Some}
use Rattle.xdg_names.specs.Texts.{place_of}
use Rattle.xdg_classes.specs.declared.params.Params.{Params}
use Rattle.xdg_classes.specs.Definitions.{ClassDef, class_named}
use Rattle.xdg_classes.specs.NameFaults.{Asked, asked_by}

-- what these parameters ask
abbrev pub shown : Params → Asked
shown params = record { has = params.known; needs = map (λ text. text.now) params.needed }

-- The different names of the classes, and at the same places what the first class with each name asks.
pub record KnowsClasses (cs : List ClassDef) (names : List (List ℕ)) (all : List Asked) : Type 0 where
  pub len : length all ≡ length names
  pub missing : (name : List ℕ) → place_of names name ≡ None → class_named cs name ≡ None
  pub found : (name : List ℕ) (k : ℕ) → place_of names name ≡ Some k
      → (c : ClassDef) × ((class_named cs name ≡ Some c) × (slice_get all k ≡ Some (asked_by c)))
