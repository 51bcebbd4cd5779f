-- How many uses of classes and how many combinations a body has.
use Rattle.std.specs.Prelude.{◌≡◌, ℕ, ◌+◌, ◌*◌, List, map, slice_get, Option, None, Some}
use Rattle.xdg_names.specs.Texts.{place_of}
use Rattle.xdg_classes.specs.Bodies.{Body, either, both, saying, calling, Bodies, no_body, body_then, body}
use Rattle.xdg_check.specs.declared.checked.Class.{Class}
use Rattle.xdg_facts.specs.Membership.{In}
use Rattle.xdg_facts.specs.Capped.{capped}

-- a number for each name of a class
abbrev pub Counting : Type 0
Counting = List ℕ → ℕ

-- The unfolded uses of classes, where the body of each class has so many: a use is one, and those of the class's body.
abbrev mutual
  pub uses : Counting → Body → ℕ
  uses names (either bs) = sum_of_uses names bs
  uses names (both bs) = sum_of_uses names bs
  uses names (saying dim pairs) = 0
  uses names (calling name args) = 1 + names name.text

  pub sum_of_uses : Counting → Bodies → ℕ
  sum_of_uses names no_body = 0
  sum_of_uses names (body_then b bs) = uses names b + sum_of_uses names bs

-- The combinations, where the body of each class has so many: a record is one, a use has those of the class's body, a
-- disjunction the sum, and a conjunction the product.
abbrev mutual
  pub combos : Counting → Body → ℕ
  combos names (either bs) = sum_of_combos names bs
  combos names (both bs) = product_of_combos names bs
  combos names (saying dim pairs) = 1
  combos names (calling name args) = names name.text

  pub sum_of_combos : Counting → Bodies → ℕ
  sum_of_combos names no_body = 0
  sum_of_combos names (body_then b bs) = combos names b + sum_of_combos names bs

  pub product_of_combos : Counting → Bodies → ℕ
  product_of_combos names no_body = 1
  product_of_combos names (body_then b bs) = combos names b * product_of_combos names bs

-- the names of classes
abbrev pub class_texts : List Class → List (List ℕ)
class_texts cs = map (λ c. c.name) cs

-- each name of a class has the count of its body, and every other name has none
pub record Agrees (count : Counting → Body → ℕ) (cs : List Class) (names : Counting) : Type 0 where
  pub defined : (c : Class) → In cs c → names c.name ≡ count names (body c.body.kind)
  pub undefined : (name : List ℕ) → (In (class_texts cs) name → ⊥) → names name ≡ 0

-- One assignment of counts agrees with all bodies, and the classes keep it.
pub record AreCounted (count : Counting → Body → ℕ) (kept : Class → ℕ) (cs : List Class) : Type 0 where
  pub names : Counting
  pub agrees : Agrees count cs names
  pub only : (others : Counting) → Agrees count cs others → (name : List ℕ) → others name ≡ names name
  pub stored : (c : Class) → In cs c → kept c ≡ capped (names c.name)

-- ---- what classes keep, by name

-- the class without its counts
abbrev pub bare : Class → Class
bare c = record c { uses = 0; combos = 0 }

abbrev pub kept_by : (Class → ℕ) → Option Class → ℕ
kept_by kept None = 0
kept_by kept (Some c) = kept c

abbrev pub kept_at : (Class → ℕ) → List Class → Option ℕ → ℕ
kept_at kept cs None = 0
kept_at kept cs (Some k) = kept_by kept (slice_get cs k)

-- what the class at the place of the name keeps, and nothing where there is none
abbrev pub looked_up : (Class → ℕ) → List (List ℕ) → List Class → Counting
looked_up kept names cs name = kept_at kept cs (place_of names name)
