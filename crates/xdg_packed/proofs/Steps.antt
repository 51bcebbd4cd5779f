-- Keys and fields, filled one after the other.
use Rattle.std.proofs.Common.{◌≡◌, ℕ, ◌<◌, ◌≤◌, ◌+◌, ◌-◌, suc, List, [], ◌∷◌, ◌++◌, length, get_or, drop, map, Option, None, Some, refl, ap, ap₂, sym, ◌∙◌, subst, arith}
use Rattle.std.specs.List.{range_with_len}
use Rattle.std.proofs.lemmas.List.{map-append, append-nil, drop_all}
use Rattle.xdg_domain.specs.declared.types.Ty.{Ty}
use Rattle.xdg_domain.specs.declared.values.Value.{Value}
use Rattle.xdg_domain.specs.declared.values.Value.TheVariants as v
use Rattle.xdg_domain.specs.Valencies.{said_at, KeysRise}
use Rattle.xdg_domain.specs.Shapes.{Fields, no_field, field_then, shape, AreTypes}
use Rattle.xdg_domain.specs.Joined.{behind}
use Rattle.xdg_domain.specs.Defaults.{field_and_defaults, record_of_defaults}
use Rattle.xdg_domain.proofs.Made.{seen, after_more, next_field, one_type, none_and}
use Rattle.xdg_domain.proofs.Keyed.{after_head, unsaid}
use Rattle.xdg_packed.specs.Filled.{filled, filled_fields, filled_cards, each_key, or_zero, IsSaid, AreSaid}
use Rattle.xdg_facts.proofs.Sorting.{range_more}

after_nothing : (o : Option (List (ℕ × Value))) → behind [] o ≡ o
after_nothing None = refl
after_nothing (Some rest) = refl

-- ---- what is said of fields from one on

pub filled_same : (fs : Fields) (place : ℕ) (a b : List (ℕ × Value)) → ((key : ℕ) → place ≤ key → said_at a key ≡ said_at b key) → filled_fields place fs a ≡ filled_fields place fs b
filled_same no_field place a b same = refl
filled_same (field_then name u fs) place a b same =
    ap₂ (λ o r. field_and_defaults place (filled u o) r) (same place (omega arith)) (filled_same fs (place + 1) a b (λ key above. same key (omega (arith, above))))

pub said_same : (fs : Fields) (place : ℕ) (a b : List (ℕ × Value)) → ((key : ℕ) → place ≤ key → said_at a key ≡ said_at b key) → AreSaid place fs b → AreSaid place fs a
said_same no_field place a b same said = tt
said_same (field_then name u fs) place a b same said =
    (subst (IsSaid u) (sym (same place (omega arith))) said.0, said_same fs (place + 1) a b (λ key above. same key (omega (arith, above))) said.1)

-- What is known before a field: what is left of the types and of what is said, and what was made so far.
pub record SoFar (types : List (List ℕ × Ty)) (said : List (ℕ × Value)) (k : ℕ) (rest all : List (ℕ × Value)) : Type 0 where
  pub right : AreTypes (seen (drop k types))
  pub rises : KeysRise k rest
  pub are : AreSaid k (seen (drop k types)) rest
  pub made : behind all (filled_fields k (seen (drop k types)) rest) ≡ filled_fields 0 (seen types) said

module _ (types : List (List ℕ × Ty)) (said : List (ℕ × Value)) (k : ℕ) (rest all : List (ℕ × Value)) (f : List ℕ × Ty) (within : k < length types) (is : f ≡ get_or types k f) (so_far : SoFar types said k rest all) where
  pub here_said : IsSaid (shape f.1) (said_at rest k)
  here_said = (subst (λ l. AreSaid k l rest) (next_field types k f within is) so_far.are).0

  opened : behind all (field_and_defaults k (filled (shape f.1) (said_at rest k)) (filled_fields (k + 1) (seen (drop (k + 1) types)) rest)) ≡ filled_fields 0 (seen types) said
  opened = ap (λ l. behind all (filled_fields k l rest)) (sym (next_field types k f within is)) ∙ so_far.made

  pub one_more : (x : Value) (more next : List (ℕ × Value)) → Some x ≡ filled (shape f.1) (said_at rest k) → KeysRise (k + 1) more → ((key : ℕ) → k < key → said_at more key ≡ said_at rest key)
      → next ≡ all ++ (k, x) ∷ [] → SoFar types said (k + 1) more next
  one_more x more next has rises later grown =
      let tail = seen (drop (k + 1) types) in
      let same : (key : ℕ) → k + 1 ≤ key → said_at more key ≡ said_at rest key = λ key above. later key (omega (arith, above)) in
      record {
        right = (one_type types k f within is so_far.right).1;
        rises = rises;
        are = said_same tail (k + 1) more rest same (subst (λ l. AreSaid k l rest) (next_field types k f within is) so_far.are).1;
        made = ap₂ (λ l m. behind l m) grown (filled_same tail (k + 1) more rest same)
            ∙ after_more all k x (filled_fields (k + 1) tail rest)
            ∙ ap (λ o. behind all (field_and_defaults k o (filled_fields (k + 1) tail rest))) has
            ∙ opened;
      }

  pub lacking : None ≡ filled (shape f.1) (said_at rest k) → None ≡ record_of_defaults (filled_fields 0 (seen types) said)
  lacking has =
      let tail = filled_fields (k + 1) (seen (drop (k + 1) types)) rest in
      ap record_of_defaults (sym (ap (behind all) (none_and k tail)) ∙ ap (λ o. behind all (field_and_defaults k o tail)) has ∙ opened)

-- ---- keys

next_keys : (key keys : ℕ) → key < keys → range_with_len key (keys - key) ≡ key ∷ range_with_len (key + 1) (keys - (key + 1))
next_keys key keys below = let e : keys - key ≡ suc (keys - (key + 1)) = omega (arith, below) in ap (range_with_len key) e

module _ (f : ℕ → Option Value) (keys key : ℕ) (all : List (ℕ × Value)) (below : key < keys) (so_far : behind all (each_key f (range_with_len key (keys - key))) ≡ each_key f (range_with_len 0 keys)) where
  split : behind all (field_and_defaults key (f key) (each_key f (range_with_len (key + 1) (keys - (key + 1))))) ≡ each_key f (range_with_len 0 keys)
  split = ap (λ ks. behind all (each_key f ks)) (sym (next_keys key keys below)) ∙ so_far

  pub key_more : (x : Value) (next : List (ℕ × Value)) → Some x ≡ f key → next ≡ all ++ (key, x) ∷ [] → behind next (each_key f (range_with_len (key + 1) (keys - (key + 1)))) ≡ each_key f (range_with_len 0 keys)
  key_more x next has grown =
      let rest = each_key f (range_with_len (key + 1) (keys - (key + 1))) in
      ap (λ l. behind l rest) grown ∙ after_more all key x rest ∙ ap (λ o. behind all (field_and_defaults key o rest)) has ∙ split

-- one key of a valency more
pub cards_more : (m : List (ℕ × List ℕ)) (key : ℕ) → filled_cards key m ++ (key, or_zero (said_at m key)) ∷ [] ≡ filled_cards (key + 1) m
cards_more m key = let one : ℕ → ℕ × List ℕ = λ k. (k, or_zero (said_at m k)) in sym (map-append one (range_with_len 0 key) (key ∷ [])) ∙ ap (map one) (range_more key)

-- nothing is said of a key before the first
pub none_first : (m : List (ℕ × Value)) (first : ℕ × Value) (more : List (ℕ × Value)) (key : ℕ) → m ≡ first ∷ more → KeysRise key m → (first.0 ≡ key → ⊥) → None ≡ said_at m key
none_first m first more key is rises other =
    let r : KeysRise key (first ∷ more) = subst (KeysRise key) is rises in
    sym (ap (λ l. said_at l key) is ∙ after_head first more key other ∙ unsaid (first.0 + 1) key more (omega (arith, r.0, other)) r.1)

-- before the first field nothing is made
pub begun : (types : List (List ℕ × Ty)) (said rest all : List (ℕ × Value)) → AreTypes (seen types) → KeysRise 0 said → AreSaid 0 (seen types) said → rest ≡ said → all ≡ [] → SoFar types said 0 rest all
begun types said rest all right rises are from none =
    let made : behind [] (filled_fields 0 (seen types) said) ≡ filled_fields 0 (seen types) said = after_nothing (filled_fields 0 (seen types) said) in
    record {
      right = right;
      rises = subst (KeysRise 0) (sym from) rises;
      are = subst (AreSaid 0 (seen types)) (sym from) are;
      made = ap₂ (λ l m. behind l (filled_fields 0 (seen types) m)) none from ∙ made;
    }

-- all fields are made
pub done : (types : List (List ℕ × Ty)) (said : List (ℕ × Value)) (k : ℕ) (rest all : List (ℕ × Value)) → length types ≤ k → SoFar types said k rest all → Some (v.Rec all) ≡ record_of_defaults (filled_fields 0 (seen types) said)
done types said k rest all end so_far =
    ap (λ l. Some (v.Rec l)) (sym (append-nil all))
    ∙ ap record_of_defaults (sym (ap (λ ts. behind all (filled_fields k (seen ts) rest)) (drop_all k types end)) ∙ so_far.made)
