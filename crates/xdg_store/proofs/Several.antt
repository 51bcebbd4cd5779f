-- What it does to a store that bits of a decision are taken, those of the values that go.
use Rattle.std.proofs.Common.{◌≡◌, ◌≢◌, ℕ, ◌<◌, ◌≤◌, ◌+◌, ◌⊎◌, inl, inr, Bool, true, false, List, [], ◌∷◌, length, get_or, ap, sym, ◌∙◌, arith, subst, refl}
use Rattle.std.specs.Prelude.{sum}
use Rattle.std.proofs.lemmas.Bool.{cases_eq}
use Rattle.xdg_problem.specs.declared.parts.Parts.{Parts}
use Rattle.xdg_problem.specs.Boxes.{Has, IsBox, LiesIn, without}
use Rattle.xdg_problem.specs.Vectors.{shape}
use Rattle.xdg_trail.specs.Trailed.{Trailed, past}
use Rattle.xdg_store.specs.Change.{RemovesAll, Shrinks}
use Rattle.xdg_store.specs.Decisions.{IsDecision, number_of}
use Rattle.xdg_store.specs.Layout.{bits_of, box_in, is_set}
use Rattle.xdg_store.specs.States.{Keeps, Sound, oldest, remaining}
use Rattle.xdg_store.specs.declared.change.Change.{Change}
use Rattle.xdg_store.specs.declared.change.Change.TheVariants as changes
use Rattle.xdg_store.specs.declared.decision.Decision.{Decision}
use Rattle.xdg_store.proofs.Apart.{bits_apart}
use Rattle.xdg_store.proofs.Counting.{remaining_inside, remaining_taken}
use Rattle.xdg_store.proofs.Deciding.{HasBits, own_bits}
use Rattle.xdg_store.proofs.Histories.{length-states, present, seen}
use Rattle.xdg_problem.proofs.BoxWithout.{lies_without}
use Rattle.xdg_store.proofs.Noting.{LeavesAll, block_step}
use Rattle.xdg_store.proofs.Removals.{box_sizes, has_bit, has_size}
use Rattle.xdg_store.proofs.Separate.{box_alike}

-- ---- a value less

-- a box in another that has a value more has less values
remaining_less : (new old : List (List Bool)) (d v : ℕ) → LiesIn new old → Has old d v → (Has new d v → ⊥) → remaining new + 1 ≤ remaining old
remaining_less new old d v inside h gone =
    let a = remaining_inside new (without old d v) (lies_without new old d v inside gone) in
    let b = remaining_taken old d v h in
    omega (arith, a, b)

-- ---- what is taken

-- a value that goes remains, and one that doesn't go
abbrev pub SomeGo : List ℕ → ℕ → (ℕ → ℕ) → (ℕ → Type 0) → Type 0
SomeGo words size bit Goes = (v : ℕ) × (v < size) × Goes v × (is_set words (bit v) ≡ true)

abbrev pub SomeStay : List ℕ → ℕ → (ℕ → ℕ) → (ℕ → Type 0) → Type 0
SomeStay words size bit Goes = (v : ℕ) × (v < size) × (Goes v → ⊥) × (is_set words (bit v) ≡ true)

-- the bits of those that go were cleared, with one record on the trail
pub record Loses (old new : Trailed) (size : ℕ) (bit : ℕ → ℕ) (Goes : ℕ → Type 0) : Type 0 where
  pub count : length new.words ≡ length old.words
  pub gone : (v : ℕ) → v < size → Goes v → is_set new.words (bit v) ≡ false
  pub others : (b : ℕ) → ((v : ℕ) → v < size → Goes v → b ≢ bit v) → is_set new.words b ≡ is_set old.words b
  pub past_is : past new ≡ new.words ∷ past old
  pub room : new.spare + length new.records ≡ old.spare + length old.records

-- they were, unless none of them remained, or no other one
abbrev pub TakesThose : Change → Trailed → Trailed → ℕ → (ℕ → ℕ) → (ℕ → Type 0) → Type 0
TakesThose changes.Same old new size bit Goes = (SomeGo old.words size bit Goes → ⊥) × (new ≡ old)
TakesThose changes.Changed old new size bit Goes = SomeGo old.words size bit Goes × SomeStay old.words size bit Goes × Loses old new size bit Goes
TakesThose changes.Emptied old new size bit Goes = (SomeStay old.words size bit Goes → ⊥) × (new ≡ old)

-- the box of a trail
abbrev now : Parts → Trailed → List (List Bool)
now parts t = box_in (bits_of parts) t.words

module _ {parts : Parts} {t : Trailed} (u : Trailed) {d size : ℕ} {bit : ℕ → ℕ} (Goes : ℕ → Type 0) (either : (v : ℕ) → Goes v ⊎ (Goes v → ⊥)) (keeps : Keeps parts t) (at : HasBits parts d size bit) where
  module _ (loses : Loses t u size bit Goes) where
    pub same_others : (e : ℕ) → e ≢ d → get_or (now parts u) e [] ≡ get_or (now parts t) e []
    same_others e n = box_alike (bits_of parts) t.words u.words e (λ l j k. loses.others _ (λ v m g same. n (bits_apart parts keeps.problem (own_bits l) at j v k m same).0))

    pub all_gone : (v : ℕ) → Goes v → Has (now parts u) d v → ⊥
    all_gone v g h =
        let l = has_size at u.words v h in
        let f = loses.gone v l g in
        let q = has_bit at u.words v l in
        cc

    pub is_left : (v : ℕ) → v < size → (Goes v → ⊥) → get_or (get_or (now parts u) d []) v false ≡ get_or (get_or (now parts t) d []) v false
    is_left v l n = has_bit at u.words v l ∙ loses.others (bit v) (λ w m g same. n (subst Goes (sym (bits_apart parts keeps.problem at at v w l m same).1) g)) ∙ sym (has_bit at t.words v l)

    all_left : (v : ℕ) → (Goes v → ⊥) → Has (now parts t) d v → Has (now parts u) d v
    all_left v n h = is_left v (has_size at t.words v h) n ∙ h

    lies_inside : LiesIn (now parts u) (now parts t)
    lies_inside e x h = elim (cases_eq e d) [
      | inl same ↦ (let k = subst (λ i. Has (now parts u) i x) same h in subst (λ i. Has (now parts t) i x) (sym same) (elim (either x) [
        | inl g ↦ absurd (all_gone x g k)
        | inr n ↦ sym (is_left x (has_size at u.words x k) n) ∙ k
      ]))
      | inr n ↦ ap (λ row. get_or row x false) (sym (same_others e n)) ∙ h
    ]

    pub shrinks : (turns : ℕ) → Shrinks (seen parts t turns) (seen parts u turns) d Goes
    shrinks turns = record {
      parts = refl;
      turns = refl;
      grown = ap (oldest (bits_of parts)) loses.past_is;
      inside = lies_inside;
      others = same_others;
      gone = all_gone;
      left = all_left;
    }

    new_is_box : SomeStay t.words size bit Goes → IsBox (shape parts) (now parts u)
    new_is_box (x, l, n, h) =
        let was = (present (shape parts) (sum (shape parts)) (bits_of parts) t keeps.sound).1 in
        record {
          sizes = box_sizes parts u.words;
          filled = λ e m. elim (cases_eq e d) [
            | inl same ↦ (x, subst (λ i. Has (now parts u) i x) (sym same) (all_left x n (has_bit at t.words x l ∙ h)))
            | inr other ↦ (let f = was.filled e m in (f.0, ap (λ row. get_or row f.0 false) (same_others e other) ∙ f.1))
          ];
        }

    keeps_cleared : SomeGo t.words size bit Goes → SomeStay t.words size bit Goes → Keeps parts u
    keeps_cleared (v, l, g, h) left = record {
      problem = keeps.problem;
      long = (let n = loses.count in let k = keeps.long in omega (arith, n, k));
      spare = (let r = loses.room in let s = keeps.spare in omega (arith, r, s));
      sound = subst (Sound (shape parts) (sum (shape parts)) (bits_of parts)) (sym loses.past_is) (
        (let count = (present (shape parts) (sum (shape parts)) (bits_of parts) t keeps.sound).0 in
            let less = remaining_less (now parts u) (now parts t) d v lies_inside (has_bit at t.words v l ∙ h) (all_gone v g) in
            let n = length-states t.words t.records in
            omega (arith, count, less, n)),
        new_is_box left,
        keeps.sound,
      );
    }

  -- what a removal answers and leaves
  pub removes_all : (change : Change) (turns : ℕ) → TakesThose change t u size bit Goes → RemovesAll change (seen parts t turns) (seen parts u turns) d Goes
  removes_all changes.Same turns (none, same) = (λ v g h. (let l = has_size at t.words v h in none (v, l, g, sym (has_bit at t.words v l) ∙ h)), ap (λ w. seen parts w turns) same)
  removes_all changes.Changed turns (found, left, loses) = ((found.0, found.2, has_bit at t.words found.0 found.1 ∙ found.3), shrinks loses turns)
  removes_all changes.Emptied turns (none, same) = (
    λ v h. elim (either v) [
      | inl g ↦ g
      | inr n ↦ (let l = has_size at t.words v h in absurd (none (v, l, n, sym (has_bit at t.words v l) ∙ h)))
    ],
    ap (λ w. seen parts w turns) same,
  )

  pub all_keep : (change : Change) → TakesThose change t u size bit Goes → Keeps parts u
  all_keep changes.Same (none, same) = subst (Keeps parts) (sym same) keeps
  all_keep changes.Changed (found, left, loses) = keeps_cleared loses found left
  all_keep changes.Emptied (none, same) = subst (Keeps parts) (sym same) keeps

pub all_taken : {parts : Parts} {t u : Trailed} {change : Change} {turns : ℕ} {decision : Decision} {size : ℕ} {bit : ℕ → ℕ} (Goes : ℕ → Type 0) → ((v : ℕ) → Goes v ⊎ (Goes v → ⊥))
    → Keeps parts t → IsDecision parts decision → HasBits parts (number_of parts decision) size bit → TakesThose change t u size bit Goes → LeavesAll parts change t u turns decision Goes
all_taken {parts} {t} {u} {change} {turns} {decision} Goes either keeps is at takes =
    let removal = removes_all u Goes either keeps at change turns takes in record {
      is = is;
      kept = keeps;
      keeps = all_keep u Goes either keeps at change takes;
      removes = removal;
      step = block_step change (seen parts t turns) (seen parts u turns) (number_of parts decision) Goes removal;
    }
