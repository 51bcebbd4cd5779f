-- Records joined from their last features to their first.
use Rattle.std.proofs.Common.{◌≡◌, ℕ, ◌<◌, ◌≤◌, ◌+◌, List, [], ◌∷◌, ◌++◌, length, get_or, reverse, refl, ap, sym, ◌∙◌, arith, inl, inr, subst}
use Rattle.std.specs.Prelude.{Option, None, Some, IfSome, MatchOption, false, nat_eq}
use Rattle.std.proofs.lemmas.Bool.{cases_eq, eq-eqb, true≢false}
use Rattle.std.proofs.lemmas.List.{reverse-append}
use Rattle.xdg_domain.specs.Joined.{fields_in}
use Rattle.xdg_domain.specs.Joins.{SaysBoth, JoinsField, OnBoth, OnSome, Clashes, ClashesField, Both, Joins}
use Rattle.xdg_domain.specs.Keys.{KeysBelow}
use Rattle.xdg_domain.specs.Shapes.{shape}
use Rattle.xdg_domain.specs.Valencies.{said_at, KeysRise}
use Rattle.xdg_domain.specs.Values.{EachSaid, IsValue, IsFieldOf}
use Rattle.xdg_domain.specs.declared.types.Ty.{Ty}
use Rattle.xdg_domain.specs.declared.values.Value.{Value}
use Rattle.xdg_domain.proofs.Keyed.{at_head, after_head, unsaid}
use Rattle.xdg_terms.proofs.SaidKeys.{rises_later}
use Rattle.xdg_lexicon.specs.Made.{entry, IsMade, EndsAt}
use Rattle.xdg_lexicon.specs.Partial.{Record, IsRecord}
use Rattle.xdg_lexicon.proofs.Fields.{All, Joining, field_within, said_value, joined_told, clash_told, joined_all}
use Rattle.xdg_lexicon.proofs.Made.{beyond, before, last, start}
use Rattle.xdg_facts.proofs.Fronts.{cut_last}

-- ---- the last key of a list

rises_front : {V : Type 0} (low : ℕ) (rest : List (ℕ × V)) (e : ℕ × V) → KeysRise low (rest ++ e ∷ []) → KeysRise low rest
rises_front low [] e h = tt
rises_front low (f ∷ rest) e h = (h.0, rises_front (f.0 + 1) rest e h.1)

below_front : {V : Type 0} (low : ℕ) (rest : List (ℕ × V)) (e : ℕ × V) → KeysRise low (rest ++ e ∷ []) → (low ≤ e.0) × KeysBelow e.0 rest
below_front low [] e h = (h.0, tt)
below_front low (f ∷ rest) e h = (let later = below_front (f.0 + 1) rest e h.1 in let a = h.0 in let b = later.0 in (omega (arith, a, b), (omega (arith, b), later.1)))

below_last : {V : Type 0} (rest : List (ℕ × V)) (e : ℕ × V) (key : ℕ) → KeysBelow e.0 rest → e.0 < key → KeysBelow key (rest ++ e ∷ [])
below_last [] e key h less = (less, tt)
below_last (f ∷ rest) e key h less = (let a = h.0 in omega (arith, a, less), below_last rest e key h.1 less)

last_below : {V : Type 0} (rest : List (ℕ × V)) (e : ℕ × V) (bound : ℕ) → KeysBelow bound (rest ++ e ∷ []) → e.0 < bound
last_below [] e bound h = h.0
last_below (f ∷ rest) e bound h = last_below rest e bound h.1

-- where the last is said of another key, all are below
pub not_last : {V : Type 0} (s rest : List (ℕ × V)) (e : ℕ × V) (key : ℕ) → s ≡ rest ++ e ∷ [] → nat_eq e.0 key ≡ false → KeysRise 0 s → KeysBelow (key + 1) s → KeysBelow key s
not_last s rest e key is differs rises below = elim (cases_eq e.0 key) [
  | inl i ↦ absurd (true≢false (sym (eq-eqb e.0 key i) ∙ differs))
  | inr other ↦
      let less = last_below rest e (key + 1) (subst (KeysBelow (key + 1)) is below) in
      subst (KeysBelow key) (sym is) (below_last rest e key (below_front 0 rest e (subst (KeysRise 0) is rises)).1 (omega (arith, less, other)))
]

pub none_said : {V : Type 0} (s : List (ℕ × V)) (key : ℕ) → KeysBelow key s → None ≡ said_at s key
none_said s key below = sym (beyond s key key below (omega arith))

-- the last is taken
module _ {V : Type 0} (s rest : List (ℕ × V)) (key : ℕ) (e : ℕ × V) (is : s ≡ rest ++ e ∷ []) (ends : EndsAt s key) (rises : KeysRise 0 s) where
  at_key : e.0 ≡ key
  at_key = ap (λ p. p.0) (cut_last rest ends.0 e (key, ends.1.0) (sym is ∙ ends.1.1)).1

  under : KeysBelow e.0 rest
  under = (below_front 0 rest e (subst (KeysRise 0) is rises)).1

  pub taken_below : KeysBelow key rest
  taken_below = subst (λ k. KeysBelow k rest) at_key under

  pub taken_rises : KeysRise 0 rest
  taken_rises = rises_front 0 rest e (subst (KeysRise 0) is rises)

  pub taken_here : Some e.1 ≡ said_at s key
  taken_here = sym (ap (λ l. said_at l key) is ∙ subst (λ k. said_at (rest ++ e ∷ []) k ≡ Some e.1) at_key (last rest e.0 e.1 under))

  pub taken_front : (other : ℕ) → other < key → said_at rest other ≡ said_at s other
  taken_front other less = sym (ap (λ l. said_at l other) is ∙ before rest e.0 e.1 other (λ i. let k = at_key in omega (arith, less, i, k)))

-- ---- records made from the last key to the first

-- one more key before the others
module _ {V : Type 0} (P : ℕ → Option V → Type 0) (bound : ℕ) where
  back_one : (at : ℕ) (made : List (ℕ × V)) (said : Option V) → at < bound → IsMade P (at + 1) bound made → P at said → IsMade P at bound (entry at said ++ made)
  back_one at made None within m p = record {
    rises = rises_later at (at + 1) made (omega arith) m.rises;
    below = m.below;
    each = λ key from to. elim (cases_eq at key) [
      | inl i ↦ subst (λ k. P k (said_at made k)) i (subst (P at) (sym (unsaid (at + 1) at made (omega arith) m.rises)) p)
      | inr other ↦ m.each key (omega (arith, from, other)) to
    ];
  }
  back_one at made (Some x) within m p = record {
    rises = (omega arith, m.rises);
    below = (within, m.below);
    each = λ key from to. elim (cases_eq at key) [
      | inl i ↦ subst (P key) (sym (at_head (at, x) made key i)) (subst (λ k. P k (Some x)) i p)
      | inr other ↦ subst (P key) (sym (after_head (at, x) made key other)) (m.each key (omega (arith, from, other)) to)
    ];
  }

turned_entry : {V : Type 0} (key : ℕ) (said : Option V) (made : List (ℕ × V)) → reverse (made ++ entry key said) ≡ entry key said ++ reverse made
turned_entry key None made = reverse-append made []
turned_entry key (Some x) made = reverse-append made ((key, x) ∷ [])

-- ---- joins

-- of the features before that place these say what the record says, and of no other
pub record IsFront (whole : Record) (first : ℕ) (front : Record) : Type 0 where
  pub rises : KeysRise 0 front
  pub below : KeysBelow first front
  pub says : (key : ℕ) → key < first → said_at front key ≡ said_at whole key

keys_within : (fs : All) (m : Record) → EachSaid (IsFieldOf (fields_in fs)) m → KeysBelow (length fs) m
keys_within fs [] h = tt
keys_within fs (e ∷ m) h = (field_within fs e.0 e.1 h.0, keys_within fs m h.1)

front_whole : (fs : All) (m : Record) → IsRecord (fields_in fs) m → IsFront m (length fs) m
front_whole fs m right = record { rises = right.0; below = keys_within fs m right.1; says = λ key h. refl }

front_less : (whole front rest : Record) (first key : ℕ) → key + 1 ≡ first → IsFront whole first front → ((other : ℕ) → other < key → said_at rest other ≡ said_at front other) → KeysRise 0 rest → KeysBelow key rest → IsFront whole key rest
front_less whole front rest first key next f same rises below = record { rises = rises; below = below; says = λ other h. same other h ∙ f.says other (omega (arith, next, h)) }

-- what is left of two records, and the joins behind that, the last first
pub record TakenSoFar (fs : All) (a b : Record) (left : ℕ) (one other made : Record) : Type 0 where
  pub within : left ≤ length fs
  pub mine : IsFront a left one
  pub theirs : IsFront b left other
  pub joined : IsMade (Joining fs a b) left (length fs) (reverse made)

pub taken_begun : (fs : All) (a b : Record) (left : ℕ) (made : Record) → left ≡ length fs → made ≡ [] → IsRecord (fields_in fs) a → IsRecord (fields_in fs) b → TakenSoFar fs a b left a b made
taken_begun fs a b left made whole none ra rb = subst (λ n. TakenSoFar fs a b n a b made) (sym whole) (subst (TakenSoFar fs a b (length fs) a b) (sym none) (record {
  within = omega arith;
  mine = front_whole fs a ra;
  theirs = front_whole fs b rb;
  joined = start (Joining fs a b) (length fs);
}))

module _ {fs : All} {a b : Record} {left : ℕ} (key : ℕ) {one other made : Record} (next : key + 1 ≡ left) (s : TakenSoFar fs a b left one other made) {o p : Option Value} (here : o ≡ said_at one key) (there : p ≡ said_at other key) where
  pub taken_within : key < length fs
  taken_within = (let w = s.within in omega (arith, w, next))

  pub taken_mine : o ≡ said_at a key
  taken_mine = here ∙ s.mine.says key (omega (arith, next))

  pub taken_theirs : p ≡ said_at b key
  taken_theirs = there ∙ s.theirs.says key (omega (arith, next))

  module _ {f : List ℕ × Ty} (is : f ≡ get_or fs key f) where
    pub mine_value : IsRecord (fields_in fs) a → IfSome o (IsValue (shape f.1))
    mine_value ra = subst (λ z. IfSome z (IsValue (shape f.1))) (sym taken_mine) (said_value fs a key f taken_within is ra)

    pub theirs_value : IsRecord (fields_in fs) b → IfSome p (IsValue (shape f.1))
    theirs_value rb = subst (λ z. IfSome z (IsValue (shape f.1))) (sym taken_theirs) (said_value fs b key f taken_within is rb)

    module _ (told : Option (Option Value)) (h : MatchOption told (OnBoth (Clashes (shape f.1)) o p) (λ (d : Option Value). Both (Joins (shape f.1)) o p d × IfSome d (IsValue (shape f.1)))) where
      pub taken_clash : told ≡ None → OnSome (ClashesField (fields_in fs)) a b
      taken_clash none = clash_told fs a b key f o p told taken_within is taken_mine taken_theirs none h

      pub taken_further : {both : Option Value} {mine theirs new : Record} → told ≡ Some both → new ≡ made ++ entry key both
          → ((k : ℕ) → k < key → said_at mine k ≡ said_at one k) → KeysRise 0 mine → KeysBelow key mine → ((k : ℕ) → k < key → said_at theirs k ≡ said_at other k) → KeysRise 0 theirs → KeysBelow key theirs
          → TakenSoFar fs a b key mine theirs new
      taken_further {both} {mine} {theirs} some now front rises below others rising under = record {
        within = (let w = taken_within in omega (arith, w));
        mine = front_less a one mine left key next s.mine front rises below;
        theirs = front_less b other theirs left key next s.theirs others rising under;
        joined = subst (IsMade (Joining fs a b) key (length fs)) (sym (ap reverse now ∙ turned_entry key both made))
            (back_one (Joining fs a b) (length fs) key (reverse made) both taken_within (rw next s.joined)
            (joined_told fs a b key f o p told both taken_within is taken_mine taken_theirs some h));
      }

pub taken_done : (fs : All) (a b : Record) (left : ℕ) (one other made none whole : Record) → left ≡ 0 → none ≡ [] → whole ≡ none ++ reverse made → IsRecord (fields_in fs) a → IsRecord (fields_in fs) b → TakenSoFar fs a b left one other made
    → SaysBoth (JoinsField (fields_in fs)) a b whole × IsRecord (fields_in fs) whole
taken_done fs a b left one other made none whole none_left empty is ra rb s = subst (λ m. SaysBoth (JoinsField (fields_in fs)) a b m × IsRecord (fields_in fs) m) (sym (is ∙ ap (λ l. l ++ reverse made) empty))
    (joined_all fs a b (length fs) (reverse made) ra rb (omega arith) (subst (λ n. IsMade (Joining fs a b) n (length fs) (reverse made)) none_left s.joined))
