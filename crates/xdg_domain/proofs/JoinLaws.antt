-- What the joins of values obey: two values of a type have exactly one join or they clash, in any order and grouping.
use Rattle.std.proofs.Common.{◌≡◌, ◌⊎◌, ℕ, zero, suc, ◌<◌, List, refl, ap, sym, ◌∙◌, inl, inr, subst}
use Rattle.std.specs.Prelude.{Bool, true, false, Option, None, Some, MatchOption, IfSome}
use Rattle.std.proofs.lemmas.Bool.{cases_eq, eq-eqb, ne_eqb, true≢false}
use Rattle.xdg_domain.specs.Cards.{IsCards}
use Rattle.xdg_domain.specs.Values.{IsIn, IsFieldOf, IsValue}
use Rattle.xdg_domain.specs.Joins.{SaysBoth, AllowsBoth, IsApart, JoinsIn, JoinsField, Joins, ClashesIn, ClashesField, Clashes, HasOneJoin, JoinsLater, JoinLaws}
use Rattle.xdg_domain.specs.Joined.{merged, allowed, same_list, same_number, same_bool, of_card, of_valency, of_map, of_record, joined_in, joined_field, joined, TellsJoin}
use Rattle.xdg_domain.specs.Shapes.{Shape, domain, tuple, truth, integer, text, set, iset, card, valency, mapping, fields, Fields, no_field, field_then, count}
use Rattle.xdg_domain.specs.declared.values.Value.{Value, out-Value, roll-Value, roll-out-Value}
use Rattle.xdg_domain.specs.declared.values.Value.TheVariants as v
use Rattle.xdg_domain.specs.declared.values.Value.TheOpen.{Value-F}
use Rattle.xdg_domain.proofs.Numbers.{either_is, both_is, union_unique, meet_unique, allows_unique, union_commutes, meet_commutes, allows_commutes, apart_commutes, union_regroups, meet_regroups, allows_regroups, apart_stays, allows_exclusive, allowed_tells, union_below, meet_below, same_list_is}
use Rattle.xdg_domain.proofs.Keyed.{says_unique, says_exclusive, says_commutes, some_commutes, says_regroups, some_stays, says_right}
use Rattle.xdg_domain.proofs.Merged.{merged_tells}

pub same_out : (x y : Value) → out-Value x ≡ out-Value y → x ≡ y
same_out x y e = sym (roll-out-Value x) ∙ ap roll-Value e ∙ roll-out-Value y

-- ---- one value at most

mutual
  unique : (s : Shape) (x y z w : Value-F Value) → JoinsIn s x y z → JoinsIn s x y w → z ≡ w
  unique (domain cs) (Value-F.Const a) (Value-F.Const b) (Value-F.Const c) (Value-F.Const d) h k = ap Value-F.Const (h.1 ∙ sym k.1)
  unique (tuple ss) (Value-F.Tuple a) (Value-F.Tuple b) (Value-F.Tuple c) (Value-F.Tuple d) h k = ap Value-F.Tuple (h.1 ∙ sym k.1)
  unique truth (Value-F.Bool a) (Value-F.Bool b) (Value-F.Bool c) (Value-F.Bool d) h k = ap Value-F.Bool (h.1 ∙ sym k.1)
  unique integer (Value-F.Int a) (Value-F.Int b) (Value-F.Int c) (Value-F.Int d) h k = ap Value-F.Int (h.1 ∙ sym k.1)
  unique text (Value-F.Str a) (Value-F.Str b) (Value-F.Str c) (Value-F.Str d) h k = ap Value-F.Str (h.1 ∙ sym k.1)
  unique (set s) (Value-F.Set a) (Value-F.Set b) (Value-F.Set c) (Value-F.Set d) h k = ap Value-F.Set (union_unique a b c d h k)
  unique (iset s) (Value-F.Set a) (Value-F.Set b) (Value-F.Set c) (Value-F.Set d) h k = ap Value-F.Set (meet_unique a b c d h k)
  unique card (Value-F.Card a) (Value-F.Card b) (Value-F.Card c) (Value-F.Card d) h k = ap Value-F.Card (allows_unique a b c d h k)
  unique (valency key) (Value-F.Valency a) (Value-F.Valency b) (Value-F.Valency c) (Value-F.Valency d) h k = ap Value-F.Valency (says_unique (λ _. AllowsBoth) (λ _. allows_unique) a b c d h k)
  unique (mapping key u) (Value-F.Map a) (Value-F.Map b) (Value-F.Map c) (Value-F.Map d) h k = ap Value-F.Map (says_unique (λ _. Joins u) (λ _ x y z w i j. same_out z w (unique u (out-Value x) (out-Value y) (out-Value z) (out-Value w) i j)) a b c d h k)
  unique (fields fs) (Value-F.Rec a) (Value-F.Rec b) (Value-F.Rec c) (Value-F.Rec d) h k = ap Value-F.Rec (says_unique (JoinsField fs) (unique_field fs) a b c d h k)
  unique _ _ _ _ _ h k = absurd (assumption (h, k))

  pub unique_field : (fs : Fields) (place : ℕ) (x y z w : Value) → JoinsField fs place x y z → JoinsField fs place x y w → z ≡ w
  unique_field no_field place x y z w h k = absurd h
  unique_field (field_then name u fs) zero x y z w h k = same_out z w (unique u (out-Value x) (out-Value y) (out-Value z) (out-Value w) h k)
  unique_field (field_then name u fs) (suc place) x y z w h k = unique_field fs place x y z w h k

-- ---- no join where they clash

mutual
  apart : (s : Shape) (x y z : Value-F Value) → JoinsIn s x y z → ClashesIn s x y → ⊥
  apart (domain cs) (Value-F.Const a) (Value-F.Const b) (Value-F.Const c) h k = k h.0
  apart (tuple ss) (Value-F.Tuple a) (Value-F.Tuple b) (Value-F.Tuple c) h k = k h.0
  apart truth (Value-F.Bool a) (Value-F.Bool b) (Value-F.Bool c) h k = k h.0
  apart integer (Value-F.Int a) (Value-F.Int b) (Value-F.Int c) h k = k h.0
  apart text (Value-F.Str a) (Value-F.Str b) (Value-F.Str c) h k = k h.0
  apart card (Value-F.Card a) (Value-F.Card b) (Value-F.Card c) h k = allows_exclusive a b c h k
  apart (valency key) (Value-F.Valency a) (Value-F.Valency b) (Value-F.Valency c) h k = says_exclusive (λ _. AllowsBoth) (λ _. IsApart) (λ _. allows_exclusive) a b c h k
  apart (mapping key u) (Value-F.Map a) (Value-F.Map b) (Value-F.Map c) h k = says_exclusive (λ _. Joins u) (λ _. Clashes u) (λ _ x y z i j. apart u (out-Value x) (out-Value y) (out-Value z) i j) a b c h k
  apart (fields fs) (Value-F.Rec a) (Value-F.Rec b) (Value-F.Rec c) h k = says_exclusive (JoinsField fs) (ClashesField fs) (apart_field fs) a b c h k
  apart (set s) (Value-F.Set a) (Value-F.Set b) (Value-F.Set c) h k = absurd k
  apart (iset s) (Value-F.Set a) (Value-F.Set b) (Value-F.Set c) h k = absurd k
  apart _ _ _ _ h k = absurd h

  pub apart_field : (fs : Fields) (place : ℕ) (x y z : Value) → JoinsField fs place x y z → ClashesField fs place x y → ⊥
  apart_field no_field place x y z h k = h
  apart_field (field_then name u fs) zero x y z h k = apart u (out-Value x) (out-Value y) (out-Value z) h k
  apart_field (field_then name u fs) (suc place) x y z h k = apart_field fs place x y z h k

-- ---- a join is a value

mutual
  kept : (s : Shape) (x y z : Value-F Value) → IsIn s x → IsIn s y → JoinsIn s x y z → IsIn s z
  kept (domain cs) (Value-F.Const a) (Value-F.Const b) (Value-F.Const c) g h k = subst (λ n. IsIn (domain cs) (Value-F.Const n)) (sym k.1) g
  kept (tuple ss) (Value-F.Tuple a) (Value-F.Tuple b) (Value-F.Tuple c) g h k = subst (λ n. IsIn (tuple ss) (Value-F.Tuple n)) (sym k.1) g
  kept truth (Value-F.Bool a) (Value-F.Bool b) (Value-F.Bool c) g h k = tt
  kept integer (Value-F.Int a) (Value-F.Int b) (Value-F.Int c) g h k = subst (λ n. IsIn integer (Value-F.Int n)) (sym k.1) g
  kept text (Value-F.Str a) (Value-F.Str b) (Value-F.Str c) g h k = tt
  kept (set s) (Value-F.Set a) (Value-F.Set b) (Value-F.Set c) g h k = (k.0, union_below (count s) a b c g.1 h.1 k)
  kept (iset s) (Value-F.Set a) (Value-F.Set b) (Value-F.Set c) g h k = (k.0, meet_below (count s) a b c g.1 k)
  kept card (Value-F.Card a) (Value-F.Card b) (Value-F.Card c) g h k = k.0
  kept (valency key) (Value-F.Valency a) (Value-F.Valency b) (Value-F.Valency c) g h k = (
    k.0,
    says_right (λ _. AllowsBoth) (λ n ns. (n < count key) × IsCards ns) (λ n x y z j p q. (p.0, j.0)) a b c g.1 h.1 k,
  )
  kept (mapping key u) (Value-F.Map a) (Value-F.Map b) (Value-F.Map c) g h k = (
    k.0,
    says_right (λ _. Joins u) (λ n x. (n < count key) × IsIn u (out-Value x)) (λ n x y z j p q. (p.0, kept u (out-Value x) (out-Value y) (out-Value z) p.1 q.1 j)) a b c g.1 h.1 k,
  )
  kept (fields fs) (Value-F.Rec a) (Value-F.Rec b) (Value-F.Rec c) g h k = (k.0, says_right (JoinsField fs) (IsFieldOf fs) (kept_field fs) a b c g.1 h.1 k)
  kept _ _ _ _ g h k = absurd k

  kept_field : (fs : Fields) (place : ℕ) (x y z : Value) → JoinsField fs place x y z → IsFieldOf fs place x → IsFieldOf fs place y → IsFieldOf fs place z
  kept_field no_field place x y z k g h = absurd k
  kept_field (field_then name u fs) zero x y z k g h = kept u (out-Value x) (out-Value y) (out-Value z) g h k
  kept_field (field_then name u fs) (suc place) x y z k g h = kept_field fs place x y z k g h

pub keeps : (s : Shape) (x y z : Value) → IsValue s x → IsValue s y → Joins s x y z → IsValue s z
keeps s x y z g h k = kept s (out-Value x) (out-Value y) (out-Value z) g h k

-- ---- what the join as a function tells

abbrev TellsIn : Shape → Value-F Value → Value-F Value → Option Value → Type 0
TellsIn s x y told = MatchOption told (ClashesIn s x y) (λ z. JoinsIn s x y (out-Value z))

number_told : (make : ℕ → Value) (a b : ℕ) (P : Option Value → Type 0) → (a ≡ b → P (Some (make a))) → ((a ≡ b → ⊥) → P None) → P (same_number make a b)
number_told make a b P same differ = elim (cases_eq a b) [
  | inl i ↦ subst (λ t. P (elim t [ true ↦ Some (make a) | false ↦ None ])) (sym (eq-eqb a b i)) (same i)
  | inr other ↦ subst (λ t. P (elim t [ true ↦ Some (make a) | false ↦ None ])) (sym (ne_eqb a b other)) (differ other)
]

truth_tells : (a b : Bool) → TellsIn truth (Value-F.Bool a) (Value-F.Bool b) (same_bool a b)
truth_tells true true = rw (v.outs-Bool true) (refl, refl)
truth_tells false false = rw (v.outs-Bool false) (refl, refl)
truth_tells true false = λ e. cc
truth_tells false true = λ e. cc

text_told : (a b : List ℕ) (t : Bool) → same_list a b ≡ t → TellsIn text (Value-F.Str a) (Value-F.Str b) (elim t [ true ↦ Some (v.Str a) | false ↦ None ])
text_told a b true is = rw (v.outs-Str a) ((same_list_is a b).0 is, refl)
text_told a b false is = λ e. true≢false (sym ((same_list_is a b).1 e) ∙ is)

-- what is told of what a value is made of
made_told : {A : Type 0} (of : Option A → Option Value) (make : A → Value) → of None ≡ None → ((c : A) → of (Some c) ≡ Some (make c)) → (o : Option A) (clash : Type 0) (P : A → Type 0) (Q : Value → Type 0) → ((c : A) → P c → Q (make c))
    → MatchOption o clash P → MatchOption (of o) clash Q
made_told of make none some None clash P Q to h = subst (λ t. MatchOption t clash Q) (sym none) h
made_told of make none some (Some c) clash P Q to h = subst (λ t. MatchOption t clash Q) (sym (some c)) (to c h)

mutual
  tells_in : (s : Shape) (x y : Value-F Value) → IsIn s x → IsIn s y → TellsIn s x y (joined_in s x y)
  tells_in (domain cs) (Value-F.Const a) (Value-F.Const b) g h = number_told v.Const a b (TellsIn (domain cs) (Value-F.Const a) (Value-F.Const b)) (λ i. rw (v.outs-Const a) (i, refl)) (λ other. other)
  tells_in (tuple ss) (Value-F.Tuple a) (Value-F.Tuple b) g h = number_told v.Tuple a b (TellsIn (tuple ss) (Value-F.Tuple a) (Value-F.Tuple b)) (λ i. rw (v.outs-Tuple a) (i, refl)) (λ other. other)
  tells_in truth (Value-F.Bool a) (Value-F.Bool b) g h = truth_tells a b
  tells_in integer (Value-F.Int a) (Value-F.Int b) g h = number_told v.Int a b (TellsIn integer (Value-F.Int a) (Value-F.Int b)) (λ i. rw (v.outs-Int a) (i, refl)) (λ other. other)
  tells_in text (Value-F.Str a) (Value-F.Str b) g h = text_told a b (same_list a b) refl
  tells_in (set s) (Value-F.Set a) (Value-F.Set b) g h = rw v.outs-Set (either_is a b)
  tells_in (iset s) (Value-F.Set a) (Value-F.Set b) g h = rw v.outs-Set (both_is a b)
  tells_in card (Value-F.Card a) (Value-F.Card b) g h =
      made_told of_card v.Card refl (λ c. refl) (allowed a b) _ (AllowsBoth a b) (λ z. JoinsIn card (Value-F.Card a) (Value-F.Card b) (out-Value z)) (λ c k. rw (v.outs-Card c) k) (allowed_tells a b g)
  tells_in (valency key) (Value-F.Valency a) (Value-F.Valency b) g h =
      made_told of_valency v.Valency refl (λ c. refl) (merged (λ _. allowed) a b) _ (λ c. SaysBoth (λ _. AllowsBoth) a b c) (λ z. JoinsIn (valency key) (Value-F.Valency a) (Value-F.Valency b) (out-Value z)) (λ c k. rw (v.outs-Valency c) k)
      (merged_tells (λ _. allowed) (λ _. AllowsBoth) (λ _. IsApart) (λ n ns. (n < count key) × IsCards ns) (λ n x y p q. allowed_tells x y p.1) a b g.0 h.0 g.1 h.1)
  tells_in (mapping key u) (Value-F.Map a) (Value-F.Map b) g h =
      made_told of_map v.Map refl (λ c. refl) (merged (λ _. joined u) a b) _ (λ c. SaysBoth (λ _. Joins u) a b c) (λ z. JoinsIn (mapping key u) (Value-F.Map a) (Value-F.Map b) (out-Value z)) (λ c k. rw (v.outs-Map c) k)
      (merged_tells (λ _. joined u) (λ _. Joins u) (λ _. Clashes u) (λ n x. (n < count key) × IsIn u (out-Value x)) (λ n x y p q. tells_in u (out-Value x) (out-Value y) p.1 q.1) a b g.0 h.0 g.1 h.1)
  tells_in (fields fs) (Value-F.Rec a) (Value-F.Rec b) g h =
      made_told of_record v.Rec refl (λ c. refl) (merged (joined_field fs) a b) _ (λ c. SaysBoth (JoinsField fs) a b c) (λ z. JoinsIn (fields fs) (Value-F.Rec a) (Value-F.Rec b) (out-Value z)) (λ c k. rw (v.outs-Rec c) k)
      (merged_tells (joined_field fs) (JoinsField fs) (ClashesField fs) (IsFieldOf fs) (tells_field fs) a b g.0 h.0 g.1 h.1)
  tells_in _ _ _ g h = absurd (assumption (g, h))

  tells_field : (fs : Fields) (place : ℕ) (x y : Value) → IsFieldOf fs place x → IsFieldOf fs place y → MatchOption (joined_field fs place x y) (ClashesField fs place x y) (λ z. JoinsField fs place x y z)
  tells_field no_field place x y g h = absurd g
  tells_field (field_then name u fs) zero x y g h = tells_in u (out-Value x) (out-Value y) g h
  tells_field (field_then name u fs) (suc place) x y g h = tells_field fs place x y g h

-- the join as a function tells what two values say together, or that they clash
pub tells : (s : Shape) (x y : Value) → IsValue s x → IsValue s y → TellsJoin s x y (joined s x y)
tells s x y g h = tells_in s (out-Value x) (out-Value y) g h

decided_by : (s : Shape) (x y : Value) → IsValue s x → IsValue s y → (told : Option Value) → TellsJoin s x y told → HasOneJoin s x y ⊎ Clashes s x y
decided_by s x y g h None t = inr t
decided_by s x y g h (Some z) t = inl (record { value = z; joins = t; is = keeps s x y z g h t; only = λ w k. same_out w z (unique s (out-Value x) (out-Value y) (out-Value w) (out-Value z) k t) })

-- exactly one value joins two values of a type, and it is one of the type, or they clash
pub decided : (s : Shape) (x y : Value) → IsValue s x → IsValue s y → HasOneJoin s x y ⊎ Clashes s x y
decided s x y g h = decided_by s x y g h (joined s x y) (tells s x y g h)

-- ---- in any order

mutual
  swapped : (s : Shape) (x y z : Value-F Value) → JoinsIn s x y z → JoinsIn s y x z
  swapped (domain cs) (Value-F.Const a) (Value-F.Const b) (Value-F.Const c) h = (sym h.0, h.1 ∙ h.0)
  swapped (tuple ss) (Value-F.Tuple a) (Value-F.Tuple b) (Value-F.Tuple c) h = (sym h.0, h.1 ∙ h.0)
  swapped truth (Value-F.Bool a) (Value-F.Bool b) (Value-F.Bool c) h = (sym h.0, h.1 ∙ h.0)
  swapped integer (Value-F.Int a) (Value-F.Int b) (Value-F.Int c) h = (sym h.0, h.1 ∙ h.0)
  swapped text (Value-F.Str a) (Value-F.Str b) (Value-F.Str c) h = (sym h.0, h.1 ∙ h.0)
  swapped (set s) (Value-F.Set a) (Value-F.Set b) (Value-F.Set c) h = union_commutes a b c h
  swapped (iset s) (Value-F.Set a) (Value-F.Set b) (Value-F.Set c) h = meet_commutes a b c h
  swapped card (Value-F.Card a) (Value-F.Card b) (Value-F.Card c) h = allows_commutes a b c h
  swapped (valency key) (Value-F.Valency a) (Value-F.Valency b) (Value-F.Valency c) h = says_commutes (λ _. AllowsBoth) (λ _. allows_commutes) a b c h
  swapped (mapping key u) (Value-F.Map a) (Value-F.Map b) (Value-F.Map c) h = says_commutes (λ _. Joins u) (λ _ x y z i. swapped u (out-Value x) (out-Value y) (out-Value z) i) a b c h
  swapped (fields fs) (Value-F.Rec a) (Value-F.Rec b) (Value-F.Rec c) h = says_commutes (JoinsField fs) (swapped_field fs) a b c h
  swapped _ _ _ _ h = absurd h

  swapped_field : (fs : Fields) (place : ℕ) (x y z : Value) → JoinsField fs place x y z → JoinsField fs place y x z
  swapped_field no_field place x y z h = h
  swapped_field (field_then name u fs) zero x y z h = swapped u (out-Value x) (out-Value y) (out-Value z) h
  swapped_field (field_then name u fs) (suc place) x y z h = swapped_field fs place x y z h

pub commutes : (s : Shape) (x y z : Value) → Joins s x y z → Joins s y x z
commutes s x y z h = swapped s (out-Value x) (out-Value y) (out-Value z) h

mutual
  clash_swapped : (s : Shape) (x y : Value-F Value) → ClashesIn s x y → ClashesIn s y x
  clash_swapped (domain cs) (Value-F.Const a) (Value-F.Const b) h = λ i. h (sym i)
  clash_swapped (tuple ss) (Value-F.Tuple a) (Value-F.Tuple b) h = λ i. h (sym i)
  clash_swapped truth (Value-F.Bool a) (Value-F.Bool b) h = λ i. h (sym i)
  clash_swapped integer (Value-F.Int a) (Value-F.Int b) h = λ i. h (sym i)
  clash_swapped text (Value-F.Str a) (Value-F.Str b) h = λ i. h (sym i)
  clash_swapped card (Value-F.Card a) (Value-F.Card b) h = apart_commutes a b h
  clash_swapped (valency key) (Value-F.Valency a) (Value-F.Valency b) h = some_commutes (λ _. IsApart) (λ _. apart_commutes) a b h
  clash_swapped (mapping key u) (Value-F.Map a) (Value-F.Map b) h = some_commutes (λ _. Clashes u) (λ _ x y i. clash_swapped u (out-Value x) (out-Value y) i) a b h
  clash_swapped (fields fs) (Value-F.Rec a) (Value-F.Rec b) h = some_commutes (ClashesField fs) (clash_swapped_field fs) a b h
  clash_swapped _ _ _ h = absurd h

  clash_swapped_field : (fs : Fields) (place : ℕ) (x y : Value) → ClashesField fs place x y → ClashesField fs place y x
  clash_swapped_field no_field place x y h = h
  clash_swapped_field (field_then name u fs) zero x y h = clash_swapped u (out-Value x) (out-Value y) h
  clash_swapped_field (field_then name u fs) (suc place) x y h = clash_swapped_field fs place x y h

pub clash_commutes : (s : Shape) (x y : Value) → Clashes s x y → Clashes s y x
clash_commutes s x y h = clash_swapped s (out-Value x) (out-Value y) h

-- ---- in any grouping

-- what clashes with one of two values clashes with their join
mutual
  stays : (s : Shape) (x y z u : Value-F Value) → JoinsIn s x y u → ClashesIn s y z → ClashesIn s u z
  stays (domain cs) (Value-F.Const a) (Value-F.Const b) (Value-F.Const c) (Value-F.Const d) h k = λ i. k (sym h.0 ∙ sym h.1 ∙ i)
  stays (tuple ss) (Value-F.Tuple a) (Value-F.Tuple b) (Value-F.Tuple c) (Value-F.Tuple d) h k = λ i. k (sym h.0 ∙ sym h.1 ∙ i)
  stays truth (Value-F.Bool a) (Value-F.Bool b) (Value-F.Bool c) (Value-F.Bool d) h k = λ i. k (sym h.0 ∙ sym h.1 ∙ i)
  stays integer (Value-F.Int a) (Value-F.Int b) (Value-F.Int c) (Value-F.Int d) h k = λ i. k (sym h.0 ∙ sym h.1 ∙ i)
  stays text (Value-F.Str a) (Value-F.Str b) (Value-F.Str c) (Value-F.Str d) h k = λ i. k (sym h.0 ∙ sym h.1 ∙ i)
  stays card (Value-F.Card a) (Value-F.Card b) (Value-F.Card c) (Value-F.Card d) h k = apart_stays a b c d h k
  stays (valency key) (Value-F.Valency a) (Value-F.Valency b) (Value-F.Valency c) (Value-F.Valency d) h k = some_stays (λ _. AllowsBoth) (λ _. IsApart) (λ _. apart_stays) a b c d h k
  stays (mapping key u) (Value-F.Map a) (Value-F.Map b) (Value-F.Map c) (Value-F.Map d) h k = some_stays (λ _. Joins u) (λ _. Clashes u) (λ _ x y z w i j. stays u (out-Value x) (out-Value y) (out-Value z) (out-Value w) i j) a b c d h k
  stays (fields fs) (Value-F.Rec a) (Value-F.Rec b) (Value-F.Rec c) (Value-F.Rec d) h k = some_stays (JoinsField fs) (ClashesField fs) (stays_field fs) a b c d h k
  stays _ _ _ _ _ h k = absurd (assumption (h, k))

  stays_field : (fs : Fields) (place : ℕ) (x y z u : Value) → JoinsField fs place x y u → ClashesField fs place y z → ClashesField fs place u z
  stays_field no_field place x y z u h k = h
  stays_field (field_then name t fs) zero x y z u h k = stays t (out-Value x) (out-Value y) (out-Value z) (out-Value u) h k
  stays_field (field_then name t fs) (suc place) x y z u h k = stays_field fs place x y z u h k

mutual
  regroups : (s : Shape) (x y z u v w : Value-F Value) → JoinsIn s x y u → JoinsIn s u z w → JoinsIn s y z v → JoinsIn s x v w
  regroups (domain cs) (Value-F.Const a) (Value-F.Const b) (Value-F.Const c) (Value-F.Const d) (Value-F.Const e) (Value-F.Const f) h k l = (h.0 ∙ sym l.1, k.1 ∙ h.1)
  regroups (tuple ss) (Value-F.Tuple a) (Value-F.Tuple b) (Value-F.Tuple c) (Value-F.Tuple d) (Value-F.Tuple e) (Value-F.Tuple f) h k l = (h.0 ∙ sym l.1, k.1 ∙ h.1)
  regroups truth (Value-F.Bool a) (Value-F.Bool b) (Value-F.Bool c) (Value-F.Bool d) (Value-F.Bool e) (Value-F.Bool f) h k l = (h.0 ∙ sym l.1, k.1 ∙ h.1)
  regroups integer (Value-F.Int a) (Value-F.Int b) (Value-F.Int c) (Value-F.Int d) (Value-F.Int e) (Value-F.Int f) h k l = (h.0 ∙ sym l.1, k.1 ∙ h.1)
  regroups text (Value-F.Str a) (Value-F.Str b) (Value-F.Str c) (Value-F.Str d) (Value-F.Str e) (Value-F.Str f) h k l = (h.0 ∙ sym l.1, k.1 ∙ h.1)
  regroups (set s) (Value-F.Set a) (Value-F.Set b) (Value-F.Set c) (Value-F.Set d) (Value-F.Set e) (Value-F.Set f) h k l = union_regroups a b c d e f h k l
  regroups (iset s) (Value-F.Set a) (Value-F.Set b) (Value-F.Set c) (Value-F.Set d) (Value-F.Set e) (Value-F.Set f) h k l = meet_regroups a b c d e f h k l
  regroups card (Value-F.Card a) (Value-F.Card b) (Value-F.Card c) (Value-F.Card d) (Value-F.Card e) (Value-F.Card f) h k l = allows_regroups a b c d e f h k l
  regroups (valency key) (Value-F.Valency a) (Value-F.Valency b) (Value-F.Valency c) (Value-F.Valency d) (Value-F.Valency e) (Value-F.Valency f) h k l = says_regroups (λ _. AllowsBoth) (λ _. allows_unique) (λ _. allows_regroups) a b c d e f h k l
  regroups (mapping key t) (Value-F.Map a) (Value-F.Map b) (Value-F.Map c) (Value-F.Map d) (Value-F.Map e) (Value-F.Map f) h k l =
      says_regroups (λ _. Joins t) (λ _ x y z w i j. same_out z w (unique t (out-Value x) (out-Value y) (out-Value z) (out-Value w) i j))
      (λ _ x y z u v w i j m. regroups t (out-Value x) (out-Value y) (out-Value z) (out-Value u) (out-Value v) (out-Value w) i j m) a b c d e f h k l
  regroups (fields fs) (Value-F.Rec a) (Value-F.Rec b) (Value-F.Rec c) (Value-F.Rec d) (Value-F.Rec e) (Value-F.Rec f) h k l = says_regroups (JoinsField fs) (unique_field fs) (regroups_field fs) a b c d e f h k l
  regroups _ _ _ _ _ _ _ h k l = absurd (assumption (h, k, l))

  regroups_field : (fs : Fields) (place : ℕ) (x y z u v w : Value) → JoinsField fs place x y u → JoinsField fs place u z w → JoinsField fs place y z v → JoinsField fs place x v w
  regroups_field no_field place x y z u v w h k l = h
  regroups_field (field_then name t fs) zero x y z u v w h k l = regroups t (out-Value x) (out-Value y) (out-Value z) (out-Value u) (out-Value v) (out-Value w) h k l
  regroups_field (field_then name t fs) (suc place) x y z u v w h k l = regroups_field fs place x y z u v w h k l

-- three values that join from the left join from the right to the same
pub associates : (s : Shape) (x y z u w : Value) → IsValue s x → IsValue s y → IsValue s z → Joins s x y u → Joins s u z w → JoinsLater s x y z w
associates s x y z u w f g h i j = elim (decided s y z g h) [
  | inl one ↦ (record {
    value = one.value;
    later = one.joins;
    joins = regroups s (out-Value x) (out-Value y) (out-Value z) (out-Value u) (out-Value one.value) (out-Value w) i j one.joins;
  })
  | inr clash ↦ absurd (apart s (out-Value u) (out-Value z) (out-Value w) j (stays s (out-Value x) (out-Value y) (out-Value z) (out-Value u) i clash))
]

-- ---- all of it

pub lawful : (s : Shape) → JoinLaws s
lawful s = record {
  decided = decided s;
  exclusive = λ x y z _ _ h k. apart s (out-Value x) (out-Value y) (out-Value z) h k;
  commutes = commutes s;
  clash_commutes = clash_commutes s;
  associates = associates s;
}

-- ---- what a call of the join tells

pub told_joins : (s : Shape) (x y : Value) (told : Option Value) → IsValue s x → IsValue s y → told ≡ joined s x y → TellsJoin s x y told
told_joins s x y told g h is = subst (λ o. TellsJoin s x y o) (sym is) (tells s x y g h)

value_of : (s : Shape) (x y : Value) (told : Option Value) → IsValue s x → IsValue s y → TellsJoin s x y told → IfSome told (λ z. IsValue s z)
value_of s x y None g h t = tt
value_of s x y (Some z) g h t = keeps s x y z g h t

pub told_value : (s : Shape) (x y : Value) (told : Option Value) → IsValue s x → IsValue s y → told ≡ joined s x y → IfSome told (λ z. IsValue s z)
told_value s x y told g h is = value_of s x y told g h (told_joins s x y told g h is)
