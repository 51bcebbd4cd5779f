-- What lists with rising keys say of a key, and what two of them say together.
use Rattle.std.proofs.Common.{◌≡◌, ℕ, ◌<◌, ◌+◌, List, [], ◌∷◌, refl, ap, ap₂, sym, ◌∙◌, arith, inl, inr, subst}
use Rattle.std.specs.Prelude.{cond, Option, None, Some}
use Rattle.std.proofs.lemmas.Bool.{cases_eq, cases_lt, eq-eqb, ne_eqb}
use Rattle.xdg_domain.specs.Valencies.{said_at, KeysRise}
use Rattle.xdg_domain.specs.Values.{EachSaid}
use Rattle.xdg_domain.specs.Joins.{Both, SaysBoth, OnBoth, OnSome}
use Rattle.xdg_facts.proofs.Options.{none_some, some_same}

-- ---- one list

pub at_head : {V : Type 0} (e : ℕ × V) (s : List (ℕ × V)) (key : ℕ) → e.0 ≡ key → said_at (e ∷ s) key ≡ Some e.1
at_head e s key is = ap (λ t. cond t (Some e.1) (said_at s key)) (eq-eqb e.0 key is)

pub after_head : {V : Type 0} (e : ℕ × V) (s : List (ℕ × V)) (key : ℕ) → (e.0 ≡ key → ⊥) → said_at (e ∷ s) key ≡ said_at s key
after_head e s key other = ap (λ t. cond t (Some e.1) (said_at s key)) (ne_eqb e.0 key other)

pub unsaid : {V : Type 0} (low key : ℕ) (s : List (ℕ × V)) → key < low → KeysRise low s → said_at s key ≡ None
unsaid low key [] below r = refl
unsaid low key (e ∷ s) below (a, b) = after_head e s key (λ i. omega (arith, i, a, below)) ∙ unsaid (e.0 + 1) key s (omega (arith, a, below)) b

-- what is right for each entry is right for what is said of a key
pub said_right : {V : Type 0} (G : ℕ → V → Type 0) (s : List (ℕ × V)) (key : ℕ) (x : V) → EachSaid G s → said_at s key ≡ Some x → G key x
said_right G [] key x right is = absurd (none_some x is)
said_right G (e ∷ s) key x right is = elim (cases_eq e.0 key) [
  | inl i ↦ subst (λ k. G k x) i (subst (λ z. G e.0 z) (some_same e.1 x (sym (at_head e s key i) ∙ is)) right.0)
  | inr other ↦ said_right G s key x right.1 (sym (after_head e s key other) ∙ is)
]

pub right_said : {V : Type 0} (G : ℕ → V → Type 0) (low : ℕ) (s : List (ℕ × V)) → KeysRise low s → ((key : ℕ) (x : V) → said_at s key ≡ Some x → G key x) → EachSaid G s
right_said G low [] rises right = tt
right_said G low (e ∷ s) rises right = (
  right e.0 e.1 (at_head e s e.0 refl),
  right_said G (e.0 + 1) s rises.1 (λ key x is. elim (cases_eq e.0 key) [
    | inl i ↦ absurd (none_some x (sym (unsaid (e.0 + 1) key s (omega (arith, i)) rises.1) ∙ is))
    | inr other ↦ right key x (after_head e s key other ∙ is)
  ]),
)

-- two lists with rising keys that say the same are the same
pub said_same : {V : Type 0} (low : ℕ) (a b : List (ℕ × V)) → KeysRise low a → KeysRise low b → ((key : ℕ) → said_at a key ≡ said_at b key) → a ≡ b
said_same low [] [] h k same = refl
said_same low [] (y ∷ b) h k same = absurd (none_some y.1 (same y.0 ∙ at_head y b y.0 refl))
said_same low (x ∷ a) [] h k same = absurd (none_some x.1 (sym (same x.0) ∙ at_head x a x.0 refl))
said_same low (x ∷ a) (y ∷ b) h k same = elim (cases_eq x.0 y.0) [
  | inl i ↦
      let here = some_same x.1 y.1 (sym (at_head x a x.0 refl) ∙ same x.0 ∙ at_head y b x.0 (sym i)) in
      ap₂ (λ e s. e ∷ s) (ap₂ (λ m z. (m, z)) i here) (said_same (x.0 + 1) a b h.1 (subst (λ m. KeysRise (m + 1) b) (sym i) k.1) (λ key. elim (cases_eq x.0 key) [
        | inl j ↦ unsaid (x.0 + 1) key a (omega (arith, j)) h.1 ∙ sym (unsaid (y.0 + 1) key b (omega (arith, j, i)) k.1)
        | inr other ↦ sym (after_head x a key other) ∙ same key ∙ after_head y b key (λ j. other (i ∙ j))
      ]))
  | inr other ↦ elim (cases_lt x.0 y.0) [
    | inl less ↦ absurd (none_some x.1 (sym (unsaid y.0 x.0 (y ∷ b) less (omega arith, k.1)) ∙ sym (same x.0) ∙ at_head x a x.0 refl))
    | inr more ↦ absurd (none_some y.1 (sym (unsaid x.0 y.0 (x ∷ a) (omega (arith, more, other)) (omega arith, h.1)) ∙ same y.0 ∙ at_head y b y.0 refl))
  ]
]

-- ---- what two say of a key

pub both_along : {V : Type 0} (P : V → V → V → Type 0) (o p q o' p' q' : Option V) → o ≡ o' → p ≡ p' → q ≡ q' → Both P o' p' q' → Both P o p q
both_along P o p q o' p' q' i j k b = subst (λ t. Both P t p q) (sym i) (subst (λ t. Both P o' t q) (sym j) (subst (λ t. Both P o' p' t) (sym k) b))

pub on_along : {V : Type 0} (Q : V → V → Type 0) (o p o' p' : Option V) → o ≡ o' → p ≡ p' → OnBoth Q o' p' → OnBoth Q o p
on_along Q o p o' p' i j b = subst (λ t. OnBoth Q t p) (sym i) (subst (λ t. OnBoth Q o' t) (sym j) b)

pub on_none : {V : Type 0} (Q : V → V → Type 0) (o : Option V) → OnBoth Q o None → ⊥
on_none Q None h = h
on_none Q (Some x) h = h

pub both_none : {V : Type 0} (P : V → V → V → Type 0) (o : Option V) → Both P o None o
both_none P None = refl
both_none P (Some x) = refl

pub both_unique : {V : Type 0} (P : V → V → V → Type 0) → ((x y z w : V) → P x y z → P x y w → z ≡ w) → (o p c d : Option V) → Both P o p c → Both P o p d → c ≡ d
both_unique P unique None p c d h k = h ∙ sym k
both_unique P unique (Some x) None c d h k = h ∙ sym k
both_unique P unique (Some x) (Some y) (Some z) (Some w) h k = ap (λ t. Some t) (unique x y z w h k)
both_unique P unique o p c d h k = absurd (assumption (h, k))

pub both_exclusive : {V : Type 0} (P : V → V → V → Type 0) (Q : V → V → Type 0) → ((x y z : V) → P x y z → Q x y → ⊥) → (o p c : Option V) → Both P o p c → OnBoth Q o p → ⊥
both_exclusive P Q exclusive None p c h k = k
both_exclusive P Q exclusive (Some x) None c h k = k
both_exclusive P Q exclusive (Some x) (Some y) None h k = h
both_exclusive P Q exclusive (Some x) (Some y) (Some z) h k = exclusive x y z h k

pub both_commutes : {V : Type 0} (P R : V → V → V → Type 0) → ((x y z : V) → P x y z → R y x z) → (o p c : Option V) → Both P o p c → Both R p o c
both_commutes P R commutes None None c h = h
both_commutes P R commutes (Some x) (Some y) (Some z) h = commutes x y z h
both_commutes P R commutes o p c h = h

pub on_commutes : {V : Type 0} (Q R : V → V → Type 0) → ((x y : V) → Q x y → R y x) → (o p : Option V) → OnBoth Q o p → OnBoth R p o
on_commutes Q R commutes None None h = h
on_commutes Q R commutes (Some x) (Some y) h = commutes x y h
on_commutes Q R commutes o p h = h

pub both_changes : {V : Type 0} (P R : V → V → V → Type 0) → ((x y z : V) → P x y z → R x y z) → (o p c : Option V) → Both P o p c → Both R o p c
both_changes P R changes (Some x) (Some y) (Some z) h = changes x y z h
both_changes P R changes o p c h = h

-- three put together from the left are put together from the right
pub both_regroups : {V : Type 0} (P : V → V → V → Type 0) → ((x y z w : V) → P x y z → P x y w → z ≡ w) → ((x y z u v w : V) → P x y u → P u z w → P y z v → P x v w)
    → (o p q u v w : Option V) → Both P o p u → Both P u q w → Both P p q v → Both P o v w
both_regroups P unique regroups None p q u v w h k l = both_unique P unique p q w v (subst (λ t. Both P t q w) h k) l
both_regroups P unique regroups (Some x) None q u v w h k l = subst (λ t. Both P (Some x) t w) (sym l) (subst (λ t. Both P t q w) h k)
both_regroups P unique regroups (Some x) (Some y) q None v w h k l = absurd h
both_regroups P unique regroups (Some x) (Some y) None (Some u) v w h k l = subst (λ t. Both P (Some x) t w) (sym l) (subst (λ t. Both P (Some x) (Some y) t) (sym k) h)
both_regroups P unique regroups (Some x) (Some y) (Some z) (Some u) None w h k l = absurd l
both_regroups P unique regroups (Some x) (Some y) (Some z) (Some u) (Some v) None h k l = k
both_regroups P unique regroups (Some x) (Some y) (Some z) (Some u) (Some v) (Some w) h k l = regroups x y z u v w h k l

-- what clashes with one of two clashes with both together
pub clash_stays : {V : Type 0} (P : V → V → V → Type 0) (Q : V → V → Type 0) → ((x y z u : V) → P x y u → Q y z → Q u z) → (o p q u : Option V) → Both P o p u → OnBoth Q p q → OnBoth Q u q
clash_stays P Q stays None p q u h k = subst (λ t. OnBoth Q t q) (sym h) k
clash_stays P Q stays (Some x) (Some y) (Some z) (Some u) h k = stays x y z u h k
clash_stays P Q stays o p q u h k = absurd (assumption (h, k))

-- what is right for both parts is right for them together
pub both_right : {V : Type 0} (P : V → V → V → Type 0) (G : V → Type 0) → ((x y z : V) → P x y z → G x → G y → G z) → (o p : Option V) (z : V) → ((x : V) → o ≡ Some x → G x) → ((x : V) → p ≡ Some x → G x) → Both P o p (Some z) → G z
both_right P G right None p z g h b = h z (sym b)
both_right P G right (Some x) None z g h b = g z (sym b)
both_right P G right (Some x) (Some y) z g h b = right x y z b (g x refl) (h y refl)

-- ---- two lists

pub says_unique : {V : Type 0} (P : ℕ → V → V → V → Type 0) → ((key : ℕ) (x y z w : V) → P key x y z → P key x y w → z ≡ w) → (a b c d : List (ℕ × V)) → SaysBoth P a b c → SaysBoth P a b d → c ≡ d
says_unique P unique a b c d h k = said_same 0 c d h.0 k.0 (λ key. both_unique (P key) (unique key) (said_at a key) (said_at b key) (said_at c key) (said_at d key) (h.1 key) (k.1 key))

pub says_exclusive : {V : Type 0} (P : ℕ → V → V → V → Type 0) (Q : ℕ → V → V → Type 0) → ((key : ℕ) (x y z : V) → P key x y z → Q key x y → ⊥) → (a b c : List (ℕ × V)) → SaysBoth P a b c → OnSome Q a b → ⊥
says_exclusive P Q exclusive a b c h (key, k) = both_exclusive (P key) (Q key) (exclusive key) (said_at a key) (said_at b key) (said_at c key) (h.1 key) k

pub says_commutes : {V : Type 0} (P : ℕ → V → V → V → Type 0) → ((key : ℕ) (x y z : V) → P key x y z → P key y x z) → (a b c : List (ℕ × V)) → SaysBoth P a b c → SaysBoth P b a c
says_commutes P commutes a b c h = (h.0, λ key. both_commutes (P key) (P key) (commutes key) (said_at a key) (said_at b key) (said_at c key) (h.1 key))

pub some_commutes : {V : Type 0} (Q : ℕ → V → V → Type 0) → ((key : ℕ) (x y : V) → Q key x y → Q key y x) → (a b : List (ℕ × V)) → OnSome Q a b → OnSome Q b a
some_commutes Q commutes a b (key, k) = (key, on_commutes (Q key) (Q key) (commutes key) (said_at a key) (said_at b key) k)

pub says_regroups : {V : Type 0} (P : ℕ → V → V → V → Type 0) → ((key : ℕ) (x y z w : V) → P key x y z → P key x y w → z ≡ w) → ((key : ℕ) (x y z u v w : V) → P key x y u → P key u z w → P key y z v → P key x v w)
    → (a b c u v w : List (ℕ × V)) → SaysBoth P a b u → SaysBoth P u c w → SaysBoth P b c v → SaysBoth P a v w
says_regroups P unique regroups a b c u v w h k l =
    (k.0, λ key. both_regroups (P key) (unique key) (regroups key) (said_at a key) (said_at b key) (said_at c key) (said_at u key) (said_at v key) (said_at w key) (h.1 key) (k.1 key) (l.1 key))

pub some_stays : {V : Type 0} (P : ℕ → V → V → V → Type 0) (Q : ℕ → V → V → Type 0) → ((key : ℕ) (x y z u : V) → P key x y u → Q key y z → Q key u z) → (a b c u : List (ℕ × V)) → SaysBoth P a b u → OnSome Q b c → OnSome Q u c
some_stays P Q stays a b c u h (key, k) = (key, clash_stays (P key) (Q key) (stays key) (said_at a key) (said_at b key) (said_at c key) (said_at u key) (h.1 key) k)

pub says_right : {V : Type 0} (P : ℕ → V → V → V → Type 0) (G : ℕ → V → Type 0) → ((key : ℕ) (x y z : V) → P key x y z → G key x → G key y → G key z) → (a b c : List (ℕ × V)) → EachSaid G a → EachSaid G b → SaysBoth P a b c → EachSaid G c
says_right P G right a b c g h s = right_said G 0 c s.0 (λ key z is. both_right (P key) (G key) (right key) (said_at a key) (said_at b key) z (λ x i. said_right G a key x g i) (λ x i. said_right G b key x h i) (subst (λ t. Both (P key) (said_at a key) (said_at b key) t) is (s.1 key)))
