-- Sets and cardinalities of which the same is said are the same, and what two of them say together.
use Rattle.std.proofs.Common.{◌≡◌, ◌↔◌, ℕ, ◌<◌, ◌≤◌, ◌+◌, List, [], ◌∷◌, refl, ap, ap₂, sym, ◌∙◌, arith, inl, inr, subst}
use lib.Pointwise.{pointwise}
use Rattle.std.specs.Prelude.{eqb, true, false, ◌&&◌, ◌||◌, ◌==◌, Option, None, Some, MatchOption, Result, Ok, Err, IfOk}
use Rattle.std.specs.List.Sorted.{IsStrictlyIncreasing}
use Rattle.std.proofs.lemmas.Bool.{cases_eq, or_cases, true≢false}
use Rattle.std.proofs.Math.Bool.{and_assoc}
use Rattle.std.proofs.lemmas.Slice.Eq.{bytes_eq-Decides}
use Rattle.xdg_domain.specs.Cards.{cards, IsCards, common}
use Rattle.xdg_domain.specs.Valencies.{said_at, KeysRise, both_say, Clash}
use Rattle.xdg_domain.specs.Values.{AllBelow, EachSaid}
use Rattle.xdg_domain.specs.Joins.{Both, SaysBoth, OnBoth, OnSome, IsUnion, IsMeet, AllowsBoth, IsApart}
use Rattle.xdg_domain.specs.Joined.{above, either, both, where_some, allowed, merged, same_list}
use Rattle.xdg_domain.proofs.Keyed.{says_exclusive, says_unique}
use Rattle.xdg_domain.proofs.Merged.{merged_tells}
use Rattle.xdg_facts.proofs.Truths.{and_false, or_true, and_swap, and_first, or_assoc}
use Rattle.xdg_facts.specs.Rises.{has, Rises}
use Rattle.xdg_facts.proofs.Rising.{numbers_agree, has_exact, rises_of}
use Rattle.xdg_facts.proofs.Merging.{swapped, has_head, has_after, members_same, increasing_same, from_rises, numbers_increase, filter_rises, has_filter}
use Rattle.xdg_facts.proofs.Sets.{meets}

-- ---- bounds

pub has_beyond_above : (s : List ℕ) (n : ℕ) → above s ≤ n → has s n ≡ false
has_beyond_above [] n order = refl
has_beyond_above (x ∷ s) n order = has_after x s n (λ i. omega (arith, i, order)) ∙ has_beyond_above s n (omega (arith, order))

pub has_below : (bound : ℕ) (s : List ℕ) (n : ℕ) → AllBelow bound s → has s n ≡ true → n < bound
has_below bound [] n below h = absurd (true≢false (sym h))
has_below bound (x ∷ s) n below h = elim (cases_eq x n) [
  | inl i ↦ subst (λ m. m < bound) i below.0
  | inr other ↦ has_below bound s n below.1 (sym (has_after x s n other) ∙ h)
]

pub below_has : (bound : ℕ) (s : List ℕ) → ((n : ℕ) → has s n ≡ true → n < bound) → AllBelow bound s
below_has bound [] below = tt
below_has bound (x ∷ s) below = (below x (has_head x s x refl), below_has bound s (λ n h. below n (ap (λ t. (x == n) || t) h ∙ or_true (x == n))))

pub union_below : (bound : ℕ) (a b c : List ℕ) → AllBelow bound a → AllBelow bound b → IsUnion a b c → AllBelow bound c
union_below bound a b c h k u = below_has bound c (λ n t. elim (or_cases (has a n) (has b n) (sym (u.1 n) ∙ t)) [ inl i ↦ has_below bound a n h i | inr i ↦ has_below bound b n k i ])

pub meet_below : (bound : ℕ) (a b c : List ℕ) → AllBelow bound a → IsMeet a b c → AllBelow bound c
meet_below bound a b c h u = below_has bound c (λ n t. has_below bound a n h (and_first (has a n) (has b n) (sym (u.1 n) ∙ t)))

-- ---- sets

pub either_is : (a b : List ℕ) → IsUnion a b (either a b)
either_is a b = (
  numbers_increase (above a + above b) (λ n. has a n || has b n),
  has_exact (above a + above b) (λ n. has a n || has b n) (λ n beyond. ap₂ (λ s t. s || t) (has_beyond_above a n (omega (arith, beyond))) (has_beyond_above b n (omega (arith, beyond)))),
)

pub both_is : (a b : List ℕ) → IsMeet a b (both a b)
both_is a b = (numbers_increase (above a) (λ n. has a n && has b n), has_exact (above a) (λ n. has a n && has b n) (λ n beyond. ap (λ s. s && has b n) (has_beyond_above a n beyond)))

pub union_unique : (a b c d : List ℕ) → IsUnion a b c → IsUnion a b d → c ≡ d
union_unique a b c d h k = increasing_same c d h.0 k.0 (λ n. h.1 n ∙ sym (k.1 n))

pub meet_unique : (a b c d : List ℕ) → IsMeet a b c → IsMeet a b d → c ≡ d
meet_unique a b c d h k = increasing_same c d h.0 k.0 (λ n. h.1 n ∙ sym (k.1 n))

pub union_commutes : (a b c : List ℕ) → IsUnion a b c → IsUnion b a c
union_commutes a b c h = (h.0, λ n. h.1 n ∙ swapped true (has a n) (has b n))

pub meet_commutes : (a b c : List ℕ) → IsMeet a b c → IsMeet b a c
meet_commutes a b c h = (h.0, λ n. h.1 n ∙ and_swap (has a n) (has b n))

pub union_regroups : (a b c u v w : List ℕ) → IsUnion a b u → IsUnion u c w → IsUnion b c v → IsUnion a v w
union_regroups a b c u v w h k l = (k.0, λ n. k.1 n ∙ ap (λ t. t || has c n) (h.1 n) ∙ or_assoc (has a n) (has b n) (has c n) ∙ ap (λ t. has a n || t) (sym (l.1 n)))

pub meet_regroups : (a b c u v w : List ℕ) → IsMeet a b u → IsMeet u c w → IsMeet b c v → IsMeet a v w
meet_regroups a b c u v w h k l = (k.0, meets a b c u v w h.1 k.1 l.1)

-- ---- cardinalities

pub allows_unique : (a b c d : List ℕ) → AllowsBoth a b c → AllowsBoth a b d → c ≡ d
allows_unique a b c d h k = (h.0).whole ∙ numbers_agree 128 (has c) (has d) (λ n below. h.1 n ∙ sym (k.1 n)) ∙ sym (k.0).whole

pub allows_commutes : (a b c : List ℕ) → AllowsBoth a b c → AllowsBoth b a c
allows_commutes a b c h = (h.0, λ n. h.1 n ∙ and_swap (has a n) (has b n))

pub apart_commutes : (a b : List ℕ) → IsApart a b → IsApart b a
apart_commutes a b h n = and_swap (has b n) (has a n) ∙ h n

pub allows_regroups : (a b c u v w : List ℕ) → AllowsBoth a b u → AllowsBoth u c w → AllowsBoth b c v → AllowsBoth a v w
allows_regroups a b c u v w h k l = (k.0, meets a b c u v w h.1 k.1 l.1)

pub apart_stays : (a b c u : List ℕ) → AllowsBoth a b u → IsApart b c → IsApart u c
apart_stays a b c u h k n = ap (λ t. t && has c n) (h.1 n) ∙ and_assoc (has a n) (has b n) (has c n) ∙ ap (λ t. has a n && t) (k n) ∙ and_false (has a n)

member : (s : List ℕ) → (s ≡ [] → ⊥) → (n : ℕ) × (has s n ≡ true)
member [] some = absurd (some refl)
member (x ∷ s) some = (x, has_head x s x refl)

pub allows_exclusive : (a b c : List ℕ) → AllowsBoth a b c → IsApart a b → ⊥
allows_exclusive a b c h k = let m = member c (h.0).some in true≢false (sym m.1 ∙ h.1 m.0 ∙ k m.0)

pub has_common : (a b : List ℕ) (n : ℕ) → has (common a b) n ≡ (has a n && has b n)
has_common a b n = has_filter (has b) a n

rising_whole : (s : List ℕ) → Rises 0 128 s → s ≡ cards (has s)
rising_whole s r = members_same 0 s (cards (has s)) (from_rises 0 128 s r) (from_rises 0 128 (cards (has s)) (rises_of 128 (has s))) (λ n. sym (has_exact 128 (has s) (λ k beyond. beyond_rises 0 128 s k beyond r) n))
  where
    beyond_rises : (low bound : ℕ) (s : List ℕ) (n : ℕ) → bound ≤ n → Rises low bound s → has s n ≡ false
    beyond_rises low bound [] n order h = refl
    beyond_rises low bound (x ∷ s) n order h = has_after x s n (λ i. omega (arith, i, order, h.1)) ∙ beyond_rises (x + 1) bound s n order h.2

where_tells : (s : List ℕ) → MatchOption (where_some s) (s ≡ []) (λ c. (c ≡ s) × (s ≡ [] → ⊥))
where_tells [] = refl
where_tells (x ∷ s) = (refl, λ e. cc)

-- what two cardinalities that meet allow
pub met_allowed : (a b : List ℕ) (o : Option (List ℕ)) → MatchOption o (common a b ≡ []) (λ s. (s ≡ common a b) × IsCards s) → allowed a b ≡ o
met_allowed a b None t = ap where_some t
met_allowed a b (Some []) t = absurd (t.1.some refl)
met_allowed a b (Some (x ∷ s)) t = ap where_some (sym t.0)

tells_along : (a b : List ℕ) → IsCards a → (o : Option (List ℕ)) → MatchOption o (common a b ≡ []) (λ c. (c ≡ common a b) × (common a b ≡ [] → ⊥)) → MatchOption o (IsApart a b) (λ c. AllowsBoth a b c)
tells_along a b h None t = λ n. sym (has_common a b n) ∙ ap (λ s. has s n) t
tells_along a b h (Some c) t = subst (λ s. AllowsBoth a b s) (sym t.0) (
  record { rises = filter_rises (has b) 0 128 a h.rises; whole = rising_whole (common a b) (filter_rises (has b) 0 128 a h.rises); some = t.1 },
  has_common a b,
)

pub allowed_tells : (a b : List ℕ) → IsCards a → MatchOption (allowed a b) (IsApart a b) (λ c. AllowsBoth a b c)
allowed_tells a b h = tells_along a b h (allowed a b) (where_tells (common a b))

-- ---- cardinalities by key

abbrev IsSame : ℕ → List ℕ → List ℕ → List ℕ → Type 0
IsSame key s t c = (c ≡ common s t) × (common s t ≡ [] → ⊥)

abbrev IsNone : ℕ → List ℕ → List ℕ → Type 0
IsNone key s t = common s t ≡ []

abbrev IsAny : ℕ → List ℕ → Type 0
IsAny key s = Unit {0}

any : (s : List (ℕ × List ℕ)) → EachSaid IsAny s
any [] = tt
any (e ∷ s) = (tt, any s)

said_clash : (o p : Option (List ℕ)) → Clash o p ↔ OnBoth (λ s t. common s t ≡ []) o p
said_clash (Some s) (Some t) = (λ h. h, λ h. h)
said_clash o p = (λ h. h, λ h. h)

said_both : (o p c : Option (List ℕ)) → ((c ≡ both_say o p) × (Clash o p → ⊥)) ↔ Both (IsSame 0) o p c
said_both None p c = (λ h. h.0, λ is. (is, λ k. k))
said_both (Some s) None c = (λ h. h.0, λ is. (is, λ k. k))
said_both (Some s) (Some t) None = (λ h. cc, λ h. absurd h)
said_both (Some s) (Some t) (Some c) = (λ h. (let e : c ≡ common s t = cc in e, h.1), λ h. (ap (λ l. Some l) h.0, h.1))

keys_tell : (a b : List (ℕ × List ℕ)) → KeysRise 0 a → KeysRise 0 b → MatchOption (merged (λ key. allowed) a b) (OnSome IsNone a b) (λ c. SaysBoth IsSame a b c)
keys_tell a b h k = merged_tells (λ key. allowed) IsSame IsNone IsAny (λ key s t _ _. where_tells (common s t)) a b h k (any a) (any b)

as_said : (a b : List (ℕ × List ℕ)) (told : Option (List (ℕ × List ℕ))) → MatchOption told (OnSome IsNone a b) (λ c. SaysBoth IsSame a b c) → MatchOption told
    ((key : ℕ) × Clash (said_at a key) (said_at b key))
    (λ c. KeysRise 0 c × ((key : ℕ) → (said_at c key ≡ both_say (said_at a key) (said_at b key)) × (Clash (said_at a key) (said_at b key) → ⊥)))
as_said a b None (key, t) = (key, (said_clash (said_at a key) (said_at b key)).1 t)
as_said a b (Some c) (rises, t) = (rises, λ key. (said_both (said_at a key) (said_at b key) (said_at c key)).1 (t key))

-- what they are put together is what a join of cardinalities by key tells
pub valency_told : (a b : List (ℕ × List ℕ)) (told : Option (List (ℕ × List ℕ))) → KeysRise 0 a → KeysRise 0 b → told ≡ merged (λ key. allowed) a b → MatchOption told
    ((key : ℕ) × Clash (said_at a key) (said_at b key))
    (λ c. KeysRise 0 c × ((key : ℕ) → (said_at c key ≡ both_say (said_at a key) (said_at b key)) × (Clash (said_at a key) (said_at b key) → ⊥)))
valency_told a b told h k is = rw is (as_said a b (merged (λ key. allowed) a b) (keys_tell a b h k))

same_told : (a b : List (ℕ × List ℕ)) (told : Option (List (ℕ × List ℕ))) → MatchOption told (OnSome IsNone a b) (λ c. SaysBoth IsSame a b c)
    → (o : Option (List (ℕ × List ℕ))) → MatchOption o (OnSome IsNone a b) (λ c. SaysBoth IsSame a b c) → told ≡ o
same_told a b None h None k = refl
same_told a b None h (Some d) k = absurd (says_exclusive IsSame IsNone (λ key x y z p q. p.1 q) a b d k h)
same_told a b (Some c) h None k = absurd (says_exclusive IsSame IsNone (λ key x y z p q. p.1 q) a b c h k)
same_told a b (Some c) h (Some d) k = ap (λ t. Some t) (says_unique IsSame (λ key x y z w p q. p.0 ∙ sym q.0) a b c d h k)

-- what a join of cardinalities by key tells is what they are put together
pub valency_none : (a b : List (ℕ × List ℕ)) → KeysRise 0 a → KeysRise 0 b → ((key : ℕ) × Clash (said_at a key) (said_at b key)) → None ≡ merged (λ key. allowed) a b
valency_none a b h k (key, t) = same_told a b None (key, (said_clash (said_at a key) (said_at b key)).0 t) (merged (λ key. allowed) a b) (keys_tell a b h k)

pub valency_some : (a b c : List (ℕ × List ℕ)) → KeysRise 0 a → KeysRise 0 b → KeysRise 0 c
    → ((key : ℕ) → (said_at c key ≡ both_say (said_at a key) (said_at b key)) × (Clash (said_at a key) (said_at b key) → ⊥)) → Some c ≡ merged (λ key. allowed) a b
valency_some a b c h k l t = same_told a b (Some c) (l, λ key. (said_both (said_at a key) (said_at b key) (said_at c key)).0 (t key)) (merged (λ key. allowed) a b) (keys_tell a b h k)

-- ---- answers

pub either_told : {E : Type 0} (a b : List ℕ) (r : Result (List ℕ) E) → IfOk r (λ c. (n : ℕ) → has c n ≡ (has a n || has b n)) → IfOk r IsStrictlyIncreasing → IfOk r (λ c. c ≡ either a b)
either_told a b (Ok c) h k = union_unique a b c (either a b) (k, h) (either_is a b)
either_told a b (Err e) h k = tt

pub both_told : {E : Type 0} (a b : List ℕ) (r : Result (List ℕ) E) → IfOk r (λ c. (n : ℕ) → has c n ≡ (has a n && has b n)) → IfOk r IsStrictlyIncreasing → IfOk r (λ c. c ≡ both a b)
both_told a b (Ok c) h k = meet_unique a b c (both a b) (k, h) (both_is a b)
both_told a b (Err e) h k = tt

-- ---- texts

pub pointwise_is : (a b : List ℕ) → pointwise eqb a b ≡ same_list a b
pointwise_is [] [] = refl
pointwise_is [] (y ∷ b) = refl
pointwise_is (x ∷ a) [] = refl
pointwise_is (x ∷ a) (y ∷ b) = ap (λ t. eqb x y && t) (pointwise_is a b)

pub same_list_is : (a b : List ℕ) → (same_list a b ≡ true) ↔ (a ≡ b)
same_list_is a b = rw (← pointwise_is a b) (bytes_eq-Decides a b)
