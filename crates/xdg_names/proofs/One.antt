-- The first fault is one.
use Rattle.std.proofs.Common.{◌≡◌, ℕ, ◌<◌, ◌≤◌, ◌==◌, ◌⊎◌, inl, inr, List, [], ◌∷◌, Some, None, refl, sym, ap, ◌∙◌, arith}
use Rattle.std.specs.Prelude.{if◌then◌else◌}
use Rattle.xdg_base.specs.declared.faults.Cause.{Cause}
use Rattle.xdg_base.specs.declared.faults.Cause.TheVariants as causes
use Rattle.xdg_base.specs.declared.faults.Fault.{Fault}
use Rattle.xdg_base.specs.Faults.{number_of}
use Rattle.xdg_names.specs.First.{IsOneFirst, Tells}

-- the causes by their numbers, the last one behind them
abbrev Rows : Type 0
Rows = List (ℕ × Cause)

found : ℕ → Rows → Cause
found n [] = causes.NoEntry
found n (row ∷ rows) = if row.0 == n then row.1 else found n rows

rows : Rows
rows =
    (20, causes.BadUtf8) ∷ (21, causes.BadChar) ∷ (22, causes.OpenText) ∷ (23, causes.Unexpected)
    ∷ (30, causes.UnknownName) ∷ (31, causes.Twice) ∷ (32, causes.Cycle) ∷ (33, causes.WrongKind) ∷ (34, causes.NotMember)
    ∷ (35, causes.MissingArg) ∷ (36, causes.UnknownPrinciple) ∷ (37, causes.WrongParams) ∷ (38, causes.CardRange) ∷ (39, causes.NoLex)
    ∷ (40, causes.TooLong) ∷ (41, causes.TooDeep) ∷ (42, causes.TooManyUses) ∷ (43, causes.TooManyEntries) ∷ (44, causes.TooWide)
    ∷ (45, causes.DomainTooBig) ∷ (50, causes.EmptySentence) ∷ (51, causes.TooManyWords) ∷ (52, causes.UnknownWord)
    ∷ (60, causes.NotAnalysis) ∷ (70, causes.TooManyRules) ∷ (71, causes.TooNested) ∷ (72, causes.ArrangeLimit) ∷ []

-- the cause of a number
cause_by : ℕ → Cause
cause_by n = found n rows

decoded : (c : Cause) → cause_by (number_of c) ≡ c
unfolding cause_by found rows
decoded causes.BadUtf8 = refl
decoded c = refl

-- causes of one number are one
pub one_cause : (c d : Cause) → number_of c ≡ number_of d → c ≡ d
one_cause c d same = sym (decoded c) ∙ ap cause_by same ∙ decoded d

pub same_fault : (a b : Fault) → a.at ≡ b.at → a.cause ≡ b.cause → a.reached ≡ b.reached → a ≡ b
same_fault a b at cause reached =
    ap (λ z. record { cause = z; at = a.at; reached = a.reached }) cause
    ∙ ap (λ z. record { cause = b.cause; at = z; reached = a.reached }) at
    ∙ ap (λ z. record { cause = b.cause; at = b.at; reached = z }) reached

-- two faults of which neither comes before the other have one place, one number, and reached one number
same_keys : (a b c d e f : ℕ) → (a < b) ⊎ ((a ≡ b) × ((c < d) ⊎ ((c ≡ d) × (e ≤ f)))) → (b < a) ⊎ ((b ≡ a) × ((d < c) ⊎ ((d ≡ c) × (f ≤ e))))
    → (a ≡ b) × ((c ≡ d) × (e ≡ f))
same_keys a b c d e f (inl l) (inl k) = absurd (omega (arith, l, k))
same_keys a b c d e f (inl l) (inr k) = absurd (omega (arith, l, k.0))
same_keys a b c d e f (inr l) (inl k) = absurd (omega (arith, l.0, k))
same_keys a b c d e f (inr (at, inl l)) (inr (_, inl k)) = absurd (omega (arith, l, k))
same_keys a b c d e f (inr (at, inl l)) (inr (_, inr k)) = absurd (omega (arith, l, k.0))
same_keys a b c d e f (inr (at, inr l)) (inr (_, inl k)) = absurd (omega (arith, l.0, k))
same_keys a b c d e f (inr (at, inr l)) (inr (_, inr k)) = (at, (l.0, omega (arith, l.1, k.1)))

pub one_of_two : IsOneFirst
one_of_two a b l k =
    let keys = same_keys a.at b.at (number_of a.cause) (number_of b.cause) a.reached b.reached l k in
    same_fault a b keys.0 (one_cause a.cause b.cause keys.1.0) keys.1.1

-- a set of offences has one first fault
pub one_first : (P : Fault → Type 0) (a b : Fault) → Tells P (Some a) → Tells P (Some b) → a ≡ b
one_first P a b l k = one_of_two a b (l.1 b k.0) (k.1 a l.0)

-- it has a first fault, or has none
pub first_or_none : (P : Fault → Type 0) (a : Fault) → Tells P (Some a) → Tells P None → ⊥
first_or_none P a l none = none a l.0
