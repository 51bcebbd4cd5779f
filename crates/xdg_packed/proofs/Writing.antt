-- What is written of a spelling, piece by piece.
use Rattle.std.proofs.Common.{◌≡◌, ℕ, ◌+◌, ◌/◌, ◌%◌, ◌<◌, ◌≤◌, true, List, [], ◌∷◌, ◌++◌, refl, sym, ap, ◌∙◌, arith}
use Rattle.std.proofs.lemmas.List.{append_assoc}
use Rattle.std.specs.Prelude.{codes}
use Rattle.xdg_domain.specs.Cards.{IsCards}
use Rattle.xdg_packed.specs.Spelling.{digits, number, numbers, each}
use Rattle.xdg_packed.proofs.Digits.{digits_next}
use Rattle.xdg_facts.specs.Rises.{has, numbers_below}
use Rattle.xdg_facts.proofs.Members.{members_from, next_member, none_behind, before_least}

-- ---- numbers

pub number_next : (n : ℕ) → 0 < n → number n ≡ (48 + n % 64) ∷ number (n / 64)
unfolding number
number_next n some = ap (λ ds. ds ++ codes ".") (digits_next n some)

-- one digit
pub digit_written : (now after whole : List ℕ) (n : ℕ) → 0 < n → after ≡ now ++ (48 + n % 64) ∷ [] → now ++ number n ≡ whole → after ++ number (n / 64) ≡ whole
digit_written now after whole n some e h =
    ap (λ l. l ++ number (n / 64)) e
    ∙ append_assoc now ((48 + n % 64) ∷ []) (number (n / 64))
    ∙ ap (λ l. now ++ l) (sym (number_next n some))
    ∙ h

number_zero : number 0 ≡ codes "."
unfolding number digits
number_zero = refl

-- the full stop
pub stop_written : (now after whole : List ℕ) (n : ℕ) → n ≤ 0 → after ≡ now ++ codes "." → now ++ number n ≡ whole → after ≡ whole
stop_written now after whole n none e h =
    let z : n ≡ 0 = omega (arith, none) in
    e ∙ ap (λ l. now ++ l) (sym (ap number z ∙ number_zero)) ∙ h

-- ---- lists

-- an element: a comma, and its spelling
element_written : {A : Type 0} (code : A → List ℕ) (now marked after whole : List ℕ) (x : A) (rest : List A) → marked ≡ now ++ codes "," → after ≡ marked ++ code x → now ++ each code (x ∷ rest) ≡ whole → after ++ each code rest ≡ whole
element_written code now marked after whole x rest m e h =
    ap (λ l. l ++ each code rest) (e ∙ ap (λ l. l ++ code x) m ∙ append_assoc now (codes ",") (code x))
    ∙ append_assoc now (codes "," ++ code x) (each code rest)
    ∙ h

-- the semicolon
pub end_written : {A : Type 0} (code : A → List ℕ) (now after whole : List ℕ) (rest : List A) → rest ≡ [] → after ≡ now ++ codes ";" → now ++ each code rest ≡ whole → after ≡ whole
end_written code now after whole rest none e h = e ∙ ap (λ l. now ++ each code l) (sym none) ∙ h

-- ---- cardinalities

pub card_written : (bound : ℕ) (s now marked after whole : List ℕ) (n : ℕ) → n < bound → has s n ≡ true → marked ≡ now ++ codes "," → after ≡ marked ++ number n
    → now ++ numbers (members_from bound s n) ≡ whole → after ++ numbers (members_from bound s (n + 1)) ≡ whole
card_written bound s now marked after whole n within is m e h =
    element_written number now marked after whole n (members_from bound s (n + 1)) m e (next_member (λ l. now ++ numbers l ≡ whole) bound s n true within is h)

pub cards_begin : (s out : List ℕ) (n : ℕ) → n < 128 → ((k : ℕ) → has s k ≡ true → n ≤ k) → out ++ numbers (members_from 128 s n) ≡ out ++ numbers (members_from 128 s 0)
cards_begin s out n within least = ap (λ l. out ++ numbers l) (before_least 128 s n (omega (arith, within)) least)

pub all_from : (s : List ℕ) → IsCards s → s ≡ members_from 128 s 0
unfolding members_from numbers_below
all_from s is = is.whole

pub cards_end : (s before now after : List ℕ) (last n : ℕ) → last < n → ((k : ℕ) → has s k ≡ true → k ≤ last) → IsCards s → after ≡ now ++ codes ";" → now ++ numbers (members_from 128 s n) ≡ before ++ numbers (members_from 128 s 0) → after ≡ before ++ numbers s
cards_end s before now after last n over greatest is e h =
    end_written number now after (before ++ numbers (members_from 128 s 0)) (members_from 128 s n) (none_behind 128 last n s over greatest) e h
    ∙ ap (λ l. before ++ numbers l) (sym (all_from s is))
