-- How the pieces that are read one after the other join.
use Rattle.std.proofs.Common.{◌≡◌, ◌≤◌, ◌+◌, ◌-◌, ◌++◌, ℕ, List, Option, None, Some, [], length, take, drop, refl, sym, ap, ap₂, ◌∙◌, subst, arith}
use Rattle.std.proofs.lemmas.List.{append_assoc, append-nil, length-append, take-append-drop, drop-drop}
use Rattle.std.specs.Io.KnownBytes.{prepend_known}
use Rattle.xdg_io.specs.Left.{Takes, TakesAll, TakesCount, TakesUpTo, EndsAt, GivesPiece, ReadSoFar}
use Rattle.xdg_facts.proofs.Lists.{empty_list}
use Rattle.xdg_io.proofs.Counts.{rose_later}

known_both : (c : Option (List ℕ)) (x y : List ℕ) → prepend_known x (prepend_known y c) ≡ prepend_known (x ++ y) c
known_both None x y = refl
known_both (Some xs) x y = ap Some (sym (append_assoc x y xs))

known_nothing : (a : Option (List ℕ)) → a ≡ prepend_known [] a
known_nothing None = refl
known_nothing (Some xs) = refl

-- nothing was taken
pub takes_nothing : (a : Option (List ℕ)) → Takes a a []
takes_nothing a = record { is = known_nothing a }

-- some bytes were taken, and then others
pub takes_both : {a b c : Option (List ℕ)} {x y : List ℕ} → Takes a b x → Takes b c y → Takes a c (x ++ y)
takes_both {a} {b} {c} {x} {y} first second =
    record { is = first.is ∙ ap (prepend_known x) second.is ∙ known_both c x y }

-- before the first call nothing is taken
pub read_start : (a : Option (List ℕ)) (limit : ℕ) → ReadSoFar a a [] limit
read_start a limit = record { takes = takes_nothing a; within = omega arith }

-- a call takes the next piece
pub read_more : {a b c : Option (List ℕ)} {before after : List ℕ} {limit count : ℕ} → ReadSoFar a b before limit → GivesPiece b c before after count → length after ≤ limit → ReadSoFar a c after limit
read_more {a} {b} {c} {before} {after} {limit} so_far given fits =
    record { takes = subst (λ z. Takes a c z) (sym given.grows) (takes_both so_far.takes given.takes); within = fits }

-- a piece without bytes is the end
ended : (a b : Option (List ℕ)) (bytes : List ℕ) → Takes a b bytes → EndsAt b 0 → TakesAll a b bytes
ended a None bytes takes end = subst (λ z. TakesAll z None bytes) (sym takes.is) refl
ended a (Some left) bytes takes end =
    let empty : left ≡ [] = end.0 refl in
    let all : a ≡ Some bytes = takes.is ∙ ap (λ z. Some (bytes ++ z)) empty ∙ ap Some (append-nil bytes) in
    subst (λ z. TakesAll z (Some left) bytes) (sym all) (refl, ap Some empty)

pub read_all_of : {a b c : Option (List ℕ)} {before after : List ℕ} {limit count : ℕ} → ReadSoFar a b before limit → GivesPiece b c before after count → count ≡ 0 → TakesAll a c after
read_all_of {a} {b} {c} {before} {after} {limit} {count} so_far given none =
    let empty : given.piece ≡ [] = empty_list given.piece (given.size ∙ none) in
    let still : b ≡ c = given.takes.is ∙ ap (λ z. prepend_known z c) empty ∙ sym (known_nothing c) in
    let end : EndsAt c 0 = subst (λ z. EndsAt z 0) still (subst (λ n. EndsAt b n) none given.end) in
    let grown : after ≡ before = given.grows ∙ ap (λ z. before ++ z) empty ∙ append-nil before in
    let takes : Takes a c before = subst (λ z. Takes a z before) still so_far.takes in
    subst (λ z. TakesAll a c z) (sym grown) (ended a c before takes end)

-- one byte more than the limit was taken
pub read_too_many : {a b c : Option (List ℕ)} {before : List ℕ} (limit : ℕ) → ReadSoFar a b before limit → TakesCount b c (limit + 1 - length before) → TakesCount a c (limit + 1)
read_too_many {a} {b} {c} {before} limit so_far more =
    record {
      taken = before ++ more.taken;
      count_is = length-append before more.taken ∙ ap (λ n. length before + n) more.count_is ∙ omega (arith, so_far.within);
      takes = takes_both so_far.takes more.takes;
    }

-- at most the limit was taken
pub read_up_to : {a b c : Option (List ℕ)} {before : List ℕ} (limit : ℕ) → ReadSoFar a b before limit → TakesUpTo b c (limit - length before) → TakesUpTo a c limit
read_up_to {a} {b} {c} {before} limit so_far more =
    record {
      taken = before ++ more.taken;
      within = grind (arith, length-append before more.taken, more.within, so_far.within);
      takes = takes_both so_far.takes more.takes;
    }

-- a call that took nothing leaves what was taken before
pub read_same : {a b c : Option (List ℕ)} {before : List ℕ} (limit : ℕ) → ReadSoFar a b before limit → c ≡ b → TakesUpTo a c limit
read_same {a} {b} {c} {before} limit so_far same =
    record { taken = before; within = so_far.within; takes = subst (λ z. Takes a z before) (sym same) so_far.takes }

-- the first bytes of what was left were given, and what comes after them is left
pub takes_front : (at count : ℕ) (bytes left given : List ℕ) → left ≡ drop at bytes → given ≡ take count left → Takes (Some left) (Some (drop (at + count) bytes)) given
takes_front at count bytes left given left_is given_is =
    let after : drop (at + count) bytes ≡ drop count left = sym (drop-drop count at bytes) ∙ ap (λ z. drop count z) (sym left_is) in
    record { is = ap Some (sym (take-append-drop count left) ∙ ap₂ (λ x y. x ++ y) (sym given_is) (sym after)) }

-- what a loop over a source has read
pub ruleset read_steps = (read_start, read_more, read_all_of, read_too_many, read_up_to, read_same, rose_later)
