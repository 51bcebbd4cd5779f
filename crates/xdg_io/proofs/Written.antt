-- How the pieces of a text that are written one after the other join.
use Rattle.std.proofs.Common.{◌≡◌, ◌<◌, ◌++◌, ℕ, List, Option, None, Some, [], length, take, drop, refl, sym, ap, ◌∙◌, subst, arith}
use Rattle.std.proofs.lemmas.List.{append_assoc, append-nil, take-append-drop, length-append}
use Rattle.std.specs.Io.KnownBytes.{append_known}
use Rattle.xdg_io.specs.Held.{Appends, AppendsFront, WrittenSoFar}
use Rattle.xdg_io.proofs.Counts.{rose_later}

known_both : (a : Option (List ℕ)) (x y : List ℕ) → append_known (append_known a x) y ≡ append_known a (x ++ y)
known_both None x y = refl
known_both (Some xs) x y = ap Some (append_assoc xs x y)

known_nothing : (a : Option (List ℕ)) → a ≡ append_known a []
known_nothing None = refl
known_nothing (Some xs) = ap Some (sym (append-nil xs))

-- nothing was added
pub appends_nothing : (a : Option (List ℕ)) → Appends a a []
appends_nothing a = record { is = known_nothing a }

-- a part was added, and then another
pub appends_both : {a b c : Option (List ℕ)} {x y : List ℕ} → Appends a b x → Appends b c y → Appends a c (x ++ y)
appends_both {a} {b} {c} {x} {y} first second =
    record { is = second.is ∙ ap (λ z. append_known z y) first.is ∙ known_both a x y }

-- a part was added, and then a proper front of another
pub front_of_second : {a b c : Option (List ℕ)} {x y : List ℕ} → Appends a b x → AppendsFront b c y → AppendsFront a c (x ++ y)
front_of_second {a} {b} {c} {x} {y} first second =
    record {
      front = x ++ second.front;
      rest = second.rest;
      parts = append_assoc x second.front second.rest ∙ ap (λ z. x ++ z) second.parts;
      proper = second.proper;
      appends = appends_both first second.appends;
    }

longer : (x y : List ℕ) → 0 < length x → 0 < length (x ++ y)
longer x y some = grind (arith, some, length-append x y)

-- a proper front of the first part is one of both
pub front_of_first : {a b : Option (List ℕ)} {x : List ℕ} (y : List ℕ) → AppendsFront a b x → AppendsFront a b (x ++ y)
front_of_first {a} {b} {x} y first =
    record {
      front = first.front;
      rest = first.rest ++ y;
      parts = sym (append_assoc first.front first.rest y) ∙ ap (λ z. z ++ y) first.parts;
      proper = longer first.rest y first.proper;
      appends = first.appends;
    }

-- before the first call nothing is written
pub written_start : (a : Option (List ℕ)) (piece : List ℕ) → WrittenSoFar a a piece piece
written_start a piece = record { front = []; parts = refl; appends = appends_nothing a }

-- a call takes the first bytes of the rest
pub written_more : {a b c : Option (List ℕ)} {piece rest : List ℕ} (n : ℕ) → WrittenSoFar a b piece rest → Appends b c (take n rest) → WrittenSoFar a c piece (drop n rest)
written_more {a} {b} {c} {piece} {rest} n so_far added =
    record {
      front = so_far.front ++ take n rest;
      parts = append_assoc so_far.front (take n rest) (drop n rest) ∙ ap (λ z. so_far.front ++ z) (take-append-drop n rest) ∙ so_far.parts;
      appends = appends_both so_far.appends added;
    }

-- where no rest is left, all is written
pub written_all : {a b : Option (List ℕ)} {piece rest : List ℕ} → WrittenSoFar a b piece rest → rest ≡ [] → Appends a b piece
written_all {a} {b} {piece} {rest} so_far empty =
    subst (λ z. Appends a b z) (sym (append-nil so_far.front) ∙ ap (λ z. so_far.front ++ z) (sym empty) ∙ so_far.parts) so_far.appends

-- where a rest is left, a proper front is written
pub written_front : {a b c : Option (List ℕ)} {piece rest : List ℕ} → WrittenSoFar a b piece rest → 0 < length rest → c ≡ b → AppendsFront a c piece
written_front {a} {b} {c} {piece} {rest} so_far some same =
    record {
      front = so_far.front;
      rest = rest;
      parts = so_far.parts;
      proper = some;
      appends = subst (λ z. Appends a z so_far.front) (sym same) so_far.appends;
    }

-- The same where the whole is known by another form, as one that begins with the bytes of a literal.

-- a proper front of the first part is one of the whole
pub front_in_first : {a b : Option (List ℕ)} {x whole : List ℕ} (y : List ℕ) → AppendsFront a b x → x ++ y ≡ whole → AppendsFront a b whole
front_in_first {a} {b} {x} {whole} y first parts = subst (λ z. AppendsFront a b z) parts (front_of_first y first)

-- a part was added, and then a proper front of the rest
pub front_in_second : {a b c : Option (List ℕ)} {x y whole : List ℕ} → Appends a b x → x ++ y ≡ whole → AppendsFront b c y → AppendsFront a c whole
front_in_second {a} {b} {c} {x} {y} {whole} first parts second = subst (λ z. AppendsFront a c z) parts (front_of_second first second)

-- what a loop over a sink has written
pub ruleset written_steps = (written_start, written_more, written_all, written_front, rose_later)
