-- How calls that write parts of a text leave what one call for the whole would.
use Rattle.std.proofs.Common.{◌≡◌, ◌≤◌, ◌++◌, ℕ, List, Option, Result, Ok, Err, [], length, drop, get_or, ◌+◌, ◌<◌, refl, sym, ap, true≢false, ◌∙◌, subst, arith}
use Rattle.std.specs.Prelude.{IsErr}
use Rattle.std.specs.List.{flat_map}
use Rattle.std.proofs.lemmas.List.{drop_all}
use Rattle.xdg_io.specs.Texts.{WritesText}
use Rattle.xdg_io.specs.declared.failures.Failed.{Failed}
use Rattle.xdg_io.proofs.Counts.{rose_later}
use Rattle.xdg_io.proofs.Written.{appends_nothing, appends_both, front_of_first, front_of_second}
use Rattle.xdg_facts.proofs.Turns.{flat_place}

-- no call was made
pub writes_nothing : (a : Option (List ℕ)) (n : ℕ) → WritesText (Ok tt) a a n n []
writes_nothing a n = record { all = appends_nothing a; front = tt; cause = tt; lasting = omega arith; quiet = refl }

-- a part was written, and a call wrote the others
pub writes_both : {r : Result (Unit {0}) Failed} {u : Unit {0}} {a b c : Option (List ℕ)} {n k m : ℕ} {x y : List ℕ}
    → WritesText (Ok u) a b n k x → WritesText r b c k m y → WritesText r a c n m (x ++ y)
writes_both {r = Ok v} one two =
    record { all = appends_both one.all two.all; front = tt; cause = tt; lasting = omega (arith, one.lasting, two.lasting); quiet = two.quiet ∙ one.quiet }
writes_both {r = Err e} {n} {k} {m} one two =
    record { all = tt; front = front_of_second one.all two.front; cause = rose_later n k m one.lasting two.cause; lasting = omega (arith, one.lasting, two.lasting); quiet = tt }

-- the call for the first part failed, as the exit tells
pub writes_first : {r : Result (Unit {0}) Failed} {e : Failed} {a b : Option (List ℕ)} {n m : ℕ} {x : List ℕ} (y : List ℕ)
    → IsErr r → WritesText (Err e) a b n m x → WritesText r a b n m (x ++ y)
writes_first {r = Ok v} y exit one = absurd (true≢false (sym exit))
writes_first {r = Err d} y exit one =
    record { all = tt; front = front_of_first y one.front; cause = one.cause; lasting = one.lasting; quiet = tt }

-- the same of the whole in another form
pub writes_whole : {r : Result (Unit {0}) Failed} {a b : Option (List ℕ)} {n m : ℕ} {x y : List ℕ} → x ≡ y → WritesText r a b n m x → WritesText r a b n m y
writes_whole {r} {a} {b} {n} {m} same it = subst (λ z. WritesText r a b n m z) same it

-- what writes the rest now leaves what a call for the whole text would have left
pub record Resumes (a b : Option (List ℕ)) (n k : ℕ) (text rest : List ℕ) : Type 0 where
  pub whole : (r : Result (Unit {0}) Failed) (c : Option (List ℕ)) (m : ℕ) → WritesText r b c k m rest → WritesText r a c n m text

-- before the first piece all is left
pub start : (a : Option (List ℕ)) (n : ℕ) (text : List ℕ) → Resumes a a n n text text
start a n text = record { whole = λ r c m rest. rest }

-- all is written
pub ends : {a b : Option (List ℕ)} {n k : ℕ} {text rest : List ℕ} → Resumes a b n k text rest → rest ≡ [] → WritesText (Ok tt) a b n k text
ends {a} {b} {n} {k} so_far empty = so_far.whole (Ok tt) b k (writes_whole (sym empty) (writes_nothing b k))

-- what was left begins with a piece, which was written
pub next_by : {u : Unit {0}} {a b c : Option (List ℕ)} {n k m : ℕ} {text left piece rest : List ℕ}
    → left ≡ piece ++ rest → Resumes a b n k text left → WritesText (Ok u) b c k m piece → Resumes a c n m text rest
next_by parts so_far one = record { whole = λ r d l later. so_far.whole r d l (writes_whole (sym parts) (writes_both one later)) }

-- what was left begins with a piece, at which a call failed
pub stop_by : {r : Result (Unit {0}) Failed} {e : Failed} {a b c : Option (List ℕ)} {n k m : ℕ} {text left piece : List ℕ} (rest : List ℕ)
    → left ≡ piece ++ rest → Resumes a b n k text left → IsErr r → WritesText (Err e) b c k m piece → WritesText r a c n m text
stop_by {r} {c} {m} rest parts so_far exit one = so_far.whole r c m (writes_whole (sym parts) (writes_first rest exit one))

-- the text of the item at a place was written
pub next_of : {X : Type 0} {u : Unit {0}} {a b c : Option (List ℕ)} {n k m : ℕ} {text : List ℕ} (f : X → List ℕ) (xs : List X) (i : ℕ) (x : X) → i < length xs → x ≡ get_or xs i x
    → Resumes a b n k text (flat_map f (drop i xs)) → WritesText (Ok u) b c k m (f x) → Resumes a c n m text (flat_map f (drop (i + 1) xs))
next_of f xs i x within is so_far one = next_by (flat_place f xs i x within is) so_far one

-- a call failed at the text of the item at a place
pub stop_of : {X : Type 0} {r : Result (Unit {0}) Failed} {e : Failed} {a b c : Option (List ℕ)} {n k m : ℕ} {text : List ℕ} (f : X → List ℕ) (xs : List X) (i : ℕ) (x : X) → i < length xs → x ≡ get_or xs i x
    → Resumes a b n k text (flat_map f (drop i xs)) → IsErr r → WritesText (Err e) b c k m (f x) → WritesText r a c n m text
stop_of f xs i x within is so_far exit one = stop_by (flat_map f (drop (i + 1) xs)) (flat_place f xs i x within is) so_far exit one

-- the texts of all items were written
pub ends_of : {X : Type 0} {a b : Option (List ℕ)} {n k : ℕ} {text : List ℕ} (f : X → List ℕ) (xs : List X) (i : ℕ) → length xs ≤ i → Resumes a b n k text (flat_map f (drop i xs)) → WritesText (Ok tt) a b n k text
ends_of f xs i past so_far = ends so_far (ap (flat_map f) (drop_all i xs past))

-- what a loop over items writes
pub ruleset loop_steps = (start, ends_of)
