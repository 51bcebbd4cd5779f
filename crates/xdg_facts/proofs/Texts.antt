-- Texts as lists of bytes.
use Rattle.std.proofs.Common.{◌≡◌, ℕ, List, sym, ◌∙◌, true, refl, false, inl, inr, Bool, ◌⊎◌, true≢false, length, ap}
use Rattle.std.specs.Str.{IsValidUpTo, bytes_eq}
use Rattle.std.proofs.lemmas.Str.{utf8_valid_len-IsValidUpTo}
use Rattle.std.proofs.lemmas.Slice.Eq.{bytes_eq-Decides}
use Rattle.std.proofs.lemmas.Bool.{false_from_ne_true}
use Rattle.std.proofs.lemmas.Bool.Decides.{same_from_decides, Decides-like}
use Rattle.std.specs.Prelude.{◌↔◌}
use Rattle.std.proofs.lemmas.List.FromFn.{length-range_with_len}
use Rattle.std.specs.List.{range_with_len}

pub one_place : (text : List ℕ) (m n : ℕ) → IsValidUpTo text m → IsValidUpTo text n → m ≡ n
one_place text m n v w = sym (utf8_valid_len-IsValidUpTo text m v) ∙ utf8_valid_len-IsValidUpTo text n w

pub equal : (a : List ℕ) → bytes_eq a a ≡ true
equal a = (bytes_eq-Decides a a).1 refl

pub same_text : (a b : List ℕ) → bytes_eq a b ≡ true → a ≡ b
same_text a b = (bytes_eq-Decides a b).0

pub either_way : (a b : List ℕ) → bytes_eq a b ≡ bytes_eq b a
either_way a b = same_from_decides (bytes_eq a b) (bytes_eq b a) (bytes_eq-Decides a b) (Decides-like (bytes_eq b a) sym sym (bytes_eq-Decides b a))

pub is_same : (a b : List ℕ) → a ≡ b → bytes_eq a b ≡ true
is_same a b = (bytes_eq-Decides a b).1

pub other_test : (a b : List ℕ) → (a ≡ b → ⊥) → bytes_eq a b ≡ false
other_test a b ne = false_from_ne_true (bytes_eq a b) (λ h. ne (same_text a b h))

pub text_or : (one other : List ℕ) → ((bytes_eq one other ≡ true) × (one ≡ other)) ⊎ ((bytes_eq one other ≡ false) × (one ≡ other → ⊥))
text_or one other = by (bytes_eq one other) refl where
  by : (b : Bool) → bytes_eq one other ≡ b → ((bytes_eq one other ≡ true) × (one ≡ other)) ⊎ ((bytes_eq one other ≡ false) × (one ≡ other → ⊥))
  by true e = inl (e, same_text one other e)
  by false e = inr (e, λ same. (let h : true ≡ false = sym (is_same one other same) ∙ e in cc))

-- a test that is exact is the test of the two lists
pub test_of_same : (b : Bool) (ns ms : List ℕ) → (b ≡ true) ↔ (ns ≡ ms) → b ≡ bytes_eq ns ms
test_of_same b ns ms exact = same_from_decides b (bytes_eq ns ms) (exact.0, exact.1) (bytes_eq-Decides ns ms)

-- a list that isn't so long isn't the list of the numbers below a count
pub other_length : (ns : List ℕ) (n : ℕ) → (length ns ≡ n → ⊥) → false ≡ bytes_eq ns (range_with_len 0 n)
other_length ns n other =
    same_from_decides {P = ns ≡ range_with_len 0 n} false (bytes_eq ns (range_with_len 0 n)) ((λ e. absurd (true≢false (sym e))), (λ e. absurd (other (ap length e ∙ length-range_with_len 0 n)))) (bytes_eq-Decides ns (range_with_len 0 n))
