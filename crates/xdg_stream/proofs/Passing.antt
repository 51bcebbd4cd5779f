-- What each step of a search does to what it has passed since some prefix.
use Rattle.std.proofs.Common.{◌≡◌, ◌≢◌, ℕ, ◌+◌, inl, inr, List, [], ◌∷◌, ◌++◌, length, ap, ◌∙◌, subst, length-append, filter}
use Rattle.xdg_facts.specs.Order.{Less, AtMost}
use Rattle.xdg_facts.specs.Fits.{Fits}
use Rattle.xdg_facts.specs.Listing.{IsListing, SoFar, Before}
use Rattle.xdg_facts.specs.Whole.{is_whole}
use Rattle.xdg_facts.specs.Closed.{Closed, NoneAfter, SomeAfter}
use Rattle.xdg_facts.specs.Passed.{Charges, Finds}
use Rattle.xdg_facts.proofs.Ordered.{less_transitive, less_push, less_step, zero_next, not_less, less_or}
use Rattle.xdg_facts.proofs.Wholes.{filter_more}
use Rattle.xdg_facts.proofs.Reached.{before_later, before_taken, refused_none, last_from, so_far_last, last_before, last_append, last_at_most, none_after_last}
use Rattle.xdg_stream.specs.Place.{Next}
use Rattle.xdg_stream.specs.Halts.{HaltsAt}
use Rattle.xdg_facts.proofs.Lists.{some_behind}

-- n counted prefixes come after `from` and before c, and none of them is whole; the last of them is kept
pub record Passes (shape : List ℕ) (P : List ℕ → Type 0) (from c : List ℕ) (n : ℕ) (kept now : List ℕ) : Type 0 where
  pub above : Less from c
  pub passed : List (List ℕ)
  pub count : length passed ≡ n
  pub none : filter (is_whole shape) passed ≡ []
  pub listing : IsListing shape (Before P c) from passed
  pub told : from ≡ kept → last_from from passed ≡ now

pub later : (shape : List ℕ) (P : List ℕ → Type 0) (from c d : List ℕ) (n : ℕ) (kept now : List ℕ) → Less c d → ((x : List ℕ) → Fits shape x → P x → AtMost c x → AtMost d x) → Passes shape P from c n kept now → Passes shape P from d n kept now
later shape P from c d n kept now l none p = record {
  above = less_transitive from c d p.above l;
  passed = p.passed;
  count = p.count;
  none = p.none;
  listing = before_later shape P from c d p.passed l none p.listing;
  told = p.told;
}

-- the candidate is not counted, and so nothing that begins with it
pub passes_refused : (shape : List ℕ) (P : List ℕ → Type 0) (from q : List ℕ) (v n : ℕ) (kept now : List ℕ) → Closed P → (P (q ++ v ∷ []) → ⊥) → Passes shape P from (q ++ v ∷ []) n kept now → Passes shape P from (q ++ (v + 1) ∷ []) n kept now
passes_refused shape P from q v n kept now closed denied p = later shape P from (q ++ v ∷ []) (q ++ (v + 1) ∷ []) n kept now (less_step q v) (λ x f px k. refused_none P q x v closed denied (some_behind q v) px k) p

-- the candidate is counted and not whole
pub passes_taken : (shape : List ℕ) (P : List ℕ → Type 0) (from c : List ℕ) (n : ℕ) (kept now : List ℕ) → Fits shape c → P c → length c ≢ length shape → Passes shape P from c n kept now → Passes shape P from (c ++ 0 ∷ []) (n + 1) kept c
passes_taken shape P from c n kept now f pc w p = record {
  above = less_transitive from c (c ++ 0 ∷ []) p.above (less_push c 0);
  passed = p.passed ++ c ∷ [];
  count = length-append p.passed (c ∷ []) ∙ ap (λ i. i + 1) p.count;
  none = filter_more shape c p.passed p.none w;
  listing = before_taken shape P from c p.passed p.above f pc p.listing;
  told = λ same. last_append from c p.passed;
}

pub next_first : (shape : List ℕ) (P : List ℕ → Type 0) (p : List ℕ) → Next shape P p (p ++ 0 ∷ [])
next_first shape P p = record { above = less_push p 0; none = λ x f px l k. not_less (p ++ 0 ∷ []) x (zero_next p x l) k }

-- the candidate is counted and whole
pub finds_taken : (shape : List ℕ) (P : List ℕ → Type 0) (from c : List ℕ) (n : ℕ) (kept now : List ℕ) → Fits shape c → P c → length c ≡ length shape → Passes shape P from c n kept now → Finds shape P from c (n + 1)
finds_taken shape P from c n kept now f pc w p = record {
  passed = p.passed;
  count = ap (λ i. i + 1) p.count;
  none = p.none;
  whole = w;
  listing = subst (λ z. IsListing shape (SoFar P z) from (p.passed ++ c ∷ [])) (last_append from c p.passed) (so_far_last shape P from (c ++ 0 ∷ []) (p.passed ++ c ∷ []) (less_transitive from c (c ++ 0 ∷ []) p.above (less_push c 0)) (before_taken shape P from c p.passed p.above f pc p.listing));
}

-- what has been passed, said up to the last of it
pub charges_last : (shape : List ℕ) (P : List ℕ → Type 0) (from c : List ℕ) (n : ℕ) (kept now : List ℕ) (p : Passes shape P from c n kept now) → Charges shape P from (last_from from p.passed) n
charges_last shape P from c n kept now p = record { passed = p.passed; count = p.count; none = p.none; listing = so_far_last shape P from c p.passed p.above p.listing }

-- a counted candidate is left
pub spent_at : (shape : List ℕ) (P : List ℕ → Type 0) (from c : List ℕ) (n : ℕ) (kept now : List ℕ) → Fits shape c → P c → Passes shape P from c n kept now → HaltsAt shape P from n (SomeAfter shape P) kept now
spent_at shape P from c n kept now f pc p = (
  record {
    to = last_from from p.passed;
    forward = last_at_most from p.passed p.listing.rises;
    charges = charges_last shape P from c n kept now p;
    rest = (c, f, pc, last_before shape P from c p.passed p.above p.listing);
  },
  p.told,
)

-- no candidate is left
pub ended_at : (shape : List ℕ) (P : List ℕ → Type 0) (from c : List ℕ) (n : ℕ) (kept now : List ℕ) → ((x : List ℕ) → Fits shape x → P x → AtMost c x → ⊥) → Passes shape P from c n kept now → HaltsAt shape P from n (NoneAfter shape P) kept now
ended_at shape P from c n kept now none p = (
  record {
    to = last_from from p.passed;
    forward = last_at_most from p.passed p.listing.rises;
    charges = charges_last shape P from c n kept now p;
    rest = λ x f px l. elim (less_or x c) [
      | inl k ↦ none_after_last shape P from c p.passed p.listing x f px l k
      | inr k ↦ none x f px k
    ];
  },
  p.told,
)
