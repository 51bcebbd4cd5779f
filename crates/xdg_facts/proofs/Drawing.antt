-- The answers of a run grow by what each step of a search finds, and say how the run ended.
use Rattle.std.proofs.Common.{◌≡◌, ℕ, ◌≤◌, ◌+◌, ◌-◌, inl, List, [], ◌∷◌, ◌++◌, length, take, refl, ap, sym, ◌∙◌, arith, subst, length-append, append-nil}
use Rattle.std.specs.Prelude.{filter, Option}
use Rattle.std.proofs.lemmas.List.Elements.{filter-append}
use Rattle.std.proofs.Math.Seq.{take-append_seam, take-append-add, take-length}
use Rattle.xdg_facts.specs.Order.{AtMost}
use Rattle.xdg_facts.specs.Listing.{IsListing}
use Rattle.xdg_facts.specs.Whole.{Whole, is_whole, reach}
use Rattle.xdg_facts.specs.Passed.{Charges, Finds}
use Rattle.xdg_facts.specs.Answered.{Drawn, Answered}
use Rattle.xdg_facts.specs.Endings.{IsEnding}
use Rattle.xdg_facts.specs.declared.Ending.{Ending}
use Rattle.xdg_facts.specs.declared.Ending.TheVariants as endings
use Rattle.xdg_facts.proofs.Ordered.{at_most_transitive}
use Rattle.xdg_facts.proofs.Unique.{listing_unique}
use Rattle.xdg_facts.proofs.Wholes.{whole_unique, filter_whole}
use Rattle.xdg_facts.proofs.Joined.{so_far_none, so_far_split, so_far_end, listings_join}
use Rattle.xdg_facts.proofs.In.{in_length}

pub drawn_none : (shape : List ℕ) (P : List ℕ → Type 0) (start : List ℕ) (n : ℕ) → n ≡ 0 → Drawn shape P start start n []
drawn_none shape P start n z = record { passed = []; forward = inl refl; listing = so_far_none shape P start; count = sym z; drawn = refl }

pub drawn_found : (shape : List ℕ) (P : List ℕ → Type 0) (start from to : List ℕ) (n k m : ℕ) (answers : List (List ℕ)) → Drawn shape P start from n answers → AtMost from to → Finds shape P from to k → n + k ≡ m → Drawn shape P start to m (answers ++ to ∷ [])
drawn_found shape P start from to n k m answers d l f e =
    let c : length d.passed ≡ n = d.count in
    let h : length f.passed + 1 ≡ k = f.count in
    record {
      passed = d.passed ++ (f.passed ++ to ∷ []);
      forward = at_most_transitive start from to d.forward l;
      listing = listings_join shape P start from to d.passed (f.passed ++ to ∷ []) d.forward l d.listing f.listing;
      count = (let a = length-append d.passed (f.passed ++ to ∷ []) in let b = length-append f.passed (to ∷ []) in omega (arith, a, b));
      drawn = sym (filter-append (is_whole shape) d.passed (f.passed ++ to ∷ []) ∙ ap (λ z. z ++ filter (is_whole shape) (f.passed ++ to ∷ [])) (sym d.drawn) ∙ ap (λ z. answers ++ z) (filter-append (is_whole shape) f.passed (to ∷ []) ∙ ap (λ z. z ++ filter (is_whole shape) (to ∷ [])) f.none ∙ filter_whole shape to f.whole));
    }

pub drawn_charged : (shape : List ℕ) (P : List ℕ → Type 0) (start from to : List ℕ) (n k m : ℕ) (answers : List (List ℕ)) → Drawn shape P start from n answers → AtMost from to → Charges shape P from to k → n + k ≡ m → Drawn shape P start to m answers
drawn_charged shape P start from to n k m answers d l f e =
    let c : length d.passed ≡ n = d.count in
    let h : length f.passed ≡ k = f.count in
    record {
      passed = d.passed ++ f.passed;
      forward = at_most_transitive start from to d.forward l;
      listing = listings_join shape P start from to d.passed f.passed d.forward l d.listing f.listing;
      count = (let a = length-append d.passed f.passed in omega (arith, a));
      drawn = sym (filter-append (is_whole shape) d.passed f.passed ∙ ap (λ z. filter (is_whole shape) d.passed ++ z) f.none ∙ append-nil (filter (is_whole shape) d.passed) ∙ sym d.drawn);
    }

front_of : (shape : List ℕ) (counted passed rest answers : List (List ℕ)) → counted ≡ passed ++ rest → answers ≡ filter (is_whole shape) passed → answers ≡ take (length answers) (filter (is_whole shape) counted)
front_of shape counted passed rest answers e d = sym (ap (λ z. take (length answers) z) (ap (filter (is_whole shape)) e ∙ filter-append (is_whole shape) passed rest ∙ ap (λ z. z ++ filter (is_whole shape) rest) (sym d)) ∙ take-append_seam answers (filter (is_whole shape) rest))

within_reach : (shape : List ℕ) (counted passed rest answers : List (List ℕ)) (b : ℕ) → counted ≡ passed ++ rest → answers ≡ filter (is_whole shape) passed → length passed ≤ b → length answers ≤ reach shape b counted
within_reach shape counted passed rest answers b e d h =
    let q : length passed + (b - length passed) ≡ b = omega arith in
    let t : take b counted ≡ passed ++ take (b - length passed) rest = ap (take b) e ∙ subst (λ i. take i (passed ++ rest) ≡ passed ++ take (b - length passed) rest) q (take-append-add passed rest (b - length passed)) in
    let k = ap length (ap (filter (is_whole shape)) t ∙ filter-append (is_whole shape) passed (take (b - length passed) rest) ∙ ap (λ z. z ++ filter (is_whole shape) (take (b - length passed) rest)) (sym d)) in
    let a = length-append answers (filter (is_whole shape) (take (b - length passed) rest)) in
    omega (arith, k, a)

at_reach : (shape : List ℕ) (counted passed rest answers : List (List ℕ)) (b : ℕ) → counted ≡ passed ++ rest → answers ≡ filter (is_whole shape) passed → length passed ≡ b → length answers ≡ reach shape b counted
at_reach shape counted passed rest answers b e d h =
    ap length d ∙ sym (ap (λ z. length (filter (is_whole shape) z)) (ap (take b) e ∙ subst (λ i. take i (passed ++ rest) ≡ passed) h (take-append_seam passed rest)))

-- against any listing of the counted prefixes and any of the solutions
pub ending_of : (ending : Ending) (shape : List ℕ) (P : List ℕ → Type 0) (start : List ℕ) (b : ℕ) (wanted : Option ℕ) (answers : List (List ℕ)) → Answered ending shape P start b wanted answers → (counted solutions : List (List ℕ)) → IsListing shape P start counted → IsListing shape (Whole shape P) start solutions → (answers ≡ take (length answers) solutions) × IsEnding ending shape b wanted counted solutions (length answers)
ending_of endings.Complete shape P start b wanted answers a counted solutions i j =
    let d = a.2 in
    let same : d.passed ≡ counted = listing_unique shape P start d.passed counted (so_far_end shape P start a.0 d.passed d.listing a.3) i in
    let c : length d.passed ≡ a.1 = d.count in
    let n : a.1 ≤ b = a.4 in
    let all : answers ≡ solutions = d.drawn ∙ ap (filter (is_whole shape)) same ∙ whole_unique shape P start counted solutions i j in
    (all ∙ sym (ap (λ k. take k solutions) (ap length all) ∙ take-length solutions), (ap length all, (let q = ap length same in omega (arith, q)), a.5))
ending_of endings.First shape P start b wanted answers a counted solutions i j =
    let d = a.2 in
    let s = so_far_split shape P start a.0 d.passed counted d.forward d.listing i in
    let u = whole_unique shape P start counted solutions i j in
    let c : length d.passed ≡ a.1 = d.count in
    let n : a.1 ≤ b = a.3 in
    (subst (λ z. answers ≡ take (length answers) z) u (front_of shape counted d.passed s.0 answers s.1 d.drawn), (a.4, within_reach shape counted d.passed s.0 answers b s.1 d.drawn (omega arith)))
ending_of endings.Spent shape P start b wanted answers a counted solutions i j =
    let d = a.1 in
    let s = so_far_split shape P start a.0 d.passed counted d.forward d.listing i in
    let u = whole_unique shape P start counted solutions i j in
    let c : length d.passed ≡ b = d.count in
    let m = in_length s.0 a.2.0 (s.2.all a.2.0 a.2.1 a.2.2 a.2.3) in
    let l = ap length s.1 in
    let k = length-append d.passed s.0 in
    (subst (λ z. answers ≡ take (length answers) z) u (front_of shape counted d.passed s.0 answers s.1 d.drawn), (at_reach shape counted d.passed s.0 answers b s.1 d.drawn c, omega (arith, l, k, c, m), a.3))
