-- How the answers of a run grow by one call after another.
use Rattle.std.proofs.Common.{◌≡◌, ℕ, ◌≤◌, ◌-◌, inr, List, [], ◌∷◌, ◌++◌, length, refl, sym, arith, subst, None}
use Rattle.std.specs.Prelude.{Option}
use Rattle.xdg_facts.specs.Order.{Less}
use Rattle.xdg_facts.specs.Fits.{Fits}
use Rattle.xdg_facts.specs.Listing.{IsListing, SoFar}
use Rattle.xdg_facts.specs.Closed.{NoneAfter, SomeAfter}
use Rattle.xdg_facts.specs.Passed.{Charges, Finds}
use Rattle.xdg_facts.specs.Answered.{Drawn, Answered}
use Rattle.xdg_facts.specs.Endings.{IsBelow}
use Rattle.xdg_facts.specs.declared.Ending.TheVariants as endings
use Rattle.xdg_facts.proofs.Drawing.{drawn_found, drawn_charged}
use Rattle.xdg_stream.specs.Problem.{SameProblem}
use Rattle.xdg_stream.specs.Place.{place, Next}
use Rattle.xdg_stream.specs.Halts.{Halts}
use Rattle.xdg_stream.specs.Progress.{Progress}
use Rattle.xdg_stream.specs.declared.search.Step.{Step}
use Rattle.xdg_stream.proofs.Same.{same_then}
use Rattle.xdg_facts.proofs.Each.{each_weaker}

listing_same : (shape : List ℕ) (P Q : List ℕ → Type 0) (from to : List ℕ) (xs : List (List ℕ)) → SameProblem shape P shape Q → IsListing shape (SoFar Q to) from xs → IsListing shape (SoFar P to) from xs
listing_same shape P Q from to xs s i = record {
  rises = i.rises;
  each = each_weaker (λ x. Fits shape x × SoFar Q to x) (λ x. Fits shape x × SoFar P to x) xs (λ x h. (h.0, ((s.counts x).0 h.1.0, h.1.1))) i.each;
  all = λ x f b l. i.all x f ((s.counts x).1 b.0, b.1) l;
}

flat : (shape : List ℕ) (P : List ℕ → Type 0) (later : List ℕ) (Q : List ℕ → Type 0) → SameProblem shape P later Q → SameProblem shape P shape Q
flat shape P later Q s = record { sizes = refl; counts = s.counts }

pub next_same : (shape : List ℕ) (P : List ℕ → Type 0) (later : List ℕ) (Q : List ℕ → Type 0) (p c : List ℕ) → SameProblem shape P later Q → Next later Q p c → Next shape P p c
next_same shape P later Q p c s e = record { above = e.above; none = λ x f px l k. e.none x (subst (λ z. Fits z x) (sym s.sizes) f) ((s.counts x).1 px) l k }

pub next_same_now : (shape : List ℕ) (P : List ℕ → Type 0) (later : List ℕ) (Q : List ℕ → Type 0) (p c : List ℕ) → SameProblem shape P later Q → Next shape P p c → Next later Q p c
next_same_now shape P later Q p c s e = record { above = e.above; none = λ x f px l k. e.none x (subst (λ z. Fits z x) s.sizes f) ((s.counts x).0 px) l k }

pub finds_same : (shape : List ℕ) (P : List ℕ → Type 0) (later : List ℕ) (Q : List ℕ → Type 0) (from to : List ℕ) (n : ℕ) → SameProblem shape P later Q → Finds later Q from to n → Finds shape P from to n
finds_same shape P later Q from to n s f =
    let g : Finds shape Q from to n = subst (λ z. Finds z Q from to n) s.sizes f in
    record { passed = g.passed; count = g.count; none = g.none; whole = g.whole; listing = listing_same shape P Q from to (g.passed ++ to ∷ []) (flat shape P later Q s) g.listing }

pub charges_same : (shape : List ℕ) (P : List ℕ → Type 0) (later : List ℕ) (Q : List ℕ → Type 0) (from to : List ℕ) (n : ℕ) → SameProblem shape P later Q → Charges later Q from to n → Charges shape P from to n
charges_same shape P later Q from to n s f =
    let g : Charges shape Q from to n = subst (λ z. Charges z Q from to n) s.sizes f in
    record { passed = g.passed; count = g.count; none = g.none; listing = listing_same shape P Q from to g.passed (flat shape P later Q s) g.listing }

-- a call that found a whole vector: later and Q are the problem as that call began, last and R as it ended
pub progress_found : (shape : List ℕ) (P : List ℕ → Type 0) (start : List ℕ) (later : List ℕ) (Q : List ℕ → Type 0) (last : List ℕ) (R : List ℕ → Type 0) (numbers : List ℕ) (value : ℕ) (done : Option Step) (charged : ℕ) (grown : List ℕ) (after : ℕ) (halted : Option Step) (more : ℕ) (answers : List (List ℕ)) → Progress shape P start later Q numbers value done charged answers → done ≡ None → charged ≤ more → SameProblem later Q last R → Next later Q grown (place grown after) → ((from : List ℕ) → Next later Q from (place numbers value) → Less from grown × Finds later Q from grown (more - charged)) → Progress shape P start last R grown after halted more (answers ++ grown ∷ [])
progress_found shape P start later Q last R numbers value done charged grown after halted more answers p d c s e finds =
    let f = finds p.front (next_same_now shape P later Q p.front (place numbers value) p.same (p.next d)) in
    record {
      same = same_then shape P later Q last R p.same s;
      front = grown;
      drawn = drawn_found shape P start p.front grown charged (more - charged) more answers p.drawn (inr f.0) (finds_same shape P later Q p.front grown (more - charged) p.same f.1) (omega arith);
      next = λ h. next_same shape P later Q grown (place grown after) p.same e;
    }

halted_drawn : (shape : List ℕ) (P : List ℕ → Type 0) (start : List ℕ) (later : List ℕ) (Q : List ℕ → Type 0) (numbers : List ℕ) (value : ℕ) (done : Option Step) (charged more : ℕ) (answers : List (List ℕ)) (Leaves : List ℕ → Type 0) (p : Progress shape P start later Q numbers value done charged answers) → charged ≤ more → (h : Halts later Q p.front (more - charged) Leaves) → Drawn shape P start h.to more answers
halted_drawn shape P start later Q numbers value done charged more answers Leaves p c h =
    drawn_charged shape P start p.front h.to charged (more - charged) more answers p.drawn h.forward (charges_same shape P later Q p.front h.to (more - charged) p.same h.charges) (omega arith)

pub progress_end : (shape : List ℕ) (P : List ℕ → Type 0) (start : List ℕ) (later : List ℕ) (Q : List ℕ → Type 0) (numbers : List ℕ) (value : ℕ) (done : Option Step) (charged more b : ℕ) (wanted : Option ℕ) (answers : List (List ℕ)) → Progress shape P start later Q numbers value done charged answers → done ≡ None → charged ≤ more → more ≤ b → IsBelow (length answers) wanted → ((from : List ℕ) → Next later Q from (place numbers value) → Halts later Q from (more - charged) (NoneAfter later Q)) → Answered endings.Complete shape P start b wanted answers
progress_end shape P start later Q numbers value done charged more b wanted answers p d c l w halts =
    let h = halts p.front (next_same_now shape P later Q p.front (place numbers value) p.same (p.next d)) in
    (h.to, more, halted_drawn shape P start later Q numbers value done charged more answers (NoneAfter later Q) p c h, (λ x f px k. h.rest x (subst (λ z. Fits z x) (sym p.same.sizes) f) ((p.same.counts x).1 px) k), l, w)

pub progress_spent : (shape : List ℕ) (P : List ℕ → Type 0) (start : List ℕ) (later : List ℕ) (Q : List ℕ → Type 0) (numbers : List ℕ) (value : ℕ) (done : Option Step) (charged more b : ℕ) (wanted : Option ℕ) (answers : List (List ℕ)) → Progress shape P start later Q numbers value done charged answers → done ≡ None → charged ≤ more → more ≡ b → IsBelow (length answers) wanted → ((from : List ℕ) → Next later Q from (place numbers value) → Halts later Q from (more - charged) (SomeAfter later Q)) → Answered endings.Spent shape P start b wanted answers
progress_spent shape P start later Q numbers value done charged more b wanted answers p d c e w halts =
    let h = halts p.front (next_same_now shape P later Q p.front (place numbers value) p.same (p.next d)) in
    (h.to, subst (λ k. Drawn shape P start h.to k answers) e (halted_drawn shape P start later Q numbers value done charged more answers (SomeAfter later Q) p c h), (h.rest.0, subst (λ z. Fits z h.rest.0) p.same.sizes h.rest.1, (p.same.counts h.rest.0).0 h.rest.2, h.rest.3), w)
