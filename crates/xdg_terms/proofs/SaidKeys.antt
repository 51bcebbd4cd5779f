-- What is said of keys, key by key, is what is written.
use Rattle.std.proofs.Common.{◌≡◌, ℕ, ◌<◌, ◌≤◌, ◌+◌, zero, suc, List, [], ◌∷◌, length, Option, Some, None, refl, sym, ap, ◌∙◌, subst, arith}
use Rattle.std.specs.Prelude.{cond}
use Rattle.std.proofs.lemmas.Bool.{eq-eqb, ne_eqb}
use Rattle.xdg_ast.specs.declared.names.Name.{Name}
use Rattle.xdg_domain.specs.Valencies.{said_at, KeysRise}
use Rattle.xdg_domain.specs.Values.{EachSaid}
use Rattle.xdg_terms.specs.Means.{written_for, written_at, Said}
use Rattle.xdg_terms.specs.Built.{put, said_from}
use Rattle.xdg_domain.proofs.Keyed.{unsaid}

pub rises_later : {V : Type 0} (sooner low : ℕ) (s : List (ℕ × V)) → sooner ≤ low → KeysRise low s → KeysRise sooner s
rises_later sooner low [] order r = tt
rises_later sooner low (e ∷ s) order (a, b) = (omega (arith, order, a), b)

pub made_of : {A V : Type 0} → (A → V) → Option A → Option V
made_of make None = None
made_of make (Some w) = Some (make w)

module _ {A V : Type 0} (make : A → V) (at : ℕ) (rest : List (ℕ × V)) where
  pub put_rises : (o : Option A) → KeysRise (at + 1) rest → KeysRise at (put make at o rest)
  unfolding made_of
  put_rises None r = rises_later at (at + 1) rest (omega arith) r
  put_rises (Some w) r = (omega arith, r)

  pub put_here : (o : Option A) → KeysRise (at + 1) rest → said_at (put make at o rest) (at + 0) ≡ made_of make o
  unfolding made_of
  put_here None r = unsaid (at + 1) (at + 0) rest (omega arith) r
  put_here (Some w) r = ap (λ t. cond t (Some (make w)) (said_at rest (at + 0))) (eq-eqb at (at + 0) (omega arith))

  pub put_later : (o : Option A) (key : ℕ) → said_at (put make at o rest) (at + suc key) ≡ said_at rest ((at + 1) + key)
  unfolding made_of
  put_later None key = let e : at + suc key ≡ (at + 1) + key = omega arith in ap (said_at rest) e
  put_later (Some w) key =
      let e : at + suc key ≡ (at + 1) + key = omega arith in
      ap (λ t. cond t (Some (make w)) (said_at rest (at + suc key))) (ne_eqb at (at + suc key) (λ i. omega (arith, i))) ∙ ap (said_at rest) e

module _ {A V : Type 0} (P : A → V → Type 0) (make : A → V) where
  pub said_made : (o : Option A) → ((w : A) → o ≡ Some w → P w (make w)) → Said P o (made_of make o)
  unfolding made_of
  said_made None h = tt
  said_made (Some w) h = h w refl

  module _ (find : List ℕ → Option A) where
    pub from_rises : (at : ℕ) (cs : List (List ℕ)) → KeysRise at (said_from make find at cs)
    from_rises at [] = tt
    from_rises at (c ∷ cs) = put_rises make at (said_from make find (at + 1) cs) (find c) (from_rises (at + 1) cs)

    pub from_said : (pairs : List (Name × A)) → ((name : List ℕ) → find name ≡ written_for pairs name) → ((name : List ℕ) (w : A) → written_for pairs name ≡ Some w → P w (make w)) → (at : ℕ) (cs : List (List ℕ)) (key : ℕ)
        → Said P (written_at pairs cs key) (said_at (said_from make find at cs) (at + key))
    from_said pairs same each at [] key = tt
    from_said pairs same each at (c ∷ cs) zero =
        subst (Said P (written_for pairs c)) (sym (put_here make at (said_from make find (at + 1) cs) (find c) (from_rises (at + 1) cs) ∙ ap (made_of make) (same c))) (said_made (written_for pairs c) (each c))
    from_said pairs same each at (c ∷ cs) (suc key) =
        subst (Said P (written_at pairs cs key)) (sym (put_later make at (said_from make find (at + 1) cs) (find c) key)) (from_said pairs same each (at + 1) cs key)

pub keys_said : {A V : Type 0} (P : A → V → Type 0) (make : A → V) (find : List ℕ → Option A) (pairs : List (Name × A)) (cs : List (List ℕ)) → ((name : List ℕ) → find name ≡ written_for pairs name) → ((name : List ℕ) (w : A) → written_for pairs name ≡ Some w → P w (make w)) → (key : ℕ)
    → Said P (written_at pairs cs key) (said_at (said_from make find 0 cs) key)
keys_said P make find pairs cs same each key = let e : 0 + key ≡ key = omega arith in subst (λ j. Said P (written_at pairs cs key) (said_at (said_from make find 0 cs) j)) e (from_said P make find pairs same each 0 cs key)

-- ---- each of what is said

module _ {A V : Type 0} (Q : V → Type 0) (make : A → V) (find : List ℕ → Option A) (pairs : List (Name × A)) (same : (name : List ℕ) → find name ≡ written_for pairs name) (each : (name : List ℕ) (w : A) → written_for pairs name ≡ Some w → Q (make w)) where
  put_each : (P : ℕ → V → Type 0) (at : ℕ) (rest : List (ℕ × V)) (o : Option A) → EachSaid P rest → ((w : A) → o ≡ Some w → P at (make w)) → EachSaid P (put make at o rest)
  put_each P at rest None r h = r
  put_each P at rest (Some w) r h = (h w refl, r)

  each_from : (bound at : ℕ) (cs : List (List ℕ)) → at + length cs ≤ bound → EachSaid (λ key v. (key < bound) × Q v) (said_from make find at cs)
  each_from bound at [] fits = tt
  each_from bound at (c ∷ cs) fits =
      put_each (λ key v. (key < bound) × Q v) at (said_from make find (at + 1) cs) (find c) (each_from bound (at + 1) cs (omega (arith, fits))) (λ w is. (omega (arith, fits), each c w (sym (same c) ∙ is)))

  pub keys_each : (bound : ℕ) (cs : List (List ℕ)) → length cs ≤ bound → EachSaid (λ key v. (key < bound) × Q v) (said_from make find 0 cs)
  keys_each bound cs fits = each_from bound 0 cs (omega (arith, fits))
