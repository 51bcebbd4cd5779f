-- Partial entries joined from their last records to their first.
use Rattle.std.proofs.Common.{◌≡◌, ℕ, zero, suc, ◌<◌, ◌+◌, List, [], ◌∷◌, ◌++◌, length, reverse, ap, sym, ◌∙◌, arith, subst}
use Rattle.std.proofs.Math.Seq.{get_or-append_seam}
use Rattle.std.proofs.lemmas.List.{length-append, length-reverse, get_or_append_left, reverse-append}
use Rattle.std.proofs.lemmas.Option.{slice_get_within}
use Rattle.xdg_types.specs.declared.table.DimType.{DimType}
use Rattle.xdg_lexicon.specs.Partial.{Record, Partial, said_of, IsPartial, PartialsJoin}
use Rattle.xdg_lexicon.proofs.Dims.{JoinsAt}

-- Of two partial entries these records are left, and Q holds of those that are made of the ones behind them, the last first.
pub record BackSoFar (Q : ℕ → Record → Type 0) (bound : ℕ) (a b one other made : Partial) : Type 0 where
  pub same : length other ≡ length one
  pub count : length one + length made ≡ bound
  pub mine : (k : ℕ) → k < length one → said_of one k ≡ said_of a k
  pub theirs : (k : ℕ) → k < length one → said_of other k ≡ said_of b k
  pub each : (i : ℕ) → i < length made → Q (length one + i) (said_of (reverse made) i)

-- the last of each is taken
module _ {Q : ℕ → Record → Type 0} {bound : ℕ} {a b one other made : Partial} (s : BackSoFar Q bound a b one other made) (rest : Partial) (x : Record) (popped : one ≡ rest ++ x ∷ []) where
  longer : length one ≡ length rest + 1
  longer = ap length popped ∙ length-append rest (x ∷ [])

  pub back_within : length rest < bound
  back_within = (let c = s.count in let l = longer in omega (arith, c, l))

  pub back_mine : x ≡ said_of a (length rest)
  back_mine = sym (get_or-append_seam rest x [] []) ∙ (ap (λ l. said_of l (length rest)) (sym popped) ∙ s.mine (length rest) (let l = longer in omega (arith, l)))

  module _ (others : Partial) (y : Record) (taken : other ≡ others ++ y ∷ []) where
    as_long : length others ≡ length rest
    as_long = (let e : length other ≡ length others + 1 = ap length taken ∙ length-append others (y ∷ []) in let c = s.same in let l = longer in omega (arith, e, c, l))

    pub back_theirs : y ≡ said_of b (length rest)
    back_theirs = sym (get_or-append_seam others y [] []) ∙ (ap (λ l. said_of l (length others)) (sym taken) ∙ (ap (said_of other) as_long ∙ s.theirs (length rest) (let l = longer in omega (arith, l))))

    pub back_further : {new : Partial} {m : Record} → new ≡ made ++ m ∷ [] → Q (length rest) m → BackSoFar Q bound a b rest others new
    back_further {m} now q = subst (BackSoFar Q bound a b rest others) (sym now) (record {
      same = as_long;
      count = (let e : length (made ++ m ∷ []) ≡ length made + 1 = length-append made (m ∷ []) in let c = s.count in let l = longer in omega (arith, e, c, l));
      mine = λ k h. sym (get_or_append_left rest (x ∷ []) [] k h) ∙ (ap (λ l. said_of l k) (sym popped) ∙ s.mine k (let l = longer in omega (arith, h, l)));
      theirs = λ k h. sym (get_or_append_left others (y ∷ []) [] k (let c = as_long in omega (arith, h, c))) ∙ (ap (λ l. said_of l k) (sym taken) ∙ s.theirs k (let l = longer in omega (arith, h, l)));
      each = λ i h. subst (λ l. Q (length rest + i) (said_of l i)) (sym (reverse-append made (m ∷ []))) (here i (let e : length (made ++ m ∷ []) ≡ length made + 1 = length-append made (m ∷ []) in omega (arith, h, e)));
    })
      where
        here : (i : ℕ) → i < length made + 1 → Q (length rest + i) (said_of (m ∷ reverse made) i)
        here zero h = (let e : length rest ≡ length rest + zero = omega arith in subst (λ n. Q n m) e q)
        here (suc i) h = (let l = longer in let e : length one + i ≡ length rest + suc i = omega (arith, l) in subst (λ n. Q n (said_of (reverse made) i)) e (s.each i (omega (arith, h))))

-- nothing is left
pub back_done : (dims : List DimType) (a b one other made rest whole : Partial) → one ≡ [] → rest ≡ [] → whole ≡ rest ++ reverse made → BackSoFar (JoinsAt dims a b) (length dims) a b one other made → PartialsJoin dims a b whole × IsPartial dims whole
back_done dims a b one other made rest whole none nothing is s = subst (λ p. PartialsJoin dims a b p × IsPartial dims p) (sym (is ∙ ap (λ l. l ++ reverse made) nothing)) (
  record { count = long; each = λ k dim at. (joins k (slice_get_within dims k dim at) dim at).0 },
  record { count = long; each = λ k dim at. (joins k (slice_get_within dims k dim at) dim at).1 },
)
  where
    made_long : length made ≡ length dims
    made_long = (let e : length one ≡ 0 = ap length none in let c = s.count in omega (arith, e, c))

    long : length (reverse made) ≡ length dims
    long = length-reverse made ∙ made_long

    joins : (k : ℕ) → k < length dims → JoinsAt dims a b k (said_of (reverse made) k)
    joins k h = (let e : length one ≡ 0 = ap length none in let n : length one + k ≡ k = omega (arith, e) in let l = made_long in subst (λ j. JoinsAt dims a b j (said_of (reverse made) k)) n (s.each k (omega (arith, h, l))))
