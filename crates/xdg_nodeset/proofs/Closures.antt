-- What a table leads to through the first nodes, one node more.
use Rattle.std.proofs.Common.{ℕ, ◌+◌, ◌<◌, ◌⊎◌, ◌↔◌, inl, inr, List, [], ◌∷◌, ◌++◌, subst, arith}
use Rattle.std.proofs.lemmas.Bool.{cases_eq}
use Rattle.xdg_nodeset.specs.Tables.{InTable, Along, IsClosure}

pub along_append : (table : List (List ℕ)) (p q : List ℕ) (a m b : ℕ) → Along table a p m → Along table m q b → Along table a (p ++ m ∷ q) b
along_append table [] q a m b h k = (h, k)
along_append table (n ∷ p) q a m b h k = (h.0, along_append table p q n m b h.1 k)

pub closure_start : (table : List (List ℕ)) → IsClosure 0 table table
closure_start table = record {
  contains = λ a b h. h;
  along = λ a b h. ([], h);
  through = λ a m b l. absurd (omega (arith, l));
}

pub closure_more : (i : ℕ) (table old new : List (List ℕ)) → IsClosure i table old → ((a b : ℕ) → InTable new a b ↔ (InTable old a b ⊎ (InTable old a i × InTable old i b))) → IsClosure (i + 1) table new
closure_more i table old new c step = record {
  contains = λ a b h. (step a b).1 (inl (c.contains a b h));
  along = λ a b h. elim ((step a b).0 h) [
    | inl o ↦ c.along a b o
    | inr o ↦ (let p = c.along a i o.0 in let q = c.along i b o.1 in (p.0 ++ i ∷ q.0, along_append table p.0 q.0 a i b p.1 q.1))
  ];
  through = λ a m b l h k. elim (cases_eq m i) [
    | inl s ↦ (step a b).1 (inr (to_middle a (subst (λ z. InTable new a z) s h), from_middle b (subst (λ z. InTable new z b) s k)))
    | inr n ↦ (let l2 : m < i = omega (arith, l, n) in (step a b).1 (elim ((step a m).0 h) [
      | inl x ↦ elim ((step m b).0 k) [
        | inl y ↦ inl (c.through a m b l2 x y)
        | inr y ↦ inr (c.through a m i l2 x y.0, y.1)
      ]
      | inr x ↦ elim ((step m b).0 k) [
        | inl y ↦ inr (x.0, c.through i m b l2 x.1 y)
        | inr y ↦ inr (x.0, y.1)
      ]
    ]))
  ];
} where
  to_middle : (a : ℕ) → InTable new a i → InTable old a i
  to_middle a h = elim ((step a i).0 h) [ inl o ↦ o | inr o ↦ o.0 ]

  from_middle : (b : ℕ) → InTable new i b → InTable old i b
  from_middle b h = elim ((step i b).0 h) [ inl o ↦ o | inr o ↦ o.1 ]
