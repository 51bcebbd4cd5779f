-- Marks of definitions that come onto the stack and leave it.
use Rattle.std.proofs.Common.{◌≡◌, ℕ, zero, suc, ◌+◌, ◌<◌, ◌≤◌, inl, inr, List, [], ◌∷◌, ◌++◌, length, get_or, refl, sym, ap, ◌∙◌, arith}
use Rattle.std.proofs.Math.ListN.{set, length-set}
use Rattle.std.specs.List.{sum_by}
use Rattle.std.proofs.lemmas.List.Sums.{sum_by-set}
use Rattle.std.proofs.lemmas.Bool.{cases_eq}
use Rattle.xdg_names.specs.Leads.{number}
use Rattle.xdg_names.specs.Walks.{AreMarks, fresh_at, unmet}
use Rattle.xdg_names.proofs.Climbs.{at_last, at_front, set_at}
use Rattle.xdg_facts.proofs.Lists.{length_more}
use Rattle.xdg_facts.proofs.In.{in_index}

pub not_fresh : (m : ℕ) → 1 ≤ m → fresh_at m ≡ 0
not_fresh zero h = absurd (omega arith)
not_fresh (suc m) h = refl

pub is_fresh : (m : ℕ) → m ≡ 0 → fresh_at m ≡ 1
is_fresh zero h = refl
is_fresh (suc m) h = absurd (omega arith)

module _ (n : ℕ) (marks stack order : List ℕ) (next : ℕ) (v : AreMarks n marks stack order next) where
  -- numbers that were given are below the next
  pub given_below : (a : ℕ) → 1 ≤ number marks a → number marks a ≤ n → number marks a < next
  given_below a h k =
      let i = in_index order a 0 (v.placed a h k) in
      omega (arith, (v.given i.0 i.1.0).1, ap (number marks) i.1.1)

  pub weaker : AreMarks n marks stack order (next + 1)
  weaker = record {
    len = v.len;
    on = v.on;
    off = v.off;
    one = v.one;
    given = λ i h. (let b : number marks (number order i) < next = (v.given i h).1 in ((v.given i h).0, omega arith));
    rises = v.rises;
    placed = v.placed;
    room = v.room;
  }

  module _ (y : ℕ) (within : y < length marks) (fresh : number marks y ≡ 0) where
    abbrev top : ℕ
    top = n + 1 + length stack

    abbrev marks' : List ℕ
    marks' = set marks y top

    pub push_kept : (a : ℕ) → 1 ≤ number marks a → number (set marks y (n + 1 + length stack)) a ≡ number marks a
    push_kept a h = elim (set_at marks y top a within) [ inl k ↦ absurd (omega (arith, ap (number marks) k.0 ∙ fresh)) | inr k ↦ k.1 ]

    push_on : (p : ℕ) → p < length (stack ++ y ∷ []) → number marks' (number (stack ++ y ∷ []) p) ≡ n + 1 + p
    push_on p h = elim (cases_eq p (length stack)) [
      | inl e ↦ (let at : number (stack ++ y ∷ []) p ≡ y = ap (number (stack ++ y ∷ [])) e ∙ at_last stack y in
          elim (set_at marks y top y within) [
            | inl k ↦ (let m : number marks' y ≡ top = k.1 in let m' : number marks' (number (stack ++ y ∷ []) p) ≡ number marks' y = ap (number marks') at in omega arith)
            | inr k ↦ absurd (k.0 refl)
          ])
      | inr ne ↦ (let less : p < length stack = omega (arith, length_more stack y) in
          let at : number (stack ++ y ∷ []) p ≡ number stack p = at_front stack y p less in
          let m : number marks (number stack p) ≡ n + 1 + p = v.on p less in
          let k : number marks' (number stack p) ≡ number marks (number stack p) = push_kept (number stack p) (omega arith) in
          ap (number marks') at ∙ k ∙ m)
    ]

    push_off : (a : ℕ) → n < number marks' a → number marks' a < n + 1 + length (stack ++ y ∷ [])
    push_off a h = elim (set_at marks y top a within) [
      | inl k ↦ omega (arith, length_more stack y)
      | inr k ↦ omega (arith, v.off a (omega arith), length_more stack y)
    ]

    push_one : (a b : ℕ) → n < number marks' a → number marks' a ≡ number marks' b → a ≡ b
    push_one a b h e = elim (set_at marks y top a within) [
      | inl k ↦ elim (set_at marks y top b within) [
        | inl l ↦ k.0 ∙ sym l.0
        | inr l ↦ (let ea : number marks' a ≡ top = k.1 in let eb : number marks' b ≡ number marks b = l.1 in
            absurd (omega (arith, v.off b (omega arith))))
      ]
      | inr k ↦ elim (set_at marks y top b within) [
        | inl l ↦ (let ea : number marks' a ≡ number marks a = k.1 in let eb : number marks' b ≡ top = l.1 in
            absurd (omega (arith, v.off a (omega arith))))
        | inr l ↦ (let ea : number marks' a ≡ number marks a = k.1 in let eb : number marks' b ≡ number marks b = l.1 in
            v.one a b (omega arith) (sym ea ∙ e ∙ eb))
      ]
    ]

    push_room : length order + length (stack ++ y ∷ []) + unmet marks' ≡ n
    push_room =
        let sums : sum_by fresh_at marks' + fresh_at (get_or marks y 0) ≡ sum_by fresh_at marks + fresh_at top = sum_by-set fresh_at marks y top 0 within in
        let one : fresh_at (get_or marks y 0) ≡ 1 = is_fresh _ fresh in
        omega (arith, not_fresh top (omega arith), length_more stack y)

    pub marks_push : AreMarks n (set marks y (n + 1 + length stack)) (stack ++ y ∷ []) order next
    marks_push = record {
      len = length-set marks y top ∙ v.len;
      on = push_on;
      off = push_off;
      one = push_one;
      given = λ i h. (let p : 1 ≤ number marks (number order i) = (v.given i h).0 in let q : number marks (number order i) < next = (v.given i h).1 in
          let e : number marks' (number order i) ≡ number marks (number order i) = push_kept (number order i) p in (omega arith, omega arith));
      rises = λ i j l h. (omega (arith, push_kept (number order i) (v.given i (omega arith)).0, push_kept (number order j) (v.given j h).0, v.rises i j l h));
      placed = λ a h k. elim (set_at marks y top a within) [
        | inl l ↦ absurd (omega arith)
        | inr l ↦ (v.placed a (omega arith) (omega arith))
      ];
      room = push_room;
    }
