use Rattle.std.proofs.Common.{◌≡◌, ℕ, zero, suc, ◌<◌, ◌≤◌, Bool, true, false, ◌⊎◌, if◌then◌else◌, List, [], ◌∷◌, ◌++◌, length, Option, Some, Ok, Err, refl, sym, ◌∙◌, ap, inl, inr, append_assoc, arith}
use Rattle.xdg_ast.specs.declared.token.Kind.{Kind}
use Rattle.xdg_base.specs.declared.places.Span.{Span}
use Rattle.xdg_ast.specs.Lexemes.{Lexeme}
use Rattle.xdg_ast.specs.Language.{Language, ◌or◌, kind_of, holds, sees, start_of, ended_by, span_of, State, Unexpected, TooDeep, Outcome, ◌>>=◌, both, either, each, items, many, spanned}
use Rattle.xdg_ast.specs.Brackets.{walk}
use Rattle.xdg_parse.specs.Steadiness.{at, Steady}
use Rattle.xdg_parse.specs.Laws.{Says, Alive, Law}
use Rattle.xdg_parse.proofs.Items.{Shortens, turn, none_at}
use Rattle.xdg_parse.proofs.Ended.{ended-append}
use Rattle.xdg_parse.proofs.Laws.{walk-both, walk-split, balanced, says_as, bind_says}
use Rattle.xdg_parse.proofs.SteadyParts.{shortens_of}
use Rattle.xdg_parse.proofs.Combinators.{holds-left, holds-right, holds-same, Apart, not-empty, first-holds}
use Rattle.xdg_facts.proofs.Lists.{head_of}
use Rattle.xdg_facts.proofs.Truths.{either-of}

-- ---- either

module _ {A : Type 0} (l m l' m' : Language A) (d n : ℕ) (a : Law d n l m) (b : Law d n l' m') (full-first : l.empty ≡ false) (apart : Apart l.first l'.first) where
  either-fits : (u : List Lexeme) (x : A) → (m.means u x ⊎ m'.means u x) → walk n u ≡ Some n
  either-fits u x (inl h) = a.fits u x h
  either-fits u x (inr h) = b.fits u x h

  last-one : (v : Bool) (o : Option Kind) → holds (if v then (l.first or (l.last or l'.last)) else (l.last or l'.last)) o ≡ false → holds l.last o ≡ false
  last-one true o h = holds-left l.last l'.last o (holds-right l.first (l.last or l'.last) o h)
  last-one false o h = holds-left l.last l'.last o h

  last-other : (v : Bool) (o : Option Kind) → holds (if v then (l.first or (l.last or l'.last)) else (l.last or l'.last)) o ≡ false → holds l'.last o ≡ false
  last-other true o h = holds-right l.last l'.last o (holds-right l.first (l.last or l'.last) o h)
  last-other false o h = holds-right l.last l'.last o h

  not-first : (u : List Lexeme) (x : A) (r : List Lexeme) → m'.means u x → holds (either l l').last (kind_of r) ≡ false → sees l.first (u ++ r) ≡ false
  unfolding kind_of
  not-first [] x r h last = holds-left l.first (l.last or l'.last) (kind_of r) (rw (b.empty x h) at last)
  not-first (t ∷ u) x r h last = apart t.kind (b.first t u x h)

  either-complete : (u : List Lexeme) (x : A) (e : ℕ) (r : List Lexeme) → (m.means u x ⊎ m'.means u x) → walk d u ≡ Some d → holds (either l l').last (kind_of r) ≡ false
      → (either l l').read (at e (u ++ r)) ≡ Ok (x, at (ended_by e u) r)
  either-complete u x e r (inl h) w last = rw (first-holds l m d n a full-first u r x h) (a.complete u x e r h w (last-one l'.empty (kind_of r) last))
  either-complete u x e r (inr h) w last = rw (not-first u x r h last) (b.complete u x e r h w (last-other l'.empty (kind_of r) last))

  sees-same : (s : State) (r : List Lexeme) (v : Bool) → sees l.first s.left ≡ v → kind_of s.left ≡ kind_of r → sees m.first r ≡ v
  sees-same s r v h k = holds-same m.first l.first a.same (kind_of r) ∙ ap (holds l.first) (sym k) ∙ h

  either-says : (s : State) (v : Bool) → suc d < n → sees l.first s.left ≡ v → Says d (either m m') s ((either l l').read s)
  either-says s true lt h = rw h (says_as m (either m m') d s (l.read s) (a.says lt s) (λ u x g. inl g) (λ r k. rw (sees-same s r true h k) refl))
  either-says s false lt h = rw h (says_as m' (either m m') d s (l'.read s) (b.says lt s) (λ u x g. inr g) (λ r k. rw (sees-same s r false h k) refl))

  pub either_law : Law d n (either l l') (either m m')
  either_law = record {
    same = λ k. rw (a.same k, b.same k) refl;
    same_empty = rw (a.same_empty, b.same_empty) refl;
    fits = either-fits;
    first = λ t u x h. either-of (l.first t.kind) (l'.first t.kind) (a.first t u x) (b.first t u x) h;
    empty = λ x h. either-of l.empty l'.empty (a.empty x) (b.empty x) h;
    complete = either-complete;
    says = λ lt s. either-says s (sees l.first s.left) lt refl;
  }

-- ---- many

module _ {A : Type 0} (l m : Language A) (d n : ℕ) (a : Law d n l m) (full-item : l.empty ≡ false) (short : Steady l) (short' : Steady m) (apart : Apart l.last l.first) where
  short-l : Shortens l.read
  short-l = shortens_of l short full-item

  short-m : Shortens m.read
  short-m = shortens_of m short' (a.same_empty ∙ full-item)

  many-fits : (xs : List A) (u : List Lexeme) → each m.means u xs → walk n u ≡ Some n
  unfolding walk
  many-fits [] u h = rw h refl
  many-fits (x ∷ xs) u h = rw h.2 (walk-both n n h.0 h.1 (Some n) (a.fits h.0 x h.3) (many-fits xs h.1 h.4))

  first-of : (t : Lexeme) (u us vs : List Lexeme) (x : A) → t ∷ u ≡ us ++ vs → m.means us x → l.first t.kind ≡ true
  first-of t u [] vs x e h = absurd (not-empty l m d n a full-item x h)
  first-of t u (t' ∷ us) vs x e h = rw (head_of t t' u (us ++ vs) e) (a.first t' us x h)

  many-first : (t : Lexeme) (u : List Lexeme) (xs : List A) → each m.means (t ∷ u) xs → l.first t.kind ≡ true
  many-first t u [] h = absurd (cc)
  many-first t u (x ∷ xs) h = first-of t u h.0 h.1 x h.2 h.3

  last-item : (vs : List Lexeme) (xs : List A) (r : List Lexeme) → each m.means vs xs → holds (many l).last (kind_of r) ≡ false → holds l.last (kind_of (vs ++ r)) ≡ false
  unfolding kind_of
  last-item [] xs r h last = holds-right l.first l.last (kind_of r) last
  last-item (t ∷ vs) xs r h last = apart t.kind (many-first t vs xs h)

  many-complete : (xs : List A) (u : List Lexeme) (e : ℕ) (r : List Lexeme) → each m.means u xs → walk d u ≡ Some d → holds (many l).last (kind_of r) ≡ false
      → (many l).read (at e (u ++ r)) ≡ Ok (xs, at (ended_by e u) r)
  unfolding ended_by
  many-complete [] u e r h w last = rw h (none_at l.first l.read short-l e r (holds-left l.first l.last (kind_of r) last))
  many-complete (x ∷ xs) u e r h w last =
      let sp = walk-split d d h.0 h.1 (rw h.2 at w) in
      let k : sp.0 ≡ d = balanced h.0 n d sp.0 (a.fits h.0 x h.3) sp.1 in
      let w1 : walk d h.0 ≡ Some d = sp.1 ∙ ap Some k in
      let w2 : walk d h.1 ≡ Some d = ap (λ i. walk i h.1) (sym k) ∙ sp.2 in
      let regroup : u ++ r ≡ h.0 ++ (h.1 ++ r) = rw h.2 (append_assoc h.0 h.1 r) in
      let goes : (many l).read (at e (h.0 ++ (h.1 ++ r))) ≡ Ok (x ∷ xs, at (ended_by (ended_by e h.0) h.1) r) =
      turn l.first l.read short-l (at e (h.0 ++ (h.1 ++ r))) (first-holds l m d n a full-item h.0 (h.1 ++ r) x h.3)
      ∙ rw (a.complete h.0 x e (h.1 ++ r) h.3 w1 (last-item h.1 xs r h.4 last), many-complete xs h.1 (ended_by e h.0) r h.4 w2 last) refl in
      let over : ended_by e u ≡ ended_by (ended_by e h.0) h.1 = rw h.2 (ended-append e h.0 h.1) in
      rw (regroup, over) goes

  item-sees : (s : State) (r : List Lexeme) (v : Bool) → sees l.first s.left ≡ v → kind_of s.left ≡ kind_of r → sees m.first r ≡ v
  item-sees s r v h k = holds-same m.first l.first a.same (kind_of r) ∙ ap (holds l.first) (sym k) ∙ h

  many-alive : Alive ((many m).means)
  many-alive = record { tokens = []; value = []; means = refl }

  nothing-more : (e : ℕ) (ts : List Lexeme) → sees l.first ts ≡ false → Says d (many m) (at e ts) (Ok ([], at e ts))
  unfolding walk ended_by
  nothing-more e ts h = record {
    used = [];
    split = refl;
    ended = refl;
    means = refl;
    walked = refl;
    again = λ r k. none_at m.first m.read short-m e r (item-sees (at e ts) r false h k);
  }

  items-at : (lt : suc d < n) (k : ℕ) → ((e : ℕ) (ts : List Lexeme) → length ts ≤ k → Says d (many m) (at e ts) (items l.first l.read k (at e ts)))
      → (s : State) → length s.left ≤ suc k → (v : Bool) → sees l.first s.left ≡ v → Says d (many m) s (items l.first l.read (suc k) s)
  unfolding items
  items-at lt k ih s le false h = rw h (nothing-more s.ended s.left h)
  items-at lt k ih s le true h = rw h (says_as (both (λ x xs. x ∷ xs) m (many m)) (many m) d s (l.read s >>= λ x. items l.first l.read k x.1 >>= λ xs. Ok (x.0 ∷ xs.0, xs.1))
      (bind_says (λ x xs. x ∷ xs) m (λ _. many m) (many m) (λ _. many-alive) d s (l.read s) (a.says lt s) (λ _. items l.first l.read k)
      (λ x s1 e. let sh : length s1.left < length s.left = short-l.shorter s x s1 e in ih s1.ended s1.left (omega arith)))
      (λ u xs g. rw g.7 (g.0, g.1, g.4, g.5, g.6))
      (λ r j. turn m.first m.read short-m (at s.ended r) (item-sees s r true h j)))

  items-says : (lt : suc d < n) (k e : ℕ) (ts : List Lexeme) → length ts ≤ k → Says d (many m) (at e ts) (items l.first l.read k (at e ts))
  unfolding items kind_of
  items-says lt zero e [] le = nothing-more e [] refl
  items-says lt zero e (t ∷ ts) le = absurd (omega arith)
  items-says lt (suc k) e ts le = items-at lt k (items-says lt k) (at e ts) le (sees l.first ts) refl

  pub many_law : Law d n (many l) (many m)
  many_law = record {
    same = a.same;
    same_empty = refl;
    fits = λ u xs h. many-fits xs u h;
    first = many-first;
    empty = λ xs h. refl;
    complete = λ u xs e r h w last. many-complete xs u e r h w last;
    says = λ lt s. items-says lt (length s.left) s.ended s.left (omega arith);
  }

-- ---- spanned

module _ {A B : Type 0} (f : Span → A → B) (l m : Language A) (d n : ℕ) (a : Law d n l m) (some : l.empty ≡ false) where
  starts : (u r : List Lexeme) (x : A) → m.means u x → start_of (u ++ r) ≡ start_of u
  unfolding start_of
  starts [] r x h = absurd (not-empty l m d n a some x h)
  starts (t ∷ u) r x h = refl

  ends : (u : List Lexeme) (e : ℕ) (x : A) → m.means u x → ended_by e u ≡ ended_by 0 u
  unfolding ended_by
  ends [] e x h = absurd (not-empty l m d n a some x h)
  ends (t ∷ u) e x h = refl

  spanned-says : (s : State) (o : Outcome A) → Says d m s o → Says d (spanned f m) s (o >>= λ y. Ok (f (record { start = start_of s.left; end = y.1.ended }) y.0, y.1))
  spanned-says s (Ok (x, s')) g = record {
    used = g.used;
    split = g.split;
    ended = g.ended;
    means = (span_of g.used, x, refl, g.means, rw (g.split, g.ended, starts g.used s'.left x g.means, ends g.used s.ended x g.means) refl);
    walked = g.walked;
    again = λ r e. rw (g.again r e, ap start_of g.split, starts g.used r x g.means, starts g.used s'.left x g.means) refl;
  }
  spanned-says s (Err (Unexpected, r)) g = record {
    used = g.used;
    split = g.split;
    tail = g.tail;
    value = f (span_of (g.used ++ g.tail)) g.value;
    means = (_, g.value, refl, g.means, refl);
    reached = g.reached;
    walked = g.walked;
    again = λ r' e. rw (g.again r' e) refl;
  }
  spanned-says s (Err (TooDeep, r)) g = record {
    used = g.used;
    bracket = g.bracket;
    others = g.others;
    split = g.split;
    next = g.next;
    opens = g.opens;
    tail = g.tail;
    value = f (span_of (g.used ++ g.bracket ∷ g.tail)) g.value;
    means = (_, g.value, refl, g.means, refl);
    walked = g.walked;
  }

  pub spanned_law : Law d n (spanned f l) (spanned f m)
  spanned_law = record {
    same = a.same;
    same_empty = a.same_empty;
    fits = λ u x h. a.fits u h.1 h.3;
    first = λ t u x h. a.first t u h.1 h.3;
    empty = λ x h. a.empty h.1 h.3;
    complete = λ u x e r h w last. rw (h.4, h.2, a.complete u h.1 e r h.3 w last, starts u r h.1 h.3, ends u e h.1 h.3) refl;
    says = λ lt s. spanned-says s (l.read s) (a.says lt s);
  }
