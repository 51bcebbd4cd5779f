use Rattle.std.proofs.Common.{◌≡◌, ℕ, suc, ◌<◌, Bool, true, false, List, [], ◌∷◌, ◌++◌, Some, None, Ok, Err, refl, sym, ◌∙◌, ap, append_assoc, arith}
use Rattle.xdg_ast.specs.declared.token.Kind.{Kind}
use Rattle.xdg_ast.specs.Lexemes.{Lexeme}
use Rattle.xdg_ast.specs.Language.{Language, Kinds, kind_of, holds, sees, ended_by, State, Unexpected, TooDeep, Outcome, ◌>>=◌, skip, read_token, Within, full, room, nested}
use Rattle.xdg_ast.specs.Brackets.{is_opening, is_closing, walk}
use Rattle.xdg_parse.specs.Steadiness.{at}
use Rattle.xdg_parse.specs.Laws.{WasRead, Says, Alive, Law}
use Rattle.xdg_parse.proofs.Ended.{ended-append}
use Rattle.xdg_parse.proofs.Laws.{walk-both, walk-split, balanced}
use Rattle.xdg_parse.proofs.Combinators.{token-reads, token-stops, Apart}
use Rattle.xdg_facts.proofs.Lists.{head_of}

-- ---- in brackets

module _ {A : Type 0} {L : Type 1} (op cl : Kinds) (body : L → Language A)
    (opens : (k : Kind) → op k ≡ true → is_opening k ≡ true) (closes : (k : Kind) → cl k ≡ true → (is_opening k ≡ false) × (is_closing k ≡ true))
    (o0 : Lexeme) (ho0 : op o0.kind ≡ true) (c0 : Lexeme) (hc0 : cl c0.kind ≡ true) where
  walk-open : (n : ℕ) (t : Lexeme) (u : List Lexeme) → op t.kind ≡ true → walk (suc n) (t ∷ u) ≡ walk n u
  unfolding walk
  walk-open n t u h = rw (opens t.kind h) refl

  walk-full : (t : Lexeme) (u : List Lexeme) → op t.kind ≡ true → walk 0 (t ∷ u) ≡ None
  unfolding walk
  walk-full t u h = rw (opens t.kind h) refl

  walk-close : (n : ℕ) (t : Lexeme) → cl t.kind ≡ true → walk n (t ∷ []) ≡ Some (suc n)
  unfolding walk
  walk-close n t h = rw ((closes t.kind h).0, (closes t.kind h).1) refl

  walk-group : (n : ℕ) (o : Lexeme) (us : List Lexeme) (c : Lexeme) → op o.kind ≡ true → cl c.kind ≡ true → walk n us ≡ Some n → walk (suc n) (o ∷ (us ++ c ∷ [])) ≡ Some (suc n)
  walk-group n o us c g h w = walk-open n o (us ++ c ∷ []) g ∙ walk-both n n us (c ∷ []) (Some (suc n)) w (walk-close n c h)

  pub group-alive : (j : L) → Alive ((body j).means) → Alive ((nested op cl (room j) body).means)
  group-alive j a = record { tokens = o0 ∷ (a.tokens ++ c0 ∷ []); value = a.value; means = (o0, a.tokens, c0, refl, ho0, hc0, a.means) }

  pub nested_none : (w : Within L) (d : ℕ) → Law d 0 (nested op cl w body) (nested op cl full body)
  nested_none w d = record {
    same = λ k. refl;
    same_empty = refl;
    fits = λ u x h. absurd h;
    first = λ t u x h. absurd h;
    empty = λ x h. absurd h;
    complete = λ u x e r h w last. absurd h;
    says = λ lt s. absurd (omega arith);
  }

  group-first : (j : L) (t : Lexeme) (u : List Lexeme) (x : A) → (nested op cl (room j) body).means (t ∷ u) x → op t.kind ≡ true
  group-first j t u x h = rw (head_of t h.0 u (h.1 ++ h.2 ∷ []) h.3) h.4

  -- nothing opens here
  stops : (w : Within L) (j : L) (d : ℕ) (s : State) → Alive ((body j).means) → sees op s.left ≡ false → Says d (nested op cl (room j) body) s ((nested op cl w body).read s)
  unfolding walk
  stops w j d s a h =
      let g = group-alive j a in
      rw h (record {
        used = [];
        split = refl;
        tail = g.tokens;
        value = g.value;
        means = g.means;
        reached = d;
        walked = refl;
        again = λ r k. let e : sees op r ≡ false = ap (holds op) (sym k) ∙ h in rw e refl;
      })

  module _ (j : L) (n : ℕ) (inner : (u : List Lexeme) (x : A) → (body j).means u x → walk n u ≡ Some n) where
    group-fits : (u : List Lexeme) (x : A) → (nested op cl (room j) body).means u x → walk (suc n) u ≡ Some (suc n)
    group-fits u x h = rw h.3 (walk-group n h.0 h.1 h.2 h.4 h.5 (inner h.1 x h.6))

    deep-at : Alive ((body j).means) → (e : ℕ) (ts : List Lexeme) (v : Bool) → sees op ts ≡ v → Says 0 (nested op cl (room j) body) (at e ts) ((nested op cl full body).read (at e ts))
    unfolding walk kind_of
    deep-at alive e ts false h = stops full j 0 (at e ts) alive h
    deep-at alive e [] true h = absurd (cc)
    deep-at alive e (t ∷ ts) true h = rw h (record {
      used = [];
      bracket = t;
      others = ts;
      split = refl;
      next = refl;
      opens = opens t.kind h;
      tail = alive.tokens ++ c0 ∷ [];
      value = alive.value;
      means = (t, alive.tokens, c0, refl, h, hc0, alive.means);
      walked = refl;
    })

    pub nested_deep : (0 < n → Alive ((body j).means)) → Law 0 (suc n) (nested op cl full body) (nested op cl (room j) body)
    nested_deep alive = record {
      same = λ k. refl;
      same_empty = refl;
      fits = group-fits;
      first = group-first j;
      empty = λ x h. absurd (let i = h.3 in cc);
      complete = λ u x e r h w last. absurd (let i : None ≡ Some 0 = sym (walk-full h.0 (h.1 ++ h.2 ∷ []) h.4) ∙ rw h.3 at w in cc);
      says = λ lt s. deep-at (alive (omega arith)) s.ended s.left (sees op s.left) refl;
    }

  module _ (i j : L) (d n : ℕ) (a : Law d n (body i) (body j)) (apart : Apart (body i).last cl) where
    inner-complete : (o : Lexeme) (us : List Lexeme) (c : Lexeme) (x : A) (e : ℕ) (r : List Lexeme) → op o.kind ≡ true → cl c.kind ≡ true → (body j).means us x
        → walk (suc d) (o ∷ (us ++ c ∷ [])) ≡ Some (suc d)
        → (nested op cl (room i) body).read (at e ((o ∷ (us ++ c ∷ [])) ++ r)) ≡ Ok (x, at (ended_by e (o ∷ (us ++ c ∷ []))) r)
    unfolding kind_of skip ended_by
    inner-complete o us c x e r g h m w =
        let sp = walk-split d (suc d) us (c ∷ []) (sym (walk-open d o (us ++ c ∷ []) g) ∙ w) in
        let k : sp.0 ≡ d = balanced us n d sp.0 (a.fits us x m) sp.1 in
        let w1 : walk d us ≡ Some d = sp.1 ∙ ap Some k in
        rw (g, append_assoc us (c ∷ []) r, a.complete us x o.span.end (c ∷ r) m w1 (apart c.kind h), token-reads cl (ended_by o.span.end us) c r h, ended-append o.span.end us (c ∷ [])) refl

    closed : (e : ℕ) (o : Lexeme) (ts : List Lexeme) (x : A) (s1 : State) → op o.kind ≡ true → WasRead d (body j) (at o.span.end ts) x s1 → (e1 : ℕ) (ts1 : List Lexeme) → s1 ≡ at e1 ts1 → (v : Bool) → sees cl ts1 ≡ v
        → Says (suc d) (nested op cl (room j) body) (at e (o ∷ ts)) (read_token cl (at e1 ts1) >>= λ c. Ok (x, c.1))
    unfolding kind_of skip ended_by walk
    closed e o ts x s1 g b e1 ts1 q false h = rw (token-stops cl e1 ts1 h) (record {
      used = o ∷ b.used;
      split = ap (λ us. o ∷ us) (b.split ∙ ap (λ (s : State). b.used ++ s.left) q);
      tail = c0 ∷ [];
      value = x;
      means = (o, b.used, c0, refl, g, hc0, b.means);
      reached = d;
      walked = walk-open d o b.used g ∙ b.walked;
      again = λ r k. let kk : kind_of s1.left ≡ kind_of r = ap (λ (s : State). kind_of s.left) q ∙ k in
          let no : sees cl r ≡ false = ap (holds cl) (sym k) ∙ h in
          rw (g, b.again r kk, token-stops cl s1.ended r no) refl;
    })
    closed e o ts x s1 g b e1 [] q true h = absurd (cc)
    closed e o ts x s1 g b e1 (c ∷ ts1) q true h = rw (token-reads cl e1 c ts1 h) (record {
      used = o ∷ (b.used ++ c ∷ []);
      split = ap (λ us. o ∷ us) (b.split ∙ ap (λ (s : State). b.used ++ s.left) q ∙ sym (append_assoc b.used (c ∷ []) ts1));
      ended = sym (ended-append o.span.end b.used (c ∷ []));
      means = (o, b.used, c, refl, g, h, b.means);
      walked = walk-group d o b.used c g h b.walked;
      again = λ r k. let kk : kind_of s1.left ≡ kind_of (c ∷ r) = ap (λ (s : State). kind_of s.left) q in
          rw (g, append_assoc b.used (c ∷ []) r, b.again (c ∷ r) kk, token-reads cl s1.ended c r h) refl;
    })

    after-open : (e : ℕ) (o : Lexeme) (ts : List Lexeme) → op o.kind ≡ true → (out : Outcome A) → Says d (body j) (at o.span.end ts) out
        → Says (suc d) (nested op cl (room j) body) (at e (o ∷ ts)) (out >>= λ x. read_token cl x.1 >>= λ c. Ok (x.0, c.1))
    unfolding kind_of skip
    after-open e o ts g (Ok (x, s1)) b = closed e o ts x s1 g b s1.ended s1.left refl (sees cl s1.left) refl
    after-open e o ts g (Err (Unexpected, r)) b = record {
      used = o ∷ b.used;
      split = ap (λ us. o ∷ us) b.split;
      tail = b.tail ++ c0 ∷ [];
      value = b.value;
      means = (o, b.used ++ b.tail, c0, ap (λ us. o ∷ us) (sym (append_assoc b.used b.tail (c0 ∷ []))), g, hc0, b.means);
      reached = b.reached;
      walked = walk-open d o b.used g ∙ b.walked;
      again = λ r' k. rw (g, b.again r' k) refl;
    }
    after-open e o ts g (Err (TooDeep, r)) b = record {
      used = o ∷ b.used;
      bracket = b.bracket;
      others = b.others;
      split = ap (λ us. o ∷ us) b.split;
      next = b.next;
      opens = b.opens;
      tail = b.tail ++ c0 ∷ [];
      value = b.value;
      means = (o, b.used ++ b.bracket ∷ b.tail, c0, ap (λ us. o ∷ us) (sym (append_assoc b.used (b.bracket ∷ b.tail) (c0 ∷ []))), g, hc0, b.means);
      walked = walk-open d o b.used g ∙ b.walked;
    }

    inner-says : Alive ((body j).means) → (lt : suc d < n) (e : ℕ) (ts : List Lexeme) (v : Bool) → sees op ts ≡ v → Says (suc d) (nested op cl (room j) body) (at e ts) ((nested op cl (room i) body).read (at e ts))
    unfolding kind_of skip
    inner-says alive lt e ts false h = stops (room i) j (suc d) (at e ts) alive h
    inner-says alive lt e [] true h = absurd (cc)
    inner-says alive lt e (o ∷ ts) true h = rw h (after-open e o ts h ((body i).read (at o.span.end ts)) (a.says lt (at o.span.end ts)))

    pub nested_inner : (suc d < n → Alive ((body j).means)) → Law (suc d) (suc n) (nested op cl (room i) body) (nested op cl (room j) body)
    nested_inner alive = record {
      same = λ k. refl;
      same_empty = refl;
      fits = group-fits j n a.fits;
      first = group-first j;
      empty = λ x h. absurd (let i = h.3 in cc);
      complete = λ u x e r h w last. rw h.3 (inner-complete h.0 h.1 h.2 x e r h.4 h.5 h.6 (rw h.3 at w));
      says = λ lt s. inner-says (alive (omega arith)) (omega arith) s.ended s.left (sees op s.left) refl;
    }
