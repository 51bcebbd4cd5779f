-- What the reading of a whole text says of its tokens, for any family that is made of what languages read.
use Rattle.std.proofs.Common.{◌≡◌, ℕ, zero, suc, ◌+◌, Bool, true, false, List, [], ◌∷◌, ◌++◌, Some, None, Ok, Err, refl, sym, ◌∙◌, ap, subst, append_assoc, arith}
use Rattle.std.proofs.lemmas.List.{append-nil, append_cancel_right}
use Rattle.xdg_base.specs.declared.faults.Cause.TheVariants as causes
use Rattle.xdg_ast.specs.declared.token.Kind.{Kind}
use Rattle.xdg_ast.specs.Lexemes.{Lexeme}
use Rattle.xdg_ast.specs.Language.{Language, kind_of, ended_by, State, Unexpected, TooDeep, Outcome}
use Rattle.xdg_ast.specs.Brackets.{is_opening, is_closing, past, walk}
use Rattle.xdg_ast.specs.Derives.{Family, DerivesWithin, Derives, IsShallow, place_of, Ends, IsUnexpectedAt, IsTooDeepAt, IsRefused, unexpected, too_deep}
use Rattle.xdg_parse.specs.Steadiness.{at, Steady}
use Rattle.xdg_parse.specs.Laws.{Says, Law}
use Rattle.xdg_parse.proofs.Laws.{one, some-same, some-from}
use Rattle.xdg_facts.proofs.Lists.{head_of}

-- ---- more room

one-raise : (a b : Bool) (m m' k : ℕ) → one a b m ≡ Some m' → one a b (m + k) ≡ Some (m' + k)
unfolding one
one-raise true b zero m' k h = absurd (cc)
one-raise true b (suc m) m' k h = let i = some-same m m' h in let j : suc m + k ≡ suc (m' + k) = omega arith in rw j refl
one-raise false true m m' k h = let i = some-same (suc m) m' h in let j : suc (m + k) ≡ m' + k = omega arith in ap Some j
one-raise false false m m' k h = let i = some-same m m' h in let j : m + k ≡ m' + k = omega arith in ap Some j

raise : (u : List Lexeme) (m m' k : ℕ) → walk m u ≡ Some m' → walk (m + k) u ≡ Some (m' + k)
unfolding walk one
raise [] m m' k h = let i = some-same m m' h in let j : m + k ≡ m' + k = omega arith in ap Some j
raise (t ∷ u) m m' k h =
    let a = some-from (past is_opening is_closing m t) (λ n. walk n u) m' h in
    let b = one-raise (is_opening t.kind) (is_closing t.kind) m a.0 k a.1 in
    rw b (raise u a.0 m' k a.2)

left-of : {A : Type 0} → Outcome A → List Lexeme
left-of (Ok x) = x.1.left
left-of (Err e) = []

values-of : {A : Type 0} → Outcome A → List A
values-of (Ok x) = x.0 ∷ []
values-of (Err e) = []

none-left : (ts : List Lexeme) → kind_of ts ≡ None → ts ≡ []
unfolding kind_of
none-left [] h = refl
none-left (t ∷ ts) h = absurd (cc)

some-left : (ts : List Lexeme) (k : Kind) → kind_of ts ≡ Some k → (t : Lexeme) × (r : List Lexeme) × (ts ≡ t ∷ r)
unfolding kind_of
some-left [] k h = absurd (cc)
some-left (t ∷ ts) k h = (t, ts, refl)

-- languages that are read as they are meant, and what is made of the tokens and what they mean there
pub record Readable {A B : Type 0} (l : ℕ → Language A) (means : Family B) : Type 0 where
  pub law : (d n : ℕ) → Law d n (l d) (l n)
  pub steady : (n : ℕ) → Steady (l n)
  pub made : List Lexeme → A → B
  pub part : B → A
  pub to : (n : ℕ) (ts : List Lexeme) (x : A) → (l n).means ts x → means n ts (made ts x)
  pub back : (n : ℕ) (ts : List Lexeme) (y : B) → means n ts y → ((l n).means ts (part y)) × (y ≡ made ts (part y))

module _ {A B : Type 0} (l : ℕ → Language A) (means : Family B) (is : Readable l means) where
  -- ---- with room enough, what is meant is read

  read-in : (m k : ℕ) (ts : List Lexeme) (x : A) → (l m).means ts x → (l (m + k)).read (at 0 ts) ≡ Ok (x, at (ended_by 0 ts) [])
  unfolding kind_of
  read-in m k ts x h =
      let a = is.law (m + k) m in
      let r = a.complete ts x 0 [] h (raise ts m m k (a.fits ts x h)) refl in
      ap (λ us. (l (m + k)).read (at 0 us)) (sym (append-nil ts)) ∙ r

  -- ---- what the outcome says of the text

  was-read : (ts : List Lexeme) (x : A) (s : State) → (l 64).read (at 0 ts) ≡ Ok (x, s) → s.left ≡ [] → DerivesWithin means ts (is.made ts x) × (s.ended ≡ ended_by 0 ts)
  was-read ts x s h e =
      let took = (is.steady 64).sound (at 0 ts) x s h in
      let all : took.used ≡ ts = sym (took.split ∙ ap (λ us. took.used ++ us) e ∙ append-nil took.used) in
      (is.to 64 ts x (subst (λ us. (l 64).means us x) all took.means), took.ended ∙ ap (ended_by 0) all)

  -- the reading stops there however it goes on, with whatever room
  stops-at : (ts : List Lexeme) (r : List Lexeme) (m : ℕ) (u : List Lexeme) → (l 64).read (at 0 ts) ≡ Err (Unexpected, r) → ts ≡ u ++ r → (r' : List Lexeme) → kind_of r ≡ kind_of r'
      → (l (m + 66)).read (at 0 (u ++ r')) ≡ Err (Unexpected, r')
  stops-at ts r m u h split r' k =
      let said : Says 64 (l (m + 66)) (at 0 ts) (Err (Unexpected, r)) = rw h at ((is.law 64 (m + 66)).says (omega arith) (at 0 ts)) in
      let same : u ≡ said.used = append_cancel_right u said.used r (sym split ∙ said.split) in
      rw same (said.again r' k)

  not-read : (ts : List Lexeme) (r : List Lexeme) (u : List Lexeme) → (l 64).read (at 0 ts) ≡ Err (Unexpected, r) → ts ≡ u ++ r → (r' : List Lexeme) → kind_of r ≡ kind_of r' → (y : B) → Derives means (u ++ r') y → ⊥
  not-read ts r u h split r' k y d =
      let a = stops-at ts r d.0 u h split r' k in
      let b = read-in d.0 66 (u ++ r') (is.part y) (is.back d.0 (u ++ r') y d.1).0 in
      absurd (cc)

  ends-by : (ts : List Lexeme) (u r : List Lexeme) → (l 64).read (at 0 ts) ≡ Err (Unexpected, r) → ts ≡ u ++ r → Ends means u r
  unfolding kind_of
  ends-by ts u [] h split = λ y d. not-read ts [] u h split [] refl y (rw (append-nil u) d)
  ends-by ts u (t ∷ r) h split = λ s. not-read ts (t ∷ r) u h split (t ∷ s.0) refl s.1 (rw (append_assoc u (t ∷ []) s.0) at s.2)

  goes : (us : List Lexeme) (x : A) → (l 66).means us x → Derives means us (is.made us x)
  goes us x h = (66, is.to 66 us x h)

  stopped : (ts : List Lexeme) (end : ℕ) (r : List Lexeme) → (l 64).read (at 0 ts) ≡ Err (Unexpected, r) → IsUnexpectedAt means ts end (place_of end r)
  stopped ts end r h =
      let said : Says 64 (l 66) (at 0 ts) (Err (Unexpected, r)) = rw h at ((is.law 64 66).says (omega arith) (at 0 ts)) in
      record {
        before = said.used;
        rest = r;
        split = said.split;
        place_is = refl;
        starts = (said.tail, _, goes (said.used ++ said.tail) said.value said.means);
        ends = ends-by ts said.used r h said.split;
        shallow = (said.reached, said.walked);
      }

  too-many : (ts : List Lexeme) (end : ℕ) (r : List Lexeme) → (l 64).read (at 0 ts) ≡ Err (TooDeep, r) → IsTooDeepAt means ts (place_of end r)
  too-many ts end r h =
      let said : Says 64 (l 66) (at 0 ts) (Err (TooDeep, r)) = rw h at ((is.law 64 66).says (omega arith) (at 0 ts)) in
      let all = said.used ++ said.bracket ∷ said.tail in
      record {
        before = said.used;
        bracket = said.bracket;
        rest = said.others;
        split = said.split ∙ ap (λ us. said.used ++ us) said.next;
        place_is = ap (place_of end) said.next;
        opens = said.opens;
        full = said.walked;
        starts = (said.tail, is.made all said.value, rw (append_assoc said.used (said.bracket ∷ []) said.tail) (goes all said.value said.means));
      }

  -- a text that is over, with tokens after it
  goes-on-at : (ts : List Lexeme) (x : A) (s : State) (m : ℕ) (u : List Lexeme) → (l 64).read (at 0 ts) ≡ Ok (x, s) → ts ≡ u ++ s.left → (r' : List Lexeme) → kind_of s.left ≡ kind_of r'
      → (l (m + 66)).read (at 0 (u ++ r')) ≡ Ok (x, at s.ended r')
  goes-on-at ts x s m u h split r' k =
      let said : Says 64 (l (m + 66)) (at 0 ts) (Ok (x, s)) = rw h at ((is.law 64 (m + 66)).says (omega arith) (at 0 ts)) in
      let same : u ≡ said.used = append_cancel_right u said.used s.left (sym split ∙ said.split) in
      rw same (said.again r' k)

  unfinished : (ts : List Lexeme) (end : ℕ) (x : A) (s : State) (t : Lexeme) (r : List Lexeme) → (l 64).read (at 0 ts) ≡ Ok (x, s) → s.left ≡ t ∷ r → IsUnexpectedAt means ts end (place_of end s.left)
  unfolding kind_of left-of
  unfinished ts end x s t r h e =
      let said : Says 64 (l 66) (at 0 ts) (Ok (x, s)) = rw h at ((is.law 64 66).says (omega arith) (at 0 ts)) in
      record {
        before = said.used;
        rest = t ∷ r;
        split = said.split ∙ ap (λ us. said.used ++ us) e;
        place_is = ap (place_of end) e;
        starts = ([], is.made said.used x, rw (append-nil said.used) (goes said.used x said.means));
        ends = λ st.
            let a = goes-on-at ts x s st.2.0 said.used h said.split (t ∷ st.0) (rw e refl) in
            let d : means st.2.0 (said.used ++ (t ∷ st.0)) st.1 = (rw (append_assoc said.used (t ∷ []) st.0) at st.2).1 in
            let b = read-in st.2.0 66 (said.used ++ (t ∷ st.0)) (is.part st.1) (is.back st.2.0 (said.used ++ (t ∷ st.0)) st.1 d).0 in
            let c : [] ≡ t ∷ st.0 = ap left-of (sym b ∙ a) in
            absurd (cc);
        shallow = (64, said.walked);
      }

  -- ---- for a reader of whole texts

  module _ (ts : List Lexeme) (end : ℕ) (start : State) (starts_at : start ≡ at 0 ts) where
    -- no token is left
    pub whole-tells : (x : A) (s : State) → (l 64).read start ≡ Ok (x, s) → kind_of s.left ≡ None → DerivesWithin means ts (is.made ts x) × (s.ended ≡ ended_by 0 ts)
    whole-tells x s h k = was-read ts x s (rw starts_at at h) (none-left s.left k)

    -- a token is left
    pub part-tells : (x : A) (s : State) (k : Kind) → (l 64).read start ≡ Ok (x, s) → kind_of s.left ≡ Some k → IsRefused means ts end (record { cause = causes.Unexpected; at = place_of end s.left; reached = 0 })
    part-tells x s k h e = let t = some-left s.left k e in unexpected _ (unfinished ts end x s t.0 t.1 (rw starts_at at h) t.2)

    pub stop-tells : (r : List Lexeme) → (l 64).read start ≡ Err (Unexpected, r) → IsRefused means ts end (record { cause = causes.Unexpected; at = place_of end r; reached = 0 })
    stop-tells r h = unexpected _ (stopped ts end r (rw starts_at at h))

    pub deep-tells : (r : List Lexeme) → (l 64).read start ≡ Err (TooDeep, r) → IsRefused means ts end (record { cause = causes.TooDeep; at = place_of end r; reached = 65 })
    deep-tells r h = too_deep _ (too-many ts end r (rw starts_at at h))

  -- tokens that stand for something within 64 brackets open no bracket too many
  pub shallow : (ts : List Lexeme) (y : B) → DerivesWithin means ts y → IsShallow ts
  shallow ts y h = (64, (is.law 64 64).fits ts (is.part y) (is.back 64 ts y h).0)

  -- ---- one reading

  -- tokens stand for at most one thing
  pub one_reading : (ts : List Lexeme) (y z : B) → Derives means ts y → Derives means ts z → y ≡ z
  unfolding values-of
  one_reading ts y z a b =
      let e : b.0 + a.0 ≡ a.0 + b.0 = omega arith in
      let f = is.back a.0 ts y a.1 in
      let g = is.back b.0 ts z b.1 in
      let p = read-in a.0 b.0 ts (is.part y) f.0 in
      let q = read-in b.0 a.0 ts (is.part z) g.0 in
      f.1 ∙ ap (is.made ts) (head_of (is.part y) (is.part z) [] [] (ap values-of (sym p ∙ (rw e at q)))) ∙ sym g.1
