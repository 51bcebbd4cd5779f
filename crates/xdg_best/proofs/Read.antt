-- Tokens that are gone through once say what the definitions say that they say.
use Rattle.std.proofs.Common.{◌≡◌, ◌∙◌, ℕ, ◌&&◌, Bool, true, false, List, [], ◌∷◌, ◌++◌, refl, sym, ap, subst, append_assoc, append-nil, Ok, Err}
use Rattle.std.specs.Prelude.{Result, if◌then◌else◌, bytes_eq}
use Rattle.std.proofs.lemmas.Bool.{and_parts}
use Rattle.std.proofs.lemmas.Slice.Eq.{bytes_eq-Decides}
use Rattle.xdg_base.specs.Faults.{fault_at}
use Rattle.xdg_base.specs.declared.faults.Fault.{Fault}
use Rattle.xdg_base.specs.declared.faults.Cause.TheVariants as causes
use Rattle.xdg_base.specs.declared.faults.Stop.{Stop}
use Rattle.xdg_base.specs.declared.faults.Stop.TheVariants as stops
use Rattle.xdg_ast.specs.declared.token.Kind.TheVariants as k
use Rattle.xdg_ast.specs.Lexemes.{Lexeme, lexeme}
use Rattle.xdg_ast.specs.Derives.{place_of}
use Rattle.xdg_ast.specs.Grammar.{name_of, num_of, number_of}
use Rattle.xdg_best.specs.declared.statements.Open.{Open}
use Rattle.xdg_best.specs.declared.statements.Open.TheVariants as open_
use Rattle.xdg_best.specs.declared.statements.Statement.{Statement}
use Rattle.xdg_best.specs.declared.statements.Statement.TheVariants as statements
use Rattle.xdg_best.specs.declared.statements.Turn.{Turn}
use Rattle.xdg_best.specs.declared.statements.Turn.TheVariants as turns
use Rattle.xdg_best.specs.Statements.{is_number, is_constant, is_name, is_word, entry_word, edge_word, Says, entry, edge, Derives}
use Rattle.xdg_best.specs.Reading.{Starts, Ends, IsUnexpectedAt, IsRefused, unexpected, IsAnswer, Tells}
use Rattle.xdg_base.specs.Told.{Gives}
use Rattle.xdg_best.specs.Turns.{turn_of, Outcome, after_turn, after_last, run, Runs}
use Rattle.xdg_facts.proofs.Truths.{and_false, choose}

-- ---- one step

pub run_nil : (end : ℕ) (made : List Statement) (o : Open) → run end made o [] ≡ after_last end made o
unfolding run
run_nil end made o = refl

run_cons : (end : ℕ) (made : List Statement) (o : Open) (t : Lexeme) (ts : List Lexeme)
    → run end made o (t ∷ ts) ≡ after_turn (turn_of o t) t.span.start (λ next. run end made next ts) (λ s. run end (made ++ s ∷ []) open_.Nothing ts)
unfolding run
run_cons end made o t ts = refl

pub goes : (end : ℕ) (made : List Statement) (o next : Open) (t : Lexeme) (ts : List Lexeme) → turn_of o t ≡ turns.GoesOn next → run end made o (t ∷ ts) ≡ run end made next ts
goes end made o next t ts e = run_cons end made o t ts ∙ ap (λ turn. after_turn turn t.span.start (λ n. run end made n ts) (λ s. run end (made ++ s ∷ []) open_.Nothing ts)) e

pub says : (end : ℕ) (made : List Statement) (o : Open) (s : Statement) (t : Lexeme) (ts : List Lexeme) → turn_of o t ≡ turns.Says s → run end made o (t ∷ ts) ≡ run end (made ++ s ∷ []) open_.Nothing ts
says end made o s t ts e = run_cons end made o t ts ∙ ap (λ turn. after_turn turn t.span.start (λ n. run end made n ts) (λ s. run end (made ++ s ∷ []) open_.Nothing ts)) e

pub stops_at : (end : ℕ) (made : List Statement) (o : Open) (t : Lexeme) (ts : List Lexeme) → turn_of o t ≡ turns.Refused → run end made o (t ∷ ts) ≡ Err t.span.start
stops_at end made o t ts e = run_cons end made o t ts ∙ ap (λ turn. after_turn turn t.span.start (λ n. run end made n ts) (λ s. run end (made ++ s ∷ []) open_.Nothing ts)) e

-- ---- the tokens of a statement that has begun

pub data Begins : List Lexeme → Open → Type 0 where
  nothing : Begins [] open_.Nothing
  entry_begun : (w : Lexeme) → is_word entry_word w ≡ true → Begins (w ∷ []) open_.Entry
  number_begun : (w n : Lexeme) → is_word entry_word w ≡ true → is_number n.kind ≡ true → Begins (w ∷ n ∷ []) (open_.Number (num_of n))
  edge_begun : (w : Lexeme) → is_word edge_word w ≡ true → Begins (w ∷ []) open_.Edge
  dim_begun : (w d : Lexeme) → is_word edge_word w ≡ true → is_constant d.kind ≡ true → Begins (w ∷ d ∷ []) (open_.Dim (name_of d))
  label_begun : (w d l : Lexeme) → is_word edge_word w ≡ true → is_constant d.kind ≡ true → is_constant l.kind ≡ true → Begins (w ∷ d ∷ l ∷ []) (open_.Label (name_of d) (name_of l))

-- the two words differ
not_both : (t : Lexeme) → is_word edge_word t ≡ true → is_word entry_word t ≡ false
not_both t e =
    let same : t.text ≡ edge_word = (bytes_eq-Decides t.text edge_word).0 (and_parts (is_name t.kind) _ e).1 in
    ap (λ z. is_name t.kind && bytes_eq z entry_word) same ∙ and_false (is_name t.kind)

entry_turn : (t : Lexeme) → is_word entry_word t ≡ true → turn_of open_.Nothing t ≡ turns.GoesOn open_.Entry
entry_turn t e = choose (is_word entry_word t) _ _ e

edge_turn : (t : Lexeme) → is_word edge_word t ≡ true → turn_of open_.Nothing t ≡ turns.GoesOn open_.Edge
edge_turn t e = ap (λ v. if v then turns.GoesOn open_.Entry else (if is_word edge_word t then turns.GoesOn open_.Edge else turns.Refused)) (not_both t e) ∙ choose (is_word edge_word t) _ _ e

-- the tokens of the beginning are gone past
past_begun : (end : ℕ) (made : List Statement) (o : Open) (us rest : List Lexeme) → Begins us o → run end made open_.Nothing (us ++ rest) ≡ run end made o rest
past_begun end made o us rest nothing = refl
past_begun end made o us rest (entry_begun w a) = goes end made _ _ w rest (entry_turn w a)
past_begun end made o us rest (number_begun w n a b) =
    goes end made _ _ w (n ∷ rest) (entry_turn w a) ∙ goes end made open_.Entry (open_.Number (num_of n)) n rest (choose (is_number n.kind) _ _ b)
past_begun end made o us rest (edge_begun w a) = goes end made _ _ w rest (edge_turn w a)
past_begun end made o us rest (dim_begun w d a b) =
    goes end made _ _ w (d ∷ rest) (edge_turn w a) ∙ goes end made open_.Edge (open_.Dim (name_of d)) d rest (choose (is_constant d.kind) _ _ b)
past_begun end made o us rest (label_begun w d l a b c) =
    goes end made _ _ w (d ∷ l ∷ rest) (edge_turn w a) ∙ goes end made open_.Edge (open_.Dim (name_of d)) d (l ∷ rest) (choose (is_constant d.kind) _ _ b)
    ∙ goes end made (open_.Dim (name_of d)) (open_.Label (name_of d) (name_of l)) l rest (choose (is_constant l.kind) _ _ c)

-- those of a statement too
past_said : (end : ℕ) (made : List Statement) (s : Statement) (us rest : List Lexeme) → Says us s → run end made open_.Nothing (us ++ rest) ≡ run end (made ++ s ∷ []) open_.Nothing rest
past_said end made s us rest (entry w n c a b e) =
    past_begun end made (open_.Number (num_of n)) (w ∷ n ∷ []) (c ∷ rest) (number_begun w n a b) ∙ says end made (open_.Number (num_of n)) _ c rest (choose (is_number c.kind) _ _ e)
past_said end made s us rest (edge w d l c a b e f) =
    past_begun end made (open_.Label (name_of d) (name_of l)) (w ∷ d ∷ l ∷ []) (c ∷ rest) (label_begun w d l a b e) ∙ says end made (open_.Label (name_of d) (name_of l)) _ c rest (choose (is_number c.kind) _ _ f)

-- and those of statements
past_all : (end : ℕ) (made ss : List Statement) (us rest : List Lexeme) → Derives us ss → run end made open_.Nothing (us ++ rest) ≡ run end (made ++ ss) open_.Nothing rest
past_all end made [] us rest e = ap (λ z. run end made open_.Nothing (z ++ rest)) e ∙ ap (λ m. run end m open_.Nothing rest) (sym (append-nil made))
past_all end made (s ∷ ss) us rest (xs, ys, split, said, more) =
    ap (λ z. run end made open_.Nothing (z ++ rest)) split ∙ ap (run end made open_.Nothing) (append_assoc xs ys rest) ∙ past_said end made s xs (ys ++ rest) said
    ∙ past_all end (made ++ s ∷ []) ss ys rest more ∙ ap (λ m. run end m open_.Nothing rest) (append_assoc made (s ∷ []) ss)

-- ---- what a turn tells

abbrev TurnTells : List Lexeme → Lexeme → Turn → Type 0
TurnTells us t (turns.GoesOn next) = Begins (us ++ t ∷ []) next
TurnTells us t (turns.Says s) = Says (us ++ t ∷ []) s
TurnTells us t turns.Refused = Unit {0}

tells_if : (us : List Lexeme) (t : Lexeme) (b : Bool) (x y : Turn) → (b ≡ true → TurnTells us t x) → (b ≡ false → TurnTells us t y) → TurnTells us t (if b then x else y)
tells_if us t true x y f g = f refl
tells_if us t false x y f g = g refl

turn_tells : (us : List Lexeme) (o : Open) (t : Lexeme) → Begins us o → TurnTells us t (turn_of o t)
turn_tells us o t nothing = tells_if [] t (is_word entry_word t) _ _ (λ a. entry_begun t a) (λ _. tells_if [] t (is_word edge_word t) _ _ (λ a. edge_begun t a) (λ _. tt))
turn_tells us o t (entry_begun w a) = tells_if (w ∷ []) t (is_number t.kind) _ _ (λ b. number_begun w t a b) (λ _. tt)
turn_tells us o t (number_begun w n a b) = tells_if (w ∷ n ∷ []) t (is_number t.kind) _ _ (λ c. entry w n t a b c) (λ _. tt)
turn_tells us o t (edge_begun w a) = tells_if (w ∷ []) t (is_constant t.kind) _ _ (λ b. dim_begun w t a b) (λ _. tt)
turn_tells us o t (dim_begun w d a b) = tells_if (w ∷ d ∷ []) t (is_constant t.kind) _ _ (λ c. label_begun w d t a b c) (λ _. tt)
turn_tells us o t (label_begun w d l a b c) = tells_if (w ∷ d ∷ l ∷ []) t (is_number t.kind) _ _ (λ e. edge w d l t a b c e) (λ _. tt)

-- ---- how far tokens go

-- the tokens are those of these statements, and of the beginning of a further one
pub record Reached (before : List Lexeme) (made : List Statement) (o : Open) : Type 0 where
  pub whole : List Lexeme
  pub begun : List Lexeme
  pub split : before ≡ whole ++ begun
  pub derives : Derives whole made
  pub begins : Begins begun o

derives_more : (us vs : List Lexeme) (ss : List Statement) (s : Statement) → Derives us ss → Says vs s → Derives (us ++ vs) (ss ++ s ∷ [])
derives_more us vs [] s e said = (vs, [], ap (λ z. z ++ vs) e ∙ sym (append-nil vs), said, refl)
derives_more us vs (x ∷ ss) s (xs, ys, split, first, more) said = (xs, ys ++ vs, ap (λ z. z ++ vs) split ∙ append_assoc xs ys vs, first, derives_more ys vs ss s more said)

reached_none : Reached [] [] open_.Nothing
reached_none = record { whole = []; begun = []; split = refl; derives = refl; begins = nothing }

reached_on : (before : List Lexeme) (made : List Statement) (o next : Open) (t : Lexeme) (r : Reached before made o) → Begins (r.begun ++ t ∷ []) next → Reached (before ++ t ∷ []) made next
reached_on before made o next t r b = record { whole = r.whole; begun = r.begun ++ t ∷ []; split = ap (λ z. z ++ t ∷ []) r.split ∙ append_assoc r.whole r.begun (t ∷ []); derives = r.derives; begins = b }

reached_said : (before : List Lexeme) (made : List Statement) (o : Open) (s : Statement) (t : Lexeme) (r : Reached before made o) → Says (r.begun ++ t ∷ []) s → Reached (before ++ t ∷ []) (made ++ s ∷ []) open_.Nothing
reached_said before made o s t r said = record {
  whole = r.whole ++ (r.begun ++ t ∷ []);
  begun = [];
  split = ap (λ z. z ++ t ∷ []) r.split ∙ append_assoc r.whole r.begun (t ∷ []) ∙ sym (append-nil (r.whole ++ (r.begun ++ t ∷ [])));
  derives = derives_more r.whole (r.begun ++ t ∷ []) made s r.derives said;
  begins = nothing;
}

-- what tokens behind them say
walks : (end : ℕ) (before rest : List Lexeme) (made : List Statement) (o : Open) → Reached before made o → run end [] open_.Nothing (before ++ rest) ≡ run end made o rest
walks end before rest made o r =
    ap (λ z. run end [] open_.Nothing (z ++ rest)) r.split ∙ ap (run end [] open_.Nothing) (append_assoc r.whole r.begun rest)
    ∙ past_all end [] made r.whole (r.begun ++ rest) r.derives ∙ past_begun end made o r.begun rest r.begins

-- ---- something goes on behind each beginning

abbrev some_number : Lexeme
some_number = lexeme k.Number 0 []

abbrev some_name : Lexeme
some_name = lexeme k.Quoted 0 []

-- tokens that make a beginning whole
pub record Wholes (us : List Lexeme) : Type 0 where
  pub more : List Lexeme
  pub said : List Statement
  pub derives : Derives (us ++ more) said

one_said : (us : List Lexeme) (s : Statement) → Says us s → Derives us (s ∷ [])
one_said us s said = (us, [], sym (append-nil us), said, refl)

wholes : (us : List Lexeme) (o : Open) → Begins us o → Wholes us
wholes us o nothing = record { more = []; said = []; derives = refl }
wholes us o (entry_begun w a) = record { more = some_number ∷ some_number ∷ []; said = statements.Entry (num_of some_number) (number_of some_number) ∷ []; derives = one_said _ _ (entry w some_number some_number a refl refl) }
wholes us o (number_begun w n a b) = record { more = some_number ∷ []; said = statements.Entry (num_of n) (number_of some_number) ∷ []; derives = one_said _ _ (entry w n some_number a b refl) }
wholes us o (edge_begun w a) = record { more = some_name ∷ some_name ∷ some_number ∷ []; said = statements.Edge (name_of some_name) (name_of some_name) (number_of some_number) ∷ []; derives = one_said _ _ (edge w some_name some_name some_number a refl refl refl) }
wholes us o (dim_begun w d a b) = record { more = some_name ∷ some_number ∷ []; said = statements.Edge (name_of d) (name_of some_name) (number_of some_number) ∷ []; derives = one_said _ _ (edge w d some_name some_number a b refl refl) }
wholes us o (label_begun w d l a b c) = record { more = some_number ∷ []; said = statements.Edge (name_of d) (name_of l) (number_of some_number) ∷ []; derives = one_said _ _ (edge w d l some_number a b c refl) }

derives_both : (us vs : List Lexeme) (ss rs : List Statement) → Derives us ss → Derives vs rs → Derives (us ++ vs) (ss ++ rs)
derives_both us vs [] rs e more = subst (λ z. Derives (z ++ vs) rs) (sym e) more
derives_both us vs (s ∷ ss) rs (xs, ys, split, first, rest) more = (xs, ys ++ vs, ap (λ z. z ++ vs) split ∙ append_assoc xs ys vs, first, derives_both ys vs ss rs rest more)

starts : (before : List Lexeme) (made : List Statement) (o : Open) → Reached before made o → Starts before
starts before made o r =
    let w = wholes r.begun o r.begins in
    (w.more, made ++ w.said, subst (λ z. Derives (z ++ w.more) (made ++ w.said)) (sym r.split) (subst (λ z. Derives z (made ++ w.said)) (sym (append_assoc r.whole r.begun w.more)) (derives_both r.whole (r.begun ++ w.more) made w.said r.derives w.derives)))

-- what derives is run through
pub whole_run : (end : ℕ) (ts : List Lexeme) (ss : List Statement) → Derives ts ss → run end [] open_.Nothing ts ≡ Ok ss
whole_run end ts ss d = ap (run end [] open_.Nothing) (sym (append-nil ts)) ∙ past_all end [] ss ts [] d ∙ run_nil end ss open_.Nothing

-- behind what was reached no token is refused with which something starts
goes_on : (before : List Lexeme) (made : List Statement) (o : Open) (t : Lexeme) → Reached before made o → turn_of o t ≡ turns.Refused → Starts (before ++ t ∷ []) → ⊥
goes_on before made o t r e (more, ss, d) =
    let all = whole_run 0 ((before ++ t ∷ []) ++ more) ss d in
    let here = ap (run 0 [] open_.Nothing) (append_assoc before (t ∷ []) more) ∙ walks 0 before (t ∷ more) made o r ∙ stops_at 0 made o t more e in
    let bad : ◌≡◌ {A = Outcome} (Ok ss) (Err t.span.start) = sym all ∙ here in cc

abbrev Told : List Lexeme → ℕ → Outcome → Type 0
Told ts end (Ok ss) = Derives ts ss
Told ts end (Err at) = IsUnexpectedAt ts end at

-- the end, where a statement has begun
unfinished : (before : List Lexeme) (end : ℕ) (made : List Statement) (o : Open) → Reached before made o → after_last end made o ≡ Err end → IsUnexpectedAt before end end
unfinished before end made o r e = record {
  before = before;
  rest = [];
  split = sym (append-nil before);
  place_is = refl;
  starts = starts before made o r;
  ends = λ ss d.
      let here : run end [] open_.Nothing before ≡ Err end = ap (run end [] open_.Nothing) (sym (append-nil before)) ∙ walks end before [] made o r ∙ run_nil end made o ∙ e in
      let bad : ◌≡◌ {A = Outcome} (Ok ss) (Err end) = sym (whole_run end before ss d) ∙ here in cc;
}

told_last : (before : List Lexeme) (end : ℕ) (made : List Statement) (o : Open) → Reached before made o → Told before end (after_last end made o)
told_last before end made open_.Nothing r =
    subst (λ z. Derives z made) (sym (r.split ∙ ap (λ z. r.whole ++ z) (none_begun r.begun r.begins) ∙ append-nil r.whole)) r.derives
  where
    none_begun : (us : List Lexeme) → Begins us open_.Nothing → us ≡ []
    none_begun us nothing = refl
told_last before end made o r = unfinished before end made o r refl

-- a token behind which nothing goes on
refused_at : (before : List Lexeme) (end : ℕ) (made : List Statement) (o : Open) (t : Lexeme) (ts : List Lexeme) → Reached before made o → turn_of o t ≡ turns.Refused → IsUnexpectedAt (before ++ t ∷ ts) end t.span.start
refused_at before end made o t ts r e = record { before = before; rest = t ∷ ts; split = refl; place_is = refl; starts = starts before made o r; ends = goes_on before made o t r e }

told_turn : (end : ℕ) (t : Lexeme) (ts before : List Lexeme) (made : List Statement) (o : Open) (r : Reached before made o)
    → ((more : List Lexeme) (n : List Statement) (p : Open) → Reached more n p → Told (more ++ ts) end (run end n p ts))
    → (turn : Turn) → turn_of o t ≡ turn → TurnTells r.begun t turn → Told (before ++ t ∷ ts) end (run end made o (t ∷ ts))
told_turn end t ts before made o r again (turns.GoesOn next) e tells =
    subst (λ z. Told z end (run end made o (t ∷ ts))) (append_assoc before (t ∷ []) ts)
    (subst (Told ((before ++ t ∷ []) ++ ts) end) (sym (goes end made o next t ts e)) (again (before ++ t ∷ []) made next (reached_on before made o next t r tells)))
told_turn end t ts before made o r again (turns.Says s) e tells =
    subst (λ z. Told z end (run end made o (t ∷ ts))) (append_assoc before (t ∷ []) ts)
    (subst (Told ((before ++ t ∷ []) ++ ts) end) (sym (says end made o s t ts e)) (again (before ++ t ∷ []) (made ++ s ∷ []) open_.Nothing (reached_said before made o s t r tells)))
told_turn end t ts before made o r again turns.Refused e tells =
    subst (Told (before ++ t ∷ ts) end) (sym (stops_at end made o t ts e)) (refused_at before end made o t ts r e)

told : (end : ℕ) (ts before : List Lexeme) (made : List Statement) (o : Open) → Reached before made o → Told (before ++ ts) end (run end made o ts)
told end [] before made o r = subst (λ z. Told z end (run end made o [])) (sym (append-nil before)) (subst (Told before end) (sym (run_nil end made o)) (told_last before end made o r))
told end (t ∷ ts) before made o r = told_turn end t ts before made o r (told end ts) (turn_of o t) refl (turn_tells r.begun o t r.begins)

-- ---- one answer

-- how far tokens go that start something
pub record Goes (before : List Lexeme) : Type 0 where
  pub made : List Statement
  pub open_with : Open
  pub reached : Reached before made open_with

reach_turn : (more : List Lexeme) (t : Lexeme) (ts before : List Lexeme) (ss made : List Statement) (o : Open) (r : Reached before made o)
    → ((front : List Lexeme) (n : List Statement) (p : Open) → Reached front n p → run 0 n p (ts ++ more) ≡ Ok ss → Goes (front ++ ts))
    → (turn : Turn) → turn_of o t ≡ turn → TurnTells r.begun t turn → run 0 made o (t ∷ (ts ++ more)) ≡ Ok ss → Goes (before ++ t ∷ ts)
reach_turn more t ts before ss made o r again (turns.GoesOn next) e tells all =
    subst Goes (append_assoc before (t ∷ []) ts) (again (before ++ t ∷ []) made next (reached_on before made o next t r tells) (sym (goes 0 made o next t (ts ++ more) e) ∙ all))
reach_turn more t ts before ss made o r again (turns.Says s) e tells all =
    subst Goes (append_assoc before (t ∷ []) ts) (again (before ++ t ∷ []) (made ++ s ∷ []) open_.Nothing (reached_said before made o s t r tells) (sym (says 0 made o s t (ts ++ more) e) ∙ all))
reach_turn more t ts before ss made o r again turns.Refused e tells all = absurd (let bad : ◌≡◌ {A = Outcome} (Ok ss) (Err t.span.start) = sym all ∙ stops_at 0 made o t (ts ++ more) e in cc)

reach : (more ts before : List Lexeme) (ss made : List Statement) (o : Open) → Reached before made o → run 0 made o (ts ++ more) ≡ Ok ss → Goes (before ++ ts)
reach more [] before ss made o r e = record { made = made; open_with = o; reached = subst (λ z. Reached z made o) (sym (append-nil before)) r }
reach more (t ∷ ts) before ss made o r e = reach_turn more t ts before ss made o r (λ front n p q all. reach more ts front ss n p q all) (turn_of o t) refl (turn_tells r.begun o t r.begins) e

goes_so_far : (before : List Lexeme) → Starts before → Goes before
goes_so_far before (more, ss, d) = reach more before [] ss [] open_.Nothing reached_none (whole_run 0 (before ++ more) ss d)

-- where nothing goes on, that is told
only_last : (before : List Lexeme) (end : ℕ) (made : List Statement) (o : Open) → Reached before made o → ((ss : List Statement) → Derives before ss → ⊥) → after_last end made o ≡ Err end
only_last before end made open_.Nothing r no_more = absurd (no_more made (told_last before 0 made open_.Nothing r))
only_last before end made o r no_more = refl

only_turn : (before : List Lexeme) (end : ℕ) (made : List Statement) (o : Open) (t : Lexeme) (ts : List Lexeme) (r : Reached before made o) (turn : Turn) → turn_of o t ≡ turn → TurnTells r.begun t turn → (Starts (before ++ t ∷ []) → ⊥) → run end made o (t ∷ ts) ≡ Err t.span.start
only_turn before end made o t ts r (turns.GoesOn next) e tells no_more = absurd (no_more (starts (before ++ t ∷ []) made next (reached_on before made o next t r tells)))
only_turn before end made o t ts r (turns.Says s) e tells no_more = absurd (no_more (starts (before ++ t ∷ []) (made ++ s ∷ []) open_.Nothing (reached_said before made o s t r tells)))
only_turn before end made o t ts r turns.Refused e tells no_more = stops_at end made o t ts e

only_rest : (before rest : List Lexeme) (end : ℕ) (made : List Statement) (o : Open) → Reached before made o → Ends before rest → run end made o rest ≡ Err (place_of end rest)
only_rest before [] end made o r ends = run_nil end made o ∙ only_last before end made o r ends
only_rest before (t ∷ ts) end made o r ends = only_turn before end made o t ts r (turn_of o t) refl (turn_tells r.begun o t r.begins) ends

pub unexpected_run : (ts : List Lexeme) (end place : ℕ) → IsUnexpectedAt ts end place → run end [] open_.Nothing ts ≡ Err place
unexpected_run ts end place is =
    let g = goes_so_far is.before is.starts in
    ap (run end [] open_.Nothing) is.split ∙ walks end is.before is.rest g.made g.open_with g.reached ∙ only_rest is.before is.rest end g.made g.open_with g.reached is.ends ∙ ap Err (sym is.place_is)

-- ---- what the call answers

told_as : (ts : List Lexeme) (end : ℕ) (outcome : Outcome) (result : Result (List Statement) Stop) → Told ts end outcome → Runs outcome result → Tells ts end result
told_as ts end outcome (Ok made) told runs = subst (Told ts end) runs told
told_as ts end outcome (Err (stops.Fault f)) told (at, is, said) = subst (IsRefused ts end) (sym said) (unexpected at (subst (Told ts end) is told))
told_as ts end outcome (Err stops.OutOfMemory) told runs = tt

pub run_tells : (ts : List Lexeme) (end : ℕ) (result : Result (List Statement) Stop) → Runs (run end [] open_.Nothing ts) result → Tells ts end result
run_tells ts end result runs = told_as ts end (run end [] open_.Nothing ts) result (told end ts [] [] open_.Nothing reached_none) runs

only_one : (ts : List Lexeme) (end : ℕ) (outcome : Outcome) (result : Result (List Statement) Stop) → run end [] open_.Nothing ts ≡ outcome → Runs outcome result → (answer : Result (List Statement) Fault) → IsAnswer ts end answer → Gives answer result
only_one ts end outcome (Err stops.OutOfMemory) is runs answer said = tt
only_one ts end outcome (Ok made) is runs (Ok ss) said = let e : ◌≡◌ {A = Outcome} (Ok ss) (Ok made) = sym (whole_run end ts ss said) ∙ is ∙ runs in cc
only_one ts end outcome (Ok made) is runs (Err f) (unexpected place bad) = absurd (let e : ◌≡◌ {A = Outcome} (Err place) (Ok made) = sym (unexpected_run ts end place bad) ∙ is ∙ runs in cc)
only_one ts end outcome (Err (stops.Fault f)) is (at, runs, fault) (Ok ss) said = absurd (let e : ◌≡◌ {A = Outcome} (Ok ss) (Err at) = sym (whole_run end ts ss said) ∙ is ∙ runs in cc)
only_one ts end outcome (Err (stops.Fault f)) is (at, runs, fault) (Err g) (unexpected place bad) =
    let e : ◌≡◌ {A = Outcome} (Err place) (Err at) = sym (unexpected_run ts end place bad) ∙ is ∙ runs in
    let same : place ≡ at = cc in
    ap Err (ap (fault_at causes.Unexpected) same ∙ sym fault)

pub run_only : (ts : List Lexeme) (end : ℕ) (result : Result (List Statement) Stop) → Runs (run end [] open_.Nothing ts) result → (answer : Result (List Statement) Fault) → IsAnswer ts end answer → Gives answer result
run_only ts end result runs answer said = only_one ts end (run end [] open_.Nothing ts) result refl runs answer said
