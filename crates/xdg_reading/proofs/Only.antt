-- A text has one answer.
use Rattle.std.proofs.Common.{◌≡◌, ◌<◌, ◌++◌, ◌+◌, ◌-◌, ◌==◌, inl, inr, ℕ, suc, List, [], ◌∷◌, length, refl, sym, ap, ap₂, ◌∙◌, subst, arith, cond, Some, None, Ok, Err, append_assoc, append-nil, length-append, nat_lt, add-one}
use Rattle.std.specs.Prelude.{Result, IsUtf8}
use Rattle.std.specs.Str.{IsValidUpTo}
use Rattle.std.proofs.lemmas.Bool.{eq-eqb, ne_eqb, and_from, lt-ltb}
use Rattle.xdg_base.specs.Faults.{fault_at}
use Rattle.xdg_base.specs.declared.faults.Fault.{Fault}
use Rattle.xdg_base.specs.declared.faults.Cause.TheVariants as causes
use Rattle.xdg_base.specs.declared.faults.Stop.{Stop}
use Rattle.xdg_base.specs.declared.faults.Stop.TheVariants as stops
use Rattle.xdg_base.specs.declared.ids.EntryNo.{EntryNo}
use Rattle.xdg_problem.specs.declared.parts.SentenceWord.{SentenceWord}
use Rattle.xdg_reading.specs.declared.line.Line.{Line}
use Rattle.xdg_reading.specs.declared.line.Line.TheVariants as lines
use Rattle.xdg_reading.specs.declared.stage.Stage.{Stage}
use Rattle.xdg_reading.specs.declared.stage.Stage.TheVariants as stages
use Rattle.xdg_reading.specs.declared.texts.AnalysisText.{AnalysisText}
use Rattle.xdg_reading.specs.declared.texts.AttrLine.{AttrLine}
use Rattle.xdg_reading.specs.declared.texts.EdgeLine.{EdgeLine}
use Rattle.xdg_reading.specs.Gathered.{Whole}
use Rattle.xdg_reading.specs.Lines.{line_text, text_of, IsLine, line_at}
use Rattle.xdg_reading.specs.Stages.{next, Goes, OffendsAt}
use Rattle.xdg_reading.specs.Texts.{word_lines, lines_of, lines2_of, Placed, IsText, IsRefused, no_text, no_analysis, IsAnswer, Tells}
use Rattle.xdg_base.specs.Told.{Gives}
use Rattle.xdg_reading.proofs.LineLaws.{line_read}
use Rattle.xdg_reading.proofs.Shapes.{whole_text, words_in, entries_in, attrs_in, edges_in, edge_lines, attr_lines}
use Rattle.xdg_reading.proofs.Steps.{pair}
use Rattle.xdg_facts.proofs.Texts.{one_place}
use Rattle.xdg_facts.proofs.Options.{none_some, some_same}

-- edges and the last line come one after the other
edges_go : (at : ℕ) (s : Stage) (es : List EdgeLine) → ((e : EdgeLine) → next s (lines.Edge e) ≡ Some stages.Edges) → next s lines.End ≡ Some stages.Ended → Placed at (edge_lines es) → Goes at s (edge_lines es) stages.Ended
edges_go at s [] edge end placed = (placed.0, (stages.Ended, end, refl))
edges_go at s (e ∷ es) edge end placed = (placed.0, (stages.Edges, edge e, edges_go (at + length (line_text (lines.Edge e))) stages.Edges es (λ e. refl) refl placed.1))

attrs_go : (at : ℕ) (s : Stage) (xs : List AttrLine) (es : List EdgeLine) → ((a : AttrLine) → next s (lines.Attr a) ≡ Some stages.Attrs) → ((e : EdgeLine) → next s (lines.Edge e) ≡ Some stages.Edges) → next s lines.End ≡ Some stages.Ended → Placed at (attr_lines xs es) → Goes at s (attr_lines xs es) stages.Ended
attrs_go at s [] es attr edge end placed = edges_go at s es edge end placed
attrs_go at s (a ∷ xs) es attr edge end placed = (placed.0, (stages.Attrs, attr a, attrs_go (at + length (line_text (lines.Attr a))) stages.Attrs xs es (λ a. refl) (λ e. refl) refl placed.1))

some_words : (k : ℕ) (x : Stage) → (k ≡ 0 → ⊥) → cond (k == 0) None (Some x) ≡ Some x
some_words k x some = ap (λ t. cond t None (Some x)) (ne_eqb k 0 some)

words_go : (at k : ℕ) (ws : List SentenceWord) (entries : List EntryNo) (xs : List AttrLine) (es : List EdgeLine) → length entries ≡ length ws → (k ≡ 0 → 0 < length ws) → Placed at (word_lines k ws entries ++ attr_lines xs es) → Goes at (stages.Words k) (word_lines k ws entries ++ attr_lines xs es) stages.Ended
words_go at k [] entries xs es each some placed =
    let later : k ≡ 0 → ⊥ = λ e. omega (arith, some e) in
    attrs_go at (stages.Words k) xs es (λ a. some_words k stages.Attrs later) (λ e. some_words k stages.Edges later) (some_words k stages.Ended later) placed
words_go at k (w ∷ ws) [] xs es each some placed = absurd (omega (arith, each))
words_go at k (w ∷ ws) (entry ∷ entries) xs es each some placed =
    let place : ℕ = at + length (line_text (lines.Word (record { 0 = k }) w entry)) in
    let more = words_go place (suc k) ws entries xs es (omega (arith, each)) (λ first. absurd (omega (arith, first))) placed.1 in
    (placed.0, (stages.Words (k + 1), ap (λ t. cond t (Some (stages.Words (k + 1))) None) (eq-eqb k k refl), subst (λ n. Goes place (stages.Words n) (word_lines (suc k) ws entries ++ attr_lines xs es) stages.Ended) (sym (add-one k)) more))

-- in text 2
edges_left : (at k : ℕ) (es : List EdgeLine) → Placed at (edge_lines es) → Goes at (stages.Left k 0 0 (length es)) (edge_lines es) stages.Ended
edges_left at k [] placed = (placed.0, (stages.Ended, refl, refl))
edges_left at k (e ∷ es) placed =
    let one_less : suc (length es) - 1 ≡ length es = omega arith in
    (placed.0, (stages.Left k 0 0 (length es), ap (λ t. cond t (Some (stages.Left k 0 0 (suc (length es) - 1))) None) (lt-ltb 0 (suc (length es)) (omega arith)) ∙ ap (λ n. Some (stages.Left k 0 0 n)) one_less, edges_left (at + length (line_text (lines.Edge e))) k es placed.1))

attrs_left : (at k : ℕ) (xs : List AttrLine) (es : List EdgeLine) → Placed at (attr_lines xs es) → Goes at (stages.Left k 0 (length xs) (length es)) (attr_lines xs es) stages.Ended
attrs_left at k [] es placed = edges_left at k es placed
attrs_left at k (a ∷ xs) es placed =
    let one_less : suc (length xs) - 1 ≡ length xs = omega arith in
    (placed.0, (stages.Left k 0 (length xs) (length es), ap (λ t. cond t (Some (stages.Left k 0 (suc (length xs) - 1) (length es))) None) (lt-ltb 0 (suc (length xs)) (omega arith)) ∙ ap (λ n. Some (stages.Left k 0 n (length es))) one_less, attrs_left (at + length (line_text (lines.Attr a))) k xs es placed.1))

words_left : (at k : ℕ) (ws : List SentenceWord) (entries : List EntryNo) (xs : List AttrLine) (es : List EdgeLine) → length entries ≡ length ws → Placed at (word_lines k ws entries ++ attr_lines xs es) → Goes at (stages.Left k (length ws) (length xs) (length es)) (word_lines k ws entries ++ attr_lines xs es) stages.Ended
words_left at k [] entries xs es each placed = attrs_left at k xs es placed
words_left at k (w ∷ ws) [] xs es each placed = absurd (omega (arith, each))
words_left at k (w ∷ ws) (entry ∷ entries) xs es each placed =
    let place : ℕ = at + length (line_text (lines.Word (record { 0 = k }) w entry)) in
    let one_less : suc (length ws) - 1 ≡ length ws = omega arith in
    let more = words_left place (suc k) ws entries xs es (omega (arith, each)) placed.1 in (
      placed.0,
      (
        stages.Left (k + 1) (length ws) (length xs) (length es),
        ap (λ t. cond t (Some (stages.Left (k + 1) (suc (length ws) - 1) (length xs) (length es))) None) (and_from (nat_lt 0 (suc (length ws))) (k == k) (lt-ltb 0 (suc (length ws)) (omega arith)) (eq-eqb k k refl)) ∙ ap (λ n. Some (stages.Left (k + 1) n (length xs) (length es))) one_less,
        subst (λ n. Goes place (stages.Left n (length ws) (length xs) (length es)) (word_lines (suc k) ws entries ++ attr_lines xs es) stages.Ended) (sym (add-one k)) more,
      ),
    )

-- what the lines of a text say
record Say (ls : List Line) (ws : List SentenceWord) (entries : List EntryNo) (xs : List AttrLine) (es : List EdgeLine) : Type 0 where
  pub words : words_in ls ≡ ws
  pub entries_are : entries_in ls ≡ entries
  pub attrs : attrs_in ls ≡ xs
  pub edges : edges_in ls ≡ es

edges_say : (es : List EdgeLine) → Say (edge_lines es) [] [] [] es
edges_say [] = record { words = refl; entries_are = refl; attrs = refl; edges = refl }
edges_say (e ∷ es) = let more = edges_say es in record { words = more.words; entries_are = more.entries_are; attrs = more.attrs; edges = ap (λ z. e ∷ z) more.edges }

attrs_say : (xs : List AttrLine) (es : List EdgeLine) → Say (attr_lines xs es) [] [] xs es
attrs_say [] es = edges_say es
attrs_say (a ∷ xs) es = let more = attrs_say xs es in record { words = more.words; entries_are = more.entries_are; attrs = ap (λ z. a ∷ z) more.attrs; edges = more.edges }

words_say : (k : ℕ) (ws : List SentenceWord) (entries : List EntryNo) (xs : List AttrLine) (es : List EdgeLine) → length entries ≡ length ws → Say (word_lines k ws entries ++ attr_lines xs es) ws entries xs es
words_say k [] [] xs es each = attrs_say xs es
words_say k [] (entry ∷ entries) xs es each = absurd (omega (arith, each))
words_say k (w ∷ ws) [] xs es each = absurd (omega (arith, each))
words_say k (w ∷ ws) (entry ∷ entries) xs es each = let more = words_say (suc k) ws entries xs es (omega (arith, each)) in record { words = ap (λ z. w ∷ z) more.words; entries_are = ap (λ z. entry ∷ z) more.entries_are; attrs = more.attrs; edges = more.edges }

-- a text is read to its end
pub text_whole : (bytes : List ℕ) (t : AnalysisText) → IsText bytes t → Whole bytes t
text_whole bytes t (number, inl has) =
    let say = words_say 0 t.words t.entries t.attrs t.edges has.each in
    record {
      lines = lines_of number t;
      goes = (has.placed.0, (stages.Words 0, refl, words_go _ 0 t.words t.entries t.attrs t.edges has.each (λ first. has.some) has.placed.1));
      parts = has.parts;
      holds = record { words = sym say.words; entries = sym say.entries_are; attrs = sym say.attrs; edges = sym say.edges };
      end = has.end;
    }
text_whole bytes t (number, inr has) =
    let say = words_say 0 t.words t.entries t.attrs t.edges has.each in
    let placed = has.placed in
    let left = words_left _ 0 t.words t.entries t.attrs t.edges has.each placed.1.1.1 in
    record {
      lines = lines2_of number t;
      goes = (placed.0, (stages.Second, refl, (placed.1.0, (stages.Numbered, refl, (placed.1.1.0, (stages.Left 0 (length t.words) (length t.attrs) (length t.edges), refl, left))))));
      parts = has.parts;
      holds = record { words = sym say.words; entries = sym say.entries_are; attrs = sym say.attrs; edges = sym say.edges };
      end = has.end;
    }

-- no line may come any more
abbrev Dead : ℕ → Stage → List ℕ → Type 0
Dead at stage left = (line : Line) (more : List ℕ) (later : Stage) → IsLine at line → left ≡ line_text line ++ more → next stage line ≡ Some later → ⊥

text_cons : (l : Line) (ls : List Line) (x : List ℕ) → text_of (l ∷ ls) ++ x ≡ line_text l ++ (text_of ls ++ x)
text_cons l ls x = append_assoc (line_text l) (text_of ls) x

record Same (ls ms : List Line) (u v : Stage) (x y : List ℕ) : Type 0 where
  pub lines_are : ls ≡ ms
  pub stages_are : u ≡ v
  pub left : x ≡ y

-- two ways through one text that come to an end are one
one_way : (at : ℕ) (s : Stage) (ls ms : List Line) (u v : Stage) (x y : List ℕ) → Goes at s ls u → Goes at s ms v → text_of ls ++ x ≡ text_of ms ++ y → Dead (at + length (text_of ls)) u x → Dead (at + length (text_of ms)) v y → Same ls ms u v x y
one_way at s [] [] u v x y a b e c d = record { lines_are = refl; stages_are = sym a ∙ b; left = e }
one_way at s [] (m ∷ ms) u v x y a (is, (t, step, more)) e c d =
    let here : at + 0 ≡ at = omega arith in
    absurd (c m (text_of ms ++ y) t (subst (λ k. IsLine k m) (sym here) is) (e ∙ text_cons m ms y) (ap (λ z. next z m) (sym a) ∙ step))
one_way at s (l ∷ ls) [] u v x y (is, (t, step, more)) b e c d =
    let here : at + 0 ≡ at = omega arith in
    absurd (d l (text_of ls ++ x) t (subst (λ k. IsLine k l) (sym here) is) (sym e ∙ text_cons l ls x) (ap (λ z. next z l) (sym b) ∙ step))
one_way at s (l ∷ ls) (m ∷ ms) u v x y (is, (t, step, more)) (is2, (t2, step2, more2)) e c d =
    let both = some_same (pair l (text_of ls ++ x)) (pair m (text_of ms ++ y)) (sym (line_read at l (text_of ls ++ x) is) ∙ ap (line_at at) (sym (text_cons l ls x) ∙ e ∙ text_cons m ms y) ∙ line_read at m (text_of ms ++ y) is2) in
    let same : l ≡ m = ap (λ (p : Line × List ℕ). p.0) both in
    let rest : text_of ls ++ x ≡ text_of ms ++ y = ap (λ (p : Line × List ℕ). p.1) both in
    let stage : t ≡ t2 = some_same t t2 (sym step ∙ ap (next s) same ∙ step2) in
    let here : ℕ = at + length (line_text l) in
    let there : at + length (line_text m) ≡ here = ap (λ z. at + length (line_text z)) (sym same) in
    let first : at + (length (line_text l ++ text_of ls)) ≡ here + length (text_of ls) = omega (arith, length-append (line_text l) (text_of ls)) in
    let other : at + (length (line_text m ++ text_of ms)) ≡ here + length (text_of ms) = omega (arith, length-append (line_text m) (text_of ms), there) in
    let tail = one_way here t ls ms u v x y more (subst (λ z. Goes here z ms v) (sym stage) (subst (λ k. Goes k t2 ms v) there more2)) rest (subst (λ k. Dead k u x) first c) (subst (λ k. Dead k v y) other d) in
    record { lines_are = ap₂ (λ a b. a ∷ b) same tail.lines_are; stages_are = tail.stages_are; left = tail.left }

whole_dead : (at : ℕ) → Dead at stages.Ended []
whole_dead at l more later is parts step = none_some later step

same_text : (t o : AnalysisText) → t.words ≡ o.words → t.entries ≡ o.entries → t.attrs ≡ o.attrs → t.edges ≡ o.edges → t.end ≡ o.end → t ≡ o
same_text t o words entries attrs edges end = λ i. record { words = words i; entries = entries i; attrs = attrs i; edges = edges i; end = end i }

whole_whole : (bytes : List ℕ) (t o : AnalysisText) → Whole bytes t → Whole bytes o → t ≡ o
whole_whole bytes t o a b =
    let same = one_way 0 stages.Start a.lines b.lines stages.Ended stages.Ended [] [] a.goes b.goes (append-nil (text_of a.lines) ∙ sym a.parts ∙ b.parts ∙ sym (append-nil (text_of b.lines))) (whole_dead (0 + length (text_of a.lines))) (whole_dead (0 + length (text_of b.lines))) in
    let is = same.lines_are in
    same_text t o (a.holds.words ∙ ap words_in is ∙ sym b.holds.words) (a.holds.entries ∙ ap entries_in is ∙ sym b.holds.entries) (a.holds.attrs ∙ ap attrs_in is ∙ sym b.holds.attrs) (a.holds.edges ∙ ap edges_in is ∙ sym b.holds.edges) (omega (arith, a.end, b.end))

dead_of : (bytes : List ℕ) (at : ℕ) → (o : OffendsAt bytes at) → Dead (0 + length (text_of o.lines)) o.stage o.left
dead_of bytes at o l more later is parts step = let place : 0 + length (text_of o.lines) ≡ at = omega (arith, o.place) in o.stuck.none l more later (subst (λ k. IsLine k l) place is) parts step

whole_offends : (bytes : List ℕ) (t : AnalysisText) (at : ℕ) → Whole bytes t → OffendsAt bytes at → ⊥
whole_offends bytes t at a o =
    let same = one_way 0 stages.Start a.lines o.lines stages.Ended o.stage [] o.left a.goes o.goes (append-nil (text_of a.lines) ∙ sym a.parts ∙ o.parts) (whole_dead (0 + length (text_of a.lines))) (dead_of bytes at o) in
    o.stuck.unread (sym same.stages_are) (sym same.left)

offends_once : (bytes : List ℕ) (at other : ℕ) → OffendsAt bytes at → OffendsAt bytes other → at ≡ other
offends_once bytes at other a o =
    let same = one_way 0 stages.Start a.lines o.lines a.stage o.stage a.left o.left a.goes o.goes (sym a.parts ∙ o.parts) (dead_of bytes at a) (dead_of bytes other o) in
    a.place ∙ ap (λ z. length (text_of z)) same.lines_are ∙ sym o.place

refused_once : (bytes : List ℕ) (one other : Fault) → IsRefused bytes one → IsRefused bytes other → one ≡ other
refused_once bytes one other (no_text n none valid) (no_text m nor valid2) = ap (fault_at causes.BadUtf8) (one_place bytes n m valid valid2)
refused_once bytes one other (no_text n none valid) (no_analysis m u o) = absurd (none u)
refused_once bytes one other (no_analysis n u o) (no_text m none valid) = absurd (none u)
refused_once bytes one other (no_analysis n u a) (no_analysis m v o) = ap (fault_at causes.NotAnalysis) (offends_once bytes n m a o)

text_or_refused : (bytes : List ℕ) (t : AnalysisText) (fault : Fault) → IsUtf8 bytes → Whole bytes t → IsRefused bytes fault → ⊥
text_or_refused bytes t fault u whole (no_text n none valid) = none u
text_or_refused bytes t fault u whole (no_analysis n v o) = whole_offends bytes t n whole o

-- a text has one answer
pub one_answer : (bytes : List ℕ) (one other : Result AnalysisText Fault) → IsAnswer bytes one → IsAnswer bytes other → one ≡ other
one_answer bytes (Ok t) (Ok o) a b = ap Ok (whole_whole bytes t o (text_whole bytes t a.1) (text_whole bytes o b.1))
one_answer bytes (Ok t) (Err fault) a b = absurd (text_or_refused bytes t fault a.0 (text_whole bytes t a.1) b)
one_answer bytes (Err fault) (Ok t) a b = absurd (text_or_refused bytes t fault b.0 (text_whole bytes t b.1) a)
one_answer bytes (Err one) (Err other) a b = ap Err (refused_once bytes one other a b)

pub only_answer : (bytes : List ℕ) (answer : Result AnalysisText Fault) (result : Result AnalysisText Stop) → IsAnswer bytes answer → Tells bytes result → Gives answer result
only_answer bytes answer (Ok t) is tells = one_answer bytes answer (Ok t) is tells
only_answer bytes answer (Err (stops.Fault fault)) is tells = one_answer bytes answer (Err fault) is tells
only_answer bytes answer (Err stops.OutOfMemory) is tells = tt

-- what the reading of lines answers is right
pub lines_told : (bytes : List ℕ) (t : AnalysisText) → IsUtf8 bytes → Whole bytes t → Tells bytes (Ok t)
lines_told bytes t u whole = (u, whole_text bytes t whole)

pub line_told : (bytes : List ℕ) (at : ℕ) → IsUtf8 bytes → OffendsAt bytes at → Tells bytes (Err (stops.Fault (fault_at causes.NotAnalysis at)))
line_told bytes at u offends = no_analysis at u offends

pub bytes_told : (bytes : List ℕ) (at : ℕ) → (IsUtf8 bytes → ⊥) → IsValidUpTo bytes at → Tells bytes (Err (stops.Fault (fault_at causes.BadUtf8 at)))
bytes_told bytes at none valid = no_text at none valid
