-- How lines are read one after the other.
use Rattle.std.proofs.Common.{◌≡◌, ◌<◌, ◌≤◌, ◌++◌, ◌+◌, ◌-◌, ◌==◌, ◌&&◌, ℕ, List, [], ◌∷◌, length, refl, sym, ap, ◌∙◌, subst, arith, true, false, Some, None, append_assoc, append-nil, length-append, nat_lt}
use Rattle.std.proofs.lemmas.List.Concat.{flat_map-append}
use Rattle.std.proofs.lemmas.Bool.{both_ways}
use Rattle.std.specs.List.{flat_map}
use Rattle.xdg_reading.specs.declared.line.Line.{Line}
use Rattle.xdg_reading.specs.declared.line.Line.TheVariants as lines
use Rattle.xdg_reading.specs.declared.stage.Stage.{Stage}
use Rattle.xdg_reading.specs.declared.stage.Stage.TheVariants as stages
use Rattle.xdg_reading.specs.declared.texts.AnalysisText.{AnalysisText}
use Rattle.xdg_reading.specs.Gathered.{word_in, entry_in, attr_in, edge_in, Holds, Adds, SoFar, Whole}
use Rattle.xdg_reading.specs.Lines.{line_text, text_of, IsLine, line_at}
use Rattle.xdg_reading.specs.Stages.{next, has_ended, Goes, OffendsAt}
use Rattle.xdg_reading.proofs.LineLaws.{line_read, line_spelled}
use Rattle.xdg_reading.proofs.Steps.{pair}
use Rattle.xdg_facts.proofs.Lists.{empty_list}
use Rattle.xdg_facts.proofs.Fronts.{front_length}
use Rattle.xdg_facts.proofs.Options.{none_some, some_same, cond_found, cond_left}

pub text_snoc : (ls : List Line) (l : Line) → text_of (ls ++ l ∷ []) ≡ text_of ls ++ line_text l
text_snoc ls l = flat_map-append line_text ls (l ∷ []) ∙ ap (λ z. text_of ls ++ z) (append-nil (line_text l))

-- one line more
pub goes_snoc : (at : ℕ) (s : Stage) (ls : List Line) (t : Stage) (l : Line) (u : Stage) → Goes at s ls t → IsLine (at + length (text_of ls)) l → next t l ≡ Some u → Goes at s (ls ++ l ∷ []) u
goes_snoc at s [] t l u same is e =
    let here : at + 0 ≡ at = omega arith in
    (subst (λ k. IsLine k l) here is, (u, ap (λ z. next z l) same ∙ e, refl))
goes_snoc at s (first ∷ ls) t l u (first_is, (m, step, more)) is e =
    let place : at + length (line_text first ++ text_of ls) ≡ at + length (line_text first) + length (text_of ls) = omega (arith, length-append (line_text first) (text_of ls)) in
    (first_is, (m, step, goes_snoc (at + length (line_text first)) m ls t l u more (subst (λ k. IsLine k l) place is) e))

-- no line is empty
pub some_text : (l : Line) → 0 < length (line_text l)
some_text lines.Version = omega arith
some_text other = omega arith

pub shrinks : (at : ℕ) (left new : List ℕ) (l : Line) → line_at at left ≡ Some (l, new) → length new < length left
shrinks at left new l read =
    let spelled = line_spelled at left l new read in
    let size : length left ≡ length (line_text l ++ new) = ap length spelled.parts in
    omega (arith, size, length-append (line_text l) new, some_text l)

-- nothing can be read: the line offends
pub unread_offends : (bytes : List ℕ) (stage : Stage) (left : List ℕ) (t : AnalysisText) (at : ℕ) → SoFar bytes stage left t → at ≡ length bytes - length left → line_at at left ≡ None → OffendsAt bytes at
unread_offends bytes stage left t at so_far is read = record {
  lines = so_far.lines;
  stage = stage;
  left = left;
  goes = so_far.goes;
  parts = so_far.parts;
  place = is ∙ front_length bytes (text_of so_far.lines) left so_far.parts;
  stuck = record {
    none = λ l more later line parts goes. none_some (pair l more) (sym read ∙ ap (line_at at) parts ∙ line_read at l more line);
    unread = λ ended. absurd (both_ways (has_ended stage) so_far.goes_on (ap has_ended ended));
  };
}

-- the line that is read may not come: it offends
pub other_offends : (bytes : List ℕ) (stage : Stage) (left : List ℕ) (t : AnalysisText) (at : ℕ) (l : Line) (new : List ℕ) → SoFar bytes stage left t → at ≡ length bytes - length left → line_at at left ≡ Some (l, new) → next stage l ≡ None → OffendsAt bytes at
other_offends bytes stage left t at l new so_far is read stays = record {
  lines = so_far.lines;
  stage = stage;
  left = left;
  goes = so_far.goes;
  parts = so_far.parts;
  place = is ∙ front_length bytes (text_of so_far.lines) left so_far.parts;
  stuck = record {
    none = λ other more later line parts goes.
        let same = some_same (pair other more) (pair l new) (sym (line_read at other more line) ∙ ap (line_at at) (sym parts) ∙ read) in
        none_some later (sym stays ∙ ap (λ (p : Line × List ℕ). next stage p.0) (sym same) ∙ goes);
    unread = λ ended. absurd (both_ways (has_ended stage) so_far.goes_on (ap has_ended ended));
  };
}

record Turn (bytes : List ℕ) (stage : Stage) (left : List ℕ) (so_far : List Line) (l : Line) (new : List ℕ) (later : Stage) : Type 0 where
  pub goes : Goes 0 stages.Start (so_far ++ l ∷ []) later
  pub parts : bytes ≡ text_of (so_far ++ l ∷ []) ++ new

turn : (bytes : List ℕ) (stage : Stage) (left : List ℕ) (t : AnalysisText) (at : ℕ) (l : Line) (new : List ℕ) (later : Stage) → (so_far : SoFar bytes stage left t) → at ≡ length bytes - length left → line_at at left ≡ Some (l, new) → next stage l ≡ Some later → Turn bytes stage left so_far.lines l new later
turn bytes stage left t at l new later so_far is read step =
    let spelled = line_spelled at left l new read in
    let place : at ≡ 0 + length (text_of so_far.lines) = is ∙ front_length bytes (text_of so_far.lines) left so_far.parts ∙ omega arith in
    record {
      goes = goes_snoc 0 stages.Start so_far.lines stage l later so_far.goes (subst (λ k. IsLine k l) place spelled.is) step;
      parts = so_far.parts ∙ ap (λ z. text_of so_far.lines ++ z) spelled.parts ∙ sym (append_assoc (text_of so_far.lines) (line_text l) new) ∙ ap (λ z. z ++ new) (sym (text_snoc so_far.lines l));
    }

one_of : {X : Type 0} (f : Line → List X) (ls : List Line) (l : Line) → flat_map f (ls ++ l ∷ []) ≡ flat_map f ls ++ f l
one_of f ls l = flat_map-append f ls (l ∷ []) ∙ ap (λ z. flat_map f ls ++ z) (append-nil (f l))

holds_more : (old new : AnalysisText) (ls : List Line) (l : Line) → Holds old ls → Adds old new l → Holds new (ls ++ l ∷ [])
holds_more old new ls l holds adds = record {
  words = adds.words ∙ ap (λ z. z ++ word_in l) holds.words ∙ sym (one_of word_in ls l);
  entries = adds.entries ∙ ap (λ z. z ++ entry_in l) holds.entries ∙ sym (one_of entry_in ls l);
  attrs = adds.attrs ∙ ap (λ z. z ++ attr_in l) holds.attrs ∙ sym (one_of attr_in ls l);
  edges = adds.edges ∙ ap (λ z. z ++ edge_in l) holds.edges ∙ sym (one_of edge_in ls l);
}

-- a line is taken
pub taken : (bytes : List ℕ) (stage : Stage) (left : List ℕ) (t made : AnalysisText) (at : ℕ) (l : Line) (new : List ℕ) (later : Stage) → SoFar bytes stage left t → at ≡ length bytes - length left → line_at at left ≡ Some (l, new) → next stage l ≡ Some later → has_ended later ≡ false → Adds t made l → SoFar bytes later new made
taken bytes stage left t made at l new later so_far is read step goes_on adds =
    let next_turn = turn bytes stage left t at l new later so_far is read step in
    record {
      lines = so_far.lines ++ l ∷ [];
      goes = next_turn.goes;
      parts = next_turn.parts;
      holds = holds_more t made so_far.lines l so_far.holds adds;
      goes_on = goes_on;
    }

-- only the last line ends a text
pub ends_by : (s : Stage) (l : Line) → next s l ≡ Some stages.Ended → l ≡ lines.End
ends_by s lines.End e = refl
ends_by stages.Start l e = cc
ends_by (stages.Words read) (lines.Word node word entry) e = let both = cond_found (node.0 == read) (stages.Words (node.0 + 1)) stages.Ended e in let h = both.1 in cc
ends_by (stages.Words read) (lines.Attr a) e = let both = cond_left (read == 0) stages.Attrs stages.Ended e in let h = both.1 in cc
ends_by (stages.Words read) (lines.Edge a) e = let both = cond_left (read == 0) stages.Edges stages.Ended e in let h = both.1 in cc
ends_by (stages.Left read words attrs edges) (lines.Word node word entry) e = let both = cond_found (nat_lt 0 words && (node.0 == read)) (stages.Left (node.0 + 1) (words - 1) attrs edges) stages.Ended e in let h = both.1 in cc
ends_by (stages.Left read words attrs edges) (lines.Attr a) e = let both = cond_found ((words == 0) && nat_lt 0 attrs) (stages.Left read words (attrs - 1) edges) stages.Ended e in let h = both.1 in cc
ends_by (stages.Left read words attrs edges) (lines.Edge a) e = let both = cond_found ((words == 0) && (attrs == 0) && nat_lt 0 edges) (stages.Left read words attrs (edges - 1)) stages.Ended e in let h = both.1 in cc
ends_by s l e = cc

-- behind the last line something is left
pub left_offends : (bytes : List ℕ) (stage : Stage) (left : List ℕ) (t : AnalysisText) (at : ℕ) (l : Line) (new : List ℕ) → SoFar bytes stage left t → at ≡ length bytes - length left → line_at at left ≡ Some (l, new) → next stage l ≡ Some stages.Ended → (length new ≡ 0 → ⊥) → OffendsAt bytes (length bytes - length new)
left_offends bytes stage left t at l new so_far is read step some =
    let next_turn = turn bytes stage left t at l new stages.Ended so_far is read step in
    record {
      lines = so_far.lines ++ l ∷ [];
      stage = stages.Ended;
      left = new;
      goes = next_turn.goes;
      parts = next_turn.parts;
      place = front_length bytes (text_of (so_far.lines ++ l ∷ [])) new next_turn.parts;
      stuck = record { none = λ other more later line parts goes. none_some later goes; unread = λ ended none. some (ap length none) };
    }

adds_nothing : (t made : AnalysisText) → made.words ≡ t.words → made.entries ≡ t.entries → made.attrs ≡ t.attrs → made.edges ≡ t.edges → Adds t made lines.End
adds_nothing t made words entries attrs edges = record {
  words = words ∙ sym (append-nil t.words);
  entries = entries ∙ sym (append-nil t.entries);
  attrs = attrs ∙ sym (append-nil t.attrs);
  edges = edges ∙ sym (append-nil t.edges);
}

-- all is read
pub all_read : (bytes : List ℕ) (stage : Stage) (left : List ℕ) (t : AnalysisText) (at : ℕ) (l : Line) (new : List ℕ) → SoFar bytes stage left t → at ≡ length bytes - length left → line_at at left ≡ Some (l, new) → next stage l ≡ Some stages.Ended → length new ≡ 0 → Whole bytes (record t { end = at })
all_read bytes stage left t at l new so_far is read step none =
    let next_turn = turn bytes stage left t at l new stages.Ended so_far is read step in
    let last : l ≡ lines.End = ends_by stage l step in
    let empty : new ≡ [] = empty_list new none in
    let spelled = line_spelled at left l new read in
    let size : length left ≡ 4 = ap length spelled.parts ∙ ap (λ z. length (line_text z ++ new)) last ∙ ap (λ z. length (line_text lines.End ++ z)) empty in
    let place : length bytes ≡ length (text_of so_far.lines) + length left = ap length so_far.parts ∙ length-append (text_of so_far.lines) left in
    record {
      lines = so_far.lines ++ l ∷ [];
      goes = next_turn.goes;
      parts = next_turn.parts ∙ ap (λ z. text_of (so_far.lines ++ l ∷ []) ++ z) empty ∙ append-nil (text_of (so_far.lines ++ l ∷ []));
      holds = holds_more t (record t { end = at }) so_far.lines l so_far.holds (subst (λ z. Adds t (record t { end = at }) z) (sym last) (adds_nothing t (record t { end = at }) refl refl refl refl));
      end = omega (arith, is, size, place);
    }

pub at_end : (s : Stage) → has_ended s ≡ true → s ≡ stages.Ended
at_end stages.Ended e = refl
at_end _ e = cc

-- what is left is part of the text
pub within : (bytes : List ℕ) (stage : Stage) (left : List ℕ) (t : AnalysisText) (at : ℕ) (l : Line) (new : List ℕ) → SoFar bytes stage left t → line_at at left ≡ Some (l, new) → length new ≤ length bytes
within bytes stage left t at l new so_far read = let size : length bytes ≡ length (text_of so_far.lines ++ left) = ap length so_far.parts in omega (arith, size, length-append (text_of so_far.lines) left, shrinks at left new l read)
