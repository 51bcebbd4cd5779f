-- Lines from the first to the last are those of a text, and those of a text go from the first to the last.
use Rattle.std.proofs.Common.{◌≡◌, ◌<◌, ◌≤◌, ◌++◌, ◌+◌, ◌-◌, ◌==◌, ◌&&◌, ◌⊎◌, inl, inr, ℕ, suc, List, [], ◌∷◌, length, map, refl, sym, ap, ap₂, ◌∙◌, subst, arith, nat_lt, add-one}
use Rattle.std.proofs.lemmas.Bool.{eqb-true, eqb-false, and_parts, ltb-true}
use Rattle.std.specs.List.{flat_map}
use Rattle.xdg_base.specs.declared.ids.NodeId.{NodeId}
use Rattle.xdg_base.specs.declared.ids.EntryNo.{EntryNo}
use Rattle.xdg_problem.specs.declared.parts.SentenceWord.{SentenceWord}
use Rattle.xdg_reading.specs.declared.line.Line.{Line}
use Rattle.xdg_reading.specs.declared.line.Line.TheVariants as lines
use Rattle.xdg_reading.specs.declared.stage.Stage.{Stage}
use Rattle.xdg_reading.specs.declared.stage.Stage.TheVariants as stages
use Rattle.xdg_reading.specs.declared.texts.AnalysisText.{AnalysisText}
use Rattle.xdg_reading.specs.declared.texts.AttrLine.{AttrLine}
use Rattle.xdg_reading.specs.declared.texts.EdgeLine.{EdgeLine}
use Rattle.xdg_reading.specs.Gathered.{word_in, entry_in, attr_in, edge_in, Holds, Whole}
use Rattle.xdg_reading.specs.Lines.{line_text, text_of}
use Rattle.xdg_reading.specs.Stages.{Goes}
use Rattle.xdg_reading.specs.Texts.{word_lines, body, lines_of, lines2_of, Placed, HasLines, IsText}
use Rattle.xdg_facts.proofs.Options.{none_some, some_same, cond_found, cond_left}
use Rattle.xdg_facts.proofs.Lists.{none_left}

pub placed_of : (at : ℕ) (s : Stage) (ls : List Line) (t : Stage) → Goes at s ls t → Placed at ls
placed_of at s [] t goes = tt
placed_of at s (l ∷ ls) t (is, (m, step, more)) = (is, placed_of (at + length (line_text l)) m ls t more)

abbrev pub words_in : List Line → List SentenceWord
words_in ls = flat_map word_in ls

abbrev pub entries_in : List Line → List EntryNo
entries_in ls = flat_map entry_in ls

abbrev pub attrs_in : List Line → List AttrLine
attrs_in ls = flat_map attr_in ls

abbrev pub edges_in : List Line → List EdgeLine
edges_in ls = flat_map edge_in ls

abbrev pub edge_lines : List EdgeLine → List Line
edge_lines es = map lines.Edge es ++ lines.End ∷ []

abbrev pub attr_lines : List AttrLine → List EdgeLine → List Line
attr_lines xs es = map lines.Attr xs ++ edge_lines es

-- only edges and the last line
record Edges (ls : List Line) : Type 0 where
  pub words : words_in ls ≡ []
  pub entries : entries_in ls ≡ []
  pub attrs : attrs_in ls ≡ []
  pub is : ls ≡ edge_lines (edges_in ls)

-- only attributes, edges and the last line
record Attrs (ls : List Line) : Type 0 where
  pub words : words_in ls ≡ []
  pub entries : entries_in ls ≡ []
  pub is : ls ≡ attr_lines (attrs_in ls) (edges_in ls)

-- words from the node of this number on, attributes, edges and the last line
record Words (node : ℕ) (ls : List Line) : Type 0 where
  pub each : length (entries_in ls) ≡ length (words_in ls)
  pub is : ls ≡ word_lines node (words_in ls) (entries_in ls) ++ attr_lines (attrs_in ls) (edges_in ls)

no_lines : (at : ℕ) (ls : List Line) → Goes at stages.Ended ls stages.Ended → ls ≡ []
no_lines at [] goes = refl
no_lines at (l ∷ ls) (is, (m, step, more)) = absurd (none_some m step)

only_end : Edges (lines.End ∷ [])
only_end = record { words = refl; entries = refl; attrs = refl; is = refl }

one_edge : (e : EdgeLine) (ls : List Line) → Edges ls → Edges (lines.Edge e ∷ ls)
one_edge e ls edges = record { words = edges.words; entries = edges.entries; attrs = edges.attrs; is = ap (λ z. lines.Edge e ∷ z) edges.is }

as_attrs : (ls : List Line) → Edges ls → Attrs ls
as_attrs ls edges = record { words = edges.words; entries = edges.entries; is = edges.is ∙ ap (λ z. map lines.Attr z ++ edge_lines (edges_in ls)) (sym edges.attrs) }

one_attr : (a : AttrLine) (ls : List Line) → Attrs ls → Attrs (lines.Attr a ∷ ls)
one_attr a ls attrs = record { words = attrs.words; entries = attrs.entries; is = ap (λ z. lines.Attr a ∷ z) attrs.is }

as_words : (node : ℕ) (ls : List Line) → Attrs ls → Words node ls
as_words node ls attrs = record {
  each = ap length attrs.entries ∙ ap length (sym attrs.words);
  is = attrs.is ∙ ap (λ z. z ++ attr_lines (attrs_in ls) (edges_in ls)) (sym (ap (λ z. word_lines node z (entries_in ls)) attrs.words));
}

one_word : (node : NodeId) (word : SentenceWord) (entry : EntryNo) (ls : List Line) → Words (node.0 + 1) ls → Words node.0 (lines.Word node word entry ∷ ls)
one_word node word entry ls words = record {
  each = ap suc words.each;
  is = ap (λ z. lines.Word node word entry ∷ z) (words.is ∙ ap (λ k. word_lines k (words_in ls) (entries_in ls) ++ attr_lines (attrs_in ls) (edges_in ls)) (add-one node.0));
}

ended : (at : ℕ) (m : Stage) (ls : List Line) → m ≡ stages.Ended → Goes at m ls stages.Ended → ls ≡ []
ended at m ls same goes = no_lines at ls (subst (λ z. Goes at z ls stages.Ended) same goes)

-- in text 1
edges_shape : (ls : List Line) (at : ℕ) → Goes at stages.Edges ls stages.Ended → Edges ls
edges_shape [] at goes = cc
edges_shape (lines.Edge e ∷ ls) at (is, (m, step, more)) = one_edge e ls (edges_shape ls _ (rw (← some_same stages.Edges m step) at more))
edges_shape (lines.End ∷ ls) at (is, (m, step, more)) = subst (λ z. Edges (lines.End ∷ z)) (sym (ended _ m ls (sym (some_same stages.Ended m step)) more)) only_end
edges_shape (l ∷ ls) at (is, (m, step, more)) = absurd (none_some m step)

attrs_shape : (ls : List Line) (at : ℕ) → Goes at stages.Attrs ls stages.Ended → Attrs ls
attrs_shape [] at goes = cc
attrs_shape (lines.Attr a ∷ ls) at (is, (m, step, more)) = one_attr a ls (attrs_shape ls _ (rw (← some_same stages.Attrs m step) at more))
attrs_shape (lines.Edge e ∷ ls) at (is, (m, step, more)) = as_attrs (lines.Edge e ∷ ls) (one_edge e ls (edges_shape ls _ (rw (← some_same stages.Edges m step) at more)))
attrs_shape (lines.End ∷ ls) at (is, (m, step, more)) = subst (λ z. Attrs (lines.End ∷ z)) (sym (ended _ m ls (sym (some_same stages.Ended m step)) more)) (as_attrs (lines.End ∷ []) only_end)
attrs_shape (l ∷ ls) at (is, (m, step, more)) = absurd (none_some m step)

record WordsFrom (k : ℕ) (ls : List Line) : Type 0 where
  pub shape : Words k ls
  pub some : k ≡ 0 → 0 < length (words_in ls)

words_shape : (ls : List Line) (at k : ℕ) → Goes at (stages.Words k) ls stages.Ended → WordsFrom k ls
words_shape [] at k goes = cc
words_shape (lines.Word node word entry ∷ ls) at k (is, (m, step, more)) =
    let both = cond_found (node.0 == k) (stages.Words (node.0 + 1)) m step in
    let same : node.0 ≡ k = eqb-true node.0 k both.0 in
    let left = words_shape ls _ (node.0 + 1) (rw (← both.1) at more) in
    record { shape = subst (λ n. Words n (lines.Word node word entry ∷ ls)) same (one_word node word entry ls left.shape); some = λ first. omega arith }
words_shape (lines.Attr a ∷ ls) at k (is, (m, step, more)) =
    let both = cond_left (k == 0) stages.Attrs m step in
    record { shape = as_words k (lines.Attr a ∷ ls) (one_attr a ls (attrs_shape ls _ (rw (← both.1) at more))); some = λ first. absurd (eqb-false k 0 both.0 first) }
words_shape (lines.Edge e ∷ ls) at k (is, (m, step, more)) =
    let both = cond_left (k == 0) stages.Edges m step in
    record { shape = as_words k (lines.Edge e ∷ ls) (as_attrs (lines.Edge e ∷ ls) (one_edge e ls (edges_shape ls _ (rw (← both.1) at more)))); some = λ first. absurd (eqb-false k 0 both.0 first) }
words_shape (lines.End ∷ ls) at k (is, (m, step, more)) =
    let both = cond_left (k == 0) stages.Ended m step in
    record { shape = subst (λ z. Words k (lines.End ∷ z)) (sym (ended _ m ls (sym both.1) more)) (as_words k (lines.End ∷ []) (as_attrs (lines.End ∷ []) only_end)); some = λ first. absurd (eqb-false k 0 both.0 first) }
words_shape (l ∷ ls) at k (is, (m, step, more)) = absurd (none_some m step)

-- in text 2
record Counted (k words attrs edges : ℕ) (ls : List Line) : Type 0 where
  pub shape : Words k ls
  pub words_are : length (words_in ls) ≡ words
  pub attrs_are : length (attrs_in ls) ≡ attrs
  pub edges_are : length (edges_in ls) ≡ edges

to_attrs : (k : ℕ) (ls : List Line) → Words k ls → words_in ls ≡ [] → Attrs ls
to_attrs k ls words none =
    let entries : entries_in ls ≡ [] = none_left (entries_in ls) (length (words_in ls)) words.each (ap length none) in
    record { words = none; entries = entries; is = words.is ∙ ap (λ z. word_lines k z (entries_in ls) ++ attr_lines (attrs_in ls) (edges_in ls)) none }

to_edges : (ls : List Line) → Attrs ls → attrs_in ls ≡ [] → Edges ls
to_edges ls attrs none = record { words = attrs.words; entries = attrs.entries; attrs = none; is = attrs.is ∙ ap (λ z. map lines.Attr z ++ edge_lines (edges_in ls)) none }

left_shape : (ls : List Line) (at k words attrs edges : ℕ) → Goes at (stages.Left k words attrs edges) ls stages.Ended → Counted k words attrs edges ls
left_shape [] at k words attrs edges goes = cc
left_shape (lines.Word node word entry ∷ ls) at k words attrs edges (is, (m, step, more)) =
    let both = cond_found (nat_lt 0 words && (node.0 == k)) (stages.Left (node.0 + 1) (words - 1) attrs edges) m step in
    let tests = and_parts (nat_lt 0 words) (node.0 == k) both.0 in
    let some : 0 < words = ltb-true 0 words tests.0 in
    let same : node.0 ≡ k = eqb-true node.0 k tests.1 in
    let left = left_shape ls _ (node.0 + 1) (words - 1) attrs edges (rw (← both.1) at more) in
    record { shape = subst (λ n. Words n (lines.Word node word entry ∷ ls)) same (one_word node word entry ls left.shape); words_are = omega (arith, some, left.words_are); attrs_are = left.attrs_are; edges_are = left.edges_are }
left_shape (lines.Attr a ∷ ls) at k words attrs edges (is, (m, step, more)) =
    let both = cond_found ((words == 0) && nat_lt 0 attrs) (stages.Left k words (attrs - 1) edges) m step in
    let tests = and_parts (words == 0) (nat_lt 0 attrs) both.0 in
    let none : words ≡ 0 = eqb-true words 0 tests.0 in
    let some : 0 < attrs = ltb-true 0 attrs tests.1 in
    let left = left_shape ls _ k words (attrs - 1) edges (rw (← both.1) at more) in
    let no_words : words_in ls ≡ [] = none_left (words_in ls) words left.words_are none in
    record { shape = as_words k (lines.Attr a ∷ ls) (one_attr a ls (to_attrs k ls left.shape no_words)); words_are = left.words_are; attrs_are = omega (arith, some, left.attrs_are); edges_are = left.edges_are }
left_shape (lines.Edge e ∷ ls) at k words attrs edges (is, (m, step, more)) =
    let both = cond_found ((words == 0) && (attrs == 0) && nat_lt 0 edges) (stages.Left k words attrs (edges - 1)) m step in
    let outer = and_parts ((words == 0) && (attrs == 0)) (nat_lt 0 edges) both.0 in
    let tests = and_parts (words == 0) (attrs == 0) outer.0 in
    let none : words ≡ 0 = eqb-true words 0 tests.0 in
    let bare : attrs ≡ 0 = eqb-true attrs 0 tests.1 in
    let some : 0 < edges = ltb-true 0 edges outer.1 in
    let left = left_shape ls _ k words attrs (edges - 1) (rw (← both.1) at more) in
    let no_words : words_in ls ≡ [] = none_left (words_in ls) words left.words_are none in
    let no_attrs : attrs_in ls ≡ [] = none_left (attrs_in ls) attrs left.attrs_are bare in
    record { shape = as_words k (lines.Edge e ∷ ls) (as_attrs (lines.Edge e ∷ ls) (one_edge e ls (to_edges ls (to_attrs k ls left.shape no_words) no_attrs))); words_are = left.words_are; attrs_are = left.attrs_are; edges_are = omega (arith, some, left.edges_are) }
left_shape (lines.End ∷ ls) at k words attrs edges (is, (m, step, more)) =
    let both = cond_found ((words == 0) && (attrs == 0) && (edges == 0)) stages.Ended m step in
    let outer = and_parts ((words == 0) && (attrs == 0)) (edges == 0) both.0 in
    let tests = and_parts (words == 0) (attrs == 0) outer.0 in
    let none : words ≡ 0 = eqb-true words 0 tests.0 in
    let bare : attrs ≡ 0 = eqb-true attrs 0 tests.1 in
    let lone : edges ≡ 0 = eqb-true edges 0 outer.1 in
    subst (λ z. Counted k words attrs edges (lines.End ∷ z)) (sym (ended _ m ls (sym both.1) more))
    (record { shape = as_words k (lines.End ∷ []) (as_attrs (lines.End ∷ []) only_end); words_are = sym none; attrs_are = sym bare; edges_are = sym lone })
left_shape (l ∷ ls) at k words attrs edges (is, (m, step, more)) = absurd (none_some m step)

-- the lines are those of a text
pub record Lines (t : AnalysisText) (ls all : List Line) : Type 0 where
  pub is : ls ≡ all
  pub some : 0 < length t.words
  pub each : length t.entries ≡ length t.words

body_is : (t : AnalysisText) (ls : List Line) → t.words ≡ words_in ls → t.entries ≡ entries_in ls → t.attrs ≡ attrs_in ls → t.edges ≡ edges_in ls → Words 0 ls → ls ≡ body t
body_is t ls words entries attrs edges shape =
    shape.is
    ∙ ap₂ (λ w e. word_lines 0 w e ++ attr_lines (attrs_in ls) (edges_in ls)) (sym words) (sym entries)
    ∙ ap₂ (λ a e. word_lines 0 t.words t.entries ++ attr_lines a e) (sym attrs) (sym edges)

-- behind the number of text 1
text1_lines : (t : AnalysisText) (number : ℕ) (at : ℕ) (ls : List Line) → Holds t (lines.Analysis number ∷ ls) → Goes at (stages.Words 0) ls stages.Ended → Lines t (lines.Analysis number ∷ ls) (lines_of number t)
text1_lines t number at ls holds goes =
    let from = words_shape ls at 0 goes in
    record {
      is = ap (λ z. lines.Analysis number ∷ z) (body_is t ls holds.words holds.entries holds.attrs holds.edges from.shape);
      some = subst (λ w. 0 < length w) (sym holds.words) (from.some refl);
      each = ap length holds.entries ∙ from.shape.each ∙ ap length (sym holds.words);
    }

-- behind the counts of text 2
text2_lines : (t : AnalysisText) (number words attrs edges : ℕ) (at : ℕ) (ls : List Line) → 1 ≤ words → Holds t (lines.Version ∷ lines.Analysis number ∷ lines.Counts words attrs edges ∷ ls) → Goes at (stages.Left 0 words attrs edges) ls stages.Ended → Lines t (lines.Version ∷ lines.Analysis number ∷ lines.Counts words attrs edges ∷ ls) (lines2_of number t)
text2_lines t number words attrs edges at ls low holds goes =
    let from = left_shape ls at 0 words attrs edges goes in
    let w : words ≡ length t.words = sym from.words_are ∙ ap length (sym holds.words) in
    let a : attrs ≡ length t.attrs = sym from.attrs_are ∙ ap length (sym holds.attrs) in
    let e : edges ≡ length t.edges = sym from.edges_are ∙ ap length (sym holds.edges) in
    record {
      is = ap (λ z. lines.Version ∷ lines.Analysis number ∷ lines.Counts words attrs edges ∷ z) (body_is t ls holds.words holds.entries holds.attrs holds.edges from.shape)
          ∙ ap (λ z. lines.Version ∷ lines.Analysis number ∷ lines.Counts z attrs edges ∷ body t) w
          ∙ ap₂ (λ y z. lines.Version ∷ lines.Analysis number ∷ lines.Counts (length t.words) y z ∷ body t) a e;
      some = omega (arith, low, w);
      each = ap length holds.entries ∙ from.shape.each ∙ ap length (sym holds.words);
    }

abbrev pub Either : AnalysisText → List Line → Type 0
Either t ls = (number : ℕ) × (Lines t ls (lines_of number t) ⊎ Lines t ls (lines2_of number t))

third : (t : AnalysisText) (number at : ℕ) (ls : List Line) → Holds t (lines.Version ∷ lines.Analysis number ∷ ls) → Goes at stages.Numbered ls stages.Ended → Either t (lines.Version ∷ lines.Analysis number ∷ ls)
third t number at [] holds goes = cc
third t number at (lines.Counts words attrs edges ∷ ls) holds (is, (m, step, more)) =
    (number, inr (text2_lines t number words attrs edges _ ls is.0 holds (rw (← some_same (stages.Left 0 words attrs edges) m step) at more)))
third t number at (l ∷ ls) holds (is, (m, step, more)) = absurd (none_some m step)

second : (t : AnalysisText) (at : ℕ) (ls : List Line) → Holds t (lines.Version ∷ ls) → Goes at stages.Second ls stages.Ended → Either t (lines.Version ∷ ls)
second t at [] holds goes = cc
second t at (lines.Analysis number ∷ ls) holds (is, (m, step, more)) =
    third t number _ ls holds (rw (← some_same stages.Numbered m step) at more)
second t at (l ∷ ls) holds (is, (m, step, more)) = absurd (none_some m step)

pub all_lines : (t : AnalysisText) (at : ℕ) (ls : List Line) → Holds t ls → Goes at stages.Start ls stages.Ended → Either t ls
all_lines t at [] holds goes = cc
all_lines t at (lines.Version ∷ ls) holds (is, (m, step, more)) =
    second t _ ls holds (rw (← some_same stages.Second m step) at more)
all_lines t at (lines.Analysis number ∷ ls) holds (is, (m, step, more)) =
    (number, inl (text1_lines t number _ ls holds (rw (← some_same (stages.Words 0) m step) at more)))
all_lines t at (l ∷ ls) holds (is, (m, step, more)) = absurd (none_some m step)

has_lines : (bytes : List ℕ) (t : AnalysisText) (all : List Line) → (whole : Whole bytes t) → Lines t whole.lines all → HasLines bytes t all
has_lines bytes t all whole shape = record {
  parts = whole.parts ∙ ap text_of shape.is;
  placed = subst (λ z. Placed 0 z) shape.is (placed_of 0 stages.Start whole.lines stages.Ended whole.goes);
  some = shape.some;
  each = shape.each;
  end = whole.end;
}

-- what is read to the end is a text
pub whole_text : (bytes : List ℕ) (t : AnalysisText) → Whole bytes t → IsText bytes t
whole_text bytes t whole = by (all_lines t 0 whole.lines whole.holds whole.goes) where
  by : Either t whole.lines → IsText bytes t
  by (number, inl shape) = (number, inl (has_lines bytes t (lines_of number t) whole shape))
  by (number, inr shape) = (number, inr (has_lines bytes t (lines2_of number t) whole shape))
