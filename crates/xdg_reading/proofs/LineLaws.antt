-- Lines are read as they are written.
use Rattle.std.specs.Prelude.{◌↔◌}
use Rattle.std.proofs.Common.{◌≡◌, ◌<◌, ◌++◌, ◌+◌, ◌^◌, ◌⊎◌, inl, inr, ℕ, List, [], ◌∷◌, refl, sym, ap, ◌∙◌, subst, arith, lit<, Some, None, Option, append_assoc, codes, decimal}
use Rattle.xdg_base.specs.declared.ids.NodeId.{NodeId}
use Rattle.xdg_text.specs.Constants.{constant, quoted}
use Rattle.xdg_text.specs.Values.{value_text}
use Rattle.std.specs.Fmt.{digits}
use Rattle.xdg_text.specs.Lines.{led, line, version_line}
use Rattle.xdg_reading.specs.declared.line.Line.{Line}
use Rattle.xdg_reading.specs.declared.line.Line.TheVariants as lines
use Rattle.xdg_reading.specs.Pieces.{after, past_or, behind, number_at, ordinal_at, quoted_at, constant_at, value_at}
use Rattle.xdg_reading.specs.Lines.{line_text, IsLine, node_at, analysis_at, counts_at, word_at, attr_at, edge_at, line_at}
use Rattle.xdg_reading.proofs.Constants.{space, quoted_read, quoted_spelled, constant_read, constant_spelled}
use Rattle.xdg_reading.proofs.Fronts.{it_stands}
use Rattle.xdg_reading.proofs.Numbers.{IsNumber, IsOrdinal, number_read, number_spelled, ordinal_read, ordinal_spelled}
use Rattle.xdg_reading.proofs.Steps.{pair, after_found, past_or_found, Passed}
use Rattle.xdg_reading.proofs.Values.{IsValue, value_read, value_spelled}
use Rattle.xdg_facts.proofs.Options.{none_some, some_same}

-- words with a space before each, a line feed, and what stands behind
abbrev pub tail_of : List (List ℕ) → List ℕ → List ℕ
tail_of [] rest = 10 ∷ rest
tail_of (word ∷ words) rest = 32 ∷ (word ++ tail_of words rest)

led_tail : (words : List (List ℕ)) (rest : List ℕ) → (led words ++ codes "\n") ++ rest ≡ tail_of words rest
led_tail [] rest = refl
led_tail (word ∷ words) rest =
    ap (λ z. 32 ∷ z) (append_assoc (word ++ led words) (codes "\n") rest ∙ append_assoc word (led words) (codes "\n" ++ rest) ∙ ap (λ z. word ++ z) (sym (append_assoc (led words) (codes "\n") rest) ∙ led_tail words rest))

pub line_tail : (first : List ℕ) (words : List (List ℕ)) (rest : List ℕ) → line first words ++ rest ≡ first ++ tail_of words rest
line_tail first words rest = append_assoc first (led words ++ codes "\n") rest ∙ ap (λ z. first ++ z) (led_tail words rest)

-- What a reading takes for a value is a text of it, with what is left behind, and only that.
abbrev IsRead : {X : Type 0} → (List ℕ → Option (X × List ℕ)) → (X → List ℕ → List ℕ → Type 0) → Type 0
IsRead {X = X} read Stands = (x : X) (whole rest : List ℕ) → Stands x whole rest ↔ (read whole ≡ Some (x, rest))

-- one text behind another
abbrev Then : {X Y : Type 0} → (X → List ℕ → List ℕ → Type 0) → (X → Y → List ℕ → List ℕ → Type 0) → Y → List ℕ → List ℕ → Type 0
Then {X = X} First Next y whole rest = (x : X) × (left : List ℕ) × First x whole left × Next x y left rest

then_read : {X Y : Type 0} (read : List ℕ → Option (X × List ℕ)) (next : X → List ℕ → Option (Y × List ℕ)) (First : X → List ℕ → List ℕ → Type 0) (Next : X → Y → List ℕ → List ℕ → Type 0)
    → IsRead read First → ((x : X) → IsRead (next x) (Next x)) → IsRead (λ whole. after (read whole) next) (Then First Next)
then_read {X = X} {Y = Y} read next First Next first later y whole rest = (there, back) where
  there : Then First Next y whole rest → after (read whole) next ≡ Some (pair y rest)
  there (x, left, stands, behind) = ap (λ o. after o next) ((first x whole left).0 stands) ∙ (later x y left rest).0 behind

  back : after (read whole) next ≡ Some (pair y rest) → Then First Next y whole rest
  back e = let found = after_found (read whole) next (pair y rest) e in (found.value, found.rest, (first found.value whole found.rest).1 found.is, (later found.value y found.rest rest).1 found.goes)

-- what is made of it all
abbrev Made : {Y : Type 0} → Y → Y → List ℕ → List ℕ → Type 0
Made made y whole rest = pair made whole ≡ pair y rest

made_read : {Y : Type 0} (made : Y) → IsRead (λ whole. Some (made, whole)) (Made made)
made_read made y whole rest = ((λ e. ap Some e), (λ e. some_same (pair made whole) (pair y rest) e))

-- a constant, a node, and a number, with what ends them
abbrev IsConstant : List ℕ → List ℕ → List ℕ → Type 0
IsConstant text whole rest = whole ≡ constant text ++ 32 ∷ rest

constant_law : IsRead (constant_at 32) IsConstant
constant_law text whole rest = ((λ e. ap (constant_at 32) e ∙ constant_read 32 text rest space), (λ e. constant_spelled 32 text whole rest e))

number_law : (end least most : ℕ) → end < 48 → most < 2 ^ 64 → IsRead (number_at end least most) (IsNumber end least most)
number_law end least most ends small n whole rest =
    ((λ is. ap (number_at end least most) is.parts ∙ number_read end least most n rest ends is.low is.high small), (λ e. number_spelled end least most n whole rest e))

ordinal_law : (end most : ℕ) → end < 48 → most < 2 ^ 64 → IsRead (ordinal_at end most) (IsOrdinal end most)
ordinal_law end most ends small n whole rest = ((λ is. ap (ordinal_at end most) is.parts ∙ ordinal_read end most n rest ends is.within small), (λ e. ordinal_spelled end most n whole rest e))

abbrev IsNode : ℕ → NodeId → List ℕ → List ℕ → Type 0
IsNode end node whole rest = IsOrdinal end 128 node.0 whole rest

node_law : (end : ℕ) → end < 48 → IsRead (node_at end) (IsNode end)
unfolding node_at
node_law end ends node whole rest = (there, back) where
  there : IsNode end node whole rest → after (ordinal_at end 128 whole) (λ n rest. Some (pair (record { 0 = n }) rest)) ≡ Some (pair node rest)
  there is = ap (λ o. after o (λ n rest. Some (pair (record { 0 = n }) rest))) ((ordinal_law end 128 ends (lit< tt) node.0 whole rest).0 is)

  back : after (ordinal_at end 128 whole) (λ n rest. Some (pair (record { 0 = n }) rest)) ≡ Some (pair node rest) → IsNode end node whole rest
  back e =
      let found = after_found (ordinal_at end 128 whole) (λ n rest. Some (pair (record { 0 = n }) rest)) (pair node rest) e in
      subst (λ (p : NodeId × List ℕ). IsNode end p.0 whole p.1) (some_same _ _ found.goes) (ordinal_spelled end 128 found.value whole found.rest found.is)

-- the lines behind the words that begin them
abbrev IsWord : ℕ → Line → List ℕ → List ℕ → Type 0
IsWord at = Then (IsNode 32) (λ node. Then (λ text whole rest. whole ≡ quoted text ++ 32 ∷ rest) (λ text. Then (IsOrdinal 10 4294967295) (λ entry. Made (lines.Word node (record { text = text; at = at }) (record { 0 = entry })))))

word_law : (at : ℕ) → IsRead (word_at at) (IsWord at)
unfolding word_at
word_law at =
    then_read _ _ _ _ (node_law 32 (lit< tt)) (λ node. then_read _ _ _ _ (λ text whole rest. ((λ e. ap (quoted_at 32) e ∙ quoted_read 32 text rest), (λ e. quoted_spelled 32 text whole rest e)))
    (λ text. then_read _ _ _ _ (ordinal_law 10 4294967295 (lit< tt) (lit< tt)) (λ entry. made_read _)))

abbrev IsAttrLine : ℕ → Line → List ℕ → List ℕ → Type 0
IsAttrLine at = Then IsConstant (λ dim. Then (IsNode 32) (λ node. Then IsConstant (λ attr. Then IsValue (λ value. Made (lines.Attr (record { dim = dim; node = node; attr = attr; value = value; at = at }))))))

attr_law : (at : ℕ) → IsRead (attr_at at) (IsAttrLine at)
unfolding attr_at
attr_law at =
    then_read _ _ _ _ constant_law (λ dim. then_read _ _ _ _ (node_law 32 (lit< tt)) (λ node. then_read _ _ _ _ constant_law
    (λ attr. then_read _ _ _ _ (λ value whole rest. ((λ is. ap value_at is.parts ∙ value_read value rest is.has), (λ e. value_spelled whole value rest e))) (λ value. made_read _))))

abbrev IsEdgeLine : ℕ → Line → List ℕ → List ℕ → Type 0
IsEdgeLine at = Then IsConstant (λ dim. Then (IsNode 32) (λ mother. Then IsConstant (λ label. Then (IsNode 10) (λ daughter. Made (lines.Edge (record { dim = dim; mother = mother; label = label; daughter = daughter; at = at }))))))

edge_law : (at : ℕ) → IsRead (edge_at at) (IsEdgeLine at)
unfolding edge_at
edge_law at =
    then_read _ _ _ _ constant_law (λ dim. then_read _ _ _ _ (node_law 32 (lit< tt)) (λ mother. then_read _ _ _ _ constant_law (λ label. then_read _ _ _ _ (node_law 10 (lit< tt)) (λ daughter. made_read _))))

abbrev IsNumberLine : Line → List ℕ → List ℕ → Type 0
IsNumberLine = Then (IsNumber 10 1 2000000000000) (λ number. Made (lines.Analysis number))

analysis_law : IsRead analysis_at IsNumberLine
unfolding analysis_at
analysis_law = then_read _ _ _ _ (number_law 10 1 2000000000000 (lit< tt) (lit< tt)) (λ number. made_read _)

abbrev IsCountsLine : Line → List ℕ → List ℕ → Type 0
IsCountsLine = Then (IsNumber 32 1 128) (λ words. Then (IsNumber 32 0 4294967295) (λ attrs. Then (IsNumber 10 0 4294967295) (λ edges. Made (lines.Counts words attrs edges))))

counts_law : IsRead counts_at IsCountsLine
unfolding counts_at
counts_law =
    then_read _ _ _ _ (number_law 32 1 128 (lit< tt) (lit< tt))
    (λ words. then_read _ _ _ _ (number_law 32 0 4294967295 (lit< tt) (lit< tt)) (λ attrs. then_read _ _ _ _ (number_law 10 0 4294967295 (lit< tt) (lit< tt)) (λ edges. made_read _)))

pub version_is : version_line ≡ codes "xdg 2\n"
unfolding digits
version_is = refl

version_read : (at : ℕ) (rest : List ℕ) → line_at at (codes "xdg 2\n" ++ rest) ≡ Some (lines.Version, rest)
unfolding line_at
version_read at rest = refl

-- a line is read
pub line_read : (at : ℕ) (l : Line) (rest : List ℕ) → IsLine at l → line_at at (line_text l ++ rest) ≡ Some (l, rest)
unfolding line_at
line_read at lines.Version rest is = ap (λ z. line_at at (z ++ rest)) version_is ∙ version_read at rest
line_read at (lines.Analysis number) rest (low, high) =
    ap (line_at at) (line_tail (codes "analysis") (decimal number ∷ []) rest)
    ∙ (analysis_law (lines.Analysis number) (decimal number ++ 10 ∷ rest) rest).0 (number, rest, record { parts = refl; low = low; high = high }, refl)
line_read at (lines.Counts words attrs edges) rest (low, high, few, small) =
    ap (line_at at) (line_tail (codes "counts") (decimal words ∷ decimal attrs ∷ decimal edges ∷ []) rest)
    ∙ (counts_law (lines.Counts words attrs edges) (decimal words ++ 32 ∷ (decimal attrs ++ 32 ∷ (decimal edges ++ 10 ∷ rest))) rest).0
    (words, _, record { parts = refl; low = low; high = high }, (attrs, _, record { parts = refl; low = omega arith; high = few }, (edges, rest, record { parts = refl; low = omega arith; high = small }, refl)))
line_read at (lines.Word node word entry) rest (small, few, place) =
    ap (line_at at) (line_tail (codes "word") (decimal (node.0 + 1) ∷ quoted word.text ∷ decimal (entry.0 + 1) ∷ []) rest)
    ∙ (word_law at (lines.Word node word entry) (decimal (node.0 + 1) ++ 32 ∷ (quoted word.text ++ 32 ∷ (decimal (entry.0 + 1) ++ 10 ∷ rest))) rest).0
    (node, _, record { parts = refl; within = small }, (word.text, _, refl, (entry.0, rest, record { parts = refl; within = few }, ap (λ z. pair (lines.Word node (record word { at = z }) entry) rest) (sym place))))
line_read at (lines.Attr a) rest (small, has, place) =
    ap (line_at at) (line_tail (codes "attr") (constant a.dim ∷ decimal (a.node.0 + 1) ∷ constant a.attr ∷ value_text a.value ∷ []) rest)
    ∙ (attr_law at (lines.Attr a) (constant a.dim ++ 32 ∷ (decimal (a.node.0 + 1) ++ 32 ∷ (constant a.attr ++ 32 ∷ (value_text a.value ++ 10 ∷ rest)))) rest).0
    (a.dim, _, refl, (a.node, _, record { parts = refl; within = small }, (a.attr, _, refl, (a.value, rest, record { parts = refl; has = has }, ap (λ z. pair (lines.Attr (record a { at = z })) rest) (sym place)))))
line_read at (lines.Edge e) rest (mother, daughter, place) =
    ap (line_at at) (line_tail (codes "edge") (constant e.dim ∷ decimal (e.mother.0 + 1) ∷ constant e.label ∷ decimal (e.daughter.0 + 1) ∷ []) rest)
    ∙ (edge_law at (lines.Edge e) (constant e.dim ++ 32 ∷ (decimal (e.mother.0 + 1) ++ 32 ∷ (constant e.label ++ 32 ∷ (decimal (e.daughter.0 + 1) ++ 10 ∷ rest)))) rest).0
    (e.dim, _, refl, (e.mother, _, record { parts = refl; within = mother }, (e.label, _, refl, (e.daughter, rest, record { parts = refl; within = daughter }, ap (λ z. pair (lines.Edge (record e { at = z })) rest) (sym place)))))
line_read at lines.End rest is = refl

-- what is read as a line, behind the words that begin it
pub record Spelled (at : ℕ) (bytes : List ℕ) (l : Line) (rest : List ℕ) : Type 0 where
  pub parts : bytes ≡ line_text l ++ rest
  pub is : IsLine at l

spelled_as : (at : ℕ) (bytes : List ℕ) (made l : Line) (left rest : List ℕ) → pair made left ≡ pair l rest → bytes ≡ line_text made ++ left → IsLine at made → Spelled at bytes l rest
spelled_as at bytes made l left rest same parts is = subst (λ (p : Line × List ℕ). Spelled at bytes p.0 p.1) same (record { parts = parts; is = is })

word_spelled : (at : ℕ) (bytes : List ℕ) (l : Line) (rest : List ℕ) → IsWord at l bytes rest → Spelled at (codes "word " ++ bytes) l rest
word_spelled at bytes l rest (node, a, n, (text, b, t, (entry, c, e, same))) =
    spelled_as at _ _ l c rest same (rw (n.parts, t, e.parts) (sym (line_tail (codes "word") (decimal (node.0 + 1) ∷ quoted text ∷ decimal (entry + 1) ∷ []) c))) (n.within, e.within, refl)

attr_spelled : (at : ℕ) (bytes : List ℕ) (l : Line) (rest : List ℕ) → IsAttrLine at l bytes rest → Spelled at (codes "attr " ++ bytes) l rest
attr_spelled at bytes l rest (dim, a, d, (node, b, n, (attr, c, t, (value, left, v, same)))) =
    spelled_as at _ _ l left rest same (rw (d, n.parts, t, v.parts) (sym (line_tail (codes "attr") (constant dim ∷ decimal (node.0 + 1) ∷ constant attr ∷ value_text value ∷ []) left))) (n.within, v.has, refl)

edge_spelled : (at : ℕ) (bytes : List ℕ) (l : Line) (rest : List ℕ) → IsEdgeLine at l bytes rest → Spelled at (codes "edge " ++ bytes) l rest
edge_spelled at bytes l rest (dim, a, d, (mother, b, m, (label, c, t, (daughter, left, n, same)))) =
    spelled_as at _ _ l left rest same (rw (d, m.parts, t, n.parts) (sym (line_tail (codes "edge") (constant dim ∷ decimal (mother.0 + 1) ∷ constant label ∷ decimal (daughter.0 + 1) ∷ []) left))) (m.within, n.within, refl)

analysis_spelled : (at : ℕ) (bytes : List ℕ) (l : Line) (rest : List ℕ) → IsNumberLine l bytes rest → Spelled at (codes "analysis " ++ bytes) l rest
analysis_spelled at bytes l rest (number, left, n, same) = spelled_as at _ _ l left rest same (rw n.parts (sym (line_tail (codes "analysis") (decimal number ∷ []) left))) (n.low, n.high)

counts_spelled : (at : ℕ) (bytes : List ℕ) (l : Line) (rest : List ℕ) → IsCountsLine l bytes rest → Spelled at (codes "counts " ++ bytes) l rest
counts_spelled at bytes l rest (words, a, w, (attrs, b, x, (edges, left, e, same))) =
    spelled_as at _ _ l left rest same (rw (w.parts, x.parts, e.parts) (sym (line_tail (codes "counts") (decimal words ∷ decimal attrs ∷ decimal edges ∷ []) left))) (w.low, w.high, x.high, e.high)

-- one of two ways
choice : (at : ℕ) (bytes : List ℕ) (l : Line) (rest word : List ℕ) (f : List ℕ → Option (Line × List ℕ)) (other : Option (Line × List ℕ)) → ((left : List ℕ) → f left ≡ Some (l, rest) → Spelled at (word ++ left) l rest) → (other ≡ Some (l, rest) → Spelled at bytes l rest) → past_or (behind word bytes) f other ≡ Some (l, rest) → Spelled at bytes l rest
choice at bytes l rest word f other this later read = by (past_or_found (behind word bytes) f other (pair l rest) read) where
  by : Passed (behind word bytes) f (pair l rest) ⊎ (other ≡ Some (pair l rest)) → Spelled at bytes l rest
  by (inl passed) = subst (λ z. Spelled at z l rest) (sym (it_stands word bytes passed.rest passed.is)) (this passed.rest passed.goes)
  by (inr found) = later found

-- what is read as a line is written so
pub line_spelled : (at : ℕ) (bytes : List ℕ) (l : Line) (rest : List ℕ) → line_at at bytes ≡ Some (l, rest) → Spelled at bytes l rest
unfolding line_at
line_spelled at bytes l rest =
    choice at bytes l rest (codes "word ") (word_at at) _ (λ left found. word_spelled at left l rest ((word_law at l left rest).1 found))
    (choice at bytes l rest (codes "attr ") (attr_at at) _ (λ left found. attr_spelled at left l rest ((attr_law at l left rest).1 found))
    (choice at bytes l rest (codes "edge ") (edge_at at) _ (λ left found. edge_spelled at left l rest ((edge_law at l left rest).1 found))
    (choice at bytes l rest (codes "end\n") (λ rest. Some (lines.End, rest)) _ (λ left found. spelled_as at _ lines.End l left rest (some_same _ _ found) refl tt)
    (choice at bytes l rest (codes "analysis ") analysis_at _ (λ left found. analysis_spelled at left l rest ((analysis_law l left rest).1 found))
    (choice at bytes l rest (codes "counts ") counts_at _ (λ left found. counts_spelled at left l rest ((counts_law l left rest).1 found))
    (choice at bytes l rest (codes "xdg 2\n") (λ rest. Some (lines.Version, rest)) None (λ left found. spelled_as at _ lines.Version l left rest (some_same _ _ found) (ap (λ z. z ++ left) (sym version_is)) tt)
    (λ found. absurd (none_some (pair l rest) found))))))))
