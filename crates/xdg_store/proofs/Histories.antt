-- The boxes of the words that stood.
use Rattle.std.proofs.Common.{◌≡◌, ℕ, ◌<◌, ◌≤◌, ◌+◌, ◌-◌, Bool, List, [], ◌∷◌, ◌++◌, length, get_or, set, take, drop, refl, ap, sym, ◌∙◌, arith, subst, zero, suc, length-append}
use Rattle.std.proofs.lemmas.List.{take-append-le, take_all, get_or-take, length-take-le, get_or_push}
use Rattle.xdg_problem.specs.declared.parts.Parts.{Parts}
use Rattle.std.specs.Prelude.{sum}
use Rattle.xdg_problem.specs.Boxes.{IsBox}
use Rattle.xdg_problem.specs.Vectors.{shape}
use Rattle.xdg_trail.specs.Trailed.{Trailed, states, past}
use Rattle.xdg_store.specs.Layout.{bits_of, box_in}
use Rattle.xdg_store.specs.States.{State, Keeps, Known, Sound, oldest, remaining}

-- what a store with these parts, this trail and these turns is seen as
abbrev pub seen : Parts → Trailed → ℕ → State
seen parts t turns = record { parts = parts; now = box_in (bits_of parts) t.words; history = oldest (bits_of parts) (past t); turns = turns }

pub length-oldest : (bits : List (List ℕ)) (xs : List (List ℕ)) → length (oldest bits xs) ≡ length xs
length-oldest bits [] = refl
length-oldest bits (x ∷ xs) = let e = length-oldest bits xs in let f = length-append (oldest bits xs) (box_in bits x ∷ []) in omega (arith, e, f)

pub length-states : (ws : List ℕ) (rs : List (ℕ × ℕ)) → length (states ws rs) ≡ length rs + 1
length-states ws [] = refl
length-states ws (r ∷ rs) = let e = length-states (set ws r.0 r.1) rs in omega (arith, e)

pub history_length : (bits : List (List ℕ)) (t : Trailed) → length (oldest bits (past t)) ≡ length t.records + 1
history_length bits t = length-oldest bits (past t) ∙ length-states t.words t.records

-- the words that stood before
pub earlier : List ℕ → List (ℕ × ℕ) → List (List ℕ)
earlier ws [] = []
earlier ws (r ∷ rs) = states (set ws r.0 r.1) rs

pub split_states : (ws : List ℕ) (rs : List (ℕ × ℕ)) → states ws rs ≡ ws ∷ earlier ws rs
unfolding earlier
split_states ws [] = refl
split_states ws (r ∷ rs) = refl

length-earlier : (ws : List ℕ) (rs : List (ℕ × ℕ)) → length (earlier ws rs) ≡ length rs
length-earlier ws rs =
    let e = length-states ws rs in
    let f : length (states ws rs) ≡ suc (length (earlier ws rs)) = ap length (split_states ws rs) in
    omega (arith, e, f)

-- what is sound of the present words
pub present : (sizes : List ℕ) (total : ℕ) (bits : List (List ℕ)) (t : Trailed) → Sound sizes total bits (past t) → (remaining (box_in bits t.words) + length t.records ≤ total) × IsBox sizes (box_in bits t.words)
present sizes total bits t s =
    let h = subst (Sound sizes total bits) (split_states t.words t.records) s in
    let n = length-earlier t.words t.records in
    ((let e = h.0 in omega (arith, e, n)), h.1)

last_box : (bits : List (List ℕ)) (ws : List ℕ) (before : List (List ℕ)) → get_or (oldest bits (ws ∷ before)) (length (oldest bits (ws ∷ before)) - 1) [] ≡ box_in bits ws
last_box bits ws before =
    let f = length-append (oldest bits before) (box_in bits ws ∷ []) in
    get_or_push (oldest bits before) (box_in bits ws) [] (length (oldest bits (ws ∷ before)) - 1) (omega (arith, f))

pub known_of : (parts : Parts) (turns : ℕ) (t : Trailed) → Keeps parts t → Known (seen parts t turns)
known_of parts turns t keeps = record {
  problem = keeps.problem;
  is_box = (present (shape parts) (sum (shape parts)) (bits_of parts) t keeps.sound).1;
  some = (let e = history_length (bits_of parts) t in omega (arith, e));
  last = subst (λ xs. get_or (oldest (bits_of parts) xs) (length (oldest (bits_of parts) xs) - 1) [] ≡ box_in (bits_of parts) t.words) (sym (split_states t.words t.records)) (last_box (bits_of parts) t.words (earlier t.words t.records));
}

pub known_seen : {parts : Parts} {t : Trailed} {turns : ℕ} {s : State} → Keeps parts t → seen parts t turns ≡ s → Known s
known_seen {parts} {t} {turns} keeps is = subst Known is (known_of parts turns t keeps)

-- ---- undo

pub oldest_drop : (bits : List (List ℕ)) (k : ℕ) (xs : List (List ℕ)) → oldest bits (drop k xs) ≡ take (length xs - k) (oldest bits xs)
oldest_drop bits zero xs = sym (take_all (length xs - 0) (oldest bits xs) (let e = length-oldest bits xs in omega (arith, e)))
oldest_drop bits (suc k) [] = sym (take_all (length {A = List ℕ} [] - suc k) [] (omega arith))
oldest_drop bits (suc k) (x ∷ xs) =
    let e = length-oldest bits xs in
    let m : length (x ∷ xs) - suc k ≡ length xs - k = omega arith in
    oldest_drop bits k xs ∙ sym (take-append-le (length xs - k) (oldest bits xs) (box_in bits x ∷ []) (omega (arith, e))) ∙ ap (λ i. take i (oldest bits xs ++ (box_in bits x ∷ []))) (sym m)

pub sound_drop : (sizes : List ℕ) (total : ℕ) (bits : List (List ℕ)) (k : ℕ) (xs : List (List ℕ)) → Sound sizes total bits xs → Sound sizes total bits (drop k xs)
sound_drop sizes total bits zero xs s = s
sound_drop sizes total bits (suc k) [] s = s
sound_drop sizes total bits (suc k) (x ∷ xs) s = sound_drop sizes total bits k xs s.2

-- the history is cut behind the mark
pub history_cut : (bits : List (List ℕ)) (old new : Trailed) (mark : ℕ) → mark ≤ length old.records → past new ≡ drop (length old.records - mark) (past old) → oldest bits (past new) ≡ take (mark + 1) (oldest bits (past old))
history_cut bits old new mark l e =
    let n = length-states old.words old.records in
    let m : length (past old) - (length old.records - mark) ≡ mark + 1 = omega (arith, n, l) in
    ap (oldest bits) e ∙ oldest_drop bits (length old.records - mark) (past old) ∙ ap (λ i. take i (oldest bits (past old))) m

-- the last box of a cut history
pub cut_last : (h : List (List (List Bool))) (m : ℕ) → m < length h → get_or (take (m + 1) h) (length (take (m + 1) h) - 1) [] ≡ get_or h m []
cut_last h m l =
    let n = length-take-le (m + 1) h (omega arith) in
    let e : length (take (m + 1) h) - 1 ≡ m = omega (arith, n) in
    ap (λ i. get_or (take (m + 1) h) i []) e ∙ get_or-take (m + 1) h m [] (omega arith)

pub keeps_undone : {parts : Parts} {old : Trailed} (new : Trailed) (mark : ℕ) → Keeps parts old → length new.words ≡ length old.words → new.spare + length new.records ≡ old.spare + length old.records
    → past new ≡ drop (length old.records - mark) (past old) → Keeps parts new
keeps_undone {parts} {old} new mark keeps len room e = record {
  problem = keeps.problem;
  long = (let l = keeps.long in omega (arith, len, l));
  spare = (let s = keeps.spare in omega (arith, room, s));
  sound = subst (Sound (shape parts) (sum (shape parts)) (bits_of parts)) (sym e) (sound_drop (shape parts) (sum (shape parts)) (bits_of parts) (length old.records - mark) (past old) keeps.sound);
}

-- ---- marks

module _ {parts : Parts} {turns : ℕ} {s : State} (t : Trailed) (is : seen parts t turns ≡ s) where
  records_are : length s.history ≡ length t.records + 1
  records_are = ap (λ s. length s.history) (sym is) ∙ history_length (bits_of parts) t

  -- the number of records is the number of boxes before this one
  pub marked : {mark : ℕ} → mark ≡ length t.records → mark + 1 ≡ length s.history
  marked e = let n = records_are in omega (arith, n, e)

  pub mark_within : {mark : ℕ} → mark < length s.history → mark ≤ length t.records
  mark_within l = let n = records_are in omega (arith, n, l)

pub last_at : (now : State) (mark : ℕ) → Known now → mark + 1 ≡ length now.history → get_or now.history mark [] ≡ now.now
last_at now mark known e =
    let i : mark ≡ length now.history - 1 = omega (arith, e) in
    ap (λ k. get_or now.history k []) i ∙ known.last
