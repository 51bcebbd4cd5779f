-- The grammar text of a file: accepted or rejected.
use Rattle.std.proofs.Common.{◌≡◌, ℕ, ◌≤◌, List, length, Some, Ok, Err, refl, sym, ◌∙◌, ap, subst, arith}
use Rattle.std.specs.Prelude.{Option, Result}
use Rattle.xdg_base.specs.declared.faults.Fault.{Fault}
use Rattle.xdg_base.specs.declared.faults.Stop.{Stop}
use Rattle.xdg_base.specs.declared.faults.Stop.TheVariants as stops
use Rattle.xdg_base.specs.Places.{line_of, column_of}
use Rattle.xdg_ast.specs.declared.grammar.Grammar.{Grammar}
use Rattle.xdg_ast.specs.Derives.{Reads}
use Rattle.xdg_base.specs.Told.{Gives}
use Rattle.xdg_base.proofs.Told.{same_value, same_error, no_error, no_value}
use Rattle.xdg_inputs.specs.GrammarTexts.{IsUnreadable, IsReadAs, TellsTree}
use Rattle.xdg_io.specs.Files.{HasFile}
use Rattle.xdg_inputs.specs.Places.{line_column}
use Rattle.xdg_inputs.specs.Refusals.{Stops, refusal_of}
use Rattle.xdg_inputs.specs.Stages.{Accepts, Rejects}
use Rattle.xdg_inputs.specs.GrammarFiles.{ReadText, HasTree, HasBadText, IsBadText, too_long, unreadable, grammar_limit}
use Rattle.xdg_inputs.specs.declared.refusals.Refusal.{Refusal}
use Rattle.xdg_facts.proofs.Options.{one_value}

-- what `read_tree` says of its answer
abbrev pub Only : List ℕ → Result Grammar Stop → Type 0
Only text result = (answer : Result Grammar Fault) → IsReadAs text answer → Gives answer result

-- the first byte of a text is its first line and column
pub first_byte : (text : List ℕ) (f : Fault) → f.at ≡ 0 → record { line = 1; column = 1 } ≡ line_column text f
first_byte text f e = ap (λ n. record { line = line_of text n; column = column_of text n }) (sym e)

-- ---- a text that is read

same_read : (text : List ℕ) (tree : Grammar) (b : ReadText) → Only text (Ok tree) → b.text ≡ text → Reads b.text b.tree → b ≡ record { text = text; tree = tree }
same_read text tree b only e r =
    let t : b.tree ≡ tree = same_value b.tree tree (only (Ok b.tree) (subst (λ z. Reads z b.tree) e r)) in
    ap (λ z. record { text = z; tree = b.tree }) e ∙ ap (λ z. record { text = text; tree = z }) t

never_bad : (text : List ℕ) (tree : Grammar) (f : Fault) → length text ≤ grammar_limit → Only text (Ok tree) → IsBadText text f → ⊥
never_bad text tree f within only (too_long long e) = omega (arith, within, long)
never_bad text tree f within only (unreadable small u) = no_value tree f (only (Err f) u)

pub tree_accepted : (files : List ℕ → Option (List ℕ)) (name text : List ℕ) (tree : Grammar) → files name ≡ Some text → length text ≤ grammar_limit → Reads text tree → Only text (Ok tree)
    → Accepts ReadText (HasBadText files name) (HasTree files name) (record { text = text; tree = tree })
tree_accepted files name text tree file within reads only = record {
  has = record { file = file; within = within; reads = reads };
  one = λ b h. same_read text tree b only (one_value (files name) b.text text h.file file) h.reads;
  never = λ t f q. never_bad text tree f within only (subst (λ z. IsBadText z f) (one_value (files name) t text q.file file) q.because);
}

-- ---- a text that isn't

one_bad : (text : List ℕ) (f g : Fault) → length text ≤ grammar_limit → Only text (Err (stops.Fault f)) → IsBadText text g → g ≡ f
one_bad text f g within only (too_long long e) = absurd (omega (arith, within, long))
one_bad text f g within only (unreadable small u) = same_error g f (only (Err g) u)

tree_rejected : (files : List ℕ → Option (List ℕ)) (name text : List ℕ) (f : Fault) → files name ≡ Some text → length text ≤ grammar_limit → IsUnreadable text f → Only text (Err (stops.Fault f))
    → Rejects ReadText (HasBadText files name) (HasTree files name) text f
tree_rejected files name text f file within u only = record {
  is = record { file = file; because = unreadable within u };
  one = λ t g q. let e = one_value (files name) t text q.file file in (e, one_bad text f g within only (subst (λ z. IsBadText z g) e q.because));
  never = λ b h. no_error b.tree f (only (Ok b.tree) (subst (λ z. Reads z b.tree) (one_value (files name) b.text text h.file file) h.reads));
}

pub tree_stops : (Told : Type 0) (before after : ℕ) (files : List ℕ → Option (List ℕ)) (name text : List ℕ) (stop : Stop) → (Told → files name ≡ Some text) → length text ≤ grammar_limit → TellsTree text (Err stop) → Only text (Err stop)
    → Stops Told before after ReadText (HasBadText files name) (HasTree files name) (refusal_of text stop)
tree_stops Told before after files name text (stops.Fault f) file within tells only = λ told. record { text = text; rejects = tree_rejected files name text f (file told) within tells only; place_is = refl }
tree_stops Told before after files name text stops.OutOfMemory file within tells only = tt

-- ---- what a shelf gives

-- a file that is told has the bytes that were loaded
pub told_file : (told : Option (List ℕ → Option (List ℕ))) (files : List ℕ → Option (List ℕ)) (name text : List ℕ) → told ≡ Some files → HasFile told name text → files name ≡ Some text
told_file told files name text t has = subst (λ z. HasFile z name text) t has

pub loaded_accepted : (told : Option (List ℕ → Option (List ℕ))) (files : List ℕ → Option (List ℕ)) (name text read : List ℕ) (tree : Grammar) → told ≡ Some files → HasFile told name text → length text ≤ grammar_limit → read ≡ text → Reads read tree → Only read (Ok tree)
    → Accepts ReadText (HasBadText files name) (HasTree files name) (record { text = text; tree = tree })
loaded_accepted told files name text read tree t has within e reads only =
    tree_accepted files name text tree (told_file told files name text t has) within (subst (λ z. Reads z tree) e reads) (subst (λ z. Only z (Ok tree)) e only)

pub loaded_stops : (told : Option (List ℕ → Option (List ℕ))) (files : List ℕ → Option (List ℕ)) (name text read : List ℕ) (old new : ℕ) (stop : Stop) (refusal : Refusal) → HasFile told name text → length text ≤ grammar_limit → read ≡ text → TellsTree read (Err stop) → Only read (Err stop) → refusal ≡ refusal_of read stop
    → Stops (told ≡ Some files) old new ReadText (HasBadText files name) (HasTree files name) refusal
loaded_stops told files name text read old new stop refusal has within e tells only r =
    subst (Stops (told ≡ Some files) old new ReadText (HasBadText files name) (HasTree files name)) (sym (r ∙ ap (λ z. refusal_of z stop) e))
    (tree_stops (told ≡ Some files) old new files name text stop (λ t. told_file told files name text t has) within (subst (λ z. TellsTree z (Err stop)) e tells) (subst (λ z. Only z (Err stop)) e only))
