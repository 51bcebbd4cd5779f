-- A group that takes one line after the other.
use Rattle.std.proofs.Common.{◌≡◌, ◌⊎◌, inl, inr, ℕ, ◌<◌, ◌≤◌, List, [], ◌∷◌, ◌++◌, length, refl, sym, ◌∙◌, ap, subst, arith}
use Rattle.std.specs.Prelude.{OnOk, Result, Ok, Err}
use Rattle.std.specs.List.{AllZip}
use Rattle.std.proofs.lemmas.List.{append_assoc, length-append}
use Rattle.std.proofs.lemmas.Slice.Zip.{AllZip-long}
use Rattle.xdg_base.specs.declared.faults.Fault.{Fault}
use Rattle.xdg_base.specs.declared.faults.Stop.{Stop}
use Rattle.xdg_base.specs.declared.faults.Stop.TheVariants as stops
use Rattle.xdg_base.specs.declared.places.LineColumn.{LineColumn}
use Rattle.xdg_command.specs.declared.commands.CorpusOptions.{CorpusOptions}
use Rattle.xdg_corpus.specs.Groups.{AsksFor, HasLines, StandsFor, TakesLines}
use Rattle.xdg_corpus.specs.Lines.{lines}
use Rattle.xdg_corpus.specs.Texts.{CanSearch}
use Rattle.xdg_corpus.specs.declared.group.Group.{Group}
use Rattle.xdg_corpus.specs.declared.group.Sentence.{Sentence}
use Rattle.xdg_corpus.specs.declared.group.Sentence.TheVariants as sentences
use Rattle.xdg_inputs.specs.Meanings.{Meaning}
use Rattle.xdg_inputs.specs.Sentences.{AcceptsWords, RejectsWords, StopsWords}
use Rattle.xdg_inputs.specs.Places.{line_column}
use Rattle.xdg_inputs.specs.Refusals.{refusal_of}
use Rattle.xdg_inputs.specs.declared.refusals.Refusal.{Refusal}
use Rattle.xdg_inputs.specs.declared.refusals.Refusal.TheVariants as refusals
use Rattle.xdg_problem.specs.declared.parts.Parts.{Parts}
use Rattle.xdg_propcore.specs.Uses.{AllStandIn}
use Rattle.xdg_split.specs.Asked.{Asked, IsJob, asked}
use Rattle.xdg_facts.proofs.Lists.{zip_more, get_last, get_more}
use Rattle.xdg_facts.proofs.Zips.{zip_weaker}

-- ---- lists

-- what follows from each place
-- what holds after each fault holds where a fault was told
pub stays_at_text : {T E : Type 0} (P : Type 0) (result : Result T E) (line : List ℕ) (stop : Stop) (refusal : Refusal) (f : Fault) (place : LineColumn) → ((g : Fault) → stop ≡ stops.Fault g → P) → refusal ≡ refusal_of line stop → refusal ≡ refusals.Text f place → OnOk result P
stays_at_text P (Ok done) line (stops.Fault g) refusal f place told is text = told g refl
stays_at_text P (Ok done) line stops.OutOfMemory refusal f place told is text = absurd (let e : refusals.Memory ≡ refusals.Text f place = sym is ∙ text in cc)
stays_at_text P (Err e) line stop refusal f place told is text = tt

-- ---- lines

module _ (m : Meaning) (options : CorpusOptions) where
  -- one more job changes nothing for the lines before
  stands_still : (jobs : List Asked) (job : Asked) (line : List ℕ) (sentence : Sentence) → StandsFor m options jobs line sentence → StandsFor m options (jobs ++ job ∷ []) line sentence
  stands_still jobs job line (sentences.Refused f place) s = s
  stands_still jobs job line (sentences.Job place) s = (s.0, get_more jobs (job ∷ []) place s.0 s.1, s.2)

  -- the search of a line, and what a job keeps
  pub asks : (line : List ℕ) (parts : Parts) (job : Asked) → AcceptsWords m options.segment line parts → job ≡ asked parts options.budget options.first → AsksFor m options line job
  asks line parts job accepts is = record { parts = parts; accepts = accepts; is = is }

  pub is_job : {P : Type 0} (stands : P → Parts → ℕ → Type 0) (props : List P) (parts : Parts) → CanSearch options → AllStandIn stands props parts → IsJob stands props (asked parts options.budget options.first)
  is_job stands props parts can stand = record { stand = stand; some = can.some; most = can.most; first = can.first }

  -- a line with its search
  pub line_asked : (taken : List (List ℕ)) (line : List ℕ) (old new : Group) (job : Asked) → AsksFor m options line job
      → new.sentences.items ≡ old.sentences.items ++ sentences.Job (length old.jobs.items) ∷ [] → new.jobs.items ≡ old.jobs.items ++ job ∷ [] → HasLines m options taken old → HasLines m options (taken ++ line ∷ []) new
  line_asked taken line old new job asks said jobs has =
      let jobs_old = old.jobs.items in
      let grown = zip_weaker (StandsFor m options jobs_old) (StandsFor m options (jobs_old ++ job ∷ [])) taken old.sentences.items (λ x among. stands_still jobs_old job x) has in
      let more = zip_more (StandsFor m options (jobs_old ++ job ∷ [])) taken old.sentences.items line (sentences.Job (length jobs_old)) grown (job, get_last jobs_old job, asks) in
      subst (λ js. AllZip (StandsFor m options js) (taken ++ line ∷ []) new.sentences.items) (sym jobs) (subst (AllZip (StandsFor m options (jobs_old ++ job ∷ [])) (taken ++ line ∷ [])) (sym said) more)

  -- a line that is refused
  pub line_refused : (taken : List (List ℕ)) (line : List ℕ) (old new : Group) (f : Fault) (place : LineColumn) → RejectsWords m options.segment line f → place ≡ line_column line f
      → new.sentences.items ≡ old.sentences.items ++ sentences.Refused f place ∷ [] → new.jobs.items ≡ old.jobs.items → HasLines m options taken old → HasLines m options (taken ++ line ∷ []) new
  line_refused taken line old new f place rejects at said jobs has =
      let more = zip_more (StandsFor m options old.jobs.items) taken old.sentences.items line (sentences.Refused f place) has (rejects, at) in
      subst (λ js. AllZip (StandsFor m options js) (taken ++ line ∷ []) new.sentences.items) (sym jobs) (subst (AllZip (StandsFor m options old.jobs.items) (taken ++ line ∷ [])) (sym said) more)

  -- the refusal of a line
  pub words_refused : (line : List ℕ) (stop : Stop) (refusal : Refusal) (f : Fault) (place : LineColumn) → StopsWords m options.segment line stop → refusal ≡ refusal_of line stop → refusal ≡ refusals.Text f place
      → RejectsWords m options.segment line f × (place ≡ line_column line f)
  words_refused line (stops.Fault g) refusal f place stopped is text = (
    (let same : g ≡ f = let e : refusals.Text g (line_column line g) ≡ refusals.Text f place = sym is ∙ text in cc in subst (RejectsWords m options.segment line) same stopped),
    (let same : g ≡ f = let e : refusals.Text g (line_column line g) ≡ refusals.Text f place = sym is ∙ text in cc in
        let there : line_column line g ≡ place = let e : refusals.Text g (line_column line g) ≡ refusals.Text f place = sym is ∙ text in cc in sym there ∙ ap (line_column line) same),
  )
  words_refused line stops.OutOfMemory refusal f place stopped is text = absurd (let e : refusals.Memory ≡ refusals.Text f place = sym is ∙ text in cc)

  -- what is added to a group, where memory is had
  pub asked_added : {T E : Type 0} (result : Result T E) (line : List ℕ) (old new : Group) (job : Asked) → AsksFor m options line job
      → OnOk result (new.sentences.items ≡ old.sentences.items ++ sentences.Job (length old.jobs.items) ∷ []) → OnOk result (new.jobs.items ≡ old.jobs.items ++ job ∷ [])
      → OnOk result ((taken : List (List ℕ)) → HasLines m options taken old → HasLines m options (taken ++ line ∷ []) new)
  asked_added (Ok done) line old new job asks said jobs = λ taken has. line_asked taken line old new job asks said jobs has
  asked_added (Err e) line old new job asks said jobs = tt

  pub refused_added : {T E : Type 0} (result : Result T E) (line : List ℕ) (old new : Group) (f : Fault) (place : LineColumn) → RejectsWords m options.segment line f → place ≡ line_column line f
      → OnOk result (new.sentences.items ≡ old.sentences.items ++ sentences.Refused f place ∷ []) → OnOk result (new.jobs.items ≡ old.jobs.items)
      → OnOk result ((taken : List (List ℕ)) → HasLines m options taken old → HasLines m options (taken ++ line ∷ []) new)
  refused_added (Ok done) line old new f place rejects at said jobs = λ taken has. line_refused taken line old new f place rejects at said jobs has
  refused_added (Err e) line old new f place rejects at said jobs = tt

  -- ---- lines of a text

  pub takes_none : (text : List ℕ) (group : Group) → group.sentences.items ≡ [] → TakesLines m options text group text
  takes_none text group none = record { taken = []; has = subst (AllZip (StandsFor m options group.jobs.items) []) (sym none) tt; lines_are = refl; fewer = omega arith }

  pub takes_line : (text : List ℕ) (old new : Group) (rest line later : List ℕ) → TakesLines m options text old rest → lines rest ≡ line ∷ lines later → length later < length rest
      → ((taken : List (List ℕ)) → HasLines m options taken old → HasLines m options (taken ++ line ∷ []) new) → TakesLines m options text new later
  takes_line text old new rest line later so_far first shorter grows = record {
    taken = so_far.taken ++ line ∷ [];
    has = grows so_far.taken so_far.has;
    lines_are = so_far.lines_are ∙ ap (λ z. so_far.taken ++ z) first ∙ sym (append_assoc so_far.taken (line ∷ []) (lines later));
    fewer = let few = so_far.fewer in omega (arith, few, shorter, length-append so_far.taken (line ∷ []));
  }

  -- a group has as many lines as were taken
  pub taken_count : (text : List ℕ) (group : Group) (rest : List ℕ) (takes : TakesLines m options text group rest) → length group.sentences.items ≡ length takes.taken
  taken_count text group rest takes = AllZip-long (StandsFor m options group.jobs.items) takes.taken group.sentences.items takes.has

  -- a full group, or one with all lines, leaves less of a text that isn't empty
  pub takes_some : (size : ℕ) (text : List ℕ) (group : Group) (rest : List ℕ) → 1 ≤ size → TakesLines m options text group rest → (size ≤ length group.sentences.items) ⊎ (length rest ≡ 0) → 0 < length text → length rest < length text
  takes_some size text group rest one takes (inl full) some = let count = taken_count text group rest takes in let few = takes.fewer in omega (arith, one, count, few, full)
  takes_some size text group rest one takes (inr none) some = omega (arith, none, some)
