-- A grammar has one answer.
use Rattle.std.proofs.Common.{◌≡◌, ℕ, ◌+◌, ◌<◌, ◌≤◌, List, [], ◌∷◌, ◌++◌, length, get_or, None, Result, Ok, Err, refl, sym, ap, ap₂, ◌∙◌, subst, inl, inr, arith}
use Rattle.std.proofs.lemmas.Bool.{cases_order}
use Rattle.xdg_base.specs.Told.{Gives}
use Rattle.xdg_base.specs.declared.faults.Cause.{Cause}
use Rattle.xdg_base.specs.declared.faults.Cause.TheVariants as causes
use Rattle.xdg_base.specs.declared.faults.Fault.{Fault}
use Rattle.xdg_base.specs.declared.faults.Stop.TheVariants as stops
use Rattle.xdg_packed.specs.Lexicon.{Entry, word_of}
use Rattle.xdg_classes.specs.Bodies.{Body}
use Rattle.xdg_check.specs.Counts.{uses, combos}
use Rattle.xdg_lexicon.specs.Partial.{Partial}
use Rattle.xdg_lexicon.specs.Denotes.{Denotes}
use Rattle.xdg_packed.specs.Entries.{IsWordPlace, count_of}
use Rattle.xdg_lexicon.specs.Sources.{Source, HasNumber}
use Rattle.xdg_lexicon.specs.Lexicon.{whole, AreWhole, Adds, SoFar, nothing_yet, IsWithinLimits, IsExpanded, Expands, ExpandsAll, no_more, one_more, IsTooMany, alone, together, IsCrowded, OffendsAt, many_uses, many_combos, unsaid, many_entries, many_of_word, Refuses, reaching_most}
use Rattle.xdg_lexicon.specs.Steps.{Once, AllOnce, OnceCounted}
use Rattle.xdg_lexicon.specs.Answers.{IsAnswer}
use Rattle.xdg_lexicon.proofs.Adding.{same_added, same_whole, none_lacks}
use Rattle.xdg_facts.proofs.Lists.{head_of, tail_of}
use Rattle.xdg_facts.specs.Membership.{In}

-- ---- what is told by the source

-- each body has one number of uses and one of combinations, and words stand at one place
pub record IsDefinite (source : Source) : Type 0 where
  pub uses_once : (b : Body) (n m : ℕ) → HasNumber uses source.classes b n → HasNumber uses source.classes b m → n ≡ m
  pub combos_once : (b : Body) (n m : ℕ) → HasNumber combos source.classes b n → HasNumber combos source.classes b m → n ≡ m
  pub words_once : (d f e g : ℕ) → IsWordPlace source.table d f → IsWordPlace source.table e g → (d ≡ e) × (f ≡ g)

-- ---- limits

same_too_many : (cause : Cause) (at before n : ℕ) (f g : Fault) → IsTooMany cause at before n f → IsTooMany cause at before n g → f ≡ g
same_too_many cause at before n f g (alone many is) (alone much says) = is ∙ sym says
same_too_many cause at before n f g (alone many is) (together few much says) = absurd (omega (arith, many, few))
same_too_many cause at before n f g (together few much is) (alone many says) = absurd (omega (arith, many, few))
same_too_many cause at before n f g (together few many is) (together less much says) = is ∙ sym says

pub not_within : (cause : Cause) (at before n : ℕ) (f : Fault) → IsTooMany cause at before n f → IsWithinLimits before n → ⊥
not_within cause at before n f (alone many is) within = omega (arith, many, within.0)
not_within cause at before n f (together few many is) within = omega (arith, many, within.1)

module _ (source : Source) (definite : IsDefinite source) where
  -- of two that are the first neither stands before the other
  not_before : (all : List Entry) (r s : ℕ) (x : IsCrowded source.table all r) (y : IsCrowded source.table all s) → x.first < y.first → ⊥
  not_before all r s x y less =
      let place = definite.words_once x.dim x.field y.dim y.field x.words y.words in
      let few : count_of x.dim x.field all (word_of x.dim x.field (get_or all x.first [])) ≤ 1024 =
      rw (place.0, place.1) (y.before x.first less) in
      omega (arith, few, x.many, x.reached_is)

  same_crowded : (all : List Entry) (r s : ℕ) → IsCrowded source.table all r → IsCrowded source.table all s → r ≡ s
  same_crowded all r s x y =
      let place = definite.words_once x.dim x.field y.dim y.field x.words y.words in
      elim (cases_order x.first y.first) [
        | inl is ↦
            x.reached_is ∙ ap (λ n. count_of x.dim x.field all (word_of x.dim x.field (get_or all n []))) is
            ∙ ap₂ (λ d f. count_of d f all (word_of d f (get_or all y.first []))) place.0 place.1
            ∙ sym y.reached_is
        | inr (inl less) ↦ absurd (not_before all r s x y less)
        | inr (inr less) ↦ absurd (not_before all s r y x less)
      ]

  -- ---- one `defentry`

  module _ (before : SoFar) (b : Body) where
    same_all : (all others : List Entry) → Once source b → IsExpanded source before b all → IsExpanded source before b others → all ≡ others
    same_all all others once x y =
        let ms = once x.members y.members x.denotes y.denotes in
        let made = same_whole source.table x.members x.made y.made x.whole_each (subst (λ l. AreWhole source.table l y.made) (sym ms) y.whole_each) in
        same_added before.entries x.made all others x.added (subst (λ l. Adds before.entries l others) (sym made) y.added)

    few_uses : (cause : Cause) (at n u : ℕ) (f : Fault) → HasNumber uses source.classes b n → IsTooMany cause at before.uses n f → HasNumber uses source.classes b u → IsWithinLimits before.uses u → ⊥
    few_uses cause at n u f has many one within = not_within cause at before.uses n f many (subst (IsWithinLimits before.uses) (definite.uses_once b u n one has) within)

    few_combos : (cause : Cause) (at n u : ℕ) (f : Fault) → HasNumber combos source.classes b n → IsTooMany cause at before.combos n f → HasNumber combos source.classes b u → IsWithinLimits before.combos u → ⊥
    few_combos cause at n u f has many one within = not_within cause at before.combos n f many (subst (IsWithinLimits before.combos) (definite.combos_once b u n one has) within)

    none_unsaid : (all : List Entry) (ms : List Partial) (p : Partial) → Once source b → IsExpanded source before b all → Denotes source.table.dims source.classes [] b ms → In ms p → whole source.table p ≡ None → ⊥
    none_unsaid all ms p once x denotes stands none =
        none_lacks source.table x.members x.made p x.whole_each (subst (λ l. In l p) (once ms x.members denotes x.denotes) stands) none

    pub expands_same : (x y : SoFar) → Once source b → Expands source before b x → Expands source before b y → x ≡ y
    expands_same x y once one other =
        same_so_far x y
        (one.uses_are ∙ ap (λ n. before.uses + n) (definite.uses_once b one.counted.uses_of other.counted.uses_of one.counted.has_uses other.counted.has_uses) ∙ sym other.uses_are)
        (one.combos_are ∙ ap (λ n. before.combos + n) (definite.combos_once b one.counted.combos_of other.counted.combos_of one.counted.has_combos other.counted.has_combos) ∙ sym other.combos_are)
        (same_all x.entries y.entries once one.expanded other.expanded)
      where
        same_so_far : (s t : SoFar) → s.uses ≡ t.uses → s.combos ≡ t.combos → s.entries ≡ t.entries → s ≡ t
        same_so_far s t u c e =
            let numbers : ℕ → ℕ → SoFar = λ m n. record { uses = m; combos = n; entries = s.entries } in
            let lists : List Entry → SoFar = λ l. record { uses = t.uses; combos = t.combos; entries = l } in
            ap₂ numbers u c ∙ ap lists e

  module _ (before : SoFar) (one : ℕ × Body) where
    pub not_both : (after : SoFar) (f : Fault) → Once source one.1 → Expands source before one.1 after → OffendsAt source before one f → ⊥
    not_both after f once x (many_uses n has many) = few_uses before one.1 _ _ n x.counted.uses_of f has many x.counted.has_uses x.counted.few_uses
    not_both after f once x (many_combos u n has within has_combos many) = few_combos before one.1 _ _ n x.counted.combos_of f has_combos many x.counted.has_combos x.counted.few_combos
    not_both after f once x (unsaid ms p counted denotes stands none is) = none_unsaid before one.1 after.entries ms p once x.expanded denotes stands none
    not_both after f once x (many_entries all counted expanded many is) =
        let e = ap length (same_all before one.1 all after.entries once expanded x.expanded) in
        let few = x.few in
        omega (arith, many, few, e)
    not_both after f once x (many_of_word all reached counted expanded few crowded is) =
        let e = same_all before one.1 after.entries all once x.expanded expanded in
        let bound = x.few_each crowded.dim crowded.field crowded.words (word_of crowded.dim crowded.field (get_or all crowded.first [])) in
        let most : count_of crowded.dim crowded.field all (word_of crowded.dim crowded.field (get_or all crowded.first [])) ≤ 1024 = subst (λ l. count_of crowded.dim crowded.field l (word_of crowded.dim crowded.field (get_or all crowded.first [])) ≤ 1024) e bound in
        let many = crowded.many in
        let same = crowded.reached_is in
        omega (arith, most, many, same)

    pub offends_same : (f g : Fault) → OnceCounted source before one.1 → OffendsAt source before one f → OffendsAt source before one g → f ≡ g
    offends_same f g once (many_uses n has many) (many_uses m had more) =
        same_too_many causes.TooManyUses one.0 before.uses n f g many (subst (λ k. IsTooMany causes.TooManyUses one.0 before.uses k g) (definite.uses_once one.1 m n had has) more)
    offends_same f g once (many_uses n has many) (many_combos u m had within had_combos more) = absurd (few_uses before one.1 _ _ n u f has many had within)
    offends_same f g once (many_uses n has many) (unsaid ms p c denotes stands none is) = absurd (few_uses before one.1 _ _ n c.uses_of f has many c.has_uses c.few_uses)
    offends_same f g once (many_uses n has many) (many_entries all c expanded more is) = absurd (few_uses before one.1 _ _ n c.uses_of f has many c.has_uses c.few_uses)
    offends_same f g once (many_uses n has many) (many_of_word all reached c expanded few crowded is) = absurd (few_uses before one.1 _ _ n c.uses_of f has many c.has_uses c.few_uses)
    offends_same f g once (many_combos u n has within has_combos many) (many_uses m had more) = absurd (few_uses before one.1 _ _ m u g had more has within)
    offends_same f g once (many_combos u n has within has_combos many) (many_combos w m had less had_combos more) =
        same_too_many causes.TooManyEntries one.0 before.combos n f g many (subst (λ k. IsTooMany causes.TooManyEntries one.0 before.combos k g) (definite.combos_once one.1 m n had_combos has_combos) more)
    offends_same f g once (many_combos u n has within has_combos many) (unsaid ms p c denotes stands none is) = absurd (few_combos before one.1 _ _ n c.combos_of f has_combos many c.has_combos c.few_combos)
    offends_same f g once (many_combos u n has within has_combos many) (many_entries all c expanded more is) = absurd (few_combos before one.1 _ _ n c.combos_of f has_combos many c.has_combos c.few_combos)
    offends_same f g once (many_combos u n has within has_combos many) (many_of_word all reached c expanded few crowded is) = absurd (few_combos before one.1 _ _ n c.combos_of f has_combos many c.has_combos c.few_combos)
    offends_same f g once (unsaid ms p c denotes stands none is) (many_uses m had more) = absurd (few_uses before one.1 _ _ m c.uses_of g had more c.has_uses c.few_uses)
    offends_same f g once (unsaid ms p c denotes stands none is) (many_combos w m had less had_combos more) = absurd (few_combos before one.1 _ _ m c.combos_of g had_combos more c.has_combos c.few_combos)
    offends_same f g once (unsaid ms p c denotes stands none is) (unsaid ns q d others stands' none' says) = is ∙ sym says
    offends_same f g once (unsaid ms p c denotes stands none is) (many_entries all d expanded more says) = absurd (none_unsaid before one.1 all ms p (once c) expanded denotes stands none)
    offends_same f g once (unsaid ms p c denotes stands none is) (many_of_word all reached d expanded few crowded says) = absurd (none_unsaid before one.1 all ms p (once c) expanded denotes stands none)
    offends_same f g once (many_entries all c expanded many is) (many_uses m had more) = absurd (few_uses before one.1 _ _ m c.uses_of g had more c.has_uses c.few_uses)
    offends_same f g once (many_entries all c expanded many is) (many_combos w m had less had_combos more) = absurd (few_combos before one.1 _ _ m c.combos_of g had_combos more c.has_combos c.few_combos)
    offends_same f g once (many_entries all c expanded many is) (unsaid ns q d denotes stands none says) = absurd (none_unsaid before one.1 all ns q (once c) expanded denotes stands none)
    offends_same f g once (many_entries all c expanded many is) (many_entries others d further more says) =
        is ∙ ap (λ (l : List Entry). reaching_most causes.TooManyEntries one.0 (length l)) (same_all before one.1 all others (once c) expanded further) ∙ sym says
    offends_same f g once (many_entries all c expanded many is) (many_of_word others reached d further few crowded says) =
        let e = ap length (same_all before one.1 all others (once c) expanded further) in absurd (omega (arith, e, many, few))
    offends_same f g once (many_of_word all reached c expanded few crowded is) (many_uses m had more) = absurd (few_uses before one.1 _ _ m c.uses_of g had more c.has_uses c.few_uses)
    offends_same f g once (many_of_word all reached c expanded few crowded is) (many_combos w m had less had_combos more) = absurd (few_combos before one.1 _ _ m c.combos_of g had_combos more c.has_combos c.few_combos)
    offends_same f g once (many_of_word all reached c expanded few crowded is) (unsaid ns q d denotes stands none says) = absurd (none_unsaid before one.1 all ns q (once c) expanded denotes stands none)
    offends_same f g once (many_of_word all reached c expanded few crowded is) (many_entries others d further more says) =
        let e = ap length (same_all before one.1 all others (once c) expanded further) in absurd (omega (arith, e, more, few))
    offends_same f g once (many_of_word all reached c expanded few crowded is) (many_of_word others counted d further less thronged says) =
        let e = same_all before one.1 others all (once c) further expanded in
        is ∙ ap (reaching_most causes.TooManyEntries one.0) (same_crowded all reached counted crowded (subst (λ l. IsCrowded source.table l counted) e thronged)) ∙ sym says

  -- ---- one after the other

  pub all_same : (before : SoFar) (list : List (ℕ × Body)) (a b : SoFar) → AllOnce source list → ExpandsAll source before list a → ExpandsAll source before list b → a ≡ b
  all_same _ _ _ _ once (no_more so) (no_more _) = refl
  all_same before _ a b once (one_more _ mid _ one rest x xs) (one_more _ other _ _ _ y ys) =
      all_same mid rest a b once.1 xs (subst (λ s. ExpandsAll source s rest b) (sym (expands_same before one.1 mid other once.0 x y)) ys)

  refused_not : (before mid last : SoFar) (front rest : List (ℕ × Body)) (one : ℕ × Body) (f : Fault) → AllOnce source front → OnceCounted source mid one.1 → ExpandsAll source before (front ++ one ∷ rest) last → ExpandsAll source before front mid → OffendsAt source mid one f → ⊥
  refused_not before _ last [] rest one f once here (one_more _ next _ _ _ x xs) (no_more _) offends = not_both before one next f (here x.counted) x offends
  refused_not before mid last (first ∷ front) rest one f once here (one_more _ next _ _ _ x xs) (one_more _ other _ _ _ y ys) offends =
      refused_not next mid last front rest one f once.1 here xs (subst (λ s. ExpandsAll source s front mid) (sym (expands_same before first.1 next other once.0 x y)) ys) offends

  once_front : (front rest : List (ℕ × Body)) → AllOnce source (front ++ rest) → AllOnce source front
  once_front [] rest once = tt
  once_front (one ∷ front) rest once = (once.0, once_front front rest once.1)

  once_there : (front rest : List (ℕ × Body)) (one : ℕ × Body) → AllOnce source (front ++ one ∷ rest) → Once source one.1
  once_there [] rest one once = once.0
  once_there (first ∷ front) rest one once = once_there front rest one once.1

  two_refused : (before mid others : SoFar) (front rest more left : List (ℕ × Body)) (one two : ℕ × Body) (f g : Fault) → front ++ one ∷ rest ≡ more ++ two ∷ left → AllOnce source front → OnceCounted source mid one.1
      → ExpandsAll source before front mid → OffendsAt source mid one f → ExpandsAll source before more others → OffendsAt source others two g → f ≡ g
  two_refused before _ _ [] rest [] left one two f g e once here (no_more _) offends (no_more _) offend =
      offends_same before one f g here offends (subst (λ x. OffendsAt source before x g) (sym (head_of one two rest left e)) offend)
  two_refused before _ others [] rest (second ∷ more) left one two f g e once here (no_more _) offends (one_more _ next _ _ _ x xs) offend =
      let is = head_of one second rest (more ++ two ∷ left) e in
      let x' = subst (λ z. Expands source before z.1 next) (sym is) x in
      absurd (not_both before one next f (here x'.counted) x' offends)
  two_refused before mid _ (first ∷ front) rest [] left one two f g e once here (one_more _ next _ _ _ x xs) offends (no_more _) offend =
      absurd (not_both before first next g once.0 x (subst (λ z. OffendsAt source before z g) (sym (head_of first two (front ++ one ∷ rest) left e)) offend))
  two_refused before mid others (first ∷ front) rest (second ∷ more) left one two f g e once here (one_more _ next _ _ _ x xs) offends (one_more _ then _ _ _ y ys) offend =
      let y' = subst (λ z. Expands source before z.1 then) (sym (head_of first second (front ++ one ∷ rest) (more ++ two ∷ left) e)) y in
      two_refused next mid others front rest more left one two f g (tail_of first second (front ++ one ∷ rest) (more ++ two ∷ left) e) once.1 here xs offends
      (subst (λ s. ExpandsAll source s more others) (sym (expands_same before first.1 next then once.0 x y')) ys) offend

  -- ---- answers

  pub only_expanded : (last : SoFar) → AllOnce source source.entries → ExpandsAll source nothing_yet source.entries last → (answer : Result (List Entry) Fault) → IsAnswer source answer → Gives answer (Ok last.entries)
  only_expanded last once all (Ok entries) is = ap Ok (sym is.1.1 ∙ ap (λ (s : SoFar). s.entries) (all_same nothing_yet source.entries is.0 last once is.1.0 all))
  only_expanded last once all (Err f) refuses =
      let once' = subst (AllOnce source) refuses.are once in
      absurd (refused_not nothing_yet refuses.so_far last refuses.front refuses.rest refuses.one f (once_front refuses.front (refuses.one ∷ refuses.rest) once') (λ c. once_there refuses.front refuses.rest refuses.one once')
      (subst (λ l. ExpandsAll source nothing_yet l last) refuses.are all) refuses.expanded refuses.offends)

  pub only_refused : (f : Fault) (r : Refuses source f) → AllOnce source r.front → OnceCounted source r.so_far r.one.1 → (answer : Result (List Entry) Fault) → IsAnswer source answer → Gives answer (Err (stops.Fault f))
  only_refused f r once here (Ok entries) is =
      absurd (refused_not nothing_yet r.so_far is.0 r.front r.rest r.one f once here (subst (λ l. ExpandsAll source nothing_yet l is.0) r.are is.1.0) r.expanded r.offends)
  only_refused f r once here (Err g) other =
      ap Err (sym (two_refused nothing_yet r.so_far other.so_far r.front r.rest other.front other.rest r.one other.one f g (sym r.are ∙ other.are) once here r.expanded r.offends other.expanded other.offends))
