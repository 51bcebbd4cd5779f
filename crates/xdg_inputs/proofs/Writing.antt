-- What is left in the sink whatever the other devices tell, from what the last call left there.
use Rattle.std.proofs.Common.{◌≡◌, ◌⊎◌, inl, inr, ℕ, List, sym, ◌∙◌, subst}
use Rattle.std.specs.Prelude.{◌≢◌, Option}
use Rattle.xdg_inputs.specs.Refusals.{Refuses}
use Rattle.xdg_inputs.specs.Runs.{Leaves, Unwritten, Wrote}
use Rattle.xdg_inputs.specs.declared.refusals.Refusal.{Refusal}
use Rattle.xdg_inputs.specs.declared.refusals.Refusal.TheVariants as refusals
use Rattle.xdg_inputs.specs.declared.status.Status.{Status}
use Rattle.xdg_inputs.specs.declared.status.Status.TheVariants as statuses

-- ---- a refusal

-- a status other than that of a failed read and of want of memory
abbrev pub IsBad : Status → Type 0
IsBad statuses.ReadFault = ⊥
IsBad statuses.OutOfMemory = ⊥
IsBad status = Unit {0}

never : (bad result : Status) → IsBad bad → result ≡ bad → (result ≡ statuses.ReadFault) ⊎ (result ≡ statuses.OutOfMemory) → ⊥
never bad result is same (inl e) = subst IsBad (sym same ∙ e) is
never bad result is same (inr e) = subst IsBad (sym same ∙ e) is

refused_unwritten : (bad result : Status) (refusal : Refusal) (old new : Option (List ℕ)) → IsBad bad → Refuses result bad refusal old new → Unwritten result old new
refused_unwritten bad result refusals.Read old new is r e = r.1
refused_unwritten bad result refusals.Memory old new is r e = r.1
refused_unwritten bad result (refusals.Text f p) old new is (inl r) e = absurd (never bad result is r.0 e)
refused_unwritten bad result (refusals.Text f p) old new is (inr r) e = absurd (never statuses.WriteFault result tt r.0 e)

refused_ends : (P : Status → Type 0) (bad result : Status) (refusal : Refusal) (old new : Option (List ℕ)) → P bad → P statuses.ReadFault → P statuses.OutOfMemory → P statuses.WriteFault → Refuses result bad refusal old new → P result
refused_ends P bad result refusals.Read old new b r m w k = subst P (sym k.0) r
refused_ends P bad result refusals.Memory old new b r m w k = subst P (sym k.0) m
refused_ends P bad result (refusals.Text f p) old new b r m w (inl k) = subst P (sym k.0) b
refused_ends P bad result (refusals.Text f p) old new b r m w (inr k) = subst P (sym k.0) w

pub refused_wrote : (P : Status → Type 0) (bad result : Status) (refusal : Refusal) (count_old count_new : ℕ) (old new : Option (List ℕ)) → IsBad bad → P bad → P statuses.ReadFault → P statuses.OutOfMemory → P statuses.WriteFault
    → Refuses result bad refusal old new → (result ≢ statuses.WriteFault → count_new ≡ count_old) → Wrote P result count_old count_new old new
refused_wrote P bad result refusal count_old count_new old new is b r m w written quiet =
    record { ends = refused_ends P bad result refusal old new b r m w written; unwritten = refused_unwritten bad result refusal old new is written; quiet = quiet }

-- a failed read is told as such
pub refused_read : (bad result : Status) (refusal : Refusal) (old new : Option (List ℕ)) → Refuses result bad refusal old new → refusal ≡ refusals.Read → result ≡ statuses.ReadFault
refused_read bad result refusal old new r e = (subst (λ z. Refuses result bad z old new) e r).0

-- so where no read failed, what was read left the count of failures as it was
pub refused_quiet : (bad result : Status) (refusal : Refusal) (old new : Option (List ℕ)) (count_old count_new : ℕ) → Refuses result bad refusal old new → (refusal ≢ refusals.Read → count_new ≡ count_old) → result ≢ statuses.ReadFault → count_new ≡ count_old
refused_quiet bad result refusal old new count_old count_new r quiet differs = quiet (λ e. differs (refused_read bad result refusal old new r e))

-- ---- what goes by an outcome

leaves_unwritten : (O : Status → List ℕ → Type 0) (result : Status) (old new : Option (List ℕ)) → Leaves O result old new → Unwritten result old new
leaves_unwritten O result old new leaves (inl e) = subst (λ z. Leaves O z old new) e leaves
leaves_unwritten O result old new leaves (inr e) = subst (λ z. Leaves O z old new) e leaves

text_ends : (P : Status → Type 0) (result : Status) → P statuses.Done → P statuses.WriteFault → (result ≡ statuses.Done) ⊎ (result ≡ statuses.WriteFault) → P result
text_ends P result d w (inl e) = subst P (sym e) d
text_ends P result d w (inr e) = subst P (sym e) w

text_unwritten : (result : Status) (old new : Option (List ℕ)) → (result ≡ statuses.Done) ⊎ (result ≡ statuses.WriteFault) → Unwritten result old new
text_unwritten result old new (inl d) e = absurd (never statuses.Done result tt d e)
text_unwritten result old new (inr w) e = absurd (never statuses.WriteFault result tt w e)

-- a text is written
pub text_wrote : (P : Status → Type 0) (result : Status) (count_old count_new : ℕ) (old new : Option (List ℕ)) → P statuses.Done → P statuses.WriteFault → (result ≡ statuses.Done) ⊎ (result ≡ statuses.WriteFault)
    → (result ≢ statuses.WriteFault → count_new ≡ count_old) → Wrote P result count_old count_new old new
text_wrote P result count_old count_new old new d w ends quiet = record { ends = text_ends P result d w ends; unwritten = text_unwritten result old new ends; quiet = quiet }

judged_ends : (P : Status → Type 0) (result : Status) → P statuses.Done → P statuses.WriteFault → P statuses.OutOfMemory → (result ≡ statuses.Done) ⊎ ((result ≡ statuses.WriteFault) ⊎ (result ≡ statuses.OutOfMemory)) → P result
judged_ends P result d w m (inl e) = subst P (sym e) d
judged_ends P result d w m (inr (inl e)) = subst P (sym e) w
judged_ends P result d w m (inr (inr e)) = subst P (sym e) m

-- verdicts are written
pub judged_wrote : (P : Status → Type 0) (O : Status → List ℕ → Type 0) (result : Status) (count_old count_new : ℕ) (old new : Option (List ℕ)) → P statuses.Done → P statuses.WriteFault → P statuses.OutOfMemory
    → (result ≡ statuses.Done) ⊎ ((result ≡ statuses.WriteFault) ⊎ (result ≡ statuses.OutOfMemory)) → Leaves O result old new → (result ≢ statuses.WriteFault → count_new ≡ count_old) → Wrote P result count_old count_new old new
judged_wrote P O result count_old count_new old new d w m ends leaves quiet = record { ends = judged_ends P result d w m ends; unwritten = leaves_unwritten O result old new leaves; quiet = quiet }

searched_ends : (P : Status → Type 0) (result : Status) → P statuses.Done → P statuses.Spent → P statuses.WriteFault → P statuses.OutOfMemory → (result ≡ statuses.Done) ⊎ ((result ≡ statuses.Spent) ⊎ ((result ≡ statuses.WriteFault) ⊎ (result ≡ statuses.OutOfMemory))) → P result
searched_ends P result d s w m (inl e) = subst P (sym e) d
searched_ends P result d s w m (inr (inl e)) = subst P (sym e) s
searched_ends P result d s w m (inr (inr (inl e))) = subst P (sym e) w
searched_ends P result d s w m (inr (inr (inr e))) = subst P (sym e) m

-- analyses are written
pub searched_wrote : (P : Status → Type 0) (O : Status → List ℕ → Type 0) (result : Status) (count_old count_new : ℕ) (old new : Option (List ℕ)) → P statuses.Done → P statuses.Spent → P statuses.WriteFault → P statuses.OutOfMemory
    → (result ≡ statuses.Done) ⊎ ((result ≡ statuses.Spent) ⊎ ((result ≡ statuses.WriteFault) ⊎ (result ≡ statuses.OutOfMemory))) → Leaves O result old new → (result ≢ statuses.WriteFault → count_new ≡ count_old) → Wrote P result count_old count_new old new
searched_wrote P O result count_old count_new old new d s w m ends leaves quiet = record { ends = searched_ends P result d s w m ends; unwritten = leaves_unwritten O result old new leaves; quiet = quiet }
