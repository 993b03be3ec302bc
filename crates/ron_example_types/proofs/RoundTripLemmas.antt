-- Why data that is written isn't read back, from what the writing and the reading call promise.
use Rattle.std.proofs.Common.{◌≡◌, ◌⊎◌, inl, inr, ℕ, Option, Err, sym, subst}
use Rattle.ron.specs.Characters.{Text}
use Rattle.ron.specs.PlainData as plain
use Rattle.ron.specs.Document.{Document, document_depth}
use Rattle.ron.specs.Config.{no_config}
use Rattle.ron.specs.Layout.{full_layout}
use Rattle.ron.specs.Error.{Error}
use Rattle.ron.specs.Error.TheVariants.{OutOfMemory, Message, InvalidIdentifier, ExceededRecursionLimit}
use Rattle.ron.specs.SpannedError.{SpannedError}
use Rattle.ron.specs.Limit.{IsWithin}
use Rattle.ron.specs.Table.{Table}
use Rattle.ron.specs.Rule.{Extensions}
use Rattle.ron.specs.Name.{first_refused}
use Rattle.ron.specs.WritingRefusals.{RefusesText, HoldsName}
use Rattle.ron.specs.Whole.{RefusesDocument, RefusesDeepDocument}
use Rattle.ron_example_types.specs.RoundTrip.{RefusesData, RefusesRoundTrip}

pub refused_text : (x : Extensions) (limit : Option ℕ) (table : Table) (text : Text) (refused : SpannedError) → RefusesDocument x limit table text refused
    → RefusesRoundTrip x limit table text refused.code
refused_text x limit table text refused (inl memory) = inl memory
refused_text x limit table text refused (inr none) = inr (inl none)

module _ (x : Extensions) (limit : Option ℕ) (table : Table) (d : plain.Data) where
  -- a text that spells what the layout is read back as is refused only for its depth
  pub refused_reading : (text : Text) (written : plain.Data) (refused : SpannedError) → text ≡ full_layout x no_config d
      → Document x table.shapes table.root (document_depth x table.shapes table.root text) text written
      → RefusesDocument x limit table text refused → RefusesDeepDocument x limit table text (Err refused)
      → (IsWithin limit (document_depth x table.shapes table.root text) → refused.code ≡ OutOfMemory)
      → RefusesData x limit table d refused.code
  refused_reading text written refused is spelled (inl memory) deep back = subst (RefusesData x limit table d) (sym memory) tt
  refused_reading text written refused is spelled (inr none) deep back = by_code (deep written _ spelled (none written))
    where
      too_deep : refused.code ≡ ExceededRecursionLimit → IsWithin limit (document_depth x table.shapes table.root (full_layout x no_config d)) → ⊥
      too_deep e within =
          let memory = back (subst (λ (t : Text). IsWithin limit (document_depth x table.shapes table.root t)) (sym is) within) in
          cc

      by_code : (refused.code ≡ ExceededRecursionLimit) ⊎ (refused.code ≡ OutOfMemory) → RefusesData x limit table d refused.code
      by_code (inl e) = subst (RefusesData x limit table d) (sym e) (λ writer. too_deep e)
      by_code (inr e) = subst (RefusesData x limit table d) (sym e) tt

  -- data that can't be written isn't read back
  pub refused_writing : (e : Error) → RefusesText no_config limit d e → HoldsName (first_refused d) e → RefusesData x limit table d e
  refused_writing OutOfMemory h k = tt
  refused_writing (InvalidIdentifier given) h k = (k, h)
  refused_writing ExceededRecursionLimit h k = λ writer _. h writer
  refused_writing (Message given) h k = absurd (let b = h.0 in cc)
  refused_writing _ h k = h
