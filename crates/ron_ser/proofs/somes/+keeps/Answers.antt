use Rattle.std.proofs.Common.{◌&&◌, false, chars, inl, inr, refl, sym, ap, ◌∙◌}
use Rattle.ron_spec_layout.specs.Keeping.{is_kept, leads}
use Rattle.ron_spec_layout.specs.Brackets.{opens_as_option}
use Rattle.ron_ser.specs.Written.{keeps_at}
use Rattle.ron_data.specs.declared.data.Data.TheVariants as data_
use Rattle.ron_data.specs.Datum.{data_view}
use Rattle.ron_data.proofs.DatumLemmas.{view-bool, view-int, view-char, view-str, view-bytes, view-unit, view-none, view-seq, view-map, view-unit_struct}
use Rattle.ron_data.proofs.DatumLemmas.{view-value, view-struct, view-variant}
use Rattle.ron_ser.proofs.KeepLemmas.{first_leads, kept_anywhere, leads_as, option_leads, newtype_leads, newtype_first, raw_leads, raw_first, raw_kept}
use Rattle.ron_ser.proofs.KeepLemmas.{none_kept, some_kept, newtype_kept, tuple_kept, tuple_struct_kept, held_kept, never_kept, variant_kept}
use Rattle.ron_ser.specs.Stand.{place_of}
use Rattle.ron_ser.proofs.somes.+keeps.Goals as goal

pub first_keeps_somes-returns-in-Some : goal.first_keeps_somes-returns-in-Some
first_keeps_somes-returns-in-Some t c =
    c.leads.ensures.value ∙ first_leads (place_of c.args.writing.now) c.requires.blank c.requires.implicit _ _ c.in-Some.ensures.value c.leads.ensures.valid

pub first_keeps_somes-returns-in-None : goal.first_keeps_somes-returns-in-None
first_keeps_somes-returns-in-None t c = none_kept (place_of c.args.writing.now) c.requires.blank c.requires.implicit _ c.in-None.ensures.value

pub keeps_somes-returns-in-None : goal.keeps_somes-returns-in-None
keeps_somes-returns-in-None t c = sym (ap (λ d. keeps_at (place_of c.args.writing.now) c.args.bare (data_view d))
    (c.in-Option.is ∙ ap data_.Option c.in-None.is) ∙ ap (keeps_at (place_of c.args.writing.now) c.args.bare) view-none)

pub keeps_somes-returns-in-Some : goal.keeps_somes-returns-in-Some
keeps_somes-returns-in-Some t c =
    (rw c.deref.ensures at c.keeps_somes.ensures) ∙ sym (some_kept (place_of c.args.writing.now) c.args.bare c.in-Option.is c.in-Some.is)

pub keeps_somes-returns-then-unwraps_newtype : goal.keeps_somes-returns-then-unwraps_newtype
keeps_somes-returns-then-unwraps_newtype t c =
    let alone = sym c.if-unwraps_newtype.true ∙ c.unwraps_newtype.ensures in
    (rw c.deref-then-unwraps_newtype.ensures at c.keeps_somes-then-unwraps_newtype.ensures)
    ∙ sym (newtype_kept (place_of c.args.writing.now) c.args.bare c.in-Newtype.is alone)

pub keeps_somes-returns-else-unwraps_newtype : goal.keeps_somes-returns-else-unwraps_newtype
keeps_somes-returns-else-unwraps_newtype t c =
    let alone = sym c.if-unwraps_newtype.false ∙ c.unwraps_newtype.ensures in
    c.if-unwraps_newtype.false ∙ sym (newtype_kept (place_of c.args.writing.now) c.args.bare c.in-Newtype.is alone)

-- ---- tuples

pub keeps_somes-returns-then-bare : goal.keeps_somes-returns-then-bare
keeps_somes-returns-then-bare t c =
    (rw c.as_slice.ensures.value at c.first_keeps_somes.ensures) ∙ sym (tuple_kept (place_of c.args.writing.now) c.args.bare _ c.in-Tuple.is c.if-bare.true)

pub keeps_somes-returns-else-bare : goal.keeps_somes-returns-else-bare
keeps_somes-returns-else-bare t c = c.if-bare.false ∙ sym (tuple_kept (place_of c.args.writing.now) c.args.bare _ c.in-Tuple.is c.if-bare.false)

pub keeps_somes-returns-then-bare-2 : goal.keeps_somes-returns-then-bare-2
keeps_somes-returns-then-bare-2 t c =
    (rw c.as_slice-then-bare-2.ensures.value at c.first_keeps_somes-then-bare-2.ensures)
    ∙ sym (tuple_struct_kept (place_of c.args.writing.now) c.args.bare _ c.in-TupleStruct.is c.if-bare-2.true)

pub keeps_somes-returns-else-bare-2 : goal.keeps_somes-returns-else-bare-2
keeps_somes-returns-else-bare-2 t c =
    c.if-bare-2.false ∙ sym (tuple_struct_kept (place_of c.args.writing.now) c.args.bare _ c.in-TupleStruct.is c.if-bare-2.false)

-- ---- values without a schema

pub keeps_somes-returns-in-Value : goal.keeps_somes-returns-in-Value
keeps_somes-returns-in-Value t c =
    (rw c.as_value.ensures at c.value_keeps_somes.ensures) ∙ sym (held_kept (place_of c.args.writing.now) c.args.bare c.in-Value.is)

pub keeps_somes-returns-in-Raw : goal.keeps_somes-returns-in-Raw
keeps_somes-returns-in-Raw t c = raw_kept (place_of c.args.writing.now) c.args.bare c.in-Raw.is

-- ---- all else

pub keeps_somes-returns-in-Bool : goal.keeps_somes-returns-in-Bool
keeps_somes-returns-in-Bool t c =
    let x = place_of c.args.writing.now in
    let bare = c.args.bare in
    elim c.in-Bool.is [
      | inl e ↦ never_kept x bare _ e.1 (view-bool e.0) refl
      | inr (inl e) ↦ never_kept x bare _ e.1 (view-int e.0) refl
      | inr (inr (inl e)) ↦ never_kept x bare _ e.1 (view-char e.0) refl
      | inr (inr (inr (inl e))) ↦ never_kept x bare _ e.1 (view-str e.0) refl
      | inr (inr (inr (inr (inl e)))) ↦ never_kept x bare _ e.1 (view-bytes e.0) refl
      | inr (inr (inr (inr (inr (inl e))))) ↦ never_kept x bare _ e view-unit refl
      | inr (inr (inr (inr (inr (inr (inl e)))))) ↦ never_kept x bare _ e.1 (view-seq e.0) refl
      | inr (inr (inr (inr (inr (inr (inr (inl e))))))) ↦ never_kept x bare _ e.1 (view-map e.0) refl
      | inr (inr (inr (inr (inr (inr (inr (inr (inl e)))))))) ↦ never_kept x bare _ e.1 (view-unit_struct e.0) refl
      | inr (inr (inr (inr (inr (inr (inr (inr (inr (inl e))))))))) ↦ never_kept x bare _ e.2 (view-struct e.0 e.1) refl
      | inr (inr (inr (inr (inr (inr (inr (inr (inr (inr e))))))))) ↦ never_kept x bare _ e.3 (view-variant e.0 e.1 e.2) (variant_kept x bare _ _ _)
    ]

-- ---- how the text begins

pub leads-returns-in-Raw-clause-value : goal.leads-returns-in-Raw-clause-value
leads-returns-in-Raw-clause-value t c = c.opens_as_option.ensures ∙ ap (λ b. opens_as_option (chars b)) c.get_ron.ensures.text
    ∙ sym (raw_leads (place_of c.args.writing.now).extensions _ _ c.in-Raw.is)

pub leads-returns-in-Raw-clause-valid : goal.leads-returns-in-Raw-clause-valid
leads-returns-in-Raw-clause-valid t c = raw_first _ _ c.in-Raw.is c.in-Raw.raw.valid

pub leads-returns-then-unwraps_newtype-clause-value : goal.leads-returns-then-unwraps_newtype-clause-value
leads-returns-then-unwraps_newtype-clause-value t c =
    let alone = sym c.unwraps_newtype.ensures ∙ c.if-unwraps_newtype.true in
    (rw c.deref.ensures at c.leads-content_leads.ensures.value) ∙ sym (newtype_leads (place_of c.args.writing.now).extensions _ _ _ c.in-Newtype.is
    ∙ ap (λ b. b && leads (place_of c.args.writing.now).extensions (data_view c.in-Newtype.content.value)) alone)

pub leads-returns-else-unwraps_newtype-clause-value : goal.leads-returns-else-unwraps_newtype-clause-value
leads-returns-else-unwraps_newtype-clause-value t c =
    let alone = sym c.unwraps_newtype.ensures ∙ c.if-unwraps_newtype.false in
    c.if-unwraps_newtype.false ∙ sym (newtype_leads (place_of c.args.writing.now).extensions _ _ _ c.in-Newtype.is
    ∙ ap (λ b. b && leads (place_of c.args.writing.now).extensions (data_view c.in-Newtype.content.value)) alone)

pub leads-returns-then-unwraps_newtype-clause-valid : goal.leads-returns-then-unwraps_newtype-clause-valid
leads-returns-then-unwraps_newtype-clause-valid t c = newtype_first _ _ _ c.in-Newtype.is (rw c.deref.ensures at c.leads-content_leads.ensures.valid)

pub leads-returns-else-unwraps_newtype-clause-valid : goal.leads-returns-else-unwraps_newtype-clause-valid
leads-returns-else-unwraps_newtype-clause-valid t c = newtype_first _ _ _ c.in-Newtype.is (rw c.deref.ensures at c.leads-content_leads.ensures.valid)

pub leads-returns-in-None-clause-value : goal.leads-returns-in-None-clause-value
leads-returns-in-None-clause-value t c =
    let x = (place_of c.args.writing.now).extensions in
    sym (ap (λ d. is_kept x (data_view d)) (c.in-Option.is ∙ ap data_.Option c.in-None.is) ∙ ap (is_kept x) view-none) ∙ (option_leads x _ _ c.in-Option.is).0

pub leads-returns-in-None-clause-valid : goal.leads-returns-in-None-clause-valid
leads-returns-in-None-clause-valid t c = (option_leads (place_of c.args.writing.now).extensions _ _ c.in-Option.is).1

pub leads-returns-in-Some-clause-value : goal.leads-returns-in-Some-clause-value
leads-returns-in-Some-clause-value t c =
    let p = place_of c.args.writing.now in
    (rw c.deref-in-Some.ensures at c.keeps_somes.ensures) ∙ sym (some_kept p false c.in-Option.is c.in-Some.is) ∙ kept_anywhere p (data_view c.args.value.now)
    ∙ (option_leads p.extensions _ _ c.in-Option.is).0

pub leads-returns-in-Some-clause-valid : goal.leads-returns-in-Some-clause-valid
leads-returns-in-Some-clause-valid t c = (option_leads (place_of c.args.writing.now).extensions _ _ c.in-Option.is).1

pub leads-returns-in-Value-clause-value : goal.leads-returns-in-Value-clause-value
leads-returns-in-Value-clause-value t c =
    let p = place_of c.args.writing.now in
    (rw c.as_value.ensures at c.value_keeps_somes.ensures) ∙ sym (held_kept p false c.in-Value.is) ∙ kept_anywhere p (data_view c.args.value.now)
    ∙ (leads_as p.extensions _ _ _ c.in-Value.is (view-value _) refl).0

pub leads-returns-in-Value-clause-valid : goal.leads-returns-in-Value-clause-valid
leads-returns-in-Value-clause-valid t c = (leads_as (place_of c.args.writing.now).extensions _ _ _ c.in-Value.is (view-value _) refl).1
