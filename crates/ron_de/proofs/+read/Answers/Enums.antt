-- Enums and what their variants hold.
use Rattle.std.proofs.Common.{rules, ◌≡◌, length, chars, sym, ◌∙◌, ap, arith, subst, true, nat_lt, suc, refl, Ok, Err, List}
use Rattle.std.proofs.lemmas.Result.{err_from_is_err_and}
use Rattle.std.specs.List.{list_all}
use Rattle.std.proofs.lemmas.Bool.{ltb-true}
use Rattle.ron_spec_words.specs.Reader.{got, meant}
use Rattle.ron_spec_grammar.specs.Data as plain
use Rattle.ron_spec_grammar.proofs.GroupTurns.{field_group_not_opened}
use Rattle.ron_spec_grammar.proofs.ContentTurns.{content_not_opened, tuple_group_not_opened}
use Rattle.ron_spec_grammar.specs.Schema.{Variant, variant_below, variant_has_distinct_names, tuple_variant, Shape}
use Rattle.ron_spec_grammar.specs.Turns.{read_variant_content}
use Rattle.ron_spec_grammar.specs.Shapes.Enum.{newtype_variant_data}
use Rattle.ron_base.specs.Class.{class_of}
use Rattle.ron_de_steps.specs.Reads.{IsFaultOf}
use Rattle.ron_data_schema.specs.Shapes as shapes
use Rattle.ron_data.specs.Datum.{content_view, variant_of}
use Rattle.ron_de_steps.proofs.ErrorLemmas.{is_fault, memory_or_more, text_and, fault_of}
use Rattle.ron_de_parts.proofs.RoomLemmas.{room_ended, group_later, variant_falls}
use Rattle.ron_de.proofs.HeldLemmas.{tuple_fault}
use Rattle.ron_de_parts.specs.Slices.{StringsAreSliced}
use Rattle.ron_de_parts.proofs.SliceLemmas.{sliced-one, sliced-items, sliced-named, sliced-variant}
use Rattle.ron_de_parts.proofs.KeptLemmas.{source_there}
use Rattle.ron_de_parts.proofs.VariantLemmas.{variant_here, variant_is_below, variant_is_distinct, still_variant_below, enum_ended, name_deep, no_variant_named}
use Rattle.ron_de_parts.proofs.VariantLemmas.{variant_said, newtype_here, tuple_here, struct_here, room_behind_gap, gap_slash, unit_here, held_one, held_items}
use Rattle.ron_de_parts.proofs.VariantLemmas.{held_fields, variant_value}
use Rattle.ron_de_parts.specs.Content.{ReadsContent, ReadsTuple, ReadsFieldGroup}
use Rattle.ron_de.proofs.TurnLemmas.{made_turns, refused_turns, none_settled, scan_settled, step_settled, near_settled, mark_settled}
use Rattle.ron_spec_words.proofs.Leading.{leads_on}
use Rattle.ron_de.proofs.ReachLemmas.{over_gap, over_mark}
use Rattle.ron_de_steps.proofs.NearLemmas.{gap_nears}
use Rattle.ron_de_steps.proofs.LeadLemmas.{reached_on, reached_gap}
use Rattle.ron_de.specs.Turns.{SettlesShape}
use Rattle.ron_de.proofs.+read.Goals as goal

-- ---- enums

pub enums::read_enum-returns-in_err-inner-clause-value : goal.enums::read_enum-returns-in_err-inner-clause-value
enums::read_enum-returns-in_err-inner-clause-value t c =
    let p = err_from_is_err_and c.from_residual.result c.from_residual.ensures.1 in
    rw (p.1, p.2, c.in_err-inner.ensures.0) (λ i is room r. enum_ended _ _ room i _ _ _ _ is.0 (room_ended _ _ room c.in_err-inner.ensures.1 r))

pub enums::read_enum-returns-in_err-deeper-clause-value : goal.enums::read_enum-returns-in_err-deeper-clause-value
enums::read_enum-returns-in_err-deeper-clause-value t c =
    let p = err_from_is_err_and c.from_residual-in_err-deeper.result c.from_residual-in_err-deeper.ensures.1 in
    rw (p.1, p.2, c.in_err-deeper.ensures.0)
    (λ i is room r. name_deep c.args.context.now c.in_ok-inner.inner c.in_ok-inner.ensures i c.args.cursor.now _ _ is.0 room r c.in_err-deeper.ensures.1)

pub enums::read_enum-returns-in_err-found-clause-value : goal.enums::read_enum-returns-in_err-found-clause-value
enums::read_enum-returns-in_err-found-clause-value t c =
    let p = err_from_is_err_and c.from_residual-in_err-found.result c.from_residual-in_err-found.ensures.1 in
    rw (p.1, p.2) (λ i is room r. is_fault _ _ (memory_or_more _ (no_variant_named c.args.context.now c.in_ok-inner.inner c.in_ok-inner.ensures i
    c.args.cursor.now _ _ is.0 room r c.in_ok-deeper.field-0.limit c.in_ok-deeper.ensures.2) c.in_err-found.ensures.value))

pub enums::read_enum-read_variant_content-requires : goal.enums::read_enum-read_variant_content-requires
enums::read_enum-read_variant_content-requires t c = (
  omega (
    arith,
    variant_falls c.args.context.now.schema c.in_ok-inner.inner.schema (length c.read_variant_name.new.cursor.rest) (length c.args.cursor.now.rest)
        c.in_ok-inner.ensures.1 (omega (arith, c.in_ok-found.ensures.shorter)),
  ),
  (
    still_variant_below _ _ _ c.in_ok-inner.ensures.1 (variant_is_below _ (chars c.args.name.now) c.args.variants.now c.in_ok-found.found
        c.index-variants-found.result c.in_ok-found.ensures.index c.index-variants-found.is c.requires.1.1.0),
    variant_is_distinct (length c.args.context.now.schema) (chars c.args.name.now) c.args.variants.now c.in_ok-found.found c.index-variants-found.result
        c.in_ok-found.ensures.index c.index-variants-found.is c.requires.1.1.1,
  ),
)

pub enums::read_enum-returns-in_err-content-clause-value : goal.enums::read_enum-returns-in_err-content-clause-value
enums::read_enum-returns-in_err-content-clause-value t c =
    let p = err_from_is_err_and c.from_residual-in_err-content.result c.from_residual-in_err-content.ensures.1 in
    let at = c.in_ok-found.ensures.value in
    rw (p.1, p.2) (λ i is room r. variant_said c.args.context.now c.in_ok-inner.inner c.in_ok-inner.ensures i c.args.cursor.now _ _ is.0 room r
    c.in_ok-deeper.field-0.limit c.in_ok-deeper.ensures.2 at.0 c.read_variant_name.new.cursor at.2 (omega (arith, c.in_ok-found.ensures.shorter))
    (IsFaultOf (class_of c.in_err-content.field-0.0)) (λ k q. subst (λ (w : Variant). IsFaultOf (class_of c.in_err-content.field-0.0) (read_variant_content
    c.in_ok-inner.inner.extensions c.in_ok-inner.inner.schema k (chars c.args.name.now) at.0.name w.content c.read_variant_name.new.cursor.rest))
    (sym (variant_here c.args.variants.now c.in_ok-found.found c.index-variants-found.result at.0 c.in_ok-found.ensures.index c.index-variants-found.is at.1))
    (c.in_err-content.ensures.value (chars c.args.name.now) at.0.name k q)))

pub enums::read_enum-returns : goal.enums::read_enum-returns
enums::read_enum-returns t c = record {
  value = let at = c.in_ok-found.ensures.value in
      λ i is room r. variant_said c.args.context.now c.in_ok-inner.inner c.in_ok-inner.ensures i c.args.cursor.now _ _ is.0 room r c.in_ok-deeper.field-0.limit
      c.in_ok-deeper.ensures.2 at.0 c.read_variant_name.new.cursor at.2 (omega (arith, c.in_ok-found.ensures.shorter))
      (λ o. o ≡ got (variant_of (chars c.args.name.now) at.0.name (content_view c.in_ok-content.content)) c.read_variant_content.new.cursor.rest)
      (λ k q. subst (λ (w : Variant). (read_variant_content c.in_ok-inner.inner.extensions c.in_ok-inner.inner.schema k (chars c.args.name.now) at.0.name
      w.content c.read_variant_name.new.cursor.rest) ≡ got (variant_of (chars c.args.name.now) at.0.name (content_view c.in_ok-content.content))
      c.read_variant_content.new.cursor.rest) (sym (variant_here c.args.variants.now c.in_ok-found.found c.index-variants-found.result at.0
      c.in_ok-found.ensures.index c.index-variants-found.is at.1)) (c.in_ok-content.ensures.value (chars c.args.name.now) at.0.name k q))
      ∙ ap (λ n. got (variant_of (chars c.args.name.now) n (content_view c.in_ok-content.content)) c.read_variant_content.new.cursor.rest)
      (ap (λ (w : Variant). w.name) (variant_here c.args.variants.now c.in_ok-found.found c.index-variants-found.result at.0 c.in_ok-found.ensures.index
      c.index-variants-found.is at.1) ∙ ap chars (sym c.as_str-2.ensures.value))
      ∙ variant_value c.in_ok-name.name c.in_ok-variant.variant c.in_ok-content.content _ _ _ c.in_ok-name.ensures.ok c.in_ok-variant.ensures.ok;
  slice = search rules;
  advance = record {
    text = search rules;
    no_longer = search rules;
    holds = λ source. sliced-variant _ _ _ _ c.in_ok-found.ensures.leads c.in_ok-found.ensures.text c.in_ok-name.name c.in_ok-variant.variant
        c.in_ok-content.content (c.in_ok-content.ensures.advance.holds (source_there c.in_ok-inner.ensures.3 c.in_ok-found.ensures.text source));
    fault = search rules;
  };
  turns = near_settled _ c.args.cursor.now c.read_variant_name.new.cursor _ c.read_variant_content.new.cursor c.in_ok-found.ensures.turns.moved
      c.in_ok-found.ensures.near (reached_on c.args.cursor.now c.read_variant_name.new.cursor c.in_ok-found.ensures.text c.in_ok-found.ensures.leads)
      (made_turns _ _ c.read_variant_content.new.cursor _ (Ok _) (subst (λ (s : List Shape). SettlesShape s c.read_variant_name.new.cursor
      (Ok c.in_ok-content.content) c.read_variant_content.new.cursor) c.in_ok-inner.ensures.1 c.in_ok-content.ensures.turns));
}

-- ---- what a variant holds

pub enums::read_variant_content-returns-in-Unit-clause-value : goal.enums::read_variant_content-returns-in-Unit-clause-value
enums::read_variant_content-returns-in-Unit-clause-value t c = λ n v room r. unit_here c.args.context.now _ room n v _ (ap shapes.content_view c.in-Unit.is)

pub enums::read_variant_content-returns-in_err-pass_gap-in-Newtype-clause-value :
    goal.enums::read_variant_content-returns-in_err-pass_gap-in-Newtype-clause-value
enums::read_variant_content-returns-in_err-pass_gap-in-Newtype-clause-value t c =
    let p = err_from_is_err_and c.from_residual.result c.from_residual.ensures.1 in
    rw (p.1, p.2) (λ n v room r. is_fault _ _ (text_and _ c.in_err-pass_gap-in-Newtype.ensures.fault.0 (gap_slash c.args.context.now c.args.cursor.now.rest room
    n v _ _ (ap shapes.content_view c.in-Newtype.is) (λ q. absurd (cc)) c.in_err-pass_gap-in-Newtype.ensures.slash)))

pub enums::read_variant_content-returns-in_err-pass_gap-in-Tuple-clause-value : goal.enums::read_variant_content-returns-in_err-pass_gap-in-Tuple-clause-value
enums::read_variant_content-returns-in_err-pass_gap-in-Tuple-clause-value t c =
    let p = err_from_is_err_and c.from_residual-in_err-pass_gap-in-Tuple.result c.from_residual-in_err-pass_gap-in-Tuple.ensures.1 in
    rw (p.1, p.2) (λ n v room r. is_fault _ _ (text_and _ c.in_err-pass_gap-in-Tuple.ensures.fault.0 (gap_slash c.args.context.now c.args.cursor.now.rest room n
    v _ _ (ap shapes.content_view c.in-Tuple.is) (λ q. absurd (cc)) c.in_err-pass_gap-in-Tuple.ensures.slash)))

pub enums::read_variant_content-returns-in_err-pass_gap-in-Struct-clause-value : goal.enums::read_variant_content-returns-in_err-pass_gap-in-Struct-clause-value
enums::read_variant_content-returns-in_err-pass_gap-in-Struct-clause-value t c =
    let p = err_from_is_err_and c.from_residual-in_err-pass_gap-in-Struct.result c.from_residual-in_err-pass_gap-in-Struct.ensures.1 in
    rw (p.1, p.2) (λ n v room r. is_fault _ _ (text_and _ c.in_err-pass_gap-in-Struct.ensures.fault.0 (gap_slash c.args.context.now c.args.cursor.now.rest room
    n v _ _ (ap shapes.content_view c.in-Struct.is) (λ q. absurd (cc)) c.in_err-pass_gap-in-Struct.ensures.slash)))

pub enums::read_variant_content-returns-then-not-take-clause-value : goal.enums::read_variant_content-returns-then-not-take-clause-value
enums::read_variant_content-returns-then-not-take-clause-value t c = λ n v room r. newtype_here c.args.context.now c.args.cursor.now c.pass_gap.new.cursor room
    n v (shapes.content_view c.args.shape.now) c.in_ok-pass_gap-in-Newtype.ensures.slash c.in_ok-pass_gap-in-Newtype.ensures.rest _
    c.args.context.now.extensions.unwrap_variant_newtypes (ap shapes.content_view c.in-Newtype.is) refl ∙ ap (λ o. meant o (newtype_variant_data n v))
    (content_not_opened _ _ room c.args.context.now.extensions.unwrap_variant_newtypes _ _ c.if-not-take.ensures.taken.0)

pub enums::read_variant_content-returns-then-not-take-2-clause-value : goal.enums::read_variant_content-returns-then-not-take-2-clause-value
enums::read_variant_content-returns-then-not-take-2-clause-value t c =
    λ n v room r. tuple_here c.args.context.now c.args.cursor.now c.pass_gap-in-Tuple.new.cursor room n v (shapes.content_view c.args.shape.now)
    c.in_ok-pass_gap-in-Tuple.ensures.slash c.in_ok-pass_gap-in-Tuple.ensures.rest _ (ap shapes.content_view c.in-Tuple.is)
    ∙ tuple_group_not_opened _ _ room (plain.tuple_variant_of n v) _ _ c.if-not-take-2.ensures.taken.0

pub enums::read_variant_content-returns-then-not-take-3-clause-value : goal.enums::read_variant_content-returns-then-not-take-3-clause-value
enums::read_variant_content-returns-then-not-take-3-clause-value t c =
    λ n v room r. struct_here c.args.context.now c.args.cursor.now c.pass_gap-in-Struct.new.cursor room n v (shapes.content_view c.args.shape.now)
    c.in_ok-pass_gap-in-Struct.ensures.slash c.in_ok-pass_gap-in-Struct.ensures.rest _ (ap shapes.content_view c.in-Struct.is)
    ∙ field_group_not_opened _ _ room (plain.struct_variant_of n v) _ _ c.if-not-take-3.ensures.taken.0

pub enums::read_variant_content-read_content-requires : goal.enums::read_variant_content-read_content-requires
enums::read_variant_content-read_content-requires t c =
    let below = subst (λ s. variant_below (length c.args.context.now.schema) (shapes.content_view s) ≡ true) c.in-Newtype.is c.requires.1.1.0 in (
      omega (
        arith,
        group_later c.args.context.now.schema (suc (length c.take.new.self.rest)) (length c.args.cursor.now.rest)
            (omega (arith, ap length c.if-not-take.ensures.taken, c.in_ok-pass_gap-in-Newtype.ensures.no_longer)),
      ),
      ltb-true _ _ below,
    )

pub enums::read_variant_content-returns-in_err-value-in-Newtype-clause-value : goal.enums::read_variant_content-returns-in_err-value-in-Newtype-clause-value
enums::read_variant_content-returns-in_err-value-in-Newtype-clause-value t c =
    let p = err_from_is_err_and c.from_residual-in_err-value-in-Newtype.result c.from_residual-in_err-value-in-Newtype.ensures.1 in
    rw (p.1, p.2) (λ n v room r. fault_of _ _ _ (λ fault e. newtype_here c.args.context.now c.args.cursor.now c.pass_gap.new.cursor room n v
    (shapes.content_view c.args.shape.now) c.in_ok-pass_gap-in-Newtype.ensures.slash c.in_ok-pass_gap-in-Newtype.ensures.rest _
    c.unwraps_variants-is_unwrapped.result (ap shapes.content_view c.in-Newtype.is) c.unwraps_variants-is_unwrapped.ensures
    ∙ ap (λ o. meant o (newtype_variant_data n v)) e) ((subst (λ s. ReadsContent c.args.context.now c.unwraps_variants-is_unwrapped.result c.in-Newtype.index s
    (Err c.in_err-value-in-Newtype.field-0.0) c.read_content.new.cursor.rest) (sym c.if-not-take.ensures.taken) c.in_err-value-in-Newtype.ensures.value) room
    (room_behind_gap c.args.context.now _ _ room c.in_ok-pass_gap-in-Newtype.ensures.no_longer r)))

pub enums::read_variant_content-returns-in_ok-new-in-Newtype-clause-value : goal.enums::read_variant_content-returns-in_ok-new-in-Newtype-clause-value
enums::read_variant_content-returns-in_ok-new-in-Newtype-clause-value t c = λ n v room r.
    newtype_here c.args.context.now c.args.cursor.now c.pass_gap.new.cursor room n v (shapes.content_view c.args.shape.now)
    c.in_ok-pass_gap-in-Newtype.ensures.slash c.in_ok-pass_gap-in-Newtype.ensures.rest _ c.unwraps_variants-is_unwrapped.result
    (ap shapes.content_view c.in-Newtype.is) c.unwraps_variants-is_unwrapped.ensures ∙ held_one n v c.in_ok-new-in-Newtype.field-0
    c.in_ok-value-in-Newtype.value _ _ ((subst (λ s. ReadsContent c.args.context.now c.unwraps_variants-is_unwrapped.result c.in-Newtype.index s
    (Ok c.in_ok-value-in-Newtype.value) c.read_content.new.cursor.rest) (sym c.if-not-take.ensures.taken) c.in_ok-value-in-Newtype.ensures.value) room
    (room_behind_gap c.args.context.now _ _ room c.in_ok-pass_gap-in-Newtype.ensures.no_longer r)) c.in_ok-new-in-Newtype.ensures.ok

pub enums::read_variant_content-read_tuple_items-requires : goal.enums::read_variant_content-read_tuple_items-requires
enums::read_variant_content-read_tuple_items-requires t c =
    let below = subst (λ s. variant_below (length c.args.context.now.schema) (shapes.content_view s) ≡ true) c.in-Tuple.is c.requires.1.1.0 in (
      omega (
        arith,
        group_later c.args.context.now.schema (suc (length c.take-in-Tuple.new.self.rest)) (length c.args.cursor.now.rest)
            (omega (arith, ap length c.if-not-take-2.ensures.taken, c.in_ok-pass_gap-in-Tuple.ensures.no_longer)),
      ),
      subst (λ js. list_all (λ j. nat_lt j (length c.args.context.now.schema)) js ≡ true) (sym c.as_slice.ensures.value) below,
    )

pub enums::read_variant_content-returns-in_ok-new-in-Newtype-clause-advance : goal.enums::read_variant_content-returns-in_ok-new-in-Newtype-clause-advance
enums::read_variant_content-returns-in_ok-new-in-Newtype-clause-advance t c = record {
  text = search rules;
  no_longer = search rules;
  holds = λ source. let same = c.if-not-take.ensures.text ∙ c.in_ok-pass_gap-in-Newtype.ensures.text in
      sliced-one _ _ _ _ (leads_on (over_gap c.args.cursor.now c.pass_gap.new.cursor c.in_ok-pass_gap-in-Newtype.ensures.rest)
      (over_mark c.pass_gap.new.cursor c.take.new.self 40 refl c.if-not-take.ensures.taken)) same c.in_ok-new-in-Newtype.field-0
      (subst (StringsAreSliced _ _) (sym c.in_ok-new-in-Newtype.ensures.ok) (c.in_ok-value-in-Newtype.ensures.advance.holds (source_there refl same source)));
  fault = search rules;
}

pub enums::read_variant_content-returns-in_err-items-in-Tuple-clause-value : goal.enums::read_variant_content-returns-in_err-items-in-Tuple-clause-value
enums::read_variant_content-returns-in_err-items-in-Tuple-clause-value t c =
    let p = err_from_is_err_and c.from_residual-in_err-items-in-Tuple.result c.from_residual-in_err-items-in-Tuple.ensures.1 in
    rw (p.1, p.2) (λ n v room r. tuple_fault _ _ (tuple_here c.args.context.now c.args.cursor.now c.pass_gap-in-Tuple.new.cursor room n v
    (shapes.content_view c.args.shape.now) c.in_ok-pass_gap-in-Tuple.ensures.slash c.in_ok-pass_gap-in-Tuple.ensures.rest _
    (ap shapes.content_view c.in-Tuple.is ∙ ap tuple_variant (sym c.as_slice.ensures.value))) ((subst (λ s. ReadsTuple c.args.context.now c.as_slice.result.now
    s (Err c.in_err-items-in-Tuple.field-0.0) c.read_tuple_items.new.cursor.rest) (sym c.if-not-take-2.ensures.taken) c.in_err-items-in-Tuple.ensures.value)
    (plain.tuple_variant_of n v) room (room_behind_gap c.args.context.now _ _ room c.in_ok-pass_gap-in-Tuple.ensures.no_longer r)))

pub enums::read_variant_content-returns-in_ok-items-in-Tuple : goal.enums::read_variant_content-returns-in_ok-items-in-Tuple
enums::read_variant_content-returns-in_ok-items-in-Tuple t c = record {
  value = λ n v room r. tuple_here c.args.context.now c.args.cursor.now c.pass_gap-in-Tuple.new.cursor room n v (shapes.content_view c.args.shape.now)
      c.in_ok-pass_gap-in-Tuple.ensures.slash c.in_ok-pass_gap-in-Tuple.ensures.rest _
      (ap shapes.content_view c.in-Tuple.is ∙ ap tuple_variant (sym c.as_slice.ensures.value))
      ∙ (subst (λ s. ReadsTuple c.args.context.now c.as_slice.result.now s (Ok c.in_ok-items-in-Tuple.items) c.read_tuple_items.new.cursor.rest)
      (sym c.if-not-take-2.ensures.taken) c.in_ok-items-in-Tuple.ensures.value) (plain.tuple_variant_of n v) room
      (room_behind_gap c.args.context.now _ _ room c.in_ok-pass_gap-in-Tuple.ensures.no_longer r) ∙ held_items n v c.in_ok-items-in-Tuple.items _;
  advance = record {
    text = search rules;
    no_longer = search rules;
    holds = λ source. let same = c.if-not-take-2.ensures.text ∙ c.in_ok-pass_gap-in-Tuple.ensures.text in
        sliced-items _ _ _ _ (leads_on (over_gap c.args.cursor.now c.pass_gap-in-Tuple.new.cursor c.in_ok-pass_gap-in-Tuple.ensures.rest)
        (over_mark c.pass_gap-in-Tuple.new.cursor c.take-in-Tuple.new.self 40 refl c.if-not-take-2.ensures.taken)) same c.in_ok-items-in-Tuple.items
        (c.in_ok-items-in-Tuple.ensures.advance.holds (source_there refl same source));
    fault = search rules;
  };
  turns = near_settled _ c.args.cursor.now c.pass_gap-in-Tuple.new.cursor _ c.read_tuple_items.new.cursor c.in_ok-pass_gap-in-Tuple.ensures.turns.moved
      (gap_nears c.args.cursor.now c.pass_gap-in-Tuple.new.cursor c.in_ok-pass_gap-in-Tuple.ensures.rest)
      (reached_gap c.args.cursor.now c.pass_gap-in-Tuple.new.cursor c.in_ok-pass_gap-in-Tuple.ensures.text c.in_ok-pass_gap-in-Tuple.ensures.rest)
      (mark_settled _ c.pass_gap-in-Tuple.new.cursor c.take-in-Tuple.new.self _ c.read_tuple_items.new.cursor c.if-not-take-2.ensures.text
      c.if-not-take-2.ensures.taken c.take-in-Tuple.ensures.turns (made_turns _ _ c.read_tuple_items.new.cursor _ (Ok _) c.in_ok-items-in-Tuple.ensures.turns));
}

pub enums::read_variant_content-read_field_group-requires : goal.enums::read_variant_content-read_field_group-requires
enums::read_variant_content-read_field_group-requires t c =
    let below = subst (λ s. variant_below (length c.args.context.now.schema) (shapes.content_view s) ≡ true) c.in-Struct.is c.requires.1.1.0 in
    let differ = subst (λ s. variant_has_distinct_names (shapes.content_view s) ≡ true) c.in-Struct.is c.requires.1.1.1 in (
      omega (
        arith,
        group_later c.args.context.now.schema (suc (length c.take-in-Struct.new.self.rest)) (length c.args.cursor.now.rest)
            (omega (arith, ap length c.if-not-take-3.ensures.taken, c.in_ok-pass_gap-in-Struct.ensures.no_longer)),
      ),
      (below, differ),
    )

pub enums::read_variant_content-returns-in_err-fields-in-Struct-clause-value : goal.enums::read_variant_content-returns-in_err-fields-in-Struct-clause-value
enums::read_variant_content-returns-in_err-fields-in-Struct-clause-value t c =
    let p = err_from_is_err_and c.from_residual-in_err-fields-in-Struct.result c.from_residual-in_err-fields-in-Struct.ensures.1 in
    rw (p.1, p.2) (λ n v room r. tuple_fault _ _ (struct_here c.args.context.now c.args.cursor.now c.pass_gap-in-Struct.new.cursor room n v
    (shapes.content_view c.args.shape.now) c.in_ok-pass_gap-in-Struct.ensures.slash c.in_ok-pass_gap-in-Struct.ensures.rest _
    (ap shapes.content_view c.in-Struct.is)) ((subst (λ s. ReadsFieldGroup c.args.context.now (shapes.list_view c.in-Struct.list) s
    (Err c.in_err-fields-in-Struct.field-0.0) c.read_field_group.new.cursor.rest) (sym c.if-not-take-3.ensures.taken) c.in_err-fields-in-Struct.ensures.value)
    (plain.struct_variant_of n v) room (room_behind_gap c.args.context.now _ _ room c.in_ok-pass_gap-in-Struct.ensures.no_longer r)))

pub enums::read_variant_content-returns-in_ok-fields-in-Struct : goal.enums::read_variant_content-returns-in_ok-fields-in-Struct
enums::read_variant_content-returns-in_ok-fields-in-Struct t c = record {
  value = λ n v room r. struct_here c.args.context.now c.args.cursor.now c.pass_gap-in-Struct.new.cursor room n v (shapes.content_view c.args.shape.now)
      c.in_ok-pass_gap-in-Struct.ensures.slash c.in_ok-pass_gap-in-Struct.ensures.rest _ (ap shapes.content_view c.in-Struct.is)
      ∙ (subst (λ s. ReadsFieldGroup c.args.context.now (shapes.list_view c.in-Struct.list) s (Ok c.in_ok-fields-in-Struct.fields)
      c.read_field_group.new.cursor.rest) (sym c.if-not-take-3.ensures.taken) c.in_ok-fields-in-Struct.ensures.value) (plain.struct_variant_of n v) room
      (room_behind_gap c.args.context.now _ _ room c.in_ok-pass_gap-in-Struct.ensures.no_longer r) ∙ held_fields n v c.in_ok-fields-in-Struct.fields _;
  advance = record {
    text = search rules;
    no_longer = search rules;
    holds = λ source. let same = c.if-not-take-3.ensures.text ∙ c.in_ok-pass_gap-in-Struct.ensures.text in
        sliced-named _ _ _ _ (leads_on (over_gap c.args.cursor.now c.pass_gap-in-Struct.new.cursor c.in_ok-pass_gap-in-Struct.ensures.rest)
        (over_mark c.pass_gap-in-Struct.new.cursor c.take-in-Struct.new.self 40 refl c.if-not-take-3.ensures.taken)) same c.in_ok-fields-in-Struct.fields
        (c.in_ok-fields-in-Struct.ensures.advance.holds (source_there refl same source));
    fault = search rules;
  };
  turns = near_settled _ c.args.cursor.now c.pass_gap-in-Struct.new.cursor _ c.read_field_group.new.cursor c.in_ok-pass_gap-in-Struct.ensures.turns.moved
      (gap_nears c.args.cursor.now c.pass_gap-in-Struct.new.cursor c.in_ok-pass_gap-in-Struct.ensures.rest) (reached_gap c.args.cursor.now
      c.pass_gap-in-Struct.new.cursor c.in_ok-pass_gap-in-Struct.ensures.text c.in_ok-pass_gap-in-Struct.ensures.rest) (mark_settled _
      c.pass_gap-in-Struct.new.cursor c.take-in-Struct.new.self _ c.read_field_group.new.cursor c.if-not-take-3.ensures.text c.if-not-take-3.ensures.taken
      c.take-in-Struct.ensures.turns (made_turns _ _ c.read_field_group.new.cursor _ (Ok _) c.in_ok-fields-in-Struct.ensures.turns));
}

-- ---- the count

pub enums::read_enum-returns-in_err-inner-clause-turns : goal.enums::read_enum-returns-in_err-inner-clause-turns
enums::read_enum-returns-in_err-inner-clause-turns t c =
    let p = err_from_is_err_and c.from_residual.result c.from_residual.ensures.1 in
    rw (p.1, p.2) (step_settled _ c.args.cursor.now c.args.cursor.now _ (omega arith))

pub enums::read_enum-returns-in_err-deeper-clause-turns : goal.enums::read_enum-returns-in_err-deeper-clause-turns
enums::read_enum-returns-in_err-deeper-clause-turns t c =
    let p = err_from_is_err_and c.from_residual-in_err-deeper.result c.from_residual-in_err-deeper.ensures.1 in
    rw (p.1, p.2) (step_settled _ c.args.cursor.now c.args.cursor.now _ (omega arith))

pub enums::read_enum-returns-in_err-found-clause-turns : goal.enums::read_enum-returns-in_err-found-clause-turns
enums::read_enum-returns-in_err-found-clause-turns t c =
    let p = err_from_is_err_and c.from_residual-in_err-found.result c.from_residual-in_err-found.ensures.1 in
    rw (p.1, p.2) (scan_settled _ c.args.cursor.now c.read_variant_name.new.cursor _ c.in_err-found.ensures.turns.most)

pub enums::read_enum-returns-in_err-content-clause-turns : goal.enums::read_enum-returns-in_err-content-clause-turns
enums::read_enum-returns-in_err-content-clause-turns t c =
    let p = err_from_is_err_and c.from_residual-in_err-content.result c.from_residual-in_err-content.ensures.1 in
    rw (p.1, p.2) (near_settled _ c.args.cursor.now c.read_variant_name.new.cursor _ c.read_variant_content.new.cursor c.in_ok-found.ensures.turns.moved
    c.in_ok-found.ensures.near (reached_on c.args.cursor.now c.read_variant_name.new.cursor c.in_ok-found.ensures.text c.in_ok-found.ensures.leads)
    (refused_turns _ _ c.read_variant_content.new.cursor _ _ (subst (λ (s : List Shape). SettlesShape s c.read_variant_name.new.cursor
    (Err c.in_err-content.field-0.0) c.read_variant_content.new.cursor) c.in_ok-inner.ensures.1 c.in_err-content.ensures.turns)))

pub enums::read_enum-returns-in_err-name-clause-turns : goal.enums::read_enum-returns-in_err-name-clause-turns
enums::read_enum-returns-in_err-name-clause-turns t c =
    let p = err_from_is_err_and c.from_residual-in_err-name.result c.from_residual-in_err-name.ensures.1 in
    rw (p.1, p.2) (near_settled _ c.args.cursor.now c.read_variant_name.new.cursor _ c.read_variant_content.new.cursor c.in_ok-found.ensures.turns.moved
    c.in_ok-found.ensures.near (reached_on c.args.cursor.now c.read_variant_name.new.cursor c.in_ok-found.ensures.text c.in_ok-found.ensures.leads)
    (made_turns _ _ c.read_variant_content.new.cursor _ (Err _) (subst (λ (s : List Shape). SettlesShape s c.read_variant_name.new.cursor
    (Ok c.in_ok-content.content) c.read_variant_content.new.cursor) c.in_ok-inner.ensures.1 c.in_ok-content.ensures.turns)))

pub enums::read_enum-returns-in_err-variant-clause-turns : goal.enums::read_enum-returns-in_err-variant-clause-turns
enums::read_enum-returns-in_err-variant-clause-turns t c =
    let p = err_from_is_err_and c.from_residual-in_err-variant.result c.from_residual-in_err-variant.ensures.1 in
    rw (p.1, p.2) (near_settled _ c.args.cursor.now c.read_variant_name.new.cursor _ c.read_variant_content.new.cursor c.in_ok-found.ensures.turns.moved
    c.in_ok-found.ensures.near (reached_on c.args.cursor.now c.read_variant_name.new.cursor c.in_ok-found.ensures.text c.in_ok-found.ensures.leads)
    (made_turns _ _ c.read_variant_content.new.cursor _ (Err _) (subst (λ (s : List Shape). SettlesShape s c.read_variant_name.new.cursor
    (Ok c.in_ok-content.content) c.read_variant_content.new.cursor) c.in_ok-inner.ensures.1 c.in_ok-content.ensures.turns)))

pub enums::read_variant_content-returns-in-Unit-clause-turns : goal.enums::read_variant_content-returns-in-Unit-clause-turns
enums::read_variant_content-returns-in-Unit-clause-turns t c = none_settled _ c.args.cursor.now _

pub enums::read_variant_content-returns-in_err-pass_gap-in-Newtype-clause-turns :
    goal.enums::read_variant_content-returns-in_err-pass_gap-in-Newtype-clause-turns
enums::read_variant_content-returns-in_err-pass_gap-in-Newtype-clause-turns t c =
    let p = err_from_is_err_and c.from_residual.result c.from_residual.ensures.1 in
    rw (p.1, p.2) (scan_settled _ c.args.cursor.now c.pass_gap.new.cursor _ c.in_err-pass_gap-in-Newtype.ensures.turns.most)

pub enums::read_variant_content-returns-then-not-take-clause-turns : goal.enums::read_variant_content-returns-then-not-take-clause-turns
enums::read_variant_content-returns-then-not-take-clause-turns t c = near_settled _ c.args.cursor.now c.pass_gap.new.cursor _ c.take.new.self
    c.in_ok-pass_gap-in-Newtype.ensures.turns.moved (gap_nears c.args.cursor.now c.pass_gap.new.cursor c.in_ok-pass_gap-in-Newtype.ensures.rest)
    (reached_gap c.args.cursor.now c.pass_gap.new.cursor c.in_ok-pass_gap-in-Newtype.ensures.text c.in_ok-pass_gap-in-Newtype.ensures.rest)
    (step_settled _ c.pass_gap.new.cursor c.take.new.self _ c.take.ensures.turns)

pub enums::read_variant_content-returns-in_err-value-in-Newtype-clause-turns : goal.enums::read_variant_content-returns-in_err-value-in-Newtype-clause-turns
enums::read_variant_content-returns-in_err-value-in-Newtype-clause-turns t c =
    let p = err_from_is_err_and c.from_residual-in_err-value-in-Newtype.result c.from_residual-in_err-value-in-Newtype.ensures.1 in
    rw (p.1, p.2) (near_settled _ c.args.cursor.now c.pass_gap.new.cursor _ c.read_content.new.cursor c.in_ok-pass_gap-in-Newtype.ensures.turns.moved
    (gap_nears c.args.cursor.now c.pass_gap.new.cursor c.in_ok-pass_gap-in-Newtype.ensures.rest)
    (reached_gap c.args.cursor.now c.pass_gap.new.cursor c.in_ok-pass_gap-in-Newtype.ensures.text c.in_ok-pass_gap-in-Newtype.ensures.rest)
    (mark_settled _ c.pass_gap.new.cursor c.take.new.self _ c.read_content.new.cursor c.if-not-take.ensures.text c.if-not-take.ensures.taken
    c.take.ensures.turns (refused_turns _ _ c.read_content.new.cursor _ _ c.in_err-value-in-Newtype.ensures.turns)))

pub enums::read_variant_content-returns-in_err-new-in-Newtype-clause-turns : goal.enums::read_variant_content-returns-in_err-new-in-Newtype-clause-turns
enums::read_variant_content-returns-in_err-new-in-Newtype-clause-turns t c =
    let p = err_from_is_err_and c.from_residual-in_err-new-in-Newtype.result c.from_residual-in_err-new-in-Newtype.ensures.1 in
    rw (p.1, p.2) (near_settled _ c.args.cursor.now c.pass_gap.new.cursor _ c.read_content.new.cursor c.in_ok-pass_gap-in-Newtype.ensures.turns.moved
    (gap_nears c.args.cursor.now c.pass_gap.new.cursor c.in_ok-pass_gap-in-Newtype.ensures.rest)
    (reached_gap c.args.cursor.now c.pass_gap.new.cursor c.in_ok-pass_gap-in-Newtype.ensures.text c.in_ok-pass_gap-in-Newtype.ensures.rest)
    (mark_settled _ c.pass_gap.new.cursor c.take.new.self _ c.read_content.new.cursor c.if-not-take.ensures.text c.if-not-take.ensures.taken
    c.take.ensures.turns (made_turns _ _ c.read_content.new.cursor _ (Err _) c.in_ok-value-in-Newtype.ensures.turns)))

pub enums::read_variant_content-returns-in_ok-new-in-Newtype-clause-turns : goal.enums::read_variant_content-returns-in_ok-new-in-Newtype-clause-turns
enums::read_variant_content-returns-in_ok-new-in-Newtype-clause-turns t c = near_settled _ c.args.cursor.now c.pass_gap.new.cursor _ c.read_content.new.cursor
    c.in_ok-pass_gap-in-Newtype.ensures.turns.moved (gap_nears c.args.cursor.now c.pass_gap.new.cursor c.in_ok-pass_gap-in-Newtype.ensures.rest)
    (reached_gap c.args.cursor.now c.pass_gap.new.cursor c.in_ok-pass_gap-in-Newtype.ensures.text c.in_ok-pass_gap-in-Newtype.ensures.rest)
    (mark_settled _ c.pass_gap.new.cursor c.take.new.self _ c.read_content.new.cursor c.if-not-take.ensures.text c.if-not-take.ensures.taken
    c.take.ensures.turns (made_turns _ _ c.read_content.new.cursor _ (Ok _) c.in_ok-value-in-Newtype.ensures.turns))

pub enums::read_variant_content-returns-in_err-pass_gap-in-Tuple-clause-turns : goal.enums::read_variant_content-returns-in_err-pass_gap-in-Tuple-clause-turns
enums::read_variant_content-returns-in_err-pass_gap-in-Tuple-clause-turns t c =
    let p = err_from_is_err_and c.from_residual-in_err-pass_gap-in-Tuple.result c.from_residual-in_err-pass_gap-in-Tuple.ensures.1 in
    rw (p.1, p.2) (scan_settled _ c.args.cursor.now c.pass_gap-in-Tuple.new.cursor _ c.in_err-pass_gap-in-Tuple.ensures.turns.most)

pub enums::read_variant_content-returns-then-not-take-2-clause-turns : goal.enums::read_variant_content-returns-then-not-take-2-clause-turns
enums::read_variant_content-returns-then-not-take-2-clause-turns t c =
    near_settled _ c.args.cursor.now c.pass_gap-in-Tuple.new.cursor _ c.take-in-Tuple.new.self c.in_ok-pass_gap-in-Tuple.ensures.turns.moved
    (gap_nears c.args.cursor.now c.pass_gap-in-Tuple.new.cursor c.in_ok-pass_gap-in-Tuple.ensures.rest)
    (reached_gap c.args.cursor.now c.pass_gap-in-Tuple.new.cursor c.in_ok-pass_gap-in-Tuple.ensures.text c.in_ok-pass_gap-in-Tuple.ensures.rest)
    (step_settled _ c.pass_gap-in-Tuple.new.cursor c.take-in-Tuple.new.self _ c.take-in-Tuple.ensures.turns)

pub enums::read_variant_content-returns-in_err-items-in-Tuple-clause-turns : goal.enums::read_variant_content-returns-in_err-items-in-Tuple-clause-turns
enums::read_variant_content-returns-in_err-items-in-Tuple-clause-turns t c =
    let p = err_from_is_err_and c.from_residual-in_err-items-in-Tuple.result c.from_residual-in_err-items-in-Tuple.ensures.1 in
    rw (p.1, p.2) (near_settled _ c.args.cursor.now c.pass_gap-in-Tuple.new.cursor _ c.read_tuple_items.new.cursor c.in_ok-pass_gap-in-Tuple.ensures.turns.moved
    (gap_nears c.args.cursor.now c.pass_gap-in-Tuple.new.cursor c.in_ok-pass_gap-in-Tuple.ensures.rest)
    (reached_gap c.args.cursor.now c.pass_gap-in-Tuple.new.cursor c.in_ok-pass_gap-in-Tuple.ensures.text c.in_ok-pass_gap-in-Tuple.ensures.rest)
    (mark_settled _ c.pass_gap-in-Tuple.new.cursor c.take-in-Tuple.new.self _ c.read_tuple_items.new.cursor c.if-not-take-2.ensures.text
    c.if-not-take-2.ensures.taken c.take-in-Tuple.ensures.turns (refused_turns _ _ c.read_tuple_items.new.cursor _ _ c.in_err-items-in-Tuple.ensures.turns)))

pub enums::read_variant_content-returns-in_err-pass_gap-in-Struct-clause-turns : goal.enums::read_variant_content-returns-in_err-pass_gap-in-Struct-clause-turns
enums::read_variant_content-returns-in_err-pass_gap-in-Struct-clause-turns t c =
    let p = err_from_is_err_and c.from_residual-in_err-pass_gap-in-Struct.result c.from_residual-in_err-pass_gap-in-Struct.ensures.1 in
    rw (p.1, p.2) (scan_settled _ c.args.cursor.now c.pass_gap-in-Struct.new.cursor _ c.in_err-pass_gap-in-Struct.ensures.turns.most)

pub enums::read_variant_content-returns-then-not-take-3-clause-turns : goal.enums::read_variant_content-returns-then-not-take-3-clause-turns
enums::read_variant_content-returns-then-not-take-3-clause-turns t c =
    near_settled _ c.args.cursor.now c.pass_gap-in-Struct.new.cursor _ c.take-in-Struct.new.self c.in_ok-pass_gap-in-Struct.ensures.turns.moved
    (gap_nears c.args.cursor.now c.pass_gap-in-Struct.new.cursor c.in_ok-pass_gap-in-Struct.ensures.rest)
    (reached_gap c.args.cursor.now c.pass_gap-in-Struct.new.cursor c.in_ok-pass_gap-in-Struct.ensures.text c.in_ok-pass_gap-in-Struct.ensures.rest)
    (step_settled _ c.pass_gap-in-Struct.new.cursor c.take-in-Struct.new.self _ c.take-in-Struct.ensures.turns)

pub enums::read_variant_content-returns-in_err-fields-in-Struct-clause-turns : goal.enums::read_variant_content-returns-in_err-fields-in-Struct-clause-turns
enums::read_variant_content-returns-in_err-fields-in-Struct-clause-turns t c =
    let p = err_from_is_err_and c.from_residual-in_err-fields-in-Struct.result c.from_residual-in_err-fields-in-Struct.ensures.1 in
    rw (p.1, p.2) (near_settled _ c.args.cursor.now c.pass_gap-in-Struct.new.cursor _ c.read_field_group.new.cursor
    c.in_ok-pass_gap-in-Struct.ensures.turns.moved (gap_nears c.args.cursor.now c.pass_gap-in-Struct.new.cursor c.in_ok-pass_gap-in-Struct.ensures.rest)
    (reached_gap c.args.cursor.now c.pass_gap-in-Struct.new.cursor c.in_ok-pass_gap-in-Struct.ensures.text c.in_ok-pass_gap-in-Struct.ensures.rest)
    (mark_settled _ c.pass_gap-in-Struct.new.cursor c.take-in-Struct.new.self _ c.read_field_group.new.cursor c.if-not-take-3.ensures.text
    c.if-not-take-3.ensures.taken c.take-in-Struct.ensures.turns (refused_turns _ _ c.read_field_group.new.cursor _ _ c.in_err-fields-in-Struct.ensures.turns)))
