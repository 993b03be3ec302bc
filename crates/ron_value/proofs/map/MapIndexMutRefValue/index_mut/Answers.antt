use Rattle.std.proofs.Common.{ℕ, Some, refl, sym, ap, ◌∙◌, subst}
use Rattle.std.specs.Prelude.{slice_index_or}
use Rattle.std.specs.Vec.{with_item}
use Rattle.std.proofs.lemmas.List.{get_or_default}
use Rattle.ron_value.specs.declared.value.Value.{Value}
use Rattle.ron_value.specs.declared.map.Map.{Map, roll-Map}
use Rattle.ron_value.specs.View.{entries}
use Rattle.ron_value.specs.Entries.{Entries}
use Rattle.ron_value.proofs.OrderedEntries.{AreOrdered, AreOrdered-with_value, IsOrdered-value}
use Rattle.ron_value.proofs.PlaceLemmas.{value_at-found, key_place-found, set-key_place}
use Rattle.ron_value.proofs.map.MapIndexMutRefValue.index_mut.Goals as goal

pub returns : goal.returns
returns c =
    let m : Map = c.args.self.now in
    let k : Value = c.args.key.now in
    let es : Entries = entries m in
    let i : ℕ = c.place_of-place.result in
    let found = c.place_of-place.ensures.place in
    let shown = c.index_mut-pair.ensures.value in
    let written = λ (v : Value). set-key_place k es i v found in
    let at_place = λ (v : Value) (p : Value). roll-Map (record { pairs = with_item m.pairs i (p, v) }) in
    let with_place = λ (v : Value) (n : ℕ). roll-Map (record { pairs = with_item m.pairs n ((slice_index_or es n (k, v)).0, v) }) in (
      (
        refl,
        λ v. ap (at_place v) (ap (λ (p : Value × Value). p.0) (shown ∙ get_or_default es i _ (k, v) c.place_of-place.ensures.in_range))
            ∙ sym (ap (with_place v) (key_place-found k es i found)),
      ),
      record {
        writes_back = tt;
        value = value_at-found k es i _ found ∙ ap (λ (p : Value × Value). Some p.1) (sym shown);
        answer_ordered = IsOrdered-value es i _ c.requires.0 c.place_of-place.ensures.in_range shown;
        content = written;
        ordered = λ v value. subst AreOrdered (sym (written v)) (AreOrdered-with_value k v es c.requires.0 value);
      },
    )
