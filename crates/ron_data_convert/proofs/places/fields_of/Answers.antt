use Rattle.std.proofs.Common.{◌≡◌, length, ap, sym, ◌∙◌, arith, take}
use Rattle.std.specs.List.{list_all}
use Rattle.ron_data_convert.proofs.PlaceLemmas.{places_within, all_there}
use Rattle.ron_data_convert.proofs.places.fields_of.Goals as goal

pub are_filled-requires : goal.are_filled-requires
are_filled-requires c = omega (
  arith,
  (places_within c.args.list.now.fields.items c.args.is_filled.now c.args.places.items c.requires.places).1,
  c.len-then-len.ensures,
  c.args.places.ok.0,
)

pub returns-then-are_filled : goal.returns-then-are_filled
returns-then-are_filled c =
    let long : c.len-then-len.result ≡ length c.args.places.items = omega (arith, c.len-then-len.ensures, c.args.places.ok.0) in
    record {
      value = all_there c.args.list.now.fields.items c.args.is_filled.now c.args.places.items c.requires.places
          (omega (arith, c.if-len.true, c.len.ensures, c.len-2.ensures, c.args.places.ok.0, c.args.list.now.fields.ok.0))
          (ap (λ n. list_all (λ b. b) (take n c.args.is_filled.now)) (sym long) ∙ sym c.are_filled.ensures ∙ c.if-are_filled.true);
    }
