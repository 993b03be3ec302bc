use Rattle.std.proofs.Common.{◌≡◌, List, ℕ, Option, None, Some, refl, sym, ap, ◌∙◌, subst, rules, string_bytes}
use Rattle.std.specs.Option.{option_copied_mut}
use Rattle.ron_ser_config.specs.declared.path_meta.field.Field.{Field}
use Rattle.ron_ser_config.specs.View.{Entries, entries}
use Rattle.ron_ser_config.specs.Entries.{field_at, with_field}
use Rattle.ron_ser_config.proofs.EntryLemmas.{IsHeld, entries-roll, held, written}
use Rattle.ron_ser_config.proofs.path_meta.fields.Fields.field.Goals as goal

pub unreachable-requires : goal.unreachable-requires
unreachable-requires c =
    let mid : Entries = entries c.put_missing.new.self in
    let same : string_bytes c.in_ok-text.text ≡ string_bytes c.args.name = search rules in
    let text : c.as_str.result.now ≡ string_bytes c.args.name = c.as_str.ensures.value ∙ same in
    let there = held c.args.name (entries c.args.self.now) mid c.in_ok-put_missing.ensures.content in
    let none : Option Field = None in
    let missing : none ≡ field_at (string_bytes c.args.name) mid =
    ap option_copied_mut (sym c.in-None.is) ∙ c.get_mut.ensures.value ∙ ap (λ (t : List ℕ). field_at t mid) text in
    let clash : none ≡ Some there.0 = missing ∙ there.1 in
    absurd (cc)

pub returns : goal.returns
returns c =
    let es : Entries = entries c.args.self.now in
    let mid : Entries = entries c.put_missing.new.self in
    let puts = c.in_ok-put_missing.ensures.content in
    let same : string_bytes c.in_ok-text.text ≡ string_bytes c.args.name = search rules in
    let text : c.as_str.result.now ≡ string_bytes c.args.name = c.as_str.ensures.value ∙ same in
    let there = held c.args.name es mid puts in
    let found : Some c.in-Some.field.now ≡ field_at (string_bytes c.args.name) mid =
    ap option_copied_mut (sym c.in-Some.is) ∙ c.get_mut.ensures.value ∙ ap (λ (t : List ℕ). field_at t mid) text in
    let both : Some there.0 ≡ Some c.in-Some.field.now = sym (found ∙ there.1) in
    let field : there.0 ≡ c.in-Some.field.now = cc in (
      (
        refl,
        λ w said. entries-roll (c.get_mut.follows.lender w) ∙ (c.get_mut.follows.holds w).0 ∙ ap (λ (t : List ℕ). with_field t w mid) text
            ∙ written c.args.name es mid w puts c.get_mut.ensures.ordered,
        tt,
      ),
      record {
        writes_back = tt;
        value = subst (IsHeld c.args.name (field_at (string_bytes c.args.name) es)) field there.2;
        memory = tt;
      },
    )
