-- Values are read back as their normal form, at a place and as whole texts.
use Rattle.std.proofs.Common.{◌≡◌, ℕ, Bool, true, false, ◌⊎◌, [], ◌++◌, inl, inr, refl, sym, ap, subst, ◌∙◌, append-nil, arith}
use Rattle.ron_spec_words.specs.Characters.{Text}
use Rattle.ron_spec_words.specs.Gap.{skip, none}
use Rattle.ron_spec_words.specs.Runs.{is_ended}
use Rattle.ron_spec_words.proofs.Gaps.{skip-end}
use Rattle.ron_value.specs.Tree.{Tree}
use Rattle.ron_spec_grammar.specs.Values.Trees.{lift, IsValue, normal}
use Rattle.ron_spec_grammar.specs.Values.Grammar.{AnySpells}
use Rattle.ron_spec_grammar.specs.Values.Body.{ValueBody}
use Rattle.ron_spec_grammar.specs.Depth.{least_depth}
use Rattle.ron_spec_grammar.specs.Rule.{Extensions}
use Rattle.ron_spec_grammar.specs.Attribute.{in_force}
use Rattle.ron_spec_layout.specs.Stand.{Stands, MayFollow}
use Rattle.ron_spec_layout.specs.ValueStatement.{IsSpelledValue, IsValueReadBack, IsEncodableValue, TellsSomes}
use Rattle.ron_spec_layout.specs.Config.{Docs, Config}
use Rattle.ron_spec_layout.specs.Layout.{layout, value_layout, extensions_under}
use Rattle.ron_spec_layout.proofs.Values.{value_spelled, behind_gap}
use Rattle.ron_spec_layout.proofs.ValueLaid.{laid}
use Rattle.ron_spec_layout.proofs.Closed.{Closed, AreGaps, are_gaps}
use Rattle.ron_spec_layout.proofs.Announced.{Announced, announced}

-- what stands at the end of a text is a body
pub value_body : (unwrap : Bool) (room : ℕ) {text : Text} {t : Tree} → Stands (AnySpells unwrap room false) text [] t → ValueBody unwrap room text t
value_body unwrap room h = let q : h.text_from ++ [] ≡ h.from.stretch ++ h.from.after = append-nil h.text_from ∙ h.from.split in record {
  before = h.before;
  value = h.from.stretch;
  after = h.from.after;
  split = h.split ∙ ap (λ u. h.before ++ u) h.from.split;
  is_before = record { is_gap = rw q at h.is_before; longest = subst (λ u. skip u ≡ u) q h.from.solid };
  spelled = rw append-nil at h.from.spelled;
  is_after = h.from.is_after.is_gap;
}

module _ (c : Config) (gaps : AreGaps c) (x : Extensions) (t : Tree) (value : IsValue t) (code : IsEncodableValue t) (tells : TellsSomes x t) where
  -- behind a gap that was written before it
  value_led : (level : ℕ) (docs : Docs) (bare : Bool) (lead next : Text) → (bare ≡ true → lead ≡ []) → Closed lead → MayFollow bare next
      → Stands (AnySpells x.unwrap_variant_newtypes (least_depth (lift t)) bare) (lead ++ layout c x level docs bare (lift t)) next (normal c.number_suffixes t)
  value_led level docs bare lead next none_bare g f =
      subst (λ u. Stands (AnySpells x.unwrap_variant_newtypes (least_depth (lift t)) bare) (lead ++ u) next (normal c.number_suffixes t))
      (sym (laid c x docs t level bare 0))
      (go bare none_bare f (value_spelled c gaps x t (least_depth (lift t)) level bare next value.in_width code.texts code.encodable tells (omega arith) f))
    where
      go : (bare : Bool) → (bare ≡ true → lead ≡ []) → MayFollow bare next
          → Stands (AnySpells x.unwrap_variant_newtypes (least_depth (lift t)) bare) (value_layout c x level bare 0 t) next (normal c.number_suffixes t)
          → Stands (AnySpells x.unwrap_variant_newtypes (least_depth (lift t)) bare) (lead ++ value_layout c x level bare 0 t) next (normal c.number_suffixes t)
      go true b f h = subst (λ u. Stands (AnySpells x.unwrap_variant_newtypes (least_depth (lift t)) true) (u ++ value_layout c x level true 0 t) next
          (normal c.number_suffixes t)) (sym (b refl)) h
      go false b f h = behind_gap c gaps x (least_depth (lift t)) g h

pub spelled_value : IsSpelledValue
spelled_value c x level docs bare lead next t h value code tells b bl g f =
    (least_depth (lift t), value_led c (are_gaps c h) x t value code tells level docs bare lead next bl g f)

pub value_read_back : IsValueReadBack
value_read_back c defaults t h value code tells =
    (least_depth (lift t), record { announced = a.announced; head = a.head; body = a.lead ++ text; split = a.split; is_head = a.is_head; is_body = body })
  where
    x : Extensions
    x = extensions_under defaults c

    gaps : AreGaps c
    gaps = are_gaps c h

    text : Text
    text = layout c x 0 c.docs false (lift t)

    a : Announced c gaps defaults text
    a = announced c gaps defaults text

    closed : ((a.head ≡ []) × (a.lead ≡ [])) ⊎ ((is_ended a.head ≡ false) × Closed a.lead) → Closed a.lead
    closed (inl e) = subst Closed (sym e.1) none
    closed (inr e) = e.1

    stands : Stands (AnySpells x.unwrap_variant_newtypes (least_depth (lift t)) false) (a.lead ++ text) [] (normal c.number_suffixes t)
    stands = value_led c gaps x t value code tells 0 c.docs false a.lead [] (λ e. absurd (cc)) (closed a.form) (refl, skip-end, refl)

    body : ValueBody (in_force defaults a.announced).unwrap_variant_newtypes (least_depth (lift t)) (a.lead ++ text) (normal c.number_suffixes t)
    body = subst (λ (y : Extensions). ValueBody y.unwrap_variant_newtypes (least_depth (lift t)) (a.lead ++ text) (normal c.number_suffixes t))
        (sym a.is_in_force) (value_body x.unwrap_variant_newtypes (least_depth (lift t)) stands)
