-- Announcements, one after the other, and a layout behind them: for the calls that write a whole text.
use Rattle.std.proofs.Common.{◌≡◌, ℕ, nat_lt, Bool, true, false, cond, Result, Ok, Err, List, [], ◌++◌, codes, encode_utf8_all, refl, sym, ap, ap₂, subst, ◌∙◌}
use Rattle.std.proofs.Common.{append_assoc, append-nil}
use Rattle.std.specs.List.{list_all}
use Rattle.std.specs.Result.{OnOk, OnErr}
use Rattle.std.specs.Fmt.{WritesInCalls}
use Rattle.std.proofs.lemmas.Str.{encodes-append}
use Rattle.ron_spec_words.specs.Characters.{Text}
use Rattle.ron_base.specs.declared.error.Error.{Error}
use Rattle.ron_base.specs.Extensions.{difference}
use Rattle.ron_spec_grammar.specs.Rule.{Extensions}
use Rattle.ron_spec_layout.specs.Config.{Config}
use Rattle.ron_spec_grammar.specs.Data.{Data}
use Rattle.ron_spec_layout.specs.Layout.{attribute_of, with_name_if, announcements_of, announcements, extensions_under}
use Rattle.ron_spec_layout.specs.Bytes.{layout_bytes, announcements_bytes, full_layout_bytes}
use Rattle.ron_spec_layout.proofs.Bytes.{ascii_text, bytes-full}
use Rattle.ron_base_device.specs.Begun.{HasBegun}
use Rattle.ron_ser.specs.Written.{announced}
use Rattle.ron_ser.proofs.Pieces.{both}
use Rattle.ron_ser.proofs.FrontLemmas.{begun_behind}

-- ---- one

abbrev announcement : Config → Bool → Text → Text
announcement c taken name = cond taken (attribute_of name ++ c.new_line) []

one_first : (c : Config) (taken : Bool) (name : Text) (names : List Text)
    → announcements_of c (with_name_if taken name names) ≡ announcement c taken name ++ announcements_of c names
one_first c true name names = refl
one_first c false name names = refl

one_bytes : (c : Config) (taken : Bool) (name : Text) (new_line : List ℕ) → list_all (λ n. nat_lt n 128) (attribute_of name) ≡ true
    → encode_utf8_all c.new_line ≡ new_line → encode_utf8_all (announcement c taken name) ≡ announced taken name new_line
one_bytes c true name new_line h e =
    encodes-append (attribute_of name) c.new_line ∙ ap₂ (λ a b. a ++ b) (ascii_text (attribute_of name) h) e
    ∙ append_assoc (codes "#![enable(") (name ++ codes ")]") new_line ∙ ap (λ t. codes "#![enable(" ++ t) (append_assoc name (codes ")]") new_line)
one_bytes c false name new_line h e = refl

-- ---- all four

pub announcement_bytes : (defaults : Extensions) (c : Config) (new_line : List ℕ) → encode_utf8_all c.new_line ≡ new_line
    → encode_utf8_all (announcements defaults c)
    ≡ announced (difference c.extensions defaults).unwrap_newtypes (codes "unwrap_newtypes") new_line
    ++ (announced (difference c.extensions defaults).implicit_some (codes "implicit_some") new_line
    ++ (announced (difference c.extensions defaults).unwrap_variant_newtypes (codes "unwrap_variant_newtypes") new_line
    ++ announced (difference c.extensions defaults).explicit_struct_names (codes "explicit_struct_names") new_line))
announcement_bytes defaults c new_line e =
    let x = difference c.extensions defaults in
    let d = with_name_if x.explicit_struct_names (codes "explicit_struct_names") [] in
    let v = with_name_if x.unwrap_variant_newtypes (codes "unwrap_variant_newtypes") d in
    let s = with_name_if x.implicit_some (codes "implicit_some") v in
    ap encode_utf8_all (one_first c x.unwrap_newtypes (codes "unwrap_newtypes") s)
    ∙ encodes-append (announcement c x.unwrap_newtypes (codes "unwrap_newtypes")) (announcements_of c s)
    ∙ ap₂ (λ a b. a ++ b) (one_bytes c x.unwrap_newtypes (codes "unwrap_newtypes") new_line refl e)
    (ap encode_utf8_all (one_first c x.implicit_some (codes "implicit_some") v)
    ∙ encodes-append (announcement c x.implicit_some (codes "implicit_some")) (announcements_of c v)
    ∙ ap₂ (λ a b. a ++ b) (one_bytes c x.implicit_some (codes "implicit_some") new_line refl e)
    (ap encode_utf8_all (one_first c x.unwrap_variant_newtypes (codes "unwrap_variant_newtypes") d)
    ∙ encodes-append (announcement c x.unwrap_variant_newtypes (codes "unwrap_variant_newtypes")) (announcements_of c d)
    ∙ ap₂ (λ a b. a ++ b) (one_bytes c x.unwrap_variant_newtypes (codes "unwrap_variant_newtypes") new_line refl e)
    (ap encode_utf8_all (one_first c x.explicit_struct_names (codes "explicit_struct_names") []
    ∙ append-nil (announcement c x.explicit_struct_names (codes "explicit_struct_names")))
    ∙ one_bytes c x.explicit_struct_names (codes "explicit_struct_names") new_line refl e)))

-- ---- and a layout behind them

module _ {W : Type 0} (took : W → List ℕ → W → Type 0) (defaults : Extensions) (c : Config) (x : Extensions) (d : Data)
    (under : x ≡ extensions_under defaults c) where
  whole : full_layout_bytes defaults c d ≡ announcements_bytes defaults c ++ layout_bytes c x 0 c.docs false d
  whole = bytes-full defaults c d ∙ ap (λ y. announcements_bytes defaults c ++ layout_bytes c y 0 c.docs false d) (sym under)

  pub headed : {w v : W} (u : W) (r : Result (Unit {0}) Error) → WritesInCalls took w (announcements_bytes defaults c) v
      → OnOk r (WritesInCalls took v (layout_bytes c x 0 c.docs false d) u) → OnOk r (WritesInCalls took w (full_layout_bytes defaults c d) u)
  headed {w = w} u (Ok o) h k = subst (λ t. WritesInCalls took w t u) (sym whole) (both took _ _ _ _ _ h k)
  headed u (Err e) h k = tt

  pub headed_front : {w v : W} (u : W) (r : Result (Unit {0}) Error) → WritesInCalls took w (announcements_bytes defaults c) v
      → OnErr r (HasBegun took v (layout_bytes c x 0 c.docs false d) u) → OnErr r (HasBegun took w (full_layout_bytes defaults c d) u)
  headed_front u (Ok o) h k = tt
  headed_front {w = w} u (Err e) h k = subst (λ t. HasBegun took w t u) (sym whole) (begun_behind took _ _ _ _ _ h k)
