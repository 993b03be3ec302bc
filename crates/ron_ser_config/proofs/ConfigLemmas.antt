-- The texts of a configuration as characters, the view of a copy, and that its parts are equal.
use Rattle.std.proofs.Common.{◌≡◌, ℕ, List, [], ◌∷◌, Bool, true, false, Option, Some, None, refl, sym, ap, ◌∙◌}
use Rattle.std.specs.Prelude.{codes}
use Rattle.std.proofs.lemmas.Bool.{eq-eqb}
use Rattle.std.proofs.Math.Bool.{beq}
use Rattle.std.proofs.Math.Dec.{eqb}
use Rattle.std.specs.Option.{option_eq}
use Rattle.std.specs.Ordering.{on}
use Rattle.std.specs.Str.{chars, bytes_eq}
use Rattle.std.specs.Cmp.Lexicographic.{bytes_decides}
use Rattle.std.specs.Global.{Global}
use Rattle.std.specs.Cow.{cow_str_bytes}
use Rattle.std.specs.declared.borrow.CowStr.{CowStr}
use Rattle.ron_ser_config.specs.declared.path_meta.field.Field.{Field}
use Rattle.ron_ser_config.specs.declared.config.PrettyConfig.{PrettyConfig}
use Rattle.ron_ser_config.specs.Same.{same_field}
use Rattle.ron_ser_config.specs.SameLaws.{same_field-itself}
use Rattle.ron_ser_config.specs.View.{field_tree, meta_tree, docs_below, config_view}
use Rattle.ron_ser_config.proofs.DocLemmas.{docs_seen, docs_below-is}

pub line_feed-chars : chars (10 ∷ []) ≡ codes "\n"
unfolding chars
line_feed-chars = refl

pub four_spaces-chars : chars (32 ∷ 32 ∷ 32 ∷ 32 ∷ []) ≡ codes "    "
unfolding chars
four_spaces-chars = refl

pub space-chars : chars (32 ∷ []) ≡ codes " "
unfolding chars
space-chars = refl

pub view-copied : (c : PrettyConfig) (new_line indentor separator : CowStr Global) (meta : Option Field)
    → cow_str_bytes new_line ≡ cow_str_bytes c.new_line → cow_str_bytes indentor ≡ cow_str_bytes c.indentor
    → cow_str_bytes separator ≡ cow_str_bytes c.separator
    → meta_tree meta ≡ meta_tree c.path_meta
    → config_view (record c { new_line = new_line; indentor = indentor; separator = separator; path_meta = meta }) ≡ config_view c
view-copied c new_line indentor separator meta n i s m =
    let docs : docs_below meta ≡ docs_below c.path_meta = docs_below-is meta ∙ ap docs_seen m ∙ sym (docs_below-is c.path_meta) in
    λ k. record (config_view c) { new_line = chars (n k); indentor = chars (i k); separator = chars (s k); docs = docs k }

-- ---- equal parts

pub number-itself : (n : ℕ) → eqb n n ≡ true
number-itself n = eq-eqb n n refl

pub switch-itself : (b : Bool) → beq b b ≡ true
switch-itself true = refl
switch-itself false = refl

pub text-same : (one other : List ℕ) → one ≡ other → bytes_eq one other ≡ true
text-same one other = (bytes_decides one other).1

pub meta-same : (one other : Option Field) → meta_tree one ≡ meta_tree other → option_eq (on field_tree same_field) one other ≡ true
meta-same None None e = refl
meta-same None (Some g) e = absurd (cc)
meta-same (Some f) None e = absurd (cc)
meta-same (Some f) (Some g) e =
    let same : field_tree f ≡ field_tree g = cc in
    rw (sym same) (same_field-itself (field_tree f))
