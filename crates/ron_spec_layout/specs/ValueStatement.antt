-- What is claimed of the layout of values without a schema, each laid out as its data.
use Rattle.std.specs.Prelude.{◌≡◌, ℕ, Bool, true, false, ◌&&◌, ⊤, List, [], ◌++◌, codes, IsUtf8}
use Rattle.ron_spec_words.specs.Characters.{Text}
use Rattle.ron_spec_words.specs.Gap.{Gap}
use Rattle.ron_value.specs.Tree.{Tree}
use Rattle.ron_value.specs.Tree as tree
use Rattle.ron_spec_grammar.specs.Data.{value_of}
use Rattle.ron_spec_grammar.specs.Schema.{Shape, is_well_formed, OfShape}
use Rattle.ron_spec_grammar.specs.Rule.{Extensions}
use Rattle.ron_spec_grammar.specs.Document.{Document}
use Rattle.ron_spec_grammar.specs.Attribute.{in_force, Head}
use Rattle.ron_spec_grammar.specs.Values.Trees.{IsValue, lift, normal}
use Rattle.ron_spec_grammar.specs.Values.Grammar.{AnySpells}
use Rattle.ron_spec_grammar.specs.Values.Body.{ValueBody}
use Rattle.ron_spec_layout.specs.Encodable.{is_encodable}
use Rattle.ron_spec_layout.specs.Stand.{Stands, MayBeBare, MayFollow}
use Rattle.ron_spec_layout.specs.Config.{Docs, Config, blank}
use Rattle.ron_spec_layout.specs.Layout.{layout_within, layout, extensions_under, full_layout}

-- ---- values that code can hold

-- each text in the value is UTF-8
abbrev mutual
  pub HasTextsInUtf8 : Tree → Type 0
  HasTextsInUtf8 (tree.text bs) = IsUtf8 bs
  HasTextsInUtf8 (tree.some t) = HasTextsInUtf8 t
  HasTextsInUtf8 (tree.sequence ts) = HaveTextsInUtf8 ts
  HasTextsInUtf8 (tree.mapping ps) = PairsInUtf8 ps
  HasTextsInUtf8 _ = ⊤

  pub HaveTextsInUtf8 : tree.Items → Type 0
  HaveTextsInUtf8 tree.no_items = ⊤
  HaveTextsInUtf8 (tree.item_and t ts) = HasTextsInUtf8 t × HaveTextsInUtf8 ts

  pub PairsInUtf8 : tree.Pairs → Type 0
  PairsInUtf8 tree.no_pairs = ⊤
  PairsInUtf8 (tree.pair_and k t ps) = HasTextsInUtf8 k × HasTextsInUtf8 t × PairsInUtf8 ps

-- and its characters are Unicode scalar values, and its bytes bytes
pub record IsEncodableValue (t : Tree) : Type 0 where
  pub texts : HasTextsInUtf8 t
  pub encodable : is_encodable false (lift t) ≡ true

-- ---- Somes

-- no Some stands in the value
abbrev mutual
  pub holds_no_some : Tree → Bool
  holds_no_some (tree.some t) = false
  holds_no_some (tree.sequence ts) = hold_no_some ts
  holds_no_some (tree.mapping ps) = pairs_hold_no_some ps
  holds_no_some _ = true

  pub hold_no_some : tree.Items → Bool
  hold_no_some tree.no_items = true
  hold_no_some (tree.item_and t ts) = holds_no_some t && hold_no_some ts

  pub pairs_hold_no_some : tree.Pairs → Bool
  pairs_hold_no_some tree.no_pairs = true
  pairs_hold_no_some (tree.pair_and k t ps) = holds_no_some k && (holds_no_some t && pairs_hold_no_some ps)

-- Somes must be told. Under `implicit_some` the layout leaves a `Some` out, since a schema tells that it is there.
-- Without a schema nothing does: `5` would be read back in place of a Some of 5. So the law asks that there is no
-- Some under `implicit_some` (`TellsSomes`), and `is_encodable`, told whether `implicit_some` is in force, asks it of
-- each value within data. Data without values is encodable whichever it is told.
--
-- The text tells each Some: under implicit_some there is none.
abbrev pub TellsSomes : Extensions → Tree → Type 0
TellsSomes x t = x.implicit_some ≡ true → holds_no_some t ≡ true

-- ---- claims

-- A head, whose attributes announce extensions, and a body of the value under what is then in force.
pub record ValueDocument (defaults : Extensions) (limit : ℕ) (text : Text) (t : Tree) : Type 0 where
  pub announced : List Extensions
  pub head : Text
  pub body : Text
  pub split : text ≡ head ++ body
  pub is_head : Head announced head body
  pub is_body : ValueBody (in_force defaults announced).unwrap_variant_newtypes limit body t

-- Behind any gap that something follows, the layout of such a value stands for its normal form, its numbers in their smallest width where no suffixes are
-- written, not bare or, where that may be, bare, at some depth.
abbrev pub IsSpelledValue : Type 0
IsSpelledValue = (c : Config) (x : Extensions) (level : ℕ) (docs : Docs) (bare : Bool) (lead next : Text) (t : Tree) → blank c ≡ true → IsValue t
    → IsEncodableValue t → TellsSomes x t → MayBeBare x bare → (bare ≡ true → lead ≡ []) → Gap lead (codes ",") → MayFollow bare next
    → (room : ℕ) × Stands (AnySpells x.unwrap_variant_newtypes room bare) (lead ++ layout c x level docs bare (lift t)) next (normal c.number_suffixes t)

-- The whole text is a document of the normal form, at some depth.
abbrev pub IsValueReadBack : Type 0
IsValueReadBack = (c : Config) (defaults : Extensions) (t : Tree) → blank c ≡ true → IsValue t → IsEncodableValue t → TellsSomes (extensions_under defaults c) t
    → (room : ℕ) × ValueDocument defaults room (full_layout defaults c (lift t)) (normal c.number_suffixes t)

-- With suffixes, where Somes are written, a value without a schema comes back unchanged.
abbrev pub IsValueKept : Type 0
IsValueKept = (c : Config) (defaults : Extensions) (schema : List Shape) (root : ℕ) (t : Tree) → c.number_suffixes ≡ true
    → (extensions_under defaults c).implicit_some ≡ false → blank c ≡ true → is_well_formed schema root ≡ true → OfShape schema root (value_of t)
    → is_encodable false (value_of t) ≡ true
    → (room : ℕ) × Document defaults schema root room (full_layout defaults c (value_of t)) (value_of t)

-- In data, whatever Somes are pending, a value is laid out as its own data.
abbrev pub IsLaidAsData : Type 0
IsLaidAsData = (c : Config) (x : Extensions) (level : ℕ) (docs : Docs) (bare : Bool) (n : ℕ) (t : Tree)
    → layout_within c x level docs bare n (value_of t) ≡ layout_within c x level docs bare n (lift t)
