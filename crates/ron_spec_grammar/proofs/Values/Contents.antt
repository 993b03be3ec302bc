-- What stands in the brackets of a value, items or pairs or fields, is told apart and read exactly: for `Values.Grammar`.
use Rattle.std.proofs.Common.{◌≡◌, ℕ, ◌+◌, ◌≤◌, ◌==◌, Bool, true, false, List, [], ◌∷◌, ◌++◌, Option, Some, encode_utf8_all, refl, subst, arith}
use Rattle.ron_spec_words.specs.Characters.{Text, left_parenthesis, right_parenthesis, right_brace, colon}
use Rattle.ron_spec_words.specs.Gap.{skip, is_delimiter}
use Rattle.ron_spec_words.specs.Lang.{done, Means, Items}
use Rattle.ron_spec_words.specs.Reader.{means, items}
use Rattle.ron_spec_words.specs.Exact.{Before, FollowsValue}
use Rattle.ron_spec_words.specs.Lookahead.{opens_field, holds_several}
use Rattle.ron_spec_words.proofs.Words.{First, word_mark}
use Rattle.ron_spec_words.proofs.Classes.{Solid, first_solid}
use Rattle.ron_spec_words.proofs.Names.{word_name, name_solid}
use Rattle.ron_spec_words.proofs.Exactly.{Opens, first_then, first_mark, stops_gap}
use Rattle.ron_spec_words.proofs.Values.{Each, AnyValue}
use Rattle.ron_spec_words.proofs.WordsPass.{passes_name, passes_colon}
use Rattle.ron_spec_words.proofs.Lookahead.{items_several, field_opens}
use Rattle.ron_spec_words.proofs.Parts.{Part, part_more, part_weaker, part_word, part_means, part_needs, part_chain, part_then, part_behind, part_with_comma}
use Rattle.ron_spec_words.proofs.Parts.{part_items, part_group}
use Rattle.ron_value.specs.Tree.{Tree, items_from}
use Rattle.ron_value.specs.Tree as tree
use Rattle.ron_spec_grammar.specs.Values.Trees.{Entry}
use Rattle.ron_spec_grammar.specs.Values.Grammar.{list_value, several_value, map_value, fields_value, entry_with, Values, FieldEntry, PairEntry, FieldsInside}
use Rattle.ron_spec_grammar.specs.Values.Grammar.{ItemsInside, RoundGroup, SomeContent, ValueReaders, field_entry, pair_entry, fields_inside, items_inside}
use Rattle.ron_spec_grammar.specs.Values.Grammar.{round_group, some_content}
use Rattle.ron_spec_grammar.proofs.Rule.{After}
use Rattle.ron_spec_grammar.proofs.Values.Maps.{Both}
use Rattle.ron_spec_grammar.proofs.Values.Facts.{IsValueIn, list_in, map_in, key_in}
use Rattle.ron_spec_grammar.proofs.Values.Telling.{Starts, starts_first, part_tell, NoColon, items_start, items_first}
use Rattle.ron_spec_grammar.proofs.Values.Forms.{close_unnamed}

-- bare content takes two levels more than are counted
abbrev pub bare_levels : Bool → ℕ
bare_levels false = 0
bare_levels true = 2

-- what is owed k levels further down
pub record ValueFit (step room k : ℕ) (q r : ValueReaders) (V : Values) : Type 0 where
  pub part : (bare : Bool) (before : Text)
      → Part room step bare (IsValueIn room k) (q bare before) (r bare before) (V bare before) (After bare) (bare_levels bare + k)
  pub opens : (before : Text) → Opens (V false before)
  pub unnamed : (before : Text) → Starts opens_field false (V false before) NoColon

-- ---- fields and pairs

module _ {step room : ℕ} (q r : ValueReaders) (V : Values) (h : ValueFit step room 2 q r V) where
  part_field : Part room step false (Both (IsValueIn room 2)) (field_entry q) (field_entry r) (FieldEntry V) FollowsValue 2
  part_field = part_then {P = AnyValue} (part_word word_name (first_solid name_solid) passes_name)
      (λ n _. part_weaker (λ b p _. p) (part_behind (word_mark colon done) (first_mark _ colon done (λ s. refl)) (passes_colon done)
      (λ gap. part_means (entry_with (tree.text (encode_utf8_all n)))
      (λ t p v e. let same : (tree.text (encode_utf8_all n), t) ≡ p = cc in rw (← same) (key_in room (encode_utf8_all n) t v, v)) (h.part false gap))))

  part_pair : (before : Text) → Part room step false (Both (IsValueIn room 2)) (pair_entry q before) (pair_entry r before) (PairEntry V before) FollowsValue 2
  part_pair before = part_chain (h.part false before)
      (λ key _. part_behind (word_mark colon done) (first_mark _ colon done (λ s. refl)) (passes_colon done)
      (λ gap. part_means (entry_with key) (λ t p v e is_key. let same : (key, t) ≡ p = cc in rw (← same) (is_key, v)) (h.part false gap)))
      (λ a gap right next b g z f. stops_gap gap (right ++ next) g (rw (z.split, z.first.0) refl))

  fields_in : (ps : List Entry) (t : Tree) → Each (Both (IsValueIn room 2)) ps → fields_value ps ≡ Some t → 1 ≤ room → IsValueIn room 0 t
  fields_in [] t h e le = absurd (cc)
  fields_in (p ∷ ps) t h e le = subst (IsValueIn room 0) (cc) (map_in room (p ∷ ps) h)

  pub part_fields : (before : Text) → Part room step true (λ t. 1 ≤ room → IsValueIn room 0 t) (fields_inside q before) (fields_inside r before)
      (FieldsInside V before) (Before right_parenthesis) 2
  part_fields before = part_means fields_value fields_in (part_items (λ _ _. field_entry q) (λ _ _. field_entry r) (λ _ _. FieldEntry V) right_parenthesis refl
      refl (λ _ _. first_then name_solid) (λ _ _. part_field) before)

  pub part_pairs : (before : Text) → Part room step true (λ t. 1 ≤ room → IsValueIn room 0 t) (means (items (λ _. pair_entry q) right_brace before) map_value)
      (means (items (λ _. pair_entry r) right_brace before) map_value) (Means (Items (λ _. PairEntry V) before) map_value) (Before right_brace) 2
  part_pairs before = part_means map_value (λ ps t h e le. subst (IsValueIn room 0) (cc) (map_in room ps h)) (part_items (λ _. pair_entry q) (λ _. pair_entry r)
      (λ _. PairEntry V) right_brace refl refl (λ _ gap. first_then (h.opens gap)) (λ _ gap. part_pair gap) before)

  -- ---- items

  pub part_items_inside : (f : List Tree → Option Tree) (close : ℕ) → is_delimiter close ≡ true → (close == 44) ≡ false
      → ((ts : List Tree) (t : Tree) → f ts ≡ Some t → list_value ts ≡ Some t) → (before : Text)
      → Part room step true (λ t. 1 ≤ room → IsValueIn room 0 t) (items_inside f close q before) (items_inside f close r before) (ItemsInside f V before)
      (Before close) 2
  part_items_inside f close s c k before = part_means f (λ ts t h e le. subst (IsValueIn room 0) (same ts t (k ts t e)) (list_in room ts h))
      (part_items (λ _ gap. q false gap) (λ _ gap. r false gap) (λ _ gap. V false gap) close s c (λ _ gap. h.opens gap) (λ _ gap. h.part false gap) before)
    where
      same : (ts : List Tree) (t : Tree) → list_value ts ≡ Some t → tree.sequence (items_from ts) ≡ t
      same ts t e = cc

  pub several_list : (ts : List Tree) (t : Tree) → several_value ts ≡ Some t → list_value ts ≡ Some t
  several_list [] t e = absurd (cc)
  several_list (u ∷ []) t e = absurd (cc)
  several_list (u ∷ v ∷ ts) t e = e

  -- ---- what tells fields, several items and others apart

  fields_first : (P : Text → Type 0) → First P (FieldEntry V) → (before : Text) → First P (FieldsInside V before)
  fields_first P k before = record { holds = λ t next d z. go t next z.value d z.spelled z.meant }
    where
      go : (t next : Text) (ps : List Entry) (d : Tree) → Items (λ _ _. FieldEntry V) before t next ps → fields_value ps ≡ Some d → P (t ++ next)
      go t next [] d z e = absurd (cc)
      go t next (p ∷ ps) d z e = items_first (λ _ _. FieldEntry V) P before k t next p ps z

  pub fields_open : (before : Text) → First (λ s. opens_field s ≡ true) (FieldsInside V before)
  fields_open before = fields_first (λ s. opens_field s ≡ true) (field_opens (λ n gap. Means (V false gap) (entry_with (tree.text (encode_utf8_all n))))) before

  pub fields_solid : (before : Text) → Opens (FieldsInside V before)
  fields_solid before = fields_first Solid (first_then name_solid) before

  pub items_unnamed : (f : List Tree → Option Tree) (before : Text) → Starts opens_field false (ItemsInside f V before) (Before right_parenthesis)
  items_unnamed f before = record { at = λ t next d z g n. go t next z.value z.spelled g n }
    where
      go : (t next : Text) (ts : List Tree) → Items (λ _ gap. V false gap) before t next ts → Before right_parenthesis next → skip (t ++ next) ≡ t ++ next
          → opens_field (t ++ next) ≡ false
      go t next [] z g n = close_unnamed (t ++ next) (rw (← n, z) g)
      go t next (x ∷ xs) z g n = items_start (λ _ gap. V false gap) opens_field false before (h.unnamed before) t next x xs z g n

  several_are : (P : Text → Type 0) (before t next : Text) (ts : List Tree) (d : Tree)
      → ((x y : Tree) (xs : List Tree) → Items (λ _ gap. V false gap) before t next (x ∷ y ∷ xs) → P (t ++ next))
      → Items (λ _ gap. V false gap) before t next ts → several_value ts ≡ Some d → P (t ++ next)
  several_are P before t next [] d k z e = absurd (cc)
  several_are P before t next (x ∷ []) d k z e = absurd (cc)
  several_are P before t next (x ∷ y ∷ xs) d k z e = k x y xs z

  pub several_tell : (before : Text) → Starts holds_several true (ItemsInside several_value V before) (Before right_parenthesis)
  several_tell before = record {
    at = λ t next d z _ n. several_are (λ s. holds_several s ≡ true) before t next z.value d (λ x y xs i.
        items_several (λ _ gap. V false gap) (λ _ gap. h.opens gap) (λ _ gap. (h.part false gap).passes) before t next x y xs i n) z.spelled z.meant;
  }

  pub several_solid : (before : Text) → Opens (ItemsInside several_value V before)
  several_solid before = record {
    holds = λ t next d z. several_are Solid before t next z.value d
        (λ x y xs i. items_first (λ _ gap. V false gap) Solid before (h.opens before) t next x (y ∷ xs) i) z.spelled z.meant;
  }

  -- ---- groups

  pub part_round : (m : ℕ) → m ≤ room → 6 ≤ step
      → Part room step false (IsValueIn room 0) (round_group m q) (round_group room r) (RoundGroup room V) FollowsValue 0
  part_round m le wide = part_group left_parenthesis right_parenthesis 0 refl refl
      (λ gap. part_needs 1 m le (omega arith) (part_tell opens_field (starts_first (Before right_parenthesis) (fields_open gap)) (items_unnamed list_value gap)
      (part_fields gap) (part_items_inside list_value right_parenthesis refl refl (λ ts t e. e) gap)))
      (omega (arith, wide))

-- what stands in the parentheses of a Some, one level down
module _ {step room : ℕ} (q r : ValueReaders) (V : Values) (h : ValueFit step room 1 q r V) where
  pub part_some_content : (unwrap : Bool) (gap : Text)
      → Part room step true (IsValueIn room 1) (some_content unwrap q gap) (some_content unwrap r gap) (SomeContent unwrap V gap) (Before right_parenthesis) 3
  part_some_content false gap = part_with_comma (part_more (h.part false gap) (omega arith))
  part_some_content true gap = h.part true gap
