-- The layout of values stands for their normal form: by recursion on the value.
use Rattle.std.proofs.Common.{◌≡◌, ℕ, suc, ◌+◌, ◌-◌, ◌≤◌, Bool, true, false, ◌&&◌, cond, List, [], ◌∷◌, ◌++◌, codes, chars, inl, inr, Some, refl, sym, ap}
use Rattle.std.proofs.Common.{subst, ◌∙◌, append_assoc, arith}
use Rattle.std.proofs.lemmas.Bool.{and_parts}
use Rattle.unicode_ident.proofs.Computing.{unicode_ident}
use Rattle.ron_spec_words.specs.Characters.{Text}
use Rattle.ron_spec_words.specs.Lang.{Lang, done, Then, Means, Group, Items, WithComma, Needs}
use Rattle.ron_spec_words.specs.Directly.{FixedWord}
use Rattle.ron_spec_words.proofs.Gaps.{skip-other}
use Rattle.ron_value.specs.Tree.{Tree, items_from}
use Rattle.ron_value.specs.Tree as tree
use Rattle.ron_spec_grammar.specs.Rule.{Extensions, below}
use Rattle.ron_spec_grammar.specs.Shapes.Unit.{EmptyBrackets}
use Rattle.ron_spec_grammar.specs.Values.Trees.{Entry, HasNumbersInWidth, HaveNumbersInWidth, PairsInWidth, mapped, lift, lift_items, lift_pairs, normal}
use Rattle.ron_spec_grammar.specs.Values.Trees.{normal_items, normal_pairs}
use Rattle.ron_spec_grammar.specs.Values.Grammar.{Values, character_value, text_value, bytes_value, some_value, unit_value, list_value, map_value, entry_with}
use Rattle.ron_spec_grammar.specs.Values.Grammar.{PairEntry, ItemsInside, SomeContent, WordValue, OneValue, BareValue, ValueRule, no_value, AnySpells}
use Rattle.ron_spec_grammar.specs.Depth.{least_depth, items_depth, pairs_depth}
use Rattle.ron_spec_layout.specs.Encodable.{is_encodable, items_encodable, pairs_encodable}
use Rattle.ron_spec_layout.specs.Brackets.{bracketed, written_bool, in_some}
use Rattle.ron_spec_layout.specs.Layout.{value_layout, value_texts, entry_texts}
use Rattle.ron_spec_layout.specs.Stand.{StandsFirst, Stands, Ends, MayFollow}
use Rattle.ron_spec_layout.specs.ValueStatement.{HasTextsInUtf8, HaveTextsInUtf8, PairsInUtf8, holds_no_some, hold_no_some, pairs_hold_no_some, TellsSomes}
use Rattle.ron_spec_layout.specs.Config.{Config, spacing, inner_level, led_by, spaced, item_comment}
use Rattle.ron_spec_layout.proofs.Integers.{ends_name}
use Rattle.ron_spec_layout.proofs.Quoted.{char_literal}
use Rattle.ron_spec_layout.proofs.Stands.{ends_delimiter, may_follow_ends, stands_as, stands_means, stands_needs, at_once, whole, then_stands, stands_then}
use Rattle.ron_spec_layout.proofs.Stands.{mark_then, group, comma_stands}
use Rattle.ron_spec_layout.proofs.Named.{in_round}
use Rattle.ron_spec_layout.proofs.Items.{AreItems, spaced_items}
use Rattle.ron_spec_layout.proofs.ValueWords.{text_is}
use Rattle.ron_spec_layout.proofs.Written.{string_text_stands, bytes_text_stands, untyped_text_stands}
use Rattle.ron_spec_layout.proofs.Closed.{Closed, closed_append, led_more, AreGaps, closed_comment, is_spacing}

module _ (x : Extensions) where
  -- what may stand so many levels deeper
  abbrev pub inner : ℕ → ℕ → Values
  inner room = below (ValueRule x.unwrap_variant_newtypes) no_value room

  abbrev pub One : ℕ → Lang Tree
  One room = OneValue x.unwrap_variant_newtypes room (inner room)

  abbrev pub Word : ℕ → Lang Tree
  Word room = WordValue x.unwrap_variant_newtypes room (inner room)

  -- a value, and perhaps bare
  pub at_value : (room : ℕ) (bare : Bool) {t next : Text} {v : Tree} → MayFollow bare next → Stands (λ _. One room) t next v
      → Stands (AnySpells x.unwrap_variant_newtypes room bare) t next v
  unfolding AnySpells
  at_value room false f h = h
  at_value room true {t = t} {next = next} {v = v} f h =
      let k : Stands (λ _. One room) t (41 ∷ f.0) v = subst (λ n. Stands (λ _. One room) t n v) f.1 h in
      let all : Stands (λ before. BareValue x.unwrap_variant_newtypes room (inner room) before) t (41 ∷ f.0) v =
      stands_as {L = λ before. WithComma (One room)} v (comma_stands {L = λ _. One room} t f.0 k) (λ before t n z. inr (inr (inr z))) in
      subst (λ n. Stands (λ before. BareValue x.unwrap_variant_newtypes room (inner room) before) t n v) (sym f.1) all

  pub word_value : (room : ℕ) {t next : Text} {v : Tree} → Stands (λ _. Word room) t next v → Stands (λ _. One room) t next v
  word_value room {v = v} h = stands_as v h (λ before t n z. inr (inr (inr (inr (inr (inr (inr z)))))))

  -- one and two levels down
  pub one_below : (room : ℕ) (bare : Bool) {t next : Text} {v : Tree} → 1 ≤ room → Stands (AnySpells x.unwrap_variant_newtypes (room - 1) bare) t next v
      → Stands (inner room 0 bare) t next v
  unfolding AnySpells
  one_below room bare {t = t} {next = next} {v = v} le h = let e : room ≡ suc (room - 1) = omega arith in
      subst (λ k. Stands (inner k 0 bare) t next v) (sym e) h

  pub two_below : (room : ℕ) (bare : Bool) {t next : Text} {v : Tree} → 2 ≤ room → Stands (AnySpells x.unwrap_variant_newtypes (room - 2) bare) t next v
      → Stands (inner room 1 bare) t next v
  unfolding AnySpells
  two_below room bare {t = t} {next = next} {v = v} le h = let e : room ≡ suc (suc (room - 2)) = omega arith in
      subst (λ k. Stands (inner k 1 bare) t next v) (sym e) h

  -- ---- words

  pub boolean_value : (b : Bool) (room : ℕ) (next : Text) → Ends next → Stands (λ _. One room) (written_bool b) next (tree.boolean b)
  boolean_value true room next e = word_value room (stands_as {L = λ _. FixedWord (codes "true") (tree.boolean true)} (tree.boolean true) (at_once
      (whole (skip-other 116 (codes "rue" ++ next) refl refl) e.1 (record { same = refl; ends = ends_name next e; value = refl }))) (λ before t n z. inl z))
  boolean_value false room next e = word_value room (stands_as {L = λ _. FixedWord (codes "false") (tree.boolean false)} (tree.boolean false) (at_once (whole
      (skip-other 102 (codes "alse" ++ next) refl refl) e.1 (record { same = refl; ends = ends_name next e; value = refl }))) (λ before t n z. inr (inl z)))

  pub none_value : (room : ℕ) (next : Text) → Ends next → Stands (λ _. One room) (codes "None") next tree.none
  none_value room next e = word_value room (stands_as {L = λ _. FixedWord (codes "None") tree.none} tree.none (at_once (whole
      (skip-other 78 (codes "one" ++ next) refl refl) e.1 (record { same = refl; ends = ends_name next e; value = refl }))) (λ before t n z. inr (inr (inl z))))

  pub unit_value_stands : (room : ℕ) (bare : Bool) (next : Text) → MayFollow bare next
      → Stands (AnySpells x.unwrap_variant_newtypes room bare) (bracketed bare []) next tree.unit
  unfolding AnySpells
  unit_value_stands room false next f =
      let word : Stands (λ _. EmptyBrackets) (codes "()") next done =
      at_once (whole (skip-other 40 (41 ∷ next) refl refl) f.1 (record { rest = 41 ∷ []; split = refl; spelled = (refl, refl) })) in
      stands_as tree.unit (stands_means tree.unit unit_value refl word) (λ before t n z. inr (inr (inr (inr (inr (inl (inl z)))))))
  unit_value_stands room true next f = let e = may_follow_ends true next f in at_once (whole e.1 e.1 (inl (refl, refl)))

  -- ---- a Some

  content_stands : (b : Bool) (V : Values) {t rest : Text} {v : Tree} → Stands (V b) t (41 ∷ rest) v → Stands (SomeContent b V) t (41 ∷ rest) v
  content_stands false V {t = t} {rest = rest} h = comma_stands {L = V false} t rest h
  content_stands true V h = h

  pub some_stands : (room : ℕ) (t : Text) (v : Tree) (next : Text) → Ends next → Stands (inner room 0 x.unwrap_variant_newtypes) t (41 ∷ next) v
      → Stands (λ _. One room) (in_some t) next (tree.some v)
  unfolding unicode_ident
  some_stands room t v next e h =
      let L : Text → Lang Tree = SomeContent x.unwrap_variant_newtypes (inner room 0) in
      let inside : StandsFirst (Group 40 41 L) (bracketed false t) next v = in_round t next e (content_stands x.unwrap_variant_newtypes (inner room 0) h) in
      let value : Stands (λ _. Means (Group 40 41 L) some_value) (bracketed false t) next (tree.some v) =
      stands_means (tree.some v) some_value refl (at_once inside) in
      let S : Lang Tree = Then (FixedWord (codes "Some") done) (λ _ _. Means (Group 40 41 L) some_value) in
      let all : StandsFirst S (in_some t) next (tree.some v) =
      then_stands (codes "Some") (bracketed false t) next done (record { same = refl; ends = refl; value = refl }) (skip-other 83 _ refl refl) value in
      word_value room (stands_as {L = λ _. S} (tree.some v) (at_once all) (λ before t n z. inr (inr (inr (inl z)))))

  pub content_follows : (b : Bool) (rest : Text) → MayFollow b (41 ∷ rest)
  content_follows false rest = ends_delimiter 41 rest refl refl
  content_follows true rest = (rest, refl)

-- the normal forms of items, as a list
abbrev normals : Bool → tree.Items → List Tree
normals suffixes tree.no_items = []
normals suffixes (tree.item_and t ts) = normal suffixes t ∷ normals suffixes ts

items_normals : (suffixes : Bool) (ts : tree.Items) → items_from (normals suffixes ts) ≡ normal_items suffixes ts
items_normals suffixes tree.no_items = refl
items_normals suffixes (tree.item_and t ts) = ap (tree.item_and (normal suffixes t)) (items_normals suffixes ts)

module _ (c : Config) (gaps : AreGaps c) (x : Extensions) where
  abbrev pub IsSpelledIn : Tree → Type 0
  IsSpelledIn t = (room level : ℕ) (bare : Bool) (next : Text) → HasNumbersInWidth t → HasTextsInUtf8 t → is_encodable false (lift t) ≡ true → TellsSomes x t
      → least_depth (lift t) ≤ room → MayFollow bare next
      → Stands (AnySpells x.unwrap_variant_newtypes room bare) (value_layout c x level bare 0 t) next (normal c.number_suffixes t)

  -- ---- Somes

  some_law : (t : Tree) → IsSpelledIn t → IsSpelledIn (tree.some t)
  unfolding value_layout
  some_law t h room level bare next width utf8 en tells le f = go x.implicit_some refl
    where
      explicit : x.implicit_some ≡ false
          → Stands (λ _. One x room) (in_some (value_layout c x level x.unwrap_variant_newtypes 0 t)) next (tree.some (normal c.number_suffixes t))
      explicit e = some_stands x room (value_layout c x level x.unwrap_variant_newtypes 0 t) (normal c.number_suffixes t) next (may_follow_ends bare next f)
          (one_below x room x.unwrap_variant_newtypes (omega (arith, le)) (h (room - 1) level x.unwrap_variant_newtypes (41 ∷ next) width utf8 en
          (λ i. absurd (let no : true ≡ false = sym i ∙ e in cc)) (omega (arith, le)) (content_follows x x.unwrap_variant_newtypes next)))

      go : (b : Bool) → x.implicit_some ≡ b
          → Stands (AnySpells x.unwrap_variant_newtypes room bare) (value_layout c x level bare 0 (tree.some t)) next (tree.some (normal c.number_suffixes t))
      go true e = absurd (let no = tells e in cc)
      go false e = subst (λ b. Stands (AnySpells x.unwrap_variant_newtypes room bare) (cond b (value_layout c x level bare 1 t)
          (in_some (value_layout c x level x.unwrap_variant_newtypes 0 t))) next (tree.some (normal c.number_suffixes t))) (sym e)
          (at_value x room bare f (explicit e))

  -- ---- lists and maps

  abbrev ItemsSpelled : tree.Items → Type 0
  ItemsSpelled tree.no_items = Unit {0}
  ItemsSpelled (tree.item_and t ts) = IsSpelledIn t × ItemsSpelled ts

  abbrev PairsSpelled : tree.Pairs → Type 0
  PairsSpelled tree.no_pairs = Unit {0}
  PairsSpelled (tree.pair_and k t ps) = IsSpelledIn k × IsSpelledIn t × PairsSpelled ps

  -- a value behind a gap
  pub behind_gap : (room : ℕ) {g t next : Text} {v : Tree} → Closed g → Stands (AnySpells x.unwrap_variant_newtypes room false) t next v
      → Stands (AnySpells x.unwrap_variant_newtypes room false) (g ++ t) next v
  unfolding AnySpells
  behind_gap room h k = led_more {L = One x room} h k

  -- an item behind a gap, two levels down
  item_stands : (t : Tree) → IsSpelledIn t → (room level : ℕ) (g : Text) → Closed g → HasNumbersInWidth t → HasTextsInUtf8 t
      → is_encodable false (lift t) ≡ true → TellsSomes x t → 2 + least_depth (lift t) ≤ room → (next : Text) → Ends next
      → Stands (inner x room 1 false) (g ++ value_layout c x level false 0 t) next (normal c.number_suffixes t)
  item_stands t h room level g cg width utf8 en tells le next e =
      two_below x room false (omega (arith, le)) (behind_gap (room - 2) cg (h (room - 2) level false next width utf8 en tells (omega (arith, le)) e))

  abbrev ItemsOf : ℕ → List Tree → Text → Lang Tree
  ItemsOf room seen gap = inner x room 1 false gap

  all_items : (ts : tree.Items) → ItemsSpelled ts → (room level k : ℕ) (g h : Text) → Closed g → Closed h → (seen : List Tree) → HaveNumbersInWidth ts
      → HaveTextsInUtf8 ts → items_encodable false (lift_items ts) ≡ true → (x.implicit_some ≡ true → hold_no_some ts ≡ true)
      → 1 + items_depth (lift_items ts) ≤ room
      → AreItems (ItemsOf room) seen (led_by g h (value_texts c x level k ts)) (normals c.number_suffixes ts)
  unfolding value_layout
  all_items tree.no_items a room level k g h cg ch seen width utf8 en tells le = tt
  all_items (tree.item_and t ts) a room level k g h cg ch seen width utf8 en tells le =
      let ens = and_parts (is_encodable false (lift t)) (items_encodable false (lift_items ts)) en in
      let told : x.implicit_some ≡ true → (holds_no_some t ≡ true) × (hold_no_some ts ≡ true) = λ i. and_parts (holds_no_some t) (hold_no_some ts) (tells i) in
      let comment = item_comment c level k in (
        record {
          stands = λ next e. subst (λ v. Stands (ItemsOf room seen) v next (normal c.number_suffixes t))
              (append_assoc g comment (value_layout c x level false 0 t)) (item_stands t a.0 room level (g ++ comment)
              (closed_append cg (closed_comment c level k)) width.0 utf8.0 ens.0 (λ i. (told i).0) (omega (arith, le)) next e);
        },
        all_items ts a.1 room level (suc k) h h ch ch (normal c.number_suffixes t ∷ seen) width.1 utf8.1 ens.1 (λ i. (told i).1) (omega (arith, le)),
      )

  list_stands : (ts : tree.Items) → ItemsSpelled ts → (room level : ℕ) (next : Text) → HaveNumbersInWidth ts → HaveTextsInUtf8 ts
      → items_encodable false (lift_items ts) ≡ true → (x.implicit_some ≡ true → hold_no_some ts ≡ true) → 1 + items_depth (lift_items ts) ≤ room → Ends next
      → Stands (λ _. One x room) (value_layout c x level false 0 (tree.sequence ts)) next (tree.sequence (normal_items c.number_suffixes ts))
  unfolding value_layout
  list_stands ts h room level next width utf8 en tells le e =
      let z = spacing c c.compact_arrays level in
      let l = inner_level c.compact_arrays level in
      let i = is_spacing c gaps c.compact_arrays level in
      let t = spaced z (value_texts c x l 0 ts) in
      let v = tree.sequence (normal_items c.number_suffixes ts) in
      let all : Stands (Items (ItemsOf room)) t (93 ∷ next) (normals c.number_suffixes ts) =
      spaced_items (ItemsOf room) 93 next (ends_delimiter 93 next refl refl) z i (value_texts c x l 0 ts) (normals c.number_suffixes ts)
      (all_items ts h room l 0 z.first z.between i.first i.between [] width utf8 en tells le) in
      let content : Stands (λ gap. Needs 1 room (ItemsInside list_value (inner x room 1) gap)) t (93 ∷ next) v =
      stands_needs (omega (arith, le)) (stands_means v list_value (ap (λ es. Some (tree.sequence es)) (items_normals c.number_suffixes ts)) all) in
      stands_as {L = λ _. Group 91 93 (λ gap. Needs 1 room (ItemsInside list_value (inner x room 1) gap))} v
      (at_once (group 91 93 t next (λ u. skip-other 91 u refl refl) (λ u. skip-other 93 u refl refl) e.1 content)) (λ before t n z. inr (inr (inr (inl z))))

  abbrev PairsOf : ℕ → List Entry → Text → Lang Entry
  PairsOf room seen = PairEntry (inner x room 1)

  -- a key, `:` and its value
  pair_stands : (room : ℕ) (p q : Text) (k v : Tree) (seen : List Entry) → ((next : Text) → Ends next → Stands (inner x room 1 false) p next k)
      → ((next : Text) → Ends next → Stands (inner x room 1 false) q next v) → (next : Text) → Ends next → Stands (PairsOf room seen) (p ++ 58 ∷ q) next (k, v)
  pair_stands room p q k v seen h g next e =
      stands_then p (58 ∷ q) next (h (58 ∷ (q ++ next)) (ends_delimiter 58 (q ++ next) refl refl))
      (λ _. mark_then 58 q next (skip-other 58 _ refl refl) (stands_means (k, v) (entry_with k) refl (g next e)))

  all_pairs : (ps : tree.Pairs) → PairsSpelled ps → (room level : ℕ) (g h : Text) → Closed g → Closed h → (seen : List Entry) → PairsInWidth ps → PairsInUtf8 ps
      → pairs_encodable false (lift_pairs ps) ≡ true → (x.implicit_some ≡ true → pairs_hold_no_some ps ≡ true) → 1 + pairs_depth (lift_pairs ps) ≤ room
      → AreItems (PairsOf room) seen (led_by g h (entry_texts c x level ps)) (normal_pairs c.number_suffixes ps)
  unfolding value_layout
  all_pairs tree.no_pairs a room level g h cg ch seen width utf8 en tells le = tt
  all_pairs (tree.pair_and k t ps) a room level g h cg ch seen width utf8 en tells le =
      let ek = and_parts (is_encodable false (lift k)) (is_encodable false (lift t) && pairs_encodable false (lift_pairs ps)) en in
      let et = and_parts (is_encodable false (lift t)) (pairs_encodable false (lift_pairs ps)) ek.1 in
      let told_key : x.implicit_some ≡ true → (holds_no_some k ≡ true) × ((holds_no_some t && pairs_hold_no_some ps) ≡ true) =
      λ i. and_parts (holds_no_some k) (holds_no_some t && pairs_hold_no_some ps) (tells i) in
      let told : x.implicit_some ≡ true
      → (holds_no_some t ≡ true) × (pairs_hold_no_some ps ≡ true) = λ i. and_parts (holds_no_some t) (pairs_hold_no_some ps) (told_key i).1 in
      let key = value_layout c x level false 0 k in
      let value = c.separator ++ value_layout c x level false 0 t in (
        record {
          stands = λ next e.
              subst (λ w. Stands (PairsOf room seen) w next (normal c.number_suffixes k, normal c.number_suffixes t)) (append_assoc g key (58 ∷ value))
              (pair_stands room (g ++ key) value (normal c.number_suffixes k) (normal c.number_suffixes t) seen
              (item_stands k a.0 room level g cg width.0 utf8.0 ek.0 (λ i. (told_key i).0) (omega (arith, le)))
              (item_stands t a.1 room level c.separator gaps.separator width.1 utf8.1 et.0 (λ i. (told i).0) (omega (arith, le))) next e);
        },
        all_pairs ps a.2 room level h h ch ch ((normal c.number_suffixes k, normal c.number_suffixes t) ∷ seen) width.2 utf8.2 et.1 (λ i. (told i).1)
            (omega (arith, le)),
      )

  map_stands : (ps : tree.Pairs) → PairsSpelled ps → (room level : ℕ) (next : Text) → PairsInWidth ps → PairsInUtf8 ps → pairs_encodable false (lift_pairs ps)
      ≡ true → (x.implicit_some ≡ true → pairs_hold_no_some ps ≡ true) → 1 + pairs_depth (lift_pairs ps) ≤ room → Ends next
      → Stands (λ _. One x room) (value_layout c x level false 0 (tree.mapping ps)) next (mapped (normal_pairs c.number_suffixes ps))
  unfolding value_layout
  map_stands ps h room level next width utf8 en tells le e =
      let z = spacing c c.compact_maps level in
      let l = inner_level c.compact_maps level in
      let i = is_spacing c gaps c.compact_maps level in
      let t = spaced z (entry_texts c x l ps) in
      let v = mapped (normal_pairs c.number_suffixes ps) in
      let all : Stands (Items (PairsOf room)) t (125 ∷ next) (normal_pairs c.number_suffixes ps) =
      spaced_items (PairsOf room) 125 next (ends_delimiter 125 next refl refl) z i (entry_texts c x l ps) (normal_pairs c.number_suffixes ps)
      (all_pairs ps h room l z.first z.between i.first i.between [] width utf8 en tells le) in
      let content : Stands (λ gap. Needs 1 room (Means (Items (PairsOf room) gap) map_value)) t (125 ∷ next) v =
      stands_needs (omega (arith, le)) (stands_means v map_value refl all) in
      stands_as {L = λ _. Group 123 125 (λ gap. Needs 1 room (Means (Items (PairsOf room) gap) map_value))} v (at_once
      (group 123 125 t next (λ u. skip-other 123 u refl refl) (λ u. skip-other 125 u refl refl) e.1 content)) (λ before t n z. inr (inr (inr (inr (inl z)))))

  -- ---- all values

  mutual
    unfolding value_layout

    pub value_spelled : (t : Tree) → IsSpelledIn t
    value_spelled (tree.boolean b) room level bare next width utf8 en tells le f =
        at_value x room bare f (boolean_value x b room next (may_follow_ends bare next f))
    value_spelled (tree.character a) room level bare next width utf8 en tells le f = at_value x room bare f (stands_as (tree.character a)
        (stands_means (tree.character a) character_value refl (char_literal a next (may_follow_ends bare next f))) (λ before t n z. inl z))
    value_spelled (tree.mapping ps) room level bare next width utf8 en tells le f =
        at_value x room bare f (map_stands ps (pairs_spelled ps) room level next width utf8 en tells le (may_follow_ends bare next f))
    value_spelled (tree.number w n) room level bare next width utf8 en tells le f =
        at_value x room bare f (stands_as (normal c.number_suffixes (tree.number w n))
        (untyped_text_stands c.number_suffixes w n next width (may_follow_ends bare next f)) (λ before t n z. inr (inr (inr (inr (inr (inr (inl z))))))))
    value_spelled tree.none room level bare next width utf8 en tells le f = at_value x room bare f (none_value x room next (may_follow_ends bare next f))
    value_spelled (tree.some t) room level bare next width utf8 en tells le f = some_law t (value_spelled t) room level bare next width utf8 en tells le f
    value_spelled (tree.text bs) room level bare next width utf8 en tells le f = at_value x room bare f (stands_as (tree.text bs) (stands_means (tree.text bs)
        text_value (text_is bs utf8) (string_text_stands c.escape_strings (chars bs) next en (may_follow_ends bare next f))) (λ before t n z. inr (inl z)))
    value_spelled (tree.bytes bs) room level bare next width utf8 en tells le f = at_value x room bare f (stands_as (tree.bytes bs) (stands_means
        (tree.bytes bs) bytes_value refl (bytes_text_stands c.escape_strings bs next en (may_follow_ends bare next f))) (λ before t n z. inr (inr (inl z))))
    value_spelled (tree.sequence ts) room level bare next width utf8 en tells le f =
        at_value x room bare f (list_stands ts (items_spelled ts) room level next width utf8 en tells le (may_follow_ends bare next f))
    value_spelled tree.unit room level bare next width utf8 en tells le f = unit_value_stands x room bare next f

    items_spelled : (ts : tree.Items) → ItemsSpelled ts
    items_spelled tree.no_items = tt
    items_spelled (tree.item_and t ts) = (value_spelled t, items_spelled ts)

    pairs_spelled : (ps : tree.Pairs) → PairsSpelled ps
    pairs_spelled tree.no_pairs = tt
    pairs_spelled (tree.pair_and k t ps) = (value_spelled k, value_spelled t, pairs_spelled ps)
