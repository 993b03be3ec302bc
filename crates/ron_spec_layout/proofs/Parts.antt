-- Items, pairs and fields stand, behind any gap, for what they are read back as, from the law of the data in them: for `Spelled`.
use Rattle.std.proofs.Common.{◌≡◌, ℕ, suc, ◌+◌, ◌-◌, ◌≤◌, Bool, true, false, not, ◌&&◌, List, [], ◌∷◌, ◌++◌, length, Some, slice_get, find, refl, sym, ap}
use Rattle.std.proofs.Common.{subst, ◌∙◌, append_assoc, arith}
use Rattle.std.proofs.lemmas.Bool.{and_parts}
use Rattle.std.proofs.lemmas.Option.{same_Some}
use Rattle.unicode_ident.proofs.Computing.{unicode_ident}
use Rattle.ron_spec_words.specs.Characters.{Text}
use Rattle.ron_spec_words.specs.Lang.{Lang, Items}
use Rattle.ron_spec_words.specs.Name.{is_name}
use Rattle.ron_spec_words.proofs.Gaps.{skip-other}
use Rattle.ron_spec_words.proofs.Names.{name_solid}
use Rattle.ron_spec_grammar.specs.Data.{Data, Datas, no_datas, data_and, Pairs, no_pairs, pair_and, Fields, no_fields, field_and}
use Rattle.ron_spec_grammar.specs.Schema.{Field, FieldList, Shape, is_named, names_differ, names_of, in_order, OfShape, AllOfShape, EachOfShape, PairsOfShape}
use Rattle.ron_spec_grammar.specs.Schema.{OfFields}
use Rattle.ron_spec_grammar.specs.Rule.{Extensions}
use Rattle.ron_spec_grammar.specs.Grammar.{Spells}
use Rattle.ron_spec_grammar.specs.Shapes.Map.{pair_with, PairItem}
use Rattle.ron_spec_grammar.specs.Shapes.Tuple.{AtShape}
use Rattle.ron_spec_grammar.specs.Shapes.Struct.{Item, known, item_of, arranged}
use Rattle.ron_spec_layout.specs.Name.{written_name, names_ok, all_names_ok, pair_names_ok, field_names_ok}
use Rattle.ron_spec_layout.specs.Encodable.{is_encodable, items_encodable, pairs_encodable, are_encodable}
use Rattle.ron_spec_layout.specs.Config.{Docs, Config, spacing, inner_level, led_by, item_comment}
use Rattle.ron_spec_layout.specs.Docs.{docs_within, doc_comment}
use Rattle.ron_spec_layout.specs.Layout.{layout_within, layout, numbered_texts, item_texts, pair_texts, field_texts}
use Rattle.ron_spec_layout.specs.Back.{back, numbered_back, items_back, pairs_back, fields_back}
use Rattle.ron_spec_layout.specs.Keeping.{tuple_inside, fields_inside}
use Rattle.ron_spec_layout.proofs.Ample.{ample, items_ample, pairs_ample, fields_ample}
use Rattle.ron_spec_layout.specs.Stand.{StandsFirst, Stands, Ends, MayBeBare, MayFollow}
use Rattle.ron_spec_layout.proofs.Stands.{ends_delimiter, stands_means, at_once, then_stands, stands_then, mark_then}
use Rattle.ron_spec_layout.proofs.Names.{name_spelled}
use Rattle.ron_spec_layout.proofs.Items.{AreItems, spaced_items}
use Rattle.ron_spec_layout.proofs.InOrder.{all_new, AreNewNames, new_names, IsNew, is_new_target}
use Rattle.ron_spec_layout.proofs.Entries.{entries, arranged_entries}
use Rattle.ron_spec_layout.proofs.Containers.{data_list, OfTheirShapes}
use Rattle.ron_spec_layout.proofs.Places.{inner, FieldsOf, not_bare, deeper}
use Rattle.ron_spec_layout.proofs.Closed.{Closed, closed_append, led, AreGaps, closed_comment, closed_doc, DocsEnd, ends_within, is_spacing}

module _ (c : Config) (gaps : AreGaps c) (x : Extensions) (schema : List Shape) where
  abbrev pub Law : Data → Type 0
  Law d = (room i level : ℕ) (docs : Docs) (bare : Bool) (lead next : Text) → DocsEnd c docs → OfShape schema i d → is_encodable x.implicit_some d ≡ true
      → names_ok d ≡ true → ample d ≤ room → MayBeBare x bare → (bare ≡ true → lead ≡ []) → Closed lead → MayFollow bare next
      → Stands (Spells x schema room bare i) (lead ++ layout c x level docs bare d) next (back c x level lead d)

  -- nothing is bare, so any gap may stand before it
  pub any_lead : (lead : Text) → false ≡ true → lead ≡ []
  any_lead lead e = absurd (cc)

  -- an item behind a gap, k + 1 levels down
  item : (k : ℕ) (d : Data) → Law d → (room i level : ℕ) (docs : Docs) (lead : Text) → DocsEnd c docs → OfShape schema i d
      → is_encodable x.implicit_some d ≡ true → names_ok d ≡ true → suc k + ample d ≤ room → Closed lead → (next : Text) → Ends next
      → Stands (inner x schema room k false i) (lead ++ layout c x level docs false d) next (back c x level lead d)
  item k d h room i level docs lead ends o en ok le g next e = deeper x schema k room i false (omega (arith, le))
      (h (room - suc k) i level docs false lead next ends o en ok (omega (arith, le)) (not_bare x schema) (any_lead lead) g e)

  -- ---- items

  abbrev pub AllLaws : Datas → Type 0
  AllLaws no_datas = Unit {0}
  AllLaws (data_and d ds) = Law d × AllLaws ds

  abbrev pub PairLaws : Pairs → Type 0
  PairLaws no_pairs = Unit {0}
  PairLaws (pair_and key d ps) = Law key × Law d × PairLaws ps

  pub numbered_items : (ds : Datas) → AllLaws ds → (room j level k : ℕ) (docs : Docs) (g h : Text) → DocsEnd c docs → Closed g → Closed h → (seen : List Data)
      → AllOfShape schema j ds → items_encodable x.implicit_some ds ≡ true → all_names_ok ds ≡ true → 1 + items_ample ds ≤ room
      → AreItems (λ seen before. inner x schema room 1 false j before) seen (led_by g h (numbered_texts c x level docs k ds))
      (data_list (numbered_back c x level g h k ds))
  unfolding layout_within
  numbered_items no_datas a room j level k docs g h ends cg ch seen o en ok le = tt
  numbered_items (data_and d ds) a room j level k docs g h ends cg ch seen o en ok le =
      let e = and_parts (is_encodable x.implicit_some d) (items_encodable x.implicit_some ds) en in
      let n = and_parts (names_ok d) (all_names_ok ds) ok in
      let comment = item_comment c level k in
      let v = back c x level (g ++ comment) d in (
        record {
          stands = λ next f. subst (λ t. Stands (inner x schema room 1 false j) t next v) (append_assoc g comment (layout c x level docs false d))
              (item 1 d a.0 room j level docs (g ++ comment) ends o.0 e.0 n.0 (omega (arith, le)) (closed_append cg (closed_comment c level k)) next f);
        },
        numbered_items ds a.1 room j level (suc k) docs h h ends ch ch (v ∷ seen) o.1 e.1 n.1 (omega (arith, le)),
      )

  tuple_items : (ds : Datas) → AllLaws ds → (room m level : ℕ) (docs : Docs) (g h : Text) → DocsEnd c docs → Closed g → Closed h
      → (all js : List ℕ) (seen : List Data) → ((n : ℕ) → slice_get all (length seen + n) ≡ slice_get js n) → EachOfShape schema js ds
      → items_encodable x.implicit_some ds ≡ true → all_names_ok ds ≡ true → m + items_ample ds ≤ room
      → AreItems (OfTheirShapes x schema room m all) seen (led_by g h (item_texts c x level docs ds)) (data_list (items_back c x level g h ds))
  unfolding layout_within
  tuple_items no_datas a room m level docs g h ends cg ch all js seen same o en ok le = tt
  tuple_items (data_and d ds) a room m level docs g h ends cg ch all [] seen same o en ok le = absurd o
  tuple_items (data_and d ds) a room m level docs g h ends cg ch all (j ∷ js) seen same o en ok le =
      let e = and_parts (is_encodable x.implicit_some d) (items_encodable x.implicit_some ds) en in
      let n = and_parts (names_ok d) (all_names_ok ds) ok in
      let v = back c x level g d in
      let turn : length seen ≡ length seen + 0 = omega arith in
      let here : slice_get all (length seen) ≡ Some j = ap (slice_get all) turn ∙ same 0 in (
        record {
          stands = λ next f. subst (λ o. Stands (AtShape (inner x schema room m) o) (g ++ layout c x level docs false d) next v) (sym here)
              (item m d a.0 room j level docs g ends o.0 e.0 n.0 (omega (arith, le)) cg next f);
        },
        tuple_items ds a.1 room m level docs h h ends ch ch all js (v ∷ seen) (λ n. ap (slice_get all) (omega arith) ∙ same (suc n)) o.1 e.1 n.1
            (omega (arith, le)),
      )

  pub as_many : (js : List ℕ) (ds : Datas) (level : ℕ) (g h : Text) → EachOfShape schema js ds → length (data_list (items_back c x level g h ds)) ≡ length js
  as_many [] no_datas level g h o = refl
  as_many [] (data_and d ds) level g h o = absurd o
  as_many (j ∷ js) no_datas level g h o = absurd o
  as_many (j ∷ js) (data_and d ds) level g h o = ap suc (as_many js ds level h h o.1)

  pub no_items : (js : List ℕ) (ds : Datas) (level : ℕ) (docs : Docs) → EachOfShape schema js ds → js ≡ [] → tuple_inside c x level docs ds ≡ []
  unfolding layout_within
  no_items js no_datas level docs o e = refl
  no_items [] (data_and d ds) level docs o e = absurd o
  no_items (j ∷ js) (data_and d ds) level docs o e = absurd (cc)

  -- what the items of a tuple are read back as
  abbrev pub inside_back : ℕ → Datas → Datas
  inside_back level ds = items_back c x (inner_level (not c.separate_tuple_members) level) (spacing c (not c.separate_tuple_members) level).first
      (spacing c (not c.separate_tuple_members) level).between ds

  pub tuple_read : (ds : Datas) → AllLaws ds → (room m level : ℕ) (docs : Docs) → DocsEnd c docs → (js : List ℕ) → EachOfShape schema js ds
      → items_encodable x.implicit_some ds ≡ true → all_names_ok ds ≡ true → m + items_ample ds ≤ room → (rest : Text)
      → Stands (Items (OfTheirShapes x schema room m js)) (tuple_inside c x level docs ds) (41 ∷ rest) (data_list (inside_back level ds))
  tuple_read ds a room m level docs ends js o en ok le rest =
      let s = spacing c (not c.separate_tuple_members) level in
      let l = inner_level (not c.separate_tuple_members) level in
      let z = is_spacing c gaps (not c.separate_tuple_members) level in
      let start : (n : ℕ) → slice_get js (0 + n) ≡ slice_get js n = λ n. (let same : 0 + n ≡ n = omega arith in ap (slice_get js) same) in
      spaced_items (OfTheirShapes x schema room m js) 41 rest (ends_delimiter 41 rest refl refl) s z (item_texts c x l docs ds)
      (data_list (inside_back level ds)) (tuple_items ds a room m l docs s.first s.between ends z.first z.between js js [] start o en ok le)

  -- ---- pairs

  abbrev pub PairsOf : ℕ → ℕ → ℕ → List (Data × Data) → Text → Lang (Data × Data)
  PairsOf room k v seen = PairItem k v (inner x schema room 1)

  -- a key, `:` and its value
  pair_stands : (room k v : ℕ) (p q : Text) (a b : Data) (seen : List (Data × Data))
      → ((next : Text) → Ends next → Stands (inner x schema room 1 false k) p next a)
      → ((next : Text) → Ends next → Stands (inner x schema room 1 false v) q next b) → (next : Text) → Ends next
      → Stands (PairsOf room k v seen) (p ++ 58 ∷ q) next (a, b)
  pair_stands room k v p q a b seen h g next e =
      stands_then p (58 ∷ q) next (h (58 ∷ (q ++ next)) (ends_delimiter 58 (q ++ next) refl refl))
      (λ _. mark_then 58 q next (skip-other 58 _ refl refl) (stands_means (a, b) (pair_with a) refl (g next e)))

  pub pair_items : (ps : Pairs) → PairLaws ps → (room k v level : ℕ) (docs : Docs) (g h : Text) → DocsEnd c docs → Closed g → Closed h →
      (seen : List (Data × Data)) → PairsOfShape schema k v ps → pairs_encodable x.implicit_some ps ≡ true → pair_names_ok ps ≡ true → 1 + pairs_ample ps ≤ room
      → AreItems (PairsOf room k v) seen (led_by g h (pair_texts c x level docs ps)) (pairs_back c x level g h ps)
  unfolding layout_within
  pair_items no_pairs a room k v level docs g h ends cg ch seen o en ok le = tt
  pair_items (pair_and key d ps) a room k v level docs g h ends cg ch seen o en ok le =
      let e = and_parts (is_encodable x.implicit_some key) (is_encodable x.implicit_some d && pairs_encodable x.implicit_some ps) en in
      let e2 = and_parts (is_encodable x.implicit_some d) (pairs_encodable x.implicit_some ps) e.1 in
      let n = and_parts (names_ok key) (names_ok d && pair_names_ok ps) ok in
      let n2 = and_parts (names_ok d) (pair_names_ok ps) n.1 in
      let first = back c x level g key in
      let second = back c x level c.separator d in
      let front = layout c x level docs false key in
      let value = c.separator ++ layout c x level docs false d in (
        record {
          stands = λ next f. subst (λ t. Stands (PairsOf room k v seen) t next (first, second)) (append_assoc g front (58 ∷ value))
              (pair_stands room k v (g ++ front) value first second seen (item 1 key a.0 room k level docs g ends o.0 e.0 n.0 (omega (arith, le)) cg)
              (item 1 d a.1 room v level docs c.separator ends o.1 e2.0 n2.0 (omega (arith, le)) gaps.separator) next f);
        },
        pair_items ps a.2 room k v level docs h h ends ch ch ((first, second) ∷ seen) o.2 e2.1 n2.1 (omega (arith, le)),
      )

  -- ---- fields

  abbrev pub FieldLaws : Fields → Type 0
  FieldLaws no_fields = Unit {0}
  FieldLaws (field_and name d fs) = Law d × FieldLaws fs

  field_first : (room k : ℕ) (all : FieldList) (seen : List Item) (f : Field) (name : Text) (v : Data) (value : Text) → name ≡ f.name → IsNew all.fields seen f
      → is_name name ≡ true → (next : Text) → Stands (inner x schema room k false f.shape) value next v
      → StandsFirst (FieldsOf x schema room k all seen []) (written_name name ++ 58 ∷ value) next (name, v)
  unfolding unicode_ident
  field_first room k all seen f name v value called new named next h =
      let spelled = name_spelled name (58 ∷ (value ++ next)) named refl in
      then_stands (written_name name) (58 ∷ value) next (known f) (record { value = name; spelled = spelled; meant = rw called (is_new_target all seen f new) })
      (name_solid.holds (written_name name) (58 ∷ (value ++ next)) name spelled).1
      (at_once (mark_then 58 value next (skip-other 58 _ refl refl) (stands_means (name, v) (item_of f) (ap (λ n. Some (n, v)) (sym called)) h)))

  field_items : (ds : Fields) → FieldLaws ds → (room k level : ℕ) (docs : Docs) (g h : Text) → DocsEnd c docs → Closed g → Closed h
      → (all : FieldList) (seen : List Item) → OfFields schema all.fields ds → AreNewNames all.fields seen (names_of ds)
      → are_encodable x.implicit_some ds ≡ true → field_names_ok ds ≡ true → k + fields_ample ds ≤ room
      → AreItems (FieldsOf x schema room k all) seen (led_by g h (field_texts c x level docs ds)) (entries (fields_back c x level ds))
  unfolding layout_within
  field_items no_fields a room k level docs g h ends cg ch all seen o new en ok le = tt
  field_items (field_and name d ds) a room k level docs g h ends cg ch all seen o new en ok le =
      let n = and_parts (is_name name) (names_ok d && field_names_ok ds) ok in
      let n2 = and_parts (names_ok d) (field_names_ok ds) n.1 in
      let e = and_parts (is_encodable x.implicit_some d) (are_encodable x.implicit_some ds) en in
      let same : o.0 ≡ new.0 = same_Some o.0 new.0 (sym o.1 ∙ ap (λ n. find (is_named n) all.fields) new.1 ∙ new.2.named) in
      let of_shape : OfShape schema new.0.shape d = subst (λ f. OfShape schema f.shape d) same o.2 in
      let v = back c x level c.separator d in
      let doc = doc_comment c level docs name in
      let value = c.separator ++ layout c x level (docs_within docs name) false d in
      let text = written_name name ++ 58 ∷ value in (
        record {
          stands = λ next f. subst (λ t. Stands (FieldsOf x schema room k all seen) t next (name, v)) (append_assoc g doc text)
              (led {L = FieldsOf x schema room k all seen} (closed_append cg (closed_doc c gaps level docs name ends))
              (field_first room k all seen new.0 name v value new.1 new.2 n.0 next (item k d a.0 room new.0.shape level (docs_within docs name) c.separator
              (ends_within c docs name ends) of_shape e.0 n2.0 (omega (arith, le)) gaps.separator next f)));
        },
        field_items ds a.1 room k level docs h h ends ch ch all ((name, v) ∷ seen) o.3 (new.3 v) e.1 n2.1 (omega (arith, le)),
      )

  same_names : (ds : Fields) (level : ℕ) → names_of (fields_back c x level ds) ≡ names_of ds
  same_names no_fields level = refl
  same_names (field_and name d ds) level = ap (λ ns. name ∷ ns) (same_names ds level)

  -- what the fields of a struct are read back as
  abbrev pub struct_back : ℕ → Fields → Fields
  struct_back level ds = fields_back c x (inner_level c.compact_structs level) ds

  pub fields_read : (ds : Fields) → FieldLaws ds → (room k level : ℕ) (docs : Docs) → DocsEnd c docs → (all : FieldList) → OfFields schema all.fields ds
      → names_differ all.fields ≡ true → in_order all.fields (names_of ds) ≡ true → are_encodable x.implicit_some ds ≡ true → field_names_ok ds ≡ true
      → k + fields_ample ds ≤ room → (rest : Text)
      → Stands (Items (FieldsOf x schema room k all)) (fields_inside c x level docs ds) (41 ∷ rest) (entries (struct_back level ds))
  fields_read ds a room k level docs ends all o differ ordered en ok le rest =
      let s = spacing c c.compact_structs level in
      let l = inner_level c.compact_structs level in
      let z = is_spacing c gaps c.compact_structs level in
      let new = new_names all.fields all.fields (names_of ds) [] differ ordered (all_new all.fields differ) in
      spaced_items (FieldsOf x schema room k all) 41 rest (ends_delimiter 41 rest refl refl) s z (field_texts c x l docs ds) (entries (struct_back level ds))
      (field_items ds a room k l docs s.first s.between ends z.first z.between all [] o new en ok le)

  pub arranged_back : (all : FieldList) (ds : Fields) (level : ℕ) → names_differ all.fields ≡ true → in_order all.fields (names_of ds) ≡ true
      → arranged all.fields (entries (struct_back level ds)) ≡ Some (struct_back level ds)
  arranged_back all ds level differ ordered =
      arranged_entries all.fields (struct_back level ds) differ (ap (in_order all.fields) (same_names ds (inner_level c.compact_structs level)) ∙ ordered)
