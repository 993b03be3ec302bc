-- Structs of fields accept all data of their schemas where the fields do.
use Rattle.std.proofs.Common.{◌≡◌, ℕ, Bool, true, false, ◌&&◌, cond, List, [], ◌∷◌, ◌++◌, length, Some, None, find, slice_get, chars, string_bytes, refl, sym}
use Rattle.std.proofs.Common.{ap, subst, ◌∙◌, arith, rules}
use Rattle.std.proofs.lemmas.Bool.{and_parts}
use Rattle.ron_spec_words.specs.Runs.{same_text}
use Rattle.ron_spec_grammar.specs.Data as plain
use Rattle.ron_spec_grammar.specs.Schema as schema
use Rattle.ron_spec_grammar.specs.Schema.{Shape, struct, only, is_named, names_of, in_order, all_differ, OfShape, OfFields}
use Rattle.ron_spec_grammar.proofs.Finding.{same_self, same_is, other_sym}
use Rattle.ron_data.specs.declared.data.Data.{Data, out-Data, the_lemmas}
use Rattle.ron_data.specs.declared.data.Data.TheOpen.{Data-F}
use Rattle.ron_data.specs.declared.data.Data.TheVariants as held
use Rattle.ron_data.specs.declared.data.VariantData.{VariantData}
use Rattle.ron_data.specs.Datum.{data_view, fields_view}
use Rattle.ron_data_schema.specs.Table.{Table}
use Rattle.ron_types.specs.FieldNames.{Field}
use Rattle.ron_types.specs.Lists.{Each}
use Rattle.ron_types.specs.OfTables.{IsOf}
use Rattle.ron_types.specs.Tables.{put, put_all, root_in, roots_in}
use Rattle.ron_types.proofs.ClosedLemmas.{topped_well_formed}
use Rattle.ron_types.proofs.ListLemmas.{get_last}
use Rattle.ron_types.proofs.StructLemmas.{struct_accepted}
use Rattle.ron_types.proofs.TypeLemmas.{finds_each}
use Rattle.ron_types.specs.Laws.{AcceptsAll, IsFormed}
use Rattle.ron_types.proofs.OutlineLaws.{outline_in, seen, whole_accepts}
use Rattle.ron_types.proofs.PartLaws.{of_part}
use Rattle.ron_types.proofs.RowLaws.{behind, all_closed, all_within, in_turn}
use Rattle.ron_types_fields.specs.Names.{Name, own}
use Rattle.ron_types_fields.specs.Rows.{Part, tables_of, field_of, fields_at, AddsFields}
use Rattle.ron_types_fields.specs.Spelled.{front_of, behind_of}
use Rattle.ron_types_fields.specs.Structs.{MayBeFields, table_of_fields, IsOfFields}
use Rattle.ron_types_fields.proofs.StructLemmas.{fields_may_top, called_at, many_in}
use Rattle.ron_types_fields.specs.FieldLaws.{MaySpell, AreSpelled, AcceptsSpelled, AreFormed}

-- the tables of well-formed parts are
each_formed : (ps : List Part) → AreFormed ps → Each IsFormed (tables_of ps)
each_formed [] h = tt
each_formed (p ∷ ps) h = (h.0, each_formed ps h.1)

-- data of one of them is of its table
of_first : (shapes : List Shape) (t : Table) (ts : List Table) (more : List Shape) → IsFormed t → (d : plain.Data)
    → OfShape (put_all (put shapes t) ts ++ more) (root_in shapes t) d → IsOf t d
of_first shapes t ts more formed d h =
    let b = behind (put shapes t) ts more in
    of_part shapes t b.0 formed d (subst (λ all. OfShape all (root_in shapes t) d) b.1 h)

-- One turn: what stands under the first name is of its part, if anything does, and the fields behind it are of the others.
pub record Turns (all rest : List schema.Field) (table : List Shape) (n : Name) (p : Part) (fs : List Field) : Type 0 where
  pub spelled : MaySpell p (front_of (own n) fs)
  pub order : in_order rest (names_of (fields_view (behind_of (own n) fs))) ≡ true
  pub of : OfFields table all (fields_view (behind_of (own n) fs))

module _ (all rest : List schema.Field) (n : Name) (shapes : List Shape) (p : Part) (ps : List Part) (more : List Shape) (formed : IsFormed p.0) where
  abbrev whole : List Shape
  whole = put_all (put shapes p.0) (tables_of ps) ++ more

  abbrev first : schema.Field
  first = field_of n (root_in shapes p.0) p.1

  -- the first field has the name
  called : (f : Field) (fs : List Field) → same_text (chars (string_bytes f.0)) (own n) ≡ true → find (is_named (own n)) all ≡ Some first
      → in_order (first ∷ rest) (names_of (fields_view (f ∷ fs))) ≡ true → OfFields whole all (fields_view (f ∷ fs)) → Turns all rest whole n p (f ∷ fs)
  called f fs e finds order h =
      let names = names_of (fields_view fs) in
      let same : chars (string_bytes f.0) ≡ own n = same_is (chars (string_bytes f.0)) (own n) e in
      let named : same_text (own n) (chars (string_bytes f.0)) ≡ true = ap (same_text (own n)) same ∙ same_self (own n) in
      let here : find (is_named (chars (string_bytes f.0))) all ≡ Some first = ap (λ m. find (is_named m) all) same ∙ finds in
      let found : find (is_named (chars (string_bytes f.0))) all ≡ Some h.0 = h.1 in
      let is : h.0 ≡ first = cc in
      let shape = subst (λ (x : schema.Field). OfShape whole x.shape (data_view f.1)) is h.2 in
      let front_is : front_of (own n) (f ∷ fs) ≡ Some f.1 = ap (λ b. cond b (Some f.1) None) e in
      let behind_is : behind_of (own n) (f ∷ fs) ≡ fs = ap (λ b. cond b fs (f ∷ fs)) e in
      record {
        spelled = subst (MaySpell p) (sym front_is) (of_first shapes p.0 (tables_of ps) more formed (data_view f.1) shape);
        order = subst (λ (gs : List Field). in_order rest (names_of (fields_view gs)) ≡ true) (sym behind_is)
            (ap (λ b. cond b (in_order rest names) (p.1 && in_order rest (chars (string_bytes f.0) ∷ names))) (sym named) ∙ order);
        of = subst (λ (gs : List Field). OfFields whole all (fields_view gs)) (sym behind_is) h.3;
      }

  -- it has another name: the field of this one is left out
  other : (f : Field) (fs : List Field) → same_text (chars (string_bytes f.0)) (own n) ≡ false
      → in_order (first ∷ rest) (names_of (fields_view (f ∷ fs))) ≡ true → OfFields whole all (fields_view (f ∷ fs)) → Turns all rest whole n p (f ∷ fs)
  other f fs e order h =
      let names = names_of (fields_view fs) in
      let named = other_sym (chars (string_bytes f.0)) (own n) e in
      let both = ap (λ b. cond b (in_order rest names) (p.1 && in_order rest (chars (string_bytes f.0) ∷ names))) (sym named) ∙ order in
      let q = and_parts p.1 (in_order rest (chars (string_bytes f.0) ∷ names)) both in
      let front_is : front_of (own n) (f ∷ fs) ≡ None = ap (λ b. cond b (Some f.1) None) e in
      let behind_is : behind_of (own n) (f ∷ fs) ≡ f ∷ fs = ap (λ b. cond b fs (f ∷ fs)) e in
      record {
        spelled = subst (MaySpell p) (sym front_is) q.0;
        order = subst (λ (gs : List Field). in_order rest (names_of (fields_view gs)) ≡ true) (sym behind_is) q.1;
        of = subst (λ (gs : List Field). OfFields whole all (fields_view gs)) (sym behind_is) h;
      }

  pub turn : find (is_named (own n)) all ≡ Some first → (fs : List Field) → in_order (first ∷ rest) (names_of (fields_view fs)) ≡ true
      → OfFields whole all (fields_view fs) → Turns all rest whole n p fs
  turn finds [] order h = let q = and_parts p.1 (in_order rest []) order in record { spelled = q.0; order = q.1; of = h }
  turn finds (f ∷ fs) order h = go (same_text (chars (string_bytes f.0)) (own n)) refl
    where
      go : (b : Bool) → same_text (chars (string_bytes f.0)) (own n) ≡ b → Turns all rest whole n p (f ∷ fs)
      go true e = called f fs e finds order h
      go false e = other f fs e order h

pub spelled_parts : (all : List schema.Field) (more : List Shape) (names : List Name) (shapes : List Shape) (ps : List Part) → length names ≡ length ps
    → AreFormed ps
    → Each (λ (f : schema.Field). find (is_named f.name) all ≡ Some f) (fields_at names ps (roots_in shapes (tables_of ps)))
    → (fs : List Field) → in_order (fields_at names ps (roots_in shapes (tables_of ps))) (names_of (fields_view fs)) ≡ true
    → OfFields (put_all shapes (tables_of ps) ++ more) all (fields_view fs) → AreSpelled names ps fs
spelled_parts all more [] shapes [] many formed found [] order h = tt
spelled_parts all more [] shapes [] many formed found (f ∷ fs) order h = absurd (cc)
spelled_parts all more [] shapes (p ∷ ps) many formed found fs order h = absurd (omega (arith, many))
spelled_parts all more (n ∷ ns) shapes [] many formed found fs order h = absurd (omega (arith, many))
spelled_parts all more (n ∷ ns) shapes (p ∷ ps) many formed found fs order h =
    let t = turn all (fields_at ns ps (roots_in (put shapes p.0) (tables_of ps))) n shapes p ps more formed.0 found.0 fs order h in
    (t.spelled, spelled_parts all more ns (put shapes p.0) ps (omega (arith, many)) formed.1 found.1 (behind_of (own n) fs) t.order t.of)

module _ (name : List ℕ) (names : List Name) (ps : List Part) (skips : Bool) (P : List Name → List Field → Type 0) (may : MayBeFields name names ps)
    (every : AcceptsSpelled ps P) where
  abbrev all_fields : List schema.Field
  all_fields = fields_at names ps (roots_in [] (tables_of ps))

  abbrev list : schema.FieldList
  list = record { fields = all_fields; skips_unknown = skips }

  abbrev top : Shape
  top = struct (chars name) list

  abbrev table : Table
  table = table_of_fields name names ps skips

  adds_fields : AddsFields names ps [] [] (put_all [] (tables_of ps)) all_fields
  adds_fields = record {
    shapes = refl;
    fields = refl;
    in_range = all_within [] (tables_of ps) (each_formed ps every.formed) (length (put_all [] (tables_of ps))) (omega arith);
    grown = omega arith;
  }

  names_apart' : all_differ (schema.all_names all_fields) ≡ true
  names_apart' = ap all_differ (called_at names ps (roots_in [] (tables_of ps)) (many_in name names ps skips may [])) ∙ may.differ

  struct_accepts : (d : Data) (o : Data-F Data VariantData) → out-Data d ≡ o → struct (chars name) (only []) ≡ outline_in o → IsOf table (seen o)
      → IsOfFields name names P d
  struct_accepts d (Data-F.Data::Struct found fields) at e h =
      let k = subst (λ fs. IsOf table (plain.struct_of (chars (string_bytes found)) fs)) (in_turn fields.items) h in
      let last : slice_get table.shapes (length (put_all [] (tables_of ps))) ≡ Some top = get_last (put_all [] (tables_of ps)) top in
      let stands : slice_get table.shapes (length (put_all [] (tables_of ps))) ≡ Some (struct (chars (string_bytes found)) k.0) = k.1 in
      let same : k.0 ≡ list = cc in
      let named : chars (string_bytes found) ≡ chars name = cc in
      let is : d ≡ held.Struct found fields = search (rules, the_lemmas) in
      let order = subst (λ (l : schema.FieldList). in_order l.fields (names_of (fields_view fields.items)) ≡ true) same k.2 in
      let of = subst (λ (l : schema.FieldList). OfFields table.shapes l.fields (fields_view fields.items)) same k.3 in
      let parts = spelled_parts all_fields (top ∷ []) names [] ps may.as_many every.formed (finds_each all_fields names_apart') fields.items order of in
      struct_accepted (chars name) d found fields is (P names) named (every.accepted names fields.items parts)
  struct_accepts d o at e h = absurd (cc)

  pub structs : AcceptsAll table (IsOfFields name names P)
  structs =
      let formed = topped_well_formed (put_all [] (tables_of ps)) top (all_closed [] (tables_of ps) refl (each_formed ps every.formed))
      (fields_may_top name names ps skips may (put_all [] (tables_of ps)) all_fields adds_fields) in
      whole_accepts table top (IsOfFields name names P) formed (get_last (put_all [] (tables_of ps)) top) struct_accepts
