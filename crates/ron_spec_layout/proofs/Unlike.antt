-- What is written of data around which no Some is written out begins with neither `None` nor `Some`.
use Rattle.std.proofs.Common.{◌≡◌, ℕ, ◌==◌, Bool, true, false, not, ◌&&◌, ◌||◌, cond, List, [], ◌∷◌, ◌++◌, codes, chars, refl, sym, ap, subst, ◌∙◌}
use Rattle.std.proofs.Common.{append_assoc}
use Rattle.std.specs.List.{flat_map, list_all}
use Rattle.std.specs.Str.{is_utf8}
use Rattle.std.proofs.lemmas.Bool.{and_parts, or_parts, not-true, cond_both}
use Rattle.unicode_ident.proofs.Computing.{unicode_ident}
use Rattle.ron_spec_words.specs.Characters.{Text, starts_name, continues_name}
use Rattle.ron_spec_words.specs.Runs.{Every, run_of, same_text, begins}
use Rattle.ron_spec_words.specs.Gap.{skip}
use Rattle.ron_spec_words.specs.Name.{is_plain_identifier}
use Rattle.ron_spec_words.specs.Directly.{stands}
use Rattle.ron_spec_words.proofs.Gaps.{skip-other}
use Rattle.ron_spec_words.proofs.Words.{run-append}
use Rattle.ron_spec_words.proofs.Direct.{stands-run}
use Rattle.ron_spec_words.proofs.Classes.{solid_name}
use Rattle.ron_spec_words.proofs.TokenRuns.{every_of}
use Rattle.ron_value.specs.Tree.{Tree}
use Rattle.ron_value.specs.Tree as tree
use Rattle.ron_spec_grammar.specs.Data.{Data, bool_of, int_of, char_of, str_of, bytes_of, the_unit, the_none, some_of, unit_struct_of, list_of, tuple_of}
use Rattle.ron_spec_grammar.specs.Data.{tuple_struct_of, map_of, newtype_of, struct_of, unit_variant_of, newtype_variant_of, tuple_variant_of}
use Rattle.ron_spec_grammar.specs.Data.{struct_variant_of, value_of, Datas, Fields, no_fields, field_and, raw_of}
use Rattle.ron_spec_grammar.specs.Rule.{Extensions}
use Rattle.ron_spec_layout.specs.Name.{is_plain_name, written_name}
use Rattle.ron_spec_layout.specs.Brackets.{bracketed, opens_as_option, tuple_text, unit_struct_text, behind_name}
use Rattle.ron_spec_layout.specs.Layout.{layout, value_layout, layout_within, field_texts, colon}
use Rattle.ron_spec_layout.specs.Literals.{written_char}
use Rattle.ron_spec_layout.specs.Stand.{MayFollow}
use Rattle.ron_spec_layout.specs.Keeping.{value_keeps, keeps, tuple_inside, fields_inside}
use Rattle.ron_spec_layout.specs.Config.{Docs, Config, spacing, inner_level, led_by}
use Rattle.ron_spec_layout.specs.Docs.{docs_within, doc_comment}
use Rattle.ron_spec_layout.specs.Unescaped.{needs_raw, string_text, bytes_text}
use Rattle.ron_spec_layout.proofs.Names.{first_continues}
use Rattle.ron_spec_layout.proofs.Stands.{ends_delimiter, may_follow_ends}
use Rattle.ron_spec_layout.proofs.Integers.{ends_name}
use Rattle.ron_spec_layout.proofs.Guard.{none_every, some_every, option-bracket, other_mark}
use Rattle.ron_spec_layout.proofs.Keeping.{layout-some, some_laid, value_dropped, dropped}
use Rattle.ron_spec_layout.proofs.CompactRanges.{suffixed_no_option, range_no_option}
use Rattle.ron_spec_layout.proofs.Closed.{Closed, closed_append, skip-closed, AreGaps, DocsEnd, closed_doc, is_spacing}

-- ---- names

plain_every : (n : Text) → is_plain_identifier n ≡ true → Every continues_name n
plain_every [] h = tt
plain_every (c ∷ n) h = let k = and_parts (starts_name c) (list_all continues_name n) h in (first_continues c k.0, every_of continues_name n k.1)

plain_solid : (n s : Text) → is_plain_identifier n ≡ true → skip (n ++ s) ≡ n ++ s
plain_solid [] s h = absurd (cc)
plain_solid (c ∷ n) s h = (solid_name c (n ++ s) (and_parts (starts_name c) (list_all continues_name n) h).0).1

pub name_no_option : (n s : Text) → begins continues_name s ≡ false → opens_as_option (written_name n ++ s) ≡ false
unfolding is_plain_name
name_no_option n s e = go (is_plain_name n) refl
  where
    go : (b : Bool) → is_plain_name n ≡ b → opens_as_option (cond b n (codes "r#" ++ n) ++ s) ≡ false
    go false k = other_mark 114 (35 ∷ (n ++ s)) (skip-other 114 (35 ∷ (n ++ s)) refl refl) refl refl
    go true k =
        let parts = and_parts (is_plain_identifier n) _ k in
        let run : run_of continues_name (n ++ s) ≡ n = run-append continues_name n s (plain_every n parts.0) e in
        let words = or_parts (same_text n (codes "true")) _ (not-true _ parts.1) in
        let no_false = or_parts (same_text n (codes "false")) _ words.1 in
        let no_some = or_parts (same_text n (codes "Some")) _ no_false.1 in
        let no_none = or_parts (same_text n (codes "None")) _ no_some.1 in
        rw (plain_solid n s parts.0, stands-run (codes "None") (n ++ s) none_every, stands-run (codes "Some") (n ++ s) some_every, run, no_none.0, no_some.0)
        refl

-- ---- the first characters of the other texts

pub char_no_option : (c : ℕ) (next : Text) → opens_as_option (written_char c ++ next) ≡ false
char_no_option c next =
    cond_both ((c == 92) || (c == 39)) (codes "'\\" ++ (c ∷ codes "'")) (codes "'" ++ (c ∷ codes "'")) (λ t. opens_as_option (t ++ next) ≡ false)
    (λ e. other_mark 39 _ (skip-other 39 _ refl refl) refl refl) (λ e. other_mark 39 _ (skip-other 39 _ refl refl) refl refl)

pub close_no_option : (next : Text) → opens_as_option (41 ∷ next) ≡ false
close_no_option next = other_mark 41 next (skip-other 41 next refl refl) refl refl

pub open_no_option : (next : Text) → opens_as_option (40 ∷ next) ≡ false
open_no_option next = other_mark 40 next (skip-other 40 next refl refl) refl refl

bracket_ends : (next : Text) → begins continues_name (40 ∷ next) ≡ false
unfolding unicode_ident
bracket_ends next = refl

-- behind its name or not, what stands in round brackets
pub named_no_option : (required : Bool) (name t next : Text) → opens_as_option (behind_name required false name (bracketed false t) ++ next) ≡ false
named_no_option false name t next = open_no_option ((t ++ codes ")") ++ next)
named_no_option true name t next = rw (append_assoc (written_name name) (40 ∷ (t ++ codes ")")) next)
    (name_no_option name (40 ∷ ((t ++ codes ")") ++ next)) (bracket_ends ((t ++ codes ")") ++ next)))

pub unit_struct_no_option : (required bare : Bool) (name next : Text) → MayFollow bare next
    → opens_as_option (unit_struct_text required bare name ++ next) ≡ false
unit_struct_no_option required true name next f = rw f.1 (close_no_option f.0)
unit_struct_no_option false false name next f = open_no_option (41 ∷ next)
unit_struct_no_option true false name next f = name_no_option name next (ends_name next f)

-- ---- literals

string_no_option : (escape : Bool) (t next : Text) → opens_as_option (string_text escape t ++ next) ≡ false
string_no_option true t next = other_mark 34 _ (skip-other 34 _ refl refl) refl refl
string_no_option false t next = cond_both (needs_raw t) _ _ (λ u. opens_as_option (u ++ next) ≡ false)
    (λ _. other_mark 114 _ (skip-other 114 _ refl refl) refl refl) (λ _. other_mark 34 _ (skip-other 34 _ refl refl) refl refl)

bytes_no_option : (escape : Bool) (bs : List ℕ) (next : Text) → opens_as_option (bytes_text escape bs ++ next) ≡ false
bytes_no_option escape bs next = cond_both (escape || not (is_utf8 bs)) _ _ (λ t. opens_as_option (t ++ next) ≡ false)
    (λ _. other_mark 98 _ (skip-other 98 _ refl refl) refl refl) (λ _. other_mark 98 _ (skip-other 98 _ refl refl) refl refl)

module _ (c : Config) (gaps : AreGaps c) (x : Extensions) (level : ℕ) (docs : Docs) (implicit : x.implicit_some ≡ true) where
  fields_no_option : DocsEnd c docs → (fields : Fields) (rest : Text) → opens_as_option (fields_inside c x level docs fields ++ 41 ∷ rest) ≡ false
  unfolding layout_within
  fields_no_option ends no_fields rest = close_no_option rest
  fields_no_option ends (field_and name d fields) rest =
      let s = spacing c c.compact_structs level in
      let l = inner_level c.compact_structs level in
      let doc = doc_comment c l docs name in
      let value = colon c ++ layout c x l (docs_within docs name) false d in
      let more = flat_map (λ t. codes "," ++ t) (led_by s.between s.between (field_texts c x l docs fields)) in
      let tail = 58 ∷ ((((c.separator ++ layout c x l (docs_within docs name) false d) ++ more) ++ s.last) ++ 41 ∷ rest) in
      let z = is_spacing c gaps c.compact_structs level in
      let front : Closed (s.first ++ doc) = closed_append z.first (closed_doc c gaps l docs name ends) in
      let shape : fields_inside c x level docs (field_and name d fields) ++ 41 ∷ rest ≡ (s.first ++ doc) ++ (written_name name ++ tail) =
      ap (λ u. ((u ++ more) ++ s.last) ++ 41 ∷ rest)
      (sym (append_assoc s.first doc (written_name name ++ value)) ∙ sym (append_assoc (s.first ++ doc) (written_name name) value))
      ∙ ap (λ u. (u ++ s.last) ++ 41 ∷ rest) (append_assoc ((s.first ++ doc) ++ written_name name) value more)
      ∙ ap (λ u. u ++ 41 ∷ rest) (append_assoc ((s.first ++ doc) ++ written_name name) (value ++ more) s.last)
      ∙ append_assoc ((s.first ++ doc) ++ written_name name) ((value ++ more) ++ s.last) (41 ∷ rest) ∙ append_assoc (s.first ++ doc) (written_name name) tail in
      ap opens_as_option shape ∙ ap (λ u. stands (codes "None") u || stands (codes "Some") u) (skip-closed front (written_name name ++ tail))
      ∙ name_no_option name tail
      (ends_name tail (ends_delimiter 58 ((((c.separator ++ layout c x l (docs_within docs name) false d) ++ more) ++ s.last) ++ 41 ∷ rest) refl refl))

  -- a bare tuple
  module _ (ds : Datas) (next : Text) (f : MayFollow true next) (h : opens_as_option (tuple_inside c x level docs ds) ≡ false) where
    tuple_no_option : skip (tuple_text true 0 (tuple_inside c x level docs ds) ++ next) ≡ skip (tuple_text true 0 (tuple_inside c x level docs ds)) ++ next
        → opens_as_option (tuple_text true 0 (tuple_inside c x level docs ds) ++ next) ≡ false
    tuple_no_option clear =
        let t = tuple_inside c x level docs ds in
        let same : tuple_text true 0 t ≡ t = rw h refl in
        let e : skip (t ++ next) ≡ skip t ++ next = subst (λ u. skip (u ++ next) ≡ skip u ++ next) same clear in
        ap (λ u. opens_as_option (u ++ next)) same ∙ ap (λ n. opens_as_option (t ++ n)) f.1 ∙ option-bracket t f.0 (rw f.1 at e) ∙ h

  -- where the text is bare, a gap at its front is one before what follows
  abbrev pub IsClear : Bool → Text → Text → Type 0
  IsClear bare t next = bare ≡ true → skip (t ++ next) ≡ skip t ++ next

  value_not_kept : (t : Tree) (bare : Bool) (next : Text) → value_keeps t ≡ false → MayFollow bare next
      → opens_as_option (value_layout c x level bare 0 t ++ next) ≡ false
  unfolding value_layout
  value_not_kept (tree.boolean true) bare next h f = other_mark 116 _ (skip-other 116 _ refl refl) refl refl
  value_not_kept (tree.boolean false) bare next h f = other_mark 102 _ (skip-other 102 _ refl refl) refl refl
  value_not_kept (tree.character c) bare next h f = char_no_option c next
  value_not_kept (tree.mapping ps) bare next h f = other_mark 123 _ (skip-other 123 _ refl refl) refl refl
  value_not_kept (tree.number w n) bare next h f = suffixed_no_option c.number_suffixes w n next
  value_not_kept tree.none bare next h f = absurd (cc)
  value_not_kept (tree.some t) bare next h f = ap (λ s. opens_as_option (s ++ next))
      (some_laid c x level docs implicit bare 0 t ∙ value_dropped c x level docs implicit t bare 1 h) ∙ value_not_kept t bare next h f
  value_not_kept (tree.text bs) bare next h f = string_no_option c.escape_strings (chars bs) next
  value_not_kept (tree.bytes bs) bare next h f = bytes_no_option c.escape_strings bs next
  value_not_kept (tree.sequence ts) bare next h f = other_mark 91 _ (skip-other 91 _ refl refl) refl refl
  value_not_kept tree.unit false next h f = open_no_option (41 ∷ next)
  value_not_kept tree.unit true next h f = rw f.1 (close_no_option f.0)

  pub not_kept : (d : Data) (bare : Bool) (next : Text) → keeps c x level docs bare d ≡ false → MayFollow bare next
      → IsClear bare (layout c x level docs bare d) next → (bare ≡ true → DocsEnd c docs) → opens_as_option (layout c x level docs bare d ++ next) ≡ false
  unfolding layout_within
  not_kept (bool_of true) bare next h f clear ends = other_mark 116 _ (skip-other 116 _ refl refl) refl refl
  not_kept (bool_of false) bare next h f clear ends = other_mark 102 _ (skip-other 102 _ refl refl) refl refl
  not_kept (int_of w n) bare next h f clear ends = suffixed_no_option c.number_suffixes w n next
  not_kept (char_of c) bare next h f clear ends = char_no_option c next
  not_kept (str_of t) bare next h f clear ends = string_no_option c.escape_strings t next
  not_kept (bytes_of bs) bare next h f clear ends = bytes_no_option c.escape_strings bs next
  not_kept the_unit false next h f clear ends = open_no_option (41 ∷ next)
  not_kept the_unit true next h f clear ends = rw f.1 (close_no_option f.0)
  not_kept the_none bare next h f clear ends = absurd (cc)
  not_kept (some_of d) bare next h f clear ends =
      let same : layout c x level docs bare (some_of d) ≡ layout c x level docs bare d =
      layout-some c x level docs implicit bare 0 d ∙ dropped c x level docs implicit d bare 1 h in
      ap (λ t. opens_as_option (t ++ next)) same ∙ not_kept d bare next h f (λ e. subst (λ t. skip (t ++ next) ≡ skip t ++ next) same (clear e)) ends
  not_kept (unit_struct_of name) bare next h f clear ends =
      range_no_option c (unit_struct_of name) _ next (unit_struct_no_option (c.struct_names || x.explicit_struct_names) bare name next f)
  not_kept (list_of ds) bare next h f clear ends = other_mark 91 _ (skip-other 91 _ refl refl) refl refl
  not_kept (tuple_of ds) false next h f clear ends = open_no_option _
  not_kept (tuple_of ds) true next h f clear ends = tuple_no_option ds next f h (clear refl)
  not_kept (tuple_struct_of name ds) false next h f clear ends =
      named_no_option (c.struct_names || x.explicit_struct_names) name (tuple_inside c x level docs ds) next
  not_kept (tuple_struct_of name ds) true next h f clear ends = tuple_no_option ds next f h (clear refl)
  not_kept (map_of ps) bare next h f clear ends = other_mark 123 _ (skip-other 123 _ refl refl) refl refl
  not_kept (newtype_of name d) bare next h f clear ends =
      go (bare || x.unwrap_newtypes) h (λ z. not_kept d false next z (may_follow_ends bare next f) (λ e. absurd (cc)) (λ e. absurd (cc)))
      (named_no_option (c.struct_names || x.explicit_struct_names) name (layout c x level docs false d) next)
    where
      wrapped : Text
      wrapped = behind_name (c.struct_names || x.explicit_struct_names) false name (bracketed false (layout c x level docs false d))

      go : (b : Bool) → (b && keeps c x level docs false d) ≡ false
          → (keeps c x level docs false d ≡ false → opens_as_option (layout c x level docs false d ++ next) ≡ false) → opens_as_option (wrapped ++ next) ≡ false
          → opens_as_option (cond b (layout c x level docs false d) wrapped ++ next) ≡ false
      go true k rest whole = rest k
      go false k rest whole = whole
  not_kept (struct_of name ds) false next h f clear ends =
      range_no_option c (struct_of name ds) _ next (named_no_option (c.struct_names || x.explicit_struct_names) name (fields_inside c x level docs ds) next)
  not_kept (struct_of name ds) true next h f clear ends = range_no_option c (struct_of name ds) _ next (rw f.1 (fields_no_option (ends refl) ds f.0))
  not_kept (unit_variant_of name v) bare next h f clear ends = name_no_option v next (ends_name next (may_follow_ends bare next f))
  not_kept (newtype_variant_of name v d) bare next h f clear ends = named_no_option true v (layout c x level docs x.unwrap_variant_newtypes d) next
  not_kept (tuple_variant_of name v ds) bare next h f clear ends = named_no_option true v (tuple_inside c x level docs ds) next
  not_kept (struct_variant_of name v ds) bare next h f clear ends = named_no_option true v (fields_inside c x level docs ds) next
  not_kept (raw_of t) bare next h f clear ends = absurd (cc)
  not_kept (value_of t) bare next h f clear ends = value_not_kept t bare next h f
