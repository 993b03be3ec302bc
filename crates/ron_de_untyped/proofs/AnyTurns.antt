-- The reader function of values a step at a time: one equation for each case, for code that reads in the same order.
use Rattle.std.proofs.Common.{◌≡◌, ℕ, zero, suc, ◌≤◌, ◌==◌, Bool, true, false, cond, List, [], ◌∷◌, length, Option, Some, None, codes, encode_utf8_all, refl}
use Rattle.std.proofs.Common.{sym, ap, subst, ◌∙◌, arith, length-append}
use Rattle.std.proofs.lemmas.Bool.{le-leb}
use Rattle.ron_spec_words.specs.Characters.{Text}
use Rattle.ron_spec_words.specs.Gap.{skip, gap_of}
use Rattle.ron_spec_words.specs.Lang.{done}
use Rattle.ron_spec_words.specs.Lookahead.{opens_field, holds_several}
use Rattle.ron_spec_words.specs.Name.{name, Name, untyped_name}
use Rattle.ron_spec_words.specs.Quoted.{char, string, byte_string}
use Rattle.ron_spec_words.specs.Reader.{deep, bad, Got, got, failed, Reader, mark, in_sequence, and_then, given, meant, means}
use Rattle.ron_spec_words.specs.Range.{number_or_range}
use Rattle.ron_spec_words.specs.Runs.{is_at, begins_with}
use Rattle.ron_spec_words.proofs.Gaps.{length-skip}
use Rattle.ron_spec_words.proofs.Names.{word_name}
use Rattle.ron_spec_words.proofs.Room.{shrinks}
use Rattle.ron_spec_words.proofs.Turns.{Shrinks}
use Rattle.ron_value.specs.Tree.{Tree}
use Rattle.ron_value.specs.Tree as tree
use Rattle.ron_spec_grammar.specs.Shapes.Unit.{empty_brackets}
use Rattle.ron_spec_grammar.specs.Values.Trees.{Entry}
use Rattle.ron_spec_grammar.specs.Values.Grammar.{a_character, a_string, a_byte_string, a_list, a_map, a_group, a_number, a_word, form, character_value}
use Rattle.ron_spec_grammar.specs.Values.Grammar.{text_value, bytes_value, unit_value, interval_value, entry_with, read_any, fields_value, map_value}
use Rattle.ron_spec_grammar.proofs.Values.Place.{sound}
use Rattle.ron_de_steps.proofs.StepLemmas.{marked, unmarked, closing, with_last}
use Rattle.ron_de_steps.specs.Steps.{past_mark}
use Rattle.ron_de_untyped.specs.declared.entries.Keys.{Keys}
use Rattle.ron_de_untyped.specs.declared.entries.Keys.TheVariants.{Names, Values}
use Rattle.ron_de_untyped.specs.declared.groups.Brackets as brackets
use Rattle.ron_de_untyped.specs.declared.groups.Brackets.TheVariants as brackets_
use Rattle.ron_de_untyped.specs.Group.{open_mark, close_mark}
use Rattle.ron_de_untyped.specs.Reading.{read_below, read_items, items_value, read_sequence, read_key, read_entry, value_of, read_entries, read_mapping}
use Rattle.ron_de_untyped.specs.Reading.{read_inside, read_group, read_some, read_word}
use Rattle.ron_de_untyped.specs.Words.{fixed_or, some_or, named_or}

module _ (u : Bool) where
  -- ---- one level deeper

  pub below_here : (room : ℕ) (before s : Text) → read_below u (suc room) before s ≡ read_any u room false before s
  unfolding read_below read_any
  below_here room before s = refl

  pub below_deep : (before s : Text) → read_below u 0 before s ≡ failed deep
  unfolding read_below
  below_deep before s = refl

  module _ (room : ℕ) (before s : Text) where
    -- ---- a value, by its form

    pub value_character : form s ≡ a_character → read_any u room false before s ≡ means char character_value s
    unfolding read_any
    value_character e = rw e refl

    pub value_string : form s ≡ a_string → read_any u room false before s ≡ means string text_value s
    unfolding read_any
    value_string e = rw e refl

    pub value_bytes : form s ≡ a_byte_string → read_any u room false before s ≡ means byte_string bytes_value s
    unfolding read_any
    value_bytes e = rw e refl

    pub value_list : form s ≡ a_list → read_any u room false before s ≡ read_group brackets_.List u room s
    unfolding read_any read_group read_inside
    value_list e = rw e refl

    pub value_map : form s ≡ a_map → read_any u room false before s ≡ read_group brackets_.Map u room s
    unfolding read_any read_group read_inside
    value_map e = rw e refl

    pub value_unit : form s ≡ a_group → begins_with (codes "()") s ≡ true → read_any u room false before s ≡ means empty_brackets unit_value s
    unfolding read_any
    value_unit e b = rw (e, b) refl

    pub value_group : form s ≡ a_group → begins_with (codes "()") s ≡ false → read_any u room false before s ≡ read_group brackets_.Group u room s
    unfolding read_any read_group read_inside
    value_group e b = rw (e, b) refl

    pub value_number : form s ≡ a_number → read_any u room false before s ≡ means number_or_range interval_value s
    unfolding read_any
    value_number e = rw e refl

    pub value_word : form s ≡ a_word → read_any u room false before s ≡ read_word u room s
    unfolding read_any read_word
    value_word e = rw e refl

    pub word_is : read_word u room s
        ≡ fixed_or (some_or (read_some u room) (named_or (λ t. read_group brackets_.Group u room t) (means untyped_name unit_value))) s
    unfolding read_word read_some read_group read_inside
    word_is = refl

    -- ---- a bare value

    pub bare_end : is_at 41 s ≡ true → read_any u room true before s ≡ got tree.unit s
    unfolding read_any
    bare_end e = rw e refl

    module _ (e : is_at 41 s ≡ false) where
      pub bare_fields : opens_field s ≡ true → read_any u room true before s ≡ read_mapping Names u room before s
      unfolding read_any read_mapping
      bare_fields f = rw (e, f) refl

      module _ (f : opens_field s ≡ false) where
        pub bare_several : holds_several s ≡ true → read_any u room true before s ≡ read_sequence true u room 41 before s
        unfolding read_any read_sequence
        bare_several g = rw (e, f, g) refl

        pub bare_one : holds_several s ≡ false → read_any u room true before s ≡ with_last (read_any u room false before s)
        unfolding read_any
        bare_one g = rw (e, f, g) refl

    -- ---- what stands in brackets

    pub inside_list : read_inside brackets_.List u room before s ≡ read_sequence false u room 93 before s
    unfolding read_inside read_sequence
    inside_list = refl

    pub inside_map : read_inside brackets_.Map u room before s ≡ read_mapping Values u room before s
    unfolding read_inside read_mapping
    inside_map = refl

    pub inside_fields : opens_field s ≡ true → read_inside brackets_.Group u room before s ≡ read_mapping Names u room before s
    unfolding read_inside read_mapping
    inside_fields f = rw f refl

    pub inside_items : opens_field s ≡ false → read_inside brackets_.Group u room before s ≡ read_sequence false u room 41 before s
    unfolding read_inside read_sequence
    inside_items f = rw f refl

-- ---- brackets

module _ (b : brackets.Brackets) (u : Bool) (room : ℕ) (s : Text) where
  pub group_nowhere : past_mark (open_mark b) s ≡ None → read_group b u room s ≡ failed bad
  unfolding read_group
  group_nowhere e = unmarked (open_mark b) (λ gap. in_sequence (read_inside b u room gap) (λ a _. mark (close_mark b) a)) s e

  pub group_within : (p : Text × Text) → past_mark (open_mark b) s ≡ Some p → read_group b u room s ≡ closing (close_mark b) (read_inside b u room p.0 p.1)
  unfolding read_group
  group_within p e = marked (open_mark b) (λ gap. in_sequence (read_inside b u room gap) (λ a _. mark (close_mark b) a)) s p e

-- ---- items

module _ (several u : Bool) (close : ℕ) (before s : Text) where
  pub sequence_deep : read_sequence several u 0 close before s ≡ failed deep
  unfolding read_sequence
  sequence_deep = refl

  pub sequence_here : (room : ℕ) → read_sequence several u (suc room) close before s ≡ meant (read_items u room close before s) (items_value several)
  unfolding read_sequence read_items read_below
  sequence_here room = rw (le-leb 1 (suc room) (omega arith)) refl

-- ---- keys and values

-- what keys and values make: a map, of one field at least where the keys are names
abbrev pub entries_value : Keys → List Entry → Option Tree
entries_value Names = fields_value
entries_value Values = map_value

module _ (u : Bool) (before s : Text) where
  pub mapping_deep : (keys : Keys) → read_mapping keys u 0 before s ≡ failed deep
  unfolding read_mapping
  mapping_deep keys = refl

  pub mapping_here : (keys : Keys) (room : ℕ) → read_mapping keys u (suc room) before s ≡ meant (read_entries keys u room before s) (entries_value keys)
  unfolding read_mapping read_entries read_entry
  mapping_here Names room = rw (le-leb 1 (suc room) (omega arith)) refl
  mapping_here Values room = rw (le-leb 1 (suc room) (omega arith)) refl

  pub entry_is : (keys : Keys) (room : ℕ)
      → read_entry keys u room before s ≡ and_then (read_key keys u room before s) (λ key _. in_sequence (mark 58 done) (λ _ gap. value_of u room key gap))
  unfolding read_entry read_below
  entry_is Names room = go (name s)
    where
      go : (o : Got Text) → and_then o (λ n _. in_sequence (mark 58 done) (λ _ gap. value_of u room (tree.text (encode_utf8_all n)) gap))
          ≡ and_then (meant o (λ n. Some (tree.text (encode_utf8_all n)))) (λ key _. in_sequence (mark 58 done) (λ _ gap. value_of u room key gap))
      go (got n rest) = refl
      go (failed x) = refl
  entry_is Values room = refl

-- ---- what is answered leaves no more than there was

abbrev pub AtMost : {A : Type 0} → Reader A → Type 0
AtMost {A} r = (s : Text) (a : A) (rest : Text) → r s ≡ got a rest → length rest ≤ length s

at_most_means : {A B : Type 0} (r : Reader A) (f : A → Option B) → AtMost r → AtMost (means r f)
at_most_means {A} {B} r f h s b rest e = go (r s) refl e
  where
    value : (o : Option B) (t : Text) → given o t ≡ got b rest → t ≡ rest
    value None t k = absurd (cc)
    value (Some c) t k = cc

    go : (o : Got A) → r s ≡ o → meant o f ≡ got b rest → length rest ≤ length s
    go (got a t) k q = subst (λ (v : Text). length v ≤ length s) (value (f a) t q) (h s a t k)
    go (failed x) k q = absurd (cc)

at_most_chain : {A B : Type 0} (r : Reader A) (q : A → Text → Reader B) → AtMost r → ((a : A) (gap : Text) → AtMost (q a gap)) → AtMost (in_sequence r q)
at_most_chain {A} {B} r q h k s b rest e = go (r s) refl e
  where
    behind : (a : A) (t : Text) (c : Bool) → cond c (failed bad) (q a (gap_of t) (skip t)) ≡ got b rest → length rest ≤ length t
    behind a t true p = absurd (cc)
    behind a t false p = let le = k a (gap_of t) (skip t) b rest p in omega (arith, le, length-skip t)

    go : (o : Got A) → r s ≡ o → and_then o q ≡ got b rest → length rest ≤ length s
    go (got a t) m p = let le = h s a t m in let more = behind a t (is_at 47 (skip t)) p in omega (arith, le, more)
    go (failed x) m p = absurd (cc)

at_most_mark : {A : Type 0} (c : ℕ) (a : A) → AtMost (mark c a)
at_most_mark c a [] b rest e = absurd (cc)
at_most_mark {A} c a (d ∷ s) b rest e = go (d == c) e
  where
    go : (x : Bool) → cond {A = Got A} x (got a s) (failed bad) ≡ got b rest → length rest ≤ length (d ∷ s)
    go true k = let same : s ≡ rest = cc in omega (arith, ap length same)
    go false k = absurd (cc)

at_most_below : (u : Bool) (room : ℕ) (before : Text) → AtMost (read_below u room before)
at_most_below u zero before s t rest e = absurd (let d = below_deep u before s in cc)
at_most_below u (suc room) before s t rest e = let k = sound u room before s rest t (sym (below_here u room before s) ∙ e) in
    omega (arith, ap length k.split, length-append k.stretch rest)

at_most_key : (keys : Keys) (u : Bool) (room : ℕ) (before : Text) → AtMost (read_key keys u room before)
at_most_key Names u room before = at_most_means name (λ n. Some (tree.text (encode_utf8_all n))) (shrinks name Name word_name.sound)
at_most_key Values u room before = at_most_below u room before

pub below_shrinks : (u : Bool) (room : ℕ) → Shrinks (λ (seen : List Tree). read_below u room)
below_shrinks u room = record { at_most = λ seen before s t rest e. at_most_below u room before s t rest e }

pub entry_shrinks : (keys : Keys) (u : Bool) (room : ℕ) → Shrinks (λ (seen : List Entry). read_entry keys u room)
entry_shrinks keys u room = record {
  at_most = λ seen before s p rest e.
      at_most_chain (read_key keys u room before) (λ key _. in_sequence (mark 58 done) (λ _ gap. value_of u room key gap)) (at_most_key keys u room before)
      (λ key gap. at_most_chain (mark 58 done) (λ _ gap. value_of u room key gap) (at_most_mark 58 done)
      (λ _ gap. at_most_means (read_below u room gap) (entry_with key) (at_most_below u room gap)))
      s p rest (sym (entry_is u before s keys room) ∙ e);
}
