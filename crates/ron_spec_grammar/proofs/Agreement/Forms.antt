-- Which form a value without a schema has, by how the shape's text begins, and where no field begins: for each shape's agreement.
use Rattle.std.proofs.Common.{◌≡◌, ℕ, true, false, not, List, [], ◌∷◌, ◌++◌, codes, encode_utf8_all, inl, inr, Some, refl, sym, ap, subst, ◌∙◌}
use Rattle.ron_spec_words.specs.Characters.{Text, left_parenthesis, left_bracket, right_bracket, left_brace, right_brace}
use Rattle.ron_spec_words.specs.Runs.{begins_with}
use Rattle.ron_spec_words.specs.Lang.{Lang, done, Means, Or, When, Group, Needs, Items}
use Rattle.ron_spec_words.specs.Name.{Named}
use Rattle.ron_spec_words.specs.AnyInteger.{AnyInteger}
use Rattle.ron_spec_words.specs.Range.{NumberOrRange}
use Rattle.ron_spec_words.specs.Quoted.{Char, String, ByteString}
use Rattle.ron_spec_words.specs.Lookahead.{leads_to, opens_field}
use Rattle.std.specs.Char.{is_ascii_digit}
use Rattle.ron_spec_words.proofs.Words.{First, first_means, first_or, first_when}
use Rattle.ron_spec_words.proofs.Classes.{apart}
use Rattle.ron_spec_words.proofs.Names.{word_name}
use Rattle.ron_spec_words.proofs.Exactly.{first_then, first_mark}
use Rattle.ron_spec_words.proofs.Lookahead.{field_opens}
use Rattle.ron_spec_words.proofs.UntypedWords.{first_any_integer}
use Rattle.ron_value.specs.Tree.{Tree}
use Rattle.ron_value.specs.Tree as tree
use Rattle.ron_spec_grammar.specs.Shapes.Unit.{EmptyBrackets}
use Rattle.ron_spec_grammar.specs.Values.Trees.{Entry}
use Rattle.ron_spec_grammar.specs.Values.Grammar.{Form, a_character, a_string, a_byte_string, a_list, a_map, a_group, a_number, a_word, form, character_value}
use Rattle.ron_spec_grammar.specs.Values.Grammar.{text_value, bytes_value, unit_value, interval_value, list_value, map_value, fields_value, Values, FieldEntry}
use Rattle.ron_spec_grammar.specs.Values.Grammar.{PairEntry, FieldsInside, ItemsInside, RoundGroup, WordValue, OneValue, entry_with}
use Rattle.ron_spec_grammar.proofs.Shapes.Units.{first_empty}
use Rattle.ron_spec_grammar.proofs.Values.Telling.{Starts, items_first, NoColon}
use Rattle.ron_spec_grammar.proofs.Values.Forms.{Is, char_form, string_form, byte_string_form, marks_form, number_form, value_words, fixed_form, name_form}
use Rattle.ron_spec_grammar.proofs.Agreement.Agree.{Agree}

-- ---- by the form

module _ (m : ℕ) (V : ℕ → Values) where
  abbrev pub FormLang : Form → Lang Tree
  FormLang a_character = Means Char character_value
  FormLang a_string = Means String text_value
  FormLang a_byte_string = Means ByteString bytes_value
  FormLang a_list = Group left_bracket right_bracket (λ gap. Needs 1 m (ItemsInside list_value (V 1) gap))
  FormLang a_map = Group left_brace right_brace (λ gap. Needs 1 m (Means (Items (λ _. PairEntry (V 1)) gap) map_value))
  FormLang a_group = Or (Means EmptyBrackets unit_value) (When (λ s. not (begins_with (codes "()") s)) (RoundGroup m (V 1)))
  FormLang a_number = Means NumberOrRange interval_value
  FormLang a_word = WordValue false m V

  group_first : First (Is a_group) (Or (Means EmptyBrackets unit_value) (When (λ s. not (begins_with (codes "()") s)) (RoundGroup m (V 1))))
  group_first = first_or (first_means (first_empty (Is a_group) marks_form.2))
      (first_when (λ s. not (begins_with (codes "()") s)) (first_then (first_mark _ left_parenthesis done marks_form.2)))

  words_first : First (Is a_word) (WordValue false m V)
  words_first = first_or (fixed_form (codes "true") (tree.boolean true) value_words.0) (first_or
      (fixed_form (codes "false") (tree.boolean false) value_words.1) (first_or (fixed_form (codes "None") tree.none value_words.2)
      (first_or (first_then (fixed_form (codes "Some") done value_words.3)) (first_or (first_then name_form) (first_means name_form)))))

  of_form : (t next : Text) (v : Tree) → OneValue false m V t next v → (f : Form) × (form (t ++ next) ≡ f) × FormLang f t next v
  of_form t next v (inl z) = (a_character, char_form.holds t next z.value z.spelled, z)
  of_form t next v (inr (inl z)) = (a_string, string_form.holds t next z.value z.spelled, z)
  of_form t next v (inr (inr (inl z))) = (a_byte_string, byte_string_form.holds t next z.value z.spelled, z)
  of_form t next v (inr (inr (inr (inl z)))) = (a_list, (first_then (first_mark (Is a_list) left_bracket done marks_form.0)).holds t next v z, z)
  of_form t next v (inr (inr (inr (inr (inl z))))) = (a_map, (first_then (first_mark (Is a_map) left_brace done marks_form.1)).holds t next v z, z)
  of_form t next v (inr (inr (inr (inr (inr (inl z)))))) = (a_group, group_first.holds t next v z, z)
  of_form t next v (inr (inr (inr (inr (inr (inr (inl z))))))) = (a_number, number_form.holds t next z.value z.spelled, z)
  of_form t next v (inr (inr (inr (inr (inr (inr (inr z))))))) = (a_word, words_first.holds t next v z, z)

  pub agree_form : {A : Type 0} {L : Lang A} {F : Text → Type 0} {R : A → Tree → Type 0} (f : Form) → First (Is f) L → Agree L (FormLang f) F R
      → Agree L (OneValue false m V) F R
  agree_form f h k = record {
    at = λ t next u other a b e s n z g y o.
        let w = of_form u other b y in
        let same : w.0 ≡ f = sym w.1 ∙ ap form (sym e) ∙ h.holds t next a z in
        k.at t next u other a b e s n z g (subst (λ i. FormLang i u other b) same w.2) o;
  }

pub any_number_form : First (Is a_number) AnyInteger
unfolding form
any_number_form = first_any_integer (Is a_number) (λ s. refl) (λ s. refl) (λ s. refl)
    (λ c s e. rw (
      apart is_ascii_digit 39 c refl e,
      apart is_ascii_digit 34 c refl e,
      apart is_ascii_digit 114 c refl e,
      apart is_ascii_digit 98 c refl e,
      apart is_ascii_digit 91 c refl e,
      apart is_ascii_digit 123 c refl e,
      apart is_ascii_digit 40 c refl e,
      apart is_ascii_digit 46 c refl e,
      e,
    ) refl)

-- ---- fields

pub fields_open : (V : Values) (before : Text) → First (λ s. opens_field s ≡ true) (FieldsInside V before)
fields_open V before = record { holds = λ t next d z. go t next z.value d z.spelled z.meant }
  where
    go : (t next : Text) (ps : List Entry) (d : Tree) → Items (λ _ _. FieldEntry V) before t next ps → fields_value ps ≡ Some d → opens_field (t ++ next) ≡ true
    go t next [] d z e = absurd (cc)
    go t next (p ∷ ps) d z e = items_first (λ _ _. FieldEntry V) (λ s. opens_field s ≡ true) before
        (field_opens (λ n gap. Means (V false gap) (entry_with (tree.text (encode_utf8_all n))))) t next p ps z

pub named_unnamed : (n : Text) → Starts opens_field false (Named n) NoColon
unfolding opens_field
named_unnamed n = record { at = λ t next m z f _. ap (leads_to 58) (word_name.complete t next z.value z.spelled).answer ∙ f }
