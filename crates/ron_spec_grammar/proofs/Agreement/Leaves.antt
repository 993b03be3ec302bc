-- Shapes that hold no others agree with what is read without a schema: for `Agreement.Levels`.
use Rattle.std.proofs.Common.{◌≡◌, ℕ, Bool, true, false, ◌&&◌, List, ◌++◌, codes, encode_utf8_all, chars, inl, inr, Option, Some, None, cond, slice_get, refl}
use Rattle.std.proofs.Common.{sym, ap, subst, ◌∙◌}
use Rattle.std.proofs.lemmas.Str.{chars-encodes}
use lib.Utf8.{scalars}
use Rattle.ron_spec_words.specs.Characters.{Text}
use Rattle.ron_spec_words.specs.Lang.{Lang, Means}
use Rattle.ron_spec_words.specs.Exact.{FollowsValue}
use Rattle.ron_spec_words.specs.Directly.{FixedWord}
use Rattle.ron_spec_words.specs.Number.{Numeral, numeral_value}
use Rattle.ron_spec_words.specs.AnyInteger.{AnyInteger}
use Rattle.ron_spec_words.specs.Quoted.{Char, String, ByteString}
use Rattle.ron_spec_words.proofs.Words.{first_means}
use Rattle.ron_value_number.specs.declared.width.Width.{Width}
use Rattle.ron_value_number.specs.declared.width.Width.TheVariants.{U8}
use Rattle.ron_value_number.specs.Width.{fits}
use Rattle.ron_value.specs.Tree.{Tree}
use Rattle.ron_value.specs.Tree as tree
use Rattle.ron_spec_grammar.specs.Data.{Data, bool_of, int_of, char_of, str_of, bytes_of, the_unit, the_none}
use Rattle.ron_spec_grammar.specs.Schema.{Shape, bool, int, char, str, bytes, unit, optional}
use Rattle.ron_spec_grammar.specs.Values.Grammar.{Values, OneValue, a_number, number_tree, interval_value}
use Rattle.ron_spec_grammar.specs.Values.Conversion.{or_itself, boolean_as, character_as, text_as, bytes_as, number_as, unit_as, none_as, byte_of, into}
use Rattle.ron_spec_grammar.specs.Shapes.Bool.{bool_data, Boolean}
use Rattle.ron_spec_grammar.specs.Shapes.Int.{suits, in_width}
use Rattle.ron_spec_grammar.specs.Shapes.Char.{char_data}
use Rattle.ron_spec_grammar.specs.Shapes.Str.{str_data}
use Rattle.ron_spec_grammar.specs.Shapes.Bytes.{bytes_data, natural, as_byte, ByteItem}
use Rattle.ron_spec_grammar.specs.Shapes.Unit.{EmptyBrackets, unit_data}
use Rattle.ron_spec_grammar.specs.Shapes.Option.{NoneText}
use Rattle.ron_spec_grammar.proofs.Agreement.Agree.{Agree, agree_word, agree_within, agree_meant, agree_means}
use Rattle.ron_spec_grammar.proofs.Agreement.Forms.{agree_form, any_number_form}
use Rattle.ron_spec_grammar.proofs.Agreement.Ranges.{agree_one}
use Rattle.ron_spec_grammar.proofs.Agreement.Scalars.{string_scalars}
use Rattle.ron_spec_words.specs.Range.{Interval, NumberOrRange}
use Rattle.ron_spec_words.proofs.Ranges.{word_number_or_range}
use Rattle.ron_spec_grammar.proofs.Values.Forms.{number_form}
use Rattle.ron_spec_grammar.proofs.Finding.{mapped_from}

-- what the value becomes by the shape at an index, if it becomes anything, is the data
abbrev pub Becomes : List Shape → ℕ → Data → Tree → Type 0
Becomes schema i d v = (e : Data) → into schema i v ≡ Some e → e ≡ d

-- what is spelled by a schema is spelled without one, as a value that is related to it
pub agree_spelled : {A B : Type 0} {L : Lang A} {M : Lang B} {F : Text → Type 0} {R : A → B → Type 0} → Agree M M F (λ a b. a ≡ b)
    → ((t next : Text) (a : A) → scalars (t ++ next) ≡ true → L t next a → (b : B) × M t next b × R a b) → Agree L M F R
agree_spelled {R = R} same h = record {
  at = λ t next u other a b e s n z f y g.
      let k = h t next a s z in
      let p = same.at t next u other k.0 b e s n k.1 f y g in
      (p.0, subst (R a) p.1 k.2);
}

some_is : {A : Type 0} (a b c : A) (o : Option A) → Some a ≡ o → o ≡ Some b → Some a ≡ Some c → b ≡ c
some_is a b c o e f g = cc

module _ (m : ℕ) (V : ℕ → Values) where
  abbrev pub OneOf : Lang Tree
  OneOf = OneValue false m V

  pub true_value : (t next : Text) → FixedWord (codes "true") true t next true → OneOf t next (tree.boolean true)
  true_value t next z = inr (inr (inr (inr (inr (inr (inr (inl (record { same = z.same; ends = z.ends; value = refl }))))))))

  pub false_value : (t next : Text) → FixedWord (codes "false") false t next false → OneOf t next (tree.boolean false)
  false_value t next z = inr (inr (inr (inr (inr (inr (inr (inr (inl (record { same = z.same; ends = z.ends; value = refl })))))))))

  module _ (schema : List Shape) (i : ℕ) (same : Agree OneOf OneOf FollowsValue (λ a b. a ≡ b)) where
    pub agree_bool : slice_get schema i ≡ Some bool → Agree (Means Boolean bool_data) OneOf FollowsValue (Becomes schema i)
    agree_bool s = agree_spelled same (λ t next d _ z. go t next d z.value z.spelled z.meant)
      where
        become : (b : Bool) (d : Data) → bool_data b ≡ Some d → Becomes schema i d (tree.boolean b)
        become b d q e r = some_is (bool_of b) e d (into schema i (tree.boolean b)) (sym (ap (λ o. or_itself (tree.boolean b) o (boolean_as b o)) s)) r q

        go : (t next : Text) (d : Data) (b : Bool) → Boolean t next b → bool_data b ≡ Some d → (v : Tree) × OneOf t next v × Becomes schema i d v
        go t next d true (inl z) q = (tree.boolean true, true_value t next z, become true d q)
        go t next d false (inl z) q = absurd (let x : true ≡ false = z.value in cc)
        go t next d true (inr z) q = absurd (let x : false ≡ true = z.value in cc)
        go t next d false (inr z) q = (tree.boolean false, false_value t next z, become false d q)

    pub agree_char : slice_get schema i ≡ Some char → Agree (Means Char char_data) OneOf FollowsValue (Becomes schema i)
    agree_char s = agree_spelled same (λ t next d _ z. (
      tree.character z.value,
      inl (record { value = z.value; spelled = z.spelled; meant = refl }),
      λ e r. some_is (char_of z.value) e d (into schema i (tree.character z.value))
          (sym (ap (λ o. or_itself (tree.character z.value) o (character_as z.value o)) s)) r z.meant,
    ))

    pub agree_str : slice_get schema i ≡ Some str → Agree (Means String str_data) OneOf FollowsValue (Becomes schema i)
    agree_str s = agree_spelled same (λ t next d u z. (
      tree.text (encode_utf8_all z.value),
      inr (inl (record { value = z.value; spelled = z.spelled; meant = refl })),
      λ e r. some_is (str_of z.value) e d (into schema i (tree.text (encode_utf8_all z.value)))
          (sym (ap (λ o. or_itself (tree.text (encode_utf8_all z.value)) o (text_as (chars (encode_utf8_all z.value)) o)) s
          ∙ ap (λ c. Some (str_of c)) (chars-encodes z.value (string_scalars t next z.value u z.spelled)))) r z.meant,
    ))

    pub agree_byte_string : slice_get schema i ≡ Some bytes → Agree (Means ByteString bytes_data) OneOf FollowsValue (Becomes schema i)
    agree_byte_string s = agree_spelled same (λ t next d _ z. (
      tree.bytes z.value,
      inr (inr (inl (record { value = z.value; spelled = z.spelled; meant = refl }))),
      λ e r. some_is (bytes_of z.value) e d (into schema i (tree.bytes z.value)) (sym (ap (λ o. or_itself (tree.bytes z.value) o (bytes_as z.value o)) s)) r
          z.meant,
    ))

    pub agree_unit : slice_get schema i ≡ Some unit → Agree (Means EmptyBrackets unit_data) OneOf FollowsValue (Becomes schema i)
    agree_unit s = agree_spelled same (λ t next d _ z. (
      tree.unit,
      inr (inr (inr (inr (inr (inl (inl (record { value = z.value; spelled = z.spelled; meant = refl }))))))),
      λ e r. some_is the_unit e d (into schema i tree.unit) (sym (ap (λ o. or_itself tree.unit o (unit_as o)) s)) r z.meant,
    ))

    pub agree_none : (j : ℕ) → slice_get schema i ≡ Some (optional j) → Agree NoneText OneOf FollowsValue (Becomes schema i)
    agree_none j s = agree_spelled same (λ t next d _ z. (
      tree.none,
      inr (inr (inr (inr (inr (inr (inr (inr (inr (inl (record { same = z.spelled.same; ends = z.spelled.ends; value = refl })))))))))),
      λ e r. some_is the_none e d (into schema i tree.none) (sym (ap (λ o. or_itself tree.none o (none_as o)) s)) r z.meant,
    ))

  -- ---- numbers

  module _ {C : Type 0} (f : Numeral → Option C) (R : C → Tree → Type 0)
      (h : (n : Numeral) (c : C) (w : Width) → f n ≡ Some c → R c (tree.number w (numeral_value n))) where
    number_made : (k n : Numeral) (c : C) (v : Tree) → k ≡ n → f k ≡ Some c → number_tree n ≡ Some v → R c v
    number_made k n c v e q r = let w = mapped_from (λ w. tree.number w (numeral_value n)) _ v r in subst (R c) w.2 (h n c w.0 (ap f (sym e) ∙ q))

    pub agree_number : Agree (Means AnyInteger f) OneOf FollowsValue R
    agree_number = agree_form m V a_number (first_means any_number_form)
        (agree_meant {R = λ k v. (c : C) → f k ≡ Some c → R c v} f (λ k v c r q. r c q)
        (agree_means interval_value (λ k z v e r c q. number_made k k c v refl q (ap interval_value (sym e) ∙ r)) agree_one))

  -- a number or a range by a schema, where whatever they make becomes what their value does
  pub agree_interval : {C : Type 0} (f : Interval → Option C) (R : C → Tree → Type 0)
      → ((z : Interval) (c : C) (v : Tree) → f z ≡ Some c → interval_value z ≡ Some v → R c v) → Agree (Means NumberOrRange f) OneOf FollowsValue R
  agree_interval {C} f R h = agree_form m V a_number (first_means number_form)
      (agree_meant {R = λ k v. (c : C) → f k ≡ Some c → R c v} f (λ k v c r q. r c q)
      (agree_means interval_value (λ k z v e r c q. h k c v q (ap interval_value e ∙ r)) (agree_word word_number_or_range)))

  fits_both : {A : Type 0} (a b : Bool) (x y : A) (o p : Option A) → cond (a && b) o None ≡ Some x → cond b p None ≡ Some y → (o ≡ Some x) × (p ≡ Some y)
  fits_both true true x y o p e f = (e, f)
  fits_both false b x y o p e f = absurd (cc)
  fits_both true false x y o p e f = absurd (cc)

  same_some : {A : Type 0} (a b : A) (o : Option A) → o ≡ Some a → o ≡ Some b → b ≡ a
  same_some a b o e f = cc

  pub agree_int : (schema : List Shape) (i : ℕ) (w : Width) → slice_get schema i ≡ Some (int w)
      → Agree (Means AnyInteger (in_width w)) OneOf FollowsValue (Becomes schema i)
  agree_int schema i w s = agree_number (in_width w) (Becomes schema i) (λ n d v q e r.
      (let p = fits_both (suits w n.suffix) (fits w (numeral_value n)) d e (Some (int_of w (numeral_value n))) (Some (int_of w (numeral_value n))) q
      (sym (ap (λ o. or_itself (tree.number v (numeral_value n)) o (number_as (numeral_value n) o)) s) ∙ r) in
      same_some d e (Some (int_of w (numeral_value n))) p.0 p.1))

  -- a byte, where the value is one
  abbrev pub IsByte : ℕ → Tree → Type 0
  IsByte b v = (c : ℕ) → byte_of v ≡ Some c → c ≡ b

  pub agree_byte : (room : ℕ) → Agree (ByteItem room) OneOf FollowsValue IsByte
  agree_byte room = agree_within (λ t next a z. z.1) (λ t next b z. z) (agree_number as_byte IsByte (λ n b v q c r.
      (let p = fits_both (suits U8 n.suffix) (fits U8 (numeral_value n)) b c (natural (numeral_value n)) (natural (numeral_value n)) q r in
      same_some b c (natural (numeral_value n)) p.0 p.1)))
