-- What is known of data that is written as a range: for `ranges.rt`, and for code that writes such data.
use Rattle.std.proofs.Common.{◌≡◌, ◌==◌, Bool, true, false, ◌&&◌, cond, List, [], ◌∷◌, ◌++◌, length, codes, encode_utf8_all, Option, Some, None, refl, ap, ap₂}
use Rattle.std.proofs.Common.{subst, ◌∙◌}
use Rattle.std.specs.Prelude.{String}
use Rattle.std.specs.declared.alloc.Global.{Global}
use Rattle.std.specs.Option.{option_or}
use Rattle.std.proofs.lemmas.Bool.{and_parts}
use Rattle.std.proofs.lemmas.Str.{encodes-append}
use Rattle.ron_spec_words.specs.Characters.{Text}
use Rattle.ron_spec_words.specs.Name.{is_name}
use Rattle.ron_spec_words.specs.Runs.{same_text}
use Rattle.ron_value.specs.Tree as tree
use Rattle.ron_spec_grammar.specs.Data.{Data, int_of, unit_struct_of, struct_of, value_of, Fields, no_fields, field_and}
use Rattle.ron_spec_grammar.specs.Shapes.Range.{spans, reaches, starts}
use Rattle.ron_spec_grammar.proofs.Finding.{same_is, cond_parts}
use Rattle.ron_spec_layout.specs.Name.{names_ok, first_refused, field_names_ok, first_refused_of}
use Rattle.ron_spec_layout.specs.Encodable.{is_encodable, are_encodable}
use Rattle.ron_spec_layout.specs.Literals.{number_text}
use Rattle.ron_spec_layout.specs.Ranges.{bound_text, dots_text, around_dots, fields_range, range_text}
use Rattle.ron_spec_layout.proofs.Bytes.{ascii_text}
use Rattle.ron_spec_layout.proofs.Bytes.{bytes-number}
use Rattle.ron_spec_layout.proofs.Computing.{laying}
use Rattle.ron_data.specs.declared.data.Data as held
use Rattle.ron_data.specs.Datum.{fields_view}

-- ---- fields

-- three fields or more
pub many_none : (s : Bool) (name : Text) (f : String Global × held.Data) (rest : List (String Global × held.Data)) → (length rest == 0) ≡ false
    → (length rest ≡ 1 → ⊥) → None ≡ range_text s (struct_of name (fields_view (f ∷ rest)))
many_none s name f [] h k = absurd (cc)
many_none s name f (g ∷ []) h k = absurd (k refl)
many_none s name f (g ∷ i ∷ rest) h k = refl

-- ---- what is known of a range

-- The names in the data can be written, code can hold it, and the text is ASCII.
pub record IsPlainRange (d : Data) (t : Text) : Type 0 where
  pub names : names_ok d ≡ true
  pub clear : first_refused d ≡ None
  pub encodable : is_encodable false d ≡ true
  pub bytes : encode_utf8_all t ≡ t

-- likewise of fields
record ArePlain (ds : Fields) : Type 0 where
  names : field_names_ok ds ≡ true
  clear : first_refused_of ds ≡ None
  encodable : are_encodable false ds ≡ true

plain_bound : (s : Bool) (d : Data) (t : Text) → bound_text s d ≡ Some t → IsPlainRange d t
plain_bound s (int_of w n) t e = record {
  names = refl;
  clear = refl;
  encodable = refl;
  bytes = subst (λ t. encode_utf8_all t ≡ t) (let k : ◌≡◌ {A = Option Text} (Some (number_text s w n)) (Some t) = e in cc) (bytes-number s w n);
}
plain_bound s (value_of (tree.number w n)) t e = record {
  names = refl;
  clear = refl;
  encodable = refl;
  bytes = subst (λ t. encode_utf8_all t ≡ t) (let k : ◌≡◌ {A = Option Text} (Some (number_text s w n)) (Some t) = e in cc) (bytes-number s w n);
}
plain_bound s _ t e = absurd (cc)

plain_none : ArePlain no_fields
plain_none = record { names = refl; clear = refl; encodable = refl }

plain_and : (a t : Text) (d : Data) (ds : Fields) → is_name a ≡ true → IsPlainRange d t → ArePlain ds → ArePlain (field_and a d ds)
plain_and a t d ds h k l = record { names = rw (h, k.names) l.names; clear = rw (h, k.clear) l.clear; encodable = rw k.encodable l.encodable }

plain_struct : (name t : Text) (ds : Fields) → is_name name ≡ true → ArePlain ds → encode_utf8_all t ≡ t → IsPlainRange (struct_of name ds) t
plain_struct name t ds h k e = record { names = rw h k.names; clear = rw h k.clear; encodable = k.encodable; bytes = e }

-- a text around points
record IsAround (closed : Bool) (o p : Option Text) (t : Text) : Type 0 where
  left : Text
  right : Text
  is_left : o ≡ Some left
  is_right : p ≡ Some right
  is : left ++ (dots_text closed ++ right) ≡ t

around : (closed : Bool) (o p : Option Text) (t : Text) → around_dots closed o p ≡ Some t → IsAround closed o p t
around closed None p t e = absurd (cc)
around closed (Some l) None t e = absurd (cc)
around closed (Some l) (Some r) t e = record { left = l; right = r; is_left = refl; is_right = refl; is = cc }

dots_bytes : (closed : Bool) → encode_utf8_all (dots_text closed) ≡ dots_text closed
dots_bytes true = ascii_text (codes "..=") refl
dots_bytes false = ascii_text (codes "..") refl

around_bytes : (closed : Bool) (o p : Option Text) (t : Text) (k : IsAround closed o p t) → encode_utf8_all k.left ≡ k.left → encode_utf8_all k.right ≡ k.right
    → encode_utf8_all t ≡ t
around_bytes closed o p t k h l = subst (λ t. encode_utf8_all t ≡ t) k.is (encodes-append k.left (dots_text closed ++ k.right)
    ∙ ap₂ (λ a b. a ++ b) h (encodes-append (dots_text closed) k.right ∙ ap₂ (λ a b. a ++ b) (dots_bytes closed) l))

no_text : (t : Text) → ◌≡◌ {A = Option Text} (Some []) (Some t) → encode_utf8_all t ≡ t
no_text t e = subst (λ t. encode_utf8_all t ≡ t) (let k : [] ≡ t = cc in k) refl

called : (n a : Text) → same_text n a ≡ true → is_name a ≡ true → is_name n ≡ true
called n a e h = ap is_name (same_is n a e) ∙ h

start_name : is_name (codes "start") ≡ true
unfolding laying
start_name = refl

end_name : is_name (codes "end") ≡ true
unfolding laying
end_name = refl

full_name : is_name (codes "RangeFull") ≡ true
unfolding laying
full_name = refl

from_name : is_name (codes "RangeFrom") ≡ true
unfolding laying
from_name = refl

spans_name : (closed : Bool) (name : Text) → spans closed name ≡ true → is_name name ≡ true
unfolding laying
spans_name true name h = called name (codes "RangeInclusive") h refl
spans_name false name h = called name (codes "Range") h refl

reaches_name : (closed : Bool) (name : Text) → reaches closed name ≡ true → is_name name ≡ true
unfolding laying
reaches_name true name h = called name (codes "RangeToInclusive") h refl
reaches_name false name h = called name (codes "RangeTo") h refl

-- up to a number
plain_end : (s closed : Bool) (name a t : Text) (d : Data) → cond (reaches closed name && same_text a (codes "end"))
    (around_dots closed (Some []) (bound_text s d)) None ≡ Some t → IsPlainRange (struct_of name (field_and a d no_fields)) t
plain_end s closed name a t d e =
    let c = cond_parts (reaches closed name && same_text a (codes "end")) (around_dots closed (Some []) (bound_text s d)) t e in
    let l = and_parts (reaches closed name) (same_text a (codes "end")) c.0 in
    let k = around closed (Some []) (bound_text s d) t c.1 in
    let bound = plain_bound s d k.right k.is_right in
    plain_struct name t (field_and a d no_fields) (reaches_name closed name l.0) (plain_and a k.right d no_fields (called a (codes "end") l.1 end_name) bound
    plain_none) (around_bytes closed (Some []) (bound_text s d) t k (no_text k.left k.is_left) bound.bytes)

-- from a number on, or up to it
plain_one : (s closed : Bool) (name a t : Text) (d : Data) → fields_range s closed name (field_and a d no_fields) ≡ Some t
    → IsPlainRange (struct_of name (field_and a d no_fields)) t
plain_one s true name a t d e = plain_end s true name a t d e
plain_one s false name a t d e = go (starts false name && same_text a (codes "start")) refl e
  where
    go : (b : Bool) → (starts false name && same_text a (codes "start")) ≡ b → cond b (around_dots false (bound_text s d) (Some []))
        (cond (reaches false name && same_text a (codes "end")) (around_dots false (Some []) (bound_text s d)) None) ≡ Some t
        → IsPlainRange (struct_of name (field_and a d no_fields)) t
    go false h e = plain_end s false name a t d e
    go true h e =
        let l = and_parts (starts false name) (same_text a (codes "start")) h in
        let k = around false (bound_text s d) (Some []) t e in
        let bound = plain_bound s d k.left k.is_left in
        plain_struct name t (field_and a d no_fields) (called name (codes "RangeFrom") l.0 from_name) (plain_and a k.left d no_fields
        (called a (codes "start") l.1 start_name) bound plain_none) (around_bytes false (bound_text s d) (Some []) t k bound.bytes (no_text k.right k.is_right))

-- between two numbers
plain_two : (s closed : Bool) (name a b t : Text) (d e : Data) → fields_range s closed name (field_and a d (field_and b e no_fields)) ≡ Some t
    → IsPlainRange (struct_of name (field_and a d (field_and b e no_fields))) t
plain_two s closed name a b t d e q =
    let c =
    cond_parts (spans closed name && (same_text a (codes "start") && same_text b (codes "end"))) (around_dots closed (bound_text s d) (bound_text s e)) t q in
    let l = and_parts (spans closed name) (same_text a (codes "start") && same_text b (codes "end")) c.0 in
    let m = and_parts (same_text a (codes "start")) (same_text b (codes "end")) l.1 in
    let k = around closed (bound_text s d) (bound_text s e) t c.1 in
    let first = plain_bound s d k.left k.is_left in
    let second = plain_bound s e k.right k.is_right in
    plain_struct name t (field_and a d (field_and b e no_fields)) (spans_name closed name l.0)
    (plain_and a k.left d (field_and b e no_fields) (called a (codes "start") m.0 start_name) first (plain_and b k.right e no_fields
    (called b (codes "end") m.1 end_name) second plain_none)) (around_bytes closed (bound_text s d) (bound_text s e) t k first.bytes second.bytes)

plain_fields : (s closed : Bool) (name t : Text) (ds : Fields) → fields_range s closed name ds ≡ Some t → IsPlainRange (struct_of name ds) t
plain_fields s closed name t no_fields e = absurd (cc)
plain_fields s closed name t (field_and a d no_fields) e = plain_one s closed name a t d e
plain_fields s closed name t (field_and a d (field_and b f no_fields)) e = plain_two s closed name a b t d f e
plain_fields s closed name t (field_and a d (field_and b f (field_and c g ds))) e = absurd (cc)

plain_full : (name t : Text) → cond (same_text name (codes "RangeFull")) (Some (codes "..")) None ≡ Some t → IsPlainRange (unit_struct_of name) t
plain_full name t e =
    let c = cond_parts (same_text name (codes "RangeFull")) (Some (codes "..")) t e in
    let h = called name (codes "RangeFull") c.0 full_name in
    record {
      names = h;
      clear = rw h refl;
      encodable = refl;
      bytes = subst (λ t. encode_utf8_all t ≡ t) (let k : Some (codes "..") ≡ Some t = c.1 in let l : codes ".." ≡ t = cc in l) (ascii_text (codes "..") refl);
    }

-- what is known of data that is written as a range
pub plain_range : (s : Bool) (d : Data) (t : Text) → range_text s d ≡ Some t → IsPlainRange d t
plain_range s (struct_of name ds) t e = go (fields_range s false name ds) refl e
  where
    go : (o : Option Text) → fields_range s false name ds ≡ o → option_or o (fields_range s true name ds) ≡ Some t → IsPlainRange (struct_of name ds) t
    go None q e = plain_fields s true name t ds e
    go (Some u) q e = plain_fields s false name t ds (q ∙ e)
plain_range s (unit_struct_of name) t e = plain_full name t e
plain_range s _ t e = absurd (cc)
