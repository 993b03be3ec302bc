-- The strings in data, and where they are slices of the text: for the clause `slices` of every call.
use Rattle.std.proofs.Common.{◌≡◌, ℕ, true, false, List, [], ◌∷◌, ◌++◌, map, length, Option, Some, None, Result, Ok, Err, IfOk, Box, Vec, String, Global, rules}
use Rattle.std.proofs.Common.{refl, sym, ap, ◌∙◌, subst, arith}
use Rattle.std.specs.List.{All, Contains, flat_map}
use Rattle.std.specs.Map.{keys_of, values_of}
use Rattle.std.proofs.lemmas.List.Elements.{All-nil, All-cons, All-head, All-tail, All-append, All-contains, All-map, All-push, All-set}
use Rattle.ron_spec_words.specs.Characters.{Text, left_bracket}
use Rattle.ron_spec_words.specs.Runs.{is_at}
use Rattle.ron_spec_words.specs.Openings.{Leads, same}
use Rattle.ron_spec_words.specs.Reader.{got}
use Rattle.ron_spec_words.specs.Quoted.{string, byte_string}
use Rattle.ron_spec_words.proofs.Leading.{leads_on}
use Rattle.ron_spec_words.proofs.RawStrings.{word_string, word_byte_string}
use Rattle.ron_spec_grammar.specs.Data as plain
use Rattle.ron_spec_grammar.specs.Schema.{bytes}
use Rattle.ron_spec_grammar.specs.Shapes.Bytes.{read_bytes}
use Rattle.ron_spec_grammar.proofs.Shapes.Bytes.{part_bytes}
use Rattle.ron_lex.specs.Place.{Place}
use Rattle.ron_lex_text.specs.Stretch.{IsSuffix}
use Rattle.ron_lex.specs.Quoted.{IsSliceUnlessEscaped, StandAsBytes}
use Rattle.ron_lex_text.specs.Parsed.{parsed_text, parsed_bytes, is_byte_slice}
use Rattle.ron_lex_text.specs.declared.parsed.ParsedStr.{ParsedStr}
use Rattle.ron_lex_text.specs.declared.parsed.ParsedByteStr.{ParsedByteStr}
use Rattle.ron_lex_text.specs.declared.parsed.ParsedByteStr.TheVariants as parsed
use Rattle.ron_data.specs.declared.any_value.AnyValue.{AnyValue}
use Rattle.ron_de_steps.proofs.RoomLemmas.{some_room}
use Rattle.ron_de_raw.specs.Raw.{raw_text_of, is_borrowed}
use Rattle.ron_de_raw.specs.declared.raw.RawValue.{RawValue}
use Rattle.ron_data.specs.declared.data.Data.{Data, the_lemmas}
use Rattle.ron_data.specs.declared.data.Data.TheVariants as data_
use Rattle.ron_data.specs.declared.data.VariantData.{VariantData}
use Rattle.ron_data.specs.declared.data.VariantData.TheVariants as held_
use Rattle.ron_data_schema.specs.declared.schema.FieldShape.{FieldShape}
use Rattle.ron_data.proofs.DatumLemmas.{view-bytes}
use Rattle.ron_de_parts.specs.Terms.{Terms}
use Rattle.ron_de_parts.specs.Bytes.{ReadsBytes}
use Rattle.ron_de_parts.specs.Room.{enough_for_group}
use Rattle.ron_base.specs.declared.error.Error.{Error}
use Rattle.ron_de_parts.specs.Kept.{Kept}
use Rattle.ron_de_parts.proofs.KeptLemmas.{source_there}
use Rattle.ron_de_parts.specs.Slices.{IsSliced, strings_in, IsReadAt, IsSlicedIn, StringsAreSliced, strings_within, ContentIsSliced, ItemsAreSliced}
use Rattle.ron_de_parts.specs.Slices.{FieldsAreSliced, SlotIsSliced, ItemIsSliced, FieldIsSliced, PairIsSliced}
use Rattle.ron_de_parts.specs.Slots.{with_read}

-- ---- the strings, case by case

strings-str : (s : ParsedStr) → strings_in (data_.Str s) ≡ data_.Str s ∷ []
strings-str s = search (rules, the_lemmas)

strings-bytes : (b : ParsedByteStr) → strings_in (data_.Bytes b) ≡ data_.Bytes b ∷ []
strings-bytes b = search (rules, the_lemmas)

strings-raw : (r : RawValue) → strings_in (data_.Raw r) ≡ data_.Raw r ∷ []
strings-raw r = search (rules, the_lemmas)

strings-value : (v : AnyValue) → strings_in (data_.Value v) ≡ []
strings-value v = search (rules, the_lemmas)

strings-seq : (ds : Vec Data Global) → strings_in (data_.Seq ds) ≡ flat_map (λ item. item) (map strings_in ds.items)
strings-seq ds = search (rules, the_lemmas)

strings-tuple : (ds : Vec Data Global) → strings_in (data_.Tuple ds) ≡ flat_map (λ item. item) (map strings_in ds.items)
strings-tuple ds = search (rules, the_lemmas)

strings-some : (d : Box Data Global) → strings_in (data_.Option (Some d)) ≡ strings_in d.value
strings-some d = search (rules, the_lemmas)

strings-variant : (name v : String Global) (held : VariantData) → strings_in (data_.Variant name v held) ≡ strings_within held
strings-variant name v held = search (rules, the_lemmas)

strings-one : (d : Box Data Global) → strings_within (held_.Newtype d) ≡ strings_in d.value
strings-one d = search (rules, the_lemmas)

strings-items : (ds : Vec Data Global) → strings_within (held_.Tuple ds) ≡ flat_map (λ item. item) (map strings_in ds.items)
strings-items ds = search (rules, the_lemmas)

strings-newtype : (name : String Global) (d : Box Data Global) → strings_in (data_.Newtype name d) ≡ strings_in d.value
strings-newtype name d = search (rules, the_lemmas)

strings-tuple_struct : (name : String Global) (ds : Vec Data Global)
    → strings_in (data_.TupleStruct name ds) ≡ flat_map (λ item. item) (map strings_in ds.items)
strings-tuple_struct name ds = search (rules, the_lemmas)

abbrev both_strings : Data × Data → List Data × List Data
both_strings pair = (strings_in pair.0, strings_in pair.1)

strings-map : (pairs : Vec (Data × Data) Global) → strings_in (data_.Map pairs) ≡ flat_map (λ pair. pair.0 ++ pair.1) (map both_strings pairs.items)
strings-map pairs = search (rules, the_lemmas)

abbrev with_strings : String Global × Data → String Global × List Data
with_strings f = (f.0, strings_in f.1)

strings-struct : (name : String Global) (fields : Vec (String Global × Data) Global)
    → strings_in (data_.Struct name fields) ≡ flat_map (λ f. f.1) (map with_strings fields.items)
strings-struct name fields = search (rules, the_lemmas)

strings-named : (fields : Vec (String Global × Data) Global) → strings_within (held_.Struct fields) ≡ flat_map (λ f. f.1) (map with_strings fields.items)
strings-named fields = search (rules, the_lemmas)

-- what holds of all in each part holds of all in them together
all_joined : {A B : Type 0} (P : B → Type 0) (f : A → List B) (xs : List A) → All (λ x. All P (f x)) xs → All P (flat_map f xs)
all_joined P f [] h = All-nil P
all_joined P f (x ∷ xs) h = All-append P (f x) (flat_map f xs) (All-head (λ x. All P (f x)) x xs h) (all_joined P f xs (All-tail (λ x. All P (f x)) x xs h))

parts_sliced : {from text : Text} (ds : List Data) → All (StringsAreSliced from text) ds
    → All (IsSlicedIn from text) (flat_map (λ item. item) (map strings_in ds))
parts_sliced {from} {text} ds h = all_joined (IsSlicedIn from text) (λ item. item) (map strings_in ds) (All-map (All (IsSlicedIn from text)) strings_in ds h)

both_sliced : {from text : Text} (pair : Data × Data) → PairIsSliced from text pair → All (IsSlicedIn from text) (strings_in pair.0 ++ strings_in pair.1)
both_sliced {from} {text} pair h = All-append (IsSlicedIn from text) (strings_in pair.0) (strings_in pair.1) h.0 h.1

-- pairs of the keys and values of others
pub sliced-among : {from text : Text} (pairs among : List (Data × Data)) → All (PairIsSliced from text) among
    → All (λ p. Contains (keys_of among) p.0 × Contains (values_of among) p.1) pairs → All (PairIsSliced from text) pairs
sliced-among {from} {text} pairs among h are = λ i d lt. (
  All-contains (StringsAreSliced from text) (keys_of among) _ (All-map (StringsAreSliced from text) (λ p. p.0) among (λ k e less. (h k e less).0))
      (are i d lt).0,
  All-contains (StringsAreSliced from text) (values_of among) _ (All-map (StringsAreSliced from text) (λ p. p.1) among (λ k e less. (h k e less).1))
      (are i d lt).1,
)

one_sliced : (from text : Text) (d : Data) → strings_in d ≡ d ∷ [] → IsSlicedIn from text d → StringsAreSliced from text d
one_sliced from text d e h = subst (All (IsSlicedIn from text)) (sym e) (All-cons (IsSlicedIn from text) d [] h (All-nil (IsSlicedIn from text)))

module _ (text : Text) where
  -- what is read at a place in the text is a stretch of it
  stands : (place rest stretch : Text) (d : Data) → IsSuffix place text → place ≡ stretch ++ rest → IsReadAt place rest d → IsSliced place rest d
      → IsSlicedIn place text d
  stands place rest stretch d i p e h = record {
    front = i.front;
    stretch = stretch;
    rest = rest;
    split = i.is ∙ ap (λ s. i.front ++ s) p;
    reached = λ n. subst (Leads place) p (same place);
    is_read = subst (λ s. IsReadAt s rest d) p e;
    is_sliced = subst (λ s. IsSliced s rest d) p h;
  }

  pub sliced-str : (place rest : Text) (s : ParsedStr) → IsSuffix place text → string place ≡ got (parsed_text s) rest → IsSliced place rest (data_.Str s)
      → StringsAreSliced place text (data_.Str s)
  sliced-str place rest s i e h =
      let t = word_string.sound place (parsed_text s) rest e in
      one_sliced place text _ (strings-str s) (stands place rest t.stretch (data_.Str s) i t.split (rw e refl) h)

  -- a raw text with which an end of the text begins
  pub sliced-raw : (from : Text) (r : RawValue) (end rest : Text) → IsSuffix end text → end ≡ raw_text_of r ++ rest → is_borrowed r ≡ true
      → StringsAreSliced from text (data_.Raw r)
  sliced-raw from r end rest i e h = one_sliced from text _ (strings-raw r) (record {
    front = i.front;
    stretch = raw_text_of r;
    rest = rest;
    split = i.is ∙ ap (λ s. i.front ++ s) e;
    reached = λ n. absurd (let no : true ≡ false = n in cc);
    is_read = refl;
    is_sliced = h;
  })

  -- a value without a schema holds strings of its own
  pub sliced-value : (from : Text) (v : AnyValue) → StringsAreSliced from text (data_.Value v)
  sliced-value from v = subst (All (IsSlicedIn from text)) (sym (strings-value v)) (All-nil (IsSlicedIn from text))

  -- a byte string that is read at a place in the text
  pub sliced-byte_string : (place rest : Text) (b : ParsedByteStr) → is_at left_bracket place ≡ false → IsSuffix place text
      → byte_string place ≡ got (parsed_bytes b) rest
      → IsSliceUnlessEscaped place rest (is_byte_slice b) → (is_byte_slice b ≡ true → StandAsBytes place rest (parsed_bytes b))
      → StringsAreSliced place text (data_.Bytes b)
  sliced-byte_string place rest b n i e h k =
      let t = word_byte_string.sound place (parsed_bytes b) rest e in
      one_sliced place text _ (strings-bytes b) (stands place rest t.stretch (data_.Bytes b) i t.split (0, rw (n, e) refl) (rw n (h, k)))

  -- a list of bytes that is read at a place in the text
  pub sliced-list : (terms : Terms) (old : Place) (rest u : Text) (bs : Vec ℕ Global) → old.rest ≡ left_bracket ∷ u → IsSuffix old.rest text
      → ReadsBytes terms old (Ok (data_.Bytes (parsed.Allocated bs))) rest → StringsAreSliced old.rest text (data_.Bytes (parsed.Allocated bs))
  sliced-list terms old rest u bs opened e value =
      let room = some_room terms.limit (enough_for_group terms.schema (length old.rest)) in
      let b = parsed.Allocated bs in
      let is_read : read_bytes room.0 false old.rest ≡ got (plain.bytes_of (parsed_bytes b)) rest = value room.0 room.1 ∙ ap (λ d. got d rest) (view-bytes b) in
      let t = (part_bytes {schema = bytes ∷ []} {room = room.0} room.0 (omega arith) {i = 0} refl (λ _. 0) false).exact.sound old.rest
      (plain.bytes_of (parsed_bytes b)) rest is_read in
      one_sliced old.rest text _ (strings-bytes b) (stands old.rest rest t.stretch (data_.Bytes b) e t.split (room.0, is_read) (rw opened refl))

-- ---- read from a later place on, to which whole tokens lead

pub stays : (s u : Text) → u ≡ s → Leads s u
stays s u e = subst (Leads s) (sym e) (same s)

later_sliced : {from later text : Text} → Leads from later → (d : Data) → IsSlicedIn later text d → IsSlicedIn from text d
later_sliced leads d h = record {
  front = h.front;
  stretch = h.stretch;
  rest = h.rest;
  split = h.split;
  reached = λ n. leads_on leads (h.reached n);
  is_read = h.is_read;
  is_sliced = h.is_sliced;
}

all_later : {from later text : Text} → Leads from later → (ds : List Data) → All (IsSlicedIn later text) ds → All (IsSlicedIn from text) ds
all_later leads ds h = λ k d lt. later_sliced leads _ (h k d lt)

-- ---- what is made of parts that were read in the same text, from a later place on

module _ (from later text other : Text) (leads : Leads from later) (e : other ≡ text) where
  pub strings_later : (d : Data) → StringsAreSliced later other d → StringsAreSliced from text d
  strings_later d h = subst (λ t. StringsAreSliced from t d) e (all_later leads (strings_in d) h)

  content_later : (held : VariantData) → ContentIsSliced later other held → ContentIsSliced from text held
  content_later held h = subst (λ t. ContentIsSliced from t held) e (all_later leads (strings_within held) h)

  pub sliced-seq : (ds : Vec Data Global) → All (StringsAreSliced later other) ds.items → StringsAreSliced from text (data_.Seq ds)
  sliced-seq ds h = strings_later (data_.Seq ds) (subst (All (IsSlicedIn later other)) (sym (strings-seq ds)) (parts_sliced ds.items h))

  pub sliced-tuple : (ds : Vec Data Global) → All (StringsAreSliced later other) ds.items → StringsAreSliced from text (data_.Tuple ds)
  sliced-tuple ds h = strings_later (data_.Tuple ds) (subst (All (IsSlicedIn later other)) (sym (strings-tuple ds)) (parts_sliced ds.items h))

  pub sliced-newtype : (name : String Global) (d : Box Data Global) → StringsAreSliced later other d.value → StringsAreSliced from text (data_.Newtype name d)
  sliced-newtype name d h = strings_later (data_.Newtype name d) (subst (All (IsSlicedIn later other)) (sym (strings-newtype name d)) h)

  pub sliced-some : (d : Box Data Global) → StringsAreSliced later other d.value → StringsAreSliced from text (data_.Option (Some d))
  sliced-some d h = strings_later (data_.Option (Some d)) (subst (All (IsSlicedIn later other)) (sym (strings-some d)) h)

  pub sliced-tuple_struct : (name : String Global) (ds : Vec Data Global) → All (StringsAreSliced later other) ds.items
      → StringsAreSliced from text (data_.TupleStruct name ds)
  sliced-tuple_struct name ds h =
      strings_later (data_.TupleStruct name ds) (subst (All (IsSlicedIn later other)) (sym (strings-tuple_struct name ds)) (parts_sliced ds.items h))

  pub sliced-struct : (name : String Global) (fields : Vec (String Global × Data) Global) → All (FieldIsSliced later other) fields.items
      → StringsAreSliced from text (data_.Struct name fields)
  sliced-struct name fields h =
      strings_later (data_.Struct name fields)
      (subst (All (IsSlicedIn later other)) (sym (strings-struct name fields)) (all_joined (IsSlicedIn later other) (λ f. f.1) (map with_strings fields.items)
      (All-map (λ f. All (IsSlicedIn later other) f.1) with_strings fields.items h)))

  pub sliced-map : (pairs : Vec (Data × Data) Global) → All (PairIsSliced later other) pairs.items → StringsAreSliced from text (data_.Map pairs)
  sliced-map pairs h =
      strings_later (data_.Map pairs)
      (subst (All (IsSlicedIn later other)) (sym (strings-map pairs))
      (all_joined (IsSlicedIn later other) (λ pair. pair.0 ++ pair.1) (map both_strings pairs.items)
      (All-map (λ pair. All (IsSlicedIn later other) (pair.0 ++ pair.1)) both_strings pairs.items (λ k d lt. both_sliced _ (h k d lt)))))

  -- a key and a value that were read in the same text
  pub sliced-pair : (key value : Data) → StringsAreSliced from text key → StringsAreSliced later other value → PairIsSliced from text (key, value)
  sliced-pair key value h k = (h, strings_later value k)

  -- what a variant holds, and the variant
  pub sliced-one : (d : Box Data Global) → StringsAreSliced later other d.value → ContentIsSliced from text (held_.Newtype d)
  sliced-one d h = content_later (held_.Newtype d) (subst (All (IsSlicedIn later other)) (sym (strings-one d)) h)

  pub sliced-items : (ds : Vec Data Global) → All (StringsAreSliced later other) ds.items → ContentIsSliced from text (held_.Tuple ds)
  sliced-items ds h = content_later (held_.Tuple ds) (subst (All (IsSlicedIn later other)) (sym (strings-items ds)) (parts_sliced ds.items h))

  pub sliced-named : (fields : Vec (String Global × Data) Global) → All (FieldIsSliced later other) fields.items
      → ContentIsSliced from text (held_.Struct fields)
  sliced-named fields h =
      content_later (held_.Struct fields)
      (subst (All (IsSlicedIn later other)) (sym (strings-named fields)) (all_joined (IsSlicedIn later other) (λ f. f.1) (map with_strings fields.items)
      (All-map (λ f. All (IsSlicedIn later other) f.1) with_strings fields.items h)))

  pub sliced-variant : (name v : String Global) (held : VariantData) → ContentIsSliced later other held → StringsAreSliced from text (data_.Variant name v held)
  sliced-variant name v held h = strings_later (data_.Variant name v held) (subst (All (IsSlicedIn later other)) (sym (strings-variant name v held)) h)

  -- one more item
  pub sliced-push : (items more : List Data) (d : Data) → more ≡ items ++ d ∷ [] → All (StringsAreSliced from text) items → StringsAreSliced later other d
      → All (StringsAreSliced from text) more
  sliced-push items more d m h k = subst (All (StringsAreSliced from text)) (sym m) (All-push (StringsAreSliced from text) items d h (strings_later d k))

  -- one more pair
  pub pair_later : (pair : Data × Data) → PairIsSliced later other pair → PairIsSliced from text pair
  pair_later pair h = (strings_later pair.0 h.0, strings_later pair.1 h.1)

  -- the slots with what was read
  with_sliced : (slots : List (Option Data)) (item : Option (ℕ × Data)) → All (SlotIsSliced from text) slots → ItemIsSliced later other item
      → All (SlotIsSliced from text) (with_read slots item)
  with_sliced slots None h k = h
  with_sliced slots (Some item) h k = All-set (SlotIsSliced from text) slots item.0 (Some item.1) (strings_later item.1 k) h

  pub sliced-read : (slots more : List (Option Data)) (item : Option (ℕ × Data)) → more ≡ with_read slots item → All (SlotIsSliced from text) slots
      → ItemIsSliced later other item → All (SlotIsSliced from text) more
  sliced-read slots more item m h k = subst (All (SlotIsSliced from text)) (sym m) (with_sliced slots item h k)

-- empty slots
pub sliced-nothing : (from text : Text) (fields : List FieldShape) (slots : List (Option Data)) → slots ≡ map (λ _. None) fields
    → All (SlotIsSliced from text) slots
sliced-nothing from text fields slots e = subst (All (SlotIsSliced from text)) (sym e) (All-map (SlotIsSliced from text) (λ _. None) fields (λ k d lt. tt))

-- fields whose data stood in slots
pub fields-sliced : (from text : Text) (slots : List (Option Data)) (all : List (String Global × Data)) → All (λ f. Contains slots (Some f.1)) all
    → All (SlotIsSliced from text) slots → All (FieldIsSliced from text) all
fields-sliced from text slots all parts h i d lt = All-contains (SlotIsSliced from text) slots (Some _) h (parts i d lt)

-- ---- what another call answers, where slices are taken of the text

module _ {source inner : Option Text} (from later text other : Text) (leads : Leads from later) (is : inner ≡ source) (e : other ≡ text) where
  pub kept_later : (d : Data) → Kept inner (StringsAreSliced later) other d → Kept source (StringsAreSliced from) text d
  kept_later d h = λ k. strings_later from later text other leads e d (h (source_there is e k))

  pub data_there : (r : Result Data Error) → IfOk r (Kept inner (StringsAreSliced later) other) → IfOk r (Kept source (StringsAreSliced from) text)
  data_there (Ok d) h = kept_later d h
  data_there (Err f) h = tt

  pub items_there : (r : Result (Vec Data Global) Error) → IfOk r (Kept inner (ItemsAreSliced later) other) → IfOk r (Kept source (ItemsAreSliced from) text)
  items_there (Ok ds) h = λ k. λ i d lt. strings_later from later text other leads e _ (h (source_there is e k) i d lt)
  items_there (Err f) h = tt

  pub fields_there : (r : Result (Vec (String Global × Data) Global) Error) → IfOk r (Kept inner (FieldsAreSliced later) other)
      → IfOk r (Kept source (FieldsAreSliced from) text)
  fields_there (Ok fields) h = λ k. λ i f lt. strings_later from later text other leads e _ (h (source_there is e k) i f lt)
  fields_there (Err f) h = tt
