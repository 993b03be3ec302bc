-- The layout's bytes case by case: for `ron_ser`, which writes bytes.
use Rattle.std.proofs.Common.{◌≡◌, ℕ, zero, suc, ◌/◌, ◌%◌, ◌<◌, ◌==◌, nat_lt, Bool, true, false, cond, List, [], ◌∷◌, ℤ, negsuc, codes, ◌++◌, map, pos, refl}
use Rattle.std.proofs.Common.{ap, ap₂, ◌∙◌, arith}
use Rattle.std.specs.Fmt.{digits, digits_onto, digit_glyph, decimal, signed_decimal}
use Rattle.std.specs.List.{list_all}
use Rattle.std.specs.Str.{encode_utf8_all, chars, IsUtf8}
use Rattle.std.proofs.lemmas.Str.{encode_ascii, encodes-append, encodes-chars}
use Rattle.std.proofs.lemmas.Bool.{and_parts}
use Rattle.std.proofs.lemmas.Bool.Decides.{nat_tests}
use Rattle.ron_spec_words.specs.Characters.{Text}
use Rattle.ron_spec_words.specs.Quoted.{hashes}
use Rattle.ron_value_number.specs.declared.width.Width.{Width}
use Rattle.ron_value_number.specs.declared.width.Width.TheVariants.{I8, I16, I32, I64, I128, U8, U16, U32, U64, U128}
use Rattle.ron_value_number.specs.Width.{width_word}
use Rattle.ron_base.specs.declared.escape.Quotes.TheVariants.{Both}
use Rattle.ron_base.specs.Escape.{escaped}
use Rattle.ron_spec_grammar.specs.Data.{Data}
use Rattle.ron_spec_grammar.specs.Rule.{Extensions}
use Rattle.ron_spec_layout.specs.Literals.{written_string, number_text}
use Rattle.ron_spec_layout.specs.Name.{is_plain_name, written_name}
use Rattle.ron_spec_layout.specs.Brackets.{written_bool}
use Rattle.ron_spec_layout.specs.Layout.{colon, layout, announcements, extensions_under}
use Rattle.ron_spec_layout.specs.Bytes.{name_bytes, layout_bytes, announcements_bytes, full_layout_bytes}
use Rattle.ron_spec_layout.specs.Config.{Docs, Config}
use Rattle.ron_spec_layout.specs.Docs.{docs_within, doc_comment}
use Rattle.ron_spec_layout.specs.Unescaped.{longest_hashes, needs_raw, between_hashes, unescaped}
use Rattle.ron_spec_layout.proofs.Firsts.{laid_from}

-- ---- ASCII is its own bytes

pub ascii : (c : ℕ) (t : Text) → c < 128 → encode_utf8_all (c ∷ t) ≡ c ∷ encode_utf8_all t
ascii c t h = ap (λ b. b ++ encode_utf8_all t) (encode_ascii c h)

ascii_two : (c d : ℕ) (t : Text) → c < 128 → d < 128 → encode_utf8_all (c ∷ d ∷ t) ≡ c ∷ d ∷ encode_utf8_all t
ascii_two c d t h k = ascii c (d ∷ t) h ∙ ap (λ u. c ∷ u) (ascii d t k)

pub ascii_text : (t : Text) → list_all (λ c. nat_lt c 128) t ≡ true → encode_utf8_all t ≡ t
ascii_text [] h = refl
ascii_text (c ∷ t) h = let k = and_parts (nat_lt c 128) (list_all (λ c. nat_lt c 128) t) h in ascii c t (below c k.0) ∙ ap (λ u. c ∷ u) (ascii_text t k.1)
  where
    below : (c : ℕ) → nat_lt c 128 ≡ true → c < 128
    below c e = grind (arith, nat_tests)

-- text before a closing quote
pub closed : (c : ℕ) (t : Text) → c < 128 → encode_utf8_all (t ++ c ∷ []) ≡ encode_utf8_all t ++ c ∷ []
closed c t h = encodes-append t (c ∷ []) ∙ ap (λ u. encode_utf8_all t ++ u) (ascii c [] h)

digits_bytes : (k n : ℕ) (ds : Text) → encode_utf8_all ds ≡ ds → encode_utf8_all (digits_onto k 10 false n ds) ≡ digits_onto k 10 false n ds
digits_bytes zero n ds e = e
digits_bytes (suc k) n ds e = go (n / 10 == 0) (digits_bytes k (n / 10) (digit_glyph false (n % 10) ∷ ds) one)
  where
    small : digit_glyph false (n % 10) < 128
    small = grind (arith, nat_tests)

    one : encode_utf8_all (digit_glyph false (n % 10) ∷ ds) ≡ digit_glyph false (n % 10) ∷ ds
    one = ascii (digit_glyph false (n % 10)) ds small ∙ ap (λ t. digit_glyph false (n % 10) ∷ t) e

    go : (b : Bool) → encode_utf8_all (digits_onto k 10 false (n / 10) (digit_glyph false (n % 10) ∷ ds))
        ≡ digits_onto k 10 false (n / 10) (digit_glyph false (n % 10) ∷ ds)
        → encode_utf8_all (cond b (digit_glyph false (n % 10) ∷ ds) (digits_onto k 10 false (n / 10) (digit_glyph false (n % 10) ∷ ds)))
        ≡ cond b (digit_glyph false (n % 10) ∷ ds) (digits_onto k 10 false (n / 10) (digit_glyph false (n % 10) ∷ ds))
    go true h = one
    go false h = h

pub decimal_bytes : (n : ℕ) → encode_utf8_all (decimal n) ≡ decimal n
unfolding digits
decimal_bytes n = digits_bytes 64 n [] refl

pub signed_bytes : (n : ℤ) → encode_utf8_all (signed_decimal n) ≡ signed_decimal n
signed_bytes (pos n) = decimal_bytes n
signed_bytes (negsuc n) = ascii 45 (decimal (suc n)) (omega arith) ∙ ap (λ t. 45 ∷ t) (decimal_bytes (suc n))

-- ---- characters, strings and bytes

pub bytes-string : (t : Text) → encode_utf8_all (written_string t) ≡ codes "\"" ++ (encode_utf8_all (escaped Both t) ++ codes "\"")
bytes-string t = ascii 34 (escaped Both t ++ 34 ∷ []) (omega arith) ∙ ap (λ u. 34 ∷ u) (closed 34 (escaped Both t) (omega arith))

-- ---- words

pub bytes-boolean : (b : Bool) → encode_utf8_all (written_bool b) ≡ written_bool b
bytes-boolean true = ascii_two 116 114 (codes "ue") (omega arith) (omega arith) ∙ ap (λ t. 116 ∷ 114 ∷ t) (ascii_two 117 101 [] (omega arith) (omega arith))
bytes-boolean false =
    ascii_two 102 97 (codes "lse") (omega arith) (omega arith)
    ∙ ap (λ t. 102 ∷ 97 ∷ t) (ascii_two 108 115 (codes "e") (omega arith) (omega arith) ∙ ap (λ t. 108 ∷ 115 ∷ t) (ascii 101 [] (omega arith)))

-- ---- names

pub bytes-plain_name : (bs : List ℕ) → IsUtf8 bs → is_plain_name (chars bs) ≡ true → name_bytes (chars bs) ≡ bs
bytes-plain_name bs u h = rw h (encodes-chars bs u)

pub bytes-raw_name : (bs : List ℕ) → IsUtf8 bs → is_plain_name (chars bs) ≡ false → name_bytes (chars bs) ≡ codes "r#" ++ bs
bytes-raw_name bs u h =
    rw h (ascii 114 (35 ∷ chars bs) (omega arith) ∙ ap (λ t. 114 ∷ t) (ascii 35 (chars bs) (omega arith) ∙ ap (λ t. 35 ∷ t) (encodes-chars bs u)))

-- ---- texts one behind the other

-- between ASCII texts
pub bytes-enclosed : (a b t : Text) → list_all (λ c. nat_lt c 128) a ≡ true → list_all (λ c. nat_lt c 128) b ≡ true
    → encode_utf8_all (a ++ (t ++ b)) ≡ a ++ (encode_utf8_all t ++ b)
bytes-enclosed a b t h k =
    encodes-append a (t ++ b) ∙ ap₂ (λ u v. u ++ v) (ascii_text a h) (encodes-append t b ∙ ap (λ u. encode_utf8_all t ++ u) (ascii_text b k))

-- behind a name
pub bytes-named : (name t : Text) → encode_utf8_all (written_name name ++ t) ≡ name_bytes name ++ encode_utf8_all t
bytes-named name t = encodes-append (written_name name) t

-- ---- numbers and comments

width_bytes : (w : Width) → encode_utf8_all (width_word w) ≡ width_word w
width_bytes I8 = ascii_text (width_word I8) refl
width_bytes I16 = ascii_text (width_word I16) refl
width_bytes I32 = ascii_text (width_word I32) refl
width_bytes I64 = ascii_text (width_word I64) refl
width_bytes I128 = ascii_text (width_word I128) refl
width_bytes U8 = ascii_text (width_word U8) refl
width_bytes U16 = ascii_text (width_word U16) refl
width_bytes U32 = ascii_text (width_word U32) refl
width_bytes U64 = ascii_text (width_word U64) refl
width_bytes U128 = ascii_text (width_word U128) refl

pub bytes-number : (suffixes : Bool) (w : Width) (n : ℤ) → encode_utf8_all (number_text suffixes w n) ≡ number_text suffixes w n
bytes-number true w n = encodes-append (signed_decimal n) (width_word w) ∙ ap₂ (λ a b. a ++ b) (signed_bytes n) (width_bytes w)
bytes-number false w n = signed_bytes n

-- ---- unescaped texts

pub bytes-plain : (t : Text) → needs_raw t ≡ false → encode_utf8_all (unescaped t) ≡ codes "\"" ++ (encode_utf8_all t ++ codes "\"")
bytes-plain t h = ap (λ b. encode_utf8_all (cond b (codes "r" ++ between_hashes (suc (longest_hashes t)) t) (codes "\"" ++ (t ++ codes "\"")))) h
    ∙ bytes-enclosed (codes "\"") (codes "\"") t refl refl

hashes_ascii : (n : ℕ) → encode_utf8_all (hashes n) ≡ hashes n
hashes_ascii zero = refl
hashes_ascii (suc n) = ascii 35 (hashes n) (omega arith) ∙ ap (λ u. 35 ∷ u) (hashes_ascii n)

raw_bytes : (n : ℕ) (t : Text) → encode_utf8_all (codes "r" ++ between_hashes n t) ≡ codes "r" ++ between_hashes n (encode_utf8_all t)
raw_bytes n t =
    let rest = t ++ 34 ∷ hashes n in
    let behind : encode_utf8_all (34 ∷ hashes n) ≡ 34 ∷ hashes n = ascii 34 (hashes n) (omega arith) ∙ ap (λ u. 34 ∷ u) (hashes_ascii n) in
    ascii 114 (hashes n ++ 34 ∷ rest) (omega arith)
    ∙ ap (λ u. 114 ∷ u) (encodes-append (hashes n) (34 ∷ rest) ∙ ap₂ (λ a b. a ++ b) (hashes_ascii n)
    (ascii 34 rest (omega arith) ∙ ap (λ u. 34 ∷ u) (encodes-append t (34 ∷ hashes n) ∙ ap (λ u. encode_utf8_all t ++ u) behind)))

pub bytes-raw : (t : Text) → needs_raw t ≡ true → encode_utf8_all (unescaped t) ≡ codes "r" ++ between_hashes (suc (longest_hashes t)) (encode_utf8_all t)
bytes-raw t h = ap (λ b. encode_utf8_all (cond b (codes "r" ++ between_hashes (suc (longest_hashes t)) t) (codes "\"" ++ (t ++ codes "\"")))) h
    ∙ raw_bytes (suc (longest_hashes t)) t

-- ---- texts between those of items

pub bytes-laid : (before : ℕ → Text) (k : ℕ) (ts : List Text)
    → encode_utf8_all (laid_from before k ts) ≡ laid_from (λ n. encode_utf8_all (before n)) k (map encode_utf8_all ts)
bytes-laid before k [] = refl
bytes-laid before k (t ∷ ts) =
    encodes-append (before k ++ t) (laid_from before (suc k) ts) ∙ ap₂ (λ a b. a ++ b) (encodes-append (before k) t) (bytes-laid before (suc k) ts)

module _ (c : Config) (x : Extensions) (level : ℕ) (docs : Docs) where
  pub bytes-colon : encode_utf8_all (colon c) ≡ codes ":" ++ encode_utf8_all c.separator
  bytes-colon = ascii 58 c.separator (omega arith)

  pub bytes-pair : (key d : Data) → encode_utf8_all (layout c x level docs false key ++ (colon c ++ layout c x level docs false d))
      ≡ layout_bytes c x level docs false key ++ (encode_utf8_all (colon c) ++ layout_bytes c x level docs false d)
  bytes-pair key d = encodes-append (layout c x level docs false key) (colon c ++ layout c x level docs false d)
      ∙ ap (λ u. layout_bytes c x level docs false key ++ u) (encodes-append (colon c) (layout c x level docs false d))

  pub bytes-field : (name : Text) (d : Data) → encode_utf8_all
      (doc_comment c level docs name ++ (written_name name ++ (colon c ++ layout c x level (docs_within docs name) false d))) ≡ encode_utf8_all
      (doc_comment c level docs name) ++ (name_bytes name ++ (encode_utf8_all (colon c) ++ layout_bytes c x level (docs_within docs name) false d))
  bytes-field name d =
      let value = layout c x level (docs_within docs name) false d in
      encodes-append (doc_comment c level docs name) (written_name name ++ (colon c ++ value)) ∙ ap (λ u. encode_utf8_all (doc_comment c level docs name) ++ u)
      (encodes-append (written_name name) (colon c ++ value) ∙ ap (λ u. name_bytes name ++ u) (encodes-append (colon c) value))

-- ---- whole texts

pub bytes-full : (defaults : Extensions) (c : Config) (d : Data)
    → full_layout_bytes defaults c d ≡ announcements_bytes defaults c ++ layout_bytes c (extensions_under defaults c) 0 c.docs false d
bytes-full defaults c d = encodes-append (announcements defaults c) (layout c (extensions_under defaults c) 0 c.docs false d)
