-- What is written between quotes is spelled, pieces in a row, escapes by number and by byte: for layouts of texts.
use Rattle.std.proofs.Common.{◌≡◌, ℕ, zero, suc, ◌+◌, ◌*◌, ◌/◌, ◌%◌, ◌^◌, ◌<◌, ◌≤◌, ◌==◌, Bool, true, false, cond, length, [], ◌∷◌, ◌++◌, codes, flat_map, Some}
use Rattle.std.proofs.Common.{inl, inr, refl, sym, ap, ◌∙◌, arith, append_assoc, add_assoc, mul_assoc, mul_comm, eqb-true, le-leb, ◌⊎◌, ◌&&◌, encode_utf8}
use Rattle.std.proofs.Math.Nat.{add-mul, pow-suc}
use Rattle.std.proofs.Math.Bool.{and-false}
use Rattle.std.specs.Char.{is_ascii_hexdigit, digit_value}
use Rattle.std.specs.Fmt.{digits, digits_onto, digit_glyph}
use lib.Utf8.{scalar, scalar_cases}
use Rattle.ron_spec_words.specs.Characters.{Text}
use Rattle.ron_spec_words.specs.Runs.{Every, run_of, begins_with}
use Rattle.ron_spec_words.specs.Lang.{Lang}
use Rattle.ron_spec_words.specs.Number.{place_value}
use Rattle.ron_spec_words.specs.Escape.{PlainEscape, escape_meaning, HexByte, HexAscii, UnicodeEscape, Escape}
use Rattle.ron_spec_words.specs.Quoted.{Char, Pieces, close, piece, StringPiece, itself, StringEscape, ByteStringEscape, hashes, EndsAlone, Raw}
use Rattle.ron_spec_words.proofs.Classes.{AllFrom, among}

-- ---- pieces in a row

-- what each character is spelled as, in a row and before the closing quote, spells what the characters give
pub pieces_in_row : (P : Lang Text) (give spell : ℕ → Text) (p : ℕ → Bool) → ((c : ℕ) (next : Text) → p c ≡ true → P (spell c) next (give c)) → (cs next : Text)
    → Every p cs → Pieces P (flat_map spell cs ++ 34 ∷ []) next (flat_map give cs)
pieces_in_row P give spell p k [] next h = close
pieces_in_row P give spell p k (c ∷ cs) next h =
    rw (append_assoc (spell c) (flat_map spell cs) (34 ∷ [])) (piece (spell c) (flat_map spell cs ++ 34 ∷ []) next (give c) (flat_map give cs)
    (k c ((flat_map spell cs ++ 34 ∷ []) ++ next) h.0) (pieces_in_row P give spell p k cs next h.1))

-- a character as it is
pub piece_plain : (give : ℕ → Text) (E : Lang Text) (c : ℕ) (next : Text) → (c == 34) ≡ false → (c == 92) ≡ false → StringPiece give E (c ∷ []) next (give c)
piece_plain give E c next e f = inr (inr (record { value = c; spelled = refl; meant = rw (e, f) refl }))

-- ---- escapes

pub plain_written : (letter c : ℕ) (next : Text) → escape_meaning letter ≡ Some c → PlainEscape (92 ∷ letter ∷ []) next c
plain_written letter c next e = record { rest = letter ∷ []; split = refl; spelled = record { value = letter; spelled = refl; meant = e } }

-- what a digit below sixteen is written as
abbrev glyph : ℕ → ℕ
glyph d = digit_glyph false d

abbrev IsGlyph : ℕ → Type 0
IsGlyph d = (is_ascii_hexdigit (glyph d) ≡ true) × (digit_value (glyph d) ≡ d)

glyphs : (d : ℕ) → d < 16 → IsGlyph d
glyphs d h = among IsGlyph 16 0 d (omega arith) (omega (arith, h)) all
  where
    one : Unit {0}
    one = tt

    all : AllFrom IsGlyph 16 0
    all = (
      (refl, refl),
      (
        (refl, refl),
        (
          (refl, refl),
          (
            (refl, refl),
            (
              (refl, refl),
              (
                (refl, refl),
                (
                  (refl, refl),
                  (
                    (refl, refl),
                    ((refl, refl), ((refl, refl), ((refl, refl), ((refl, refl), ((refl, refl), ((refl, refl), ((refl, refl), ((refl, refl), tt)))))))),
                  ),
                ),
              ),
            ),
          ),
        ),
      ),
    )

-- hexadecimal digits of this value and before these others
record AreHex (n most : ℕ) (others t : Text) : Type 0 where
  every : Every is_ascii_hexdigit t
  value : place_value 16 t ≡ n * 16 ^ length others + place_value 16 others
  some : 1 ≤ length t
  few : length t ≤ most + length others

one_digit : (n : ℕ) (others : Text) → n < 16 → Every is_ascii_hexdigit others → AreHex n 1 others (glyph n ∷ others)
one_digit n others h e = record { every = ((glyphs n h).0, e); value = rw (glyphs n h).1 refl; some = omega arith; few = omega arith }

last_digit : (n : ℕ) (others : Text) → n / 16 ≡ 0 → Every is_ascii_hexdigit others → AreHex n 1 others (glyph (n % 16) ∷ others)
last_digit n others h e = let same : n % 16 ≡ n = omega (arith, h) in rw same (one_digit n others (omega (arith, h)) e)

digit_before : (n j : ℕ) (others t : Text) → AreHex (n / 16) j (glyph (n % 16) ∷ others) t → AreHex n (suc j) others t
digit_before n j others t y = record {
  every = y.every;
  value = y.value ∙ ap (λ x. x + place_value 16 (glyph (n % 16) ∷ others)) shifted ∙ joined;
  some = y.some;
  few = let m = y.few in omega (arith, m);
}
  where
    power : ℕ
    power = 16 ^ length others

    shifted : (n / 16) * 16 ^ length (glyph (n % 16) ∷ others) ≡ ((n / 16) * 16) * power
    shifted = ap (λ x. (n / 16) * x) (pow-suc 16 (length others) ∙ mul_comm power 16) ∙ sym (mul_assoc (n / 16) 16 power)

    whole : (n / 16) * 16 + n % 16 ≡ n
    whole = omega arith

    joined : ((n / 16) * 16) * power + place_value 16 (glyph (n % 16) ∷ others) ≡ n * power + place_value 16 others
    joined = rw ((glyphs (n % 16) (omega arith)).1) (sym (add_assoc (((n / 16) * 16) * power) ((n % 16) * power) (place_value 16 others))
        ∙ ap (λ x. x + place_value 16 others) (sym (add-mul ((n / 16) * 16) (n % 16) power) ∙ ap (λ x. x * power) whole))

digits_are : (k j n : ℕ) (others : Text) → n < 16 ^ suc j → j < k → Every is_ascii_hexdigit others → AreHex n (suc j) others (digits_onto k 16 false n others)
digits_are zero j n others h m e = absurd (omega (arith, m))
digits_are (suc k) zero n others h m e = let z : n / 16 ≡ 0 = omega (arith, h) in rw z (last_digit n others z e)
digits_are (suc k) (suc j) n others h m e =
    go (n / 16 == 0) refl (digits_are k j (n / 16) (glyph (n % 16) ∷ others) small (omega (arith, m)) ((glyphs (n % 16) (omega arith)).0, e))
  where
    small : n / 16 < 16 ^ suc j
    small = let p : 16 ^ suc (suc j) ≡ 16 ^ suc j * 16 = pow-suc 16 (suc j) in omega (arith, h, p)

    wider : (t : Text) → AreHex n 1 others t → AreHex n (suc (suc j)) others t
    wider t y = record { every = y.every; value = y.value; some = y.some; few = let m = y.few in omega (arith, m) }

    go : (b : Bool) → (n / 16 == 0) ≡ b → AreHex (n / 16) (suc j) (glyph (n % 16) ∷ others) (digits_onto k 16 false (n / 16) (glyph (n % 16) ∷ others))
        → AreHex n (suc (suc j)) others (cond b (glyph (n % 16) ∷ others) (digits_onto k 16 false (n / 16) (glyph (n % 16) ∷ others)))
    go true f y = wider _ (last_digit n others (eqb-true (n / 16) 0 f) e)
    go false f y = digit_before n (suc j) others _ y

-- one to six hexadecimal digits, in braces
pub unicode_written : (h : Text) (c : ℕ) (next : Text) → Every is_ascii_hexdigit h → 1 ≤ length h → length h ≤ 6 → place_value 16 h ≡ c → scalar c ≡ true
    → UnicodeEscape (codes "\\u{" ++ (h ++ codes "}")) next c
unicode_written [] c next e some few v s = absurd (omega (arith, some))
unicode_written (d ∷ h) c next e some few v s = record {
  rest = 117 ∷ 123 ∷ ((d ∷ h) ++ codes "}");
  split = refl;
  spelled = record {
    rest = 123 ∷ ((d ∷ h) ++ codes "}");
    split = refl;
    spelled = record {
      rest = (d ∷ h) ++ codes "}";
      split = refl;
      spelled = record {
        value = c;
        left = d ∷ h;
        right = codes "}";
        split = refl;
        first = record { value = d ∷ h; spelled = record { same = refl; every = e; longest = refl }; meant = rw (le-leb (length (d ∷ h)) 6 few, v, s) refl };
        second = (refl, refl);
      };
    };
  };
}

-- a character by its number, without leading zeros
pub character_written : (c : ℕ) (next : Text) → scalar c ≡ true → UnicodeEscape (codes "\\u{" ++ (digits 16 false c ++ codes "}")) next c
unfolding digits
character_written c next s =
    let y = digits_are 64 5 c [] (below c (scalar_cases c s)) (omega arith) tt in
    let v : place_value 16 (digits_onto 64 16 false c []) ≡ c = y.value ∙ omega arith in
    unicode_written (digits_onto 64 16 false c []) c next y.every y.some y.few v s
  where
    below : (c : ℕ) → (c < 55296) ⊎ ((57344 ≤ c) × (c < 1114112)) → c < 16 ^ 6
    below c (inl h) = omega (arith, h)
    below c (inr h) = omega (arith, h.1)

-- a byte by two digits
pub byte_written : (b : ℕ) (next : Text) → b < 256 → HexByte (codes "\\x" ++ (digit_glyph false (b / 16) ∷ digit_glyph false (b % 16) ∷ [])) next b
byte_written b next h =
    let high = glyphs (b / 16) (omega (arith, h)) in
    let low = glyphs (b % 16) (omega arith) in
    let whole : (b / 16) * 16 + b % 16 ≡ b = omega arith in
    record {
      rest = 120 ∷ glyph (b / 16) ∷ glyph (b % 16) ∷ [];
      split = refl;
      spelled = record {
        rest = glyph (b / 16) ∷ glyph (b % 16) ∷ [];
        split = refl;
        spelled = record {
          value = b / 16;
          left = glyph (b / 16) ∷ [];
          right = glyph (b % 16) ∷ [];
          split = refl;
          first = record { value = glyph (b / 16); spelled = refl; meant = rw (high.0, high.1) refl };
          second = record {
            value = b % 16;
            spelled = record { value = glyph (b % 16); spelled = refl; meant = rw (low.0, low.1) refl };
            meant = ap (λ x. Some x) whole;
          };
        };
      };
    }

-- ---- char literals

-- a character that is no backslash, as it is
pub char_as_it_is : (c : ℕ) (next : Text) → (c == 92) ≡ false → Char (39 ∷ c ∷ 39 ∷ []) next c
char_as_it_is c next e = record {
  rest = c ∷ 39 ∷ [];
  split = refl;
  spelled = record {
    value = c;
    left = c ∷ [];
    right = 39 ∷ [];
    split = refl;
    first = inr (record { value = c; spelled = refl; meant = rw e refl });
    second = (refl, refl);
  };
}

-- a character by its escape
pub char_escaped : (w : Text) (c : ℕ) (next : Text) → Escape HexAscii UnicodeEscape w (39 ∷ next) c → Char (39 ∷ (w ++ 39 ∷ [])) next c
char_escaped w c next l = record {
  rest = w ++ 39 ∷ [];
  split = refl;
  spelled = record { value = c; left = w; right = 39 ∷ []; split = refl; first = inl l; second = (refl, refl) };
}

-- ---- pieces by an escape

pub string_by_letter : (letter c : ℕ) (next : Text) → escape_meaning letter ≡ Some c → StringPiece itself StringEscape (92 ∷ letter ∷ []) next (c ∷ [])
string_by_letter letter c next e = inr (inl (record { value = c; spelled = inr (inr (plain_written letter c next e)); meant = refl }))

pub string_by_number : (c : ℕ) (next : Text) → scalar c ≡ true
    → StringPiece itself StringEscape (codes "\\u{" ++ (digits 16 false c ++ codes "}")) next (c ∷ [])
string_by_number c next e = inr (inl (record { value = c; spelled = inr (inl (character_written c next e)); meant = refl }))

pub bytes_by_letter : (letter c : ℕ) (next : Text) → escape_meaning letter ≡ Some c → StringPiece encode_utf8 ByteStringEscape (92 ∷ letter ∷ []) next (c ∷ [])
bytes_by_letter letter c next e = inr (inl (inr (record { value = c; spelled = inr (inr (plain_written letter c next e)); meant = refl })))

pub bytes_by_digits : (b : ℕ) (next : Text) → b < 256
    → StringPiece encode_utf8 ByteStringEscape (codes "\\x" ++ (digit_glyph false (b / 16) ∷ digit_glyph false (b % 16) ∷ [])) next (b ∷ [])
bytes_by_digits b next h = inr (inl (inr (record { value = b; spelled = inl (byte_written b next h); meant = refl })))

-- ---- raw strings

abbrev is_hash : ℕ → Bool
is_hash c = c == 35

-- behind no character of the text do so many hashes stand
abbrev pub FewHashes : ℕ → Text → Type 0
FewHashes n [] = Unit {0}
FewHashes n (c ∷ t) = (length (run_of (λ d. d == 35) t) < n) × FewHashes n t

too_few : (n : ℕ) (t u : Text) → length (run_of is_hash t) < n → begins_with (hashes n) (t ++ 34 ∷ u) ≡ false
too_few zero t u h = absurd (omega (arith, h))
too_few (suc n) [] u h = refl
too_few (suc n) (c ∷ t) u h = go (c == 35) refl (too_few n t u)
  where
    go : (b : Bool) → (c == 35) ≡ b → (length (run_of is_hash t) < n → begins_with (hashes n) (t ++ 34 ∷ u) ≡ false)
        → ((c == 35) && begins_with (hashes n) (t ++ 34 ∷ u)) ≡ false
    go true k f = let m : length (run_of is_hash (c ∷ t)) ≡ suc (length (run_of is_hash t)) = rw k refl in rw (k, f (omega (arith, h, m))) refl
    go false k f = rw k refl

-- then a quote and so many hashes stand at the end alone
pub ends_alone : (n : ℕ) (t : Text) → FewHashes n t → EndsAlone (34 ∷ hashes n) t
ends_alone n [] h = tt
ends_alone n (c ∷ t) h = (rw (too_few n t (hashes n) h.0) (and-false (c == 34)), ends_alone n t h.1)

pub raw_written : (n : ℕ) (t next : Text) → FewHashes n t → Raw (hashes n ++ 34 ∷ (t ++ 34 ∷ hashes n)) next t
raw_written n t next h = record { count = n; same = refl; alone = ends_alone n t h }
