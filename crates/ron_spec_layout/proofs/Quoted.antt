-- Characters, strings and bytes as they are written are spelled by the literals' languages: for `Places`, `Written` and `Values`.
use Rattle.std.proofs.Common.{◌≡◌, ℕ, suc, nat_le, nat_lt, ◌==◌, Bool, true, false, ◌||◌, [], ◌∷◌, ◌++◌, flat_map, encode_utf8, Option, Some, None, inl, inr}
use Rattle.std.proofs.Common.{refl, sym, ap, subst, arith, eqb-true, leb-true}
use Rattle.std.specs.List.{list_all}
use Rattle.std.proofs.lemmas.Bool.{and_parts, or_parts, cond_both}
use Rattle.std.proofs.lemmas.Str.{encode_ascii}
use lib.Utf8.{scalar}
use Rattle.ron_spec_words.specs.Characters.{Text}
use Rattle.ron_spec_words.specs.Gap.{skip}
use Rattle.ron_spec_words.specs.Lang.{Lang}
use Rattle.ron_spec_words.specs.Escape.{escape_meaning}
use Rattle.ron_spec_words.specs.Quoted.{Char, Pieces, StringPiece, itself, StringEscape, ByteStringEscape, String, ByteString}
use Rattle.ron_spec_words.proofs.Words.{First}
use Rattle.ron_spec_words.proofs.Gaps.{skip-other}
use Rattle.ron_spec_words.proofs.LiteralStarts.{first_char}
use Rattle.ron_spec_words.proofs.LiteralsWritten.{pieces_in_row, piece_plain, plain_written, char_as_it_is, char_escaped, string_by_letter, string_by_number}
use Rattle.ron_spec_words.proofs.LiteralsWritten.{bytes_by_letter, bytes_by_digits}
use Rattle.ron_spec_words.proofs.TokenRuns.{every_of}
use Rattle.ron_spec_words.proofs.Slices.{flat_map-itself}
use Rattle.ron_base.specs.declared.escape.Quotes.TheVariants.{Both}
use Rattle.ron_base.specs.Escape.{short_escape, is_hidden, numbered, escaped_as, escaped_char, is_printed, escaped_byte}
use Rattle.ron_spec_layout.specs.Literals.{written_char, written_string, written_bytes}
use Rattle.ron_spec_layout.specs.Stand.{Stands, Ends}
use Rattle.ron_spec_layout.proofs.Stands.{at_once, whole}

or_turned : (a b c : Bool) → (a || b) ≡ true → (b || (c || a)) ≡ true
or_turned a b c e = grind arith

-- ---- strings

-- what the letter behind the backslash means; where there is none, the character is no quote and no backslash
abbrev HasEscape : ℕ → Option ℕ → Type 0
HasEscape c (Some letter) = escape_meaning letter ≡ Some c
HasEscape c None = ((c == 34) ≡ false) × ((c == 92) ≡ false)

has_escape : (c : ℕ) → HasEscape c (short_escape Both c)
unfolding short_escape
has_escape c =
    cond_both (c == 0) _ _ P (means 0) (λ _.
    cond_both (c == 9) _ _ P (means 9) (λ _.
    cond_both (c == 13) _ _ P (means 13) (λ _.
    cond_both (c == 10) _ _ P (means 10) (λ _.
    cond_both (c == 92) _ _ P (means 92) (λ no_backslash.
    cond_both (c == 39) _ _ P (means 39) (λ _.
    cond_both (c == 34) _ _ P (means 34) (λ no_quote. (no_quote, no_backslash))))))))
  where
    P : Option ℕ → Type 0
    P = HasEscape c

    means : (n : ℕ) → (c == n) ≡ true → Some n ≡ Some c
    means n e = ap (λ k. Some k) (sym (eqb-true c n e))

-- each character of a string as it is written is a piece
character_piece : (c : ℕ) (next : Text) → scalar c ≡ true → StringPiece itself StringEscape (escaped_char Both c) next (itself c)
unfolding escaped_char
character_piece c next h = go (short_escape Both c) (has_escape c)
  where
    go : (o : Option ℕ) → HasEscape c o → StringPiece itself StringEscape (escaped_as c o) next (c ∷ [])
    go (Some letter) e = string_by_letter letter c next e
    go None e = cond_both (is_hidden c) (numbered c) (c ∷ []) (λ t. StringPiece itself StringEscape t next (c ∷ [])) (λ _. string_by_number c next h)
        (λ _. piece_plain itself StringEscape c next e.0 e.1)

pub string_written : (t next : Text) → list_all scalar t ≡ true → String (written_string t) next t
string_written t next h =
    inl (record {
      rest = _;
      split = refl;
      spelled = subst (λ u. Pieces (StringPiece itself StringEscape) (flat_map (escaped_char Both) t ++ 34 ∷ []) next u) (flat_map-itself t)
          (pieces_in_row (StringPiece itself StringEscape) itself (escaped_char Both) scalar character_piece t next (every_of scalar t h));
    })

-- ---- bytes

abbrev pub is_byte : ℕ → Bool
is_byte b = nat_lt b 256

-- each byte as it is written is a piece
byte_piece : (b : ℕ) (next : Text) → is_byte b ≡ true → StringPiece encode_utf8 ByteStringEscape (escaped_byte b) next (itself b)
unfolding escaped_byte
byte_piece b next h =
    cond_both (b == 9) _ _ P (by_letter 116 9 refl) (λ _.
    cond_both (b == 13) _ _ P (by_letter 114 13 refl) (λ _.
    cond_both (b == 10) _ _ P (by_letter 110 10 refl) (λ _.
    cond_both ((b == 39) || ((b == 34) || (b == 92))) _ _ P (λ e. bytes_by_letter b b next (rw e refl)) (λ e.
    cond_both (is_printed b) _ _ P (plain (or_parts (b == 39) _ e).1) (λ _. bytes_by_digits b next (omega (arith, leb-true (suc b) 256 h)))))))
  where
    P : Text → Type 0
    P t = StringPiece encode_utf8 ByteStringEscape t next (b ∷ [])

    by_letter : (letter n : ℕ) → escape_meaning letter ≡ Some n → (b == n) ≡ true → P (92 ∷ letter ∷ [])
    by_letter letter n m e = bytes_by_letter letter b next (rw (eqb-true b n e) m)

    plain : ((b == 34) || (b == 92)) ≡ false → is_printed b ≡ true → P (b ∷ [])
    plain e p =
        let no = or_parts (b == 34) (b == 92) e in
        let small = leb-true b 126 (and_parts (nat_le 32 b) (nat_le b 126) p).1 in
        subst (λ u. StringPiece encode_utf8 ByteStringEscape (b ∷ []) next u) (encode_ascii b (omega (arith, small)))
        (piece_plain encode_utf8 ByteStringEscape b next no.0 no.1)

pub bytes_written : (bs next : Text) → list_all is_byte bs ≡ true → ByteString (written_bytes bs) next bs
bytes_written bs next h = record {
  rest = _;
  split = refl;
  spelled = inl (record {
    rest = _;
    split = refl;
    spelled = subst (λ u. Pieces (StringPiece encode_utf8 ByteStringEscape) (flat_map escaped_byte bs ++ 34 ∷ []) next u) (flat_map-itself bs)
        (pieces_in_row (StringPiece encode_utf8 ByteStringEscape) itself escaped_byte is_byte byte_piece bs next (every_of is_byte bs h));
  });
}

-- ---- characters

pub char_written : (c : ℕ) (next : Text) → Char (written_char c) next c
char_written c next = cond_both ((c == 92) || (c == 39)) _ _ (λ t. Char t next c)
    (λ e. char_escaped (92 ∷ c ∷ []) c next (inr (inr (plain_written c c (39 ∷ next) (rw (or_turned (c == 92) (c == 39) (c == 34) e) refl)))))
    (λ e. char_as_it_is c next (or_parts (c == 92) (c == 39) e).0)

-- ---- literals stand by themselves

-- a word that no gap begins
pub word_stands : {A : Type 0} {L : Lang A} {text next : Text} {a : A} → First (λ s. skip s ≡ s) L → L text next a → Ends next
    → Stands (λ before. L) text next a
word_stands {text = text} {next = next} {a = a} solid h e = at_once (whole (solid.holds text next a h) e.1 h)

pub char_literal : (c : ℕ) (next : Text) → Ends next → Stands (λ before. Char) (written_char c) next c
char_literal c next e = word_stands (first_char (λ s. skip s ≡ s) (λ s. skip-other 39 s refl refl)) (char_written c next) e
