-- Characters, bytes, strings and byte strings between quotes are read exactly: for the words of literals.
use Rattle.std.proofs.Common.{◌≡◌, ℕ, zero, suc, ◌≤◌, ◌<◌, ◌==◌, Bool, true, false, not, ◌&&◌, ◌||◌, cond, length, [], ◌∷◌, ◌++◌, codes, encode_utf8, Option}
use Rattle.std.proofs.Common.{Some, None, inl, inr, refl, arith, append_assoc, length-append}
use Rattle.std.proofs.lemmas.Bool.{or_parts, or_right}
use Rattle.std.specs.Char.{is_ascii}
use Rattle.ron_spec_words.specs.Characters.{Text}
use Rattle.ron_spec_words.specs.Runs.{is_at, begins_with}
use Rattle.ron_spec_words.specs.Lang.{Lang, Mark, Means, Or, When}
use Rattle.ron_spec_words.specs.Reader.{deep, got, failed, Reader, mark, means}
use Rattle.ron_spec_words.specs.Exact.{Sound, IsWordReader}
use Rattle.ron_spec_words.specs.Directly.{Directly, AnyOne, directly}
use Rattle.ron_spec_words.specs.Quoted.{SingleQuoted, if_no_backslash, if_ascii_no_backslash, Char, Byte, Pieces, close, piece, if_plain, StringPiece, itself}
use Rattle.ron_spec_words.specs.Quoted.{gives, StringEscape, ByteStringEscape, QuotedString, QuotedBytes, single_quoted, char, byte, append, pieces_in, pieces}
use Rattle.ron_spec_words.specs.Quoted.{opens_continuation, string_piece, string_escape, byte_string_escape, quoted_string, quoted_bytes}
use Rattle.ron_spec_words.proofs.Words.{First, meant_calm, sound_like, sound_pick, sound_means, answers_means, word_behind, word_choose, word_means, word_mark}
use Rattle.ron_spec_words.proofs.Words.{word_fail, first_or, first_means, pick_calm}
use Rattle.ron_spec_words.proofs.Classes.{apart}
use Rattle.ron_spec_words.proofs.Direct.{sound_directly, directly-append, directly_calm, word_directly, word_any, first_any}
use Rattle.ron_spec_words.proofs.Escapes.{word_hex_byte, word_hex_ascii, word_unicode, word_hex_character, word_escape, word_continuation, AllEscaped, Escaped}
use Rattle.ron_spec_words.proofs.Escapes.{escaped_or, escaped_means, escaped_weaker, escaped_byte, escaped_unicode, escaped_character, escaped_escape}
use Rattle.ron_spec_words.proofs.Escapes.{escaped_nothing, escaped_continuation, first_escaped, is_x, is_u, is_plain, is_mark, is_line_end, escaped_plain}
use Rattle.ron_spec_words.proofs.Escapes.{marked, not_marked}

-- ---- one character

-- a character that has a meaning is not the one that has none
pub no_meaning : {A : Type 0} (b : Bool) (o : Option A) (a : A) → cond b None o ≡ Some a → (b ≡ false) × (o ≡ Some a)
no_meaning true o a e = absurd (cc)
no_meaning false o a e = (refl, e)

pub with_meaning : {A : Type 0} (b : Bool) (o : Option A) (a : A) → cond b o None ≡ Some a → o ≡ Some a
with_meaning true o a e = e
with_meaning false o a e = absurd (cc)

word_single : {r : Reader ℕ} {L : Lang ℕ} → IsWordReader r L → IsWordReader (single_quoted r) (SingleQuoted L)
word_single h = word_behind 39 _ _ (word_directly _ _ _ _ h (λ c. word_mark 39 c))

slash_first : {A : Type 0} {L : Lang A} {p : ℕ → Bool} → AllEscaped p L → First (λ s. is_at 92 s ≡ true) L
slash_first h = first_escaped (λ s. is_at 92 s ≡ true) (λ c s k. refl) h

pub word_char : IsWordReader char Char
unfolding char
word_char = word_single (word_choose (is_at 92) (slash_first (escaped_escape (escaped_means escaped_byte) escaped_unicode))
    (first_any (λ s. is_at 92 s ≡ false) if_no_backslash (λ c s a k. (no_meaning (c == 92) (Some c) a k).0))
    (word_escape (escaped_means escaped_byte) escaped_unicode word_hex_ascii word_unicode)
    (word_means if_no_backslash word_any))

pub word_byte : IsWordReader byte Byte
unfolding byte
word_byte = word_behind 98 _ _ (word_single (word_choose (is_at 92) (slash_first (escaped_escape escaped_byte escaped_nothing))
    (first_any (λ s. is_at 92 s ≡ false) if_ascii_no_backslash
    (λ c s a k. (no_meaning (c == 92) (Some c) a (with_meaning (is_ascii c) (if_no_backslash c) a k)).0))
    (word_escape escaped_byte escaped_nothing word_hex_byte word_fail)
    (word_means if_ascii_no_backslash word_any)))

-- ---- pieces up to the closing quote

-- what the reader function of pieces needs of a piece
pub record IsPieceReader (r : Reader Text) (P : Lang Text) : Type 0 where
  pub is_word : IsWordReader r P
  pub no_quote : First (λ s. is_at 34 s ≡ false) P
  pub some_length : (t next a : Text) → P t next a → 1 ≤ length t

append_is : (a b c : Text) → append a b ≡ Some c → a ++ b ≡ c
append_is a b c e = cc

module _ (r : Reader Text) (P : Lang Text) (h : IsPieceReader r P) where
  pieces_of : (t next b : Text) → Or (When (is_at 34) (Mark 34 [])) (When (λ s. not (is_at 34 s)) (Directly P (λ a. Means (Pieces P) (append a)))) t next b
      → Pieces P t next b
  pieces_of t next b (inl z) = rw (z.1.0, ← z.1.1) close
  pieces_of t next b (inr z) = let d = z.1 in
      rw (d.split, ← append_is d.value d.second.value b d.second.meant) (piece d.left d.right next d.value d.second.value d.first d.second.spelled)

  pieces_sound : (fuel : ℕ) → Sound (pieces_in r fuel) (Pieces P)
  pieces_sound zero s b rest e = absurd (cc)
  pieces_sound (suc fuel) s b rest e =
      sound_like _ (Or (When (is_at 34) (Mark 34 [])) (When (λ s. not (is_at 34 s)) (Directly P (λ a. Means (Pieces P) (append a))))) (Pieces P) pieces_of
      (sound_pick (is_at 34) (mark 34 []) (directly r (λ a. means (pieces_in r fuel) (append a))) (Mark 34 []) (Directly P (λ a. Means (Pieces P) (append a)))
      (word_mark 34 []).sound
      (sound_directly r (λ a. means (pieces_in r fuel) (append a)) P (λ a. Means (Pieces P) (append a)) h.is_word.sound
      (λ a. sound_means (pieces_in r fuel) (Pieces P) (append a) (pieces_sound fuel))))
      s b rest e

  pieces_at : (fuel : ℕ) {t next b : Text} → Pieces P t next b → length t < fuel → pieces_in r fuel (t ++ next) ≡ got b next
  pieces_at zero x m = absurd (omega (arith, m))
  pieces_at (suc fuel) close m = refl
  pieces_at (suc fuel) {next = next} (piece t u next' a b p q) m =
      let few : length u < fuel = omega (arith, m, length-append t u, h.some_length t (u ++ next') a p) in
      let e : is_at 34 ((t ++ u) ++ next') ≡ false = rw (append_assoc t u next') (h.no_quote.holds t (u ++ next') a p) in
      rw e (directly-append r (λ a. means (pieces_in r fuel) (append a)) t u next' a (a ++ b) (h.is_word.complete t (u ++ next') a p)
      (answers_means (pieces_in r fuel) (append a) u next' b (a ++ b) refl (record { answer = pieces_at fuel q few })))

  pieces_calm : (fuel : ℕ) (s : Text) → pieces_in r fuel s ≡ failed deep → ⊥
  pieces_calm zero s e = cc
  pieces_calm (suc fuel) s e =
      pick_calm (is_at 34 s) (mark 34 [] s) (directly r (λ a. means (pieces_in r fuel) (append a)) s) ((word_mark {A = Text} 34 []).calm s)
      (directly_calm r (λ a. means (pieces_in r fuel) (append a)) h.is_word.calm (λ a u k. means_calm fuel a u (pieces_calm fuel u) k) s) e
    where
      means_calm : (fuel : ℕ) (a u : Text) → (pieces_in r fuel u ≡ failed deep → ⊥) → means (pieces_in r fuel) (append a) u ≡ failed deep → ⊥
      means_calm fuel a u f k = meant_calm (pieces_in r fuel u) (append a) f k

  pub word_pieces : IsWordReader (pieces r) (Pieces P)
  word_pieces = record {
    sound = λ s b rest e. pieces_sound (suc (length s)) s b rest e;
    complete = λ t next b l. record { answer = pieces_at (suc (length (t ++ next))) l (omega (arith, length-append t next)) };
    calm = λ s e. pieces_calm (suc (length s)) s e;
  }

-- ---- the pieces of strings and of byte strings

plain_first : (give : ℕ → Text) (P : Text → Type 0) → ((c : ℕ) (s : Text) → (c == 34) ≡ false → (c == 92) ≡ false → P (c ∷ s))
    → First P (Means AnyOne (if_plain give))
plain_first give P k =
    first_any P (if_plain give) (λ c s a e. let f = or_parts (c == 34) (c == 92) (no_meaning ((c == 34) || (c == 92)) (Some (give c)) a e).0 in k c s f.0 f.1)

starts_with_length : (p : ℕ → Bool) (t : Text) → Escaped p t → 1 ≤ length t
starts_with_length p t h = rw h.same (omega arith)

pub piece_reader : (give : ℕ → Text) {e : Reader Text} {E : Lang Text} → AllEscaped is_mark E → IsWordReader e E
    → IsPieceReader (string_piece give e) (StringPiece give E)
piece_reader give {e} {E} h k = record {
  is_word = word_choose opens_continuation
      (first_escaped (λ s. opens_continuation s ≡ true) opens escaped_continuation)
      (first_or (first_escaped (λ s. opens_continuation s ≡ false) opens_not h) (plain_first give (λ s. opens_continuation s ≡ false) (λ c s e f. rw f refl)))
      word_continuation
      (word_choose (is_at 92) (slash_first h) (plain_first give (λ s. is_at 92 s ≡ false) (λ c s e f. f)) k (word_means (if_plain give) word_any));
  no_quote = first_or (first_escaped (λ s. is_at 34 s ≡ false) (λ c s e. refl) escaped_continuation)
      (first_or (first_escaped (λ s. is_at 34 s ≡ false) (λ c s e. refl) h) (plain_first give (λ s. is_at 34 s ≡ false) (λ c s e f. e)));
  some_length = long;
}
  where
    thirteen : (b : Bool) → (b || false) ≡ true → (false || (b && true)) ≡ true
    thirteen true e = refl
    thirteen false e = e

    opens : (c : ℕ) (s : Text) → is_line_end c ≡ true → opens_continuation (92 ∷ c ∷ s) ≡ true
    opens c s k = elim (c == 10)
        as (λ b. ((c == 13) || b) ≡ true → ((b && true) || ((c == 13) && true)) ≡ true) [ true ↦ λ e. refl | false ↦ λ e. thirteen (c == 13) e ] k

    opens_not : (c : ℕ) (s : Text) → is_mark c ≡ true → opens_continuation (92 ∷ c ∷ s) ≡ false
    opens_not c s k = rw (apart is_mark 10 c refl k, apart is_mark 13 c refl k) refl

    long : (t next a : Text) → StringPiece give E t next a → 1 ≤ length t
    long t next a (inl z) = starts_with_length is_line_end t (escaped_continuation.holds t next a z)
    long t next a (inr (inl z)) = starts_with_length is_mark t (h.holds t next a z)
    long t next a (inr (inr z)) = rw z.spelled (omega arith)

pub escaped_string : AllEscaped is_mark StringEscape
escaped_string = escaped_means (escaped_escape escaped_character escaped_unicode)

pub escaped_byte_string : AllEscaped is_mark ByteStringEscape
escaped_byte_string = escaped_or (escaped_means (escaped_weaker is_u is_mark (λ c k. or_right (is_x c) _ (rw k refl)) escaped_unicode))
    (escaped_means (escaped_escape escaped_byte escaped_nothing))

pub word_string_escape : IsWordReader string_escape StringEscape
unfolding string_escape
word_string_escape = word_means (gives itself) (word_escape escaped_character escaped_unicode word_hex_character word_unicode)

pub word_byte_string_escape : IsWordReader byte_string_escape ByteStringEscape
unfolding byte_string_escape
word_byte_string_escape = word_choose (begins_with (codes "\\u")) (first_means (marked 117 escaped_unicode)) (first_means
    (first_or (not_marked 117 is_x refl escaped_byte) (first_or (not_marked 117 is_x refl escaped_nothing) (not_marked 117 is_plain refl escaped_plain))))
    (word_means (gives encode_utf8) word_unicode)
    (word_means (gives itself) (word_escape escaped_byte escaped_nothing word_hex_byte word_fail))

pub word_quoted_string : IsWordReader quoted_string QuotedString
unfolding quoted_string
word_quoted_string = word_behind 34 _ _ (word_pieces _ _ (piece_reader itself escaped_string word_string_escape))

pub word_quoted_bytes : IsWordReader quoted_bytes QuotedBytes
unfolding quoted_bytes
word_quoted_bytes = word_behind 34 _ _ (word_pieces _ _ (piece_reader encode_utf8 escaped_byte_string word_byte_string_escape))
