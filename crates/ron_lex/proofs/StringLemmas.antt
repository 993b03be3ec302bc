-- Strings and byte strings piece by piece: plain characters, what a backslash begins, and the closing quote.
use Rattle.std.specs.Prelude.{◌==◌}
use Rattle.std.proofs.Common.{◌≡◌, ℕ, ◌<◌, Bool, true, false, not, ◌||◌, cond, length, List, [], ◌∷◌, ◌++◌, codes, chars, IsUtf8, encode_utf8, encode_utf8_all}
use Rattle.std.proofs.Common.{◌&&◌, flat_map, refl, sym, ap, ◌∙◌, arith, append_assoc, append-nil, length-append, eqb-true}
use Rattle.std.proofs.lemmas.Bool.{or_parts}
use Rattle.std.proofs.lemmas.Str.{encodes-chars}
use Rattle.ron_spec_words.specs.Characters.{Text}
use Rattle.ron_spec_words.specs.Runs.{begins, is_at, begins_with, run_of, after_run}
use Rattle.ron_spec_words.specs.Lang.{Lang}
use Rattle.ron_spec_words.specs.Reader.{bad, deep, Got, got, failed, Reader, meant}
use Rattle.ron_spec_words.specs.Exact.{IsWordReader}
use Rattle.ron_spec_words.specs.Quoted.{Pieces, close, piece, append, pieces, string_piece, StringPiece, itself, quoted_string, string, quoted_bytes}
use Rattle.ron_spec_words.specs.Quoted.{byte_string, raw, utf8}
use Rattle.ron_spec_words.proofs.Escapes.{AllEscaped, is_mark}
use Rattle.ron_spec_words.proofs.Quotes.{IsPieceReader, piece_reader, word_pieces}
use Rattle.ron_spec_words.proofs.PieceSteps.{IsPlain, pieces-more, pieces-run, pieces-fault, meant-twice}
use Rattle.ron_lex_text.specs.declared.text.Class.TheVariants.{Plain, Unquoted}
use Rattle.ron_lex_text.specs.Stretch.{IsSuffix, in_class, is_ended}
use Rattle.ron_lex.specs.Content.{IsContent}
use Rattle.ron_lex.specs.Quoted.{escape_piece, opens_escape, string_content, bytes_content}
use Rattle.ron_spec_words.proofs.Words.{after-run}
use Rattle.ron_lex_text.proofs.StretchLemmas.{run_front}

abbrev pub plain : ℕ → Bool
plain c = in_class Plain c

run-is-plain : (s : Text) → IsPlain (run_of plain s)
run-is-plain [] = tt
run-is-plain (c ∷ s) = go ((c == 34) || (c == 92)) refl (run-is-plain s)
  where
    go : (b : Bool) → ((c == 34) || (c == 92)) ≡ b → IsPlain (run_of plain s) → IsPlain (cond (not b) (c ∷ run_of plain s) [])
    go true e h = tt
    go false e h = let k = or_parts (c == 34) (c == 92) e in (k.0, k.1, h)

-- a text without plain characters in front, a backslash and a quote has ended
nothing_left : (s : Text) → begins plain s ≡ false → is_at 92 s ≡ false → is_at 34 s ≡ false → s ≡ []
nothing_left [] e f g = refl
nothing_left (c ∷ s) e f g = absurd (let k : true ≡ false = rw (g, f) at e in cc)

-- where neither ends a text nor a quote stands, a backslash does
pub at_backslash : (s : Text) → begins plain s ≡ false → is_at 34 s ≡ false → is_ended s ≡ false → is_at 92 s ≡ true
at_backslash [] e f g = absurd (cc)
at_backslash (c ∷ s) e f g = go (c == 92) (rw f at e)
  where
    go : (b : Bool) → not b ≡ false → b ≡ true
    go true h = refl
    go false h = absurd (cc)

module _ (give : ℕ → Text) (e : Reader Text) (E : Lang Text) (h : AllEscaped is_mark E) (k : IsWordReader e E) where
  abbrev P : Reader Text
  P = pieces (string_piece give e)

  reader : IsPieceReader (string_piece give e) (StringPiece give E)
  reader = piece_reader give h k

  backslash : (s : Text) → is_at 92 s ≡ true → string_piece give e s ≡ escape_piece e s
  backslash s f = rw f refl

  no_quote : (s : Text) → is_at 92 s ≡ true → is_at 34 s ≡ false
  no_quote [] f = refl
  no_quote (c ∷ s) f = let same : c ≡ 92 = eqb-true c 92 f in rw same refl

  -- the plain characters at the start
  from_front : (s front rest : Text) → rest ≡ after_run plain s → s ≡ front ++ rest → P s ≡ meant (P rest) (append (flat_map give front))
  from_front s front rest f g =
      let same : front ≡ run_of plain s = run_front plain s front rest f g in
      ap P (g ∙ ap (λ x. x ++ rest) same) ∙ pieces-run give e E h k (run_of plain s) rest (run-is-plain s)
      ∙ ap (λ x. meant (P rest) (append (flat_map give x))) (sym same)

  -- what a backslash begins, and the plain characters behind it
  from_backslash : (start s u front rest so_far a : Text) → P start ≡ meant (P s) (append so_far) → is_at 92 s ≡ true → escape_piece e s ≡ got a u
      → rest ≡ after_run plain u → u ≡ front ++ rest → P start ≡ meant (P rest) (append (so_far ++ (a ++ flat_map give front)))
  from_backslash start s u front rest so_far a f g m n o =
      pieces-more (string_piece give e) (StringPiece give E) reader start s a u so_far f (no_quote s g) (backslash s g ∙ m)
      ∙ ap (λ x. meant x (append (so_far ++ a))) (from_front u front rest n o)
      ∙ meant-twice (P rest) (so_far ++ a) (flat_map give front)
      ∙ ap (λ x. meant (P rest) (append x)) (append_assoc so_far a (flat_map give front))

  refused_piece : (start s so_far : Text) → P start ≡ meant (P s) (append so_far) → is_at 92 s ≡ true → escape_piece e s ≡ failed bad → P start ≡ failed bad
  refused_piece start s so_far f g m =
      f ∙ ap (λ x. meant x (append so_far)) (pieces-fault (string_piece give e) (StringPiece give E) reader s bad (no_quote s g) (backslash s g ∙ m))

  -- the closing quote
  closed : (start s behind so_far : Text) → P start ≡ meant (P s) (append so_far) → s ≡ 34 ∷ behind → P start ≡ got so_far behind
  closed start s behind so_far f g = f ∙ ap (λ x. meant (P x) (append so_far)) g ∙ ap (λ x. got x behind) (append-nil so_far)

  unclosed : (start s so_far : Text) → P start ≡ meant (P s) (append so_far) → begins plain s ≡ false → is_at 92 s ≡ false → is_at 34 s ≡ false
      → P start ≡ failed bad
  unclosed start s so_far f g m n = f ∙ ap (λ x. meant (P x) (append so_far)) (nothing_left s g m n)

  -- ---- a text without a quote

  quote_stays : (t s : Text) → is_ended (after_run (in_class Unquoted) s) ≡ false → is_ended (after_run (in_class Unquoted) (t ++ s)) ≡ false
  quote_stays [] s f = f
  quote_stays (c ∷ t) s f = go (c == 34) (quote_stays t s f)
    where
      go : (b : Bool) → is_ended (after_run (in_class Unquoted) (t ++ s)) ≡ false
          → is_ended (cond (not b) (after_run (in_class Unquoted) (t ++ s)) (c ∷ (t ++ s))) ≡ false
      go true m = refl
      go false m = m

  holds_quote : {t next a : Text} → Pieces (StringPiece give E) t next a → (s : Text) → is_ended (after_run (in_class Unquoted) (t ++ s)) ≡ false
  holds_quote close s = refl
  holds_quote (piece t u next a b p q) s = rw (append_assoc t u s) (quote_stays t (u ++ s) (holds_quote q s))

  no_end : (s : Text) → is_ended (after_run (in_class Unquoted) s) ≡ true → P s ≡ failed bad
  no_end s f = go (P s) refl
    where
      word : IsWordReader P (Pieces (StringPiece give E))
      word = word_pieces (string_piece give e) (StringPiece give E) reader

      go : (o : Got Text) → P s ≡ o → o ≡ failed bad
      go (got a rest) m =
          let y = word.sound s a rest m in
          absurd (let z : true ≡ false = sym f ∙ ap (λ x. is_ended (after_run (in_class Unquoted) x)) y.split ∙ holds_quote y.spelled rest in cc)
      go (failed bad) m = refl
      go (failed deep) m = absurd (word.calm s m)

-- a text without a quote behind its plain characters has none
pub no_quote_behind : (s rest : Text) → rest ≡ after_run plain s → after_run (in_class Unquoted) s ≡ after_run (in_class Unquoted) rest
no_quote_behind [] rest e = rw e refl
no_quote_behind (c ∷ s) rest e = go (c == 34) (c == 92) refl refl (λ f. no_quote_behind s rest f) e
  where
    go : (a b : Bool) → (c == 34) ≡ a → (c == 92) ≡ b → (rest ≡ after_run plain s → after_run (in_class Unquoted) s ≡ after_run (in_class Unquoted) rest)
        → rest ≡ cond (not (a || b)) (after_run plain s) (c ∷ s) → after_run (in_class Unquoted) (c ∷ s) ≡ after_run (in_class Unquoted) rest
    go true b f g ih k = rw k refl
    go false true f g ih k = rw k refl
    go false false f g ih k = rw f (ih k)

-- ---- the content of a string or a byte string, behind its opening quote

module _ {C : Reader Text} {give : ℕ → Text} {e : Reader Text} {E : Lang Text} (z : IsContent C give e E) where
  pub content_reader : IsPieceReader (string_piece give e) (StringPiece give E)
  content_reader = piece_reader give z.escaped z.is_word

  -- the plain characters at the start
  pub content_starts : (s front given rest content old : Text) → given ≡ flat_map give front → rest ≡ after_run plain s → s ≡ front ++ rest
      → content ≡ old ++ ([] ++ given) → old ≡ [] → C s ≡ meant (C rest) (append content)
  content_starts s front given rest content old w f g m n =
      let whole : content ≡ flat_map give front = m ∙ ap (λ x. x ++ given) n ∙ w in
      rw (z.pieces_are, whole) (from_front give e E z.escaped z.is_word s front rest f g)

  -- what a backslash begins, and the plain characters behind it
  pub content_turns : (start s u front given rest so_far content a : Text) → given ≡ flat_map give front → C start ≡ meant (C s) (append so_far)
      → is_at 92 s ≡ true → escape_piece e s ≡ got a u → rest ≡ after_run plain u → u ≡ front ++ rest → content ≡ so_far ++ (a ++ given)
      → C start ≡ meant (C rest) (append content)
  content_turns start s u front given rest so_far content a w f g m n o k =
      let whole : content ≡ so_far ++ (a ++ flat_map give front) = k ∙ ap (λ x. so_far ++ (a ++ x)) w in
      rw (z.pieces_are, whole) (from_backslash give e E z.escaped z.is_word start s u front rest so_far a (rw z.pieces_are at f) g m n o)

  pub piece_end : (s u a : Text) → is_at 92 s ≡ true → escape_piece e s ≡ got a u → IsSuffix u s
  piece_end s u a g m = let y = content_reader.is_word.sound s a u (rw g m) in record { front = y.stretch; is = y.split }

  pub piece_shorter : (s u a : Text) → is_at 92 s ≡ true → escape_piece e s ≡ got a u → length u < length s
  piece_shorter s u a g m =
      let y = content_reader.is_word.sound s a u (rw g m) in
      omega (arith, content_reader.some_length y.stretch u a y.spelled, ap length y.split, length-append y.stretch u)

  pub content_refused : (start s so_far : Text) → C start ≡ meant (C s) (append so_far) → is_at 92 s ≡ true → escape_piece e s ≡ failed bad
      → C start ≡ failed bad
  content_refused start s so_far f g m = rw z.pieces_are (refused_piece give e E z.escaped z.is_word start s so_far (rw z.pieces_are at f) g m)

  -- the closing quote
  pub content_closed : (start s behind so_far : Text) → C start ≡ meant (C s) (append so_far) → s ≡ 34 ∷ behind → C start ≡ got so_far behind
  content_closed start s behind so_far f g = rw z.pieces_are (closed give e E z.escaped z.is_word start s behind so_far (rw z.pieces_are at f) g)

  pub content_unclosed : (start s so_far : Text) → C start ≡ meant (C s) (append so_far) → begins plain s ≡ false → is_at 92 s ≡ false → is_at 34 s ≡ false
      → C start ≡ failed bad
  content_unclosed start s so_far f g m n = rw z.pieces_are (unclosed give e E z.escaped z.is_word start s so_far (rw z.pieces_are at f) g m n)

  -- where no escape stands
  pub content_plain : (s front given rest behind : Text) → given ≡ flat_map give front → rest ≡ after_run plain s → s ≡ front ++ rest → rest ≡ 34 ∷ behind
      → C s ≡ got given behind
  content_plain s front given rest behind w f g m = content_closed s rest behind given (content_starts s front given rest given [] w f g refl refl) m

  -- where no quote stands
  pub content_endless : (s rest : Text) → rest ≡ after_run plain s → is_ended (after_run (in_class Unquoted) rest) ≡ true → C s ≡ failed bad
  content_endless s rest f g = rw z.pieces_are (no_end give e E z.escaped z.is_word s (ap is_ended (no_quote_behind s rest f) ∙ g))

-- a character of a string gives itself
pub itself_given : (t : Text) → t ≡ flat_map itself t
itself_given [] = refl
itself_given (c ∷ t) = ap (λ x. c ∷ x) (itself_given t)

-- the characters of a text give its bytes
pub utf8_given : (bs : List ℕ) → IsUtf8 bs → bs ≡ flat_map encode_utf8 (chars bs)
utf8_given bs u = sym (encodes-chars bs u) ∙ sym (flat_map-utf8 (chars bs))
  where
    flat_map-utf8 : (t : Text) → flat_map encode_utf8 t ≡ encode_utf8_all t
    flat_map-utf8 [] = refl
    flat_map-utf8 (c ∷ t) = ap (λ x. encode_utf8 c ++ x) (flat_map-utf8 t)

-- ---- whole strings

pub string_quoted : (s content : Text) → s ≡ 34 ∷ content → string s ≡ string_content content
unfolding string quoted_string string_content
string_quoted s content e = rw e refl

pub string_raw : (s marked : Text) → s ≡ 114 ∷ marked → string s ≡ raw marked
unfolding string
string_raw s marked e = rw e refl

pub string_none : (s : Text) → is_at 34 s ≡ false → is_at 114 s ≡ false → string s ≡ failed bad
unfolding string
string_none [] e f = refl
string_none (c ∷ s) e f = rw (e, f) refl

pub byte_string_quoted : (s content : Text) → s ≡ 98 ∷ 34 ∷ content → byte_string s ≡ bytes_content content
unfolding byte_string quoted_bytes bytes_content
byte_string_quoted s content e = rw e refl

-- a raw one gives the UTF-8 of its text
pub byte_string_raw : (s marked rest : Text) (bytes : List ℕ) → IsUtf8 bytes → s ≡ 98 ∷ 114 ∷ marked → raw marked ≡ got (chars bytes) rest
    → byte_string s ≡ got bytes rest
unfolding byte_string
byte_string_raw s marked rest bytes u e f = rw e (ap (λ o. meant o utf8) f ∙ ap (λ x. got x rest) (encodes-chars bytes u))

pub byte_string_raw_failed : (s marked : Text) → s ≡ 98 ∷ 114 ∷ marked → raw marked ≡ failed bad → byte_string s ≡ failed bad
unfolding byte_string
byte_string_raw_failed s marked e f = rw e (ap (λ o. meant o utf8) f)

pub byte_string_none : (s : Text) → begins_with (codes "b\"") s ≡ false → begins_with (codes "br") s ≡ false → byte_string s ≡ failed bad
unfolding byte_string
byte_string_none [] e f = refl
byte_string_none (c ∷ []) e f = same (c == 98)
  where
    same : (b : Bool) → cond {A = Got Text} b (failed bad) (failed bad) ≡ failed bad
    same true = refl
    same false = refl
byte_string_none (c ∷ d ∷ s) e f = go (c == 98) (d == 34) (d == 114) (quoted_bytes (d ∷ s)) (meant (raw s) utf8) e f
  where
    go : (a b r : Bool) (o g : Got Text) → (a && (b && true)) ≡ false → (a && (r && true)) ≡ false
        → cond a (cond b o (cond r g (failed bad))) (failed bad) ≡ failed bad
    go true true r o g h k = absurd (cc)
    go true false true o g h k = absurd (cc)
    go true false false o g h k = refl
    go false b r o g h k = refl

-- a quote stands somewhere, and none behind the plain characters: there stands a backslash
pub quote_or_escape : (s rest : Text) → rest ≡ after_run plain s → is_at 34 rest ≡ false → is_ended (after_run (in_class Unquoted) rest) ≡ false
    → opens_escape s ≡ true
quote_or_escape s rest e f g = ap (is_at 92) (sym e) ∙ at_backslash rest (ap (begins plain) e ∙ after-run plain s) f (not_ended rest g)
  where
    not_ended : (u : Text) → is_ended (after_run (in_class Unquoted) u) ≡ false → is_ended u ≡ false
    not_ended [] h = h
    not_ended (c ∷ u) h = refl
