-- Which strings are slices of the text: for `split_string` and `split_byte_string`, which promise it.
use Rattle.std.specs.Prelude.{◌==◌}
use denote.Ref.{Bor}
use Rattle.std.proofs.Common.{◌≡◌, ℕ, chars, encode_utf8, Result, Ok, Err, IfOk, IfErr, Bool, true, false, not, ◌||◌, List, [], ◌∷◌, ◌++◌, Some, inl, inr, refl}
use Rattle.std.proofs.Common.{sym, ap, ap₂, ◌∙◌, eqb-true}
use Rattle.std.proofs.lemmas.Bool.{or_parts, and_parts, not-true, not-false}
use Rattle.std.proofs.lemmas.List.{append_cancel_right}
use Rattle.ron_spec_words.specs.Characters.{Text}
use Rattle.ron_spec_words.specs.Runs.{is_at, after_run}
use Rattle.ron_spec_words.specs.Lang.{Lang, Or}
use Rattle.ron_spec_words.specs.Reader.{got}
use Rattle.ron_spec_words.specs.Quoted.{Pieces, close, piece, StringPiece, String, string, holds_backslash, holds_escape, itself, StringEscape, ByteString}
use Rattle.ron_spec_words.specs.Quoted.{byte_string, ByteStringEscape, QuotedBytes, RawBytes}
use Rattle.ron_spec_words.proofs.Escapes.{AllEscaped, Escaped, is_mark, escaped_continuation}
use Rattle.ron_spec_words.proofs.Quotes.{no_meaning, word_pieces, escaped_string, escaped_byte_string}
use Rattle.ron_spec_words.proofs.RawStrings.{word_string, word_byte_string}
use Rattle.ron_spec_words.proofs.Slices.{slices_strings, slices_byte_strings}
use Rattle.ron_lex_text.specs.declared.parsed.ParsedStr.{ParsedStr}
use Rattle.ron_lex_text.specs.declared.parsed.ParsedByteStr.{ParsedByteStr}
use Rattle.ron_lex.specs.declared.fault.StringRefusal.{StringRefusal}
use Rattle.ron_lex.specs.declared.fault.StringRefusal.TheVariants.{OutOfMemory}
use Rattle.ron_lex_text.specs.Parsed.{parsed_text, is_slice, parsed_bytes, is_byte_slice}
use Rattle.ron_lex.specs.Quoted.{SplitsOrMemory, opens_escape, opens_escaped_string, opens_escaped_bytes, string_content, IsSliceUnlessEscaped}
use Rattle.ron_lex.specs.Quoted.{StandsBetweenQuotes, StandAsBytes, bytes_content, HoldsEscape}
use Rattle.ron_lex.specs.Content.{string_is, bytes_are}
use Rattle.ron_lex.proofs.StringLemmas.{plain, content_reader}

-- ---- quoted ones

-- a quote stands behind the plain characters exactly where no backslash stands in the pieces
abbrev pub EndsPlainly : Text → Text → Type 0
EndsPlainly t s = is_at 34 (after_run plain (t ++ s)) ≡ not (holds_backslash t)

escaped_ends : (p : ℕ → Bool) (t u s : Text) → Escaped p t → EndsPlainly (t ++ u) s
escaped_ends p t u s h = rw h.same refl

plain_ends : (c : ℕ) (u s : Text) → ((c == 34) || (c == 92)) ≡ false → EndsPlainly u s → EndsPlainly (c ∷ u) s
plain_ends c u s e h = rw (e, (or_parts (c == 34) (c == 92) e).1) h

ends_plainly : (give : ℕ → Text) (E : Lang Text) → AllEscaped is_mark E → {t next a : Text} → Pieces (StringPiece give E) t next a → (s : Text)
    → EndsPlainly t s
ends_plainly give E h close s = refl
ends_plainly give E h (piece t u next a b p q) s = go p (ends_plainly give E h q s)
  where
    go : StringPiece give E t (u ++ next) a → EndsPlainly u s → EndsPlainly (t ++ u) s
    go (inl z) ih = escaped_ends _ t u s (escaped_continuation.holds t (u ++ next) a z)
    go (inr (inl z)) ih = escaped_ends _ t u s (h.holds t (u ++ next) a z)
    go (inr (inr z)) ih = rw z.spelled (plain_ends z.value u s (no_meaning _ (Some (give z.value)) a z.meant).0 ih)

pub quoted_kind : (text content rest a : Text) (slice : Bool) → text ≡ 34 ∷ content → string_content content ≡ got a rest
    → slice ≡ is_at 34 (after_run plain content) → IsSliceUnlessEscaped text rest slice
unfolding string_content
quoted_kind text content rest a slice e f g t same =
    let y = (word_pieces _ _ (content_reader string_is)).sound content a rest f in
    let stretch : t ≡ 34 ∷ y.stretch = append_cancel_right t (34 ∷ y.stretch) rest (sym same ∙ e ∙ ap (λ x. 34 ∷ x) y.split) in
    g ∙ ap (λ x. is_at 34 (after_run plain x)) y.split ∙ ends_plainly itself StringEscape escaped_string y.spelled rest
    ∙ sym (ap (λ x. not (holds_escape x)) stretch)

pub raw_kind : (text marked rest : Text) → text ≡ 114 ∷ marked → IsSliceUnlessEscaped text rest true
raw_kind text marked rest e [] same = refl
raw_kind text marked rest e (c ∷ t) same = let first : c ≡ 114 = cc in rw first refl

pub slice_between : (text rest a : Text) (slice : Bool) → string text ≡ got a rest → IsSliceUnlessEscaped text rest slice → slice ≡ true
    → StandsBetweenQuotes text rest a
slice_between text rest a slice e k s t same =
    let y = word_string.sound text a rest e in
    let stretch : y.stretch ≡ t = append_cancel_right y.stretch t rest (sym y.split ∙ same) in
    let none : holds_escape y.stretch ≡ false = ap holds_escape stretch ∙ not-true _ (sym (k t same) ∙ s) in
    rw (← stretch) (slices_strings y.stretch rest a y.spelled none)

not_quote : (s : Text) → is_at 92 s ≡ true → is_at 34 s ≡ false
not_quote [] g = refl
not_quote (c ∷ s) g = let first : c ≡ 92 = eqb-true c 92 g in rw first refl

other_first : (s content : Text) → 114 ∷ s ≡ 34 ∷ content → ⊥
other_first s content g = let k : true ≡ false = ap (is_at 114) g in cc

escape_held : (text content : Text) → text ≡ 34 ∷ content → is_at 92 (after_run plain content) ≡ true → HoldsEscape String text
escape_held text content e f t next a same (inl z) =
    let inner : z.rest ++ next ≡ content = cc in
    let other : is_at 34 (after_run plain content) ≡ false = not_quote (after_run plain content) f in
    let k : not (holds_backslash z.rest) ≡ false =
    sym (ends_plainly itself StringEscape escaped_string z.spelled next) ∙ ap (λ x. is_at 34 (after_run plain x)) inner ∙ other in
    ap holds_escape z.split ∙ not-false (holds_backslash z.rest) k
escape_held text content e f t next a same (inr z) = absurd (other_first (z.rest ++ next) content (ap (λ x. x ++ next) (sym z.split) ∙ sym same ∙ e))

-- ---- of a call's result

pub quoted_slice : (r : Result (ParsedStr × Bor (List ℕ)) StringRefusal) (text content : Text) → text ≡ 34 ∷ content
    → SplitsOrMemory parsed_text r (string_content content) → IfOk r (λ p. is_slice p.0 ≡ is_at 34 (after_run plain content))
    → IfOk r (λ p. IsSliceUnlessEscaped text (chars p.1.now) (is_slice p.0))
quoted_slice (Ok p) text content e f g = quoted_kind text content (chars p.1.now) (parsed_text p.0) (is_slice p.0) e f g
quoted_slice (Err x) text content e f g = tt

pub slices_between : (r : Result (ParsedStr × Bor (List ℕ)) StringRefusal) (text : Text) → SplitsOrMemory parsed_text r (string text)
    → IfOk r (λ p. IsSliceUnlessEscaped text (chars p.1.now) (is_slice p.0))
    → IfOk r (λ p. is_slice p.0 ≡ true → StandsBetweenQuotes text (chars p.1.now) (parsed_text p.0))
slices_between (Ok p) text f g = slice_between text (chars p.1.now) (parsed_text p.0) (is_slice p.0) f g
slices_between (Err x) text f g = tt

-- only a string with an escape takes memory
pub memory_held : (r : Result (ParsedStr × Bor (List ℕ)) StringRefusal) (text content : Text) → text ≡ 34 ∷ content
    → IfErr r (λ e. e ≡ OutOfMemory → opens_escape content ≡ true) → IfErr r (λ e. e ≡ OutOfMemory → opens_escaped_string text ≡ true)
memory_held (Ok p) text content e h = tt
memory_held (Err x) text content e h = λ m. rw e (h m)

pub escape_is_held : {V : Type 0} (r : Result V StringRefusal) (text : Text) → IfErr r (λ e. e ≡ OutOfMemory → opens_escaped_string text ≡ true)
    → IfErr r (λ e. e ≡ OutOfMemory → HoldsEscape String text)
escape_is_held (Ok v) text h = tt
escape_is_held (Err x) text h = λ m. held text (h m)
  where
    held : (s : Text) → opens_escaped_string s ≡ true → HoldsEscape String s
    held [] f = absurd (cc)
    held (c ∷ s) f = let k = and_parts (c == 34) (opens_escape s) f in escape_held (c ∷ s) s (ap (λ x. x ∷ s) (eqb-true c 34 k.0)) k.1

-- ---- byte strings

pub bytes_kind : (text content rest a : Text) (slice : Bool) → text ≡ 98 ∷ 34 ∷ content → bytes_content content ≡ got a rest
    → slice ≡ is_at 34 (after_run plain content) → IsSliceUnlessEscaped text rest slice
unfolding bytes_content
bytes_kind text content rest a slice e f g t same =
    let y = (word_pieces _ _ (content_reader bytes_are)).sound content a rest f in
    let stretch : t ≡ 98 ∷ 34 ∷ y.stretch = append_cancel_right t (98 ∷ 34 ∷ y.stretch) rest (sym same ∙ e ∙ ap (λ x. 98 ∷ 34 ∷ x) y.split) in
    g ∙ ap (λ x. is_at 34 (after_run plain x)) y.split ∙ ends_plainly encode_utf8 ByteStringEscape escaped_byte_string y.spelled rest
    ∙ sym (ap (λ x. not (holds_escape x)) stretch)

pub raw_bytes_kind : (text marked rest : Text) → text ≡ 98 ∷ 114 ∷ marked → IsSliceUnlessEscaped text rest true
raw_bytes_kind text marked rest e [] same = refl
raw_bytes_kind text marked rest e (c ∷ []) same = let first : c ≡ 98 = cc in rw first refl
raw_bytes_kind text marked rest e (c ∷ d ∷ t) same = let first : c ≡ 98 = cc in let second : d ≡ 114 = cc in rw (first, second) refl

pub bytes_between : (text rest a : Text) (slice : Bool) → byte_string text ≡ got a rest → IsSliceUnlessEscaped text rest slice → slice ≡ true
    → StandAsBytes text rest a
bytes_between text rest a slice e k s t same =
    let y = word_byte_string.sound text a rest e in
    let stretch : y.stretch ≡ t = append_cancel_right y.stretch t rest (sym y.split ∙ same) in
    let none : holds_escape y.stretch ≡ false = ap holds_escape stretch ∙ not-true _ (sym (k t same) ∙ s) in
    rw (← stretch) (slices_byte_strings y.stretch rest a y.spelled none)

bytes_escape_held : (text content : Text) → text ≡ 98 ∷ 34 ∷ content → is_at 92 (after_run plain content) ≡ true → HoldsEscape ByteString text
bytes_escape_held text content e f t next a same z = go z.spelled
  where
    behind : z.rest ++ next ≡ 34 ∷ content
    behind = let k : 98 ∷ (z.rest ++ next) ≡ 98 ∷ 34 ∷ content = ap (λ x. x ++ next) (sym z.split) ∙ sym same ∙ e in cc

    go : Or QuotedBytes RawBytes z.rest next a → holds_escape t ≡ true
    go (inl y) =
        let inner : y.rest ++ next ≡ content = (let k : 34 ∷ (y.rest ++ next) ≡ 34 ∷ content = ap (λ x. x ++ next) (sym y.split) ∙ behind in cc) in
        let k : not (holds_backslash y.rest) ≡ false = sym (ends_plainly encode_utf8 ByteStringEscape escaped_byte_string y.spelled next)
        ∙ ap (λ x. is_at 34 (after_run plain x)) inner ∙ not_quote (after_run plain content) f in
        ap holds_escape (z.split ∙ ap (λ x. 98 ∷ x) y.split) ∙ not-false (holds_backslash y.rest) k
    go (inr y) = absurd (other_first (y.rest ++ next) content (ap (λ x. x ++ next) (sym y.split) ∙ behind))

pub quoted_bytes_slice : (r : Result (ParsedByteStr × Bor (List ℕ)) StringRefusal) (text content : Text) → text ≡ 98 ∷ 34 ∷ content
    → SplitsOrMemory parsed_bytes r (bytes_content content) → IfOk r (λ p. is_byte_slice p.0 ≡ is_at 34 (after_run plain content))
    → IfOk r (λ p. IsSliceUnlessEscaped text (chars p.1.now) (is_byte_slice p.0))
quoted_bytes_slice (Ok p) text content e f g = bytes_kind text content (chars p.1.now) (parsed_bytes p.0) (is_byte_slice p.0) e f g
quoted_bytes_slice (Err x) text content e f g = tt

pub byte_slices_between : (r : Result (ParsedByteStr × Bor (List ℕ)) StringRefusal) (text : Text) → SplitsOrMemory parsed_bytes r (byte_string text)
    → IfOk r (λ p. IsSliceUnlessEscaped text (chars p.1.now) (is_byte_slice p.0))
    → IfOk r (λ p. is_byte_slice p.0 ≡ true → StandAsBytes text (chars p.1.now) (parsed_bytes p.0))
byte_slices_between (Ok p) text f g = bytes_between text (chars p.1.now) (parsed_bytes p.0) (is_byte_slice p.0) f g
byte_slices_between (Err x) text f g = tt

pub bytes_memory_held : (r : Result (ParsedByteStr × Bor (List ℕ)) StringRefusal) (text content : Text) → text ≡ 98 ∷ 34 ∷ content
    → IfErr r (λ e. e ≡ OutOfMemory → opens_escape content ≡ true) → IfErr r (λ e. e ≡ OutOfMemory → opens_escaped_bytes text ≡ true)
bytes_memory_held (Ok p) text content e h = tt
bytes_memory_held (Err x) text content e h = λ m. rw e (h m)

pub bytes_escape_is_held : {V : Type 0} (r : Result V StringRefusal) (text : Text) → IfErr r (λ e. e ≡ OutOfMemory → opens_escaped_bytes text ≡ true)
    → IfErr r (λ e. e ≡ OutOfMemory → HoldsEscape ByteString text)
bytes_escape_is_held (Ok v) text h = tt
bytes_escape_is_held (Err x) text h = λ m. held text (h m)
  where
    held : (s : Text) → opens_escaped_bytes s ≡ true → HoldsEscape ByteString s
    held [] f = absurd (cc)
    held (c ∷ []) f = absurd (let k = and_parts (c == 98) false f in let z : true ≡ false = sym k.1 in cc)
    held (c ∷ d ∷ s) f =
        let k = and_parts (c == 98) (opens_escaped_string (d ∷ s)) f in
        let l = and_parts (d == 34) (opens_escape s) k.1 in
        bytes_escape_held (c ∷ d ∷ s) s (ap₂ (λ x y. x ∷ y ∷ s) (eqb-true c 98 k.0) (eqb-true d 34 l.0)) l.1
