-- Where slices are taken of the text: what is found in it, and what so holds of what is read.
use Rattle.std.proofs.Common.{◌≡◌, ℕ, zero, suc, ◌-◌, Bool, true, false, eqb, List, [], ◌∷◌, ◌++◌, length, take, drop, chars, IsUtf8, IsCharBoundary}
use Rattle.std.proofs.Common.{encode_utf8, encode_utf8_all, flat_map, Option, Some, None, IsSome, IfSome, MatchOption, IfOk, Result, Ok, Err, inl, inr, refl}
use Rattle.std.proofs.Common.{sym, ap, ap₂, subst, ◌∙◌, append_assoc, length-append, arith}
use denote.Ref.{Bor}
use Rattle.std.specs.List.{starts_with}
use Rattle.std.specs.Str.Pattern.{GetsRange}
use Rattle.std.proofs.lemmas.Bool.Decides.{Decides-eqb}
use Rattle.std.proofs.lemmas.List.{take_all}
use Rattle.std.proofs.lemmas.Option.{same_Some}
use Rattle.std.proofs.lemmas.Slice.Eq.{starts_is}
use Rattle.std.proofs.lemmas.Str.{encodes-chars, encodes-append, IsCharBoundary-at_seam, IsCharBoundary-end}
use Rattle.std.proofs.Math.Seq.{take-append_seam, drop-append_seam}
use Rattle.ron_spec_words.specs.Characters.{Text}
use Rattle.ron_spec_words.specs.Runs.{is_at, begins_with, run_of, after_run}
use Rattle.ron_spec_words.specs.Lang.{Or}
use Rattle.ron_spec_words.specs.Reader.{got}
use Rattle.ron_spec_words.specs.Quoted.{String, string, ByteString, byte_string, QuotedBytes, RawBytes, Raw, hashes}
use Rattle.ron_spec_words.proofs.Direct.{begins-append}
use Rattle.ron_spec_words.proofs.RawStrings.{word_string, word_byte_string}
use Rattle.ron_spec_grammar.specs.Shapes.Str.{read_str}
use Rattle.ron_base.specs.declared.error.Error.{Error}
use Rattle.ron_lex_text.specs.declared.text.Class.TheVariants.{Unquoted}
use Rattle.ron_lex_text.specs.declared.parsed.ParsedStr.{ParsedStr}
use Rattle.ron_lex_text.specs.declared.parsed.ParsedByteStr.{ParsedByteStr}
use Rattle.ron_lex_text.specs.Parsed.{parsed_text, is_slice, parsed_bytes, is_byte_slice}
use Rattle.ron_lex_text.specs.Stretch.{IsSuffix, in_class}
use Rattle.ron_lex_text.proofs.StretchLemmas.{bytes_before, run_joined}
use Rattle.ron_lex.specs.Content.{string_is, bytes_are}
use Rattle.ron_lex.specs.Quoted.{string_content, bytes_content, IsSliceUnlessEscaped, StandsBetweenQuotes, StandAsBytes}
use Rattle.ron_lex.proofs.StringLemmas.{plain, content_plain, itself_given, string_quoted, byte_string_quoted}
use Rattle.ron_lex.proofs.SliceLemmas.{quoted_kind, bytes_kind}
use Rattle.ron_de_steps.proofs.ItemLemmas.{at_mark}
use Rattle.ron_data.specs.declared.data.Data.TheVariants as data_
use Rattle.ron_data.specs.Datum.{data_view}
use Rattle.ron_data.proofs.DatumLemmas.{view-str, view-bytes}
use Rattle.ron_de_parts.specs.Bytes.{read_quoted}
use Rattle.ron_de_parts.specs.Kept.{Kept, EndsSource, BeginsBehindQuote, BeginsAsBytes}
use Rattle.ron_de_parts.specs.Slices.{IsSliced, AreSliced}
use Rattle.ron_de_parts.specs.Terms.{source_view}

-- ---- the content of a string, behind the first quote

abbrev unquoted : ℕ → Bool
unquoted c = in_class Unquoted c

hashes_passed : (n : ℕ) (u : Text) → after_run unquoted (hashes n ++ 34 ∷ u) ≡ 34 ∷ u
hashes_passed zero u = refl
hashes_passed (suc n) u = hashes_passed n u

-- a raw one, behind its `r`
raw_begins : (s rest a : Text) → Raw s rest a → BeginsBehindQuote (s ++ rest) a
raw_begins s rest a z = (
  34 ∷ (hashes z.count ++ rest),
  ap (λ x. after_run unquoted (x ++ rest)) z.same
      ∙ ap (λ x. after_run unquoted x) (append_assoc (hashes z.count) (34 ∷ (a ++ 34 ∷ hashes z.count)) rest)
      ∙ hashes_passed z.count ((a ++ 34 ∷ hashes z.count) ++ rest)
      ∙ ap (λ x. 34 ∷ x) (append_assoc a (34 ∷ hashes z.count) rest),
)

-- behind a character that is no quote
begins_behind : (c : ℕ) (text rest a : Text) → unquoted c ≡ true → text ≡ c ∷ rest → BeginsBehindQuote rest a → BeginsBehindQuote text a
begins_behind c text rest a n e h = (h.0, rw (e, n) h.1)

-- where no escape stands in it, it goes up to the next quote
quoted_begins : (text rest a body : Text) → text ≡ 34 ∷ body → string text ≡ got a rest → IsSliceUnlessEscaped text rest true → body ≡ a ++ 34 ∷ rest
quoted_begins text rest a body e h slice =
    let f : string_content body ≡ got a rest = sym (string_quoted text body e) ∙ h in
    let t = word_string.sound text a rest h in
    let ends : is_at 34 (after_run plain body) ≡ true =
    quoted_kind text body rest a (is_at 34 (after_run plain body)) e f refl t.stretch t.split ∙ sym (slice t.stretch t.split) in
    let q = at_mark 34 (after_run plain body) ends in
    let same : got (run_of plain body) q.0 ≡ got a rest = sym (content_plain string_is body (run_of plain body) (run_of plain body) (after_run plain body) q.0
    (itself_given (run_of plain body)) refl (run_joined plain body) q.1) ∙ f in
    let content : run_of plain body ≡ a = cc in
    let behind : q.0 ≡ rest = cc in
    run_joined plain body ∙ ap₂ (λ x y. x ++ y) content (q.1 ∙ ap (λ x. 34 ∷ x) behind)

string_begins : (text rest a : Text) → string text ≡ got a rest → IsSliceUnlessEscaped text rest true → BeginsBehindQuote text a
string_begins text rest a h slice = let t = word_string.sound text a rest h in go t.stretch t.split t.spelled
  where
    go : (stretch : Text) → text ≡ stretch ++ rest → String stretch rest a → BeginsBehindQuote text a
    go stretch e (inl z) =
        let opened : text ≡ 34 ∷ (z.rest ++ rest) = e ∙ ap (λ x. x ++ rest) z.split in
        (34 ∷ rest, ap (λ x. after_run unquoted x) opened ∙ ap (λ x. 34 ∷ x) (quoted_begins text rest a (z.rest ++ rest) opened h slice))
    go stretch e (inr z) = begins_behind 114 text (z.rest ++ rest) a refl (e ∙ ap (λ x. x ++ rest) z.split) (raw_begins z.rest rest a z.spelled)

-- ---- that of a byte string

flat_map-utf8 : (t : Text) → flat_map encode_utf8 t ≡ encode_utf8_all t
flat_map-utf8 [] = refl
flat_map-utf8 (c ∷ t) = ap (λ x. encode_utf8 c ++ x) (flat_map-utf8 t)

-- what its plain characters are the UTF-8 of
record PlainBytes (body rest : Text) (bytes : List ℕ) : Type 0 where
  content : Text
  split : body ≡ content ++ 34 ∷ rest
  given : encode_utf8_all content ≡ bytes

quoted_bytes_begin : (text rest body : Text) (bytes : List ℕ) → text ≡ 98 ∷ 34 ∷ body → byte_string text ≡ got bytes rest → IsSliceUnlessEscaped text rest true
    → PlainBytes body rest bytes
quoted_bytes_begin text rest body bytes e h slice =
    let f : bytes_content body ≡ got bytes rest = sym (byte_string_quoted text body e) ∙ h in
    let t = word_byte_string.sound text bytes rest h in
    let ends : is_at 34 (after_run plain body) ≡ true =
    bytes_kind text body rest bytes (is_at 34 (after_run plain body)) e f refl t.stretch t.split ∙ sym (slice t.stretch t.split) in
    let q = at_mark 34 (after_run plain body) ends in
    let same : got (flat_map encode_utf8 (run_of plain body)) q.0 ≡ got bytes rest = sym (content_plain bytes_are body (run_of plain body)
    (flat_map encode_utf8 (run_of plain body)) (after_run plain body) q.0 refl refl (run_joined plain body) q.1) ∙ f in
    let content : flat_map encode_utf8 (run_of plain body) ≡ bytes = cc in
    let behind : q.0 ≡ rest = cc in
    record {
      content = run_of plain body;
      split = run_joined plain body ∙ ap (λ x. run_of plain body ++ x) (q.1 ∙ ap (λ x. 34 ∷ x) behind);
      given = sym (flat_map-utf8 (run_of plain body)) ∙ content;
    }

bytes_begin : (text rest : Text) (bytes : List ℕ) → byte_string text ≡ got bytes rest → IsSliceUnlessEscaped text rest true → BeginsAsBytes text bytes
bytes_begin text rest bytes h slice = let t = word_byte_string.sound text bytes rest h in go t.stretch t.split t.spelled
  where
    go : (stretch : Text) → text ≡ stretch ++ rest → ByteString stretch rest bytes → BeginsAsBytes text bytes
    go stretch e z = by_kind z.spelled
      where
        opened : text ≡ 98 ∷ (z.rest ++ rest)
        opened = e ∙ ap (λ x. x ++ rest) z.split

        by_kind : Or QuotedBytes RawBytes z.rest rest bytes → BeginsAsBytes text bytes
        by_kind (inl y) =
            let quoted : text ≡ 98 ∷ 34 ∷ (y.rest ++ rest) = opened ∙ ap (λ x. 98 ∷ (x ++ rest)) y.split in
            let p = quoted_bytes_begin text rest (y.rest ++ rest) bytes quoted h slice in
            (p.content, (34 ∷ rest, ap (λ x. after_run unquoted x) quoted ∙ ap (λ x. 34 ∷ x) p.split), p.given)
        by_kind (inr y) =
            let x = y.spelled in
            let marked : text ≡ 98 ∷ 114 ∷ (y.rest ++ rest) = opened ∙ ap (λ u. 98 ∷ (u ++ rest)) y.split in (
              x.value,
              begins_behind 98 text (114 ∷ (y.rest ++ rest)) x.value refl marked
                  (begins_behind 114 (114 ∷ (y.rest ++ rest)) (y.rest ++ rest) x.value refl refl (raw_begins y.rest rest x.value x.spelled)),
              same_Some _ _ x.meant,
            )

-- ---- what is found in the source

pub source_end : (source : Option (Bor (List ℕ))) (text : Bor (List ℕ)) (end : Text) → source ≡ Some text → EndsSource (source_view source) end
    → IsSuffix end (chars text.now)
source_end source text end is h = subst (λ t. IsSuffix end t) (same_Some _ _ (sym h.1 ∙ ap source_view is)) h.2

pub no_source : (source : Option (Bor (List ℕ))) (end : Text) → source ≡ None → EndsSource (source_view source) end → ⊥
no_source source end is h = let e : None ≡ Some h.0 = sym (ap source_view is) ∙ h.1 in cc

-- what `get` gives from there on
got_behind : (text front end : List ℕ) (start : ℕ) (r : Option (Bor (List ℕ))) → text ≡ front ++ end → IsUtf8 end → start ≡ length front
    → GetsRange text start (length text) r → MatchOption r ⊥ (λ found. found.now ≡ end)
got_behind text front end start None e v s h = h (omega (arith, s, ap length e, length-append front end))
    (subst (IsCharBoundary text) (sym s) (IsCharBoundary-at_seam text front end e v)) (IsCharBoundary-end text)
got_behind text front end start (Some found) e v s h =
    let left : drop start text ≡ end = ap₂ drop s e ∙ drop-append_seam front end in
    h.0 ∙ ap (take (length text - start)) left ∙ take_all (length text - start) end (omega (arith, s, ap length e, length-append front end))

pub got_end : (text end : List ℕ) (start : ℕ) (r : Option (Bor (List ℕ))) → IsUtf8 text → IsUtf8 end → start ≡ length text - length end
    → GetsRange text start (length text) r → IsSuffix (chars end) (chars text) → MatchOption r ⊥ (λ found. found.now ≡ end)
got_end text end start r u v s h suffix =
    let front = encode_utf8_all suffix.front in
    let e : text ≡ front ++ end = bytes_before text end suffix.front u v suffix.is in
    got_behind text front end start r e v (omega (arith, s, ap length e, length-append front end)) h

-- behind the quote
pub behind_quote : (text content : Text) (r : Option (Bor (List ℕ))) → text ≡ 34 ∷ content
    → MatchOption r (is_at 34 text ≡ false) (λ rest. text ≡ 34 ∷ chars rest.now) → MatchOption r ⊥ (λ found. chars found.now ≡ content)
behind_quote text content None e h = let no : true ≡ false = sym (ap (is_at 34) e) ∙ h in cc
behind_quote text content (Some rest) e h = let k : 34 ∷ chars rest.now ≡ 34 ∷ content = sym h ∙ e in cc

-- a front that is cut out
pub front_same : (r : Option (Bor (List ℕ))) (text front : Text) → MatchOption r (begins_with front text ≡ false) (λ found. chars found.now ≡ front)
    → IfSome r (λ found. chars found.now ≡ front)
front_same None text front h = tt
front_same (Some found) text front h = h

pub front_found : (r : Option (Bor (List ℕ))) (text front more : Text) → text ≡ front ++ more
    → MatchOption r (begins_with front text ≡ false) (λ found. chars found.now ≡ front) → IsSome r
front_found None text front more e h = let no : true ≡ false = sym (ap (begins_with front) e ∙ begins-append front more) ∙ h in cc
front_found (Some found) text front more e h = refl

-- bytes with which a text begins
pub content_bytes : (bytes piece : List ℕ) (content more : Text) → IsUtf8 bytes → chars bytes ≡ content ++ more → encode_utf8_all content ≡ piece
    → bytes ≡ piece ++ encode_utf8_all more
content_bytes bytes piece content more u e given =
    sym (encodes-chars bytes u) ∙ ap encode_utf8_all e ∙ encodes-append content more ∙ ap (λ x. x ++ encode_utf8_all more) given

module _ (bytes piece : List ℕ) (r : Bool) (is : r ≡ starts_with eqb bytes piece) where
  pub bytes_start : r ≡ true → take (length piece) bytes ≡ piece
  bytes_start e = ap (take (length piece)) ((starts_is Decides-eqb bytes piece r is).0 e) ∙ take-append_seam piece (drop (length piece) bytes)

  pub bytes_found : (more : List ℕ) → bytes ≡ piece ++ more → r ≡ true
  bytes_found = (starts_is Decides-eqb bytes piece r is).1

-- ---- what is kept of what was read

-- what was left of the text
pub ends_here : (source : Option Text) (text place start : Text) → start ≡ place → IsSuffix place text → source ≡ Some text → EndsSource source start
ends_here source text place start same end k = (text, k, subst (λ s. IsSuffix s text) (sym same) end)

-- begins with what was read, as a slice
pub string_here : (place rest start : Text) (read : ParsedStr) → start ≡ place → string place ≡ got (parsed_text read) rest
    → IsSliceUnlessEscaped place rest (is_slice read) → is_slice read ≡ true → BeginsBehindQuote start (parsed_text read)
string_here place rest start read same e slice is = subst (λ s. BeginsBehindQuote s (parsed_text read)) (sym same)
    (string_begins place rest (parsed_text read) e (subst (IsSliceUnlessEscaped place rest) is slice))

pub bytes_here : (place rest start : Text) (read : ParsedByteStr) → start ≡ place → byte_string place ≡ got (parsed_bytes read) rest
    → IsSliceUnlessEscaped place rest (is_byte_slice read) → is_byte_slice read ≡ true → BeginsAsBytes start (parsed_bytes read)
bytes_here place rest start read same e slice is = subst (λ s. BeginsAsBytes s (parsed_bytes read)) (sym same)
    (bytes_begin place rest (parsed_bytes read) e (subst (IsSliceUnlessEscaped place rest) is slice))

pub kept_string : (text rest : Text) (read kept : ParsedStr) → parsed_text kept ≡ parsed_text read → is_slice kept ≡ is_slice read
    → IsSliced text rest (data_.Str read) → IsSliced text rest (data_.Str kept)
kept_string text rest read kept same slice h =
    (subst (IsSliceUnlessEscaped text rest) (sym slice) h.0, λ is. subst (StandsBetweenQuotes text rest) (sym same) (h.1 (sym slice ∙ is)))

pub kept_bytes : (text rest : Text) (read kept : ParsedByteStr) → parsed_bytes kept ≡ parsed_bytes read → is_byte_slice kept ≡ is_byte_slice read
    → AreSliced false text rest read → AreSliced false text rest kept
kept_bytes text rest read kept same slice h =
    (subst (IsSliceUnlessEscaped text rest) (sym slice) h.0, λ is. subst (StandAsBytes text rest) (sym same) (h.1 (sym slice ∙ is)))

pub string_read : (text rest : Text) (read kept : ParsedStr) → parsed_text kept ≡ parsed_text read → string text ≡ got (parsed_text read) rest
    → read_str false text ≡ got (data_view (data_.Str kept)) rest
string_read text rest read kept same e = rw (e, view-str kept, same) refl

pub bytes_read : (text rest : Text) (read kept : ParsedByteStr) → parsed_bytes kept ≡ parsed_bytes read → byte_string text ≡ got (parsed_bytes read) rest
    → read_quoted text ≡ got (data_view (data_.Bytes kept)) rest
bytes_read text rest read kept same e = rw (e, view-bytes kept, same) refl

-- ---- where slices are taken of the text, from one context to another

-- the source and the text of the one are those of the other
pub source_there : {source inner : Option Text} {text other : Text} → inner ≡ source → other ≡ text → source ≡ Some text → inner ≡ Some other
source_there is same k = is ∙ k ∙ ap Some (sym same)

pub kept_from : {A : Type 0} (Holds : Text → A → Type 0) {source inner : Option Text} {text other : Text} (a : A) → inner ≡ source → other ≡ text
    → Kept inner Holds other a → Kept source Holds text a
kept_from Holds a is same h = λ k. subst (λ t. Holds t a) same (h (source_there is same k))

pub kept_there : {A : Type 0} (Holds : Text → A → Type 0) {source inner : Option Text} {text other : Text} (r : Result A Error) → inner ≡ source → other ≡ text
    → IfOk r (Kept inner Holds other) → IfOk r (Kept source Holds text)
kept_there Holds (Ok a) is same h = kept_from Holds a is same h
kept_there Holds (Err e) is same h = tt

-- what holds wherever texts are kept
pub kept_anyhow : {A : Type 0} (Holds : Text → A → Type 0) (source : Option Text) (text : Text) (r : Result A Error) → IfOk r (Holds text)
    → IfOk r (Kept source Holds text)
kept_anyhow Holds source text (Ok a) h = λ k. h
kept_anyhow Holds source text (Err e) h = tt
