-- What a word or a gap spells is one token: for the walks of the lookahead.
use Rattle.std.proofs.Common.{◌≡◌, ℕ, zero, suc, ◌==◌, ◌<◌, nat_lt, lt-ltb, length, length-append, arith, true, false, [], ◌∷◌, ◌++◌, codes, Some, ◌⊎◌, inl}
use Rattle.std.proofs.Common.{inr, refl, sym, ap, ◌∙◌, append_assoc}
use Rattle.unicode_ident.proofs.Computing.{unicode_ident}
use Rattle.ron_spec_words.specs.Characters.{Text, continues_name, in_raw_name}
use Rattle.ron_spec_words.specs.Runs.{begins, is_at, Every, begins_with, after_run}
use Rattle.ron_spec_words.specs.Gap.{Piece, blank, line, block, Gap, none, piece, last_line, LongGap, skip}
use Rattle.ron_spec_words.specs.Lang.{Run, Or}
use Rattle.ron_spec_words.specs.Reader.{Reader, run}
use Rattle.ron_spec_words.specs.Exact.{Answers, IsWordReader}
use Rattle.ron_spec_words.specs.Name.{RawName}
use Rattle.ron_spec_words.specs.Quoted.{hashes, Raw, QuotedBytes, RawBytes, Char, char, Byte, byte, String, string, ByteString, byte_string}
use Rattle.ron_spec_words.specs.Scan.{starts_gap, is_hash, opens_string, opens_byte_string, opens_raw_name, starts_run, raw_name, left_by, token}
use Rattle.ron_spec_words.proofs.Gaps.{skip-append}
use Rattle.ron_spec_words.proofs.Words.{First, word_run, word_behind, first_behind, first_or}
use Rattle.ron_spec_words.proofs.Classes.{apart, Clear, no_blank}
use Rattle.ron_spec_words.proofs.LiteralStarts.{first_char, first_byte, first_string, first_byte_string}
use Rattle.ron_spec_words.proofs.Quotes.{word_char, word_byte}
use Rattle.ron_spec_words.proofs.RawStrings.{word_string, word_byte_string}

-- ---- which reader function takes the token

string_token : (s : Text) → begins starts_gap s ≡ false → opens_string s ≡ true → token s ≡ left_by (string s)
unfolding token
string_token s e f = rw (e, f) refl

byte_string_token : (s : Text) → begins starts_gap s ≡ false → opens_string s ≡ false → opens_byte_string s ≡ true → token s ≡ left_by (byte_string s)
unfolding token
byte_string_token s e f g = rw (e, f, g) refl

char_token : (s : Text) → begins starts_gap s ≡ false → opens_string s ≡ false → opens_byte_string s ≡ false → is_at 39 s ≡ true → token s ≡ left_by (char s)
unfolding token
char_token s e f g h = rw (e, f, g, h) refl

-- no literal begins here, and no gap
record NoLiteral (s : Text) : Type 0 where
  no_gap : begins starts_gap s ≡ false
  no_string : opens_string s ≡ false
  no_byte_string : opens_byte_string s ≡ false
  no_char : is_at 39 s ≡ false

byte_token : (s : Text) → NoLiteral s → begins_with (codes "b'") s ≡ true → token s ≡ left_by (byte s)
unfolding token
byte_token s n e = rw (n.no_gap, n.no_string, n.no_byte_string, n.no_char, e) refl

raw_name_token : (s : Text) → NoLiteral s → begins_with (codes "b'") s ≡ false → opens_raw_name s ≡ true → token s ≡ left_by (raw_name s)
unfolding token
raw_name_token s n e f = rw (n.no_gap, n.no_string, n.no_byte_string, n.no_char, e, f) refl

run_token : (s : Text) → NoLiteral s → begins_with (codes "b'") s ≡ false → opens_raw_name s ≡ false → begins starts_run s ≡ true
    → token s ≡ left_by (run starts_run continues_name s)
unfolding token
run_token s n e f g = rw (n.no_gap, n.no_string, n.no_byte_string, n.no_char, e, f, g) refl

left_at : {A : Type 0} (r : Reader A) (t next : Text) (a : A) → Answers r t next a → left_by (r (t ++ next)) ≡ Some next
left_at r t next a h = ap left_by h.answer

-- ---- gaps

piece_head : {p : Text} → Piece p → (s : Text) → begins starts_gap (p ++ s) ≡ true
piece_head (blank c e) s = rw e refl
piece_head (line t h) s = refl
piece_head (block t h) s = refl

gap_head : {g next : Text} → Gap g next → (g ≡ []) ⊎ (begins starts_gap (g ++ next) ≡ true)
gap_head none = inl refl
gap_head (piece p g next h r) = inr (rw append_assoc (piece_head h (g ++ next)))
gap_head (last_line t h) = inr refl

-- a gap that is not empty begins with a blank or a slash
pub gap_starts : (c : ℕ) (g next : Text) → Gap (c ∷ g) next → starts_gap c ≡ true
gap_starts c g next h = go (gap_head h)
  where
    go : (c ∷ g ≡ []) ⊎ (begins starts_gap ((c ∷ g) ++ next) ≡ true) → starts_gap c ≡ true
    go (inl e) = absurd (cc)
    go (inr e) = e

gap_token : (s : Text) → begins starts_gap s ≡ true → nat_lt (length (skip s)) (length s) ≡ true → token s ≡ Some (skip s)
unfolding token
gap_token s e f = rw (e, f) refl

pub token_gap : (c : ℕ) (g next : Text) → LongGap (c ∷ g) next → token (c ∷ (g ++ next)) ≡ Some next
token_gap c g next h =
    let past : skip ((c ∷ g) ++ next) ≡ next = skip-append (c ∷ g) next h in
    let lt : length next < suc (length (g ++ next)) = omega (arith, length-append g next) in
    let less : nat_lt (length (skip ((c ∷ g) ++ next))) (length ((c ∷ g) ++ next)) ≡ true =
    ap (λ u. nat_lt (length u) (length ((c ∷ g) ++ next))) past ∙ lt-ltb (length next) (suc (length (g ++ next))) lt in
    gap_token ((c ∷ g) ++ next) (gap_starts c g next h.is_gap) less ∙ ap Some past

-- ---- strings and byte strings

after_hashes : (n : ℕ) (s : Text) → after_run is_hash (hashes n ++ 34 ∷ s) ≡ 34 ∷ s
after_hashes zero s = refl
after_hashes (suc n) s = after_hashes n s

raw_opens : (t next a : Text) → Raw t next a → is_at 34 (after_run is_hash (t ++ next)) ≡ true
raw_opens t next a z =
    let body : Text = a ++ 34 ∷ hashes z.count in
    ap (λ u. is_at 34 (after_run is_hash (u ++ next))) z.same ∙ ap (λ u. is_at 34 (after_run is_hash u)) (append_assoc (hashes z.count) (34 ∷ body) next)
    ∙ ap (is_at 34) (after_hashes z.count (body ++ next))

pub string_opens : First (λ s. opens_string s ≡ true) String
string_opens = first_or (first_behind _ 34 _ (λ s. refl)) (record { holds = λ t next a z. rw z.split (raw_opens z.rest next a z.spelled) })

pub byte_string_opens : First (λ s. opens_byte_string s ≡ true) ByteString
byte_string_opens = record { holds = λ t next a z. rw z.split (go z.rest next a z.spelled) }
  where
    go : (t next a : Text) → Or QuotedBytes RawBytes t next a → opens_string (t ++ next) ≡ true
    go t next a (inl y) = rw y.split refl
    go t next a (inr y) = rw y.split (raw_opens y.rest next y.spelled.value y.spelled.spelled)

pub token_string : (t next a : Text) → String t next a → token (t ++ next) ≡ Some next
token_string t next a z =
    string_token (t ++ next) ((first_string (λ s. begins starts_gap s ≡ false) (λ s. refl) (λ s. refl)).holds t next a z) (string_opens.holds t next a z)
    ∙ left_at string t next a (word_string.complete t next a z)

pub token_byte_string : (t next a : Text) → ByteString t next a → token (t ++ next) ≡ Some next
token_byte_string t next a z =
    byte_string_token (t ++ next) ((first_byte_string (λ s. begins starts_gap s ≡ false) (λ s. refl) (λ s. refl)).holds t next a z)
    ((first_byte_string (λ s. opens_string s ≡ false) (λ s. refl) (λ s. refl)).holds t next a z)
    (byte_string_opens.holds t next a z) ∙ left_at byte_string t next a (word_byte_string.complete t next a z)

-- ---- char and byte literals

pub token_char : (t next : Text) (a : ℕ) → Char t next a → token (t ++ next) ≡ Some next
token_char t next a z =
    char_token (t ++ next) ((first_char (λ s. begins starts_gap s ≡ false) (λ s. refl)).holds t next a z)
    ((first_char (λ s. opens_string s ≡ false) (λ s. refl)).holds t next a z)
    ((first_char (λ s. opens_byte_string s ≡ false) (λ s. refl)).holds t next a z) ((first_char (λ s. is_at 39 s ≡ true) (λ s. refl)).holds t next a z)
    ∙ left_at char t next a (word_char.complete t next a z)

pub token_byte : (t next : Text) (a : ℕ) → Byte t next a → token (t ++ next) ≡ Some next
token_byte t next a z =
    byte_token (t ++ next) ((first_byte NoLiteral (λ s. record { no_gap = refl; no_string = refl; no_byte_string = refl; no_char = refl })).holds t next a z)
    ((first_byte (λ s. begins_with (codes "b'") s ≡ true) (λ s. refl)).holds t next a z) ∙ left_at byte t next a (word_byte.complete t next a z)

-- ---- raw identifiers

-- a raw identifier is `r#` and a character that its name may hold
record RawShape (t : Text) : Type 0 where
  first : ℕ
  more : Text
  split : t ≡ 114 ∷ 35 ∷ first ∷ more
  in_name : in_raw_name first ≡ true

raw_shape : (t next n : Text) → RawName t next n → RawShape t
raw_shape t next n z = go z.spelled.rest z.spelled.spelled (z.split ∙ ap (λ u. 114 ∷ u) z.spelled.split)
  where
    go : (u : Text) → Run in_raw_name in_raw_name u next n → t ≡ 114 ∷ 35 ∷ u → RawShape t
    go [] y e = absurd y.every
    go (c ∷ u) y e = record { first = c; more = u; split = e; in_name = y.every.0 }

raw_no_literal : (c : ℕ) (s : Text) → in_raw_name c ≡ true → NoLiteral (114 ∷ 35 ∷ c ∷ s)
unfolding unicode_ident
raw_no_literal c s h =
    record { no_gap = refl; no_string = rw (apart in_raw_name 35 c refl h, apart in_raw_name 34 c refl h) refl; no_byte_string = refl; no_char = refl }

pub raw_name_no_string : First (λ s. (opens_string s ≡ false) × (opens_byte_string s ≡ false)) RawName
raw_name_no_string = record {
  holds = λ t next n z.
      let k = raw_shape t next n z in
      let o = raw_no_literal k.first (k.more ++ next) k.in_name in
      rw k.split (o.no_string, o.no_byte_string);
}

pub word_raw_name : IsWordReader raw_name RawName
word_raw_name = word_behind 114 _ _ (word_behind 35 _ _ (word_run in_raw_name in_raw_name))

pub raw_three : (c : ℕ) (s : Text) → in_raw_name c ≡ true → token (114 ∷ 35 ∷ c ∷ s) ≡ left_by (raw_name (114 ∷ 35 ∷ c ∷ s))
raw_three c s h = raw_name_token (114 ∷ 35 ∷ c ∷ s) (raw_no_literal c s h) refl h

pub token_raw_name : (t next n : Text) → RawName t next n → token (t ++ next) ≡ Some next
token_raw_name t next n z =
    let k = raw_shape t next n z in
    ap (λ u. token (u ++ next)) k.split ∙ raw_three k.first (k.more ++ next) k.in_name ∙ ap (λ u. left_by (raw_name (u ++ next))) (sym k.split)
    ∙ left_at raw_name t next n (word_raw_name.complete t next n z)

-- ---- runs

-- what begins a run is no blank, no slash and no quote
pub starts_clear : Clear starts_run
unfolding unicode_ident
starts_clear = record {
  stop = (refl, refl, refl, refl, refl);
  range = (refl, (refl, (refl, (refl, (refl, tt)))));
  blank = (refl, refl, refl, refl, refl, refl);
  slash = refl;
  hash = refl;
}

pub starts_quotes : (starts_run 34 ≡ false) × (starts_run 39 ≡ false)
unfolding unicode_ident
starts_quotes = (refl, refl)

-- a run where neither a literal nor a raw identifier begins
pub token_run : (c : ℕ) (t next : Text) → starts_run c ≡ true → Every continues_name t → begins continues_name next ≡ false
    → opens_string (c ∷ (t ++ next)) ≡ false → opens_byte_string (c ∷ (t ++ next)) ≡ false → begins_with (codes "b'") (c ∷ (t ++ next)) ≡ false
    → opens_raw_name (c ∷ (t ++ next)) ≡ false → token (c ∷ (t ++ next)) ≡ Some next
token_run c t next h every ends e f g k =
    run_token (c ∷ (t ++ next)) (record {
      no_gap = rw (no_blank starts_run starts_clear c h, apart starts_run 47 c starts_clear.slash h) refl;
      no_string = e;
      no_byte_string = f;
      no_char = apart starts_run 39 c starts_quotes.1 h;
    }) g k h
    ∙ left_at (run starts_run continues_name) (c ∷ t) next (c ∷ t)
    ((word_run starts_run continues_name).complete (c ∷ t) next (c ∷ t) (record { same = refl; every = (h, every); longest = ends }))

-- where it begins with neither `b` nor `r`
pub token_plain_run : (c : ℕ) (t next : Text) → starts_run c ≡ true → (c == 98) ≡ false → (c == 114) ≡ false → Every continues_name t
    → begins continues_name next ≡ false → token (c ∷ (t ++ next)) ≡ Some next
token_plain_run c t next h b r every ends =
    token_run c t next h every ends (rw (apart starts_run 34 c starts_quotes.0 h, r) refl) (rw b refl) (rw b refl) (rw r refl)
