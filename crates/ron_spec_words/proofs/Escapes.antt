-- Escapes are read exactly: for characters and strings here, and for the calls of `ron_lex` that read them.
use Rattle.std.proofs.Common.{◌≡◌, ℕ, zero, suc, ◌≤◌, ◌==◌, Bool, true, false, ◌&&◌, ◌||◌, cond, length, List, [], ◌∷◌, ◌++◌, codes, chars, Option, Some, None}
use Rattle.std.proofs.Common.{is_some, inl, inr, refl, sym, ap, subst, ◌∙◌, arith, append_assoc, append-nil}
use Rattle.std.specs.Str.{is_utf8}
use Rattle.std.specs.Char.{is_ascii_hexdigit}
use Rattle.std.proofs.lemmas.Str.{chars-encodes, encodes-chars, scalars-chars, IsUtf8-from_is_utf8, is_utf8-from_IsUtf8, IsUtf8-encode, encode_same}
use Rattle.std.proofs.lemmas.Str.{length-encode, len_utf8_bounds}
use Rattle.std.proofs.lemmas.Bool.{or_right}
use lib.Utf8.{scalar, scalars, encode, encodes}
use Rattle.ron_spec_words.specs.Characters.{Text}
use Rattle.ron_spec_words.specs.Runs.{is_at, begins_with}
use Rattle.ron_spec_words.specs.Lang.{Lang, done, Nothing, Run, Behind, Means, Or}
use Rattle.ron_spec_words.specs.Reader.{deep, got, failed, Reader}
use Rattle.ron_spec_words.specs.Exact.{Takes, IsWordReader}
use Rattle.ron_spec_words.specs.Escape.{PlainEscape, plain_escape, escape_meaning, HexByte, hex_byte, HexAscii, hex_ascii, HexBytes, HexCharacter, only_one}
use Rattle.ron_spec_words.specs.Escape.{character_of, or_else, hex_bytes, hex_character, UnicodeEscape, unicode_escape, Escape, escape, is_line_feed}
use Rattle.ron_spec_words.specs.Escape.{in_continuation, Continuation, continuation}
use Rattle.ron_spec_words.proofs.Words.{First, word_run, word_behind, word_choose, word_means, word_mark, first_run, first_behind, first_or}
use Rattle.ron_spec_words.proofs.Classes.{apart}
use Rattle.ron_spec_words.proofs.Direct.{word_directly, word_any, and_directly_got, directly_calm, directly-append}

pub word_plain_escape : IsWordReader plain_escape PlainEscape
unfolding plain_escape
word_plain_escape = word_behind 92 _ _ (word_means escape_meaning word_any)

pub word_hex_byte : IsWordReader hex_byte HexByte
unfolding hex_byte
word_hex_byte = word_behind 92 _ _ (word_behind 120 _ _ (word_directly _ _ _ _ (word_means _ word_any) (λ a. word_means _ (word_means _ word_any))))

pub word_hex_ascii : IsWordReader hex_ascii HexAscii
word_hex_ascii = word_means _ word_hex_byte

pub word_unicode : IsWordReader unicode_escape UnicodeEscape
unfolding unicode_escape
word_unicode = word_behind 92 _ _
    (word_behind 117 _ _ (word_behind 123 _ _ (word_directly _ _ _ _ (word_means _ (word_run is_ascii_hexdigit is_ascii_hexdigit)) (λ c. word_mark 125 c))))

-- ---- the character that bytes form

record IsCharacter (bs : List ℕ) (c : ℕ) : Type 0 where
  is_scalar : scalar c ≡ true
  bytes : encode c ≡ bs

only-one : (t : Text) (c : ℕ) → only_one t ≡ Some c → t ≡ c ∷ []
only-one [] c e = absurd (cc)
only-one (d ∷ []) c e = cc
only-one (d ∷ b ∷ t) c e = absurd (cc)

and_true : (a : Bool) → (a && true) ≡ a
and_true true = refl
and_true false = refl

formed : (bs : List ℕ) (c : ℕ) → character_of bs ≡ Some c → IsCharacter bs c
formed bs c e = go (is_utf8 bs) refl e
  where
    one : (cs : List ℕ) → cs ≡ c ∷ [] → scalars cs ≡ true → encodes cs ≡ bs → IsCharacter bs c
    one cs k h m = record { is_scalar = sym (and_true (scalar c)) ∙ sym (ap scalars k) ∙ h; bytes = sym (append-nil (encode c)) ∙ sym (ap encodes k) ∙ m }

    go : (b : Bool) → is_utf8 bs ≡ b → cond b (only_one (chars bs)) None ≡ Some c → IsCharacter bs c
    go true h k = let u = IsUtf8-from_is_utf8 bs h in one (chars bs) (only-one (chars bs) c k) (scalars-chars bs u) (encodes-chars bs u)
    go false h k = absurd (cc)

forms : (bs : List ℕ) (c : ℕ) → IsCharacter bs c → character_of bs ≡ Some c
forms bs c h =
    let e : chars bs ≡ c ∷ [] = sym (ap chars (append-nil (encode c) ∙ h.bytes)) ∙ chars-encodes (c ∷ []) (and_true (scalar c) ∙ h.is_scalar) in
    let u : is_utf8 bs ≡ true = ap is_utf8 (sym h.bytes) ∙ is_utf8-from_IsUtf8 (encode c) (IsUtf8-encode c h.is_scalar) in
    rw (u, e) refl

-- ---- one byte after another

-- bytes are spelled there that form, with those before them, a character
record Formed (bs s : Text) (c : ℕ) (rest : Text) : Type 0 where
  stretch : Text
  bytes : List ℕ
  split : s ≡ stretch ++ rest
  spelled : HexBytes stretch rest bytes
  is_character : IsCharacter (bs ++ bytes) c

module _ (bs s : Text) (b : ℕ) (u : Text) (c : ℕ) (rest : Text) (x : Takes HexByte s b u) where
  last_byte : u ≡ rest → IsCharacter (bs ++ b ∷ []) c → Formed bs s c rest
  last_byte e h = record {
    stretch = x.stretch;
    bytes = b ∷ [];
    split = x.split ∙ ap (λ z. x.stretch ++ z) e;
    spelled = record {
      value = done;
      left = x.stretch;
      right = [];
      split = sym (append-nil x.stretch);
      first = subst (λ z. HexByte x.stretch z b) e x.spelled;
      second = refl;
    };
    is_character = h;
  }

  byte_before : Formed (bs ++ b ∷ []) u c rest → Formed bs s c rest
  byte_before y = record {
    stretch = x.stretch ++ y.stretch;
    bytes = b ∷ y.bytes;
    split = x.split ∙ ap (λ z. x.stretch ++ z) y.split ∙ sym (append_assoc x.stretch y.stretch rest);
    spelled = record {
      value = done;
      left = x.stretch;
      right = y.stretch;
      split = refl;
      first = subst (λ z. HexByte x.stretch z b) y.split x.spelled;
      second = y.spelled;
    };
    is_character = rw (append_assoc bs (b ∷ []) y.bytes) at y.is_character;
  }

bytes_take : (n : ℕ) (bs s : Text) (c : ℕ) (rest : Text) → hex_bytes n bs s ≡ got c rest → Formed bs s c rest
bytes_take zero bs s c rest e = absurd (cc)
bytes_take (suc n) bs s c rest e =
    let z = and_directly_got (hex_byte s) (λ b. or_else (character_of (bs ++ b ∷ [])) (hex_bytes n (bs ++ b ∷ []))) c rest e in
    go z.0 z.1 (word_hex_byte.sound s z.0 z.1 z.2) (character_of (bs ++ z.0 ∷ [])) refl z.3 (λ k. bytes_take n (bs ++ z.0 ∷ []) z.1 c rest k)
  where
    go : (b : ℕ) (u : Text) → Takes HexByte s b u → (o : Option ℕ) → character_of (bs ++ b ∷ []) ≡ o → or_else o (hex_bytes n (bs ++ b ∷ [])) u ≡ got c rest
        → (hex_bytes n (bs ++ b ∷ []) u ≡ got c rest → Formed (bs ++ b ∷ []) u c rest) → Formed bs s c rest
    go b u x (Some d) h k f = let same : d ≡ c = cc in last_byte bs s b u c rest x (cc) (formed (bs ++ b ∷ []) c (h ∙ ap (λ y. Some y) same))
    go b u x None h k f = byte_before bs s b u c rest x (f k)

-- no byte of a character is left out: its UTF-8 does not begin with that of another
module _ (bs : List ℕ) (b : ℕ) (next : Text) (c : ℕ) where
  byte_step : (n : ℕ) (t : Text) (ds : List ℕ) (l : HexBytes t next (b ∷ ds))
      → or_else (character_of (bs ++ b ∷ [])) (hex_bytes n (bs ++ b ∷ [])) (l.right ++ next) ≡ got c next → hex_bytes (suc n) bs (t ++ next) ≡ got c next
  byte_step n t ds l e =
      ap (λ z. hex_bytes (suc n) bs (z ++ next)) l.split
      ∙ directly-append hex_byte (λ b. or_else (character_of (bs ++ b ∷ [])) (hex_bytes n (bs ++ b ∷ []))) l.left l.right next b c
      (word_hex_byte.complete l.left (l.right ++ next) b l.first) (record { answer = e })

  byte_more : (n : ℕ) (d : ℕ) (ds : List ℕ) (u : Text) → IsCharacter (bs ++ b ∷ d ∷ ds) c → hex_bytes n (bs ++ b ∷ []) (u ++ next) ≡ got c next
      → or_else (character_of (bs ++ b ∷ [])) (hex_bytes n (bs ++ b ∷ [])) (u ++ next) ≡ got c next
  byte_more n d ds u h e = go (character_of (bs ++ b ∷ [])) refl
    where
      go : (o : Option ℕ) → character_of (bs ++ b ∷ []) ≡ o → or_else o (hex_bytes n (bs ++ b ∷ [])) (u ++ next) ≡ got c next
      go (Some x) k =
          let f = formed (bs ++ b ∷ []) x k in
          let q =
          encode_same x c (d ∷ ds) [] (ap (λ z. z ++ (d ∷ ds)) f.bytes ∙ append_assoc bs (b ∷ []) (d ∷ ds) ∙ sym h.bytes ∙ sym (append-nil (encode c))) in
          let r : d ∷ ds ≡ [] = q.1 in
          absurd (cc)
      go None k = e

bytes_at : (ds : List ℕ) (b n : ℕ) (bs t next : Text) (c : ℕ) → IsCharacter (bs ++ b ∷ ds) c → length ds ≤ n → HexBytes t next (b ∷ ds)
    → hex_bytes (suc n) bs (t ++ next) ≡ got c next
bytes_at [] b n bs t next c h m l = byte_step bs b next c n t [] l (rw (forms (bs ++ b ∷ []) c h, l.second) refl)
bytes_at (d ∷ ds) b zero bs t next c h m l = absurd (omega (arith, m))
bytes_at (d ∷ ds) b (suc n) bs t next c h m l =
    let k : IsCharacter ((bs ++ b ∷ []) ++ d ∷ ds) c = rw (append_assoc bs (b ∷ []) (d ∷ ds)) h in
    byte_step bs b next c (suc n) t (d ∷ ds) l
    (byte_more bs b next c (suc n) d ds l.right h (bytes_at ds d n (bs ++ b ∷ []) l.right next c k (omega (arith, m)) l.second))

bytes_calm : (n : ℕ) (bs s : Text) → hex_bytes n bs s ≡ failed deep → ⊥
bytes_calm zero bs s e = cc
bytes_calm (suc n) bs s e = directly_calm hex_byte (λ b. or_else (character_of (bs ++ b ∷ [])) (hex_bytes n (bs ++ b ∷ []))) word_hex_byte.calm
    (λ b u. go b u (character_of (bs ++ b ∷ [])) (bytes_calm n (bs ++ b ∷ []) u)) s e
  where
    go : (b : ℕ) (u : Text) (o : Option ℕ) → (hex_bytes n (bs ++ b ∷ []) u ≡ failed deep → ⊥) → or_else o (hex_bytes n (bs ++ b ∷ [])) u ≡ failed deep → ⊥
    go b u (Some d) f k = cc
    go b u None f k = f k

-- a character has one to four bytes
record FirstByte (c : ℕ) : Type 0 where
  byte : ℕ
  others : List ℕ
  same : encode c ≡ byte ∷ others
  few : length others ≤ 3

first_byte : (c : ℕ) → FirstByte c
first_byte c = go (encode c) refl
  where
    go : (bs : List ℕ) → encode c ≡ bs → FirstByte c
    go [] e = absurd (let m : length (encode c) ≡ 0 = ap length e in omega (arith, m, length-encode c, len_utf8_bounds c))
    go (b ∷ bs) e = record {
      byte = b;
      others = bs;
      same = e;
      few = let m : length (encode c) ≡ suc (length bs) = ap length e in omega (arith, m, length-encode c, (len_utf8_bounds c).1);
    }

pub word_hex_character : IsWordReader hex_character HexCharacter
unfolding hex_character
word_hex_character = record { sound = to; complete = λ t next c l. record { answer = from t next c l (first_byte c) }; calm = λ s e. bytes_calm 4 [] s e }
  where
    to : (s : Text) (c : ℕ) (rest : Text) → hex_character s ≡ got c rest → Takes HexCharacter s c rest
    to s c rest e = let y = bytes_take 4 [] s c rest e in
        record {
          stretch = y.stretch;
          split = y.split;
          spelled = (y.is_character.is_scalar, subst (HexBytes y.stretch rest) (sym y.is_character.bytes) y.spelled);
        }

    from : (t next : Text) (c : ℕ) → HexCharacter t next c → FirstByte c → hex_character (t ++ next) ≡ got c next
    from t next c l f = bytes_at f.others f.byte 3 [] t next c (record { is_scalar = l.0; bytes = f.same }) f.few (subst (HexBytes t next) f.same l.1)

-- ---- what an escape begins with

-- a backslash, and behind it a character of the class
pub record Escaped (p : ℕ → Bool) (t : Text) : Type 0 where
  pub mark : ℕ
  pub rest : Text
  pub same : t ≡ 92 ∷ mark ∷ rest
  pub of_class : p mark ≡ true

pub record AllEscaped {A : Type 0} (p : ℕ → Bool) (L : Lang A) : Type 0 where
  pub holds : (t next : Text) (a : A) → L t next a → Escaped p t

pub escaped_or : {A : Type 0} {p : ℕ → Bool} {L M : Lang A} → AllEscaped p L → AllEscaped p M → AllEscaped p (Or L M)
escaped_or {A} {p} {L} {M} h k = record { holds = both }
  where
    both : (t next : Text) (a : A) → Or L M t next a → Escaped p t
    both t next a (inl z) = h.holds t next a z
    both t next a (inr z) = k.holds t next a z

pub escaped_means : {A B : Type 0} {p : ℕ → Bool} {L : Lang A} {f : A → Option B} → AllEscaped p L → AllEscaped p (Means L f)
escaped_means h = record { holds = λ t next b z. h.holds t next z.value z.spelled }

pub escaped_weaker : {A : Type 0} {L : Lang A} (p q : ℕ → Bool) → ((c : ℕ) → p c ≡ true → q c ≡ true) → AllEscaped p L → AllEscaped q L
escaped_weaker p q k h =
    record { holds = λ t next a l. let y = h.holds t next a l in record { mark = y.mark; rest = y.rest; same = y.same; of_class = k y.mark y.of_class } }

abbrev pub is_x : ℕ → Bool
is_x c = c == 120

abbrev pub is_u : ℕ → Bool
is_u c = c == 117

abbrev pub is_plain : ℕ → Bool
is_plain c = is_some (escape_meaning c)

pub escaped_byte : AllEscaped is_x HexByte
escaped_byte = record { holds = λ t next a z. record { mark = 120; rest = z.spelled.rest; same = z.split ∙ ap (λ x. 92 ∷ x) z.spelled.split; of_class = refl } }

pub escaped_unicode : AllEscaped is_u UnicodeEscape
escaped_unicode =
    record { holds = λ t next a z. record { mark = 117; rest = z.spelled.rest; same = z.split ∙ ap (λ x. 92 ∷ x) z.spelled.split; of_class = refl } }

pub escaped_plain : AllEscaped is_plain PlainEscape
escaped_plain = record {
  holds =
      λ t next a z. record { mark = z.spelled.value; rest = []; same = z.split ∙ ap (λ x. 92 ∷ x) z.spelled.spelled; of_class = ap is_some z.spelled.meant };
}

pub escaped_character : AllEscaped is_x HexCharacter
escaped_character = record { holds = λ t next c l. at t next c (first_byte c) l.1 }
  where
    at : (t next : Text) (c : ℕ) (f : FirstByte c) → HexBytes t next (encode c) → Escaped is_x t
    at t next c f l =
        let z : HexBytes t next (f.byte ∷ f.others) = subst (HexBytes t next) f.same l in
        let y = escaped_byte.holds z.left (z.right ++ next) f.byte z.first in
        record { mark = y.mark; rest = y.rest ++ z.right; same = z.split ∙ ap (λ x. x ++ z.right) y.same; of_class = y.of_class }

pub first_escaped : {A : Type 0} {L : Lang A} {p : ℕ → Bool} (P : Text → Type 0) → ((c : ℕ) (s : Text) → p c ≡ true → P (92 ∷ c ∷ s)) → AllEscaped p L
    → First P L
first_escaped P k h = record { holds = λ t next a l. let y = h.holds t next a l in rw y.same (k y.mark (y.rest ++ next) y.of_class) }

-- behind the backslash stands n, where the class holds n alone; where it does not hold n, n does not stand there
pub marked : {A : Type 0} {L : Lang A} (n : ℕ) → AllEscaped (λ c. c == n) L → First (λ s. begins_with (92 ∷ n ∷ []) s ≡ true) L
marked n h = first_escaped (λ s. begins_with (92 ∷ n ∷ []) s ≡ true) (λ c s k. rw k refl) h

pub not_marked : {A : Type 0} {L : Lang A} (n : ℕ) (p : ℕ → Bool) → p n ≡ false → AllEscaped p L → First (λ s. begins_with (92 ∷ n ∷ []) s ≡ false) L
not_marked n p e h = first_escaped (λ s. begins_with (92 ∷ n ∷ []) s ≡ false) (λ c s k. rw (apart p n c e k) refl) h

-- ---- escapes

pub word_escape : {hex unicode : Reader ℕ} {Hex Unicode : Lang ℕ} → AllEscaped is_x Hex → AllEscaped is_u Unicode → IsWordReader hex Hex
    → IsWordReader unicode Unicode → IsWordReader (escape hex unicode) (Escape Hex Unicode)
word_escape x u h k =
    word_choose (begins_with (codes "\\x")) (marked 120 x) (first_or (not_marked 120 is_u refl u) (not_marked 120 is_plain refl escaped_plain)) h
    (word_choose (begins_with (codes "\\u")) (marked 117 u) (not_marked 117 is_plain refl escaped_plain) k word_plain_escape)

-- what may stand behind the backslash
abbrev pub is_mark : ℕ → Bool
is_mark c = is_x c || (is_u c || is_plain c)

pub escaped_escape : {Hex Unicode : Lang ℕ} → AllEscaped is_x Hex → AllEscaped is_u Unicode → AllEscaped is_mark (Escape Hex Unicode)
escaped_escape x u = escaped_or (escaped_weaker is_x is_mark (λ c k. rw k refl) x)
    (escaped_or (escaped_weaker is_u is_mark (λ c k. or_right (is_x c) _ (rw k refl)) u)
    (escaped_weaker is_plain is_mark (λ c k. or_right (is_x c) _ (or_right (is_u c) _ k)) escaped_plain))

pub escaped_nothing : {p : ℕ → Bool} → AllEscaped p (Nothing {A = ℕ})
escaped_nothing = record { holds = λ t next a z. absurd z }

pub word_continuation : IsWordReader continuation Continuation
unfolding continuation
word_continuation = word_means _ (word_behind 92 _ _ (word_choose (is_at 13) (first_behind _ 13 _ (λ s. refl))
    (first_run _ is_line_feed in_continuation (λ c s k. apart is_line_feed 13 c refl k))
    (word_behind 13 _ _ (word_run is_line_feed in_continuation))
    (word_run is_line_feed in_continuation)))

-- a continuation begins with a backslash and CR or LF
abbrev pub is_line_end : ℕ → Bool
is_line_end c = (c == 13) || (c == 10)

pub escaped_continuation : AllEscaped is_line_end Continuation
escaped_continuation = record { holds = λ t next a z. at t next z.value z.spelled }
  where
    run_first : (u next v : Text) → Run is_line_feed in_continuation u next v → (d : ℕ) × (w : Text) × (u ≡ d ∷ w) × (is_line_end d ≡ true)
    run_first [] next v z = absurd z.every
    run_first (d ∷ w) next v z = (d, w, refl, or_right (d == 13) _ z.every.0)

    at : (t next v : Text) → Behind 92 (Or (Behind 13 (Run is_line_feed in_continuation)) (Run is_line_feed in_continuation)) t next v → Escaped is_line_end t
    at t next v z = go z.spelled
      where
        go : Or (Behind 13 (Run is_line_feed in_continuation)) (Run is_line_feed in_continuation) z.rest next v → Escaped is_line_end t
        go (inl y) = record { mark = 13; rest = y.rest; same = z.split ∙ ap (λ x. 92 ∷ x) y.split; of_class = refl }
        go (inr y) = let f = run_first z.rest next v y in record { mark = f.0; rest = f.1; same = z.split ∙ ap (λ x. 92 ∷ x) f.2; of_class = f.3 }
