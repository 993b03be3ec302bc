-- A word is spelled before any text with which no word goes on, if it is before one.
use Rattle.std.proofs.Common.{◌≡◌, ℕ, ◌==◌, Bool, true, false, not, ◌||◌, ◌&&◌, List, [], ◌∷◌, ◌++◌, codes, inl, inr, Option, refl, sym, ap}
use Rattle.std.proofs.Common.{◌∙◌, encode_utf8, eqb-true, arith}
use Rattle.std.proofs.lemmas.Bool.Decides.{nat_tests}
use Rattle.std.proofs.lemmas.Bool.{and_parts}
use Rattle.std.specs.List.{list_all}
use Rattle.std.specs.Char.{is_ascii_hexdigit}
use Rattle.unicode_ident.proofs.Computing.{unicode_ident}
use Rattle.ron_spec_words.specs.Characters.{Text, is_blank, continues_name, in_raw_name}
use Rattle.ron_spec_words.specs.Runs.{begins, begins_with}
use Rattle.ron_spec_words.specs.Gap.{skip, is_delimiter, ends_value}
use Rattle.ron_spec_words.specs.Lang.{Lang, done, Nothing, Mark, Run, Behind, Means, Or}
use Rattle.ron_spec_words.specs.Exact.{FollowsValue}
use Rattle.ron_spec_words.specs.Directly.{Directly, AnyOne, stands}
use Rattle.ron_spec_words.specs.Name.{opens_literal, is_name_mark}
use Rattle.ron_spec_words.specs.Escape.{escape_meaning, PlainEscape, hex_digit, two_digits, HexByte, if_ascii, HexBytes, HexCharacter, UnicodeEscape, Escape}
use Rattle.ron_spec_words.specs.Escape.{in_continuation, is_line_feed, Continuation, always}
use Rattle.ron_spec_words.specs.Quoted.{SingleQuoted, if_no_backslash, if_ascii_no_backslash, Char, Byte, Pieces, close, piece, if_plain, StringPiece, itself}
use Rattle.ron_spec_words.specs.Quoted.{gives, Raw, utf8, String, ByteString}
use Rattle.ron_spec_words.specs.Number.{in_number, opens_base}
use Rattle.ron_spec_words.specs.AnyInteger.{in_float}
use Rattle.ron_spec_words.proofs.Gaps.{skip-other}
use Rattle.ron_spec_words.proofs.Classes.{apart, Clear, no_blank}
use Rattle.ron_spec_grammar.specs.Shapes.Unit.{EmptyBrackets}
use Rattle.ron_spec_words.specs.Characters.{continues_word}
use Rattle.ron_spec_words.proofs.NumbersWritten.{number_continues}

-- no word goes on with the text
abbrev pub Quiet : Text → Type 0
Quiet next = begins continues_word next ≡ false

-- the two begin alike
abbrev pub Alike : Text → Text → Type 0
Alike next other = (p : ℕ → Bool) → begins p next ≡ begins p other

-- ---- what is quiet

-- with a delimiter no word goes on
-- no word goes on with a delimiter
pub delimiter_ends : (c : ℕ) → is_delimiter c ≡ true → continues_word c ≡ false
unfolding unicode_ident
delimiter_ends c h = go (continues_word c) refl
  where
    go : (b : Bool) → continues_word c ≡ b → b ≡ false
    go true k = absurd (let no : false ≡ true = rw (
      apart continues_word 44 c refl k,
      apart continues_word 58 c refl k,
      apart continues_word 41 c refl k,
      apart continues_word 93 c refl k,
      apart continues_word 125 c refl k,
    ) at h in cc)
    go false k = refl

raw_clear : Clear in_raw_name
unfolding unicode_ident
raw_clear = record {
  stop = (refl, refl, refl, refl, refl);
  range = (refl, (refl, (refl, (refl, (refl, tt)))));
  blank = (refl, refl, refl, refl, refl, refl);
  slash = refl;
  hash = refl;
}

by_number : (P : ℕ → Type 0) (c n : ℕ) → (c == n) ≡ true → P n → P c
by_number P c n e h = rw (eqb-true c n e) h

-- what a word goes on with begins no gap
word_no_gap : (c : ℕ) → continues_word c ≡ true → (is_blank c ≡ false) × ((c == 47) ≡ false)
word_no_gap c h = go (in_raw_name c) refl (c == 34) refl (c == 39) refl h
  where
    P : ℕ → Type 0
    P n = (is_blank n ≡ false) × ((n == 47) ≡ false)

    go : (a : Bool) → in_raw_name c ≡ a → (b : Bool) → (c == 34) ≡ b → (d : Bool) → (c == 39) ≡ d → (a || (b || (d || (c == 35)))) ≡ true
        → (is_blank c ≡ false) × ((c == 47) ≡ false)
    go true e b f d g k = (no_blank in_raw_name raw_clear c e, apart in_raw_name 47 c raw_clear.slash e)
    go false e true f d g k = by_number P c 34 f (refl, refl)
    go false e false f true g k = by_number P c 39 g (refl, refl)
    go false e false f false g k = by_number P c 35 k (refl, refl)

-- a text is quiet where what follows its gap is
pub quiet_gap : (s : Text) → Quiet (skip s) → Quiet s
quiet_gap [] q = refl
quiet_gap (c ∷ s) q = go (continues_word c) refl
  where
    go : (b : Bool) → continues_word c ≡ b → b ≡ false
    go true e = let k = word_no_gap c e in absurd (let x : true ≡ false = sym e ∙ ap (begins continues_word) (sym (skip-other c s k.0 k.1)) ∙ q in cc)
    go false e = refl

quiet_end : (s : Text) → ends_value s ≡ true → Quiet s
quiet_end [] e = refl
quiet_end (c ∷ s) e = delimiter_ends c e

pub quiet_value : (next : Text) → FollowsValue next → Quiet next
quiet_value next f = quiet_gap next (quiet_end (skip next) f)

-- no class of such characters goes on
pub quiet_class : (p : ℕ → Bool) → ((c : ℕ) → p c ≡ true → continues_word c ≡ true) → (next : Text) → Quiet next → begins p next ≡ false
quiet_class p w [] q = refl
quiet_class p w (c ∷ next) q = go (p c) refl
  where
    go : (b : Bool) → p c ≡ b → b ≡ false
    go true k = absurd (let no : true ≡ false = sym (w c k) ∙ q in cc)
    go false k = refl

pub raw_goes_on : (c : ℕ) → in_raw_name c ≡ true → continues_word c ≡ true
raw_goes_on c h = rw h refl

pub name_goes_on : (c : ℕ) → continues_name c ≡ true → continues_word c ≡ true
name_goes_on c h = grind arith

pub number_goes_on : (c : ℕ) → in_number c ≡ true → continues_word c ≡ true
number_goes_on c h = name_goes_on c (number_continues c h)

pub float_goes_on : (c : ℕ) → in_float c ≡ true → continues_word c ≡ true
float_goes_on c h = go (in_number c) refl
  where
    go : (b : Bool) → in_number c ≡ b → continues_word c ≡ true
    go true k = number_goes_on c k
    go false k = grind (arith, nat_tests)

pub mark_goes_on : (c : ℕ) → is_name_mark c ≡ true → continues_word c ≡ true
mark_goes_on c h = grind arith

-- a fixed front stands or not, whatever quiet text comes behind
pub quiet_begins : (w t next : Text) → list_all continues_word w ≡ true → Quiet next → begins_with w (t ++ next) ≡ begins_with w t
quiet_begins [] t next h q = refl
quiet_begins (c ∷ w) [] [] h q = refl
quiet_begins (c ∷ w) [] (d ∷ next) h q = go (d == c) refl
  where
    go : (b : Bool) → (d == c) ≡ b → (b && begins_with w next) ≡ false
    go true e = absurd (let same : d ≡ c = eqb-true d c e in let k = (and_parts (continues_word c) (list_all continues_word w) h).0 in
        let no : true ≡ false = sym k ∙ ap continues_word (sym same) ∙ q in cc)
    go false e = refl
quiet_begins (c ∷ w) (d ∷ t) next h q = ap (λ b. (d == c) && b) (quiet_begins w t next (and_parts (continues_word c) (list_all continues_word w) h).1 q)

pub literal_quiet : (t next : Text) → Quiet next → opens_literal (t ++ next) ≡ opens_literal t
unfolding unicode_ident
literal_quiet t next q = rw (
  quiet_begins (codes "b\"") t next refl q,
  quiet_begins (codes "b'") t next refl q,
  quiet_begins (codes "br#") t next refl q,
  quiet_begins (codes "br\"") t next refl q,
  quiet_begins (codes "r\"") t next refl q,
  quiet_begins (codes "r#") t next refl q,
) refl

pub base_quiet : (t next : Text) → Quiet next → opens_base (t ++ next) ≡ opens_base t
unfolding unicode_ident
base_quiet t next q = rw (quiet_begins (codes "0b") t next refl q, quiet_begins (codes "0o") t next refl q, quiet_begins (codes "0x") t next refl q) refl

-- ---- three grades: whatever follows; whatever begins alike; whatever is quiet

pub record Steady {A : Type 0} (L : Lang A) : Type 0 where
  pub over : (t next other : Text) (a : A) → L t next a → L t other a

pub record Light {A : Type 0} (L : Lang A) : Type 0 where
  pub over : (t next other : Text) (a : A) → Alike next other → L t next a → L t other a

pub record Settled {A : Type 0} (L : Lang A) : Type 0 where
  pub over : (t next other : Text) (a : A) → Quiet next → Quiet other → L t next a → L t other a

light : {A : Type 0} {L : Lang A} → Steady L → Light L
light h = record { over = λ t next other a _. h.over t next other a }

pub settled : {A : Type 0} {L : Lang A} → Steady L → Settled L
settled h = record { over = λ t next other a _ _. h.over t next other a }

-- ---- whatever follows

steady_nothing : {A : Type 0} → Steady (Nothing {A = A})
steady_nothing = record { over = λ t next other a z. absurd z }

steady_mark : {A : Type 0} (c : ℕ) (a : A) → Steady (Mark c a)
steady_mark c a = record { over = λ t next other b z. z }

steady_any : Steady AnyOne
steady_any = record { over = λ t next other b z. z }

pub steady_means : {A B : Type 0} {L : Lang A} (f : A → Option B) → Steady L → Steady (Means L f)
steady_means f h = record { over = λ t next other b z. record { value = z.value; spelled = h.over t next other z.value z.spelled; meant = z.meant } }

steady_behind : {A : Type 0} (c : ℕ) {L : Lang A} → Steady L → Steady (Behind c L)
steady_behind c h = record { over = λ t next other a z. record { rest = z.rest; split = z.split; spelled = h.over z.rest next other a z.spelled } }

steady_or : {A : Type 0} {L M : Lang A} → Steady L → Steady M → Steady (Or L M)
steady_or {A} {L} {M} h k = record { over = go }
  where
    go : (t next other : Text) (a : A) → Or L M t next a → Or L M t other a
    go t next other a (inl z) = inl (h.over t next other a z)
    go t next other a (inr z) = inr (k.over t next other a z)

steady_directly : {A B : Type 0} {L : Lang A} {M : A → Lang B} → Steady L → ((a : A) → Steady (M a)) → Steady (Directly L M)
steady_directly h k = record {
  over = λ t next other b z. record {
    value = z.value;
    left = z.left;
    right = z.right;
    split = z.split;
    first = h.over z.left (z.right ++ next) (z.right ++ other) z.value z.first;
    second = (k z.value).over z.right next other b z.second;
  };
}

steady_hex : Steady HexByte
steady_hex = steady_behind 92
    (steady_behind 120 (steady_directly (steady_means hex_digit steady_any) (λ a. steady_means (two_digits a) (steady_means hex_digit steady_any))))

hex_bytes_over : (t next other : Text) (bs : List ℕ) → HexBytes t next bs → HexBytes t other bs
hex_bytes_over t next other [] z = z
hex_bytes_over t next other (b ∷ bs) z = record {
  value = z.value;
  left = z.left;
  right = z.right;
  split = z.split;
  first = steady_hex.over z.left (z.right ++ next) (z.right ++ other) b z.first;
  second = hex_bytes_over z.right next other bs z.second;
}

steady_character : Steady HexCharacter
steady_character = record { over = λ t next other c z. (z.0, hex_bytes_over t next other (encode_utf8 c) z.1) }

steady_unicode : Steady UnicodeEscape
steady_unicode = steady_behind 92 (steady_behind 117 (steady_behind 123 (record {
  over = λ t next other c z. record {
    value = z.value;
    left = z.left;
    right = z.right;
    split = z.split;
    first = record {
      value = z.first.value;
      spelled = record { same = z.first.spelled.same; every = z.first.spelled.every; longest = ap (λ u. begins is_ascii_hexdigit (u ++ other)) z.second.0 };
      meant = z.first.meant;
    };
    second = z.second;
  };
})))

steady_plain : Steady PlainEscape
steady_plain = steady_behind 92 (steady_means escape_meaning steady_any)

steady_escape : {H U : Lang ℕ} → Steady H → Steady U → Steady (Escape H U)
steady_escape h u = steady_or h (steady_or u steady_plain)

steady_single : {L : Lang ℕ} → Steady L → Steady (SingleQuoted L)
steady_single h = steady_behind 39 (steady_directly h (λ c. steady_mark 39 c))

pub steady_char : Steady Char
steady_char = steady_single (steady_or (steady_escape (steady_means if_ascii steady_hex) steady_unicode) (steady_means if_no_backslash steady_any))

pub steady_byte : Steady Byte
steady_byte = steady_behind 98 (steady_single (steady_or (steady_escape steady_hex steady_nothing) (steady_means if_ascii_no_backslash steady_any)))

steady_raw : Steady Raw
steady_raw = record { over = λ t next other a z. record { count = z.count; same = z.same; alone = z.alone } }

pub steady_empty : Steady EmptyBrackets
steady_empty = steady_behind 40 (steady_mark 41 done)

-- ---- pieces: a continuation goes as far as it can, and a quote stands behind it

light_run : (p q : ℕ → Bool) → Light (Run p q)
light_run p q = record { over = λ t next other a e z. record { same = z.same; every = z.every; longest = sym (e q) ∙ z.longest } }

light_means : {A B : Type 0} {L : Lang A} (f : A → Option B) → Light L → Light (Means L f)
light_means f h = record { over = λ t next other b e z. record { value = z.value; spelled = h.over t next other z.value e z.spelled; meant = z.meant } }

light_behind : {A : Type 0} (c : ℕ) {L : Lang A} → Light L → Light (Behind c L)
light_behind c h = record { over = λ t next other a e z. record { rest = z.rest; split = z.split; spelled = h.over z.rest next other a e z.spelled } }

light_or : {A : Type 0} {L M : Lang A} → Light L → Light M → Light (Or L M)
light_or {A} {L} {M} h k = record { over = go }
  where
    go : (t next other : Text) (a : A) → Alike next other → Or L M t next a → Or L M t other a
    go t next other a e (inl z) = inl (h.over t next other a e z)
    go t next other a e (inr z) = inr (k.over t next other a e z)

light_continuation : Light Continuation
light_continuation =
    light_means (always []) (light_behind 92 (light_or (light_behind 13 (light_run is_line_feed in_continuation)) (light_run is_line_feed in_continuation)))

light_piece : (give : ℕ → Text) {E : Lang Text} → Steady E → Light (StringPiece give E)
light_piece give h = light_or light_continuation (light (steady_or h (steady_means (if_plain give) steady_any)))

alike_front : (t u next other : Text) → Alike (u ++ next) (u ++ other) → Alike ((t ++ u) ++ next) ((t ++ u) ++ other)
alike_front [] u next other h p = h p
alike_front (c ∷ t) u next other h p = refl

alike_pieces : {P : Lang Text} {t next a : Text} → Pieces P t next a → (other : Text) → Alike (t ++ next) (t ++ other)
alike_pieces close other p = refl
alike_pieces (piece t u next a b k r) other p = alike_front t u next other (alike_pieces r other) p

pieces_over : {P : Lang Text} → Light P → {t next a : Text} → Pieces P t next a → (other : Text) → Pieces P t other a
pieces_over h close other = close
pieces_over h (piece t u next a b k r) other = piece t u other a b (h.over t (u ++ next) (u ++ other) a (alike_pieces r other) k) (pieces_over h r other)

steady_pieces : {P : Lang Text} → Light P → Steady (Pieces P)
steady_pieces h = record { over = λ t next other a z. pieces_over h z other }

pub steady_string : Steady String
steady_string = steady_or (steady_behind 34 (steady_pieces (light_piece itself (steady_means (gives itself) (steady_escape steady_character steady_unicode)))))
    (steady_behind 114 steady_raw)

pub steady_byte_string : Steady ByteString
steady_byte_string = steady_behind 98 (steady_or
    (steady_behind 34 (steady_pieces (light_piece encode_utf8
    (steady_or (steady_means (gives encode_utf8) steady_unicode) (steady_means (gives itself) (steady_escape steady_hex steady_nothing))))))
    (steady_behind 114 (steady_means utf8 steady_raw)))
