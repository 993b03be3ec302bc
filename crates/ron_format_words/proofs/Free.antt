-- What a word spells whatever follows it, and what it spells before texts that begin alike.
use Rattle.std.proofs.Common.{◌≡◌, ℕ, Bool, true, false, not, ◌||◌, ◌&&◌, ◌==◌, if◌then◌else◌, List, [], ◌∷◌, ◌++◌, Some, Option, inl, inr, refl, sym, ap}
use Rattle.std.proofs.Common.{subst, ◌∙◌, codes, encode_utf8, cond, drop}
use Rattle.std.proofs.lemmas.List.{append_cancel_right}
use Rattle.ron_spec_words.specs.Characters.{Text, continues_name, in_raw_name}
use Rattle.ron_spec_words.specs.Runs.{begins, begins_with, is_at}
use Rattle.ron_spec_words.specs.Reader.{Got, got, failed, Reader, run}
use Rattle.ron_spec_words.specs.Exact.{IsWordReader}
use Rattle.ron_spec_words.specs.Scan.{starts_gap, starts_run, opens_string, opens_byte_string, opens_raw_name, raw_name, past_one, left_by, token}
use Rattle.ron_spec_words.specs.Quoted.{string, byte_string, char, byte}
use Rattle.ron_spec_words.proofs.Words.{word_run}
use Rattle.ron_spec_words.proofs.Quotes.{word_char, word_byte}
use Rattle.ron_spec_words.proofs.RawStrings.{word_string, word_byte_string}
use Rattle.ron_spec_words.proofs.Tokens.{word_raw_name, token_string, token_byte_string, token_char, token_byte, token_raw_name}
use Rattle.ron_spec_words.specs.Lang.{Lang, Done, done, Nothing, Mark, Behind, Means, Or, When, NotBefore, Run, At}
use Rattle.ron_spec_words.specs.Directly.{Directly, AnyOne, FixedWord}
use Rattle.ron_spec_words.specs.Escape.{HexByte, HexBytes, HexCharacter, UnicodeEscape, PlainEscape, Escape, Continuation}
use Rattle.ron_spec_words.specs.Quoted.{Char, Byte, Pieces, close, piece, StringPiece, Raw, String, ByteString}
use Rattle.ron_spec_words.specs.Name.{is_name_mark, opens_literal, RawName, Name, UntypedName}
use Rattle.ron_format_words.specs.Alike.{is_solid}
use Rattle.ron_format_words.proofs.Steps.{Within, name_within, solid_no_start}
use Rattle.ron_format_words.proofs.Ahead.{front, same_front, Sees, seen_same, sees_begins, sees_with, sees_string, sees_byte_string, one_within}

-- ---- whatever follows

pub record Free {A : Type 0} (L : Lang A) : Type 0 where
  pub at : (t next u : Text) (a : A) → L t next a → L t u a

-- before texts that begin with the same character
pub record Steady {A : Type 0} (L : Lang A) : Type 0 where
  pub at : (t next u : Text) (a : A) → L t next a → ((p : ℕ → Bool) → begins p next ≡ begins p u) → L t u a

free_steady : {A : Type 0} {L : Lang A} → Free L → Steady L
free_steady h = record { at = λ t next u a z k. h.at t next u a z }

free_mark : {A : Type 0} (c : ℕ) (a : A) → Free (Mark c a)
free_mark c a = record { at = λ t next u b z. z }

free_any : Free AnyOne
free_any = record { at = λ t next u b z. z }

free_nothing : {A : Type 0} → Free (Nothing {A = A})
free_nothing = record { at = λ t next u b z. z }

free_behind : {A : Type 0} {c : ℕ} {L : Lang A} → Free L → Free (Behind c L)
free_behind h = record { at = λ t next u a z. record { rest = z.rest; split = z.split; spelled = h.at z.rest next u a z.spelled } }

free_means : {A B : Type 0} {L : Lang A} {f : A → Option B} → Free L → Free (Means L f)
free_means h = record { at = λ t next u b z. record { value = z.value; spelled = h.at t next u z.value z.spelled; meant = z.meant } }

free_or : {A : Type 0} {L M : Lang A} → Free L → Free M → Free (Or L M)
free_or {A} {L} {M} h k = record { at = both }
  where
    both : (t next u : Text) (a : A) → Or L M t next a → Or L M t u a
    both t next u a (inl z) = inl (h.at t next u a z)
    both t next u a (inr z) = inr (k.at t next u a z)

free_directly : {A B : Type 0} {L : Lang A} {M : A → Lang B} → Free L → ((a : A) → Free (M a)) → Free (Directly L M)
free_directly h k = record {
  at = λ t next u b z.
      record {
        value = z.value;
        left = z.left;
        right = z.right;
        split = z.split;
        first = h.at z.left (z.right ++ next) (z.right ++ u) z.value z.first;
        second = (k z.value).at z.right next u b z.second;
      };
}

-- the closing character is what the first sees behind it
free_closed : {A : Type 0} {L : Lang A} (c : ℕ) → Steady L → Free (Directly L (λ a. Mark c a))
free_closed {A} {L} c h = record {
  at = λ t next u b z.
      record {
        value = z.value;
        left = z.left;
        right = z.right;
        split = z.split;
        first = h.at z.left (z.right ++ next) (z.right ++ u) z.value z.first (λ p. rw z.second.0 refl);
        second = z.second;
      };
}

steady_run : (p q : ℕ → Bool) → Steady (Run p q)
steady_run p q = record { at = λ t next u a z k. record { same = z.same; every = z.every; longest = sym (k q) ∙ z.longest } }

steady_behind : {A : Type 0} {c : ℕ} {L : Lang A} → Steady L → Steady (Behind c L)
steady_behind h = record { at = λ t next u a z k. record { rest = z.rest; split = z.split; spelled = h.at z.rest next u a z.spelled k } }

steady_means : {A B : Type 0} {L : Lang A} {f : A → Option B} → Steady L → Steady (Means L f)
steady_means h = record { at = λ t next u b z k. record { value = z.value; spelled = h.at t next u z.value z.spelled k; meant = z.meant } }

steady_or : {A : Type 0} {L M : Lang A} → Steady L → Steady M → Steady (Or L M)
steady_or {A} {L} {M} h k = record { at = both }
  where
    both : (t next u : Text) (a : A) → Or L M t next a → ((p : ℕ → Bool) → begins p next ≡ begins p u) → Or L M t u a
    both t next u a (inl z) e = inl (h.at t next u a z e)
    both t next u a (inr z) e = inr (k.at t next u a z e)

-- ---- escapes

free_byte_escape : Free HexByte
free_byte_escape = free_behind (free_behind (free_directly (free_means free_any) (λ a. free_means (free_means free_any))))

free_bytes : (bs : List ℕ) → Free {A = Done} (λ t next _. HexBytes t next bs)
free_bytes [] = record { at = λ t next u a z. z }
free_bytes (b ∷ bs) = record {
  at = λ t next u a z. (free_directly {L = At HexByte b} {M = λ _ x n _. HexBytes x n bs} (record { at = λ t next u _ z. free_byte_escape.at t next u b z })
      (λ _. free_bytes bs)).at t next u done z;
}

free_character : Free HexCharacter
free_character = record { at = λ t next u c z. (z.0, (free_bytes (encode_utf8 c)).at t next u done z.1) }

free_unicode : Free UnicodeEscape
free_unicode = free_behind (free_behind (free_behind (free_closed 125 (steady_means (steady_run _ _)))))

free_plain_escape : Free PlainEscape
free_plain_escape = free_behind (free_means free_any)

free_escape : {H U : Lang ℕ} → Free H → Free U → Free (Escape H U)
free_escape h k = free_or h (free_or k free_plain_escape)

steady_continuation : Steady Continuation
steady_continuation = steady_means (steady_behind (steady_or (steady_behind (steady_run _ _)) (steady_run _ _)))

-- ---- pieces

pieces_begin : {P : Lang Text} {t next a : Text} (p : ℕ → Bool) (u : Text) → Pieces P t next a → begins p (t ++ next) ≡ begins p (t ++ u)
pieces_begin p u close = refl
pieces_begin p u (piece [] w next a b z r) = pieces_begin p u r
pieces_begin p u (piece (c ∷ t) w next a b z r) = refl

free_pieces : {P : Lang Text} {t next a : Text} → Steady P → (u : Text) → Pieces P t next a → Pieces P t u a
free_pieces h u close = close
free_pieces h u (piece t w next a b z r) = piece t w u a b (h.at t (w ++ next) (w ++ u) a z (λ p. pieces_begin p u r)) (free_pieces h u r)

free_quoted : {P : Lang Text} → Steady P → Free (Pieces P)
free_quoted h = record { at = λ t next u a z. free_pieces h u z }

steady_piece : (give : ℕ → Text) {E : Lang Text} → Free E → Steady (StringPiece give E)
steady_piece give h = steady_or steady_continuation (free_steady (free_or h (free_means free_any)))

free_raw : Free Raw
free_raw = record { at = λ t next u a z. record { count = z.count; same = z.same; alone = z.alone } }

-- ---- literals

pub free_char : Free Char
free_char = free_behind (free_closed 39 (free_steady (free_or (free_escape (free_means free_byte_escape) free_unicode) (free_means free_any))))

pub free_byte : Free Byte
free_byte = free_behind (free_behind (free_closed 39 (free_steady (free_or (free_escape free_byte_escape free_nothing) (free_means free_any)))))

pub free_string : Free String
free_string = free_or (free_behind (free_quoted (steady_piece _ (free_means (free_escape free_character free_unicode))))) (free_behind free_raw)

pub free_byte_string : Free ByteString
free_byte_string = free_behind
    (free_or (free_behind (free_quoted (steady_piece _ (free_or (free_means free_unicode) (free_means (free_escape free_byte_escape free_nothing))))))
    (free_behind (free_means free_raw)))

-- ---- before texts of the same front

pub record Stable {A : Type 0} (L : Lang A) : Type 0 where
  pub at : (t next u : Text) (a : A) → L t next a → front next ≡ front u → L t u a

pub stable_free : {A : Type 0} {L : Lang A} → Free L → Stable L
stable_free h = record { at = λ t next u a z e. h.at t next u a z }

pub stable_run : (p q : ℕ → Bool) → Within q → Stable (Run p q)
stable_run p q w = record { at = λ t next u a z e. record { same = z.same; every = z.every; longest = sym (seen_same (sees_begins q w) e) ∙ z.longest } }

pub stable_behind : {A : Type 0} {c : ℕ} {L : Lang A} → Stable L → Stable (Behind c L)
stable_behind h = record { at = λ t next u a z e. record { rest = z.rest; split = z.split; spelled = h.at z.rest next u a z.spelled e } }

pub stable_means : {A B : Type 0} {L : Lang A} {f : A → Option B} → Stable L → Stable (Means L f)
stable_means h = record { at = λ t next u b z e. record { value = z.value; spelled = h.at t next u z.value z.spelled e; meant = z.meant } }

pub stable_or : {A : Type 0} {L M : Lang A} → Stable L → Stable M → Stable (Or L M)
stable_or {A} {L} {M} h k = record { at = both }
  where
    both : (t next u : Text) (a : A) → Or L M t next a → front next ≡ front u → Or L M t u a
    both t next u a (inl z) e = inl (h.at t next u a z e)
    both t next u a (inr z) e = inr (k.at t next u a z e)

pub stable_when : {A : Type 0} {p : Text → Bool} {L : Lang A} → Sees p → Stable L → Stable (When p L)
stable_when {p = p} s h = record { at = λ t next u a z e. (sym (seen_same s (same_front t next u e)) ∙ z.0, h.at t next u a z.1 e) }

pub stable_not_before : {A : Type 0} {p : ℕ → Bool} {L : Lang A} → Within p → Stable L → Stable (NotBefore p L)
stable_not_before {p = p} w h =
    record { at = λ t next u a z e. record { spelled = h.at t next u a z.spelled e; other = sym (seen_same (sees_begins p w) e) ∙ z.other } }

pub stable_directly : {A B : Type 0} {L : Lang A} {M : A → Lang B} → Stable L → ((a : A) → Stable (M a)) → Stable (Directly L M)
stable_directly h k = record {
  at = λ t next u b z e.
      record {
        value = z.value;
        left = z.left;
        right = z.right;
        split = z.split;
        first = h.at z.left (z.right ++ next) (z.right ++ u) z.value z.first (same_front z.right next u e);
        second = (k z.value).at z.right next u b z.second e;
      };
}

pub stable_fixed : {A : Type 0} (w : Text) (a : A) → Stable (FixedWord w a)
stable_fixed w a =
    record { at = λ t next u b z e. record { same = z.same; ends = sym (seen_same (sees_begins continues_name name_within) e) ∙ z.ends; value = z.value } }

-- ---- names

pub sees_not : {p : Text → Bool} → Sees p → Sees (λ s. not (p s))
sees_not h = record { at = λ s. ap not (h.at s) }

sees_or : {p q : Text → Bool} → Sees p → Sees q → Sees (λ s. p s || q s)
sees_or {p} {q} h k = record { at = λ s. ap (λ b. b || q s) (h.at s) ∙ ap (λ b. p (front s) || b) (k.at s) }

sees_literal : Sees opens_literal
sees_literal =
    sees_or (sees_or (sees_or (sees_or (sees_with (codes "b\"") (refl, (refl, tt))) (sees_with (codes "b'") (refl, (refl, tt))))
    (sees_with (codes "br#") (refl, (refl, (refl, tt))))) (sees_with (codes "br\"") (refl, (refl, (refl, tt)))))
    (sees_or (sees_with (codes "r\"") (refl, (refl, tt))) (sees_with (codes "r#") (refl, (refl, tt))))

raw_within : Within in_raw_name
raw_within c h = go (continues_name c) refl
  where
    go : (b : Bool) → continues_name c ≡ b → is_solid c ≡ true
    go true e = name_within c e
    go false e = one (c == 46) refl (c == 43) refl (c == 45) refl
      where
        one : (x : Bool) → (c == 46) ≡ x → (y : Bool) → (c == 43) ≡ y → (z : Bool) → (c == 45) ≡ z → is_solid c ≡ true
        one true k y l z m = one_within 46 refl c k
        one false k true l z m = one_within 43 refl c l
        one false k false l true m = one_within 45 refl c m
        one false k false l false m = absurd (let none : in_raw_name c ≡ false = rw (k, l, m, e) refl in cc)

mark_within : Within is_name_mark
mark_within c h = raw_within c (name_mark c h)
  where
    name_mark : (d : ℕ) → is_name_mark d ≡ true → in_raw_name d ≡ true
    name_mark d k = rw k refl

pub stable_raw_name : Stable RawName
stable_raw_name = stable_behind (stable_behind (stable_run in_raw_name in_raw_name raw_within))

pub stable_name : Stable Name
stable_name = stable_or stable_raw_name (stable_when (sees_not sees_literal) (stable_not_before mark_within (stable_run _ _ name_within)))

pub stable_untyped_name : Stable UntypedName
stable_untyped_name = stable_or stable_raw_name (stable_means (stable_when (sees_not sees_literal) (stable_run _ _ name_within)))

-- ---- tokens

left_is : {A : Type 0} (o : Got A) (rest : Text) → left_by o ≡ Some rest → (a : A) × (o ≡ got a rest)
left_is (got a u) rest e = let same : u ≡ rest = cc in (a, ap (got a) same)
left_is (failed f) rest e = absurd (cc)

-- what a reader function leaves behind this word it leaves where the word is spelled before another text
stays : {A : Type 0} (r : Reader A) (L : Lang A) → IsWordReader r L → (w next u : Text) → left_by (r (w ++ next)) ≡ Some next
    → ((a : A) → L w next a → token (w ++ u) ≡ Some u) → token (w ++ u) ≡ Some u
stays {A} r L h w next u e k =
    let x = left_is (r (w ++ next)) next e in
    let z = h.sound (w ++ next) x.0 next x.1 in
    let same : w ≡ z.stretch = append_cancel_right w z.stretch next z.split in
    k x.0 (subst (λ y. L y next x.0) (sym same) z.spelled)

record Tests (s : Text) : Type 0 where
  pub gap : begins starts_gap s ≡ false
  pub string : opens_string s ≡ false
  pub byte_string : opens_byte_string s ≡ false
  pub char : is_at 39 s ≡ false
  pub byte : begins_with (codes "b'") s ≡ false
  pub raw : opens_raw_name s ≡ false

run_token : (s u : Text) → Tests s → begins starts_run s ≡ true → left_by (run starts_run continues_name s) ≡ Some u → token s ≡ Some u
unfolding token
run_token s u x e k = rw (x.gap, x.string, x.byte_string, x.char, x.byte, x.raw, e) k

one_token : (c : ℕ) (u : Text) → Tests (c ∷ u) → begins starts_run (c ∷ u) ≡ false → token (c ∷ u) ≡ Some u
unfolding token
one_token c u x e = rw (x.gap, x.string, x.byte_string, x.char, x.byte, x.raw, e) refl

sees_raw_name : Sees opens_raw_name
sees_raw_name = record { at = λ s. ap (λ b. b && begins in_raw_name (drop 2 s)) ((sees_with (codes "r#") (refl, (refl, tt))).at s) ∙ inner s }
  where
    second : (c d : ℕ) (s : Text) (b : Bool) → is_solid d ≡ b
        → (begins_with (codes "r#") (c ∷ (if b then d ∷ front s else [])) && begins in_raw_name s)
        ≡ (begins_with (codes "r#") (c ∷ (if b then d ∷ front s else [])) && begins in_raw_name (drop 1 (if b then d ∷ front s else [])))
    second c d s true e = ap (λ x. begins_with (codes "r#") (c ∷ d ∷ front s) && x) ((sees_begins in_raw_name raw_within).at s)
    second c d s false e = none (c == 114)
      where
        none : (x : Bool) → ((x && false) && begins in_raw_name s) ≡ ((x && false) && false)
        none true = refl
        none false = refl

    first : (c : ℕ) (s : Text) (b : Bool) → is_solid c ≡ b
        → (begins_with (codes "r#") (if b then c ∷ front s else []) && begins in_raw_name (drop 1 s))
        ≡ (begins_with (codes "r#") (if b then c ∷ front s else []) && begins in_raw_name (drop 2 (if b then c ∷ front s else [])))
    first c [] true e = refl
    first c (d ∷ s) true e = second c d s (is_solid d) refl
    first c s false e = refl

    inner : (s : Text)
        → (begins_with (codes "r#") (front s) && begins in_raw_name (drop 2 s)) ≡ (begins_with (codes "r#") (front s) && begins in_raw_name (drop 2 (front s)))
    inner [] = refl
    inner (c ∷ s) = first c s (is_solid c) refl

pub token_stays : (c : ℕ) (t next u : Text) → is_solid c ≡ true → token (c ∷ (t ++ next)) ≡ Some next → front next ≡ front u → token (c ∷ (t ++ u)) ≡ Some u
unfolding token
token_stays c t next u h e k = go (opens_string s) refl (opens_byte_string s) refl (is_at 39 s) refl (begins_with (codes "b'") s) refl (opens_raw_name s) refl
    (begins starts_run s) refl (rw no_gap at e)
  where
    s : Text
    s = c ∷ (t ++ next)

    v : Text
    v = c ∷ (t ++ u)

    no_gap : starts_gap c ≡ false
    no_gap = solid_no_start c h

    same : front s ≡ front v
    same = same_front (c ∷ t) next u k

    tests : opens_string s ≡ false → opens_byte_string s ≡ false → is_at 39 s ≡ false → begins_with (codes "b'") s ≡ false → opens_raw_name s ≡ false → Tests v
    tests a b d f g = record {
      gap = no_gap;
      string = sym (seen_same sees_string {s = s} {u = v} same) ∙ a;
      byte_string = sym (seen_same sees_byte_string {s = s} {u = v} same) ∙ b;
      char = d;
      byte = sym (seen_same (sees_with (codes "b'") (refl, (refl, tt))) {s = s} {u = v} same) ∙ f;
      raw = sym (seen_same sees_raw_name {s = s} {u = v} same) ∙ g;
    }

    past : (w : Text) → past_one (c ∷ w) ≡ Some next → w ≡ next
    past w y = cc

    go : (a : Bool) → opens_string s ≡ a → (b : Bool) → opens_byte_string s ≡ b → (d : Bool) → is_at 39 s ≡ d → (f : Bool) → begins_with (codes "b'") s ≡ f
        → (g : Bool) → opens_raw_name s ≡ g → (m : Bool) → begins starts_run s ≡ m
        → cond a (left_by (string s)) (cond b (left_by (byte_string s)) (cond d (left_by (char s))
        (cond f (left_by (byte s)) (cond g (left_by (raw_name s)) (cond m (left_by (run starts_run continues_name s)) (past_one s))))))
        ≡ Some next → token v ≡ Some u
    go true ea b eb d ed f ef g eg m em y =
        stays string String word_string (c ∷ t) next u y (λ a z. token_string (c ∷ t) u a (free_string.at (c ∷ t) next u a z))
    go false ea true eb d ed f ef g eg m em y =
        stays byte_string ByteString word_byte_string (c ∷ t) next u y (λ a z. token_byte_string (c ∷ t) u a (free_byte_string.at (c ∷ t) next u a z))
    go false ea false eb true ed f ef g eg m em y = stays char Char word_char (c ∷ t) next u y (λ a z. token_char (c ∷ t) u a (free_char.at (c ∷ t) next u a z))
    go false ea false eb false ed true ef g eg m em y =
        stays byte Byte word_byte (c ∷ t) next u y (λ a z. token_byte (c ∷ t) u a (free_byte.at (c ∷ t) next u a z))
    go false ea false eb false ed false ef true eg m em y =
        stays raw_name RawName word_raw_name (c ∷ t) next u y (λ a z. token_raw_name (c ∷ t) u a (stable_raw_name.at (c ∷ t) next u a z k))
    go false ea false eb false ed false ef false eg true em y =
        stays (run starts_run continues_name) (Run starts_run continues_name) (word_run starts_run continues_name) (c ∷ t) next u y
        (λ a z. run_token v u (tests ea eb ed ef eg) em (ap left_by
        ((word_run starts_run continues_name).complete (c ∷ t) u a ((stable_run starts_run continues_name name_within).at (c ∷ t) next u a z k)).answer))
    go false ea false eb false ed false ef false eg false em y =
        let none : [] ≡ t = append_cancel_right [] t next (sym (past (t ++ next) y)) in
        subst (λ w. token (c ∷ (w ++ u)) ≡ Some u) none (one_token c u (subst (λ w. Tests (c ∷ (w ++ u))) (sym none) (tests ea eb ed ef eg)) em)
