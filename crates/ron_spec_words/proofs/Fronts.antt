-- A token is a front of the text that is not empty: so walks over tokens end.
use Rattle.std.proofs.Common.{◌≡◌, ℕ, nat_lt, ltb-true, length, arith, Bool, true, false, cond, [], ◌∷◌, ◌++◌, codes, Some, None, inl, inr, refl, sym, ap, ◌∙◌}
use Rattle.ron_spec_words.specs.Characters.{Text, continues_name}
use Rattle.ron_spec_words.specs.Runs.{begins, is_at, begins_with}
use Rattle.ron_spec_words.specs.Gap.{skip, gap_of}
use Rattle.ron_spec_words.specs.Lang.{Lang, Run, Behind}
use Rattle.ron_spec_words.specs.Reader.{Got, got, failed, Reader, run}
use Rattle.ron_spec_words.specs.Exact.{IsWordReader}
use Rattle.ron_spec_words.specs.Name.{RawName}
use Rattle.ron_spec_words.specs.Quoted.{Char, char, Byte, byte, String, string, ByteString, byte_string}
use Rattle.ron_spec_words.specs.Scan.{starts_gap, opens_string, opens_byte_string, opens_raw_name, starts_run, past_gap, raw_name, past_one, left_by, token}
use Rattle.ron_spec_words.proofs.Gaps.{cut}
use Rattle.ron_spec_words.proofs.Words.{word_run}
use Rattle.ron_spec_words.proofs.Quotes.{word_char, word_byte}
use Rattle.ron_spec_words.proofs.RawStrings.{word_string, word_byte_string}
use Rattle.ron_spec_words.proofs.Tokens.{word_raw_name}

-- the text is a character, more characters, and the rest
abbrev Front : Text → Text → Type 0
Front s rest = (c : ℕ) × (t : Text) × (s ≡ c ∷ (t ++ rest))

front_of : (s t rest : Text) → s ≡ t ++ rest → (t ≡ [] → ⊥) → Front s rest
front_of s [] rest e n = absurd (n refl)
front_of s (c ∷ t) rest e n = (c, t, e)

left_is : {A : Type 0} (o : Got A) (rest : Text) → left_by o ≡ Some rest → (a : A) × (o ≡ got a rest)
left_is (got a u) rest e = let same : u ≡ rest = cc in (a, ap (got a) same)
left_is (failed f) rest e = absurd (cc)

-- what a word's reader function leaves, where no word is empty
word_front : {A : Type 0} (r : Reader A) (L : Lang A) → IsWordReader r L → ((t next : Text) (a : A) → L t next a → t ≡ [] → ⊥) → (s rest : Text)
    → left_by (r s) ≡ Some rest → Front s rest
word_front r L h some s rest e =
    let k = left_is (r s) rest e in
    let x = h.sound s k.0 rest k.1 in
    front_of s x.stretch rest x.split (some x.stretch rest k.0 x.spelled)

behind_some : {A : Type 0} (c : ℕ) (L : Lang A) (t next : Text) (a : A) → Behind c L t next a → t ≡ [] → ⊥
behind_some c L t next a z e = let k : c ∷ z.rest ≡ [] = sym z.split ∙ e in cc

string_some : (t next a : Text) → String t next a → t ≡ [] → ⊥
string_some t next a (inl z) e = behind_some 34 _ t next a z e
string_some t next a (inr z) e = behind_some 114 _ t next a z e

run_some : (t next a : Text) → Run starts_run continues_name t next a → t ≡ [] → ⊥
run_some [] next a z e = z.every
run_some (c ∷ t) next a z e = cc

gap_front : (s rest : Text) → past_gap s ≡ Some rest → Front s rest
gap_front s rest e = go (nat_lt (length (skip s)) (length s)) refl e
  where
    go : (b : Bool) → nat_lt (length (skip s)) (length s) ≡ b → cond b (Some (skip s)) None ≡ Some rest → Front s rest
    go false h k = absurd (cc)
    go true h k =
        let same : skip s ≡ rest = cc in
        let lt = ltb-true (length (skip s)) (length s) h in
        front_of s (gap_of s) rest ((cut s).split ∙ ap (λ u. gap_of s ++ u) same)
        (λ n. let z : length s ≡ length (skip s) = ap length ((cut s).split ∙ ap (λ u. u ++ skip s) n) in omega (arith, z, lt))

one_front : (s rest : Text) → past_one s ≡ Some rest → Front s rest
one_front [] rest e = absurd (cc)
one_front (c ∷ s) rest e = (c, [], ap (λ u. c ∷ u) (let same : s ≡ rest = cc in same))

pub token_front : (s rest : Text) → token s ≡ Some rest → (c : ℕ) × (t : Text) × (s ≡ c ∷ (t ++ rest))
unfolding token
token_front s rest e =
    go (begins starts_gap s) (opens_string s) (opens_byte_string s) (is_at 39 s) (begins_with (codes "b'") s) (opens_raw_name s) (begins starts_run s) e
  where
    go : (a b c d f g h : Bool)
        → cond a (past_gap s) (cond b (left_by (string s)) (cond c (left_by (byte_string s)) (cond d (left_by (char s))
        (cond f (left_by (byte s)) (cond g (left_by (raw_name s)) (cond h (left_by (run starts_run continues_name s)) (past_one s))))))) ≡ Some rest
        → Front s rest
    go true b c d f g h k = gap_front s rest k
    go false true c d f g h k = word_front string String word_string string_some s rest k
    go false false true d f g h k = word_front byte_string ByteString word_byte_string (λ t next a z. behind_some 98 _ t next a z) s rest k
    go false false false true f g h k = word_front char Char word_char (λ t next a z. behind_some 39 _ t next a z) s rest k
    go false false false false true g h k = word_front byte Byte word_byte (λ t next a z. behind_some 98 _ t next a z) s rest k
    go false false false false false true h k = word_front raw_name RawName word_raw_name (λ t next a z. behind_some 114 _ t next a z) s rest k
    go false false false false false false true k =
        word_front (run starts_run continues_name) (Run starts_run continues_name) (word_run starts_run continues_name) run_some s rest k
    go false false false false false false false k = one_front s rest k
