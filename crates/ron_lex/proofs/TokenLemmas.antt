-- The longest token, by what begins there: for `token.rt` and the lookahead over tokens.
use Rattle.std.proofs.Common.{◌≡◌, ◌==◌, ℕ, zero, suc, ◌+◌, ◌-◌, ◌<◌, true, false, not, ◌||◌, lt-ltb, length, List, [], ◌∷◌, ◌++◌, Option, Some, None, refl}
use Rattle.std.proofs.Common.{sym, ap, ◌∙◌, arith, length-append, chars, IfSome}
use Rattle.std.proofs.lemmas.Bool.{le-ltb, not-true, or_parts}
use Rattle.ron_spec_words.specs.Characters.{Text, is_blank, slash}
use Rattle.ron_spec_words.specs.Runs.{begins, is_at}
use Rattle.ron_spec_words.specs.Gap.{skip}
use Rattle.ron_spec_words.specs.Quoted.{string, byte_string, char}
use Rattle.ron_spec_words.specs.Scan.{token, starts_gap, opens_string, opens_byte_string, past_gap, left_by, level, ends, is_opening, is_closing}
use Rattle.ron_spec_words.specs.Lookahead.{seek, separates}
use Rattle.ron_spec_words.specs.Scan.{on, here}
use Rattle.ron_spec_words.proofs.Lookahead.{seek-walk, seek-end}
use Rattle.ron_spec_words.proofs.Fronts.{token_front}
use Rattle.ron_lex_text.specs.Stretch.{IsProperSuffix, opens_with, is_ended}
use Rattle.ron_lex_text.specs.declared.text.Class.TheVariants.{Blank}
use Rattle.ron_lex.specs.Token.{is_plain, past_literal, past_run, Leaves}
use denote.Ref.{Bor}

-- a gap begins with a blank or a slash
gap_begins : (s : Text) → begins starts_gap s ≡ (opens_with Blank s || is_at slash s)
gap_begins [] = refl
gap_begins (c ∷ s) = refl

pub token_gap : (s : Text) → (opens_with Blank s || is_at slash s) ≡ true → token s ≡ past_gap s
unfolding token
token_gap s e = let f = gap_begins s ∙ e in rw f refl

pub token_string : (s : Text) → (opens_with Blank s || is_at slash s) ≡ false → opens_string s ≡ true → token s ≡ left_by (string s)
unfolding token
token_string s e g = let f = gap_begins s ∙ e in rw (f, g) refl

pub token_bytes : (s : Text) → (opens_with Blank s || is_at slash s) ≡ false → opens_string s ≡ false → opens_byte_string s ≡ true
    → token s ≡ left_by (byte_string s)
unfolding token
token_bytes s e g h = let f = gap_begins s ∙ e in rw (f, g, h) refl

pub token_char : (s : Text) → (opens_with Blank s || is_at slash s) ≡ false → opens_string s ≡ false → opens_byte_string s ≡ false → is_at 39 s ≡ true
    → token s ≡ left_by (char s)
unfolding token
token_char s e g h k = let f = gap_begins s ∙ e in rw (f, g, h, k) refl

pub token_other : (s : Text) → (opens_with Blank s || is_at slash s) ≡ false → opens_string s ≡ false → opens_byte_string s ≡ false → is_at 39 s ≡ false
    → token s ≡ past_literal s
unfolding token
token_other s e g h k = let f = gap_begins s ∙ e in rw (f, g, h, k) refl

-- a plain character begins none of these
plain_parts : (c : ℕ) → is_plain c ≡ true
    → (is_blank c ≡ false) × ((c == slash) ≡ false) × ((c == 34) ≡ false) × ((c == 39) ≡ false) × ((c == 98) ≡ false) × ((c == 114) ≡ false)
plain_parts c e =
    let a = or_parts (is_blank c) _ (not-true _ e) in
    let b = or_parts (c == slash) _ a.1 in
    let d = or_parts (c == 34) _ b.1 in
    let f = or_parts (c == 39) _ d.1 in
    let g = or_parts (c == 98) (c == 114) f.1 in
    (a.0, b.0, d.0, f.0, g.0, g.1)

pub token_plain : (s : Text) → begins is_plain s ≡ true → token s ≡ past_run s
unfolding token
token_plain [] e = refl
token_plain (c ∷ s) e = let p = plain_parts c e in rw (p.0, p.1, p.2, p.3, p.4, p.5) refl

-- ---- the gap

pub gap_empty : (s front : Text) → s ≡ front ++ skip s → is_ended front ≡ true → past_gap s ≡ None
gap_empty s [] e f = rw (sym e, le-ltb (length s) (length s) (omega arith)) refl
gap_empty s (c ∷ front) e f = absurd (cc)

pub gap_whole : (s front : Text) → s ≡ front ++ skip s → is_ended front ≡ false → past_gap s ≡ Some (skip s)
gap_whole s [] e f = absurd (cc)
gap_whole s (c ∷ front) e f =
    let lt : length (skip s) < length s = omega (arith, ap length e, length-append front (skip s)) in
    rw (lt-ltb (length (skip s)) (length s) lt) refl

-- ---- a token is not empty

pub token_past : (s rest : Text) → token s ≡ Some rest → IsProperSuffix rest s
token_past s rest e = let f = token_front s rest e in record { first = f.0; front = f.1; is = f.2 }

-- ---- the lookahead goes on behind a token

pub seek_on : (d c : ℕ) (s t next : Text) → s ≡ c ∷ t → ends false d c ≡ false → token s ≡ Some next → seek 0 (level d c) next ≡ seek 0 d s
seek_on d c s t next e n h =
    let f = token_front s next h in
    let same : t ≡ f.1 ++ next = let g = f.2 in cc in
    let whole : s ≡ c ∷ (f.1 ++ next) = e ∙ ap (λ x. c ∷ x) same in
    let h' : token (c ∷ (f.1 ++ next)) ≡ Some next = rw whole at h in
    sym (ap (seek 0 d) whole ∙ seek-walk (on d c f.1 next (level d c) next n h' (here (level d c) next)))

pub seek_stops : (d c : ℕ) (s t : Text) → s ≡ c ∷ t → ends false d c ≡ true → seek 0 d s ≡ s
seek_stops d c s t e n = rw e (seek-end d c t n)

pub seek_broken : (d c : ℕ) (s t : Text) → s ≡ c ∷ t → ends false d c ≡ false → token s ≡ None → seek 0 d s ≡ []
unfolding seek
seek_broken d c s t e n h = let h' : token (c ∷ t) ≡ None = rw e at h in rw (e, n, h') refl

pub seek_ended : (d : ℕ) → seek 0 d [] ≡ []
unfolding seek
seek_ended d = refl

-- what a call leaves where one kind of token begins is what the token leaves, and it is not empty
pub token_leaves : (s : Text) {o : Option Text} (found : Option (Bor (List ℕ))) → token s ≡ o → Leaves found o → Leaves found (token s)
token_leaves s None e h = e ∙ h
token_leaves s (Some rest) e h = e ∙ h

pub token_proper : (s : Text) {o : Option Text} (found : Option (Bor (List ℕ))) → token s ≡ o → Leaves found o
    → IfSome found (λ rest. IsProperSuffix (chars rest.now) s)
token_proper s None e h = tt
token_proper s (Some rest) e h = token_past s (chars rest.now) (e ∙ h)

-- ---- what separates items

pub several_behind : (s behind : Text) → s ≡ 44 ∷ behind → separates s ≡ not (is_at 41 (skip behind))
several_behind s behind e = rw e refl

pub several_none : (s : Text) → is_at 44 s ≡ false → separates s ≡ false
several_none s e = rw e refl

-- ---- a turn of the lookahead

pub turn : (d c n : ℕ) (s t next to : Text) → s ≡ c ∷ t → ends false d c ≡ false → token s ≡ Some next → n ≡ level d c → seek 0 d s ≡ to → seek 0 n next ≡ to
turn d c n s t next to e f h l i = ap (λ k. seek 0 k next) l ∙ seek_on d c s t next e f h ∙ i

pub level_opens : (d c : ℕ) → is_opening c ≡ true → d + 1 ≡ level d c
level_opens d c e = rw e (omega arith)

pub level_closes : (d c : ℕ) → is_opening c ≡ false → is_closing c ≡ true → d - 1 ≡ level d c
level_closes zero c e f = rw (e, f) refl
level_closes (suc d) c e f = rw (e, f) (omega arith)

pub level_stays : (d c : ℕ) → is_opening c ≡ false → is_closing c ≡ false → d ≡ level d c
level_stays d c e f = rw (e, f) refl
