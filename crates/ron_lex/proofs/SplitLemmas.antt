-- What is split from a text: behind a character, and where a call that is handed on has failed. For every `split_..` call.
use Rattle.std.proofs.Common.{◌≡◌, ℕ, Bool, true, false, Option, Some, None, MatchOption, is_some, List, [], ◌∷◌, chars, ◌++◌, Result, Ok, Err, IfOk, IfErr}
use Rattle.std.proofs.Common.{inl, inr, refl, ap, sym, ◌∙◌, eq-eqb}
use Rattle.std.specs.Result.{IsErr, IsErrAnd}
use denote.Ref.{Bor}
use Rattle.ron_spec_words.specs.Runs.{is_at}
use Rattle.ron_spec_words.specs.Lang.{Lang, Behind}
use Rattle.ron_spec_words.specs.Quoted.{char, byte, raw, Raw, String, string, byte_string}
use Rattle.ron_spec_words.proofs.Quotes.{word_char, word_byte}
use Rattle.ron_spec_words.proofs.RawStrings.{word_raw, word_string, word_byte_string}
use Rattle.ron_spec_words.specs.Exact.{IsWordReader}
use Rattle.ron_spec_words.specs.Reader.{Got, got, failed, bad, Reader, behind}
use Rattle.ron_lex.specs.declared.fault.QuotedError.{QuotedError}
use Rattle.ron_lex_text.specs.Stretch.{IsSuffix, IsProperSuffix}
use Rattle.ron_lex_text.proofs.StretchLemmas.{end_past_char}
use Rattle.ron_lex.specs.declared.fault.StringRefusal.{StringRefusal}
use Rattle.ron_lex.specs.declared.fault.StringRefusal.TheVariants.{OutOfMemory, Refused}
use Rattle.ron_lex.specs.Quoted.{SplitsBy, SplitsOrMemory, EndsIn}

pub behind_other : {A : Type 0} (c : ℕ) (r : Reader A) (s : List ℕ) → is_at c s ≡ false → behind c r s ≡ failed bad
behind_other c r [] e = refl
behind_other c r (d ∷ s) e = rw e refl

pub behind_char : {A : Type 0} (c : ℕ) (r : Reader A) (s t : List ℕ) → s ≡ c ∷ t → behind c r s ≡ r t
behind_char c r s t e = rw (e, eq-eqb c c refl) refl

-- ---- a call that is handed on by `?`

pub failed_exit : {V A : Type 0} (view : V → A) (Q : QuotedError → Type 0) (r : Result (V × Bor (List ℕ)) QuotedError) (answer : Got A) → IsErrAnd r Q
    → answer ≡ failed bad → SplitsBy view r answer
failed_exit view Q (Ok p) answer h e = absurd h
failed_exit view Q (Err x) answer h e = e

pub end_exit : {A : Type 0} (r : Result (A × Bor (List ℕ)) QuotedError) (d : QuotedError) (text : List ℕ) → IsErrAnd r (λ y. y ≡ d)
    → IsSuffix (chars d.rest.now) text → IfErr r (λ e. IsSuffix (chars e.rest.now) text)
end_exit (Ok p) d text h k = absurd h
end_exit (Err x) d text h k = rw h k

-- ---- behind two characters

pub end_behind_two : (c d : ℕ) (s rest : List ℕ) → s ≡ c ∷ d ∷ rest → IsSuffix rest s
end_behind_two c d s rest e = record { front = c ∷ d ∷ []; is = e }

pub end_past_two : (c d : ℕ) (s t rest : List ℕ) → s ≡ c ∷ d ∷ t → IsSuffix rest t → IsSuffix rest s
end_past_two c d s t rest e h = record { front = c ∷ d ∷ h.front; is = e ∙ ap (λ x. c ∷ d ∷ x) h.is }

-- where an error's stretch ends in what is left, it ends in the text
pub errors_end : {V : Type 0} (r : Result V QuotedError) (t text : List ℕ) → ((u : List ℕ) → IsSuffix u t → IsSuffix u text)
    → IfErr r (λ e. IsSuffix (chars e.rest.now) t) → IfErr r (λ e. IsSuffix (chars e.rest.now) text)
errors_end (Ok v) t text f h = tt
errors_end (Err x) t text f h = f (chars x.rest.now) h

-- ---- what a reader function leaves

pub read_end : {A : Type 0} (r : Reader A) (L : Lang A) (h : IsWordReader r L) (s rest : List ℕ) (a : A) → r s ≡ got a rest → IsSuffix rest s
read_end r L h s rest a e = let y = h.sound s a rest e in record { front = y.stretch; is = y.split }

pub raw_end : (s rest a : List ℕ) → raw s ≡ got a rest → IsSuffix rest s
raw_end = read_end raw Raw word_raw

-- ---- options and tests

pub stripped : (c : ℕ) (s : List ℕ) (o : Option (Bor (List ℕ))) → MatchOption o (is_at c s ≡ false) (λ rest. s ≡ c ∷ chars rest.now) → is_some o ≡ true
    → is_at c s ≡ true
stripped c s None h e = absurd (cc)
stripped c s (Some rest) h e = rw h (eq-eqb c c refl)

pub not_stripped : (c : ℕ) (s : List ℕ) (o : Option (Bor (List ℕ))) → MatchOption o (is_at c s ≡ false) (λ rest. s ≡ c ∷ chars rest.now) → is_some o ≡ false
    → is_at c s ≡ false
not_stripped c s None h e = h
not_stripped c s (Some rest) h e = absurd (cc)

pub both : (b : Bool) → b ≡ true → b ≡ false → ⊥
both b e f = let k : true ≡ false = sym e ∙ f in cc

-- ---- refusals of strings

pub refused_end : {V : Type 0} (r : Result (V × Bor (List ℕ)) StringRefusal) (d : QuotedError) (text : List ℕ) → IsErrAnd r (λ y. y ≡ Refused d)
    → IsSuffix (chars d.rest.now) text → IfErr r (λ e. EndsIn e text)
refused_end (Ok p) d text h k = absurd h
refused_end (Err x) d text h k = rw h k

pub failed_refusal : {V A : Type 0} (view : V → A) (r : Result (V × Bor (List ℕ)) StringRefusal) (answer : Got A) → IsErr r → answer ≡ failed bad
    → SplitsOrMemory view r answer
failed_refusal view (Ok p) answer h e = absurd (cc)
failed_refusal view (Err OutOfMemory) answer h e = tt
failed_refusal view (Err (Refused x)) answer h e = e

pub failed_err : {V A : Type 0} (view : V → A) (d : StringRefusal) (answer : Got A) → answer ≡ failed bad → SplitsOrMemory view (Err d) answer
failed_err view OutOfMemory answer e = tt
failed_err view (Refused x) answer e = e

pub refusal_because : {V : Type 0} (P : Type 0) (r : Result V StringRefusal) → P → IfErr r (λ e. e ≡ OutOfMemory → P)
refusal_because P (Ok v) p = tt
refusal_because P (Err x) p = λ e. p

pub end_behind : (c : ℕ) (text content : List ℕ) (e : StringRefusal) → text ≡ c ∷ content → EndsIn e content → EndsIn e text
end_behind c text content OutOfMemory e h = tt
end_behind c text content (Refused x) e h = end_past_char c text content (chars x.rest.now) e h

-- ---- what is read is not empty

pub read_proper : {A : Type 0} (r : Reader A) (c : ℕ) (L : Lang A) → IsWordReader r (Behind c L) → (s rest : List ℕ) (a : A) → r s ≡ got a rest
    → IsProperSuffix rest s
read_proper r c L h s rest a e =
    let y = h.sound s a rest e in
    record { first = c; front = y.spelled.rest; is = y.split ∙ ap (λ x. x ++ rest) y.spelled.split }

pub char_proper : (s rest : List ℕ) (c : ℕ) → char s ≡ got c rest → IsProperSuffix rest s
char_proper s rest c e = read_proper char 39 _ word_char s rest c e

pub byte_proper : (s rest : List ℕ) (b : ℕ) → byte s ≡ got b rest → IsProperSuffix rest s
byte_proper s rest b e = read_proper byte 98 _ word_byte s rest b e

pub string_proper : (s rest a : List ℕ) → string s ≡ got a rest → IsProperSuffix rest s
string_proper s rest a e = let y = word_string.sound s a rest e in go y.stretch y.split y.spelled
  where
    go : (t : List ℕ) → s ≡ t ++ rest → String t rest a → IsProperSuffix rest s
    go t k (inl z) = record { first = 34; front = z.rest; is = k ∙ ap (λ x. x ++ rest) z.split }
    go t k (inr z) = record { first = 114; front = z.rest; is = k ∙ ap (λ x. x ++ rest) z.split }

pub string_past : {V : Type 0} (view : V → List ℕ) (r : Result (V × Bor (List ℕ)) StringRefusal) (s : List ℕ) → SplitsOrMemory view r (string s)
    → IfOk r (λ p. IsProperSuffix (chars p.1.now) s)
string_past view (Ok p) s e = string_proper s (chars p.1.now) (view p.0) e
string_past view (Err x) s e = tt

pub byte_string_proper : (s rest a : List ℕ) → byte_string s ≡ got a rest → IsProperSuffix rest s
byte_string_proper s rest a e = read_proper byte_string 98 _ word_byte_string s rest a e

pub byte_string_past : {V : Type 0} (view : V → List ℕ) (r : Result (V × Bor (List ℕ)) StringRefusal) (s : List ℕ) → SplitsOrMemory view r (byte_string s)
    → IfOk r (λ p. IsProperSuffix (chars p.1.now) s)
byte_string_past view (Ok p) s e = byte_string_proper s (chars p.1.now) (view p.0) e
byte_string_past view (Err x) s e = tt
