-- Searches by bytes: where ASCII alone passes a test, the first byte that passes is the first character that does.
use Rattle.std.proofs.Common.{◌≡◌, ℕ, zero, suc, ◌+◌, ◌-◌, ◌<◌, ◌≤◌, Bool, true, false, not, ◌==◌, List, [], ◌∷◌, Some, None, length, length-append, get_or}
use Rattle.std.proofs.Common.{drop, IsUtf8, refl, sym, ap, subst, ◌∙◌, arith, ⊎_elim, encode_utf8, encode_utf8_all}
use Rattle.std.specs.Str.{chars}
use Rattle.std.proofs.Math.ListN.{drop_of_length-le}
use Rattle.std.proofs.Math.Seq.{drop-append-add}
use Rattle.std.proofs.lemmas.Bool.{cases_Bool, cases_lt, false≢true, eqb-true}
use Rattle.std.proofs.lemmas.List.{get_or-append-add}
use Rattle.std.proofs.lemmas.Str.{inside_one, byte_from_char, chars_from_encodes, encodes-chars, IsUtf8-nil}
use Rattle.ron_spec_words.specs.Runs.{after_run}
use Rattle.memchr.specs.Find.{Passes, Nowhere, IsFirstByte, is_byte, is_byte2}

module _ (test : ℕ → Bool) (ascii : (c : ℕ) → test c ≡ true → c < 128) where
  -- no byte before this place passes, and the one there does, or the text ends there
  record Ends (bytes : List ℕ) (k : ℕ) : Type 0 where
    within : k ≤ length bytes
    before : Nowhere (Passes test bytes) 0 k
    stops : k < length bytes → Passes test bytes k

  -- the characters that fail end there
  abbrev Leads : List ℕ → ℕ → Type 0
  Leads cs k = encode_utf8_all (after_run (λ c. not (test c)) cs) ≡ drop k (encode_utf8_all cs)

  at_start : (c : ℕ) (cs : List ℕ) (k : ℕ) → test c ≡ true → Ends (encode_utf8_all (c ∷ cs)) k → Leads (c ∷ cs) k
  at_start c cs zero t h = rw t refl
  at_start c cs (suc k) t h =
      absurd (h.before 0 (omega arith) (omega arith) (ap test (byte_from_char (encode_utf8_all (c ∷ cs)) (encode_utf8_all cs) c refl (ascii c t)) ∙ t))

  not_inside : (c : ℕ) (cs : List ℕ) (k : ℕ) → test c ≡ false → k < length (encode_utf8 c) → Ends (encode_utf8_all (c ∷ cs)) k → ⊥
  not_inside c cs k t l h =
      let bytes = encode_utf8_all (c ∷ cs) in
      let passes = h.stops (omega (arith, length-append (encode_utf8 c) (encode_utf8_all cs))) in
      false≢true (sym t ∙ ap test (inside_one c (encode_utf8_all cs) bytes k refl l (ascii (get_or bytes k 0) passes)) ∙ passes)

  past_one : (c : ℕ) (cs : List ℕ) (k : ℕ) → Ends (encode_utf8_all (c ∷ cs)) (length (encode_utf8 c) + k) → Ends (encode_utf8_all cs) k
  past_one c cs k h =
      let size = length-append (encode_utf8 c) (encode_utf8_all cs) in
      let at = λ (i : ℕ). get_or-append-add (encode_utf8 c) (encode_utf8_all cs) i 0 in
      record {
        within = omega (arith, size, h.within);
        before = λ i _ l p. h.before (length (encode_utf8 c) + i) (omega arith) (omega arith) (ap test (at i) ∙ p);
        stops = λ l. ap test (sym (at k)) ∙ h.stops (omega (arith, size));
      }

  from_first : (cs : List ℕ) (k : ℕ) → Ends (encode_utf8_all cs) k → Leads cs k
  from_first [] zero h = refl
  from_first [] (suc k) h = absurd (omega (arith, h.within))
  from_first (c ∷ cs) k h =
      let size = length (encode_utf8 c) in
      let behind = λ (t : test c ≡ false) (l : size ≤ k).
      let place : size + (k - size) ≡ k = omega arith in
      let later = from_first cs (k - size) (past_one c cs (k - size) (subst (Ends (encode_utf8_all (c ∷ cs))) (sym place) h)) in
      let leads : Leads (c ∷ cs) k =
      rw t (later ∙ sym (drop-append-add (encode_utf8 c) (encode_utf8_all cs) (k - size)) ∙ ap (λ i. drop i (encode_utf8_all (c ∷ cs))) place) in
      leads in
      ⊎_elim (λ t. at_start c cs k t h) (λ t. ⊎_elim (λ l. absurd (not_inside c cs k t l h)) (behind t) (cases_lt k size)) (cases_Bool (test c))

  rest_is : (bytes rest : List ℕ) (k : ℕ) → IsUtf8 bytes → IsUtf8 rest → Ends bytes k → rest ≡ drop k bytes
      → chars rest ≡ after_run (λ c. not (test c)) (chars bytes)
  rest_is bytes rest k u v h r =
      let e = from_first (chars bytes) k (rw (encodes-chars bytes u) h) in
      sym (chars_from_encodes (after_run (λ c. not (test c)) (chars bytes)) rest v (e ∙ ap (drop k) (encodes-chars bytes u) ∙ sym r))

  -- what a search answers: the text from the first byte on that passes, or nothing where none does
  pub found : {hay rest : List ℕ} {k : ℕ} (bytes : List ℕ) → IsUtf8 bytes → IsUtf8 rest → hay ≡ bytes → IsFirstByte test hay (Some k) → rest ≡ drop k bytes
      → chars rest ≡ after_run (λ c. not (test c)) (chars bytes)
  found {rest} {k} bytes u v same h r =
      let p = subst (λ x. IsFirstByte test x (Some k)) same h in
      rest_is bytes rest k u v (record { within = omega (arith, p.0.high); before = p.0.before; stops = λ _. p.1 }) r

  pub not_found : {hay : List ℕ} (bytes : List ℕ) → IsUtf8 bytes → hay ≡ bytes → IsFirstByte test hay None
      → chars [] ≡ after_run (λ c. not (test c)) (chars bytes)
  not_found bytes u same h =
      let p = subst (λ x. IsFirstByte test x None) same h in
      rest_is bytes [] (length bytes) u IsUtf8-nil (record { within = omega arith; before = p; stops = λ l. absurd (omega (arith, l)) })
      (sym (drop_of_length-le bytes (omega arith)))

-- a search for one byte, and for two
pub one_ascii : (a : ℕ) → a < 128 → (c : ℕ) → is_byte a c ≡ true → c < 128
one_ascii a l c t = omega (arith, l, eqb-true c a t)

pub two_ascii : (a b : ℕ) → a < 128 → b < 128 → (c : ℕ) → is_byte2 a b c ≡ true → c < 128
two_ascii a b l m c t = ⊎_elim (λ e. omega (arith, l, eqb-true c a e)) (λ e. omega (arith, m, eqb-true c b (rw e at t))) (cases_Bool (c == a))
