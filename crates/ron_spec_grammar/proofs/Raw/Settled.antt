-- Names, fixed words and integers are spelled before any quiet text, if they are before one.
use Rattle.std.proofs.Common.{◌≡◌, ℕ, ◌==◌, Bool, true, false, not, ◌||◌, cond, [], ◌∷◌, ◌++◌, codes, inl, inr, Option, Some, None, refl, sym, ap}
use Rattle.std.proofs.Common.{◌∙◌, append_assoc, arith}
use Rattle.unicode_ident.proofs.Computing.{unicode_ident}
use Rattle.ron_spec_words.specs.Characters.{Text, starts_name, continues_name, in_raw_name}
use Rattle.ron_spec_words.specs.Runs.{begins, run_of}
use Rattle.ron_spec_words.specs.Lang.{Lang, Run, Behind, NotBefore, Means, Or, When}
use Rattle.ron_spec_words.specs.Directly.{FixedWord, stands}
use Rattle.ron_spec_words.specs.Name.{opens_literal, is_name_mark, RawName, Name, if_no_value_word, UntypedName}
use Rattle.ron_spec_words.specs.Quoted.{Byte}
use Rattle.ron_spec_words.specs.Number.{Suffix, suffix_word, OptSuffix, in_number, InBase, opens_base, Magnitude, numeral, Unsigned, Number}
use Rattle.ron_spec_words.specs.AnyInteger.{byte_numeral, in_float, past_sign, is_float, UntypedInteger}
use Rattle.ron_spec_words.specs.Characters.{continues_word}
use Rattle.ron_spec_grammar.proofs.Raw.Quiet.{Quiet, quiet_class, raw_goes_on, name_goes_on, number_goes_on, float_goes_on, mark_goes_on, quiet_begins}
use Rattle.ron_spec_grammar.proofs.Raw.Quiet.{literal_quiet, base_quiet, Steady, Settled, settled, steady_means, steady_byte}

-- ---- names and fixed words

settled_run : (p q : ℕ → Bool) → ((c : ℕ) → q c ≡ true → continues_word c ≡ true) → Settled (Run p q)
settled_run p q w = record { over = λ t next other a _ r z. record { same = z.same; every = z.every; longest = quiet_class q w other r } }

settled_means : {A B : Type 0} {L : Lang A} (f : A → Option B) → Settled L → Settled (Means L f)
settled_means f h = record { over = λ t next other b q r z. record { value = z.value; spelled = h.over t next other z.value q r z.spelled; meant = z.meant } }

settled_behind : {A : Type 0} (c : ℕ) {L : Lang A} → Settled L → Settled (Behind c L)
settled_behind c h = record { over = λ t next other a q r z. record { rest = z.rest; split = z.split; spelled = h.over z.rest next other a q r z.spelled } }

settled_or : {A : Type 0} {L M : Lang A} → Settled L → Settled M → Settled (Or L M)
settled_or {A} {L} {M} h k = record { over = go }
  where
    go : (t next other : Text) (a : A) → Quiet next → Quiet other → Or L M t next a → Or L M t other a
    go t next other a q r (inl z) = inl (h.over t next other a q r z)
    go t next other a q r (inr z) = inr (k.over t next other a q r z)

settled_not_before : {A : Type 0} (p : ℕ → Bool) → ((c : ℕ) → p c ≡ true → continues_word c ≡ true) → {L : Lang A} → Settled L → Settled (NotBefore p L)
settled_not_before p w h = record { over = λ t next other a q r z. record { spelled = h.over t next other a q r z.spelled; other = quiet_class p w other r } }

settled_when : {A : Type 0} (p : Text → Bool) → ((t next : Text) → Quiet next → p (t ++ next) ≡ p t) → {L : Lang A} → Settled L → Settled (When p L)
settled_when p e h = record { over = λ t next other a q r z. (e t other r ∙ sym (e t next q) ∙ z.0, h.over t next other a q r z.1) }

no_literal : (t next : Text) → Quiet next → not (opens_literal (t ++ next)) ≡ not (opens_literal t)
no_literal t next q = ap not (literal_quiet t next q)

settled_raw_name : Settled RawName
settled_raw_name = settled_behind 114 (settled_behind 35 (settled_run in_raw_name in_raw_name raw_goes_on))

pub settled_name : Settled Name
settled_name = settled_or settled_raw_name
    (settled_when (λ s. not (opens_literal s)) no_literal (settled_not_before is_name_mark mark_goes_on (settled_run starts_name continues_name name_goes_on)))

pub settled_untyped_name : Settled UntypedName
settled_untyped_name = settled_or settled_raw_name
    (settled_means if_no_value_word (settled_when (λ s. not (opens_literal s)) no_literal (settled_run starts_name continues_name name_goes_on)))

pub settled_fixed : {A : Type 0} (w : Text) (a : A) → Settled (FixedWord w a)
settled_fixed w a = record { over = λ t next other b q r z. record { same = z.same; ends = quiet_class continues_name name_goes_on other r; value = z.value } }

-- ---- integers

no_suffix : (x : Suffix) (next : Text) → Quiet next → stands (suffix_word x) next ≡ false
unfolding unicode_ident
no_suffix Suffix.i8 next q = rw (quiet_begins (codes "i8") [] next refl q) refl
no_suffix Suffix.i16 next q = rw (quiet_begins (codes "i16") [] next refl q) refl
no_suffix Suffix.i32 next q = rw (quiet_begins (codes "i32") [] next refl q) refl
no_suffix Suffix.i64 next q = rw (quiet_begins (codes "i64") [] next refl q) refl
no_suffix Suffix.i128 next q = rw (quiet_begins (codes "i128") [] next refl q) refl
no_suffix Suffix.u8 next q = rw (quiet_begins (codes "u8") [] next refl q) refl
no_suffix Suffix.u16 next q = rw (quiet_begins (codes "u16") [] next refl q) refl
no_suffix Suffix.u32 next q = rw (quiet_begins (codes "u32") [] next refl q) refl
no_suffix Suffix.u64 next q = rw (quiet_begins (codes "u64") [] next refl q) refl
no_suffix Suffix.u128 next q = rw (quiet_begins (codes "u128") [] next refl q) refl

settled_suffix : Settled OptSuffix
settled_suffix = record { over = go }
  where
    go : (t next other : Text) (o : Option Suffix) → Quiet next → Quiet other → OptSuffix t next o → OptSuffix t other o
    go t next other (Some x) q r z = (settled_fixed (suffix_word x) x).over t next other x q r z
    go t next other None q r z = (z.0, λ x. no_suffix x other r)

-- what is asked of what follows digits
pub record Digits (next other : Text) : Type 0 where
  pub first : begins in_number other ≡ begins in_number next
  pub base : (t : Text) → opens_base (t ++ other) ≡ opens_base (t ++ next)

digits_behind : (right next other : Text) → Quiet next → Quiet other → Digits (right ++ next) (right ++ other)
digits_behind right next other q r = record {
  first = go right;
  base = λ t. rw (← append_assoc t right other, ← append_assoc t right next) (base_quiet (t ++ right) other r ∙ sym (base_quiet (t ++ right) next q));
}
  where
    go : (right : Text) → begins in_number (right ++ other) ≡ begins in_number (right ++ next)
    go [] = quiet_class in_number number_goes_on other r ∙ sym (quiet_class in_number number_goes_on next q)
    go (c ∷ right) = refl

in_base_over : (base : ℕ) (t next other : Text) (n : ℕ) → Digits next other → InBase base t next n → InBase base t other n
in_base_over base t next other n h z =
    record { value = z.value; spelled = record { same = z.spelled.same; every = z.spelled.every; longest = h.first ∙ z.spelled.longest }; meant = z.meant }

behind_over : (c : ℕ) (L : Lang ℕ) (t next other : Text) (n : ℕ) → ((u : Text) → L u next n → L u other n) → Behind c L t next n → Behind c L t other n
behind_over c L t next other n h z = record { rest = z.rest; split = z.split; spelled = h z.rest z.spelled }

pub magnitude_over : (t next other : Text) (n : ℕ) → Digits next other → Magnitude t next n → Magnitude t other n
magnitude_over t next other n h (inl z) =
    inl (behind_over 48 (Behind 98 (InBase 2)) t next other n (λ u. behind_over 98 (InBase 2) u next other n (λ v. in_base_over 2 v next other n h)) z)
magnitude_over t next other n h (inr (inl z)) =
    inr (inl (behind_over 48 (Behind 111 (InBase 8)) t next other n (λ u. behind_over 111 (InBase 8) u next other n (λ v. in_base_over 8 v next other n h)) z))
magnitude_over t next other n h (inr (inr (inl z))) = inr (inr
    (inl (behind_over 48 (Behind 120 (InBase 16)) t next other n (λ u. behind_over 120 (InBase 16) u next other n (λ v. in_base_over 16 v next other n h)) z)))
magnitude_over t next other n h (inr (inr (inr z))) = inr (inr (inr (ap not (h.base t) ∙ z.0, in_base_over 10 t next other n h z.1)))

settled_unsigned : (minus : Bool) → Settled (Unsigned minus)
settled_unsigned minus = record {
  over = λ t next other n q r z. record {
    value = z.value;
    left = z.left;
    right = z.right;
    split = z.split;
    first = magnitude_over z.left (z.right ++ next) (z.right ++ other) z.value (digits_behind z.right next other q r) z.first;
    second = (settled_means (numeral minus z.value) settled_suffix).over z.right next other n q r z.second;
  };
}

settled_number : Settled Number
settled_number = settled_or (settled_behind 43 (settled_unsigned false)) (settled_or (settled_behind 45 (settled_unsigned true)) (settled_unsigned false))

run_quiet : (p : ℕ → Bool) → ((c : ℕ) → p c ≡ true → continues_word c ≡ true) → (t next : Text) → Quiet next → run_of p (t ++ next) ≡ run_of p t
run_quiet p w [] [] q = refl
run_quiet p w [] (c ∷ next) q = rw (quiet_class p w (c ∷ next) q) refl
run_quiet p w (c ∷ t) next q = ap (λ u. cond (p c) (c ∷ u) []) (run_quiet p w t next q)

sign_quiet : (t next : Text) → Quiet next → past_sign (t ++ next) ≡ past_sign t ++ next
sign_quiet [] [] q = refl
sign_quiet [] (c ∷ next) q = go ((c == 43) || (c == 45)) refl
  where
    go : (b : Bool) → ((c == 43) || (c == 45)) ≡ b → ◌≡◌ {A = Text} (cond b next (c ∷ next)) (c ∷ next)
    go true e = absurd (let k : continues_word c ≡ true = grind arith in let no : true ≡ false = sym k ∙ q in cc)
    go false e = refl
sign_quiet (c ∷ t) next q =
    elim ((c == 43) || (c == 45)) as (λ b. ◌≡◌ {A = Text} (cond b (t ++ next) (c ∷ (t ++ next))) (cond b t (c ∷ t) ++ next)) [ true ↦ refl | false ↦ refl ]

float_quiet : (t next : Text) → Quiet next → is_float (t ++ next) ≡ is_float t
float_quiet t next q =
    rw (sign_quiet t next q, run_quiet in_number number_goes_on (past_sign t) next q, run_quiet in_float float_goes_on (past_sign t) next q) refl

pub steady_byte_numeral : Steady (Means Byte byte_numeral)
steady_byte_numeral = steady_means byte_numeral steady_byte

pub settled_integer : Settled UntypedInteger
settled_integer = settled_when (λ s. not (is_float s)) (λ t next q. ap not (float_quiet t next q)) (settled_or (settled steady_byte_numeral) settled_number)
