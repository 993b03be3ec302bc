-- Compact ranges as they are written stand for what they are made of.
use Rattle.std.proofs.Common.{◌≡◌, suc, nat_lt, Bool, true, false, not, ℤ, pos, negsuc, [], ◌∷◌, ◌++◌, length, codes, Option, Some, None, inl, inr, refl, ap}
use Rattle.std.proofs.Common.{◌∙◌, arith, append_assoc}
use Rattle.std.proofs.lemmas.Bool.{leb-true, le-ltb}
use Rattle.std.specs.Char.{is_ascii_digit}
use Rattle.std.specs.Fmt.{signed_decimal, decimal}
use Rattle.unicode_ident.proofs.Computing.{unicode_ident}
use Rattle.ron_spec_words.specs.Characters.{Text, continues_name}
use Rattle.ron_spec_words.specs.Runs.{begins, Every, run_of}
use Rattle.ron_spec_words.specs.Gap.{ends_value}
use Rattle.ron_spec_words.specs.Exact.{FollowsValue}
use Rattle.ron_spec_words.specs.Number.{Suffix, suffix_word, Numeral, Number, in_number}
use Rattle.ron_spec_words.specs.AnyInteger.{in_float, before_dots, is_float, UntypedInteger}
use Rattle.ron_spec_words.specs.Range.{Interval, range, Points, NumberOrRange}
use Rattle.ron_spec_words.proofs.Classes.{apart}
use Rattle.ron_spec_words.proofs.Ranges.{interval_solid}
use Rattle.ron_spec_words.proofs.Words.{run-append}
use Rattle.ron_value_number.specs.declared.width.Width.{Width}
use Rattle.ron_value_number.specs.Width.{fits, width_word}
use Rattle.ron_value_number.specs.declared.width.Width.TheVariants.{I8, I16, I32, I64, I128, U8, U16, U32, U64, U128}
use Rattle.ron_spec_words.proofs.NumbersWritten.{number_written, every-weaker}
use Rattle.ron_spec_grammar.specs.Shapes.Int.{suffix_width}
use Rattle.ron_spec_layout.specs.Stand.{Ends, Stands}
use Rattle.ron_spec_layout.specs.Ranges.{dots_text}
use Rattle.ron_spec_layout.proofs.Stands.{at_once, whole}
use Rattle.ron_spec_grammar.proofs.Raw.Points.{on_ends, open_there}
use Rattle.ron_spec_layout.proofs.Integers.{plain_numeral, number_spelled, ends_name, no_float, past_digits, decimal_first, decimal_every, before_dots-shorter}
use Rattle.ron_spec_layout.proofs.Integers.{fits_short}

-- ---- a number before range, and before what may follow a value

follows : (next : Text) → Ends next → FollowsValue next
follows next e = ap ends_value e.1 ∙ e.2

-- digits before range are cut there
digits_cut : (ds u : Text) → Every is_ascii_digit ds → before_dots (run_of in_float (ds ++ 46 ∷ 46 ∷ u)) ≡ ds
digits_cut [] u h = refl
digits_cut (c ∷ ds) u h = let k : in_float c ≡ true = rw h.0 refl in rw (k, apart is_ascii_digit 46 c refl h.0) (ap (λ t. c ∷ t) (digits_cut ds u h.1))

digits_dots : (ds u : Text) → Every is_ascii_digit ds
    → nat_lt (length (run_of in_number (ds ++ 46 ∷ 46 ∷ u))) (length (before_dots (run_of in_float (ds ++ 46 ∷ 46 ∷ u)))) ≡ false
digits_dots ds u h =
    let as_number : run_of in_number (ds ++ 46 ∷ 46 ∷ u) ≡ ds =
    run-append in_number ds (46 ∷ 46 ∷ u) (every-weaker is_ascii_digit in_number (λ c k. rw k refl) ds h) refl in
    rw (as_number, digits_cut ds u h) (le-ltb (length ds) (length ds) (omega arith))

no_float_dots : (n : ℤ) (u : Text) → is_float (signed_decimal n ++ 46 ∷ 46 ∷ u) ≡ false
no_float_dots (pos n) u = rw (past_digits (decimal n) (46 ∷ 46 ∷ u) (decimal_first n)) (digits_dots (decimal n) u (decimal_every n))
no_float_dots (negsuc n) u = digits_dots (decimal (suc n)) u (decimal_every (suc n))

dot_ends : (u : Text) → begins continues_name (46 ∷ u) ≡ false
unfolding unicode_ident
dot_ends u = refl

before_dot : (w : Width) (n : ℤ) (u : Text) → fits w n ≡ true → UntypedInteger (signed_decimal n) (46 ∷ 46 ∷ u) (plain_numeral n)
before_dot w n u h = (ap not (no_float_dots n u), inr (number_spelled w n (46 ∷ 46 ∷ u) h (dot_ends (46 ∷ u))))

before_end : (w : Width) (n : ℤ) (next : Text) → fits w n ≡ true → Ends next → UntypedInteger (signed_decimal n) next (plain_numeral n)
before_end w n next h e = (ap not (no_float n next e), inr (number_spelled w n next h (ends_name next e)))

-- ---- range

dots_to : (a : Option Numeral) (closed : Bool) (t next : Text) (b : Numeral) → UntypedInteger t next b
    → Points a (dots_text closed ++ t) next (range a closed (Some b))
dots_to a true t next b z = record {
  rest = 46 ∷ 61 ∷ t;
  split = refl;
  spelled =
      record { rest = 61 ∷ t; split = refl; spelled = inl (record { rest = t; split = refl; spelled = record { value = b; spelled = z; meant = refl } }) };
}
dots_to a false t next b z = record {
  rest = 46 ∷ t;
  split = refl;
  spelled = record { rest = t; split = refl; spelled = inr (inl (record { value = b; spelled = z; meant = refl })) };
}

dots_open : (a : Option Numeral) (next : Text) → Ends next → Points a (codes "..") next (range a false None)
dots_open a next e = record {
  rest = 46 ∷ [];
  split = refl;
  spelled = record { rest = []; split = refl; spelled = inr (inr (open_there next (on_ends next (follows next e)), (refl, refl))) };
}

-- a text that spells a range stands for it
stands_span : (t next : Text) (s : Interval) → Ends next → NumberOrRange t next s → Stands (λ before. NumberOrRange) t next s
stands_span t next s e z = at_once (whole (interval_solid.holds t next s z).1 e.1 z)

-- a text that spells a numeral before range, and before what may follow a value
pub record Bounded (t : Text) (m : Numeral) : Type 0 where
  pub before : (u : Text) → UntypedInteger t (46 ∷ 46 ∷ u) m
  pub alone : (next : Text) → Ends next → UntypedInteger t next m

pub plain_bounded : (w : Width) (n : ℤ) → fits w n ≡ true → Bounded (signed_decimal n) (plain_numeral n)
plain_bounded w n h = record { before = λ u. before_dot w n u h; alone = λ next e. before_end w n next h e }

-- ---- suffixes

abbrev pub suffix_named : Width → Suffix
suffix_named I8 = Suffix.i8
suffix_named I16 = Suffix.i16
suffix_named I32 = Suffix.i32
suffix_named I64 = Suffix.i64
suffix_named I128 = Suffix.i128
suffix_named U8 = Suffix.u8
suffix_named U16 = Suffix.u16
suffix_named U32 = Suffix.u32
suffix_named U64 = Suffix.u64
suffix_named U128 = Suffix.u128

word_is : (w : Width) → suffix_word (suffix_named w) ≡ width_word w
word_is I8 = refl
word_is I16 = refl
word_is I32 = refl
word_is I64 = refl
word_is I128 = refl
word_is U8 = refl
word_is U16 = refl
word_is U32 = refl
word_is U64 = refl
word_is U128 = refl

pub width_is : (w : Width) → suffix_width (suffix_named w) ≡ w
width_is I8 = refl
width_is I16 = refl
width_is I32 = refl
width_is I64 = refl
width_is I128 = refl
width_is U8 = refl
width_is U16 = refl
width_is U32 = refl
width_is U64 = refl
width_is U128 = refl

word_begins : (w : Width) (next : Text) → (begins in_number (width_word w ++ next) ≡ false) × (begins in_float (width_word w ++ next) ≡ false)
word_begins I8 next = (refl, refl)
word_begins I16 next = (refl, refl)
word_begins I32 next = (refl, refl)
word_begins I64 next = (refl, refl)
word_begins I128 next = (refl, refl)
word_begins U8 next = (refl, refl)
word_begins U16 next = (refl, refl)
word_begins U32 next = (refl, refl)
word_begins U64 next = (refl, refl)
word_begins U128 next = (refl, refl)

-- what an integer with its suffix spells
abbrev pub own_numeral : Width → ℤ → Numeral
own_numeral w n = record { minus = (plain_numeral n).minus; magnitude = (plain_numeral n).magnitude; suffix = Some (suffix_named w) }

digits_word : (w : Width) (ds next : Text) → Every is_ascii_digit ds
    → nat_lt (length (run_of in_number (ds ++ (width_word w ++ next)))) (length (before_dots (run_of in_float (ds ++ (width_word w ++ next))))) ≡ false
digits_word w ds next h =
    let k = word_begins w next in
    let as_number : run_of in_number (ds ++ (width_word w ++ next)) ≡ ds =
    run-append in_number ds (width_word w ++ next) (every-weaker is_ascii_digit in_number (λ c k. rw k refl) ds h) k.0 in
    let as_float : run_of in_float (ds ++ (width_word w ++ next)) ≡ ds =
    run-append in_float ds (width_word w ++ next) (every-weaker is_ascii_digit in_float (λ c k. rw k refl) ds h) k.1 in
    rw (as_number, as_float) (shorter ds)
  where
    shorter : (ds : Text) → nat_lt (length ds) (length (before_dots ds)) ≡ false
    shorter ds = go (nat_lt (length ds) (length (before_dots ds))) refl
      where
        go : (b : Bool) → nat_lt (length ds) (length (before_dots ds)) ≡ b → b ≡ false
        go true k = absurd (let le = before_dots-shorter ds in let lt = leb-true (suc (length ds)) (length (before_dots ds)) k in omega (arith, le, lt))
        go false k = refl

own_no_float : (w : Width) (n : ℤ) (next : Text) → is_float ((signed_decimal n ++ width_word w) ++ next) ≡ false
own_no_float w (pos n) next = rw (append_assoc (decimal n) (width_word w) next, past_digits (decimal n) (width_word w ++ next) (decimal_first n))
    (digits_word w (decimal n) next (decimal_every n))
own_no_float w (negsuc n) next = rw (append_assoc (decimal (suc n)) (width_word w) next) (digits_word w (decimal (suc n)) next (decimal_every (suc n)))

own_spelled : (w : Width) (n : ℤ) (next : Text) → fits w n ≡ true → begins continues_name next ≡ false
    → Number (signed_decimal n ++ width_word w) next (own_numeral w n)
own_spelled w (pos n) next h e = let k = number_written false n (Some (suffix_named w)) next (fits_short w (pos n) h) e in rw (word_is w) at k
own_spelled w (negsuc n) next h e = let k = number_written true (suc n) (Some (suffix_named w)) next (fits_short w (negsuc n) h) e in rw (word_is w) at k

pub own_bounded : (w : Width) (n : ℤ) → fits w n ≡ true → Bounded (signed_decimal n ++ width_word w) (own_numeral w n)
own_bounded w n h = record {
  before = λ u. (ap not (own_no_float w n (46 ∷ 46 ∷ u)), inr (own_spelled w n (46 ∷ 46 ∷ u) h (dot_ends (46 ∷ u))));
  alone = λ next e. (ap not (own_no_float w n next), inr (own_spelled w n next h (ends_name next e)));
}

-- ---- ranges

module _ (next : Text) (e : Ends next) where
  pub two_stand : (p q : Text) (m k : Numeral) (closed : Bool) → Bounded p m → Bounded q k
      → Stands (λ before. NumberOrRange) (p ++ (dots_text closed ++ q)) next (range (Some m) closed (Some k))
  two_stand p q m k closed h l = stands_span (p ++ (dots_text closed ++ q)) next _ e (inr (record {
    value = m;
    left = p;
    right = dots_text closed ++ q;
    split = refl;
    first = first closed;
    second = inl (dots_to (Some m) closed q next k (l.alone next e));
  }))
    where
      first : (closed : Bool) → UntypedInteger p ((dots_text closed ++ q) ++ next) m
      first true = h.before (61 ∷ (q ++ next))
      first false = h.before (q ++ next)

  pub from_stands : (p : Text) (m : Numeral) → Bounded p m → Stands (λ before. NumberOrRange) (p ++ codes "..") next (range (Some m) false None)
  from_stands p m h = stands_span (p ++ codes "..") next _ e
      (inr (record { value = m; left = p; right = codes ".."; split = refl; first = h.before next; second = inl (dots_open (Some m) next e) }))

  pub to_stands : (q : Text) (k : Numeral) (closed : Bool) → Bounded q k
      → Stands (λ before. NumberOrRange) (dots_text closed ++ q) next (range None closed (Some k))
  to_stands q k closed h = stands_span (dots_text closed ++ q) next _ e (inl (dots_to None closed q next k (h.alone next e)))

  pub full_stands : Stands (λ before. NumberOrRange) (codes "..") next (range None false None)
  full_stands = stands_span (codes "..") next _ e (inl (dots_open None next e))
