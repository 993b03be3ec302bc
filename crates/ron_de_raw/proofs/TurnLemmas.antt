-- What reading a raw text goes over: the value with the gaps around it, and both once more.
use Rattle.std.proofs.Common.{◌≡◌, ℕ, ◌+◌, ◌*◌, ◌≤◌, Bool, true, false, min, ◌++◌, [], Ok, Err, sym, ap, subst, ◌∙◌, arith}
use Rattle.std.proofs.Math.Nat.{mul-le-mul_right}
use Rattle.std.specs.Char.{is_whitespace}
use Rattle.ron_spec_words.specs.Characters.{Text}
use Rattle.ron_spec_words.specs.Gap.{skip, gap_of}
use Rattle.ron_spec_words.specs.Beyond.{bytes_in}
use Rattle.ron_spec_words.specs.Openings.{Leads, same}
use Rattle.ron_spec_words.proofs.Sizes.{size_append, size_end, size_run, size_nothing}
use Rattle.ron_lex_text.specs.Stretch.{IsSuffix}
use Rattle.ron_lex.specs.Kinds.{fill_rate}
use Rattle.ron_lex.specs.Place.{Place}
use Rattle.ron_lex.specs.Turns.{Stays, GoesOver, Scans, most_turns}
use Rattle.ron_de_steps.specs.Spends.{settled, allowed, total_behind, total_before, Spends, IsReached, SpendsUntyped, SpendsRaw, raw_besides}
use Rattle.ron_de_steps.proofs.SpendLemmas.{before_most, scans_behind}
use Rattle.ron_de_steps.proofs.NearLemmas.{gap_nears, gap_splits}
use Rattle.ron_de_steps.proofs.LeadLemmas.{reached_stays, reached_gap}
use Rattle.ron_de_steps.proofs.KeepLemmas.{keeps_ok, keeps_err, untyped_most, raw_settles}
use Rattle.ron_de_raw.specs.Reading.{taken_before}

-- ---- a text that is read by itself

-- from behind its first gap
module _ (old start : Place) (text : start.text ≡ old.text) (over : GoesOver 1 old start) (gap : start.gap ≡ gap_of old.rest)
    (rest : start.rest ≡ skip old.rest) where
  both : bytes_in start.gap + bytes_in start.rest ≡ bytes_in old.rest
  both = gap_splits old start gap rest

  pub alone_scanned : (new : Place) → Scans 2 start new → new.turns ≤ old.turns + 7 * bytes_in old.rest
  alone_scanned new h = omega (arith, over, both, h)

  pub alone_refused : {A E : Type 0} (e : E) (new : Place) → SpendsUntyped {A = A} 2 start (Err e) new → IsReached old
      → new.turns ≤ old.turns + 7 * bytes_in old.rest
  alone_refused e new s reached = omega (arith, over, both, untyped_most 2 start (Err e) new (omega arith) (reached_gap old start text rest reached) s)

  pub alone_closed : {A E : Type 0} (v : A) (core : Text) (mid new : Place) → SpendsUntyped {E = E} 2 start (Ok v) mid → start.rest ≡ core ++ mid.rest
      → Scans 3 mid new → IsReached old → new.turns ≤ old.turns + 7 * bytes_in old.rest
  unfolding total_behind settled
  alone_closed {E = E} v core mid new s is h reached =
      let k : Spends {E = E} 1 0 2 start (Ok v) mid = s (reached_gap old start text rest reached) 1 0 (omega arith) in
      omega (arith, over, both, k.left, before_most 1 0 2 start (omega arith), size_end core mid.rest start.rest is, h)

-- from its start
module _ (ron : Text) (first last : Place) (t : ℕ) (text : first.text ≡ ron) (rest : first.rest ≡ ron) where
  pub valid_turns : first.turns ≡ fill_rate * bytes_in ron → (IsReached first → last.turns ≤ first.turns + 7 * bytes_in first.rest) → t ≤ last.turns
      → t ≤ 12 * bytes_in ron
  valid_turns e h le = omega (arith, e, h (subst (Leads first.text) (text ∙ sym rest) (same first.text)), ap bytes_in rest, le)

  pub valid_least : (old new : ℕ) → last.text ≡ first.text → last.rest ≡ [] → bytes_in last.text ≤ t + bytes_in last.rest → new ≡ min (old + t) most_turns
      → min (old + bytes_in ron) most_turns ≤ new
  valid_least old new e ends least h = omega (arith, ap bytes_in (e ∙ text), ap bytes_in ends, size_nothing, least, h)

-- ---- a raw text within a text

-- where it is refused, at whatever place
module _ (c k m : ℕ) (room : raw_besides ≤ c) (old begun : Place) (begins : Stays old begun) (looked : begun.turns ≤ old.turns + bytes_in old.gap) where
  pub refused_besides : (t : ℕ) → t ≤ total_before 1 k m begun + 15 * bytes_in old.gap + 16 * bytes_in old.rest → t ≤ total_before c k m old
  unfolding total_before allowed settled
  refused_besides t h =
      let same : allowed 1 k m begun.rest ≡ allowed 1 k m old.rest = ap (allowed 1 k m) begins.rest in
      let gap : raw_besides * bytes_in old.gap ≤ c * bytes_in old.gap = mul-le-mul_right (bytes_in old.gap) room in
      let rest : raw_besides * bytes_in old.rest ≤ c * bytes_in old.rest = mul-le-mul_right (bytes_in old.rest) room in
      omega (arith, looked, h, same, ap bytes_in begins.gap, gap, rest)

taken_less : (at_start : Bool) (gap : Text) → bytes_in (taken_before at_start gap) ≤ bytes_in gap
taken_less true gap = omega arith
taken_less false gap = size_run is_whitespace gap

-- what is read once more is no more than the gap before the value, the value, and the gap behind it
pub text_most : (at_start : Bool) (before here start end behind text : Text) → start ≡ taken_before at_start before ++ here → start ≡ text ++ end
    → IsSuffix behind end → bytes_in text + bytes_in behind ≤ bytes_in before + bytes_in here
text_most at_start before here start end behind text e f z =
    omega (
      arith,
      ap bytes_in e,
      ap bytes_in f,
      size_append (taken_before at_start before) here,
      size_append text end,
      size_end z.front behind end z.is,
      taken_less at_start before,
    )

-- the gap before it is looked through, and the value read
module _ (old begun : Place) (begins : Stays old begun) (looked : begun.turns ≤ old.turns + bytes_in old.gap) where
  pub first_refused : {A B E F : Type 0} (e : E) (f : F) (new : Place) → SpendsUntyped {A = A} 2 begun (Err e) new → SpendsRaw {A = B} 2 old (Err f) new
  first_refused {A = A} {E = E} e f new s = λ reached c k room.
      let h : Spends {A = A} {E = E} 1 k 2 begun (Err e) new = s (reached_stays old begun begins reached) 1 k (omega arith) in
      keeps_err c k (total_before c k 2 old) f new (refused_besides c k 2 room old begun begins looked new.turns (omega (arith, h.most)))

  module _ {A E : Type 0} (v : A) (first : Place) (reads : SpendsUntyped {E = E} 2 begun (Ok v) first) where
    left_there : (k : ℕ) → IsReached old → total_behind 1 k first ≤ total_before 1 k 2 begun
    left_there k reached = let h : Spends {E = E} 1 k 2 begun (Ok v) first = reads (reached_stays old begun begins reached) 1 k (omega arith) in h.left

    -- and where the gap behind it is refused
    pub gap_refused : {B F : Type 0} (f : F) (new : Place) → Scans 1 first new → SpendsRaw {A = B} 2 old (Err f) new
    gap_refused f new h = λ reached c k room.
        keeps_err c k (total_before c k 2 old) f new
        (refused_besides c k 2 room old begun begins looked new.turns (omega (arith, scans_behind 1 k 1 first new (omega arith) h, left_there k reached)))

    -- and where it is gone past, the value and that gap looked through, and all of it read once more and kept
    module _ (core : Text) (is : old.rest ≡ core ++ first.rest) (behind : Place) (gap : behind.gap ≡ gap_of first.rest) (rest : behind.rest ≡ skip first.rest)
        (over : GoesOver 1 first behind) (text : Text) (most : bytes_in text + bytes_in behind.rest ≤ bytes_in old.gap + bytes_in old.rest) (judged : ℕ)
        (judges : judged ≤ behind.turns + bytes_in core + 3 * bytes_in behind.gap + 12 * bytes_in text) where
      parts : bytes_in old.rest ≡ bytes_in core + (bytes_in behind.gap + bytes_in behind.rest)
      parts = omega (arith, ap bytes_in is, size_append core first.rest, gap_splits first behind gap rest)

      pub raw_read : {B F : Type 0} (b : B) (new : Place) → new.rest ≡ behind.rest → new.turns ≤ judged + bytes_in text → SpendsRaw {E = F} 2 old (Ok b) new
      raw_read b new e le = λ reached c k room.
          keeps_ok c k (total_before c k 2 old) b new (raw_settles c k 2 room old begun first behind begins looked (left_there k reached) over
          (gap_nears first behind rest) new (omega (arith, parts)) e (omega (arith, le, judges, most, parts)))

      pub raw_judged : {B F : Type 0} (f : F) (new : Place) → new.turns ≤ judged + 2 * bytes_in behind.gap → SpendsRaw {A = B} 2 old (Err f) new
      unfolding total_behind settled
      raw_judged f new le = λ reached c k room.
          keeps_err c k (total_before c k 2 old) f new (refused_besides c k 2 room old begun begins looked new.turns
          (omega (arith, le, judges, most, parts, over, gap_splits first behind gap rest, left_there k reached)))
