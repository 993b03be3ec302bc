-- What a raw text takes of the gaps around its value, a step of the code at a time.
use Rattle.std.proofs.Common.{◌≡◌, ℕ, Bool, true, false, not, ◌||◌, ◌==◌, cond, [], ◌∷◌, ◌++◌, length, length-append, drop, arith, ◌≤◌, refl, sym, ap, ◌∙◌}
use Rattle.std.proofs.Common.{append_assoc, append-nil}
use Rattle.std.proofs.Math.Seq.{drop-append_seam}
use Rattle.std.specs.Char.{is_whitespace}
use Rattle.ron_spec_words.specs.Characters.{Text}
use Rattle.ron_spec_words.specs.Runs.{Every, is_at, after_run}
use Rattle.ron_spec_words.specs.Gap.{after_line, skip}
use Rattle.ron_spec_words.specs.Name.{untyped_name}
use Rattle.ron_spec_words.specs.Reader.{got, failed, bad}
use Rattle.ron_lex_text.specs.Stretch.{IsSuffix, is_ended}
use Rattle.ron_lex_text.proofs.StretchLemmas.{run_end}
use Rattle.ron_spec_grammar.specs.Raw.{or_nothing, trim_back, leaves_open, through_line, kept, is_name_alone, raw_text}
use Rattle.ron_de_raw.specs.Reading.{taken_before, taken_behind}

-- ---- white space at the end

-- a character that is not white stays, with all before it
mark_stays : (seen : Text) (c : ℕ) (t : Text) → is_whitespace c ≡ false → trim_back (seen ++ c ∷ t) ≡ seen ++ c ∷ trim_back t
mark_stays [] c t e = go (trim_back t)
  where
    go : (u : Text) → or_nothing c u ≡ c ∷ u
    go [] = rw e refl
    go (d ∷ u) = refl
mark_stays (b ∷ []) c t e = ap (or_nothing b) (mark_stays [] c t e)
mark_stays (b ∷ a ∷ seen) c t e = ap (or_nothing b) (mark_stays (a ∷ seen) c t e)

white_goes : (s : Text) → Every is_whitespace s → trim_back s ≡ []
white_goes [] h = refl
white_goes (c ∷ s) h = ap (or_nothing c) (white_goes s h.1) ∙ ap (λ b. cond b [] (c ∷ [])) h.0

every_more : (s : Text) (c : ℕ) → Every is_whitespace s → is_whitespace c ≡ true → Every is_whitespace (s ++ c ∷ [])
every_more [] c h e = (e, tt)
every_more (d ∷ s) c h e = (h.0, every_more s c h.1 e)

-- so far: behind a front that stays, white space and what is left
pub record WhiteSoFar (text white rest : Text) : Type 0 where
  pub front : Text
  pub seen : Text
  pub split : text ≡ front ++ white
  pub behind : white ≡ seen ++ rest
  pub every : Every is_whitespace seen
  pub trimmed : trim_back text ≡ front ++ trim_back white

pub none_seen : (text : Text) → WhiteSoFar text text text
none_seen text = record { front = []; seen = []; split = refl; behind = refl; every = tt; trimmed = refl }

module _ (text white rest after : Text) (c : ℕ) (h : WhiteSoFar text white rest) (e : rest ≡ c ∷ after) where
  pub white_more : is_whitespace c ≡ true → WhiteSoFar text white after
  white_more w = record {
    front = h.front;
    seen = h.seen ++ c ∷ [];
    split = h.split;
    behind = h.behind ∙ ap (λ r. h.seen ++ r) e ∙ sym (append_assoc h.seen (c ∷ []) after);
    every = every_more h.seen c h.every w;
    trimmed = h.trimmed;
  }

  white_is : white ≡ h.seen ++ c ∷ after
  white_is = h.behind ∙ ap (λ r. h.seen ++ r) e

  pub mark_seen : is_whitespace c ≡ false → WhiteSoFar text after after
  mark_seen w = record {
    front = h.front ++ (h.seen ++ c ∷ []);
    seen = [];
    split = h.split ∙ ap (λ u. h.front ++ u) (white_is ∙ sym (append_assoc h.seen (c ∷ []) after)) ∙ sym (append_assoc h.front (h.seen ++ c ∷ []) after);
    behind = refl;
    every = tt;
    trimmed = h.trimmed ∙ ap (λ u. h.front ++ u) (ap trim_back white_is ∙ mark_stays h.seen c after w ∙ sym (append_assoc h.seen (c ∷ []) (trim_back after)))
        ∙ sym (append_assoc h.front (h.seen ++ c ∷ []) (trim_back after));
  }

pub all_seen : (text white : Text) → WhiteSoFar text white [] → text ≡ trim_back text ++ white
all_seen text white h =
    let all : Every is_whitespace white = rw (h.behind ∙ append-nil h.seen) h.every in
    let kept_is : trim_back text ≡ h.front = h.trimmed ∙ ap (λ u. h.front ++ u) (white_goes white all) ∙ append-nil h.front in
    h.split ∙ ap (λ u. u ++ white) (sym kept_is)

-- ---- what is kept of a gap

through_it : (s : Text) → s ≡ through_line s ++ after_line s
through_it [] = refl
through_it (c ∷ s) = go (c == 10) (through_it s)
  where
    go : (b : Bool) → s ≡ through_line s ++ after_line s → c ∷ s ≡ cond b (c ∷ []) (c ∷ through_line s) ++ cond b s (after_line s)
    go true h = refl
    go false h = ap (λ u. c ∷ u) h

module _ (gap white : Text) (e : gap ≡ trim_back gap ++ white) where
  pub all_white_left : leaves_open (trim_back gap) ≡ false → gap ≡ kept gap ++ white
  unfolding kept
  all_white_left f = rw f e

  pub line_left : leaves_open (trim_back gap) ≡ true → gap ≡ kept gap ++ after_line white
  unfolding kept
  line_left f =
      let w : drop (length (trim_back gap)) gap ≡ white = ap (drop (length (trim_back gap))) e ∙ drop-append_seam (trim_back gap) white in
      rw (f, w) (e ∙ ap (λ u. trim_back gap ++ u) (through_it white) ∙ sym (append_assoc (trim_back gap) (through_line white) (after_line white)))

-- ---- whether a line comment is left open

pub open_is : (gap : Text) → skip (gap ++ 44 ∷ []) ≡ [] → true ≡ leaves_open gap
unfolding leaves_open
open_is gap e = rw e refl

pub closed_is : (gap rest : Text) → skip (gap ++ 44 ∷ []) ≡ rest ++ 44 ∷ [] → not (is_ended rest || is_at 44 rest) ≡ leaves_open gap
unfolding leaves_open
closed_is gap [] e = rw e refl
closed_is gap (c ∷ rest) e = rw e refl

-- ---- the whole

pub raw_text_is : (before core after : Text) (at_start : Bool)
    → raw_text before core after at_start ≡ taken_before at_start before ++ (core ++ taken_behind at_start core after)
unfolding raw_text
raw_text_is before core after true = refl
raw_text_is before core after false = refl

-- of two ends of one text, the shorter is an end of the other
pub end_within : (a b t : Text) → IsSuffix a t → IsSuffix b t → length a ≤ length b → IsSuffix a b
end_within a b t h k le = go h.front k.front (sym h.is ∙ k.is)
  where
    go : (f g : Text) → f ++ a ≡ g ++ b → IsSuffix a b
    go f [] e = record { front = f; is = sym e }
    go [] (c ∷ g) e = absurd (omega (arith, le, ap length e, length-append g b))
    go (d ∷ f) (c ∷ g) e = go f g (cc)

-- ---- a name alone

pub name_is : (core rest name : Text) → untyped_name core ≡ got name rest → is_ended rest ≡ is_name_alone core
unfolding is_name_alone
name_is core [] name e = rw e refl
name_is core (c ∷ rest) name e = rw e refl

pub no_name : (core : Text) → untyped_name core ≡ failed bad → false ≡ is_name_alone core
unfolding is_name_alone
no_name core e = rw e refl

-- ---- where a raw text begins and ends

-- what is trimmed of a gap at its start leaves an end of it
pub front_trimmed : (gap rest : Text) → rest ≡ after_run is_whitespace gap → IsSuffix rest gap
front_trimmed gap rest e = run_end is_whitespace gap rest e

-- the whole of what a raw text takes, between where it begins and where it ends
pub between : (before core behind here rest gap next start end : Text) → start ≡ before ++ here → here ≡ core ++ rest → rest ≡ gap ++ next
    → gap ++ next ≡ behind ++ end → start ≡ (before ++ (core ++ behind)) ++ end
between before core behind here rest gap next start end e f g h =
    e ∙ ap (λ t. before ++ t) (f ∙ ap (λ t. core ++ t) (g ∙ h) ∙ sym (append_assoc core behind end)) ∙ sym (append_assoc before (core ++ behind) end)
