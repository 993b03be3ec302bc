-- A raw text that is written is read back as itself, but for what it takes of the gaps: for `Spelled`.
use Rattle.std.proofs.Common.{◌≡◌, ℕ, ◌≤◌, Bool, true, false, cond, [], ◌∷◌, ◌++◌, Some, None, refl, sym, ap, ◌∙◌, subst, append_assoc, append-nil}
use Rattle.ron_spec_words.specs.Characters.{Text}
use Rattle.ron_spec_words.specs.Gap.{Gap, none, LongGap, skip, ends_value}
use Rattle.ron_spec_words.specs.Lang.{done}
use Rattle.ron_spec_words.specs.Exact.{FollowsValue}
use Rattle.ron_spec_words.proofs.Exactly.{stops_gap}
use Rattle.ron_value.specs.Tree.{Tree}
use Rattle.ron_spec_grammar.specs.Values.Grammar.{AnySpells}
use Rattle.ron_spec_grammar.proofs.Values.Place as place
use Rattle.ron_spec_words.proofs.Classes.{Solid}
use Rattle.ron_spec_layout.specs.Stand.{Stands}
use Rattle.ron_spec_grammar.specs.Raw.{trimmed, raw_text, raw_limit, RawBody, raw_value, raw_valid}
use Rattle.ron_spec_grammar.proofs.Raw.Bodies.{stops, raw_sound, raw_complete, valid_value, value_valid, taken_body, value_solid, trimmed_is}
use Rattle.ron_spec_grammar.specs.Shapes.Raw.{RawPart}
use Rattle.ron_spec_grammar.proofs.Raw.Moves.{gap_any, solid_some, value_moves}
use Rattle.ron_spec_grammar.proofs.Raw.Gaps.{gap_append}

-- ---- written and read back

-- what a raw text is read back as, behind a gap that was written before it
abbrev pub read_back : Text → (text : Text) → (v : Tree) → Bool → RawBody text v → Text
read_back lead text v at_start b = raw_text (lead ++ b.before) b.core b.after at_start

some_of_true : (b : Bool) (t : Text) → b ≡ true → cond b (Some t) None ≡ Some t
some_of_true true t e = refl
some_of_true false t e = absurd (cc)

module _ (u : Bool) (room : ℕ) (enough : raw_limit ≤ room) (lead text : Text) (v : Tree) (at_start : Bool) (b : RawBody text v) (g : Gap lead (44 ∷ [])) where
  -- the gap before the value, and what was written before it
  pub before_gap : Gap (lead ++ b.before) (44 ∷ [])
  before_gap = gap_append g (λ e. cc)
      (gap_any b.is_before.is_gap (solid_some (b.core ++ b.after) (value_solid false raw_limit b.before b.core b.after v b.spelled)) (44 ∷ []))

  pub back_body : RawBody (read_back lead text v at_start b) v
  back_body = taken_body (lead ++ b.before) b.core b.after v at_start b.after b.before b.spelled (stops b.after b.is_after) before_gap b.is_after

  pub back_value : raw_value (read_back lead text v at_start b) ≡ Some v
  back_value = raw_complete (read_back lead text v at_start b) v back_body

  -- Behind what was written before it the text stands for a raw text of the same value, whatever follows that may follow a value where no gap begins.
  pub raw_stands : (next : Text) → ends_value next ≡ true → skip next ≡ next
      → Stands (RawPart u room at_start) (lead ++ text) next (read_back lead text v at_start b)
  raw_stands next f n =
      let follows : FollowsValue (b.after ++ next) = stops_gap b.after next after_gap_here f in
      let core : AnySpells u room false (lead ++ b.before) b.core (b.after ++ next) v =
      place.monotone u raw_limit room (lead ++ b.before) b.core (b.after ++ next) v enough
      (value_moves u raw_limit b.before (lead ++ b.before) b.core b.after (b.after ++ next) v b.spelled (stops b.after b.is_after) follows) follows in
      let solid : Solid (b.core ++ (b.after ++ next)) = value_solid u room (lead ++ b.before) b.core (b.after ++ next) v core in
      record {
        before = lead ++ b.before;
        text_from = b.core ++ b.after;
        split = ap (λ t. lead ++ t) b.split ∙ sym (append_assoc lead b.before (b.core ++ b.after));
        is_before = rw (append_assoc b.core b.after next) (gap_any before_gap (λ e. cc) (b.core ++ (b.after ++ next)));
        from = record {
          stretch = b.core ++ b.after;
          after = [];
          split = sym (append-nil (b.core ++ b.after));
          solid = rw (append_assoc b.core b.after next) solid.1;
          spelled = record {
            value = b.core;
            left = b.core;
            gap = b.after;
            right = [];
            split = ap (λ t. b.core ++ t) (sym (append-nil b.after));
            first = record { value = v; spelled = core; same = refl };
            is_gap = after_gap_here;
            second = record {
              value = done;
              spelled = (refl, refl);
              meant = some_of_true (raw_valid (read_back lead text v at_start b)) (read_back lead text v at_start b)
                  (value_valid (read_back lead text v at_start b) v back_value);
            };
          };
          is_after = record { is_gap = none; longest = n };
        };
      }
    where
      after_gap_here : LongGap b.after next
      after_gap_here = record { is_gap = gap_any b.is_after (λ e. cc) next; longest = n }

-- A valid text stands for itself, trimmed, whatever follows; with nothing before it, as it is.
pub raw_law : (u : Bool) (room : ℕ) → raw_limit ≤ room → (text : Text) → raw_valid text ≡ true → (next : Text) → ends_value next ≡ true → skip next ≡ next
    → Stands (RawPart u room false) text next (trimmed text)
raw_law u room enough text valid next f n =
    let v = valid_value text valid in
    let b = raw_sound text v.0 v.1 in
    subst (λ t. Stands (RawPart u room false) text next t) (sym (trimmed_is text v.0 b)) (raw_stands u room enough [] text v.0 false b none next f n)

pub raw_first : (u : Bool) (room : ℕ) → raw_limit ≤ room → (text : Text) → raw_valid text ≡ true → (next : Text) → ends_value next ≡ true → skip next ≡ next
    → Stands (RawPart u room true) text next text
unfolding raw_text
raw_first u room enough text valid next f n =
    let v = valid_value text valid in
    let b = raw_sound text v.0 v.1 in
    subst (λ t. Stands (RawPart u room true) text next t) (sym b.split) (raw_stands u room enough [] text v.0 true b none next f n)
