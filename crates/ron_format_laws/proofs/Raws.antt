-- Raw texts of the same words.
use Rattle.std.proofs.Common.{◌≡◌, false, [], ◌∷◌, ◌++◌, sym, ◌∙◌, append_assoc, ℕ, true, ◌==◌, refl, ap}
use Rattle.std.proofs.lemmas.Bool.{not-true}
use Rattle.ron_spec_words.specs.Characters.{Text, slash, line_feed, comma}
use Rattle.ron_spec_words.specs.Runs.{Every}
use Rattle.ron_spec_words.specs.Gap.{Gap, none, piece, last_line, in_line}
use Rattle.ron_spec_grammar.specs.Raw.{raw_limit, RawBody}
use Rattle.ron_spec_grammar.specs.Values.Body.{ValueBody}
use Rattle.ron_value.specs.Tree.{Tree}
use Rattle.ron_spec_grammar.proofs.Raw.Moves.{gap_any}
use Rattle.ron_spec_grammar.proofs.Raw.Bodies.{raw_complete}
use Rattle.ron_format_laws.specs.RawClaims.{ends_line, LinesEndClosed, KeepsRawBodies, KeepsRawTexts}
use Rattle.ron_format_laws.proofs.Bodies.{keeps_values}

-- a raw text is a whole text of its value
as_body : (s : Text) (t : Tree) → RawBody s t → ValueBody false raw_limit s t
as_body s t z = record {
  before = z.before;
  value = z.core;
  after = z.after;
  split = z.split;
  is_before = z.is_before;
  spelled = z.spelled;
  is_after = gap_any z.is_after (λ e. absurd (cc)) [];
}

pub keeps_raw_bodies : KeepsRawBodies
keeps_raw_bodies s u t k closed z =
    let y = keeps_values false raw_limit s u t k (as_body s t z) in
    let ends : u ≡ (y.before ++ y.value) ++ y.after = y.split ∙ sym (append_assoc y.before y.value y.after) in
    record {
      before = y.before;
      core = y.value;
      after = y.after;
      split = y.split;
      is_before = y.is_before;
      spelled = y.spelled;
      is_after = closed (y.before ++ y.value) y.after ends y.is_after;
    }

pub keeps_raw_texts : KeepsRawTexts
keeps_raw_texts s u t k closed z = record { value = t; first = raw_complete s t z; second = raw_complete u t (keeps_raw_bodies s u t k closed z) }

-- ---- texts that end with a line

behind_front : (a b : Text) (c : ℕ) → ends_line (a ++ (c ∷ b)) ≡ ends_line (c ∷ b)
behind_front [] b c = refl
behind_front (d ∷ []) b c = refl
behind_front (d ∷ e ∷ a) b c = behind_front (e ∷ a) b c

tail_ends : (a b : Text) → ends_line (a ++ b) ≡ true → ends_line b ≡ true
tail_ends a [] e = refl
tail_ends a (c ∷ b) e = sym (behind_front a b c) ∙ e

in_line_ends_none : (t : Text) (c : ℕ) → in_line c ≡ true → Every in_line t → ends_line (c ∷ t) ≡ false
in_line_ends_none [] c e h = not-true (c == line_feed) e
in_line_ends_none (d ∷ t) c e h = in_line_ends_none t d h.0 h.1

closes : {gap : Text} → Gap gap [] → ends_line gap ≡ true → Gap gap (comma ∷ [])
closes none e = none
closes (piece p g n h r) e = piece p g (comma ∷ []) h (closes r (tail_ends p g e))
closes (last_line t h) e = absurd (let k = in_line_ends_none t slash refl h in cc)

pub lines_end_closed : LinesEndClosed
lines_end_closed text e front gap split g = closes g (tail_ends front gap (ap ends_line (sym split) ∙ e))
