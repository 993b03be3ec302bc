-- A raw text has the same value behind a gap.
use Rattle.std.proofs.Common.{◌≡◌, true, false, ◌++◌, Some, sym, ap, ◌∙◌, subst, append_assoc, arith}
use Rattle.ron_spec_words.specs.Characters.{Text}
use Rattle.ron_value.specs.Tree.{Tree}
use Rattle.ron_spec_grammar.specs.Raw.{raw_limit, RawBody, raw_value, raw_valid}
use Rattle.ron_spec_grammar.proofs.Raw.Bodies.{valid_value, value_valid, raw_sound, raw_complete, within_gaps, stops}
use Rattle.ron_spec_layout.proofs.RawBodies.{before_gap}
use Rattle.ron_spec_layout.proofs.Closed.{Closed}

pub lead_value : (lead t : Text) → Closed lead → (v : Tree) → raw_value t ≡ Some v → raw_value (lead ++ t) ≡ Some v
lead_value lead t g v e =
    let b = raw_sound t v e in
    let body : RawBody ((lead ++ b.before) ++ (b.core ++ b.after)) v = within_gaps b.before b.core b.after v (lead ++ b.before) b.after b.after b.spelled
    (stops b.after b.is_after) (before_gap false raw_limit (omega arith) lead t v false b g) b.is_after in
    let same : (lead ++ b.before) ++ (b.core ++ b.after) ≡ lead ++ t = append_assoc lead b.before (b.core ++ b.after) ∙ ap (λ u. lead ++ u) (sym b.split) in
    raw_complete (lead ++ t) v (subst (λ u. RawBody u v) same body)

pub lead_valid : (lead t : Text) → Closed lead → raw_valid t ≡ true → raw_valid (lead ++ t) ≡ true
lead_valid lead t g valid = let v = valid_value t valid in value_valid (lead ++ t) v.0 (lead_value lead t g v.0 v.1)
