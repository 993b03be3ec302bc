-- Raw texts by themselves: which are valid, and that what is taken of the gaps leaves the value.
use Rattle.std.proofs.Common.{◌≡◌, ℕ, Bool, true, false, cond, [], ◌∷◌, ◌++◌, Option, Some, None, refl, sym, ap, ◌∙◌, subst, append-nil, arith}
use Rattle.std.proofs.lemmas.List.{append_cancel_right}
use Rattle.std.proofs.lemmas.Slice.Eq.{bytes_eq-Decides}
use Rattle.std.specs.Option.{is_some}
use Rattle.ron_spec_words.specs.Characters.{Text}
use Rattle.ron_spec_words.specs.Runs.{same_text}
use Rattle.ron_spec_words.specs.Gap.{Gap, none, skip, gap_of, ends_value}
use Rattle.ron_spec_words.specs.Reader.{Got, got, failed, after_gap}
use Rattle.ron_spec_words.specs.Exact.{FollowsValue}
use Rattle.ron_spec_words.proofs.Gaps.{cut, skip-end, skip-gap, skip-other, skip-append, skip_to_end, gap_of-append}
use Rattle.ron_spec_words.proofs.Exactly.{after_gap_at, after_got}
use Rattle.ron_value.specs.Tree.{Tree}
use Rattle.ron_spec_grammar.specs.Values.Grammar.{AnySpells, read_any}
use Rattle.ron_spec_grammar.proofs.Values.Place as place
use Rattle.ron_spec_grammar.proofs.Values.Grammar.{any_within}
use Rattle.ron_spec_words.proofs.Classes.{Solid}
use Rattle.ron_spec_words.specs.Stretch.{stretch}
use Rattle.ron_spec_words.proofs.Stretches.{part_stretch}
use Rattle.ron_spec_grammar.specs.Raw.{trim_front, kept, is_name_alone, raw_text, raw_limit, RawBody, closed, raw_value, raw_valid, in_parts, without_gaps}
use Rattle.ron_spec_grammar.specs.Raw.{trimmed}
use Rattle.ron_spec_grammar.specs.RawStatement.{IsBareOf}
use Rattle.ron_spec_grammar.proofs.Raw.Moves.{gap_any, solid_some, value_moves}
use Rattle.ron_spec_grammar.proofs.Raw.Gaps.{front_gap, kept_gap}

-- ---- the value of a raw text

comma_alone : skip (44 ∷ []) ≡ 44 ∷ []
comma_alone = skip-other 44 [] refl refl

closed_some : (o : Got Tree) (v : Tree) → closed o ≡ Some v → (rest : Text) × (o ≡ got v rest) × (skip (rest ++ 44 ∷ []) ≡ 44 ∷ [])
closed_some (failed f) v e = absurd (cc)
closed_some (got t rest) v e = go (same_text (skip (rest ++ 44 ∷ [])) (44 ∷ [])) refl e
  where
    go : (b : Bool) → same_text (skip (rest ++ 44 ∷ [])) (44 ∷ []) ≡ b → cond b (Some t) None ≡ Some v
        → (r : Text) × (got t rest ≡ got v r) × (skip (r ++ 44 ∷ []) ≡ 44 ∷ [])
    go true h k = let same : t ≡ v = cc in (rest, ap (λ z. got z rest) same, (bytes_eq-Decides (skip (rest ++ 44 ∷ [])) (44 ∷ [])).0 h)
    go false h k = absurd (cc)

closes_comma : (rest : Text) → skip (rest ++ 44 ∷ []) ≡ 44 ∷ [] → Gap rest (44 ∷ [])
closes_comma rest e =
    let k = cut (rest ++ 44 ∷ []) in
    let same : rest ≡ gap_of (rest ++ 44 ∷ []) =
    append_cancel_right rest (gap_of (rest ++ 44 ∷ [])) (44 ∷ []) (k.split ∙ ap (λ u. gap_of (rest ++ 44 ∷ []) ++ u) e) in
    subst (λ g. Gap g (44 ∷ [])) (sym same) (subst (λ u. Gap (gap_of (rest ++ 44 ∷ [])) u) e k.is_gap.is_gap)

-- what has a value is a body of it
pub raw_sound : (text : Text) (v : Tree) → raw_value text ≡ Some v → RawBody text v
unfolding raw_value
raw_sound text v e =
    let k = closed_some (after_gap (read_any false raw_limit false) text) v e in
    let z = place.sound false raw_limit (gap_of text) (skip text) k.0 v (after_got (read_any false raw_limit false) text v k.0 k.1) in
    let g = cut text in
    record {
      before = gap_of text;
      core = z.stretch;
      after = k.0;
      split = g.split ∙ ap (λ u. gap_of text ++ u) z.split;
      is_before = rw z.split at g.is_gap;
      spelled = z.spelled;
      is_after = closes_comma k.0 k.2;
    }

-- the end of the text stops the value
pub stops : (after : Text) → Gap after (44 ∷ []) → FollowsValue after
stops after g = ap ends_value (skip_to_end after (gap_any g (λ e. cc) []))

pub raw_complete : (text : Text) (v : Tree) → RawBody text v → raw_value text ≡ Some v
unfolding raw_value
raw_complete text v z =
    let q = read_any false raw_limit false in
    let at : after_gap q (z.before ++ (z.core ++ z.after)) ≡ q z.before (z.core ++ z.after) =
    after_gap_at q z.before (z.core ++ z.after) z.is_before (place.no_slash false raw_limit z.before z.core z.after v z.spelled) in
    let is : q z.before (z.core ++ z.after) ≡ got v z.after = place.complete false raw_limit z.before z.core z.after v z.spelled (stops z.after z.is_after) in
    ap (λ u. closed (after_gap q u)) z.split ∙ ap closed (at ∙ is) ∙ ap (λ u. cond (same_text u (44 ∷ [])) (Some v) None) (skip-gap z.is_after ∙ comma_alone)

pub valid_value : (text : Text) → raw_valid text ≡ true → (v : Tree) × (raw_value text ≡ Some v)
unfolding raw_valid
valid_value text e = go (raw_value text) refl e
  where
    go : (o : Option Tree) → raw_value text ≡ o → is_some o ≡ true → (v : Tree) × (raw_value text ≡ Some v)
    go (Some v) h k = (v, h)
    go None h k = absurd (cc)

pub value_valid : (text : Text) (v : Tree) → raw_value text ≡ Some v → raw_valid text ≡ true
unfolding raw_valid
value_valid text v e = ap is_some e

-- ---- what is taken is a body of the same value

-- the value of a body stands within any other gaps
pub within_gaps : (before core after : Text) (v : Tree) (g h next : Text) → AnySpells false raw_limit false before core next v → FollowsValue next
    → Gap g (44 ∷ []) → Gap h (44 ∷ []) → RawBody (g ++ (core ++ h)) v
within_gaps before core after v g h next z f gg gh =
    let moved = value_moves false raw_limit before g core next h v z f (stops h gh) in
    record {
      before = g;
      core = core;
      after = h;
      split = refl;
      is_before = record { is_gap = gap_any gg (λ e. cc) (core ++ h); longest = place.solid false raw_limit g core h v moved };
      spelled = moved;
      is_after = gh;
    }

pub taken_body : (before core after : Text) (v : Tree) (at_start : Bool) (next place_before : Text) → AnySpells false raw_limit false place_before core next v
    → FollowsValue next → Gap before (44 ∷ []) → Gap after (44 ∷ []) → RawBody (raw_text before core after at_start) v
unfolding raw_text
taken_body before core after v true next p z f g h = within_gaps p core after v before after next z f g h
taken_body before core after v false next p z f g h = go (is_name_alone core)
  where
    go : (b : Bool) → RawBody (trim_front before ++ (core ++ cond b after (kept after))) v
    go true = within_gaps p core after v (trim_front before) after next z f (front_gap g) h
    go false = within_gaps p core after v (trim_front before) (kept after) next z f (front_gap g) (kept_gap after h)

pub value_solid : (u : Bool) (room : ℕ) (before t next : Text) (v : Tree) → AnySpells u room false before t next v → Solid (t ++ next)
value_solid u room before t next v z = ((any_within {step = 6} (omega arith) u room room (omega arith)).opens before).holds t next v z

-- ---- in parts, and trimmed

-- the gap before a value stands before a comma too
pub before_comma : {text : Text} {v : Tree} (b : RawBody text v) → Gap b.before (44 ∷ [])
before_comma b = gap_any b.is_before.is_gap (solid_some (b.core ++ b.after) (value_solid false raw_limit b.before b.core b.after _ b.spelled)) (44 ∷ [])

parts_are : (text : Text) (v : Tree) (b : RawBody text v) → (gap_of text ≡ b.before) × (in_parts text ≡ got b.core b.after)
parts_are text v b =
    let p = (any_within {step = 6} (omega arith) false raw_limit raw_limit (omega arith)).part false b.before in
    let solid = value_solid false raw_limit b.before b.core b.after v b.spelled in
    let answer : stretch (read_any false raw_limit false b.before) (b.core ++ b.after) ≡ got b.core b.after = ((part_stretch p).exact.complete b.core b.after
    b.core (record { value = v; spelled = b.spelled; same = refl }) (stops b.after b.is_after) solid.1).answer in
    let gap : gap_of text ≡ b.before = ap gap_of b.split ∙ gap_of-append b.before (b.core ++ b.after) b.is_before in
    let rest : skip text ≡ b.core ++ b.after = ap skip b.split ∙ skip-append b.before (b.core ++ b.after) b.is_before in
    (gap, rw (gap, rest) answer)

-- a text is trimmed to what is taken where it is read again
pub trimmed_is : (text : Text) (v : Tree) (b : RawBody text v) → trimmed text ≡ raw_text b.before b.core b.after false
unfolding trimmed
trimmed_is text v b = let p = parts_are text v b in rw (p.1, p.0) refl

pub trimmed_value : (text : Text) (v : Tree) → raw_value text ≡ Some v → raw_value (trimmed text) ≡ Some v
trimmed_value text v e =
    let b = raw_sound text v e in
    ap raw_value (trimmed_is text v b)
    ∙ raw_complete _ v (taken_body b.before b.core b.after v false b.after b.before b.spelled (stops b.after b.is_after) (before_comma b) b.is_after)

pub core_value : (text : Text) (v : Tree) (b : RawBody text v) → raw_value b.core ≡ Some v
core_value text v b = subst (λ t. raw_value t ≡ Some v) (append-nil b.core)
    (raw_complete (b.core ++ []) v (within_gaps b.before b.core b.after v [] [] b.after b.spelled (stops b.after b.is_after) none none))

without_is : (text : Text) (v : Tree) (b : RawBody text v) → without_gaps text ≡ b.core
unfolding without_gaps
without_is text v b = let p = parts_are text v b in rw (p.1) refl

pub without_value : (text : Text) (v : Tree) → raw_value text ≡ Some v → IsBareOf v (without_gaps text)
without_value text v e =
    let b = raw_sound text v e in
    let alone : AnySpells false raw_limit false [] b.core [] v =
    value_moves false raw_limit b.before [] b.core b.after [] v b.spelled (stops b.after b.is_after) (ap ends_value skip-end) in
    subst (IsBareOf v) (sym (without_is text v b)) (record {
      value = core_value text v b;
      alone = alone;
      no_gap = subst (λ t. skip t ≡ t) (append-nil b.core) (value_solid false raw_limit [] b.core [] v alone).1;
    })
