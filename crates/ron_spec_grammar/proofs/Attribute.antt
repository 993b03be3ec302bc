-- Attributes and heads are read exactly where they stand.
use Rattle.std.proofs.Common.{◌≡◌, ℕ, zero, suc, ◌≤◌, ◌<◌, Bool, true, false, cond, List, [], ◌∷◌, ◌++◌, length, codes, Some, refl, sym, ap, subst, ◌∙◌, arith}
use Rattle.std.proofs.Common.{length-append}
use Rattle.ron_spec_words.specs.Characters.{Text, hash, exclamation_mark, equals_sign, left_parenthesis, right_parenthesis, left_bracket, right_bracket}
use Rattle.ron_spec_words.specs.Runs.{is_at}
use Rattle.ron_spec_words.specs.Gap.{LongGap, skip, gap_of}
use Rattle.ron_spec_words.specs.Lang.{done, Means}
use Rattle.ron_spec_words.specs.Reader.{deep, Got, got, failed, means}
use Rattle.ron_spec_words.specs.Directly.{stands, and_directly}
use Rattle.ron_spec_words.specs.Exact.{Takes, Anything, Before, FollowsValue}
use Rattle.ron_spec_words.specs.Name.{Name, name}
use Rattle.ron_spec_words.proofs.Gaps.{cut, skip-append}
use Rattle.ron_spec_words.proofs.Words.{First, first_or, first_means, word_mark, word_choose}
use Rattle.ron_spec_words.proofs.Direct.{word_fixed, stands-append}
use Rattle.ron_spec_words.proofs.Exactly.{first_then, first_mark, three}
use Rattle.ron_spec_words.proofs.Classes.{first_solid}
use Rattle.ron_spec_words.proofs.Names.{word_name, name_solid}
use Rattle.ron_spec_words.proofs.RawStrings.{word_string}
use Rattle.ron_spec_words.proofs.Values.{AnyValue}
use Rattle.ron_spec_words.proofs.Passing.{passes_or}
use Rattle.ron_spec_words.proofs.WordsPass.{passes_name, passes_fixed, plain_words, passes_string, passes_equals_sign, passes_hash, passes_exclamation_mark}
use Rattle.ron_spec_words.proofs.Parts.{Part, part_any, part_word, part_means, part_behind, part_choose, part_items, part_group}
use Rattle.ron_base.specs.Extensions.{no_extensions, union, extension_of_name}
use Rattle.ron_spec_grammar.specs.Rule.{Extensions}
use Rattle.ron_spec_grammar.specs.Attribute.{in_force, together, Enable, Ignored, Attribute, Head, EndsHead, enable, ignored, attribute, head_in, head}
use Rattle.ron_spec_grammar.proofs.Shapes.Texts.{string_solid}

-- ---- an attribute

pub part_name : Part 0 0 false AnyValue (means name extension_of_name) (means name extension_of_name) (Means Name extension_of_name) FollowsValue 0
part_name = part_means extension_of_name (λ _ _ _ _. tt) (part_word word_name (first_solid name_solid) passes_name)

part_enable : Part 0 0 true AnyValue enable enable Enable Anything 0
part_enable =
    part_behind (word_fixed (codes "enable") done) (record { holds = λ t next u z. rw z.same refl }) (passes_fixed (codes "enable") done plain_words.4)
    (λ _. part_group left_parenthesis right_parenthesis 0 refl refl
    (λ gap. part_means together (λ _ _ _ _. tt)
    (part_items _ _ (λ _ _. Means Name extension_of_name) right_parenthesis refl refl (λ _ _. first_means name_solid) (λ _ _. part_name) gap))
    (omega arith))

part_ignored : Part 0 0 true AnyValue ignored ignored Ignored (Before right_bracket) 0
part_ignored =
    part_behind
    (word_choose (stands (codes "type")) (record { holds = λ t next b z. rw z.same (stands-append (codes "type") next z.ends) })
    (record { holds = λ t next b z. rw z.same refl })
    (word_fixed (codes "type") done) (word_fixed (codes "schema") done))
    (first_or (record { holds = λ t next u z. rw z.same refl }) (record { holds = λ t next u z. rw z.same refl }))
    (passes_or (passes_fixed (codes "type") done plain_words.5) (passes_fixed (codes "schema") done plain_words.6))
    (λ _. part_behind (word_mark equals_sign done) (first_mark _ equals_sign done (λ s. refl)) (passes_equals_sign done)
    (λ _. part_means (λ _. Some no_extensions) (λ _ _ _ _. tt) (part_word word_string (first_solid string_solid) passes_string)))

enable_first : First (λ s. stands (codes "enable") s ≡ true) Enable
enable_first = first_then (record { holds = λ t next u z. rw z.same (stands-append (codes "enable") next z.ends) })

ignored_first : First (λ s. stands (codes "enable") s ≡ false) Ignored
ignored_first = first_then (first_or (record { holds = λ t next u z. rw z.same refl }) (record { holds = λ t next u z. rw z.same refl }))

pub part_attribute : Part 0 0 false AnyValue attribute attribute Attribute Anything 0
unfolding attribute
part_attribute =
    part_behind (word_mark hash done) (first_mark _ hash done (λ s. refl)) (passes_hash done)
    (λ _. part_behind (word_mark exclamation_mark done) (first_mark _ exclamation_mark done (λ s. refl)) (passes_exclamation_mark done)
    (λ _. part_group left_bracket right_bracket 0 refl refl
    (λ _. part_choose (stands (codes "enable")) enable_first ignored_first (part_any _ part_enable) part_ignored) (omega arith)))

attribute_first : First (λ s. is_at hash s ≡ true) Attribute
attribute_first = first_then (first_mark _ hash done (λ s. refl))

-- it is not empty
pub attribute_long : (t next : Text) (e : Extensions) → Attribute t next e → 1 ≤ length t
attribute_long t next e z = omega (arith, ap length z.split, length-append z.left (z.gap ++ z.right), ap length z.first.0)

-- ---- heads

one_more : (x e y : Extensions) (s r body : Text) → Takes Attribute (skip s) e r → EndsHead (union x e) r y body → EndsHead x s y body
one_more x e y s r body a h =
    let g = cut s in
    let w : skip s ≡ a.stretch ++ (h.stretch ++ body) = a.split ∙ ap (λ u. a.stretch ++ u) h.split in
    record {
      announced = e ∷ h.announced;
      stretch = gap_of s ++ (a.stretch ++ h.stretch);
      split = g.split ∙ ap (λ u. gap_of s ++ u) w ∙ sym (three (gap_of s) a.stretch h.stretch body);
      is_head = record {
        gap = gap_of s;
        attribute = a.stretch;
        rest = h.stretch;
        split = refl;
        is_gap = subst (λ (u : Text). LongGap (gap_of s) u) w g.is_gap;
        spelled = subst (λ (u : Text). Attribute a.stretch u e) h.split a.spelled;
        more = h.is_head;
      };
      is_in_force = h.is_in_force;
      ends = h.ends;
    }

-- what is known with less fuel
abbrev Further : ℕ → Extensions → Extensions → Text → Type 0
Further fuel x y body = (e : Extensions) (r : Text) → head_in fuel (union x e) r ≡ got y body → EndsHead (union x e) r y body

sound_in : (fuel : ℕ) (x : Extensions) (s : Text) (y : Extensions) (body : Text) → head_in fuel x s ≡ got y body → EndsHead x s y body
sound_in zero x s y body h = absurd (cc)
sound_in (suc fuel) x s y body h = go (is_at hash (skip s)) refl h (λ e r. sound_in fuel (union x e) r y body)
  where
    at_attribute : (o : Got Extensions) → attribute (skip s) ≡ o → and_directly o (λ e. head_in fuel (union x e)) ≡ got y body → Further fuel x y body
        → EndsHead x s y body
    at_attribute (got e r) a k further = one_more x e y s r body (part_attribute.exact.sound (skip s) e r a) (further e r k)
    at_attribute (failed f) a k further = absurd (cc)

    go : (b : Bool) → is_at hash (skip s) ≡ b → cond b (and_directly (attribute (skip s)) (λ e. head_in fuel (union x e))) (got x s) ≡ got y body
        → Further fuel x y body → EndsHead x s y body
    go true a k further = at_attribute (attribute (skip s)) refl k further
    go false a k further = record {
      announced = [];
      stretch = [];
      split = cc;
      is_head = refl;
      is_in_force = cc;
      ends = let same : s ≡ body = cc in ap (λ u. is_at hash (skip u)) (sym same) ∙ a;
    }

pub head_sound : (x : Extensions) (s : Text) (y : Extensions) (body : Text) → head x s ≡ got y body → EndsHead x s y body
unfolding head
head_sound x s y body h = sound_in (suc (length s)) x s y body h

complete_in : (es : List Extensions) (x : Extensions) (t body : Text) (fuel : ℕ) → Head es t body → is_at hash (skip body) ≡ false → length (t ++ body) < fuel
    → head_in fuel x (t ++ body) ≡ got (in_force x es) body
complete_in es x t body zero h n lt = absurd (omega (arith, lt))
complete_in [] x t body (suc fuel) h n lt = rw h (rw n refl)
complete_in (e ∷ es) x t body (suc fuel) h n lt =
    let s = h.attribute ++ (h.rest ++ body) in
    let all : t ++ body ≡ h.gap ++ s = ap (λ u. u ++ body) h.split ∙ three h.gap h.attribute h.rest body in
    let at : skip (t ++ body) ≡ s = ap skip all ∙ skip-append h.gap s h.is_gap in
    let first : is_at hash (skip (t ++ body)) ≡ true = ap (is_at hash) at ∙ attribute_first.holds h.attribute (h.rest ++ body) e h.spelled in
    let read : attribute (skip (t ++ body)) ≡ got e (h.rest ++ body) =
    ap attribute at ∙ (part_attribute.exact.complete h.attribute (h.rest ++ body) e h.spelled tt h.is_gap.longest).answer in
    let long = attribute_long h.attribute (h.rest ++ body) e h.spelled in
    let shorter : length (h.rest ++ body) < fuel = omega (arith, lt, long, ap length all, length-append h.gap s, length-append h.attribute (h.rest ++ body)) in
    rw (first, read) (complete_in es (union x e) h.rest body fuel h.more n shorter)

pub head_complete : (es : List Extensions) (x : Extensions) (t body : Text) → Head es t body → is_at hash (skip body) ≡ false
    → head x (t ++ body) ≡ got (in_force x es) body
unfolding head
head_complete es x t body h n = complete_in es x t body (suc (length (t ++ body))) h n (omega arith)

pub head_exact : (x : Extensions) (text : Text) (y : Extensions) (body : Text) → EndsHead x text y body → head x text ≡ got y body
head_exact x text y body h =
    ap (head x) h.split ∙ head_complete h.announced x h.stretch body h.is_head h.ends ∙ ap (λ (z : Extensions). got z body) (sym h.is_in_force)

-- a head is never too deep
attribute_calm : (s : Text) → attribute s ≡ failed deep → ⊥
attribute_calm s e = (part_attribute.shallow (length s) (omega arith)).never s (omega arith) e

calm_in : (fuel : ℕ) (x : Extensions) (s : Text) → head_in fuel x s ≡ failed deep → ⊥
calm_in zero x s e = cc
calm_in (suc fuel) x s e = go (is_at hash (skip s)) (attribute (skip s)) refl e (calm_in fuel)
  where
    go : (b : Bool) (o : Got Extensions) → attribute (skip s) ≡ o → cond b (and_directly o (λ e. head_in fuel (union x e))) (got x s) ≡ failed deep
        → ((x : Extensions) (s : Text) → head_in fuel x s ≡ failed deep → ⊥) → ⊥
    go true (got y r) a k calm = calm (union x y) r k
    go true (failed f) a k calm = attribute_calm (skip s) (a ∙ k)
    go false o a k calm = cc

pub head_calm : (x : Extensions) (s : Text) → head x s ≡ failed deep → ⊥
unfolding head
head_calm x s e = calm_in (suc (length s)) x s e
