-- What the rule of options owes: `None`, `Some(..)` and an implicit Some are read exactly.
use Rattle.std.proofs.Common.{◌≡◌, ℕ, ◌+◌, ◌≤◌, ◌<◌, Bool, true, false, not, List, ◌∷◌, ◌++◌, codes, ◌⊎◌, inl, inr, Some, slice_get, refl, ap, ◌∙◌, arith}
use Rattle.std.specs.Option.{option_and_then}
use Rattle.std.proofs.lemmas.Bool.{or_parts, not-true}
use Rattle.ron_spec_words.specs.Characters.{Text, left_parenthesis, right_parenthesis}
use Rattle.ron_spec_words.specs.Gap.{skip}
use Rattle.ron_spec_words.specs.Lang.{Lang, Done, done, Or, When}
use Rattle.ron_spec_words.specs.Reader.{Reader, pick}
use Rattle.ron_spec_words.specs.Exact.{Sound, Complete, Before}
use Rattle.ron_spec_words.specs.Directly.{FixedWord, stands}
use Rattle.ron_spec_words.proofs.Gaps.{skip-append}
use Rattle.ron_spec_words.proofs.Words.{First, first_means, first_or, first_when, sound_like, sound_pick, answers_left, answers_right}
use Rattle.ron_spec_words.proofs.Direct.{word_fixed, stands-append}
use Rattle.ron_spec_words.proofs.Classes.{Solid, solid_mark, first_solid}
use Rattle.ron_spec_words.proofs.Exactly.{Opens, three, first_then, begins_or}
use Rattle.ron_spec_words.proofs.Room.{agrees_pick, shallow_pick}
use Rattle.ron_spec_words.proofs.Values.{values_or}
use Rattle.ron_spec_words.proofs.Passing.{passes_or, passes_when}
use Rattle.ron_spec_words.proofs.WordsPass.{passes_fixed, plain_words}
use Rattle.ron_spec_words.proofs.Parts.{Part, part_more, part_word, part_means, part_behind, part_choose, part_with_comma, part_group}
use Rattle.ron_spec_grammar.specs.Data.{Data, the_none, some_of}
use Rattle.ron_spec_grammar.specs.Schema.{Shape, optional, content_of, content_at}
use Rattle.ron_spec_grammar.specs.Rule.{Extensions, Langs, Readers, Plain}
use Rattle.ron_spec_grammar.specs.Room.{step}
use Rattle.ron_spec_grammar.specs.Shapes.Option.{none_data, some_data, opens_some, opens_option, Content, NoneText, SomeText, OptionText, content, read_option}
use Rattle.ron_spec_grammar.proofs.Room.{Sizes, size, size_content, size_chain}
use Rattle.ron_spec_grammar.proofs.Rule.{After, IsDataOf, Fit, part_plain, part_allowed, part_either, first_allowed}

-- ---- the second where the first's test fails

module _ {room step : ℕ} {commas : Bool} {A : Type 0} {P : A → Type 0} (p : Text → Bool) {q r f g : Reader A} {L M : Lang A} {F : Text → Type 0} {e : ℕ} where
  either_sound : First (λ s. p s ≡ true) L → Part room step commas P q r L F e → Part room step commas P f g M F e
      → Sound (pick p r g) (Or L (When (λ s. not (p s)) M))
  either_sound l h k = sound_like _ _ _ to (sound_pick p r g L M h.exact.sound k.exact.sound)
    where
      to : (t next : Text) (a : A) → Or (When p L) (When (λ s. not (p s)) M) t next a → Or L (When (λ s. not (p s)) M) t next a
      to t next a (inl z) = inl z.1
      to t next a (inr z) = inr z

  either_complete : First (λ s. p s ≡ true) L → Part room step commas P q r L F e → Part room step commas P f g M F e
      → Complete (pick p r g) (Or L (When (λ s. not (p s)) M)) F
  either_complete l h k t next a (inl z) y n = answers_left p r g t next a (l.holds t next a z) (h.exact.complete t next a z y n)
  either_complete l h k t next a (inr z) y n = answers_right p r g t next a (not-true _ z.0) (k.exact.complete t next a z.1 y n)

  pub part_else : First (λ s. p s ≡ true) L → Part room step commas P q r L F e → Part room step commas P f g M F e
      → Part room step commas P (pick p q f) (pick p r g) (Or L (When (λ s. not (p s)) M)) F e
  part_else l h k = record {
    exact = record { sound = either_sound l h k; complete = either_complete l h k };
    begins = begins_or h.begins (record { no_slash = λ t next a z. k.begins.no_slash t next a z.1 });
    agrees = agrees_pick p h.agrees k.agrees;
    shallow = λ n w. shallow_pick p (h.shallow n w) (k.shallow n w);
    values = values_or h.values (record { are = λ t next a z. k.values.are t next a z.1 });
    passes = passes_or h.passes (passes_when (λ s. not (p s)) k.passes);
  }

-- ---- what tells the three forms apart

pub first_plain : {P : Text → Type 0} (bare : Bool) {L : Lang Data} → First P L → First P (Plain bare L)
first_plain false h = h
first_plain true h = first_then h

none_first : First (λ s. stands (codes "None") s ≡ true) NoneText
none_first = first_means (record { holds = λ t next u z. rw z.same (stands-append (codes "None") next z.ends) })

none_solid : First Solid NoneText
none_solid = first_means (record { holds = λ t next u z. rw z.same (solid_mark 78 (codes "one" ++ next) refl refl refl) })

pub some_solid : First Solid (FixedWord (codes "Some") done)
some_solid = record { holds = λ t next u z. rw z.same (solid_mark 83 (codes "ome" ++ next) refl refl refl) }

some_first : (unwrap : Bool) (j : ℕ) (L : Langs) → First (λ s. (stands (codes "None") s ≡ false) × (opens_some s ≡ true)) (SomeText unwrap j L)
some_first unwrap j L = record {
  holds = λ t next d z.
      let g = z.second.spelled in
      let rest = z.gap ++ (z.right ++ next) in
      let e : skip rest ≡ 40 ∷ ((g.gap ++ g.right) ++ next) = skip-append z.gap (z.right ++ next) z.is_gap ∙ rw (g.split, g.first.0) refl in
      rw (z.split, three z.left z.gap z.right next, z.first.same) (refl, rw (stands-append (codes "Some") rest z.first.ends, e) refl);
}

module _ (bare unwrap : Bool) (j : ℕ) (L : Langs) where
  opens_first : First (λ s. opens_option s ≡ true) (Plain bare (SomeText unwrap j L))
  opens_first = first_plain bare (record { holds = λ t next d z. (let k = (some_first unwrap j L).holds t next d z in rw (k.0, k.1) refl) })

  not_none : (M : Lang Data) → First (λ s. stands (codes "None") s ≡ false) (Or (Plain bare (SomeText unwrap j L)) (When (λ s. not (opens_option s)) M))
  not_none M = first_or (first_plain bare (record { holds = λ t next d z. ((some_first unwrap j L).holds t next d z).0 }))
      (record { holds = λ t next d z. (or_parts (stands (codes "None") (t ++ next)) (opens_some (t ++ next)) (not-true _ z.0)).0 })

-- ---- the part

pub optional_content : (schema : List Shape) (i j : ℕ) → slice_get schema i ≡ Some (optional j) → content_at schema i ≡ Some j
optional_content schema i j s = ap (option_and_then content_of) s

module _ {schema : List Shape} {room top : ℕ} {base : ℕ → ℕ} (sizes : Sizes schema top base) (q r : Readers) (L : Langs) (k : ℕ)
    (h : Fit schema base room k q r L) (j : ℕ) where
  -- what stands between the brackets of a Some or of a newtype variant
  pub part_content : (b : Bool) (gap : Text) → Part room (step schema) true (IsDataOf schema room k j) (content b q j gap) (content b r j gap)
      (Content b L j gap) (Before right_parenthesis) (size schema base true j + k)
  part_content false gap = part_with_comma (part_more (h.part false j gap) (omega arith))
  part_content true gap = h.part true j gap

-- more than all the room is more than the room at hand
pub past_room : {d e room top : ℕ} → room ≤ top → (d ≤ e) ⊎ (top < e) → (d ≤ e) ⊎ (room < e)
past_room le (inl z) = inl z
past_room le (inr z) = inr (omega (arith, le, z))

module _ {schema : List Shape} {room top : ℕ} {base : ℕ → ℕ} (sizes : Sizes schema top base) (within : room ≤ top) (x : Extensions) (q r : ℕ → Readers)
    (L : ℕ → Langs) (h : Fit schema base room 1 (q 0) (r 0) (L 0)) (f g : Readers) (M : Langs) (k : Fit schema base room 1 f g M) (j i : ℕ)
    (s : slice_get schema i ≡ Some (optional j)) where
  is_none : (u : Done) (d : Data) → none_data u ≡ Some d → IsDataOf schema room 0 i d
  is_none u d e = let same : the_none ≡ d = cc in rw (← same) (record { of_shape = λ _. (j, s) })

  is_some : (c d : Data) → IsDataOf schema room 1 j c → some_data c ≡ Some d → IsDataOf schema room 0 i d
  is_some c d p e = let same : some_of c ≡ d = cc in rw (← same) (record { of_shape = λ formed. (j, s, p.of_shape formed) })

  pub part_option : (bare : Bool) (before : Text) → Part room (step schema) bare (IsDataOf schema room 0 i) (read_option x j q f bare before)
      (read_option x j r g bare before) (OptionText x j L M bare before) (After bare) (size schema base bare i)
  part_option bare before =
      let unwrap = x.unwrap_variant_newtypes in
      part_choose (stands (codes "None")) (first_plain bare none_first) (not_none bare unwrap j (L 0) _)
      (part_plain bare (part_means none_data (λ u d _. is_none u d) (part_word (word_fixed (codes "None") done) (first_solid
      (record { holds = λ t next u z. rw z.same (solid_mark 78 (codes "one" ++ next) refl refl refl) })) (passes_fixed (codes "None") done plain_words.2))))
      (part_else opens_option (opens_first bare unwrap j (L 0))
      (part_plain bare (part_behind (word_fixed (codes "Some") done) (first_solid some_solid) (passes_fixed (codes "Some") done plain_words.3)
      (λ _. part_means some_data is_some (part_group left_parenthesis right_parenthesis (size schema base bare i) refl refl
      (part_content sizes (q 0) (r 0) (L 0) 1 h j unwrap) (let w = size_content schema sizes bare i j in omega (arith, w))))))
      (part_allowed x.implicit_some (part_means some_data is_some
      (part_either (k.part bare j before) (past_room within (size_chain schema sizes bare i j (optional_content schema i j s)))))))

pub option_opens : (x : Extensions) (j : ℕ) (L : ℕ → Langs) (M : Langs) (before : Text) → Opens (M false j before) → Opens (OptionText x j L M false before)
option_opens x j L M before h =
    first_or none_solid (first_or (first_then some_solid) (first_when (λ s. not (opens_option s)) (first_allowed x.implicit_some (first_means h))))
