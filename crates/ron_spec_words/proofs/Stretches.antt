-- What a language spells, taken as the stretch itself, is read as exactly: for raw texts.
use Rattle.std.proofs.Common.{◌≡◌, ℕ, Bool, ◌-◌, length, take, ◌++◌, ◌⊎◌, inl, inr, sym, ap, ◌∙◌}
use Rattle.ron_spec_words.specs.Characters.{Text}
use Rattle.ron_spec_words.specs.Lang.{Lang}
use Rattle.ron_spec_words.specs.Reader.{deep, Got, got, failed, Reader}
use Rattle.ron_spec_words.specs.Exact.{Sound, Complete}
use Rattle.ron_spec_words.proofs.Room.{Agrees}
use Rattle.ron_spec_words.proofs.Values.{AnyValue}
use Rattle.ron_spec_words.proofs.Words.{First}
use Rattle.ron_spec_words.proofs.Parts.{Part}
use Rattle.ron_spec_words.proofs.Gaps.{take-front}
use Rattle.ron_spec_words.specs.Stretch.{Stretch, passed, stretch}

passed_got : {A : Type 0} (s : Text) (o : Got A) (u rest : Text) → passed s o ≡ got u rest → (a : A) × (o ≡ got a rest) × (take (length s - length rest) s ≡ u)
passed_got s (got a r) u rest e = let same : r ≡ rest = cc in (a, ap (got a) same, ap (λ z. take (length s - length z) s) (sym same) ∙ cc)
passed_got s (failed f) u rest e = absurd (cc)

module _ {A : Type 0} {r : Reader A} {L : Lang A} where
  stretch_sound : Sound r L → Sound (stretch r) (Stretch L)
  stretch_sound x s u rest e =
      let k = passed_got s (r s) u rest e in
      let z = x s k.0 rest k.1 in
      record {
        stretch = z.stretch;
        split = z.split;
        spelled = record {
          value = k.0;
          spelled = z.spelled;
          same = sym (take-front z.stretch rest) ∙ ap (λ v. take (length v - length rest) v) (sym z.split) ∙ k.2;
        };
      }

  stretch_complete : {F : Text → Type 0} → Complete r L F → Complete (stretch r) (Stretch L) F
  stretch_complete x t next u z f n =
      record { answer = ap (passed (t ++ next)) (x t next z.value z.spelled f n).answer ∙ ap (λ v. got v next) (take-front t next ∙ z.same) }

stretch_agrees : {A : Type 0} {q r : Reader A} → Agrees q r → Agrees (stretch q) (stretch r)
stretch_agrees {q = q} {r = r} h = record { at = λ s. go s (h.at s) }
  where
    go : (s : Text) → (q s ≡ r s) ⊎ (q s ≡ failed deep) → (passed s (q s) ≡ passed s (r s)) ⊎ (passed s (q s) ≡ failed deep)
    go s (inl e) = inl (ap (passed s) e)
    go s (inr e) = inr (ap (passed s) e)

passed_deep : {A : Type 0} (s : Text) (o : Got A) → passed s o ≡ failed deep → o ≡ failed deep
passed_deep s (got a rest) e = absurd (cc)
passed_deep s (failed f) e = cc

pub first_stretch : {A : Type 0} {P : Text → Type 0} {L : Lang A} → First P L → First P (Stretch L)
first_stretch h = record { holds = λ t next u z. h.holds t next z.value z.spelled }

pub part_stretch : {room step : ℕ} {b : Bool} {A : Type 0} {P : A → Type 0} {q r : Reader A} {L : Lang A} {F : Text → Type 0} {e : ℕ}
    → Part room step b P q r L F e → Part room step b AnyValue (stretch q) (stretch r) (Stretch L) F e
part_stretch {r = r} h = record {
  exact = record { sound = stretch_sound h.exact.sound; complete = stretch_complete h.exact.complete };
  begins = record { no_slash = λ t next u z. h.begins.no_slash t next z.value z.spelled };
  agrees = stretch_agrees h.agrees;
  shallow = λ n w. record { never = λ s le e. (h.shallow n w).never s le (passed_deep s (r s) e) };
  values = record { are = λ t next u z. tt };
  passes = record { over = λ d t next u z. h.passes.over d t next z.value z.spelled };
}
