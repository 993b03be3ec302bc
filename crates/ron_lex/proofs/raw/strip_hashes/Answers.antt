use Rattle.std.proofs.Common.{◌≡◌, ◌++◌, ◌∷◌, [], length, append_assoc, sym, ap, ap₂, ◌∙◌, rules, arith}
use Rattle.ron_spec_words.specs.Characters.{Text}
use Rattle.ron_spec_words.specs.Runs.{after_run, begins_with}
use Rattle.ron_lex.proofs.RawLemmas.{is_hash}
use Rattle.ron_lex.proofs.raw.strip_hashes.Goals as goal

-- a front that was passed, and the hash behind it
one_passed : (whole front s after : Text) → whole ≡ front ++ s → s ≡ 35 ∷ after → whole ≡ (front ++ 35 ∷ []) ++ after
one_passed whole front s after h e = h ∙ ap (λ x. front ++ x) e ∙ sym (append_assoc front (35 ∷ []) after)

pub loop-more-smaller : goal.loop-more-smaller
loop-more-smaller c = omega (arith, ap length c.in-Some.ensures)

pub loop-more-preserved : goal.loop-more-preserved
loop-more-preserved c =
    let before = c.loop-more.invariant in
    record {
      utf8 = search rules;
      all = sym (ap (after_run is_hash) c.in-Some.ensures) ∙ before.all;
      end = sym (ap (after_run is_hash) c.in-Some-strip_char.ensures) ∙ before.end;
      begins = sym (ap₂ begins_with c.in-Some.ensures c.in-Some-strip_char.ensures) ∙ before.begins;
      passed = (
        before.passed.0 ++ 35 ∷ [],
        (one_passed _ _ _ _ before.passed.1.0 c.in-Some-strip_char.ensures, one_passed _ _ _ _ before.passed.1.1 c.in-Some.ensures),
      );
    }
