-- Where nothing follows the longest gap, the rest is a gap, and nowhere else.
use Rattle.std.proofs.Common.{◌≡◌, true, false, [], ◌∷◌, refl, ◌∙◌}
use Rattle.ron_spec_words.specs.Characters.{Text}
use Rattle.ron_spec_words.specs.Runs.{is_at}
use Rattle.ron_spec_words.specs.Gap.{Gap, skip}
use Rattle.ron_spec_words.proofs.Gaps.{skip_to_end, gap_to_end}
use Rattle.ron_lex_text.specs.Stretch.{is_ended}

empty_from : (s : Text) → is_ended s ≡ true → s ≡ []
empty_from [] h = refl
empty_from (c ∷ s) h = cc

pub ended : (s rest : Text) → rest ≡ skip s → is_ended rest ≡ true → Gap s []
ended s rest e h = gap_to_end s (let n = empty_from rest h in cc)

pub not_ended : (s rest : Text) → rest ≡ skip s → is_ended rest ≡ false → Gap s [] → ⊥
not_ended s rest e h g = let r : rest ≡ [] = e ∙ skip_to_end s g in let z = rw r at h in cc

pub slash_not_ended : (s : Text) → is_at 47 (skip s) ≡ true → Gap s [] → ⊥
slash_not_ended s h g = let z = rw (skip_to_end s g) at h in cc
