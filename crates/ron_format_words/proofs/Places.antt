-- Whole texts of the same words, where the place within them is not told.
use Rattle.std.proofs.Common.{Bool, refl}
use Rattle.ron_spec_words.specs.Characters.{Text}
use Rattle.ron_format_words.specs.Alike.{Before, anywhere, nowhere, Step, plain, added, dropped, Alike, SameWords}
use Rattle.ron_format_words.specs.Alike as alike
use Rattle.ron_format_words.specs.Places.{Place, in_head, place_behind, AlikeFrom, ended, mark, word, SameText}
use Rattle.ron_format_words.proofs.Closed.{any_step}

-- a step is one where last commas may come and go anywhere
pub step_anywhere : {k : Text → Bool} {b : Before} {s u rest other : Text} → Step k b s u rest other → Step anywhere b s u rest other
step_anywhere (plain x) = plain x
step_anywhere (added c i b x y) = added refl i b x y
step_anywhere (dropped c i b x y) = dropped refl i b x y

-- where commas may come and go anywhere
pub alike_anywhere : {p : Place} {s u : Text} → AlikeFrom p s u → Alike anywhere s u
alike_anywhere (ended p) = alike.ended
alike_anywhere (mark p c s u rest other m g r) = alike.mark c s u rest other m (step_anywhere g) (alike_anywhere r)
alike_anywhere (word p c t s u rest other h e f g r) = alike.word c t s u rest other h e f (step_anywhere g) (alike_anywhere r)

pub words_of_text : {s u : Text} → SameText s u → SameWords anywhere s u
words_of_text x = record { rest = x.rest; other = x.other; gapped = x.gapped; alike = alike_anywhere x.alike }

-- where gaps alone differ, they do at every place
pub alike_at_place : (p : Place) {s u : Text} → Alike nowhere s u → AlikeFrom p s u
alike_at_place p alike.ended = ended p
alike_at_place p (alike.mark c s u rest other m g r) = mark p c s u rest other m (any_step g) (alike_at_place (place_behind p c) r)
alike_at_place p (alike.word c t s u rest other h e f g r) = word p c t s u rest other h e f (any_step g) (alike_at_place (place_behind p c) r)

pub text_of_words : {s u : Text} → SameWords nowhere s u → SameText s u
text_of_words x = record { rest = x.rest; other = x.other; gapped = x.gapped; alike = alike_at_place in_head x.alike }
