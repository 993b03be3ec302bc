use Rattle.std.proofs.Common.{◌≡◌, ◌++◌, [], chars, length}
use denote.Text.{Utf8}
use denote.Shadow.{shadow}
use Rattle.ron_spec_words.specs.Characters.{Text}
use Rattle.ron_spec_words.specs.Runs.{after_run, begins_with}
use Rattle.ron_lex.proofs.RawLemmas.{is_hash}
use Rattle.ron_lex.proofs.raw.strip_hashes.Given as goal

-- as many hashes were passed as are wanted no more
abbrev pub invariant-loop-more : goal.invariant-loop-more
invariant-loop-more l = record {
  utf8 : shadow (Utf8 l.rest) × shadow (Utf8 l.left);
  all : after_run is_hash (chars l.left) ≡ [];
  end : after_run is_hash (chars l.rest) ≡ after_run is_hash (chars l.fn.text);
  begins : begins_with (chars l.left) (chars l.rest) ≡ begins_with (chars l.fn.hashes) (chars l.fn.text);
  passed : (front : Text) × ((chars l.fn.text ≡ front ++ chars l.rest) × (chars l.fn.hashes ≡ front ++ chars l.left));
}

abbrev pub decreases-loop-more : goal.decreases-loop-more
decreases-loop-more l = length (chars l.left)
