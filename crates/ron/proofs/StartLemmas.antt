-- Where a value begins, by the relation and by the reader function.
use Rattle.std.proofs.Common.{◌≡◌}
use Rattle.ron_spec_words.specs.Characters.{Text}
use Rattle.ron_spec_words.specs.Reader.{failed, bad}
use Rattle.ron_spec_grammar.specs.Rule.{Extensions}
use Rattle.ron_spec_grammar.specs.Attribute.{value_start, StartsValue}
use Rattle.ron_spec_grammar.proofs.AttributeTurns.{start_exact}
use Rattle.ron_base.specs.declared.error.Error.{Error}
use Rattle.ron_base.specs.Class.{ErrorClass, memory, depth, other, class_of}
use Rattle.ron_de_parts.specs.Errors.{IsMemoryOr, IsMemoryOrClass}

weaker : (k : ErrorClass) {P Q : Type 0} → (P → Q) → IsMemoryOrClass P k → IsMemoryOrClass Q k
weaker memory f h = tt
weaker depth f h = absurd h
weaker other f h = f h

no_start : (x : Extensions) (text : Text) → value_start x text ≡ failed bad → (y : Extensions) (gap rest : Text) → StartsValue x text y gap rest → ⊥
no_start x text e y gap rest z = let h = start_exact x text y gap rest z in cc

pub begins_nowhere : (x : Extensions) (text : Text) (e : Error) → IsMemoryOr (value_start x text ≡ failed bad) e
    → IsMemoryOr ((y : Extensions) (gap rest : Text) → StartsValue x text y gap rest → ⊥) e
begins_nowhere x text e h = weaker (class_of e) (no_start x text) h
