-- When code answers what a reader function answers.
use Rattle.std.specs.Prelude.{◌≡◌, Result, Ok, Err}
use Rattle.ron_spec_words.specs.Characters.{Text}
use Rattle.ron_spec_words.specs.Reader.{Got, got, failed, deep, bad}
use Rattle.ron_base.specs.declared.error.Error.{Error}
use Rattle.ron_base.specs.Class.{ErrorClass, memory, depth, other, class_of}

-- The limit's error is the fault `deep`, want of memory says nothing, and any other error is the fault `bad`.
abbrev pub IsFaultOf : {A : Type 0} → ErrorClass → Got A → Type 0
IsFaultOf memory answer = Unit {0}
IsFaultOf depth answer = answer ≡ failed deep
IsFaultOf other answer = answer ≡ failed bad

-- Ok is the value that the answer names, seen by `view`, and what follows it.
abbrev pub Reads : {A B : Type 0} → (A → B) → Result A Error → Got B → Text → Type 0
Reads view (Ok a) answer rest = answer ≡ got (view a) rest
Reads view (Err e) answer rest = IsFaultOf (class_of e) answer
