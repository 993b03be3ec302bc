-- What an error says, by its class: for every call of reading that hands one on.
use Rattle.std.proofs.Common.{◌≡◌, ◌⊎◌, inl, inr, Err, refl, sym, subst}
use Rattle.ron_spec_words.specs.Characters.{Text}
use Rattle.ron_spec_words.specs.Reader.{Fault, Got, failed, deep, bad}
use Rattle.ron_base.specs.declared.error.Error.{Error}
use Rattle.ron_base.specs.declared.error.Error.TheVariants.{OutOfMemory, ExceededRecursionLimit}
use Rattle.ron_base.specs.Class.{ErrorClass, memory, depth, other, class_of}
use Rattle.ron_de_steps.specs.Reads.{IsFaultOf}
use Rattle.ron_de_steps.specs.Errors.{IsMemoryOr, IsMemoryOrClass}
use Rattle.ron_lex.specs.Quoted.{GivesOrMemory}
use Rattle.ron_lex.specs.declared.fault.StringRefusal.{StringRefusal}
use Rattle.ron_lex.specs.declared.fault.StringRefusal.TheVariants as refusal_

-- want of memory, and the limit's error, by their class
pub memory_is : (e : Error) → class_of e ≡ memory → e ≡ OutOfMemory
memory_is OutOfMemory h = refl
memory_is _ h = cc

pub depth_is : (e : Error) → class_of e ≡ depth → e ≡ ExceededRecursionLimit
depth_is ExceededRecursionLimit h = refl
depth_is _ h = cc

-- an error of the text, where P holds
pub text_and : {P : Type 0} (e : Error) → class_of e ≡ other → P → IsMemoryOr P e
text_and {P} e c p = subst (IsMemoryOrClass P) (sym c) p

more : {P Q : Type 0} (k : ErrorClass) → (P → Q) → IsMemoryOrClass P k → IsMemoryOrClass Q k
more memory f t = tt
more depth f t = t
more other f t = f t

-- what follows from P holds too
pub memory_or_more : {P Q : Type 0} (e : Error) → (P → Q) → IsMemoryOr P e → IsMemoryOr Q e
memory_or_more e f t = more (class_of e) f t

-- an error where nothing is read is the fault of the answer
pub is_fault : {A : Type 0} (k : ErrorClass) (answer : Got A) → IsMemoryOrClass (answer ≡ failed bad) k → IsFaultOf k answer
is_fault memory answer t = tt
is_fault depth answer t = absurd t
is_fault other answer t = t

-- a fault of a part is the fault of the whole
pub fault_of : {A B : Type 0} (k : ErrorClass) (part : Got A) (whole : Got B) → ((fault : Fault) → part ≡ failed fault → whole ≡ failed fault)
    → IsFaultOf k part → IsFaultOf k whole
fault_of memory part whole f g = tt
fault_of depth part whole f g = f deep g
fault_of other part whole f g = f bad g

-- where no level is taken, memory was wanted or nothing is read
pub memory_or_bad : {A : Type 0} (k : ErrorClass) (answer : Got A) → IsMemoryOrClass (Unit {0}) k → IsFaultOf k answer → IsMemoryOrClass (answer ≡ failed bad) k
memory_or_bad memory answer t h = tt
memory_or_bad depth answer t h = absurd t
memory_or_bad other answer t h = h

-- a string is refused for an escape that wants memory, or since none is read
pub escaped_or_bad : {V A P : Type 0} (view : V → A) (refusal : StringRefusal) (answer : Got A) (rest : Text) → GivesOrMemory view (Err refusal) answer rest
    → (refusal ≡ refusal_.OutOfMemory → P) → P ⊎ (answer ≡ failed bad)
escaped_or_bad view StringRefusal.OutOfMemory answer rest gives escaped = inl (escaped refl)
escaped_or_bad view (StringRefusal.Refused refused) answer rest gives escaped = inr gives
