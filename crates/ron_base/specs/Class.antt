-- What callers tell apart among the errors: memory, the limit on depth, and all else.
use Rattle.ron_base.specs.declared.error.Error.{Error}
use Rattle.ron_base.specs.declared.error.Error.TheVariants.{Io, OutOfMemory, ExceededRecursionLimit}

-- want of memory, the limit on depth, and any other error
pub data ErrorClass : Type 0 where
  memory : ErrorClass
  depth : ErrorClass
  other : ErrorClass

-- the class of an error
abbrev pub class_of : Error → ErrorClass
class_of OutOfMemory = memory
class_of ExceededRecursionLimit = depth
class_of _ = other

-- an error of a device, with its text, or no memory to keep that text
abbrev pub IsIoOrMemory : Error → Type 0
IsIoOrMemory (Io text) = Unit
IsIoOrMemory OutOfMemory = Unit
IsIoOrMemory _ = ⊥
