-- What replacing a file leaves.
use Rattle.std.specs.Prelude.{◌≡◌, ◌⊎◌, ℕ, List, ◌++◌, Some, None}
use Rattle.rontool_files.specs.declared.replace.TheConstants.{NEW}
use Rattle.std.specs.IoError.{error_kind}
use Rattle.std.specs.declared.io.Error.{Error}
use Rattle.std.specs.declared.io.ErrorKind.TheVariants.{OutOfMemory}
use Rattle.rontool_files.specs.declared.replace.Refused.{Refused}
use Rattle.rontool_files.specs.declared.replace.Refused.TheVariants.{Find, Read, Create, Write}
use Rattle.rontool_files.specs.declared.replace.Replaced.{Replaced}
use Rattle.rontool_files.specs.declared.replace.Replaced.TheVariants.{Unchanged, Written}
use Rattle.rontool_files.specs.Thing.{Paths, bytes_of, mode_of, SameButTwo}

-- the path of the new file beside a file
abbrev pub new_path : List ℕ → List ℕ
new_path path = path ++ NEW.now

-- A path holds these bytes, under the permissions that it had.
pub record Holds (path given : List ℕ) (before after : Paths) : Type 0 where
  pub bytes : bytes_of (after path) ≡ Some given
  pub mode : mode_of (after path) ≡ mode_of (before path)

-- What a call leaves that replaces a file by a new one: the file is as it was or holds the bytes, and all else stays but the new one.
pub record Leaves (path new given : List ℕ) (before after : Paths) : Type 0 where
  pub whole : (after path ≡ before path) ⊎ Holds path given before after
  pub others : SameButTwo path new before after

-- The file holds the bytes, and the new file is gone.
pub record Replaces (path new given : List ℕ) (before after : Paths) : Type 0 where
  pub holds : Holds path given before after
  pub gone : after new ≡ None

-- What stood at a path stays, if anything did.
abbrev pub IsKept : List ℕ → Paths → Paths → Type 0
IsKept path before after = (after path ≡ before path) ⊎ (before path ≡ None)

-- What is answered: the file held the bytes and nothing changed, or it has been replaced.
abbrev pub IsReplaced : List ℕ → List ℕ → Paths → Paths → Replaced → Type 0
IsReplaced path given before after Unchanged = (bytes_of (before path) ≡ Some given) × (after ≡ before)
IsReplaced path given before after Written = Replaces path (new_path path) given before after

-- what was wrong where a file isn't replaced
abbrev pub reason_of : Refused → Error
reason_of (Find error) = error
reason_of (Read error) = error
reason_of (Create error) = error
reason_of (Write error) = error

-- There is a reason to refuse: a call of the store has failed, or no memory was found.
abbrev pub IsReason : Type 0 → Error → Type 0
IsReason failed error = failed ⊎ (error_kind error ≡ OutOfMemory)
