-- What an adapter holds.
use Rattle.std.specs.Prelude.{Bool}
use Rattle.std.specs.Borrow.{GName}
use Rattle.ron_base_device.specs.declared.adapters.Reader.{Reader}
use Rattle.ron_base_device.specs.declared.adapters.Writer.{Writer}

-- a read has failed
abbrev pub reader_failed : {R : Type 0} → Reader R → Bool
reader_failed s = s.failed

-- the reader
abbrev pub reader_inner : {R : Type 0} → Reader R → R
reader_inner s = s.inner.now

-- which reader it is
abbrev pub reader_name : {R : Type 0} → Reader R → GName
reader_name s = s.inner.ghost_name

-- a write has failed
abbrev pub writer_failed : {W : Type 0} → Writer W → Bool
writer_failed s = s.failed

-- the writer
abbrev pub writer_inner : {W : Type 0} → Writer W → W
writer_inner s = s.inner.now

-- which writer it is
abbrev pub writer_name : {W : Type 0} → Writer W → GName
writer_name s = s.inner.ghost_name
