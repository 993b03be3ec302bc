-- A sink whose pieces are gathered.
use Rattle.std.specs.Prelude.{◌≡◌, ℕ, Bool, Option, List, ◌++◌}
use Rattle.std.specs.Borrow.{GName}
use Rattle.std.specs.Io.KnownBytes.{Appends}
use Rattle.ron_base_device.specs.declared.gathered.Gathered.{Gathered}

-- the bytes that the sink is still to take
abbrev pub held : {S : Type 0} → Gathered S → List ℕ
held g = g.bytes.now.items

-- the sink
abbrev pub sink_of : {S : Type 0} → Gathered S → S
sink_of g = g.sink.now

-- which sink it is
abbrev pub name_of : {S : Type 0} → Gathered S → GName
name_of g = g.sink.ghost_name

-- Bytes came behind those that were held: a front of them all was pushed, and the rest is held.
pub record Gathers {S : Type 0} (failed : S → Bool) (contents : S → Option (List ℕ)) (device : S → Option GName) (g : Gathered S) (bytes : List ℕ)
    (h : Gathered S) : Type 0 where
  pub pushed : List ℕ
  pub whole : held g ++ bytes ≡ pushed ++ held h
  pub taken : Appends (contents (sink_of g)) (contents (sink_of h)) pushed
  pub kept : failed (sink_of h) ≡ failed (sink_of g)
  pub same : device (sink_of h) ≡ device (sink_of g)
  pub same_sink : name_of h ≡ name_of g

-- Bytes came behind those that were held: a front of them all was pushed, and the rest is lost.
pub record Loses {S : Type 0} (contents : S → Option (List ℕ)) (device : S → Option GName) (g : Gathered S) (bytes : List ℕ) (h : Gathered S) : Type 0 where
  pub pushed : List ℕ
  pub rest : List ℕ
  pub whole : held g ++ bytes ≡ pushed ++ rest
  pub taken : Appends (contents (sink_of g)) (contents (sink_of h)) pushed
  pub same : device (sink_of h) ≡ device (sink_of g)
  pub same_sink : name_of h ≡ name_of g
